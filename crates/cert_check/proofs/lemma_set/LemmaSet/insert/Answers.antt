use Rattle.cert_check.proofs.Common.{rules, ◌≡◌, ◌<◌, ◌++◌, [], ◌∷◌, ℕ, List, length, set, subst, sym, ArePlaced}
use Rattle.cert_check.proofs.Places.{still_placed, one_placed_more}
use Rattle.cert_check.proofs.lemma_set.LemmaSet.insert.Goals as goal

pub invariant_of-self : goal.invariant_of-self
invariant_of-self c = still_placed c.self.inside.numbers.items c.self.inside.places.items c.make_room.new.places.items c.make_room.ensures.kept c.self.invariant

pub invariant_of-self-in_err-push : goal.invariant_of-self-in_err-push
invariant_of-self-in_err-push c =
    let ns : List ℕ = c.self.inside.numbers.items in
    let ps : List ℕ = c.make_room.new.places.items in
    let same : c.push.new.self.items ≡ ns = search rules in
    subst (λ ms. ArePlaced ms ps) (sym same) (still_placed ns c.self.inside.places.items ps c.make_room.ensures.kept c.self.invariant)

pub invariant_of-self-2 : goal.invariant_of-self-2
invariant_of-self-2 c =
    let ns : List ℕ = c.self.inside.numbers.items in
    let ps : List ℕ = c.make_room.new.places.items in
    let n = c.args.number in
    let low : n < length ps = search rules in
    let more : c.push.new.self.items ≡ ns ++ n ∷ [] = search rules in
    let last : c.len-place.result ≡ length ns = search rules in
    subst (λ ms. ArePlaced ms (set ps n c.len-place.result)) (sym more)
    (subst (λ k. ArePlaced (ns ++ n ∷ []) (set ps n k)) (sym last)
    (one_placed_more ns ps n low (still_placed ns c.self.inside.places.items ps c.make_room.ensures.kept c.self.invariant)))
