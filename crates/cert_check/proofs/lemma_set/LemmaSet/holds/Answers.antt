use Rattle.cert_check.proofs.Common.{rules, ◌≡◌, ◌≤◌, ℕ, List, get_or, length, subst, sym, eq-eqb, Contains}
use Rattle.cert_check.proofs.Places.{has_place, stands_within, stands_itself}
use Rattle.cert_check.proofs.lemma_set.LemmaSet.holds.Goals as goal

pub returns-in_default-clause-complete : goal.returns-in_default-clause-complete
returns-in_default-clause-complete c =
    let n = c.args.number in
    let ps : List ℕ = c.self.inside.places.items in
    let past : length ps ≤ n = search rules in
    λ held. absurd (has_place c.self.inside.numbers.items ps n c.self.invariant (subst (λ v. Contains v n) (sym c.self.view_is) held) past)

pub returns-in_default-get-clause-complete : goal.returns-in_default-get-clause-complete
returns-in_default-get-clause-complete c =
    let n = c.args.number in
    let ns : List ℕ = c.self.inside.numbers.items in
    let ps : List ℕ = c.self.inside.places.items in
    let k = c.in-Some.place.now in
    let is : k ≡ get_or ps n k = search rules in
    let past : length ns ≤ k = search rules in
    λ held. absurd (stands_within ns ps n c.self.invariant (subst (λ v. Contains v n) (sym c.self.view_is) held) k is past)

pub returns-clause-complete : goal.returns-clause-complete
returns-clause-complete c =
    let n = c.args.number in
    let ns : List ℕ = c.self.inside.numbers.items in
    let ps : List ℕ = c.self.inside.places.items in
    let k = c.in-Some.place.now in
    let m = c.in-Some-get.found.now in
    let is : k ≡ get_or ps n k = search rules in
    let found : m ≡ get_or ns k m = search rules in
    λ held. eq-eqb m n (stands_itself ns ps n c.self.invariant (subst (λ v. Contains v n) (sym c.self.view_is) held) k m is found)
