use Rattle.go_turns.proofs.Common.{◌≡◌, List, [], ◌∷◌, ◌++◌, None, ◌∙◌, ap, ap₂, Cell, place_in, repeats}
use Rattle.go_turns.proofs.Buckets.{low_here, lowered, one_joined}
use Rattle.go_turns.proofs.Repeats.{once_more}
use Rattle.go_turns.proofs.Keyed.{goes_last}
use Rattle.go_turns.proofs.hash_seen.HashSeenSeen.add_with.Goals as goal

module _ (c : goal.In_ok-insert) where
  fresh : place_in c.self.inside.entries.keys c.with_key.result ≡ None
  fresh = ap (place_in c.self.inside.entries.keys) c.with_key.ensures ∙ ap (λ h. place_in h c.args.colouring) c.self.view_is ∙ c.requires.fresh

  last : c.insert.new.self.keys ≡ c.self.inside.entries.keys ++ c.with_key.result ∷ []
  last = c.in_ok-insert.ensures.keys ∙ goes_last c.self.inside.entries.keys c.with_key.result fresh

pub invariant_of-self-2 : goal.invariant_of-self-2
invariant_of-self-2 c =
    let old = c.self.inside.entries.keys in
    let places = c.lower_place.new.places in
    let here = low_here old c.args.colouring c.with_key.result places c.bucket_of.result c.len-place.result c.args.key c.lower_place.ensures.own c.bucket_of.ensures.value c.len-place.ensures.len c.requires.key c.with_key.ensures in
    record {
      once = ap repeats (last c) ∙ once_more old c.with_key.result c.self.invariant.once (fresh c);
      places = one_joined old c.insert.new.self.keys c.with_key.result places c.in_ok-insert.ensures.keys here (lowered old c.self.inside.least_places places c.lower_place.ensures.full c.lower_place.ensures.lower c.self.invariant.places);
    }

pub returns-clause-ok : goal.returns-clause-ok
returns-clause-ok c = last c ∙ ap₂ (λ (h : List (List Cell)) (d : List Cell). h ++ d ∷ []) c.self.view_is c.with_key.ensures
