use Rattle.go_turns.proofs.Common.{◌≤◌, ◌%◌, ℕ, length, slice_index, List, subst, arith, Cell, HasNoneOf, bucket_count}
use Rattle.go_turns.proofs.Buckets.{has_none}
use Rattle.go_turns.proofs.hash_seen.HashSeenSeen.may_hold.Goals as goal

pub returns : goal.returns
returns c past =
    let places = c.self.inside.least_places in
    let bound : length c.self.inside.entries.keys ≤ slice_index places c.bucket_of.result = grind (arith, past, c.len.ensures.len) in
    let here : length c.self.inside.entries.keys ≤ slice_index places (c.args.key % bucket_count) = subst (λ (b : ℕ). length c.self.inside.entries.keys ≤ slice_index places b) c.bucket_of.ensures.value bound in
    subst (λ (h : List (List Cell)). HasNoneOf h c.args.key) c.self.view_is (has_none c.self.inside.entries.keys places c.args.key here c.self.invariant.places)
