use Rattle.go_turns.proofs.Common.{◌≡◌, ◌-◌, ◌∙◌, ap, length, take, List, arith, IsSome, Cell}
use Rattle.go_turns.proofs.Buckets.{in_front, raised}
use Rattle.go_turns.proofs.Keyed.{not_popped, popped, rest_is_once}
use Rattle.go_turns.proofs.hash_seen.HashSeenSeen.take_last.Goals as goal

some : (c : goal.In_default) → IsSome c.pop.result
some c =
    let same : length c.self.inside.entries.keys ≡ length c.args.self.now = ap length c.self.view_is in
    c.pop.ensures.found.1 (omega (arith, c.requires, same))

pub returns-in_default : goal.returns-in_default
returns-in_default c = absurd (not_popped c.pop.result c.in_default.is (some c))

pub invariant_of-self : goal.invariant_of-self
invariant_of-self c = absurd (not_popped c.pop.result c.in_default.is (some c))

pub returns-then-self-bucket : goal.returns-then-self-bucket
returns-then-self-bucket c =
    popped c.pop.result c.self.inside.entries.keys c.pop.new.self.keys c.args.self.now c.self.view_is c.requires c.pop.ensures.found.1 c.pop.ensures.keys ∙ ap (λ (h : List (List Cell)). take (length h - 1) h) c.self.view_is

pub returns-else-self-bucket : goal.returns-else-self-bucket
returns-else-self-bucket c =
    popped c.pop.result c.self.inside.entries.keys c.pop.new.self.keys c.args.self.now c.self.view_is c.requires c.pop.ensures.found.1 c.pop.ensures.keys ∙ ap (λ (h : List (List Cell)). take (length h - 1) h) c.self.view_is

pub invariant_of-self-then-self-bucket : goal.invariant_of-self-then-self-bucket
invariant_of-self-then-self-bucket c =
    let old = c.self.inside.entries.keys in
    let new = c.pop.new.self.keys in
    let front = popped c.pop.result old new c.args.self.now c.self.view_is c.requires c.pop.ensures.found.1 c.pop.ensures.keys in
    record {
      once = rest_is_once old new (length old - 1) front c.self.invariant.once;
      places = raised new c.self.inside.least_places c.bucket_of-bucket.result 65535 (c.if-self-bucket.true ∙ c.len.ensures.len) (in_front old new (length old - 1) c.self.inside.least_places (omega arith) front c.self.invariant.places);
    }

pub invariant_of-self-else-self-bucket : goal.invariant_of-self-else-self-bucket
invariant_of-self-else-self-bucket c =
    let old = c.self.inside.entries.keys in
    let new = c.pop.new.self.keys in
    let front = popped c.pop.result old new c.args.self.now c.self.view_is c.requires c.pop.ensures.found.1 c.pop.ensures.keys in
    record {
      once = rest_is_once old new (length old - 1) front c.self.invariant.once;
      places = in_front old new (length old - 1) c.self.inside.least_places (omega arith) front c.self.invariant.places;
    }
