use Rattle.go_turns.proofs.Common.{◌≡◌, false, sym, ◌∙◌, ap₂, list_any, same_cells, place_in}
use Rattle.go_points.proofs.Lists.{not_true}
use Rattle.go_turns.proofs.Buckets.{low_here, lowered, one_joined}
use Rattle.go_turns.proofs.Repeats.{no_position}
use Rattle.go_turns.proofs.Keyed.{joins_last, still_once}
use Rattle.go_turns.proofs.hash_seen.HashSeenSeen.add_new.Goals as goal

pub returns-in_default-clause-new : goal.returns-in_default-clause-new
returns-in_default-clause-new c =
    sym (ap₂ place_in c.self.view_is c.with_key-entry.ensures) ∙ no_position (same_cells c.with_key-entry.result) c.self.inside.entries.keys c.in_default.ensures.absent

pub invariant_of-self-2 : goal.invariant_of-self-2
invariant_of-self-2 c =
    let old = c.self.inside.entries.keys in
    let places = c.lower_place.new.places in
    let here = low_here old c.args.colouring c.with_key-entry.result places c.bucket_of.result c.len-place.result c.args.key c.lower_place.ensures.own c.bucket_of.ensures.value c.len-place.ensures.len c.requires c.with_key-entry.ensures in
    record {
      once = still_once old c.insert_full.new.self.keys c.with_key-entry.result c.self.invariant.once c.in-Ok.ensures.keys;
      places = one_joined old c.insert_full.new.self.keys c.with_key-entry.result places c.in-Ok.ensures.keys here (lowered old c.self.inside.least_places places c.lower_place.ensures.full c.lower_place.ensures.lower c.self.invariant.places);
    }

pub returns-clause-held : goal.returns-clause-held
returns-clause-held c =
    let none : list_any (same_cells c.with_key-entry.result) c.self.inside.entries.keys ≡ false = not_true _ (sym c.in-Ok.ensures.added ∙ c.if-not-is_new.false) in
    sym (sym (ap₂ place_in c.self.view_is c.with_key-entry.ensures) ∙ no_position (same_cells c.with_key-entry.result) c.self.inside.entries.keys none)

pub returns-clause-added : goal.returns-clause-added
returns-clause-added c =
    let none : list_any (same_cells c.with_key-entry.result) c.self.inside.entries.keys ≡ false = not_true _ (sym c.in-Ok.ensures.added ∙ c.if-not-is_new.false) in
    rw (← c.self.view_is, ← c.with_key-entry.ensures) (joins_last c.self.inside.entries.keys c.insert_full.new.self.keys c.with_key-entry.result none c.in-Ok.ensures.keys)
