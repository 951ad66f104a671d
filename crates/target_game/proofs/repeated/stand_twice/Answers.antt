use Rattle.target_game.proofs.Common.{◌≡◌, ℕ, ◌+◌, ◌%◌, ◌<◌, List, [], get_or, length, sym, ◌∙◌, ap, arith, length-replicate, Cell, bucket_at, bucket_count, history_most}
use Rattle.std.proofs.Common.{length-set}
use Rattle.std.proofs.lemmas.List.{get_or_default}
use Rattle.target_game.proofs.Buckets.{none_chained, one_chained, bucket_is, stands_twice, is_once, none_twice}
use Rattle.target_game.proofs.repeated.stand_twice.Goals as goal

pub loop-place-init : goal.loop-place-init
loop-place-init c = record {
  latest_full = ap (λ (l : List ℕ). length l) c.no_latest-latest.ensures ∙ length-replicate {A = ℕ} bucket_count 0;
  before_full = ap (λ (l : List ℕ). length l) c.no_before-before.ensures ∙ length-replicate {A = ℕ} history_most 0;
  chained = none_chained c.args.history.now c.no_latest-latest.result c.no_before-before.result c.no_latest-latest.ensures;
  once = none_twice c.args.history.now;
}

pub returns-then-stands_before : goal.returns-then-stands_before
returns-then-stands_before c =
    let h = c.args.history.now in
    let i = c.loop-place.place in
    let on : i < length h = c.loop-place-test.true in
    let d : List Cell = c.index-history-place-in-loop-place.result in
    let is : d ≡ get_or h i [] = c.index-history-place-in-loop-place.is ∙ get_or_default h i d [] on in
    let (k, low, same) = c.stands_before.ensures.yes c.if-stands_before.true in
    sym (stands_twice h i k d is on (omega (arith, low, c.loop-place.invariant.chained.latest_low (c.key_of.result % 1024))) same)

pub loop-place-preserved : goal.loop-place-preserved
loop-place-preserved c =
    let h = c.args.history.now in
    let i = c.loop-place.place in
    let on : i < length h = c.loop-place-test.true in
    let latest = c.loop-place.latest in
    let before = c.loop-place.before in
    let b = c.key_of.result % 1024 in
    let e : List Cell = c.index-history-place.result in
    let d : List Cell = c.index-history-place-in-loop-place.result in
    let keyed : e ≡ get_or h i [] = c.index-history-place.is ∙ get_or_default h i e [] on in
    let is : d ≡ get_or h i [] = c.index-history-place-in-loop-place.is ∙ get_or_default h i d [] on in
    let kind : bucket_at h i ≡ b = bucket_is h i e c.key_of.result keyed c.key_of.ensures in
    let room : i < length before = omega (arith, on, c.requires, c.loop-place.invariant.before_full) in
    let within : b < length latest = omega (arith, c.loop-place.invariant.latest_full) in
    record {
      latest_full = length-set latest b (i + 1) ∙ c.loop-place.invariant.latest_full;
      before_full = length-set before i _ ∙ c.loop-place.invariant.before_full;
      chained = one_chained h latest before i b kind room within c.loop-place.invariant.chained;
      once = is_once h latest before i b d is on kind c.loop-place.invariant.chained (c.stands_before.ensures.no c.if-stands_before.false) c.loop-place.invariant.once;
    }
