use Rattle.go_chains.proofs.Common.{rules, ◌≡◌, ◌≢◌, ◌+◌, ◌*◌, ◌≤◌, ◌⊎◌, inl, inr, ℕ, map, take, slice_index, sym, ◌∙◌, ap, subst, MAX_POINTS, Stone, clear, neighbours, cell_at, side_of, number_of, IsIn, IsSettled, LacksLiberties, LeavesLiberties}
use Rattle.go_chains.proofs.Beside.{in_more, all_beside}
use Rattle.go_chains.proofs.Leaving.{CapturedSoFar, captured_step, captured_end}
use Rattle.go_chains.proofs.capture.capture.Goals as goal

pub loop-neighbour-preserved : goal.loop-neighbour-preserved
loop-neighbour-preserved c =
    let first = c.args.colouring.now in
    let n = side_of first in
    let now = c.loop-neighbour.colouring in
    let after = c.remove_without_liberty-removed.new.colouring in
    let heads = c.loop-neighbour.heads in
    let more = c.remove_without_liberty-removed.new.heads in
    let items = c.as_slice-neighbour-items.result.now in
    let i = c.loop-neighbour.neighbour-index in
    let x = c.neighbour-item.result in
    let side = c.loop-neighbour.invariant.side in
    let k = c.args.colour in
    let number : number_of n x ≡ c.number.result = sym (c.number.ensures.value ∙ ap (λ (m : ℕ). number_of m x) c.size-size.ensures.value) in
    let last : (q : ℕ) → IsIn q (map (number_of n) (take (i + 1) items)) → IsIn q (map (number_of n) (take i items)) ⊎ (q ≡ c.number.result) =
    λ q m. elim (in_more (number_of n) items i x c.loop-neighbour-test.true c.neighbour-item.is q m) [ inl before ↦ inl before | inr here ↦ inr (here ∙ number) ] in
    record {
      side = c.remove_without_liberty-removed.ensures.size ∙ side;
      so_far = captured_step n first now after c.args.heads.now heads more c.args.next.now c.loop-neighbour.counts c.remove_without_liberty-removed.new.counts k c.loop-neighbour.removed c.remove_without_liberty-removed.result c.number.result
          (map (number_of n) (take i items)) (map (number_of n) (take (i + 1) items)) last
          (subst (λ (m : ℕ). IsSettled m after more c.args.next.now c.remove_without_liberty-removed.new.counts) side c.remove_without_liberty-removed.ensures.settled)
          (subst (λ (m : ℕ). clear m after k ≡ clear m now k) side c.remove_without_liberty-removed.ensures.cleared)
          (subst (λ (m : ℕ). LeavesLiberties m now heads after more) side c.remove_without_liberty-removed.ensures.left)
          (subst (λ (m : ℕ). (h : ℕ) → LacksLiberties m after more h → cell_at after h ≡ Stone k → slice_index heads c.number.result ≢ h) side c.remove_without_liberty-removed.ensures.passed)
          c.remove_without_liberty-removed.ensures.count c.loop-neighbour.invariant.so_far;
    }

pub returns-clause-cleared : goal.returns-clause-cleared
returns-clause-cleared c =
    let first = c.args.colouring.now in
    let n = side_of first in
    let now = c.loop-neighbour.colouring in
    let items = c.as_slice-neighbour-items.result.now in
    let room : n * n ≤ MAX_POINTS = search rules in
    let those : map (number_of n) (take c.loop-neighbour.neighbour-index items) ≡ neighbours n c.args.number = all_beside c.point_at.result c.size-size.ensures.value c.neighbours-neighbours.ensures.exact c.point_at.ensures.number_back c.as_slice-neighbour-items.ensures.value c.loop-neighbour.neighbour-index c.loop-neighbour-test.false in
    captured_end n first now c.args.heads.now c.loop-neighbour.heads c.args.next.now c.loop-neighbour.counts c.args.colour c.loop-neighbour.removed c.args.number room (c.size.ensures.colouring.full ∙ ap (λ (m : ℕ). m * m) c.loop-neighbour.invariant.side) c.requires.beside
    (subst (CapturedSoFar n first now c.args.heads.now c.loop-neighbour.heads c.args.next.now c.loop-neighbour.counts c.args.colour c.loop-neighbour.removed) those c.loop-neighbour.invariant.so_far)
