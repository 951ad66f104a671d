use Rattle.go_chains.proofs.Common.{◌≡◌, ℕ, Bool, cond, eq-eqb, length, map, take, slice_index, refl, sym, ◌∙◌, ap, arith, neighbours, number_of, total}
use Rattle.go_chains.proofs.Counts.{is_head, touches_is, neighbours_most}
use Rattle.go_chains.proofs.Giving.{few}
use Rattle.go_chains.proofs.Beside.{total_more, as_many, all_beside}
use Rattle.go_chains.proofs.Merging.{off}
use Rattle.go_chains.proofs.liberties.shared.Goals as goal
use Rattle.go_chains.proofs.liberties.shared.Goals.{then-heads-number, else-heads-number}

pub overflow_add-found : goal.overflow_add-found
overflow_add-found c =
    let n = c.args.size in
    let items = c.as_slice-neighbour-items.result.now in
    let less = few c.args.heads.now (number_of n) items c.loop-neighbour.neighbour-index c.neighbour-item.result c.loop-neighbour-test.true c.neighbour-item.is c.args.head in
    let long : length items ≡ length (neighbours n c.args.number) = as_many c.point_at.result refl c.neighbours-neighbours.ensures.exact c.point_at.ensures.number_back c.as_slice-neighbour-items.ensures.value in
    let most = neighbours_most n c.args.number in
    let within = c.loop-neighbour-test.true in
    omega (arith, c.loop-neighbour.invariant, less, long, most, within, c.requires.room)

pub loop-neighbour-preserved : goal.loop-neighbour-preserved
loop-neighbour-preserved c =
    let heads = c.args.heads.now in
    let g = number_of c.args.size in
    let items = c.as_slice-neighbour-items.result.now in
    let x = c.neighbour-item.result in
    let more = total_more g items c.loop-neighbour.neighbour-index x c.loop-neighbour-test.true c.neighbour-item.is (is_head heads c.args.head) in
    let head : slice_index heads (g x) ≡ slice_index heads c.number.result = ap (slice_index heads) (sym c.number.ensures.value) in
    elim c.if-heads-number.branch [
      | then-heads-number w ↦ (let one : is_head heads c.args.head (g x) ≡ 1 = ap (λ (b : Bool). cond {A = ℕ} b 1 0) (eq-eqb (slice_index heads (g x)) c.args.head (head ∙ w.if-heads-number.true)) in
          omega (arith, w.found-is, c.loop-neighbour.invariant, more, one))
      | else-heads-number w ↦ (let none : is_head heads c.args.head (g x) ≡ 0 = ap (λ (b : Bool). cond {A = ℕ} b 1 0) (off (slice_index heads (g x)) c.args.head (λ e. w.if-heads-number.false (sym head ∙ e))) in
          omega (arith, w.found-is, c.loop-neighbour.invariant, more, none))
    ]

pub returns : goal.returns
returns c =
    let n = c.args.size in
    let items = c.as_slice-neighbour-items.result.now in
    let those : map (number_of n) (take c.loop-neighbour.neighbour-index items) ≡ neighbours n c.args.number = all_beside c.point_at.result refl c.neighbours-neighbours.ensures.exact c.point_at.ensures.number_back c.as_slice-neighbour-items.ensures.value c.loop-neighbour.neighbour-index c.loop-neighbour-test.false in
    c.loop-neighbour.invariant ∙ ap (total (is_head c.args.heads.now c.args.head)) those ∙ touches_is n c.args.heads.now c.args.head c.args.number
