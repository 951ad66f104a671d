use Rattle.go_chains.proofs.Common.{rules, ◌≡◌, ◌≢◌, ◌+◌, ◌-◌, ◌*◌, ◌<◌, ◌≤◌, ℕ, List, slice_index, slice_set, sym, ◌∙◌, ap, subst, arith, get_or-set_same, get_or-set_other, Cell, Empty, MAX_POINTS, cell_at, side_of, number_of, touches, liberty_count}
use Rattle.go_chains.proofs.Counts.{count_most, touches_most}
use Rattle.go_chains.proofs.Removing.{set_empty}
use Rattle.go_chains.proofs.CutPoints.{rest_circles, rest_closed, rest_count, rest_counts}
use Rattle.go_chains.proofs.cut_point.remove_stone.Goals as goal
use Rattle.go_chains.proofs.cut_point.remove_stone.Goals.{After-shared-beside}

pub give_back-requires-clause-small : goal.give_back-requires-clause-small
give_back-requires-clause-small c = λ j on ne own.
    let cells = c.args.colouring.now in
    let heads = c.args.heads.now in
    let n = side_of cells in
    let room : n * n ≤ MAX_POINTS = search rules in
    let on' : j < n * n = subst (λ (m : ℕ). j < m * m) c.size-size.ensures.value on in
    let right = c.requires.settled.counted.right j on' (λ e. omega (arith, on', room, e)) own in
    omega (arith, right, count_most n cells heads j room)

-- the head, its liberties, and those of them that are beside the point
module _ (c : After-shared-beside) where
  head_on : c.args.head < side_of c.args.colouring.now * side_of c.args.colouring.now
  head_on = subst (λ (m : ℕ). m < side_of c.args.colouring.now * side_of c.args.colouring.now) c.requires.here (c.requires.settled.chains.within c.args.number c.requires.on c.requires.stone)

  right : slice_index c.args.counts.now c.args.head ≡ liberty_count (side_of c.args.colouring.now) c.args.colouring.now c.args.heads.now c.args.head
  right =
      let room : side_of c.args.colouring.now * side_of c.args.colouring.now ≤ MAX_POINTS = search rules in
      let own : slice_index c.args.heads.now c.args.head ≡ c.args.head = subst (λ (m : ℕ). slice_index c.args.heads.now m ≡ m) c.requires.here (c.requires.settled.chains.own c.args.number c.requires.on c.requires.stone) in
      c.requires.settled.counted.right c.args.head head_on (λ e. omega (arith, head_on, room, e)) own

  beside : c.shared-beside.result ≡ touches (side_of c.args.colouring.now) c.args.heads.now c.args.head c.args.number
  beside = c.shared-beside.ensures ∙ ap (λ (m : ℕ). touches m c.args.heads.now c.args.head c.args.number) c.size-size.ensures.value

pub overflow_add-left : goal.overflow_add-left
overflow_add-left c =
    let cells = c.args.colouring.now in
    let heads = c.args.heads.now in
    let n = side_of cells in
    let h = c.args.head in
    let room : n * n ≤ MAX_POINTS = search rules in
    let known = (goal.at.overflow_add-left c).After-shared-beside in
    omega (arith, right known, beside known, room, touches_most n heads h c.args.number, count_most n cells heads h room)

pub overflow_sub-left : goal.overflow_sub-left
overflow_sub-left c =
    let cells = c.args.colouring.now in
    let heads = c.args.heads.now in
    let n = side_of cells in
    let h = c.args.head in
    let p = c.args.number in
    let room : n * n ≤ MAX_POINTS = search rules in
    let settled = c.requires.settled in
    let known = (goal.at.overflow_sub-left c).After-shared-beside in
    let others : (q : ℕ) → q ≢ p → cell_at (slice_set cells p Empty) q ≡ cell_at cells q = λ q ne. get_or-set_other cells p q Empty Empty ne in
    omega (arith, right known, beside known, c.empties_at.ensures, rest_count n cells (slice_set cells p Empty) heads c.args.next.now h p room settled.full.heads_full settled.full.next_full settled.chains settled.closed c.requires.on c.requires.stone c.requires.here c.requires.whole (set_empty cells p) others)

pub returns-clause-settled : goal.returns-clause-settled
returns-clause-settled c =
    let cells = c.args.colouring.now in
    let heads = c.args.heads.now in
    let n = side_of cells in
    let h = c.args.head in
    let p = c.args.number in
    let room : n * n ≤ MAX_POINTS = search rules in
    let settled = c.requires.settled in
    let known = (goal.at.returns-clause-settled c).After-shared-beside in
    let number : number_of n c.point_at.result ≡ p = ap (λ (m : ℕ). number_of m c.point_at.result) (sym c.size-size.ensures.value) ∙ c.point_at.ensures.number_back in
    let put : c.set.new.self ≡ slice_set cells p Empty = c.set.ensures.value ∙ ap (λ (q : ℕ). slice_set cells q Empty) number in
    let is : cell_at c.set.new.self p ≡ Empty = ap (λ (l : List Cell). cell_at l p) put ∙ set_empty cells p in
    let others : (q : ℕ) → q ≢ p → cell_at c.set.new.self q ≡ cell_at cells q = λ q ne. ap (λ (l : List Cell). cell_at l q) put ∙ get_or-set_other cells p q Empty Empty ne in
    let given : (j : ℕ) → j < n * n → j ≢ h → slice_index c.give_back.new.counts j ≡ slice_index c.args.counts.now j + touches n heads j p =
    subst (λ (m : ℕ). (j : ℕ) → j < m * m → j ≢ h → slice_index c.give_back.new.counts j ≡ slice_index c.args.counts.now j + touches m heads j p) c.size-size.ensures.value c.give_back.ensures.given in
    let less = rest_count n cells c.set.new.self heads c.args.next.now h p room settled.full.heads_full settled.full.next_full settled.chains settled.closed c.requires.on c.requires.stone c.requires.here c.requires.whole is others in
    let left = slice_index c.args.counts.now h + c.shared-beside.result - c.empties_at.result in
    let more = slice_set c.give_back.new.counts h left in
    let at_head = get_or-set_same c.give_back.new.counts h left 0 (omega (arith, head_on known, room, c.give_back.ensures.full)) in
    record {
      full = search rules;
      chains = rest_circles n cells c.set.new.self heads c.args.next.now h p room settled.full.heads_full settled.full.next_full settled.chains settled.closed c.requires.on c.requires.stone c.requires.here c.requires.whole is others;
      closed = rest_closed n cells c.set.new.self heads c.args.next.now h p room settled.full.heads_full settled.full.next_full settled.chains settled.closed c.requires.on c.requires.stone c.requires.here c.requires.whole is others;
      counted = rest_counts n cells c.set.new.self heads c.args.next.now h p room settled.full.heads_full settled.full.next_full settled.chains settled.closed c.requires.on c.requires.stone c.requires.here c.requires.whole is others
          c.args.counts.now more settled.counted (omega (arith, at_head, beside known, c.empties_at.ensures, less, right known)) (λ j j_on ne. get_or-set_other c.give_back.new.counts h j left 0 ne ∙ given j j_on ne);
    }
