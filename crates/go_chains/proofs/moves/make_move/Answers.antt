use Rattle.go_chains.proofs.Common.{rules, ◌≡◌, ◌≢◌, ◌*◌, ◌<◌, ◌≤◌, ℕ, length, slice_index, sym, ◌∙◌, ap, subst, MAX_POINTS, Stone, opponent_of, cell_at, side_of, clear, touches, IsSettled, LacksLiberties, LeavesLiberties, IsBoard}
use Rattle.go_points.proofs.Moves.{move_made, move_takes}
use Rattle.go_chains.proofs.Playing.{captures_beside, move_ends}
use Rattle.go_chains.proofs.moves.make_move.Goals as goal

pub capture-captured-requires-clause-beside : goal.capture-captured-requires-clause-beside
capture-captured-requires-clause-beside c =
    let before = c.args.colouring.now in
    let n = side_of before in
    let put = c.fill.new.colouring in
    let room : n * n ≤ MAX_POINTS = search rules in
    subst (λ (m : ℕ). (h : ℕ) → LacksLiberties m put c.fill.new.heads h → cell_at put h ≡ Stone c.opponent-other.result → 0 < touches m c.fill.new.heads h c.args.number) (sym c.fill.ensures.size)
    (captures_beside n before put c.args.heads.now c.args.next.now c.args.counts.now c.fill.new.heads c.fill.new.next c.fill.new.counts c.args.colour c.args.number room c.size.ensures.colouring.full c.requires.on c.requires.free
    c.requires.board c.fill.ensures.cells c.fill.ensures.others c.fill.ensures.settled c.opponent-other.result c.opponent-other.ensures)

-- what the three steps leave: a board, and the colouring without the chains of the mover's own that have no liberty
ends : (c : goal.Else-prove-2) → IsBoard (side_of c.args.colouring.now) c.remove_without_liberty-lost.new.colouring c.remove_without_liberty-lost.new.heads c.fill.new.next c.remove_without_liberty-lost.new.counts
    × (c.remove_without_liberty-lost.new.colouring ≡ clear (side_of c.capture-captured.new.colouring) c.capture-captured.new.colouring c.args.colour)
ends c =
    let before = c.args.colouring.now in
    let n = side_of before in
    let k = c.args.colour in
    let p = c.args.number in
    let put = c.fill.new.colouring in
    let first = c.capture-captured.new.colouring in
    let last = c.remove_without_liberty-lost.new.colouring in
    let more = c.fill.new.heads in
    let then = c.capture-captured.new.heads in
    let final = c.remove_without_liberty-lost.new.heads in
    let next = c.fill.new.next in
    let room : n * n ≤ MAX_POINTS = search rules in
    let side : side_of first ≡ n = c.capture-captured.ensures.size ∙ c.fill.ensures.size in
    let full : length last ≡ n * n = c.size-2.ensures.colouring.full ∙ ap (λ (m : ℕ). m * m) (c.remove_without_liberty-lost.ensures.size ∙ side) in
    let cleared : first ≡ clear n put (opponent_of k) = c.capture-captured.ensures.cleared ∙ ap (λ (m : ℕ). clear m put c.opponent-other.result) c.fill.ensures.size ∙ ap (clear n put) c.opponent-other.ensures in
    let left : LeavesLiberties n put more first then = subst (λ (m : ℕ). LeavesLiberties m put more first then) c.fill.ensures.size c.capture-captured.ensures.left in
    let still : IsSettled n first then next c.capture-captured.new.counts = subst (λ (m : ℕ). IsSettled m first then next c.capture-captured.new.counts) c.fill.ensures.size c.capture-captured.ensures.settled in
    let end : IsSettled n last final next c.remove_without_liberty-lost.new.counts = subst (λ (m : ℕ). IsSettled m last final next c.remove_without_liberty-lost.new.counts) side c.remove_without_liberty-lost.ensures.settled in
    let alike : clear n last k ≡ clear n first k = subst (λ (m : ℕ). clear m last k ≡ clear m first k) side c.remove_without_liberty-lost.ensures.cleared in
    let left' : LeavesLiberties n first then last final = subst (λ (m : ℕ). LeavesLiberties m first then last final) side c.remove_without_liberty-lost.ensures.left in
    let passed : (h : ℕ) → LacksLiberties n last final h → cell_at last h ≡ Stone k → slice_index then p ≢ h =
    subst (λ (m : ℕ). (h : ℕ) → LacksLiberties m last final h → cell_at last h ≡ Stone k → slice_index then p ≢ h) side c.remove_without_liberty-lost.ensures.passed in
    let done = move_ends n before put c.args.heads.now c.args.next.now c.args.counts.now more next c.fill.new.counts k p room c.size.ensures.colouring.full c.requires.on c.requires.free
    c.requires.board c.fill.ensures.cells c.fill.ensures.others c.fill.ensures.settled first then c.capture-captured.new.counts cleared left still last final c.remove_without_liberty-lost.new.counts full end alike left' passed in
    (done.0, done.1 ∙ ap (λ (m : ℕ). clear m first k) (sym side))

pub returns-clause-board : goal.returns-clause-board
returns-clause-board c = (ends c).0

pub returns-clause-made : goal.returns-clause-made
returns-clause-made c =
    move_made c.args.colouring.now c.fill.new.colouring c.capture-captured.new.colouring c.remove_without_liberty-lost.new.colouring c.args.colour c.opponent-other.result c.args.number c.fill.ensures.cells c.fill.ensures.size c.opponent-other.ensures
    c.capture-captured.ensures.cleared c.capture-captured.ensures.size (ends c).1

pub returns-clause-taken : goal.returns-clause-taken
returns-clause-taken c =
    move_takes c.args.colouring.now c.fill.new.colouring c.capture-captured.new.colouring c.remove_without_liberty-lost.new.colouring c.args.colour c.opponent-other.result c.args.number c.fill.ensures.cells c.fill.ensures.size c.opponent-other.ensures
    c.capture-captured.ensures.cleared c.capture-captured.ensures.size (ends c).1 c.capture-captured.result c.remove_without_liberty-lost.result c.size.ensures.colouring.full c.capture-captured.ensures.count c.remove_without_liberty-lost.ensures.count
