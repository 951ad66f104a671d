-- The stone at the point reaches empty exactly where it is marked.
use Rattle.go_turns.proofs.Common.{◌≡◌, ◌*◌, ◌<◌, not, Some, sym, ◌∙◌, ap, inl, inr, arith, rules, cases_eq, Black, White, Stone, side_of, cell_at, number_of, lacks_liberty}
use Rattle.go_points.proofs.Liberties.{first_found, first_none, lacks_empty}
use Rattle.go_turns.proofs.Marks.{lacks_stone}
use Rattle.go_turns.proofs.clearing.first_unmarked.Goals as goal
use Rattle.go_turns.proofs.clearing.first_unmarked.Goals.{Joined-get, in-Empty, in-Stone-Black, in-Stone-White}

-- what the mark, or the emptiness, of the point tells
module _ (c : Joined-get) where
  at : number_of (side_of c.args.colouring.now) c.point_at-point.result ≡ c.loop-number.number
  at = cc

  tells : lacks_liberty (side_of c.args.colouring.now) c.args.colouring.now c.loop-number.number ≡ not c.match-get.is_free
  tells =
      let cells = c.args.colouring.now in
      let n = side_of cells in
      let i = c.loop-number.number in
      let on : i < n * n = search rules in
      let cell : cell_at cells i ≡ c.get.result = sym (c.get.ensures.value ∙ ap (cell_at cells) at) in
      elim c.match-get.branch [
        | in-Empty w ↦ lacks_empty n cells i (cell ∙ w.in-Empty.is) ∙ ap not (sym w.is_free-is)
        | in-Stone-Black w ↦ lacks_stone n cells Black c.args.black.now i c.requires.black_free on (cell ∙ w.in-Stone-Black.is ∙ ap Stone w.in-Stone-Black.field-0-is) ∙ ap not (sym w.is_free-is)
        | in-Stone-White w ↦ lacks_stone n cells White c.args.white.now i c.requires.white_free on (cell ∙ w.in-Stone-White.is ∙ ap Stone w.in-Stone-White.field-0-is) ∙ ap not (sym w.is_free-is)
      ]

pub returns-then-not-is_free-clause-found : goal.returns-then-not-is_free-clause-found
returns-then-not-is_free-clause-found c =
    let at-match = (goal.at.returns-then-not-is_free-clause-found c).Joined-get in
    first_found (side_of c.args.colouring.now) c.args.colouring.now c.loop-number.number (search rules) c.loop-number.invariant (tells at-match ∙ ap not c.if-not-is_free.true) ∙ ap Some (sym (at at-match))

pub loop-number-preserved : goal.loop-number-preserved
loop-number-preserved c = λ p low.
    elim (cases_eq p c.loop-number.number) [
      | inl same ↦ ap (lacks_liberty (side_of c.args.colouring.now) c.args.colouring.now) same ∙ tells (goal.at.loop-number-preserved c).Joined-get ∙ ap not c.if-not-is_free.false
      | inr other ↦ c.loop-number.invariant p (omega arith)
    ]

pub returns-clause-none : goal.returns-clause-none
returns-clause-none c =
    let n = side_of c.args.colouring.now in
    let done : c.loop-number.number ≡ n * n = search rules in
    first_none n c.args.colouring.now (λ q on. c.loop-number.invariant q (omega arith))
