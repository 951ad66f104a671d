use Rattle.go_points.proofs.Common.{◌≡◌, ℕ, ◌*◌, ◌<◌, sym, ◌∙◌, ap, subst, arith, cell_at, IsPacked, packed_cells}
use Rattle.go_points.proofs.Packing.{side_packed}
use Rattle.go_points.proofs.Unlike.{cells_alike, alike_cells}
use Rattle.go_points.proofs.colouring.Colouring.next_difference.Goals as goal
use Rattle.go_points.proofs.colouring.Colouring.next_difference.Goals.{After-next_unlike}

module _ (c : After-next_unlike) where
  -- both have the same size
  size : c.other.inside.size ≡ c.self.inside.size
  size =
      let a = c.self.inside in
      let b = c.other.inside in
      sym (side_packed b.size b.stones b.blacks c.args.other.now c.other.invariant c.other.view_is) ∙ c.requires ∙ side_packed a.size a.stones a.blacks c.args.self.now c.self.invariant c.self.view_is

  other_is : packed_cells c.self.inside.size c.other.inside.stones c.other.inside.blacks ≡ c.args.other.now
  other_is = ap (λ (n : ℕ). packed_cells n c.other.inside.stones c.other.inside.blacks) (sym size) ∙ c.other.view_is

pub returns-clause-same : goal.returns-clause-same
returns-clause-same c = λ i later low.
    let a = c.self.inside in
    let b = c.other.inside in
    ap (λ d. cell_at d i) (sym c.self.view_is) ∙ cells_alike a.size a.stones a.blacks b.stones b.blacks i (c.next_unlike.ensures.alike i later low) ∙ ap (λ d. cell_at d i) (other_is c)

pub returns-clause-differs : goal.returns-clause-differs
returns-clause-differs c = λ on same.
    let a = c.self.inside in
    let b = c.other.inside in
    let i = c.next_unlike.result in
    let side = side_packed a.size a.stones a.blacks c.args.self.now c.self.invariant c.self.view_is in
    let within : i < a.size * a.size = subst (λ (n : ℕ). i < n * n) side on in
    let area : i < c.area.result = omega (arith, within, c.area.ensures.value) in
    let also : IsPacked a.size b.stones b.blacks = subst (λ (n : ℕ). IsPacked n b.stones b.blacks) (size c) c.other.invariant in
    c.next_unlike.ensures.unlike area (alike_cells a.size a.stones a.blacks b.stones b.blacks c.self.invariant also i within (ap (λ d. cell_at d i) c.self.view_is ∙ same ∙ ap (λ d. cell_at d i) (sym (other_is c))))
