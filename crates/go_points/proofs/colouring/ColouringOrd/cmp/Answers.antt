use Rattle.go_points.proofs.Common.{◌≡◌, ◌≢◌, ℕ, ◌*◌, ◌<◌, ◌≤◌, ◌⊎◌, length, Less, Equal, Greater, refl, sym, ◌∙◌, ap, ap₂, arith, nat_cmp, Black, White, Cell, Empty, Stone, cell_at, cell_code}
use Rattle.go_points.specs.contracts.CellOrd.TheImpl.{cmp-value}
use Rattle.go_points.proofs.Comparing.{order_at, order_whole, one_cell_more}
use Rattle.go_points.proofs.colouring.ColouringOrd.cmp.Goals as goal

-- the derived order of cells is that of their bytes
agrees : (a b : Cell) → (cmp-value).it a b ≡ nat_cmp (cell_code a) (cell_code b)
agrees Empty Empty = refl
agrees Empty (Stone Black) = refl
agrees Empty (Stone White) = refl
agrees (Stone Black) Empty = refl
agrees (Stone White) Empty = refl
agrees (Stone Black) (Stone Black) = refl
agrees (Stone Black) (Stone White) = refl
agrees (Stone White) (Stone Black) = refl
agrees (Stone White) (Stone White) = refl

-- cells that the order does not tell apart are the same
alike : (a b : Cell) → (cmp-value).it a b ≡ Equal → a ≡ b
alike Empty Empty e = refl
alike Empty (Stone Black) e = absurd (cc)
alike Empty (Stone White) e = absurd (cc)
alike (Stone Black) Empty e = absurd (cc)
alike (Stone White) Empty e = absurd (cc)
alike (Stone Black) (Stone Black) e = refl
alike (Stone Black) (Stone White) e = absurd (cc)
alike (Stone White) (Stone Black) e = absurd (cc)
alike (Stone White) (Stone White) e = refl

less_differs : Less ≢ Equal
less_differs e = absurd (cc e)

greater_differs : Greater ≢ Equal
greater_differs e = absurd (cc e)

pub loop-number-preserved : goal.loop-number-preserved
loop-number-preserved c =
    let same = alike c.cell.result c.cell-in-loop-number.result (sym c.cmp.ensures ∙ c.in-Equal.is) in
    one_cell_more c.args.self.now c.args.other.now c.loop-number.number c.loop-number.invariant (sym c.cell.ensures ∙ same ∙ c.cell-in-loop-number.ensures)

pub returns-in-Less : goal.returns-in-Less
returns-in-Less c =
    let i = c.loop-number.number in
    let came : Less ≡ nat_cmp (cell_code (cell_at c.args.self.now i)) (cell_code (cell_at c.args.other.now i))
    = sym c.in-Less.is ∙ c.cmp.ensures ∙ agrees c.cell.result c.cell-in-loop-number.result ∙ ap₂ (λ a b. nat_cmp (cell_code a) (cell_code b)) c.cell.ensures c.cell-in-loop-number.ensures in
    let one : c.area.result ≡ length c.args.self.now = c.area.ensures.value ∙ ap (λ (m : ℕ). m * m) c.size.ensures.value ∙ sym c.size.ensures.colouring.full in
    let two : c.area-2.result ≡ length c.args.other.now = c.area-2.ensures.value ∙ ap (λ (m : ℕ). m * m) c.size-2.ensures.value ∙ sym c.size-2.ensures.colouring.full in
    let low : i < length c.args.self.now = omega (arith, one, c.loop-number-test.true, c.min-most.ensures) in
    let high : i < length c.args.other.now = omega (arith, two, c.loop-number-test.true, c.min-most.ensures) in
    came ∙ order_at i c.args.self.now c.args.other.now low high c.loop-number.invariant (λ e. less_differs (came ∙ e))

pub returns-in-Greater : goal.returns-in-Greater
returns-in-Greater c =
    let i = c.loop-number.number in
    let came : Greater ≡ nat_cmp (cell_code (cell_at c.args.self.now i)) (cell_code (cell_at c.args.other.now i))
    = sym c.in-Greater.is ∙ c.cmp.ensures ∙ agrees c.cell.result c.cell-in-loop-number.result ∙ ap₂ (λ a b. nat_cmp (cell_code a) (cell_code b)) c.cell.ensures c.cell-in-loop-number.ensures in
    let one : c.area.result ≡ length c.args.self.now = c.area.ensures.value ∙ ap (λ (m : ℕ). m * m) c.size.ensures.value ∙ sym c.size.ensures.colouring.full in
    let two : c.area-2.result ≡ length c.args.other.now = c.area-2.ensures.value ∙ ap (λ (m : ℕ). m * m) c.size-2.ensures.value ∙ sym c.size-2.ensures.colouring.full in
    let low : i < length c.args.self.now = omega (arith, one, c.loop-number-test.true, c.min-most.ensures) in
    let high : i < length c.args.other.now = omega (arith, two, c.loop-number-test.true, c.min-most.ensures) in
    came ∙ order_at i c.args.self.now c.args.other.now low high c.loop-number.invariant (λ e. greater_differs (came ∙ e))

pub returns : goal.returns
returns c =
    let i = c.loop-number.number in
    let one : c.area.result ≡ length c.args.self.now = c.area.ensures.value ∙ ap (λ (m : ℕ). m * m) c.size.ensures.value ∙ sym c.size.ensures.colouring.full in
    let two : c.area-2.result ≡ length c.args.other.now = c.area-2.ensures.value ∙ ap (λ (m : ℕ). m * m) c.size-2.ensures.value ∙ sym c.size-2.ensures.colouring.full in
    let last : c.area-3.result ≡ length c.args.self.now = c.area-3.ensures.value ∙ ap (λ (m : ℕ). m * m) c.size-3.ensures.value ∙ sym c.size-3.ensures.colouring.full in
    let other_last : c.area-4.result ≡ length c.args.other.now = c.area-4.ensures.value ∙ ap (λ (m : ℕ). m * m) c.size-4.ensures.value ∙ sym c.size-4.ensures.colouring.full in
    let end : (length c.args.self.now ≤ i) ⊎ (length c.args.other.now ≤ i) = grind (arith, one, two, c.loop-number-test.false, c.min-most.ensures) in
    c.cmp-2.ensures ∙ ap₂ nat_cmp last other_last ∙ order_whole c.args.self.now c.args.other.now i c.loop-number.invariant end
