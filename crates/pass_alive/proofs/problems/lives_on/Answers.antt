use Rattle.pass_alive.proofs.Common.{◌≢◌, ℕ, ◌+◌, ◌*◌, ◌<◌, ◌≤◌, ◌⊎◌, inl, inr, arith, sym, ◌∙◌, rules, ◌≡◌, side_of, LivesAt}
use Rattle.std.proofs.Math.Nat.{mul-le-mul}
use Rattle.pass_alive.proofs.Shapes.{found_alive}
use Rattle.pass_alive.proofs.problems.lives_on.Goals as goal

-- no two sizes have the same square
less_square : (n m : ℕ) → n < m → n * n ≡ m * m → ⊥
less_square n m less e =
    let a : (n + 1) * (n + 1) ≤ m * m = mul-le-mul (omega (arith, less)) (omega (arith, less)) in
    let b : (n + 1) * (n + 1) ≡ n * n + (n + n + 1) = omega arith in
    omega (arith, a, b, e)

unlike_square : (n m : ℕ) → n ≢ m → n * n ≡ m * m → ⊥
unlike_square n m ne e =
    let split : (n < m) ⊎ (m < n) = grind (arith, ne) in
    elim split [ inl less ↦ less_square n m less e | inr more ↦ less_square m n more (sym e) ]

-- a board of another size
pub returns-then-ne : goal.returns-then-ne
returns-then-ne c =
    let g = c.args.problem.now.game in
    let d = c.args.board.now in
    let unlike : side_of d ≢ g.size = search rules in
    (λ f. absurd (cc f), λ (lives : LivesAt g d). absurd (unlike_square (side_of d) g.size unlike (sym c.colouring.ensures.colouring.full ∙ lives.whole)))

pub returns : goal.returns
returns c =
    let g = c.args.problem.now.game in
    let d = c.args.board.now in
    let side : side_of d ≡ g.size = search rules in
    found_alive g d c.games_agree.ensures c.targets.result.now c.defender.result c.region.result.now c.is_pass_alive.result side c.colouring.ensures.colouring.full c.colouring.ensures.liberties
    c.targets.ensures.value c.targets.ensures.on_board c.defender.ensures c.region.ensures.value c.region.ensures.on_board c.is_pass_alive.ensures
