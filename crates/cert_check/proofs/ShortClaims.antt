-- The side that a short claim names wins, if the targets live where it may rest on their shape.
use Rattle.cert_check.proofs.Common.{ℕ, ◌<◌, ◌≤◌, ◌&&◌, Bool, List, [], ◌⊎◌, inl, inr, IsTrue, IfOk, Result, Ok, Err, arith, sym, subst, is_none, ltb-true, Colour, Black, White, Cell, same_colour, opponent_of, Game, GameState, GameProblem, start, next, over, wins, Wins, Claim, heads_of, main_body_by, heights_behind, height_by}
use Rattle.std.specs.Prelude.{nat_lt}
use Rattle.target_game.specs.Laws.{WinnerExists, NotBothWin}
use Rattle.pass_alive.specs.Life.{PassAlive}
use Rattle.pass_alive.specs.Told.{play_bound, Tells}
use Rattle.pass_alive.specs.Laws.{DefenderWinsWithin, ShapesCanBeTold}
use Rattle.cert_check.proofs.ShortTrees.{FitsShort}
use Rattle.cert_check.specs.Laws.{AcceptedShortSidesWin, AcceptedShortTurnsWin}
use Rattle.cert_check.proofs.Members.{and_first, and_second}
use Rattle.cert_check.proofs.Game.{same_colour-eq}
use Rattle.cert_check.proofs.Soundness.{with_past, Rests, right_short_wins, right_short_turn}
use Rattle.cert_check.proofs.Reading.{accepted_short}

rests_on : DefenderWinsWithin → (g : Game) (shape : List Cell → Bool) → ((c : List Cell) → IsTrue (shape c) → PassAlive g c) → (x : Colour) → Rests (play_bound g.size) shape g x
rests_on law g shape sound x s same h past =
    let free = and_first (is_none (over s) && nat_lt s.passes 2) (same_colour s.game.defender x && shape s.colouring) h in
    let told = and_second (is_none (over s) && nat_lt s.passes 2) (same_colour s.game.defender x && shape s.colouring) h in
    let few = ltb-true s.passes 2 (and_second (is_none (over s)) (nat_lt s.passes 2) free) in
    let winner = same_colour-eq s.game.defender x (and_first (same_colour s.game.defender x) (shape s.colouring) told) in
    let alive = subst (λ f. PassAlive f s.colouring) (sym same) (sound s.colouring (and_second (same_colour s.game.defender x) (shape s.colouring) told)) in
    let won : IsTrue (wins s.game.defender (with_past s past) (play_bound s.game.size)) = law (with_past s past) (omega (arith, few)) alive in
    subst (λ (f : Game). IsTrue (wins x (with_past s past) (play_bound f.size))) same (subst (λ y. IsTrue (wins y (with_past s past) (play_bound s.game.size))) winner won)

pub accepted_short_sides_win : DefenderWinsWithin → AcceptedShortSidesWin
accepted_short_sides_win law q shape sound ls x h e =
    let r = accepted_short shape q ls x e in
    let living : ℕ = play_bound q.game.size in
    let z : Claim = r.claim in
    let k : ℕ = height_by living (heights_behind living [] z.lemmas) z.main in
    (k, subst (λ y. IsTrue (wins y (start q) k)) r.winner (right_short_wins living shape q z (rests_on law q.game shape sound z.winner) h r.lemmas r.main))

pub accepted_short_turns_win : DefenderWinsWithin → AcceptedShortTurnsWin
accepted_short_turns_win law q shape sound ls x h e =
    let r = accepted_short shape q ls x e in
    let z : Claim = r.claim in
    let living : ℕ = play_bound q.game.size in
    let heights : List ℕ = heights_behind living [] z.lemmas in (
      z,
      r.lines,
      r.winner,
      λ t n begins.
          let fits = subst (λ m. FitsShort (main_body_by shape z.winner (heads_of z.lemmas)) (start q) m) begins r.main in
          let turn = right_short_turn living shape q z (rests_on law q.game shape sound z.winner) h r.lemmas t n fits in
          (turn.0, (height_by living heights n, subst (λ y. IsTrue (wins y (next (start q) t) (height_by living heights n))) r.winner turn.1)),
    )

-- What follows for every shape that tells where the targets live is so, since it cannot be that there is none.
one_of : WinnerExists → (x : Colour) (s : GameState) → s.passes ≤ 2 → Wins x s ⊎ Wins (opponent_of x) s
one_of exists Black s low = exists s low
one_of exists White s low = elim (exists s low) [ inl h ↦ inr h | inr h ↦ inl h ]

pub told_wins : {E : Type 0} (q : GameProblem) (r : Result Colour E) (Held : (List Cell → Bool) → Colour → Type 0) → ShapesCanBeTold → WinnerExists → NotBothWin → q.passes < 2
    → ((shape : List Cell → Bool) → Tells q.game shape → (x : Colour) → Held shape x → Wins x (start q))
    → ((shape : List Cell → Bool) → Tells q.game shape → IfOk r (Held shape)) → IfOk r (λ x. Wins x (start q))
told_wins q (Err e) Held told exists both few won held = tt
told_wins q (Ok x) Held told exists both few won held = elim (one_of exists x (start q) (omega (arith, few))) [
  | inl h ↦ h
  | inr other ↦ absurd (told q.game (λ s. let h = won s.0 s.1 x (held s.0 s.1) in both x (start q) h.0 other.0 h.1 other.1))
]
