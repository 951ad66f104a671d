-- Winning while each board passes a test: what it means that one does not.
use Rattle.safe_groups.proofs.Common.{sym, refl, ◌≡◌, ◌∙◌, List, ℕ, zero, suc, ap, true, false, Bool, inl, inr, ◌⊎◌, not, Cell, Colour, GameState}
use Rattle.std.proofs.Common.{Some, None, ◌||◌}
use Rattle.go_points.specs.declared.Colour.TheVariants.{Black, White}
use Rattle.go_points.specs.Grid.{same_colour}
use Rattle.go_points.specs.Ply.{Ply}
use Rattle.go_points.proofs.Lists.{any_to, all_from}
use Rattle.target_game.specs.Legal.{legal, legal_turns}
use Rattle.target_game.specs.Next.{next}
use Rattle.target_game.specs.Over.{over}
use Rattle.target_game.specs.Wins.{is_winner, some_or_each}
unfoldable use Rattle.target_game.specs.Wins.{wins}
use Rattle.target_game.proofs.Winning.{legal_member, member_legal, over_cases, weaker, wins_next, wins_over}
unfoldable use Rattle.dead_groups.specs.While.{wins_while}

-- what cannot be false is true
pub stable : (b : Bool) → (b ≡ false → ⊥) → b ≡ true
stable true ever = refl
stable false ever = absurd (ever refl)

-- neither of two is
neither : (x y : Bool) → (not x || y) ≡ false → (x ≡ true) × (y ≡ false)
neither true y e = (refl, e)
neither false y e = absurd (cc e)

either : (x y : Bool) → x ≡ true → (not x || y) ≡ y
either true y e = refl
either false y e = absurd (cc e)

same_self : (k : Colour) → same_colour k k ≡ true
same_self Black = refl
same_self White = refl

module _ (test : List Cell → Bool) (x : Colour) where
  -- where it is not so, the board passes the test
  pub lost_passes : (s : GameState) (k : ℕ) → wins_while test x s k ≡ false → test s.colouring ≡ true
  unfolding wins_while
  lost_passes s zero lost = (neither (test s.colouring) _ lost).0
  lost_passes s (suc k) lost = (neither (test s.colouring) _ lost).0

  while_over : (s : GameState) (k : ℕ) (y : Colour) → test s.colouring ≡ true → over s ≡ Some y → wins_while test x s k ≡ same_colour y x
  unfolding wins_while
  while_over s zero y passes e = either (test s.colouring) _ passes ∙ ap (is_winner x) e
  while_over s (suc k) y passes e = rw (e, wins_while) (either (test s.colouring) (same_colour y x) passes)

  while_next : (s : GameState) (k : ℕ) → test s.colouring ≡ true → over s ≡ None → wins_while test x s (suc k) ≡ some_or_each (same_colour s.mover x) (λ t. wins_while test x (next s t) k) (legal_turns s)
  unfolding wins_while
  while_next s k passes e = rw (e, wins_while) (either (test s.colouring) (some_or_each (same_colour s.mover x) (λ t. wins_while test x (next s t) k) (legal_turns s)) passes)

  -- and x has not won
  pub lost_not_won : (s : GameState) (k : ℕ) → wins_while test x s k ≡ false → over s ≡ Some x → ⊥
  lost_not_won s k lost e = cc (while_over s k x (lost_passes s k lost) e, same_self x, lost)

  -- nor does it, at its own move, by any turn
  pub lost_by_turn : (s : GameState) (j i : ℕ) (t : Ply) → over s ≡ None → s.mover ≡ x → legal s t ≡ true → suc j ≡ i → wins_while test x s i ≡ false → wins_while test x (next s t) j ≡ false
  lost_by_turn s j i t open_ mine is size lost = go (wins_while test x (next s t) j) refl
    where
      now : wins_while test x s (suc j) ≡ false
      now = ap (wins_while test x s) size ∙ lost

      go : (b : Bool) → wins_while test x (next s t) j ≡ b → b ≡ false
      go true e = absurd (cc (
        now,
        while_next s j (lost_passes s (suc j) now) open_,
        ap (λ b. some_or_each b (λ u. wins_while test x (next s u) j) (legal_turns s)) (ap (λ m. same_colour m x) mine ∙ same_self x),
        any_to (λ u. wins_while test x (next s u) j) t (legal_turns s) (legal_member s t is) e,
      ))
      go false e = refl

  -- at the other side's move, not every turn wins
  pub lost_by_reply : (s : GameState) (j i : ℕ) → over s ≡ None → same_colour s.mover x ≡ false → suc j ≡ i → wins_while test x s i ≡ false → ((t : Ply) → legal s t ≡ true → wins_while test x (next s t) j ≡ false → ⊥) → ⊥
  lost_by_reply s j i open_ theirs size lost each =
      let now : wins_while test x s (suc j) ≡ false = ap (wins_while test x s) size ∙ lost in
      cc (
        now,
        while_next s j (lost_passes s (suc j) now) open_,
        ap (λ b. some_or_each b (λ u. wins_while test x (next s u) j) (legal_turns s)) theirs,
        all_from (λ u. wins_while test x (next s u) j) (legal_turns s) (λ t m. stable (wins_while test x (next s t) j) (each t (member_legal s t m))),
      )

  while_zero : (s : GameState) → test s.colouring ≡ true → wins_while test x s 0 ≡ wins x s 0
  unfolding wins_while wins
  while_zero s passes = either (test s.colouring) (is_winner x (over s)) passes

  -- where all boards pass, it is to win
  pub while_wins : ((b : List Cell) → test b ≡ true) → (s : GameState) (k : ℕ) → wins_while test x s k ≡ true → wins x s k ≡ true
  while_wins all s zero h = sym (while_zero s (all s.colouring)) ∙ h
  while_wins all s (suc k) h = go (over_cases s) (λ t. while_wins all (next s t) k)
    where
      go : (over s ≡ None) ⊎ ((y : Colour) × (over s ≡ Some y)) → ((t : Ply) → wins_while test x (next s t) k ≡ true → wins x (next s t) k ≡ true) → wins x s (suc k) ≡ true
      go (inl e) more = wins_next x s k e ∙ weaker (same_colour s.mover x) (λ t. wins_while test x (next s t) k) (λ t. wins x (next s t) k) (legal_turns s) more (sym (while_next s k (all s.colouring) e) ∙ h)
      go (inr (y, e)) more = wins_over x y s (suc k) e ∙ sym (while_over s (suc k) y (all s.colouring) e) ∙ h
