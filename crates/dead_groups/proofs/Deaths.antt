-- The attacker wins where the group is dead by answers.
use Rattle.safe_groups.proofs.Common.{sym, subst, refl, ◌≡◌, ◌∙◌, List, [], ℕ, IsTrue, true, false, inl, inr, ◌*◌, ◌<◌, ◌≤◌, ◌⊎◌, arith, opponent_of, opponent_twice, Cell, Colour, Fits, in_one, has_occurred, GameState}
use Rattle.std.proofs.Common.{◌+◌}
use Rattle.std.specs.List.{count_by}
use Rattle.go_points.specs.Grid.{points}
use Rattle.go_points.proofs.Clearing.{all_every}
use Rattle.target_game.specs.Wins.{wins, Wins}
use Rattle.target_game.specs.Status.{moving, IsDead}
use Rattle.target_game.proofs.Moving.{attacker_may_move_first}
use Rattle.dead_groups.specs.Kills.{result}
use Rattle.dead_groups.specs.While.{are_free, wins_while}
use Rattle.dead_groups.specs.Laws.{KillsBy, IsDeadByMove, IsDeadByAnswers, area_of, moves_of}
use Rattle.dead_groups.proofs.Areas.{left, at_most}
use Rattle.dead_groups.proofs.While.{stable, while_wins}
use Rattle.dead_groups.proofs.Turns.{least, both, taken, walled_result, Keeps, Moves, Waits}

module _ (s : GameState) (stones : List ℕ) (by : KillsBy s stones) where
  other : s.game.defender ≡ opponent_of (opponent_of s.game.defender)
  other = sym (opponent_twice s.game.defender)

  few_left : left s.game.size (opponent_of s.game.defender) by.areas by.states by.replies s.colouring ≤ count_by (in_one by.areas.count by.areas.answers) (points s.game.size)
  few_left = at_most s.game.size (opponent_of s.game.defender) by.areas by.states by.replies s.colouring

  keeps : Keeps s.game (opponent_of s.game.defender) other by.areas by.states by.kept by.region stones by.entries by.replies by.answers_allowed by.moves_allowed by.apart by.each by.state s.colouring s.history
  keeps = record { listed = by.listed; holds = by.holds; stands = by.stands; sound = all_every s.game.size s.colouring by.holds.full by.sound }

  steps : (m : ℕ) → Moves s.game (opponent_of s.game.defender) other by.areas by.states by.kept by.region stones by.entries by.replies by.answers_allowed by.moves_allowed by.apart by.each m
      × Waits s.game (opponent_of s.game.defender) other by.areas by.states by.kept by.region stones by.entries by.replies by.answers_allowed by.moves_allowed by.apart by.each m
  steps m = both s.game (opponent_of s.game.defender) other by.areas by.states by.kept by.region stones by.entries by.replies by.answers_allowed by.moves_allowed by.apart by.each m

  -- the least entry whose result the board fits, or their number
  abbrev Least : ℕ → Type 0
  Least i = (i ≡ by.entries.count) ⊎ ((i < by.entries.count) × Fits (area_of s stones by) s.colouring (result (area_of s stones by) by.entries i))

pub attacker_wins_by_move_while : (s : GameState) (stones : List ℕ) (dead : IsDeadByMove s stones) → s.mover ≡ opponent_of s.game.defender → s.passes ≤ 1
    → IsTrue (wins_while (are_free (area_of s stones dead.by) stones) (opponent_of s.game.defender) s (2 * moves_of s stones dead.by))
attacker_wins_by_move_while s stones dead mine few = stable (wins_while (are_free (area_of s stones dead.by) stones) (opponent_of s.game.defender) s (2 * moves_of s stones dead.by)) lost
  where
    lost : wins_while (are_free (area_of s stones dead.by) stones) (opponent_of s.game.defender) s (2 * moves_of s stones dead.by) ≡ false → ⊥
    lost e = least (λ j. Fits (area_of s stones dead.by) s.colouring (dead.by.entries.state j)) dead.entry dead.fits
        (λ j le fits none. (steps s stones dead.by (moves_of s stones dead.by)).0 dead.by.state s.colouring s.history s.passes j (keeps s stones dead.by) few (omega (arith, le, dead.within)) fits
        (λ i low q old f. dead.past i (omega (arith, low, le, dead.within)) (λ l less g. none l (omega (arith, less, low)) g) q old f)
        (omega (arith, le, dead.within, few_left s stones dead.by))
        (subst (λ mover. wins_while (are_free (area_of s stones dead.by) stones) (opponent_of s.game.defender) (record s { mover = mover }) (2 * moves_of s stones dead.by) ≡ false) mine e))

pub attacker_wins_while : (s : GameState) (stones : List ℕ) (dead : IsDeadByAnswers s stones) → s.mover ≡ s.game.defender → s.passes ≡ 0
    → IsTrue (wins_while (are_free (area_of s stones dead.by) stones) (opponent_of s.game.defender) s (2 * moves_of s stones dead.by + 1))
attacker_wins_while s stones dead theirs none = stable (wins_while (are_free (area_of s stones dead.by) stones) (opponent_of s.game.defender) s (2 * moves_of s stones dead.by + 1)) lost
  where
    lost : wins_while (are_free (area_of s stones dead.by) stones) (opponent_of s.game.defender) s (2 * moves_of s stones dead.by + 1) ≡ false → ⊥
    lost e = least (Least s stones dead.by) dead.by.entries.count (inl refl) first
      where
        now : wins_while (are_free (area_of s stones dead.by) stones) (opponent_of s.game.defender) (record s { mover = opponent_of (opponent_of s.game.defender); passes = 0 }) (2 * moves_of s stones dead.by + 1) ≡ false
        now = subst (λ mover. wins_while (are_free (area_of s stones dead.by) stones) (opponent_of s.game.defender) (record s { mover = mover; passes = 0 }) (2 * moves_of s stones dead.by + 1) ≡ false) (theirs ∙ other s stones dead.by)
            (subst (λ p. wins_while (are_free (area_of s stones dead.by) stones) (opponent_of s.game.defender) (record s { passes = p }) (2 * moves_of s stones dead.by + 1) ≡ false) none e)

        new : (i : ℕ) → i ≤ dead.by.entries.count → ((l : ℕ) → l < i → Least s stones dead.by l → ⊥) → (l : ℕ) → l < i → (q : List Cell) → has_occurred s.history q ≡ true → Fits (area_of s stones dead.by) q (result (area_of s stones dead.by) dead.by.entries l) → ⊥
        new i le never l low q old f = dead.past l (omega (arith, low, le)) (λ j less g. never j (omega (arith, less, low)) (inr (omega (arith, less, low, le), g))) q old f

        first : (i : ℕ) → i ≤ dead.by.entries.count → Least s stones dead.by i → ((l : ℕ) → l < i → Least s stones dead.by l → ⊥) → ⊥
        first i le (inl at) never = (steps s stones dead.by (moves_of s stones dead.by)).1 dead.by.state s.colouring s.history dead.begin dead.by.entries.count (keeps s stones dead.by) dead.walled dead.fits dead.lost (omega arith)
            (λ l low. new i le never l (omega (arith, low, at))) (omega (arith, few_left s stones dead.by)) now
        first i le (inr (low, f)) never = elim (dead.by.each i low).leads [
          | inl gone ↦ taken s.game (opponent_of s.game.defender) (other s stones dead.by) dead.by.areas dead.by.states dead.by.kept dead.by.region stones dead.by.entries dead.by.replies dead.by.answers_allowed dead.by.moves_allowed dead.by.apart dead.by.each
              s.colouring s.history s.mover s.passes (2 * moves_of s stones dead.by + 1) (result (area_of s stones dead.by) dead.by.entries i) f gone e
          | inr is ↦ (steps s stones dead.by (moves_of s stones dead.by)).1 dead.by.state s.colouring s.history (result (area_of s stones dead.by) dead.by.entries i) i (keeps s stones dead.by)
              (walled_result s.game (opponent_of s.game.defender) (other s stones dead.by) dead.by.areas dead.by.states dead.by.kept dead.by.region stones dead.by.entries dead.by.replies dead.by.answers_allowed dead.by.moves_allowed dead.by.apart dead.by.each i low)
              f is (omega (arith, low)) (new i le never) (omega (arith, low, few_left s stones dead.by)) now
        ]

-- with no stones that are only supposed to stand
pub attacker_wins_by_move : (s : GameState) (dead : IsDeadByMove s []) → s.mover ≡ opponent_of s.game.defender → s.passes ≤ 1 → IsTrue (wins (opponent_of s.game.defender) s (2 * moves_of s [] dead.by))
attacker_wins_by_move s dead mine few = while_wins (are_free (area_of s [] dead.by) []) (opponent_of s.game.defender) (λ b. refl) s (2 * moves_of s [] dead.by) (attacker_wins_by_move_while s [] dead mine few)

pub attacker_wins : (s : GameState) (dead : IsDeadByAnswers s []) → s.mover ≡ s.game.defender → s.passes ≡ 0 → IsTrue (wins (opponent_of s.game.defender) s (2 * moves_of s [] dead.by + 1))
attacker_wins s dead theirs none = while_wins (are_free (area_of s [] dead.by) []) (opponent_of s.game.defender) (λ b. refl) s (2 * moves_of s [] dead.by + 1) (attacker_wins_while s [] dead theirs none)

-- it is dead whoever is to move
moved : (s : GameState) (x : Colour) → KillsBy s [] → KillsBy (moving x s) []
moved s x by = record {
  areas = by.areas;
  states = by.states;
  state = by.state;
  kept = by.kept;
  region = by.region;
  entries = by.entries;
  sound = by.sound;
  answers_allowed = by.answers_allowed;
  moves_allowed = by.moves_allowed;
  replies = by.replies;
  listed = by.listed;
  holds = by.holds;
  stands = by.stands;
  apart = by.apart;
  each = by.each;
}

pub answered_is_dead : (s : GameState) → s.passes ≡ 0 → IsDeadByAnswers s [] → IsDead s
unfolding moved
answered_is_dead s none dead = record { moving_first = attacker_may_move_first s none second; moving_second = second }
  where
    dead_moved : IsDeadByAnswers (moving s.game.defender s) []
    dead_moved = record { by = moved s s.game.defender dead.by; begin = dead.begin; walled = dead.walled; fits = dead.fits; lost = dead.lost; past = dead.past }

    second : Wins (opponent_of s.game.defender) (moving s.game.defender s)
    second = (2 * moves_of s [] dead.by + 1, attacker_wins (moving s.game.defender s) dead_moved refl none)
