-- The attacker wins no state whose targets live by their shape.
use Rattle.pass_alive.proofs.Common.{◌≡◌, ℕ, zero, suc, ◌*◌, ◌<◌, ◌≤◌, Bool, true, false, ◌&&◌, nat_eq, nat_lt, eq-eqb, ◌⊎◌, inl, inr, IsTrue, IsFalse, List, [], ◌∷◌, Some, None, refl, sym, ◌∙◌, subst, arith, list_all, Colour, Cell, Empty, Stone, opponent_of, same_cell, points, cell_at, after_move, and_left, and_right, any_to, all_at, all_from, same_cell_eq, eq_same_cell, joined_self, Game, GameState, holds_point, wins, Points, Fixed, Live, PassAlive, Stands, MayMove, after_moves, AreMoves, if◌then◌else◌}
use Rattle.go_points.specs.Grid.{same_colour}
use Rattle.go_points.specs.Ply.{Ply, pass, move}
use Rattle.go_points.proofs.Lists.{any_from}
use Rattle.go_points.proofs.Cells.{same_colour_eq, points_member}
use Rattle.target_game.specs.Legal.{legal, legal_turns}
use Rattle.target_game.specs.Next.{next}
use Rattle.target_game.specs.Over.{targets_stand, over}
use Rattle.target_game.specs.Wins.{Wins, some_or_each}
use Rattle.target_game.specs.Status.{moving, IsAlive}
use Rattle.target_game.proofs.Winning.{wins_over, wins_none, wins_next, member_legal, legal_member}
use Rattle.pass_alive.specs.Laws.{whole_board, AreAnywhere}
use Rattle.pass_alive.proofs.Standing.{pass_alive_stands, pass_alive_stays}
use Rattle.target_game.proofs.Statuses.{one_wins}
use Rattle.target_game.proofs.Moving.{colour_other}

-- the targets stand
targets_there : (s : GameState) (c : List Cell) (stones : Points) → IsTrue (list_all stones s.game.targets) → Stands s.game c stones s.colouring → targets_stand s ≡ true
targets_there s c stones ts st =
    all_from (λ p. same_cell (cell_at s.colouring p) (Stone s.game.defender)) s.game.targets (λ p m. eq_same_cell _ _ (st.chains p p (all_at stones p s.game.targets ts m) (joined_self s.game.size c p)))

-- so nobody has won, or the defender has
not_taken : (s : GameState) → targets_stand s ≡ true → (over s ≡ None) ⊎ (over s ≡ Some s.game.defender)
not_taken s there = go (targets_stand s) (nat_eq s.passes 2) there
  where
    go : (a b : Bool) → a ≡ true → ((if a then (if b then Some s.game.defender else None) else Some (opponent_of s.game.defender)) ≡ None) ⊎ ((if a then (if b then Some s.game.defender else None) else Some (opponent_of s.game.defender)) ≡ Some s.game.defender)
    go true true e = inr refl
    go true false e = inl refl
    go false b e = absurd (cc e)

won_by_defender : (s : GameState) (k : ℕ) → over s ≡ Some s.game.defender → wins (opponent_of s.game.defender) s k ≡ true → ⊥
won_by_defender s k e h = cc (wins_over (opponent_of s.game.defender) s.game.defender s k e, colour_other s.game.defender, h)

-- a legal move is one that the attacker may make
legal_may : (s : GameState) (p : ℕ) → legal s (move p) ≡ true → MayMove s.game s.colouring p
legal_may s p h =
    let three = and_left _ _ h in
    record {
      inside = and_right (nat_lt p (s.game.size * s.game.size)) _ (and_left _ _ three);
      empty = same_cell_eq (cell_at s.colouring p) Empty (and_right (nat_lt p (s.game.size * s.game.size) && holds_point s.game.region p) _ three);
    }

-- some turn of the attacker's, or each turn of the defender's, would have to win
none_wins : (s : GameState) (k : ℕ) → ((t : Ply) → IsTrue (same_colour s.mover (opponent_of s.game.defender)) → legal s t ≡ true → wins (opponent_of s.game.defender) (next s t) k ≡ true → ⊥)
    → (wins (opponent_of s.game.defender) (next s pass) k ≡ true → ⊥)
    → some_or_each (same_colour s.mover (opponent_of s.game.defender)) (λ t. wins (opponent_of s.game.defender) (next s t) k) (legal_turns s) ≡ true → ⊥
none_wins s k none passed h = go (same_colour s.mover (opponent_of s.game.defender)) refl h
  where
    go : (b : Bool) → same_colour s.mover (opponent_of s.game.defender) ≡ b → some_or_each b (λ t. wins (opponent_of s.game.defender) (next s t) k) (legal_turns s) ≡ true → ⊥
    go true turn some =
        let found = any_from (λ t. wins (opponent_of s.game.defender) (next s t) k) (legal_turns s) some in
        none found.0 turn (member_legal s found.0 found.1) found.2
    go false turn each = passed (all_at (λ t. wins (opponent_of s.game.defender) (next s t) k) pass (legal_turns s) each (legal_member s pass refl))

pub never : (k : ℕ) (s : GameState) (c : List Cell) (stones : Points) → Live s.game c stones → IsTrue (list_all stones s.game.targets) → Stands s.game c stones s.colouring → wins (opponent_of s.game.defender) s k ≡ true → ⊥
never zero s c stones live ts st h = elim (not_taken s (targets_there s c stones ts st)) [
  | inl e ↦ cc (wins_none (opponent_of s.game.defender) s e, h)
  | inr e ↦ won_by_defender s 0 e h
]
never (suc k) s c stones live ts st h = go (not_taken s (targets_there s c stones ts st)) (never k (next s pass) c stones live ts st) (λ p. never k (next s (move p)) c stones live ts)
  where
    go : (over s ≡ None) ⊎ (over s ≡ Some s.game.defender) → (wins (opponent_of s.game.defender) (next s pass) k ≡ true → ⊥)
        → ((p : ℕ) → Stands s.game c stones (after_move s.game.size s.colouring s.mover p) → wins (opponent_of s.game.defender) (next s (move p)) k ≡ true → ⊥) → ⊥
    go (inr e) passed moved = won_by_defender s (suc k) e h
    go (inl e) passed moved = none_wins s k by_turn passed (sym (wins_next (opponent_of s.game.defender) s k e) ∙ h)
      where
        by_turn : (t : Ply) → IsTrue (same_colour s.mover (opponent_of s.game.defender)) → legal s t ≡ true → wins (opponent_of s.game.defender) (next s t) k ≡ true → ⊥
        by_turn pass turn is = passed
        by_turn (move p) turn is =
            moved p (subst (λ m. Stands s.game c stones (after_move s.game.size s.colouring m p)) (sym (same_colour_eq s.mover (opponent_of s.game.defender) turn)) (pass_alive_stays s.game c stones live s.colouring p st (legal_may s p is)))

pub never_wins : (s : GameState) (k : ℕ) → PassAlive s.game s.colouring → wins (opponent_of s.game.defender) s k ≡ true → ⊥
never_wins s k lives = never k s s.colouring lives.stones lives.live lives.targets (pass_alive_stands s.game s.colouring lives.stones lives.live)

pub attacker_never_wins : (s : GameState) (k : ℕ) → PassAlive s.game s.colouring → IsFalse (wins (opponent_of s.game.defender) s k)
attacker_never_wins s k lives = go (wins (opponent_of s.game.defender) s k) refl
  where
    go : (b : Bool) → wins (opponent_of s.game.defender) s k ≡ b → b ≡ false
    go true e = absurd (never_wins s k lives e)
    go false e = refl

pub defender_wins : (s : GameState) → s.passes ≤ 2 → PassAlive s.game s.colouring → Wins s.game.defender s
defender_wins s low lives = elim (one_wins s.game.defender s low) [
  | inl won ↦ won
  | inr lost ↦ absurd (never_wins s lost.0 lives lost.1)
]

pub pass_alive_is_alive : (s : GameState) → s.passes ≡ 0 → PassAlive s.game s.colouring → IsAlive s
pass_alive_is_alive s none lives = record {
  moving_first = defender_wins (moving s.game.defender s) (omega (arith, none)) lives;
  moving_second = defender_wins (moving (opponent_of s.game.defender) s) (omega (arith, none)) lives;
}

-- a part of the region leaves what was fixed as it is
pub lives_in_less : (g : Game) (c : List Cell) (region : List ℕ) → ((q : ℕ) → IsTrue (holds_point region q) → IsTrue (holds_point g.region q)) → PassAlive g c → PassAlive (record g { region = region }) c
lives_in_less g c region part lives = record {
  stones = lives.stones;
  live = record {
    own = lives.live.own;
    safe = λ p is. elim (lives.live.safe p is) [
      | inl lasting ↦ inl (lasting.0, still lasting.0 lasting.1, lasting.2)
      | inr eyes ↦ inr eyes
    ];
  };
  targets = lives.targets;
}
  where
    none : (q : ℕ) (b : Bool) → holds_point region q ≡ b → holds_point g.region q ≡ false → b ≡ false
    none q true e outside = absurd (cc (part q e, outside))
    none q false e outside = refl

    still : (q : ℕ) → Fixed g.region c q → Fixed region c q
    still q f = record { empty = f.empty; outside = none q (holds_point region q) refl f.outside }

stands_through : (g : Game) (c : List Cell) (stones : Points) → Live g c stones → (ps : List ℕ) (d : List Cell) → Stands g c stones d → AreMoves g d ps → Stands g c stones (after_moves g d ps)
stands_through g c stones live [] d st are = st
stands_through g c stones live (p ∷ ps) d st are = stands_through g c stones live ps (after_move g.size d (opponent_of g.defender) p) (pass_alive_stays g c stones live d p st are.0) are.1

pub never_taken : (g : Game) (c : List Cell) (stones : Points) → Live g c stones → (ps : List ℕ) → AreMoves g c ps → (p : ℕ) → IsTrue (stones p) → cell_at (after_moves g c ps) p ≡ Stone g.defender
never_taken g c stones live ps are p is = (stands_through g c stones live ps c (pass_alive_stands g c stones live) are).chains p p is (joined_self g.size c p)

-- on the whole board
point_held : (n p : ℕ) → p < n * n → holds_point (points n) p ≡ true
point_held n p on = any_to (nat_eq p) p (points n) (points_member n p on) (eq-eqb p p refl)

anywhere : (n : ℕ) (k : Colour) (ps : List ℕ) (c : List Cell) → AreAnywhere n k c ps → AreMoves (whole_board n k) c ps
anywhere n k [] c are = tt
anywhere n k (p ∷ ps) c are = (record { inside = point_held n p are.0; empty = are.1 }, anywhere n k ps (after_move n c (opponent_of k) p) are.2)

pub never_taken_anywhere : (n : ℕ) (k : Colour) (c : List Cell) (stones : Points) → Live (whole_board n k) c stones → (ps : List ℕ) → AreAnywhere n k c ps → (p : ℕ) → IsTrue (stones p) → cell_at (after_moves (whole_board n k) c ps) p ≡ Stone k
never_taken_anywhere n k c stones live ps are p is = never_taken (whole_board n k) c stones live ps (anywhere n k ps c are) p is
