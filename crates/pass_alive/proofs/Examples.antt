-- Groups that live by their shape, and groups that do not: for these the moves that take a target are computed by the definitions of
-- play. Boards of 3 and 4 rows; points aa, ba, ca, .. are 0, 1, 2, ..
use Rattle.pass_alive.proofs.Common.{◌≡◌, ℕ, zero, suc, true, false, inl, inr, nat_eq, eqb-true, eq-eqb, List, [], ◌∷◌, refl, sym, ap, subst, list_all, Colour, Black, Cell, Empty, Stone, adjacent, neighbours, points, same_cell, cell_at, reaches, clear, after_move, all_at, same_cell_eq, eq_same_cell, neighbours_member, Joined, joined_on, Game, Points, IsBeside, Lasting, EyeOf, PassAlive, MayMove, after_moves, AreMoves}
use Rattle.std.proofs.Common.{unwrap_or, codes}
use Prim.Native.String.{String}
use Rattle.go_points.specs.Reach.{reaches_within}
use Rattle.go_points.specs.Text.{cells_of}
use Rattle.pass_alive.proofs.Never.{never_taken}

abbrev cells : String → List Cell
cells text = unwrap_or (cells_of (codes text)) []

-- Black's game with one target
abbrev game : ℕ → ℕ → List ℕ → Game
game n target region = record { size = n; targets = target ∷ []; defender = Black; region = region }

-- moves that take the target show that it does not live by its shape
taken_by : (n target : ℕ) (region : List ℕ) (c : List Cell) (ps : List ℕ) → AreMoves (game n target region) c ps → same_cell (cell_at (after_moves (game n target region) c ps) target) (Stone Black) ≡ false → PassAlive (game n target region) c → ⊥
taken_by n target region c ps are gone alive =
    let stands : cell_at (after_moves (game n target region) c ps) target ≡ Stone Black = never_taken (game n target region) c alive.stones alive.live ps are target (all_at alive.stones target (target ∷ []) alive.targets (inl refl)) in
    cc (eq_same_cell _ _ stands, gone)

-- three points in a row are one eye: White plays the middle first
three : List Cell
three = cells "...XXXXXX"

three_are_one_eye : PassAlive (game 3 4 (points 3)) three → ⊥
unfolding three neighbours reaches_within reaches clear after_move
three_are_one_eye = taken_by 3 4 (points 3) three (1 ∷ 0 ∷ 2 ∷ []) (record { inside = refl; empty = refl }, (record { inside = refl; empty = refl }, (record { inside = refl; empty = refl }, tt))) refl

-- one eye and another that White's suicide empties: its empty points are beside Black's chain at first, and its corner is not. White
-- fills it, takes his own four stones by the last of these moves, fills it again up to the corner, and then fills the other eye
corner : List Cell
corner = cells "O.XX..XXXXXXXXX."

emptied_by_suicide : PassAlive (game 4 2 (points 4)) corner → ⊥
unfolding corner neighbours reaches_within reaches clear after_move
emptied_by_suicide =
    let one : MayMove (game 4 2 (points 4)) corner 1 = record { inside = refl; empty = refl } in
    taken_by 4 2 (points 4) corner (1 ∷ 4 ∷ 5 ∷ 1 ∷ 4 ∷ 5 ∷ 15 ∷ [])
    (one, (record { inside = refl; empty = refl }, (record { inside = refl; empty = refl }, (record { inside = refl; empty = refl }, (record { inside = refl; empty = refl }, (record { inside = refl; empty = refl }, (record { inside = refl; empty = refl }, tt))))))) refl

-- an eye beside a stone of White's that has a liberty outside the region: White fills it
beside_lasting : List Cell
beside_lasting = cells ".XX.XXXOOOO....."

eye_beside_a_lasting_stone : PassAlive (game 4 1 (0 ∷ 3 ∷ [])) beside_lasting → ⊥
unfolding beside_lasting neighbours reaches_within reaches clear after_move
eye_beside_a_lasting_stone = taken_by 4 1 (0 ∷ 3 ∷ []) beside_lasting (3 ∷ 0 ∷ []) (record { inside = refl; empty = refl }, (record { inside = refl; empty = refl }, tt)) refl

-- one eye of two points is not two eyes
two_points : List Cell
two_points = cells "..XXXXXXX"

one_eye_is_not_two : PassAlive (game 3 4 (points 3)) two_points → ⊥
unfolding two_points neighbours reaches_within reaches clear after_move
one_eye_is_not_two = taken_by 3 4 (points 3) two_points (0 ∷ 1 ∷ []) (record { inside = refl; empty = refl }, (record { inside = refl; empty = refl }, tt)) refl

-- a target off the board is no stone that lives: it is not there in the first place
target_off_the_board : PassAlive (game 3 9 (points 3)) (cells ".XXXXXXX.") → ⊥
target_off_the_board = taken_by 3 9 (points 3) (cells ".XXXXXXX.") [] tt refl

-- two eyes of one point each: the stones around live
one_point_eye : (n : ℕ) (k : Colour) (c : List Cell) (stones : Points) (x p : ℕ) → cell_at c p ≡ Empty → list_all stones (neighbours n p) ≡ true → IsBeside n c x p → EyeOf n k c stones x (λ q. nat_eq q p)
one_point_eye n k c stones x p free around near = record {
  space = record {
    not_own = λ q here e. cc (free, e, ap (cell_at c) (eqb-true q p here));
    some_empty = (p, eq-eqb p p refl, free);
    enclosed = λ q r here adj. inr (all_at stones r (neighbours n p) around (neighbours_member n p r (subst (λ z. adjacent n z r ≡ true) (eqb-true q p here) adj)));
  };
  beside = λ q here. subst (IsBeside n c x) (sym (eqb-true q p here)) near;
}

two_eyes : List Cell
two_eyes = cells ".XXXXXXX."

is_black : Points
is_black q = same_cell (cell_at two_eyes q) (Stone Black)

-- each stone is joined with that in the middle
to_middle : (x : ℕ) → is_black x ≡ true → Joined 3 two_eyes x 4
unfolding two_eyes is_black
to_middle zero h = absurd (cc h)
to_middle (suc zero) h = (4 ∷ [], (refl, refl, (refl, refl)))
to_middle (suc (suc zero)) h = (1 ∷ 4 ∷ [], (refl, refl, (refl, refl, (refl, refl))))
to_middle (suc (suc (suc zero))) h = (4 ∷ [], (refl, refl, (refl, refl)))
to_middle (suc (suc (suc (suc zero)))) h = ([], (refl, refl))
to_middle (suc (suc (suc (suc (suc zero))))) h = (4 ∷ [], (refl, refl, (refl, refl)))
to_middle (suc (suc (suc (suc (suc (suc zero)))))) h = (3 ∷ 4 ∷ [], (refl, refl, (refl, refl, (refl, refl))))
to_middle (suc (suc (suc (suc (suc (suc (suc zero))))))) h = (4 ∷ [], (refl, refl, (refl, refl)))
to_middle (suc (suc (suc (suc (suc (suc (suc (suc zero)))))))) h = absurd (cc h)
to_middle (suc (suc (suc (suc (suc (suc (suc (suc (suc x))))))))) h = absurd (cc h)

two_eyes_live : PassAlive (game 3 4 (points 3)) two_eyes
unfolding two_eyes is_black neighbours
two_eyes_live = record {
  stones = is_black;
  live = record {
    own = λ p h. same_cell_eq (cell_at two_eyes p) (Stone Black) h;
    safe = λ x h. inr (record {
      first = λ q. nat_eq q 0;
      second = λ q. nat_eq q 8;
      is_first = one_point_eye 3 Black two_eyes is_black x 0 refl refl (1, refl, joined_on 3 two_eyes x 4 1 (to_middle x h) (1 ∷ [], (refl, refl, (refl, refl))));
      is_second = one_point_eye 3 Black two_eyes is_black x 8 refl refl (7, refl, joined_on 3 two_eyes x 4 7 (to_middle x h) (7 ∷ [], (refl, refl, (refl, refl))));
      apart = λ q here. ap (λ z. nat_eq z 8) (eqb-true q 0 here);
    });
  };
  targets = refl;
}

-- a liberty outside the region lives
beside_outside : List Cell
beside_outside = cells "XXX......"

lasting_liberty_lives : PassAlive (game 3 0 (0 ∷ 1 ∷ 2 ∷ [])) beside_outside
unfolding beside_outside neighbours
lasting_liberty_lives = record {
  stones = λ q. nat_eq q 0;
  live = record {
    own = λ p here. ap (cell_at beside_outside) (eqb-true p 0 here);
    safe = λ p here. inl (subst (Lasting 3 (0 ∷ 1 ∷ 2 ∷ []) beside_outside) (sym (eqb-true p 0 here)) (3, record { empty = refl; outside = refl }, (0, refl, ([], (refl, refl)))));
  };
  targets = refl;
}
