-- How many turns the defender's win takes at most, and that some test tells which colourings live by their shape.
use Rattle.pass_alive.proofs.Common.{◌≡◌, ℕ, zero, suc, ◌*◌, ◌≤◌, ◌↔◌, Bool, true, false, ◌&&◌, nat_eq, eqb-true, eq-eqb, if◌then◌else◌, ◌⊎◌, inl, inr, IsTrue, List, [], ◌∷◌, map, length, refl, sym, ap, ◌∙◌, subst, arith, Colour, Black, White, Cell, Empty, Stone, opponent_of, all_reach_empty, Member, and_left, and_right, and_both, Game, GameState, wins, PassAlive, LivesAt}
use Rattle.std.proofs.Common.{◌^◌, ◌++◌}
use Rattle.std.proofs.lemmas.List.{length-append, length-map}
use Rattle.std.proofs.Math.Nat.{pow-suc}
use Rattle.go_points.specs.Grid.{same_cells}
use Rattle.go_points.proofs.Cells.{same_cells_eq, same_cells_refl}
use Rattle.target_game.proofs.Ending.{colourings, each_is_one, unseen, unseen_most, Decided, decided}
use Rattle.pass_alive.specs.Told.{play_bound, Tells}
use Rattle.pass_alive.specs.Laws.{DefenderWinsWithin, ShapesCanBeTold}
use Rattle.pass_alive.proofs.Never.{never_wins}

-- HOW MANY TURNS

how_many : (m : ℕ) → length (colourings m) ≡ 3 ^ m
how_many zero = refl
how_many (suc m) =
    let cs : List (List Cell) = colourings m in
    let a = length-append (map (λ c. Empty ∷ c) cs) (map (λ c. Stone Black ∷ c) cs ++ map (λ c. Stone White ∷ c) cs) in
    let b = length-append (map (λ c. Stone Black ∷ c) cs) (map (λ c. Stone White ∷ c) cs) in
    let c = length-map cs (λ d. Empty ∷ d) in
    let d = length-map cs (λ d. Stone Black ∷ d) in
    let e = length-map cs (λ d. Stone White ∷ d) in
    let below = how_many m in
    let power = pow-suc 3 m in
    omega (arith, a, b, c, d, e, below, power)

few_unseen : (m : ℕ) (h : List (List Cell)) → unseen m h ≤ 3 ^ m
few_unseen m h =
    let few = unseen_most m h in
    let all = how_many m in
    omega (arith, few, all)

one_of : (x : Colour) (s : GameState) (k : ℕ) → Decided s k → (wins x s k ≡ true) ⊎ (wins (opponent_of x) s k ≡ true)
one_of Black s k d = d
one_of White s k (inl h) = inr h
one_of White s k (inr h) = inl h

pub defender_wins_within : DefenderWinsWithin
defender_wins_within s low lives =
    let few = few_unseen (s.game.size * s.game.size) s.history in
    elim (one_of s.game.defender s (play_bound s.game.size) (decided (play_bound s.game.size) s low (omega (arith, few)))) [
      | inl won ↦ won
      | inr lost ↦ absurd (never_wins s (play_bound s.game.size) lives lost)
    ]

-- A TEST

abbrev TellsIn : Game → List (List Cell) → (List Cell → Bool) → Type 0
TellsIn g cs f = (c : List Cell) → Member c cs → IsTrue (f c) ↔ PassAlive g c

-- one colouring more
told_more : (g : Game) (d : List Cell) (cs : List (List Cell)) (f : List Cell → Bool) (b : Bool) → TellsIn g cs f → IsTrue b ↔ PassAlive g d → TellsIn g (d ∷ cs) (λ c. if same_cells c d then b else f c)
told_more g d cs f b tells is c m = at (same_cells c d) refl m
  where
    at : (t : Bool) → same_cells c d ≡ t → Member c (d ∷ cs) → IsTrue (if t then b else f c) ↔ PassAlive g c
    at true e m' = subst (λ x. IsTrue b ↔ PassAlive g x) (sym (same_cells_eq c d e)) is
    at false e (inl same) = absurd (cc (e, ap (λ x. same_cells x d) same ∙ same_cells_refl d))
    at false e (inr other) = tells c other

some_told : (g : Game) (cs : List (List Cell)) → ((f : List Cell → Bool) × TellsIn g cs f → ⊥) → ⊥
some_told g [] none = none ((λ c. true), λ c m. absurd m)
some_told g (d ∷ cs) none = some_told g cs (λ told.
    let dead : PassAlive g d → ⊥ = λ lives. none ((λ c. if same_cells c d then true else told.0 c), told_more g d cs told.0 true told.1 ((λ is. lives), (λ is. refl))) in
    none ((λ c. if same_cells c d then false else told.0 c), told_more g d cs told.0 false told.1 ((λ is. absurd (cc is)), (λ lives. absurd (dead lives)))))

-- on the positions of a board, of which the list has all
told_whole : (g : Game) (f : List Cell → Bool) → TellsIn g (colourings (g.size * g.size)) f → Tells g (λ c. (nat_eq (length c) (g.size * g.size) && all_reach_empty g.size c) && f c)
told_whole g f tells c = (there, back)
  where
    held : length c ≡ g.size * g.size → Member c (colourings (g.size * g.size))
    held whole = subst (λ m. Member c (colourings m)) whole (each_is_one c)

    there : IsTrue ((nat_eq (length c) (g.size * g.size) && all_reach_empty g.size c) && f c) → LivesAt g c
    there is =
        let place = and_left (nat_eq (length c) (g.size * g.size) && all_reach_empty g.size c) (f c) is in
        let whole = eqb-true (length c) (g.size * g.size) (and_left (nat_eq (length c) (g.size * g.size)) (all_reach_empty g.size c) place) in
        record {
          whole = whole;
          liberties = and_right (nat_eq (length c) (g.size * g.size)) (all_reach_empty g.size c) place;
          shape = (tells c (held whole)).0 (and_right (nat_eq (length c) (g.size * g.size) && all_reach_empty g.size c) (f c) is);
        }

    back : LivesAt g c → IsTrue ((nat_eq (length c) (g.size * g.size) && all_reach_empty g.size c) && f c)
    back lives =
        and_both (nat_eq (length c) (g.size * g.size) && all_reach_empty g.size c) (f c)
        (and_both (nat_eq (length c) (g.size * g.size)) (all_reach_empty g.size c) (eq-eqb (length c) (g.size * g.size) lives.whole) lives.liberties)
        ((tells c (held lives.whole)).1 lives.shape)

pub shapes_can_be_told : ShapesCanBeTold
shapes_can_be_told g none = some_told g (colourings (g.size * g.size)) (λ told. none ((λ c. (nat_eq (length c) (g.size * g.size) && all_reach_empty g.size c) && told.0 c), told_whole g told.0 told.1))
