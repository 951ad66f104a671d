-- The problem that is made at the end of a walk.
use Rattle.tsumego_problem.proofs.Common.{◌≡◌, ℕ, ◌<◌, true, List, [], ◌∷◌, map, length, get_or, Option, Some, None, Ok, refl, sym, ◌∙◌, ap, ap₂, subst, rules, unwrap_or, list_all, Colour, Cell, Stone, cell_at, same_cell, same_cells, same_cells_refl, side_of, Place, number_of, place_in, GameRecord, colouring_of, no_element, GameProblem, first_refusal, refusals, problem_of as problem_of_parts, Node, targets_at, region_at, colour_of, problem_at, walk_of}
use Rattle.target_game.proofs.Facts.{facts, unrefused}
use Rattle.tsumego_problem.proofs.Assigning.{at_its_place}
use Rattle.std.proofs.lemmas.List.Folds.{list_any_at}

-- where a colouring that has occurred stands
pub stands_at : (h : List (List Cell)) (c : List Cell) (i : ℕ) → i < length h → get_or h i [] ≡ c → get_or h (unwrap_or (place_in h c) 0) [] ≡ c
stands_at h c i low at = go (place_in h c) refl
  where
    go : (o : Option ℕ) → place_in h c ≡ o → get_or h (unwrap_or (place_in h c) 0) [] ≡ c
    go (Some p) e = ap (λ o. get_or h (unwrap_or o 0) []) e ∙ at_its_place h c p e
    go None e = absurd (cc (no_element (same_cells c) h e, list_any_at (same_cells c) h i [] low (ap (same_cells c) at ∙ same_cells_refl c)))

-- the colour of stones that stand
pub colour_standing : (c : List Cell) (k : Colour) (ps : List ℕ) → 0 < length ps → list_all (λ p. same_cell (cell_at c p) (Stone k)) ps ≡ true → colour_of c ps ≡ k
colour_standing c k ps h g = search rules

-- the parts of a problem
record Parts (history : List (List Cell)) (place : ℕ) (mover : Colour) (passes : ℕ) (targets region : List Place) (q : GameProblem) : Type 0 where
  history_is : q.history ≡ history
  place_is : q.place ≡ place
  mover_is : q.mover ≡ mover
  passes_are : q.passes ≡ passes
  targets_are : q.game.targets ≡ map (number_of q.game.size) targets
  region_is : q.game.region ≡ map (number_of q.game.size) region

parts : (history : List (List Cell)) (place : ℕ) (mover : Colour) (passes : ℕ) (targets region : List Place) (q : GameProblem) → problem_of_parts history place mover passes targets region ≡ Ok q → Parts history place mover passes targets region q
unfolding problem_of_parts
parts [] place mover passes targets region q h = absurd (cc)
parts (c ∷ cs) place mover passes targets region q h =
    subst (λ r. Parts (c ∷ cs) place mover passes targets region r) (unrefused (first_refusal (refusals (side_of c) (c ∷ cs) place passes targets region)) _ q h).1
    (record { history_is = refl; place_is = refl; mover_is = refl; passes_are = refl; targets_are = refl; region_is = refl })

module _ (n : ℕ) (node : Node) (r : GameRecord) (mover : Colour) (place : ℕ) (targets region : List Place) (q : GameProblem)
    (within : r.present.place < length r.present.history) (side : side_of (colouring_of r.present) ≡ n)
    (stands : place ≡ unwrap_or (place_in r.present.history (colouring_of r.present)) 0)
    (marked : map (number_of n) targets ≡ targets_at n node) (area : map (number_of n) region ≡ region_at n node)
    (made : problem_of_parts r.present.history place mover r.present.passes targets region ≡ Ok q) where
  pub problem_made : q ≡ problem_at n node (walk_of r mover)
  problem_made =
      let f = facts r.present.history place mover r.present.passes targets region q made in
      let p = parts r.present.history place mover r.present.passes targets region q made in
      let size : q.game.size ≡ n = sym (f.sides r.present.place [] within) ∙ side in
      let here : get_or q.history q.place [] ≡ colouring_of r.present = ap₂ (λ h i. get_or h i []) p.history_is (p.place_is ∙ stands) ∙ stands_at r.present.history (colouring_of r.present) r.present.place within refl in
      let targets_are : q.game.targets ≡ targets_at n node = p.targets_are ∙ ap (λ m. map (number_of m) targets) size ∙ marked in
      let region_is : q.game.region ≡ region_at n node = p.region_is ∙ ap (λ m. map (number_of m) region) size ∙ area in
      let defender : q.game.defender ≡ colour_of (colouring_of r.present) (targets_at n node) =
      sym (colour_standing (get_or q.history q.place []) q.game.defender q.game.targets f.problem.some_target f.problem.stones) ∙ ap₂ colour_of here targets_are in
      λ i. record {
        game = record { size = size i; targets = targets_are i; defender = defender i; region = region_is i };
        history = p.history_is i;
        place = (p.place_is ∙ stands) i;
        mover = p.mover_is i;
        passes = p.passes_are i;
      }
