-- Sets of places, as lists of the numbers of points.
use Rattle.pass_alive.proofs.Common.{◌≡◌, ℕ, suc, ◌+◌, ◌*◌, ◌/◌, ◌<◌, Bool, true, false, cond, ◌&&◌, ◌||◌, IsTrue, nat_eq, eqb-true, List, [], ◌∷◌, map, refl, sym, ◌∙◌, ap, subst, arith, All, list_all, Colour, div-add-mod', Place, IsOn, number_of, place_of, same_place, holds_place, same_place_decides, holds_point, these, number_on, game_of}
use Rattle.std.proofs.Common.{ap₂}
use Rattle.std.proofs.lemmas.Nat.{div-mul-add, div_below, mod_below}
use Rattle.go_points.specs.Place.{on_board}
use Rattle.go_points.specs.Private.Inverses.{same_numbers}
use Rattle.target_game.specs.Kept.{kept_game}
use Rattle.go_turns.proofs.Turns.{on_from, is_on_from}
use Rattle.go_turns.proofs.Openings.{place_back}

pub number_back : (n q : ℕ) → number_of n (place_of n q) ≡ q
number_back n q = div-add-mod' q n

pub on_place : (n q : ℕ) → q < n * n → IsOn n (place_of n q)
on_place n q low =
    let some : 0 < n = grind (arith, low) in
    record { row_within = div_below q n n some low; column_within = mod_below q n some }

number_is : (n : ℕ) (p : Place) → IsOn n p → number_on n p ≡ number_of n p
number_is n p on = ap (λ b. cond b (number_of n p) (n * n)) (on_from n p on)

number_off : (n : ℕ) (p : Place) → on_board n p ≡ false → number_on n p ≡ n * n
number_off n p off = ap (λ b. cond b (number_of n p) (n * n)) off

-- the point q is the place p
one_point : (n q : ℕ) (p : Place) → q < n * n → IsOn n (place_of n q) → nat_eq q (number_on n p) ≡ same_place (place_of n q) p
one_point n q p low on = go (on_board n p) refl
  where
    unlike : (b : Bool) → same_place (place_of n q) p ≡ b → on_board n p ≡ false → b ≡ false
    unlike true e off = absurd (cc (on_from n p (subst (IsOn n) ((same_place_decides (place_of n q) p).0 e) on), off))
    unlike false e off = refl

    past : (b : Bool) → nat_eq q (n * n) ≡ b → b ≡ false
    past true e = let same : q ≡ n * n = eqb-true q (n * n) e in absurd (omega (arith, low, same))
    past false e = refl

    go : (b : Bool) → on_board n p ≡ b → nat_eq q (number_on n p) ≡ same_place (place_of n q) p
    go true e =
        let is : IsOn n p = is_on_from n p e in
        ap (nat_eq q) (number_is n p is) ∙ sym (same_numbers n q (number_of n p)) ∙ ap (same_place (place_of n q)) (place_back n p is)
    go false e = ap (nat_eq q) (number_off n p e) ∙ past (nat_eq q (n * n)) refl ∙ sym (unlike (same_place (place_of n q) p) refl e)

-- the point is in the region exactly if its place is in the set
pub region_holds : (n q : ℕ) (ps : List Place) → q < n * n → IsOn n (place_of n q) → holds_point (map (number_on n) ps) q ≡ these n ps q
region_holds n q [] low on = refl
region_holds n q (p ∷ ps) low on = ap₂ (λ a b. a || b) (one_point n q p low on) (region_holds n q ps low on)

-- the targets are among the stones exactly if their places are in the set of stones, all of which are on the board
module _ (n : ℕ) (s : List Place) (inside : (p : Place) → IsTrue (holds_place s p) → IsOn n p) where
  one_target : (p : Place) → (on : Bool) → on_board n p ≡ on → these n s (number_on n p) ≡ holds_place s p
  one_target p true e = ap (these n s) (number_is n p (is_on_from n p e)) ∙ ap (holds_place s) (place_back n p (is_on_from n p e))
  one_target p false e = ap (these n s) (number_off n p e) ∙ none (these n s (n * n)) refl ∙ sym (off (holds_place s p) refl)
    where
      off : (b : Bool) → holds_place s p ≡ b → b ≡ false
      off true held = absurd (cc (on_from n p (inside p held), e))
      off false held = refl

      none : (b : Bool) → these n s (n * n) ≡ b → b ≡ false
      none true held = let low : n * n / n < n = (inside (place_of n (n * n)) held).row_within in absurd (past low)
        where
          past : n * n / n < n → ⊥
          past low = omega (arith, low, whole)
            where
              some : 0 < n
              some = omega (arith, low)

              sum : n * n + 0 ≡ n * n
              sum = omega arith

              whole : n * n / n ≡ n
              whole = ap (λ m. m / n) (sym sum) ∙ div-mul-add n n 0 some
      none false held = refl

  pub targets_hold : (ps : List Place) → list_all (these n s) (map (number_on n) ps) ≡ list_all (holds_place s) ps
  targets_hold [] = refl
  targets_hold (p ∷ ps) = ap₂ (λ a b. a && b) (one_target p (on_board n p) refl) (targets_hold ps)

-- on the board the numbers are those of the points
numbers_on : (n : ℕ) (ps : List Place) → All (IsOn n) ps → map (number_on n) ps ≡ map (number_of n) ps
numbers_on n [] on = refl
numbers_on n (p ∷ ps) on = ap₂ (λ q qs. q ∷ qs) (number_is n p (on 0 p (omega arith))) (numbers_on n ps (λ j d low. on (suc j) d (omega (arith, low))))

pub games_agree : (n : ℕ) (targets : List Place) (k : Colour) (region : List Place) → All (IsOn n) targets → All (IsOn n) region → game_of n targets k region ≡ kept_game n targets k region
games_agree n targets k region on_targets on_region = λ i. record { size = n; targets = numbers_on n targets on_targets i; defender = k; region = numbers_on n region on_region i }
