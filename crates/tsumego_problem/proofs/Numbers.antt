-- Numbers by their digits, one after another.
use Rattle.tsumego_problem.proofs.Common.{◌≡◌, ◌≢◌, ℕ, ◌+◌, ◌-◌, ◌*◌, ◌≤◌, ◌<◌, true, false, cond, ◌&&◌, nat_le, List, [], ◌∷◌, drop, take, length, get_or, position, Option, Some, None, option_and_then, ap, arith, rules, list_all, no_position, no_element, drop-cons, nat_tests, MAX_SIZE, equal, digits_value, number_named, size_named, board_of}
use Rattle.std.proofs.Common.{fold}
use Rattle.std.specs.List.{before_first, after_first}
use Rattle.tsumego_problem.specs.Values.{is_digit, is_colon}

-- the number that m becomes by these digits, and the board of so many rows
abbrev pub grown : ℕ → List ℕ → ℕ
grown m ds = fold (λ m d. 10 * m + (d - 48)) m ds

abbrev pub board_from : ℕ → List ℕ → Option ℕ
board_from m ds = cond (list_all is_digit ds) (board_of (grown m ds)) None

pub whole : (ds : List ℕ) → ds ≢ [] → board_from 0 ds ≡ option_and_then board_of (digits_value ds)
whole ds h = search rules

no_digit : (m d : ℕ) (ds : List ℕ) → is_digit d ≡ false → board_from m (d ∷ ds) ≡ None
no_digit m d ds e = ap (λ b. cond (b && list_all is_digit ds) (board_of (grown m (d ∷ ds))) None) e

one_digit : (m d : ℕ) (ds : List ℕ) → is_digit d ≡ true → board_from m (d ∷ ds) ≡ board_from (10 * m + (d - 48)) ds
one_digit m d ds e = ap (λ b. cond (b && list_all is_digit ds) (board_of (grown m (d ∷ ds))) None) e

grows : (m : ℕ) (ds : List ℕ) → m ≤ grown m ds
grows m [] = omega arith
grows m (d ∷ ds) = omega (arith, grows (10 * m + (d - 48)) ds)

too_large : (m : ℕ) (ds : List ℕ) → MAX_SIZE < m → board_from m ds ≡ None
too_large m ds h = grind (arith, nat_tests, grows)

-- a digit that ends the reading
pub stops : (m i : ℕ) (ds : List ℕ) → i < length ds → ◌≡◌ {A = Option ℕ} None (cond (is_digit (get_or ds i 0) && nat_le (10 * m + (get_or ds i 0 - 48)) MAX_SIZE) (Some (10 * m + (get_or ds i 0 - 48))) None) → board_from m (drop i ds) ≡ None
stops m i ds h g = grind (arith, nat_tests, drop-cons, no_digit, one_digit, too_large)

-- squares
pub no_first : (a b : Option ℕ) → None ≡ option_and_then board_of a → None ≡ option_and_then board_of (equal a b)
no_first a b h = search rules

-- with a colon and without
pub with_colon : (v : List ℕ) (k : ℕ) → position is_colon v ≡ Some k → size_named v ≡ equal (number_named (take k v)) (number_named (drop (k + 1) v))
with_colon v k h = grind (arith, nat_tests, no_position)

pub without_colon : (v : List ℕ) → position is_colon v ≡ None → size_named v ≡ number_named v
without_colon v e = ap (λ b. cond b (equal (number_named (before_first is_colon v)) (number_named (after_first is_colon v))) (number_named v)) (no_element is_colon v e)
