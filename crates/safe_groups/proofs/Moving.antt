-- What a move on the board leaves of a state that the board fits.
use Rattle.safe_groups.proofs.Common.{sym, subst, refl, ◌≡◌, ◌≢◌, ◌∙◌, List, ℕ, ap, IsTrue, IsFalse, true, false, Bool, inl, inr, [], ◌∷◌, ◌*◌, ◌<◌, ◌⊎◌, ◌&&◌, not, length, set, arith, get_or-set_other, get_or-set_same, length-set, opponent_twice, clear, cell_at, opponent_of, after_move, Cell, Empty, Stone, Colour, joined_self, IsWay, Area, States, own, theirs, is_outside, IsWalled, Rooted, after_other, after_answer, Fits, IsAtRest, IsKnown, IsAnswer, IsAnswered, Replies, length-clear, Joined}
use Rattle.safe_groups.proofs.Opening.{cell_cases, not_both}

-- what a point holds once a stone is put down
pub at_put : (n : ℕ) (c : List Cell) (x : ℕ) (y : Cell) → length c ≡ n * n → x < n * n → cell_at (set c x y) x ≡ y
at_put n c x y full on = get_or-set_same c x y Empty (omega (arith, full, on))

pub past_put : (c : List Cell) (x q : ℕ) (y : Cell) → q ≢ x → cell_at (set c x y) q ≡ cell_at c q
past_put c x q y ne = get_or-set_other c x q y Empty ne

pub full_put : (n : ℕ) (c : List Cell) (x : ℕ) (y : Cell) → length c ≡ n * n → length (set c x y) ≡ n * n
full_put n c x y full = length-set c x y ∙ full

pub is_or_not : (p x : ℕ) → (p ≡ x) ⊎ (p ≢ x)
is_or_not p x = grind arith

pub after_is : (n : ℕ) (b : List Cell) (k : Colour) (p : ℕ) → after_move n b k p ≡ clear n (clear n (set b p (Stone k)) (opponent_of k)) k
unfolding after_move
after_is n b k p = refl

pub full_after : (n : ℕ) (b : List Cell) (k : Colour) (p : ℕ) → length (after_move n b k p) ≡ n * n
full_after n b k p = ap length (after_is n b k p) ∙ length-clear n (clear n (set b p (Stone k)) (opponent_of k)) k

-- the other side's move, by its colour
pub after_theirs : (n : ℕ) (b : List Cell) (k : Colour) (p : ℕ) → after_move n b (opponent_of k) p ≡ clear n (clear n (set b p (Stone (opponent_of k))) k) (opponent_of k)
after_theirs n b k p = after_is n b (opponent_of k) p ∙ ap (λ j. clear n (clear n (set b p (Stone (opponent_of k))) j) (opponent_of k)) (opponent_twice k)

module _ (a : Area) where
  -- one stone put down on the board and in the state, at a point that is empty in both
  module _ (b c : List Cell) (fits : Fits a b c) (full_b : length b ≡ a.size * a.size) (full_c : length c ≡ a.size * a.size) (x : ℕ) (on : x < a.size * a.size) where
    module _ (free : cell_at c x ≡ Empty) (y : Cell) where
      root_way : (p q : ℕ) (rs : List ℕ) → IsWay a.size c (theirs a) p q rs → IsWay a.size (set c x y) (theirs a) p q rs
      root_way p q [] w = (past_put c x p y (λ e. cc (free, w.0, ap (cell_at c) e)) ∙ w.0, w.1)
      root_way p q (r ∷ rs) w = (past_put c x p y (λ e. cc (free, w.0, ap (cell_at c) e)) ∙ w.0, w.1, root_way r q rs w.2)

      root_put : (p : ℕ) → p ≢ x → cell_at c p ≡ theirs a → Rooted a c p → Rooted a (set c x y) p
      root_put p ne is root =
          let there : cell_at (set c x y) p ≡ theirs a = past_put c x p y ne ∙ is in
          (root.0, root.1, (root.2.0, subst (λ z. IsWay a.size (set c x y) z p root.0 root.2.0) (sym there) (root_way p root.0 root.2.0 (subst (λ z. IsWay a.size c z p root.0 root.2.0) is root.2.1))))

      both_at : (p : ℕ) → p ≡ x → cell_at (set b x y) p ≡ cell_at (set c x y) p
      both_at p e = ap (cell_at (set b x y)) e ∙ at_put a.size b x y full_b on ∙ sym (ap (cell_at (set c x y)) e ∙ at_put a.size c x y full_c on)

      pub fits_put : Fits a (set b x y) (set c x y)
      fits_put = record {
        has_own = λ p e. elim (is_or_not p x) [
          | inl here ↦ both_at p here ∙ e
          | inr ne ↦ past_put b x p y ne ∙ fits.has_own p (sym (past_put c x p y ne) ∙ e)
        ];
        no_more = λ p within e. elim (is_or_not p x) [
          | inl here ↦ sym (both_at p here) ∙ e
          | inr ne ↦ past_put c x p y ne ∙ fits.no_more p within (sym (past_put b x p y ne) ∙ e)
        ];
        has_empty = λ p e. elim (is_or_not p x) [
          | inl here ↦ both_at p here ∙ e
          | inr ne ↦ past_put b x p y ne ∙ fits.has_empty p (sym (past_put c x p y ne) ∙ e)
        ];
        has_theirs = λ p e none. elim (is_or_not p x) [
          | inl here ↦ both_at p here ∙ e
          | inr ne ↦
              let is : cell_at c p ≡ theirs a = sym (past_put c x p y ne) ∙ e in
              past_put b x p y ne ∙ fits.has_theirs p is (λ root. none (root_put p ne is root))
        ];
      }

    -- a stone that the other side puts down where the state has one of its stones
    pub fits_put_theirs : cell_at b x ≡ Empty → cell_at c x ≡ theirs a → Fits a (set b x (theirs a)) c
    fits_put_theirs free there = record {
      has_own = λ p e. past_put b x p (theirs a) (λ here. not_both a (cell_at c p) e (ap (cell_at c) here ∙ there)) ∙ fits.has_own p e;
      no_more = λ p within e. elim (is_or_not p x) [
        | inl here ↦ absurd (not_both a (cell_at (set b x (theirs a)) p) e (ap (cell_at (set b x (theirs a))) here ∙ at_put a.size b x (theirs a) full_b on))
        | inr ne ↦ fits.no_more p within (sym (past_put b x p (theirs a) ne) ∙ e)
      ];
      has_empty = λ p e. past_put b x p (theirs a) (λ here. cc (e, ap (cell_at c) here, there)) ∙ fits.has_empty p e;
      has_theirs = λ p e none. elim (is_or_not p x) [
        | inl here ↦ ap (cell_at (set b x (theirs a))) here ∙ at_put a.size b x (theirs a) full_b on
        | inr ne ↦ past_put b x p (theirs a) ne ∙ fits.has_theirs p e none
      ];
    }

    -- a stone of the keeper's outside
    pub fits_put_outside : is_outside a x ≡ true → IsFalse (a.region x) → cell_at c x ≡ theirs a → Fits a (set b x (own a)) c
    fits_put_outside out beyond there = record {
      has_own = λ p e. elim (is_or_not p x) [
        | inl here ↦ ap (cell_at (set b x (own a))) here ∙ at_put a.size b x (own a) full_b on
        | inr ne ↦ past_put b x p (own a) ne ∙ fits.has_own p e
      ];
      no_more = λ p within e. fits.no_more p within (sym (past_put b x p (own a) (λ here. cc (within, ap a.region here, beyond))) ∙ e);
      has_empty = λ p e. past_put b x p (own a) (λ here. cc (e, ap (cell_at c) here, there)) ∙ fits.has_empty p e;
      has_theirs = λ p e none. elim (is_or_not p x) [
        | inl here ↦ absurd (none (x, out, subst (λ z. Joined a.size c z x) (sym here) (joined_self a.size c x)))
        | inr ne ↦ past_put b x p (own a) ne ∙ fits.has_theirs p e none
      ];
    }

  -- a state with one more stone is walled
  pub walled_put : (c : List Cell) → IsWalled a c → (x : ℕ) → x < a.size * a.size → cell_at c x ≡ Empty → (y : Cell) → IsWalled a (set c x y)
  walled_put c walled x on free y = record {
    full = full_put a.size c x y walled.full;
    kept = λ p is. past_put c x p y (λ here. cc (walled.kept p is, ap (cell_at c) here, free)) ∙ walled.kept p is;
    outside = λ p at out. past_put c x p y (λ here. cc (walled.outside p at out, ap (cell_at c) here, free)) ∙ walled.outside p at out;
  }

  -- the keeper has the same stones in two states
  pub record SameOwn (c d : List Cell) : Type 0 where
    pub more : (p : ℕ) → cell_at c p ≡ own a → cell_at d p ≡ own a
    pub back : (p : ℕ) → cell_at d p ≡ own a → cell_at c p ≡ own a
