-- Entries of a claim of death: what stays true of them when one more is added.
use Rattle.safe_groups.proofs.Common.{sym, subst, refl, ◌≡◌, ◌∙◌, List, ℕ, zero, suc, ap, IsTrue, IsFalse, true, false, Bool, inl, inr, [], ◌∷◌, ◌++◌, ◌*◌, ◌<◌, ◌≤◌, ◌⊎◌, ◌+◌, cond, arith, get_or, length, cell_at, Cell, Empty, Area, Points, own, Fits, after_answer, All, IsState, GameProblem, start, holds_point}
use Rattle.safe_groups.specs.declared.ground.Ground.{Ground}
use Rattle.safe_groups.proofs.Closing.{all_push}
use Rattle.dead_groups.specs.Kills.{is_unsafe, after_attack, Entries, IsFurther, IsLost}
use Rattle.dead_groups.specs.Ground.{entries_of, kill_area}
use Rattle.dead_groups.specs.Private.Judged.{before, shown, AreJudged, IsBegun, IsEntryBy, IsNew, IsSpared, MayBegin}
use Rattle.dead_groups.specs.declared.entry_list.EntryList.{EntryList}
use Rattle.dead_groups.proofs.Unsafe.{clear_unsafe_at}
use Rattle.dead_groups.specs.Kills.{clear_unsafe}

-- a stone that is left is not unsafe
pub standing : (a : Area) (c : List Cell) (p : ℕ) → p < a.size * a.size → cell_at (clear_unsafe a c) p ≡ own a → is_unsafe a c p ≡ false
standing a c p on is = go (is_unsafe a c p) refl
  where
    go : (b : Bool) → is_unsafe a c p ≡ b → b ≡ false
    go true e = absurd (cc (is, clear_unsafe_at a c p on, ap (λ v. cond v Empty (cell_at c p)) e))
    go false e = refl

-- what is at the places of a list, and at its end
pub at_before : {A : Type 0} (xs : List A) (x : A) (i : ℕ) (d : A) → i < length xs → get_or xs i d ≡ get_or (xs ++ x ∷ []) i d
at_before [] x i d low = absurd (omega (arith, low))
at_before (y ∷ ys) x zero d low = refl
at_before (y ∷ ys) x (suc i) d low = at_before ys x i d (omega (arith, low))

pub at_end : {A : Type 0} (xs : List A) (x : A) (i : ℕ) (d : A) → i ≡ length xs → x ≡ get_or (xs ++ x ∷ []) i d
at_end [] x zero d e = refl
at_end [] x (suc i) d e = absurd (omega (arith, e))
at_end (y ∷ ys) x zero d e = absurd (omega (arith, e))
at_end (y ∷ ys) x (suc i) d e = at_end ys x i d (omega (arith, e))

pub length_more : {A : Type 0} (xs : List A) (x : A) → length (xs ++ x ∷ []) ≡ length xs + 1
length_more [] x = refl
length_more (y ∷ ys) x = omega (arith, length_more ys x)

module _ (a : Area) (targets : Points) (D E : Entries) where
  further_more : (bound : ℕ) (c : List Cell) → ((i : ℕ) → i < bound → D.state i ≡ E.state i) → IsFurther a targets D bound c → IsFurther a targets E bound c
  further_more bound c same (inl gone) = inl gone
  further_more bound c same (inr (i, low, fits)) = inr (i, low, subst (Fits a c) (same i low) fits)

  lost_more : (bound : ℕ) (c : List Cell) → ((i : ℕ) → i < bound → D.state i ≡ E.state i) → IsLost a targets D bound c → IsLost a targets E bound c
  lost_more bound c same lost = record {
    passed = further_more bound c same lost.passed;
    sure = lost.sure;
    moved = λ x on free. further_more bound (after_attack a c x) same (lost.moved x on free);
  }

  pub by_more : (bound : ℕ) (c : List Cell) (x : ℕ) → ((i : ℕ) → i < bound → D.state i ≡ E.state i) → IsEntryBy a targets D bound c x → IsEntryBy a targets E bound c x
  by_more bound c x same by = record {
    walled = by.walled;
    on_board = by.on_board;
    empty = by.empty;
    stands = by.stands;
    leads = elim by.leads [
      | inl gone ↦ inl gone
      | inr lost ↦ inr (lost_more bound (after_answer a c x) same lost)
    ];
  }

-- One more entry, at the end.
module _ (a : Area) (targets : Points) (states : List (List Cell)) (moves : List ℕ) (same : length moves ≡ length states) (s : List Cell) (x : ℕ) where
  abbrev D : Entries
  D = entries_of states moves

  abbrev E : Entries
  E = entries_of (states ++ s ∷ []) (moves ++ x ∷ [])

  state_before : (i : ℕ) → i < length states → D.state i ≡ E.state i
  state_before i low = at_before states s i [] low

  move_before : (i : ℕ) → i < length states → D.move i ≡ E.move i
  move_before i low = at_before moves x i 0 (omega (arith, low, same))

  -- what holds of each entry holds of each with the new one, if it holds of that
  pub each_more : (P : ℕ → List Cell → ℕ → Type 0) → ((j : ℕ) → j < length states → P j (D.state j) (D.move j)) → P (length states) s x → (j : ℕ) → j < length (states ++ s ∷ []) → P j (E.state j) (E.move j)
  each_more P all new j low =
      let split : (j < length states) ⊎ (j ≡ length states) = grind (arith, low, length_more states s) in
      elim split [
        | inl less ↦ subst (λ m. P j (E.state j) m) (move_before j less) (subst (λ c. P j c (D.move j)) (state_before j less) (all j less))
        | inr here ↦ subst (λ m. P j (E.state j) m) (at_end moves x j 0 (here ∙ sym same)) (subst (λ c. P j c x) (at_end states s j [] here) (subst (λ k. P k s x) (sym here) new))
      ]

  pub all_by : ((j : ℕ) → j < length states → IsEntryBy a targets D j (D.state j) (D.move j)) → IsEntryBy a targets (entries_of states []) (length states) s x
      → (j : ℕ) → j < length (states ++ s ∷ []) → IsEntryBy a targets E j (E.state j) (E.move j)
  all_by all new = each_more (λ j c m. IsEntryBy a targets E j c m)
      (λ j low. by_more a targets D E j (D.state j) (D.move j) (λ i less. state_before i (omega (arith, less, low))) (all j low))
      (by_more a targets (entries_of states []) E (length states) s x state_before new)

  module _ (b : List Cell) (history : List (List Cell)) (first : Bool) where
    pub begun_more : (m k : ℕ) → m ≤ length states → m ≤ k → IsBegun a b D first m → IsBegun a b E first k
    begun_more m k low le (i, less, fits) = (
      i,
      omega (arith, less, le),
      subst (λ y. Fits a b (shown a first (E.state i) y)) (move_before i (omega (arith, less, low))) (subst (λ c. Fits a b (shown a first c (D.move i))) (state_before i (omega (arith, less, low))) fits),
    )

    pub begun_new : (k : ℕ) → length states < k → Fits a b (shown a first s x) → IsBegun a b E first k
    begun_new k low fits = (
      length states,
      low,
      subst (λ y. Fits a b (shown a first (E.state (length states)) y)) (at_end moves x (length states) 0 (sym same)) (subst (λ c. Fits a b (shown a first c x)) (at_end states s (length states) [] refl) fits),
    )

    -- what is needed of the new one
    abbrev pub Spared : Type 0
    Spared = IsBegun a b D first (length states) ⊎ ((first ≡ false) × Fits a b (after_answer a s x))

    least : (j : ℕ) → j < length states → before first j ≤ length states
    least j low = go first
      where
        go : (f : Bool) → before f j ≤ length states
        go true = omega (arith, low)
        go false = omega (arith, low)

    more : (j : ℕ) → j ≤ before first j
    more j = go first
      where
        go : (f : Bool) → j ≤ before f j
        go true = omega arith
        go false = omega arith

    spared_begun : (k : ℕ) → length states ≤ k → (first ≡ false → length states < k) → Spared → IsBegun a b E first k
    spared_begun k le less (inl begun) = begun_more (length states) k (omega arith) le begun
    spared_begun k le less (inr (e, fits)) = begun_new k (less e) (subst (λ f. Fits a b (shown a f s x)) (sym e) fits)

    pub past_more : ((j : ℕ) → j < length states → IsBegun a b D first (before first j) ⊎ IsNew a history (after_answer a (D.state j) (D.move j)))
        → Spared ⊎ IsNew a history (after_answer a s x) → (j : ℕ) → j < length (states ++ s ∷ []) → IsBegun a b E first (before first j) ⊎ IsNew a history (after_answer a (E.state j) (E.move j))
    past_more all new = each_more (λ j c m. IsBegun a b E first (before first j) ⊎ IsNew a history (after_answer a c m)) old here
      where
        old : (j : ℕ) → j < length states → IsBegun a b E first (before first j) ⊎ IsNew a history (after_answer a (D.state j) (D.move j))
        old j low = elim (all j low) [
          | inl begun ↦ inl (begun_more (before first j) (before first j) (least j low) (omega arith) begun)
          | inr free ↦ inr free
        ]

        here : IsBegun a b E first (before first (length states)) ⊎ IsNew a history (after_answer a s x)
        here = elim new [
          | inl spared ↦ inl (spared_begun (before first (length states)) (more (length states)) (λ e. subst (λ f. length states < before f (length states)) (sym e) (omega arith)) spared)
          | inr free ↦ inr free
        ]

    pub begun_after : Spared ⊎ ((first ≡ true) × Fits a b s) → IsBegun a b E first (length (states ++ s ∷ []))
    begun_after (inl spared) = spared_begun (length (states ++ s ∷ [])) (omega (arith, length_more states s)) (λ e. omega (arith, length_more states s)) spared
    begun_after (inr (e, fits)) = begun_new (length (states ++ s ∷ [])) (omega (arith, length_more states s)) (subst (λ f. Fits a b (shown a f s x)) (sym e) fits)

-- With one more entry that is judged, all are.
module _ (q : GameProblem) (g : Ground) (targets : Points) (l : EntryList) (s : List Cell) (x : ℕ) (begun : Bool) (judged : AreJudged q g targets l) (state : IsState g s) (allowed : IsTrue (holds_point q.game.region x))
    (entry : IsEntryBy (kill_area g) targets (entries_of l.states.items []) (length l.states.items) s x)
    (past : IsSpared q g l s x ⊎ IsNew (kill_area g) q.history (after_answer (kill_area g) s x)) (begins : IsTrue begun → MayBegin q g l s x) where
  abbrev pub AreAll : List (List Cell) → List ℕ → Bool → Bool → Type 0
  AreAll states moves first flag =
      (length moves ≡ length states)
      × (All (IsState g) states)
      × ((j : ℕ) → j < length states → IsEntryBy (kill_area g) targets (entries_of states moves) j (get_or states j []) (get_or moves j 0))
      × ((j : ℕ) → j < length states → IsTrue (holds_point q.game.region (get_or moves j 0)))
      × ((j : ℕ) → j < length states → IsBegun (kill_area g) (start q).colouring (entries_of states moves) first (before first j) ⊎ IsNew (kill_area g) q.history (after_answer (kill_area g) (get_or states j []) (get_or moves j 0)))
      × (IsTrue flag → IsBegun (kill_area g) (start q).colouring (entries_of states moves) first (length states))

  all_more : AreAll (l.states.items ++ s ∷ []) (l.moves.items ++ x ∷ []) l.moves_first begun
  all_more = (
    length_more l.moves.items x ∙ ap (λ n. n + 1) judged.lengths ∙ sym (length_more l.states.items s),
    all_push (IsState g) l.states.items s judged.states state,
    all_by (kill_area g) targets l.states.items l.moves.items judged.lengths s x judged.each entry,
    each_more (kill_area g) targets l.states.items l.moves.items judged.lengths s x (λ j c m. IsTrue (holds_point q.game.region m)) judged.allowed allowed,
    past_more (kill_area g) targets l.states.items l.moves.items judged.lengths s x (start q).colouring q.history l.moves_first judged.past past,
    λ yes. begun_after (kill_area g) targets l.states.items l.moves.items judged.lengths s x (start q).colouring q.history l.moves_first (begins yes),
  )

  pub judged_more : (new : EntryList) → new.states.items ≡ l.states.items ++ s ∷ [] → new.moves.items ≡ l.moves.items ++ x ∷ [] → new.moves_first ≡ l.moves_first → new.is_begun ≡ begun → AreJudged q g targets new
  judged_more new states moves first flag =
      let all : AreAll new.states.items new.moves.items new.moves_first new.is_begun =
      subst (λ f. AreAll new.states.items new.moves.items new.moves_first f) (sym flag) (subst (λ f. AreAll new.states.items new.moves.items f begun) (sym first)
      (subst (λ m. AreAll new.states.items m l.moves_first begun) (sym moves) (subst (λ c. AreAll c (l.moves.items ++ x ∷ []) l.moves_first begun) (sym states) all_more))) in
      record { lengths = all.0; states = all.1; each = all.2; allowed = all.3; past = all.4; begun = all.5 }
