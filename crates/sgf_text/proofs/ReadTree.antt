-- From the reader's steps to what it answers.
use Rattle.sgf_text.proofs.Common.{◌≡◌, ◌≢◌, ℕ, suc, ◌+◌, ◌<◌, ◌≤◌, List, ◌∷◌, ◌++◌, length, get_or, take, drop, sym, ap, ◌∙◌, subst, refl, arith, Some, None, option_map, Ok, Err, drop-cons, drop_of_length-le, take-append-drop, length-take, nat_tests, AfterOpen, SgfFault, NoTree, Syntax, TooLong, TooDeep, TooMany, Memory, sign_of, GameTree, tree_place, Reads, joined_tree, transition, byte_limit, cut_fault, outcome_in, outcome_of, IsWithin, Parser, Steps, IsSound}
use Rattle.std.proofs.lemmas.List.{get_or-take, length-append}
use Rattle.sgf_text.specs.OpenTrees.{at_start}
use Rattle.sgf_text.proofs.Readings.{finds_of, one_reading, no_fault_where_read, place_split, place_grow}
use Rattle.sgf_text.proofs.Filled.{filled}
use Rattle.sgf_text.proofs.Reading.{completed, ends, Follows, steps_follow}

pub place_within : (text : List ℕ) (k : ℕ) → tree_place text ≡ Some k → k < length text
place_within text k h = let s = place_split text k h in let a = s.3 in let l = ap length s.2 in let m = length-append s.0 (40 ∷ s.1) in omega arith

-- what has been read up to a place: the rest of the text makes the same tree, or has the same first fault, as from the start
pub record ReadSoFar (text seen : List ℕ) (k at : ℕ) (o : Parser) : Type 0 where
  pub sound : IsSound o
  pub tree : completed o (drop at text) ≡ completed at_start (drop (k + 1) text)
  pub fault : ends (cut_fault text) o at (drop at seen) ≡ ends (cut_fault text) at_start (k + 1) (drop (k + 1) seen)

module _ (text seen : List ℕ) (front_is : seen ≡ take byte_limit text) (k : ℕ) (place : tree_place seen ≡ Some k) where
  outcome_is : outcome_of text ≡ ends (cut_fault text) at_start (k + 1) (drop (k + 1) seen)
  outcome_is = ap (λ s. outcome_in (cut_fault text) s (tree_place s)) (sym front_is) ∙ ap (outcome_in (cut_fault text) seen) place

  place_is : tree_place text ≡ Some k
  place_is = subst (λ t. tree_place t ≡ Some k) (ap (λ s. s ++ drop byte_limit text) front_is ∙ take-append-drop byte_limit text) (place_grow seen (drop byte_limit text) k place)

  module _ (at : ℕ) (within : at < length seen) (o n : Parser) (so_far : ReadSoFar text seen k at o) where
    seen_head : drop at seen ≡ get_or seen at 0 ∷ drop (at + 1) seen
    seen_head = let e : suc at ≡ at + 1 = omega arith in drop-cons seen at 0 within ∙ ap (λ i. get_or seen at 0 ∷ drop i seen) e

    text_head : drop at text ≡ get_or seen at 0 ∷ drop (at + 1) text
    text_head =
        let l = length-take byte_limit text in
        let f = ap length front_is in
        let in_text : at < length text = omega arith in
        let below : at < byte_limit = omega arith in
        let e : suc at ≡ at + 1 = omega arith in
        drop-cons text at 0 in_text
        ∙ ap (λ c. c ∷ drop (suc at) text) (sym (get_or-take byte_limit text at 0 below) ∙ ap (λ s. get_or s at 0) (sym front_is))
        ∙ ap (λ i. get_or seen at 0 ∷ drop i text) e

    pub read_on : Steps (transition o.state (sign_of (get_or seen at 0))) (sign_of (get_or seen at 0)) (get_or seen at 0) at o (Ok None) n → ReadSoFar text seen k (at + 1) n
    read_on h = let f = steps_follow o (get_or seen at 0) at so_far.sound (Ok None) n h in record {
      sound = f.0;
      tree = f.1 (drop (at + 1) text) ∙ ap (completed o) (sym text_head) ∙ so_far.tree;
      fault = f.2 (cut_fault text) (drop (at + 1) seen) ∙ ap (ends (cut_fault text) o at) (sym seen_head) ∙ so_far.fault;
    }

    pub read_fault : (e : SgfFault) → Steps (transition o.state (sign_of (get_or seen at 0))) (sign_of (get_or seen at 0)) (get_or seen at 0) at o (Err e) n → e ≢ Memory → outcome_of text ≡ Err e
    read_fault e h not_memory = outcome_is ∙ sym so_far.fault ∙ ap (ends (cut_fault text) o at) seen_head ∙ at_fault e (steps_follow o (get_or seen at 0) at so_far.sound (Err e) n h) not_memory
      where
        at_fault : (e : SgfFault) → Follows o (get_or seen at 0) at (Err e) n → e ≢ Memory → ends (cut_fault text) o at (get_or seen at 0 ∷ drop (at + 1) seen) ≡ Err e
        at_fault NoTree f m = f (cut_fault text) (drop (at + 1) seen)
        at_fault (Syntax i) f m = f (cut_fault text) (drop (at + 1) seen)
        at_fault TooLong f m = f (cut_fault text) (drop (at + 1) seen)
        at_fault TooDeep f m = f (cut_fault text) (drop (at + 1) seen)
        at_fault TooMany f m = f (cut_fault text) (drop (at + 1) seen)
        at_fault Memory f m = absurd (m refl)

    pub read_end : (tree : GameTree) → Steps (transition o.state (sign_of (get_or seen at 0))) (sign_of (get_or seen at 0)) (get_or seen at 0) at o (Ok (Some tree)) n → Reads text tree (at + 1) × IsWithin tree (at + 1)
    read_end tree h = go ((no_fault_where_read text (at + 1)).0 whole)
      where
        f : Follows o (get_or seen at 0) at (Ok (Some tree)) n
        f = steps_follow o (get_or seen at 0) at so_far.sound (Ok (Some tree)) n h

        whole : outcome_of text ≡ Ok (at + 1)
        whole = outcome_is ∙ sym so_far.fault ∙ ap (ends (cut_fault text) o at) seen_head ∙ f.1 (cut_fault text) (drop (at + 1) seen)

        made : Some tree ≡ completed at_start (drop (k + 1) text)
        made = f.0 (drop (at + 1) text) ∙ ap (completed o) (sym text_head) ∙ so_far.tree

        same : (t : GameTree) → Reads text t (at + 1) → t ≡ tree
        same t r =
            let x = finds_of text t (at + 1) r in
            let i : x.at ≡ k = (let e : Some x.at ≡ Some k = sym x.place ∙ place_is in cc) in
            let g : Some tree ≡ Some (joined_tree x.spelled) = made ∙ ap (λ j. completed at_start (drop (j + 1) text)) (sym i) ∙ ap (option_map (filled AfterOpen at_start)) x.finds in
            let e : tree ≡ joined_tree x.spelled = cc in
            x.tree_is ∙ sym e

        go : (t : GameTree) × Reads text t (at + 1) × IsWithin t (at + 1) → Reads text tree (at + 1) × IsWithin tree (at + 1)
        go (t, r, w) = let e = same t r in (subst (λ x. Reads text x (at + 1)) e r, subst (λ x. IsWithin x (at + 1)) e w)

  pub read_cut : (at : ℕ) → length seen ≤ at → (o : Parser) → ReadSoFar text seen k at o → outcome_of text ≡ Err (cut_fault text)
  read_cut at h o so_far = outcome_is ∙ sym so_far.fault ∙ ap (ends (cut_fault text) o at) (drop_of_length-le seen h)

pub read_none : (text seen : List ℕ) → seen ≡ take byte_limit text → tree_place seen ≡ None → outcome_of text ≡ Err NoTree
read_none text seen e h = ap (λ s. outcome_in (cut_fault text) s (tree_place s)) (sym e) ∙ ap (outcome_in (cut_fault text) seen) h

-- ---- no other reading

module _ (text : List ℕ) (tree : GameTree) (n : ℕ) (reads : Reads text tree n) (within : IsWithin tree n) where
  faultless : (e : SgfFault) → outcome_of text ≡ Err e → ⊥
  faultless e h = let g : outcome_of text ≡ Ok n = (no_fault_where_read text n).1 (tree, reads, within) in let k : Err e ≡ Ok n = sym h ∙ g in cc

  only_fault : (e : SgfFault) → (e ≢ Memory → outcome_of text ≡ Err e) → e ≡ Memory
  only_fault e h = grind (arith, nat_tests, faultless)

pub only_err : (text : List ℕ) (e : SgfFault) → (e ≢ Memory → outcome_of text ≡ Err e) → (tree : GameTree) (n : ℕ) → Reads text tree n → IsWithin tree n → e ≡ Memory
only_err text e f tree n r w = only_fault text tree n r w e f

pub only_ok : (text : List ℕ) (t : GameTree) (m : ℕ) → Reads text t m → (tree : GameTree) (n : ℕ) → Reads text tree n → IsWithin tree n → (t ≡ tree) × (m ≡ n)
only_ok text t m h tree n r w = one_reading text t tree m n h r
