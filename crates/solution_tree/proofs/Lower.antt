-- The lemmas that a checked claim uses are lower ones, so the answers of all its lemmas serve each body.
use Rattle.solution_tree.proofs.Common.{◌≡◌, ℕ, zero, suc, ◌+◌, ◌<◌, ◌≤◌, Bool, true, false, ◌&&◌, IsTrue, List, [], ◌∷◌, ◌++◌, length, get_or, refl, sym, ap, ◌∙◌, subst, arith, rules, nat_tests, Colour, and_left, and_right, and_both, Game, GameState, start, next, legal, AnswerTree, leaf, turn, replies, ReplyTrees, reply, won, by_lemma, play, all, Branches, no_branch, branch, Head, Lemma, heads_of, claim_of, node_of, Body, lemma_body, main_body, FitsNode, FitsBranches, AreValidLemmas, CheckedClaim, IsChecked, answer_at, expand_node, expand_branches, answers_behind, lemma_answers, lemma_count, tree_at, uses_below, all_below}
use Rattle.std.proofs.Common.{◌-◌, nat_le}
use Rattle.std.proofs.lemmas.List.{get_or_append_left, get_or-append-add, get_or-map, length-append, length-map}
use Rattle.std.proofs.lemmas.Option.{slice_get_within}
use Rattle.std.proofs.lemmas.Bool.{leb-true, le-leb}
use Rattle.proof_cert.specs.Claim.{Node}
use Rattle.proof_cert.specs.Certificate.{lemma_of}
use Rattle.proof_cert.specs.declared.certificate.Lemma as code
use Rattle.proof_cert.specs.declared.certificate.Node as claim
use Rattle.proof_cert.specs.declared.certificate.Node.TheVariants.{Use}
use Rattle.proof_cert.proofs.Certificates.{node_of_use}
use Rattle.cert_check.specs.Validity.{IsValidLemma}
use Rattle.solution_tree.specs.Private.Opened.{lemmas_below}
use Rattle.cert_check.proofs.FirstNodes.{longer}
use Rattle.cert_check.proofs.Spelling.{length-heads_of}

abbrev Answers : Type 0
Answers = List (GameState → AnswerTree)

-- ---- what uses lower lemmas alone

-- a number from 1 to m
numbered : (m j : ℕ) → nat_le 1 j && nat_le j m ≡ true → (1 ≤ j) × (j ≤ m)
numbered m j h = (leb-true 1 j (and_left (nat_le 1 j) (nat_le j m) h), leb-true j m (and_right (nat_le 1 j) (nat_le j m) h))

number_is : (m j : ℕ) → 1 ≤ j → j ≤ m → nat_le 1 j && nat_le j m ≡ true
number_is m j low high = and_both (nat_le 1 j) (nat_le j m) (le-leb 1 j low) (le-leb j m high)

pub use_bounds : (m j : ℕ) → IsTrue (uses_below m (by_lemma j)) → (1 ≤ j) × (j ≤ m)
use_bounds m j h = numbered m j h

-- a node of the program that is the use of a lemma
pub use_is : (n : ℕ) (part : claim.Node) (number : ℕ) → part ≡ Use number → node_of n part ≡ by_lemma number
use_is n part number is = ap (node_of n) is ∙ node_of_use n number

pub used_bounds : (n m : ℕ) (part : claim.Node) (number : ℕ) → part ≡ Use number → IsTrue (uses_below m (node_of n part)) → (1 ≤ number) × (number ≤ m)
used_bounds n m part number is h = use_bounds m number (subst (λ x. IsTrue (uses_below m x)) (use_is n part number is) h)

mutual
  pub below_more : (m k : ℕ) → m ≤ k → (n : Node) → uses_below m n ≡ true → uses_below k n ≡ true
  below_more m k le won h = refl
  below_more m k le (by_lemma j) h = let (low, high) = numbered m j h in number_is k j low (omega (arith, high, le))
  below_more m k le (play t n) h = below_more m k le n h
  below_more m k le (all bs) h = all_more m k le bs h

  all_more : (m k : ℕ) → m ≤ k → (bs : Branches) → all_below m bs ≡ true → all_below k bs ≡ true
  all_more m k le no_branch h = refl
  all_more m k le (branch t n bs) h =
      and_both (uses_below k n) (all_below k bs) (below_more m k le n (and_left (uses_below m n) (all_below m bs) h)) (all_more m k le bs (and_right (uses_below m n) (all_below m bs) h))

-- ---- a tree is expanded alike by answers that agree on its lemmas

module _ (m : ℕ) (es fs : Answers) (alike : (i : ℕ) → suc i ≤ m → (s : GameState) → answer_at es (suc i) s ≡ answer_at fs (suc i) s) where
  mutual
    same_node : (n : Node) → uses_below m n ≡ true → (s : GameState) → expand_node es n s ≡ expand_node fs n s
    same_node won h s = refl
    same_node (by_lemma zero) h s = refl
    same_node (by_lemma (suc i)) h s = alike i (numbered m (suc i) h).1 s
    same_node (play t n) h s = ap (turn t) (same_node n h (next s t))
    same_node (all bs) h s = ap replies (same_branches bs h s)

    same_branches : (bs : Branches) → all_below m bs ≡ true → (s : GameState) → expand_branches es bs s ≡ expand_branches fs bs s
    same_branches no_branch h s = refl
    same_branches (branch t n bs) h s = go (legal s t)
        (same_node n (and_left (uses_below m n) (all_below m bs) h) (next s t))
        (same_branches bs (and_right (uses_below m n) (all_below m bs) h) s)
      where
        go : (b : Bool) → expand_node es n (next s t) ≡ expand_node fs n (next s t) → expand_branches es bs s ≡ expand_branches fs bs s
            → ◌≡◌ {A = ReplyTrees} (elim b [ true ↦ reply t (expand_node es n (next s t)) (expand_branches es bs s) | false ↦ expand_branches es bs s ]) (elim b [ true ↦ reply t (expand_node fs n (next s t)) (expand_branches fs bs s) | false ↦ expand_branches fs bs s ])
        go true e f = λ i. reply t (e i) (f i)
        go false e f = f

-- ---- the answers of all lemmas

no_answer : GameState → AnswerTree
no_answer s = leaf

answer_of_lemma : (es : Answers) (ls : List Lemma) → IsTrue (lemmas_below (length es) ls) → (j : ℕ) (d : Lemma) → j < length ls → (s : GameState)
    → (get_or (answers_behind es ls) (length es + j) (λ _. leaf)) s ≡ expand_node (answers_behind es ls) (get_or ls j d).body s
answer_of_lemma es [] good j d within s = absurd (omega (arith, within))
answer_of_lemma es (l ∷ ls) good zero d within s =
    let f : GameState → AnswerTree = expand_node es l.body in
    let long : length (es ++ f ∷ []) ≡ length es + 1 = length-append es (f ∷ []) in
    let more : Answers = answers_behind (es ++ f ∷ []) ls in
    let here : get_or more (length es + 0) (λ _. leaf) ≡ f =
    longer (es ++ f ∷ []) ls (length es + 0) (omega (arith, long)) ∙ get_or-append-add es (f ∷ []) 0 (λ _. leaf) in
    ap (λ (g : GameState → AnswerTree). g s) here
    ∙ same_node (length es) es more
    (λ i le u. ap (λ (g : GameState → AnswerTree). g u) (sym (longer (es ++ f ∷ []) ls i (omega (arith, le, long)) ∙ get_or_append_left es (f ∷ []) (λ _. leaf) i (omega (arith, le)))))
    l.body (and_left (uses_below (length es) l.body) (lemmas_below (length es + 1) ls) good) s
answer_of_lemma es (l ∷ ls) good (suc j) d within s =
    let f : GameState → AnswerTree = expand_node es l.body in
    let long : length (es ++ f ∷ []) ≡ length es + 1 = length-append es (f ∷ []) in
    let place : length es + suc j ≡ length (es ++ f ∷ []) + j = omega (arith, long) in
    let rest : IsTrue (lemmas_below (length (es ++ f ∷ [])) ls) = subst (λ m. IsTrue (lemmas_below m ls)) (sym long) (and_right (uses_below (length es) l.body) (lemmas_below (length es + 1) ls) good) in
    ap (λ i. (get_or (answers_behind (es ++ f ∷ []) ls) i (λ _. leaf)) s) place
    ∙ answer_of_lemma (es ++ f ∷ []) ls rest j d (omega (arith, within)) s

body_below : (m : ℕ) (ls : List Lemma) → lemmas_below m ls ≡ true → (j : ℕ) (d : Lemma) → j < length ls → uses_below (m + j) (get_or ls j d).body ≡ true
body_below m [] good j d within = absurd (omega (arith, within))
body_below m (l ∷ ls) good zero d within = search rules
body_below m (l ∷ ls) good (suc j) d within = let i0 = body_below (m + 1) ls (and_right (uses_below m l.body) (lemmas_below (m + 1) ls) good) j d (omega (arith, within)) in search rules

-- ---- what is valid uses lower lemmas alone

module _ (b : Body) where
  mutual
    fits_below : (s : GameState) (n : Node) → FitsNode b s n → uses_below (length b.earlier) n ≡ true
    fits_below s won f = refl
    fits_below s (by_lemma zero) f = absurd (cc f.1)
    fits_below s (by_lemma (suc i)) f =
        let within : i < length b.earlier = slice_get_within b.earlier i f.0 f.1 in
        number_is (length b.earlier) (suc i) (omega arith) (omega (arith, within))
    fits_below s (play t n) f = fits_below (next s t) n f.1
    fits_below s (all bs) f = fit_below s bs f.2

    fit_below : (s : GameState) (bs : Branches) → FitsBranches b s bs → all_below (length b.earlier) bs ≡ true
    fit_below s no_branch f = refl
    fit_below s (branch t n bs) f = and_both (uses_below (length b.earlier) n) (all_below (length b.earlier) bs) (fits_below (next s t) n f.0) (fit_below s bs f.1)

valid_below : (g : Game) (x : Colour) (heads : List Head) (ls : List Lemma) → AreValidLemmas g x heads ls → lemmas_below (length heads) ls ≡ true
valid_below g x heads [] v = refl
valid_below g x heads (l ∷ ls) v =
    let long : length (heads ++ l.head ∷ []) ≡ length heads + 1 = length-append heads (l.head ∷ []) in
    let it : IsValidLemma g x heads l = v.0 in
    and_both (uses_below (length heads) l.body) (lemmas_below (length heads + 1) ls) (fits_below (lemma_body x heads l.head) _ l.body it.body)
    (subst (λ m. lemmas_below m ls ≡ true) long (valid_below g x (heads ++ l.head ∷ []) ls v.1))

-- ---- of a checked claim

module _ (k : CheckedClaim) (it : IsChecked k.problem (claim_of k.certificate)) where
  lemmas_are_below : IsTrue (lemmas_below 0 (claim_of k.certificate).lemmas)
  lemmas_are_below = valid_below k.problem.game (claim_of k.certificate).winner [] (claim_of k.certificate).lemmas it.valid.lemmas

  pub main_is_below : IsTrue (uses_below (lemma_count k) (claim_of k.certificate).main)
  main_is_below =
      let ls = (claim_of k.certificate).lemmas in
      let count : length (heads_of ls) ≡ lemma_count k = length-heads_of ls ∙ length-map k.certificate.lemmas.items (lemma_of k.certificate.size) in
      subst (λ m. IsTrue (uses_below m (claim_of k.certificate).main)) count (fits_below (main_body (claim_of k.certificate).winner (heads_of ls)) (start k.problem) (claim_of k.certificate).main it.valid.main)

  -- the body of the lemma of a number
  module _ (number j : ℕ) (from_one : number ≡ suc j) (l : code.Lemma) (within : j < lemma_count k) (is : l ≡ get_or k.certificate.lemmas.items j l) where
    abbrev f : code.Lemma → Lemma
    f = lemma_of k.certificate.size

    placed : get_or (claim_of k.certificate).lemmas j (f l) ≡ f l
    placed = get_or-map f k.certificate.lemmas.items j l (f l) within ∙ ap f (sym is)

    inside : j < length (claim_of k.certificate).lemmas
    inside = omega (arith, within, length-map k.certificate.lemmas.items f)

    pub body_is : (s : GameState) → tree_at k (node_of k.certificate.size l.body) s ≡ tree_at k (by_lemma number) s
    body_is s =
        let there : ◌≡◌ {A = ℕ} (0 + j) j = omega arith in
        sym (ap (λ m. answer_at (lemma_answers k) m s) from_one
        ∙ ap (λ m. (get_or (lemma_answers k) m (λ _. leaf)) s) (sym there)
        ∙ answer_of_lemma [] (claim_of k.certificate).lemmas lemmas_are_below j (f l) inside s
        ∙ ap (λ (m : Lemma). tree_at k m.body s) placed)

    pub body_is_below : IsTrue (uses_below j (node_of k.certificate.size l.body))
    body_is_below =
        let there : ◌≡◌ {A = ℕ} (0 + j) j = omega arith in
        subst (λ m. IsTrue (uses_below m (node_of k.certificate.size l.body))) there
        (subst (λ (m : Lemma). IsTrue (uses_below (0 + j) m.body)) placed (body_below 0 (claim_of k.certificate).lemmas lemmas_are_below j (f l) inside))

  -- the body of the lemma that is used, in a list that is the claim's
  abbrev pub IsBody : claim.Node → ℕ → code.Lemma → Type 0
  IsBody part below l =
      ((s : GameState) → tree_at k (node_of k.certificate.size l.body) s ≡ tree_at k (node_of k.certificate.size part) s)
      × IsTrue (uses_below below (node_of k.certificate.size l.body)) × (below ≤ lemma_count k)

  pub next_body : (items : List code.Lemma) → items ≡ k.certificate.lemmas.items → (m number : ℕ) (part : claim.Node) (l : code.Lemma) → part ≡ Use number
      → IsTrue (uses_below m (node_of k.certificate.size part)) → m ≤ lemma_count k → l ≡ get_or items (number - 1) l → IsBody part (number - 1) (get_or items (number - 1) l)
  next_body items h m number part l g e f i = grind (arith, nat_tests, used_bounds, body_is, use_is, body_is_below)
