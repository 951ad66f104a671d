-- The answers of the lemmas of a claim, one by one: each is that of its body, where the lemmas before it are used.
use Rattle.cert_check.proofs.Common.{◌≡◌, ℕ, Bool, true, false, IsTrue, zero, suc, ◌+◌, ◌-◌, ◌<◌, ◌≤◌, List, [], ◌∷◌, ◌++◌, length, take, map, get_or, Option, Some, None, option_map, is_some, IfSome, Vec, Box, Global, ◌⊎◌, inl, inr, refl, sym, ap, ap₂, ◌∙◌, subst, arith, GameState, GameProblem, start, AnswerTree, leaf, Turn, Ply, ply_of, Claim, Lemma, Node, claim_of, lemma_of, node_of, Certificate, Use, node_of_won, node_of_use, node_of_play, node_of_all, answer_at, expand_node, answers_behind, first_turn, first_turn_of, is_to_move}
use Rattle.std.proofs.lemmas.List.{get_or_append_left, get_or-append-add, get_or_past, get_or-map, get_or-take, length-append, length-map, length-take-le, take-map, take-take}
use Rattle.proof_cert.specs.declared.certificate.Lemma as code
use Rattle.proof_cert.specs.declared.certificate.Node as tree
use Rattle.proof_cert.specs.declared.certificate.Node.TheVariants.{Won, Play, All}
use Rattle.cert_check.specs.Laws.{IsFirstTurn}

abbrev Answers : Type 0
Answers = List (GameState → AnswerTree)

pub longer : (es : Answers) (ls : List Lemma) (i : ℕ) → i < length es → get_or (answers_behind es ls) i (λ _. leaf) ≡ get_or es i (λ _. leaf)
longer es [] i within = refl
longer es (l ∷ ls) i within =
    longer (es ++ expand_node es l.body ∷ []) ls i (omega (arith, within, length-append es (expand_node es l.body ∷ [])))
    ∙ get_or_append_left es (expand_node es l.body ∷ []) (λ _. leaf) i within

counted : (es : Answers) (ls : List Lemma) → length (answers_behind es ls) ≡ length es + length ls
counted es [] = omega arith
counted es (l ∷ ls) = counted (es ++ expand_node es l.body ∷ []) ls ∙ omega (arith, length-append es (expand_node es l.body ∷ []))

answer_of_lemma : (es : Answers) (ls : List Lemma) (j : ℕ) (d : Lemma) → j < length ls
    → get_or (answers_behind es ls) (length es + j) (λ _. leaf) ≡ expand_node (answers_behind es (take j ls)) (get_or ls j d).body
answer_of_lemma es [] j d within = absurd (omega (arith, within))
answer_of_lemma es (l ∷ ls) zero d within =
    let f : GameState → AnswerTree = expand_node es l.body in
    let long : length (es ++ f ∷ []) ≡ length es + 1 = length-append es (f ∷ []) in
    longer (es ++ f ∷ []) ls (length es + 0) (omega (arith, long)) ∙ get_or-append-add es (f ∷ []) 0 (λ _. leaf)
answer_of_lemma es (l ∷ ls) (suc j) d within =
    let f : GameState → AnswerTree = expand_node es l.body in
    let long : length (es ++ f ∷ []) ≡ length es + 1 = length-append es (f ∷ []) in
    let place : length es + suc j ≡ length (es ++ f ∷ []) + j = omega (arith, long) in
    ap (λ i. get_or (answers_behind (es ++ f ∷ []) ls) i (λ _. leaf)) place
    ∙ answer_of_lemma (es ++ f ∷ []) ls j d (omega (arith, within))

-- a use of lemma j + 1
pub use_of_lemma : (ls : List Lemma) (j : ℕ) (d : Lemma) (s : GameState) → j < length ls
    → answer_at (answers_behind [] ls) (suc j) s ≡ expand_node (answers_behind [] (take j ls)) (get_or ls j d).body s
use_of_lemma ls j d s within =
    let place : j ≡ 0 + j = omega arith in
    ap (λ i. (get_or (answers_behind [] ls) i (λ _. leaf)) s) place ∙ ap (λ (f : GameState → AnswerTree). f s) (answer_of_lemma [] ls j d within)

-- a use of no lemma
pub use_of_none : (ls : List Lemma) (j : ℕ) (s : GameState) → length ls ≤ j → answer_at (answers_behind [] ls) (suc j) s ≡ leaf
use_of_none ls j s past = ap (λ (f : GameState → AnswerTree). f s) (get_or_past (answers_behind [] ls) j (λ _. leaf) (omega (arith, past, counted [] ls)))

-- the first turn of a tree of the program that may use so many of the lemmas
abbrev pub first_at : ℕ → List code.Lemma → ℕ → GameState → tree.Node → Option Ply
first_at n ls k s part = first_turn_of (expand_node (answers_behind [] (map (lemma_of n) (take k ls))) (node_of n part) s)

module _ (n : ℕ) (ls : List code.Lemma) (k : ℕ) (s : GameState) where
  shown : Node → Option Ply
  shown x = first_turn_of (expand_node (answers_behind [] (map (lemma_of n) (take k ls))) x s)

  pub first_won : (part : tree.Node) → part ≡ Won → first_at n ls k s part ≡ None
  unfolding shown
  first_won part is = ap shown (ap (node_of n) is ∙ node_of_won n)

  pub first_all : (part : tree.Node) (rs : Vec (Turn × tree.Node) Global) → part ≡ All rs → first_at n ls k s part ≡ None
  unfolding shown
  first_all part rs is = ap shown (ap (node_of n) is ∙ node_of_all n rs)

  pub first_play : (part : tree.Node) (t : Turn) (below : Box tree.Node Global) → part ≡ Play t below → first_at n ls k s part ≡ Some (ply_of n t)
  unfolding shown
  first_play part t below is = ap shown (ap (node_of n) is ∙ node_of_play n t below)

  pub first_no_use : (part : tree.Node) (number : ℕ) → part ≡ Use number → k ≤ length ls → (number ≡ 0) ⊎ (k < number) → first_at n ls k s part ≡ None
  unfolding shown
  first_no_use part number is fits (inl none) = ap shown (ap (node_of n) (is ∙ ap Use none) ∙ node_of_use n 0)
  first_no_use part number is fits (inr past) =
      let next : number ≡ suc (number - 1) = omega (arith, past) in
      let long = length-map (take k ls) (lemma_of n) ∙ length-take-le k ls fits in
      ap shown (ap (node_of n) (is ∙ ap Use next) ∙ node_of_use n (suc (number - 1)))
      ∙ ap first_turn_of (use_of_none (map (lemma_of n) (take k ls)) (number - 1) s (omega (arith, past, long)))

  pub first_use : (part : tree.Node) (number : ℕ) (d : code.Lemma) → part ≡ Use number → k ≤ length ls → 1 ≤ number → number ≤ k → first_at n ls k s part ≡ first_at n ls (number - 1) s (get_or ls (number - 1) d).body
  unfolding shown
  first_use part number d is fits least most =
      let j : ℕ = number - 1 in
      let next : number ≡ suc j = omega (arith, least) in
      let low : j < k = omega (arith, least, most) in
      let long = length-map (take k ls) (lemma_of n) ∙ length-take-le k ls fits in
      let front : take j (map (lemma_of n) (take k ls)) ≡ map (lemma_of n) (take j ls) = take-map (lemma_of n) j (take k ls) ∙ ap (map (lemma_of n)) (take-take j k ls (omega (arith, low))) in
      let there : get_or (map (lemma_of n) (take k ls)) j (lemma_of n d) ≡ lemma_of n (get_or ls j d) =
      get_or-map (lemma_of n) (take k ls) j d (lemma_of n d) (omega (arith, low, length-take-le k ls fits)) ∙ ap (lemma_of n) (get_or-take k ls j d low) in
      ap shown (ap (node_of n) (is ∙ ap Use next) ∙ node_of_use n (suc j))
      ∙ ap first_turn_of (use_of_lemma (map (lemma_of n) (take k ls)) j (lemma_of n d) s (omega (arith, low, long))
      ∙ ap₂ (λ (ms : List Lemma) (l : Lemma). expand_node (answers_behind [] ms) l.body s) front there)

-- the first turn of a certificate that was checked is that of its claim
pub first_is : (c : Certificate) (n : ℕ) (s : GameState) (o : Option Turn) → c.size ≡ n
    → ((m : ℕ) (u : GameState) → option_map (ply_of m) o ≡ first_turn_of (expand_node (answers_behind [] (map (lemma_of m) c.lemmas.items)) (node_of m c.main) u))
    → option_map (ply_of n) o ≡ first_turn (claim_of c) s
first_is c n s o same is = subst (λ m. option_map (ply_of m) o ≡ first_turn (claim_of c) s) same (is c.size s)

-- it is there exactly where the winner is to move
pub first_due : (q : GameProblem) (z : Claim) (f : Turn → Ply) (o : Option Turn) → option_map f o ≡ first_turn z (start q)
    → (IsTrue (is_to_move z.winner (start q)) → (t : Ply) × IsFirstTurn q z t)
    → ((t : Ply) → first_turn z (start q) ≡ Some t → IsTrue (is_to_move z.winner (start q)) × IsFirstTurn q z t)
    → is_some o ≡ is_to_move z.winner (start q)
first_due q z f (Some t) is there says = sym (says (f t) (sym is)).0
first_due q z f None is there says = go (is_to_move z.winner (start q)) refl
  where
    go : (b : Bool) → is_to_move z.winner (start q) ≡ b → false ≡ b
    go false e = refl
    go true e = let given = (there e).1.given in absurd (cc (is, given))

pub first_wins : (q : GameProblem) (z : Claim) (f : Turn → Ply) (o : Option Turn) → option_map f o ≡ first_turn z (start q)
    → ((t : Ply) → first_turn z (start q) ≡ Some t → IsTrue (is_to_move z.winner (start q)) × IsFirstTurn q z t)
    → IfSome o (λ t. IsFirstTurn q z (f t))
first_wins q z f None is says = tt
first_wins q z f (Some t) is says = (says (f t) (sym is)).1
