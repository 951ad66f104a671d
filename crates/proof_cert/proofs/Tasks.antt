-- The lines of what is still to be given.
use Rattle.proof_cert.proofs.Common.{◌≡◌, ℕ, List, [], ◌∷◌, ◌++◌, map, Option, Some, sym, ap, ◌∙◌, append_assoc, append-nil, Cell, Turn, ply_of, Line, had_spelled, not_line, reply_line, node_lines, branch_lines, lemma_lines, lemmas_lines, node_of, replies_of, lemma_of, task_lines, lines_left, Task}
use Rattle.proof_cert.specs.declared.certificate.Node.{Node}
use Rattle.proof_cert.specs.declared.certificate.Lemma.{Lemma}

pub left_pushed : (n : ℕ) (ts : List Task) (t : Task) → lines_left n (ts ++ t ∷ []) ≡ task_lines n t ++ lines_left n ts
left_pushed n [] t = sym (append-nil (task_lines n t))
left_pushed n (s ∷ ts) t = ap (λ x. x ++ task_lines n s) (left_pushed n ts t) ∙ append_assoc (task_lines n t) (lines_left n ts) (task_lines n s)

-- a lemma after its first line, and what follows
pub lemma_left : (h a b : List (Option Line)) (e : Option Line) (rest : List (Option Line)) → (((h ++ a) ++ b) ++ e ∷ []) ++ rest ≡ h ++ (a ++ (b ++ (e ∷ rest)))
lemma_left h a b e rest = append_assoc ((h ++ a) ++ b) (e ∷ []) rest ∙ append_assoc (h ++ a) b (e ∷ rest) ∙ append_assoc h a (b ++ (e ∷ rest))

-- the first of a list, and the others
module _ (n : ℕ) where
  pub lemmas_first : (v : ℕ) (ls : List Lemma) (l : Lemma) (rest : List Lemma) → ls ≡ l ∷ rest → lemmas_lines v (map (lemma_of n) ls) ≡ lemma_lines v (lemma_of n l) ++ lemmas_lines v (map (lemma_of n) rest)
  lemmas_first v ls l rest is = ap (λ x. lemmas_lines v (map (lemma_of n) x)) is

  pub had_first : (v : ℕ) (cs : List (List Cell)) (c : List Cell) (rest : List (List Cell)) → cs ≡ c ∷ rest → map (had_spelled v) cs ≡ had_spelled v c ∷ map (had_spelled v) rest
  had_first v cs c rest is = ap (map (had_spelled v)) is

  pub listed_first : (cs : List (List Cell)) (c : List Cell) (rest : List (List Cell)) → cs ≡ c ∷ rest → map (λ d. Some (not_line d)) cs ≡ Some (not_line c) ∷ map (λ d. Some (not_line d)) rest
  listed_first cs c rest is = ap (map (λ d. Some (not_line d))) is

  pub reply_first : (rs : List (Turn × Node)) (r : Turn × Node) (rest : List (Turn × Node)) → rs ≡ r ∷ rest → branch_lines (replies_of n rs) ≡ Some (reply_line (ply_of n r.0)) ∷ node_lines (node_of n r.1) ++ branch_lines (replies_of n rest)
  reply_first rs r rest is = ap (λ x. branch_lines (replies_of n x)) is

  pub lemmas_none : (v : ℕ) (ls : List Lemma) → ls ≡ [] → lemmas_lines v (map (lemma_of n) ls) ≡ []
  lemmas_none v ls is = ap (λ x. lemmas_lines v (map (lemma_of n) x)) is

  pub had_none : (v : ℕ) (cs : List (List Cell)) → cs ≡ [] → map (had_spelled v) cs ≡ []
  had_none v cs is = ap (map (had_spelled v)) is

  pub listed_none : (cs : List (List Cell)) → cs ≡ [] → map (λ d. Some (not_line d)) cs ≡ []
  listed_none cs is = ap (map (λ d. Some (not_line d))) is

  pub replies_none : (rs : List (Turn × Node)) → rs ≡ [] → branch_lines (replies_of n rs) ≡ []
  replies_none rs is = ap (λ x. branch_lines (replies_of n x)) is
