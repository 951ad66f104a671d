-- What the parts of a tree have, where the tree has a spelling, and what its text is made of.
use Rattle.proof_cert.proofs.Common.{◌≡◌, ℕ, ◌+◌, ◌<◌, Bool, true, false, ◌&&◌, List, [], ◌∷◌, ◌++◌, map, length, drop, get_or, Option, Some, None, IsTrue, Vec, Box, Global, sym, ap, ◌∙◌, subst, refl, cond, append_assoc, list_all, at_drop_more, false≢true, Cell, Turn, ply_of, Line, play_line, all_line, use_line, won_line, reply_line, had_spelled, not_line, lemma_line, header_line, main_line, end_line, node_lines, branch_lines, lemma_lines, lemmas_lines, lines_of, turn_fits, is_spelled, line_bytes, line_feed, with_line, text_of_lines, version_number, node_of, replies_of, lemma_of, claim_of, line_text, lines_text, Won, Use, Play, All, Certificate}
use Rattle.std.proofs.lemmas.Grind.{flat_map-append}
use Rattle.proof_cert.specs.declared.certificate.Node.{Node}
use Rattle.proof_cert.specs.declared.certificate.Lemma.{Lemma}
use Rattle.proof_cert.proofs.Certificates.{node_of_won, node_of_use, node_of_play, node_of_all, replies_more, replies_counted, list_all_joined}
use Rattle.proof_cert.proofs.Words.{and_first, and_second}

abbrev pub AreSpelled : ℕ → List (Option Line) → Type 0
AreSpelled n ls = IsTrue (list_all (is_spelled n) ls)

pub spelled_front : (n : ℕ) (xs ys : List (Option Line)) → AreSpelled n (xs ++ ys) → AreSpelled n xs
spelled_front n xs ys h = and_first (list_all (is_spelled n) xs) (list_all (is_spelled n) ys) (subst (λ b. IsTrue b) (list_all_joined (is_spelled n) xs ys) h)

pub spelled_rest : (n : ℕ) (xs ys : List (Option Line)) → AreSpelled n (xs ++ ys) → AreSpelled n ys
spelled_rest n xs ys h = and_second (list_all (is_spelled n) xs) (list_all (is_spelled n) ys) (subst (λ b. IsTrue b) (list_all_joined (is_spelled n) xs ys) h)

pub lines_text_joined : (n : ℕ) (xs ys : List (Option Line)) → lines_text n (xs ++ ys) ≡ lines_text n xs ++ lines_text n ys
lines_text_joined n xs ys = flat_map-append (line_text n) xs ys

-- ---- nodes

module _ (n : ℕ) (node : Node) where
  pub won_lines : node ≡ Won → node_lines (node_of n node) ≡ Some won_line ∷ []
  won_lines is = ap (λ (x : Node). node_lines (node_of n x)) is ∙ ap node_lines (node_of_won n)

  pub use_lines : (j : ℕ) → node ≡ Use j → node_lines (node_of n node) ≡ Some (use_line j) ∷ []
  use_lines j is = ap (λ (x : Node). node_lines (node_of n x)) is ∙ ap node_lines (node_of_use n j)

  pub play_lines : (t : Turn) (below : Box Node Global) → node ≡ Play t below → node_lines (node_of n node) ≡ Some (play_line (ply_of n t)) ∷ node_lines (node_of n below.value)
  play_lines t below is = ap (λ (x : Node). node_lines (node_of n x)) is ∙ ap node_lines (node_of_play n t below)

  pub all_lines : (replies : Vec (Turn × Node) Global) → node ≡ All replies → node_lines (node_of n node) ≡ Some (all_line (length replies.items)) ∷ branch_lines (replies_of n replies.items)
  all_lines replies is =
      ap (λ (x : Node). node_lines (node_of n x)) is ∙ ap node_lines (node_of_all n replies)
      ∙ ap (λ k. Some (all_line k) ∷ branch_lines (replies_of n replies.items)) (replies_counted n replies.items)

pub replies_lines : (n : ℕ) (rs : List (Turn × Node)) (i : ℕ) (r : Turn × Node) → i < length rs → r ≡ get_or rs i r → branch_lines (replies_of n (drop i rs)) ≡ Some (reply_line (ply_of n r.0)) ∷ node_lines (node_of n r.1) ++ branch_lines (replies_of n (drop (i + 1) rs))
replies_lines n rs i r within is = ap branch_lines (replies_more n rs i r within is)

-- ---- a first line with what follows

module _ (n : ℕ) (ls : List (Option Line)) (l : Line) (rest : List (Option Line)) (is : ls ≡ Some l ∷ rest) (spelled : AreSpelled n ls) where
  pub first_is_spelled : IsTrue (is_spelled n (Some l))
  first_is_spelled = and_first (is_spelled n (Some l)) (list_all (is_spelled n) rest) (subst (AreSpelled n) is spelled)

  pub rest_is_spelled : AreSpelled n rest
  rest_is_spelled = and_second (is_spelled n (Some l)) (list_all (is_spelled n) rest) (subst (AreSpelled n) is spelled)

-- ---- texts

pub reply_text : (n : ℕ) (rs : List (Turn × Node)) (i : ℕ) (r : Turn × Node) → i < length rs → r ≡ get_or rs i r
    → lines_text n (branch_lines (replies_of n (drop i rs))) ≡ line_text n (Some (reply_line (ply_of n r.0))) ++ (lines_text n (node_lines (node_of n r.1)) ++ lines_text n (branch_lines (replies_of n (drop (i + 1) rs))))
reply_text n rs i r within is =
    ap (lines_text n) (replies_lines n rs i r within is)
    ∙ ap (λ x. line_text n (Some (reply_line (ply_of n r.0))) ++ x) (lines_text_joined n (node_lines (node_of n r.1)) (branch_lines (replies_of n (drop (i + 1) rs))))

module _ (n : ℕ) (rs : List (Turn × Node)) (i : ℕ) (r : Turn × Node) (within : i < length rs) (is : r ≡ get_or rs i r) (spelled : AreSpelled n (branch_lines (replies_of n (drop i rs)))) where
  tail_spelled : AreSpelled n (node_lines (node_of n r.1) ++ branch_lines (replies_of n (drop (i + 1) rs)))
  tail_spelled = rest_is_spelled n (branch_lines (replies_of n (drop i rs))) (reply_line (ply_of n r.0)) (node_lines (node_of n r.1) ++ branch_lines (replies_of n (drop (i + 1) rs))) (replies_lines n rs i r within is) spelled

  pub reply_is_spelled : IsTrue (turn_fits n (ply_of n r.0))
  reply_is_spelled = and_first (turn_fits n (ply_of n r.0)) true (first_is_spelled n (branch_lines (replies_of n (drop i rs))) (reply_line (ply_of n r.0)) (node_lines (node_of n r.1) ++ branch_lines (replies_of n (drop (i + 1) rs))) (replies_lines n rs i r within is) spelled)

  pub below_is_spelled : AreSpelled n (node_lines (node_of n r.1))
  below_is_spelled = spelled_front n (node_lines (node_of n r.1)) (branch_lines (replies_of n (drop (i + 1) rs))) tail_spelled

  pub others_are_spelled : AreSpelled n (branch_lines (replies_of n (drop (i + 1) rs)))
  others_are_spelled = spelled_rest n (node_lines (node_of n r.1)) (branch_lines (replies_of n (drop (i + 1) rs))) tail_spelled

pub not_text : (n : ℕ) (cs : List (List Cell)) (i : ℕ) (c : List Cell) → i < length cs → c ≡ get_or cs i c
    → lines_text n (map (λ c. Some (not_line c)) (drop i cs)) ≡ line_text n (Some (not_line c)) ++ lines_text n (map (λ c. Some (not_line c)) (drop (i + 1) cs))
not_text n cs i c within is =
    at_drop_more (λ ds. lines_text n (map (λ d. Some (not_line d)) ds)) cs i c within
    ∙ ap (λ d. line_text n (Some (not_line d)) ++ lines_text n (map (λ e. Some (not_line e)) (drop (i + 1) cs))) (sym is)

pub had_text : (v n : ℕ) (cs : List (List Cell)) (i : ℕ) (c : List Cell) → i < length cs → c ≡ get_or cs i c
    → lines_text n (map (had_spelled v) (drop i cs)) ≡ line_text n (had_spelled v c) ++ lines_text n (map (had_spelled v) (drop (i + 1) cs))
had_text v n cs i c within is =
    at_drop_more (λ ds. lines_text n (map (had_spelled v) ds)) cs i c within
    ∙ ap (λ d. line_text n (had_spelled v d) ++ lines_text n (map (had_spelled v) (drop (i + 1) cs))) (sym is)

pub lemmas_text : (v n : ℕ) (ls : List Lemma) (i : ℕ) (l : Lemma) → i < length ls → l ≡ get_or ls i l
    → lines_text n (lemmas_lines v (map (lemma_of n) (drop i ls))) ≡ lines_text n (lemma_lines v (lemma_of n l)) ++ lines_text n (lemmas_lines v (map (lemma_of n) (drop (i + 1) ls)))
lemmas_text v n ls i l within is =
    at_drop_more (λ ds. lines_text n (lemmas_lines v (map (lemma_of n) ds))) ls i l within
    ∙ ap (λ d. lines_text n (lemma_lines v (lemma_of n d) ++ lemmas_lines v (map (lemma_of n) (drop (i + 1) ls)))) (sym is)
    ∙ lines_text_joined n (lemma_lines v (lemma_of n l)) (lemmas_lines v (map (lemma_of n) (drop (i + 1) ls)))

pub lemmas_spelled : (v n : ℕ) (ls : List Lemma) (i : ℕ) (l : Lemma) → i < length ls → l ≡ get_or ls i l
    → AreSpelled n (lemmas_lines v (map (lemma_of n) (drop i ls))) → AreSpelled n (lemma_lines v (lemma_of n l) ++ lemmas_lines v (map (lemma_of n) (drop (i + 1) ls)))
lemmas_spelled v n ls i l within is h =
    subst (AreSpelled n)
    (at_drop_more (λ ds. lemmas_lines v (map (lemma_of n) ds)) ls i l within ∙ ap (λ d. lemma_lines v (lemma_of n d) ++ lemmas_lines v (map (lemma_of n) (drop (i + 1) ls))) (sym is)) h

-- three lists after a first line
three : (n : ℕ) (a b c : List (Option Line)) → lines_text n ((a ++ b) ++ c) ≡ lines_text n a ++ (lines_text n b ++ lines_text n c)
three n a b c =
    lines_text_joined n (a ++ b) c ∙ ap (λ x. x ++ lines_text n c) (lines_text_joined n a b)
    ∙ append_assoc (lines_text n a) (lines_text n b) (lines_text n c)

four : (n : ℕ) (h a b c : List (Option Line)) → lines_text n (((h ++ a) ++ b) ++ c) ≡ lines_text n h ++ (lines_text n a ++ (lines_text n b ++ lines_text n c))
four n h a b c =
    three n (h ++ a) b c ∙ ap (λ x. x ++ (lines_text n b ++ lines_text n c)) (lines_text_joined n h a)
    ∙ append_assoc (lines_text n h) (lines_text n a) (lines_text n b ++ lines_text n c)

module _ (v n : ℕ) (l : Lemma) where
  abbrev had_lines : List (Option Line)
  had_lines = map (had_spelled v) l.had.items

  abbrev not_lines : List (Option Line)
  not_lines = map (λ c. Some (not_line c)) l.absent.items

  pub lemma_text : lines_text n (lemma_lines v (lemma_of n l))
      ≡ line_text n (Some (lemma_line l.mover l.passes l.root)) ++ (lines_text n (map (had_spelled v) l.had.items) ++ (lines_text n (map (λ c. Some (not_line c)) l.absent.items) ++ (lines_text n (node_lines (node_of n l.body)) ++ line_text n (Some end_line))))
  lemma_text = ap (λ x. line_text n (Some (lemma_line l.mover l.passes l.root)) ++ x) (four n had_lines not_lines (node_lines (node_of n l.body)) (Some end_line ∷ []))

  pub body_is_spelled : AreSpelled n (lemma_lines v (lemma_of n l)) → AreSpelled n (node_lines (node_of n l.body))
  body_is_spelled h =
      let lists : List (Option Line) = had_lines ++ not_lines in
      let behind = and_second (is_spelled n (Some (lemma_line l.mover l.passes l.root))) (list_all (is_spelled n) ((lists ++ node_lines (node_of n l.body)) ++ Some end_line ∷ [])) h in
      spelled_rest n lists (node_lines (node_of n l.body))
      (spelled_front n (lists ++ node_lines (node_of n l.body)) (Some end_line ∷ []) behind)

module _ (c : Certificate) where
  abbrev version : ℕ
  version = version_number c.version

  pub claim_text : lines_text c.size (lines_of (claim_of c))
      ≡ line_text c.size (Some (header_line (version_number c.version) c.size c.winner)) ++ (lines_text c.size (lemmas_lines (version_number c.version) (map (lemma_of c.size) c.lemmas.items)) ++ (line_text c.size (Some main_line) ++ (lines_text c.size (node_lines (node_of c.size c.main)) ++ line_text c.size (Some end_line))))
  claim_text = ap (λ x. line_text c.size (Some (header_line version c.size c.winner)) ++ x) (three c.size (lemmas_lines version (map (lemma_of c.size) c.lemmas.items)) (Some main_line ∷ node_lines (node_of c.size c.main)) (Some end_line ∷ []))

  pub main_is_spelled : AreSpelled c.size (lines_of (claim_of c)) → AreSpelled c.size (node_lines (node_of c.size c.main))
  main_is_spelled h =
      let n = c.size in
      let lemmas = lemmas_lines version (map (lemma_of n) c.lemmas.items) in
      let behind = and_second (is_spelled n (Some (header_line version n c.winner))) (list_all (is_spelled n) ((lemmas ++ Some main_line ∷ node_lines (node_of n c.main)) ++ Some end_line ∷ [])) h in
      spelled_rest n lemmas (Some main_line ∷ node_lines (node_of n c.main))
      (spelled_front n (lemmas ++ Some main_line ∷ node_lines (node_of n c.main)) (Some end_line ∷ []) behind)

-- ---- the text of lines that have a spelling

pub text_is : (n : ℕ) (ls : List (Option Line)) → AreSpelled n ls → text_of_lines n ls ≡ Some (lines_text n ls)
text_is n [] h = refl
text_is n (None ∷ ls) h = absurd (false≢true h)
text_is n (Some l ∷ ls) h = go (is_spelled n (Some l)) (and_first (is_spelled n (Some l)) (list_all (is_spelled n) ls) h) (text_of_lines n ls) (text_is n ls (and_second (is_spelled n (Some l)) (list_all (is_spelled n) ls) h))
  where
    go : (t : Bool) → IsTrue t → (o : Option (List ℕ)) → o ≡ Some (lines_text n ls) → with_line (cond t (Some (line_bytes n l)) None) o ≡ Some ((line_bytes n l ++ line_feed ∷ []) ++ lines_text n ls)
    go false h' o e = absurd (false≢true h')
    go true h' o e = ap (with_line (Some (line_bytes n l))) e ∙ ap Some (sym (append_assoc (line_bytes n l) (line_feed ∷ []) (lines_text n ls)))

pub no_text : (n : ℕ) (ls : List (Option Line)) → list_all (is_spelled n) ls ≡ false → text_of_lines n ls ≡ None
no_text n [] h = cc
no_text n (None ∷ ls) h = refl
no_text n (Some l ∷ ls) h = go (is_spelled n (Some l)) h (λ h'. no_text n ls h')
  where
    none_there : (o : Option (List ℕ)) → with_line None o ≡ None
    none_there o = refl

    some_there : (b : List ℕ) (o : Option (List ℕ)) → o ≡ None → with_line (Some b) o ≡ None
    some_there b o e = ap (with_line (Some b)) e

    go : (t : Bool) → (t && list_all (is_spelled n) ls) ≡ false → (list_all (is_spelled n) ls ≡ false → text_of_lines n ls ≡ None) → with_line (cond t (Some (line_bytes n l)) None) (text_of_lines n ls) ≡ None
    go false h' rest = none_there (text_of_lines n ls)
    go true h' rest = some_there (line_bytes n l) (text_of_lines n ls) (rest h')
