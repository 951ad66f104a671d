-- What sources of lines give, by calls one after another.
use Rattle.proof_cert.proofs.Common.{ℕ, ◌≡◌, Bool, true, false, List, [], ◌∷◌, ◌++◌, Option, Some, None, ◌∙◌, sym, ap, subst, refl, append-nil, map, IsTrue, cond, list_all, false≢true, Line, lines_of, is_spelled, spelled_line, SourceFault, Gave}
use Rattle.std.proofs.Common.{Result}
use Rattle.proof_cert.specs.Held.{Held, held_source_of, held_gives}
use Rattle.proof_cert.proofs.Words.{and_first, and_second}
use Rattle.proof_cert.proofs.Texts.{lines_of_texts}
use Rattle.proof_cert.specs.Given.{line_answer, LinesGivenOfClaim, HeldLinesAreTheText}

-- one more call gives one more line
pub gave_more : {S : Type 0} (gives : S → Result (Option Line) SourceFault → S → Type 0) (s t u : S) (ls : List (Option Line)) (l : Option Line) → Gave gives s ls t → gives t (line_answer l) u → Gave gives s (ls ++ l ∷ []) u
gave_more gives s t u [] l given one = (u, subst (λ x. gives x (line_answer l) u) (sym given) one, refl)
gave_more gives s t u (k ∷ ls) l given one = (given.0, given.1, gave_more gives given.0 t u ls l given.2 one)

-- ---- certificates

front_held : (s : Held) (ls : List (Option Line)) (t : Held) → Gave held_gives s ls t → s.left ≡ ls ++ t.left
front_held s [] t e = ap (λ (x : Held). x.left) e
front_held s (None ∷ ls) t given = given.1.1 ∙ ap (λ x. None ∷ x) (front_held given.0 ls t given.2)
front_held s (Some l ∷ ls) t given = given.1.1 ∙ ap (λ x. Some l ∷ x) (front_held given.0 ls t given.2)

pub lines_given_of_claim : LinesGivenOfClaim
lines_given_of_claim z ls t given =
    let front = front_held (held_source_of z) ls t given in
    record {
      front = front;
      all = λ u ended. front ∙ ap (λ x. ls ++ x) ended.1.0 ∙ append-nil ls;
    }

pub all_spelled : (n : ℕ) (ls : List (Option Line)) → IsTrue (list_all (is_spelled n) ls) → map (spelled_line n) ls ≡ ls
all_spelled n [] h = refl
all_spelled n (l ∷ ls) h = go (is_spelled n l) (and_first (is_spelled n l) (list_all (is_spelled n) ls) h) (all_spelled n ls (and_second (is_spelled n l) (list_all (is_spelled n) ls) h))
  where
    go : (t : Bool) → IsTrue t → map (spelled_line n) ls ≡ ls → cond t l None ∷ map (spelled_line n) ls ≡ l ∷ ls
    go true h' e = ap (λ x. l ∷ x) e
    go false h' e = absurd (false≢true h')

pub held_lines_are_the_text : HeldLinesAreTheText
held_lines_are_the_text z bytes e =
    let both = (lines_of_texts z.size bytes (lines_of z)).0 e in
    all_spelled z.size (lines_of z) both.1 ∙ sym both.0
