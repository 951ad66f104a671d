-- Turns that were judged one by one.
use Rattle.first_moves.proofs.Common.{◌≡◌, List, [], ◌∷◌, ◌++◌, append_assoc, sym, ◌∙◌, GameProblem, Found, AreJudged}
use Rattle.go_points.specs.Ply.{Ply}
use Rattle.first_moves.specs.Judged.{IsFound}

-- Of the turns those before the ones that are left have been judged.
abbrev pub JudgedBefore : GameProblem → List Ply → List Ply → List Found → Type 0
JudgedBefore q turns left found = (before : List Ply) × (turns ≡ before ++ left) × AreJudged q before found

judged_last : (q : GameProblem) (t : Ply) (f : Found) → IsFound q t f
    → (before : List Ply) (found : List Found) → AreJudged q before found → AreJudged q (before ++ t ∷ []) (found ++ f ∷ [])
judged_last q t f is [] [] had = (is, tt)
judged_last q t f is (u ∷ before) (g ∷ found) had = (had.0, judged_last q t f is before found had.1)
judged_last q t f is [] (g ∷ found) had = absurd had
judged_last q t f is (u ∷ before) [] had = absurd had

-- One more was judged, which is the first of those that were left.
pub judged_more : (q : GameProblem) (turns left : List Ply) (t : Ply) (f : Found) (found : List Found)
    → IsFound q t f → JudgedBefore q turns (t ∷ left) found → JudgedBefore q turns left (found ++ f ∷ [])
judged_more q turns left t f found is (before, whole, had) = (before ++ t ∷ [], whole ∙ sym (append_assoc before (t ∷ []) left), judged_last q t f is before found had)
