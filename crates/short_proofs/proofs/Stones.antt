-- The line of stones that stand.
use Rattle.std.proofs.Common.{◌≡◌, ℕ, List, [], ◌∷◌, ◌++◌, ◌*◌, codes, sym, ◌∙◌, ap, Option, append_assoc}
use Rattle.go_points.specs.declared.Cell.{Cell}
use Rattle.go_points.specs.declared.Colour.{Colour}
use Rattle.go_points.specs.Place.{Place}
use Rattle.tool_parts.specs.Says.{colour_text}
use Rattle.go_points.specs.Grid.{opponent_of}
use Rattle.short_proofs.specs.Says.{dead_text, first_text, stands_text, stones_text, while_text}

-- the text that is put together is that line
pub stands_is : (n : ℕ) (k : Colour) (first : Option Place) (stones : List Cell) (side rest text : List ℕ) → side ≡ colour_text k → rest ≡ first_text first ++ stones_text n k stones (n * n) → text ≡ codes "stands " ++ (side ++ (rest ++ 10 ∷ [])) → text ≡ stands_text n k first stones
stands_is n k first stones side rest text named told is =
    is ∙ ap (λ l. codes "stands " ++ l) (ap (λ s. s ++ (rest ++ 10 ∷ [])) named ∙ ap (λ r. colour_text k ++ (r ++ 10 ∷ [])) told ∙ sym (append_assoc (colour_text k) (first_text first ++ stones_text n k stones (n * n)) (10 ∷ [])))
    ∙ sym (append_assoc (codes "stands ") (colour_text k ++ (first_text first ++ stones_text n k stones (n * n))) (10 ∷ []))

-- the text of targets that die is that line
pub dead_is : (n : ℕ) (k : Colour) (targets supposed : List Cell) (side rest text : List ℕ) → side ≡ colour_text k → rest ≡ stones_text n k targets (n * n) ++ while_text (stones_text n (opponent_of k) supposed (n * n))
    → text ≡ codes "dead " ++ (side ++ (rest ++ 10 ∷ [])) → text ≡ dead_text n k targets supposed
dead_is n k targets supposed side rest text named told is =
    is ∙ ap (λ l. codes "dead " ++ l) (ap (λ s. s ++ (rest ++ 10 ∷ [])) named ∙ ap (λ r. colour_text k ++ (r ++ 10 ∷ [])) told ∙ sym (append_assoc (colour_text k) (stones_text n k targets (n * n) ++ while_text (stones_text n (opponent_of k) supposed (n * n))) (10 ∷ [])))
    ∙ sym (append_assoc (codes "dead ") (colour_text k ++ (stones_text n k targets (n * n) ++ while_text (stones_text n (opponent_of k) supposed (n * n)))) (10 ∷ []))
