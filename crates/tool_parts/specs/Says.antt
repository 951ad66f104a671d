-- Words that all programs say alike.
--     colour_text k, letter_text k      the name of a colour in a sentence, and as a letter
--     winner_text k      who wins
use Rattle.std.specs.Prelude.{ℕ, List, ◌++◌, codes}
use Rattle.go_points.specs.declared.Colour.{Colour}
use Rattle.go_points.specs.declared.Colour.TheVariants.{Black, White}

abbrev pub colour_text : Colour → List ℕ
colour_text Black = codes "Black"
colour_text White = codes "White"

abbrev pub letter_text : Colour → List ℕ
letter_text Black = codes "B"
letter_text White = codes "W"

abbrev pub winner_text : Colour → List ℕ
winner_text k = colour_text k ++ codes " wins"
