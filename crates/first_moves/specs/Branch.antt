-- What is written of a first turn in a record: the comment of its node begins with whether it is right, and who wins.
use Rattle.std.specs.Prelude.{◌≡◌, ℕ, List, [], ◌∷◌, ◌++◌, codes}
use Rattle.go_points.specs.declared.Colour.{Colour}
use Rattle.go_points.specs.Grid.{opponent_of}
use Rattle.sgf_text.specs.Trees.{GameTree, Node}
use Rattle.tool_parts.specs.Says.{winner_text}
use Rattle.first_moves.specs.declared.judged.Judged.{Judged}
use Rattle.first_moves.specs.declared.judged.Judged.TheVariants.{Right, Refuted, Ends, Unknown}

-- of a turn of this side, where a right one is called by this word
abbrev pub label_text : List ℕ → Colour → Judged → List ℕ
label_text right mover (Right checked) = right ++ (codes ": " ++ winner_text mover)
label_text right mover (Refuted checked) = codes "wrong: " ++ winner_text (opponent_of mover)
label_text right mover Ends = codes "wrong: " ++ winner_text (opponent_of mover)
label_text right mover Unknown = codes "unknown"

-- the comment of the node, its last property, begins with the text
abbrev pub IsLabelled : List ℕ → Node → Type 0
IsLabelled text node = (front : Node) × (rest : List ℕ) × (node ≡ front ++ record { ident = codes "C"; values = (text ++ rest) ∷ [] } ∷ [])

-- and so does that of the tree's first node
abbrev pub HasLabel : List ℕ → GameTree → Type 0
HasLabel text tree = (node : Node) × (later : List Node) × (tree.nodes ≡ node ∷ later) × IsLabelled text node
