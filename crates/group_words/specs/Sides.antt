-- The sides of a question, and the words for how far a finding is to be trusted (this project's own).
use Rattle.std.specs.Prelude.{ℕ, Bool, true, false, ◌&&◌, nat_le, List, codes, Option, Some, None}
use Rattle.go_points.specs.declared.Colour.{Colour}
use Rattle.go_points.specs.Grid.{opponent_of}
use Rattle.group_words.specs.declared.side.Side.{Side}
use Rattle.group_words.specs.declared.side.Side.TheVariants.{Attacker, Defender}
use Rattle.group_words.specs.declared.side.Word.{Word}
use Rattle.group_words.specs.declared.side.Word.TheVariants.{Sure, Likely, Hint, Leaning, Unknown}
use Rattle.group_words.specs.declared.side.Finding.{Finding}

-- the colour of a side, if this is the defender's
abbrev pub colour_of : Side → Colour → Colour
colour_of Attacker defender = opponent_of defender
colour_of Defender defender = defender

abbrev pub same_side : Side → Side → Bool
same_side Attacker Attacker = true
same_side Defender Defender = true
same_side _ _ = false

-- Is the winner this side?
abbrev pub is_won_by : Side → Option Side → Bool
is_won_by x None = false
is_won_by x (Some y) = same_side x y

-- the words, the surest first
abbrev pub rank : Word → ℕ
rank Sure = 0
rank Likely = 1
rank Hint = 2
rank Leaning = 3
rank Unknown = 4

abbrev pub word_text : Word → List ℕ
word_text Sure = codes "sure"
word_text Likely = codes "likely"
word_text Hint = codes "hint"
word_text Leaning = codes "leaning"
word_text Unknown = codes "unknown"

-- what happens to the target if this side wins
abbrev pub end_text : Option Side → List ℕ
end_text (Some Attacker) = codes "dies"
end_text (Some Defender) = codes "lives"
end_text None = codes "unknown"

-- Does a finding say that this side wins, at least as surely as the word says?
abbrev pub says : Finding → Side → Word → Bool
says f x w = is_won_by x f.winner && nat_le (rank f.word) (rank w)

-- the finding of this winner, by only one procedure; and the finding of nothing
abbrev pub finding_of : Side → Word → Finding
finding_of x w = record { winner = Some x; word = w; since = 0; largest = 0; is_split = false }

abbrev pub nothing : Finding
nothing = record { winner = None; word = Unknown; since = 0; largest = 0; is_split = false }
