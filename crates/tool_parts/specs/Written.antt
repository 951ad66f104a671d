-- What a run writes: its bytes, and how the run ends if they are written.
use Rattle.std.specs.Prelude.{◌≡◌, ◌⊎◌, ℕ, List, [], ◌∷◌, ◌++◌, string_bytes}
use Rattle.sgf_text.specs.Text.{tree_text}
use Rattle.tool_parts.specs.declared.output.Output.{Output}
use Rattle.tool_parts.specs.declared.output.Output.TheVariants.{Record, Text}
use Rattle.run_parts.specs.declared.status.Status.{Status}
use Rattle.run_parts.specs.declared.status.Status.TheVariants.{Answered, BadWords, Failed}

-- a record and a line feed, or a text
abbrev pub bytes_of : Output → List ℕ
bytes_of (Record tree) = tree_text tree ++ 10 ∷ []
bytes_of (Text text status) = string_bytes text

abbrev pub end_of : Output → Status
end_of (Record tree) = Answered
end_of (Text text status) = status

-- how a program ends whose words cannot be read
abbrev pub IsWordless : Status → Type 0
IsWordless status = (status ≡ BadWords) ⊎ (status ≡ Failed)
