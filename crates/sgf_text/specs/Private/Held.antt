-- Where bytes and values are held.
use Rattle.std.specs.Prelude.{ℕ, ◌≤◌, List, take}
use Rattle.sgf_text.specs.declared.bytes.HeldBytes.{HeldBytes}
use Rattle.sgf_text.specs.declared.bytes.HeldBytes.TheVariants.{Short, Long}
use Rattle.sgf_text.specs.declared.values.HeldValues.{HeldValues}
use Rattle.sgf_text.specs.declared.values.HeldValues.TheVariants.{One, Many}

abbrev pub held_bytes : HeldBytes → List ℕ
held_bytes (Short len bytes) = take len bytes
held_bytes (Long bytes) = bytes.items

abbrev pub AreHeld : HeldBytes → Type 0
AreHeld (Short len bytes) = len ≤ 22
AreHeld (Long bytes) = Unit {0}

abbrev pub held_values : HeldValues → List (List ℕ)
held_values (One values) = values
held_values (Many values) = values.items
