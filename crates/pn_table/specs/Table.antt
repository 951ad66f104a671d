-- What a table holds, and what its calls do to it.
use Rattle.std.specs.Prelude.{ℕ, Bool, ◌&&◌, not, nat_eq, List, ◌∷◌, take, filter, Option, Some, None}
use Rattle.std.specs.Map.{lookup}
use Rattle.go_points.specs.Grid.{same_colour}
use Rattle.pn_table.specs.declared.key.Key.{Key}
use Rattle.pn_table.specs.declared.numbers.Numbers.{Numbers}

-- Pairs of a key and its numbers, the most recently used first, and how many there may be.
pub record TableContent : Type 0 where
  pub entries : List (Key × Numbers)
  pub capacity : ℕ

-- Are two keys the same in all their parts?
abbrev pub same_key : Key → Key → Bool
same_key j k = nat_eq j.position k.position && (same_colour j.mover k.mover && nat_eq j.passes k.passes)

-- The pairs of the other keys, in their order.
abbrev pub others : Key → List (Key × Numbers) → List (Key × Numbers)
others key entries = filter (λ e. not (same_key key e.0)) entries

-- The pairs with this key's pair first. They stay as they are if it has none.
abbrev pub promoted : Key → Option Numbers → List (Key × Numbers) → List (Key × Numbers)
promoted key None entries = entries
promoted key (Some numbers) entries = (key, numbers) ∷ others key entries

-- The table after a look at a key.
abbrev pub looked : TableContent → Key → TableContent
looked t key = record t { entries = promoted key (lookup (same_key key) t.entries) t.entries }

-- The table after numbers are stored: the pair is the first, an older pair of the key is gone, and excess pairs are dropped from
-- the end.
abbrev pub stored : TableContent → Key → Numbers → TableContent
stored t key numbers = record t { entries = take t.capacity ((key, numbers) ∷ others key t.entries) }
