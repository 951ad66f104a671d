-- What the first procedure makes of its answers (this project's own).
use Rattle.std.specs.Prelude.{Bool, ◌&&◌, ◌||◌, nat_lt, nat_eq, if◌then◌else◌, Option, Some, None, is_some, is_none}
use Rattle.group_words.specs.declared.side.Side.{Side}
use Rattle.group_words.specs.declared.side.Side.TheVariants.{Attacker, Defender}
use Rattle.group_words.specs.declared.side.Word.{Word}
use Rattle.group_words.specs.declared.side.Word.TheVariants.{Sure, Likely}
use Rattle.group_words.specs.declared.side.Finding.{Finding}
use Rattle.group_status.specs.declared.first_procedure.Course.{Course}
use Rattle.group_words.specs.Sides.{is_won_by, finding_of, nothing}

-- Who surely wins at a size: the attacker if it wins though weak walls fall, the defender if it wins though it is shut in.
abbrev pub sure_winner : Option Side → Option Side → Option Side
sure_winner kind hard = (if is_won_by Attacker kind then Some Attacker else (if is_won_by Defender hard then Some Defender else None))

-- Is the second winner `None`, or the same as the first?
abbrev pub same_winner : Option Side → Option Side → Bool
same_winner None y = is_none y
same_winner (Some x) y = is_won_by x y

-- Sure: the side that surely won at the last size that was decided, unless the natural walls were last against it. A single size
-- counts only if nothing more can be reached.
abbrev pub is_sure : Course → Bool → Bool
is_sure c is_small = is_some c.sure && (nat_eq c.naturals 0 || same_winner c.sure c.natural) && (nat_lt 1 c.sizes || is_small)

-- Likely: the natural winner, if the last two are the same, or if there is one and nothing more can be reached.
abbrev pub is_likely : Course → Bool → Bool
is_likely c is_small = is_some c.natural && (nat_lt 1 c.naturals && same_winner c.natural c.natural_before || nat_eq c.naturals 1 && is_small)

abbrev pub found_by : Option Side → Word → Finding
found_by None w = nothing
found_by (Some x) w = finding_of x w

abbrev pub first_finding : Course → Bool → Finding
first_finding c is_small = (if is_sure c is_small then found_by c.sure Sure else (if is_likely c is_small then found_by c.natural Likely else nothing))
