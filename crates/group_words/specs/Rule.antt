-- What two procedures say together, and what both first moves say about a group (this project's own).
use Rattle.std.specs.Prelude.{◌≡◌, ℕ, codes, Bool, false, not, ◌&&◌, ◌||◌, nat_lt, nat_eq, if◌then◌else◌, List, [], ◌∷◌, Option, Some, None, IsTrue}
use Rattle.group_words.specs.declared.side.Side.{Side}
use Rattle.group_words.specs.declared.side.Side.TheVariants.{Attacker, Defender}
use Rattle.group_words.specs.declared.side.Word.{Word}
use Rattle.group_words.specs.declared.side.Word.TheVariants.{Sure, Likely, Hint, Leaning, Unknown}
use Rattle.group_words.specs.declared.side.Finding.{Finding}
use Rattle.group_words.specs.declared.rule.Fate.{Fate}
use Rattle.group_words.specs.declared.rule.Fate.TheVariants as fates
use Rattle.group_words.specs.declared.rule.Judgement.{Judgement}
use Rattle.group_words.specs.Sides.{is_won_by, same_side, rank, says}

-- The word for two findings of the same winner: sure if both are, likely if one is, a hint if none is; a leaning if one of them is
-- only that.
abbrev pub both_words : Word → Word → Word
both_words v w =
    (if nat_eq (rank v) (rank Leaning) || nat_eq (rank w) (rank Leaning) then Leaning
    else (if nat_eq (rank v) (rank Sure) then (if nat_eq (rank w) (rank Sure) then Sure else Likely)
    else (if nat_eq (rank w) (rank Sure) then Likely else Hint)))

-- The word for two findings: unknown if none decides, or if they decide for different winners; a leaning if only one decides.
abbrev pub word_together : Option Side → Option Side → Word → Word → Word
word_together None None v w = Unknown
word_together None (Some y) v w = Leaning
word_together (Some x) None v w = Leaning
word_together (Some x) (Some y) v w = (if same_side x y then both_words v w else Unknown)

-- Do both decide, but for different winners?
abbrev pub are_split : Option Side → Option Side → Bool
are_split (Some x) (Some y) = not (same_side x y)
are_split _ _ = false

-- their winner; `None` if they are split
abbrev pub winner_together : Option Side → Option Side → Option Side
winner_together None y = y
winner_together (Some x) None = Some x
winner_together (Some x) (Some y) = (if same_side x y then Some x else None)

-- What both findings say together. The sizes are those of the second.
abbrev pub together : Finding → Finding → Finding
together one other = record {
  winner = winner_together one.winner other.winner;
  word = word_together one.winner other.winner one.word other.word;
  since = other.since;
  largest = other.largest;
  is_split = are_split one.winner other.winner;
}

-- That the group lives is only a leaning if the attacker's win begins at a size at which the defender's first move was not decided.
abbrev pub weakened : Finding → Finding → Finding
weakened a d =
    (if is_won_by Attacker a.winner && is_won_by Defender d.winner && nat_lt d.largest a.since then record d { word = Leaning } else d)

-- What becomes of the group, as surely as this word says: dead if the attacker wins though the defender moves first, unsettled if
-- whoever moves first wins, and alive if the defender wins though the attacker moves first.
abbrev pub fate_at : Word → Finding → Finding → Option Fate
fate_at w a d =
    (if says d Attacker w then Some fates.Dead
    else (if says a Attacker w && says d Defender w then Some fates.Unsettled
    else (if says a Defender w then Some fates.Alive else None)))

-- by the surest word that decides
abbrev pub first_fate : List Word → Finding → Finding → Fate × Word
first_fate [] a d = (fates.Unknown, Unknown)
first_fate (w ∷ ws) a d = elim (fate_at w a d) [ None ↦ first_fate ws a d | Some f ↦ (f, w) ]

abbrev pub fate_of : Finding → Finding → Fate × Word
fate_of a d = first_fate (Sure ∷ Likely ∷ Hint ∷ Leaning ∷ []) a d

-- What is written of it.
abbrev pub fate_text : Fate → List ℕ
fate_text fates.Alive = codes "alive"
fate_text fates.Dead = codes "dead"
fate_text fates.Unsettled = codes "unsettled"
fate_text fates.Unknown = codes "unknown"

-- What is judged, by both findings. The second is `None` if the first alone decides: the defender surely wins though the attacker
-- moves first, so the group is alive, since it may pass if it moves first.
abbrev pub IsJudged : Finding → Option Finding → Fate → Word → Type 0
IsJudged a None fate word = IsTrue (says a Defender Sure) × (fate ≡ fates.Alive) × (word ≡ Sure)
IsJudged a (Some d) fate word = ((asked : Finding) × (d ≡ weakened a asked)) × ((fate, word) ≡ fate_of a d)

-- A judgement follows the rule.
abbrev pub IsByRule : Judgement → Type 0
IsByRule j = IsJudged j.attacker_first j.defender_first j.fate j.word
