-- What the program's refusals say.
--     why_value n w      why a line is refused; None if memory was refused or the lines could not be read
--     Rejects n v e      the refusal is that of the verdict; if memory was refused or a read failed, nothing is said of the claim
use Rattle.std.specs.Prelude.{◌≡◌, ℕ, Option, Some, None}
use Rattle.go_points.specs.Ply.{ply_of}
use Rattle.cert_check.specs.declared.reject.Why as code
use Rattle.cert_check.specs.declared.reject.Why.TheVariants.{Malformed, SizeDiffers, RootWithoutLiberty, NotWon, WrongSide, TurnBarred, RepeatsKnown, NotListed, RepliesDiffer, LemmaNotLower, StateDiffers, NeededNotOccurred, ListedOccurred, ListedNotPassedOn, ListOrder, Limit, TextAfterEnd, Memory, Read}
use Rattle.cert_check.specs.declared.reject.Reject.{Reject}
use Rattle.cert_check.specs.Body.{Why, malformed, size_differs, root_without_liberty, not_won, wrong_side, turn_barred, repeats_known, not_listed, replies_differ, lemma_not_lower, state_differs, needed_not_occurred, listed_occurred, listed_not_passed_on, list_order, limit, text_after_end}
use Rattle.cert_check.specs.Verdict.{Verdict, rejected}

abbrev pub why_value : ℕ → code.Why → Option Why
why_value n Malformed = Some malformed
why_value n SizeDiffers = Some size_differs
why_value n RootWithoutLiberty = Some root_without_liberty
why_value n NotWon = Some not_won
why_value n WrongSide = Some wrong_side
why_value n TurnBarred = Some turn_barred
why_value n RepeatsKnown = Some repeats_known
why_value n NotListed = Some not_listed
why_value n (RepliesDiffer due) = Some (replies_differ (ply_of n due))
why_value n LemmaNotLower = Some lemma_not_lower
why_value n StateDiffers = Some state_differs
why_value n NeededNotOccurred = Some needed_not_occurred
why_value n ListedOccurred = Some listed_occurred
why_value n ListedNotPassedOn = Some listed_not_passed_on
why_value n ListOrder = Some list_order
why_value n Limit = Some limit
why_value n TextAfterEnd = Some text_after_end
why_value n Memory = None
why_value n Read = None

abbrev pub IsRejection : Verdict → ℕ → Option Why → Type 0
IsRejection v place None = Unit {0}
IsRejection v place (Some why) = v ≡ rejected place why

abbrev pub Rejects : ℕ → Verdict → Reject → Type 0
Rejects n v e = IsRejection v e.place (why_value n e.why)
