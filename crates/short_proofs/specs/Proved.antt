-- What a search for a short claim may say (this project's own).
use Rattle.target_game.specs.State.{GameProblem, GameState, start}
use Rattle.target_game.specs.Wins.{Wins}
use Rattle.short_proofs.specs.Says.{HasVerdict, IsAccepted, IsSafeOrDead}
use Rattle.short_proofs.specs.Sound.{IsReading}
use Rattle.short_proofs.specs.declared.proof.Proved as code
use Rattle.short_proofs.specs.declared.proof.Proved.TheVariants as answers
use Rattle.short_proofs.specs.declared.whole.Found as whole
use Rattle.short_proofs.specs.declared.whole.Found.TheVariants as claims
use Rattle.short_proofs.specs.declared.reading.Reading as records
use Rattle.short_proofs.specs.declared.reading.Reading.TheVariants as shown

-- Who is said to win wins, and the judge accepts the text for that side.
abbrev pub HasWinner : GameProblem → code.Proved → Type 0
HasWinner q (answers.Wins winner turn text certificate) = IsAccepted q text.items winner × Wins winner (start q)
HasWinner q (answers.Unknown cause steps) = Unit {0}

-- Who is named as the winner in a record for readers wins, and the record names that side. Its nodes say what is so.
abbrev pub HasNamedWinner : GameState → records.Reading → Type 0
HasNamedWinner s (shown.Wins winner turns tree) = Wins winner s × HasVerdict winner tree × IsReading winner s tree
HasNamedWinner s (shown.TooLarge winner turn) = Wins winner s
HasNamedWinner s (shown.Unknown cause steps) = Unit {0}

-- A claim by answers is handed out only of what is so.
abbrev pub HasClaim : GameProblem → whole.Found → Type 0
HasClaim q (claims.Claim text) = IsSafeOrDead q
HasClaim q claims.Refused = Unit {0}
HasClaim q claims.Nothing = Unit {0}
