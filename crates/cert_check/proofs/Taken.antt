-- What the checker answers over the lines that a reader gives.
use Rattle.cert_check.proofs.Common.{◌≡◌, ℕ, ◌≤◌, ◌⊎◌, inl, inr, List, ◌++◌, length, Option, None, Ok, ap, ◌∙◌, arith, Colour, GameProblem, lines, Why, verdict, accepted, rejected, line_values, Answers, Accepts, RejectsAt}
use Rattle.proof_cert.specs.Streamed.{Tells, reader_gives, streamed_of, LinesGivenOfReader}
use Rattle.cert_check.specs.Checks.{ReadersJudged}
use Rattle.cert_check.proofs.Faults.{faults_stay}
use Rattle.cert_check.proofs.Taking.{as_long}

reader_accepted : LinesGivenOfReader → (q : GameProblem) (held : List ℕ) (told : Option (List ℕ)) (x : Colour) → Accepts reader_gives q.game.size q (streamed_of q.game.size held told) x
    → (bytes : List ℕ) × Tells told bytes × (verdict q (lines q.game.size (held ++ bytes)) ≡ accepted x)
reader_accepted law q held told x h =
    let all = (law q.game.size held told (line_values q.game.size h.taken) h.left h.took).all h.ended.0 h.ended.1 in
    (all.0, all.1, ap (verdict q) all.2 ∙ h.accepted)

reader_rejected : LinesGivenOfReader → (q : GameProblem) (held : List ℕ) (told : Option (List ℕ)) (place : ℕ) (why : Why) → RejectsAt reader_gives q.game.size q (streamed_of q.game.size held told) place why
    → (bytes : List ℕ) × Tells told bytes × (verdict q (lines q.game.size (held ++ bytes)) ≡ rejected place why)
reader_rejected law q held told place why h = side h.there
  where
    side : Answers reader_gives h.left (Ok None) ⊎ (place ≤ length h.taken) → (bytes : List ℕ) × Tells told bytes × (verdict q (lines q.game.size (held ++ bytes)) ≡ rejected place why)
    side (inl a) =
        let all = (law q.game.size held told (line_values q.game.size h.taken) h.left h.took).all a.0 a.1 in
        (all.0, all.1, ap (verdict q) all.2 ∙ h.rejected)
    side (inr low) =
        let front = (law q.game.size held told (line_values q.game.size h.taken) h.left h.took).front in
        let long = as_long q.game.size h.taken in
        (front.0, front.1, ap (verdict q) front.3 ∙ faults_stay q (line_values q.game.size h.taken) front.2 place why h.rejected (omega (arith, low, long)))

pub readers_judged : LinesGivenOfReader → ReadersJudged
readers_judged law = record { accepted = reader_accepted law; rejected = reader_rejected law }
