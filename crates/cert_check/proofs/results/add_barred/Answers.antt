use Rattle.cert_check.proofs.Common.{◌≡◌, ℕ, ◌*◌, ◌<◌, ◌++◌, [], ◌∷◌, List, sym, ap, ◌∙◌, rules, Cell, GameState, result_of, is_past}
use Rattle.cert_check.proofs.Gathering.{closed_passed, other_passed, past_added, open_by}
use Rattle.cert_check.proofs.results.add_barred.Goals.{then-is_open+then-is_other_past+in_ok-push, then-is_open+else-is_other_past, else-is_open}
use Rattle.cert_check.proofs.results.add_barred.Goals as goal

pub loop-number-preserved : goal.loop-number-preserved
loop-number-preserved c =
    let past : GameState = c.args.past.now.state in
    let s : GameState = c.args.state.now.state in
    let i : ℕ = c.loop-number.number in
    let old : List (List Cell) = c.args.barred.now.items in
    let before : List (List Cell) = c.loop-number.barred.items in
    let now : List (List Cell) = c.if-is_open.barred.items in
    let low : i < s.game.size * s.game.size = search rules in
    let here = open_by s i _ c.is_open.result low (search rules) c.is_open.ensures in (
      elim c.if-is_open.branch [
        | then-is_open+then-is_other_past+in_ok-push w ↦
            let made : w.result-result.result ≡ result_of s i = search rules in
            past_added past s i old before now c.loop-number.invariant.0 (here ∙ w.if-is_open.true) (ap (is_past past) (sym made) ∙ sym w.is_other_past.ensures ∙ w.if-is_other_past.true)
            (ap (λ v. v.items) w.barred-is ∙ w.in_ok-push.ensures.items ∙ ap (λ (r : List Cell). before ++ r ∷ []) made)
        | then-is_open+else-is_other_past w ↦
            let made : w.result-result.result ≡ result_of s i = search rules in
            other_passed past s i old before now c.loop-number.invariant.0 (here ∙ w.if-is_open.true) (ap (is_past past) (sym made) ∙ sym w.is_other_past.ensures ∙ w.if-is_other_past.false) (ap (λ v. v.items) w.barred-is)
        | else-is_open w ↦ closed_passed past s i old before now c.loop-number.invariant.0 (here ∙ w.if-is_open.false) (ap (λ v. v.items) w.barred-is)
      ],
      c.loop-number.invariant.1,
    )
