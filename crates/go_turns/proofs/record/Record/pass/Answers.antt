-- The step that is kept.
use Rattle.go_turns.proofs.Common.{◌≡◌, ◌++◌, [], ◌∷◌, length, sym, ◌∙◌, ap, arith, Step}
use Rattle.std.proofs.lemmas.List.{length-append}
use Rattle.go_turns.proofs.Steps.{fit_kept}
use Rattle.go_turns.proofs.Turns.{was_pushed}
use Rattle.go_turns.proofs.record.Record.pass.Goals as goal

pub invariant_of-self-2 : goal.invariant_of-self-2
invariant_of-self-2 g c =
    let whole = g.S.Seen.content c.self.inside.seen in
    let old = g.B.Board.content c.self.inside.board in
    let steps = c.self.inside.steps.items in
    let step : Step = record { place = c.self.inside.place; occurred = c.len.result; passes = c.self.inside.passes; last_colour = c.self.inside.last_colour } in
    let fit = fit_kept whole old steps step c.len.ensures.value c.self.invariant.here c.self.invariant.liberties c.self.invariant.few c.self.invariant.steps in
    let pushed : c.push.new.self.items ≡ steps ++ step ∷ [] = was_pushed c.push.result c.push.new.self.items (steps ++ step ∷ []) steps (sym c.is_err.ensures.value ∙ c.if-is_err.false) c.push.ensures.items in
    record {
      steps = rw pushed fit;
      here = c.self.invariant.here;
      liberties = c.self.invariant.liberties;
      few = omega (arith, c.self.invariant.few, ap length pushed, length-append steps (step ∷ []));
    }
