use Rattle.first_moves.proofs.Common.{◌≡◌, ℕ, Option, subst, sym, IfOk, string_bytes}
use Rattle.std.specs.Prelude.{Bool}
use Rattle.first_moves.specs.Graded.{graded_text}
use Rattle.first_moves.specs.declared.grade.Lesson.{Lesson}
use Rattle.first_moves.proofs.graded.graded_text.Goals as goal

pub returns-in-Some : goal.returns-in-Some
returns-in-Some c =
    subst (λ (o : Option Lesson). IfOk c.lesson_text.result (λ text. (has_ko : Bool) × (points : ℕ) × (string_bytes text ≡ graded_text c.args.names.now c.args.winner.now o has_ko points)))
    (sym c.in-Some.is) c.lesson_text.ensures
