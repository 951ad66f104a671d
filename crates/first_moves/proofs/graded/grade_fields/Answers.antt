use Rattle.first_moves.proofs.Common.{◌∙◌, ap, string_bytes}
use Rattle.first_moves.specs.Graded.{grade_fields, grade_text, solution_fields}
use Rattle.first_moves.specs.Json.{bool_text}
use Rattle.first_moves.proofs.Listing.{said_so}
use Rattle.first_moves.proofs.graded.grade_fields.Goals as goal

pub returns : goal.returns
returns c =
    let names = c.args.names.now in let lesson = c.args.lesson.now in let points = c.args.points in let lost = lesson.solution.lost in
    let solution = string_bytes c.in_ok-solution.solution in let ko = c.bool_name-ko.result.now in let grade = c.grade_of-grade.result in
    said_so string_bytes c.format.result (grade_text solution lost ko points grade) (grade_fields names lesson c.args.has_ko points) c.format.ensures.ok
    (ap (λ x. grade_text x lost ko points grade) c.in_ok-solution.ensures
    ∙ ap (λ x. grade_text (solution_fields names lesson) lost x points grade) c.bool_name-ko.ensures
    ∙ ap (λ x. grade_text (solution_fields names lesson) lost (bool_text c.args.has_ko) points x) c.grade_of-grade.ensures)
