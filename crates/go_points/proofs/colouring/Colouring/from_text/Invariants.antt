use Rattle.go_points.proofs.Texts.{ReadSoFar}
use Rattle.go_points.proofs.colouring.Colouring.from_text.Given as goal

abbrev pub invariant-loop-number : goal.invariant-loop-number
invariant-loop-number l = ReadSoFar l.size l.text l.colouring l.number
