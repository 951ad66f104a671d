use Rattle.go_points.proofs.Common.{◌≡◌, take, text_of}
use Rattle.go_points.proofs.colouring.Colouring.to_text.Given as goal

abbrev pub invariant-loop-number : goal.invariant-loop-number
invariant-loop-number l = l.text.items ≡ text_of (take l.number l.self)
