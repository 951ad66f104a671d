use Rattle.proof_cert.proofs.Common.{◌≡◌, ℕ, take, map, Turn, Node, node_of}
use Rattle.proof_cert.specs.declared.certificate.Node as code
use Rattle.proof_cert.proofs.tree_copy.+copy.Given as goal

abbrev reply_of : ℕ → Turn × code.Node → Turn × Node
reply_of n r = (r.0, node_of n r.1)

abbrev pub invariant-copy_replies-loop-turn : goal.invariant-copy_replies-loop-turn
invariant-copy_replies-loop-turn l = (n : ℕ) → map (reply_of n) l.copies.items ≡ map (reply_of n) (take l.turn-index l.replies)
