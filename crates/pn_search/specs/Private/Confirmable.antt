-- What the checker cannot refuse of a tree that was found. No public clause rests on it.
use Rattle.std.specs.Prelude.{◌≤◌, []}
use Rattle.go_points.specs.declared.Colour.{Colour}
use Rattle.target_game.specs.State.{GameProblem, start}
use Rattle.proof_cert.specs.Claim.{node_count, depth_of, max_nodes, max_depth}
use Rattle.proof_cert.specs.Certificate.{node_of}
use Rattle.proof_cert.specs.declared.certificate.Node.{Node}
use Rattle.cert_check.specs.Body.{main_body}
use Rattle.cert_check.specs.Validity.{FitsNode}

-- the tree shows that x wins the problem, and is neither larger nor deeper than a claim may be
pub record IsConfirmable (q : GameProblem) (x : Colour) (tree : Node) : Type 0 where
  pub fits : FitsNode (main_body x []) (start q) (node_of q.game.size tree)
  pub count : node_count (node_of q.game.size tree) ≤ max_nodes
  pub depth : depth_of (node_of q.game.size tree) ≤ max_depth
