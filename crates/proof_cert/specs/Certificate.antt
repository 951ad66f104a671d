-- The claim that a certificate of the program stands for.
--     node_of n node      its tree, for a board of n rows and n columns
--     replies_of n ps      the answers to the other side's turns
--     lemma_of n l, claim_of c      a lemma, the whole claim
use Rattle.std.specs.Prelude.{ℕ, List, [], ◌∷◌, map}
use Rattle.go_points.specs.declared.Turn.{Turn}
use Rattle.go_points.specs.Ply.{ply_of}
use Rattle.proof_cert.specs.Claim.{Node, won, by_lemma, play, all, Branches, no_branch, branch, Lemma, Claim}
use Rattle.proof_cert.specs.Stage.{version_number}
use Rattle.proof_cert.specs.declared.certificate.Certificate.{Certificate}
use Rattle.proof_cert.specs.declared.certificate.Lemma as lemma
use Rattle.proof_cert.specs.declared.certificate.Node as code
use Rattle.proof_cert.specs.declared.certificate.Node.TheOpen.{Node-F}
use Rattle.proof_cert.specs.declared.certificate.Node.TheFolds.{fold-Node}

abbrev pub branches_of : ℕ → List (Turn × Node) → Branches
branches_of n [] = no_branch
branches_of n (r ∷ rs) = branch (ply_of n r.0) r.1 (branches_of n rs)

-- one node, with the tree of each node below it in its place
abbrev pub node_step : ℕ → Node-F Node → Node
node_step n Node-F.Won = won
node_step n (Node-F.Use j) = by_lemma j
node_step n (Node-F.Play t below) = play (ply_of n t) below.value
node_step n (Node-F.All replies) = all (branches_of n replies.items)

unfoldable pub node_of : ℕ → code.Node → Node
node_of n = fold-Node Node (node_step n)

abbrev pub replies_of : ℕ → List (Turn × code.Node) → Branches
replies_of n rs = branches_of n (map (λ r. (r.0, node_of n r.1)) rs)

abbrev pub lemma_of : ℕ → lemma.Lemma → Lemma
lemma_of n l = record {
  head = record { mover = l.mover; passes = l.passes; root = l.root; had = l.had.items; absent = l.absent.items };
  body = node_of n l.body;
}

abbrev pub claim_of : Certificate → Claim
claim_of c = record { version = version_number c.version; size = c.size; winner = c.winner; lemmas = map (lemma_of c.size) c.lemmas.items; main = node_of c.size c.main }
