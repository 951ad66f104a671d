-- The replies of a node, one by one: those that are legal are kept.
use Rattle.solution_tree.proofs.Common.{◌≡◌, ℕ, true, false, IsTrue, List, ◌∷◌, ap, ◌∙◌, rules, Turn, Ply, ply_of, GameState, next, legal, AnswerTree, reply, Branches, branch, node_of, expand_node, expand_branches, uses_below, all_below}
use Rattle.proof_cert.specs.Claim.{Node}
use Rattle.proof_cert.specs.Certificate.{replies_of}
use Rattle.proof_cert.specs.declared.certificate.Node as claim

kept : (es : List (GameState → AnswerTree)) (t : Ply) (n : Node) (bs : Branches) (s : GameState) → legal s t ≡ true → expand_branches es (branch t n bs) s ≡ reply t (expand_node es n (next s t)) (expand_branches es bs s)
kept es t n bs s h = search rules

left_out : (es : List (GameState → AnswerTree)) (t : Ply) (n : Node) (bs : Branches) (s : GameState) → legal s t ≡ false → expand_branches es (branch t n bs) s ≡ expand_branches es bs s
left_out es t n bs s h = search rules

module _ (s : GameState) (all rs : List (Turn × claim.Node)) (r : Turn × claim.Node) (is : all ≡ r ∷ rs) where
  abbrev n : ℕ
  n = s.game.size

  pub replies_kept : legal s (ply_of n r.0) ≡ true → (es : List (GameState → AnswerTree)) → expand_branches es (replies_of n all) s ≡ reply (ply_of n r.0) (expand_node es (node_of n r.1) (next s (ply_of n r.0))) (expand_branches es (replies_of n rs) s)
  replies_kept h es = ap (λ xs. expand_branches es (replies_of n xs) s) is ∙ kept es (ply_of n r.0) (node_of n r.1) (replies_of n rs) s h

  pub replies_left_out : legal s (ply_of n r.0) ≡ false → (es : List (GameState → AnswerTree)) → expand_branches es (replies_of n all) s ≡ expand_branches es (replies_of n rs) s
  replies_left_out h es = ap (λ xs. expand_branches es (replies_of n xs) s) is ∙ left_out es (ply_of n r.0) (node_of n r.1) (replies_of n rs) s h

  pub reply_below : (m : ℕ) → IsTrue (all_below m (replies_of n all)) → IsTrue (uses_below m (node_of n r.1)) × IsTrue (all_below m (replies_of n rs))
  reply_below m h = search rules
