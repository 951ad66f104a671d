-- What was read one by one is counted.
use Rattle.proof_cert.proofs.Common.{◌≡◌, ◌+◌, ◌≤◌, ℕ, List, [], ◌∷◌, ◌++◌, max, sum_by, arith, sum_by-cons, Ply, Node, Branches, no_branch, branch, node_count, node_count_below, depth_of, depth_below, Lemma, listed_count, AreShallow, CountsTree, CountsReplies, CountsLemmas}
use Rattle.proof_cert.specs.Claim.{max_depth}
use Rattle.proof_cert.specs.Private.Reading.{CountsLemma}
use Rattle.proof_cert.proofs.ReadTrees.{joined}

max_le : (a b c : ℕ) → a ≤ c → b ≤ c → max a b ≤ c
max_le a b c p q = grind (arith)

max_is : (a b c : ℕ) → max a b ≤ c → (a ≤ c) × (b ≤ c)
max_is a b c p = (grind (arith), grind (arith))

module _ (t : Ply) (z : Node) where
  joined_nodes : (bs : Branches) → node_count_below (joined bs (branch t z no_branch)) ≡ node_count_below bs + node_count z
  joined_nodes no_branch = omega arith
  joined_nodes (branch u y bs) = omega (arith, joined_nodes bs)

  joined_depth : (room : ℕ) (bs : Branches) → depth_below bs ≤ room → depth_of z ≤ room → depth_below (joined bs (branch t z no_branch)) ≤ room
  joined_depth room no_branch few deep = max_le (depth_of z) 0 room deep (omega arith)
  joined_depth room (branch u y bs) few deep =
      let both = max_is (depth_of y) (depth_below bs) room few in
      max_le (depth_of y) (depth_below (joined bs (branch t z no_branch))) room both.0 (joined_depth room bs both.1 deep)

  pub reply_counted : (room n k : ℕ) (bs : Branches) (n1 k1 n2 k2 : ℕ) → CountsReplies room n k bs n1 k1 → CountsTree room n1 k1 z n2 k2 → CountsReplies room n k (joined bs (branch t z no_branch)) n2 k2
  reply_counted room n k bs n1 k1 n2 k2 before one = record {
    nodes = omega (arith, before.nodes, one.nodes, joined_nodes bs);
    most = one.most;
    deep = joined_depth room bs before.deep one.deep;
    listed = omega (arith, before.listed, one.listed);
  }

summed : (f : Lemma → ℕ) (zs : List Lemma) (z : Lemma) → sum_by f (zs ++ z ∷ []) ≡ sum_by f zs + f z
summed f [] z = omega (arith, sum_by-cons f z [])
summed f (y ∷ zs) z = omega (arith, sum_by-cons f y zs, sum_by-cons f y (zs ++ z ∷ []), summed f zs z)

shallow_more : (zs : List Lemma) (z : Lemma) → AreShallow zs → depth_of z.body ≤ max_depth → AreShallow (zs ++ z ∷ [])
shallow_more [] z all deep = (deep, tt)
shallow_more (y ∷ zs) z all deep = (all.0, shallow_more zs z all.1 deep)

pub lemma_counted : (n k : ℕ) (zs : List Lemma) (z : Lemma) (n1 k1 n2 k2 : ℕ) → CountsLemmas n k zs n1 k1 → CountsLemma n1 k1 z n2 k2 → CountsLemmas n k (zs ++ z ∷ []) n2 k2
lemma_counted n k zs z n1 k1 n2 k2 before one = record {
  nodes = omega (arith, before.nodes, one.nodes, summed (λ l. node_count l.body) zs z);
  shallow = shallow_more zs z before.shallow one.deep;
  listed = omega (arith, before.listed, one.listed, summed listed_count zs z);
  few = one.few;
}
