-- The equations of what a certificate says.
use Rattle.proof_cert.proofs.Common.{◌≡◌, ℕ, ◌+◌, ◌<◌, length, drop, get_or, List, [], ◌∷◌, ◌++◌, Bool, ◌&&◌, Vec, Box, Global, sym, ap, ◌∙◌, refl, arith, at_drop_more, list_all, Turn, ply_of, won, by_lemma, play, all, branch, branch_turns, node_of, replies_of, Won, Use, Play, All}
use Rattle.std.proofs.lemmas.List.Folds.{list_all-append}
use Rattle.proof_cert.specs.Claim as claim
use Rattle.proof_cert.specs.Certificate.{node_step}
use Rattle.proof_cert.specs.declared.certificate.Node.{Node, Node-F, fold-roll-Node}
use Rattle.proof_cert.specs.declared.certificate.Node.TheVariants.{rolls-Won, rolls-Use, rolls-Play, rolls-All}

pub node_of_won : (n : ℕ) → node_of n Won ≡ won
unfolding node_of
node_of_won n = ap (node_of n) (sym rolls-Won) ∙ fold-roll-Node claim.Node (node_step n) Node-F.Won

pub node_of_use : (n j : ℕ) → node_of n (Use j) ≡ by_lemma j
unfolding node_of
node_of_use n j = ap (node_of n) (sym (rolls-Use j)) ∙ fold-roll-Node claim.Node (node_step n) (Node-F.Use j)

pub node_of_play : (n : ℕ) (t : Turn) (below : Box Node Global) → node_of n (Play t below) ≡ play (ply_of n t) (node_of n below.value)
unfolding node_of
node_of_play n t below = ap (node_of n) (sym (rolls-Play t below)) ∙ fold-roll-Node claim.Node (node_step n) (Node-F.Play t below)

pub node_of_all : (n : ℕ) (replies : Vec (Turn × Node) Global) → node_of n (All replies) ≡ all (replies_of n replies.items)
unfolding node_of
node_of_all n replies = ap (node_of n) (sym (rolls-All replies)) ∙ fold-roll-Node claim.Node (node_step n) (Node-F.All replies)

-- what is left of the replies, one by one
pub replies_more : (n : ℕ) (rs : List (Turn × Node)) (i : ℕ) (r : Turn × Node) → i < length rs → r ≡ get_or rs i r → replies_of n (drop i rs) ≡ branch (ply_of n r.0) (node_of n r.1) (replies_of n (drop (i + 1) rs))
replies_more n rs i r within is =
    at_drop_more (replies_of n) rs i r within
    ∙ ap (λ (x : Turn × Node). branch (ply_of n x.0) (node_of n x.1) (replies_of n (drop (i + 1) rs))) (sym is)

pub replies_counted : (n : ℕ) (rs : List (Turn × Node)) → length (branch_turns (replies_of n rs)) ≡ length rs
replies_counted n [] = refl
replies_counted n (r ∷ rs) = omega (arith, replies_counted n rs)

pub list_all_joined : {A : Type 0} (f : A → Bool) (xs ys : List A) → list_all f (xs ++ ys) ≡ (list_all f xs && list_all f ys)
list_all_joined f xs ys = list_all-append f xs ys
