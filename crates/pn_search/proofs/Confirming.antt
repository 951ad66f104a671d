-- A tree that shows a win is a valid claim, which the checker refuses for want of memory alone.
use Rattle.std.proofs.Common.{◌≡◌, ◌≤◌, [], ◌∷◌, Some, refl, sym, ap, subst, arith, map}
use Rattle.go_points.specs.declared.TheConstants.{MAX_SIZE}
use Rattle.go_points.specs.declared.Colour.{Colour}
use Rattle.target_game.specs.State.{GameProblem, start}
use Rattle.proof_cert.specs.Claim.{Node, Claim, node_count, depth_of, max_nodes, max_depth}
use Rattle.proof_cert.specs.Lines.{end_line, node_lines, lines_of}
use Rattle.proof_cert.specs.Certificate.{node_of, lemma_of, claim_of}
use Rattle.proof_cert.specs.Stage.{version_number}
use Rattle.proof_cert.specs.declared.version.Version.TheVariants.{One}
use Rattle.proof_cert.specs.declared.certificate.Certificate.{Certificate}
use Rattle.cert_check.specs.Body.{main_body}
use Rattle.cert_check.specs.Checked.{IsChecked}
use Rattle.cert_check.specs.Validity.{FitsNode, IsValid}
use Rattle.cert_check.proofs.Claiming.{AllFitting, AllFitting-append, node_fitting, both_spelled}
use Rattle.cert_check.proofs.Spelling.{AllGood, AllGood-append, node_good, small_number, spelled_text}
use Rattle.pn_search.specs.Private.Confirmable.{IsConfirmable}

-- the claim of a tree, without lemmas
abbrev plain_claim : GameProblem → Colour → Node → Claim
plain_claim q x n = record { version = 1; size = q.game.size; winner = x; lemmas = []; main = n }

valid_plain : (q : GameProblem) (x : Colour) (n : Node) → 1 ≤ q.game.size → q.game.size ≤ MAX_SIZE → FitsNode (main_body x []) (start q) n → IsValid q (plain_claim q x n)
valid_plain q x n low high fits =
    let z : Claim = plain_claim q x n in
    let fitting : AllFitting q.game.size (lines_of z) = (refl, (refl, AllFitting-append q.game.size (node_lines n) (Some end_line ∷ []) (node_fitting n q.game (main_body x []) (start q) refl fits) (refl, tt))) in
    let good : AllGood (lines_of z) = (small_number q.game.size low (omega arith), (refl, AllGood-append (node_lines n) (Some end_line ∷ []) (node_good n (main_body x []) (start q) (omega arith) high fits) (refl, tt))) in
    record { spelled = spelled_text q.game.size (lines_of z) (both_spelled q.game.size (lines_of z) fitting good); size = refl; lemmas = tt; main = fits }

checked_plain : (q : GameProblem) (x : Colour) (n : Node) → 1 ≤ q.game.size → q.game.size ≤ MAX_SIZE → FitsNode (main_body x []) (start q) n → node_count n ≤ max_nodes → depth_of n ≤ max_depth → IsChecked q (plain_claim q x n)
checked_plain q x n low high fits count depth = record {
  valid = valid_plain q x n low high fits;
  limits = record { lemmas = omega arith; nodes = omega arith; shallow = tt; shallow_main = depth; listed = omega arith };
}

-- the certificate of a tree, without lemmas
pub checked_certificate : (q : GameProblem) (c : Certificate) → c.version ≡ One → c.size ≡ q.game.size → c.lemmas.items ≡ [] → 1 ≤ q.game.size → q.game.size ≤ MAX_SIZE → IsConfirmable q c.winner c.main → IsChecked q (claim_of c)
checked_certificate q c version size none low high h =
    let plain : plain_claim q c.winner (node_of q.game.size c.main) ≡ claim_of c = λ i. record { version = (sym (ap version_number version)) i; size = (sym size) i; winner = c.winner; lemmas = (sym (ap (map (lemma_of c.size)) none)) i; main = node_of ((sym size) i) c.main } in
    subst (λ (z : Claim). IsChecked q z) plain (checked_plain q c.winner (node_of q.game.size c.main) low high h.fits h.count h.depth)
