use Rattle.std.proofs.Common.{◌≡◌, ◌≤◌, ◌∙◌, refl, ap, inl, inr, arith}
use Rattle.go_points.specs.declared.TheConstants.{MAX_SIZE}
use Rattle.proof_cert.specs.declared.version.Version.TheVariants.{One}
use Rattle.pn_search.specs.Search.{cause_told}
use Rattle.pn_search.proofs.Confirming.{checked_certificate}
use Rattle.pn_search.proofs.search.confirmed_plainly.Goals as goal

pub returns-clause-refused : goal.returns-clause-refused
returns-clause-refused c =
    let q = c.args.problem in
    let rows : c.rows.result ≡ q.game.size = c.rows.ensures.value ∙ c.size.ensures in
    let least : 1 ≤ c.rows.result = c.rows.ensures.least in
    let most : c.rows.result ≤ MAX_SIZE = c.rows.ensures.most in
    let low : 1 ≤ q.game.size = omega (arith, rows, least) in
    let high : q.game.size ≤ MAX_SIZE = omega (arith, rows, most) in
    λ not_memory h. elim c.in-Err.ensures.err [
      | inl memory ↦ not_memory (c.cause_of.ensures ∙ ap cause_told memory)
      | inr refused ↦ refused (checked_certificate q (record { version = One; size = c.size-2.result; winner = c.args.winner; lemmas = c.new.result; main = c.args.main }) refl c.size-2.ensures c.new.ensures.items low high h)
    ]
