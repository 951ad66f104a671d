use Rattle.cert_check.proofs.Common.{arith, ◌≡◌, ℕ, Option, Some, None, Ok, Err, option_map, ap, ap₂, ◌∙◌, subst, Colour, accepted, ended, GameProblem, line_value, SourceFault, AcceptsBy, Why, machine_of, IsToldBy, why_value, taken, stops, if_ok_map}
use Rattle.proof_cert.specs.declared.line.Line as code
use Rattle.cert_check.proofs.Taking.{never}
use Rattle.cert_check.proofs.Hearing.{either_way, heard_more, heard_accepts, heard_ends, heard_rejects, heard_fails, heard_reaches, heard_asks, heard_asks_there}
use Rattle.cert_check.proofs.checker.check_by.Goals as goal
use Rattle.std.proofs.lemmas.Result.{IfErr-weaker}

pub returns-in-Err-clause-err : goal.returns-in-Err-clause-err
returns-in-Err-clause-err g c = λ shape told fresh why said.
    let inv = c.loop-count.invariant.0 fresh in
    let line = c.in-Ok-Some.line in
    let bad = subst (λ (p : GameProblem). IsToldBy c.args.kind p.game shape → (w : Why) → why_value p.game.size c.in-Err.reject.why ≡ Some w → taken shape p (machine_of c.loop-count.judge) (Some (line_value p.game.size line)) ≡ stops c.in-Err.reject.place w) c.loop-count.invariant.2 (c.in-Err.ensures.err shape) in
    heard_rejects inv.2 shape told (Some line) (ap₂ (λ (n : ℕ) (o : Option code.Line). Ok (option_map (line_value n) o)) inv.1 c.in-Ok-Some.field-0-is) (c.in-Ok-Some.ensures.gives inv.0) (bad told why said) c.in-Err.ensures.there

pub returns-in-Ok-None-clause-ok : goal.returns-in-Ok-None-clause-ok
returns-in-Ok-None-clause-ok g c = λ shape told.
    if_ok_map c.end.result _ _
    (λ (x : Colour) (said : ended (machine_of c.loop-count.judge) ≡ accepted x). either_way (g.S.NodeSource.fault c.args.source.now) (AcceptsBy shape g.S.NodeSource.gives (g.S.NodeSource.size c.args.source.now) c.args.problem.now c.args.source.now x)
    (λ fresh. let inv = c.loop-count.invariant.0 fresh in heard_accepts inv.2 shape told (ap (λ (o : Option code.Line). Ok (option_map (line_value (g.S.NodeSource.size c.loop-count.source)) o)) c.in-Ok-None.field-0-is) (c.in-Ok-None.ensures.gives inv.0) said)
    (never (g.S.NodeSource.fault c.args.source.now) (g.S.NodeSource.fault c.loop-count.source) c.next.result c.in-Ok-None.field-0 _ c.loop-count.invariant.1 c.next.ensures.stays c.in-Ok-None.is))
    c.end.ensures.ok

pub returns-in-Ok-None-clause-err : goal.returns-in-Ok-None-clause-err
returns-in-Ok-None-clause-err g c = λ shape told fresh.
    let inv = c.loop-count.invariant.0 fresh in
    IfErr-weaker c.end.result _ _
    (λ e h why said. heard_ends inv.2 shape told (ap (λ (o : Option code.Line). Ok (option_map (line_value (g.S.NodeSource.size c.loop-count.source)) o)) c.in-Ok-None.field-0-is) (c.in-Ok-None.ensures.gives inv.0) (h why (ap (λ (p : GameProblem). why_value p.game.size e.why) c.loop-count.invariant.2 ∙ said)))
    c.end.ensures.err

pub returns-in-Err-Malformed-clause-err : goal.returns-in-Err-Malformed-clause-err
returns-in-Err-Malformed-clause-err g c = λ shape told fresh why said.
    let inv = c.loop-count.invariant.0 fresh in
    let bad = subst (λ (p : GameProblem). (w : Why) → why_value p.game.size c.malformed.result.why ≡ Some w → taken shape p (machine_of c.loop-count.judge) None ≡ stops c.malformed.result.place w) c.loop-count.invariant.2 (c.malformed.ensures.err shape) in
    heard_rejects inv.2 shape told None (ap (λ (e : SourceFault). Err e) c.in-Err-Malformed.field-0-is) (c.in-Err-Malformed.ensures.gives inv.0) (bad why said) c.malformed.ensures.there

pub returns-in-Err-Read-clause-read : goal.returns-in-Err-Read-clause-read
returns-in-Err-Read-clause-read g c = λ shape told fresh read.
    let inv = c.loop-count.invariant.0 fresh in
    let placed = c.loop-count.invariant.3 in
    let at = c.reject-in-Err-Read.ensures.place in
    let less = c.loop-count-test.true in
    heard_fails inv.2 shape told c.in-Err-Read.field-0-is (c.in-Err-Read.ensures.gives inv.0) at (omega (arith, placed, at, less))

pub returns-in-Err-clause-memory : goal.returns-in-Err-clause-memory
returns-in-Err-clause-memory g c = λ shape told fresh reached. heard_reaches (c.loop-count.invariant.0 fresh).2 shape told c.in-Err.ensures.there

pub returns-in-Err-Memory-clause-memory : goal.returns-in-Err-Memory-clause-memory
returns-in-Err-Memory-clause-memory g c = λ shape told fresh reached. heard_reaches (c.loop-count.invariant.0 fresh).2 shape told c.reject.ensures.place

pub returns-clause-memory : goal.returns-clause-memory
returns-clause-memory g c = λ shape told fresh reached. heard_reaches (c.loop-count.invariant.0 fresh).2 shape told c.reject-2.ensures.place

pub loop-count-preserved : goal.loop-count-preserved
loop-count-preserved g c = (
  λ fresh.
      let inv = c.loop-count.invariant.0 fresh in (
        c.in-Ok-Some.ensures.fault,
        c.in-Ok-Some.ensures.size ∙ inv.1,
        heard_more c.in-Ok-Some.line inv.2 c.loop-count.invariant.2 inv.1 c.in-Ok-Some.field-0-is (c.in-Ok-Some.ensures.gives inv.0) (c.in-Ok-Some.ensures.counted inv.0) c.in_default-take.ensures.ok c.in_default-take.ensures.place,
      ),
  never (g.S.NodeSource.fault c.args.source.now) (g.S.NodeSource.fault c.loop-count.source) c.next.result c.in-Ok-Some.field-0 _ c.loop-count.invariant.1 c.next.ensures.stays c.in-Ok-Some.is,
  c.in_default-take.ensures.problem ∙ c.loop-count.invariant.2,
  (let moved = c.in_default-take.ensures.place in let placed = c.loop-count.invariant.3 in omega (arith, moved, placed)),
  c.in_default-take.ensures.ready,
)

pub returns-in-Err-clause-asked : goal.returns-in-Err-clause-asked
returns-in-Err-clause-asked g c = λ fresh. let inv = c.loop-count.invariant.0 fresh in heard_asks_there inv.2 (c.in-Ok-Some.ensures.gives inv.0) c.in-Err.ensures.there

pub returns-in-Ok-None-clause-asked : goal.returns-in-Ok-None-clause-asked
returns-in-Ok-None-clause-asked g c = λ fresh.
    let inv = c.loop-count.invariant.0 fresh in
    IfErr-weaker c.end.result _ _ (λ e there. heard_asks_there inv.2 (c.in-Ok-None.ensures.gives inv.0) there) c.end.ensures.there

pub returns-in-Err-Malformed-clause-asked : goal.returns-in-Err-Malformed-clause-asked
returns-in-Err-Malformed-clause-asked g c = λ fresh. let inv = c.loop-count.invariant.0 fresh in heard_asks_there inv.2 (c.in-Err-Malformed.ensures.gives inv.0) c.malformed.ensures.there

pub returns-in-Err-Memory-clause-asked : goal.returns-in-Err-Memory-clause-asked
returns-in-Err-Memory-clause-asked g c = λ fresh. let inv = c.loop-count.invariant.0 fresh in heard_asks_there inv.2 (c.in-Err-Memory.ensures.gives inv.0) c.reject.ensures.place

pub returns-in-Err-Read-clause-asked : goal.returns-in-Err-Read-clause-asked
returns-in-Err-Read-clause-asked g c = λ fresh. let inv = c.loop-count.invariant.0 fresh in heard_asks_there inv.2 (c.in-Err-Read.ensures.gives inv.0) c.reject-in-Err-Read.ensures.place

pub returns-clause-asked : goal.returns-clause-asked
returns-clause-asked g c = λ fresh. heard_asks (c.loop-count.invariant.0 fresh).2 c.reject-2.ensures.place
