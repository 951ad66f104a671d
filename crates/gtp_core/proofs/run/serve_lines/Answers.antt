use Rattle.gtp_core.proofs.Common.{rules, ◌≡◌, Bool, List, ℕ, true, false, subst, sym, ap, ◌∙◌, prepend_known, Ending, GtpSession, IsRawLine, IsServed, IsPartServed, IsUnderWay, bounded}
use Rattle.std.proofs.KnownBytes.{prepend_known-nil}
use Rattle.gtp_core.proofs.Running.{begins, goes_on, asks_for_line, asks_to_stop, ends_with_input, ends_with_line, read_failed, write_failed}
use Rattle.gtp_core.proofs.run.serve_lines.Given.{Over}
use Rattle.gtp_core.proofs.run.serve_lines.Goals as goal
use Rattle.gtp_core.proofs.run.serve_lines.Goals.{In-Ok, In-Ok-serve}
use Rattle.gtp_core.specs.Runs.{AsksWithin}

pub loop-ending-init : goal.loop-ending-init
loop-ending-init g c =
    let told = g.R.Read.remaining c.args.reader.now in
    let old = g.W.Write.contents c.args.writer.now in
    let left = bounded c.args.input told in
    let all : left.left ≡ told = ap (λ held. prepend_known held told) c.requires.held ∙ prepend_known-nil told in
    subst (λ (s : GtpSession). IsUnderWay told left old old s) (sym c.requires.session) (begins told old left all c.requires.room)

-- the line that was served
served : (g : Over) (c : In-Ok-serve g) (goes : Bool) → c.in-Ok-serve.goes_on ≡ goes → IsServed c.loop-ending.session c.next_line.new.line.items goes (g.W.Write.contents c.loop-ending.writer) (g.W.Write.contents c.serve.new.writer) c.serve.new.session
served g c goes is =
    let now = g.W.Write.contents c.loop-ending.writer in
    let new = g.W.Write.contents c.serve.new.writer in
    subst (λ (b : Bool). IsServed c.loop-ending.session c.next_line.new.line.items b now new c.serve.new.session) is
    (subst (λ (l : List ℕ). IsServed c.loop-ending.session l c.in-Ok-serve.goes_on now new c.serve.new.session) c.as_slice.ensures.value c.in-Ok-serve.ensures.ok)

-- no more was asked for than the line
asked : (g : Over) (c : In-Ok g) → AsksWithin (g.R.Read.remaining c.args.reader.now) (g.R.Read.remaining c.next_line.new.reader)
asked g c =
    let left = bounded c.loop-ending.input (g.R.Read.remaining c.loop-ending.reader) in
    asks_for_line (g.R.Read.remaining c.args.reader.now) left c.next_line.new.self (g.R.Read.remaining c.next_line.new.reader) (g.W.Write.contents c.args.writer.now) (g.W.Write.contents c.loop-ending.writer) c.loop-ending.session c.loop-ending.invariant
    c.next_line.new.line.items c.in-Ok.ending c.in-Ok.ensures.line c.in-Ok.ensures.few

pub loop-ending-preserved : goal.loop-ending-preserved
loop-ending-preserved g c =
    let told = g.R.Read.remaining c.args.reader.now in
    let left = bounded c.loop-ending.input (g.R.Read.remaining c.loop-ending.reader) in
    let mid = bounded c.next_line.new.self (g.R.Read.remaining c.next_line.new.reader) in
    let front = c.next_line.new.line.items in
    let raw = subst (λ (e : Ending). IsRawLine left mid front e) c.in-LineFeed.is c.in-Ok.ensures.line in
    goes_on told left c.next_line.new.self (g.R.Read.remaining c.next_line.new.reader) (g.W.Write.contents c.args.writer.now) (g.W.Write.contents c.loop-ending.writer) c.loop-ending.session c.loop-ending.invariant front (g.W.Write.contents c.serve.new.writer) c.serve.new.session raw
    (served g (goal.at.loop-ending-preserved g c).In-Ok-serve true (search rules))

pub returns-in-Err-clause-err : goal.returns-in-Err-clause-err
returns-in-Err-clause-err g c =
    let told = g.R.Read.remaining c.args.reader.now in
    let left = bounded c.loop-ending.input (g.R.Read.remaining c.loop-ending.reader) in
    let old = g.W.Write.contents c.args.writer.now in
    let now = g.W.Write.contents c.loop-ending.writer in
    read_failed told left c.next_line.new.self (g.R.Read.remaining c.next_line.new.reader) old now c.loop-ending.session c.loop-ending.invariant (g.A.ReadFrom.read_failed c.next_line.new.reader) (g.B.WriteTo.write_failed c.loop-ending.writer) c.in-Err.ensures.failed

pub returns-in-Err-serve-clause-err : goal.returns-in-Err-serve-clause-err
returns-in-Err-serve-clause-err g c =
    let told = g.R.Read.remaining c.args.reader.now in
    let left = bounded c.loop-ending.input (g.R.Read.remaining c.loop-ending.reader) in
    let old = g.W.Write.contents c.args.writer.now in
    let now = g.W.Write.contents c.loop-ending.writer in
    let mid = bounded c.next_line.new.self (g.R.Read.remaining c.next_line.new.reader) in
    let front = c.next_line.new.line.items in
    let new = g.W.Write.contents c.serve.new.writer in
    let part = subst (λ (l : List ℕ). IsPartServed c.loop-ending.session l now new) c.as_slice.ensures.value c.in-Err-serve.ensures.cut in
    write_failed told left c.next_line.new.self (g.R.Read.remaining c.next_line.new.reader) old now c.loop-ending.session c.loop-ending.invariant (g.A.ReadFrom.read_failed c.next_line.new.reader) (g.B.WriteTo.write_failed c.serve.new.writer) front c.in-Ok.ending new c.in-Ok.ensures.line part
    c.in-Err-serve.ensures.failed

pub returns-then-not-goes_on-clause-ok : goal.returns-then-not-goes_on-clause-ok
returns-then-not-goes_on-clause-ok g c =
    let left = bounded c.loop-ending.input (g.R.Read.remaining c.loop-ending.reader) in
    ends_with_line (g.R.Read.remaining c.args.reader.now) left c.next_line.new.self (g.R.Read.remaining c.next_line.new.reader) (g.W.Write.contents c.args.writer.now) (g.W.Write.contents c.loop-ending.writer) c.loop-ending.session c.loop-ending.invariant c.next_line.new.line.items c.in-Ok.ending
    (g.W.Write.contents c.serve.new.writer) c.serve.new.session c.in-Ok.ensures.line (served g (goal.at.returns-then-not-goes_on-clause-ok g c).In-Ok-serve false (search rules)) c.in-Ok.ensures.few

pub returns-in-End-clause-ok : goal.returns-in-End-clause-ok
returns-in-End-clause-ok g c =
    let left = bounded c.loop-ending.input (g.R.Read.remaining c.loop-ending.reader) in
    let mid = bounded c.next_line.new.self (g.R.Read.remaining c.next_line.new.reader) in
    let front = c.next_line.new.line.items in
    let raw = subst (λ (e : Ending). IsRawLine left mid front e) c.in-End.is c.in-Ok.ensures.line in
    ends_with_input (g.R.Read.remaining c.args.reader.now) left c.next_line.new.self (g.R.Read.remaining c.next_line.new.reader) (g.W.Write.contents c.args.writer.now) (g.W.Write.contents c.loop-ending.writer) c.loop-ending.session c.loop-ending.invariant front (g.W.Write.contents c.serve.new.writer)
    c.serve.new.session raw (served g (goal.at.returns-in-End-clause-ok g c).In-Ok-serve true (search rules))

pub returns-in-Err-clause-asked : goal.returns-in-Err-clause-asked
returns-in-Err-clause-asked g c =
    let told = g.R.Read.remaining c.args.reader.now in
    let left = bounded c.loop-ending.input (g.R.Read.remaining c.loop-ending.reader) in
    asks_to_stop told left c.next_line.new.self (g.R.Read.remaining c.next_line.new.reader) (g.W.Write.contents c.args.writer.now) (g.W.Write.contents c.loop-ending.writer) c.loop-ending.session c.loop-ending.invariant
    (g.A.ReadFrom.read_failed c.next_line.new.reader) c.in-Err.ensures.failed c.in-Err.ensures.few

pub returns-in-Err-serve-clause-asked : goal.returns-in-Err-serve-clause-asked
returns-in-Err-serve-clause-asked g c = asked g (goal.at.returns-in-Err-serve-clause-asked g c).In-Ok

pub returns-then-not-goes_on-clause-asked : goal.returns-then-not-goes_on-clause-asked
returns-then-not-goes_on-clause-asked g c = asked g (goal.at.returns-then-not-goes_on-clause-asked g c).In-Ok

pub returns-in-End-clause-asked : goal.returns-in-End-clause-asked
returns-in-End-clause-asked g c = asked g (goal.at.returns-in-End-clause-asked g c).In-Ok
