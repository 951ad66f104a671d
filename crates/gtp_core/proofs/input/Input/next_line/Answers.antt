use Rattle.std.proofs.Common.{rules, ◌≡◌, ◌∷◌, [], Option, ℕ, false, nat_eq, subst}
use Rattle.gtp_core.specs.Private.Taking.{Gives, IsByte, bounded}
use Rattle.gtp_core.proofs.Pieces.{line_more, line_fed, stops_after}
use Rattle.gtp_core.proofs.input.Input.next_line.Goals as goal

pub returns-in-Ok-Some-eq10-clause-line : goal.returns-in-Ok-Some-eq10-clause-line
returns-in-Ok-Some-eq10-clause-line g c =
    let old = bounded c.args.self.now (g.R.Read.remaining c.args.reader.now) in
    let now = bounded c.loop-byte.self (g.R.Read.remaining c.loop-byte.reader) in
    let new = bounded c.next.new.self (g.R.Read.remaining c.next.new.reader) in
    let b = c.in-Ok-Some-eq10.field-0-0 in
    let one : Gives now new (b ∷ []) = subst (λ (o : Option ℕ). IsByte now new o) c.in-Ok-Some-eq10.field-0-is c.in-Ok-Some-eq10.ensures.byte in
    let feed : b ≡ 10 = search rules in
    line_fed old now new c.loop-byte.line.items b c.loop-byte.invariant feed one

pub loop-byte-preserved : goal.loop-byte-preserved
loop-byte-preserved g c =
    let old = bounded c.args.self.now (g.R.Read.remaining c.args.reader.now) in
    let now = bounded c.loop-byte.self (g.R.Read.remaining c.loop-byte.reader) in
    let new = bounded c.next.new.self (g.R.Read.remaining c.next.new.reader) in
    let b = c.in-Ok-Some.byte in
    let one : Gives now new (b ∷ []) = subst (λ (o : Option ℕ). IsByte now new o) c.in-Ok-Some.field-0-is c.in-Ok-Some.ensures.byte in
    let other : nat_eq b 10 ≡ false = search rules in
    line_more old now new c.loop-byte.line.items c.keep.new.line.items b c.loop-byte.invariant other one c.keep.ensures

pub returns-in-Err-clause-failed : goal.returns-in-Err-clause-failed
returns-in-Err-clause-failed g c =
    let old = bounded c.args.self.now (g.R.Read.remaining c.args.reader.now) in
    let now = bounded c.loop-byte.self (g.R.Read.remaining c.loop-byte.reader) in
    let new = bounded c.next.new.self (g.R.Read.remaining c.next.new.reader) in
    let (line, none, kept, given) = c.loop-byte.invariant in
    (line, none, stops_after (g.A.ReadFrom.read_failed c.next.new.reader) c.next.new.self.held old now new line given c.in-Err.ensures.failed)
