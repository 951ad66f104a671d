use Rattle.std.proofs.Common.{rules, arith, ◌≡◌, ◌++◌, [], ◌∷◌, ℕ, List, Option, true, false, eqb-true, nat_eq, length, sym, ap, ◌∙◌, subst, length-append}
use Rattle.proof_cert.specs.Streamed.{HasNoFeed, IsByte, Uses}
use Rattle.proof_cert.proofs.Streams.{no_feed_more, uses_then}
use Rattle.proof_cert.proofs.reader_source.read_piece.Goals as goal

pub loop-preserved : goal.loop-preserved
loop-preserved g c =
    let b = c.loop.line.items in
    let x = c.in-Some.byte in
    let inv = c.loop.invariant in
    let one = subst (λ (o : Option ℕ). IsByte c.loop.bytes c.next.new.self o) c.in-Some.is c.in_ok-byte.ensures in
    let other : nat_eq x 10 ≡ false = search rules in
    let pushed : c.push.new.self.items ≡ b ++ x ∷ [] = c.push.ensures.items in
    let long = length-append b (x ∷ []) in
    let count = inv.2 in (
      subst HasNoFeed (sym pushed) (no_feed_more b x inv.0 other),
      subst (λ (k : List ℕ). Uses c.args.bytes.now c.next.new.self k) (sym pushed) (uses_then c.args.bytes.now c.loop.bytes c.next.new.self b (x ∷ []) inv.1 one),
      ap (λ (k : List ℕ). length k) pushed ∙ omega (arith, long, count),
    )

pub returns-else-byte-eq10-2 : goal.returns-else-byte-eq10-2
returns-else-byte-eq10-2 g c =
    let b = c.loop.line.items in
    let x = c.in-Some-2.byte in
    let inv = c.loop.invariant in
    let one = subst (λ (o : Option ℕ). IsByte c.loop.bytes c.next-2.new.self o) c.in-Some-2.is c.in_ok-next.ensures in
    let other : nat_eq x 10 ≡ false = search rules in
    (x, no_feed_more b x inv.0 other, uses_then c.args.bytes.now c.loop.bytes c.next-2.new.self b (x ∷ []) inv.1 one, search rules)

pub returns-then-byte-eq10 : goal.returns-then-byte-eq10
returns-then-byte-eq10 g c =
    let b = c.loop.line.items in
    let x = c.in-Some.byte in
    let inv = c.loop.invariant in
    let one = subst (λ (o : Option ℕ). IsByte c.loop.bytes c.next.new.self o) c.in-Some.is c.in_ok-byte.ensures in
    let fed : nat_eq x 10 ≡ true = search rules in
    (inv.0, subst (λ y. Uses c.args.bytes.now c.next.new.self (b ++ y ∷ [])) (eqb-true x 10 fed) (uses_then c.args.bytes.now c.loop.bytes c.next.new.self b (x ∷ []) inv.1 one))

pub returns-then-byte-eq10-2 : goal.returns-then-byte-eq10-2
returns-then-byte-eq10-2 g c =
    let b = c.loop.line.items in
    let x = c.in-Some-2.byte in
    let inv = c.loop.invariant in
    let one = subst (λ (o : Option ℕ). IsByte c.loop.bytes c.next-2.new.self o) c.in-Some-2.is c.in_ok-next.ensures in
    let fed : nat_eq x 10 ≡ true = search rules in
    (inv.0, subst (λ y. Uses c.args.bytes.now c.next-2.new.self (b ++ y ∷ [])) (eqb-true x 10 fed) (uses_then c.args.bytes.now c.loop.bytes c.next-2.new.self b (x ∷ []) inv.1 one))
