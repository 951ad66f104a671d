use Rattle.proof_cert.proofs.Common.{◌≡◌, ◌+◌, ◌-◌, ◌≤◌, ◌++◌, ◌∷◌, [], Some, List, ap, sym, ◌∙◌, refl, rules, Cell, line_value, Left, left_of, line_read, picks, listed_read, list_read}
use Rattle.proof_cert.proofs.ReadTrees.{listed_front, no_front, listed_is_read}
use Rattle.proof_cert.proofs.read.read_listed.Goals as goal

pub loop-reading-init : goal.loop-reading-init
unfolding list_read
loop-reading-init c =
    let n = c.args.reading.now.source.size in
    let s = left_of c.args.reading.now.source c.args.reading.now.nodes c.args.reading.now.listed in
    let rest = listed_read (picks c.args.listing) (1000001 - c.args.reading.now.listed) (line_value n c.args.first) s in
    record {
      read = sym (ap (λ (xs : List (List Cell)). listed_front xs rest) c.new-listed.ensures.items ∙ no_front rest);
      nodes = refl;
      counted = search rules;
      size = refl;
    }

pub loop-reading-preserved : goal.loop-reading-preserved
loop-reading-preserved c =
    let n = c.args.reading.now.source.size in
    let pick = picks c.args.listing in
    let s = left_of c.loop-reading.reading.source c.loop-reading.reading.nodes c.loop-reading.reading.listed in
    let t = left_of c.next_line.new.reading.source c.next_line.new.reading.nodes c.next_line.new.reading.listed in
    let few : c.loop-reading.reading.listed ≤ 1000000 = search rules in
    let same : c.next_line.new.reading.listed ≡ c.loop-reading.reading.listed + 1 = search rules in
    let one : pick (line_value n c.loop-reading.line) ≡ Some c.in-Some.colouring = sym (c.listed_of.ensures n) ∙ c.in-Some.is in
    let more : Left = record s { listed = s.listed + 1 } in
    let there : line_read more ≡ Some (line_value n c.in-Some-next_line.next, t) =
    sym c.in-Some-next_line.ensures.read ∙ ap (λ k. Some (line_value k c.in-Some-next_line.next, t)) c.loop-reading.invariant.size in
    let items : c.push.new.self.items ≡ c.loop-reading.listed.items ++ c.in-Some.colouring ∷ [] = search rules in
    record {
      read =
          c.loop-reading.invariant.read ∙ listed_is_read pick s c.loop-reading.listed.items (line_value n c.loop-reading.line) c.in-Some.colouring (line_value n c.in-Some-next_line.next) t few one there
          ∙ ap (λ (xs : List (List Cell)). listed_front xs (listed_read pick (1000001 - (s.listed + 1)) (line_value n c.in-Some-next_line.next) t)) (sym items)
          ∙ ap (λ k. listed_front c.push.new.self.items (listed_read pick (1000001 - k) (line_value n c.in-Some-next_line.next) t)) (sym same);
      nodes = search rules;
      counted = search rules;
      size = search rules;
    }
