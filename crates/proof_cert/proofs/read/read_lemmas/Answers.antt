use Rattle.proof_cert.proofs.Common.{◌≡◌, ◌+◌, ◌-◌, ◌++◌, ◌∷◌, [], ℕ, Option, Some, None, List, map, length, ap, subst, sym, ◌∙◌, refl, rules, arith, option_and_then, line_value, Lemma, lemma_line, lemma_of, Left, with_rest, left_of, line_read, lemma_read, lemmas_read, all_lemmas_read, CountsLemmas}
use Rattle.std.specs.Prelude.{option_map}
use Rattle.std.proofs.lemmas.List.{length_push}
use Rattle.proof_cert.specs.declared.certificate.Lemma as code
use Rattle.proof_cert.proofs.ReadTrees.{lemmas_front, no_lemmas_front, lemmas_after, no_lemma, lemma_is_read, lemmas_pushed}
use Rattle.proof_cert.proofs.ReadCounts.{lemma_counted}
use Rattle.proof_cert.proofs.read.read_lemmas.Goals as goal

pub loop-alloc-init : goal.loop-alloc-init
unfolding all_lemmas_read
loop-alloc-init c =
    let n = c.args.reading.now.source.size in
    let s = left_of c.args.reading.now.source c.args.reading.now.nodes c.args.reading.now.listed in
    record {
      read = sym (ap (λ (xs : List code.Lemma). lemmas_front (map (lemma_of n) xs) (lemmas_read (65536 - length xs) s)) c.new-lemmas.ensures.items ∙ no_lemmas_front (lemmas_read 65536 s));
      counted = subst (λ (xs : List code.Lemma). CountsLemmas c.args.reading.now.nodes c.args.reading.now.listed (map (lemma_of n) xs) c.args.reading.now.nodes c.args.reading.now.listed) (sym c.new-lemmas.ensures.items)
          (record { nodes = omega arith; shallow = tt; listed = omega arith; few = c.requires });
      size = refl;
    }

pub loop-alloc-preserved : goal.loop-alloc-preserved
loop-alloc-preserved c =
    let n = c.args.reading.now.source.size in
    let old = c.loop-alloc.lemmas.items in
    let z = c.in-Some-2.lemma in
    let s = left_of c.loop-alloc.reading.source c.loop-alloc.reading.nodes c.loop-alloc.reading.listed in
    let t = left_of c.next_line.new.reading.source c.next_line.new.reading.nodes c.next_line.new.reading.listed in
    let u = left_of c.read_lemma.new.reading.source c.read_lemma.new.reading.nodes c.read_lemma.new.reading.listed in
    let there : line_read s ≡ Some (lemma_line c.in-Lemma.mover c.in-Lemma.passes c.in-Lemma.root, t) =
    sym c.in-Some.ensures.read ∙ ap (λ k. Some (line_value k c.in-Some.line, t)) c.loop-alloc.invariant.size ∙ ap (λ l. Some (line_value n l, t)) c.in-Lemma.is in
    let same : c.next_line.new.reading.source.size ≡ n = c.in-Some.ensures.size ∙ c.loop-alloc.invariant.size in
    let one : lemma_read c.in-Lemma.mover c.in-Lemma.passes c.in-Lemma.root t ≡ Some (lemma_of n z, u) =
    sym c.in_ok-lemma-in-Lemma.ensures.read ∙ ap (λ (o : Option code.Lemma). with_rest (lemma_of c.next_line.new.reading.source.size) o u) c.in-Some-2.is ∙ ap (λ k. Some (lemma_of k z, u)) same in
    let items : c.push.new.self.items ≡ old ++ z ∷ [] = search rules in
    record {
      read =
          c.loop-alloc.invariant.read ∙ lemma_is_read s t u (length old) (map (lemma_of n) old) _ _ _ (lemma_of n z) (search rules) there one
          ∙ ap (λ (ls : List Lemma). lemmas_front ls (lemmas_read (65536 - (length old + 1)) u)) (sym (lemmas_pushed n old z))
          ∙ ap (λ (k : ℕ). lemmas_front (map (lemma_of n) (old ++ z ∷ [])) (lemmas_read (65536 - k) u)) (sym (length_push old z))
          ∙ ap (λ (xs : List code.Lemma). lemmas_front (map (lemma_of n) xs) (lemmas_read (65536 - length xs) u)) (sym items);
      counted =
          subst (λ (xs : List Lemma). CountsLemmas c.args.reading.now.nodes c.args.reading.now.listed xs u.nodes u.listed) (sym (ap (map (lemma_of n)) items ∙ lemmas_pushed n old z))
          (lemma_counted _ _ (map (lemma_of n) old) (lemma_of n z) _ _ _ _ c.loop-alloc.invariant.counted (search rules));
      size = search rules;
    }

pub returns-in_default-2-clause-read : goal.returns-in_default-2-clause-read
returns-in_default-2-clause-read c =
    let n = c.args.reading.now.source.size in
    let old = c.loop-alloc.lemmas.items in
    let s = left_of c.loop-alloc.reading.source c.loop-alloc.reading.nodes c.loop-alloc.reading.listed in
    let t = left_of c.next_line.new.reading.source c.next_line.new.reading.nodes c.next_line.new.reading.listed in
    let u = left_of c.read_lemma.new.reading.source c.read_lemma.new.reading.nodes c.read_lemma.new.reading.listed in
    let there : line_read s ≡ Some (lemma_line c.in-Lemma.mover c.in-Lemma.passes c.in-Lemma.root, t) =
    sym c.in-Some.ensures.read ∙ ap (λ k. Some (line_value k c.in-Some.line, t)) c.loop-alloc.invariant.size ∙ ap (λ l. Some (line_value n l, t)) c.in-Lemma.is in
    let none : lemma_read c.in-Lemma.mover c.in-Lemma.passes c.in-Lemma.root t ≡ None =
    sym c.in_ok-lemma-in-Lemma.ensures.read ∙ ap (λ (o : Option code.Lemma). with_rest (lemma_of c.next_line.new.reading.source.size) o u) c.in_default-2.is in
    let others = lemmas_read (65536 - (length old + 1)) in
    sym (c.loop-alloc.invariant.read ∙ ap (lemmas_front (map (lemma_of n) old)) (lemmas_after s t (length old) _ (search rules) there
    ∙ ap (option_and_then (λ (q : Lemma × Left). option_map (λ (r : List Lemma × Left). (q.0 ∷ r.0, r.1)) (others q.1))) none))

pub returns-in_default-line : goal.returns-in_default-line
returns-in_default-line c =
    let n = c.args.reading.now.source.size in
    let old = c.loop-alloc.lemmas.items in
    let s = left_of c.loop-alloc.reading.source c.loop-alloc.reading.nodes c.loop-alloc.reading.listed in
    let t = left_of c.next_line.new.reading.source c.next_line.new.reading.nodes c.next_line.new.reading.listed in
    let there : line_read s ≡ Some (line_value n c.in-Some.line, t) = sym c.in-Some.ensures.read ∙ ap (λ k. Some (line_value k c.in-Some.line, t)) c.loop-alloc.invariant.size in
    record {
      read = sym (c.loop-alloc.invariant.read ∙ ap (lemmas_front (map (lemma_of n) old)) (lemmas_after s t (length old) _ (search rules) there ∙ no_lemma n (lemmas_read (65536 - (length old + 1))) t c.in-Some.line c.in_default-line.not-Lemma c.in_default-line.not-Main));
      counted = tt;
      count = tt;
      size = search rules;
    }
