use Rattle.cert_check.proofs.Common.{arith, rules, ◌≡◌, ◌+◌, ◌-◌, ◌++◌, [], ◌∷◌, length, slice_get, ap, ◌∙◌, listing_had, machine_of, heading_of, had_more}
use Rattle.cert_check.specs.Private.Judging.{lemma_of}
use Rattle.cert_check.proofs.Judging.{last_fits, listed_barred, had_goes}
use Rattle.cert_check.proofs.judge.Judge.had.Goals as goal

pub is_after-requires : goal.is_after-requires
is_after-requires c = last_fits c.args.self.now.had.items c.args.colouring _ c.copied.result (c.copied.ensures ∙ c.last.ensures.value ∙ ap (λ s. slice_get s (length s - 1)) c.deref.ensures.value) c.requires.fits c.requires.ready.fits

pub returns-then-not-is_after : goal.returns-then-not-is_after
returns-then-not-is_after c =
    let j = c.args.self.now in
    (search rules, search rules, (listed_barred (machine_of j) j.had.items c.args.colouring (listing_had (heading_of j) (had_more (lemma_of j) c.args.colouring)) (c.copied.ensures ∙ c.last.ensures.value ∙ ap (λ s. slice_get s (length s - 1)) c.deref.ensures.value) c.is_after.ensures c.if-self-ge-MAX_LISTED.false c.if-not-is_after.true, tt))

pub returns : goal.returns
returns c =
    let j = c.args.self.now in
    let pushed : c.push.new.self.items ≡ c.args.self.now.had.items ++ c.args.colouring ∷ [] = search rules in (
      search rules,
      search rules,
      had_goes j c.args.colouring (record j { had = c.push.new.self }) (j.listed_count + 1) (omega arith) c.is_after.ensures c.if-self-ge-MAX_LISTED.false c.if-not-is_after.false c.requires.fits
          (c.copied.ensures ∙ c.last.ensures.value ∙ ap (λ s. slice_get s (length s - 1)) c.deref.ensures.value) c.requires.phase pushed c.requires.ready,
    )
