use Rattle.cert_check.proofs.Common.{arith, rules, ◌≡◌, ◌+◌, ◌++◌, [], ◌∷◌, listing_not, machine_of, heading_of, listed_more}
use Rattle.cert_check.specs.Private.Judging.{lemma_of}
use Rattle.cert_check.proofs.Judging.{last_fits, listed_barred, listed_goes}
use Rattle.cert_check.proofs.judge.Judge.listed.Goals as goal

pub is_after-requires : goal.is_after-requires
is_after-requires c = last_fits c.args.self.now.list c.args.colouring _ c.last.result c.last.ensures c.requires.fits c.requires.ready.fits

pub returns-then-not-is_after : goal.returns-then-not-is_after
returns-then-not-is_after c =
    let j = c.args.self.now in
    (search rules, search rules, (listed_barred (machine_of j) j.list c.args.colouring (listing_not (heading_of j) (listed_more (lemma_of j) c.args.colouring)) c.last.ensures c.is_after.ensures c.if-self-ge-MAX_LISTED.false c.if-not-is_after.true, tt))

pub returns : goal.returns
returns c =
    let j = c.args.self.now in
    let pushed : c.push.new.self ≡ c.args.self.now.list ++ c.args.colouring ∷ [] = search rules in (
      search rules,
      search rules,
      listed_goes j c.args.colouring (record j { list = c.push.new.self }) (j.listed_count + 1) (omega arith) c.is_after.ensures c.if-self-ge-MAX_LISTED.false c.if-not-is_after.false c.requires.fits
          c.last.ensures c.requires.phase pushed c.requires.ready,
    )
