use Rattle.safe_groups.proofs.Common.{sym, subst, inl, inr, Fits, start}
use Rattle.dead_groups.specs.Ground.{kill_area}
use Rattle.dead_groups.proofs.Grounds.{fits_kill}
use Rattle.dead_groups.proofs.entry_list.EntryList.is_spared.Goals as goal

pub returns : goal.returns
returns c = λ yes.
    let g = c.args.ground.now in let b = (start c.args.problem.now).colouring in
    inr (c.if-self-2.false, subst (Fits (kill_area g) b) c.requires.after (subst (λ d. Fits (kill_area g) d c.args.after.now) c.colouring.ensures (fits_kill g c.colouring.result.now c.args.after.now (c.fits.ensures yes))))
