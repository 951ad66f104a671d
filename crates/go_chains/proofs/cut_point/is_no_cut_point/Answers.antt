use Rattle.go_chains.proofs.Common.{◌≡◌, refl, true, sym, subst, adjacent, number_of}
use Rattle.go_chains.proofs.Beside.{is_beside}
use Rattle.go_chains.proofs.cut_point.is_no_cut_point.Goals as goal

pub returns-then-meet_at : goal.returns-then-meet_at
returns-then-meet_at c = λ yes.
    let n = c.args.size in
    let p = c.args.number in
    let adj : adjacent n p (number_of n c.neighbour-item.result) ≡ true = is_beside c.point_at.result refl c.neighbours-neighbours.ensures.exact c.point_at.ensures.number_back c.as_slice-neighbour-items.ensures.value c.loop-neighbour.neighbour-index c.neighbour-item.result c.loop-neighbour-test.true c.neighbour-item.is in
    record {
      other = c.if-head-number.false;
      after = c.if-next-head.false;
      centre = c.number-centre.result;
      beside = subst (λ m. adjacent n p m ≡ true) (sym c.number-centre.ensures.value) adj;
      own = c.if-heads-centre.true;
      meet = c.meet_at.ensures c.if-meet_at.true;
    }
