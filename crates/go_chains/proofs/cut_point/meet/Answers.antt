use Rattle.go_chains.proofs.Common.{◌≡◌, refl, inr, true, sym, ◌∙◌, subst, adjacent, number_of}
use Rattle.go_chains.proofs.Beside.{is_beside}
use Rattle.go_chains.proofs.cut_point.meet.Goals as goal

pub returns-then-is_beside : goal.returns-then-is_beside
returns-then-is_beside c = λ yes.
    let n = c.args.size in
    let a = c.args.one in
    let adj : adjacent n a (number_of n c.neighbour-item.result) ≡ true = is_beside c.point_at.result refl c.neighbours-neighbours.ensures.exact c.point_at.ensures.number_back c.as_slice-neighbour-items.ensures.value c.loop-neighbour.neighbour-index c.neighbour-item.result c.loop-neighbour-test.true c.neighbour-item.is in
    inr (record {
      middle = c.number-middle.result;
      other = c.if-middle-number.true;
      own = c.if-heads-middle.true;
      first = subst (λ m. adjacent n a m ≡ true) (sym c.number-middle.ensures.value) adj;
      second = sym c.is_beside.ensures ∙ c.if-is_beside.true;
    })
