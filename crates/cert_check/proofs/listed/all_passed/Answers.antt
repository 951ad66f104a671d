use Rattle.cert_check.proofs.Common.{rules, [], ℕ, sym, ◌∙◌, subst, arith, get_or, slice_get_within, get_or_from_slice_get}
use Rattle.std.proofs.lemmas.Option.{slice_get-get_or}
use Rattle.cert_check.proofs.Ascending.{PassLeft, left_found, left_other, left_all, left_end}
use Rattle.cert_check.proofs.listed.all_passed.Goals as goal
use Rattle.cert_check.proofs.listed.all_passed.Goals.{then-is_at, else-is_at}

pub loop-index-preserved : goal.loop-index-preserved
loop-index-preserved c =
    let few = c.args.few.now in
    let list = c.args.list.now in
    let place = c.loop-index.place in
    let i = c.loop-index.index in
    let y = c.in-Some.colouring in
    let x = get_or list i [] in
    let found = slice_get-get_or list i [] (search rules) in
    let same = c.is_at.ensures x found in
    let h = c.loop-index.invariant.left in
    let so_far = c.loop-index.invariant.within in
    let here = sym c.loop-index.invariant.next ∙ c.in-Some.is in
    let less = slice_get_within few place y here in
    let low = slice_get_within list i x found in
    let first = get_or_from_slice_get few place y y here in
    let second = get_or_from_slice_get list i x x found in
    elim c.if-is_at.branch [
      | then-is_at w ↦ rw (w.place-is, w.wanted-is) record {
        left = left_found few list place i y x low second c.requires.few c.requires.list less first (sym same ∙ w.if-is_at.true) h;
        next = w.get-wanted-then-is_at.ensures;
        within = omega (arith, so_far);
      }
      | else-is_at w ↦ rw (w.place-is, w.wanted-is) record {
        left = left_other few list place i y x low second c.requires.few c.requires.list less first (sym same ∙ w.if-is_at.false) h;
        next = c.loop-index.invariant.next;
        within = omega (arith, so_far);
      }
    ]

pub returns-in_default : goal.returns-in_default
returns-in_default c = sym (left_all c.args.few.now c.args.list.now c.loop-index.place c.loop-index.index (sym c.loop-index.invariant.next ∙ c.in_default.is) c.loop-index.invariant.left)

pub returns : goal.returns
returns c =
    let few = c.args.few.now in
    let list = c.args.list.now in
    left_end few list c.loop-index.place c.loop-index.wanted c.is_none.result c.loop-index.invariant.next c.is_none.ensures (subst (λ (i : ℕ). PassLeft few list c.loop-index.place i) (search rules) c.loop-index.invariant.left)
