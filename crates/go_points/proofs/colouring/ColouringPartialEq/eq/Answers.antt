use Rattle.go_points.proofs.Common.{◌≡◌, Bool, true, false, not, nat_eq, eqb-true, eq-eqb, refl, sym, ◌∙◌, pointwise, same_cells}
use Rattle.go_points.proofs.Anywhere.{same_tests}
use Rattle.go_points.proofs.Comparing.{all_same, size_same, stones_same, blacks_same, unlike, words_decide}
use Rattle.go_points.proofs.colouring.ColouringPartialEq.eq.Goals as goal

-- a test that was turned
turned : (a b : Bool) → a ≡ not b → a ≡ true → b ≡ false
turned a true e f = absurd (cc)
turned a false e f = refl

kept : (a b : Bool) → a ≡ not b → a ≡ false → b ≡ true
kept a true e f = refl
kept a false e f = absurd (cc)

pub returns-then-ne : goal.returns-then-ne
returns-then-ne c =
    let a = c.self.inside in
    let b = c.other.inside in
    unlike a.size b.size a.stones a.blacks b.stones b.blacks c.args.self.now c.args.other.now c.self.invariant c.other.invariant c.self.view_is c.other.view_is false refl
    (λ h. sym (turned c.ne.result (nat_eq a.size b.size) c.ne.ensures c.if-ne.true) ∙ eq-eqb a.size b.size (size_same a.size b.size a.stones a.blacks b.stones b.blacks c.args.self.now c.args.other.now c.self.invariant c.other.invariant c.self.view_is c.other.view_is h))

pub returns-then-ne-2 : goal.returns-then-ne-2
returns-then-ne-2 c =
    let a = c.self.inside in
    let b = c.other.inside in
    unlike a.size b.size a.stones a.blacks b.stones b.blacks c.args.self.now c.args.other.now c.self.invariant c.other.invariant c.self.view_is c.other.view_is false refl
    (λ h. sym (turned c.ne-2.result (pointwise nat_eq a.stones b.stones) c.ne-2.ensures c.if-ne-2.true) ∙ (words_decide a.stones b.stones).1 (stones_same a.size b.size a.stones a.blacks b.stones b.blacks c.args.self.now c.args.other.now c.self.invariant c.other.invariant c.self.view_is c.other.view_is h))

pub returns : goal.returns
returns c =
    let a = c.self.inside in
    let b = c.other.inside in
    let size : a.size ≡ b.size = eqb-true a.size b.size (kept c.ne.result (nat_eq a.size b.size) c.ne.ensures c.if-ne.false) in
    let stones : a.stones ≡ b.stones = (words_decide a.stones b.stones).0 (kept c.ne-2.result (pointwise nat_eq a.stones b.stones) c.ne-2.ensures c.if-ne-2.false) in
    let there : pointwise nat_eq a.blacks b.blacks ≡ true → same_cells c.args.self.now c.args.other.now ≡ true =
    λ h. all_same a.size b.size a.stones a.blacks b.stones b.blacks c.args.self.now c.args.other.now c.self.invariant c.other.invariant c.self.view_is c.other.view_is size stones ((words_decide a.blacks b.blacks).0 h) in
    let back : same_cells c.args.self.now c.args.other.now ≡ true → pointwise nat_eq a.blacks b.blacks ≡ true =
    λ h. (words_decide a.blacks b.blacks).1 (blacks_same a.size b.size a.stones a.blacks b.stones b.blacks c.args.self.now c.args.other.now c.self.invariant c.other.invariant c.self.view_is c.other.view_is h) in
    c.eq.ensures ∙ same_tests (pointwise nat_eq a.blacks b.blacks) (same_cells c.args.self.now c.args.other.now) there back
