use Rattle.pass_alive.proofs.Common.{IsTrue, List, [], sym, ◌∙◌, subst, Place, number_of, holds_place, side_of, these, areas_in, IsEyeOutside, IsNoEye}
use Rattle.pass_alive.proofs.Tests.{two_found, none_found, one_found, no_eye_outside, if_some, or_none}
use Rattle.pass_alive.proofs.eyes.has_two_eyes.Goals as goal

pub returns-clause-sound : goal.returns-clause-sound
returns-clause-sound c held =
    let n = side_of c.args.board.now in
    let stones = these n c.args.stones.now in
    let chain = these n c.args.chain.now in
    let first = c.in-Some.first in
    let second = if_some (IsEyeOutside n c.args.board.now (areas_in c.args.colour c.args.board.now) stones chain (these n first)) c.eye_outside-2.result c.eye_outside-2.ensures.some (sym c.is_some.ensures ∙ held) in
    two_found n c.args.board.now (areas_in c.args.colour c.args.board.now) stones chain first second.0 (these n c.new.result) c.in-Some.ensures.some second.1

pub returns-clause-complete : goal.returns-clause-complete
returns-clause-complete c two =
    let cells = c.args.board.now in
    let areas = areas_in c.args.colour cells in
    let n = side_of cells in
    let stones = these n c.args.stones.now in
    let chain = c.args.chain.now in
    let sides = c.sides_of-sides.result in
    let first = c.in-Some.first in
    c.is_some.ensures ∙ or_none ((p : Place) → IsTrue (holds_place sides p) → IsNoEye n areas stones (these n chain) (these n first) (number_of n p)) c.eye_outside-2.result c.eye_outside-2.ensures.none
    (λ none.
    one_found n cells areas stones (these n chain) first (these n c.new.result) c.in-Some.ensures.some
    (no_eye_outside n cells areas stones chain sides (these n first) c.sides_of-sides.ensures none) two)

pub returns-in_default-clause-complete : goal.returns-in_default-clause-complete
returns-in_default-clause-complete c two =
    let cells = c.args.board.now in
    let areas = areas_in c.args.colour cells in
    let n = side_of cells in
    let stones = these n c.args.stones.now in
    let chain = c.args.chain.now in
    let sides = c.sides_of-sides.result in
    let none = subst (λ (s : List Place). (p : Place) → IsTrue (holds_place sides p) → IsNoEye n areas stones (these n chain) (these n s) (number_of n p)) c.new.ensures c.in_default.ensures.none in
    absurd (none_found n cells areas stones (these n chain) (no_eye_outside n cells areas stones chain sides (these n []) c.sides_of-sides.ensures none) two)
