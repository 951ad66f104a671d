use Rattle.pass_alive.proofs.Common.{rules, sym, ◌∙◌, ap, side_of, holds_place, these, areas_in, IsFreePlace, IsNoEyePlace}
use Rattle.go_turns.proofs.Openings.{place_back}
use Rattle.pass_alive.proofs.Members.{but_fact, but_more}
use Rattle.pass_alive.proofs.Spreading.{no_eyes_first}
use Rattle.pass_alive.proofs.Tests.{eye_found}
use Rattle.pass_alive.proofs.eyes.eye_outside.Goals as goal

pub loop-point-init : goal.loop-point-init
loop-point-init c =
    let board = c.args.board.now in
    let n = side_of board in
    let areas = areas_in c.args.colour board in (
      search rules,
      search rules,
      search rules,
      no_eyes_first n areas (these n c.args.stones.now) (these n c.args.chain.now) c.new-failed.result c.new-failed.ensures,
    )

pub eye_at-requires-clause-on : goal.eye_at-requires-clause-on
eye_at-requires-clause-on c =
    let board = c.args.board.now in
    let n = side_of board in
    (but_fact (IsNoEyePlace n (areas_in c.args.colour board) c.args.stones.now c.args.chain.now c.args.known.now) c.args.sides.now (IsFreePlace n board) c.requires c.loop-point.point-iterator c.next.new.self c.in-Some.point c.in-Some.ensures.steps c.loop-point.invariant.2).0

pub eye_at-requires-clause-inside : goal.eye_at-requires-clause-inside
eye_at-requires-clause-inside c own =
    let board = c.args.board.now in
    let n = side_of board in
    let place = but_fact (IsNoEyePlace n (areas_in c.args.colour board) c.args.stones.now c.args.chain.now c.args.known.now) c.args.sides.now (IsFreePlace n board) c.requires c.loop-point.point-iterator c.next.new.self c.in-Some.point c.in-Some.ensures.steps c.loop-point.invariant.2 in
    cc (place.1, own)

pub returns-in-Some-eye_at-clause-some : goal.returns-in-Some-eye_at-clause-some
returns-in-Some-eye_at-clause-some c =
    let board = c.args.board.now in
    let n = side_of board in
    let areas = areas_in c.args.colour board in
    let place = but_fact (IsNoEyePlace n areas c.args.stones.now c.args.chain.now c.args.known.now) c.args.sides.now (IsFreePlace n board) c.requires c.loop-point.point-iterator c.next.new.self c.in-Some.point c.in-Some.ensures.steps c.loop-point.invariant.2 in
    eye_found n board areas c.args.stones.now c.args.chain.now c.args.known.now c.in-Some.point c.in-Some-eye_at.eye place
    (sym c.has.ensures ∙ c.if-not-has.true) c.in-Some-eye_at.ensures.some

pub loop-point-preserved-in_default : goal.loop-point-preserved-in_default
loop-point-preserved-in_default c =
    let board = c.args.board.now in
    let n = side_of board in (
      search rules,
      search rules,
      but_more (IsNoEyePlace n (areas_in c.args.colour board) c.args.stones.now c.args.chain.now c.args.known.now) c.args.sides.now c.loop-point.point-iterator c.next.new.self c.in-Some.point c.in-Some.ensures.steps
          (λ unknown eye. c.in_default.ensures.none eye)
          c.loop-point.invariant.2,
      c.eye_at.ensures.failed,
    )

pub loop-point-preserved : goal.loop-point-preserved
loop-point-preserved c =
    let board = c.args.board.now in
    let known = c.args.known.now in
    let n = side_of board in
    let test = IsNoEyePlace n (areas_in c.args.colour board) c.args.stones.now c.args.chain.now known in
    let place = but_fact test c.args.sides.now (IsFreePlace n board) c.requires c.loop-point.point-iterator c.next.new.self c.in-Some.point c.in-Some.ensures.steps c.loop-point.invariant.2 in (
      search rules,
      search rules,
      but_more test c.args.sides.now c.loop-point.point-iterator c.next.new.self c.in-Some.point c.in-Some.ensures.steps
          (λ unknown eye. cc (ap (holds_place known) (place_back n c.in-Some.point place.0), c.has.ensures, c.if-not-has.false, unknown))
          c.loop-point.invariant.2,
      c.loop-point.invariant.3,
    )
