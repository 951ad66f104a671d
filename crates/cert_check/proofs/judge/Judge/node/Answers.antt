use Rattle.cert_check.proofs.Common.{arith, rules, ◌≡◌, suc, ◌+◌, option_map, sym, ap, ◌∙◌, line_value, limit, why_value, node_value, Judge, Game}
use Rattle.cert_check.proofs.Judging.{node_line_is, node_full, node_off, node_on}
use Rattle.cert_check.proofs.Replies.{stops_said}
use Rattle.cert_check.proofs.judge.Judge.node.Goals as goal

pub returns-then-not-has_room : goal.returns-then-not-has_room
returns-then-not-has_room c =
    let j = c.args.self.now in
    let n = j.state.state.game.size in
    let m = j.problem.now.game.size in
    let l = line_value m c.args.line.now in
    let k = c.in-Some.node in
    let is = node_line_is l (node_value m k) (sym (c.node_of.ensures m) ∙ ap (option_map (node_value m)) c.in-Some.is) ∙ ap (λ (g : Game). node_value g.size k) (sym c.requires.ready.game) in
    (search rules, search rules, (λ p said. node_full c.args.alive j c.args.within l k c.requires.ready is c.has_room.result c.has_room.ensures.value c.if-not-has_room.true ∙ stops_said j.place limit p said, tt))

pub returns-in-Ok : goal.returns-in-Ok
returns-in-Ok c =
    let j = c.args.self.now in
    let j' = c.node_within.new.self in
    let m = j.problem.now.game.size in
    let l = line_value m c.args.line.now in
    let k = c.in-Some.node in
    let is = node_line_is l (node_value m k) (sym (c.node_of.ensures m) ∙ ap (option_map (node_value m)) c.in-Some.is) ∙ ap (λ (g : Game). node_value g.size k) (sym c.requires.ready.game) in
    let same : j'.node_count ≡ j.node_count = ap (λ (x : Judge). x.node_count) c.node_within.ensures.rest in
    let counted : j'.node_count + 1 ≡ suc j.node_count = omega (arith, same) in
    (search rules, search rules, (search rules, node_on c.args.alive j c.args.within l k c.requires.ready is c.has_room.result c.in-Ok.due j' (j'.node_count + 1) c.has_room.ensures.value c.if-not-has_room.false c.in-Ok.ensures.taken.none c.in-Ok.ensures.taken.behind c.node_within.ensures.rest counted))

pub returns-in-Err : goal.returns-in-Err
returns-in-Err c =
    let j = c.args.self.now in
    let m = j.problem.now.game.size in
    let l = line_value m c.args.line.now in
    let k = c.in-Some.node in
    let is = node_line_is l (node_value m k) (sym (c.node_of.ensures m) ∙ ap (option_map (node_value m)) c.in-Some.is) ∙ ap (λ (g : Game). node_value g.size k) (sym c.requires.ready.game) in
    (search rules, search rules, (λ p said. node_off c.args.alive j c.args.within l k c.requires.ready is c.has_room.result p c.has_room.ensures.value c.if-not-has_room.false (c.in-Err.ensures.taken.0 p (ap (λ (g : Game). why_value g.size c.in-Err.why) c.requires.ready.game ∙ said)), c.in-Err.ensures.taken.1))
