use Rattle.cert_check.proofs.Common.{rules, ◌≡◌, subst, sym, Line, use_line, node_value, nowhere, answering}
use Rattle.cert_check.specs.Private.Judging.{TakesNodeIn}
use Rattle.cert_check.specs.declared.judge.Within.TheVariants.{Lemma, Main}
use Rattle.cert_check.proofs.judge.Judge.node_within.Goals as goal

pub returns-then-rests_on_shape-clause-taken : goal.returns-then-rests_on_shape-clause-taken
returns-then-rests_on_shape-clause-taken c =
    let j = c.args.self.now in
    let n = j.state.state.game.size in
    let is : node_value n c.args.node ≡ use_line 0 = (c.rests_on_shape.ensures n).0 c.if-rests_on_shape.true in
    subst (λ (l : Line). TakesNodeIn j c.args.within (answering c.args.alive) l c.by_shape.new.self c.by_shape.result) (sym is) (c.by_shape.ensures.taken c.args.within)

pub returns-in-Lemma-clause-taken : goal.returns-in-Lemma-clause-taken
returns-in-Lemma-clause-taken c =
    let j = c.args.self.now in
    let l = node_value j.state.state.game.size c.args.node in
    let new = record j { passed = c.take_node.new.passed; state = c.take_node.new.state; open_nodes = c.take_node.new.open_nodes } in
    let there : TakesNodeIn j Lemma nowhere l new c.take_node.result = search rules in
    let here : TakesNodeIn j Lemma (answering c.args.alive) l new c.take_node.result = search rules in
    subst (λ w. TakesNodeIn j w (answering c.args.alive) l new c.take_node.result) (sym c.in-Lemma.is) here

pub returns-in-Main-clause-taken : goal.returns-in-Main-clause-taken
returns-in-Main-clause-taken c =
    let j = c.args.self.now in
    let l = node_value j.state.state.game.size c.args.node in
    let new = record j { passed = j.passed; state = c.take_node-in-Main.new.state; open_nodes = c.take_node-in-Main.new.open_nodes } in
    let there : TakesNodeIn j Main nowhere l new c.take_node-in-Main.result = search rules in
    let here : TakesNodeIn j Main (answering c.args.alive) l new c.take_node-in-Main.result = search rules in
    subst (λ w. TakesNodeIn j w (answering c.args.alive) l new c.take_node-in-Main.result) (sym c.in-Main.is) here
