use Rattle.first_moves.proofs.Common.{rules, ◌≡◌, List, [], ◌∷◌, ◌++◌, IfSome, Option, subst, sym, ◌∙◌, ap, Turn, GameProblem, Later, Position, AreAlong, IsPosition, IsReached}
use Rattle.std.specs.List.{All}
use Rattle.std.proofs.lemmas.List.Elements.{All-push}
use Rattle.first_moves.specs.Line.{IsLater}
use Rattle.first_moves.proofs.Reaching.{along_more, last_more, last_turns}
use Rattle.first_moves.proofs.line.judge_along.Goals as goal

pub loop-init : goal.loop-init
loop-init g c =
    let none = sym c.new-later.ensures.items in (
      (search rules, subst (AreAlong []) none tt, search rules),
      search rules,
      subst (λ (ls : List Later). last_turns [] ls ≡ c.new-turns.result.items) none (sym c.new-turns.ensures.items),
      search rules,
    )

pub loop-preserved : goal.loop-preserved
loop-preserved g c =
    let q = c.args.problem.now in
    let next = c.in-Some-2.next in
    let had = c.loop.later.items in
    let turn = c.in-Some.turn in
    let reply = c.in-Some.reply in
    let reached : (r : GameProblem) → IsPosition r c.loop.position → IsPosition r next =
    subst (λ (o : Option Position). IfSome o (λ (n : Position). (r : GameProblem) → IsPosition r c.loop.position → IsPosition r n)) c.in-Some-2.is c.in_ok-next.ensures.reached in
    let turns : next.turns.items ≡ (c.loop.position.turns.items ++ turn ∷ []) ++ reply ∷ [] =
    subst (λ (o : Option Position). IfSome o (λ (n : Position). n.turns.items ≡ (c.loop.position.turns.items ++ turn ∷ []) ++ reply ∷ [])) c.in-Some-2.is c.in_ok-next.ensures.turns in
    let there : IsPosition q next = reached q c.loop.invariant.1 in
    let later = c.in_ok-judge_position.field-0 in
    let position : IsPosition q later.position =
    subst (λ (ts : List Turn). IsReached q ts later.position.problem) (sym c.in_ok-judge_position.ensures.turns)
    (subst (λ (r : GameProblem). IsReached q next.turns.items r) (sym c.in_ok-judge_position.ensures.problem) there) in
    let one : IsLater q later = (position, c.in_ok-judge_position.ensures.found) in
    let two : later.position.turns.items ≡ (last_turns [] had ++ turn ∷ []) ++ reply ∷ [] =
    c.in_ok-judge_position.ensures.turns ∙ turns ∙ ap (λ (ts : List Turn). (ts ++ turn ∷ []) ++ reply ∷ []) (sym c.loop.invariant.2) in
    let more = sym c.in_ok-push.ensures.items in (
      (
        subst (All (IsLater q)) more (All-push (IsLater q) had later c.loop.invariant.0.0 one),
        subst (AreAlong []) more (along_more [] had later turn reply c.loop.invariant.0.1 two),
        search rules,
      ),
      there,
      subst (λ (ls : List Later). last_turns [] ls ≡ next.turns.items) more (last_more [] had later ∙ c.in_ok-judge_position.ensures.turns),
      search rules,
    )
