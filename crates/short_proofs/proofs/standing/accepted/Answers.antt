use Rattle.std.proofs.Common.{◌≡◌, ◌++◌, ◌*◌, sym, ◌∙◌, ap, inl, inr, subst, List, ℕ, string_bytes}
use Rattle.go_points.specs.declared.Colour.{Colour}
use Rattle.go_points.specs.Grid.{side_of}
use Rattle.tool_parts.specs.Says.{colour_text}
use Rattle.short_proofs.specs.Says.{first_text, stands_text, stones_text}
use Rattle.short_proofs.proofs.Stones.{stands_is}
use Rattle.short_proofs.proofs.standing.accepted.Goals as goal

pub returns : goal.returns
returns c =
    let q = c.args.problem.now in let v = c.args.verdict.now in
    let side : c.colour_name-side.result.now ≡ colour_text q.game.defender = c.colour_name-side.ensures ∙ ap colour_text c.defender-keeper.ensures in
    let told : string_bytes c.in_ok-rest.rest ≡ first_text v.first ++ stones_text q.game.size q.game.defender v.stones (q.game.size * q.game.size) =
    subst (λ n. string_bytes c.in_ok-rest.rest ≡ first_text v.first ++ stones_text n q.game.defender v.stones (n * n)) c.requires.side
    (subst (λ k. string_bytes c.in_ok-rest.rest ≡ first_text v.first ++ stones_text (side_of v.stones) k v.stones (side_of v.stones * side_of v.stones)) c.defender-keeper.ensures c.in_ok-rest.ensures) in
    let text : string_bytes c.in_ok-text.text ≡ stands_text q.game.size q.game.defender v.first v.stones =
    stands_is q.game.size q.game.defender v.first v.stones c.colour_name-side.result.now (string_bytes c.in_ok-rest.rest) (string_bytes c.in_ok-text.text) side told c.in_ok-text.ensures.ok in
    record {
      answer = λ e. inr (inl (v.first, v.stones, text, c.requires.targets, c.requires.stones));
      rejection = λ e. absurd (cc e);
    }
