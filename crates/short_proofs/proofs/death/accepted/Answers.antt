use Rattle.std.proofs.Common.{◌≡◌, ◌++◌, ◌*◌, sym, ◌∙◌, ap, inl, inr, subst, string_bytes}
use Rattle.go_points.specs.Grid.{opponent_of, side_of}
use Rattle.tool_parts.specs.Says.{colour_text}
use Rattle.short_proofs.specs.Says.{dead_text, stones_text, while_text}
use Rattle.short_proofs.proofs.Stones.{dead_is}
use Rattle.short_proofs.proofs.death.accepted.Goals as goal

pub returns : goal.returns
returns c =
    let q = c.args.problem.now in let v = c.args.verdict.now in let n = q.game.size in let rest = string_bytes c.in_ok-rest.rest in
    let side : c.colour_name-side.result.now ≡ colour_text q.game.defender = c.colour_name-side.ensures ∙ ap colour_text c.defender-defender.ensures in
    let told : rest ≡ stones_text n q.game.defender v.targets (n * n) ++ while_text (stones_text n (opponent_of q.game.defender) v.supposed (n * n)) =
    subst (λ m. rest ≡ stones_text n q.game.defender v.targets (n * n) ++ while_text (stones_text m (opponent_of q.game.defender) v.supposed (m * m))) c.requires.supposed_side
    (subst (λ m. rest ≡ stones_text m q.game.defender v.targets (m * m) ++ while_text (stones_text (side_of v.supposed) (opponent_of q.game.defender) v.supposed (side_of v.supposed * side_of v.supposed))) c.requires.targets_side
    (subst (λ k. rest ≡ stones_text (side_of v.targets) k v.targets (side_of v.targets * side_of v.targets) ++ while_text (stones_text (side_of v.supposed) (opponent_of k) v.supposed (side_of v.supposed * side_of v.supposed))) c.defender-defender.ensures c.in_ok-rest.ensures)) in
    let text : string_bytes c.in_ok-text.text ≡ dead_text n q.game.defender v.targets v.supposed =
    dead_is n q.game.defender v.targets v.supposed c.colour_name-side.result.now rest (string_bytes c.in_ok-text.text) side told c.in_ok-text.ensures.ok in
    record {
      answer = λ e. inr (inr (v.targets, v.supposed, text, c.requires.targets, c.requires.dead));
      rejection = λ e. absurd (cc e);
    }
