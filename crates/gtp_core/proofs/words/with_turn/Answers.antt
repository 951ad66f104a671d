use Rattle.gtp_core.proofs.Common.{rules, ◌≡◌, ◌++◌, ◌∙◌, ap, sym, codes, ply_of, turn_text}
use Rattle.gtp_core.proofs.Orders.{turn_written}
use Rattle.gtp_core.proofs.words.with_turn.Goals.{in-Pass+in_ok-extend_from_slice-in-Pass, in-At+in_ok-extend_from_slice-in-At}
use Rattle.gtp_core.proofs.words.with_turn.Goals as goal

pub returns : goal.returns
returns c =
    let n = c.args.size in
    elim c.match-turn.branch [
      | in-Pass+in_ok-extend_from_slice-in-Pass w ↦
          let items : c.match-turn.text.items ≡ c.args.front.now ++ codes "pass" = search rules in
          items ∙ ap (λ t. c.args.front.now ++ turn_text n (ply_of n t)) (sym w.in-Pass.is)
      | in-At+in_ok-extend_from_slice-in-At w ↦
          let items : c.match-turn.text.items ≡ c.args.front.now ++ w.to_gtp.result.items = search rules in
          items ∙ ap (λ xs. c.args.front.now ++ xs) (w.to_gtp.ensures ∙ sym (turn_written n c.args.turn.now w.in-At.point w.in-At.is c.requires))
    ]
