use Rattle.cert_check.proofs.Common.{◌≡◌, ◌∷◌, Option, Some, option_map, suc, length, reverse, sym, ap, ◌∙◌, subst, rules, Turn, ply_of, turns_due, turns_begun, all_fault, due_replies, why_value, owing, owed_by}
use Rattle.target_game.specs.State.{Line}
use Rattle.target_game.specs.Left.{Takes}
use Rattle.cert_check.specs.Parts.{ordinary}
use Rattle.cert_check.specs.Private.Inside.{reply_at}
use Rattle.cert_check.proofs.Replies.{fault_said}
use Rattle.cert_check.proofs.open_nodes.take_all.Goals as goal

pub returns-in-Some : goal.returns-in-Some
returns-in-Some c =
    let asked = subst (λ (l : Line). option_map (why_value l.state.game.size) c.all_fault.result ≡ option_map Some (all_fault (ordinary c.args.body.now) l.state c.args.replies)) c.play.ensures c.all_fault.ensures in
    (fault_said c.args.state.now.state.game.size c.all_fault.result c.in-Some.why (all_fault (ordinary c.args.body.now) c.args.state.now.state c.args.replies) asked c.in-Some.is, search rules)

pub returns : goal.returns
returns c =
    let s = c.args.state.now.state in
    let n = c.next_left.new.left.next in
    let taken = subst (λ (o : Option Turn). Takes s c.all-left.result.next (option_map (ply_of s.game.size) o) n) c.in-Some-next_left.is (subst (λ (l : Line). Takes l.state c.all-left.result.next (option_map (ply_of l.state.game.size) c.next_left.result) n) c.play-2.ensures c.next_left.ensures) in
    let due : ply_of s.game.size c.in-Some-next_left.due ∷ turns_due s n ≡ due_replies s = sym taken.0 ∙ ap (turns_due s) c.all-left.ensures ∙ turns_begun s in
    record {
      game = search rules;
      follows = search rules;
      made = search rules;
      none = search rules;
      behind = ap (λ ts. reply_at (owing (suc (length c.args.state.now.before)) s ts (owed_by c.args.state.now.before (reverse c.args.open_nodes.now.items)))) due;
    }
