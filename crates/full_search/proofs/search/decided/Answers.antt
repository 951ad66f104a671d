use Rattle.full_search.proofs.Common.{◌+◌, sym, ap, ◌∙◌, subst, Colour, opponent_of, Node, node_of, Shows}
use Rattle.proof_cert.specs.declared.certificate.Node.TheVariants.{All}
use Rattle.proof_cert.proofs.Certificates.{node_of_all}
use Rattle.full_search.proofs.Showing.{decided_open, decided_lost}
use Rattle.full_search.proofs.search.decided.Goals as goal

pub returns-then-seen : goal.returns-then-seen
returns-then-seen c = λ left. decided_open c.args.state.now.state c.args.turns c.args.seen c.requires.nobody c.if-seen.true c.requires.seen

pub returns-else-seen : goal.returns-else-seen
returns-else-seen c =
    let s = c.args.state.now.state in
    λ left. subst (λ (x : Colour). Shows x s (c.args.turns + 1) (node_of s.game.size (All c.args.seen.replies))) (sym (c.opponent.ensures ∙ ap opponent_of c.mover.ensures))
    (subst (λ (n : Node). Shows (opponent_of s.mover) s (c.args.turns + 1) n) (sym (node_of_all s.game.size c.args.seen.replies))
    (decided_lost s c.args.turns c.args.seen c.requires.nobody c.if-seen.false c.requires.seen))
