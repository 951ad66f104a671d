use Rattle.pass_alive.proofs.Common.{◌∙◌, List, sym, ap, subst, side_of, Place, number_of, with_place, IsChainOf}
use Rattle.pass_alive.proofs.Gathered.{chain_alone}
use Rattle.pass_alive.proofs.chains.chain_at.Goals as goal

pub returns-clause-some : goal.returns-clause-some
returns-clause-some c =
    let cells = c.args.board.now in
    let n = side_of cells in
    let x = c.args.point in
    subst (λ (s : List Place). IsChainOf n cells (number_of n x) s) (sym (c.insert.ensures ∙ ap (λ (s : List Place). with_place s x) c.new-chain.ensures))
    (chain_alone n cells x c.requires (c.is_alone.ensures c.if-not-is_alone.false))
