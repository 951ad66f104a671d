use Rattle.safe_groups.proofs.Common.{◌≡◌, ◌∙◌, sym, ap, subst, same_cell_eq, cell_at, Empty, area_of, LastBeside}
use Rattle.safe_groups.proofs.Lasting.{keeps, lasting_left, lasting_clear, goes_again, loose_left, clear_again}
use Rattle.safe_groups.proofs.ground.Ground.exchange.Goals as goal

pub returns-then-lasts : goal.returns-then-lasts
returns-then-lasts c =
    let a = area_of c.args.self.now in let s = c.args.state.now in let placed = c.with_theirs-placed.result in let x = c.args.number in
    let free : cell_at s x ≡ Empty = sym c.cell.ensures ∙ same_cell_eq c.cell.result Empty (sym c.is_empty.ensures ∙ c.if-not-is_empty.false) in (
      c.with_theirs-placed.ensures.side,
      keeps a s placed x c.requires.state.state.walled c.requires.state.at_rest c.requires.within free c.with_theirs-placed.ensures.value (subst (LastBeside a placed x) c.own.ensures (c.last_beside.ensures c.if-not-last_beside.false)),
      lasting_left a s placed x c.requires.state.state.walled c.requires.state.at_rest c.requires.within free c.with_theirs-placed.ensures.value (c.lasts.ensures c.if-lasts.true),
      lasting_clear a s placed x c.requires.state.state.walled c.requires.state.at_rest c.requires.within free c.with_theirs-placed.ensures.value (c.lasts.ensures c.if-lasts.true),
    )

pub returns-then-is_enclosed : goal.returns-then-is_enclosed
returns-then-is_enclosed c = λ free.
    let a = area_of c.args.self.now in let s = c.args.state.now in let placed = c.with_theirs-placed.result in let x = c.args.number in (
      keeps a s placed x c.requires.state.state.walled c.requires.state.at_rest c.requires.within free c.with_theirs-placed.ensures.value (subst (LastBeside a placed x) c.own.ensures (c.last_beside.ensures c.if-not-last_beside.false)),
      goes_again a s placed x c.requires.state.state.walled c.requires.state.at_rest c.requires.within free c.with_theirs-placed.ensures.value (c.is_enclosed.ensures c.if-is_enclosed.true),
    )

pub returns : goal.returns
returns c =
    let a = area_of c.args.self.now in let s = c.args.state.now in let placed = c.with_theirs-placed.result in let x = c.args.number in
    let free : cell_at s x ≡ Empty = sym c.cell.ensures ∙ same_cell_eq c.cell.result Empty (sym c.is_empty.ensures ∙ c.if-not-is_empty.false) in (
      c.without_loose.ensures.side,
      keeps a s placed x c.requires.state.state.walled c.requires.state.at_rest c.requires.within free c.with_theirs-placed.ensures.value (subst (LastBeside a placed x) c.own.ensures (c.last_beside.ensures c.if-not-last_beside.false)),
      loose_left a s placed x c.requires.state.state.walled c.requires.state.at_rest c.requires.within free c.with_theirs-placed.ensures.value c.without_loose.result c.without_loose.ensures.value,
      clear_again a placed c.without_loose.result c.without_loose.ensures.value,
    )
