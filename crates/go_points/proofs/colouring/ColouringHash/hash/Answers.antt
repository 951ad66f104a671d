use Rattle.go_points.proofs.Common.{◌≡◌, ◌++◌, List, ℕ, sym, ◌∙◌, ap, ap₂, stone_words, black_words, stones_back, blacks_back}
use Rattle.std.specs.List.{fold}
use Rattle.std.specs.Hash as fed
use Rattle.std.proofs.lemmas.List.Sums.{fold-append}
use Rattle.go_points.proofs.colouring.ColouringHash.hash.Goals as goal

pub returns : goal.returns
returns g c =
    let a = c.self.inside in
    let stones : a.stones ≡ stone_words c.args.self.now = sym (stones_back a.size a.stones a.blacks c.self.invariant) ∙ ap stone_words c.self.view_is in
    let blacks : a.blacks ≡ black_words c.args.self.now = sym (blacks_back a.size a.stones a.blacks c.self.invariant) ∙ ap black_words c.self.view_is in
    c.hash-2.ensures
    ∙ ap (λ s. fold g.H.Hasher.write s (fed.slice fed.u64 a.blacks)) c.hash.ensures
    ∙ sym (fold-append g.H.Hasher.write c.args.state.now (fed.slice fed.u64 a.stones) (fed.slice fed.u64 a.blacks))
    ∙ ap₂ (λ (v w : List ℕ). fold g.H.Hasher.write c.args.state.now (fed.slice fed.u64 v ++ fed.slice fed.u64 w)) stones blacks
