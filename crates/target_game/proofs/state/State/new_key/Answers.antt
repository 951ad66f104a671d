-- A quiet move with a key that no colouring has.
use Rattle.target_game.proofs.Common.{◌≡◌, ℕ, set, sym, ◌∙◌, ap, subst, Stone, number_of, after_move, HasNoneOf, colouring_of, key_of, Line}
use Rattle.target_game.specs.Private.NewKey.{IsNewKey}
use Rattle.target_game.proofs.Playing.{new_by_key}
use Rattle.target_game.proofs.state.State.new_key.Goals as goal

pub returns : goal.returns
returns g c =
    let r = c.self.inside.played in
    let k = c.self.inside.mover in
    let n : ℕ = r.size in
    let p : ℕ = number_of n c.args.point in
    let here = colouring_of r.present in
    let key = c.key_with_stone-key.result in
    let quiet : after_move n here k p ≡ set here p (Stone k) = c.quiet.ensures.0 c.if-not-quiet.false in
    subst (λ (v : Line). IsNewKey v.state (number_of v.state.game.size c.args.point) key) c.self.view_is (record {
      quiet = quiet;
      is_key = c.key_with_stone-key.ensures ∙ sym (ap key_of quiet);
      fresh = new_by_key r.present.history (set here p (Stone k)) (after_move n here k p) key c.key_with_stone-key.ensures quiet
          (subst (λ h. HasNoneOf h key) c.seen.ensures (c.may_hold.ensures c.if-may_hold.false));
    })
