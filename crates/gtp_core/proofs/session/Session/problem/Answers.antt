use Rattle.gtp_core.proofs.Common.{◌≡◌, ◌∙◌, ℕ, List, Option, sym, ap, ap₂, subst, unwrap_or, IfSome, result_ok, Cell, side_of, place_in, problem_of, GtpSession, board_of, problem_at, IsSound}
use Rattle.gtp_core.proofs.Sound.{problem_is, problem_placed, problem_size}
use Rattle.gtp_core.proofs.session.Session.problem.Goals as goal

-- the session, by its parts
seen : (c : goal.After-ok) → GtpSession
seen c = record { turns = c.self.inside.turns; targets = c.self.inside.targets; region = c.self.inside.region }

made : (c : goal.After-ok) → c.ok.result ≡ problem_at (seen c) c.args.mover
unfolding seen
made c =
    let s = seen c in
    let m = s.turns.present in
    let sound : IsSound s = c.self.invariant.0 in
    let side : side_of (board_of s) ≡ s.turns.size = ap side_of (sym c.colouring.ensures.value) ∙ c.colouring.ensures.size in
    let place : c.unwrap_or-place.result ≡ m.place =
    c.unwrap_or-place.ensures ∙ ap (λ (o : Option ℕ). unwrap_or o 0) (c.holds.ensures ∙ ap₂ place_in c.seen-2.ensures c.colouring.ensures.value) ∙ problem_placed s c.args.mover sound side in
    c.ok.ensures.value
    ∙ ap result_ok (c.new.ensures
    ∙ ap₂ (λ (h : List (List Cell)) (p : ℕ). problem_of h c.unwrap_or-place.result c.args.mover p s.targets s.region) (c.in_ok-history.ensures ∙ c.seen.ensures) c.passes-passes.ensures.value
    ∙ ap (λ (k : ℕ). problem_of m.history k c.args.mover m.passes s.targets s.region) place)
    ∙ sym (problem_is s c.args.mover sound side)

pub returns-clause-value : goal.returns-clause-value
unfolding seen
returns-clause-value c = subst (λ (v : GtpSession). c.ok.result ≡ problem_at v c.args.mover) c.self.view_is (made c)

pub returns-clause-size : goal.returns-clause-size
unfolding seen
returns-clause-size c =
    subst (λ (v : GtpSession). IfSome c.ok.result (λ p. p.game.size ≡ v.turns.size)) c.self.view_is
    (subst (λ o. IfSome o (λ p. p.game.size ≡ (seen c).turns.size)) (sym (made c)) (problem_size (seen c) c.args.mover))
