use Rattle.gtp_core.proofs.Common.{rules, ◌≡◌, ◌≤◌, ◌*◌, ◌∷◌, ◌∙◌, [], List, None, replicate, sym, ap, subst, Cell, Empty, side_of, first_without_liberty, opened, Opens}
use Rattle.gtp_core.proofs.Orders.{record_is, whole_is}
use Rattle.gtp_core.proofs.Sound.{SoundOn, new_record_sound, new_session_sound, somewhere_of}
use Rattle.gtp_core.proofs.session.with_board.Goals as goal

pub returns-in-Ok : goal.returns-in-Ok
returns-in-Ok c =
    let n = c.args.size in
    let made : List Cell = c.colouring-colouring.result in
    let size : side_of made ≡ n = ap side_of c.colouring-colouring.ensures.value ∙ c.new.ensures.size in
    let free : first_without_liberty n made ≡ None = subst (λ (x : List Cell). first_without_liberty n x ≡ None) (sym c.colouring-colouring.ensures.value) (subst (λ m. first_without_liberty m c.new.result ≡ None) c.new.ensures.size c.colouring-colouring.ensures.liberties) in
    let turns = record_is n (side_of made) made c.in-Ok.turns size (c.colouring-colouring.ensures.value ∙ c.new.ensures.value) free (subst (λ r. Opens (side_of made) (opened (side_of made) (made ∷ []) 0 0) r) c.in-Ok.is c.new-2.ensures) in
    let region = whole_is n c.all_points.result c.all_points.ensures.value c.all_points.ensures.on_board in
    λ i. record { turns = turns i; targets = c.new-in-Ok.ensures i; region = region i }

pub invariant_of-result : goal.invariant_of-result
invariant_of-result c =
    let n = c.args.size in
    let made : List Cell = c.colouring-colouring.result in
    let size : side_of made ≡ n = ap side_of c.colouring-colouring.ensures.value ∙ c.new.ensures.size in
    let free : first_without_liberty n made ≡ None = subst (λ (x : List Cell). first_without_liberty n x ≡ None) (sym c.colouring-colouring.ensures.value) (subst (λ m. first_without_liberty m c.new.result ≡ None) c.new.ensures.size c.colouring-colouring.ensures.liberties) in
    let is : made ≡ replicate (n * n) Empty = c.colouring-colouring.ensures.value ∙ c.new.ensures.value in
    let turns = record_is n (side_of made) made c.in-Ok.turns size is free (subst (λ r. Opens (side_of made) (opened (side_of made) (made ∷ []) 0 0) r) c.in-Ok.is c.new-2.ensures) in
    let low : 1 ≤ n = search rules in
    (new_session_sound n c.in-Ok.turns c.new-in-Ok.result c.all_points.result (subst (SoundOn n) (sym turns) (new_record_sound n)) c.new-in-Ok.ensures c.all_points.ensures.on_board (somewhere_of n c.all_points.result low c.all_points.ensures.value), tt)
