use Rattle.tsumego_problem.proofs.Common.{◌≡◌, ◌∷◌, [], Ok, Err, None, Some, map, length, sym, ◌∙◌, ap, subst, Black, Empty, points, first_without_liberty, opened, Opens, assigned, history_limit}
use Rattle.tsumego_problem.proofs.Opening.{no_stones, opened_walk, opened_history, opened_refused, first_refused}
use Rattle.tsumego_problem.proofs.Assigning.{length_assigned}
use Rattle.tsumego_problem.proofs.read.open.Goals as goal

pub returns-in-Ok-clause-ok : goal.returns-in-Ok-clause-ok
returns-in-Ok-clause-ok c =
    let n = c.args.size in let made = c.assigned-colouring.result in
    let is : made ≡ assigned n c.args.root.now (map (λ p. Empty) (points n)) = c.assigned-colouring.ensures.value ∙ ap (assigned n c.args.root.now) (c.colouring.ensures.value ∙ c.new-board.ensures.value ∙ no_stones n) in
    let opens : Opens n (opened n (made ∷ []) 0 0) (Ok c.in-Ok.played) = subst (λ r. Opens n (opened n (made ∷ []) 0 0) r) c.in-Ok.is (subst (λ m. Opens m (opened m (made ∷ []) 0 0) c.new.result) c.assigned-colouring.ensures.size c.new.ensures) in
    (opened_walk n made c.in-Ok.played opens).0
    ∙ ap (λ x. record { history = x ∷ []; present = x; mover = Black; passes = 0 }) is

pub returns-in-None-clause-refused : goal.returns-in-None-clause-refused
returns-in-None-clause-refused c other =
    let n = c.args.size in let made = c.assigned-colouring.result in let root = c.args.root.now in
    let bare = c.colouring.ensures.value ∙ c.new-board.ensures.value ∙ no_stones n in
    let is : made ≡ assigned n root (map (λ p. Empty) (points n)) = c.assigned-colouring.ensures.value ∙ ap (assigned n root) bare in
    let opens : Opens n (opened n (made ∷ []) 0 0) c.new.result = subst (λ m. Opens m (opened m (made ∷ []) 0 0) c.new.result) c.assigned-colouring.ensures.size c.new.ensures in
    let free = subst (λ m. first_without_liberty m c.new-board.result ≡ None) c.new-board.ensures.size c.colouring.ensures.liberties in
    first_refused (Some history_limit) n root made is
    (ap (first_without_liberty n) (sym bare) ∙ ap (first_without_liberty n) c.colouring.ensures.value ∙ free)
    (opened_refused n made c.in-Err-NoLiberty.field-0-0 (subst (λ r. Opens n (opened n (made ∷ []) 0 0) r) (c.in-Err-NoLiberty.is ∙ ap Err c.in-Err-NoLiberty.field-0-is) opens))
    (sym c.node_fault.ensures ∙ c.in-None.is)

pub returns-in-Ok-clause-history : goal.returns-in-Ok-clause-history
returns-in-Ok-clause-history c =
    let n = c.args.size in let made = c.assigned-colouring.result in
    let opens : Opens n (opened n (made ∷ []) 0 0) (Ok c.in-Ok.played) = subst (λ r. Opens n (opened n (made ∷ []) 0 0) r) c.in-Ok.is (subst (λ m. Opens m (opened m (made ∷ []) 0 0) c.new.result) c.assigned-colouring.ensures.size c.new.ensures) in
    opened_history n made c.in-Ok.played (ap length c.assigned-colouring.ensures.value ∙ length_assigned n c.args.root.now c.colouring.result) opens
