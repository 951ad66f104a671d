-- A set of colourings that keeps their order, as a history without repeats.
use Rattle.go_turns.proofs.Common.{◌≡◌, ℕ, ◌+◌, ◌-◌, ◌<◌, true, false, inl, inr, subst, List, [], ◌∷◌, ◌++◌, take, length, length-append, Option, Some, None, if◌then◌else◌, sym, ◌∙◌, ap, ap₂, arith, list_any, position_or_len, IsSome, Cell, same_cells, true_or_false, place_in, repeats}
use Rattle.std.specs.Option.{option_to_list}
use Rattle.std.proofs.Math.Seq.{take-append_seam}
use Rattle.go_turns.specs.History.{IsJoined}
use Rattle.go_turns.proofs.Repeats.{no_element, no_position, some_position, once_more, once_in_front}

-- a new colouring goes last
pub goes_last : (h : List (List Cell)) (c : List Cell) → place_in h c ≡ None → (if list_any (same_cells c) h then h else h ++ c ∷ []) ≡ h ++ c ∷ []
goes_last h c fresh = ap (λ b. if b then h else h ++ c ∷ []) (no_element (same_cells c) h fresh)

-- what the last colouring leaves
left_over : (r : Option (List Cell)) (old new : List (List Cell)) → old ≡ new ++ option_to_list r → IsSome r → new ≡ take (length old - 1) old
left_over None old new whole none = absurd (cc none)
left_over (Some c) old new whole some =
    let long : length old ≡ length new + 1 = ap length whole ∙ length-append new (c ∷ []) in
    let short : length old - 1 ≡ length new = omega (arith, long) in
    sym (take-append_seam new (c ∷ [])) ∙ ap₂ take (sym short) (sym whole)

pub popped : (r : Option (List Cell)) (old new h : List (List Cell)) → old ≡ h → 0 < length h → (0 < length old → IsSome r) → old ≡ new ++ option_to_list r → new ≡ take (length old - 1) old
popped r old new h same some found whole =
    let long : length old ≡ length h = ap length same in
    left_over r old new whole (found (omega (arith, some, long)))

pub not_popped : (r : Option (List Cell)) → r ≡ None → IsSome r → ⊥
not_popped None none some = absurd (cc some)
not_popped (Some c) none some = absurd (cc none)

pub rest_is_once : (old new : List (List Cell)) (k : ℕ) → new ≡ take k old → repeats old ≡ false → repeats new ≡ false
rest_is_once old new k front once = ap repeats front ∙ once_in_front old k once

-- a colouring that is looked for and added at once
pub stood : (h : List (List Cell)) (c : List Cell) → list_any (same_cells c) h ≡ true → place_in h c ≡ Some (position_or_len (same_cells c) h)
stood h c some = some_position (same_cells c) h some

pub joins_last : (h new : List (List Cell)) (c : List Cell) → list_any (same_cells c) h ≡ false → new ≡ (if list_any (same_cells c) h then h else h ++ c ∷ []) → IsJoined (place_in h c) h c new
joins_last h new c none now = subst (λ r. IsJoined r h c new) (sym (no_position (same_cells c) h none)) (now ∙ ap (λ b. if b then h else h ++ c ∷ []) none)

pub still_once : (h new : List (List Cell)) (c : List Cell) → repeats h ≡ false → new ≡ (if list_any (same_cells c) h then h else h ++ c ∷ []) → repeats new ≡ false
still_once h new c once now = elim (true_or_false (list_any (same_cells c) h)) [
  | inl some ↦ ap repeats (now ∙ ap (λ b. if b then h else h ++ c ∷ []) some) ∙ once
  | inr none ↦ ap repeats (now ∙ ap (λ b. if b then h else h ++ c ∷ []) none) ∙ once_more h c once (no_position (same_cells c) h none)
]
