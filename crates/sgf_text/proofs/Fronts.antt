-- The front of a text decides what is read of it.
use Rattle.sgf_text.proofs.Common.{◌≡◌, ℕ, ◌<◌, List, ◌++◌, length, take, sym, ap, ◌∙◌, arith, length-append, GameTree, tree_place, Reads, outcome_of, outcome_in, cut_fault, byte_limit, TooLong, Syntax}
use Rattle.std.proofs.Common.{append_assoc, lt-ltb, if◌then◌else◌}
use Rattle.std.proofs.lemmas.List.{take-append-le}
use Rattle.sgf_text.specs.Laws.{FrontsDecide}
use Rattle.sgf_text.proofs.Readings.{place_grow}

reads_more : (front rest : List ℕ) (tree : GameTree) (n : ℕ) → Reads front tree n → Reads (front ++ rest) tree n
reads_more front rest tree n (header, spelling, left, spelled, is, place, spells, joined, end) =
    (header, spelling, left ++ rest, spelled, ap (λ t. t ++ rest) is ∙ append_assoc (header ++ spelling) left rest, place_grow front rest (length header) place, spells, joined, end)

outcome_more : (front rest : List ℕ) → byte_limit < length front → outcome_of (front ++ rest) ≡ outcome_of front
outcome_more front rest long =
    let whole = length-append front rest in
    let far : byte_limit < length (front ++ rest) = omega (arith, whole, long) in
    let cut : cut_fault (front ++ rest) ≡ cut_fault front =
    ap (λ t. if t then TooLong else Syntax (length (front ++ rest))) (lt-ltb byte_limit (length (front ++ rest)) far) ∙ sym (ap (λ t. if t then TooLong else Syntax (length front)) (lt-ltb byte_limit (length front) long)) in
    let seen : take byte_limit (front ++ rest) ≡ take byte_limit front = take-append-le byte_limit front rest (omega (arith, long)) in
    ap (λ x. outcome_in x (take byte_limit (front ++ rest)) (tree_place (take byte_limit (front ++ rest)))) cut
    ∙ ap (λ t. outcome_in (cut_fault front) t (tree_place t)) seen

pub fronts_decide : FrontsDecide
fronts_decide = record { reads = reads_more; outcome = outcome_more }
