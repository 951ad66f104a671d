-- What is known at a state, by the list that a body keeps of it.
use Rattle.cert_check.proofs.Common.{◌≡◌, ℕ, zero, suc, ◌+◌, ◌-◌, ◌<◌, ◌≤◌, arith, take, drop, Bool, true, false, not, ◌&&◌, ◌||◌, List, [], ◌∷◌, ◌++◌, length, reverse, filter, cond, slice_index_or, refl, sym, ap, ap₂, ◌∙◌, subst, list_all, reverse-append, Colour, Cell, same_cells, same_cells_eq, same_cells_symm, Ply, pass, move, has_occurred, Game, GameState, GameProblem, start, state_alone, state_with, next, is_known, Ascends, apart, is_it, SameMembers, AreKnown, HasStart, IsKept, or_left}
use Rattle.std.proofs.Common.{slice_get}
use Rattle.std.proofs.lemmas.List.{take-append-drop, take-append-le, length-append, length-drop}
use Rattle.std.proofs.lemmas.List.Folds.{list_all-append, list_any-append, list_any_at}
use Rattle.std.proofs.Math.Seq.{take-append_seam, take-length}
use Rattle.go_points.specs.Equal.{same_cells_refl}
use Rattle.target_game.specs.State as State
use Rattle.cert_check.specs.Private.Known.{IsKnownAt}
use Rattle.cert_check.proofs.Apart.{apart_turned}
use Rattle.go_points.proofs.Lists.{or_right}
use Rattle.std.proofs.Math.Bool.{or_self_left, or-false}
use Rattle.go_points.proofs.Membership.{or_swap as swap_first}

or_swap : (a b : Bool) → (a || b) ≡ (b || a)
or_swap true true = refl
or_swap true false = refl
or_swap false true = refl
or_swap false false = refl

or_known : (a b : Bool) → (a ≡ true → b ≡ true) → (a || b) ≡ b
or_known true b h = sym (h refl)
or_known false b h = refl

-- a list turned round holds the same
pub turned : (cs : List (List Cell)) → SameMembers (reverse cs) cs
turned [] c = refl
turned (d ∷ cs) c =
    ap (λ ds. has_occurred ds c) (reverse-append (d ∷ []) cs)
    ∙ list_any-append (same_cells c) (reverse cs) (d ∷ [])
    ∙ or_swap (has_occurred (reverse cs) c) (has_occurred (d ∷ []) c)
    ∙ ap₂ (λ a b. a || b) (or-false (same_cells c d)) (turned cs c)

-- WHERE A BODY BEGINS

pub start_kept : (q : GameProblem) (cs : List (List Cell)) (l : State.Line) → l ≡ record { state = start q; before = [] } → q.place < length q.history → SameMembers cs q.history → Ascends cs → IsKept cs (length cs) l
start_kept q cs l is low same up = subst (IsKept cs (length cs)) (sym is) (
  record {
    same = λ c. turned cs c ∙ same c;
    present = list_any_at (same_cells (slice_index_or q.history q.place [])) q.history q.place [] low (same_cells_refl (slice_index_or q.history q.place []));
  },
  record { ascends = subst Ascends (sym (take-length cs)) up; room = omega arith },
)

pub alone_kept : (g : Game) (root : List Cell) (mover : Colour) (passes : ℕ) (cs : List (List Cell)) (l : State.Line) → l ≡ record { state = state_alone g root mover passes; before = [] } → cs ≡ root ∷ [] → IsKept cs 0 l
alone_kept g root mover passes cs l is one = subst (IsKept cs 0) (sym is) (subst (λ ds. IsKept ds 0 (record { state = state_alone g root mover passes; before = [] })) (sym one) (
  record { same = λ c. refl; present = or_left (same_cells root root) false (same_cells_refl root) },
  record { ascends = tt; room = omega arith },
))

-- the others that differ from the root, beside it
beside : (root : List Cell) (others : List (List Cell)) (c : List Cell) → has_occurred (root ∷ filter (λ d. not (same_cells root d)) others) c ≡ has_occurred (root ∷ others) c
beside root [] c = refl
beside root (d ∷ others) c = at (same_cells root d) refl (beside root others c)
  where
    at : (b : Bool) → same_cells root d ≡ b → has_occurred (root ∷ filter (λ x. not (same_cells root x)) others) c ≡ has_occurred (root ∷ others) c
        → has_occurred (root ∷ cond (not b) (d ∷ filter (λ x. not (same_cells root x)) others) (filter (λ x. not (same_cells root x)) others)) c ≡ has_occurred (root ∷ d ∷ others) c
    at true e h = h ∙ sym (or_self_left (same_cells c root) (has_occurred others c)) ∙ ap (λ x. same_cells c root || (same_cells c x || has_occurred others c)) (same_cells_eq root d e)
    at false e h =
        swap_first (same_cells c root) (same_cells c d) (has_occurred (filter (λ x. not (same_cells root x)) others) c)
        ∙ ap (λ b. same_cells c d || b) h
        ∙ swap_first (same_cells c d) (same_cells c root) (has_occurred others c)

pub with_kept : (g : Game) (root : List Cell) (others known : List (List Cell)) (mover : Colour) (passes : ℕ) (l : State.Line) → l ≡ record { state = state_with g root others mover passes; before = [] } → known ≡ others ++ root ∷ [] → Ascends others → IsKept known (length others) l
with_kept g root others known mover passes l here is up = subst (IsKept known (length others)) (sym here) (
  record {
    same = λ c.
        turned known c ∙ ap (λ ds. has_occurred ds c) is
        ∙ list_any-append (same_cells c) others (root ∷ [])
        ∙ or_swap (has_occurred others c) (has_occurred (root ∷ []) c)
        ∙ ap (λ b. b || has_occurred others c) (or-false (same_cells c root))
        ∙ sym (beside root others c);
    present = or_left (same_cells root root) _ (same_cells_refl root);
  },
  record {
    ascends = subst Ascends (sym (ap (take (length others)) is ∙ take-append_seam others (root ∷ []))) up;
    room = omega (arith, ap length is, length-append others (root ∷ []));
  },
)

-- ONE TURN MORE

at_once : (cs : List (List Cell)) (s : GameState) (before : List GameState) → AreKnown cs s before → IsKnownAt cs s
at_once cs s [] h = h
at_once [] s (p ∷ before) h = absurd h
at_once (c ∷ cs) s (p ∷ before) h = h.0

known_next : (cs : List (List Cell)) (s : GameState) (t : Ply) → IsKnownAt cs s → IsKnownAt ((next s t).colouring ∷ cs) (next s t)
known_next cs s pass h = record {
  same = λ c. ap (λ b. same_cells c s.colouring || b) (h.same c)
      ∙ or_known (same_cells c s.colouring) (has_occurred s.history c) (λ e. ap (has_occurred s.history) (same_cells_eq c s.colouring e) ∙ h.present);
  present = h.present;
}
known_next cs s (move p) h =
    let new : List Cell = (next s (move p)).colouring in
    record {
      same = λ c. ap (λ b. same_cells c new || b) (h.same c)
          ∙ or_swap (same_cells c new) (has_occurred s.history c)
          ∙ ap (λ b. has_occurred s.history c || b) (sym (or-false (same_cells c new)))
          ∙ sym (list_any-append (same_cells c) s.history (new ∷ []));
      present = list_any-append (same_cells new) s.history (new ∷ [])
          ∙ or_swap (has_occurred s.history new) (has_occurred (new ∷ []) new)
          ∙ or_left (has_occurred (new ∷ []) new) (has_occurred s.history new) (or_left (same_cells new new) false (same_cells_refl new));
    }

pub one_kept_more : (known more : List (List Cell)) (fixed : ℕ) (l m : State.Line) (t : Ply) (c : List Cell) → m ≡ record { state = next l.state t; before = l.state ∷ l.before } → c ≡ m.state.colouring → more ≡ known ++ c ∷ [] → IsKept known fixed l → IsKept more fixed m
one_kept_more known more fixed l m t c made result is h =
    let present : c ≡ (next l.state t).colouring = result ∙ ap (λ (k : State.Line). k.state.colouring) made in
    let pushed : more ≡ known ++ (next l.state t).colouring ∷ [] = is ∙ ap (λ d. known ++ d ∷ []) present in
    subst (IsKept more fixed) (sym made) (
      subst (λ cs. AreKnown cs (next l.state t) (l.state ∷ l.before)) (sym (ap reverse pushed ∙ reverse-append known ((next l.state t).colouring ∷ []))) (known_next (reverse known) l.state t (at_once (reverse known) l.state l.before h.0), h.0),
      record {
        ascends = subst Ascends (sym (ap (take fixed) is ∙ take-append-le fixed known (c ∷ []) (omega (arith, h.1.room)))) h.1.ascends;
        room = omega (arith, h.1.room, ap length is, length-append known (c ∷ []));
      },
    )

pub start_less : (known less : List (List Cell)) (c : List Cell) (fixed turns : ℕ) → known ≡ less ++ c ∷ [] → HasStart known fixed (suc turns) → HasStart less fixed turns
start_less known less c fixed turns is h =
    let room : fixed + turns ≤ length less = omega (arith, h.room, ap length is, length-append less (c ∷ [])) in
    record {
      ascends = subst Ascends (ap (take fixed) is ∙ take-append-le fixed less (c ∷ []) (omega (arith, room))) h.ascends;
      room = room;
    }

-- NONE IS KNOWN

same_apart : (cs h ys : List (List Cell)) → SameMembers cs h → apart ys cs ≡ apart ys h
same_apart cs h [] same = refl
same_apart cs h (y ∷ ys) same = ap₂ (λ a b. not a && b) (same y) (same_apart cs h ys same)

none_of_known : (known list : List (List Cell)) (s : GameState) (before : List GameState) → AreKnown (reverse known) s before → apart known list ≡ list_all (λ c. not (is_known s c)) list
none_of_known known list s before h =
    apart_turned known list ∙ same_apart known s.history list (λ c. sym (turned known c) ∙ (at_once (reverse known) s before h).same c)

-- the front and the rest
pub rest_whole : (fixed : ℕ) (known : List (List Cell)) → take (length known - fixed) (drop fixed known) ≡ drop fixed known
rest_whole fixed known = ap (λ n. take n (drop fixed known)) (sym (length-drop fixed known)) ∙ take-length (drop fixed known)

pub none_of_both : (fixed : ℕ) (whole known list : List (List Cell)) (l m : State.Line) (front : Bool) → whole ≡ known → l ≡ m → front ≡ apart (take fixed whole) list → IsKept known fixed l → (front && apart (drop fixed whole) list) ≡ list_all (λ c. not (is_known m.state c)) list
none_of_both fixed whole known list l m front same here is h =
    ap (λ b. b && apart (drop fixed whole) list) is
    ∙ sym (list_all-append (λ x. not (has_occurred list x)) (take fixed whole) (drop fixed whole)) ∙ ap (λ ds. apart ds list) (take-append-drop fixed whole ∙ same)
    ∙ none_of_known known list l.state l.before h.0
    ∙ ap (λ (k : State.Line). list_all (λ c. not (is_known k.state c)) list) here

-- what stands on the list is known
pub known_at : (known : List (List Cell)) (k : ℕ) (c : List Cell) (s : GameState) (before : List GameState) → AreKnown (reverse known) s before → is_it (slice_get known k) c ≡ true → is_known s c ≡ true
known_at known k c s before h e = sym ((at_once (reverse known) s before h).same c) ∙ turned known c ∙ stands known k e
  where
    stands : (ds : List (List Cell)) (i : ℕ) → is_it (slice_get ds i) c ≡ true → has_occurred ds c ≡ true
    stands [] zero f = absurd (cc)
    stands [] (suc i) f = absurd (cc)
    stands (d ∷ ds) zero f = or_left (same_cells c d) (has_occurred ds c) (same_cells_symm c d ∙ f)
    stands (d ∷ ds) (suc i) f = or_right (same_cells c d) (has_occurred ds c) (stands ds i f)
