-- Positions that are reached turn by turn.
use Rattle.first_moves.proofs.Common.{◌≡◌, List, [], ◌∷◌, ◌++◌, Option, Some, Result, Ok, Err, IfSome, refl, sym, subst, Turn, ply_of, GameProblem, Later, Position, AreAlong, IsReached, IsPosition, IsNext}
use Rattle.std.proofs.Common.{None, IfOk}
use Rattle.first_moves.specs.Judged.{IsProblemAfter}

reached_more : (q : GameProblem) (turns : List Turn) (t : Turn) (m r : GameProblem)
    → IsReached q turns m → IsProblemAfter m (ply_of m.game.size t) r → IsReached q (turns ++ t ∷ []) r
reached_more q [] t m r is after = (r, subst (λ (p : GameProblem). IsProblemAfter p (ply_of p.game.size t) r) is after, refl)
reached_more q (u ∷ turns) t m r is after = (is.0, is.1, reached_more is.0 turns t m r is.2 after)

-- One turn more.
pub next_reached : (q : GameProblem) (p : Position) (t : Turn) (next : Position)
    → IsPosition q p → IsNext p t next → IsPosition q next
next_reached q p t next is more = subst (λ (ts : List Turn). IsReached q ts next.problem) (sym more.0) (reached_more q p.turns.items t p.problem next.problem is more.1)

-- The turns of the last of these positions, and of none after them.
abbrev pub last_turns : List Turn → List Later → List Turn
last_turns before [] = before
last_turns before (l ∷ later) = last_turns l.position.turns.items later

pub along_more : (before : List Turn) (later : List Later) (l : Later) (t reply : Turn) → AreAlong before later
    → l.position.turns.items ≡ (last_turns before later ++ t ∷ []) ++ reply ∷ [] → AreAlong before (later ++ l ∷ [])
along_more before [] l t reply is e = (t, reply, e, tt)
along_more before (k ∷ later) l t reply is e = (is.0, is.1, is.2, along_more k.position.turns.items later l t reply is.3 e)

pub last_more : (before : List Turn) (later : List Later) (l : Later) → last_turns before (later ++ l ∷ []) ≡ l.position.turns.items
last_more before [] l = refl
last_more before (k ∷ later) l = last_more k.position.turns.items later l

-- What is said of a value that a call may have made follows from something else that is said of it.
pub made_weaker : {X E : Type 0} (P Q : X → Type 0) (r : Result (Option X) E) → ((x : X) → P x → Q x)
    → IfOk r (λ m. IfSome m P) → IfOk r (λ m. IfSome m Q)
made_weaker P Q (Ok (Some x)) more had = more x had
made_weaker P Q (Ok None) more had = tt
made_weaker P Q (Err e) more had = tt
