-- The history is cut to what the step keeps, and the colouring at its place is taken over.
use Rattle.go_turns.proofs.Common.{◌≡◌, ◌≤◌, ◌++◌, [], ◌∷◌, ℕ, List, length, map, reverse, take, None, Ok, sym, ap, ◌∙◌, subst, arith, Cell, side_of, first_without_liberty, Step, Moment, GameRecord, undo_of, DidWithoutMemory, CanStand, IsAt, StepsFit}
use Rattle.go_turns.proofs.Steps.{fit_pop, last_stands, last_few, below_last, earlier_split}
use Rattle.go_turns.proofs.Turns.{did_undo}
use Rattle.go_turns.proofs.record.Record.undo.Goals as goal

-- What is left of the history is what the step keeps, and it has the colouring at the step's place, which can be taken over.
record IsLeft (n : ℕ) (whole left : List (List Cell)) (step : Step) : Type 0 where
  front : left ≡ take step.occurred whole
  stands : CanStand n left step.place

left_over : (n : ℕ) (whole left : List (List Cell)) (all steps : List Step) (step : Step) (long : ℕ)
    → StepsFit (λ (s : Step). s.occurred) (λ s. s.place) (λ s. s.passes) n whole all → all ≡ steps ++ step ∷ []
    → left ≡ take (length left) whole → step.occurred ≤ length left → long ≡ length left → long ≤ step.occurred → IsLeft n whole left step
left_over n whole left all steps step long fit split is_front enough long_is ended =
    let cut : left ≡ take step.occurred whole = is_front ∙ ap (λ m. take m whole) (omega (arith, enough, long_is, ended)) in
    let stands = last_stands (λ (s : Step). s.occurred) (λ (s : Step). s.place) (λ (s : Step). s.passes) n whole steps step (rw split at fit) in
    record { front = cut; stands = rw cut stands }

size_back : (n : ℕ) (whole left : List (List Cell)) (step : Step) (c : List Cell) → IsLeft n whole left step → IsAt left step.place c → side_of c ≡ n
size_back n whole left step c is back = ap side_of (sym back.same) ∙ is.stands.size

free_back : (n : ℕ) (whole left : List (List Cell)) (step : Step) (c : List Cell) → IsLeft n whole left step → IsAt left step.place c → first_without_liberty (side_of c) c ≡ None
free_back n whole left step c is back =
    ap (λ m. first_without_liberty m c) (size_back n whole left step c is back) ∙ ap (first_without_liberty n) (sym back.same) ∙ is.stands.liberties

pub invariant_of-self-2 : goal.invariant_of-self-2
invariant_of-self-2 g c =
    let whole = g.S.Seen.content c.self.inside.seen in
    let left = g.S.Seen.content c.loop-self.self-inside.seen in
    let n = side_of (g.B.Board.content c.self.inside.board) in
    let steps = c.pop.new.self.items in
    let step = c.in-Some.step in
    let back = g.B.Board.content c.put_back.new.board in
    let occurred = λ (s : Step). s.occurred in
    let place = λ (s : Step). s.place in
    let passes = λ (s : Step). s.passes in
    let fit = rw c.in-Some.ensures.items at c.self.invariant.steps in
    let is = left_over n whole left c.self.inside.steps.items steps step c.len.result c.self.invariant.steps c.in-Some.ensures.items c.loop-self.invariant.front c.loop-self.invariant.enough c.len.ensures.value (omega (arith, c.loop-self-test.false)) in
    record {
      steps = rw (size_back n whole left step back is c.put_back.ensures, is.front, c.loop-self.invariant.steps) (fit_pop occurred place passes n whole steps step fit);
      here = c.put_back.ensures;
      liberties = free_back n whole left step back is c.put_back.ensures;
      few = rw c.loop-self.invariant.steps (last_few occurred place passes n whole steps step fit);
    }

pub returns : goal.returns
returns g c =
    let whole = g.S.Seen.content c.self.inside.seen in
    let left = g.S.Seen.content c.loop-self.self-inside.seen in
    let n = side_of (g.B.Board.content c.self.inside.board) in
    let all = c.self.inside.steps.items in
    let steps = c.pop.new.self.items in
    let step = c.in-Some.step in
    let moment : List (List Cell) → Step → Moment = λ h s. record { history = h; place = s.place; passes = s.passes; last_colour = s.last_colour } in
    let fit = rw c.in-Some.ensures.items at c.self.invariant.steps in
    let kept = left_over n whole left all steps step c.len.result c.self.invariant.steps c.in-Some.ensures.items c.loop-self.invariant.front c.loop-self.invariant.enough c.len.ensures.value (omega (arith, c.loop-self-test.false)) in
    let was : GameRecord = record {
      size = n;
      present = record { history = whole; place = c.self.inside.place; passes = c.self.inside.passes; last_colour = c.self.inside.last_colour };
      earlier = reverse (map (λ s. moment (take s.occurred whole) s) all);
    } in
    let is : GameRecord = record {
      size = side_of (g.B.Board.content c.put_back.new.board);
      present = moment left step;
      earlier = reverse (map (λ s. moment (take s.occurred left) s) c.loop-self.self-inside.steps.items);
    } in
    let split = earlier_split (λ s. s.occurred) moment whole left all steps step c.in-Some.ensures.items kept.front
    (below_last (λ (s : Step). s.occurred) (λ (s : Step). s.place) (λ (s : Step). s.passes) n whole steps step fit) in
    let earlier : was.earlier ≡ is.present ∷ is.earlier = split ∙ ap (λ ss. moment left step ∷ reverse (map (λ s. moment (take s.occurred left) s) ss)) (sym c.loop-self.invariant.steps) in
    let size : n ≡ is.size = sym (size_back n whole left step (g.B.Board.content c.put_back.new.board) kept c.put_back.ensures) in
    subst (λ (r : GameRecord). DidWithoutMemory (undo_of r) r (Ok tt) is) c.self.view_is (did_undo was is size earlier tt)
