-- A line of a body, as the machine takes it, by what the program found.
use Rattle.cert_check.proofs.Common.{◌≡◌, ℕ, suc, ◌+◌, Bool, true, false, List, [], ◌∷◌, Option, Some, None, IsTrue, refl, sym, ap, ◌∙◌, arith, option_map, length, nat_lt, nat_le, ◌&&◌, ply_of, Cell, Turn, Game, GameState, legal, Head, max_nodes, max_depth, NodeLine, Won, Body, Why, limit, replies_differ, ask, reply_fault, why_value, Machine, Heading, Phase, goes_on, stops, goes_if, Owed, body_of, counted, node_taken, node_value, Inside, Follows, phase_of, node_fault, node_next}
use Rattle.std.specs.Prelude.{reverse}
use Rattle.std.proofs.lemmas.List.{length-reverse}
use Rattle.target_game.specs.declared.turns_left.TurnsLeft.{TurnsLeft}
use Rattle.cert_check.specs.declared.reject.Why as code
use Rattle.cert_check.proofs.Due.{turns_apart, legal_fits}

-- another turn than the one that is due
pub reply_refused : (s : GameState) (due given : Turn) → IsTrue (legal s (ply_of s.game.size due)) → (given ≡ due → ⊥)
    → (p : Why) → Some (replies_differ (ply_of s.game.size due)) ≡ Some p → reply_fault (ply_of s.game.size due) (ply_of s.game.size given) ≡ Some p
reply_refused s due given fine other p said =
    ap (λ b. ask b (replies_differ (ply_of s.game.size due)) None) (turns_apart s.game.size due given (legal_fits s (ply_of s.game.size due) fine) other) ∙ said

-- a fault of the program is the fault of the definitions
pub fault_said : (n : ℕ) (f : Option code.Why) (why : code.Why) (o : Option Why) → option_map (why_value n) f ≡ option_map Some o → f ≡ Some why → (p : Why) → why_value n why ≡ Some p → o ≡ Some p
fault_said n f why o same is p said = at o (sym same ∙ ap (option_map (why_value n)) is)
  where
    at : (o : Option Why) → option_map Some o ≡ Some (why_value n why) → o ≡ Some p
    at None e = absurd (cc)
    at (Some w) e = ap unwrapped e ∙ said
      where
        unwrapped : Option (Option Why) → Option Why
        unwrapped None = None
        unwrapped (Some x) = x

-- a node's line, by its questions and what is due after it
pub node_taken_is : (shape : List Cell → Bool) (m : Machine) (f : Heading) (inside : Option Head) (d : ℕ) (s : GameState) (os : List Owed) (n : ℕ) (k : NodeLine)
    → node_taken shape m f inside d s os (node_value n k) ≡ counted m d (node_fault (body_of shape f inside) s (node_value n k)) (phase_of f inside (node_next d s os (node_value n k)))
node_taken_is shape m f inside d s os n Won = refl
node_taken_is shape m f inside d s os n _ = refl

-- there are as many open nodes as turns that were made
pub follows_length : (g : Game) (before : List GameState) (ns : List TurnsLeft) → Follows g before ns → length before ≡ length ns
follows_length g [] [] h = refl
follows_length g [] (n ∷ ns) h = absurd h
follows_length g (s ∷ before) [] h = absurd h
follows_length g (s ∷ before) (n ∷ ns) h = ap suc (follows_length g before ns h.2)

-- the count of a node: there is room and no fault, there is a fault, or there is no room
pub counted_on : (m : Machine) (d : ℕ) (o : Option Why) (p : Phase) → (nat_lt m.nodes max_nodes && nat_le d max_depth) ≡ true → o ≡ None → counted m d o p ≡ goes_on (record m { phase = p; place = suc m.place; nodes = suc m.nodes })
counted_on m d o p room none = ap (λ b. goes_if m.place (ask b limit o) (record m { phase = p; place = suc m.place; nodes = suc m.nodes })) room ∙ ap (λ f. goes_if m.place f (record m { phase = p; place = suc m.place; nodes = suc m.nodes })) none

pub counted_off : (m : Machine) (d : ℕ) (o : Option Why) (w : Why) (p : Phase) → (nat_lt m.nodes max_nodes && nat_le d max_depth) ≡ true → o ≡ Some w → counted m d o p ≡ stops m.place w
counted_off m d o w p room some = ap (λ b. goes_if m.place (ask b limit o) (record m { phase = p; place = suc m.place; nodes = suc m.nodes })) room ∙ ap (λ f. goes_if m.place f (record m { phase = p; place = suc m.place; nodes = suc m.nodes })) some

pub counted_full : (m : Machine) (d : ℕ) (o : Option Why) (p : Phase) → (nat_lt m.nodes max_nodes && nat_le d max_depth) ≡ false → counted m d o p ≡ stops m.place limit
counted_full m d o p full = ap (λ b. goes_if m.place (ask b limit o) (record m { phase = p; place = suc m.place; nodes = suc m.nodes })) full

-- a node's line, as the machine takes it, by what the program found
module _ (shape : List Cell → Bool) (m : Machine) (f : Heading) (inside : Option Head) (d : ℕ) (s : GameState) (os : List Owed) (n : ℕ) (k : NodeLine) (b : Body) (is : body_of shape f inside ≡ b) where
  pub line_on : (i : Inside) → (nat_lt m.nodes max_nodes && nat_le d max_depth) ≡ true → node_fault b s (node_value n k) ≡ None → i ≡ node_next d s os (node_value n k)
      → node_taken shape m f inside d s os (node_value n k) ≡ goes_on (record m { phase = phase_of f inside i; place = suc m.place; nodes = suc m.nodes })
  line_on i room none next_is =
      node_taken_is shape m f inside d s os n k
      ∙ counted_on m d (node_fault (body_of shape f inside) s (node_value n k)) (phase_of f inside (node_next d s os (node_value n k))) room (ap (λ c. node_fault c s (node_value n k)) is ∙ none)
      ∙ ap (λ j. goes_on (record m { phase = phase_of f inside j; place = suc m.place; nodes = suc m.nodes })) (sym next_is)

  pub line_off : (w : Why) → (nat_lt m.nodes max_nodes && nat_le d max_depth) ≡ true → node_fault b s (node_value n k) ≡ Some w → node_taken shape m f inside d s os (node_value n k) ≡ stops m.place w
  line_off w room some =
      node_taken_is shape m f inside d s os n k
      ∙ counted_off m d (node_fault (body_of shape f inside) s (node_value n k)) w (phase_of f inside (node_next d s os (node_value n k))) room (ap (λ c. node_fault c s (node_value n k)) is ∙ some)

  pub line_full : (nat_lt m.nodes max_nodes && nat_le d max_depth) ≡ false → node_taken shape m f inside d s os (node_value n k) ≡ stops m.place limit
  line_full full =
      node_taken_is shape m f inside d s os n k
      ∙ counted_full m d (node_fault (body_of shape f inside) s (node_value n k)) (phase_of f inside (node_next d s os (node_value n k))) full

-- the program's test of the limits is the machine's
pub room_is : (g : Game) (before : List GameState) (ns : List TurnsLeft) (n count : ℕ) (m : Machine) (b : Bool) → Follows g before (reverse ns) → n ≡ length ns → m.nodes ≡ count → b ≡ (nat_lt count max_nodes && nat_le (n + 1) max_depth)
    → (nat_lt m.nodes max_nodes && nat_le (suc (length before)) max_depth) ≡ b
room_is g before ns n count m b h long same is =
    let e : length before ≡ length ns = follows_length g before (reverse ns) h ∙ length-reverse ns in
    let deep : suc (length before) ≡ n + 1 = omega (arith, e, long) in
    ap (λ z. nat_lt z max_nodes && nat_le (suc (length before)) max_depth) same ∙ ap (λ z. nat_lt count max_nodes && nat_le z max_depth) deep ∙ sym is

pub stops_said : (place : ℕ) (w p : Why) → Some w ≡ Some p → stops place w ≡ stops place p
stops_said place w p said = ap (λ o. stops place (elim o [ None ↦ w | Some x ↦ x ])) said
