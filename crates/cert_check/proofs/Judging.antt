-- What the judge does with a line, as the machine does it.
use Rattle.cert_check.proofs.Common.{◌≡◌, ℕ, suc, ◌+◌, ◌-◌, ◌*◌, ◌<◌, Bool, true, false, ◌&&◌, nat_lt, nat_le, List, [], ◌∷◌, ◌++◌, length, Option, Some, None, IfSome, refl, sym, ap, ap₂, ◌∙◌, subst, arith, lt-ltb, slice_get, Less, Cell, text_order, GameProblem, All-push, side_of-whole, Head, max_nodes, max_depth, max_listed, Line, had_line, not_line, won_line, use_line, play_line, all_line, had_of, not_of, Judge, NodeLine, Why, limit, list_order, ask, lemma_start, is_after, Machine, Heading, Phase, goes_on, stops, goes_if, last_of, listed_taken, listing_had, listing_not, had_taken, not_taken, body_of, node_taken, Inside, phase_of, owed_by, node_fault, node_next, head_of, node_value, machine_of, heading_of, phase_held, AwaitsNode, answering, had_more, listed_more, Ascends}
use Rattle.std.specs.Prelude.{reverse}
use Rattle.target_game.specs.State as State
use Rattle.std.specs.List.{All}
use Rattle.go_points.specs.Grid.{side_of}
use Rattle.cert_check.specs.declared.judge.Phase.TheVariants.{ListingHad, Listing, Body}
use Rattle.cert_check.specs.declared.judge.Within.{Within}
use Rattle.cert_check.specs.declared.judge.Within.TheVariants.{Lemma, Main}
use Rattle.cert_check.specs.declared.open_nodes.Due.{Due}
use Rattle.cert_check.specs.declared.open_nodes.Due.TheVariants.{Node}
use Rattle.cert_check.specs.Parts.{had_line_of, listed_line, node_line}
use Rattle.cert_check.specs.Private.Judging.{GoesOn, IsBehind, lemma_of, within_of, inside_now, IsBehindFor, AwaitsHad, AwaitsList, had_here, list_here, node_here}
use Rattle.cert_check.proofs.Ascending.{ascends_more, is_less}
use Rattle.cert_check.proofs.Lists.{before_is}
use Rattle.cert_check.proofs.Reading.{last_pushed}
use Rattle.cert_check.proofs.Replies.{line_on, line_off, line_full, room_is, stops_said}

-- LISTS

pub last_get : (cs : List (List Cell)) → slice_get cs (length cs - 1) ≡ last_of cs
last_get [] = refl
last_get (c ∷ []) = refl
last_get (c ∷ d ∷ cs) = ap (slice_get (c ∷ d ∷ cs)) (let e : length (c ∷ d ∷ cs) - 1 ≡ suc (length (d ∷ cs) - 1) = omega arith in e) ∙ last_get (d ∷ cs)

listed_none : (l : Line) → listed_line l ≡ None → not_of (Some l) ≡ None
listed_none (not_line c) e = absurd (cc)
listed_none _ e = refl

-- a line that is no colouring begins the body
pub first_line : (alive : Bool) (j : Judge) (l : Line) → AwaitsList j → listed_line l ≡ None → list_here alive j l ≡ node_here alive j Lemma l
first_line alive j l h none =
    ap (λ o. not_taken (answering alive) j.problem.now (machine_of j) (heading_of j) (lemma_of j) (Some l) o) (listed_none l none)
    ∙ ap (λ ns. node_taken (answering alive) (machine_of j) (heading_of j) (Some (lemma_of j)) 1 (lemma_start j.problem.now.game (lemma_of j)) (owed_by [] (reverse ns)) l) (sym h.closed)
    ∙ ap (λ (st : State.Line). node_taken (answering alive) (machine_of j) (heading_of j) (Some (lemma_of j)) (suc (length st.before)) st.state (owed_by st.before (reverse j.open_nodes.items)) l) (sym h.state)

had_none : (l : Line) → had_line_of l ≡ None → had_of (Some l) ≡ None
had_none (had_line c) e = absurd (cc)
had_none _ e = refl

-- what a line makes of the machine does not depend on which list was due
module _ (shape : List Cell → Bool) (q : GameProblem) (f : Heading) (h : Head) (p r : Phase) (place nodes listed : ℕ) where
  abbrev m : Machine
  m = record { phase = p; place = place; nodes = nodes; listed = listed }

  abbrev n : Machine
  n = record { phase = r; place = place; nodes = nodes; listed = listed }

  node_same : (l : Line) → node_taken shape m f (Some h) 1 (lemma_start q.game h) [] l ≡ node_taken shape n f (Some h) 1 (lemma_start q.game h) [] l
  node_same won_line = refl
  node_same _ = refl

  not_same : (l : Line) (o : Option (List Cell)) → not_taken shape q m f h (Some l) o ≡ not_taken shape q n f h (Some l) o
  not_same l None = node_same l
  not_same l (Some c) = refl

-- a line that is no colouring that must have occurred is one of the other list, or begins the body
pub behind_had : (alive : Bool) (j v : Judge) (l : Line) → had_line_of l ≡ None → v ≡ record j { state = v.state; phase = v.phase } → had_here alive j l ≡ list_here alive v l
behind_had alive j v l none rest =
    ap (λ o. had_taken (answering alive) j.problem.now (machine_of j) (heading_of j) (lemma_of j) (Some l) o) (had_none l none)
    ∙ not_same (answering alive) j.problem.now (heading_of j) (lemma_of j) (phase_held j j.phase) (phase_held (record j { state = v.state; phase = v.phase }) v.phase) j.place j.node_count j.listed_count l (not_of (Some l))
    ∙ sym (ap (λ (x : Judge). list_here alive x l) rest)

-- a line of a list, by its questions: `o` is the last colouring, and `r` whether this one is after it
module _ (m : Machine) (cs : List (List Cell)) (c : List Cell) (p : Phase) {o : Option (List Cell)} {r : Bool} (last : o ≡ slice_get cs (length cs - 1)) (asked : r ≡ is_after o c) (few : m.listed < max_listed) where
  by_last : (b : Bool) → r ≡ b → listed_taken m (last_of cs) c p ≡ goes_if m.place (ask b list_order None) (record m { phase = p; place = suc m.place; listed = suc m.listed })
  by_last b is =
      let room : nat_lt m.listed max_listed ≡ true = lt-ltb m.listed max_listed few in
      let after : is_after (last_of cs) c ≡ b = ap (λ (d : Option (List Cell)). is_after d c) (sym (last ∙ last_get cs)) ∙ sym asked ∙ is in
      ap (λ (d : Bool). goes_if m.place (ask d limit (ask (is_after (last_of cs) c) list_order None)) (record m { phase = p; place = suc m.place; listed = suc m.listed })) room
      ∙ ap (λ (d : Bool). goes_if m.place (ask d list_order None) (record m { phase = p; place = suc m.place; listed = suc m.listed })) after

  listed_passed : r ≡ true → listed_taken m (last_of cs) c p ≡ goes_on (record m { phase = p; place = suc m.place; listed = suc m.listed })
  listed_passed is = by_last true is

  pub listed_barred : r ≡ false → (w : Why) → Some list_order ≡ Some w → listed_taken m (last_of cs) c p ≡ stops m.place w
  listed_barred is w said = by_last false is ∙ stops_said m.place list_order w said

-- NODES

pub node_line_is : (l k : Line) → node_line l ≡ Some k → l ≡ k
node_line_is won_line k e = cc
node_line_is (use_line j) k e = cc
node_line_is (play_line t) k e = cc
node_line_is (all_line m) k e = cc
node_line_is _ k e = absurd (cc)

module _ (alive : Bool) (j : Judge) (within : Within) (l : Line) (k : NodeLine) (ready : AwaitsNode j Node) (is : l ≡ node_value j.state.state.game.size k) where
  room_here : (b : Bool) → b ≡ (nat_lt j.node_count max_nodes && nat_le (length j.open_nodes.items + 1) max_depth) → (nat_lt j.node_count max_nodes && nat_le (suc (length j.state.before)) max_depth) ≡ b
  room_here b room = room_is j.problem.now.game j.state.before j.open_nodes.items (length j.open_nodes.items) j.node_count (machine_of j) b ready.follows refl refl room

  pub node_full : (b : Bool) → b ≡ (nat_lt j.node_count max_nodes && nat_le (length j.open_nodes.items + 1) max_depth) → b ≡ false → node_here alive j within l ≡ stops j.place limit
  node_full b room full =
      ap (node_here alive j within) is
      ∙ line_full (answering alive) (machine_of j) (heading_of j) (within_of j within) (suc (length j.state.before)) j.state.state (owed_by j.state.before (reverse j.open_nodes.items)) j.state.state.game.size k (body_of (answering alive) (heading_of j) (within_of j within)) refl (room_here b room ∙ full)

  pub node_off : (b : Bool) (w : Why) → b ≡ (nat_lt j.node_count max_nodes && nat_le (length j.open_nodes.items + 1) max_depth) → b ≡ true
      → node_fault (body_of (answering alive) (heading_of j) (within_of j within)) j.state.state (node_value j.state.state.game.size k) ≡ Some w → node_here alive j within l ≡ stops j.place w
  node_off b w room free some =
      ap (node_here alive j within) is
      ∙ line_off (answering alive) (machine_of j) (heading_of j) (within_of j within) (suc (length j.state.before)) j.state.state (owed_by j.state.before (reverse j.open_nodes.items)) j.state.state.game.size k (body_of (answering alive) (heading_of j) (within_of j within)) refl w (room_here b room ∙ free) some

  pub node_on : (b : Bool) (due : Due) (j' : Judge) (count : ℕ) → b ≡ (nat_lt j.node_count max_nodes && nat_le (length j.open_nodes.items + 1) max_depth) → b ≡ true
      → node_fault (body_of (answering alive) (heading_of j) (within_of j within)) j.state.state (node_value j.state.state.game.size k) ≡ None
      → inside_now j' due ≡ node_next (suc (length j.state.before)) j.state.state (owed_by j.state.before (reverse j.open_nodes.items)) (node_value j.state.state.game.size k)
      → j' ≡ record j { state = j'.state; open_nodes = j'.open_nodes; passed = j'.passed } → count ≡ suc j.node_count
      → GoesOn j (record j' { phase = Body within due; node_count = count }) (node_here alive j within l)
  node_on b due j' count room free none next rest counted =
      ap (node_here alive j within) is
      ∙ line_on (answering alive) (machine_of j) (heading_of j) (within_of j within) (suc (length j.state.before)) j.state.state (owed_by j.state.before (reverse j.open_nodes.items)) j.state.state.game.size k (body_of (answering alive) (heading_of j) (within_of j within)) refl (inside_now j' due) (room_here b room ∙ free) none next
      ∙ sym (ap (λ x. goes_on (record { phase = phase_of (heading_of x) (within_of x within) (inside_now j' due); place = suc j.place; nodes = count; listed = x.listed_count })) rest ∙ at within)
    where
      i : Inside
      i = inside_now j' due

      at : (w : Within) → goes_on (record { phase = phase_of (heading_of j) (within_of (record j { state = j'.state; open_nodes = j'.open_nodes; passed = j'.passed }) w) i; place = suc j.place; nodes = count; listed = j.listed_count }) ≡ goes_on (record { phase = phase_of (heading_of j) (within_of j w) i; place = suc j.place; nodes = suc j.node_count; listed = j.listed_count })
      at Lemma = ap (λ n. goes_on (record { phase = phase_of (heading_of j) (within_of j Lemma) i; place = suc j.place; nodes = n; listed = j.listed_count })) counted
      at Main = ap (λ n. goes_on (record { phase = phase_of (heading_of j) None i; place = suc j.place; nodes = n; listed = j.listed_count })) counted

-- LISTED COLOURINGS

pub last_fits : (cs : List (List Cell)) (c : List Cell) (n : ℕ) (o : Option (List Cell)) → o ≡ slice_get cs (length cs - 1) → length c ≡ n → IfSome (last_of cs) (λ d. length d ≡ n) → IfSome o (λ d. length d ≡ length c)
last_fits cs c n o is long h = at o (last_of cs) (is ∙ last_get cs) h
  where
    at : (a b : Option (List Cell)) → a ≡ b → IfSome b (λ d. length d ≡ n) → IfSome a (λ d. length d ≡ length c)
    at None b e k = tt
    at (Some d) b e k = let there = subst (λ (x : Option (List Cell)). IfSome x (λ y. length y ≡ n)) (sym e) k in there ∙ sym long

-- a colouring is after the last one
listed_behind : (c : List Cell) (o : Option (List Cell)) → IfSome o (λ d. length d ≡ length c) → is_after o c ≡ true → IfSome o (λ d. text_order d c ≡ Less)
listed_behind c None long after = tt
listed_behind c (Some d) long after = is_less (text_order d c) (before_is d c long ∙ after)

-- a list with one more colouring of the board, after the last one
list_more : (cs more : List (List Cell)) (c : List Cell) (n : ℕ) → more ≡ cs ++ c ∷ [] → Ascends cs → IfSome (last_of cs) (λ d. length d ≡ n) → length c ≡ n → is_after (last_of cs) c ≡ true → IfSome (last_of more) (λ d. length d ≡ n) × Ascends more
list_more cs more c n pushed up fit long after = (
  subst (λ o. IfSome o (λ d. length d ≡ n)) (sym (ap last_of pushed ∙ last_pushed cs c)) long,
  subst Ascends (sym pushed) (ascends_more cs c up (listed_behind c (last_of cs) (last_fits cs c n (last_of cs) (sym (last_get cs)) long fit) after)),
)

module _ (j : Judge) (c : List Cell) (v : Judge) (count : ℕ) (counted : count ≡ suc j.listed_count) {o : Option (List Cell)} {r : Bool} (asked : r ≡ is_after o c) (few : j.listed_count < max_listed) (after : r ≡ true) (fits : length c ≡ j.problem.now.game.size * j.problem.now.game.size) where
  pub listed_goes : o ≡ slice_get j.list (length j.list - 1) → j.phase ≡ Listing → v.list ≡ j.list ++ c ∷ [] → AwaitsList j
      → IsBehind (record j { list = v.list; listed_count = count }) × GoesOn j (record j { list = v.list; listed_count = count }) (listed_taken (machine_of j) (last_of j.list) c (listing_not (heading_of j) (listed_more (lemma_of j) c)))
  listed_goes last phase pushed h =
      let more = list_more j.list v.list c _ pushed h.ascends h.fits fits (ap (λ d. is_after d c) (sym (last ∙ last_get j.list)) ∙ sym asked ∙ after) in (
        subst (IsBehindFor (record j { list = v.list; listed_count = count })) (sym phase) (record { state = h.state; closed = h.closed; passed = h.passed; fits = more.0; ascends = more.1 }),
        listed_passed (machine_of j) j.list c _ last asked few after
            ∙ sym (ap₂ (λ (p : Phase) (n : ℕ). goes_on (record { phase = p; place = suc j.place; nodes = j.node_count; listed = n }))
            (ap (phase_held (record j { list = v.list; listed_count = count })) phase ∙ ap (λ cs. listing_not (heading_of j) (head_of j.mover j.passes j.root j.had.items cs)) pushed) counted),
      )

  pub had_goes : o ≡ slice_get j.had.items (length j.had.items - 1) → j.phase ≡ ListingHad → v.had.items ≡ j.had.items ++ c ∷ [] → AwaitsHad j
      → IsBehind (record j { had = v.had; listed_count = count }) × GoesOn j (record j { had = v.had; listed_count = count }) (listed_taken (machine_of j) (last_of j.had.items) c (listing_had (heading_of j) (had_more (lemma_of j) c)))
  had_goes last phase pushed h =
      let more = list_more j.had.items v.had.items c _ pushed h.ascends h.fits fits (ap (λ d. is_after d c) (sym (last ∙ last_get j.had.items)) ∙ sym asked ∙ after) in (
        subst (IsBehindFor (record j { had = v.had; listed_count = count })) (sym phase) (record {
          state = h.state;
          root = h.root;
          few = h.few;
          closed = h.closed;
          passed = h.passed;
          list = h.list;
          sizes = subst (All (λ d. side_of d ≡ j.problem.now.game.size)) (sym pushed) (All-push (λ d. side_of d ≡ j.problem.now.game.size) j.had.items c h.sizes (side_of-whole c j.problem.now.game.size fits));
          fits = more.0;
          ascends = more.1;
        }),
        listed_passed (machine_of j) j.had.items c _ last asked few after
            ∙ sym (ap₂ (λ (p : Phase) (n : ℕ). goes_on (record { phase = p; place = suc j.place; nodes = j.node_count; listed = n }))
            (ap (phase_held (record j { had = v.had; listed_count = count })) phase ∙ ap (λ cs. listing_had (heading_of j) (head_of j.mover j.passes j.root cs j.list)) pushed) counted),
      )
