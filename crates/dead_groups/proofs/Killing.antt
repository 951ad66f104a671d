-- What the judge of a claim of death finds makes the targets dead.
use Rattle.safe_groups.proofs.Common.{sym, subst, refl, ◌≡◌, ◌∙◌, List, ℕ, ap, IsTrue, IsFalse, inl, inr, [], ◌*◌, ◌<◌, ◌≤◌, ◌⊎◌, arith, get_or, length, cell_at, same_cell_eq, opponent_of, opponent_twice, Cell, Stone, Colour, Area, Points, Fits, IsKept, areas_of, state_at, ground_at, area_of, HasReplies, after_answer, GameProblem, GameState, start, holds_point, side_of, IsWalled}
use Rattle.go_points.specs.Liberty.{all_reach_empty}
use Rattle.target_game.specs.Laws.{IsProblem}
use Rattle.safe_groups.specs.declared.ground.Ground.{Ground}
use Rattle.safe_groups.specs.Ground.{aimed_at, HoldsOn}
use Rattle.safe_groups.proofs.Verdicts.{all_states, all_listed, allowed, held, together}
use Rattle.dead_groups.specs.Kills.{after_attack, killing, Entries, IsEntry, IsFurther, IsLost, IsTaken, PastAllowsMove, PastAllowsReply}
use Rattle.dead_groups.specs.Ground.{entries_of, kill_area, targets_of}
use Rattle.dead_groups.specs.Laws.{KillsBy, IsDeadByMove, IsDeadByAnswers}
use Rattle.dead_groups.specs.Claims.{AreDead, IsDeadNow}
use Rattle.dead_groups.specs.declared.entry_list.EntryList.{EntryList}
use Rattle.dead_groups.specs.Private.Judged.{before, entries_in, AreJudged, IsAnswered, IsBegun, IsEntered, IsEntryBy, IsNew, IsPlaced, IsRoot}
use Rattle.dead_groups.proofs.Grounds.{walled_kill}

-- What is lost for some targets is for more of them.
module _ (a : Area) (T U : Points) (sub : (p : ℕ) → IsTrue (T p) → IsTrue (U p)) (D : Entries) where
  taken_wider : (c : List Cell) → IsTaken a T c → IsTaken a U c
  taken_wider c (p, is, gone) = (p, sub p is, gone)

  further_wider : (bound : ℕ) (c : List Cell) → IsFurther a T D bound c → IsFurther a U D bound c
  further_wider bound c (inl gone) = inl (taken_wider c gone)
  further_wider bound c (inr further) = inr further

  pub lost_wider : (bound : ℕ) (c : List Cell) → IsLost a T D bound c → IsLost a U D bound c
  lost_wider bound c lost = record {
    passed = further_wider bound c lost.passed;
    sure = lost.sure;
    moved = λ x on free. further_wider bound (after_attack a c x) (lost.moved x on free);
  }

  pub entry_wider : (j : ℕ) → IsEntryBy a T D j (D.state j) (D.move j) → IsEntry a U D j
  entry_wider j by = record {
    walled = by.walled;
    on_board = by.on_board;
    empty = by.empty;
    stands = by.stands;
    leads = elim by.leads [
      | inl gone ↦ inl (taken_wider (after_answer a (D.state j) (D.move j)) gone)
      | inr lost ↦ inr (lost_wider j (after_answer a (D.state j) (D.move j)) lost)
    ];
  }

module _ (q : GameProblem) (problem : IsProblem q) (g : Ground) (c : List Cell) (placed : IsPlaced q g c) (gs : List Ground) (begins : List (List Cell)) (holding : HoldsOn q g.keeper gs begins)
    (replies : (i : ℕ) → i < length gs → HasReplies (ground_at gs i) (state_at begins i)) (stones supposed targets : List Cell) (kept : (p : ℕ) → cell_at stones p ≡ Stone g.keeper → IsKept g.keeper (areas_of gs) (state_at begins) p)
    (others : (p : ℕ) → IsTrue ((area_of g).kept p) → (cell_at stones p ≡ Stone g.keeper) ⊎ (cell_at supposed p ≡ Stone g.keeper))
    (apart : (i p : ℕ) → i < length gs → IsTrue ((area_of g).region p) → IsFalse ((area_of (ground_at gs i)).region p)) (l : EntryList) (judged : AreJudged q g (targets_of g targets) l) where
  abbrev k : Colour
  k = opponent_of q.game.defender

  keeper : g.keeper ≡ opponent_of q.game.defender
  keeper = sym (opponent_twice g.keeper) ∙ ap opponent_of placed.attacker

  on : HoldsOn q (opponent_of q.game.defender) gs begins
  on = subst (λ m. HoldsOn q m gs begins) keeper holding

  abbrev area : Area
  area = killing q.game.size (opponent_of q.game.defender) (area_of g).kept (area_of g).region

  -- the killer's region on its ground is that of the problem
  moved : (P : Area → Type 0) → P (kill_area g) → P area
  moved P h = subst (λ n. P (killing n (opponent_of q.game.defender) (area_of g).kept (area_of g).region)) (sym placed.size) (subst (λ m. P (killing (side_of g.cells) m (area_of g).kept (area_of g).region)) keeper h)

  sound : IsTrue (all_reach_empty q.game.size (start q).colouring)
  sound = problem.liberties q.place [] problem.present

  module _ (points stand : List ℕ) (aimed : (p : ℕ) → cell_at targets p ≡ Stone q.game.defender → IsTrue (holds_point points p)) (standing : (p : ℕ) → cell_at supposed p ≡ Stone (opponent_of q.game.defender) → IsTrue (holds_point stand p)) where
    abbrev s : GameState
    s = aimed_at points (start q)

    wider : (p : ℕ) → IsTrue (targets_of g targets p) → IsTrue (holds_point points p)
    wider p e = aimed p (same_cell_eq (cell_at targets p) (Stone (opponent_of g.keeper)) e ∙ ap Stone placed.attacker)

    stands : (p : ℕ) → IsTrue ((area_of g).kept p) → IsKept (opponent_of q.game.defender) (areas_of gs) (state_at begins) p ⊎ IsTrue (holds_point stand p)
    stands p is = elim (others p is) [
      | inl mine ↦ inl (subst (λ m. IsKept m (areas_of gs) (state_at begins) p) keeper (kept p mine))
      | inr free ↦ inr (standing p (free ∙ ap Stone keeper))
    ]

    kills : KillsBy (aimed_at points (start q)) stand
    kills = record {
      areas = areas_of gs;
      states = all_states q (opponent_of q.game.defender) gs begins on replies;
      state = state_at begins;
      kept = (area_of g).kept;
      region = (area_of g).region;
      entries = entries_in l;
      sound = sound;
      answers_allowed = allowed q (opponent_of q.game.defender) gs begins on;
      moves_allowed = judged.allowed;
      replies = together q (opponent_of q.game.defender) gs begins on replies;
      listed = all_listed q (opponent_of q.game.defender) gs begins on replies;
      holds = held q (opponent_of q.game.defender) gs begins on;
      stands = stands;
      apart = λ i p low is. apart i p low is;
      each = λ j low. moved (λ a. IsEntry a (holds_point points) (entries_in l) j) (entry_wider (kill_area g) (targets_of g targets) (holds_point points) wider (entries_in l) j (judged.each j low));
    }

    allows_move : IsTrue l.moves_first → PastAllowsMove (kill_area g) (entries_in l) (start q).colouring q.history
    allows_move first = λ j low none p old f. elim (subst (λ v. IsBegun (kill_area g) (start q).colouring (entries_in l) v (before v j) ⊎ IsNew (kill_area g) q.history (after_answer (kill_area g) (get_or l.states.items j []) (get_or l.moves.items j 0))) first (judged.past j low)) [
      | inl begun ↦ none begun.0 begun.1 begun.2
      | inr free ↦ free p old f
    ]

    allows_reply : IsFalse l.moves_first → PastAllowsReply (kill_area g) (entries_in l) (start q).colouring q.history
    allows_reply first = λ j low none p old f. elim (subst (λ v. IsBegun (kill_area g) (start q).colouring (entries_in l) v (before v j) ⊎ IsNew (kill_area g) q.history (after_answer (kill_area g) (get_or l.states.items j []) (get_or l.moves.items j 0))) first (judged.past j low)) [
      | inl begun ↦ none begun.0 (omega (arith, begun.1)) begun.2
      | inr free ↦ free p old f
    ]

    by_move : IsEntered q g l → IsDeadByMove (aimed_at points (start q)) stand
    unfolding kills
    by_move entered = record {
      by = kills;
      entry = entered.entry.0;
      within = entered.entry.1;
      fits = moved (λ a. Fits a (start q).colouring (get_or l.states.items entered.entry.0 [])) entered.entry.2;
      past = moved (λ a. PastAllowsMove a (entries_in l) (start q).colouring q.history) (allows_move entered.first);
    }

    by_answers : IsAnswered q g (targets_of g targets) l c → IsDeadByAnswers (aimed_at points (start q)) stand
    unfolding kills
    by_answers answered = record {
      by = kills;
      begin = c;
      walled = moved (λ a. IsWalled a c) (walled_kill g c placed.state.walled);
      fits = moved (λ a. Fits a (start q).colouring c) placed.fits;
      lost = moved (λ a. IsLost a (holds_point points) (entries_in l) (length l.states.items) c) (lost_wider (kill_area g) (targets_of g targets) (holds_point points) wider (entries_in l) (length l.states.items) c (lost_same answered.lost));
      past = moved (λ a. PastAllowsReply a (entries_in l) (start q).colouring q.history) (allows_reply answered.first);
    }
      where
        lost_same : IsLost (kill_area g) (targets_of g targets) (entries_of l.states.items []) (length l.states.items) c → IsLost (kill_area g) (targets_of g targets) (entries_in l) (length l.states.items) c
        lost_same lost = record { passed = lost.passed; sure = lost.sure; moved = lost.moved }

    pub dead_now : IsRoot q g (targets_of g targets) l c → IsDeadNow stand (aimed_at points (start q))
    dead_now (inl entered) = inl (entered.to_move, omega (arith, problem.passes), by_move entered)
    dead_now (inr answered) = inr (answered.to_move, answered.passes, by_answers answered)

  pub dead_all : IsRoot q g (targets_of g targets) l c → AreDead (start q) targets supposed
  dead_all root = λ points stand aimed standing. dead_now points stand aimed standing root
