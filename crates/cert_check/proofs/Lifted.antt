-- A claim that was lifted: its lists are the only ones, it is valid, and whether it is within the limits.
use Rattle.cert_check.proofs.Common.{◌≡◌, ℕ, ◌+◌, ◌*◌, ◌<◌, ◌≤◌, ◌⊎◌, Bool, true, false, not, ◌&&◌, ◌||◌, cond, nat_eq, nat_le, List, [], ◌∷◌, ◌++◌, map, filter, length, Option, Some, IsTrue, refl, sym, ap, ◌∙◌, subst, inl, inr, arith, eq-eqb, le-leb, leb-true, ltb-true, nat_lt, sum_by, sum_by-cons, MAX_SIZE, Cell, Colour, same_cells, same_cells_eq, pass, move, has_occurred, Game, GameProblem, GameState, start, IsProblem, next, Node, won, by_lemma, play, all, Branches, no_branch, branch, Head, Claim, Lemma, node_count, listed_count, max_nodes, max_listed, IsWithinLimits, Line, had_spelled, not_line, end_line, main_line, lemma_line, lines_of, lemmas_lines, lemma_lines, node_lines, claim_of, lemma_of, node_of, Certificate, Use, node_of_use, Writes, lemma_body, lemma_start, Ascends, IsChecked, LiftedClaimsAreRight, play_results, play_results_below, reply_results, IsLiftedHead, IsLifted, head_of, is_past, version_for, claim_with, SameMembers}
use Rattle.std.proofs.Common.{leb-false, ltb-false}
use Rattle.std.specs.List.{AllByRecursion}
use Rattle.std.proofs.lemmas.List.Elements.{recursion_from_All}
use Rattle.target_game.proofs.States.{length-after_move}
use Rattle.proof_cert.specs.Stage.{version_number}
use Rattle.proof_cert.specs.declared.certificate.Lemma as code_lemma
use Rattle.proof_cert.specs.declared.certificate.Node as code
use Rattle.cert_check.specs.Laws.{IsRight}
use Rattle.cert_check.proofs.Claiming.{AllFitting, AllFitting-append, node_fitting, both_spelled}
use Rattle.cert_check.proofs.Game.{occurred-member, member-occurred}
use Rattle.cert_check.proofs.InOrder.{AreLong, same_list, ascending_is, ascends_is, long_left}
use Rattle.cert_check.proofs.Members.{Member, and_both, or_cases, Member-append_cases}
use Rattle.cert_check.proofs.Soundness.{game-next}
use Rattle.cert_check.proofs.Spelling.{AllGood, claim_good, spelled_text}
use Rattle.std.proofs.lemmas.Bool.{or_parts, and_left}

-- THE LENGTH OF EACH

all_member : {A : Type 0} (P : A → Type 0) (xs : List A) → AllByRecursion P xs → (x : A) → Member x xs → P x
all_member P [] h x m = absurd m
all_member P (y ∷ xs) h x (inl e) = subst P (sym e) h.0
all_member P (y ∷ xs) h x (inr m) = all_member P xs h.1 x m

past_long : (q : GameProblem) → IsProblem q → AreLong (q.game.size * q.game.size) q.history
past_long q sound = all_member (λ c. length c ≡ q.game.size * q.game.size) q.history (recursion_from_All (λ c. length c ≡ q.game.size * q.game.size) q.history sound.sizes)

mutual
  plays_long : (k : ℕ) (n : Node) (s : GameState) → s.game.size ≡ k → AreLong (k * k) (play_results s n)
  plays_long k won s e c m = absurd m
  plays_long k (by_lemma j) s e c m = absurd m
  plays_long k (play pass n) s e c m = plays_long k n (next s pass) e c m
  plays_long k (play (move p) n) s e c (inl is) = ap length is ∙ length-after_move s.game.size s.colouring s.mover p ∙ ap (λ r. r * r) e
  plays_long k (play (move p) n) s e c (inr m) = plays_long k n (next s (move p)) e c m
  plays_long k (all bs) s e c m = plays_long_below k bs s e c m

  plays_long_below : (k : ℕ) (bs : Branches) (s : GameState) → s.game.size ≡ k → AreLong (k * k) (play_results_below s bs)
  plays_long_below k no_branch s e c m = absurd m
  plays_long_below k (branch t n bs) s e c m = side (Member-append_cases c (play_results (next s t) n) (play_results_below s bs) m) (plays_long k n (next s t) (ap (λ (g : Game). g.size) (game-next s t) ∙ e)) (plays_long_below k bs s e)
    where
      side : Member c (play_results (next s t) n) ⊎ Member c (play_results_below s bs) → AreLong (k * k) (play_results (next s t) n) → AreLong (k * k) (play_results_below s bs) → length c ≡ k * k
      side (inl a) f g = f c a
      side (inr b) f g = g c b

-- HOW IT IS MADE

pub made_claim : (q : GameProblem) (x : Colour) (hs bs : List (List Cell)) (body : code.Node) (cert : Certificate) (l : code_lemma.Lemma)
    → cert.size ≡ q.game.size → version_number cert.version ≡ version_for hs → cert.winner ≡ x → cert.lemmas.items ≡ l ∷ [] → cert.main ≡ Use 1
    → l.mover ≡ q.mover → l.passes ≡ q.passes → l.root ≡ (start q).colouring → l.had.items ≡ hs → l.absent.items ≡ bs → l.body ≡ body
    → claim_of cert ≡ claim_with q x hs bs (node_of q.game.size body)
made_claim q x hs bs body cert l size version winner lemmas main mover passes root had absent tree =
    ap (λ (ls : List code_lemma.Lemma). record { version = version_number cert.version; size = cert.size; winner = cert.winner; lemmas = map (lemma_of cert.size) ls; main = node_of cert.size cert.main }) lemmas
    ∙ ap (λ (m : code.Node). record { version = version_number cert.version; size = cert.size; winner = cert.winner; lemmas = lemma_of cert.size l ∷ []; main = node_of cert.size m }) main
    ∙ ap (λ (m : Node). record { version = version_number cert.version; size = cert.size; winner = cert.winner; lemmas = lemma_of cert.size l ∷ []; main = m }) (node_of_use cert.size 1)
    ∙ (λ i. record {
      version = version i;
      size = size i;
      winner = winner i;
      lemmas = record { head = head_of (mover i) (passes i) (root i) (had i) (absent i); body = node_of (size i) (tree i) } ∷ [];
      main = by_lemma 1;
    })

over_cases : (a b : ℕ) → (nat_le max_nodes a || nat_lt max_listed b) ≡ true → (max_nodes ≤ a) ⊎ (max_listed < b)
over_cases a b h = side (or_cases (nat_le max_nodes a) (nat_lt max_listed b) h)
  where
    side : IsTrue (nat_le max_nodes a) ⊎ IsTrue (nat_lt max_listed b) → (max_nodes ≤ a) ⊎ (max_listed < b)
    side (inl e) = inl (leb-true max_nodes a e)
    side (inr e) = inr (ltb-true max_listed b e)

under_both : (a b : ℕ) → (nat_le max_nodes a || nat_lt max_listed b) ≡ false → (a < max_nodes) × (b ≤ max_listed)
under_both a b h =
    let r = or_parts (nat_le max_nodes a) (nat_lt max_listed b) h in
    (leb-false max_nodes a r.0, ltb-false max_listed b r.1)

-- WHAT A TEST LEAVES

and_none : (a : Bool) → (a && false) ≡ false
and_none true = refl
and_none false = refl

and_yes : (a b : Bool) → a ≡ true → (a && b) ≡ b
and_yes true b e = refl
and_yes false b e = absurd (cc)

tested : (f : List Cell → Bool) (cs : List (List Cell)) (c : List Cell) → has_occurred (filter f cs) c ≡ (f c && has_occurred cs c)
tested f [] c = sym (and_none (f c))
tested f (d ∷ cs) c = at (f d) refl (same_cells c d) refl (tested f cs c)
  where
    at : (b : Bool) → f d ≡ b → (e : Bool) → same_cells c d ≡ e → has_occurred (filter f cs) c ≡ (f c && has_occurred cs c) → has_occurred (cond b (d ∷ filter f cs) (filter f cs)) c ≡ (f c && (same_cells c d || has_occurred cs c))
    at true h true e rest =
        let is : f c ≡ true = ap f (same_cells_eq c d e) ∙ h in
        ap (λ b. b || has_occurred (filter f cs) c) e ∙ sym (and_yes (f c) (same_cells c d || has_occurred cs c) is ∙ ap (λ b. b || has_occurred cs c) e)
    at true h false e rest = ap (λ b. b || has_occurred (filter f cs) c) e ∙ rest ∙ ap (λ b. f c && (b || has_occurred cs c)) (sym e)
    at false h true e rest =
        let no : f c ≡ false = ap f (same_cells_eq c d e) ∙ h in
        rest ∙ and_left (f c) (has_occurred cs c) no ∙ sym (and_left (f c) (same_cells c d || has_occurred cs c) no)
    at false h false e rest = rest ∙ ap (λ b. f c && (b || has_occurred cs c)) (sym e)

-- THE LISTS

module _ (z : Claim) {p q : GameProblem} (had absent : List (List Cell)) {barred plays : List (List Cell)} (problem : p ≡ q) (problem_sound : IsProblem p)
    (barred_is : barred ≡ filter (is_past (start q)) (reply_results (start q) z.main)) (plays_are : plays ≡ play_results (start q) z.main)
    (had_up : Ascends had) (had_sorted : SameMembers had barred) (absent_up : Ascends absent) (absent_sorted : SameMembers absent plays) where
  sound : IsProblem q
  sound = subst IsProblem problem problem_sound

  had_same : SameMembers had (filter (is_past (start q)) (reply_results (start q) z.main))
  had_same c = had_sorted c ∙ ap (λ (l : List (List Cell)). has_occurred l c) barred_is

  absent_same : SameMembers absent (play_results (start q) z.main)
  absent_same c = absent_sorted c ∙ ap (λ (l : List (List Cell)). has_occurred l c) plays_are

  abbrev most : ℕ
  most = q.game.size * q.game.size

  had_test : (c : List Cell) → has_occurred had c ≡ (is_past (start q) c && has_occurred (reply_results (start q) z.main) c)
  had_test c = had_same c ∙ tested (is_past (start q)) (reply_results (start q) z.main) c

  first_of : (a b d : Bool) → ((a && b) && d) ≡ true → a ≡ true
  first_of true b d e = refl
  first_of false b d e = absurd (cc)

  -- a list of colourings of the past has their length
  by_past : (cs : List (List Cell)) → ((c : List Cell) → has_occurred cs c ≡ has_occurred had c) → AreLong most cs
  by_past cs same c m =
      let t = sym (had_test c) ∙ sym (same c) ∙ member-occurred cs c m in
      past_long q sound c (occurred-member q.history c (first_of (has_occurred q.history c) (not (same_cells c (start q).colouring)) (has_occurred (reply_results (start q) z.main) c) t))

  had_long : AreLong most had
  had_long = by_past had (λ c. refl)

  absent_long : AreLong most absent
  absent_long = long_left most (play_results (start q) z.main) absent absent_same (plays_long q.game.size z.main (start q) refl)

  abbrev head : Head
  head = head_of q.mover q.passes (start q).colouring had absent

  pub lifted_head : IsLiftedHead q z head
  lifted_head = record {
    mover = refl;
    passes = refl;
    root = refl;
    had_order = ascending_is most had had_long had_up;
    absent_order = ascending_is most absent absent_long absent_up;
    had = had_test;
    absent = absent_same;
  }

  first_version : (hs : List (List Cell)) → hs ≡ [] → version_for hs ≡ 1
  first_version hs e = ap version_for e

  pub lifted : z.size ≡ q.game.size → IsLifted q z (claim_with q z.winner had absent z.main)
  lifted size = record {
    head = head;
    lifted = lifted_head;
    size = sym size;
    winner = refl;
    lemmas = refl;
    main = refl;
    version_1 = first_version had;
    version_2 = λ c cs e. ap version_for e;
  }

  -- no other lists are those of a lifted claim
  only_had : (h : Head) → IsLiftedHead q z h → h.had ≡ had
  only_had h l =
      let same : SameMembers h.had had = λ c. l.had c ∙ ap (λ (r : List Cell). has_occurred q.history c && not (same_cells c r) && has_occurred (reply_results (start q) z.main) c) l.root ∙ sym (had_test c) in
      same_list h.had had (ascends_is most h.had (by_past h.had same) l.had_order) had_up same

  only_absent : (h : Head) → IsLiftedHead q z h → h.absent ≡ absent
  only_absent h l =
      let same : SameMembers h.absent absent = λ c. l.absent c ∙ sym (absent_same c) in
      same_list h.absent absent (ascends_is most h.absent (long_left most absent h.absent same absent_long) l.absent_order) absent_up same

  -- a limit is passed by each lifted claim, where it is passed by this one
  past_nodes : max_nodes ≤ node_count z.main → (y : Claim) → IsLifted q z y → IsWithinLimits y → ⊥
  past_nodes big y l limits =
      let item : Lemma = record { head = l.head; body = z.main } in
      let whole : sum_by (λ (m : Lemma). node_count m.body) (item ∷ []) + 1 ≤ max_nodes =
      subst (λ (ls : List Lemma). sum_by (λ (m : Lemma). node_count m.body) ls + 1 ≤ max_nodes) l.lemmas (subst (λ (n : Node). sum_by (λ (m : Lemma). node_count m.body) y.lemmas + node_count n ≤ max_nodes) l.main limits.nodes) in
      let sum = sum_by-cons (λ (m : Lemma). node_count m.body) item [] in
      absurd (omega (arith, big, whole, sum))

  past_listed : max_listed < length had + length absent → (y : Claim) → IsLifted q z y → IsWithinLimits y → ⊥
  past_listed big y l limits =
      let item : Lemma = record { head = l.head; body = z.main } in
      let whole : sum_by listed_count (item ∷ []) ≤ max_listed = subst (λ (ls : List Lemma). sum_by listed_count ls ≤ max_listed) l.lemmas limits.listed in
      let sum = sum_by-cons listed_count item [] in
      let hads : length l.head.had ≡ length had = ap length (only_had l.head l.lifted) in
      let absents : length l.head.absent ≡ length absent = ap length (only_absent l.head l.lifted) in
      absurd (omega (arith, big, whole, sum, hads, absents))

  pub past_limit : (a b : ℕ) → a ≡ node_count z.main → b ≡ length had + length absent → (nat_le max_nodes a || nat_lt max_listed b) ≡ true → (y : Claim) → IsLifted q z y → IsWithinLimits y → ⊥
  past_limit a b nodes listed passes = at (over_cases a b passes)
    where
      at : (max_nodes ≤ a) ⊎ (max_listed < b) → (y : Claim) → IsLifted q z y → IsWithinLimits y → ⊥
      at (inl over) = past_nodes (omega (arith, over, nodes))
      at (inr over) = past_listed (omega (arith, over, listed))

  -- IT IS VALID

  abbrev made : Claim
  made = claim_with q z.winner had absent z.main

  version_is : (hs : List (List Cell)) → IsTrue (nat_eq (version_for hs) 1 || nat_eq (version_for hs) 2)
  version_is [] = refl
  version_is (c ∷ cs) = refl

  fits_version : (hs : List (List Cell)) → Writes (version_for hs) hs
  fits_version [] = inr refl
  fits_version (c ∷ cs) = inl refl

  had_fitting : (v : ℕ) (cs : List (List Cell)) → Writes v cs → AreLong most cs → AllFitting q.game.size (map (had_spelled v) cs)
  had_fitting v [] h long = tt
  had_fitting v (c ∷ cs) (inl e) long = rw e (eq-eqb (length c) most (long c (inl refl)), had_fitting v cs (inl e) (λ d m. long d (inr m)))
  had_fitting v (c ∷ cs) (inr e) long = absurd (cc)

  not_fitting : (cs : List (List Cell)) → AreLong most cs → AllFitting q.game.size (map (λ c. Some (not_line c)) cs)
  not_fitting [] long = tt
  not_fitting (c ∷ cs) long = (eq-eqb (length c) most (long c (inl refl)), not_fitting cs (λ d m. long d (inr m)))

  module _ (checked : IsChecked q z) (none : z.lemmas ≡ []) (low : 1 ≤ q.game.size) (high : q.game.size ≤ MAX_SIZE) (a b : ℕ) (counted : a ≡ node_count z.main) (added : b ≡ length had + length absent) (room : (nat_le max_nodes a || nat_lt max_listed b) ≡ false) (law : LiftedClaimsAreRight) where
    small : node_count z.main < max_nodes
    small = let under = (under_both a b room).0 in omega (arith, counted, under)

    few : length had + length absent ≤ max_listed
    few = let under = (under_both a b room).1 in omega (arith, added, under)

    abbrev item : Lemma
    item = record { head = head; body = z.main }

    right : IsRight q made
    right = law q z made sound.present (sound.liberties q.place [] sound.present) none (record { lemmas = checked.valid.lemmas; main = checked.valid.main }) (lifted checked.valid.size)

    within : IsWithinLimits made
    within =
        let nodes = sum_by-cons (λ (m : Lemma). node_count m.body) item [] in
        let listed = sum_by-cons listed_count item [] in
        record {
          lemmas = omega arith;
          nodes = omega (arith, small, nodes);
          shallow = (checked.limits.shallow_main, tt);
          shallow_main = omega arith;
          listed = omega (arith, few, listed);
        }

    root_long : length (start q).colouring ≡ most
    root_long = sound.sizes q.place [] sound.present

    lemma_fitting : AllFitting q.game.size (lemma_lines (version_for had) item)
    lemma_fitting =
        let v : ℕ = version_for had in
        let passes = sound.passes in
        let first : List (Option Line) = Some (lemma_line q.mover q.passes (start q).colouring) ∷ map (had_spelled v) had in
        let nots : List (Option Line) = map (λ c. Some (not_line c)) absent in
        AllFitting-append q.game.size ((first ++ nots) ++ node_lines z.main) (Some end_line ∷ [])
        (AllFitting-append q.game.size (first ++ nots) (node_lines z.main)
        (AllFitting-append q.game.size first nots
        (and_both (nat_le q.passes 1) (nat_eq (length (start q).colouring) most) (le-leb q.passes 1 (omega (arith, passes))) (eq-eqb (length (start q).colouring) most root_long), had_fitting v had (fits_version had) had_long)
        (not_fitting absent absent_long))
        (node_fitting z.main q.game (lemma_body z.winner [] head) (lemma_start q.game head) refl right.lemmas.0.body))
        (refl, tt)

    fitting : AllFitting q.game.size (lines_of made)
    fitting = (
      refl,
      AllFitting-append q.game.size (lemmas_lines (version_for had) (item ∷ []) ++ Some main_line ∷ node_lines (by_lemma 1)) (Some end_line ∷ [])
          (AllFitting-append q.game.size (lemmas_lines (version_for had) (item ∷ [])) (Some main_line ∷ node_lines (by_lemma 1))
          (AllFitting-append q.game.size (lemma_lines (version_for had) item) [] lemma_fitting tt)
          (refl, (refl, tt)))
          (refl, tt),
    )

    pub lifted_checked : IsChecked q made
    lifted_checked =
        let good : AllGood (lines_of made) = claim_good q made low high refl (version_is had) right.lemmas right.main within (fits_version had, tt) in
        record {
          valid = record { spelled = spelled_text q.game.size (lines_of made) (both_spelled q.game.size (lines_of made) fitting good); size = refl; lemmas = right.lemmas; main = right.main };
          limits = within;
        }
