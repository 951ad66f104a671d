-- The nodes of a canonical record are nodes: each name stands once, and each value ends where it should.
use Rattle.tsumego_problem.proofs.Common.{◌≡◌, ℕ, ◌+◌, ◌/◌, ◌%◌, ◌^◌, ◌≤◌, ◌<◌, refl, sym, ◌∙◌, ap, arith, rules, not, ◌==◌, codes, decimal, list_any, list_all, bytes_eq, nat_tests, append-nil, not-true, and_parts, Colour, Black, White, Cell, Empty, Stone, points, holds_point, GameProblem, is_node, is_named, Node, point_value, point_values, property, changed_to, changes, root_node, colour_name, marks, verdict_text}
use Rattle.std.specs.Prelude.{Bool, true, false, ◌&&◌, cond, List, [], ◌∷◌, ◌++◌, map}
use Rattle.std.proofs.lemmas.Fmt.{decimal_by_steps}
use Rattle.std.proofs.lemmas.List.Folds.{list_all-append}
use Rattle.sgf_text.specs.Nodes.{is_value, is_ident, is_property, are_distinct}
use Rattle.tsumego_problem.proofs.Setup.{in_order}

-- ---- values

-- neither "]" nor a backslash
abbrev plain : ℕ → Bool
plain c = not (c == 93) && not (c == 92)

plain_value : (v : List ℕ) → list_all plain v ≡ true → is_value v ≡ true
plain_value [] h = refl
plain_value (c ∷ cs) h =
    let b = and_parts (plain c) (list_all plain cs) h in
    let d = and_parts (not (c == 93)) (not (c == 92)) b.0 in
    let e : (c == 92) ≡ false = not-true (c == 92) d.1 in
    rw (d.0, e) (plain_value cs b.1)

plain_letter : (x : ℕ) → plain (97 + x) ≡ true
plain_letter x = grind (arith, nat_tests)

plain_digit : (x : ℕ) → x < 10 → plain (48 + x) ≡ true
plain_digit x h = grind (arith, nat_tests)

point_is_value : (n p : ℕ) → is_value (point_value n p) ≡ true
point_is_value n p = plain_value (point_value n p) (rw (plain_letter (p % n), plain_letter (p / n)) refl)

points_are_values : (n : ℕ) (ps : List ℕ) → list_all is_value (point_values n ps) ≡ true
points_are_values n [] = refl
points_are_values n (p ∷ ps) = rw (point_is_value n p) (points_are_values n ps)

decimal_is_value : (n : ℕ) → n < 2 ^ 64 → is_value (decimal n) ≡ true
decimal_is_value n h = plain_value (decimal n) (decimal_by_steps (λ k ds. list_all plain ds ≡ true) one more n h)
  where
    one : (k : ℕ) → k < 10 → list_all plain ((48 + k) ∷ []) ≡ true
    one k l = rw (plain_digit k l) refl

    more : (k : ℕ) (ds : List ℕ) → 10 ≤ k → list_all plain ds ≡ true → list_all plain (ds ++ ((48 + k % 10) ∷ [])) ≡ true
    more k ds l g = list_all-append plain ds ((48 + k % 10) ∷ []) ∙ rw (g, plain_digit (k % 10) (omega arith)) refl

-- ---- nodes laid of names with their values

abbrev pub Part : Type 0
Part = List ℕ × List (List ℕ)

abbrev pub laid : List Part → Node
laid [] = []
laid (p ∷ ps) = property p.0 p.1 ++ laid ps

abbrev is_good : Part → Bool
is_good p = is_ident p.0 && list_all is_value p.1

abbrev is_other : List ℕ → Part → Bool
is_other name p = not (bytes_eq name p.0)

abbrev are_apart : List Part → Bool
are_apart [] = true
are_apart (p ∷ ps) = list_all (is_other p.0) ps && are_apart ps

absent : (name : List ℕ) (ps : List Part) → list_all (is_other name) ps ≡ true → list_any (is_named name) (laid ps) ≡ false
absent name [] h = refl
absent name ((m, []) ∷ ps) h = absent name ps (and_parts (not (bytes_eq name m)) (list_all (is_other name) ps) h).1
absent name ((m, v ∷ vs) ∷ ps) h =
    let b = and_parts (not (bytes_eq name m)) (list_all (is_other name) ps) h in
    let e : bytes_eq name m ≡ false = not-true (bytes_eq name m) b.0 in
    rw e (absent name ps b.1)

all_properties : (ps : List Part) → list_all is_good ps ≡ true → list_all is_property (laid ps) ≡ true
all_properties [] h = refl
all_properties ((m, []) ∷ ps) h = all_properties ps (and_parts (is_ident m && true) (list_all is_good ps) h).1
all_properties ((m, v ∷ vs) ∷ ps) h =
    let b = and_parts (is_ident m && list_all is_value (v ∷ vs)) (list_all is_good ps) h in
    let d = and_parts (is_ident m) (list_all is_value (v ∷ vs)) b.0 in
    let e = and_parts (is_value v) (list_all is_value vs) d.1 in
    rw (d.0, e.0, e.1) (all_properties ps b.1)

all_distinct : (ps : List Part) → are_apart ps ≡ true → are_distinct (laid ps) ≡ true
all_distinct [] h = refl
all_distinct ((m, []) ∷ ps) h = all_distinct ps (and_parts (list_all (is_other m) ps) (are_apart ps) h).1
all_distinct ((m, v ∷ vs) ∷ ps) h =
    let b = and_parts (list_all (is_other m) ps) (are_apart ps) h in
    rw (absent m ps b.0) (all_distinct ps b.1)

laid_is_node : (ps : List Part) → list_all is_good ps ≡ true → are_apart ps ≡ true → is_node (laid ps) ≡ true
laid_is_node ps h g = rw (all_properties ps h) (all_distinct ps g)

-- ---- the nodes of a record

abbrev changed_parts : ℕ → List Cell → List Cell → List Part
changed_parts n old new =
    (codes "AB", point_values n (changed_to n (Stone Black) old new))
    ∷ (codes "AW", point_values n (changed_to n (Stone White) old new))
    ∷ (codes "AE", point_values n (changed_to n Empty old new))
    ∷ []

changed_good : (n : ℕ) (old new : List Cell) → list_all is_good (changed_parts n old new) ≡ true
changed_good n old new = grind (arith, nat_tests, points_are_values)

pub changes_are_node : (n : ℕ) (old new : List Cell) → is_node (changes n old new) ≡ true
changes_are_node n old new = ap is_node (in_order n old new) ∙ laid_is_node (changed_parts n old new) (changed_good n old new) refl

pub root_is_node : (n : ℕ) (c : List Cell) → n < 2 ^ 64 → is_node (root_node n c) ≡ true
root_is_node n c h =
    let board = map (λ p. Empty) (points n) in
    ap (λ t. is_node (property (codes "FF") (codes "4" ∷ []) ++ property (codes "GM") (codes "1" ∷ []) ++ property (codes "SZ") (decimal n ∷ []) ++ t)) (in_order n board c)
    ∙ laid_is_node ((codes "FF", codes "4" ∷ []) ∷ (codes "GM", codes "1" ∷ []) ∷ (codes "SZ", decimal n ∷ []) ∷ changed_parts n board c) (rw (decimal_is_value n h) (changed_good n board c)) refl

colour_is_value : (k : Colour) → is_value (colour_name k) ≡ true
colour_is_value k = search rules

verdict_is_value : (x : Colour) → is_value (verdict_text x) ≡ true
verdict_is_value x = search rules

module _ (n : ℕ) (k : Colour) (targets region : List ℕ) where
  abbrev squares : Bool → List (List ℕ)
  squares whole = cond whole [] (point_values n region)

  squares_good : (whole : Bool) → list_all is_value (squares whole) ≡ true
  squares_good whole = grind (arith, nat_tests, points_are_values)

  squares_laid : (whole : Bool) → cond whole [] (property (codes "SQ") (point_values n region)) ≡ property (codes "SQ") (squares whole)
  squares_laid whole = search rules

  abbrev marked : Bool → Node
  marked whole = property (codes "PL") (colour_name k ∷ []) ++ property (codes "TR") (point_values n targets) ++ cond whole [] (property (codes "SQ") (point_values n region))

  marked_laid : (whole : Bool) (more : Node) → marked whole ++ more ≡ property (codes "PL") (colour_name k ∷ []) ++ (property (codes "TR") (point_values n targets) ++ (property (codes "SQ") (squares whole) ++ more))
  marked_laid whole more = search rules

  pub marked_is_node : (whole : Bool) → is_node (marked whole) ≡ true
  marked_is_node whole =
      ap is_node (sym (append-nil (marked whole)) ∙ marked_laid whole [])
      ∙ laid_is_node ((codes "PL", colour_name k ∷ []) ∷ (codes "TR", point_values n targets) ∷ (codes "SQ", squares whole) ∷ [])
      (rw (colour_is_value k, points_are_values n targets, squares_good whole) refl) refl

  pub commented_is_node : (whole : Bool) (x : Colour) → is_node (marked whole ++ property (codes "C") (verdict_text x ∷ [])) ≡ true
  commented_is_node whole x =
      ap is_node (marked_laid whole (property (codes "C") (verdict_text x ∷ [])))
      ∙ laid_is_node ((codes "PL", colour_name k ∷ []) ∷ (codes "TR", point_values n targets) ∷ (codes "SQ", squares whole) ∷ (codes "C", verdict_text x ∷ []) ∷ [])
      (rw (colour_is_value k, points_are_values n targets, squares_good whole, verdict_is_value x) refl) refl

pub marks_are_node : (q : GameProblem) → is_node (marks q) ≡ true
marks_are_node q = marked_is_node q.game.size q.mover q.game.targets q.game.region (list_all (holds_point q.game.region) (points q.game.size))

pub winner_is_node : (q : GameProblem) (x : Colour) → is_node (marks q ++ property (codes "C") (verdict_text x ∷ [])) ≡ true
winner_is_node q x = commented_is_node q.game.size q.mover q.game.targets q.game.region (list_all (holds_point q.game.region) (points q.game.size)) x

-- the root, one property after another
pub root_made : (n : ℕ) (c board : List Cell) (rows : List ℕ) (p0 p1 p2 p3 p4 : Node) → p0 ≡ [] → p1 ≡ p0 ++ property (codes "FF") (codes "4" ∷ []) → p2 ≡ p1 ++ property (codes "GM") (codes "1" ∷ []) → p3 ≡ p2 ++ property (codes "SZ") (rows ∷ []) → p4 ≡ p3 ++ changes n board c
    → rows ≡ decimal n → board ≡ map (λ p. Empty) (points n) → p4 ≡ root_node n c
root_made n c board rows p0 p1 p2 p3 p4 h g e f i j k = search rules

-- a node of which nothing stands before
pub alone : (p0 p1 node : Node) → p0 ≡ [] → p1 ≡ p0 ++ node → p1 ≡ node
alone p0 p1 node e0 e1 = e1 ∙ ap (λ p. p ++ node) e0
