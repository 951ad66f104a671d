-- What words, rows and records come to, over plain values.
use Rattle.gtp_core.proofs.Common.{◌≡◌, ℕ, zero, suc, ◌+◌, ◌-◌, ◌*◌, ◌<◌, Bool, true, false, cond, nat_eq, nat_lt, List, [], ◌∷◌, ◌++◌, map, length, take, drop, get_or, replicate, Option, None, Some, Ok, refl, sym, ap, ap₂, ◌∙◌, subst, arith, append_assoc, All, Cell, Empty, Turn, points, first_without_liberty, Place, IsOn, on_board, number_of, move, ply_of, GameRecord, Opens, opened, vertex_named, same_place, is_before, with_place, point_at, with_points, words_of, HasNone, IsAtSpace, fed_rows, new_record, place_at, turn_text}
use Rattle.std.proofs.Common.{ltb-true, take-append-drop}
use Rattle.std.proofs.lemmas.List.{take_more, drop-drop}
use Rattle.go_points.proofs.Lists.{and_left, and_right}
use Rattle.go_points.specs.declared.Turn.TheVariants.{At}
use Rattle.go_points.specs.Gtp.{gtp_text}
use Rattle.go_points.specs.Place.{place_of}
use Rattle.go_turns.specs.Record.{with_liberties}
use Rattle.go_points.specs.declared.vertex.Vertex.{Vertex}
use Rattle.go_points.specs.declared.vertex.Vertex.TheVariants as vertex
use Rattle.gtp_core.specs.declared.command.Command.TheVariants as command
use Rattle.gtp_core.specs.Commands.{Order, region_named, whole_board, with_value}
use Rattle.gtp_core.specs.Private.Pieces.{BeginsWord}
use Rattle.gtp_core.specs.Words.{is_on_board}
use Rattle.gtp_core.proofs.Pieces.{none_more, word_taken}
use Rattle.go_turns.proofs.Openings.{place_back}

pub none_taken : (k : ℕ) (xs : List ℕ) (i d : ℕ) → i < length xs → HasNone k (take i xs) → nat_eq (get_or xs i d) k ≡ false → HasNone k (take (i + 1) xs)
none_taken k xs i d within h other = subst (HasNone k) (sym (take_more xs i d within)) (none_more k (take i xs) (get_or xs i d) h other)

word_some : (text : List ℕ) (k : ℕ) → 0 < length text → BeginsWord text → IsAtSpace (drop k text) → 0 < length (take k text)
word_some [] k some begins at = absurd (omega (arith, some))
word_some (c ∷ cs) zero some begins at = absurd (cc (begins, at))
word_some (c ∷ cs) (suc k) some begins at = omega arith

pub first_taken : (text : List ℕ) (k : ℕ) → 0 < length text → BeginsWord text → HasNone 32 (take k text) → IsAtSpace (drop k text) → words_of text ≡ take k text ∷ words_of (drop k text)
first_taken text k some begins none at =
    ap words_of (sym (take-append-drop k text)) ∙ word_taken (take k text) (drop k text) (word_some text k some begins at) none at

-- a row more
pub row_more : (n row : ℕ) (cells text : List ℕ) → row < n
    → ((text ++ 10 ∷ []) ++ take n (drop (row * n) cells)) ++ fed_rows n (n - (row + 1)) (drop ((row + 1) * n) cells) ≡ text ++ fed_rows n (n - row) (drop (row * n) cells)
row_more n row cells text low =
    let next : n - row ≡ suc (n - (row + 1)) = omega (arith, low) in
    let behind : drop ((row + 1) * n) cells ≡ drop n (drop (row * n) cells) = ap (λ k. drop k cells) (omega arith) ∙ sym (drop-drop n (row * n) cells) in
    ap (λ xs. xs ++ fed_rows n (n - (row + 1)) (drop ((row + 1) * n) cells)) (append_assoc text (10 ∷ []) (take n (drop (row * n) cells)))
    ∙ append_assoc text (10 ∷ take n (drop (row * n) cells)) (fed_rows n (n - (row + 1)) (drop ((row + 1) * n) cells))
    ∙ ap (λ xs. text ++ ((10 ∷ take n (drop (row * n) cells)) ++ fed_rows n (n - (row + 1)) xs)) behind
    ∙ ap (λ k. text ++ fed_rows n k (drop (row * n) cells)) (sym next)

pub turn_written : (n : ℕ) (t : Turn) (p : Place) → t ≡ At p → is_on_board n t ≡ true → turn_text n (ply_of n t) ≡ gtp_text n p
turn_written n t p is known =
    let test : on_board n p ≡ true = subst (λ u. is_on_board n u ≡ true) is known in
    let on : IsOn n p = record { row_within = ltb-true p.row n (and_left (nat_lt p.row n) (nat_lt p.column n) test); column_within = ltb-true p.column n (and_right (nat_lt p.row n) (nat_lt p.column n) test) } in
    ap (λ u. turn_text n (ply_of n u)) is ∙ ap (λ b. turn_text n (move (cond b (number_of n p) (n * n)))) test ∙ ap (gtp_text n) (place_back n p on)

-- all points of the board
places_back : (n : ℕ) (ps : List Place) → All (IsOn n) ps → map (place_of n) (map (number_of n) ps) ≡ ps
places_back n [] on = refl
places_back n (p ∷ ps) on = ap₂ (λ q qs. q ∷ qs) (place_back n p (on 0 p (omega arith))) (places_back n ps (λ k d low. on (suc k) d (omega arith)))

pub whole_is : (n : ℕ) (ps : List Place) → map (number_of n) ps ≡ points n → All (IsOn n) ps → ps ≡ whole_board n
whole_is n ps is on = sym (places_back n ps on) ∙ ap (map (place_of n)) is

-- a new record
pub record_is : (n m : ℕ) (c : List Cell) (r : GameRecord) → m ≡ n → c ≡ replicate (n * n) Empty → first_without_liberty n c ≡ None → Opens m (opened m (c ∷ []) 0 0) (Ok r) → r ≡ new_record n
record_is n m c r size is free opens =
    let there : Opens n (opened n (c ∷ []) 0 0) (Ok r) = subst (λ k. Opens k (opened k (c ∷ []) 0 0) (Ok r)) size opens in
    let made : Opens n (with_liberties n None (record { history = c ∷ []; place = 0; passes = 0; last_colour = None })) (Ok r) =
    subst (λ o. Opens n (with_liberties n o (record { history = c ∷ []; place = 0; passes = 0; last_colour = None })) (Ok r)) free there in
    made ∙ ap (λ (x : List Cell). record { size = n; present = record { history = x ∷ []; place = 0; passes = 0; last_colour = None }; earlier = [] }) is

-- a set of points of the board, and one point more
all_cons : (n : ℕ) (p : Place) (ps : List Place) → IsOn n p → All (IsOn n) ps → All (IsOn n) (p ∷ ps)
all_cons n p ps on rest zero d within = on
all_cons n p ps on rest (suc k) d within = rest k d (omega (arith, within))

pub all_with : (n : ℕ) (ps : List Place) (p : Place) → IsOn n p → All (IsOn n) ps → All (IsOn n) (with_place ps p)
all_with n [] p on all = all_cons n p [] on all
all_with n (q ∷ qs) p on all = go (same_place p q) (is_before p q) (all_with n qs p on (λ k d within. all (suc k) d (omega (arith, within))))
  where
    first : IsOn n q
    first = all 0 q (omega arith)

    go : (a b : Bool) → All (IsOn n) (with_place qs p) → All (IsOn n) (cond a (q ∷ qs) (cond b (p ∷ q ∷ qs) (q ∷ with_place qs p)))
    go true b more = all
    go false true more = all_cons n p (q ∷ qs) on all
    go false false more = all_cons n q (with_place qs p) first more

pub point_more : (n : ℕ) (set : List Place) (word : List ℕ) (words all : List (List ℕ)) (v : Vertex) (column row : ℕ) (p : Place) → all ≡ word ∷ words → vertex_named word ≡ Some v → v ≡ vertex.At column row → place_at n column row ≡ Some p
    → with_points n (with_place set p) words ≡ with_points n set all
point_more n set word words all v column row p is named at place =
    sym (ap (with_points n set) is
    ∙ ap (λ (o : Option Place). elim o [ None ↦ None | Some x ↦ with_points n (with_place set x) words ]) (ap (point_at n) (named ∙ ap Some at) ∙ place))

pub whole_region : (n : ℕ) (ps : List Place) (words : List (List ℕ)) → words ≡ [] → ps ≡ whole_board n → ◌≡◌ {A = Order} (Ok (command.SetRegion ps)) (with_value (region_named n words) (λ set. Ok (command.SetRegion set)))
whole_region n ps words none is = ap (λ (set : List Place). Ok (command.SetRegion set)) is ∙ sym (ap (λ ws. with_value (region_named n ws) (λ set. Ok (command.SetRegion set))) none)
