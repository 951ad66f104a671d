-- The lines that a reader gives: the first line of its bytes, and all of them.
use Rattle.proof_cert.proofs.Common.{◌≡◌, ℕ, suc, ◌+◌, ◌-◌, ◌<◌, ◌≤◌, Bool, true, false, cond, not, nat_eq, nat_lt, ltb-true, eqb-true, List, [], ◌∷◌, ◌++◌, length, take, drop, get_or, map, Option, Some, None, Ok, Err, position, refl, sym, ap, ◌∙◌, subst, arith, append_assoc, append-nil, length-append, MAX_SIZE, Line, pieces, with_byte, line_by, lines_by, line_feed, max_line, Spelling, Malformed, Gave, Unread, IsRead, bytes_left, Uses, HasNoFeed}
use Rattle.std.specs.Io.KnownBytes.{Consumes, IsAtEnd}
use Rattle.std.proofs.lemmas.List.{length-take, get_or-take, drop-take, drop-drop, take-take, take-append-drop}
use Rattle.std.proofs.Math.Seq.{drop-cons}
use Rattle.proof_cert.proofs.Pieces.{place}
use Rattle.std.proofs.KnownBytes.{Consumes-nil, Consumes-trans}
use Rattle.proof_cert.specs.Text.{piece_by}
use Rattle.proof_cert.specs.Streamed.{Streamed, streamed_by, Tells, told_bytes, HasEnded, reader_gives, LinesGivenBy}
use Rattle.proof_cert.proofs.ShortLines.{long_by}

-- PIECES

pieces_fed : (b more : List ℕ) → HasNoFeed b → pieces (b ++ line_feed ∷ more) ≡ (b, true) ∷ pieces more
pieces_fed [] more h = refl
pieces_fed (x ∷ b) more h =
    ap (λ t. elim t [ true ↦ ([], true) ∷ pieces (b ++ line_feed ∷ more) | false ↦ with_byte x (pieces (b ++ line_feed ∷ more)) ]) h.0
    ∙ ap (with_byte x) (pieces_fed b more h.1)

pieces_cut : (x : ℕ) (b : List ℕ) → HasNoFeed (x ∷ b) → pieces (x ∷ b) ≡ (x ∷ b, false) ∷ []
pieces_cut x [] h = ap (λ t. elim t [ true ↦ ([], true) ∷ pieces [] | false ↦ with_byte x (pieces []) ]) h.0
pieces_cut x (y ∷ b) h = ap (λ t. elim t [ true ↦ ([], true) ∷ pieces (y ∷ b) | false ↦ with_byte x (pieces (y ∷ b)) ]) h.0 ∙ ap (with_byte x) (pieces_cut y b h.1)

-- the first piece has at least these bytes
pieces_long : (x : ℕ) (b more : List ℕ) → HasNoFeed (x ∷ b) → (tail : List ℕ) × (fed : Bool) × (ps : List (List ℕ × Bool)) × (pieces (x ∷ b ++ more) ≡ (x ∷ b ++ tail, fed) ∷ ps)
pieces_long x [] more h = at (pieces more) refl
  where
    at : (ps : List (List ℕ × Bool)) → pieces more ≡ ps → (tail : List ℕ) × (fed : Bool) × (qs : List (List ℕ × Bool)) × (pieces (x ∷ more) ≡ (x ∷ tail, fed) ∷ qs)
    at [] e = ([], false, [], ap (λ t. elim t [ true ↦ ([], true) ∷ pieces more | false ↦ with_byte x (pieces more) ]) h.0 ∙ ap (with_byte x) e)
    at (p ∷ ps) e = (p.0, p.1, ps, ap (λ t. elim t [ true ↦ ([], true) ∷ pieces more | false ↦ with_byte x (pieces more) ]) h.0 ∙ ap (with_byte x) e)
pieces_long x (y ∷ b) more h =
    let below = pieces_long y b more h.1 in
    (below.0, below.1, below.2, ap (λ t. elim t [ true ↦ ([], true) ∷ pieces (y ∷ b ++ more) | false ↦ with_byte x (pieces (y ∷ b ++ more)) ]) h.0 ∙ ap (with_byte x) below.3)

pub no_feed_more : (b : List ℕ) (x : ℕ) → HasNoFeed b → nat_eq x line_feed ≡ false → HasNoFeed (b ++ x ∷ [])
no_feed_more [] x h e = (e, tt)
no_feed_more (y ∷ b) x h e = (h.0, no_feed_more b x h.1 e)

-- LINES

pub line_fed : (y : Spelling) (n : ℕ) (b more : List ℕ) → HasNoFeed b → lines_by y n ((b ++ line_feed ∷ []) ++ more) ≡ line_by y n b ∷ lines_by y n more
line_fed y n b more h = ap (lines_by y n) (append_assoc b (line_feed ∷ []) more) ∙ ap (λ ps. map (piece_by y n) ps) (pieces_fed b more h)

pub line_cut : (y : Spelling) (n : ℕ) (b : List ℕ) → 0 < length b → HasNoFeed b → lines_by y n (b ++ []) ≡ None ∷ []
line_cut y n [] some h = absurd (omega arith)
line_cut y n (x ∷ b) some h = ap (lines_by y n) (append-nil (x ∷ b)) ∙ ap (λ ps. map (piece_by y n) ps) (pieces_cut x b h)

pub line_long : (y : Spelling) (n : ℕ) → n ≤ MAX_SIZE → (b more : List ℕ) → max_line < length b → HasNoFeed b → (rest : List (Option Line)) × (lines_by y n (b ++ more) ≡ None ∷ rest)
line_long y n small [] more long h = absurd (omega arith)
line_long y n small (x ∷ b) more long h =
    let first = pieces_long x b more h in
    (map (piece_by y n) first.2, ap (λ ps. map (piece_by y n) ps) first.3 ∙ ap (λ l. l ∷ map (piece_by y n) first.2) (none first.0 first.1))
  where
    none : (tail : List ℕ) (fed : Bool) → piece_by y n (x ∷ b ++ tail, fed) ≡ None
    none tail true = let whole = length-append (x ∷ b) tail in long_by y n small (x ∷ b ++ tail) (omega (arith, long, whole))
    none tail false = refl

-- WHAT WAS USED

pub uses_none : (a : Unread) → Uses a a []
uses_none a = record { read = []; told = Consumes-nil a.told; bytes = append-nil a.held }

pub uses_then : (a b c : Unread) (u v : List ℕ) → Uses a b u → Uses b c v → Uses a c (u ++ v)
uses_then a b c u v p q = record {
  read = p.read ++ q.read;
  told = Consumes-trans a.told b.told c.told p.read q.read p.told q.told;
  bytes =
      sym (append_assoc a.held p.read q.read) ∙ ap (λ l. l ++ q.read) p.bytes ∙ append_assoc u b.held q.read
      ∙ ap (λ l. u ++ l) q.bytes ∙ sym (append_assoc u v c.held);
}

-- the bytes that were told, and so all of them
told_whole : (a b : Option (List ℕ)) (read : List ℕ) → Consumes a b read → Tells a (read ++ told_bytes b)
told_whole None b read h = tt
told_whole (Some x) None read h = absurd h
told_whole (Some x) (Some y) read h = sym h

used_whole : (a b : Unread) (used : List ℕ) → Uses a b used → (bytes : List ℕ) × Tells a.told bytes × (a.held ++ bytes ≡ used ++ bytes_left b)
used_whole a b used p = (
  p.read ++ told_bytes b.told,
  told_whole a.told b.told p.read p.told,
  sym (append_assoc a.held p.read (told_bytes b.told)) ∙ ap (λ l. l ++ told_bytes b.told) p.bytes ∙ append_assoc used b.held (told_bytes b.told),
)

pub end_told : (o : Option (List ℕ)) → IsAtEnd o → told_bytes o ≡ []
end_told None h = refl
end_told (Some x) h = h

pub none_left : (b : Unread) → HasEnded b → bytes_left b ≡ []
none_left b (none, end) = ap (λ l. l ++ told_bytes b.told) none ∙ end_told b.told end

-- WHAT CALLS GAVE

pub record GaveOf (s : Streamed) (ls : List (Option Line)) (t : Streamed) : Type 0 where
  pub used : List ℕ
  pub taken : Uses s.left t.left used
  pub whole : t.fault ≡ None → (more : List ℕ) → lines_by s.spelling s.size (used ++ more) ≡ ls ++ lines_by s.spelling s.size more
  pub rest : List (Option Line)
  pub front : lines_by s.spelling s.size (used ++ bytes_left t.left) ≡ ls ++ rest

gave_of : (s : Streamed) (ls : List (Option Line)) (t : Streamed) → Gave reader_gives s ls t → GaveOf s ls t
gave_of s [] t e = record {
  used = [];
  taken = subst (λ (x : Streamed). Uses s.left x.left []) e (uses_none s.left);
  whole = λ free more. refl;
  rest = lines_by s.spelling s.size (bytes_left t.left);
  front = refl;
}
gave_of s (Some l ∷ ls) t (u, g, more) =
    let one = g.3 in
    let below = gave_of u ls t more in
    let same : (x : List ℕ) → lines_by u.spelling u.size x ≡ lines_by s.spelling s.size x = λ x. ap (λ (y : Spelling). lines_by y u.size x) g.1.spelling ∙ ap (λ (m : ℕ). lines_by s.spelling m x) g.1.size in record {
      used = one.0 ++ below.used;
      taken = uses_then s.left u.left t.left one.0 below.used one.1 below.taken;
      whole = λ free behind.
          ap (lines_by s.spelling s.size) (append_assoc one.0 below.used behind) ∙ one.2 (below.used ++ behind)
          ∙ ap (λ k. Some l ∷ k) (sym (same (below.used ++ behind)) ∙ below.whole free behind ∙ ap (λ k. ls ++ k) (same behind));
      rest = below.rest;
      front =
          ap (lines_by s.spelling s.size) (append_assoc one.0 below.used (bytes_left t.left)) ∙ one.2 (below.used ++ bytes_left t.left)
          ∙ ap (λ k. Some l ∷ k) (sym (same (below.used ++ bytes_left t.left)) ∙ below.front);
    }
gave_of s (None ∷ []) t (u, g, e) =
    let one = g.3 in record {
      used = one.0;
      taken = subst (λ (x : Streamed). Uses s.left x.left one.0) e one.1;
      whole = λ free. absurd (cc (sym free ∙ ap (λ (x : Streamed). x.fault) (sym e) ∙ g.2));
      rest = one.2;
      front = subst (λ (x : Streamed). lines_by s.spelling s.size (one.0 ++ bytes_left x.left) ≡ None ∷ one.2) e one.3;
    }
gave_of s (None ∷ (k ∷ ls)) t (u, g, (v, f, more)) = absurd (cc (sym f.0 ∙ g.2))

pub lines_given_by : (y : Spelling) → LinesGivenBy y
lines_given_by y n held told ls t h =
    let s = streamed_by y n held told in
    let all = gave_of s ls t h in
    let one = used_whole s.left t.left all.used all.taken in record {
      front = (one.0, one.1, all.rest, ap (lines_by y n) one.2 ∙ all.front);
      all = λ u g.
          let end = used_whole s.left u.left (all.used ++ []) (uses_then s.left t.left u.left all.used [] all.taken g.3.0) in
          (end.0, end.1, ap (lines_by y n) (end.2 ∙ append_assoc all.used [] (bytes_left u.left) ∙ ap (λ l. all.used ++ l) (none_left u.left g.3.1)) ∙ all.whole g.0 [] ∙ append-nil ls);
    }

-- THE BLOCK

-- the byte at a place, and those after it up to another
byte_at : (s e : ℕ) (block : List ℕ) → s < e → e ≤ length block → drop s (take e block) ≡ get_or block s 0 ∷ drop (s + 1) (take e block)
byte_at s e block low within =
    let long = length-take {A = ℕ} e block in
    let next : suc s ≡ s + 1 = omega arith in
    drop-cons (take e block) s 0 (omega (arith, long, low, within)) ∙ ap (λ x. x ∷ drop (suc s) (take e block)) (get_or-take e block s 0 low)
    ∙ ap (λ i. get_or block s 0 ∷ drop i (take e block)) next

module _ (told : Option (List ℕ)) (front : List ℕ) (s e : ℕ) (block : List ℕ) where
  pub byte_held : s < e → e ≤ length block → Uses (record { held = drop s (take e block) ++ front; told = told }) (record { held = drop (s + 1) (take e block) ++ front; told = told }) (get_or block s 0 ∷ [])
  byte_held low within = record { read = []; told = Consumes-nil told; bytes = append-nil (drop s (take e block) ++ front) ∙ ap (λ l. l ++ front) (byte_at s e block low within) }

-- the first line of a block, by the place of its line feed
fed_at : (b : List ℕ) → place b < length b → HasNoFeed (take (place b) b) × (take (suc (place b)) b ≡ take (place b) b ++ line_feed ∷ [])
fed_at [] h = absurd (omega arith)
fed_at (x ∷ b) h = go (nat_eq x 10) refl h (fed_at b)
  where
    At : ℕ → Type 0
    At j = HasNoFeed (take j (x ∷ b)) × (take (suc j) (x ∷ b) ≡ take j (x ∷ b) ++ line_feed ∷ [])

    go : (t : Bool) → nat_eq x 10 ≡ t → cond (not t) (1 + place b) 0 < suc (length b) → (place b < length b → HasNoFeed (take (place b) b) × (take (suc (place b)) b ≡ take (place b) b ++ line_feed ∷ [])) → At (cond (not t) (1 + place b) 0)
    go true e h' more = (tt, ap (λ y. y ∷ []) (eqb-true x 10 e))
    go false e h' more =
        let next : suc (place b) ≡ 1 + place b = omega arith in
        let below = more (omega arith) in
        subst At next ((e, below.0), ap (λ l. x ∷ l) below.1)

pub fed_by : (b : List ℕ) (k : ℕ) → position (λ x. nat_eq x 10) b ≡ Some k → (k < length b) × HasNoFeed (take k b) × (take (k + 1) b ≡ take k b ++ line_feed ∷ [])
fed_by b k e = go (nat_lt (place b) (length b)) refl e
  where
    go : (t : Bool) → nat_lt (place b) (length b) ≡ t → cond t (Some (place b)) None ≡ Some k → (k < length b) × HasNoFeed (take k b) × (take (k + 1) b ≡ take k b ++ line_feed ∷ [])
    go false low e' = absurd (cc)
    go true low e' =
        let same : place b ≡ k = cc e' in
        let next : suc k ≡ k + 1 = omega arith in
        let less = ltb-true (place b) (length b) low in
        let at = fed_at b less in
        (omega (arith, less, same), subst (λ j. HasNoFeed (take j b)) same at.0, subst (λ j. take j b ≡ take k b ++ line_feed ∷ []) next (subst (λ j. take (suc j) b ≡ take j b ++ line_feed ∷ []) same at.1))

module _ (told : Option (List ℕ)) (front : List ℕ) (s e k : ℕ) (block : List ℕ) (low : s ≤ e) (fed : position (λ x. nat_eq x 10) (take (e - s) (drop s block)) ≡ Some k) where
  abbrev pub piece : List ℕ
  piece = take (e - s) (drop s block)

  fed_here : (k < length piece) × HasNoFeed (take k piece) × (take (k + 1) piece ≡ take k piece ++ line_feed ∷ [])
  fed_here = fed_by piece k fed

  -- what is spelled before the line feed
  pub line_there : take (s + k - s) (drop s block) ≡ take k piece
  line_there =
      let long = length-take {A = ℕ} (e - s) (drop s block) in
      let first = fed_here.0 in
      let count : s + k - s ≡ k = omega arith in
      ap (λ j. take j (drop s block)) count ∙ sym (take-take k (e - s) (drop s block) (omega (arith, long, first)))

  pub line_clean : HasNoFeed (take k piece)
  line_clean = fed_here.1

  rest_there : drop (k + 1) piece ≡ drop (s + k + 1) (take e block)
  rest_there =
      let whole : s + (e - s) ≡ e = omega (arith, low) in
      let place : s + (k + 1) ≡ s + k + 1 = omega arith in
      ap (drop (k + 1)) (sym (drop-take s (e - s) block) ∙ ap (λ j. drop s (take j block)) whole) ∙ drop-drop (k + 1) s (take e block) ∙ ap (λ j. drop j (take e block)) place

  pub block_line : drop s (take e block) ++ front ≡ (take k piece ++ line_feed ∷ []) ++ (drop (s + k + 1) (take e block) ++ front)
  block_line =
      let whole : s + (e - s) ≡ e = omega (arith, low) in
      ap (λ l. l ++ front) (sym (ap (λ j. drop s (take j block)) whole) ∙ drop-take s (e - s) block ∙ sym (take-append-drop (k + 1) piece))
      ∙ append_assoc (take (k + 1) piece) (drop (k + 1) piece) front
      ∙ ap (λ l. l ++ (drop (k + 1) piece ++ front)) fed_here.2
      ∙ ap (λ l. (take k piece ++ line_feed ∷ []) ++ (l ++ front)) rest_there

  pub line_used : Uses (record { held = drop s (take e block) ++ front; told = told }) (record { held = drop (s + k + 1) (take e block) ++ front; told = told }) (take k piece ++ line_feed ∷ [])
  line_used = record { read = []; told = Consumes-nil told; bytes = append-nil (drop s (take e block) ++ front) ∙ block_line }

  -- a line that is spelled, and one that is not
  module _ (y : Spelling) (n : ℕ) (line : Option Line) (spelled : line ≡ line_by y n (take (s + k - s) (drop s block))) where
    is_line : (more : List ℕ) → lines_by y n ((take k piece ++ line_feed ∷ []) ++ more) ≡ line ∷ lines_by y n more
    is_line more = line_fed y n (take k piece) more line_clean ∙ ap (λ (l : Option Line). l ∷ lines_by y n more) (sym (spelled ∙ ap (λ b. line_by y n b) line_there))

    pub line_read : (l : Line) → line ≡ Some l → IsRead y n (record { held = drop s (take e block) ++ front; told = told }) (record { held = drop (s + k + 1) (take e block) ++ front; told = told }) (Ok (Some l))
    line_read l is = (take k piece ++ line_feed ∷ [], line_used, λ more. is_line more ∙ ap (λ (l : Option Line). l ∷ lines_by y n more) is)

    pub line_unread : line ≡ None → IsRead y n (record { held = drop s (take e block) ++ front; told = told }) (record { held = drop s (take e block) ++ front; told = told }) (Err Malformed)
    line_unread is =
        let more = (drop (s + k + 1) (take e block) ++ front) ++ told_bytes told in (
          [],
          uses_none (record { held = drop s (take e block) ++ front; told = told }),
          lines_by y n more,
          ap (lines_by y n) (ap (λ l. l ++ told_bytes told) block_line ∙ append_assoc (take k piece ++ line_feed ∷ []) (drop (s + k + 1) (take e block) ++ front) (told_bytes told))
              ∙ is_line more ∙ ap (λ (l : Option Line). l ∷ lines_by y n more) is,
        )
