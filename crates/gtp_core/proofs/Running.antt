-- Runs, line by line, over a reader and a writer.
use Rattle.gtp_core.proofs.Common.{◌≡◌, ℕ, ◌+◌, ◌<◌, ◌≤◌, Bool, true, false, codes, cond, lt-ltb, List, [], ◌∷◌, ◌++◌, length, take, Option, None, Some, inl, inr, refl, sym, ap, ◌∙◌, subst, arith, append_assoc, cases_lt, length-append, length-take-le, take_all, take-append-le, prepend_known, Consumes-trans, Ending, LineFeed, bad_line, request_of, cleaned, words_of, raw_lines, HasNone, GtpSession, failure, reply, first_session, Bounded, bounded, kept, IsRawLine, IsServed, IsPartServed, IsUnderWay}
use Rattle.std.proofs.Common.{IsTrue, ◌⊎◌, append-nil}
use Rattle.std.specs.Io.KnownBytes.{Consumes, IsAtEnd}
use Rattle.std.proofs.KnownBytes.{Appends-nil, Appends-trans, Consumes-nil}
use Rattle.byte_writer.specs.Taken.{TakesPart}
use Rattle.proof_cert.specs.Streamed.{Tells}
use Rattle.gtp_core.specs.declared.end.GtpEnd.TheVariants.{Read, Write}
use Rattle.gtp_core.specs.declared.input.Ending.TheVariants.{End}
use Rattle.gtp_core.specs.Lines.{request_with}
use Rattle.gtp_core.specs.Serving.{Output, needs_memory, last_reply, Answers, HadNoMemory, Serves}
use Rattle.gtp_core.specs.Runs.{GoesThrough, IsRun, input_limit, block_limit, IsReadTo, EndsWithLine, AsksWithin, HasRun, HasStoppedOn}
use Rattle.gtp_core.specs.Private.Taking.{HeldInput, StopsInLine}
use Rattle.gtp_core.proofs.Pieces.{parted_one, parted_more}

-- one line more
pub through_more : (s : GtpSession) (ls : List (List ℕ)) (w : List ℕ) (t : GtpSession) (line bytes : List ℕ) (u : GtpSession)
    → GoesThrough s ls w t → Serves t line (reply bytes) u → GoesThrough s (ls ++ line ∷ []) (w ++ bytes) u
through_more s [] w t line bytes u h served =
    (bytes, [], u, subst (λ x. Serves x line (reply bytes) u) h.1 served, ap (λ x. x ++ bytes) h.0 ∙ sym (append-nil bytes), (refl, refl))
through_more s (l ∷ ls) w t line bytes u h served =
    (h.0, h.1 ++ bytes, h.2, h.3, ap (λ x. x ++ bytes) h.4 ∙ append_assoc h.0 h.1 bytes, through_more h.2 ls h.1 t line bytes u h.5 served)

-- lines that were all served are a run, and so are those up to one that ends the session
pub through_is_run : (s : GtpSession) (ls : List (List ℕ)) (w : List ℕ) (t : GtpSession) → GoesThrough s ls w t → IsRun s ls w
through_is_run s [] w t h = h.0
through_is_run s (l ∷ ls) w t h = inl (h.0, h.1, h.2, h.3, h.4, through_is_run h.2 ls h.1 t h.5)

pub ended_is_run : (s : GtpSession) (ls : List (List ℕ)) (w : List ℕ) (t : GtpSession) (line : List ℕ) (behind : List (List ℕ)) (bytes : List ℕ) (u : GtpSession)
    → GoesThrough s ls w t → Serves t line (last_reply bytes) u → IsRun s (ls ++ line ∷ behind) (w ++ bytes)
ended_is_run s [] w t line behind bytes u h served =
    inr (u, subst (λ x. Serves s line (last_reply (x ++ bytes)) u) (sym h.0) (subst (λ x. Serves x line (last_reply bytes) u) h.1 served))
ended_is_run s (l ∷ ls) w t line behind bytes u h served =
    inl (h.0, h.1 ++ bytes, h.2, h.3, ap (λ x. x ++ bytes) h.4 ∙ append_assoc h.0 h.1 bytes, ended_is_run h.2 ls h.1 t line behind bytes u h.5 served)

-- a line of which a front was kept is served as its front
bad : (line : List ℕ) → 4096 < length line → request_of line ≡ bad_line
bad line long = ap (λ b. cond b bad_line (request_with (words_of (cleaned line)))) (lt-ltb 4096 (length line) long)

pub kept_request : (line : List ℕ) → request_of (kept line) ≡ request_of line
kept_request line = elim (cases_lt 4097 (length line)) [
  | inl long ↦ bad (kept line) (omega (arith, length-take-le 4097 line (omega (arith, long)))) ∙ sym (bad line (omega (arith, long)))
  | inr short ↦ ap request_of (take_all 4097 line short)
]

pub serves_kept : (s : GtpSession) (line : List ℕ) (out : Output) (t : GtpSession) → Serves s (kept line) out t → Serves s line out t
serves_kept s line out t h = subst (λ r. Answers s r out t ⊎ HadNoMemory s r out t) (kept_request line) h

-- the bytes that a reader has left, where it tells them
pub left_bytes : Option (List ℕ) → List ℕ
left_bytes None = []
left_bytes (Some xs) = xs

pub tells_all : (told left : Option (List ℕ)) (used : List ℕ) → Consumes told left used → Tells told (used ++ left_bytes left)
unfolding left_bytes
tells_all None left used c = tt
tells_all (Some x) None used c = absurd c
tells_all (Some x) (Some y) used c = sym c

none_left : (left : Option (List ℕ)) → IsAtEnd left → left_bytes left ≡ []
unfolding left_bytes
none_left None e = refl
none_left (Some xs) e = e

-- what was used and what is held were taken from the reader
taken_with : (told left : Option (List ℕ)) (held used : List ℕ) → Consumes told (prepend_known held left) used → Consumes told left (used ++ held)
taken_with None left held used c = tt
taken_with (Some x) None held used c = absurd c
taken_with (Some x) (Some y) held used c = c ∙ sym (append_assoc used held y)

end_of_reader : (left : Option (List ℕ)) (held : List ℕ) → IsAtEnd (prepend_known held left) → IsAtEnd left
end_of_reader None held e = tt
end_of_reader (Some []) held e = refl
end_of_reader (Some (y ∷ ys)) held e = absurd (let long = length-append held (y ∷ ys) in let none = ap length e in omega (arith, long, none))

-- nothing was taken
pub asks_nothing : (told : Option (List ℕ)) → AsksWithin told told
asks_nothing told = ([], Consumes-nil told, omega arith)

-- no more was taken than a byte past the limit, and what is held
asks_within : (told left : Option (List ℕ)) (held used : List ℕ) → Consumes told (prepend_known held left) used → length used ≤ input_limit + 1 → length held < block_limit → AsksWithin told left
asks_within told left held used c within few =
    let long = length-append used held in
    (used ++ held, taken_with told left held used c, omega (arith, long, within, few))

room_left : (used more : List ℕ) (room new : ℕ) → length used + room ≡ input_limit → length more + new ≡ room → length (used ++ more) + new ≡ input_limit
room_left used more room new h k = omega (arith, h, k, length-append used more)

pub begins : (told old : Option (List ℕ)) (left : Bounded) → left.left ≡ told → left.room ≡ input_limit → IsUnderWay told left old old first_session
begins told old left is room = record {
  used = [];
  front = [];
  parted = λ more. refl;
  consumed = subst (λ o. Consumes told o []) (sym is) (Consumes-nil told);
  spent = omega (arith, room);
  written = [];
  appended = Appends-nil old;
  through = (refl, refl);
}

module _ (told : Option (List ℕ)) (left : Bounded) (input : HeldInput) (rest : Option (List ℕ)) (old now : Option (List ℕ)) (s : GtpSession) (run : IsUnderWay told left old now s) where
  abbrev mid : Bounded
  mid = bounded input rest

  -- the bytes that were used, with those of a part more
  used_more : (more : List ℕ) → Consumes left.left mid.left more → Consumes told mid.left (run.used ++ more)
  used_more more taken = Consumes-trans told left.left mid.left run.used more run.consumed taken

  -- a line that a line feed ended
  fed : (line more : List ℕ) → HasNone 10 line → raw_lines ((run.used ++ (line ++ 10 ∷ [])) ++ more) ≡ (run.front ++ line ∷ []) ++ raw_lines more
  fed line more none =
      ap raw_lines (append_assoc run.used (line ++ 10 ∷ []) more)
      ∙ run.parted ((line ++ 10 ∷ []) ++ more)
      ∙ ap (λ xs. run.front ++ raw_lines xs) (append_assoc line (10 ∷ []) more)
      ∙ ap (λ ls. run.front ++ ls) (parted_more 10 line more none)
      ∙ sym (append_assoc run.front (line ∷ []) (raw_lines more))

  pub goes_on : (front : List ℕ) (new : Option (List ℕ)) (t : GtpSession) → IsRawLine left mid front LineFeed → IsServed s front true now new t → IsUnderWay told mid old new t
  goes_on front new t raw served =
      let line = raw.0 in
      let bytes = served.0 in
      let serves : Serves s line (reply bytes) t = serves_kept s line (reply bytes) t (subst (λ l. Serves s l (reply bytes) t) raw.2 served.1) in
      record {
        used = run.used ++ (line ++ 10 ∷ []);
        front = run.front ++ line ∷ [];
        parted = λ more. fed line more raw.1;
        consumed = used_more (line ++ 10 ∷ []) raw.3.0;
        spent = room_left run.used (line ++ 10 ∷ []) left.room mid.room run.spent raw.3.1;
        written = run.written ++ bytes;
        appended = Appends-trans old now new run.written bytes run.appended served.2;
        through = through_more first_session run.front run.written s line bytes t run.through serves;
      }

  -- a line that was taken: the bytes that are told, and the lines after it
  record IsTaken (front : List ℕ) (e : Ending) : Type 0 where
    line : List ℕ
    is : front ≡ kept line
    bytes : List ℕ
    tells : Tells told bytes
    behind : List (List ℕ)
    parted : raw_lines bytes ≡ run.front ++ line ∷ behind
    last : e ≡ End → behind ≡ []

  taken : (front : List ℕ) (e : Ending) → IsRawLine left mid front e → IsTaken front e
  taken front LineFeed raw =
      let line = raw.0 in
      let more = left_bytes mid.left in
      record {
        line = line;
        is = raw.2;
        bytes = (run.used ++ (line ++ 10 ∷ [])) ++ more;
        tells = tells_all told mid.left (run.used ++ (line ++ 10 ∷ [])) (used_more (line ++ 10 ∷ []) raw.3.0);
        behind = raw_lines more;
        parted = fed line more raw.1 ∙ append_assoc run.front (line ∷ []) (raw_lines more);
        last = λ h. absurd (cc h);
      }
  taken front End raw =
      let line = raw.0 in
      record {
        line = line;
        is = raw.2;
        bytes = run.used ++ line;
        tells = subst (Tells told) (ap (λ xs. (run.used ++ line) ++ xs) (none_left mid.left raw.4) ∙ append-nil (run.used ++ line)) (tells_all told mid.left (run.used ++ line) (used_more line raw.3.0));
        behind = [];
        parted = run.parted line ∙ ap (λ ls. run.front ++ ls) (parted_one 10 line raw.1);
        last = λ h. refl;
      }

  -- no more was asked for than the line and what is held
  pub asks_for_line : (front : List ℕ) (e : Ending) → IsRawLine left mid front e → length input.held < block_limit → AsksWithin told rest
  asks_for_line front LineFeed raw few =
      let line = raw.0 in
      let spent = room_left run.used (line ++ 10 ∷ []) left.room mid.room run.spent raw.3.1 in
      asks_within told rest input.held (run.used ++ (line ++ 10 ∷ [])) (used_more (line ++ 10 ∷ []) raw.3.0) (omega (arith, spent)) few
  asks_for_line front End raw few =
      let line = raw.0 in
      let spent = room_left run.used line left.room mid.room run.spent raw.3.1 in
      asks_within told rest input.held (run.used ++ line) (used_more line raw.3.0) (omega (arith, spent)) few

  -- the session ends with the input, or with a line
  pub ends_with_input : (front : List ℕ) (new : Option (List ℕ)) (t : GtpSession) → IsRawLine left mid front End → IsServed s front true now new t → HasRun told rest old new
  ends_with_input front new t raw served =
      let k = taken front End raw in
      let bytes = served.0 in
      let serves : Serves s k.line (reply bytes) t = serves_kept s k.line (reply bytes) t (subst (λ l. Serves s l (reply bytes) t) k.is served.1) in (
        k.bytes,
        run.written ++ bytes,
        k.tells,
        Appends-trans old now new run.written bytes run.appended served.2,
        subst (λ ls. IsRun first_session ls (run.written ++ bytes)) (sym (k.parted ∙ ap (λ ls. run.front ++ k.line ∷ ls) (k.last refl)))
            (through_is_run first_session (run.front ++ k.line ∷ []) (run.written ++ bytes) t (through_more first_session run.front run.written s k.line bytes t run.through serves)),
        inl (end_of_reader rest input.held raw.4),
      )

  -- if a line feed ended the last line, no more was asked for than what is held
  stops_at : (front : List ℕ) (e : Ending) (bytes : List ℕ) (t : GtpSession) → IsRawLine left mid front e → Serves s front (last_reply bytes) t → length input.held < block_limit
      → IsAtEnd rest ⊎ EndsWithLine told rest (run.written ++ bytes)
  stops_at front End bytes t raw served few = inl (end_of_reader rest input.held raw.4)
  stops_at front LineFeed bytes t raw served few =
      let line = raw.0 in
      inr (record {
        front = run.front;
        line = line;
        used = run.used ++ (line ++ 10 ∷ []);
        parted = ap raw_lines (sym (append-nil (run.used ++ (line ++ 10 ∷ [])))) ∙ fed line [] raw.1 ∙ append_assoc run.front (line ∷ []) ([] ∷ []);
        before = run.written;
        last = s;
        through = run.through;
        bytes = bytes;
        new = t;
        ends = serves_kept s line (last_reply bytes) t (subst (λ l. Serves s l (last_reply bytes) t) raw.2 served);
        whole = refl;
        ahead = input.held;
        few = few;
        taken = taken_with told rest input.held (run.used ++ (line ++ 10 ∷ [])) (used_more (line ++ 10 ∷ []) raw.3.0);
      })

  pub ends_with_line : (front : List ℕ) (e : Ending) (new : Option (List ℕ)) (t : GtpSession) → IsRawLine left mid front e → IsServed s front false now new t → length input.held < block_limit → HasRun told rest old new
  ends_with_line front e new t raw served few =
      let k = taken front e raw in
      let bytes = served.0 in
      let serves : Serves s k.line (last_reply bytes) t = serves_kept s k.line (last_reply bytes) t (subst (λ l. Serves s l (last_reply bytes) t) k.is served.1) in (
        k.bytes,
        run.written ++ bytes,
        k.tells,
        Appends-trans old now new run.written bytes run.appended served.2,
        subst (λ ls. IsRun first_session ls (run.written ++ bytes)) (sym k.parted) (ended_is_run first_session run.front run.written s k.line k.behind bytes t run.through serves),
        stops_at front e bytes t raw served.1 few,
      )

  -- the replies to the lines that had ended, where the bytes after them have no line feed
  read_to : (all line : List ℕ) → HasNone 10 line → take input_limit all ≡ run.used ++ line → IsReadTo all run.written
  read_to all line none is = record {
    front = run.front;
    line = line;
    parted = ap raw_lines is ∙ run.parted line ∙ ap (λ ls. run.front ++ ls) (parted_one 10 line none);
    last = s;
    through = run.through;
  }

  -- a read failed, or the input is too long
  pub read_failed : (read write : Type 0) → StopsInLine read input.held left mid → HasStoppedOn read write Read told rest old now
  read_failed read write (line, none, inl (known, empty, given)) =
      let spent = room_left run.used line left.room mid.room run.spent given.1 in
      let used = run.used ++ line in (
        used,
        run.written,
        subst (Consumes told rest) (ap (λ xs. used ++ xs) empty ∙ append-nil used) (taken_with told rest input.held used (used_more line given.0)),
        run.appended,
        read_to used line none (take_all input_limit used (omega (arith, spent))),
        inl known,
      )
  read_failed read write (line, none, inr (b, consumed, full)) =
      let spent = run.spent in
      let used = run.used ++ line in
      let count = length-append run.used line in
      let all : (run.used ++ (line ++ b ∷ [])) ++ input.held ≡ used ++ (b ∷ input.held) =
      ap (λ xs. xs ++ input.held) (sym (append_assoc run.used line (b ∷ []))) ∙ append_assoc used (b ∷ []) input.held in
      let long = length-append used (b ∷ input.held) in (
        used ++ (b ∷ input.held),
        run.written,
        subst (Consumes told rest) all (taken_with told rest input.held (run.used ++ (line ++ b ∷ [])) (used_more (line ++ b ∷ []) consumed)),
        run.appended,
        read_to (used ++ (b ∷ input.held)) line none
            (take-append-le input_limit used (b ∷ input.held) (omega (arith, spent, full, count)) ∙ take_all input_limit used (omega (arith, spent, full, count))),
        inr (omega (arith, spent, full, count, long)),
      )

  -- no more was asked for than a byte past the limit, and what is held
  pub asks_to_stop : (read : Type 0) → StopsInLine read input.held left mid → length input.held < block_limit → AsksWithin told rest
  asks_to_stop read (line, none, inl (known, empty, given)) few =
      let spent = room_left run.used line left.room mid.room run.spent given.1 in
      asks_within told rest input.held (run.used ++ line) (used_more line given.0) (omega (arith, spent)) few
  asks_to_stop read (line, none, inr (b, consumed, full)) few =
      let spent = run.spent in
      let count = length-append run.used (line ++ b ∷ []) in
      let more = length-append line (b ∷ []) in
      asks_within told rest input.held (run.used ++ (line ++ b ∷ [])) (used_more (line ++ b ∷ []) consumed) (omega (arith, spent, full, count, more)) few

  -- a write failed
  pub write_failed : (read write : Type 0) (front : List ℕ) (e : Ending) (new : Option (List ℕ)) → IsRawLine left mid front e → IsPartServed s front now new → write → HasStoppedOn read write Write told rest old new
  write_failed read write front e new raw (out, t, served, part) known =
      let k = taken front e raw in
      let serves : Serves s k.line out t = serves_kept s k.line out t (subst (λ l. Serves s l out t) k.is served) in
      let whole : run.written ++ out.bytes ≡ (run.written ++ part.0) ++ part.1 = ap (λ xs. run.written ++ xs) part.2 ∙ sym (append_assoc run.written part.0 part.1) in (
        k.bytes,
        run.written ++ part.0,
        k.tells,
        Appends-trans old now new run.written part.0 run.appended part.3,
        record {
          front = run.front ++ k.line ∷ [];
          behind = k.behind;
          parted = k.parted ∙ sym (append_assoc run.front (k.line ∷ []) k.behind);
          rest = part.1;
          run = subst (IsRun first_session (run.front ++ k.line ∷ [])) whole (go k.line out.bytes out.ends serves);
        },
        known,
      )
    where
      go : (line bytes : List ℕ) (ends : Bool) → Serves s line (record { bytes = bytes; ends = ends }) t → IsRun first_session (run.front ++ line ∷ []) (run.written ++ bytes)
      go line bytes false serves =
          through_is_run first_session (run.front ++ line ∷ []) (run.written ++ bytes) t (through_more first_session run.front run.written s line bytes t run.through serves)
      go line bytes true serves = ended_is_run first_session run.front run.written s line [] bytes t run.through serves

-- memory was refused, and the write failed that says so
pub no_memory_part : (s : GtpSession) (line : List ℕ) (old new : Option (List ℕ)) (bytes : List ℕ) → IsTrue (needs_memory (request_of line)) → bytes ≡ failure [] (codes "out of memory")
    → TakesPart old new bytes → IsPartServed s line old new
no_memory_part s line old new bytes needed is part = (reply bytes, s, inr (record { needed = needed; written = ap reply is; kept = refl }), part)
