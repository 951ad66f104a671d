-- A source of the lines in some bytes and then in what a reader gives, and what one call of it gives and leaves.
--     Unread      the bytes that have not been used yet: those that are held, and then those that the reader tells, if it tells any
--     Streamed      how the lines are spelled, the board's size, the bytes that are left, the number of the line or fault that was
--         answered last, and the fault
--     streamed_of, short_streamed_of      before the first call, for an ordinary claim and a short one
--     Tells told bytes      the bytes are those that are told, if any are told
--     Uses old new used      these bytes were used from the front
--     IsRead k n old new r      what a call gives, from the bytes that were left before it to those left after it
--     reader_gives s r t      a call at s, which has not failed, gives r and leaves t
use Rattle.std.specs.Prelude.{◌≡◌, ℕ, false, nat_eq, length, List, [], ◌∷◌, ◌++◌, Option, Some, None, Result, Ok, Err}
use Rattle.std.specs.Io.KnownBytes.{Consumes, IsAtEnd}
use Rattle.proof_cert.specs.Lines.{Line}
use Rattle.proof_cert.specs.Text.{line_feed, lines_by, max_line}
use Rattle.proof_cert.specs.declared.spelling.Spelling.{Spelling}
use Rattle.proof_cert.specs.declared.spelling.Spelling.TheVariants.{Ordinary, Short}
use Rattle.proof_cert.specs.declared.reader_source.Ending.{Ending}
use Rattle.proof_cert.specs.declared.reader_source.Ending.TheVariants.{LineFeed, End, TooLong}
use Rattle.proof_cert.specs.Given.{Gave, fault_of}
use Rattle.proof_cert.specs.declared.source.SourceFault.{SourceFault}
use Rattle.proof_cert.specs.declared.source.SourceFault.TheVariants.{Malformed, Memory, Read}

pub record Unread : Type 0 where
  pub held : List ℕ
  pub told : Option (List ℕ)

pub record Streamed : Type 0 where
  pub spelling : Spelling
  pub size : ℕ
  pub left : Unread
  pub number : ℕ
  pub fault : Option SourceFault

abbrev pub streamed_by : Spelling → ℕ → List ℕ → Option (List ℕ) → Streamed
streamed_by k n held told = record { spelling = k; size = n; left = record { held = held; told = told }; number = 0; fault = None }

abbrev pub streamed_of : ℕ → List ℕ → Option (List ℕ) → Streamed
streamed_of n held told = streamed_by Ordinary n held told

abbrev pub short_streamed_of : ℕ → List ℕ → Option (List ℕ) → Streamed
short_streamed_of n held told = streamed_by Short n held told

abbrev pub Tells : Option (List ℕ) → List ℕ → Type 0
Tells None bytes = Unit {0}
Tells (Some told) bytes = bytes ≡ told

-- the bytes that are told; none if nothing is told
abbrev pub told_bytes : Option (List ℕ) → List ℕ
told_bytes None = []
told_bytes (Some told) = told

-- all the bytes that are left, as far as they are told
abbrev pub bytes_left : Unread → List ℕ
bytes_left b = b.held ++ told_bytes b.told

-- some of the bytes may come from the reader, after those that were held
pub record Uses (old new : Unread) (used : List ℕ) : Type 0 where
  pub read : List ℕ
  pub told : Consumes old.told new.told read
  pub bytes : old.held ++ read ≡ used ++ new.held

abbrev pub HasEnded : Unread → Type 0
HasEnded b = (b.held ≡ []) × IsAtEnd b.told

-- one byte was used, or there is none
abbrev pub IsByte : Unread → Unread → Option ℕ → Type 0
IsByte old new None = Uses old new [] × HasEnded new
IsByte old new (Some b) = Uses old new (b ∷ [])

-- no byte is a line feed
abbrev pub HasNoFeed : List ℕ → Type 0
HasNoFeed [] = Unit {0}
HasNoFeed (x ∷ b) = (nat_eq x line_feed ≡ false) × HasNoFeed b

-- How the bytes of a line ended: by a line feed, by the end, or by a byte more than a line may have.
abbrev pub IsPiece : Unread → Unread → List ℕ → Ending → Type 0
IsPiece old new b LineFeed = HasNoFeed b × Uses old new (b ++ line_feed ∷ [])
IsPiece old new b End = HasNoFeed b × Uses old new b × HasEnded new
IsPiece old new b TooLong = (x : ℕ) × HasNoFeed (b ++ x ∷ []) × Uses old new (b ++ x ∷ []) × (length b ≡ max_line)

-- A line: the bytes that were used give it, whatever follows. None: there are no more bytes. A malformed line: the bytes that were
-- used, followed by those that are left, begin with it. A read may always fail, and no memory is allocated.
abbrev pub IsRead : Spelling → ℕ → Unread → Unread → Result (Option Line) SourceFault → Type 0
IsRead k n old new (Ok (Some l)) = (used : List ℕ) × Uses old new used × ((more : List ℕ) → lines_by k n (used ++ more) ≡ Some l ∷ lines_by k n more)
IsRead k n old new (Ok None) = Uses old new [] × HasEnded new
IsRead k n old new (Err Malformed) = (used : List ℕ) × Uses old new used × (rest : List (Option Line)) × (lines_by k n (used ++ bytes_left new) ≡ None ∷ rest)
IsRead k n old new (Err Memory) = ⊥
IsRead k n old new (Err Read) = Unit {0}

-- the spelling and the size stay
pub record IsKept (s t : Streamed) : Type 0 where
  pub spelling : t.spelling ≡ s.spelling
  pub size : t.size ≡ s.size

abbrev pub reader_gives : Streamed → Result (Option Line) SourceFault → Streamed → Type 0
reader_gives s r t = (s.fault ≡ None) × IsKept s t × (t.fault ≡ fault_of r) × IsRead s.spelling s.size s.left t.left r

-- A source gives the lines of its bytes in order, and has given all of them when it has ended.
pub record IsFrontOfReader (k : Spelling) (n : ℕ) (held : List ℕ) (told : Option (List ℕ)) (ls : List (Option Line)) (t : Streamed) : Type 0 where
  pub front : (bytes : List ℕ) × Tells told bytes × (rest : List (Option Line)) × (lines_by k n (held ++ bytes) ≡ ls ++ rest)
  pub all : (u : Streamed) → reader_gives t (Ok None) u → (bytes : List ℕ) × Tells told bytes × (lines_by k n (held ++ bytes) ≡ ls)

abbrev pub LinesGivenBy : Spelling → Type 0
LinesGivenBy k = (n : ℕ) (held : List ℕ) (told : Option (List ℕ)) (ls : List (Option Line)) (t : Streamed) → Gave reader_gives (streamed_by k n held told) ls t → IsFrontOfReader k n held told ls t

abbrev pub LinesGivenOfReader : Type 0
LinesGivenOfReader = LinesGivenBy Ordinary

abbrev pub LinesGivenOfShortReader : Type 0
LinesGivenOfShortReader = LinesGivenBy Short
