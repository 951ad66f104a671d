-- What is said of a claim that stands after a record, and what the front of the input decides of the whole.
use Rattle.tsumego_replies.proofs.Common.{◌≡◌, ℕ, ◌+◌, ◌-◌, ◌≤◌, Bool, true, false, List, [], ◌∷◌, ◌++◌, length, drop, Option, Some, None, Result, Ok, Err, inl, inr, refl, sym, ◌∙◌, ap, ap₂, subst, arith, length-append, if◌then◌else◌, IfOk, string_bytes, Consumes, IsAtEnd, GameProblem, is_white, GameTree, Refuses, lines, Why, why_value, verdict, Command, Check, Within, Audit, Solve, Gtp, NoRecord, Response, Status, Answered, white_limit, IsRecord, Says, Tells, AllWhite, AsksOn, HasNoRecord, IsReply, IsRejectionOf, IsJudged, IsJudgedAfter, IsCheckedAfter, IsSaidAfter, SaysAfter}
use Rattle.std.proofs.Common.{◌<◌, append_assoc, append-nil}
use Rattle.std.proofs.KnownBytes.{Consumes-nil, Keeps-refl}
use lib.Seq.{drop-append-le}
use Rattle.go_points.specs.declared.Colour.{Colour}
use Rattle.sgf_text.specs.Followers.{byte_limit}
use Rattle.sgf_text.specs.Laws.{FrontsDecide}
use Rattle.tsumego_problem.specs.Values.{skip_white}
use Rattle.cert_check.specs.Verdict.{accepted, rejected}
use Rattle.cert_check.specs.declared.reject.Reject.{Reject}
use Rattle.tsumego_replies.specs.declared.record.NoRecord.TheVariants.{Refused, Memory}
use Rattle.tsumego_replies.specs.declared.reply.Reply.{Reply}
use Rattle.tsumego_replies.specs.Texts.{wins_text}
use Rattle.tsumego_replies.specs.Bounds.{front_limit}
use Rattle.tsumego_replies.specs.Asking.{MayAsk}
use Rattle.tsumego_replies.specs.Answers.{JudgesClaim, check_answer, white_before}
use Rattle.tsumego_replies.specs.Replies.{Decides, IsReplyAfter, IsPastLimit, claim_verdict}
use Rattle.tsumego_replies.proofs.Claims.{has_verdict}
use Rattle.tsumego_replies.proofs.Saying.{some_bytes}

-- ---- white space

pub skip_all : (white rest : List ℕ) → AllWhite white → skip_white (white ++ rest) ≡ skip_white rest
skip_all [] rest h = refl
skip_all (x ∷ white) rest h = ap (λ t. if t then skip_white (white ++ rest) else x ∷ white ++ rest) h.0 ∙ skip_all white rest h.1

pub skip_none : (bytes rest : List ℕ) → skip_white bytes ≡ [] → skip_white (bytes ++ rest) ≡ skip_white rest
skip_none [] rest e = refl
skip_none (x ∷ bytes) rest e = go (is_white x) e (skip_none bytes rest)
  where
    go : (t : Bool) → (if t then skip_white bytes else x ∷ bytes) ≡ [] → (skip_white bytes ≡ [] → skip_white (bytes ++ rest) ≡ skip_white rest) → (if t then skip_white (bytes ++ rest) else x ∷ bytes ++ rest) ≡ skip_white rest
    go true e below = below e
    go false e below = absurd (cc e)

pub skip_some : (bytes rest : List ℕ) → 0 < length (skip_white bytes) → skip_white (bytes ++ rest) ≡ skip_white bytes ++ rest
skip_some [] rest some = absurd (omega arith)
skip_some (x ∷ bytes) rest some = go (is_white x) some (skip_some bytes rest)
  where
    go : (t : Bool) → 0 < length (if t then skip_white bytes else x ∷ bytes) → (0 < length (skip_white bytes) → skip_white (bytes ++ rest) ≡ skip_white bytes ++ rest)
        → (if t then skip_white (bytes ++ rest) else x ∷ bytes ++ rest) ≡ (if t then skip_white bytes else x ∷ bytes) ++ rest
    go true some below = below some
    go false some below = refl

-- ---- what the reader tells in parts

pub told_more : (a b : Option (List ℕ)) (bytes rest : List ℕ) → Consumes a b bytes → Tells b rest → Tells a (bytes ++ rest)
told_more None b bytes rest c t = tt
told_more (Some x) None bytes rest c t = absurd c
told_more (Some x) (Some y) bytes rest c t = ap (λ l. bytes ++ l) t ∙ sym c

pub told_none : (a : Option (List ℕ)) → IsAtEnd a → Tells a []
told_none None end = tt
told_none (Some x) end = sym end

-- ---- the claim

pub accepted_after : {E : Type 0} (q : GameProblem) (front : List ℕ) (told : Option (List ℕ)) (x : Colour) (r : Result Reply E)
    → (bytes : List ℕ) × Tells told bytes × (verdict q (lines q.game.size (front ++ bytes)) ≡ accepted x)
    → IfOk r (λ s. (s.status ≡ Answered) × (string_bytes s.text ≡ wins_text x)) → IfOk r (λ s. IsJudgedAfter q front told s.status (string_bytes s.text))
accepted_after q front told x (Ok s) (bytes, tells, is) (status, text) = (bytes, tells, ap₂ (λ a b. (a, b)) status text ∙ sym (ap (check_answer q.game.size) is))
accepted_after q front told x (Err e) all said = tt

pub rejected_after : {E : Type 0} (q : GameProblem) (front : List ℕ) (told : Option (List ℕ)) (e : Reject) (r : Result Reply E) → IfOk r (λ s. IsRejectionOf q.game.size e s.status (string_bytes s.text))
    → ((why : Why) → why_value q.game.size e.why ≡ Some why → (bytes : List ℕ) × Tells told bytes × (verdict q (lines q.game.size (front ++ bytes)) ≡ rejected e.place why))
    → IfOk r (λ s. IsJudgedAfter q front told s.status (string_bytes s.text))
rejected_after q front told e (Ok s) (why, given, status, text) all =
    let (bytes, tells, is) = all why given in
    (bytes, tells, ap₂ (λ a b. (a, b)) status text ∙ sym (ap (check_answer q.game.size) is))
rejected_after q front told e (Err f) said all = tt

-- white space, and then a claim
judges : (q : GameProblem) (bytes claim : List ℕ) (white : ℕ) (status : Status) (text : List ℕ) → skip_white bytes ≡ claim → length bytes ≡ white + length claim → white ≤ white_limit
    → (status, text) ≡ check_answer q.game.size (claim_verdict q claim) → JudgesClaim q bytes status text
judges q bytes claim white status text skipped long few said =
    let same = ap length skipped in
    (omega (arith, same, long, few), (claim_verdict q (skip_white bytes), has_verdict q (skip_white bytes), said ∙ ap (λ c. check_answer q.game.size (claim_verdict q c)) (sym skipped)))

module _ {E : Type 0} (q : GameProblem) (behind claim : List ℕ) (told : Option (List ℕ)) (skipped : claim ≡ skip_white behind) (few : length behind - length claim ≤ white_limit) (low : length claim ≤ length behind) (r : Result Reply E) where
  pub claim_held : 0 < length claim → IfOk r (λ s. IsJudgedAfter q claim told s.status (string_bytes s.text)) → IfOk r (λ s. IsCheckedAfter q behind told s.status (string_bytes s.text))
  claim_held some h = go r h
    where
      go : (r : Result Reply E) → IfOk r (λ s. IsJudgedAfter q claim told s.status (string_bytes s.text)) → IfOk r (λ s. IsCheckedAfter q behind told s.status (string_bytes s.text))
      go (Err e) h = tt
      go (Ok s) (rest, tells, said) =
          let long = length-append behind rest in
          let more = length-append claim rest in
          let on : skip_white (behind ++ rest) ≡ claim ++ rest = skip_some behind rest (subst (λ l. 0 < length l) skipped some) ∙ ap (λ l. l ++ rest) (sym skipped) in
          (rest, tells, judges q (behind ++ rest) (claim ++ rest) (length behind - length claim) s.status (string_bytes s.text) on (omega (arith, long, more, low)) few said)

  -- the white space goes on in the reader
  module _ (none : length claim ≡ 0) (next : Option (List ℕ)) (white : List ℕ) (all : AllWhite white) (room : length white + length behind ≤ white_limit) where
    nothing : skip_white behind ≡ []
    nothing = sym skipped ∙ empty claim none
      where
        empty : (l : List ℕ) → length l ≡ 0 → l ≡ []
        empty [] e = refl
        empty (x ∷ l) e = absurd (omega (arith, e))

    past : (rest : List ℕ) → skip_white (behind ++ (white ++ rest)) ≡ skip_white rest
    past rest = skip_none behind (white ++ rest) nothing ∙ skip_all white rest all

    pub claim_read : (b : ℕ) → is_white b ≡ false → Consumes told next (white ++ b ∷ []) → IfOk r (λ s. IsJudgedAfter q (b ∷ []) next s.status (string_bytes s.text)) → IfOk r (λ s. IsCheckedAfter q behind told s.status (string_bytes s.text))
    claim_read b other given h = go r h
      where
        go : (r : Result Reply E) → IfOk r (λ s. IsJudgedAfter q (b ∷ []) next s.status (string_bytes s.text)) → IfOk r (λ s. IsCheckedAfter q behind told s.status (string_bytes s.text))
        go (Err e) h = tt
        go (Ok s) (rest, tells, said) =
            let whole : (white ++ b ∷ []) ++ rest ≡ white ++ b ∷ rest = append_assoc white (b ∷ []) rest in
            let on : skip_white (behind ++ ((white ++ b ∷ []) ++ rest)) ≡ b ∷ rest =
            ap (λ l. skip_white (behind ++ l)) whole ∙ past (b ∷ rest) ∙ ap (λ t. if t then skip_white rest else b ∷ rest) other in
            let long = length-append behind ((white ++ b ∷ []) ++ rest) in
            let more = ap length whole ∙ length-append white (b ∷ rest) in (
              (white ++ b ∷ []) ++ rest,
              told_more told next (white ++ b ∷ []) rest given tells,
              judges q (behind ++ ((white ++ b ∷ []) ++ rest)) (b ∷ rest) (length white + length behind) s.status (string_bytes s.text) on (omega (arith, long, more)) room said,
            )

    pub claim_missing : Consumes told next white → IsAtEnd next → IfOk r (λ s. IsJudgedAfter q [] (Some []) s.status (string_bytes s.text)) → IfOk r (λ s. IsCheckedAfter q behind told s.status (string_bytes s.text))
    claim_missing given end h = go r h
      where
        go : (r : Result Reply E) → IfOk r (λ s. IsJudgedAfter q [] (Some []) s.status (string_bytes s.text)) → IfOk r (λ s. IsCheckedAfter q behind told s.status (string_bytes s.text))
        go (Err e) h = tt
        go (Ok s) (rest, tells, said) =
            let on : skip_white (behind ++ (white ++ [])) ≡ [] = past [] in
            let long = length-append behind (white ++ []) in
            let more = length-append white [] in (
              white ++ [],
              told_more told next white [] given (told_none next end),
              judges q (behind ++ (white ++ [])) [] (length white + length behind) s.status (string_bytes s.text) on (omega (arith, long, more)) room
                  (said ∙ ap (λ l. check_answer q.game.size (claim_verdict q l)) tells),
            )

-- ---- more white space than may be

skip_short : (bytes : List ℕ) → length (skip_white bytes) ≤ length bytes
skip_short [] = omega arith
skip_short (x ∷ bytes) = go (is_white x) (skip_short bytes)
  where
    go : (t : Bool) → length (skip_white bytes) ≤ length bytes → length (if t then skip_white bytes else x ∷ bytes) ≤ length (x ∷ bytes)
    go true below = omega (arith, below)
    go false below = omega arith

skip_joined : (bytes rest : List ℕ) → length (skip_white (bytes ++ rest)) ≤ length (skip_white bytes) + length rest
skip_joined [] rest = let short = skip_short rest in omega (arith, short)
skip_joined (x ∷ bytes) rest = go (is_white x) (skip_joined bytes rest)
  where
    go : (t : Bool) → length (skip_white (bytes ++ rest)) ≤ length (skip_white bytes) + length rest
        → length (if t then skip_white (bytes ++ rest) else x ∷ bytes ++ rest) ≤ length (if t then skip_white bytes else x ∷ bytes) + length rest
    go true below = below
    go false below = let long = length-append bytes rest in omega (arith, long)

pub past_held : (behind claim : List ℕ) (told : Option (List ℕ)) → claim ≡ skip_white behind → white_limit < length behind - length claim → IsPastLimit behind told
past_held behind claim told skipped many =
    let b = some_bytes told in
    let long = length-append behind b.0 in
    let joined = skip_joined behind b.0 in
    let same = ap length skipped in
    (b.0, b.1, omega (arith, long, joined, same, many))

pub past_read : (behind claim : List ℕ) (told next : Option (List ℕ)) (white : List ℕ) → claim ≡ skip_white behind → length claim ≡ 0 → length claim ≤ length behind → AllWhite white
    → length white ≡ white_limit + 1 - (length behind - length claim) → length behind - length claim ≤ white_limit → Consumes told next white → IsPastLimit behind told
past_read behind claim told next white skipped none low all count few given =
    let b = some_bytes next in
    let nothing : skip_white behind ≡ [] = sym skipped ∙ empty claim none in
    let skips : skip_white (behind ++ (white ++ b.0)) ≡ skip_white b.0 = skip_none behind (white ++ b.0) nothing ∙ skip_all white b.0 all in
    let same = ap length skips in
    let short = skip_short b.0 in
    let long = length-append behind (white ++ b.0) in
    let more = length-append white b.0 in
    (white ++ b.0, told_more told next white b.0 given b.1, omega (arith, same, short, long, more, none, count, few))
  where
    empty : (l : List ℕ) → length l ≡ 0 → l ≡ []
    empty [] e = refl
    empty (x ∷ l) e = absurd (omega (arith, e))

-- ---- the front of the input

module _ (law : FrontsDecide) (front : List ℕ) where
  pub record_more : (rest : List ℕ) (tree : GameTree) (n : ℕ) (q : GameProblem) → IsRecord front tree n q → IsRecord (front ++ rest) tree n q
  record_more rest tree n q r = record { reads = law.reads front rest tree n r.reads; within = r.within; problem = r.problem }

  refused_more : (rest : List ℕ) → byte_limit < length front → (text : List ℕ) → Refuses front text → Refuses (front ++ rest) text
  refused_more rest long text (inl (fault, e, is)) = inl (fault, law.outcome front rest long ∙ e, is)
  refused_more rest long text (inr (tree, n, fault, reads, within, e, is)) = inr (tree, n, fault, law.reads front rest tree n reads, within, e, is)

  no_record : (rest : List ℕ) → ((text : List ℕ) → Refuses front text → Refuses (front ++ rest) text) → (none : NoRecord) → HasNoRecord front none → HasNoRecord (front ++ rest) none
  no_record rest more (Refused text) (refusal, refuses, is) = (refusal, more refusal refuses, is)
  no_record rest more Memory h = tt

  pub none_after : (told : Option (List ℕ)) → Decides front told → (none : NoRecord) → HasNoRecord front none → (rest : List ℕ) × Tells told rest × HasNoRecord (front ++ rest) none
  none_after told (inl long) none h = let b = some_bytes told in (b.0, b.1, no_record b.0 (refused_more b.0 long) none h)
  none_after told (inr end) none h = ([], told_none told end, subst (λ l. HasNoRecord l none) (sym (append-nil front)) h)

pub said_after : {E : Type 0} (command : Command) (front rest : List ℕ) (told : Option (List ℕ)) (r : Result Reply E) → Tells told rest → IfOk r (λ s. Says command (front ++ rest) s.status (string_bytes s.text))
    → IfOk r (λ s. SaysAfter command front told s.status (string_bytes s.text))
said_after command front rest told (Ok s) tells said = (rest, tells, said)
said_after command front rest told (Err e) tells said = tt

pub replied_after : {E : Type 0} (command : Command) (front rest : List ℕ) (told : Option (List ℕ)) (r : Result Response E) → Tells told rest → IfOk r (λ s. IsReply command (front ++ rest) s) → IfOk r (λ s. IsReplyAfter command front told s)
replied_after command front rest told (Ok s) tells said = (rest, tells, said)
replied_after command front rest told (Err e) tells said = tt

pub checked_after : {E : Type 0} (law : FrontsDecide) (front : List ℕ) (told : Option (List ℕ)) (tree : GameTree) (n : ℕ) (q : GameProblem) (r : Result Reply E) → IsRecord front tree n q → n ≤ length front
    → IfOk r (λ s. IsCheckedAfter q (drop n front) told s.status (string_bytes s.text)) → IfOk r (λ s. SaysAfter Check front told s.status (string_bytes s.text))
checked_after law front told tree n q (Ok s) found within (rest, tells, said) =
    (rest, tells, inr (q, tree, n, record_more law front rest tree n q found, subst (λ l. JudgesClaim q l s.status (string_bytes s.text)) (sym (drop-append-le n front rest within)) said))
checked_after law front told tree n q (Err e) found within said = tt

pub judged_after : {E : Type 0} (law : FrontsDecide) (front : List ℕ) (told : Option (List ℕ)) (tree : GameTree) (n : ℕ) (q : GameProblem) (r : Result (Option Reply) E) → IsRecord front tree n q → n ≤ length front
    → IfOk r (λ o. IsJudged q (drop n front) told o) → IfOk r (λ o. IsSaidAfter Check front told o)
judged_after law front told tree n q (Ok (Some s)) found within said = checked_after {E = Unit {0}} law front told tree n q (Ok s) found within said
judged_after law front told tree n q (Ok None) found within (rest, tells, many) =
    (rest, tells, (q, tree, n, record_more law front rest tree n q found, subst (λ l. white_limit < white_before l) (sym (drop-append-le n front rest within)) many))
judged_after law front told tree n q (Err e) found within said = tt

-- what is replied after the front is replied to all that the reader told
pub replied_to_all : {E : Type 0} (command : Command) (old told : Option (List ℕ)) (front : List ℕ) (r : Result Response E) → Consumes old told front → IfOk r (λ s. IsReplyAfter command front told s)
    → IfOk r (λ s. (bytes : List ℕ) × Tells old bytes × IsReply command bytes s)
replied_to_all command old told front (Ok s) given (rest, tells, said) = (front ++ rest, told_more old told front rest given tells, said)
replied_to_all command old told front (Err e) given said = tt

-- where the front is all of it
pub replied_to_whole : {E : Type 0} (command : Command) (old : Option (List ℕ)) (front : List ℕ) (r : Result Response E) → Tells old front → IfOk r (λ s. IsReplyAfter command front (Some []) s)
    → IfOk r (λ s. (bytes : List ℕ) × Tells old bytes × IsReply command bytes s)
replied_to_whole command old front (Ok s) tells (rest, none, said) = (front, tells, subst (λ l. IsReply command l s) (ap (λ l. front ++ l) none ∙ append-nil front) said)
replied_to_whole command old front (Err e) tells said = tt

-- ---- what is asked for

pub may_ask : (command : Command) (old new : Option (List ℕ)) (bytes : List ℕ) → Consumes old new bytes → length bytes ≤ front_limit → MayAsk (Some command) old new
may_ask Check old new bytes given few = inl (bytes, given, few)
may_ask (Within turns nodes) old new bytes given few = (bytes, given, few)
may_ask Audit old new bytes given few = (bytes, given, few)
may_ask (Solve steps table proof lift) old new bytes given few = (bytes, given, few)
may_ask Gtp old new bytes given few = (bytes, given, omega (arith, few))

pub may_ask_nothing : (command : Option Command) (old : Option (List ℕ)) → MayAsk command old old
may_ask_nothing None old = Keeps-refl old
may_ask_nothing (Some command) old = may_ask command old old [] (Consumes-nil old) (omega arith)

-- after the front
pub may_ask_on : (command : Command) (old told new : Option (List ℕ)) (front : List ℕ) → Consumes old told front → length front ≤ front_limit → AsksOn command front told new → MayAsk (Some command) old new
may_ask_on Check old told new front given few (inl same) = inl (front, subst (λ o. Consumes old o front) (sym same) given, few)
may_ask_on Check old told new front given few (inr (rest, tells, q, tree, n, found)) = inr (front ++ rest, told_more old told front rest given tells, q, tree, n, found)
may_ask_on (Within turns nodes) old told new front given few same = (front, subst (λ o. Consumes old o front) (sym same) given, few)
may_ask_on Audit old told new front given few same = (front, subst (λ o. Consumes old o front) (sym same) given, few)
may_ask_on (Solve steps table proof lift) old told new front given few same = (front, subst (λ o. Consumes old o front) (sym same) given, few)
may_ask_on Gtp old told new front given few same = (front, subst (λ o. Consumes old o front) (sym same) given, omega (arith, few))

pub asks_no_more : (command : Command) (front : List ℕ) (told : Option (List ℕ)) → AsksOn command front told told
asks_no_more Check front told = inl refl
asks_no_more (Within turns nodes) front told = refl
asks_no_more Audit front told = refl
asks_no_more (Solve steps table proof lift) front told = refl
asks_no_more Gtp front told = refl

-- `check` behind a record
pub asks_behind : (law : FrontsDecide) (front : List ℕ) (told new : Option (List ℕ)) (tree : GameTree) (n : ℕ) (q : GameProblem) → IsRecord front tree n q → AsksOn Check front told new
asks_behind law front told new tree n q found = let b = some_bytes told in inr (b.0, b.1, q, tree, n, record_more law front b.0 tree n q found)
