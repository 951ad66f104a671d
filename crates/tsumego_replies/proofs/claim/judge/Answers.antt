use Rattle.tsumego_replies.proofs.Common.{rules, ◌≡◌, ◌+◌, ◌-◌, ◌≤◌, [], length, Some, subst, arith, IfOk, string_bytes, white_limit, IsJudgedAfter}
use Rattle.tsumego_replies.specs.declared.input.White.{White}
use Rattle.tsumego_replies.specs.Replies.{IsPastWhite}
use Rattle.tsumego_replies.proofs.Judged.{claim_held, claim_read, claim_missing, past_held, past_read}
use Rattle.tsumego_replies.proofs.claim.judge.Goals as goal

pub returns-then-white-gt-MAX_WHITE : goal.returns-then-white-gt-MAX_WHITE
returns-then-white-gt-MAX_WHITE g c =
    past_held c.args.behind.now c.skip_white-claim.result.now (g.R.Read.remaining c.args.reader.now) c.skip_white-claim.ensures.value (search rules)

pub returns-then-not-is_empty : goal.returns-then-not-is_empty
returns-then-not-is_empty g c =
    let q = c.args.problem.now in let behind = c.args.behind.now in let claim = c.skip_white-claim.result.now in
    let few : length behind - length claim ≤ white_limit = search rules in
    c.as_judged.ensures q behind (g.R.Read.remaining c.args.reader.now) (claim_held q behind claim (g.R.Read.remaining c.args.reader.now) c.skip_white-claim.ensures.value few c.skip_white-claim.ensures.shorter c.judge_lines.result (search rules) c.judge_lines.ensures)

pub returns-in-Ok-Before : goal.returns-in-Ok-Before
returns-in-Ok-Before g c =
    let q = c.args.problem.now in let behind = c.args.behind.now in let claim = c.skip_white-claim.result.now in
    let told = g.R.Read.remaining c.args.reader.now in let next = g.R.Read.remaining c.read_past_white.new.reader in
    let few : length behind - length claim ≤ white_limit = search rules in
    let none : length claim ≡ 0 = search rules in
    let past = subst (λ (o : White). IsPastWhite (white_limit + 1 - (length behind - length claim)) told next o) c.in-Ok-Before.field-0-is c.in-Ok-Before.ensures in
    let less = past.2 in
    c.as_judged-in-Ok-Before.ensures q behind told (claim_read q behind claim told c.skip_white-claim.ensures.value few c.skip_white-claim.ensures.shorter c.judge_lines-in-Ok-Before.result none next past.0 past.1 (omega (arith, less, none, few))
    c.in-Ok-Before.first past.4 past.3 c.judge_lines-in-Ok-Before.ensures)

pub returns-in-Ok-End : goal.returns-in-Ok-End
returns-in-Ok-End g c =
    let q = c.args.problem.now in let behind = c.args.behind.now in let claim = c.skip_white-claim.result.now in
    let told = g.R.Read.remaining c.args.reader.now in let next = g.R.Read.remaining c.read_past_white.new.reader in
    let few : length behind - length claim ≤ white_limit = search rules in
    let none : length claim ≡ 0 = search rules in
    let past = subst (λ (o : White). IsPastWhite (white_limit + 1 - (length behind - length claim)) told next o) c.in-Ok-End.field-0-is c.in-Ok-End.ensures in
    let less = past.2 in
    let judged = subst (λ l. IfOk c.judge_lines-in-Ok-End.result (λ r. IsJudgedAfter q [] (Some l) r.status (string_bytes r.text))) c.as_slice-nothing.ensures c.judge_lines-in-Ok-End.ensures in
    c.as_judged-in-Ok-End.ensures q behind told (claim_missing q behind claim told c.skip_white-claim.ensures.value few c.skip_white-claim.ensures.shorter c.judge_lines-in-Ok-End.result none next past.0 past.1 (omega (arith, less, none, few))
    past.3 past.4 judged)

pub returns-in-Ok-TooMuch : goal.returns-in-Ok-TooMuch
returns-in-Ok-TooMuch g c =
    let behind = c.args.behind.now in let claim = c.skip_white-claim.result.now in
    let told = g.R.Read.remaining c.args.reader.now in let next = g.R.Read.remaining c.read_past_white.new.reader in
    let few : length behind - length claim ≤ white_limit = search rules in
    let none : length claim ≡ 0 = search rules in
    let past = subst (λ (o : White). IsPastWhite (white_limit + 1 - (length behind - length claim)) told next o) c.in-Ok-TooMuch.field-0-is c.in-Ok-TooMuch.ensures in
    past_read behind claim told next past.0 c.skip_white-claim.ensures.value none c.skip_white-claim.ensures.shorter past.1 past.2 few past.3
