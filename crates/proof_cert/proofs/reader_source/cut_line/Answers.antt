use Rattle.proof_cert.proofs.Common.{rules, arith, ◌≡◌, ◌≤◌, ◌<◌, ◌++◌, [], ◌∷◌, ℕ, List, Option, option_map, length, sym, ap, ◌∙◌, subst, length-append, MAX_SIZE, Line, line_value, bytes_left, line_by, lines_by}
use Rattle.proof_cert.specs.Streamed.{IsPiece}
use Rattle.proof_cert.specs.declared.reader_source.Ending.{Ending}
use Rattle.proof_cert.proofs.Streams.{line_fed, line_cut, line_long, none_left}
use Rattle.proof_cert.proofs.reader_source.cut_line.Goals as goal

pub returns-in-Some : goal.returns-in-Some
returns-in-Some g c =
    let y = c.args.spelling in
    let n = c.args.size in
    let b = c.read_piece.new.line.items in
    let piece = subst (λ (e : Ending). IsPiece c.args.bytes.now c.read_piece.new.bytes b e) c.in-Ok-LineFeed.field-0-is c.in-Ok-LineFeed.ensures in
    let spelled = ap (λ (t : List ℕ). line_by y n t) (sym c.as_slice.ensures.value) ∙ sym c.read.ensures ∙ ap (option_map (line_value n)) c.in-Some.is in
    (b ++ 10 ∷ [], piece.1, λ more. line_fed y n b more piece.0 ∙ ap (λ (l : Option Line). l ∷ lines_by y n more) spelled)

pub returns-in-None : goal.returns-in-None
returns-in-None g c =
    let y = c.args.spelling in
    let n = c.args.size in
    let b = c.read_piece.new.line.items in
    let more = bytes_left c.read_piece.new.bytes in
    let piece = subst (λ (e : Ending). IsPiece c.args.bytes.now c.read_piece.new.bytes b e) c.in-Ok-LineFeed.field-0-is c.in-Ok-LineFeed.ensures in
    let spelled = ap (λ (t : List ℕ). line_by y n t) (sym c.as_slice.ensures.value) ∙ sym c.read.ensures ∙ ap (option_map (line_value n)) c.in-None.is in
    (b ++ 10 ∷ [], piece.1, lines_by y n more, line_fed y n b more piece.0 ∙ ap (λ (l : Option Line). l ∷ lines_by y n more) spelled)

pub returns-else-is_empty : goal.returns-else-is_empty
returns-else-is_empty g c =
    let y = c.args.spelling in
    let n = c.args.size in
    let b = c.read_piece.new.line.items in
    let piece = subst (λ (e : Ending). IsPiece c.args.bytes.now c.read_piece.new.bytes b e) c.in-Ok-End.field-0-is c.in-Ok-End.ensures in
    let some : 0 < length b = search rules in
    (b, piece.1, [], ap (λ (t : List ℕ). lines_by y n (b ++ t)) (none_left c.read_piece.new.bytes piece.2) ∙ line_cut y n b some piece.0)

pub returns-in-Ok-TooLong : goal.returns-in-Ok-TooLong
returns-in-Ok-TooLong g c =
    let y = c.args.spelling in
    let n = c.args.size in
    let b = c.read_piece.new.line.items in
    let more = bytes_left c.read_piece.new.bytes in
    let piece = subst (λ (e : Ending). IsPiece c.args.bytes.now c.read_piece.new.bytes b e) c.in-Ok-TooLong.field-0-is c.in-Ok-TooLong.ensures in
    let rows : c.rows.result ≡ n = c.rows.ensures.value in
    let most : c.rows.result ≤ MAX_SIZE = c.rows.ensures.most in
    let whole = length-append b (piece.0 ∷ []) in
    let long = piece.3 in
    let first = line_long y n (omega (arith, rows, most)) (b ++ piece.0 ∷ []) more (omega (arith, whole, long)) piece.1 in
    (b ++ piece.0 ∷ [], piece.2, first.0, first.1)
