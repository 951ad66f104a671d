-- The names that several proofs of this crate cite, passed on from one place. Declares nothing.
pub use Rattle.std.proofs.Common.{◌≡◌, ◌∙◌, ap, sym, List, Some, ℕ, ◌+◌, Option, ◌∷◌, arith, [], drop, map, ◌++◌, refl, length, None, subst, true, ◌-◌, Bool, false, rules, ◌<◌, ◌≤◌, IsTrue, option_map, take, append_assoc, codes, nat_eq, nat_lt, cond, eqb-true, get_or, ltb-true, suc, inl, inr, not, ◌&&◌, ◌*◌, Bor, Ok, append-nil, decimal, length-append, nat_le, zero, ◌⊎◌, Err, leb-true, position, ◌%◌, ◌/◌, ◌^◌, ◌||◌, Box, Global, Vec, eq-eqb, le-leb, lt-ltb, ltb-false, max, sum_by}
pub use Rattle.std.proofs.Math.Seq.{take-length}
pub use Rattle.std.proofs.lemmas.Bool.{false≢true}
pub use Rattle.std.proofs.lemmas.Fmt.{decimal_digit, digits_decimal, length-decimal-le}
pub use Rattle.std.proofs.lemmas.List.{at_drop_more, length-drop}
pub use Rattle.std.proofs.lemmas.List.Sums.{sum_by-cons}
pub use Rattle.std.specs.Char.{is_ascii_digit}
pub use Rattle.std.specs.List.{list_all, position_or_len}
pub use Rattle.std.specs.Prelude.{option_and_then, if◌then◌else◌}
pub use Rattle.std.specs.Str.{all_ascii_digits}
pub use Rattle.go_points.proofs.Lists.{not_true}
pub use Rattle.go_points.proofs.Texts.{ReadSoFar}
pub use Rattle.go_points.specs.Ply.{ply_of, Ply, move, pass}
pub use Rattle.go_points.specs.Text.{text_of, colouring_from_text}
pub use Rattle.go_points.specs.declared.Cell.{Cell}
pub use Rattle.go_points.specs.declared.Cell.TheVariants.{Empty, Stone}
pub use Rattle.go_points.specs.declared.Colour.{Colour}
pub use Rattle.go_points.specs.declared.Colour.TheVariants.{Black, White}
pub use Rattle.go_points.specs.declared.TheConstants.{MAX_SIZE}
pub use Rattle.go_points.specs.declared.Turn.{Turn}
pub use Rattle.go_points.specs.declared.Turn.TheVariants.{At}
pub use Rattle.byte_writer.proofs.TakenLemmas.{put_as, then_put, SoFar, part_put, rest_is}
pub use Rattle.proof_cert.specs.Certificate.{replies_of, lemma_of, claim_of}
unfoldable pub use Rattle.proof_cert.specs.Certificate.{node_of}
pub use Rattle.proof_cert.specs.Claim.{Branches, Lemma, Node, branch, no_branch, Claim, all, branch_turns, by_lemma, play, won, AreShallow, IsWithinLimits, depth_below, depth_of, listed_count, max_nodes, node_count, node_count_below}
pub use Rattle.proof_cert.specs.Given.{Gave}
pub use Rattle.proof_cert.specs.Held.{lines_left, spelled_line, task_lines}
pub use Rattle.proof_cert.specs.Lines.{Line, branch_lines, not_line, end_line, use_line, had_spelled, lemma_line, lemma_lines, lemmas_lines, lines_of, main_line, reply_line, won_line, all_line, header_line, play_line, turn_fits, node_lines, had_line}
pub use Rattle.proof_cert.specs.Private.Body.{body_line_of, body_value, other_line_of}
pub use Rattle.proof_cert.specs.Private.Reading.{left_of, Left, below_read, lemmas_read, listed_read, replies_read, tree_read, CountsLemmas, CountsReplies, CountsTree, counted, first_of, opened, picks, reply_read, with_rest}
unfoldable pub use Rattle.proof_cert.specs.Private.Reading.{line_read, all_lemmas_read, claim_read, lemma_read, list_read}
pub use Rattle.proof_cert.specs.Private.Source.{Source}
pub use Rattle.proof_cert.specs.Private.Taken.{lines_text, line_text}
pub use Rattle.proof_cert.specs.Stage.{line_value, version_number}
pub use Rattle.proof_cert.specs.Streamed.{Unread, IsRead, Uses, HasNoFeed, bytes_left}
pub use Rattle.proof_cert.specs.Text.{is_spelled, after_word, line_of, or_else, at_end, header_rest, line_by, lines, vertex_text, no_header, number_of, at_space, behind, colour_letter, colour_of, header_tail, is_spelled_number, line_bytes, line_feed, max_line, pieces, text, vertex_of, with_byte, line_of_piece, lines_by, parted, text_of_lines, value_from, with_line}
pub use Rattle.proof_cert.specs.declared.certificate.Certificate.{Certificate}
pub use Rattle.proof_cert.specs.declared.certificate.Node.TheVariants.{All, Play, Use, Won}
pub use Rattle.proof_cert.specs.declared.source.SourceFault.{SourceFault}
pub use Rattle.proof_cert.specs.declared.source.SourceFault.TheVariants.{Malformed}
pub use Rattle.proof_cert.specs.declared.spelling.Spelling.{Spelling}
pub use Rattle.proof_cert.specs.declared.spelling.Spelling.TheVariants.{Ordinary, Short}
pub use Rattle.proof_cert.specs.declared.task.Task.{Task}
