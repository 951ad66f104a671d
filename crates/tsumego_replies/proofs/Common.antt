-- The names that several proofs of this crate cite, passed on from one place. Declares nothing.
pub use Rattle.std.proofs.Common.{◌≡◌, subst, ◌++◌, [], List, ℕ, Some, ◌∷◌, ap, length, ◌∙◌, arith, refl, sym, ◌≤◌, Err, inr, true, ◌+◌, ◌-◌, Ok, Option, Result, false, inl, Bool, None, ap₂, drop, length-append, take, ◌≢◌, if◌then◌else◌, rules}
pub use Rattle.std.specs.Io.KnownBytes.{Consumes, IsAtEnd}
pub use Rattle.std.specs.Prelude.{string_bytes, IfOk, codes, decimal}
pub use Rattle.target_game.specs.State.{GameProblem, start}
pub use Rattle.sgf_text.specs.Bytes.{is_white}
pub use Rattle.sgf_text.specs.Trees.{GameTree}
pub use Rattle.tsumego_problem.specs.Refusals.{problem_refusal, Refuses}
pub use Rattle.tsumego_problem.specs.Walk.{history_limit}
pub use Rattle.proof_cert.specs.Streamed.{Tells}
pub use Rattle.proof_cert.specs.Text.{lines}
pub use Rattle.cert_check.specs.Body.{Why}
pub use Rattle.cert_check.specs.Stage.{why_value}
pub use Rattle.cert_check.specs.Verdict.{verdict}
pub use Rattle.tsumego_words.specs.declared.command_line.Command.{Command}
pub use Rattle.tsumego_words.specs.declared.command_line.Command.TheVariants.{Solve, Audit, Check, Gtp, Within}
pub use Rattle.tsumego_replies.specs.Answers.{IsRecord, Says}
pub use Rattle.tsumego_replies.specs.Bounds.{white_limit}
pub use Rattle.tsumego_replies.specs.Replies.{AllWhite, HasNoRecord, IsReply, IsSaidAfter, AsksOn, IsCheckedAfter, IsJudged, IsJudgedAfter, IsRejectionOf, SaysAfter}
pub use Rattle.tsumego_replies.specs.Texts.{line, rejected_line_text, rejected_node_text, unknown_text}
pub use Rattle.tsumego_replies.specs.declared.record.NoRecord.{NoRecord}
pub use Rattle.tsumego_replies.specs.declared.reply.Response.{Response}
pub use Rattle.run_parts.specs.declared.status.Status.{Status}
pub use Rattle.run_parts.specs.declared.status.Status.TheVariants.{Answered}
