-- The names that several proofs of this crate cite, passed on from one place. Declares nothing.
pub use Rattle.std.proofs.Common.{subst, refl, ◌∙◌, ◌≡◌, ap, sym, Some, inl, inr, ◌++◌, None, false, List, [], ℕ, Option, length, true, ◌∷◌, ◌≤◌, Bool, Err, IsTrue, Ok, append_assoc, rules, ◌<◌, ◌⊎◌, Result, codes, drop, nat_eq, arith}
pub use Rattle.std.specs.Io.KnownBytes.{Appends}
pub use Rattle.go_points.specs.declared.Colour.{Colour}
pub use Rattle.go_points.specs.declared.TheConstants.{MAX_SIZE}
pub use Rattle.target_game.specs.State.{start, GameProblem}
pub use Rattle.target_game.specs.Within.{decision}
pub use Rattle.target_game.specs.declared.within.Within.{Within}
pub use Rattle.counted_devices.specs.Devices.{HasFailed}
pub use Rattle.sgf_text.specs.Text.{tree_text, is_tree}
pub use Rattle.sgf_text.specs.Trees.{GameTree}
pub use Rattle.tsumego_problem.specs.Canonical.{canonical, solution}
pub use Rattle.tsumego_problem.specs.Laws.{IsProblem}
pub use Rattle.proof_cert.specs.Certificate.{claim_of}
pub use Rattle.proof_cert.specs.Streamed.{Tells}
pub use Rattle.proof_cert.specs.Text.{lines, text}
pub use Rattle.cert_check.specs.Expand.{expand}
pub use Rattle.cert_check.specs.Verdict.{accepted, Verdict, rejected, verdict}
pub use Rattle.solution_tree.specs.Audit.{Fault, audit}
pub use Rattle.gtp_core.specs.Lines.{raw_lines}
pub use Rattle.gtp_core.specs.Runs.{HasStoppedOn, IsRun, first_session}
pub use Rattle.gtp_core.specs.Serving.{Answers, Serves, reply}
pub use Rattle.gtp_core.specs.Session.{GtpSession}
pub use Rattle.gtp_core.specs.Words.{failure}
pub use Rattle.tsumego_words.specs.CommandLine.{is_session}
pub use Rattle.tsumego_words.specs.declared.command_line.Command.{Command}
pub use Rattle.tsumego_words.specs.declared.command_line.Command.TheVariants.{Gtp, Audit, Check, Solve}
pub use Rattle.tsumego_replies.proofs.Claims.{has_verdict, one_verdict}
pub use Rattle.tsumego_replies.proofs.Saying.{some_bytes}
pub use Rattle.tsumego_replies.specs.Answers.{Says, SaysFailure, audit_answer, check_answer, within_answer}
pub use Rattle.tsumego_replies.specs.Solutions.{MayAnswer, SolvedBy}
pub use Rattle.tsumego_replies.specs.Texts.{no_memory_text, no_read_text, line, too_large_text}
pub use Rattle.run_parts.specs.declared.status.Status.{Status}
pub use Rattle.run_parts.specs.declared.status.Status.TheVariants.{Failed, Answered, Unanswered}
pub use Rattle.tsumego.specs.Devices.{ReadFails}
pub use Rattle.tsumego.specs.Outcome.{RanOn, EndsOn, MaySay, Outcome}
pub use Rattle.tsumego.specs.Private.Written.{Writes, IsSolutionOf}
