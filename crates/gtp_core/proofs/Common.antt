-- The names that several proofs of this crate cite, passed on from one place. Declares nothing.
pub use Rattle.std.proofs.Common.{◌≡◌, sym, ap, subst, ◌∙◌, List, ◌∷◌, [], ℕ, Some, rules, ◌++◌, false, length, refl, drop, take, Bool, None, Ok, Option, true, ◌*◌, ◌<◌, ap₂, arith, codes, nat_eq, ◌+◌, ◌-◌, ◌≤◌, Err, cond, inl, inr, map, replicate, Result, append_assoc, eq-eqb, eqb-true, get_or, is_some, lt-ltb, nat_lt, suc, zero}
pub use Rattle.std.proofs.KnownBytes.{Consumes-trans}
pub use Rattle.std.proofs.lemmas.Bool.{cases_lt}
pub use Rattle.std.proofs.lemmas.List.{length-append, length-take-le, take-append-le, take_all}
pub use Rattle.std.specs.Io.KnownBytes.{prepend_known}
pub use Rattle.std.specs.List.{All}
pub use Rattle.std.specs.Prelude.{IfOk, IfSome, unwrap_or}
pub use Rattle.std.specs.Result.{result_ok}
pub use Rattle.go_points.specs.Grid.{cell_at, points}
unfoldable pub use Rattle.go_points.specs.Grid.{side_of}
pub use Rattle.go_points.specs.Gtp.{vertex_named}
unfoldable pub use Rattle.go_points.specs.Liberty.{first_without_liberty}
pub use Rattle.go_points.specs.Place.{IsOn, Place, number_of, on_board}
pub use Rattle.go_points.specs.Ply.{ply_of, Ply, move, pass}
pub use Rattle.go_points.specs.Points.{with_place, is_before, same_place}
pub use Rattle.go_points.specs.declared.Cell.{Cell}
pub use Rattle.go_points.specs.declared.Cell.TheVariants.{Empty}
pub use Rattle.go_points.specs.declared.Colour.{Colour}
pub use Rattle.go_points.specs.declared.Turn.{Turn}
pub use Rattle.go_turns.specs.History.{place_in}
pub use Rattle.go_turns.specs.Record.{play_of, Did, GameRecord, Opens, opened}
pub use Rattle.go_turns.specs.declared.fault.TurnFault.{TurnFault}
unfoldable pub use Rattle.target_game.specs.Problem.{problem_of}
pub use Rattle.target_game.specs.State.{GameProblem}
pub use Rattle.gtp_core.specs.Commands.{with_points, point_at}
pub use Rattle.gtp_core.specs.Lines.{words_of, bad_line, cleaned, raw_lines, request_of}
pub use Rattle.gtp_core.specs.Private.Following.{IsFoundAt}
pub use Rattle.gtp_core.specs.Private.Pieces.{HasNone, IsAtSpace}
pub use Rattle.gtp_core.specs.Private.Sound.{IsSound}
pub use Rattle.gtp_core.specs.Private.Taking.{IsRawLine, bounded, kept, Bounded, Gives, IsPartServed, IsServed, IsUnderWay}
pub use Rattle.gtp_core.specs.Runs.{first_session}
pub use Rattle.gtp_core.specs.Serving.{reply, Meets, fed_rows, IsPlayed, MayPlay, answers, due_or_refusal, refuses, target_due, tells}
pub use Rattle.gtp_core.specs.Session.{GtpSession, stones_at, board_of, new_record, size_of}
unfoldable pub use Rattle.gtp_core.specs.Session.{problem_at}
pub use Rattle.gtp_core.specs.Words.{turn_text, failure, success, place_at}
pub use Rattle.gtp_core.specs.declared.input.Ending.{Ending}
pub use Rattle.gtp_core.specs.declared.input.Ending.TheVariants.{LineFeed}
pub use Rattle.gtp_core.specs.declared.refusal.Refusal.TheVariants.{NoProblem}
pub use Rattle.gtp_core.specs.declared.search.Found.TheVariants.{Win}
