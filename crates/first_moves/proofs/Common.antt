-- The names that several proofs of this crate cite, passed on from one place. Declares nothing.
pub use Rattle.std.proofs.Common.{◌≡◌, subst, ◌++◌, [], sym, List, ◌∙◌, ◌∷◌, IfSome, Option, ap, drop, Err, Ok, Result, Some, length, refl, rules, append_assoc, ℕ, ◌<◌}
pub use Rattle.std.specs.Prelude.{string_bytes, IfOk}
pub use Rattle.go_points.specs.Ply.{ply_of}
pub use Rattle.go_points.specs.declared.Turn.{Turn}
pub use Rattle.target_game.specs.Left.{turns_due}
unfoldable pub use Rattle.target_game.specs.Legal.{legal_turns}
pub use Rattle.target_game.specs.State.{GameProblem, start}
pub use Rattle.first_moves.specs.Judged.{AreJudged}
pub use Rattle.first_moves.specs.Line.{IsPosition, AreAlong, AreLater, IsNext, IsReached}
pub use Rattle.first_moves.specs.Outputs.{IsOutput}
pub use Rattle.first_moves.specs.declared.found.Found.{Found}
pub use Rattle.first_moves.specs.declared.line.Later.{Later}
pub use Rattle.first_moves.specs.declared.line.Position.{Position}
