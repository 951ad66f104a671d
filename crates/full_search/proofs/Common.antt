-- The names that several proofs of this crate cite, passed on from one place. Declares nothing.
pub use Rattle.std.proofs.Common.{subst, ◌+◌, ◌∙◌, ◌≡◌, sym, ◌≤◌, ap, arith, false, refl, ℕ, IsTrue, None, OnOk, [], inl, inr, ◌*◌, ◌-◌, ◌/◌, ◌<◌, ◌∷◌, ◌⊎◌}
pub use Rattle.go_points.specs.Grid.{opponent_of}
pub use Rattle.go_points.specs.Ply.{ply_of}
pub use Rattle.go_points.specs.declared.Colour.{Colour}
pub use Rattle.target_game.specs.Left.{turns_due}
unfoldable pub use Rattle.target_game.specs.Legal.{legal_turns}
pub use Rattle.target_game.specs.Next.{next}
pub use Rattle.target_game.specs.Over.{over}
pub use Rattle.target_game.specs.State.{GameState, Line, start}
unfoldable pub use Rattle.target_game.specs.Wins.{nodes, wins}
pub use Rattle.proof_cert.proofs.Certificates.{node_of_won}
unfoldable pub use Rattle.proof_cert.specs.Certificate.{node_of}
pub use Rattle.proof_cert.specs.Claim.{Node, node_count}
pub use Rattle.cert_check.proofs.Game.{same_colour-eq}
pub use Rattle.full_search.specs.Decided.{Shows}
pub use Rattle.full_search.specs.Private.Shown.{rest, IsFound, NeitherWins, IsTurnSeen, nodes_behind}
pub use Rattle.full_search.specs.declared.search.Tried.{Tried}
