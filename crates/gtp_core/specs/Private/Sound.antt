-- What always holds for a session's record and points. No public clause rests on these definitions.
use Rattle.std.specs.Prelude.{◌≡◌, ℕ, ◌*◌, ◌<◌, true, false, nat_eq, List, [], ◌∷◌, length, Some}
use Rattle.std.specs.List.{All, list_all}
use Rattle.go_points.specs.Liberty.{all_reach_empty}
use Rattle.go_points.specs.Place.{IsOn}
use Rattle.go_turns.specs.History.{place_in, repeats}
use Rattle.go_turns.specs.Record.{Moment, GameRecord, colouring_of}
use Rattle.gtp_core.specs.Session.{GtpSession}

-- The colourings that have occurred are of a board of n rows, each once; every stone in them reaches empty, and the present one is
-- at its place.
pub record IsSoundMoment (n : ℕ) (m : Moment) : Type 0 where
  pub full : list_all (λ c. nat_eq (length c) (n * n)) m.history ≡ true
  pub once : repeats m.history ≡ false
  pub free : list_all (all_reach_empty n) m.history ≡ true
  pub here : place_in m.history (colouring_of m) ≡ Some m.place

abbrev pub AreSound : ℕ → List Moment → Type 0
AreSound n [] = Unit {0}
AreSound n (m ∷ ms) = IsSoundMoment n m × AreSound n ms

pub record IsSoundRecord (r : GameRecord) : Type 0 where
  pub present : IsSoundMoment r.size r.present
  pub earlier : AreSound r.size r.earlier

pub record IsSound (s : GtpSession) : Type 0 where
  pub turns : IsSoundRecord s.turns
  pub targets : All (IsOn s.turns.size) s.targets
  pub region : All (IsOn s.turns.size) s.region
  pub somewhere : 0 < length s.region
