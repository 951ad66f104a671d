-- A step taken back.
use Rattle.go_turns.proofs.Common.{◌≡◌, ℕ, List, Result, Ok, Err, sym, ap, Colour, Cell, Ply, TurnFault, Moment, GameRecord, after_play, stepped, play_of, setup_of, undo_of}
use Rattle.go_turns.specs.Record.{after_setup}

-- the record that a result has, or else another
abbrev record_or : GameRecord → Result GameRecord TurnFault → GameRecord
record_or r (Ok s) = s
record_or r (Err fault) = r

pub undo-stepped : (r s : GameRecord) (due : Result Moment TurnFault) → stepped r due ≡ Ok s → undo_of s ≡ Ok r
undo-stepped r s (Ok m) e = ap undo_of (sym (ap (record_or r) e))
undo-stepped r s (Err fault) e = absurd (cc)

pub undo-play : (r s : GameRecord) (k : Colour) (t : Ply) → play_of r k t ≡ Ok s → undo_of s ≡ Ok r
undo-play r s k t e = undo-stepped r s (after_play r.size r.present k t) e

pub undo-setup : (r s : GameRecord) (cells : List (ℕ × Cell)) → setup_of r cells ≡ Ok s → undo_of s ≡ Ok r
undo-setup r s cells e = undo-stepped r s (after_setup r.size r.present cells) e
