use Rattle.std.proofs.Common.{[], ◌∷◌, ◌++◌, List, ℕ, ap₂}
use Rattle.std.specs.Prelude.{string_bytes}
use Rattle.first_moves.specs.Text.{turn_text, worth_text}
use Rattle.first_moves.proofs.Listing.{said_so}
use Rattle.first_moves.proofs.list.turn_line.Goals as goal

pub returns : goal.returns
returns c =
    said_so string_bytes c.format.result
    (c.args.after.now ++ (string_bytes c.in_ok-name.name ++ (32 ∷ (c.worth_name-worth.result.now ++ 10 ∷ []))))
    (c.args.after.now ++ (turn_text c.args.names.now c.args.one.now.turn ++ (32 ∷ (worth_text c.args.one.now.judged ++ 10 ∷ []))))
    c.format.ensures.ok
    (ap₂ (λ (x y : List ℕ). c.args.after.now ++ (x ++ (32 ∷ (y ++ 10 ∷ [])))) c.in_ok-name.ensures c.worth_name-worth.ensures)
