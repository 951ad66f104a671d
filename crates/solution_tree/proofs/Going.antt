-- Turns made, and taken back.
use Rattle.solution_tree.proofs.Common.{◌≡◌, ℕ, suc, ◌∷◌, rules, Ply, GameState, Line, next, Leads}

-- one turn more
pub leads_more : (k : ℕ) (first l m : Line) (s : GameState) → m.before ≡ l.state ∷ l.before → Leads k first l → Leads (suc k) first m
leads_more k first l m s h g = search rules

pub went_size : (s : GameState) (t : Ply) → (next s t).game.size ≡ s.game.size
went_size s t = search rules
