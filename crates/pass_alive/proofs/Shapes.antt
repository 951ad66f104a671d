-- Whether the targets live by their shape at a colouring, as the program finds it.
use Rattle.pass_alive.proofs.Common.{◌≡◌, ◌*◌, ℕ, ◌↔◌, Bool, false, List, length, map, Some, None, IsTrue, sym, ap, ◌∙◌, subst, All, Colour, Cell, side_of, first_without_liberty, Place, IsOn, number_of, Game, PassAlive, game_of, LivesAt}
use Rattle.std.specs.Prelude.{is_none}
use Rattle.go_points.specs.Private.Sides.{side_of-whole}
use Rattle.pass_alive.specs.Laws.{GamesAgree}

module _ (g : Game) (c : List Cell) where
  -- not on a board of another size
  pub other_size : (side_of c ≡ g.size → ⊥) → IsTrue false ↔ LivesAt g c
  other_size differs = ((λ is. absurd (cc is)), (λ lives. absurd (differs (side_of-whole c g.size lives.whole))))

  -- nor where a stone has no liberty
  pub no_liberty : (p : ℕ) → side_of c ≡ g.size → first_without_liberty (side_of c) c ≡ Some p → IsTrue false ↔ LivesAt g c
  no_liberty p side some = (
    (λ is. absurd (cc is)),
    (λ lives. absurd (let none = ap (λ m. is_none (first_without_liberty m c)) side ∙ lives.liberties in cc (none, some))),
  )

  pub found_alive : GamesAgree → (ts : List Place) (k : Colour) (rs : List Place) (b : Bool) → side_of c ≡ g.size → length c ≡ side_of c * side_of c → first_without_liberty (side_of c) c ≡ None
      → map (number_of g.size) ts ≡ g.targets → All (IsOn g.size) ts → k ≡ g.defender → map (number_of g.size) rs ≡ g.region → All (IsOn g.size) rs
      → IsTrue b ↔ PassAlive (game_of (side_of c) ts k rs) c → IsTrue b ↔ LivesAt g c
  found_alive agree ts k rs b side full free targets on_targets defender region on_region is = (there, back)
    where
      same : game_of (side_of c) ts k rs ≡ g
      same = ap (λ m. game_of m ts k rs) side ∙ agree g.size ts k rs on_targets on_region ∙ (λ i. record { size = g.size; targets = targets i; defender = defender i; region = region i })

      there : IsTrue b → LivesAt g c
      there yes_ = record {
        whole = full ∙ ap (λ m. m * m) side;
        liberties = ap (λ m. is_none (first_without_liberty m c)) (sym side) ∙ ap is_none free;
        shape = subst (λ f. PassAlive f c) same (is.0 yes_);
      }

      back : LivesAt g c → IsTrue b
      back lives = is.1 (subst (λ f. PassAlive f c) (sym same) lives.shape)
