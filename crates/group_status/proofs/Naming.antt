-- The names of points, one after the other.
use Rattle.std.proofs.Common.{◌≡◌, ◌++◌, ◌∙◌, ℕ, List, [], ◌∷◌, codes, ap, subst, append_assoc}
use Rattle.go_points.specs.Place.{Place}
use Rattle.group_status.specs.Names.{name_text, names_after}

-- one name more
pub names_more : (n : ℕ) (old put new between name whole : List ℕ) (left rest : List Place) (p : Place) → left ≡ p ∷ rest → name ≡ name_text n p → put ≡ old ++ between → new ≡ put ++ name → old ++ names_after between n left ≡ whole → new ++ names_after (codes ", ") n rest ≡ whole
names_more n old put new between name whole left rest p steps is first then before =
    let tail = names_after (codes ", ") n rest in
    ap (λ t. t ++ tail) (then ∙ ap (λ t. t ++ name) first)
    ∙ append_assoc (old ++ between) name tail
    ∙ append_assoc old between (name ++ tail)
    ∙ ap (λ t. old ++ (between ++ (t ++ tail))) is
    ∙ subst (λ ps. old ++ names_after between n ps ≡ whole) steps before
