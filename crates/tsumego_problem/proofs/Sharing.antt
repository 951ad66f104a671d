-- Points that two sets share, one point after another.
use Rattle.tsumego_problem.proofs.Common.{◌≡◌, ℕ, Bool, true, false, ◌&&◌, ◌||◌, List, [], ◌∷◌, map, refl, sym, ◌∙◌, ap, subst, arith, unwrap_or, All, list_any, Place, IsOn, number_of, points, holds_place, holds_point, holds_numbered, left_on, values_at, Node, points_of, has, points_at, share_point}
use Rattle.tsumego_problem.proofs.Steps.{is_empty_nil, filter_none}

module _ (n : ℕ) (held : List Place) (numbers : List ℕ) (same : map (number_of n) held ≡ numbers) (on_held : All (IsOn n) held)
    (old new : List Place) (p : Place) (first : old ≡ p ∷ new) (on_old : All (IsOn n) old) (whole : Bool) (had : list_any (holds_point numbers) (map (number_of n) old) ≡ whole) where
  test : holds_point numbers (number_of n p) ≡ holds_place held p
  test = ap (λ ns. holds_point ns (number_of n p)) (sym same) ∙ holds_numbered n held p on_held (subst (All (IsOn n)) first on_old 0 p (omega arith))

  split : (holds_place held p || list_any (holds_point numbers) (map (number_of n) new)) ≡ whole
  split = ap (λ b. b || list_any (holds_point numbers) (map (number_of n) new)) (sym test) ∙ sym (ap (λ ps. list_any (holds_point numbers) (map (number_of n) ps)) first) ∙ had

  pub shared_here : (b : Bool) → b ≡ holds_place held p → b ≡ true → true ≡ whole
  shared_here b e t = ap (λ x. x || list_any (holds_point numbers) (map (number_of n) new)) (sym t ∙ e) ∙ split

  pub not_shared_here : (b : Bool) → b ≡ holds_place held p → b ≡ false → list_any (holds_point numbers) (map (number_of n) new) ≡ whole
  not_shared_here b e f = ap (λ x. x || list_any (holds_point numbers) (map (number_of n) new)) (sym f ∙ e) ∙ split

  pub on_rest : All (IsOn n) new
  on_rest = left_on (IsOn n) old new p first on_old

-- A PROPERTY THAT THE NODE LACKS SHARES NOTHING

none_held : (ps : List ℕ) → list_any (holds_point []) ps ≡ false
none_held [] = refl
none_held (p ∷ ps) = none_held ps

pub lacks : (n : ℕ) (name : List ℕ) (node : Node) → has name node ≡ false → points_at n name node ≡ []
lacks n name node e = ap (λ vs. unwrap_or (points_of n vs) []) (is_empty_nil (values_at name node) e) ∙ filter_none (points n)

lacks_first : (n : ℕ) (a b : List ℕ) (node : Node) → has a node ≡ false → share_point n a b node ≡ false
lacks_first n a b node e = ap (λ ps. list_any (holds_point ps) (points_at n b node)) (lacks n a node e) ∙ none_held (points_at n b node)

lacks_second : (n : ℕ) (a b : List ℕ) (node : Node) → has b node ≡ false → share_point n a b node ≡ false
lacks_second n a b node e = ap (list_any (holds_point (points_at n a node))) (lacks n b node e)

pub lacks_either : (n : ℕ) (a b : List ℕ) (node : Node) → (has a node && has b node) ≡ false → share_point n a b node ≡ false
lacks_either n a b node e = go (has a node) refl e
  where
    go : (h : Bool) → has a node ≡ h → (h && has b node) ≡ false → share_point n a b node ≡ false
    go true is rest = lacks_second n a b node rest
    go false is rest = lacks_first n a b node is
