-- The problem that a walk leads to: marks, and the walk up to the first of them.
use Rattle.tsumego_problem.proofs.Common.{◌≡◌, ℕ, suc, ◌+◌, Bool, true, false, cond, List, [], ◌∷◌, take, get_or, position, Option, Some, None, option_map, Result, Ok, Err, refl, sym, ◌∙◌, ap, subst, arith, GameProblem, Node, Walk, is_marked, walk_node, ◌>>=◌, walk, problem_at, walk_to_mark, ProblemFault}
use Rattle.tsumego_problem.proofs.FirstPlace.{first_place}

-- the walk up to a place is the walk up to the first mark
module _ (limit : Option ℕ) (n : ℕ) where
  abbrev pub after_walk : Result Walk ProblemFault → Node → Result GameProblem ProblemFault
  after_walk r node = r >>= (λ w. Ok (problem_at n node w))

  abbrev pub after_mark : Result (Node × Walk) ProblemFault → Result GameProblem ProblemFault
  after_mark r = r >>= (λ (m : Node × Walk). Ok (problem_at n m.0 m.1))

  pub marked_walk : (nodes : List Node) (j k : ℕ) (w : Walk) → position is_marked nodes ≡ Some k
      → after_walk (walk limit n j (take (k + 1) nodes) w) (get_or nodes k []) ≡ after_mark (walk_to_mark limit n j nodes w)
  marked_walk [] j k w e = absurd (cc)
  marked_walk (node ∷ nodes) j k w e = go (is_marked node) refl (position is_marked nodes) refl (sym (first_place is_marked node nodes) ∙ e) (walk_node limit n j node w) refl (λ i v f. marked_walk nodes (j + 1) i v f)
    where
      go : (b : Bool) → is_marked node ≡ b → (o : Option ℕ) → position is_marked nodes ≡ o → cond (is_marked node) (Some 0) (option_map (λ k. 1 + k) (position is_marked nodes)) ≡ Some k
          → (r : Result Walk ProblemFault) → walk_node limit n j node w ≡ r
          → ((i : ℕ) (v : Walk) → position is_marked nodes ≡ Some i → after_walk (walk limit n (j + 1) (take (i + 1) nodes) v) (get_or nodes i []) ≡ after_mark (walk_to_mark limit n (j + 1) nodes v))
          → after_walk (walk limit n j (take (k + 1) (node ∷ nodes)) w) (get_or (node ∷ nodes) k []) ≡ after_mark (walk_to_mark limit n j (node ∷ nodes) w)
      go true m o f h r does others =
          let zero_is : 0 ≡ k = cc (ap (λ b. cond b (Some 0) (option_map (λ k. 1 + k) (position is_marked nodes))) (sym m) ∙ h) in
          subst (λ i. after_walk (walk limit n j (take (i + 1) (node ∷ nodes)) w) (get_or (node ∷ nodes) i []) ≡ after_mark (walk_to_mark limit n j (node ∷ nodes) w)) zero_is
          (here r does m)
        where
          here : (r : Result Walk ProblemFault) → walk_node limit n j node w ≡ r → is_marked node ≡ true → after_walk (walk limit n j (take 1 (node ∷ nodes)) w) node ≡ after_mark (walk_to_mark limit n j (node ∷ nodes) w)
          here (Ok v) d m = ap (λ r. after_walk (r >>= (λ v. walk limit n (j + 1) [] v)) node) d ∙ sym (ap (λ r. after_mark (r >>= (λ v. cond (is_marked node) (Ok (node, v)) (walk_to_mark limit n (j + 1) nodes v)))) d ∙ ap (λ b. after_mark (cond b (Ok (node, v)) (walk_to_mark limit n (j + 1) nodes v))) m)
          here (Err x) d m = ap (λ r. after_walk (r >>= (λ v. walk limit n (j + 1) [] v)) node) d ∙ sym (ap (λ r. after_mark (r >>= (λ v. cond (is_marked node) (Ok (node, v)) (walk_to_mark limit n (j + 1) nodes v)))) d)
      go false m None f h r does others = absurd (cc (ap (λ o. option_map (λ k. 1 + k) o) (sym f) ∙ ap (λ b. cond b (Some 0) (option_map (λ k. 1 + k) (position is_marked nodes))) (sym m) ∙ h))
      go false m (Some i) f h r does others =
          let next : 1 + i ≡ k = cc (ap (λ o. option_map (λ k. 1 + k) o) (sym f) ∙ ap (λ b. cond b (Some 0) (option_map (λ k. 1 + k) (position is_marked nodes))) (sym m) ∙ h) in
          let plain : suc i ≡ k = (let e : suc i ≡ 1 + i = omega arith in e ∙ next) in
          subst (λ q. after_walk (walk limit n j (take (q + 1) (node ∷ nodes)) w) (get_or (node ∷ nodes) q []) ≡ after_mark (walk_to_mark limit n j (node ∷ nodes) w)) plain
          (later r does)
        where
          later : (r : Result Walk ProblemFault) → walk_node limit n j node w ≡ r → after_walk (walk limit n j (take (suc i + 1) (node ∷ nodes)) w) (get_or nodes i []) ≡ after_mark (walk_to_mark limit n j (node ∷ nodes) w)
          later (Ok v) d =
              ap (λ q. after_walk (walk limit n j (take q (node ∷ nodes)) w) (get_or nodes i [])) (let e : suc i + 1 ≡ suc (i + 1) = omega arith in e)
              ∙ ap (λ r. after_walk (r >>= (λ v. walk limit n (j + 1) (take (i + 1) nodes) v)) (get_or nodes i [])) d ∙ others i v f
              ∙ sym (ap (λ r. after_mark (r >>= (λ v. cond (is_marked node) (Ok (node, v)) (walk_to_mark limit n (j + 1) nodes v)))) d ∙ ap (λ b. after_mark (cond b (Ok (node, v)) (walk_to_mark limit n (j + 1) nodes v))) m)
          later (Err x) d =
              ap (λ q. after_walk (walk limit n j (take q (node ∷ nodes)) w) (get_or nodes i [])) (let e : suc i + 1 ≡ suc (i + 1) = omega arith in e)
              ∙ ap (λ r. after_walk (r >>= (λ v. walk limit n (j + 1) (take (i + 1) nodes) v)) (get_or nodes i [])) d
              ∙ sym (ap (λ r. after_mark (r >>= (λ v. cond (is_marked node) (Ok (node, v)) (walk_to_mark limit n (j + 1) nodes v)))) d)
