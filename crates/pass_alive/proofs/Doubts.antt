-- Stones that are beside a liberty that nobody can fill, and those in doubt.
use Rattle.pass_alive.proofs.Common.{◌≡◌, ℕ, ◌*◌, ◌<◌, ◌⊎◌, inl, inr, IsTrue, List, [], ◌∷◌, map, sym, ◌∙◌, subst, Cell, Place, number_of, place_of, same_place, holds_place, with_place, same_place_decides, sets_gain, or_cases, or_right, adjacent_on_board, adjacent_back, joined_self, Lasting, these, number_on, IsBesideFree, LastsOutside}
use Rattle.pass_alive.proofs.Regions.{number_back, on_place, region_holds}
use Rattle.pass_alive.proofs.Members.{AllBut, but_first, but_item, but_more, but_none}
use Rattle.pass_alive.proofs.Spreading.{with_held}

module _ (n : ℕ) (c : List Cell) (region : List Place) where
  -- a stone beside such a liberty
  lasting_beside : (p : ℕ) → IsBesideFree n c (these n region) p → Lasting n (map (number_on n) region) c p
  lasting_beside p side =
      let q = side.0 in
      let q_on : q < n * n = (adjacent_on_board n p q side.1).1 in
      (q, record { empty = side.2; outside = region_holds n q region q_on (on_place n q q_on) ∙ side.3 }, (p, adjacent_back n p q side.1, joined_self n c p))

  -- what is known of a stone that was looked at
  abbrev pub IsTold : List Place → Place → Type 0
  IsTold doubtful p = IsTrue (holds_place doubtful p) ⊎ Lasting n (map (number_on n) region) c (number_of n p)

  pub record DoubtsSoFar (stones doubtful left : List Place) : Type 0 where
    pub told : AllBut (IsTold doubtful) stones left
    pub among : (p : Place) → IsTrue (holds_place doubtful p) → IsTrue (holds_place stones p)

  pub doubts_first : (stones doubtful left : List Place) → doubtful ≡ [] → left ≡ stones → DoubtsSoFar stones doubtful left
  doubts_first stones doubtful left none is = record {
    told = but_first (IsTold doubtful) stones left is;
    among = λ p held. absurd (cc (held, none));
  }

  module _ (stones doubtful left rest : List Place) (x : Place) (e : left ≡ x ∷ rest) (h : DoubtsSoFar stones doubtful left) where
    pub doubts_kept : IsBesideFree n c (these n region) (number_of n x) → DoubtsSoFar stones doubtful rest
    doubts_kept beside = record {
      told = but_more (IsTold doubtful) stones left rest x e (inr (lasting_beside (number_of n x) beside)) h.told;
      among = h.among;
    }

    pub doubts_more : DoubtsSoFar stones (with_place doubtful x) rest
    doubts_more = record {
      told = but_more (IsTold (with_place doubtful x)) stones left rest x e (inl (with_held doubtful x)) (record {
        among = h.told.among;
        passed = λ p held. elim (h.told.passed p held) [
          | inl still ↦ inl still
          | inr done ↦ inr (elim done [ inl had ↦ inl (sets_gain doubtful x p ∙ or_right (same_place p x) (holds_place doubtful p) had) | inr lasting ↦ inr lasting ])
        ];
      });
      among = λ p held. elim (or_cases (same_place p x) (holds_place doubtful p) (sym (sets_gain doubtful x p) ∙ held)) [
        | inl same ↦ subst (λ z. IsTrue (holds_place stones z)) (sym ((same_place_decides p x).0 same)) (but_item (IsTold doubtful) stones left rest x e h.told)
        | inr had ↦ h.among p had
      ];
    }

  pub doubts_all : (stones doubtful left : List Place) → left ≡ [] → DoubtsSoFar stones doubtful left → LastsOutside n (map (number_on n) region) c (these n doubtful) (these n stones)
  doubts_all stones doubtful left none h q on held = elim (but_none (IsTold doubtful) stones left none h.told (place_of n q) held) [
    | inl in_doubt ↦ inl in_doubt
    | inr lasting ↦ inr (subst (Lasting n (map (number_on n) region) c) (number_back n q) lasting)
  ]
