-- The points that are left of a board's, one by one.
use Rattle.go_points.proofs.Common.{◌≡◌, ℕ, zero, suc, ◌+◌, ◌*◌, ◌<◌, ◌≤◌, [], ◌∷◌, map, ◌∙◌, ap, ap₂, arith, range_with_len, points, place_of}
use Rattle.std.proofs.Common.{drop}
use Rattle.std.proofs.lemmas.List.{drop_all}
use Rattle.go_points.proofs.Cells.{length-points}

range_next : (k a m : ℕ) → k < m → drop k (range_with_len a m) ≡ (a + k) ∷ drop (suc k) (range_with_len a m)
range_next k a zero h = absurd (omega arith)
range_next zero a (suc m) h = ap (λ b. b ∷ range_with_len (a + 1) m) (omega arith)
range_next (suc k) a (suc m) h = range_next k (a + 1) m (omega arith) ∙ ap (λ b. b ∷ drop (suc k) (range_with_len (a + 1) m)) (omega arith)

pub places_next : (n k : ℕ) → k < n * n → map (place_of n) (drop k (points n)) ≡ place_of n k ∷ map (place_of n) (drop (k + 1) (points n))
places_next n k h =
    let here : 0 + k ≡ k = omega arith in
    let more : suc k ≡ k + 1 = omega arith in
    ap (map (place_of n)) (range_next k 0 (n * n) h) ∙ ap₂ (λ a b. place_of n a ∷ map (place_of n) (drop b (points n))) here more

pub places_end : (n k : ℕ) → n * n ≤ k → map (place_of n) (drop k (points n)) ≡ []
places_end n k h = ap (map (place_of n)) (drop_all k (points n) (omega (arith, h, length-points n)))
