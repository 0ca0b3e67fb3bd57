-- Cyclic shifts.
use Rattle.std.proofs.Common.{◌≡◌, ◌≢◌, ◌<◌, ◌≤◌, ◌+◌, ◌-◌, ◌*◌, ◌%◌, ◌++◌, ◌∙◌, ℕ, List, length, get_or, take, drop, map, arith, sym, refl, ap, inl, inr}
use Rattle.std.proofs.Common.{length-append}
use Rattle.std.proofs.Math.Nat.{mod-eq_of_lt}
use Rattle.std.proofs.lemmas.Bool.{cases_lt}
use Rattle.std.proofs.lemmas.Nat.{mod-mul-add}
use Rattle.std.proofs.lemmas.List.{get_or-map, length-map, length-take, length-drop, get_or-append_right, get_or_append_left, get_or-take, get_or-drop}
use Rattle.grid_core.specs.declared.mark.Kind.{Kind}
use Rattle.grid_core.specs.declared.mark.Kind.TheVariants.{Cross, Ring}
use Rattle.grid_core.specs.Diagram.{Diagram, IsGrid, size, row_of}
use Rattle.grid_moves.specs.declared.step.Move.TheVariants.{ShiftColumns, ShiftRows}
use Rattle.grid_moves.specs.Renumbered.{Renumbered, unchanged}
use Rattle.grid_moves.specs.Shift.{shifted}
use Rattle.grid_moves.specs.Step.{Step}
use Rattle.grid_moves.proofs.Renumbering.{Permutes, unchanged-permutes, renumbered_grid}

pub shifted_low : (n k c : ℕ) → c < k → k < n → shifted n k c ≡ c + (n - k)
shifted_low n k c lt most = let small : c + (n - k) < n = omega arith in mod-eq_of_lt small

pub shifted_high : (n k c : ℕ) → k ≤ c → c < n → shifted n k c ≡ c - k
shifted_high n k c le lt = ap (λ (z : ℕ). z % n) (let e : c + (n - k) ≡ 1 * n + (c - k) = omega arith in e) ∙ mod-mul-add 1 n (c - k) (omega arith)

pub shifted_below : (n k c : ℕ) → k < n → c < n → shifted n k c < n
shifted_below n k c most lt = elim (cases_lt c k) [ inl low ↦ omega (arith, shifted_low n k c low most) | inr high ↦ omega (arith, shifted_high n k c high lt) ]

-- k itself comes to 0, and it alone
pub shifted_to_zero : (n k : ℕ) → k < n → shifted n k k ≡ 0
shifted_to_zero n k lt = shifted_high n k k (omega arith) lt ∙ omega arith

pub shifted_above_zero : (n k c : ℕ) → k < n → c < n → c ≢ k → 0 < shifted n k c
shifted_above_zero n k c most lt apart = elim (cases_lt c k) [
  | inl low ↦ omega (arith, shifted_low n k c low most, most)
  | inr high ↦ omega (arith, shifted_high n k c high lt, apart)
]

-- k back, then n - k back, is once round
pub shifted_round : (n k c : ℕ) → 0 < k → k < n → c < n → shifted n (n - k) (shifted n k c) ≡ c
shifted_round n k c least most lt = elim (cases_lt c k) [
  | inl low ↦
      let e = shifted_low n k c low most in
      let f = shifted_high n (n - k) (shifted n k c) (omega (arith, e)) (omega (arith, e)) in
      omega (arith, e, f)
  | inr high ↦
      let e = shifted_high n k c high lt in
      let f = shifted_low n (n - k) (shifted n k c) (omega (arith, e)) (omega (arith, least)) in
      omega (arith, e, f)
]

pub shifted-permutes : (n k : ℕ) → 0 < k → k < n → Permutes n (shifted n k)
shifted-permutes n k least most =
    let back : (c : ℕ) → c < n → shifted n k (shifted n (n - k) c) ≡ c =
    λ c lt. ap (λ (z : ℕ). shifted n z (shifted n (n - k) c)) (let e : k ≡ n - (n - k) = omega arith in e)
    ∙ shifted_round n (n - k) c (omega arith) (omega arith) lt in
    record {
      below = λ c lt. shifted_below n k c most lt;
      same = λ b c hb hc e. sym (shifted_round n k b least most hb) ∙ ap (λ (z : ℕ). shifted n (n - k) z) e ∙ shifted_round n k c least most hc;
      onto = λ c lt. (shifted n (n - k) c, shifted_below n (n - k) c (omega arith) lt, back c lt);
    }

-- the diagrams as lists
abbrev pub rotated : ℕ → List ℕ → List ℕ
rotated k xs = drop k xs ++ take k xs

abbrev pub columns_shifted : ℕ → Diagram → Diagram
columns_shifted k d = record { x = rotated k d.x; o = rotated k d.o }

abbrev pub rows_shifted : ℕ → Diagram → Diagram
rows_shifted k d = record { x = map (shifted (size d) k) d.x; o = map (shifted (size d) k) d.o }

length_rotated : (k : ℕ) (xs : List ℕ) → k ≤ length xs → length (rotated k xs) ≡ length xs
length_rotated k xs le = omega (arith, length-append (drop k xs) (take k xs), length-drop k xs, length-take k xs)

rotated_at : (xs : List ℕ) (n k c : ℕ) → length xs ≡ n → k < n → c < n → get_or (rotated k xs) (shifted n k c) 0 ≡ get_or xs c 0
rotated_at xs n k c size most lt = elim (cases_lt c k) [
  | inl low ↦
      ap (λ (z : ℕ). get_or (rotated k xs) z 0) (shifted_low n k c low most)
      ∙ get_or-append_right (drop k xs) (take k xs) (n - k) (c + (n - k)) 0 (omega (arith, length-drop k xs, size)) (omega arith)
      ∙ ap (λ (z : ℕ). get_or (take k xs) z 0) (let e : c + (n - k) - (n - k) ≡ c = omega arith in e)
      ∙ get_or-take k xs c 0 low
  | inr high ↦
      ap (λ (z : ℕ). get_or (rotated k xs) z 0) (shifted_high n k c high lt)
      ∙ get_or_append_left (drop k xs) (take k xs) 0 (c - k) (omega (arith, length-drop k xs, size))
      ∙ get_or-drop k xs (c - k) 0
      ∙ ap (λ (z : ℕ). get_or xs z 0) (let e : k + (c - k) ≡ c = omega arith in e)
]

pub columns_shifted-renumbered : (k : ℕ) (d : Diagram) → IsGrid d → k < size d → Renumbered (shifted (size d) k) unchanged d (columns_shifted k d)
columns_shifted-renumbered k d grid most = record {
  same_size = length_rotated k d.x (omega arith);
  marks = λ kind b r mark. record {
    inside = omega (arith, length_rotated k d.x (omega arith), shifted_below (size d) k b most mark.inside);
    row = rows kind b mark.inside ∙ mark.row;
  };
}
  where
    rows : (kind : Kind) (b : ℕ) → b < size d → row_of kind (columns_shifted k d) (shifted (size d) k b) ≡ row_of kind d b
    rows Cross b lt = rotated_at d.x (size d) k b refl most lt
    rows Ring b lt = rotated_at d.o (size d) k b grid.same most lt

pub rows_shifted-renumbered : (k : ℕ) (d : Diagram) → IsGrid d → Renumbered unchanged (shifted (size d) k) d (rows_shifted k d)
rows_shifted-renumbered k d grid = record {
  same_size = length-map d.x (shifted (size d) k);
  marks = λ kind b s mark. record {
    inside = omega (arith, length-map d.x (shifted (size d) k), mark.inside);
    row = rows kind b mark.inside ∙ ap (λ (z : ℕ). shifted (size d) k z) mark.row;
  };
}
  where
    rows : (kind : Kind) (b : ℕ) → b < size d → row_of kind (rows_shifted k d) b ≡ shifted (size d) k (row_of kind d b)
    rows Cross b lt = get_or-map (shifted (size d) k) d.x b 0 0 lt
    rows Ring b lt = get_or-map (shifted (size d) k) d.o b 0 0 (omega (arith, lt, grid.same))

pub columns_shifted-grid : (k : ℕ) (d : Diagram) → IsGrid d → 0 < k → k < size d → IsGrid (columns_shifted k d)
columns_shifted-grid k d grid least most =
    renumbered_grid (shifted (size d) k) unchanged d (columns_shifted k d) (shifted-permutes (size d) k least most) (unchanged-permutes (size d)) grid
    (omega (arith, length_rotated k d.x (omega arith), length_rotated k d.o (omega (arith, grid.same)), grid.same))
    (columns_shifted-renumbered k d grid most)

pub rows_shifted-grid : (k : ℕ) (d : Diagram) → IsGrid d → 0 < k → k < size d → IsGrid (rows_shifted k d)
rows_shifted-grid k d grid least most =
    renumbered_grid unchanged (shifted (size d) k) d (rows_shifted k d) (unchanged-permutes (size d)) (shifted-permutes (size d) k least most) grid
    (omega (arith, length-map d.x (shifted (size d) k), length-map d.o (shifted (size d) k), grid.same)) (rows_shifted-renumbered k d grid)

pub columns_shifted-step : (k : ℕ) (d : Diagram) → IsGrid d → 0 < k → k < size d → Step d (ShiftColumns k) (columns_shifted k d)
columns_shifted-step k d grid least most = record {
  before = grid;
  after = columns_shifted-grid k d grid least most;
  marks = record { least = least; most = most; renumbered = columns_shifted-renumbered k d grid most };
}

pub rows_shifted-step : (k : ℕ) (d : Diagram) → IsGrid d → 0 < k → k < size d → Step d (ShiftRows k) (rows_shifted k d)
rows_shifted-step k d grid least most = record {
  before = grid;
  after = rows_shifted-grid k d grid least most;
  marks = record { least = least; most = most; renumbered = rows_shifted-renumbered k d grid };
}
