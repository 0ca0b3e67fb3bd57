-- Shifts round the circle, 0 included, and translates by their marks.
use Rattle.std.proofs.Common.{◌≡◌, ◌<◌, ◌≤◌, ◌+◌, ◌-◌, ◌*◌, ◌%◌, ◌++◌, ◌∙◌, ◌⊎◌, ℕ, List, length, get_or, take, drop, arith, sym, refl, ap, ap₂, inl, inr}
use Rattle.std.proofs.Common.{length-append}
use Rattle.std.specs.List.{All}
use Rattle.std.proofs.Math.Nat.{mod-eq_of_lt}
use Rattle.std.proofs.lemmas.Bool.{cases_lt}
use Rattle.std.proofs.lemmas.Nat.{mod-mul-add}
use Rattle.std.proofs.lemmas.List.{ext_get_or, get_or-map, length-map, length-take, length-drop, get_or-append_right, get_or_append_left, get_or-take}
use Rattle.std.proofs.lemmas.List.{get_or-drop}
use Rattle.std.proofs.lemmas.List.Elements.{All-append, All-take, All-drop}
use Rattle.grid_core.specs.declared.mark.Kind.{Kind}
use Rattle.grid_core.specs.declared.mark.Kind.TheVariants.{Cross, Ring}
use Rattle.grid_core.specs.Diagram.{Diagram, IsGrid, size, row_of}
use Rattle.grid_core.proofs.Marks.{row_below}
use Rattle.grid_moves.specs.Renumbered.{Renumbered}
use Rattle.grid_moves.specs.Shift.{shifted}
use Rattle.grid_moves.proofs.Shifted.{shifted_low, shifted_high, shifted_below}
use Rattle.grid_moves.proofs.Renumbering.{Permutes, renumbered_grid}
use Rattle.grid_keys.specs.Translation.{translated_rows, translate}

-- the old number of what has the number c after the shift by k
abbrev pub origin : ℕ → ℕ → ℕ → ℕ
origin n k c = (c + k) % n

pub shifted_cases : (n k c : ℕ) → k < n → c < n → ((c < k) × (shifted n k c ≡ c + (n - k))) ⊎ ((k ≤ c) × (shifted n k c ≡ c - k))
shifted_cases n k c most lt = elim (cases_lt c k) [
  | inl low ↦ inl (low, shifted_low n k c low most)
  | inr high ↦ inr (high, shifted_high n k c high lt)
]

pub origin_cases : (n k c : ℕ) → k < n → c < n → ((c + k < n) × (origin n k c ≡ c + k)) ⊎ ((n ≤ c + k) × (origin n k c ≡ c + k - n))
origin_cases n k c most lt = elim (cases_lt (c + k) n) [
  | inl low ↦ inl (low, mod-eq_of_lt low)
  | inr high ↦ inr (high, ap (λ (z : ℕ). z % n) (let e : c + k ≡ 1 * n + (c + k - n) = omega arith in e) ∙ mod-mul-add 1 n (c + k - n) (omega arith))
]

pub origin-below : (n k c : ℕ) → k < n → c < n → origin n k c < n
origin-below n k c most lt = elim (origin_cases n k c most lt) [ inl low ↦ omega (arith, low.0, low.1) | inr high ↦ omega (arith, high.0, high.1) ]

pub shifted-origin : (n k c : ℕ) → k < n → c < n → shifted n k (origin n k c) ≡ c
shifted-origin n k c most lt = elim (origin_cases n k c most lt) [
  | inl low ↦ elim (shifted_cases n k (origin n k c) most (origin-below n k c most lt)) [
    | inl a ↦ absurd (omega (arith, low.1, a.0))
    | inr b ↦ omega (arith, low.1, b.1)
  ]
  | inr high ↦ elim (shifted_cases n k (origin n k c) most (origin-below n k c most lt)) [
    | inl a ↦ omega (arith, high.0, high.1, a.1)
    | inr b ↦ absurd (omega (arith, high.0, high.1, b.0))
  ]
]

pub origin-shifted : (n k c : ℕ) → k < n → c < n → origin n k (shifted n k c) ≡ c
origin-shifted n k c most lt = elim (shifted_cases n k c most lt) [
  | inl low ↦ elim (origin_cases n k (shifted n k c) most (shifted_below n k c most lt)) [
    | inl a ↦ absurd (omega (arith, low.0, low.1, a.0))
    | inr b ↦ omega (arith, low.0, low.1, b.1)
  ]
  | inr high ↦ elim (origin_cases n k (shifted n k c) most (shifted_below n k c most lt)) [
    | inl a ↦ omega (arith, high.0, high.1, a.1)
    | inr b ↦ absurd (omega (arith, high.0, high.1, b.0))
  ]
]

pub shifted-permutes : (n k : ℕ) → k < n → Permutes n (shifted n k)
shifted-permutes n k most = record {
  below = λ c lt. shifted_below n k c most lt;
  same = λ b c hb hc e. sym (origin-shifted n k b most hb) ∙ ap (λ (z : ℕ). origin n k z) e ∙ origin-shifted n k c most hc;
  onto = λ c lt. (origin n k c, origin-below n k c most lt, shifted-origin n k c most lt);
}

-- one shift after another is the shift by the sum
pub shifted-shifted : (n j k c : ℕ) → j < n → k < n → c < n → shifted n k (shifted n j c) ≡ shifted n (origin n k j) c
shifted-shifted n j k c hj hk lt =
    let sum = origin_cases n k j hk hj in
    let one = shifted_cases n j c hj lt in
    let two = shifted_cases n k (shifted n j c) hk (shifted_below n j c hj lt) in
    let both = shifted_cases n (origin n k j) c (origin-below n k j hk hj) lt in
    grind arith

pub origin-origin : (n j k c : ℕ) → j < n → k < n → c < n → origin n j (origin n k c) ≡ origin n (origin n k j) c
origin-origin n j k c hj hk lt =
    let sum = origin_cases n k j hk hj in
    let one = origin_cases n k c hk lt in
    let two = origin_cases n j (origin n k c) hj (origin-below n k c hk lt) in
    let both = origin_cases n (origin n k j) c (origin-below n k j hk hj) lt in
    grind arith

-- lists
pub length-translated_rows : (n a b : ℕ) (rows : List ℕ) → a ≤ length rows → length (translated_rows n a b rows) ≡ length rows
length-translated_rows n a b rows le =
    omega (arith, length-map (drop a rows ++ take a rows) (shifted n b), length-append (drop a rows) (take a rows), length-drop a rows, length-take a rows)

pub cut_at : (rows : List ℕ) (n a c : ℕ) → length rows ≡ n → a < n → c < n → get_or (drop a rows ++ take a rows) c 0 ≡ get_or rows (origin n a c) 0
cut_at rows n a c long most lt = elim (origin_cases n a c most lt) [
  | inl low ↦
      get_or_append_left (drop a rows) (take a rows) 0 c (omega (arith, length-drop a rows, long, low.0))
      ∙ get_or-drop a rows c 0
      ∙ ap (λ (z : ℕ). get_or rows z 0) (omega (arith, low.1))
  | inr high ↦
      get_or-append_right (drop a rows) (take a rows) (n - a) c 0 (omega (arith, length-drop a rows, long)) (omega (arith, high.0))
      ∙ get_or-take a rows (c - (n - a)) 0 (omega (arith, high.0, lt))
      ∙ ap (λ (z : ℕ). get_or rows z 0) (omega (arith, high.0, high.1, most))
]

pub translated_rows_at : (rows : List ℕ) (n a b c : ℕ) → length rows ≡ n → a < n → c < n
    → get_or (translated_rows n a b rows) c 0 ≡ shifted n b (get_or rows (origin n a c) 0)
translated_rows_at rows n a b c long most lt =
    get_or-map (shifted n b) (drop a rows ++ take a rows) c 0 0
    (omega (arith, length-append (drop a rows) (take a rows), length-drop a rows, length-take a rows, long, lt, most))
    ∙ ap (λ (z : ℕ). shifted n b z) (cut_at rows n a c long most lt)

-- diagrams
pub size-translate : (d : Diagram) (a b : ℕ) → a < size d → size (translate d a b) ≡ size d
size-translate d a b most = length-translated_rows (size d) a b d.x (omega arith)

pub row_of-translate : (d : Diagram) (a b : ℕ) → IsGrid d → a < size d → (kind : Kind) (c : ℕ) → c < size d
    → row_of kind (translate d a b) c ≡ shifted (size d) b (row_of kind d (origin (size d) a c))
row_of-translate d a b grid most Cross c lt = translated_rows_at d.x (size d) a b c refl most lt
row_of-translate d a b grid most Ring c lt = translated_rows_at d.o (size d) a b c grid.same most lt

pub translate-renumbered : (d : Diagram) (a b : ℕ) → IsGrid d → a < size d → Renumbered (shifted (size d) a) (shifted (size d) b) d (translate d a b)
translate-renumbered d a b grid most = record {
  same_size = size-translate d a b most;
  marks = λ kind c r mark. record {
    inside = omega (arith, size-translate d a b most, shifted_below (size d) a c most mark.inside);
    row = row_of-translate d a b grid most kind (shifted (size d) a c) (shifted_below (size d) a c most mark.inside)
        ∙ ap (λ (z : ℕ). shifted (size d) b (row_of kind d z)) (origin-shifted (size d) a c most mark.inside)
        ∙ ap (λ (z : ℕ). shifted (size d) b z) mark.row;
  };
}

pub translate-grid : (d : Diagram) (a b : ℕ) → IsGrid d → a < size d → b < size d → IsGrid (translate d a b)
translate-grid d a b grid ha hb =
    renumbered_grid (shifted (size d) a) (shifted (size d) b) d (translate d a b) (shifted-permutes (size d) a ha) (shifted-permutes (size d) b hb) grid
    (length-translated_rows (size d) a b d.o (omega (arith, grid.same)) ∙ grid.same ∙ sym (size-translate d a b ha))
    (translate-renumbered d a b grid ha)

-- a list that is shifted twice
translated_rows-twice : (n a b a' b' : ℕ) (rows : List ℕ) → length rows ≡ n → a < n → b < n → a' < n → b' < n → ((c : ℕ) → c < n → get_or rows c 0 < n)
    → translated_rows n a' b' (translated_rows n a b rows) ≡ translated_rows n (origin n a' a) (origin n b' b) rows
translated_rows-twice n a b a' b' rows long ha hb ha' hb' below =
    let once = length-translated_rows n a b rows (omega (arith, long)) in
    let twice = length-translated_rows n a' b' (translated_rows n a b rows) (omega (arith, once, long)) in
    let whole = length-translated_rows n (origin n a' a) (origin n b' b) rows (omega (arith, long, origin-below n a' a ha' ha)) in
    ext_get_or 0 (translated_rows n a' b' (translated_rows n a b rows)) (translated_rows n (origin n a' a) (origin n b' b) rows)
    (omega (arith, once, twice, whole))
    (λ c inside.
    let lt : c < n = omega (arith, inside, twice, once, long) in
    let near = origin-below n a' c ha' lt in
    translated_rows_at (translated_rows n a b rows) n a' b' c (omega (arith, once, long)) ha' lt
    ∙ ap (λ (z : ℕ). shifted n b' z) (translated_rows_at rows n a b (origin n a' c) long ha near)
    ∙ ap (λ (z : ℕ). shifted n b' (shifted n b (get_or rows z 0))) (origin-origin n a a' c ha ha' lt)
    ∙ shifted-shifted n b b' (get_or rows (origin n (origin n a' a) c) 0) hb hb'
    (below (origin n (origin n a' a) c) (origin-below n (origin n a' a) c (origin-below n a' a ha' ha) lt))
    ∙ sym (translated_rows_at rows n (origin n a' a) (origin n b' b) c long (origin-below n a' a ha' ha) lt))

-- a translate of a translate is the translate by the sums
pub translate-translate : (d : Diagram) (a b a' b' : ℕ) → IsGrid d → a < size d → b < size d → a' < size d → b' < size d
    → translate (translate d a b) a' b' ≡ translate d (origin (size d) a' a) (origin (size d) b' b)
translate-translate d a b a' b' grid ha hb ha' hb' =
    ap (λ (n : ℕ). made n) (size-translate d a b ha)
    ∙ ap₂ pair (translated_rows-twice (size d) a b a' b' d.x refl ha hb ha' hb' (row_below d grid Cross))
    (translated_rows-twice (size d) a b a' b' d.o grid.same ha hb ha' hb' (row_below d grid Ring))
  where
    pair : List ℕ → List ℕ → Diagram
    pair x o = record { x = x; o = o }

    made : ℕ → Diagram
    made n = record { x = translated_rows n a' b' (translated_rows (size d) a b d.x); o = translated_rows n a' b' (translated_rows (size d) a b d.o) }

-- a list from a place on, and then what stands before it, has the same elements
pub cut_inside : (n c : ℕ) (rows : List ℕ) → All (λ r. r < n) rows → All (λ r. r < n) (drop c rows ++ take c rows)
cut_inside n c rows inside = All-append (λ r. r < n) (drop c rows) (take c rows) (All-drop (λ r. r < n) c rows inside) (All-take (λ r. r < n) c rows inside)
