-- From moves told by each column's rows to the list functions of the laws.
use Rattle.std.proofs.Common.{◌≡◌, ◌≢◌, ◌∙◌, ◌<◌, ◌≤◌, ◌+◌, ◌-◌, ◌%◌, ℕ, zero, suc, List, [], ◌∷◌, map, length, ap, ap₂, sym, refl, arith, inl, inr}
use Rattle.std.specs.Prelude.{◌⊎◌, slice_index, Bool, true, false}
use Rattle.std.proofs.Common.{cond}
use Rattle.std.specs.List.{All}
use Rattle.std.proofs.lemmas.Nat.{mod-mul-add}
use Rattle.std.proofs.lemmas.Bool.{cases_order}
use Rattle.grid_core.specs.Diagram.{Diagram, IsGrid}
use Rattle.grid_core.proofs.OneEach.{each_below}
use Rattle.colour_laws.proofs.ColumnLists.{Column, dropped, IsNested, IsDisjoint, IsMarkAt, relabel, raised, short, long, with_block, ends}
use Rattle.colour_laws.proofs.ColouredColumns.{fallen, columns, neighbours_traded, IsTradableAt, xs_of, os_of, IsSharing, HasBoth}
use Rattle.colour_laws.proofs.DroppedColumns.{dropped_zero, dropped_other}
use Rattle.colour_laws.proofs.Marked.{xs_of_columns, os_of_columns}
use Rattle.colour_laws.proofs.RowShifts.{xs_of_relabel, os_of_relabel}

-- k rows go from the bottom to the top
sunk_low : (n k x : ℕ) → x < k → k ≤ n → (x + (n - k)) % n ≡ x + (n - k)
sunk_low n k x lt le = ap (λ m. m % n) (omega arith) ∙ mod-mul-add 0 n (x + (n - k)) (omega arith)

sunk_high : (n k x : ℕ) → k ≤ x → x < n → (x + (n - k)) % n ≡ x - k
sunk_high n k x le lt = ap (λ m. m % n) (omega arith) ∙ mod-mul-add 1 n (x - k) (omega arith)

sunk_more : (n k x : ℕ) → suc k ≤ n → x < n → dropped n ((x + (n - k)) % n) ≡ (x + (n - suc k)) % n
sunk_more n k x le lt = elim (cases_order x k) [
  | inl e ↦
      dropped_zero n ((x + (n - k)) % n) (sunk_high n k x (omega arith) lt ∙ omega arith)
      ∙ (omega arith) ∙ sym (sunk_low n (suc k) x (omega arith) le)
  | inr (inl l) ↦
      let is = sunk_low n k x l (omega arith) in
      dropped_other n ((x + (n - k)) % n) (λ e. omega (arith, e, is)) ∙ omega (arith, is) ∙ sym (sunk_low n (suc k) x (omega arith) le)
  | inr (inr l) ↦
      let is = sunk_high n k x (omega arith) lt in
      dropped_other n ((x + (n - k)) % n) (λ e. omega (arith, e, is)) ∙ omega (arith, is) ∙ sym (sunk_high n (suc k) x (omega arith) lt)
]

sunk_rows : (n k : ℕ) → suc k ≤ n → (xs : List ℕ) → All (λ r. r < n) xs
    → map (dropped n) (map (λ x. (x + (n - k)) % n) xs) ≡ map (λ x. (x + (n - suc k)) % n) xs
sunk_rows n k le [] all = refl
sunk_rows n k le (x ∷ xs) all = ap₂ (λ m l. m ∷ l) (sunk_more n k x le (all 0 0 (omega arith))) (sunk_rows n k le xs (λ j d lt. all (suc j) d (omega arith)))

sunk_none : (n : ℕ) (xs : List ℕ) → All (λ r. r < n) xs → map (λ x. (x + (n - 0)) % n) xs ≡ xs
sunk_none n [] all = refl
sunk_none n (x ∷ xs) all =
    ap₂ (λ m l. m ∷ l) (sunk_high n 0 x (omega arith) (all 0 0 (omega arith)) ∙ omega arith) (sunk_none n xs (λ j d lt. all (suc j) d (omega arith)))

-- k shifts of rows by one are the shift by k: a mark in row x goes to row (x - k) mod n
pub fallen_crosses : (g : Diagram) → IsGrid g → (k : ℕ) → k ≤ length g.x → (fallen k g).x ≡ map (λ x. (x + (length g.x - k)) % length g.x) g.x
fallen_crosses g grid zero le = sym (sunk_none (length g.x) g.x (each_below (length g.x) g.x grid.crosses))
fallen_crosses g grid (suc k) le =
    ap (map (dropped (length g.x))) (fallen_crosses g grid k (omega arith)) ∙ sunk_rows (length g.x) k le g.x (each_below (length g.x) g.x grid.crosses)

pub fallen_rings : (g : Diagram) → IsGrid g → (k : ℕ) → k ≤ length g.x → (fallen k g).o ≡ map (λ x. (x + (length g.x - k)) % length g.x) g.o
fallen_rings g grid zero le = sym (sunk_none (length g.x) g.o (each_below (length g.x) g.o grid.rings))
fallen_rings g grid (suc k) le =
    ap (map (dropped (length g.x))) (fallen_rings g grid k (omega arith)) ∙ sunk_rows (length g.x) k le g.o (each_below (length g.x) g.o grid.rings)

-- lists that agree at each index
pub same_at : (xs ys : List ℕ) → length xs ≡ length ys → ((c : ℕ) → c < length ys → slice_index xs c ≡ slice_index ys c) → xs ≡ ys
same_at [] [] e same = refl
same_at [] (y ∷ ys) e same = absurd (omega (arith, e))
same_at (x ∷ xs) [] e same = absurd (omega (arith, e))
same_at (x ∷ xs) (y ∷ ys) e same = ap₂ (λ m l. m ∷ l) (same 0 (omega arith)) (same_at xs ys (omega (arith, e)) (λ c lt. same (suc c) (omega arith)))

-- a list that is a function of another one at each index
pub mapped_at : (f : ℕ → ℕ) (xs ys : List ℕ) → length xs ≡ length ys → ((c : ℕ) → c < length ys → slice_index xs c ≡ f (slice_index ys c)) → xs ≡ map f ys
mapped_at f [] [] e same = refl
mapped_at f [] (y ∷ ys) e same = absurd (omega (arith, e))
mapped_at f (x ∷ xs) [] e same = absurd (omega (arith, e))
mapped_at f (x ∷ xs) (y ∷ ys) e same = ap₂ (λ m l. m ∷ l) (same 0 (omega arith)) (mapped_at f xs ys (omega (arith, e)) (λ c lt. same (suc c) (omega arith)))

-- two neighbours trade places, told at each index
pub traded_at : (c : ℕ) (xs ys : List ℕ) → suc c < length ys → length xs ≡ length ys → slice_index xs c ≡ slice_index ys (suc c)
    → slice_index xs (suc c) ≡ slice_index ys c
    → ((i : ℕ) → i < length ys → i ≢ c → i ≢ suc c → slice_index xs i ≡ slice_index ys i) → xs ≡ neighbours_traded c ys
traded_at zero xs [] lt size one two others = absurd (omega (arith, lt))
traded_at zero xs (y ∷ []) lt size one two others = absurd (omega (arith, lt))
traded_at zero [] (y ∷ z ∷ ys) lt size one two others = absurd (omega (arith, size))
traded_at zero (x ∷ []) (y ∷ z ∷ ys) lt size one two others = absurd (omega (arith, size))
traded_at zero (x ∷ w ∷ xs) (y ∷ z ∷ ys) lt size one two others =
    let rest : xs ≡ ys = same_at xs ys (omega (arith, size)) (λ i l. others (suc (suc i)) (omega arith) (λ e. omega arith) (λ e. omega arith)) in
    ap₂ (λ a l. a ∷ l) one (ap₂ (λ a l. a ∷ l) two rest)
traded_at (suc c) xs [] lt size one two others = absurd (omega (arith, lt))
traded_at (suc c) [] (y ∷ ys) lt size one two others = absurd (omega (arith, size))
traded_at (suc c) (x ∷ xs) (y ∷ ys) lt size one two others =
    ap₂ (λ a l. a ∷ l) (others 0 (omega arith) (λ e. omega arith) (λ e. omega arith))
    (traded_at c xs ys (omega (arith, lt)) (omega (arith, size)) one two
    (λ i l n m. others (suc i) (omega arith) (λ e. n (omega arith)) (λ e. m (omega arith))))

-- the column of index c, without a colour
abbrev pub column_at : ℕ → List ℕ → List ℕ → Column
column_at c xs os = record { x = slice_index xs c; o = slice_index os c; y = 0 }

-- the rule of an exchange of columns, told at the indices
pub tradable_at : (c : ℕ) (xs os : List ℕ) → suc c < length xs → length os ≡ length xs
    → IsNested (column_at c xs os) (column_at (suc c) xs os) ⊎ (IsNested (column_at (suc c) xs os) (column_at c xs os) ⊎ IsDisjoint (column_at c xs os)
    (column_at (suc c) xs os))
    → IsTradableAt c xs os
tradable_at zero [] os lt size apart = absurd (omega (arith, lt))
tradable_at zero (x ∷ []) os lt size apart = absurd (omega (arith, lt))
tradable_at zero (x ∷ z ∷ xs) [] lt size apart = absurd (omega (arith, size))
tradable_at zero (x ∷ z ∷ xs) (o ∷ []) lt size apart = absurd (omega (arith, size))
tradable_at zero (x ∷ z ∷ xs) (o ∷ w ∷ os) lt size apart = apart
tradable_at (suc c) [] os lt size apart = absurd (omega (arith, lt))
tradable_at (suc c) (x ∷ xs) [] lt size apart = absurd (omega (arith, size))
tradable_at (suc c) (x ∷ xs) (o ∷ os) lt size apart = tradable_at c xs os (omega (arith, lt)) (omega (arith, size)) apart

-- a row that two neighbouring columns share, told at their indices
pub sharing_at : (r c : ℕ) (xs os ys : List ℕ) → suc c < length xs → length os ≡ length xs → length ys ≡ length xs
    → ((slice_index xs c ≡ r) × (slice_index os (suc c) ≡ r)) ⊎ ((slice_index os c ≡ r) × (slice_index xs (suc c) ≡ r)) → IsSharing r c (columns xs os ys)
sharing_at r c [] os ys lt e f is = absurd (omega (arith, lt))
sharing_at r c (x ∷ xs) [] ys lt e f is = absurd (omega (arith, e))
sharing_at r c (x ∷ xs) (o ∷ os) [] lt e f is = absurd (omega (arith, f))
sharing_at r zero (x ∷ []) (o ∷ os) (y ∷ ys) lt e f is = absurd (omega (arith, lt))
sharing_at r zero (x ∷ z ∷ xs) (o ∷ []) (y ∷ ys) lt e f is = absurd (omega (arith, e))
sharing_at r zero (x ∷ z ∷ xs) (o ∷ w ∷ os) (y ∷ []) lt e f is = absurd (omega (arith, f))
sharing_at r zero (x ∷ z ∷ xs) (o ∷ w ∷ os) (y ∷ v ∷ ys) lt e f is = is
sharing_at r (suc c) (x ∷ xs) (o ∷ os) (y ∷ ys) lt e f is = sharing_at r c xs os ys (omega (arith, lt)) (omega (arith, e)) (omega (arith, f)) is

-- a column that two rows share, told at its index
pub both_at : (r s k : ℕ) (xs os ys : List ℕ) → k < length xs → length os ≡ length xs → length ys ≡ length xs
    → ends r (column_at k xs os) ≡ true → ends s (column_at k xs os) ≡ true → HasBoth r s (columns xs os ys)
both_at r s k [] os ys lt e f one two = absurd (omega (arith, lt))
both_at r s k (x ∷ xs) [] ys lt e f one two = absurd (omega (arith, e))
both_at r s k (x ∷ xs) (o ∷ os) [] lt e f one two = absurd (omega (arith, f))
both_at r s zero (x ∷ xs) (o ∷ os) (y ∷ ys) lt e f one two = inl (one, two)
both_at r s (suc k) (x ∷ xs) (o ∷ os) (y ∷ ys) lt e f one two = inr (both_at r s k xs os ys (omega (arith, lt)) (omega (arith, e)) (omega (arith, f)) one two)

-- a mark, told at its index
pub mark_at : (mark : Bool) (r k : ℕ) (xs os ys : List ℕ) → k < length xs → length os ≡ length xs → length ys ≡ length xs
    → cond mark (slice_index xs k) (slice_index os k) ≡ r → cond mark (slice_index os k) (slice_index xs k) ≢ r → IsMarkAt mark r k (columns xs os ys)
mark_at mark r k [] os ys lt e f here other = absurd (omega (arith, lt))
mark_at mark r k (x ∷ xs) [] ys lt e f here other = absurd (omega (arith, e))
mark_at mark r k (x ∷ xs) (o ∷ os) [] lt e f here other = absurd (omega (arith, f))
mark_at true r zero (x ∷ xs) (o ∷ os) (y ∷ ys) lt e f here other = (here, other)
mark_at false r zero (x ∷ xs) (o ∷ os) (y ∷ ys) lt e f here other = (here, other)
mark_at mark r (suc k) (x ∷ xs) (o ∷ os) (y ∷ ys) lt e f here other =
    mark_at mark r k xs os ys (omega (arith, lt)) (omega (arith, e)) (omega (arith, f)) here other

-- the marks of a stabilised grid, told at the indices; the first and the second column of the block
abbrev pub block_first : Bool → Bool → Bool → ℕ → Column → Column
block_first mark true high r c = long mark high r c
block_first mark false high r c = short mark high r c

abbrev pub block_second : Bool → Bool → Bool → ℕ → Column → Column
block_second mark true high r c = short mark high r c
block_second mark false high r c = long mark high r c

pub with_block_crosses_at : (mark right high : Bool) (r k : ℕ) (xs os ys hs : List ℕ) → k < length xs → length os ≡ length xs → length ys ≡ length xs
    → length hs ≡ suc (length xs)
    → slice_index hs k ≡ (block_first mark right high r (column_at k xs os)).x → slice_index hs (suc k) ≡ (block_second mark right high r (column_at k xs os)).x
    → ((i : ℕ) → i < k → slice_index hs i ≡ raised r high (slice_index xs i))
    → ((i : ℕ) → k < i → i < length xs → slice_index hs (suc i) ≡ raised r high (slice_index xs i))
    → hs ≡ xs_of (with_block mark right high r k (columns xs os ys))
with_block_crosses_at mark right high r k [] os ys hs lt e f size one two low high' = absurd (omega (arith, lt))
with_block_crosses_at mark right high r k (x ∷ xs) [] ys hs lt e f size one two low high' = absurd (omega (arith, e))
with_block_crosses_at mark right high r k (x ∷ xs) (o ∷ os) [] hs lt e f size one two low high' = absurd (omega (arith, f))
with_block_crosses_at mark right high r k (x ∷ xs) (o ∷ os) (y ∷ ys) [] lt e f size one two low high' = absurd (omega (arith, size))
with_block_crosses_at mark right high r zero (x ∷ xs) (o ∷ os) (y ∷ ys) (h ∷ []) lt e f size one two low high' = absurd (omega (arith, size))
with_block_crosses_at mark true high r zero (x ∷ xs) (o ∷ os) (y ∷ ys) (h ∷ m ∷ hs) lt e f size one two low high' =
    let rest : hs ≡ xs_of (map (relabel (raised r high)) (columns xs os ys)) =
    mapped_at (raised r high) hs xs (omega (arith, size)) (λ i l. high' (suc i) (omega arith) (omega arith))
    ∙ sym (xs_of_relabel (raised r high) (columns xs os ys) ∙ ap (map (raised r high)) (xs_of_columns xs os ys (omega (arith, e)) (omega (arith, f)))) in
    ap₂ (λ a l. a ∷ l) one (ap₂ (λ a l. a ∷ l) two rest)
with_block_crosses_at mark false high r zero (x ∷ xs) (o ∷ os) (y ∷ ys) (h ∷ m ∷ hs) lt e f size one two low high' =
    let rest : hs ≡ xs_of (map (relabel (raised r high)) (columns xs os ys)) =
    mapped_at (raised r high) hs xs (omega (arith, size)) (λ i l. high' (suc i) (omega arith) (omega arith))
    ∙ sym (xs_of_relabel (raised r high) (columns xs os ys) ∙ ap (map (raised r high)) (xs_of_columns xs os ys (omega (arith, e)) (omega (arith, f)))) in
    ap₂ (λ a l. a ∷ l) one (ap₂ (λ a l. a ∷ l) two rest)
with_block_crosses_at mark right high r (suc k) (x ∷ xs) (o ∷ os) (y ∷ ys) (h ∷ hs) lt e f size one two low high' =
    ap₂ (λ a l. a ∷ l) (low 0 (omega arith))
    (with_block_crosses_at mark right high r k xs os ys hs (omega (arith, lt)) (omega (arith, e)) (omega (arith, f)) (omega (arith, size)) one two
    (λ i l. low (suc i) (omega arith)) (λ i l m. high' (suc i) (omega arith) (omega arith)))

pub with_block_rings_at : (mark right high : Bool) (r k : ℕ) (xs os ys hs : List ℕ) → k < length xs → length os ≡ length xs → length ys ≡ length xs
    → length hs ≡ suc (length xs)
    → slice_index hs k ≡ (block_first mark right high r (column_at k xs os)).o → slice_index hs (suc k) ≡ (block_second mark right high r (column_at k xs os)).o
    → ((i : ℕ) → i < k → slice_index hs i ≡ raised r high (slice_index os i))
    → ((i : ℕ) → k < i → i < length xs → slice_index hs (suc i) ≡ raised r high (slice_index os i))
    → hs ≡ os_of (with_block mark right high r k (columns xs os ys))
with_block_rings_at mark right high r k [] os ys hs lt e f size one two low high' = absurd (omega (arith, lt))
with_block_rings_at mark right high r k (x ∷ xs) [] ys hs lt e f size one two low high' = absurd (omega (arith, e))
with_block_rings_at mark right high r k (x ∷ xs) (o ∷ os) [] hs lt e f size one two low high' = absurd (omega (arith, f))
with_block_rings_at mark right high r k (x ∷ xs) (o ∷ os) (y ∷ ys) [] lt e f size one two low high' = absurd (omega (arith, size))
with_block_rings_at mark right high r zero (x ∷ xs) (o ∷ os) (y ∷ ys) (h ∷ []) lt e f size one two low high' = absurd (omega (arith, size))
with_block_rings_at mark true high r zero (x ∷ xs) (o ∷ os) (y ∷ ys) (h ∷ m ∷ hs) lt e f size one two low high' =
    let rest : hs ≡ os_of (map (relabel (raised r high)) (columns xs os ys)) =
    mapped_at (raised r high) hs os (omega (arith, size, e)) (λ i l. high' (suc i) (omega arith) (omega (arith, l, e)))
    ∙ sym (os_of_relabel (raised r high) (columns xs os ys) ∙ ap (map (raised r high)) (os_of_columns xs os ys (omega (arith, e)) (omega (arith, f)))) in
    ap₂ (λ a l. a ∷ l) one (ap₂ (λ a l. a ∷ l) two rest)
with_block_rings_at mark false high r zero (x ∷ xs) (o ∷ os) (y ∷ ys) (h ∷ m ∷ hs) lt e f size one two low high' =
    let rest : hs ≡ os_of (map (relabel (raised r high)) (columns xs os ys)) =
    mapped_at (raised r high) hs os (omega (arith, size, e)) (λ i l. high' (suc i) (omega arith) (omega (arith, l, e)))
    ∙ sym (os_of_relabel (raised r high) (columns xs os ys) ∙ ap (map (raised r high)) (os_of_columns xs os ys (omega (arith, e)) (omega (arith, f)))) in
    ap₂ (λ a l. a ∷ l) one (ap₂ (λ a l. a ∷ l) two rest)
with_block_rings_at mark right high r (suc k) (x ∷ xs) (o ∷ os) (y ∷ ys) (h ∷ hs) lt e f size one two low high' =
    ap₂ (λ a l. a ∷ l) (low 0 (omega arith))
    (with_block_rings_at mark right high r k xs os ys hs (omega (arith, lt)) (omega (arith, e)) (omega (arith, f)) (omega (arith, size)) one two
    (λ i l. low (suc i) (omega arith)) (λ i l m. high' (suc i) (omega arith) (omega arith)))
