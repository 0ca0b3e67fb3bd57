-- Writing a table and its inverse column by column.
use Rattle.std.proofs.Common.{◌≡◌, ◌≢◌, ◌<◌, ◌≤◌, ◌+◌, ◌*◌, ◌∙◌, ◌⊎◌, inl, inr, ℕ, List, length, get_or, set, sym, ap, arith, get_or-set_other, get_or-set_same}
use Rattle.std.proofs.Math.ListN.{length-set}
use Rattle.std.proofs.lemmas.Bool.{cases_lt, cases_eq}
use Rattle.quandle_core.specs.Quandle.{Table, IsQuandle, over, back}
use Rattle.quandle_core.specs.Tables.{table_of}
use Rattle.quandle_core.specs.Columns.{cell}
use Rattle.quandle_core.specs.declared.quandle.TheConstants.{MAX_ORDER, MAX_TABLE}
use Rattle.quandle_core.proofs.Entries.{table_is}

-- x ▷ y stands in a column before that of y, or in it before place x
abbrev pub IsBefore : ℕ → ℕ → ℕ → ℕ → Type 0
IsBefore y x k j = (k < y) ⊎ (k ≡ y) × (j < x)

-- both operations are written before column y, and in it for the first x colours
pub record IsLaidOut (t : Table) (forward backward : List ℕ) (y x : ℕ) : Type 0 where
  pub long : length forward ≡ MAX_TABLE
  pub as_long : length backward ≡ MAX_TABLE
  pub overs : (j k : ℕ) → j < t.order → k < t.order → IsBefore y x k j → cell forward j k ≡ over t j k
  pub backs : (j k : ℕ) → j < t.order → k < t.order → IsBefore y x k j → cell backward (over t j k) k ≡ j

-- the cells of two columns, and of two colours in one, are apart
other_column : (y x k j : ℕ) → k < y → j < MAX_ORDER → y * MAX_ORDER + x ≢ k * MAX_ORDER + j
other_column y x k j lower within = λ e. absurd (omega arith)

cell_apart : (cells : List ℕ) (y x k j a : ℕ) → y * MAX_ORDER + x ≢ k * MAX_ORDER + j → cell (set cells (y * MAX_ORDER + x) a) j k ≡ cell cells j k
cell_apart cells y x k j a other = get_or-set_other cells (y * MAX_ORDER + x) (k * MAX_ORDER + j) a 0 (λ e. other (sym e))

-- one colour more in column y
pub laid_out_more : (t : Table) → IsQuandle t → t.order ≤ MAX_ORDER → (forward backward : List ℕ) (y x z : ℕ) → y < t.order → x < t.order → z ≡ over t x y
    → IsLaidOut t forward backward y x → IsLaidOut t (set forward (y * MAX_ORDER + x) z) (set backward (y * MAX_ORDER + z) x) y (x + 1)
laid_out_more t q most forward backward y x z by_y at z_is so_far =
    record {
      long = length-set forward (y * MAX_ORDER + x) z ∙ so_far.long;
      as_long = length-set backward (y * MAX_ORDER + z) x ∙ so_far.as_long;
      overs = λ j k lt also before. elim before [
        | inl lower ↦ cell_apart forward y x k j z (other_column y x k j lower (omega arith)) ∙ so_far.overs j k lt also (inl lower)
        | inr here ↦ elim (cases_eq j x) [
          | inl same ↦
              ap (λ (i : ℕ). get_or (set forward (y * MAX_ORDER + x) z) i 0) (place k j y x here.0 same)
              ∙ (get_or-set_same forward (y * MAX_ORDER + x) z 0 (inside forward y x so_far.long (omega arith) (omega arith))
              ∙ (z_is ∙ sym (ap (λ i. over t i k) same ∙ ap (λ i. over t x i) here.0)))
          | inr other ↦
              let less : j < x = omega (arith, here.1, other) in
              cell_apart forward y x k j z (λ e. let h = here.0 in absurd (omega (arith, e, other, h))) ∙ so_far.overs j k lt also (inr (here.0, less))
        ]
      ];
      backs = λ j k lt also before. elim before [
        | inl lower ↦ cell_apart backward y z k (over t j k) x (let w = q.within j k lt also in other_column y z k (over t j k) lower (omega arith))
            ∙ so_far.backs j k lt also (inl lower)
        | inr here ↦ elim (cases_eq j x) [
          | inl same ↦
              let value : over t j k ≡ z = ap (λ i. over t i k) same ∙ (ap (λ i. over t x i) here.0 ∙ sym z_is) in
              ap (λ (i : ℕ). get_or (set backward (y * MAX_ORDER + z) x) i 0) (place k (over t j k) y z here.0 value)
              ∙ (get_or-set_same backward (y * MAX_ORDER + z) x 0 (let w = q.within x y at by_y in
              inside backward y z so_far.as_long (omega arith) (omega arith)) ∙ sym same)
          | inr other ↦
              let less : j < x = omega (arith, here.1, other) in
              let apart : over t j k ≢ z = λ e. other (sym (q.back_over j k lt also)
              ∙ (ap (λ w. back t w k) (e ∙ (z_is ∙ ap (λ i. over t x i) (sym here.0))) ∙ q.back_over x k at also)) in
              cell_apart backward y z k (over t j k) x (λ e. let h = here.0 in absurd (omega (arith, e, apart, h)))
              ∙ so_far.backs j k lt also (inr (here.0, less))
        ]
      ];
    }
  where
    place : (k j y x : ℕ) → k ≡ y → j ≡ x → k * MAX_ORDER + j ≡ y * MAX_ORDER + x
    place k j y x same also = omega arith

    inside : (cells : List ℕ) (y x : ℕ) → length cells ≡ MAX_TABLE → y < MAX_ORDER → x < MAX_ORDER → y * MAX_ORDER + x < length cells
    inside cells y x long by_y at = omega arith

-- column y is whole
pub laid_out_column : (t : Table) (forward backward : List ℕ) (y x : ℕ) → t.order ≤ x → IsLaidOut t forward backward y x
    → IsLaidOut t forward backward (y + 1) 0
laid_out_column t forward backward y x le so_far = record {
  long = so_far.long;
  as_long = so_far.as_long;
  overs = λ j k lt also before. so_far.overs j k lt also (earlier j k lt before);
  backs = λ j k lt also before. so_far.backs j k lt also (earlier j k lt before);
}
  where
    earlier : (j k : ℕ) → j < t.order → IsBefore (y + 1) 0 k j → IsBefore y x k j
    earlier j k lt before = elim before [
      | inr here ↦ absurd (let l = here.1 in omega arith)
      | inl lower ↦ elim (cases_lt k y) [ inl less ↦ inl less | inr not_less ↦ inr (omega arith, omega arith) ]
    ]

-- all columns are whole
pub laid_out_table : (t : Table) → IsQuandle t → (forward backward : List ℕ) (y : ℕ) → t.order ≤ y → IsLaidOut t forward backward y 0
    → table_of t.order (cell forward) ≡ t
laid_out_table t q forward backward y le all =
    table_is t.order (cell forward) t.entries q.square (λ j k lt also. sym (all.overs j k lt also (inl (omega arith))))

pub laid_out_back : (t : Table) → IsQuandle t → (forward backward : List ℕ) (y : ℕ) → t.order ≤ y → IsLaidOut t forward backward y 0 → (j k : ℕ) → j < t.order
    → k < t.order → cell backward j k ≡ back t j k
laid_out_back t q forward backward y le all j k lt also =
    ap (λ (i : ℕ). cell backward i k) (sym (q.over_back j k lt also)) ∙ all.backs (back t j k) k (q.back_within j k lt also) also (inl (omega arith))
