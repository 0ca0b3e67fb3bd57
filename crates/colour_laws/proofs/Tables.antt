-- The actions of a quandle's colours have its laws for all numbers, since what is no colour stays and changes nothing.
use Rattle.std.proofs.Common.{◌≡◌, ◌∙◌, ◌<◌, ◌≤◌, ℕ, Bool, true, false, cond, ap, ap₂, sym, arith, inl, inr}
use Rattle.std.specs.Prelude.{nat_lt, ◌⊎◌}
use Rattle.std.proofs.lemmas.Bool.{cond-true, cond-false, cases_lt, lt-ltb, le-ltb, and_from, and_left, and_right}
use Rattle.quandle_core.specs.Quandle.{Table, IsQuandle, over, back}
use Rattle.colour_laws.proofs.ColumnLists.{Acts}
use Rattle.colour_laws.proofs.ColouredColumns.{act, are_both_colours}

both : (t : Table) (x y : ℕ) → x < t.order → y < t.order → are_both_colours t x y ≡ true
both t x y lx ly = and_from (nat_lt x t.order) (nat_lt y t.order) (lt-ltb x t.order lx) (lt-ltb y t.order ly)

not_both : (t : Table) (x y : ℕ) → (t.order ≤ x) ⊎ (t.order ≤ y) → are_both_colours t x y ≡ false
not_both t x y out = elim out [
  | inl l ↦ and_left (nat_lt x t.order) (nat_lt y t.order) (le-ltb x t.order l)
  | inr l ↦ and_right (nat_lt x t.order) (nat_lt y t.order) (le-ltb y t.order l)
]

-- on colours it is the table's operation
pub act_up : (t : Table) (y a : ℕ) → y < t.order → a < t.order → act t true y a ≡ back t a y
act_up t y a ly la = cond-true (are_both_colours t a y) (back t a y) a (both t a y la ly)

pub act_down : (t : Table) (y a : ℕ) → y < t.order → a < t.order → act t false y a ≡ over t a y
act_down t y a ly la = cond-true (are_both_colours t a y) (over t a y) a (both t a y la ly)

pub act_inside : (t : Table) (up : Bool) (y a : ℕ) → y < t.order → a < t.order → act t up y a ≡ cond up (back t a y) (over t a y)
act_inside t true y a ly la = act_up t y a ly la
act_inside t false y a ly la = act_down t y a ly la

-- and elsewhere it does nothing
pub act_outside : (t : Table) (up : Bool) (y a : ℕ) → (t.order ≤ a) ⊎ (t.order ≤ y) → act t up y a ≡ a
act_outside t true y a out = cond-false (are_both_colours t a y) (back t a y) a (not_both t a y out)
act_outside t false y a out = cond-false (are_both_colours t a y) (over t a y) a (not_both t a y out)

-- colours stay colours
pub act_below : (t : Table) → IsQuandle t → (d : Bool) (y a : ℕ) → a < t.order → act t d y a < t.order
act_below t q false y a la = elim (cases_lt y t.order) [
  | inl ly ↦ omega (arith, act_down t y a ly la, q.within a y la ly)
  | inr out ↦ omega (arith, act_outside t false y a (inr out), la)
]
act_below t q true y a la = elim (cases_lt y t.order) [
  | inl ly ↦ omega (arith, act_up t y a ly la, q.back_within a y la ly)
  | inr out ↦ omega (arith, act_outside t true y a (inr out), la)
]

down_up : (t : Table) → IsQuandle t → (y a : ℕ) → act t true y (act t false y a) ≡ a
down_up t q y a = elim (cases_lt y t.order) [
  | inl ly ↦ elim (cases_lt a t.order) [
    | inl la ↦ ap (act t true y) (act_down t y a ly la) ∙ (act_up t y (over t a y) ly (q.within a y la ly) ∙ q.back_over a y la ly)
    | inr out ↦ ap (act t true y) (act_outside t false y a (inl out)) ∙ act_outside t true y a (inl out)
  ]
  | inr out ↦ ap (act t true y) (act_outside t false y a (inr out)) ∙ act_outside t true y a (inr out)
]

up_down : (t : Table) → IsQuandle t → (y a : ℕ) → act t false y (act t true y a) ≡ a
up_down t q y a = elim (cases_lt y t.order) [
  | inl ly ↦ elim (cases_lt a t.order) [
    | inl la ↦ ap (act t false y) (act_up t y a ly la) ∙ (act_down t y (back t a y) ly (q.back_within a y la ly) ∙ q.over_back a y la ly)
    | inr out ↦ ap (act t false y) (act_outside t true y a (inl out)) ∙ act_outside t false y a (inl out)
  ]
  | inr out ↦ ap (act t false y) (act_outside t true y a (inr out)) ∙ act_outside t false y a (inr out)
]

fixed_down : (t : Table) → IsQuandle t → (y : ℕ) → act t false y y ≡ y
fixed_down t q y = elim (cases_lt y t.order) [
  | inl l ↦ act_down t y y l l ∙ q.idempotent y l
  | inr out ↦ act_outside t false y y (inl out)
]

fixed : (t : Table) → IsQuandle t → (up : Bool) (y : ℕ) → act t up y y ≡ y
fixed t q false y = fixed_down t q y
fixed t q true y = ap (act t true y) (sym (fixed_down t q y)) ∙ down_up t q y y

third : (t : Table) → IsQuandle t → (z y a : ℕ) → act t false z (act t false y a) ≡ act t false (act t false z y) (act t false z a)
third t q z y a = elim (cases_lt z t.order) [
  | inl lz ↦ elim (cases_lt y t.order) [
    | inl ly ↦ elim (cases_lt a t.order) [
      | inl la ↦
          ap (act t false z) (act_down t y a ly la) ∙ act_down t z (over t a y) lz (q.within a y la ly) ∙ q.distributive a y z la ly lz
          ∙ sym (ap₂ (λ u v. act t false u v) (act_down t z y lz ly) (act_down t z a lz la)
          ∙ act_down t (over t y z) (over t a z) (q.within y z ly lz) (q.within a z la lz))
      | inr out ↦
          ap (act t false z) (act_outside t false y a (inl out)) ∙ act_outside t false z a (inl out)
          ∙ sym (ap (act t false (act t false z y)) (act_outside t false z a (inl out)) ∙ act_outside t false (act t false z y) a (inl out))
    ]
    | inr out ↦
        ap (act t false z) (act_outside t false y a (inr out))
        ∙ sym (ap (λ u. act t false u (act t false z a)) (act_outside t false z y (inl out)) ∙ act_outside t false y (act t false z a) (inr out))
  ]
  | inr out ↦
      act_outside t false z (act t false y a) (inr out)
      ∙ sym (ap₂ (λ u v. act t false u v) (act_outside t false z y (inr out)) (act_outside t false z a (inr out)))
]

pub act_acts : (t : Table) → IsQuandle t → Acts (act t)
act_acts t q = record { fixed = fixed t q; down_up = down_up t q; up_down = up_down t q; third = third t q }
