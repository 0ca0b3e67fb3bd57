-- Lists of colours as the code edits them, told place by place.
use Rattle.std.proofs.Common.{◌≡◌, ◌≢◌, ◌∙◌, ◌<◌, ◌≤◌, ◌+◌, ◌-◌, ℕ, Bool, List, length, set, ap, sym, refl, arith, inl, inr, cond}
use Rattle.std.specs.Prelude.{slice_index, nat_lt, ◌==◌, ◌&&◌}
use Rattle.std.specs.List.{insert, remove}
use Rattle.std.proofs.lemmas.List.{get_or-set_same, get_or-set_other, length-set}
use Rattle.std.proofs.lemmas.List.Edits.{get_or-insert_at, get_or-insert_below, get_or-insert_above, get_or-remove_below, get_or-remove_above, length-insert}
use Rattle.std.proofs.lemmas.List.Edits.{length-remove}
use Rattle.std.proofs.lemmas.Bool.{cases_lt, cases_eq, lt-ltb, le-ltb, eq-eqb, ne_eqb, and_from, and_left, and_right, cond-true, cond-false}
use Rattle.grid_core.specs.Diagram.{Diagram, size}
use Rattle.quandle_core.specs.Quandle.{Table}
use Rattle.colour_rows.specs.Walk.{passed_leftward}
use Rattle.colour_laws.specs.Carried.{by_column, stabilised, destabilised}
use Rattle.colour_laws.proofs.ByIndex.{is_by_column, by_column_at, length_by_column}

pub inserted_is : (c : ℕ) (d : Diagram) (ys : List ℕ) → c < size d → length ys ≡ size d → insert ys c (slice_index ys c) ≡ stabilised c d ys
inserted_is c d ys lt e =
    is_by_column (size d + 1) (λ i. slice_index ys (cond (nat_lt c i) (i - 1) i)) (insert ys c (slice_index ys c))
    (length-insert ys c (slice_index ys c) (omega (arith, lt, e)) ∙ omega (arith, e))
    (λ i at. elim (cases_lt c i) [
      | inl l ↦
          ap (slice_index (insert ys c (slice_index ys c))) (let h : i ≡ i - 1 + 1 = omega arith in h)
          ∙ get_or-insert_above ys c (slice_index ys c) 0 (i - 1) (omega arith) (omega (arith, lt, e))
          ∙ ap (slice_index ys) (sym (cond-true (nat_lt c i) (i - 1) i (lt-ltb c i l)))
      | inr g ↦ elim (cases_eq i c) [
        | inl same ↦
            ap (slice_index (insert ys c (slice_index ys c))) same ∙ get_or-insert_at ys c (slice_index ys c) 0 (omega (arith, lt, e))
            ∙ ap (slice_index ys) (sym same ∙ sym (cond-false (nat_lt c i) (i - 1) i (le-ltb c i g)))
        | inr n ↦
            get_or-insert_below ys c (slice_index ys c) 0 i (omega (arith, n, g)) (omega (arith, lt, e))
            ∙ ap (slice_index ys) (sym (cond-false (nat_lt c i) (i - 1) i (le-ltb c i g)))
      ]
    ])

pub removed_is : (c : ℕ) (d : Diagram) (ys : List ℕ) → c + 1 < size d → length ys ≡ size d → remove ys (c + 1) ≡ destabilised c d ys
removed_is c d ys lt e =
    is_by_column (size d - 1) (λ i. slice_index ys (cond (nat_lt c i) (i + 1) i)) (remove ys (c + 1)) (let h =
    length-remove ys (c + 1) (omega (arith, lt, e)) in omega (arith, e, lt))
    (λ i at. elim (cases_lt c i) [
      | inl l ↦ get_or-remove_above ys (c + 1) 0 i (omega arith) (omega (arith, lt, e))
          ∙ ap (slice_index ys) (sym (cond-true (nat_lt c i) (i + 1) i (lt-ltb c i l)))
      | inr g ↦ get_or-remove_below ys (c + 1) 0 i (omega arith) (omega (arith, lt, e))
          ∙ ap (slice_index ys) (sym (cond-false (nat_lt c i) (i + 1) i (le-ltb c i g)))
    ])

-- two neighbours set
pub pair_set : (c n a b : ℕ) (ys : List ℕ) → c + 1 < n → length ys ≡ n
    → set (set ys c a) (c + 1) b ≡ by_column n (λ i. cond (i == c) a (cond (i == c + 1) b (slice_index ys i)))
pair_set c n a b ys lt e =
    is_by_column n (λ i. cond (i == c) a (cond (i == c + 1) b (slice_index ys i))) (set (set ys c a) (c + 1) b) (length-set (set ys c a) (c + 1) b
    ∙ length-set ys c a ∙ e)
    (λ i at. elim (cases_eq i c) [
      | inl same ↦
          get_or-set_other (set ys c a) (c + 1) i b 0 (λ h. omega (arith, h, same)) ∙ ap (slice_index (set ys c a)) same
          ∙ get_or-set_same ys c a 0 (omega (arith, lt, e))
          ∙ sym (cond-true (i == c) a (cond (i == c + 1) b (slice_index ys i)) (eq-eqb i c same))
      | inr n ↦ elim (cases_eq i (c + 1)) [
        | inl same ↦
            ap (slice_index (set (set ys c a) (c + 1) b)) same ∙ get_or-set_same (set ys c a) (c + 1) b 0 (omega (arith, lt, e, length-set ys c a))
            ∙ sym (cond-false (i == c) a (cond (i == c + 1) b (slice_index ys i)) (ne_eqb i c n)
            ∙ cond-true (i == c + 1) b (slice_index ys i) (eq-eqb i (c + 1) same))
        | inr m ↦
            get_or-set_other (set ys c a) (c + 1) i b 0 m ∙ get_or-set_other ys c i a 0 n
            ∙ sym (cond-false (i == c) a (cond (i == c + 1) b (slice_index ys i)) (ne_eqb i c n)
            ∙ cond-false (i == c + 1) b (slice_index ys i) (ne_eqb i (c + 1) m))
      ]
    ])

-- the columns strictly between two have passed under a strand of colour a
abbrev pub between_passed : Table → Bool → ℕ → ℕ → ℕ → List ℕ → List ℕ
between_passed t up a left to ys =
    by_column (length ys) (λ i. cond (nat_lt left i && nat_lt i to) (passed_leftward t up (slice_index ys i) a) (slice_index ys i))

pub none_passed : (t : Table) (up : Bool) (a left : ℕ) (ys : List ℕ) → ys ≡ between_passed t up a left (left + 1) ys
none_passed t up a left ys =
    is_by_column (length ys) (λ i. cond (nat_lt left i && nat_lt i (left + 1)) (passed_leftward t up (slice_index ys i) a) (slice_index ys i)) ys refl
    (λ i at. sym (cond-false (nat_lt left i && nat_lt i (left + 1)) (passed_leftward t up (slice_index ys i) a) (slice_index ys i) (elim (cases_lt left i) [
      | inl l ↦ and_right (nat_lt left i) (nat_lt i (left + 1)) (le-ltb i (left + 1) (omega arith))
      | inr g ↦ and_left (nat_lt left i) (nat_lt i (left + 1)) (le-ltb left i g)
    ])))

-- the columns from the next one on are as they were
pub unpassed : (t : Table) (up : Bool) (a left to i : ℕ) (ys : List ℕ) → to ≤ i → i < length ys
    → slice_index (between_passed t up a left to ys) i ≡ slice_index ys i
unpassed t up a left to i ys le lt =
    by_column_at (length ys) (λ i. cond (nat_lt left i && nat_lt i to) (passed_leftward t up (slice_index ys i) a) (slice_index ys i)) i lt
    ∙ cond-false (nat_lt left i && nat_lt i to) (passed_leftward t up (slice_index ys i) a) (slice_index ys i)
    (and_right (nat_lt left i) (nat_lt i to) (le-ltb i to le))

-- one column more
pub one_passed : (t : Table) (up : Bool) (a left to : ℕ) (ys zs : List ℕ) (b : ℕ) → left < to → to < length ys → zs ≡ between_passed t up a left to ys
    → b ≡ passed_leftward t up (slice_index zs to) a
    → set zs to b ≡ between_passed t up a left (to + 1) ys
one_passed t up a left to ys zs b low lt so_far is =
    let old = unpassed t up a left to to ys (omega arith) lt in
    let long : length zs ≡ length ys = ap length so_far
    ∙ length_by_column (length ys) (λ i. cond (nat_lt left i && nat_lt i to) (passed_leftward t up (slice_index ys i) a) (slice_index ys i)) in
    is_by_column (length ys) (λ i. cond (nat_lt left i && nat_lt i (to + 1)) (passed_leftward t up (slice_index ys i) a) (slice_index ys i)) (set zs to b)
    (length-set zs to b ∙ long)
    (λ i at. elim (cases_eq i to) [
      | inl same ↦
          ap (slice_index (set zs to b)) same ∙ get_or-set_same zs to b 0 (omega (arith, long, lt)) ∙ is
          ∙ ap (λ y. passed_leftward t up y a) (ap (λ l. slice_index l to) so_far ∙ old ∙ ap (slice_index ys) (sym same))
          ∙ sym (cond-true (nat_lt left i && nat_lt i (to + 1)) (passed_leftward t up (slice_index ys i) a) (slice_index ys i)
          (and_from (nat_lt left i) (nat_lt i (to + 1)) (lt-ltb left i (omega (arith, same))) (lt-ltb i (to + 1) (omega (arith, same)))))
      | inr n ↦
          get_or-set_other zs to i b 0 n ∙ ap (λ l. slice_index l i) so_far
          ∙ by_column_at (length ys) (λ i. cond (nat_lt left i && nat_lt i to) (passed_leftward t up (slice_index ys i) a) (slice_index ys i)) i at
          ∙ ap (λ w. cond (nat_lt left i && w) (passed_leftward t up (slice_index ys i) a) (slice_index ys i)) (below_next i to n)
    ])
  where
    below_next : (i to : ℕ) → i ≢ to → nat_lt i to ≡ nat_lt i (to + 1)
    below_next i to n = elim (cases_lt i to) [
      | inl l ↦ lt-ltb i to l ∙ sym (lt-ltb i (to + 1) (omega arith))
      | inr g ↦ le-ltb i to g ∙ sym (le-ltb i (to + 1) (omega (arith, n)))
    ]
