-- The first fault of two lists of rows by column.
use Rattle.std.proofs.Common.{◌≡◌, ◌≢◌, ◌<◌, ◌≤◌, ◌∙◌, ◌==◌, ◌||◌, ◌&&◌, inl, inr, ℕ, List, Bool, true, false, not, Option, Some, None, length, get_or, take}
use Rattle.std.proofs.Common.{slice_index, nat_le, zero, suc, arith, sym, ap, ap₂, subst, refl, zero-add}
use Rattle.std.specs.List.{range_with_len}
use Rattle.std.proofs.lemmas.Bool.{and_parts, and_from, or_cases, or_parts, both_ways, not-false, not-true, leb-true, leb-false, le-leb, eqb-true, eqb-false}
use Rattle.std.proofs.lemmas.Bool.{cases_lt}
use Rattle.std.proofs.lemmas.List.{get_or-take, length-take, get_or_default}
use Rattle.std.proofs.lemmas.List.Folds.{Any-from_list_any}
use Rattle.std.proofs.lemmas.List.FromFn.{get_or-range_with_len, length-range_with_len}
use Rattle.std.proofs.lemmas.List.Quantifiers.{position-Some}
use Rattle.grid_core.specs.declared.grid.TheConstants.{MAX_SIZE}
use Rattle.grid_core.specs.declared.mark.Kind.{Kind}
use Rattle.grid_core.specs.declared.mark.Kind.TheVariants.{Cross, Ring}
use Rattle.grid_core.specs.declared.fault.GridFault.{GridFault}
use Rattle.grid_core.specs.declared.fault.GridFault.TheVariants.{Size, Length, Range, Repeat, Same}
use Rattle.grid_core.specs.Diagram.{Diagram, size, row_of}
use Rattle.grid_core.specs.Fault.{lowest, is_outside, is_repeated, first_grid_fault}
use Rattle.grid_core.proofs.Accepted.{earlier as not_repeated, none_lowest, cond_passed, next_passed}
use Rattle.text_laws.specs.First.{IsFirst}
use Rattle.text_laws.specs.GridFaults.{IsGridFault, grid_rank, grid_number}
use Rattle.text_laws.proofs.Chains.{tested, placed}

-- rank and number tell a fault
abbrev fault_at : ℕ → ℕ → GridFault
fault_at zero number = Size
fault_at (suc zero) number = Length
fault_at (suc (suc zero)) number = Range number
fault_at (suc (suc (suc zero))) number = Repeat number
fault_at (suc (suc (suc (suc rank)))) number = Same number

told : (f : GridFault) → fault_at (grid_rank f) (grid_number f) ≡ f
told Size = refl
told Length = refl
told (Range c) = refl
told (Repeat c) = refl
told (Same c) = refl

pub same_grid_fault : (f g : GridFault) → grid_rank f ≡ grid_rank g → grid_number f ≡ grid_number g → f ≡ g
same_grid_fault f g rank number = sym (told f) ∙ (ap₂ fault_at rank number ∙ told g)

-- the lowest column that passes
pub record LowestAt (test : ℕ → Bool) (n c : ℕ) : Type 0 where
  pub inside : c < n
  pub here : test c ≡ true
  pub before : (k : ℕ) → k < c → test k ≡ false

lowest_at : (test : ℕ → Bool) (n c : ℕ) → lowest test n ≡ Some c → LowestAt test n c
lowest_at test n c e =
    let at = position-Some test (range_with_len 0 n) c 0 e in
    let inside : c < n = omega (arith, at.0, length-range_with_len 0 n) in
    record {
      inside = inside;
      here = sym (ap test (get_or-range_with_len 0 n c 0 inside ∙ zero-add c)) ∙ at.1;
      before = λ k low. sym (ap test (get_or-range_with_len 0 n k 0 (omega (arith, low, inside)) ∙ zero-add k)) ∙ at.2 k low;
    }

-- a row that stands in an earlier column
repeated_at : (rows : List ℕ) (c : ℕ) → is_repeated rows c ≡ true → (b : ℕ) × ((b < c) × (get_or rows b 0 ≡ get_or rows c 0))
repeated_at rows c e =
    let some = Any-from_list_any (λ r. r == slice_index rows c) (take c rows) e in
    let low : some.0 < c = omega (arith, some.2, length-take c rows) in
    let same : some.1 ≡ get_or rows c 0 = eqb-true some.1 (slice_index rows c) some.4 in
    (some.0, (low, sym (get_or-take c rows some.0 0 low) ∙ (get_or_default (take c rows) some.0 0 some.1 some.2 ∙ (some.3 ∙ same))))

module _ (d : Diagram) where
  abbrev wrong_size : Bool
  wrong_size = not (nat_le 2 (length d.x) && nat_le (length d.x) MAX_SIZE)

  abbrev wrong_length : Bool
  wrong_length = not (length d.o == length d.x)

  abbrev has_repeat : ℕ → Bool
  has_repeat c = is_repeated d.x c || is_repeated d.o c

  abbrev has_both : ℕ → Bool
  has_both c = slice_index d.x c == slice_index d.o c

  -- each test that fails is a fault, and each that holds is none
  size_fails : wrong_size ≡ true → IsGridFault d Size
  size_fails e = elim (cases_lt (length d.x) 2) [
    | inl few ↦ inl few
    | inr least ↦ elim (cases_lt MAX_SIZE (length d.x)) [
      | inl many ↦ inr many
      | inr most ↦ absurd (both_ways (nat_le 2 (length d.x) && nat_le (length d.x) MAX_SIZE)
          (not-true (nat_le 2 (length d.x) && nat_le (length d.x) MAX_SIZE) e)
          (and_from (nat_le 2 (length d.x)) (nat_le (length d.x) MAX_SIZE) (le-leb 2 (length d.x) least) (le-leb (length d.x) MAX_SIZE most)))
    ]
  ]

  size_holds : wrong_size ≡ false → IsGridFault d Size → ⊥
  size_holds e fails =
      let within = and_parts (nat_le 2 (length d.x)) (nat_le (length d.x) MAX_SIZE) (not-false (nat_le 2 (length d.x) && nat_le (length d.x) MAX_SIZE) e) in
      let least = leb-true 2 (length d.x) within.0 in
      let most = leb-true (length d.x) MAX_SIZE within.1 in
      elim fails [
        | inl few ↦ absurd (omega (arith, few, least))
        | inr many ↦ absurd (omega (arith, many, most))
      ]

  length_fails : wrong_length ≡ true → IsGridFault d Length
  length_fails e = eqb-false (length d.o) (length d.x) (not-true (length d.o == length d.x) e)

  same_lengths : wrong_length ≡ false → length d.o ≡ length d.x
  same_lengths e = eqb-true (length d.o) (length d.x) (not-false (length d.o == length d.x) e)

  range_fails : (c : ℕ) → c < size d → is_outside d.x d.o c ≡ true → IsGridFault d (Range c)
  range_fails c inside e = elim (or_cases (nat_le (length d.x) (slice_index d.x c)) (nat_le (length d.x) (slice_index d.o c)) e) [
    | inl cross ↦ (inside, (Cross, leb-true (length d.x) (slice_index d.x c) cross))
    | inr ring ↦ (inside, (Ring, leb-true (length d.x) (slice_index d.o c) ring))
  ]

  range_holds : (c : ℕ) → is_outside d.x d.o c ≡ false → IsGridFault d (Range c) → ⊥
  range_holds c e fails = by fails.1.0 fails.1.1
    where
      by : (kind : Kind) → size d ≤ row_of kind d c → ⊥
      by Cross le =
          let parts = or_parts (nat_le (length d.x) (slice_index d.x c)) (nat_le (length d.x) (slice_index d.o c)) e in
          let below = leb-false (length d.x) (slice_index d.x c) parts.0 in
          absurd (omega (arith, le, below))
      by Ring le =
          let parts = or_parts (nat_le (length d.x) (slice_index d.x c)) (nat_le (length d.x) (slice_index d.o c)) e in
          let below = leb-false (length d.x) (slice_index d.o c) parts.1 in
          absurd (omega (arith, le, below))

  repeat_fails : (c : ℕ) → c < size d → has_repeat c ≡ true → IsGridFault d (Repeat c)
  repeat_fails c inside e = elim (or_cases (is_repeated d.x c) (is_repeated d.o c) e) [
    | inl cross ↦ (inside, (Cross, repeated_at d.x c cross))
    | inr ring ↦ (inside, (Ring, repeated_at d.o c ring))
  ]

  repeat_holds : length d.o ≡ length d.x → (c : ℕ) → has_repeat c ≡ false → IsGridFault d (Repeat c) → ⊥
  repeat_holds same c e fails = by fails.1.0 fails.1.1
    where
      by : (kind : Kind) → (b : ℕ) × ((b < c) × (row_of kind d b ≡ row_of kind d c)) → ⊥
      by Cross again = not_repeated d.x again.0 c fails.0 (or_parts (is_repeated d.x c) (is_repeated d.o c) e).0 again.1.0 again.1.1
      by Ring again =
          not_repeated d.o again.0 c (omega (arith, same, fails.0)) (or_parts (is_repeated d.x c) (is_repeated d.o c) e).1 again.1.0 again.1.1

  same_fails : (c : ℕ) → c < size d → has_both c ≡ true → IsGridFault d (Same c)
  same_fails c inside e = (inside, eqb-true (slice_index d.x c) (slice_index d.o c) e)

  same_holds : (c : ℕ) → has_both c ≡ false → IsGridFault d (Same c) → ⊥
  same_holds c e fails = eqb-false (slice_index d.x c) (slice_index d.o c) e fails.1

  -- what is known where the tests before hold
  record Passed (rank : ℕ) : Type 0 where
    sized : 0 < rank → wrong_size ≡ false
    alike : 1 < rank → wrong_length ≡ false
    inside : 2 < rank → lowest (λ c. is_outside d.x d.o c) (size d) ≡ None
    once : 3 < rank → lowest has_repeat (size d) ≡ None
    apart : 4 < rank → lowest has_both (size d) ≡ None

  earlier : (rank : ℕ) → Passed rank → (other : GridFault) → grid_rank other < rank → IsGridFault d other → ⊥
  earlier rank passed Size low fails = size_holds (passed.sized low) fails
  earlier rank passed Length low fails = fails (same_lengths (passed.alike low))
  earlier rank passed (Range c) low fails = range_holds c (none_lowest (λ c. is_outside d.x d.o c) (size d) (passed.inside low) c fails.0) fails
  earlier rank passed (Repeat c) low fails =
      repeat_holds (same_lengths (passed.alike (omega (arith, low)))) c (none_lowest has_repeat (size d) (passed.once low) c fails.0) fails
  earlier rank passed (Same c) low fails = same_holds c (none_lowest has_both (size d) (passed.apart low) c fails.0) fails

  -- at a lower column the same test holds
  lower_range : (c : ℕ) → LowestAt (λ c. is_outside d.x d.o c) (size d) c → (other : GridFault)
      → grid_rank other ≡ 2 → grid_number other < c → IsGridFault d other → ⊥
  lower_range c at Size rank low fails = absurd (omega (arith, rank))
  lower_range c at Length rank low fails = absurd (omega (arith, rank))
  lower_range c at (Range b) rank low fails = range_holds b (at.before b low) fails
  lower_range c at (Repeat b) rank low fails = absurd (omega (arith, rank))
  lower_range c at (Same b) rank low fails = absurd (omega (arith, rank))

  lower_repeat : length d.o ≡ length d.x → (c : ℕ) → LowestAt has_repeat (size d) c → (other : GridFault)
      → grid_rank other ≡ 3 → grid_number other < c → IsGridFault d other → ⊥
  lower_repeat same c at Size rank low fails = absurd (omega (arith, rank))
  lower_repeat same c at Length rank low fails = absurd (omega (arith, rank))
  lower_repeat same c at (Range b) rank low fails = absurd (omega (arith, rank))
  lower_repeat same c at (Repeat b) rank low fails = repeat_holds same b (at.before b low) fails
  lower_repeat same c at (Same b) rank low fails = absurd (omega (arith, rank))

  lower_same : (c : ℕ) → LowestAt has_both (size d) c → (other : GridFault)
      → grid_rank other ≡ 4 → grid_number other < c → IsGridFault d other → ⊥
  lower_same c at Size rank low fails = absurd (omega (arith, rank))
  lower_same c at Length rank low fails = absurd (omega (arith, rank))
  lower_same c at (Range b) rank low fails = absurd (omega (arith, rank))
  lower_same c at (Repeat b) rank low fails = absurd (omega (arith, rank))
  lower_same c at (Same b) rank low fails = same_holds b (at.before b low) fails

  abbrev First : GridFault → Type 0
  First = IsFirst (IsGridFault d) grid_rank grid_number

  size_first : wrong_size ≡ true → First Size
  size_first e = record {
    fails = size_fails e;
    earlier = λ other low fails. absurd (omega (arith, low));
    lower = λ other rank low fails. absurd (omega (arith, low));
  }

  length_first : Passed 1 → wrong_length ≡ true → First Length
  length_first passed e = record { fails = length_fails e; earlier = earlier 1 passed; lower = λ other rank low fails. absurd (omega (arith, low)) }

  range_first : Passed 2 → (c : ℕ) → lowest (λ c. is_outside d.x d.o c) (size d) ≡ Some c → First (Range c)
  range_first passed c e =
      let at = lowest_at (λ c. is_outside d.x d.o c) (size d) c e in
      record { fails = range_fails c at.inside at.here; earlier = earlier 2 passed; lower = lower_range c at }

  repeat_first : Passed 3 → (c : ℕ) → lowest has_repeat (size d) ≡ Some c → First (Repeat c)
  repeat_first passed c e =
      let at = lowest_at has_repeat (size d) c e in
      record {
        fails = repeat_fails c at.inside at.here;
        earlier = earlier 3 passed;
        lower = lower_repeat (same_lengths (passed.alike (omega arith))) c at;
      }

  same_first : Passed 4 → (c : ℕ) → lowest has_both (size d) ≡ Some c → First (Same c)
  same_first passed c e =
      let at = lowest_at has_both (size d) c e in
      record { fails = same_fails c at.inside at.here; earlier = earlier 4 passed; lower = lower_same c at }

  -- the tests up to each one
  one_passed : wrong_size ≡ false → Passed 1
  one_passed sized = record {
    sized = λ low. sized;
    alike = λ low. absurd (omega (arith, low));
    inside = λ low. absurd (omega (arith, low));
    once = λ low. absurd (omega (arith, low));
    apart = λ low. absurd (omega (arith, low));
  }

  two_passed : wrong_size ≡ false → wrong_length ≡ false → Passed 2
  two_passed sized alike = record {
    sized = λ low. sized;
    alike = λ low. alike;
    inside = λ low. absurd (omega (arith, low));
    once = λ low. absurd (omega (arith, low));
    apart = λ low. absurd (omega (arith, low));
  }

  three_passed : wrong_size ≡ false → wrong_length ≡ false → lowest (λ c. is_outside d.x d.o c) (size d) ≡ None → Passed 3
  three_passed sized alike inside = record {
    sized = λ low. sized;
    alike = λ low. alike;
    inside = λ low. inside;
    once = λ low. absurd (omega (arith, low));
    apart = λ low. absurd (omega (arith, low));
  }

  four_passed : wrong_size ≡ false → wrong_length ≡ false → lowest (λ c. is_outside d.x d.o c) (size d) ≡ None → lowest has_repeat (size d) ≡ None
      → Passed 4
  four_passed sized alike inside once = record {
    sized = λ low. sized;
    alike = λ low. alike;
    inside = λ low. inside;
    once = λ low. once;
    apart = λ low. absurd (omega (arith, low));
  }

  all_passed : wrong_size ≡ false → wrong_length ≡ false → lowest (λ c. is_outside d.x d.o c) (size d) ≡ None → lowest has_repeat (size d) ≡ None
      → lowest has_both (size d) ≡ None → Passed 5
  all_passed sized alike inside once apart =
      record { sized = λ low. sized; alike = λ low. alike; inside = λ low. inside; once = λ low. once; apart = λ low. apart }

  pub grid_first : (fault : GridFault) → first_grid_fault d.x d.o ≡ Some fault → First fault
  grid_first fault found = elim (tested wrong_size Size fault _ found) [
    | inl at ↦ subst First at.1 (size_first at.0)
    | inr sized ↦ elim (tested wrong_length Length fault _ sized.1) [
      | inl at ↦ subst First at.1 (length_first (one_passed sized.0) at.0)
      | inr alike ↦ elim (placed (lowest (λ c. is_outside d.x d.o c) (size d)) (λ c. Range c) fault _ alike.1) [
        | inl at ↦ subst First at.1.1 (range_first (two_passed sized.0 alike.0) at.0 at.1.0)
        | inr inside ↦ elim (placed (lowest has_repeat (size d)) (λ c. Repeat c) fault _ inside.1) [
          | inl at ↦ subst First at.1.1 (repeat_first (three_passed sized.0 alike.0 inside.0) at.0 at.1.0)
          | inr once ↦ elim (placed (lowest has_both (size d)) (λ c. Same c) fault None once.1) [
            | inl at ↦ subst First at.1.1 (same_first (four_passed sized.0 alike.0 inside.0 once.0) at.0 at.1.0)
            | inr none ↦ absurd (let never : ◌≡◌ {A = Option GridFault} None (Some fault) = none.1 in cc)
          ]
        ]
      ]
    ]
  ]

  pub grid_holds : first_grid_fault d.x d.o ≡ None → (fault : GridFault) → IsGridFault d fault → ⊥
  grid_holds none fault =
      let sized = cond_passed wrong_size Size _ none in
      let alike = cond_passed wrong_length Length _ sized.1 in
      let inside = next_passed (lowest (λ c. is_outside d.x d.o c) (size d)) (λ c. Range c) _ alike.1 in
      let once = next_passed (lowest has_repeat (size d)) (λ c. Repeat c) _ inside.1 in
      let apart = next_passed (lowest has_both (size d)) (λ c. Same c) None once.1 in
      earlier 5 (all_passed sized.0 alike.0 inside.0 once.0 apart.0) fault (few_ranks fault)
    where
      few_ranks : (fault : GridFault) → grid_rank fault < 5
      few_ranks Size = omega arith
      few_ranks Length = omega arith
      few_ranks (Range c) = omega arith
      few_ranks (Repeat c) = omega arith
      few_ranks (Same c) = omega arith
