-- The first fault of a number of strands and a list of letters.
use Rattle.std.proofs.Common.{◌≡◌, ◌<◌, ◌+◌, ◌*◌, ◌&&◌, inl, inr, ℕ, pos, Bool, true, false, not, Option, Some, None, length, get_or, nat_lt, nat_le, ◌∙◌, zero}
use Rattle.std.proofs.Common.{suc, arith, sym, ap₂, subst, refl}
use Rattle.std.specs.List.{position}
use Rattle.std.proofs.lemmas.Bool.{and_parts, leb-true, and_from, both_ways, not-false, not-true, ltb-true, le-leb, cases_lt}
use Rattle.std.proofs.lemmas.List.Quantifiers.{position-Some}
use Rattle.grid_core.specs.declared.grid.TheConstants.{MAX_SIZE}
use Rattle.braid_core.specs.Braid.{Word, IsBraid}
use Rattle.braid_core.specs.Fault.{is_outside_strands, first_word_fault}
use Rattle.braid_core.specs.declared.braid.TheConstants.{MAX_STRANDS}
use Rattle.braid_core.specs.declared.fault.BraidFault.{BraidFault}
use Rattle.braid_core.specs.declared.fault.BraidFault.TheVariants.{Strands, Letter, Size, OutOfMemory}
use Rattle.braid_core.proofs.Accepted.{letter_not_outside, letter_from, none_braid, none_letters}
use Rattle.text_laws.specs.First.{IsFirst}
use Rattle.text_laws.specs.WordFaults.{IsWordFault, word_rank, word_number}
use Rattle.text_laws.proofs.Chains.{tested, placed}

-- rank and number tell a fault
abbrev fault_at : ℕ → ℕ → BraidFault
fault_at zero number = Strands
fault_at (suc zero) number = Letter number
fault_at (suc (suc zero)) number = Size
fault_at (suc (suc (suc rank))) number = OutOfMemory

told : (f : BraidFault) → fault_at (word_rank f) (word_number f) ≡ f
told Strands = refl
told (Letter place) = refl
told Size = refl
told OutOfMemory = refl

pub same_word_fault : (f g : BraidFault) → word_rank f ≡ word_rank g → word_number f ≡ word_number g → f ≡ g
same_word_fault f g rank number = sym (told f) ∙ (ap₂ fault_at rank number ∙ told g)

-- a braid has no fault
pub braid_holds : (b : Word) → IsBraid b → (fault : BraidFault) → IsWordFault b fault → ⊥
braid_holds b braid Strands fails = elim fails [
  | inl few ↦ absurd (omega (arith, few, braid.least))
  | inr many ↦ absurd (omega (arith, many, braid.most))
]
braid_holds b braid (Letter place) fails = fails.1 (braid.crossings place (pos 0) fails.0)
braid_holds b braid Size fails = absurd (omega (arith, fails, braid.room))
braid_holds b braid OutOfMemory fails = fails

module _ (b : Word) where
  abbrev few_or_many : Bool
  few_or_many = not (nat_le 1 b.strands && nat_le b.strands MAX_STRANDS)

  strands_fail : few_or_many ≡ true → IsWordFault b Strands
  strands_fail e = elim (cases_lt b.strands 1) [
    | inl few ↦ inl few
    | inr least ↦ elim (cases_lt MAX_STRANDS b.strands) [
      | inl many ↦ inr many
      | inr most ↦ absurd (both_ways (nat_le 1 b.strands && nat_le b.strands MAX_STRANDS) (not-true (nat_le 1 b.strands && nat_le b.strands MAX_STRANDS) e)
          (and_from (nat_le 1 b.strands) (nat_le b.strands MAX_STRANDS) (le-leb 1 b.strands least) (le-leb b.strands MAX_STRANDS most)))
    ]
  ]

  strands_hold : few_or_many ≡ false → IsWordFault b Strands → ⊥
  strands_hold e fails =
      let within = and_parts (nat_le 1 b.strands) (nat_le b.strands MAX_STRANDS) (not-false (nat_le 1 b.strands && nat_le b.strands MAX_STRANDS) e) in
      let least = leb-true 1 b.strands within.0 in
      let most = leb-true b.strands MAX_STRANDS within.1 in
      elim fails [
        | inl few ↦ absurd (omega (arith, few, least))
        | inr many ↦ absurd (omega (arith, many, most))
      ]

  letter_fails : (place : ℕ) → place < length b.letters → is_outside_strands b.strands (get_or b.letters place (pos 0)) ≡ true → IsWordFault b (Letter place)
  letter_fails place lt e = (
    lt,
    λ letter. both_ways (is_outside_strands b.strands (get_or b.letters place (pos 0)))
        (letter_not_outside b.strands (get_or b.letters place (pos 0)) letter) e,
  )

  letter_holds : (place : ℕ) → is_outside_strands b.strands (get_or b.letters place (pos 0)) ≡ false → IsWordFault b (Letter place) → ⊥
  letter_holds place e fails = fails.1 (letter_from b.strands (get_or b.letters place (pos 0)) e)

  no_letter : position (is_outside_strands b.strands) b.letters ≡ None → (place : ℕ) → IsWordFault b (Letter place) → ⊥
  no_letter none place fails = fails.1 (none_letters b.strands b.letters none place (pos 0) fails.0)

  -- before the size come strands and letters
  before_size : few_or_many ≡ false → position (is_outside_strands b.strands) b.letters ≡ None → (other : BraidFault) → word_rank other < 2
      → IsWordFault b other → ⊥
  before_size strands letters Strands low fails = strands_hold strands fails
  before_size strands letters (Letter place) low fails = no_letter letters place fails
  before_size strands letters Size low fails = absurd (omega (arith, low))
  before_size strands letters OutOfMemory low fails = fails

  before_letters : few_or_many ≡ false → (other : BraidFault) → word_rank other < 1 → IsWordFault b other → ⊥
  before_letters strands Strands low fails = strands_hold strands fails
  before_letters strands (Letter place) low fails = absurd (omega (arith, low))
  before_letters strands Size low fails = absurd (omega (arith, low))
  before_letters strands OutOfMemory low fails = fails

  lower_letters : (place : ℕ) → ((k : ℕ) → k < place → is_outside_strands b.strands (get_or b.letters k (pos 0)) ≡ false)
      → (other : BraidFault) → word_rank other ≡ 1 → word_number other < place → IsWordFault b other → ⊥
  lower_letters place before Strands rank low fails = absurd (omega (arith, rank))
  lower_letters place before (Letter k) rank low fails = letter_holds k (before k low) fails
  lower_letters place before Size rank low fails = absurd (omega (arith, rank))
  lower_letters place before OutOfMemory rank low fails = fails

  strands_first : few_or_many ≡ true → IsFirst (IsWordFault b) word_rank word_number Strands
  strands_first e = record {
    fails = strands_fail e;
    earlier = λ other low fails. absurd (omega (arith, low));
    lower = λ other rank low fails. absurd (omega (arith, low));
  }

  letter_first : few_or_many ≡ false → (place : ℕ) → position (is_outside_strands b.strands) b.letters ≡ Some place
      → IsFirst (IsWordFault b) word_rank word_number (Letter place)
  letter_first e place here =
      let at = position-Some (is_outside_strands b.strands) b.letters place (pos 0) here in
      record { fails = letter_fails place at.0 at.1; earlier = before_letters e; lower = lower_letters place at.2 }

  size_first : few_or_many ≡ false → position (is_outside_strands b.strands) b.letters ≡ None → nat_lt MAX_SIZE (length b.letters + 2 * b.strands) ≡ true
      → IsFirst (IsWordFault b) word_rank word_number Size
  size_first strands letters e = record {
    fails = ltb-true MAX_SIZE (length b.letters + 2 * b.strands) e;
    earlier = before_size strands letters;
    lower = λ other rank low fails. absurd (omega (arith, low));
  }

  pub word_first : (fault : BraidFault) → first_word_fault b ≡ Some fault → IsFirst (IsWordFault b) word_rank word_number fault
  word_first fault found = elim (tested few_or_many Strands fault _ found) [
    | inl at ↦ subst (IsFirst (IsWordFault b) word_rank word_number) at.1 (strands_first at.0)
    | inr strands ↦ elim (placed (position (is_outside_strands b.strands) b.letters) (λ place. Letter place) fault _ strands.1) [
      | inl at ↦ subst (IsFirst (IsWordFault b) word_rank word_number) at.1.1 (letter_first strands.0 at.0 at.1.0)
      | inr letters ↦ elim (tested (nat_lt MAX_SIZE (length b.letters + 2 * b.strands)) Size fault None letters.1) [
        | inl at ↦ subst (IsFirst (IsWordFault b) word_rank word_number) at.1 (size_first strands.0 letters.0 at.0)
        | inr none ↦ absurd (let never : ◌≡◌ {A = Option BraidFault} None (Some fault) = none.1 in cc)
      ]
    ]
  ]

  pub word_holds : first_word_fault b ≡ None → (fault : BraidFault) → IsWordFault b fault → ⊥
  word_holds none = braid_holds b (none_braid b none)
