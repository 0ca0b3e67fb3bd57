-- Where what is found comes first, and nothing is found only where there is no fault, what comes first is found.
use Rattle.std.proofs.Common.{◌≡◌, ◌↔◌, inl, inr, ℕ, Option, Some, None, arith, sym, ap, refl}
use Rattle.std.proofs.lemmas.Bool.{cases_order}
use Rattle.text_laws.specs.First.{IsFirst}

-- there is one first fault at most, where rank and number tell a fault
one_first : {F : Type 0} (IsFault : F → Type 0) (rank number : F → ℕ)
    → ((f g : F) → rank f ≡ rank g → number f ≡ number g → f ≡ g)
    → (f g : F) → IsFirst IsFault rank number f → IsFirst IsFault rank number g → f ≡ g
one_first IsFault rank number same f g by_f by_g = elim (cases_order (rank f) (rank g)) [
  | inl alike ↦ elim (cases_order (number f) (number g)) [
    | inl is ↦ same f g alike is
    | inr other ↦ elim other [
      | inl low ↦ absurd (by_g.lower f alike low by_f.fails)
      | inr high ↦ absurd (by_f.lower g (sym alike) high by_g.fails)
    ]
  ]
  | inr other ↦ elim other [
    | inl low ↦ absurd (by_g.earlier f low by_f.fails)
    | inr high ↦ absurd (by_f.earlier g high by_g.fails)
  ]
]

pub found_exactly : {F : Type 0} (IsFault : F → Type 0) (rank number : F → ℕ) (found : Option F)
    → ((fault : F) → found ≡ Some fault → IsFirst IsFault rank number fault)
    → (found ≡ None → (fault : F) → IsFault fault → ⊥)
    → ((f g : F) → rank f ≡ rank g → number f ≡ number g → f ≡ g)
    → (fault : F) → (found ≡ Some fault) ↔ IsFirst IsFault rank number fault
found_exactly {F} IsFault rank number found comes_first holds same fault = (comes_first fault, λ is. by found refl is)
  where
    by : (o : Option F) → found ≡ o → IsFirst IsFault rank number fault → o ≡ Some fault
    by None e is = absurd (holds e fault is.fails)
    by (Some g) e is = ap (λ (f : F). Some f) (one_first IsFault rank number same g fault (comes_first g e) is)

-- a fault of rank 0 without a number comes first
pub lowest_comes_first : {F : Type 0} (IsFault : F → Type 0) (rank number : F → ℕ) (fault : F) → IsFault fault → rank fault ≡ 0 → number fault ≡ 0
    → IsFirst IsFault rank number fault
lowest_comes_first IsFault rank number fault fails none zero = record {
  fails = fails;
  earlier = λ other low is. absurd (omega (arith, low, none));
  lower = λ other alike low is. absurd (omega (arith, low, zero));
}

-- the one fault that there is comes first
pub one_comes_first : {F : Type 0} (IsFault : F → Type 0) (rank number : F → ℕ) (fault : F) → IsFault fault
    → ((other : F) → IsFault other → other ≡ fault) → IsFirst IsFault rank number fault
one_comes_first IsFault rank number fault fails only = record {
  fails = fails;
  earlier = λ other low is. absurd (omega (arith, low, ap rank (only other is)));
  lower = λ other alike low is. absurd (omega (arith, low, ap number (only other is)));
}
