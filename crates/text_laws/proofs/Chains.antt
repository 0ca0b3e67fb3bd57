-- The links of a chain of faults.
use Rattle.std.proofs.Common.{◌≡◌, ◌⊎◌, inl, inr, ℕ, Bool, true, false, cond, Option, Some, None, refl}
use Rattle.grid_core.specs.Fault.{or_next}

-- the fault of a test, or what comes after it
pub tested : {F : Type 0} (test : Bool) (here fault : F) (rest : Option F) → cond test (Some here) rest ≡ Some fault
    → ((test ≡ true) × (here ≡ fault)) ⊎ ((test ≡ false) × (rest ≡ Some fault))
tested true here fault rest e = inl (refl, cc)
tested false here fault rest e = inr (refl, e)

-- the fault at a place, or what comes after it
pub placed : {F : Type 0} (o : Option ℕ) (at : ℕ → F) (fault : F) (rest : Option F) → or_next o at rest ≡ Some fault
    → ((place : ℕ) × ((o ≡ Some place) × (at place ≡ fault))) ⊎ ((o ≡ None) × (rest ≡ Some fault))
placed (Some place) at fault rest e = inl (place, (refl, cc))
placed None at fault rest e = inr (refl, e)

-- what comes after a test, or its fault
pub refused : {F : Type 0} (test : Bool) (here fault : F) (rest : Option F) → cond test rest (Some here) ≡ Some fault
    → ((test ≡ true) × (rest ≡ Some fault)) ⊎ ((test ≡ false) × (here ≡ fault))
refused true here fault rest e = inl (refl, e)
refused false here fault rest e = inr (refl, cc)

-- where there is no fault the test holds, and what comes after has none
pub passed : {F : Type 0} (test : Bool) (here : F) (rest : Option F) → cond test rest (Some here) ≡ None → (test ≡ true) × (rest ≡ None)
passed true here rest e = (refl, e)
passed false here rest e = absurd (cc)
