-- Whether the entries of a table have the laws, told by what a constructor answered.
use Rattle.std.proofs.Common.{◌≡◌, ◌≤◌, ◌∙◌, ℕ, true, false, Option, Some, None, refl, sym, ap}
use Rattle.std.specs.Prelude.{is_none}
use Rattle.quandle_core.specs.Quandle.{Table}
use Rattle.quandle_core.specs.declared.quandle.TheConstants.{MAX_ORDER}
use Rattle.quandle_core.specs.Fault.{first_fault_within, first_quandle_fault}
use Rattle.quandle_core.specs.declared.fault.QuandleFault.{QuandleFault}
use Rattle.quandle_core.proofs.Accepted.{same_fault}

pub told : (t : Table) (o : Option QuandleFault) → t.order ≤ MAX_ORDER → o ≡ first_quandle_fault t → is_none o ≡ is_none (first_fault_within t.order t)
told t o few is = ap (λ x. is_none x) (is ∙ sym (same_fault MAX_ORDER t few))

none_of : (o : Option QuandleFault) → ((fault : QuandleFault) → o ≡ Some fault → ⊥) → is_none o ≡ true
none_of None other = refl
none_of (Some fault) other = absurd (other fault refl)

some_of : (o : Option QuandleFault) → (o ≡ None → ⊥) → is_none o ≡ false
some_of None other = absurd (other refl)
some_of (Some fault) other = refl

pub laws_hold : (most : ℕ) (t : Table) → t.order ≤ most → ((fault : QuandleFault) → first_fault_within most t ≡ Some fault → ⊥)
    → is_none (first_fault_within t.order t) ≡ true
laws_hold most t few other = ap (λ o. is_none o) (same_fault most t few) ∙ none_of (first_fault_within most t) other

pub laws_fail : (most : ℕ) (t : Table) → t.order ≤ most → (first_fault_within most t ≡ None → ⊥) → is_none (first_fault_within t.order t) ≡ false
laws_fail most t few other = ap (λ o. is_none o) (same_fault most t few) ∙ some_of (first_fault_within most t) other
