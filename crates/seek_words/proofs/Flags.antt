-- Whether a flag is given, by its text.
use Rattle.std.proofs.Common.{◌≡◌, ◌≢◌, Bool, true, false, Option, Some, None, Result, codes, refl, ap}
use Rattle.std.specs.Prelude.{unwrap_or}
use Rattle.std.specs.Str.Parse.{ParsesBool}
use Rattle.clap.specs.Matches.{ReadsOne}
use Rattle.clap.specs.Walk.{Text}

abbrev Parsed : (E : Type 0) → Text → Result Bool E → Type 0
Parsed E t x = ParsesBool t x

abbrev FromText : Type 0 → Text → Option Bool → Type 0
FromText E t r = ReadsOne (Parsed E) t r

pub record IsFlagBy (o : Option Text) (b : Bool) : Type 0 where
  pub yes : o ≡ Some (codes "true") → b ≡ true
  pub none : o ≢ Some (codes "true") → b ≡ false

by_text : (E : Type 0) (t : Text) (r : Option Bool) → FromText E t r → IsFlagBy (Some t) (unwrap_or r false)
by_text E t (Some true) is = record { yes = λ same. refl; none = λ other. absurd (other (ap Some is)) }
by_text E t (Some false) is = record { yes = λ same. cc; none = λ other. refl }
by_text E t None (e, (other, wrong)) = record {
  yes = λ same. absurd (other (ap (λ o. unwrap_or o t) same));
  none = λ same. refl;
}

-- what is read of the text of a flag, or of none
pub flag_by : (E : Type 0) (o : Option Text) (r : Option Bool) → (o ≡ None → r ≡ None) → ((t : Text) → o ≡ Some t → FromText E t r)
    → IsFlagBy o (unwrap_or r false)
flag_by E None r none value = record { yes = λ same. cc; none = λ other. ap (λ x. unwrap_or x false) (none refl) }
flag_by E (Some t) r none value = by_text E t r (value t refl)
