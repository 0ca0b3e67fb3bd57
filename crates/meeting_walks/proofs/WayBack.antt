-- Ways back, made form by form.
use Rattle.std.proofs.Common.{◌≡◌, ◌<◌, ◌+◌, ◌-◌, ◌++◌, ◌∷◌, ◌∙◌, [], ℕ, zero, suc, List, Option, Some, None, refl, sym, ap, arith, append_assoc}
use Rattle.std.proofs.lemmas.List.{append-nil}
use Rattle.std.specs.Prelude.{slice_get}
use Rattle.std.specs.Option.{option_map_or}
use Rattle.meeting_walks.specs.declared.table.Reached.{Reached}
use Rattle.meeting_walks.specs.Reached.{forms_back}

-- one more form
pub one_more : {A : Type 0} (entries : List (A × Reached)) (count i number : ℕ) (form : A) (reached : Reached) (way all : List A)
    → i < count → Some (form, reached) ≡ slice_get entries number → way ++ forms_back (count - i) entries number ≡ all
    → (way ++ form ∷ []) ++ forms_back (count - (i + 1)) entries reached.parent ≡ all
one_more {A} entries count i number form reached way all lt is so_far =
    let rest = forms_back (count - (i + 1)) entries reached.parent in
    let left : count - i ≡ suc (count - (i + 1)) = omega arith in
    let next : form ∷ rest ≡ forms_back (suc (count - (i + 1))) entries number =
    ap (λ (o : Option (A × Reached)). option_map_or (λ e. e.0 ∷ forms_back (count - (i + 1)) entries e.1.parent) o []) is in
    append_assoc way (form ∷ []) rest
    ∙ (ap (λ (forms : List A). way ++ forms) (next ∙ sym (ap (λ (n : ℕ). forms_back n entries number) left)) ∙ so_far)

-- no form where a number has none
pub none_there : {A : Type 0} (entries : List (A × Reached)) (n number : ℕ) → None ≡ slice_get entries number → forms_back n entries number ≡ []
none_there entries zero number is = refl
none_there {A} entries (suc n) number is =
    sym (ap (λ (o : Option (A × Reached)). option_map_or (λ e. e.0 ∷ forms_back n entries e.1.parent) o []) is)

-- the end of a way
pub no_more : {A : Type 0} (way rest all : List A) → rest ≡ [] → way ++ rest ≡ all → way ≡ all
no_more {A} way rest all none so_far = sym (ap (λ (forms : List A). way ++ forms) none ∙ append-nil way) ∙ so_far
