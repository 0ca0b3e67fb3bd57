-- Two lists have no cause exactly where the quandle tells the diagrams apart by them.
use Rattle.std.proofs.Common.{◌≡◌, ◌==◌, ◌∙◌, ℕ, Bool, true, false, List, length, Option, Some, None, refl, ap, if◌then◌else◌}
use Rattle.std.specs.Option.{option_map}
use Rattle.std.proofs.lemmas.Bool.{eqb-false, ne_eqb}
use Rattle.grid_core.specs.Diagram.{Diagram}
use Rattle.grid_core.specs.Parts.{bottoms}
use Rattle.quandle_core.specs.Quandle.{Table}
use Rattle.quandle_core.specs.Fault.{or_else}
use Rattle.colour_list.specs.Fits.{fits}
use Rattle.colour_list.specs.Listing.{colourings}
use Rattle.cert_check.specs.declared.ruling.Why.{Why}
use Rattle.cert_check.specs.declared.ruling.Why.TheVariants as why
use Rattle.verdict_core.specs.Evidence.{TellsApart}
use Rattle.cert_check.specs.Cause.{first_difference, cause_of_lists}
use Rattle.cert_check.proofs.FirstDifference.{none_of_equal, equal_of_none}

-- the cause, by what the five tests give and the numbers of bottoms
abbrev cause_by : ℕ → ℕ → Bool → Bool → Option ℕ → Option ℕ → Bool → Option Why
cause_by b b' f f' p p' s =
    or_else (if f then None else Some (why.Wide 1 b)) (or_else (if f' then None else Some (why.Wide 2 b')) (
    or_else (option_map (λ place. why.List 1 place) p) (or_else (option_map (λ place. why.List 2 place) p') (
    if s then Some why.SameLength else None))))

pub tells_apart : (t : Table) (d e : Diagram) (one two : List (List ℕ)) → cause_of_lists t d e one two ≡ None → TellsApart t d e one two
tells_apart t d e one two none =
    by (fits t d) (fits t e) (first_difference one (colourings t d)) (first_difference two (colourings t e)) (length one == length two) refl refl refl refl refl none
  where
    by : (f f' : Bool) (p p' : Option ℕ) (s : Bool) → fits t d ≡ f → fits t e ≡ f' → first_difference one (colourings t d) ≡ p
        → first_difference two (colourings t e) ≡ p' → (length one == length two) ≡ s → cause_by (bottoms d) (bottoms e) f f' p p' s ≡ None
        → TellsApart t d e one two
    by true true None None false f f' p p' s none = record {
      fits_first = f;
      fits_second = f';
      first = equal_of_none one (colourings t d) p;
      second = equal_of_none two (colourings t e) p';
      differ = eqb-false (length one) (length two) s;
    }
    by true true None None true f f' p p' s none = absurd cc
    by true true None (Some place) r f f' p p' s none = absurd cc
    by true true (Some place) q r f f' p p' s none = absurd cc
    by true false o q r f f' p p' s none = absurd cc
    by false g o q r f f' p p' s none = absurd cc

no_cause : (b b' : ℕ) (f f' : Bool) (p p' : Option ℕ) (s : Bool) → f ≡ true → f' ≡ true → p ≡ None → p' ≡ None → s ≡ false → cause_by b b' f f' p p' s ≡ None
no_cause b b' f f' p p' s is_f is_f' is_p is_p' is_s = rw (is_f, is_f', is_p, is_p', is_s) refl

pub no_cause_where_told_apart : (t : Table) (d e : Diagram) (one two : List (List ℕ)) → TellsApart t d e one two → cause_of_lists t d e one two ≡ None
no_cause_where_told_apart t d e one two told =
    no_cause (bottoms d) (bottoms e) (fits t d) (fits t e) (first_difference one (colourings t d)) (first_difference two (colourings t e)) (length one == length two)
    told.fits_first told.fits_second
    (ap (λ z. first_difference z (colourings t d)) told.first ∙ none_of_equal (colourings t d))
    (ap (λ z. first_difference z (colourings t e)) told.second ∙ none_of_equal (colourings t e))
    (ne_eqb (length one) (length two) told.differ)
