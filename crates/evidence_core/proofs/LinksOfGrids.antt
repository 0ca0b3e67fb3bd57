-- What a cause of linking numbers, or none, says.
use Rattle.std.proofs.Common.{◌≡◌, ◌==◌, ◌∙◌, ℕ, ℤ, Bool, true, false, List, Option, Some, None, length, refl, sym, ap, cond, ◌≢◌}
use Rattle.std.specs.Ordering.{int_eq}
use Rattle.std.proofs.lemmas.Bool.{eqb-true, eq-eqb, and_parts, and_from}
use Rattle.std.proofs.lemmas.Bool.Decides.{Decides-int_eq}
use Rattle.grid_core.specs.Diagram.{Diagram}
use Rattle.quandle_core.specs.Fault.{or_else}
use Rattle.linking_core.specs.Component.{components}
use Rattle.linking_core.specs.Linking.{linking}
use Rattle.evidence_core.specs.declared.evidence.Linked.{Linked}
use Rattle.evidence_core.specs.declared.cause.Cause.{Cause}
use Rattle.evidence_core.specs.declared.cause.Cause.TheVariants as cause
use Rattle.evidence_core.specs.Unequal.{first_unequal}
use Rattle.evidence_core.proofs.FirstUnequal.{equal_of_none, none_of_equal}
use Rattle.std.specs.Cmp.Lexicographic.{pointwise}
use Rattle.std.specs.Cmp.Rules.{signed_items}
use Rattle.grid_moves.specs.Joining.{Equivalent}
use Rattle.linking_core.proofs.Steps.{equivalent_alike}
use Rattle.evidence_core.specs.Links.{AreLinkingOf, LinkingDiffers, place_cause, linked_cause, are_same_links, same_cause, cause_of_links}

pub no_place : (which : ℕ) (o : Option ℕ) → place_cause which o ≡ None → o ≡ None
no_place which None none = refl
no_place which (Some k) none = absurd cc

same_letters : (a b : ℤ) → int_eq a b ≡ true → a ≡ b
same_letters a b is = (Decides-int_eq a b).0 is

itself_letter : (a : ℤ) → int_eq a a ≡ true
itself_letter a = (Decides-int_eq a a).1 refl

pub linking_holds : (which : ℕ) (d : Diagram) (l : Linked) → linked_cause which d l ≡ None → AreLinkingOf d l
linking_holds which d l none = by (l.components == length (components d)) refl none
  where
    by : (t : Bool) → (l.components == length (components d)) ≡ t
        → cond t (place_cause which (first_unequal int_eq l.numbers (linking d))) (Some (cause.Components which)) ≡ None → AreLinkingOf d l
    by true same none = record {
      components = eqb-true l.components (length (components d)) same;
      own = equal_of_none int_eq same_letters l.numbers (linking d) (no_place which (first_unequal int_eq l.numbers (linking d)) none);
    }
    by false other none = absurd cc

pub linking_has_no_cause : (which : ℕ) (d : Diagram) (l : Linked) → AreLinkingOf d l → linked_cause which d l ≡ None
linking_has_no_cause which d l are =
    let count : (l.components == length (components d)) ≡ true = eq-eqb l.components (length (components d)) are.components in
    let same : first_unequal int_eq l.numbers (linking d) ≡ None =
    ap (λ (xs : List ℤ). first_unequal int_eq xs (linking d)) are.own ∙ none_of_equal int_eq itself_letter (linking d) in
    rw (count, same) refl

pub linking_apart : (d e : Diagram) (one two : Linked) → LinkingDiffers d e one two → Equivalent d e → ⊥
linking_apart d e one two holds joined =
    holds.differ (holds.first.components ∙ sym (equivalent_alike d e joined).number ∙ sym holds.second.components)
    (holds.first.own ∙ sym (equivalent_alike d e joined).list ∙ sym holds.second.own)

not_same : (one two : Linked) → same_cause one two ≡ None → one.components ≡ two.components → one.numbers ≢ two.numbers
not_same one two none count numbers =
    let counts : (one.components == two.components) ≡ true = eq-eqb one.components two.components count in
    let lists : pointwise int_eq one.numbers two.numbers ≡ true = (signed_items one.numbers two.numbers).1 numbers in
    let same : are_same_links one two ≡ true = and_from (one.components == two.components) (pointwise int_eq one.numbers two.numbers) counts lists in
    let some : same_cause one two ≡ Some cause.Equal = rw same refl in
    let no : ◌≡◌ {A = Option Cause} None (Some cause.Equal) = sym none ∙ some in
    cc

pub links_hold : (d e : Diagram) (one two : Linked) → cause_of_links d e one two ≡ None → LinkingDiffers d e one two
links_hold d e one two none = first (linked_cause 1 d one) refl none
  where
    second : (o : Option Cause) → linked_cause 2 e two ≡ o → or_else o (same_cause one two) ≡ None → AreLinkingOf d one → LinkingDiffers d e one two
    second None two_is none one_holds = record { first = one_holds; second = linking_holds 2 e two two_is; differ = not_same one two none }
    second (Some c) two_is none one_holds = absurd cc

    first : (o : Option Cause) → linked_cause 1 d one ≡ o → or_else o (or_else (linked_cause 2 e two) (same_cause one two)) ≡ None → LinkingDiffers d e one two
    first None one_is none = second (linked_cause 2 e two) refl none (linking_holds 1 d one one_is)
    first (Some c) one_is none = absurd cc

pub links_have_no_cause : (d e : Diagram) (one two : Linked) → LinkingDiffers d e one two → cause_of_links d e one two ≡ None
links_have_no_cause d e one two holds = by (are_same_links one two) refl
  where
    differ : are_same_links one two ≡ true → ⊥
    differ same =
        let both = and_parts (one.components == two.components) (pointwise int_eq one.numbers two.numbers) same in
        holds.differ (eqb-true one.components two.components both.0) ((signed_items one.numbers two.numbers).0 both.1)

    by : (t : Bool) → are_same_links one two ≡ t → cause_of_links d e one two ≡ None
    by true same = absurd (differ same)
    by false other = rw (linking_has_no_cause 1 d one holds.first, linking_has_no_cause 2 e two holds.second, other) refl
