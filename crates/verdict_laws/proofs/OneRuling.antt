-- Evidence has one ruling.
use Rattle.std.proofs.Common.{◌≡◌, ◌<◌, ◌∙◌, inl, inr, ℕ, List, Option, Some, slice_index, refl, sym, ap, ap₂, arith}
use Rattle.std.specs.Prelude.{unwrap_or}
use Rattle.std.proofs.lemmas.Bool.{cases_lt}
use Rattle.grid_core.specs.Diagram.{Diagram, size}
use Rattle.colour_seeds.specs.Seeded.{IsFault}
use Rattle.colour_seeds.specs.declared.seeding.SeedFault.TheVariants as fault
use Rattle.evidence_core.specs.declared.blocks.Block.{Block}
use Rattle.evidence_core.specs.declared.evidence.Counted.{Counted}
use Rattle.evidence_core.specs.declared.evidence.Evidence.{Evidence}
use Rattle.evidence_core.specs.declared.evidence.Evidence.TheVariants.{Numbers, Linking}
use Rattle.evidence_core.specs.declared.cause.NumberRuling.{NumberRuling}
use Rattle.evidence_core.specs.declared.cause.NumberRuling.TheVariants.{Accepted, Rejected}
use Rattle.evidence_core.specs.declared.cause.Cause.{Cause}
use Rattle.evidence_core.specs.declared.cause.Cause.TheVariants as cause
use Rattle.number_check.specs.Cause.{IsSeedCause, IsCauseOf, counts_cause, IsEvidenceCause}
use Rattle.evidence_core.specs.Links.{cause_of_links}
use Rattle.number_check.specs.Ruling.{RulesOnEvidence}
use Rattle.number_check.proofs.Causes.{seeds_faultless, numbers_have_no_cause}
use Rattle.number_check.proofs.Rulings.{not_held}

some_once : (o : Option Cause) (x y : Cause) → o ≡ Some x → o ≡ Some y → x ≡ y
some_once o x y one two = ap (λ (p : Option Cause). unwrap_or p x) (sym one ∙ two)

-- ---- seeds

pub outside_once : (d : Diagram) (seeds : List ℕ) (b c : ℕ) → IsFault seeds d (fault.Outside b) → IsFault seeds d (fault.Outside c) → b ≡ c
outside_once d seeds b c one two = elim (cases_lt one.0 two.0) [
  | inl less ↦ absurd (let inside : slice_index seeds one.0 < size d = two.4 one.0 less in omega (arith, inside, one.2, one.3))
  | inr least ↦ elim (cases_lt two.0 one.0) [
    | inl more ↦ absurd (let inside : slice_index seeds two.0 < size d = one.4 two.0 more in omega (arith, inside, two.2, two.3))
    | inr most ↦ let place : one.0 ≡ two.0 = omega (arith, least, most) in sym one.2 ∙ (ap (slice_index seeds) place ∙ two.2)
  ]
]

pub unsettled_once : (d : Diagram) (seeds : List ℕ) (b c : ℕ) → IsFault seeds d (fault.Unsettled b) → IsFault seeds d (fault.Unsettled c) → b ≡ c
unsettled_once d seeds b c one two = elim (cases_lt b c) [
  | inl less ↦ absurd (one.2 (two.3 b less))
  | inr least ↦ elim (cases_lt c b) [
    | inl more ↦ absurd (two.2 (one.3 c more))
    | inr most ↦ omega (arith, least, most)
  ]
]

-- where a seed is no column, no column is told as unsettled
pub not_both : (d : Diagram) (seeds : List ℕ) (b c : ℕ) → IsFault seeds d (fault.Outside b) → IsFault seeds d (fault.Unsettled c) → ⊥
not_both d seeds b c one two =
    let inside : slice_index seeds one.0 < size d = two.0 one.0 0 one.1 in
    omega (arith, inside, one.2, one.3)

one_seed_cause : (which : ℕ) (d : Diagram) (seeds : List ℕ) (x y : Cause) → IsSeedCause which d seeds x → IsSeedCause which d seeds y → x ≡ y
one_seed_cause which d seeds (cause.Outside v b) (cause.Outside w c) one two =
    ap₂ (λ (n k : ℕ). cause.Outside n k) (one.0 ∙ sym two.0) (outside_once d seeds b c one.1 two.1)
one_seed_cause which d seeds (cause.Outside v b) (cause.Unsettled w c) one two = absurd (not_both d seeds b c one.1 two.1)
one_seed_cause which d seeds (cause.Unsettled v b) (cause.Outside w c) one two = absurd (not_both d seeds c b two.1 one.1)
one_seed_cause which d seeds (cause.Unsettled v b) (cause.Unsettled w c) one two =
    ap₂ (λ (n k : ℕ). cause.Unsettled n k) (one.0 ∙ sym two.0) (unsettled_once d seeds b c one.1 two.1)
one_seed_cause which d seeds (cause.Outside v b) (cause.Wide w n) one two = absurd two
one_seed_cause which d seeds (cause.Outside v b) (cause.Components w) one two = absurd two
one_seed_cause which d seeds (cause.Outside v b) (cause.Number w k) one two = absurd two
one_seed_cause which d seeds (cause.Outside v b) cause.Equal one two = absurd two
one_seed_cause which d seeds (cause.Unsettled v b) (cause.Wide w n) one two = absurd two
one_seed_cause which d seeds (cause.Unsettled v b) (cause.Components w) one two = absurd two
one_seed_cause which d seeds (cause.Unsettled v b) (cause.Number w k) one two = absurd two
one_seed_cause which d seeds (cause.Unsettled v b) cause.Equal one two = absurd two
one_seed_cause which d seeds (cause.Wide v n) y one two = absurd one
one_seed_cause which d seeds (cause.Components v) y one two = absurd one
one_seed_cause which d seeds (cause.Number v k) y one two = absurd one
one_seed_cause which d seeds cause.Equal y one two = absurd one

-- ---- one diagram

one_cause_of : (b : Block) (which : ℕ) (d : Diagram) (c : Counted) (x y : Cause) → IsCauseOf b which d c x → IsCauseOf b which d c y → x ≡ y
one_cause_of b which d c x y one two = elim one [
  | inl seeds ↦ elim two [
    | inl others ↦ one_seed_cause which d c.seeds.items x y seeds others
    | inr counts ↦ absurd (seeds_faultless which d c.seeds.items x seeds counts.0)
  ]
  | inr counts ↦ elim two [
    | inl seeds ↦ absurd (seeds_faultless which d c.seeds.items y seeds counts.0)
    | inr others ↦ some_once (counts_cause b which d c) x y counts.1 others.1
  ]
]

-- ---- both

one_cause : (d e : Diagram) (evidence : Evidence) (x y : Cause) → IsEvidenceCause d e evidence x → IsEvidenceCause d e evidence y → x ≡ y
one_cause d e (Numbers b first second) x y one two = elim one [
  | inl of_first ↦ elim two [
    | inl others ↦ one_cause_of b 1 d first x y of_first others
    | inr later ↦ absurd (numbers_have_no_cause b 1 d first x of_first later.0)
  ]
  | inr later ↦ elim two [
    | inl of_first ↦ absurd (numbers_have_no_cause b 1 d first y of_first later.0)
    | inr also ↦ elim later.1 [
      | inl of_second ↦ elim also.1 [
        | inl others ↦ one_cause_of b 2 e second x y of_second others
        | inr same ↦ absurd (numbers_have_no_cause b 2 e second x of_second same.0)
      ]
      | inr same ↦ elim also.1 [
        | inl of_second ↦ absurd (numbers_have_no_cause b 2 e second y of_second same.0)
        | inr others ↦ same.1.1 ∙ sym others.1.1
      ]
    ]
  ]
]
one_cause d e (Linking first second) x y one two = some_once (cause_of_links d e first second) x y one two

pub one_ruling : (d e : Diagram) (evidence : Evidence) (one two : NumberRuling)
    → RulesOnEvidence d e evidence one → RulesOnEvidence d e evidence two → one ≡ two
one_ruling d e evidence Accepted Accepted one two = refl
one_ruling d e evidence Accepted (Rejected c) one two = absurd (not_held d e evidence c two one)
one_ruling d e evidence (Rejected c) Accepted one two = absurd (not_held d e evidence c one two)
one_ruling d e evidence (Rejected b) (Rejected c) one two = ap (λ (x : Cause). Rejected x) (one_cause d e evidence b c one two)
