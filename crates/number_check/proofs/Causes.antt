-- What a cause of one diagram, or none, says.
use Rattle.std.proofs.Common.{◌≡◌, ◌<◌, ◌≤◌, ◌+◌, ◌^◌, ◌∙◌, inl, inr, ℕ, Bool, true, false, List, Option, Some, None, length, slice_index, IfSome, refl, sym}
use Rattle.std.proofs.Common.{ap, cond, subst, arith}
use Rattle.std.specs.Prelude.{nat_le, nat_eq}
use Rattle.std.proofs.lemmas.Bool.{leb-true, le-leb, eqb-true}
use Rattle.std.proofs.Math.Nat.{pow-le-pow_right}
use Rattle.colour_seeds.specs.declared.progress.Step.{Step}
use Rattle.colour_seeds.specs.Plan.{seeds_in}
use Rattle.std.proofs.lemmas.Bool.Decides.{Decides-eqb}
use Rattle.grid_core.specs.Diagram.{Diagram, size}
use Rattle.quandle_core.specs.Fault.{or_else}
use Rattle.colour_seeds.specs.Settled.{Determine}
use Rattle.colour_seeds.specs.Seeded.{IsFault}
use Rattle.colour_seeds.specs.declared.seeding.SeedFault.TheVariants as fault
use Rattle.colour_seeds.specs.declared.counting.TheConstants.{MAX_CANDIDATES}
use Rattle.evidence_core.specs.declared.blocks.LargeWeighing.{LargeWeighing}
use Rattle.evidence_core.specs.declared.blocks.LargeWeighing.TheVariants.{Strands, Regions}
use Rattle.evidence_core.specs.declared.blocks.Block.{Block}
use Rattle.colour_numbers.specs.Numbers.{choices_of, fits_by}
use Rattle.evidence_core.specs.declared.evidence.Counted.{Counted}
use Rattle.evidence_core.specs.declared.cause.Cause.{Cause}
use Rattle.evidence_core.specs.declared.cause.Cause.TheVariants as cause
use Rattle.evidence_core.specs.Unequal.{first_unequal}
use Rattle.number_check.specs.EvidenceHolds.{table_by_block, choices_by, numbers_by, AreNumbersOf}
use Rattle.number_check.specs.Cause.{IsSeedCause, counts_cause, IsCauseOf}
use Rattle.evidence_core.proofs.FirstUnequal.{equal_of_none, none_of_equal}
use Rattle.evidence_core.specs.Links.{place_cause}
use Rattle.evidence_core.proofs.LinksOfGrids.{no_place}

pub itself : (a : ℕ) → nat_eq a a ≡ true
itself a = (Decides-eqb a a).1 refl

-- ---- numbers of colourings

-- without a cause the numbers are the diagram's own
pub numbers_hold : (b : Block) (which : ℕ) (d : Diagram) (c : Counted) → Determine c.seeds.items d → counts_cause b which d c ≡ None → AreNumbersOf b d c
numbers_hold b which d c settled none = by (nat_le ((table_by_block b).order ^ choices_by b (length c.seeds.items)) MAX_CANDIDATES) refl none
  where
    by : (t : Bool) → nat_le ((table_by_block b).order ^ choices_by b (length c.seeds.items)) MAX_CANDIDATES ≡ t
        → or_else (cond t None (Some (cause.Wide which (length c.seeds.items)))) (place_cause which (first_unequal nat_eq c.numbers (numbers_by b d))) ≡ None
        → AreNumbersOf b d c
    by true few none = record {
      settled = settled;
      few = leb-true ((table_by_block b).order ^ choices_by b (length c.seeds.items)) MAX_CANDIDATES few;
      own = equal_of_none nat_eq eqb-true c.numbers (numbers_by b d) (no_place which (first_unequal nat_eq c.numbers (numbers_by b d)) none);
    }
    by false many none = absurd cc

-- and where they are, there is none
pub numbers_faultless : (b : Block) (which : ℕ) (d : Diagram) (c : Counted) → AreNumbersOf b d c → counts_cause b which d c ≡ None
numbers_faultless b which d c are =
    let few : nat_le ((table_by_block b).order ^ choices_by b (length c.seeds.items)) MAX_CANDIDATES ≡ true =
    le-leb ((table_by_block b).order ^ choices_by b (length c.seeds.items)) MAX_CANDIDATES are.few in
    let same : first_unequal nat_eq c.numbers (numbers_by b d) ≡ None =
    ap (λ (xs : List ℕ). first_unequal nat_eq xs (numbers_by b d)) are.own ∙ none_of_equal nat_eq itself (numbers_by b d) in
    rw (few, same) refl

pub seeds_faultless : (which : ℕ) (d : Diagram) (seeds : List ℕ) (c : Cause) → IsSeedCause which d seeds c → Determine seeds d → ⊥
seeds_faultless which d seeds (cause.Outside w column) is settled =
    let at = is.1 in
    let inside : slice_index seeds at.0 < size d = settled.columns at.0 0 at.1 in
    omega (arith, inside, at.2, at.3)
seeds_faultless which d seeds (cause.Unsettled w column) is settled = is.1.2 (settled.all column is.1.1)
seeds_faultless which d seeds (cause.Wide w seeds') is settled = is
seeds_faultless which d seeds (cause.Components w) is settled = is
seeds_faultless which d seeds (cause.Number w place) is settled = is
seeds_faultless which d seeds cause.Equal is settled = is

pub numbers_have_no_cause : (b : Block) (which : ℕ) (d : Diagram) (c : Counted) (why : Cause) → IsCauseOf b which d c why → AreNumbersOf b d c → ⊥
numbers_have_no_cause b which d c why is are = elim is [
  | inl seeds ↦ seeds_faultless which d c.seeds.items why seeds are.settled
  | inr counts ↦ let no : ◌≡◌ {A = Option Cause} None (Some why) = sym (numbers_faultless b which d c are) ∙ counts.1 in cc
]

-- ---- as a call answers them

pub some_cause : (b : Block) (which : ℕ) (d : Diagram) (c : Counted) (o : Option Cause) → Determine c.seeds.items d → o ≡ counts_cause b which d c
    → IfSome o (λ why. IsCauseOf b which d c why)
some_cause b which d c None settled is = tt
some_cause b which d c (Some why) settled is = inr (settled, sym is)

-- more seeds have more choices
choices_more : (o : Option LargeWeighing) (few many : ℕ) → few ≤ many → choices_of o few ≤ choices_of o many
choices_more None few many le = le
choices_more (Some (Strands w)) few many le = le
choices_more (Some (Regions s)) few many le = let more : few + 1 ≤ many + 1 = omega (arith, le) in more

-- seeds that have few choices give a plan that fits
pub fits_there : (b : Block) (plan : List Step) (seeds : ℕ) → 1 ≤ (table_by_block b).order → seeds_in plan ≤ seeds
    → nat_le ((table_by_block b).order ^ choices_by b seeds) MAX_CANDIDATES ≡ true → fits_by b.listed.table b.cocycle plan ≡ true
fits_there b plan seeds some few narrow =
    let up : (table_by_block b).order ^ choices_by b (seeds_in plan) ≤ (table_by_block b).order ^ choices_by b seeds =
    pow-le-pow_right {n = (table_by_block b).order} some {i = choices_by b (seeds_in plan)} {j = choices_by b seeds}
    (choices_more b.cocycle (seeds_in plan) seeds few) in
    let most : (table_by_block b).order ^ choices_by b seeds ≤ MAX_CANDIDATES =
    leb-true ((table_by_block b).order ^ choices_by b seeds) MAX_CANDIDATES narrow in
    le-leb ((table_by_block b).order ^ choices_by b (seeds_in plan)) MAX_CANDIDATES (omega (arith, up, most))

-- a column that the seeds do not settle is a cause
pub unsettled_cause : (b : Block) (which : ℕ) (d : Diagram) (c : Counted) (seeds : List ℕ) (column : ℕ) → seeds ≡ c.seeds.items
    → IsFault seeds d (fault.Unsettled column) → IsCauseOf b which d c (cause.Unsettled which column)
unsettled_cause b which d c seeds column same is = inl (refl, subst (λ (s : List ℕ). IsFault s d (fault.Unsettled column)) same is)
