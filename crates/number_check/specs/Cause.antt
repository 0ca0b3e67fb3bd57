-- The first cause for which evidence by numbers does not hold.
use Rattle.std.specs.Prelude.{◌≡◌, ◌^◌, ◌⊎◌, ℕ, List, length, Option, Some, None, nat_le, nat_eq, if◌then◌else◌}
use Rattle.grid_core.specs.Diagram.{Diagram}
use Rattle.quandle_core.specs.Fault.{or_else}
use Rattle.colour_seeds.specs.Settled.{Determine}
use Rattle.colour_seeds.specs.Seeded.{IsFault}
use Rattle.colour_seeds.specs.declared.seeding.SeedFault.TheVariants as fault
use Rattle.colour_seeds.specs.declared.counting.TheConstants.{MAX_CANDIDATES}
use Rattle.evidence_core.specs.declared.blocks.Block.{Block}
use Rattle.evidence_core.specs.declared.evidence.Counted.{Counted}
use Rattle.evidence_core.specs.declared.evidence.Evidence.{Evidence}
use Rattle.evidence_core.specs.declared.evidence.Evidence.TheVariants.{Numbers, Linking}
use Rattle.evidence_core.specs.declared.cause.Cause.{Cause}
use Rattle.evidence_core.specs.declared.cause.Cause.TheVariants as cause
use Rattle.evidence_core.specs.Unequal.{first_unequal}
use Rattle.number_check.specs.EvidenceHolds.{table_by_block, choices_by, numbers_by, AreNumbersOf}
use Rattle.evidence_core.specs.Links.{place_cause, cause_of_links}

-- ---- the numbers of colourings of the diagram of this number

-- why the seeds do not settle it: the first that is no column, else the leftmost column that they do not settle
abbrev pub IsSeedCause : ℕ → Diagram → List ℕ → Cause → Type 0
IsSeedCause which d seeds (cause.Outside w c) = (w ≡ which) × IsFault seeds d (fault.Outside c)
IsSeedCause which d seeds (cause.Unsettled w c) = (w ≡ which) × IsFault seeds d (fault.Unsettled c)
IsSeedCause which d seeds _ = ⊥

-- so many seeds have too many choices of colours
abbrev pub wide_seeds : Block → ℕ → ℕ → Option Cause
wide_seeds b which seeds = if nat_le ((table_by_block b).order ^ choices_by b seeds) MAX_CANDIDATES then None else Some (cause.Wide which seeds)

-- why these numbers are not shown to be its own by so many seeds that settle it
abbrev pub settled_cause : Block → ℕ → Diagram → ℕ → List ℕ → Option Cause
settled_cause b which d seeds numbers = or_else (wide_seeds b which seeds) (place_cause which (first_unequal nat_eq numbers (numbers_by b d)))

-- why its numbers are not shown to be its own by seeds that settle it
abbrev pub counts_cause : Block → ℕ → Diagram → Counted → Option Cause
counts_cause b which d c = settled_cause b which d (length c.seeds.items) c.numbers

-- the first cause for which what is said of a diagram's numbers does not hold: that of its seeds, else that of the numbers
abbrev pub IsCauseOf : Block → ℕ → Diagram → Counted → Cause → Type 0
IsCauseOf b which d c cause = IsSeedCause which d c.seeds.items cause ⊎ (Determine c.seeds.items d × (counts_cause b which d c ≡ Some cause))

-- ---- either

-- the first cause for which the evidence does not hold: that of the first diagram, else that of the second, else that both are the same
abbrev pub IsEvidenceCause : Diagram → Diagram → Evidence → Cause → Type 0
IsEvidenceCause d e (Numbers b one two) c =
    IsCauseOf b 1 d one c
    ⊎ (AreNumbersOf b d one × (IsCauseOf b 2 e two c ⊎ (AreNumbersOf b e two × ((one.numbers ≡ two.numbers) × (c ≡ cause.Equal)))))
IsEvidenceCause d e (Linking one two) c = cause_of_links d e one two ≡ Some c
