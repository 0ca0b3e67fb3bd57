-- What a ruling on evidence by numbers says.
use Rattle.std.proofs.Common.{◌≡◌, ◌↔◌, ◌∙◌, inl, inr, Option, Some, None, refl, sym}
use Rattle.grid_core.specs.Diagram.{Diagram}
use Rattle.grid_moves.specs.Joining.{Equivalent}
use Rattle.quandle_core.specs.Quandle.{IsQuandle}
use Rattle.colour_numbers.specs.Numbers.{IsCocycleOrNone}
use Rattle.colour_numbers.proofs.SameNumbers.{same_numbers}
use Rattle.evidence_core.specs.declared.blocks.Block.{Block}
use Rattle.evidence_core.specs.declared.evidence.Counted.{Counted}
use Rattle.evidence_core.specs.declared.evidence.Evidence.{Evidence}
use Rattle.evidence_core.specs.declared.evidence.Evidence.TheVariants.{Numbers, Linking}
use Rattle.evidence_core.specs.declared.cause.NumberRuling.{NumberRuling}
use Rattle.evidence_core.specs.declared.cause.NumberRuling.TheVariants.{Accepted, Rejected}
use Rattle.evidence_core.specs.declared.cause.Cause.{Cause}
use Rattle.number_check.specs.EvidenceHolds.{NumbersDiffer, EvidenceHolds}
use Rattle.number_check.specs.Cause.{IsEvidenceCause}
use Rattle.number_check.specs.Ruling.{RulesOnEvidence}
use Rattle.number_check.proofs.Causes.{numbers_have_no_cause}
use Rattle.evidence_core.proofs.LinksOfGrids.{links_have_no_cause}

-- ---- what holds tells apart

pub numbers_apart : (d e : Diagram) (b : Block) (one two : Counted) → IsQuandle b.listed.table → IsCocycleOrNone b.cocycle
    → NumbersDiffer b d e one two → Equivalent d e → ⊥
numbers_apart d e b one two quandle cocycle holds joined =
    holds.differ (holds.first.own ∙ same_numbers b.listed.table b.cocycle d e quandle cocycle joined ∙ sym holds.second.own)

-- ---- evidence that holds has no cause

pub not_held : (d e : Diagram) (evidence : Evidence) (c : Cause) → IsEvidenceCause d e evidence c → EvidenceHolds d e evidence → ⊥
not_held d e (Numbers b one two) c is holds = elim is [
  | inl first ↦ numbers_have_no_cause b 1 d one c first holds.first
  | inr later ↦ elim later.1 [
    | inl second ↦ numbers_have_no_cause b 2 e two c second holds.second
    | inr same ↦ holds.differ same.1.0
  ]
]
not_held d e (Linking one two) c is holds =
    let no : ◌≡◌ {A = Option Cause} None (Some c) = sym (links_have_no_cause d e one two holds) ∙ is in
    cc

pub accepted_where_held : (d e : Diagram) (evidence : Evidence) (ruling : NumberRuling) → RulesOnEvidence d e evidence ruling
    → (ruling ≡ Accepted) ↔ EvidenceHolds d e evidence
accepted_where_held d e evidence Accepted rules = ((λ is. rules), (λ holds. refl))
accepted_where_held d e evidence (Rejected c) rules = ((λ is. absurd cc), (λ holds. absurd (not_held d e evidence c rules holds)))
