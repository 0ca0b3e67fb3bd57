-- Evidence on two grids has a ruling.
use Rattle.std.proofs.Common.{◌≡◌, ◌⊎◌, inl, inr, ℕ, List, Option, Some, None, refl, sym, subst, ◌∙◌}
use Rattle.std.specs.Prelude.{nat_eq}
use Rattle.std.proofs.lemmas.Bool.{eqb-true}
use Rattle.grid_core.specs.Diagram.{Diagram, IsGrid}
use Rattle.colour_seeds.specs.Settled.{Determine}
use Rattle.evidence_core.specs.declared.blocks.Block.{Block}
use Rattle.evidence_core.specs.declared.evidence.Counted.{Counted}
use Rattle.evidence_core.specs.declared.evidence.Linked.{Linked}
use Rattle.evidence_core.specs.declared.evidence.Evidence.{Evidence}
use Rattle.evidence_core.specs.declared.evidence.Evidence.TheVariants.{Numbers, Linking}
use Rattle.evidence_core.specs.declared.cause.NumberRuling.{NumberRuling}
use Rattle.evidence_core.specs.declared.cause.NumberRuling.TheVariants.{Accepted, Rejected}
use Rattle.evidence_core.specs.declared.cause.Cause.{Cause}
use Rattle.evidence_core.specs.declared.cause.Cause.TheVariants as cause
use Rattle.evidence_core.specs.Unequal.{first_unequal}
use Rattle.number_check.specs.EvidenceHolds.{AreNumbersOf}
use Rattle.number_check.specs.Cause.{counts_cause, IsCauseOf}
use Rattle.evidence_core.specs.Links.{cause_of_links}
use Rattle.number_check.specs.Ruling.{RulesOnEvidence}
use Rattle.evidence_core.proofs.FirstUnequal.{equal_of_none, none_of_equal}
use Rattle.number_check.proofs.Causes.{itself, numbers_hold}
use Rattle.evidence_core.proofs.LinksOfGrids.{links_hold}
use Rattle.verdict_laws.proofs.SeedWays.{determine_or_fault}

-- of one diagram
abbrev SomeCauseOf : Block → ℕ → Diagram → Counted → Type 0
SomeCauseOf b which d c = (why : Cause) × IsCauseOf b which d c why

counts_or_cause : (b : Block) (which : ℕ) (d : Diagram) (c : Counted) → IsGrid d → AreNumbersOf b d c ⊎ SomeCauseOf b which d c
counts_or_cause b which d c grid = elim (determine_or_fault d c.seeds.items grid) [
  | inl settled ↦ by settled (counts_cause b which d c) refl
  | inr fault ↦ elim fault [
    | inl outside ↦ inr (cause.Outside which outside.0, inl (refl, outside.1))
    | inr unsettled ↦ inr (cause.Unsettled which unsettled.0, inl (refl, unsettled.1))
  ]
]
  where
    by : Determine c.seeds.items d → (o : Option Cause) → counts_cause b which d c ≡ o → AreNumbersOf b d c ⊎ SomeCauseOf b which d c
    by settled None none = inl (numbers_hold b which d c settled none)
    by settled (Some why) is = inr (why, inr (settled, is))

abbrev SomeRuling : Diagram → Diagram → Evidence → Type 0
SomeRuling d e evidence = (ruling : NumberRuling) × RulesOnEvidence d e evidence ruling

numbers_ruled : (d e : Diagram) (b : Block) (one two : Counted) → AreNumbersOf b d one → AreNumbersOf b e two → SomeRuling d e (Numbers b one two)
numbers_ruled d e b one two first second = by (first_unequal nat_eq one.numbers two.numbers) refl
  where
    by : (o : Option ℕ) → first_unequal nat_eq one.numbers two.numbers ≡ o → SomeRuling d e (Numbers b one two)
    by None none = (Rejected cause.Equal, inr (first, inr (second, (equal_of_none nat_eq eqb-true one.numbers two.numbers none, refl))))
    by (Some place) is = (
      Accepted,
      record {
        first = first;
        second = second;
        differ = λ same.
            let there = subst (λ (ks : List ℕ). first_unequal nat_eq one.numbers ks ≡ Some place) (sym same) is in
            let no : ◌≡◌ {A = Option ℕ} None (Some place) = sym (none_of_equal nat_eq itself one.numbers) ∙ there in
            absurd cc;
      },
    )

links_ruled : (d e : Diagram) (one two : Linked) → SomeRuling d e (Linking one two)
links_ruled d e one two = by (cause_of_links d e one two) refl
  where
    by : (o : Option Cause) → cause_of_links d e one two ≡ o → SomeRuling d e (Linking one two)
    by None none = (Accepted, links_hold d e one two none)
    by (Some why) is = (Rejected why, is)

pub some_ruling : (d e : Diagram) (evidence : Evidence) → IsGrid d → IsGrid e → (ruling : NumberRuling) × RulesOnEvidence d e evidence ruling
some_ruling d e (Numbers b one two) first second = elim (counts_or_cause b 1 d one first) [
  | inr why ↦ (Rejected why.0, inl why.1)
  | inl of_first ↦ elim (counts_or_cause b 2 e two second) [
    | inr why ↦ (Rejected why.0, inr (of_first, inl why.1))
    | inl of_second ↦ numbers_ruled d e b one two of_first of_second
  ]
]
some_ruling d e (Linking one two) first second = links_ruled d e one two
