-- What is found of two diagrams: by the first quandle that separates them, or by moves.
use Rattle.std.proofs.Common.{rules, ◌≡◌, ◌∙◌, refl, ap, sym, subst, ℕ, List, [], ◌++◌, Option, Some, None, Ok, IfSome, All, count_by}
use Rattle.std.proofs.lemmas.List.Elements.{All-append, All-filter, recursion_from_All}
use Rattle.std.specs.Option.{option_or}
use Rattle.grid_core.specs.Diagram.{Diagram, IsGrid}
use Rattle.quandle_core.specs.Names.{NamedQuandle}
use Rattle.verdict_core.specs.Diagrams.{grid_of, column_count}
use Rattle.verdict_core.specs.Evidence.{VerdictHolds, IsTidyVerdict}
use Rattle.verdict_core.specs.declared.problem.ProblemText.{ProblemText}
use Rattle.verdict_core.specs.declared.verdict.Verdict.{Verdict}
use Rattle.knot_text.specs.Printed.{HasQuandleText}
use Rattle.verdict_text.specs.Problems.{problem_of}
use Rattle.pair_verdict.specs.Separates.{separates, first_separating}
use Rattle.pair_verdict.proofs.FirstFound.{find_passes, holds_by}
use Rattle.verdict_laws.specs.VerdictDecision.{IsByWrittenQuandle}
use Rattle.verdict_laws.proofs.PrintedVerdicts.{found}
use Rattle.evidence_core.specs.declared.blocks.Block.{Block}
use Rattle.evidence_core.specs.declared.evidence.Evidence.{Evidence}
use Rattle.number_text.specs.declared.said.Said.{Said}
use Rattle.number_text.specs.declared.said.Said.TheVariants as said
use Rattle.certificates.specs.Printed.{HasBlockText}
use Rattle.number_search.specs.declared.seed_pair.SeedPair.{SeedPair}
use Rattle.number_search.specs.Told.{ArePlansOf, fits_both, told_by_linking, told_by_blocks, told_apart}
use Rattle.number_search.proofs.Held.{told_holds}
use Rattle.certificate_check.specs.Decision.{IsFindingOf}
use Rattle.certificate_check.proofs.HeldTexts.{held_text}
use Rattle.seek_core.specs.Candidates.{fitting, candidate_quandles}
use Rattle.seek_core.specs.Formulas.{formula_quandles}
use Rattle.seek_core.specs.declared.finding.SearchOutcome.{SearchOutcome}
use Rattle.seek_core.specs.declared.answer.Tried.{Tried}
use Rattle.seek_core.specs.Found.{IsVerdictBy, IsFoundOn, IsSearchOf}
use Rattle.seek_core.specs.Answers.{QuandlesTriedInVain, BlocksTriedInVain}
use Rattle.seek_core.specs.Pairs.{SeededPair}
use Rattle.seek_core.specs.Sizes.{as_tried}
use Rattle.seek_core.proofs.ByFormula.{formula_texts}
use Rattle.seek_core.proofs.GivenTexts.{by_written}
use Rattle.seek_core.proofs.LargerLast.{tried_texts, none_told}

-- ---- the quandles that are tried have texts

fitting_texts : (d e : Diagram) (others qs : List NamedQuandle) → All HasQuandleText qs → All HasQuandleText (fitting d e others qs)
fitting_texts d e others qs all = All-filter _ HasQuandleText qs all

pub candidate_texts : (d e : Diagram) (qs : List NamedQuandle) → All HasQuandleText qs → All HasQuandleText (candidate_quandles d e qs)
candidate_texts d e qs all =
    search (All-append HasQuandleText, fitting_texts, formula_texts, all)

-- those that were appended, in both turns
pub candidates_are : (d e : Diagram) (listed formulas start mid end : List NamedQuandle) → start ≡ [] → mid ≡ start ++ fitting d e [] listed
    → formulas ≡ formula_quandles → end ≡ mid ++ fitting d e listed formulas → end ≡ candidate_quandles d e listed
candidates_are d e listed formulas start mid end none first same second =
    second
    ∙ ap (λ (qs : List NamedQuandle). qs ++ fitting d e listed formulas) (first ∙ ap (λ (qs : List NamedQuandle). qs ++ fitting d e [] listed) none)
    ∙ ap (λ (qs : List NamedQuandle). fitting d e [] listed ++ fitting d e listed qs) same

-- ---- what is found

-- the diagrams of a problem, with seeds
abbrev problem_pair : ProblemText → SeedPair → SeededPair
problem_pair p seeds = record { first = grid_of p.first; second = grid_of p.second; seeds = seeds }

-- a search on the diagrams and the quandles of a problem
pub search_of : (p : ProblemText) (blocks : List Block) (s : SearchOutcome) (d e : Diagram) (listed : List NamedQuandle) (seeds : SeedPair)
    → d ≡ grid_of p.first → e ≡ grid_of p.second → listed ≡ p.quandles → s.quandles.items ≡ candidate_quandles d e listed → ArePlansOf d e seeds
    → s.blocks ≡ count_by (fits_both seeds) blocks
    → IsFoundOn (record { first = d; second = e; seeds = seeds }) s.quandles.items (as_tried blocks) s.said → IsSearchOf p blocks s
search_of p blocks s d e listed seeds first second same candidates plans fitting found = record {
  quandles = subst (λ (g : Diagram). s.quandles.items ≡ candidate_quandles (grid_of p.first) g p.quandles) second
      (subst (λ (g : Diagram). s.quandles.items ≡ candidate_quandles g e p.quandles) first
      (subst (λ (qs : List NamedQuandle). s.quandles.items ≡ candidate_quandles d e qs) same candidates));
  seeds = seeds;
  plans = subst (λ (g : Diagram). ArePlansOf (grid_of p.first) g seeds) second (subst (λ (g : Diagram). ArePlansOf g e seeds) first plans);
  fitting = fitting;
  found = subst (λ (g : Diagram). IsFoundOn (record { first = grid_of p.first; second = g; seeds = seeds }) s.quandles.items (as_tried blocks) s.said) second
      (subst (λ (g : Diagram). IsFoundOn (record { first = g; second = e; seeds = seeds }) s.quandles.items (as_tried blocks) s.said) first found);
}

-- ---- what it is worth

record IsWorth (d e : Diagram) (v : Verdict) : Type 0 where
  holds : VerdictHolds d e v
  written : IsByWrittenQuandle v
  tidy : IsTidyVerdict v

worth_by : (d e : Diagram) (qs : List NamedQuandle) (first : Option NamedQuandle) (v : Verdict) → All HasQuandleText qs → first_separating d e qs ≡ first
    → IsVerdictBy d e first v → IsWorth d e v
worth_by d e qs (Some q) v all is lists = record {
  holds = holds_by d e q v (find_passes (λ (r : NamedQuandle). separates d e r.table) qs q is) lists;
  written = subst IsByWrittenQuandle (sym lists.verdict)
      (found HasQuandleText (λ (r : NamedQuandle). separates d e r.table) qs q (recursion_from_All HasQuandleText qs all) is);
  tidy = subst IsTidyVerdict (sym lists.verdict) tt;
}
worth_by d e qs None v all is equal = subst (IsWorth d e) (sym equal.verdict) (record { holds = equal.joins; written = tt; tidy = equal.tidy })

-- of the diagrams of a problem
finding_of : (p : ProblemText) (blocks : List Block) (s : SearchOutcome) (x : Said) → IsGrid (grid_of p.first) → IsGrid (grid_of p.second)
    → All HasQuandleText s.quandles.items → All HasBlockText blocks → (search : IsSearchOf p blocks s)
    → IsFoundOn (problem_pair p search.seeds) s.quandles.items (as_tried blocks) (Some x) → IsFindingOf p x
finding_of p blocks s (said.Verdict v) one two all texts search found =
    let d = grid_of p.first in
    let e = grid_of p.second in
    let worth = worth_by d e s.quandles.items (first_separating d e s.quandles.items) v all refl found in
    record { holds = worth.holds; written = worth.written; tidy = worth.tidy }
finding_of p blocks s (said.Evidence x) one two all texts search found = record {
  holds = told_holds (grid_of p.first) (grid_of p.second) search.seeds (as_tried blocks) x one two search.plans found;
  written = held_text (grid_of p.first) (grid_of p.second) x one two
      (told_holds (grid_of p.first) (grid_of p.second) search.seeds (as_tried blocks) x one two search.plans found)
      (by_written (grid_of p.first) (grid_of p.second) search.seeds (as_tried blocks) x one two search.plans (tried_texts blocks texts) found);
}

pub finding_if : (p : ProblemText) (blocks : List Block) (s : SearchOutcome) → IsGrid (grid_of p.first) → IsGrid (grid_of p.second)
    → All HasQuandleText s.quandles.items
    → All HasBlockText blocks → IsSearchOf p blocks s → IfSome s.said (λ x. IsFindingOf p x)
finding_if p blocks s one two all texts search = by s.said refl
  where
    by : (o : Option Said) → s.said ≡ o → IfSome o (λ x. IsFindingOf p x)
    by None is = tt
    by (Some x) is = finding_of p blocks s x one two all texts search
        (subst (λ (o : Option Said). IsFoundOn (problem_pair p search.seeds) s.quandles.items (as_tried blocks) o) is search.found)

-- ---- where nothing is found

linking_none : (d e : Diagram) (s : SeedPair) (blocks : List Block) → told_apart d e s blocks ≡ None
    → (told_by_linking d e ≡ None) × (told_by_blocks d e s blocks ≡ None)
linking_none d e s blocks none = by (told_by_linking d e) refl none
  where
    by : (o : Option Evidence) → told_by_linking d e ≡ o → option_or o (told_by_blocks d e s blocks) ≡ None
        → (told_by_linking d e ≡ None) × (told_by_blocks d e s blocks ≡ None)
    by None linking none = (linking, none)
    by (Some x) linking none = absurd cc

pub in_vain_of : (bytes : List ℕ) (p : ProblemText) (blocks : List Block) (s : SearchOutcome) (tried : Tried) → problem_of bytes ≡ Ok p
    → tried.columns ≡ (column_count p.first, column_count p.second) → tried.quandles ≡ s.quandles.items → tried.blocks ≡ s.blocks → s.said ≡ None
    → IsSearchOf p blocks s → QuandlesTriedInVain bytes tried × BlocksTriedInVain bytes blocks tried
in_vain_of bytes p blocks s tried read wide same fitting none search =
    let d = grid_of p.first in
    let e = grid_of p.second in
    let neither : (first_separating d e s.quandles.items ≡ None) × (told_apart d e search.seeds (as_tried blocks) ≡ None) =
    subst (λ (o : Option Said). IsFoundOn (problem_pair p search.seeds) s.quandles.items (as_tried blocks) o) none search.found in
    let untold = linking_none d e search.seeds (as_tried blocks) neither.1 in (
      record {
        problem = p;
        read = read;
        wide = wide;
        linking = untold.0;
        quandles = same ∙ search.quandles;
        in_vain = ap (first_separating d e) same ∙ neither.0;
      },
      record {
        problem = p;
        read = read;
        seeds = search.seeds;
        plans = search.plans;
        fitting = fitting ∙ search.fitting;
        in_vain = none_told d e search.seeds blocks untold.1;
      },
    )
