-- On a verdict on two diagrams there is one ruling.
use Rattle.std.proofs.Common.{◌≡◌, ◌≢◌, ◌∙◌, ◌⊎◌, ◌↔◌, Bool, true, false, List, ℕ, Option, Some, None, Result, Ok, Err, IfOk, subst, ap}
use Rattle.std.proofs.Common.{ap₂, sym, refl, inl, inr}
use Rattle.std.specs.Str.{bytes_eq}
use Rattle.std.proofs.lemmas.Slice.Eq.{bytes_eq-Decides}
use Rattle.arrayvec.specs.ArrayVec.{ArrayVec}
use Rattle.grid_core.specs.Diagram.{Diagram, IsGrid}
use Rattle.grid_moves.specs.declared.step.Move.{Move}
use Rattle.grid_moves.specs.declared.step.MoveFault.{MoveFault}
use Rattle.grid_moves.proofs.Stopped.{joins_once, not_both, stops_once, joins_or_stops}
use Rattle.grid_moves.specs.Joining.{Joins, StopsAt}
use Rattle.quandle_core.specs.Quandle.{Table}
use Rattle.colour_list.specs.Listing.{lists_of}
use Rattle.quandle_core.specs.Names.{NamedQuandle}
use Rattle.verdict_core.specs.declared.verdict.Verdict.{Verdict}
use Rattle.verdict_core.specs.declared.verdict.Verdict.TheVariants.{Equal, Different, UnknownBudget, UnknownExhausted}
use Rattle.cert_check.specs.declared.ruling.Ruling.{Ruling}
use Rattle.cert_check.specs.declared.ruling.Ruling.TheVariants.{Accepted, Rejected}
use Rattle.cert_check.specs.declared.ruling.Why.{Why}
use Rattle.cert_check.specs.declared.ruling.Why.TheVariants as why
use Rattle.verdict_core.specs.Evidence.{TellsApart, VerdictHolds}
use Rattle.cert_check.specs.Cause.{LeadsElsewhere, IsCauseOfMoves, IsVerdictCause, cause_of_lists}
use Rattle.cert_check.specs.Ruling.{RulesOnVerdict}
use Rattle.cert_check.proofs.ListCauses.{tells_apart, no_cause_where_told_apart}

-- ---- moves

-- a list of moves stops, or leads elsewhere
abbrev Stops : Diagram → List Move → Why → Type 0
Stops d moves cause = (place : ℕ) × ((fault : MoveFault) × (StopsAt d moves place fault × (cause ≡ why.Step place fault)))

cause_of_moves : (d e : Diagram) (moves : List Move) (cause : Why) → IsCauseOfMoves d e moves cause
    → Stops d moves cause ⊎ (LeadsElsewhere d e moves × (cause ≡ why.OtherEnd))
cause_of_moves d e moves (why.Step place fault) is = inl (place, (fault, (is, refl)))
cause_of_moves d e moves why.OtherEnd is = inr (is, refl)
cause_of_moves d e moves (why.Wide which bottoms) is = absurd is
cause_of_moves d e moves (why.List which place) is = absurd is
cause_of_moves d e moves why.SameLength is = absurd is
cause_of_moves d e moves why.NoEvidence is = absurd is

-- moves that have a cause do not join
not_joined : (d e : Diagram) (moves : List Move) (cause : Why) → IsCauseOfMoves d e moves cause → Joins d moves e → ⊥
not_joined d e moves cause is joined = elim (cause_of_moves d e moves cause is) [
  | inl stops ↦ not_both moves d e stops.0 stops.1.0 stops.1.1.0 joined
  | inr other ↦ other.0.1.1 (joins_once moves d other.0.0 e other.0.1.0 joined)
]

-- and have one
one_cause_of_moves : (d e : Diagram) (moves : List Move) (cause cause' : Why) → IsCauseOfMoves d e moves cause → IsCauseOfMoves d e moves cause'
    → cause ≡ cause'
one_cause_of_moves d e moves cause cause' is is' = elim (cause_of_moves d e moves cause is) [
  | inl stops ↦ elim (cause_of_moves d e moves cause' is') [
    | inl stops' ↦
        let same = stops_once moves d stops.0 stops'.0 stops.1.0 stops'.1.0 stops.1.1.0 stops'.1.1.0 in
        stops.1.1.1 ∙ ap₂ (λ (p : ℕ) (f : MoveFault). why.Step p f) same.0 same.1 ∙ sym stops'.1.1.1
    | inr other' ↦ absurd (not_both moves d other'.0.0 stops.0 stops.1.0 stops.1.1.0 other'.0.1.0)
  ]
  | inr other ↦ elim (cause_of_moves d e moves cause' is') [
    | inl stops' ↦ absurd (not_both moves d other.0.0 stops'.0 stops'.1.0 stops'.1.1.0 other.0.1.0)
    | inr other' ↦ other.1 ∙ sym other'.1
  ]
]

same_by : (d e : Diagram) (a b : Bool) → bytes_eq d.x e.x ≡ a → bytes_eq d.o e.o ≡ b → (d ≡ e) ⊎ (d ≢ e)
same_by d e true true x o =
    inl (ap₂ (λ (p q : List ℕ). record { x = p; o = q }) ((bytes_eq-Decides d.x e.x).0 x) ((bytes_eq-Decides d.o e.o).0 o))
same_by d e true false x o = inr (λ same. let yes = (bytes_eq-Decides d.o e.o).1 (ap (λ (f : Diagram). f.o) same) in absurd cc)
same_by d e false b x o = inr (λ same. let yes = (bytes_eq-Decides d.x e.x).1 (ap (λ (f : Diagram). f.x) same) in absurd cc)

some_ruling_on_moves : (d e : Diagram) (moves : List Move) → IsGrid d → (ruling : Ruling) × RulesOnVerdict d e (Equal moves) ruling
some_ruling_on_moves d e moves grid =
    elim (joins_or_stops moves d grid) [
      | inl joined ↦ elim (same_by joined.0 e (bytes_eq joined.0.x e.x) (bytes_eq joined.0.o e.o) refl refl) [
        | inl same ↦ (Accepted, subst (λ f. Joins d moves f) same joined.1)
        | inr other ↦ (Rejected why.OtherEnd, (joined.0, (joined.1, other)))
      ]
      | inr stop ↦ (Rejected (why.Step stop.0 stop.1.0), stop.1.1)
    ]

-- ---- lists of colourings

-- lists that have a cause do not tell apart
not_told : (t : Table) (d e : Diagram) (one two : List (List ℕ)) (cause : Why) → cause_of_lists t d e one two ≡ Some cause → TellsApart t d e one two → ⊥
not_told t d e one two cause is told =
    let no : ◌≡◌ {A = Option Why} None (Some cause) = sym (no_cause_where_told_apart t d e one two told) ∙ is in
    cc

-- lists of which no cause was found by the same quandle
pub accepted_lists : (d e : Diagram) (listed : NamedQuandle) (one two : List (ArrayVec ℕ)) (t : Table) (o : Option Why) → t ≡ listed.table
    → o ≡ cause_of_lists t d e (lists_of one) (lists_of two) → o ≡ None → RulesOnVerdict d e (Different listed one two) Accepted
accepted_lists d e listed one two t o same found none =
    tells_apart listed.table d e (lists_of one) (lists_of two) (sym (ap (λ (z : Table). cause_of_lists z d e (lists_of one) (lists_of two)) same) ∙ sym found ∙ none)

some_ruling_on_lists : (d e : Diagram) (listed : NamedQuandle) (one two : List (ArrayVec ℕ))
    → (ruling : Ruling) × RulesOnVerdict d e (Different listed one two) ruling
some_ruling_on_lists d e listed one two = by (cause_of_lists listed.table d e (lists_of one) (lists_of two)) refl
  where
    by : (o : Option Why) → cause_of_lists listed.table d e (lists_of one) (lists_of two) ≡ o
        → (ruling : Ruling) × RulesOnVerdict d e (Different listed one two) ruling
    by None none = (Accepted, tells_apart listed.table d e (lists_of one) (lists_of two) none)
    by (Some cause) is = (Rejected cause, is)

-- ---- verdicts

-- evidence that holds has no cause
pub not_held : (d e : Diagram) (verdict : Verdict) (cause : Why) → IsVerdictCause d e verdict cause → VerdictHolds d e verdict → ⊥
not_held d e (Equal moves) cause is holds = not_joined d e moves cause is holds
not_held d e (Different listed one two) cause is holds = not_told listed.table d e (lists_of one) (lists_of two) cause is holds
not_held d e (UnknownBudget budget) cause is holds = holds
not_held d e (UnknownExhausted cap admitted) cause is holds = holds

-- and evidence that does not has one first cause
one_cause : (d e : Diagram) (verdict : Verdict) (cause cause' : Why) → IsVerdictCause d e verdict cause → IsVerdictCause d e verdict cause' → cause ≡ cause'
one_cause d e (Equal moves) cause cause' is is' = one_cause_of_moves d e moves cause cause' is is'
one_cause d e (Different listed one two) cause cause' is is' = let same : ◌≡◌ {A = Option Why} (Some cause) (Some cause') = sym is ∙ is' in cc
one_cause d e (UnknownBudget budget) cause cause' is is' = is ∙ sym is'
one_cause d e (UnknownExhausted cap admitted) cause cause' is is' = is ∙ sym is'

pub ruled_once : (d e : Diagram) (verdict : Verdict) (ruling other : Ruling) → RulesOnVerdict d e verdict ruling → RulesOnVerdict d e verdict other
    → ruling ≡ other
ruled_once d e verdict Accepted Accepted one two = refl
ruled_once d e verdict Accepted (Rejected cause) one two = absurd (not_held d e verdict cause two one)
ruled_once d e verdict (Rejected cause) Accepted one two = absurd (not_held d e verdict cause one two)
ruled_once d e verdict (Rejected cause) (Rejected cause') one two = ap (λ (z : Why). Rejected z) (one_cause d e verdict cause cause' one two)

pub some_ruling : (d e : Diagram) (verdict : Verdict) → IsGrid d → (ruling : Ruling) × RulesOnVerdict d e verdict ruling
some_ruling d e (Equal moves) grid = some_ruling_on_moves d e moves grid
some_ruling d e (Different listed one two) grid = some_ruling_on_lists d e listed one two
some_ruling d e (UnknownBudget budget) grid = (Rejected why.NoEvidence, refl)
some_ruling d e (UnknownExhausted cap admitted) grid = (Rejected why.NoEvidence, refl)

pub accepted_where_held : (d e : Diagram) (verdict : Verdict) (ruling : Ruling) → RulesOnVerdict d e verdict ruling
    → (ruling ≡ Accepted) ↔ VerdictHolds d e verdict
accepted_where_held d e verdict ruling rules =
    ((λ accepted. subst (λ (r : Ruling). RulesOnVerdict d e verdict r) accepted rules), (λ holds. ruled_once d e verdict ruling Accepted rules holds))

-- the same of a call that may want memory
pub accepted_if_ruled : {E : Type 0} (result : Result Ruling E) (d e : Diagram) (verdict : Verdict)
    → IfOk result (λ ruling. RulesOnVerdict d e verdict ruling) → IfOk result (λ ruling. (ruling ≡ Accepted) ↔ VerdictHolds d e verdict)
accepted_if_ruled (Ok ruling) d e verdict rules = accepted_where_held d e verdict ruling rules
accepted_if_ruled (Err fault) d e verdict rules = tt
