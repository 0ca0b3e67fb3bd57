-- Evidence for a verdict on two diagrams, and what the verdict claims of them.
use Rattle.std.specs.Prelude.{◌≡◌, ◌≢◌, ℕ, true, List, length}
use Rattle.grid_core.specs.Diagram.{Diagram}
use Rattle.grid_moves.specs.Joining.{Joins, Equivalent}
use Rattle.grid_moves.specs.Tidy.{is_tidy}
use Rattle.quandle_core.specs.Quandle.{Table}
use Rattle.colour_list.specs.Fits.{fits}
use Rattle.colour_list.specs.Listing.{colourings, lists_of}
use Rattle.verdict_core.specs.declared.verdict.Verdict.{Verdict}
use Rattle.verdict_core.specs.declared.verdict.Verdict.TheVariants.{Equal, Different, UnknownBudget, UnknownExhausted}

-- the quandle fits both diagrams, these are their complete lists of colourings, and the lists have different lengths
pub record TellsApart (t : Table) (d e : Diagram) (one two : List (List ℕ)) : Type 0 where
  pub fits_first : fits t d ≡ true
  pub fits_second : fits t e ≡ true
  pub first : one ≡ colourings t d
  pub second : two ≡ colourings t e
  pub differ : length one ≢ length two

-- the evidence holds: the moves join d to e, or the quandle tells d and e apart by these lists; an unknown verdict has none
abbrev pub VerdictHolds : Diagram → Diagram → Verdict → Type 0
VerdictHolds d e (Equal moves) = Joins d moves e
VerdictHolds d e (Different listed one two) = TellsApart listed.table d e (lists_of one) (lists_of two)
VerdictHolds d e (UnknownBudget budget) = ⊥
VerdictHolds d e (UnknownExhausted cap admitted) = ⊥

-- the verdict has evidence
abbrev pub HasEvidence : Verdict → Type 0
HasEvidence (Equal moves) = Unit {0}
HasEvidence (Different listed one two) = Unit {0}
HasEvidence (UnknownBudget budget) = ⊥
HasEvidence (UnknownExhausted cap admitted) = ⊥

-- what a verdict says of the diagrams; an unknown one says nothing
abbrev pub Claims : Diagram → Diagram → Verdict → Type 0
Claims d e (Equal moves) = Equivalent d e
Claims d e (Different listed one two) = ¬ Equivalent d e
Claims d e (UnknownBudget budget) = Unit {0}
Claims d e (UnknownExhausted cap admitted) = Unit {0}

-- the evidence is lists of colourings
abbrev pub HasLists : Verdict → Type 0
HasLists (Different listed one two) = Unit {0}
HasLists _ = ⊥

-- the moves of the verdict, if it has any, are a tidy list
abbrev pub IsTidyVerdict : Verdict → Type 0
IsTidyVerdict (Equal moves) = is_tidy moves ≡ true
IsTidyVerdict (Different listed one two) = Unit {0}
IsTidyVerdict (UnknownBudget budget) = Unit {0}
IsTidyVerdict (UnknownExhausted cap admitted) = Unit {0}
