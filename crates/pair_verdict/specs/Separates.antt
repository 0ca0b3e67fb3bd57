-- Quandles that tell two diagrams apart by their numbers of colourings.
use Rattle.std.specs.Prelude.{◌≡◌, ◌==◌, ◌&&◌, not, ℕ, Bool, List, Option, Some, None, length}
use Rattle.std.specs.List.{find}
use Rattle.arrayvec.specs.ArrayVec.{ArrayVec}
use Rattle.grid_core.specs.Diagram.{Diagram}
use Rattle.quandle_core.specs.Quandle.{Table}
use Rattle.colour_list.specs.Fits.{fits}
use Rattle.colour_list.specs.Listing.{colourings, lists_of}
use Rattle.quandle_core.specs.Names.{NamedQuandle}
use Rattle.verdict_core.specs.declared.verdict.Verdict.{Verdict}
use Rattle.verdict_core.specs.declared.verdict.Verdict.TheVariants.{Different}

-- the quandle fits both diagrams, and they have different numbers of colourings
abbrev pub separates : Diagram → Diagram → Table → Bool
separates d e t = fits t d && fits t e && not (length (colourings t d) == length (colourings t e))

-- of the listed quandles the first that separates the diagrams
abbrev pub first_separating : Diagram → Diagram → List NamedQuandle → Option NamedQuandle
first_separating d e quandles = find (λ (q : NamedQuandle). separates d e q.table) quandles

-- the verdict `different`, with the quandle and both complete lists of colourings
pub record IsDifferentBy (d e : Diagram) (q : NamedQuandle) (v : Verdict) : Type 0 where
  pub one : List (ArrayVec ℕ)
  pub two : List (ArrayVec ℕ)
  pub verdict : v ≡ Different q one two
  pub of_first : lists_of one ≡ colourings q.table d
  pub of_second : lists_of two ≡ colourings q.table e

-- that verdict by a quandle, or none
abbrev pub IsSeparation : Diagram → Diagram → Option NamedQuandle → Option Verdict → Type 0
IsSeparation d e None None = Unit {0}
IsSeparation d e None (Some v) = ⊥
IsSeparation d e (Some q) None = ⊥
IsSeparation d e (Some q) (Some v) = IsDifferentBy d e q v
