-- A list of offers in the making; only private clauses and proofs cite this file.
use Rattle.std.specs.Prelude.{◌≡◌, ◌<◌, ◌≤◌, ◌+◌, ◌++◌, ℕ, List, Option, IfSome, length}
use Rattle.grid_core.specs.Diagram.{Diagram, size}
use Rattle.grid_canon.specs.declared.digits.TheConstants.{MAX_SHORT_SIZE}
use Rattle.next_moves.specs.declared.links.Offer.{Offer}
use Rattle.next_moves.specs.Tries.{Try}
use Rattle.next_moves.specs.Offers.{AreOffersOf}

-- what contracts see of a list of offers in the making: the offers
pub record Listed : Type 0 where
  pub items : List Offer

-- the new list is the old one, followed by the offers of these tries
pub record Extends (d : Diagram) (cap : ℕ) (list : List Try) (old new : List Offer) : Type 0 where
  pub more : List Offer
  pub is : new ≡ old ++ more
  pub offers : AreOffersOf d cap list more

-- what contracts see of a grid that is tried: the diagram and the cap
pub record Tried : Type 0 where
  pub diagram : Diagram
  pub cap : ℕ

-- the new list is the old one, followed by the offers of these tries on a grid within its cap. These offers are at most so many
pub record ExtendsBy (most : ℕ) (tried : Tried) (list : List Try) (old new : Listed) : Type 0 where
  pub offered : Extends tried.diagram tried.cap list old.items new.items
  pub fits : length new.items ≤ length old.items + most

-- d again as a short grid that has room for one more column, where there is one
abbrev pub IsShortOf : Diagram → Option Diagram → Type 0
IsShortOf d again = IfSome again (λ s. (s ≡ d) × (size d < MAX_SHORT_SIZE))

-- what the tries on d within the cap share
pub record IsPrepared (d : Diagram) (cap : ℕ) (again : Option Diagram) : Type 0 where
  pub within : size d ≤ cap
  pub short : IsShortOf d again
