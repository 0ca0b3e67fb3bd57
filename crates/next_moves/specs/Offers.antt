-- The ordered list of offers: one way to each neighbour of a diagram within a cap, or several.
use Rattle.std.specs.Prelude.{◌≡◌, ◌<◌, ◌≤◌, ◌*◌, ◌&&◌, ℕ, List, Bool, map, filter, nat_le, length}
use Rattle.std.specs.List.{All}
use Rattle.std.specs.Option.{is_none}
use Rattle.grid_core.specs.declared.grid.TheConstants.{MAX_SIZE}
use Rattle.grid_core.specs.Diagram.{Diagram, IsGrid, size}
use Rattle.grid_moves.specs.SizeAfter.{size_after}
use Rattle.grid_moves.specs.Step.{Step}
use Rattle.grid_moves.specs.MoveFault.{first_move_fault}
use Rattle.grid_keys.specs.declared.key.Packed.{Packed}
use Rattle.grid_keys.specs.Translation.{translate}
use Rattle.grid_keys.specs.CanonicalForm.{IsCanonical, IsLeastForm}
use Rattle.grid_keys.specs.Key.{key_of}
use Rattle.next_moves.specs.declared.links.Link.{Link}
use Rattle.next_moves.specs.declared.links.Offer.{Offer}
use Rattle.grid_moves.specs.Kinds.{is_exchange}
use Rattle.next_moves.specs.Tries.{Try, tries}

-- the move is legal on its translate of d
abbrev pub is_legal : Diagram → Try → Bool
is_legal d try = is_none (first_move_fault (translate d try.before.0 try.before.1) try.step)

-- it is, and its result is not larger than the cap
abbrev pub is_offered : Diagram → ℕ → Try → Bool
is_offered d cap try = is_legal d try && nat_le (size_after try.step (size d)) cap

-- the link leads from d to the canonical form f: d shifted by `before`, moved by `step` and shifted by `after`, the least shifts to f
pub record Leads (d : Diagram) (link : Link) (f : Diagram) : Type 0 where
  pub columns : link.before.0 < size d
  pub rows : link.before.1 < size d
  pub moved : Diagram
  pub step : Step (translate d link.before.0 link.before.1) link.step moved
  pub form : IsLeastForm moved (record { grid = f; columns = link.after.0; rows = link.after.1 })

-- the offer's link leads from d to the grid of its key
pub record IsOfferOf (d : Diagram) (offer : Offer) : Type 0 where
  pub form : Diagram
  pub key : key_of form ≡ offer.key
  pub leads : Leads d offer.link form

abbrev pub try_of : Offer → Try
try_of offer = record { before = offer.link.before; step = offer.link.step }

-- the exchanges among offers, in order
abbrev pub exchanges_among : List Offer → List Offer
exchanges_among offers = filter (λ (offer : Offer). is_exchange offer.link.step) offers

-- of a list of tries, those that are legal within the cap, in order, each with what it leads to
pub record AreOffersOf (d : Diagram) (cap : ℕ) (list : List Try) (offers : List Offer) : Type 0 where
  pub order : map try_of offers ≡ filter (is_offered d cap) list
  pub leads : All (IsOfferOf d) offers

-- the whole list of offers of d within the cap
abbrev pub IsOfferList : Diagram → ℕ → List Offer → Type 0
IsOfferList d cap offers = AreOffersOf d cap (tries (size d)) offers

-- what contracts see of a value of the type `Offers`: the key of a canonical diagram, the cap, and its whole list of offers
pub record Neighbourhood : Type 0 where
  pub origin : Packed
  pub cap : ℕ
  pub offers : List Offer

-- the list is whole: that of the canonical grid which the key names, within a cap from its size to `MAX_SIZE`
pub record IsWholeNeighbourhood (n : Neighbourhood) : Type 0 where
  pub diagram : Diagram
  pub grid : IsGrid diagram
  pub canonical : IsCanonical diagram
  pub origin : key_of diagram ≡ n.origin
  pub least : size diagram ≤ n.cap
  pub most : n.cap ≤ MAX_SIZE
  pub whole : IsOfferList diagram n.cap n.offers
  pub count : length n.offers ≤ 12 * size diagram
