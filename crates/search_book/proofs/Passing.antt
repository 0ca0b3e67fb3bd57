-- An offer whose key is on the entry's own side changes nothing.
use Rattle.std.proofs.Common.{◌≡◌, ◌∙◌, ap, sym, ℕ, true, Bool, if◌then◌else◌, List, Some, None}
use Rattle.std.specs.Map.{lookup}
use Rattle.grid_keys.specs.declared.key.Packed.{Packed}
use Rattle.grid_keys.specs.Key.{same_key}
use Rattle.next_moves.specs.declared.links.Offer.{Offer}
use Rattle.search_book.specs.declared.problem.Side.{Side}
use Rattle.search_book.specs.declared.entry.Entry.{Entry}
use Rattle.search_book.specs.declared.event.End.TheVariants.{Met}
use Rattle.search_book.specs.declared.event.Meeting.TheVariants.{Offered}
use Rattle.search_book.specs.declared.key_map.Known.{Known}
use Rattle.search_book.specs.Entries.{same_side, keys, sides}
use Rattle.search_book.specs.Index.{Indexed, IsIndexOf, IsPassedOver}
use Rattle.search_book.specs.Settle.{met_or_passed_over, taken_one}
use Rattle.search_book.proofs.Indexes.{known_by_place, place_of_pair, side_of_pair}
use Rattle.search_book.proofs.Lookups.{same_side_of}
use Rattle.search_book.proofs.Taking.{taken_known}

-- a key of this side, by the index of the entries
pub passed_by_pair : (es : List Entry) (index : Indexed) (side : Side) (key : Packed) (known : Known)
    → IsIndexOf (keys es) (sides es) index → lookup (same_key key) index.paired ≡ Some known → known.side ≡ side → IsPassedOver es side key
passed_by_pair es index side key known is found of_side = record {
  known = known;
  is =
      known_by_place es key known is.differ (place_of_pair (keys es) (sides es) index is key known found)
      (side_of_pair (keys es) (sides es) index is key known found);
  of_side = of_side;
}

module _ (budget id : ℕ) (side : Side) where
  passes : (offer : Offer) (other : ℕ) (e : Entry) → same_side e.side side ≡ true → met_or_passed_over id side offer other (Some e) ≡ None
  passes offer other e is = ap (λ (b : Bool). if b then None else Some (Met (Offered id other offer.link))) is

  pub passed_one : (es : List Entry) (offer : Offer) → IsPassedOver es side offer.key → taken_one budget id side es offer ≡ record { entries = es; end = None }
  passed_one es offer passed =
      taken_known budget id side es offer passed.known None passed.is
      (λ e own. sym (passes offer passed.known.id e (same_side_of e.side side (own ∙ passed.of_side))))
