-- The index of the entries by their keys; only private clauses and proofs cite this file.
use Rattle.std.specs.Prelude.{◌≡◌, ◌≢◌, ◌++◌, ℕ, List, Some, length, map, slice_get}
use Rattle.std.specs.List.{All, AllPairs}
use Rattle.grid_core.specs.Diagram.{IsOneEach}
use Rattle.grid_keys.specs.declared.key.Packed.{Packed}
use Rattle.search_book.specs.declared.problem.Side.{Side}
use Rattle.search_book.specs.declared.entry.Entry.{Entry}
use Rattle.search_book.specs.declared.key_map.Known.{Known}
use Rattle.search_book.specs.Entries.{StandsAt, id_of}

-- what is known of a key: the id of the entry that has it, and its side
pub record IsKnown (entries : List Entry) (key : Packed) (known : Known) : Type 0 where
  pub id : id_of entries key ≡ Some known.id
  pub entry : Entry
  pub stands : StandsAt entries known.id entry
  pub side : entry.side ≡ known.side

-- what stands beside the keys, the ids that stand alone, and for how many of these there is room
pub record Indexed : Type 0 where
  pub room : ℕ
  pub paired : List (Packed × Known)
  pub spilled : List ℕ

-- the ids that stand beside keys
abbrev pub paired_ids : Indexed → List ℕ
paired_ids index = map (λ (p : Packed × Known). p.1.id) index.paired

-- the ids are the places of the keys, no two of which are one, and of the sides
pub record IsIndexOf (keys : List Packed) (sides : List Side) (index : Indexed) : Type 0 where
  pub differ : AllPairs (λ (p q : Packed). p ≢ q) keys
  -- each id stands in exactly one of the two lists, and once
  pub once : IsOneEach (length keys) (paired_ids index ++ index.spilled)
  -- what stands beside an id is its key
  pub own_keys : All (λ (p : Packed × Known). slice_get keys p.1.id ≡ Some p.0) index.paired
  -- and its side
  pub own_sides : All (λ (p : Packed × Known). slice_get sides p.1.id ≡ Some p.1.side) index.paired

-- an entry of this side has the key
pub record IsPassedOver (entries : List Entry) (side : Side) (key : Packed) : Type 0 where
  pub known : Known
  pub is : IsKnown entries key known
  pub of_side : known.side ≡ side
