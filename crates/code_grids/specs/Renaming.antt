-- Codes that differ in the names of their crossings and edges alone.
use Rattle.std.specs.Prelude.{◌≡◌, ◌<◌, ℕ, ◌+◌, ◌-◌, true, List, length, slice_index, slice_index_or}
use Rattle.std.specs.List.{All}
use Rattle.crossing_codes.specs.declared.crossing.Code.{Code}
use Rattle.crossing_codes.specs.declared.crossing.Crossing.{Crossing}
use Rattle.crossing_codes.specs.CodeColouring.{names_edges}
use Rattle.code_grids.specs.declared.renaming.Renaming.{Renaming}

-- the number at each place of the one list is a place of the other, where the number of the first place stands
abbrev pub IsUndone : List ℕ → List ℕ → Type 0
IsUndone there back = (k : ℕ) → k < length there → (slice_index there k < length back) × (slice_index back (slice_index there k) ≡ k)

-- the crossings name no edges but those from 1 to n
abbrev pub NameEdges : ℕ → List Crossing → Type 0
NameEdges n xs = All (λ x. names_edges n x ≡ true) xs

-- two lists of the numbers below n that undo each other, so that each of them has each of these numbers once
pub record AreInverse (n : ℕ) (there back : List ℕ) : Type 0 where
  pub long : length there ≡ n
  pub as_long : length back ≡ n
  pub undone : IsUndone there back
  pub redone : IsUndone back there

-- the new name of an edge; edges are named by the numbers from 1, and the list has for each of them its new name's place
abbrev pub new_name : List ℕ → ℕ → ℕ
new_name names edge = slice_index names (edge - 1) + 1

-- the crossing with new names of its edges: their order around it and its sign stay
abbrev pub renamed : List ℕ → Crossing → Crossing
renamed names x =
    record {
      first = new_name names x.first;
      second = new_name names x.second;
      third = new_name names x.third;
      fourth = new_name names x.fourth;
      positive = x.positive;
    }

-- crossing k of the first code, with its edges renamed, is the crossing of the second that the list names
abbrev pub IsSameAt : List ℕ → List ℕ → List Crossing → List Crossing → ℕ → Type 0
IsSameAt names crossings ones twos k =
    (d : Crossing) → renamed names (slice_index_or ones k d) ≡ slice_index_or twos (slice_index crossings k) d

-- each crossing of the first code, with its edges renamed, is the crossing of the second that the list names
abbrev pub IsSame : List ℕ → List ℕ → List Crossing → List Crossing → Type 0
IsSame names crossings ones twos = (k : ℕ) → k < length ones → IsSameAt names crossings ones twos k

-- the first code becomes the second where its crossings and edges get these names
pub record IsRenaming (one two : Code) (r : Renaming) : Type 0 where
  pub crossings : AreInverse (length one.crossings) r.crossings r.crossings_back
  pub edges : AreInverse one.edges r.edges r.edges_back
  pub as_many_crossings : length two.crossings ≡ length one.crossings
  pub as_many_edges : two.edges ≡ one.edges
  pub as_many_loops : two.loops ≡ one.loops
  pub named : NameEdges one.edges one.crossings
  pub same : IsSame r.edges r.crossings one.crossings two.crossings

-- the first code becomes the second under these names, and each crossing gets the place that the list has for it
abbrev pub IsRenamingBy : Code → Code → List ℕ → Renaming → Type 0
IsRenamingBy one two crossings r = IsRenaming one two r × (r.crossings ≡ crossings)

-- one code is the other under other names
abbrev pub IsRenamed : Code → Code → Type 0
IsRenamed one two = (r : Renaming) × IsRenaming one two r
