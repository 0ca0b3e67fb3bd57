-- What two codes have in common whose edges may be renamed, and names as they are found; private clauses and proofs alone cite it.
use Rattle.std.specs.Prelude.{◌≡◌, ◌<◌, ℕ, true, List, length, slice_index}
use Rattle.crossing_codes.specs.declared.crossing.Code.{Code}
use Rattle.crossing_codes.specs.CodeColouring.{is_edge}
use Rattle.code_grids.specs.Renaming.{AreInverse, NameEdges, new_name}

-- as many crossings, edges and loops, a place for each crossing, and edges of the codes alone
pub record Correspond (one two : Code) (crossings : List ℕ) : Type 0 where
  pub as_many_crossings : length two.crossings ≡ length one.crossings
  pub as_many_edges : two.edges ≡ one.edges
  pub as_many_loops : two.loops ≡ one.loops
  pub long : length crossings ≡ length one.crossings
  pub named : NameEdges one.edges one.crossings
  pub named_too : NameEdges one.edges two.crossings

-- where the names before were those wanted, so are the ones after
abbrev pub KeepsNames : ℕ → List ℕ → List ℕ → List ℕ → Type 0
KeepsNames n before after wanted =
    (e : ℕ) → is_edge n e ≡ true → new_name before e ≡ new_name wanted e → new_name after e ≡ new_name wanted e

-- the numbers of the list are below n
abbrev pub AreBelow : List ℕ → ℕ → Type 0
AreBelow list n = (k : ℕ) → k < length list → slice_index list k < n

-- the names are as they were asked for, where any one-to-one names of n edges are
abbrev pub MeetIfAny : ℕ → (List ℕ → Type 0) → List ℕ → Type 0
MeetIfAny n Asked names = (wanted back : List ℕ) → AreInverse n wanted back → Asked wanted → Asked names

-- an edge keeps a name that it has in any one-to-one names that are as they were asked for
abbrev pub KeepRight : ℕ → (List ℕ → Type 0) → List ℕ → List ℕ → Type 0
KeepRight n Asked before after = (wanted back : List ℕ) → AreInverse n wanted back → Asked wanted → KeepsNames n before after wanted
