-- All diagrams that moves reach from two diagrams within a cap, by their canonical forms.
use Rattle.std.specs.Prelude.{◌≡◌, ◌≢◌, ◌+◌, ◌↔◌, ◌⊎◌, ℕ, List, length}
use Rattle.std.specs.List.{All, AllPairs, Contains}
use Rattle.grid_core.specs.Diagram.{Diagram}
use Rattle.grid_moves.specs.Joining.{WithinCap}
use Rattle.grid_keys.specs.CanonicalForm.{IsCanonical}

-- f is canonical, and moves join a or b to it within the cap
pub record IsReached (a b : Diagram) (cap : ℕ) (f : Diagram) : Type 0 where
  pub canonical : IsCanonical f
  pub joined : WithinCap a f cap ⊎ WithinCap b f cap

-- the list has exactly the diagrams of this kind, each once
pub record AreMembers (P : Diagram → Type 0) (members : List Diagram) : Type 0 where
  pub different : AllPairs (λ d e. d ≢ e) members
  pub exactly : (d : Diagram) → P d ↔ Contains members d

-- there are exactly k diagrams of this kind
abbrev pub HasMembers : (Diagram → Type 0) → ℕ → Type 0
HasMembers P k = (members : List Diagram) × (length members ≡ k) × AreMembers P members

-- there are more than k: k + 1 different ones can be named
abbrev pub HasMoreMembers : (Diagram → Type 0) → ℕ → Type 0
HasMoreMembers P k = (members : List Diagram) × (length members ≡ k + 1) × AllPairs (λ d e. d ≢ e) members × All P members
