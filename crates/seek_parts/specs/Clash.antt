-- Whether a file that is read is the one that is written.
use Rattle.std.specs.Prelude.{◌≡◌, ◌≢◌, ◌⊎◌, ℕ, List, Option, Some, IfSome, Contains}
use Rattle.std.specs.Borrow.{Bor}
use Rattle.std.specs.List.{All}
use Rattle.seek_words.specs.declared.asked.Asked.{Asked}
use Rattle.seek_words.specs.declared.given.Given.{Given}
use Rattle.seek_words.specs.declared.given.Given.TheVariants.{File, Braid, Code}
use Rattle.seek_words.specs.declared.given.Diagrams.{Diagrams}
use Rattle.seek_words.specs.declared.given.Diagrams.TheVariants.{Problem, Pair}

-- a file, by its device and its number there
abbrev pub FileId : Type 0
FileId = ℕ × ℕ

-- the file that stands at each path, or that none does, where it is told
abbrev pub FilesAt : Type 0
FilesAt = List ℕ → Option (Option FileId)

-- this file stands at the path, as far as it is told
abbrev pub IsFileAt : FilesAt → FileId → List ℕ → Type 0
IsFileAt at file path = IfSome (at path) (λ found. found ≡ Some file)

-- another one does, or none
abbrev pub IsElsewhere : FilesAt → FileId → List ℕ → Type 0
IsElsewhere at file path = IfSome (at path) (λ found. found ≢ Some file)

-- it is read as a diagram
abbrev pub IsGivenAs : FilesAt → FileId → Given → Type 0
IsGivenAs at file (File path) = IsFileAt at file path.now
IsGivenAs at file (Braid word) = ⊥
IsGivenAs at file (Code path) = IsFileAt at file path.now

abbrev pub IsNotGivenAs : FilesAt → FileId → Given → Type 0
IsNotGivenAs at file (File path) = IsElsewhere at file path.now
IsNotGivenAs at file (Braid word) = Unit {0}
IsNotGivenAs at file (Code path) = IsElsewhere at file path.now

abbrev pub IsAmongDiagrams : FilesAt → FileId → Diagrams → Type 0
IsAmongDiagrams at file (Problem one) = IsGivenAs at file one
IsAmongDiagrams at file (Pair first second) = IsGivenAs at file first ⊎ IsGivenAs at file second

abbrev pub IsNoDiagram : FilesAt → FileId → Diagrams → Type 0
IsNoDiagram at file (Problem one) = IsNotGivenAs at file one
IsNoDiagram at file (Pair first second) = IsNotGivenAs at file first × IsNotGivenAs at file second

-- it stands at one of the paths
abbrev pub IsAmongPaths : FilesAt → FileId → List (Bor (List ℕ)) → Type 0
IsAmongPaths at file paths = (path : Bor (List ℕ)) × (Contains paths path × IsFileAt at file path.now)

-- it stands at none of them
abbrev pub IsAtNone : FilesAt → FileId → List (Bor (List ℕ)) → Type 0
IsAtNone at file paths = All (λ path. IsElsewhere at file path.now) paths

-- it is read: as a diagram, for quandles, or for blocks
abbrev pub IsReadFile : FilesAt → FileId → Asked → Type 0
IsReadFile at file asked =
    IsAmongDiagrams at file asked.diagrams ⊎ (IsAmongPaths at file asked.quandles.items ⊎ IsAmongPaths at file asked.weights.items)

abbrev pub IsUnreadFile : FilesAt → FileId → Asked → Type 0
IsUnreadFile at file asked =
    IsNoDiagram at file asked.diagrams × (IsAtNone at file asked.quandles.items × IsAtNone at file asked.weights.items)

-- the file that would be written is read too
pub record Clashes (at : FilesAt) (asked : Asked) : Type 0 where
  pub out : Bor (List ℕ)
  pub is : asked.out ≡ Some out
  pub file : FileId
  pub stands : IsFileAt at file out.now
  pub read : IsReadFile at file asked

-- no file that would be written is read
abbrev pub IsOutUnread : FilesAt → Asked → Type 0
IsOutUnread at asked = (out : Bor (List ℕ)) (file : FileId) → asked.out ≡ Some out → at out.now ≡ Some (Some file) → IsUnreadFile at file asked
