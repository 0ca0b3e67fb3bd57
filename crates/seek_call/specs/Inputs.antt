-- Why what is read for a search can't be had.
use Rattle.std.specs.Prelude.{◌⊎◌, ℕ, List}
use Rattle.seek_words.specs.declared.asked.Asked.{Asked}
use Rattle.seek_parts.specs.Parts.{Told, ArePartsOf, all_due}
use Rattle.seek_parts.specs.Fault.{IsPartFaultOf}
use Rattle.seek_call.specs.declared.failure.Failure.{Failure}
use Rattle.seek_call.specs.declared.failure.Failure.TheVariants.{Part, Blocks, ReadAndWritten, Write, OutOfMemory}
use Rattle.seek_call.specs.Blocks.{IsBlocksFailure}

-- a part of what is asked can't be had
abbrev pub IsPartsFailure : Told → Asked → Failure → Type 0
IsPartsFailure told asked (Part fault) = IsPartFaultOf told (all_due asked) fault
IsPartsFailure told asked (Blocks name fault) = ⊥
IsPartsFailure told asked (ReadAndWritten name) = ⊥
IsPartsFailure told asked (Write name error) = ⊥
IsPartsFailure told asked OutOfMemory = ⊥

-- the parts can be had, and a file of blocks can't
pub record IsFailureBehindParts (told : Told) (asked : Asked) (failure : Failure) : Type 0 where
  pub parts : List (List ℕ)
  pub are : ArePartsOf told (all_due asked) parts
  pub is : IsBlocksFailure told asked.weights.items failure

-- a part or a file of blocks can't be had
abbrev pub IsInputsFailure : Told → Asked → Failure → Type 0
IsInputsFailure told asked failure = IsPartsFailure told asked failure ⊎ IsFailureBehindParts told asked failure
