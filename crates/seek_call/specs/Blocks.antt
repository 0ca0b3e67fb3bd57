-- The blocks by which diagrams are to be told apart, by the files that the words name for them.
use Rattle.std.specs.Prelude.{◌≡◌, ◌++◌, ℕ, List, ◌∷◌, Result, Ok, IfSome, flat_map}
use Rattle.std.specs.Borrow.{Bor}
use Rattle.std.specs.List.{AllZip}
use Rattle.text_items.specs.declared.fault.TextFault.{TextFault}
use Rattle.text_items.specs.Reading.{Fails}
use Rattle.evidence_core.specs.declared.blocks.Block.{Block}
use Rattle.number_text.specs.Blocks.{blocks_of}
use Rattle.seek_parts.specs.Parts.{Told}
use Rattle.seek_parts.specs.Fault.{IsUnread}
use Rattle.seek_call.specs.declared.failure.Failure.{Failure}
use Rattle.seek_call.specs.declared.failure.Failure.TheVariants.{Part, Blocks, ReadAndWritten, Write, OutOfMemory}

-- the blocks are those of the file at the path: of the bytes that are told of it
pub record AreBlocksIn (told : Told) (path : Bor (List ℕ)) (blocks : List Block) : Type 0 where
  pub text : List ℕ
  pub is : IfSome (told path.now) (λ bytes. text ≡ bytes)
  pub read : blocks_of text ≡ Ok blocks

-- those of all files, in the order of the files
pub record AreBlocksOf (told : Told) (paths : List (Bor (List ℕ))) (blocks : List Block) : Type 0 where
  pub lists : List (List Block)
  pub each : AllZip (AreBlocksIn told) paths lists
  pub all : blocks ≡ flat_map (λ list. list) lists

-- those of a file were put behind others
pub record AddsBlocksOf (told : Told) (path : Bor (List ℕ)) (old new : List Block) : Type 0 where
  pub list : List Block
  pub is : AreBlocksIn told path list
  pub behind : new ≡ old ++ list

-- the text of blocks can't be read, for this reason
abbrev pub IsBlocksFault : {Y : Type 0} → Result Y TextFault → Failure → Type 0
IsBlocksFault read (Part fault) = ⊥
IsBlocksFault read (Blocks name fault) = Fails fault read
IsBlocksFault read (ReadAndWritten name) = ⊥
IsBlocksFault read (Write name error) = ⊥
IsBlocksFault read OutOfMemory = ⊥

-- a file of blocks can't be had: it is not read, or this is its first bad line, or memory was wanting for it
abbrev pub HasNoBlocks : Told → Bor (List ℕ) → Failure → Type 0
HasNoBlocks told path (Part fault) = IsUnread (told path.now) fault
HasNoBlocks told path (Blocks name fault) = IfSome (told path.now) (λ bytes. Fails fault (blocks_of bytes))
HasNoBlocks told path (ReadAndWritten name) = ⊥
HasNoBlocks told path (Write name error) = ⊥
HasNoBlocks told path OutOfMemory = ⊥

-- the first of the files of blocks that can't be had: those before it can
pub record IsBlocksFailure (told : Told) (paths : List (Bor (List ℕ))) (failure : Failure) : Type 0 where
  pub front : List (Bor (List ℕ))
  pub path : Bor (List ℕ)
  pub back : List (Bor (List ℕ))
  pub split : paths ≡ front ++ path ∷ back
  pub blocks : List Block
  pub had : AreBlocksOf told front blocks
  pub is : HasNoBlocks told path failure
