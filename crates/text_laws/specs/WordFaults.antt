-- The faults of a number of strands and a list of letters, case by case.
use Rattle.std.specs.Prelude.{◌<◌, ◌+◌, ◌*◌, ◌⊎◌, ℕ, pos, length, slice_index_or}
use Rattle.grid_core.specs.declared.grid.TheConstants.{MAX_SIZE}
use Rattle.braid_core.specs.Braid.{Word, IsLetter}
use Rattle.braid_core.specs.declared.braid.TheConstants.{MAX_STRANDS}
use Rattle.braid_core.specs.declared.fault.BraidFault.{BraidFault}
use Rattle.braid_core.specs.declared.fault.BraidFault.TheVariants.{Strands, Letter, Size, OutOfMemory}

-- the law fails for this case
abbrev pub IsWordFault : Word → BraidFault → Type 0
IsWordFault b Strands = (b.strands < 1) ⊎ (MAX_STRANDS < b.strands)
IsWordFault b (Letter place) = (place < length b.letters) × (IsLetter b.strands (slice_index_or b.letters place (pos 0)) → ⊥)
IsWordFault b Size = MAX_SIZE < length b.letters + 2 * b.strands
IsWordFault b OutOfMemory = ⊥

abbrev pub word_rank : BraidFault → ℕ
word_rank Strands = 0
word_rank (Letter place) = 1
word_rank Size = 2
word_rank OutOfMemory = 3

-- the place of a bad letter
abbrev pub word_number : BraidFault → ℕ
word_number Strands = 0
word_number (Letter place) = place
word_number Size = 0
word_number OutOfMemory = 0
