-- A braid as a text: `braid`, the number of strands, and the letters from the lowest crossing to the highest, in one line; and, for private
-- clauses, what is kept of the letters.
use Rattle.std.specs.Prelude.{ℕ, ◌+◌, ◌*◌, ℤ, pos, neg_ℤ, unsigned_abs, ◌==◌, ◌||◌, Bool, List, [], ◌∷◌, codes, Option, None, Result}
use Rattle.std.specs.Prelude.{Ok, Err, is_none, length, nat_lt, if◌then◌else◌}
use Rattle.std.specs.Option.{option_map}
use Rattle.std.specs.List.{list_any}
use Rattle.grid_core.specs.declared.grid.TheConstants.{MAX_SIZE}
use Rattle.braid_core.specs.declared.braid.TheConstants.{MAX_STRANDS}
use Rattle.braid_core.specs.Braid.{Word}
use Rattle.braid_core.specs.Fault.{first_word_fault}
use Rattle.braid_core.specs.declared.fault.BraidFault.{BraidFault}
use Rattle.braid_core.specs.declared.fault.BraidFault.TheVariants as fault
use Rattle.text_lines.specs.Lines.{NumberedLine, Text}
use Rattle.text_lines.specs.NumberTokens.{number_of}
use Rattle.text_items.specs.declared.fault.TextFault.{TextFault}
use Rattle.text_items.specs.declared.fault.TextFault.TheVariants.{Malformed, Limit, OutOfMemory}
use Rattle.text_items.specs.declared.braids.KeptLetters.{KeptLetters}
use Rattle.text_items.specs.Reading.{◌>>=◌, next_line, word, number, each_token}
use Rattle.text_items.specs.NumberLists.{is_long}
use Rattle.text_items.specs.Numbers.{TellsOf}

-- a number, or a `-` directly followed by a number
abbrev pub letter_of : List ℕ → Option ℤ
letter_of [] = None
letter_of (b ∷ bs) =
    if b == 45 then option_map (λ k. neg_ℤ (pos k)) (number_of bs)
    else option_map (λ k. pos k) (number_of (b ∷ bs))

-- all tokens that are left of a line, as letters of any size
abbrev pub letters : NumberedLine → Result (List ℤ) TextFault
letters line = each_token letter_of line.number line.tokens

-- more digits than a number may have
abbrev pub is_long_letter : ℤ → Bool
is_long_letter a = is_long (unsigned_abs a)

-- the columns of the closure of a braid: one for each letter, and two for each strand
abbrev pub closed_columns : Word → ℕ
closed_columns b = length b.letters + 2 * b.strands

-- too many strands, a letter of too many digits, or a closure that is larger than a grid
abbrev pub exceeds : Word → Bool
exceeds b = nat_lt MAX_STRANDS b.strands || (list_any is_long_letter b.letters || nat_lt MAX_SIZE (closed_columns b))

-- the word of line n, which exceeds no limit and is a braid: a strand at least, and each letter from 1 to m-1 or its negative
abbrev pub braid_of : ℕ → Word → Result Word TextFault
braid_of n b = if exceeds b then Err (Limit n) else if is_none (first_word_fault b) then Ok b else Err (Malformed n)

-- the one line of a braid: form, limits, content
unfoldable pub braid_at : NumberedLine → Result Word TextFault
braid_at line = do
  rest ← word (codes "braid") line
  strands ← number rest
  list ← letters strands.1
  braid_of line.number (record { strands = strands.0; letters = list })

-- the line that is due, as that of a braid
unfoldable pub braid_item : Text → Result (Word × Text) TextFault
braid_item text = do
  line ← next_line text
  braid ← braid_at line.0
  Ok (braid, line.1)

-- ---- what is kept of the letters of a line

-- the letter, or 127 where its absolute value is larger
abbrev pub low_letter : ℤ → ℤ
low_letter a = if nat_lt (unsigned_abs a) 127 then a else pos 127

-- what is kept of letters
abbrev pub TellsLetters : KeptLetters → List ℤ → Type 0
TellsLetters kept letters = TellsOf low_letter is_long_letter kept.first.items kept.more kept.long letters

-- what was kept exceeds a limit, with so many strands
abbrev pub kept_exceeds : ℕ → KeptLetters → Bool
kept_exceeds strands kept = nat_lt MAX_STRANDS strands || (kept.long || (kept.more || nat_lt MAX_SIZE (length kept.first.items + 2 * strands)))

-- the fault of line n, whose word is no braid, or whose letters found no memory
abbrev pub refused : ℕ → BraidFault → TextFault
refused n fault.OutOfMemory = OutOfMemory
refused n fault.Strands = Malformed n
refused n (fault.Letter place) = Malformed n
refused n fault.Size = Malformed n
