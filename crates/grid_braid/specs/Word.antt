-- The braid word of a grid diagram, row by row from the lowest (braid words: Artin 1947).
-- Row r moves the strand that arrives at its O to its X, under all strands strictly between.
use Rattle.std.specs.Prelude.{ℕ, ◌+◌, ◌-◌, ℤ, pos, negsuc, List, map, length, if◌then◌else◌}
use Rattle.std.specs.List.{range_with_len, flat_map, All}
use Rattle.grid_core.specs.Diagram.{Diagram, size}
use Rattle.grid_core.specs.Parts.{is_rightward}
use Rattle.braid_core.specs.Braid.{Word, IsLetter}
use Rattle.grid_braid.specs.Strands.{down_columns, strands_ahead, strands_between}

-- a strand with this many others to its left moves left under the nearest so many of them: from position k+1 to k by the letter +k, beginning at k = ahead
abbrev pub leftward : ℕ → ℕ → List ℤ
leftward ahead count = map (λ i. pos (ahead - i)) (range_with_len 0 count)

-- a strand with this many others to its left moves right under the next so many: from position k to k+1 by the letter -k, beginning at k = ahead + 1
abbrev pub rightward : ℕ → ℕ → List ℤ
rightward ahead count = map (λ i. negsuc (ahead + i)) (range_with_len 0 count)

-- the letters of row r: a row runs from its O to its X, and so does the strand that it moves
abbrev pub row_letters : Diagram → ℕ → List ℤ
row_letters d r =
    if is_rightward d r then rightward (length (strands_ahead d r)) (length (strands_between d r))
    else leftward (length (strands_ahead d r)) (length (strands_between d r))

-- the letters of the rows below height h, from the lowest row on
abbrev pub letters_below : Diagram → ℕ → List ℤ
letters_below d h = flat_map (row_letters d) (range_with_len 0 h)

-- the word of the diagram: as many strands as there are down columns, and the letters of all rows
abbrev pub word_of_diagram : Diagram → Word
word_of_diagram d = record { strands = length (down_columns d); letters = letters_below d (size d) }

-- a word of any number of strands and of letters: no letter is 0, and the absolute value of each is below the number of strands
abbrev pub IsWord : Word → Type 0
IsWord w = All (IsLetter w.strands) w.letters
