-- A problem that comes in parts.
use Rattle.std.specs.Prelude.{◌≡◌, ◌<◌, ◌≤◌, ◌+◌, ◌⊎◌, ℕ, List, [], ◌∷◌, ◌++◌, Some, length, slice_get, sum_by, take, fold}
use Rattle.text_lines.specs.Lines.{NumberedLine, line_count, text_from}
use Rattle.verdict_laws.specs.VerdictDecision.{put_behind}

-- the parts one behind the other, each from the beginning of a line on
abbrev pub joined : List (List ℕ) → List ℕ
joined parts = fold put_behind [] parts

-- ---- their lines

-- how many lines the first parts have
abbrev pub lines_before : ℕ → List (List ℕ) → ℕ
lines_before count parts = sum_by line_count (take count parts)

-- this line of all parts together is that line of this part, counted from 0: of the last one, where it stands behind all lines
pub record StandsIn (parts : List (List ℕ)) (line part there : ℕ) : Type 0 where
  pub text : List ℕ
  pub has : slice_get parts part ≡ Some text
  pub behind : line ≡ lines_before part parts + there
  pub begun : 0 < line → 0 < there
  pub within : (there ≤ line_count text) ⊎ (part + 1 ≡ length parts)

-- the lines of each part that aren't passed over, with their numbers, where so many lines stand before the first part
abbrev pub lines_in_turn : ℕ → List (List ℕ) → List NumberedLine
lines_in_turn before [] = []
lines_in_turn before (part ∷ parts) = (text_from before part).lines ++ lines_in_turn (before + line_count part) parts
