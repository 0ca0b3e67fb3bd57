-- A text cut into lines, of which those that say something are kept with their numbers.
use Rattle.std.specs.Prelude.{ℕ, ◌+◌, ◌==◌, Bool, true, false, List, [], ◌∷◌, length, if◌then◌else◌}
use Rattle.std.specs.Str.{bytes_eq}
use Rattle.text_lines.specs.Tokens.{is_blank, onto, tokens_of}

-- the lines, each without its line feed, which the last may lack
abbrev pub lines_of : List ℕ → List (List ℕ)
lines_of [] = []
lines_of (b ∷ bs) = if b == 10 then [] ∷ lines_of bs else onto b (lines_of bs)

abbrev pub line_count : List ℕ → ℕ
line_count bytes = length (lines_of bytes)

-- no bytes, or bytes that end with a line feed
abbrev pub are_whole_lines : List ℕ → Bool
are_whole_lines [] = true
are_whole_lines (b ∷ []) = b == 10
are_whole_lines (b ∷ c ∷ bs) = are_whole_lines (c ∷ bs)

-- a line without the one carriage return that may stand at its end
abbrev pub trimmed : List ℕ → List ℕ
trimmed [] = []
trimmed (b ∷ []) = if b == 13 then [] else b ∷ []
trimmed (b ∷ c ∷ bs) = b ∷ trimmed (c ∷ bs)

-- the line has nothing but blanks, or its first byte that is not blank is a #
abbrev pub is_skipped : List ℕ → Bool
is_skipped [] = true
is_skipped (b ∷ bs) = if is_blank b then is_skipped bs else b == 35

-- a line that is kept: its number in the text, from 1, and the tokens that are left of it
pub record NumberedLine : Type 0 where
  pub number : ℕ
  pub tokens : List (List ℕ)

-- the lines behind the first n that are not skipped
abbrev pub kept_lines : ℕ → List (List ℕ) → List NumberedLine
kept_lines n [] = []
kept_lines n (line ∷ lines) =
    if is_skipped (trimmed line) then kept_lines (n + 1) lines
    else record { number = n + 1; tokens = tokens_of (trimmed line) } ∷ kept_lines (n + 1) lines

-- what is left of a text: its kept lines, and the number of all lines plus one, where the text ends
pub record Text : Type 0 where
  pub lines : List NumberedLine
  pub ending : ℕ

-- these bytes, which stand behind n lines
abbrev pub text_from : ℕ → List ℕ → Text
text_from n bytes = record { lines = kept_lines n (lines_of bytes); ending = n + line_count bytes + 1 }

abbrev pub text_of : List ℕ → Text
text_of bytes = text_from 0 bytes

-- the first token is this word
abbrev pub starts : List ℕ → List (List ℕ) → Bool
starts word [] = false
starts word (token ∷ tokens) = bytes_eq token word

abbrev pub first_starts : List ℕ → List NumberedLine → Bool
first_starts word [] = false
first_starts word (line ∷ lines) = starts word line.tokens

-- there is a next line, and its first token is this word
abbrev pub begins : List ℕ → Text → Bool
begins word text = first_starts word text.lines
