-- Tokens written as lines, with one space between them.
use Rattle.std.specs.Prelude.{ℕ, ◌+◌, ◌==◌, ◌&&◌, Bool, false, not, List, [], ◌∷◌, ◌++◌, codes}
use Rattle.std.specs.List.{flat_map, list_all}
use Rattle.text_lines.specs.Tokens.{is_blank}
use Rattle.text_lines.specs.Lines.{NumberedLine}

-- a space and a token
abbrev pub spaced : List ℕ → List ℕ
spaced token = codes " " ++ token

abbrev pub line_bytes : List (List ℕ) → List ℕ
line_bytes [] = []
line_bytes (token ∷ tokens) = token ++ flat_map spaced tokens

-- the line of these tokens, with its line feed
abbrev pub line_text : List (List ℕ) → List ℕ
line_text tokens = line_bytes tokens ++ codes "\n"

-- the line of each
abbrev pub lines_text : List (List (List ℕ)) → List ℕ
lines_text lines = flat_map line_text lines

-- no blank, no line feed and no carriage return
abbrev pub is_plain : ℕ → Bool
is_plain b = not (is_blank b) && (not (b == 10) && not (b == 13))

-- plain bytes, and at least one
abbrev pub is_word : List ℕ → Bool
is_word [] = false
is_word (b ∷ bs) = is_plain b && list_all is_plain bs

-- words, and at least one, the first of which does not begin with a #
abbrev pub is_line : List (List ℕ) → Bool
is_line [] = false
is_line ([] ∷ tokens) = false
is_line ((b ∷ bs) ∷ tokens) = not (b == 35) && (is_word (b ∷ bs) && list_all is_word tokens)

-- lines of these tokens that stand behind n lines
abbrev pub numbered : ℕ → List (List (List ℕ)) → List NumberedLine
numbered n [] = []
numbered n (tokens ∷ lines) = record { number = n + 1; tokens = tokens } ∷ numbered (n + 1) lines
