-- The first line and the first token by std's searches, for private clauses alone.
use Rattle.std.specs.Prelude.{ℕ, ◌==◌, Bool, List, [], ◌∷◌, drop, if◌then◌else◌}
use Rattle.std.specs.List.{before_first, after_first, position_or_len}
use Rattle.text_lines.specs.Tokens.{is_blank}

abbrev pub is_feed : ℕ → Bool
is_feed b = b == 10

-- the bytes before the first line feed, or all
abbrev pub first_line : List ℕ → List ℕ
first_line bytes = before_first is_feed bytes

-- the bytes behind the first line feed, or none
abbrev pub behind_line : List ℕ → List ℕ
behind_line bytes = after_first is_feed bytes

-- the bytes from the first one that is not blank
abbrev pub after_blanks : List ℕ → List ℕ
after_blanks [] = []
after_blanks (b ∷ bs) = if is_blank b then after_blanks bs else b ∷ bs

-- the bytes before the first blank, or all
abbrev pub first_token : List ℕ → List ℕ
first_token bytes = before_first is_blank bytes

-- the bytes from the first blank, or none
abbrev pub behind_token : List ℕ → List ℕ
behind_token bytes = drop (position_or_len is_blank bytes) bytes
