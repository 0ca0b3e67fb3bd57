-- A line cut into tokens.
use Rattle.std.specs.Prelude.{ℕ, ◌==◌, ◌||◌, Bool, true, List, [], ◌∷◌, if◌then◌else◌}

-- a space or a tab
abbrev pub is_blank : ℕ → Bool
is_blank b = (b == 32) || (b == 9)

-- a byte in front of the first of some pieces, which it makes where there is none
abbrev pub onto : ℕ → List (List ℕ) → List (List ℕ)
onto b [] = (b ∷ []) ∷ []
onto b (piece ∷ pieces) = (b ∷ piece) ∷ pieces

-- no token goes on with these bytes
abbrev pub is_token_end : List ℕ → Bool
is_token_end [] = true
is_token_end (b ∷ bs) = is_blank b

-- the tokens: runs of bytes without a blank
abbrev pub tokens_of : List ℕ → List (List ℕ)
tokens_of [] = []
tokens_of (b ∷ bs) =
    if is_blank b then tokens_of bs
    else if is_token_end bs then (b ∷ []) ∷ tokens_of bs
    else onto b (tokens_of bs)
