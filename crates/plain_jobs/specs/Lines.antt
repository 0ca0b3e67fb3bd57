-- Lists of numbers as lines of tokens.
use Rattle.std.specs.Prelude.{ℕ, List, [], ◌∷◌, codes, length, map}
use Rattle.std.specs.Fmt.{decimal}

-- `list` with how many lists there are, and a line of numbers for each
abbrev pub listing_lines : List (List ℕ) → List (List (List ℕ))
listing_lines lists = (codes "list" ∷ decimal (length lists) ∷ []) ∷ map (λ (numbers : List ℕ). map decimal numbers) lists

-- the number of bottoms or strands, in place of a list
abbrev pub wide_lines : ℕ → List (List (List ℕ))
wide_lines count = (codes "wide" ∷ decimal count ∷ []) ∷ []
