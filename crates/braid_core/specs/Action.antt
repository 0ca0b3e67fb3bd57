-- The action of braids on tuples of colours, one for each strand (Artin 1947; for quandles Joyce 1982).
use Rattle.std.specs.Prelude.{◌+◌, ◌-◌, ℕ, ℤ, pos, negsuc, List, slice_index, slice_set, fold}
use Rattle.quandle_core.specs.Quandle.{Table, over, back}
use Rattle.quandle_core.specs.Colours.{AreColours}

-- a colour below the order for each of m strands
abbrev pub IsTuple : Table → ℕ → List ℕ → Type 0
IsTuple t m xs = AreColours m t.order xs

-- the colour of the strand at position k, counted from 1
abbrev pub colour_at : List ℕ → ℕ → ℕ
colour_at xs k = slice_index xs (k - 1)

-- the tuple with colours y and z at positions k and k+1
abbrev pub with_pair : List ℕ → ℕ → ℕ → ℕ → List ℕ
with_pair xs k y z = slice_set (slice_set xs (k - 1) y) k z

-- strand k+1 passes left under strand k: (x_k, x_{k+1}) becomes (x_{k+1} ▷ x_k, x_k)
abbrev pub positive : Table → ℕ → List ℕ → List ℕ
positive t k xs = with_pair xs k (over t (colour_at xs (k + 1)) (colour_at xs k)) (colour_at xs k)

-- strand k passes right under strand k+1: (x_k, x_{k+1}) becomes (x_{k+1}, x_k ◁ x_{k+1})
abbrev pub negative : Table → ℕ → List ℕ → List ℕ
negative t k xs = with_pair xs k (colour_at xs (k + 1)) (back t (colour_at xs k) (colour_at xs (k + 1)))

-- letter +k is the positive crossing, letter -k the negative one, of the strands at positions k and k+1
abbrev pub letter_action : Table → List ℕ → ℤ → List ℕ
letter_action t xs (pos k) = positive t k xs
letter_action t xs (negsuc n) = negative t (n + 1) xs

-- a braid acts by its letters from first to last
abbrev pub action : Table → List ℤ → List ℕ → List ℕ
action t letters xs = fold (letter_action t) xs letters
