-- The bytes that part the numbers of a code, as other programs print it.
use Rattle.std.specs.Prelude.{ℕ, ◌==◌, ◌||◌, Bool, List, map, if◌then◌else◌}

-- [ ] ( ) { } , ;
abbrev pub is_parting : ℕ → Bool
is_parting b = (b == 91) || ((b == 93) || ((b == 40) || ((b == 41) || ((b == 123) || ((b == 125) || ((b == 44) || (b == 59)))))))

-- each of them counts as a space
abbrev pub blank_for : ℕ → ℕ
blank_for b = if is_parting b then 32 else b

-- the bytes, with a space for each that parts numbers
abbrev pub blanked : List ℕ → List ℕ
blanked bytes = map blank_for bytes
