-- The first place at which two lists differ.
use Rattle.std.specs.Prelude.{ℕ, ◌+◌, Bool, List, [], ◌∷◌, Option, Some, None, if◌then◌else◌}
use Rattle.std.specs.Option.{option_map}

-- the first place, counted from 0, at which two lists differ by a test, or at which one of them has ended
abbrev pub first_unequal : {A : Type 0} → (A → A → Bool) → List A → List A → Option ℕ
first_unequal same [] [] = None
first_unequal same [] (b ∷ two) = Some 0
first_unequal same (a ∷ one) [] = Some 0
first_unequal same (a ∷ one) (b ∷ two) = if same a b then option_map (λ place. place + 1) (first_unequal same one two) else Some 0
