-- The first fault of a table of numbers, with its lexicographically first case.
use Rattle.std.specs.Prelude.{ℕ, ◌*◌, ◌%◌, ◌==◌, Bool, length, nat_lt, nat_le, Option}
use Rattle.quandle_core.specs.Fault.{unless, or_else, first}
use Rattle.cocycle_core.specs.ShadowCocycle.{ShadowCochain, shadow_value, one_side, other_side}
use Rattle.cocycle_core.specs.declared.shadow_fault.ShadowFault.{ShadowFault}
use Rattle.cocycle_core.specs.declared.shadow_fault.ShadowFault.TheVariants.{Modulus, Length, Range, Diagonal, Law}

abbrev pub shadow_modulus_fault : ShadowCochain → Option ShadowFault
shadow_modulus_fault t = unless (nat_le 2 t.modulus) Modulus

abbrev pub shadow_length_fault : ShadowCochain → Option ShadowFault
shadow_length_fault t = unless (length t.entries == t.quandle.order * t.quandle.order * t.quandle.order) Length

-- θ(w, x, y) lies below the modulus
abbrev pub shadow_range_case : ShadowCochain → ℕ → ℕ → ℕ → Option ShadowFault
shadow_range_case t w x y = unless (nat_lt (shadow_value t w x y) t.modulus) (Range w x y)

-- θ(w, x, x) = 0
abbrev pub shadow_diagonal_case : ShadowCochain → ℕ → ℕ → Option ShadowFault
shadow_diagonal_case t w x = unless (shadow_value t w x x == 0) (Diagonal w x)

-- the law of a shadow cocycle, mod the modulus
abbrev pub shadow_obeys : ShadowCochain → ℕ → ℕ → ℕ → ℕ → Bool
shadow_obeys t a b c d = one_side t a b c d % t.modulus == other_side t a b c d % t.modulus

abbrev pub shadow_law_case : ShadowCochain → ℕ → ℕ → ℕ → ℕ → Option ShadowFault
shadow_law_case t a b c d = unless (shadow_obeys t a b c d) (Law a b c d)

-- the first w, then x, then y
abbrev pub shadow_range_fault : ShadowCochain → Option ShadowFault
shadow_range_fault t = first t.quandle.order (λ w. first t.quandle.order (λ x. first t.quandle.order (λ y. shadow_range_case t w x y)))

abbrev pub shadow_diagonal_fault : ShadowCochain → Option ShadowFault
shadow_diagonal_fault t = first t.quandle.order (λ w. first t.quandle.order (λ x. shadow_diagonal_case t w x))

-- the first a, then b, then c, then d
abbrev pub shadow_law_fault : ShadowCochain → Option ShadowFault
shadow_law_fault t =
    first t.quandle.order (λ a. first t.quandle.order (λ b. first t.quandle.order (λ c. first t.quandle.order (λ d. shadow_law_case t a b c d))))

-- modulus, length, range, diagonal, law, in this order
abbrev pub first_shadow_fault : ShadowCochain → Option ShadowFault
first_shadow_fault t =
    or_else (shadow_modulus_fault t) (or_else (shadow_length_fault t) (or_else (shadow_range_fault t) (or_else (shadow_diagonal_fault t) (shadow_law_fault t))))
