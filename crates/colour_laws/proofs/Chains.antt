-- The fact on chains.
use Rattle.std.proofs.Common.{◌≡◌, ◌∙◌, ℕ, List, [], ◌∷◌, ap}
use Rattle.std.specs.Prelude.{Bool}
use Rattle.colour_laws.proofs.ColumnLists.{Acts, follow}
use Rattle.colour_laws.proofs.Actions.{carried}

pub slide : (p : Bool → ℕ → ℕ → ℕ) → Acts p → (d : Bool) (links : List (Bool × ℕ)) (a b : ℕ) → follow p links a ≡ b
    → (v : ℕ) → follow p links (p d a v) ≡ p d b (follow p links v)
slide p acts d [] a b e v = ap (λ c. p d c v) e
slide p acts d (link ∷ links) a b e v =
    ap (λ w. follow p links w) (carried p acts link.0 d link.1 a v) ∙ slide p acts d links (p link.0 link.1 a) b e (p link.0 link.1 v)
