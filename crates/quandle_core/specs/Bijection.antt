-- Lists of colours that correspond one to one.
use Rattle.std.specs.Prelude.{◌≡◌, ℕ, List}

-- f takes each list of the first kind to one of the second, and each of the second comes from exactly one of the first
pub record IsBijection (First Second : List ℕ → Type 0) (f : List ℕ → List ℕ) : Type 0 where
  pub into : (xs : List ℕ) → First xs → Second (f xs)
  pub onto : (ys : List ℕ) → Second ys → (xs : List ℕ) × First xs × (f xs ≡ ys)
  pub one : (xs ys : List ℕ) → First xs → First ys → f xs ≡ f ys → xs ≡ ys
