-- One correspondence behind another.
use Rattle.std.proofs.Common.{◌∙◌, ℕ, List, ap}
use Rattle.quandle_core.specs.Bijection.{IsBijection}

pub composed : (P Q R : List ℕ → Type 0) (f g : List ℕ → List ℕ) → IsBijection P Q f → IsBijection Q R g → IsBijection P R (λ xs. g (f xs))
composed P Q R f g one two = record {
  into = λ xs h. two.into (f xs) (one.into xs h);
  onto = λ zs h.
      let y = two.onto zs h in
      let x = one.onto y.0 y.1 in
      (x.0, x.1, ap g x.2 ∙ y.2);
  one = λ xs ys hx hy e. one.one xs ys hx hy (two.one (f xs) (f ys) (one.into xs hx) (one.into ys hy) e);
}
