use Rattle.std.proofs.Common.{◌∙◌, sym, ap}
use Rattle.quandle_core.specs.Quandle.{over, back}
use Rattle.quandle_laws.proofs.quandles.back_is_the_inverse.Goals as goal

pub returns : goal.returns
returns c = λ t q x y z at by_y also.
    (λ e. ap (λ w. over t w y) (sym e) ∙ q.over_back x y at by_y, λ e. ap (λ w. back t w y) (sym e) ∙ q.back_over z y also by_y)
