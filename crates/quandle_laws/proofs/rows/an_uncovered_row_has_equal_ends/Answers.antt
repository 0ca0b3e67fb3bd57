use Rattle.std.proofs.Common.{◌≡◌, ◌∙◌, ◌+◌, ◌-◌, ℕ, List, [], fold, get_or, sym, ap, arith}
use Rattle.grid_core.specs.Parts.{covers}
use Rattle.colour_rows.specs.Walk.{under, passed}
use Rattle.colour_rows.proofs.Ranges.{filter_none}
use Rattle.grid_core.proofs.Ends.{left, right, highest}
use Rattle.quandle_laws.proofs.rows.an_uncovered_row_has_equal_ends.Goals as goal

pub returns-clause-equal : goal.returns-clause-equal
returns-clause-equal c = λ t d f r colouring lt none.
    let empty : passed d r ≡ [] = filter_none (λ k. covers d k r) (left d r + 1) (right d r - left d r - 1) (λ k from to. none k (omega arith) (omega arith)) in
    ap (λ (ks : List ℕ). fold (under t d f) (get_or f (left d r) 0) ks) (sym empty) ∙ colouring.rows r lt

pub returns-clause-highest : goal.returns-clause-highest
returns-clause-highest c = highest
