use Rattle.std.proofs.Common.{◌∙◌, ℕ, List, sym, ap₂, subst}
use Rattle.quandle_core.specs.Quandle.{Table, IsQuandle}
use Rattle.quandle_core.proofs.quandle.Quandle.of.Goals as goal

pub of_table-requires-clause-laws : goal.of_table-requires-clause-laws
of_table-requires-clause-laws c =
    subst IsQuandle
    (sym (ap₂ (λ (n : ℕ) (es : List ℕ). let t : Table = record { order = n; entries = es } in t) c.order-order.ensures.order
    (c.as_slice.ensures.value ∙ c.entries_of.ensures))) c.order-order.ensures.quandle
