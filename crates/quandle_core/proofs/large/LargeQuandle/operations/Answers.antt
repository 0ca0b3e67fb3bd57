use Rattle.std.proofs.Common.{◌∙◌, ℕ, List, sym, ap, subst}
use Rattle.quandle_core.specs.Quandle.{IsQuandle, back}
use Rattle.quandle_core.specs.Tables.{table_of}
use Rattle.quandle_core.specs.Columns.{cell_at}
use Rattle.quandle_core.proofs.LargeColumns.{column_cell, inside_columns}
use Rattle.quandle_core.proofs.large.LargeQuandle.operations.Goals as goal

pub of_columns-requires-clause-laws : goal.of_columns-requires-clause-laws
of_columns-requires-clause-laws c =
    let n = c.self.inside.order in
    subst (λ (xs : List ℕ). IsQuandle (table_of n (cell_at n xs))) (sym c.as_slice.ensures.value) c.self.invariant.0

pub of_columns-requires-clause-forward : goal.of_columns-requires-clause-forward
of_columns-requires-clause-forward c =
    let n = c.self.inside.order in
    inside_columns n (cell_at n c.self.inside.forward.items) c.as_slice.result.now (c.as_slice.ensures.value ∙ c.self.invariant.2)

pub of_columns-requires-clause-backward : goal.of_columns-requires-clause-backward
of_columns-requires-clause-backward c =
    let n = c.self.inside.order in
    inside_columns n (back (table_of n (cell_at n c.self.inside.forward.items))) c.as_slice-2.result.now (c.as_slice-2.ensures.value ∙ c.self.invariant.3)

pub of_columns-requires-clause-backs : goal.of_columns-requires-clause-backs
of_columns-requires-clause-backs c =
    let n = c.self.inside.order in
    let t = table_of n (cell_at n c.self.inside.forward.items) in λ x y at by_y.
    ap (λ (xs : List ℕ). cell_at n xs x y) (c.as_slice-2.ensures.value ∙ c.self.invariant.3)
    ∙ column_cell n (back t) x y at by_y
    ∙ ap (λ (xs : List ℕ). back (table_of n (cell_at n xs)) x y) (sym c.as_slice.ensures.value)

pub returns : goal.returns
returns c =
    let n = c.self.inside.order in
    c.of_columns.ensures ∙ ap (λ (xs : List ℕ). table_of n (cell_at n xs)) c.as_slice.ensures.value ∙ c.self.view_is
