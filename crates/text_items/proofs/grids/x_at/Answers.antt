use Rattle.std.proofs.Common.{◌≡◌, ◌≤◌, List, ℕ, length, false, true, Err, ap, sym, subst, ◌∙◌}
use Rattle.grid_core.specs.declared.grid.TheConstants.{MAX_SIZE}
use Rattle.text_items.specs.declared.fault.TextFault.TheVariants.{Malformed}
use Rattle.text_items.specs.Grids.{are_rows}
use Rattle.text_items.proofs.GridLines.{x_bad, x_good}
use Rattle.text_items.proofs.grids.x_at.Goals as goal

pub returns-then-not-are_rows : goal.returns-then-not-are_rows
returns-then-not-are_rows c =
    let rows = c.in_ok-rows.rows in
    let fits : length rows.items ≤ MAX_SIZE = subst (λ (rs : List ℕ). length rs ≤ MAX_SIZE) c.as_slice.ensures.value c.as_slice.ensures.fits in
    let test : are_rows rows.items ≡ false = sym (c.are_rows.ensures ∙ ap are_rows c.as_slice.ensures.value) ∙ c.if-not-are_rows.true in
    x_bad rows c.args.line.now fits c.in_ok-rows.ensures test ∙ ap (λ n. Err (Malformed n)) (sym c.number-at.ensures)

pub returns : goal.returns
returns c =
    let rows = c.in_ok-rows.rows in
    let fits : length rows.items ≤ MAX_SIZE = subst (λ (rs : List ℕ). length rs ≤ MAX_SIZE) c.as_slice.ensures.value c.as_slice.ensures.fits in
    let test : are_rows rows.items ≡ true = sym (c.are_rows.ensures ∙ ap are_rows c.as_slice.ensures.value) ∙ c.if-not-are_rows.false in
    x_good rows c.args.line.now fits c.in_ok-rows.ensures test
