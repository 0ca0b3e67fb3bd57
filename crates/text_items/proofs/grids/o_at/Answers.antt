use Rattle.std.proofs.Common.{◌≡◌, ◌≤◌, List, ℕ, length, false, true, nat_lt, None, Some, Ok, Err, ap, ap₂, sym, subst, ◌∙◌}
use Rattle.std.specs.List.{list_all}
use Rattle.grid_core.specs.declared.grid.TheConstants.{MAX_SIZE}
use Rattle.grid_core.specs.Diagram.{Diagram}
use Rattle.grid_core.specs.Fault.{first_grid_fault}
use Rattle.text_items.specs.declared.fault.TextFault.TheVariants.{Malformed}
use Rattle.text_items.proofs.GridLines.{o_outside, o_bad, o_good}
use Rattle.text_items.proofs.grids.o_at.Goals as goal

pub returns-then-not-all_below : goal.returns-then-not-all_below
returns-then-not-all_below c =
    let rows = c.in_ok-rows.rows in
    let x = c.args.x.now.items in
    let fits : length x ≤ MAX_SIZE = subst (λ (n : ℕ). n ≤ MAX_SIZE) c.len.ensures.value c.len.ensures.fits in
    let test : list_all (λ v. nat_lt v (length x)) rows.items ≡ false =
    sym (c.all_below.ensures ∙ ap₂ (λ (vs : List ℕ) (n : ℕ). list_all (λ v. nat_lt v n) vs) c.as_slice.ensures.value c.len.ensures.value)
    ∙ c.if-not-all_below.true in
    o_outside rows x c.args.line.now fits c.in_ok-rows.ensures test ∙ ap (λ n. Err (Malformed n)) (sym c.number-at.ensures)

pub returns-in-Ok : goal.returns-in-Ok
returns-in-Ok c =
    let rows = c.in_ok-rows.rows in
    let x = c.args.x.now.items in
    let fits : length x ≤ MAX_SIZE = subst (λ (n : ℕ). n ≤ MAX_SIZE) c.len.ensures.value c.len.ensures.fits in
    let test : list_all (λ v. nat_lt v (length x)) rows.items ≡ true =
    sym (c.all_below.ensures ∙ ap₂ (λ (vs : List ℕ) (n : ℕ). list_all (λ v. nat_lt v n) vs) c.as_slice.ensures.value c.len.ensures.value)
    ∙ c.if-not-all_below.false in
    let none : first_grid_fault x rows.items ≡ None =
    ap₂ first_grid_fault (sym c.as_slice-2.ensures.value) (sym c.as_slice-3.ensures.value) ∙ sym c.in-Ok.ensures.fault in
    let grid : c.in-Ok.grid ≡ record { x = x; o = rows.items } =
    c.in-Ok.ensures.grid ∙ ap₂ (λ (xs os : List ℕ). record { x = xs; o = os }) c.as_slice-2.ensures.value c.as_slice-3.ensures.value in
    o_good rows x c.args.line.now fits c.in_ok-rows.ensures test none ∙ ap (λ (d : Diagram). Ok d) (sym grid)

pub returns-in-Err : goal.returns-in-Err
returns-in-Err c =
    let rows = c.in_ok-rows.rows in
    let x = c.args.x.now.items in
    let fits : length x ≤ MAX_SIZE = subst (λ (n : ℕ). n ≤ MAX_SIZE) c.len.ensures.value c.len.ensures.fits in
    let test : list_all (λ v. nat_lt v (length x)) rows.items ≡ true =
    sym (c.all_below.ensures ∙ ap₂ (λ (vs : List ℕ) (n : ℕ). list_all (λ v. nat_lt v n) vs) c.as_slice.ensures.value c.len.ensures.value)
    ∙ c.if-not-all_below.false in
    let some : first_grid_fault x rows.items ≡ Some c.in-Err.field-0 =
    ap₂ first_grid_fault (sym c.as_slice-2.ensures.value) (sym c.as_slice-3.ensures.value) ∙ sym c.in-Err.ensures.fault in
    o_bad rows x c.args.line.now c.in-Err.field-0 fits c.in_ok-rows.ensures test some ∙ ap (λ n. Err (Malformed n)) (sym c.number-at.ensures)
