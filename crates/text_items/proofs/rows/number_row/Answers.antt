use Rattle.std.proofs.Common.{◌≡◌, ◌==◌, ◌&&◌, ◌∙◌, ℕ, List, true, false, length, map, Err, sym, ap, arith, nat_lt}
use Rattle.std.specs.List.{list_all, list_any}
use Rattle.text_items.specs.declared.fault.TextFault.TheVariants.{Malformed}
use Rattle.text_items.specs.NumberLists.{is_long}
use Rattle.text_items.specs.Numbers.{low}
use Rattle.text_items.proofs.Cuts.{width_bad, row_bad, row_good}
use Rattle.text_items.proofs.rows.number_row.Goals as goal

pub returns-then-not-has_width : goal.returns-then-not-has_width
returns-then-not-has_width c =
    let values = c.in_ok-list.list.items in
    let long : list_any is_long values ≡ false =
    ap (λ (vs : List ℕ). list_any is_long vs) (sym c.as_slice.ensures.value) ∙ sym c.any_long.ensures ∙ c.if-any_long.false in
    let other : (length values == c.args.width) ≡ false =
    ap (λ (vs : List ℕ). length vs == c.args.width) (sym c.as_slice-2.ensures.value) ∙ sym c.has_width.ensures ∙ c.if-not-has_width.true in
    width_bad c.args.width c.args.bound c.args.line.now values c.in_ok-list.ensures long other ∙ ap (λ n. Err (Malformed n)) (sym c.number-at.ensures)

pub returns-then-not-is_row : goal.returns-then-not-is_row
returns-then-not-is_row c =
    let values = c.in_ok-list.list.items in
    let long : list_any is_long values ≡ false =
    ap (λ (vs : List ℕ). list_any is_long vs) (sym c.as_slice.ensures.value) ∙ sym c.any_long.ensures ∙ c.if-any_long.false in
    let row = c.in_ok-row.row.items in
    let content : ((length row == c.args.width) && list_all (λ v. nat_lt v c.args.bound) row) ≡ false =
    ap (λ (vs : List ℕ). (length vs == c.args.width) && list_all (λ v. nat_lt v c.args.bound) vs) (sym c.as_slice-4.ensures.value)
    ∙ sym c.is_row.ensures ∙ c.if-not-is_row.true in
    row_bad c.args.width c.args.bound c.args.line.now values row (omega arith) c.in_ok-list.ensures long
    (c.in_ok-row.ensures ∙ ap (λ (vs : List ℕ). map low vs) c.as_slice-3.ensures.value) content
    ∙ ap (λ n. Err (Malformed n)) (sym c.number-at.ensures)

pub returns : goal.returns
returns c =
    let values = c.in_ok-list.list.items in
    let long : list_any is_long values ≡ false =
    ap (λ (vs : List ℕ). list_any is_long vs) (sym c.as_slice.ensures.value) ∙ sym c.any_long.ensures ∙ c.if-any_long.false in
    let row = c.in_ok-row.row.items in
    let content : ((length row == c.args.width) && list_all (λ v. nat_lt v c.args.bound) row) ≡ true =
    ap (λ (vs : List ℕ). (length vs == c.args.width) && list_all (λ v. nat_lt v c.args.bound) vs) (sym c.as_slice-4.ensures.value)
    ∙ sym c.is_row.ensures ∙ c.if-not-is_row.false in
    row_good c.args.width c.args.bound c.args.line.now values row (omega arith) c.in_ok-list.ensures long
    (c.in_ok-row.ensures ∙ ap (λ (vs : List ℕ). map low vs) c.as_slice-3.ensures.value) content
