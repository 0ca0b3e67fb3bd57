use Rattle.std.proofs.Common.{◌∙◌, ℕ, arith, sym, refl, ap, ap₂, get_or, length}
use Rattle.grid_moves.specs.Shift.{shifted}
use Rattle.grid_keys.proofs.Translated.{translated_rows_at}
use Rattle.grid_canon.proofs.canonical_form.second_row.Goals as goal

pub returns : goal.returns
returns c =
    let n = length c.args.x.now in
    c.lowered_wide.ensures
    ∙ ap₂ (λ (z w : ℕ). shifted n z w) c.from-2.ensures c.from.ensures
    ∙ ap (λ (z : ℕ). shifted n (get_or c.args.x.now c.args.column 0) (get_or c.args.x.now z 0)) c.requires.next
    ∙ sym (translated_rows_at c.args.x.now n c.args.column (get_or c.args.x.now c.args.column 0) 1 refl (omega arith) (omega arith))
