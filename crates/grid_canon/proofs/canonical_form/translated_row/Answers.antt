use Rattle.std.proofs.Common.{◌≡◌, ◌∙◌, ℕ, inl, inr, arith, sym, refl, ap, length, get_or}
use Rattle.grid_moves.specs.Shift.{shifted}
use Rattle.grid_keys.proofs.Translated.{origin, origin_cases, translated_rows_at}
use Rattle.grid_canon.proofs.canonical_form.translated_row.Goals.{then-place-size, else-place-size}
use Rattle.grid_canon.proofs.canonical_form.translated_row.Goals as goal

pub returns : goal.returns
returns c =
    let n = length c.args.rows.now in
    let cases = origin_cases n c.args.columns c.args.c (omega arith) (omega arith) in
    let place : c.if-place-size.place ≡ origin n c.args.columns c.args.c = elim c.if-place-size.branch [
      | then-place-size w ↦ elim cases [ inl low ↦ omega (arith, w.place-is, low.1) | inr high ↦ absurd (omega (arith, high.0, w.if-place-size.true)) ]
      | else-place-size w ↦ elim cases [ inl low ↦ absurd (omega (arith, low.0, w.if-place-size.false)) | inr high ↦ omega (arith, w.place-is, high.1) ]
    ] in
    c.lowered_wide.ensures
    ∙ ap (λ (z : ℕ). shifted n c.args.by z) c.from.ensures
    ∙ ap (λ (z : ℕ). shifted n c.args.by (get_or c.args.rows.now z 0)) place
    ∙ sym (translated_rows_at c.args.rows.now n c.args.columns c.args.by c.args.c refl (omega arith) (omega arith))
