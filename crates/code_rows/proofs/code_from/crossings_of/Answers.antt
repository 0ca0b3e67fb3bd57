use Rattle.std.proofs.Common.{◌∙◌, ◌∷◌, ◌++◌, [], ℕ, List, take, ap, sym, arith, add-one}
use Rattle.crossing_codes.specs.declared.crossing.Crossing.{Crossing}
use Rattle.code_rows.specs.CodeMap.{no_crossing}
use Rattle.code_rows.specs.Rows.{row_of_crossing}
use Rattle.code_rows.specs.RowSigns.{with_signs}
use Rattle.code_rows.proofs.Signed.{signed_more}
use Rattle.code_rows.proofs.code_from.crossings_of.Goals as goal

pub loop-k-preserved : goal.loop-k-preserved
loop-k-preserved c =
    let rows = c.args.rows.now in
    let signs = c.args.signs.now in
    let k = c.loop-k.k in
    c.in_ok-push.ensures.items
    ∙ (ap (λ (xs : List Crossing). xs ++ c.with_sign.result ∷ []) c.loop-k.invariant
    ∙ (ap (λ (x : Crossing). with_signs (take k rows) signs ++ x ∷ []) c.with_sign.ensures
    ∙ sym (ap (λ (n : ℕ). with_signs (take n rows) signs) (add-one k) ∙ signed_more rows signs k (row_of_crossing no_crossing) (omega arith))))
