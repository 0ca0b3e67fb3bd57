use Rattle.std.proofs.Common.{◌*◌, ◌∙◌, ℕ, List, refl, ap, ap₂, subst, map, length, arith}
use Rattle.crossing_codes.specs.declared.crossing.Code.{Code}
use Rattle.code_rows.specs.declared.row.CodeRow.{CodeRow}
use Rattle.code_rows.specs.Rows.{numbered_row, row_of_crossing, IsCodeOf}
use Rattle.code_rows.specs.RowSigns.{with_signs, AreBest}
use Rattle.code_rows.proofs.InRange.{names_long}
use Rattle.code_rows.proofs.Signed.{rows_back}
use Rattle.code_rows.proofs.Best.{best_code}
use Rattle.code_rows.proofs.code_from.directed.Goals as goal

pub numbered_rows-requires : goal.numbered_rows-requires
numbered_rows-requires c = let long = ap length c.requires.names ∙ names_long c.args.rows.now in omega (arith, long, c.requires.few)

pub returns-clause-code : goal.returns-clause-code
returns-clause-code c =
    let rows = c.args.rows.now in
    let numbers = c.in_ok-numbered.ensures ∙ ap (λ (ns : List ℕ). map (numbered_row ns) rows) c.requires.names in
    let is = c.from_vec.ensures ∙ c.in_ok-crossings.ensures in
    record {
      rows = ap (map row_of_crossing) is ∙ (rows_back c.as_slice-2.result.now c.as_slice-3.result.now ∙ (c.as_slice-2.ensures.value ∙ numbers));
      edges = refl;
      loops = refl;
    }

pub returns-clause-best : goal.returns-clause-best
returns-clause-best c =
    let rows = c.args.rows.now in
    let code : Code = record { crossings = c.from_vec.result; edges = 2 * length rows; loops = c.args.loops } in
    let signs = c.in_ok-signs.signs.items in
    let numbers = c.in_ok-numbered.ensures ∙ ap (λ (ns : List ℕ). map (numbered_row ns) rows) c.requires.names in
    let is = c.from_vec.ensures ∙ c.in_ok-crossings.ensures in
    let of : IsCodeOf rows c.args.loops code = record {
      rows = ap (map row_of_crossing) is ∙ (rows_back c.as_slice-2.result.now c.as_slice-3.result.now ∙ (c.as_slice-2.ensures.value ∙ numbers));
      edges = refl;
      loops = refl;
    } in
    let best = subst (λ (rs : List CodeRow). AreBest rs signs) (c.as_slice.ensures.value ∙ numbers) c.in_ok-signs.ensures in
    best_code rows c.args.loops code signs of best (is ∙ ap₂ with_signs (c.as_slice-2.ensures.value ∙ numbers) c.as_slice-3.ensures.value)
