use Rattle.std.proofs.Common.{List, sym, subst}
use Rattle.crossing_codes.specs.declared.crossing.Crossing.{Crossing}
use Rattle.code_text.specs.GaussSigns.{AreSigned}
use Rattle.code_text.proofs.text_grid.with_signs.Goals as goal

pub returns-clause-crossings : goal.returns-clause-crossings
returns-clause-crossings c =
    let passages = c.args.passages.now in
    let given = c.args.code.now.crossings in
    let signed = subst (λ (xs : List Crossing). AreSigned passages xs c.in_ok-crossings.crossings.items) c.as_slice.ensures c.in_ok-crossings.ensures in
    subst (λ (ys : List Crossing). AreSigned passages given ys) (sym c.from_vec.ensures) signed
