use Rattle.std.proofs.Common.{◌∙◌, Some, None, refl, sym, ap, arith}
use Rattle.code_rows.specs.CodeMap.{is_plane}
use Rattle.code_rows.proofs.Faults.{edge_fault, behind_all}
use Rattle.code_rows.proofs.code_fault.first_fault.Goals as goal

pub returns-in-Some-lowest_unjoined : goal.returns-in-Some-lowest_unjoined
returns-in-Some-lowest_unjoined c =
    let xs = c.as_slice-crossings.result.now in
    let full = sym c.is_empty.ensures ∙ c.if-is_empty.false in
    behind_all c.args.code.now xs full c.as_slice-crossings.ensures (omega arith) (omega arith)
    c.lowest_unnamed.result c.lowest_unnamed.ensures c.in_default.is
    (Some c.in-Some-lowest_unjoined.before) (sym c.in-Some-lowest_unjoined.is ∙ c.lowest_unjoined.ensures.lowest) (is_plane xs) refl

pub returns-then-not-plane : goal.returns-then-not-plane
returns-then-not-plane c =
    let xs = c.as_slice-crossings.result.now in
    let full = sym c.is_empty.ensures ∙ c.if-is_empty.false in
    let plane = c.in_ok-plane.plane in
    ap (edge_fault None) (sym c.if-not-plane.true)
    ∙ behind_all c.args.code.now xs full c.as_slice-crossings.ensures (omega arith) (omega arith)
    c.lowest_unnamed.result c.lowest_unnamed.ensures c.in_default.is
    None (sym c.in_default-lowest_unjoined.is ∙ c.lowest_unjoined.ensures.lowest) plane c.in_ok-plane.ensures

pub returns : goal.returns
returns c =
    let xs = c.as_slice-crossings.result.now in
    let full = sym c.is_empty.ensures ∙ c.if-is_empty.false in
    let plane = c.in_ok-plane.plane in
    ap (edge_fault None) (sym c.if-not-plane.false)
    ∙ behind_all c.args.code.now xs full c.as_slice-crossings.ensures (omega arith) (omega arith)
    c.lowest_unnamed.result c.lowest_unnamed.ensures c.in_default.is
    None (sym c.in_default-lowest_unjoined.is ∙ c.lowest_unjoined.ensures.lowest) plane c.in_ok-plane.ensures
