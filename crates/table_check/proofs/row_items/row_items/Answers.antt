use Rattle.std.proofs.Common.{◌<◌, ◌∷◌, []}
use Rattle.std.proofs.lemmas.List.Elements.{All-append, All-cons, All-nil}
use Rattle.std.proofs.lemmas.Result.{err_from_is_err_and}
use Rattle.text_items.specs.Reading.{in_turn}
use Rattle.table_check.specs.declared.row_items.KnotRow.{KnotRow}
use Rattle.table_check.specs.Tables.{row_item}
use Rattle.text_items.proofs.Turns.{turn_more, turn_fails, turns_done}
use Rattle.table_check.proofs.row_items.row_items.Goals as goal

pub returns-in_err-row_item-clause-read : goal.returns-in_err-row_item-clause-read
returns-in_err-row_item-clause-read c =
    let item = row_item c.args.classes in
    let p = err_from_is_err_and c.from_residual.result c.from_residual.ensures.1 in
    rw (p.1, p.2) (turn_fails item c.in_err-row_item.field-0.0 c.loop.rows.items c.args.count c.loop.counter c.loop.lines
    (in_turn item c.args.count c.args.lines.now) c.loop-test.true c.in_err-row_item.ensures.read c.loop.invariant.0)

pub loop-preserved : goal.loop-preserved
loop-preserved c =
    let item = row_item c.args.classes in
    let is_known = λ (r : KnotRow). r.class < c.args.classes in (
      rw c.in_ok-push.ensures.items (turn_more item c.loop.rows.items c.args.count c.loop.counter c.loop.lines c.in_ok-row_item.field-0
          c.row_item.new.lines (in_turn item c.args.count c.args.lines.now) c.loop-test.true c.in_ok-row_item.ensures.read c.loop.invariant.0),
      rw c.in_ok-push.ensures.items (All-append is_known c.loop.rows.items (c.in_ok-row_item.field-0 ∷ []) c.loop.invariant.1
          (All-cons is_known c.in_ok-row_item.field-0 [] c.in_ok-row_item.ensures.known (All-nil is_known))),
    )

pub returns-clause-read : goal.returns-clause-read
returns-clause-read c =
    let item = row_item c.args.classes in
    turns_done item c.loop.rows.items c.args.count c.loop.counter c.loop.lines
    (in_turn item c.args.count c.args.lines.now) c.loop-test.false c.loop.invariant.0
