use Rattle.std.proofs.Common.{◌∙◌, sym, arith}
use Rattle.grid_keys.proofs.Keys.{read_lists, too_large, kept_where_key, faulty}
use Rattle.grid_keys.proofs.key.unpack.Goals as goal

pub returns-then-key-gt-MAX_SIZE-clause-complete : goal.returns-then-key-gt-MAX_SIZE-clause-complete
returns-then-key-gt-MAX_SIZE-clause-complete c = λ d grid same. absurd (too_large d c.args.key grid same (omega arith))

pub returns-in-Ok-clause-complete : goal.returns-in-Ok-clause-complete
returns-in-Ok-clause-complete c = λ d grid same.
    let read =
    read_lists d c.args.key c.as_slice.result.now c.as_slice-2.result.now grid same (c.as_slice.ensures.value ∙ c.rows_of_key-x.ensures)
    (c.as_slice-2.ensures.value ∙ c.rows_of_key-o.ensures) in
    kept_where_key c.if_key.result c.in-Ok.grid d c.args.key c.if_key.ensures.some c.if_key.ensures.none (c.in-Ok.ensures.grid ∙ sym read) same

pub returns-in-Err-clause-complete : goal.returns-in-Err-clause-complete
returns-in-Err-clause-complete c = λ d grid same.
    absurd (faulty d c.as_slice.result.now c.as_slice-2.result.now c.in-Err.field-0 grid
    (read_lists d c.args.key c.as_slice.result.now c.as_slice-2.result.now grid same (c.as_slice.ensures.value ∙ c.rows_of_key-x.ensures)
    (c.as_slice-2.ensures.value ∙ c.rows_of_key-o.ensures))
    c.in-Err.ensures.fault)
