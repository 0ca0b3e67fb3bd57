use Rattle.quandle_core.specs.Quandle.{Table}
use Rattle.quandle_core.specs.declared.operations.TheConstants.{MAX_LARGE_ORDER}
use Rattle.text_items.proofs.TableLaws.{laws_hold, laws_fail}
use Rattle.text_items.proofs.large_quandles.large_quandle_by.Goals as goal

pub returns-in-Ok-clause-some : goal.returns-in-Ok-clause-some
returns-in-Ok-clause-some c =
    let t : Table = record { order = c.args.order; entries = c.args.table.now } in (
      laws_hold MAX_LARGE_ORDER t c.requires (λ fault is. let wrong = c.new.ensures.broken fault is in let ok = c.in-Ok.is in absurd cc),
      c.in-Ok.ensures.quandle,
    )

pub returns-in-Err-Broken-clause-none : goal.returns-in-Err-Broken-clause-none
returns-in-Err-Broken-clause-none c =
    let t : Table = record { order = c.args.order; entries = c.args.table.now } in λ there.
    laws_fail MAX_LARGE_ORDER t c.requires (λ none.
    let memory = c.in-Err-Broken.ensures.memory none in
    let broken = c.in-Err-Broken.field-0-is in absurd cc)
