use Rattle.std.proofs.Common.{Result, sym, ap, ◌∙◌}
use Rattle.std.specs.Prelude.{is_none}
use Rattle.std.specs.Result.{result_err}
use Rattle.quandle_core.specs.Quandle.{Table}
use Rattle.quandle_core.specs.declared.fault.QuandleFault.{QuandleFault}
use Rattle.text_items.proofs.TableLaws.{told}
use Rattle.text_items.proofs.quandles.quandle_by.Goals as goal

pub returns-in-Ok-clause-laws : goal.returns-in-Ok-clause-laws
returns-in-Ok-clause-laws c =
    let t : Table = record { order = c.args.order; entries = c.args.table.now } in
    ap (λ (r : Result Table QuandleFault). is_none (result_err r)) (sym c.in-Ok.is) ∙ told t (result_err c.new.result) c.requires c.new.ensures.fault

pub returns-in-Err-clause-laws : goal.returns-in-Err-clause-laws
returns-in-Err-clause-laws c =
    let t : Table = record { order = c.args.order; entries = c.args.table.now } in
    ap (λ (r : Result Table QuandleFault). is_none (result_err r)) (sym c.in-Err.is) ∙ told t (result_err c.new.result) c.requires c.new.ensures.fault
