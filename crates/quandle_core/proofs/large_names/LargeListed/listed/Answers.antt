use Rattle.std.proofs.Common.{◌∙◌, arith}
use Rattle.quandle_core.specs.declared.quandle.TheConstants.{MAX_ORDER}
use Rattle.quandle_core.specs.declared.operations.TheConstants.{MAX_LARGE_ORDER}
use Rattle.quandle_core.proofs.Named.{named_wider, named_alike}
use Rattle.quandle_core.proofs.large_names.LargeListed.listed.Goals as goal

pub invariant_of-result : goal.invariant_of-result
invariant_of-result c =
    named_alike MAX_LARGE_ORDER _ c.args.listed.now.name _ c.args.listed.now.table c.name.ensures
    (c.in_ok-quandle.ensures ∙ c.operations-operations.ensures ∙ c.quandle.ensures.quandle)
    (named_wider MAX_ORDER MAX_LARGE_ORDER c.args.listed.now.name c.args.listed.now.table (omega arith) c.quandle.ensures.names)
