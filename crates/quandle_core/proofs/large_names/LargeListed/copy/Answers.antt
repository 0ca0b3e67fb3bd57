use Rattle.std.proofs.Common.{◌∙◌, refl}
use Rattle.quandle_core.specs.declared.operations.TheConstants.{MAX_LARGE_ORDER}
use Rattle.quandle_core.proofs.Named.{named_alike}
use Rattle.quandle_core.proofs.large_names.LargeListed.copy.Goals as goal

pub invariant_of-result : goal.invariant_of-result
invariant_of-result c =
    named_alike MAX_LARGE_ORDER c.self.inside.name c.self.inside.name _ c.self.inside.quandle refl (c.in_ok-quandle.ensures ∙ c.operations-operations.ensures)
    c.self.invariant
