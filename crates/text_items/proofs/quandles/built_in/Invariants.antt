use Rattle.std.proofs.Common.{◌≡◌, take}
use Rattle.std.specs.List.{filter_map}
use Rattle.quandle_core.specs.Names.{quandle_named}
use Rattle.text_items.proofs.quandles.built_in.Given as goal

abbrev pub invariant-loop-name : goal.invariant-loop-name
invariant-loop-name l = l.listed.items ≡ filter_map quandle_named (take l.name-index l.name-items)
