use Rattle.std.proofs.Common.{◌≡◌, take, map}
use Rattle.text_items.specs.Numbers.{low}
use Rattle.text_items.proofs.rows.narrowed.Given as goal

abbrev pub invariant-loop-value : goal.invariant-loop-value
invariant-loop-value l = l.bytes.items ≡ map low (take l.value-index l.list)
