use Rattle.std.proofs.Common.{List, length, arith, ap, ◌∙◌}
use Rattle.std.proofs.lemmas.List.FromFn.{length-map-range_with_len}
use Rattle.braid_closure.specs.declared.columns.Column.{Column}
use Rattle.braid_closure.specs.Columns.{begun, open_columns}
use Rattle.braid_closure.proofs.Stages.{begun_open}
use Rattle.braid_closure.proofs.Built.{range_mapped}
use Rattle.braid_closure.proofs.closure.feet_columns.Goals as goal

pub push-requires : goal.push-requires
push-requires c = (omega arith, let size = ap length c.loop-row.invariant in omega (arith, size, length-map-range_with_len begun 0 c.loop-row.row))

pub loop-row-preserved : goal.loop-row-preserved
loop-row-preserved c = range_mapped begun c.loop-row.row c.loop-row.columns.items c.push.new.self.items c.loop-row.invariant c.push.ensures.items

pub returns-clause-count : goal.returns-clause-count
returns-clause-count c =
    ap (λ (zs : List Column). length (open_columns zs)) c.loop-row.invariant
    ∙ (ap length (begun_open 0 c.loop-row.row) ∙ (length-map-range_with_len begun 0 c.loop-row.row ∙ omega arith))

pub returns-clause-size : goal.returns-clause-size
returns-clause-size c = let size = ap length c.loop-row.invariant in omega (arith, size, length-map-range_with_len begun 0 c.loop-row.row)
