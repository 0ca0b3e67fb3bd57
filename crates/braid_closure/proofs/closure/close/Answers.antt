use Rattle.std.proofs.Common.{◌≡◌, ◌∙◌, ◌∷◌, ◌++◌, [], ℕ, length, arith, ap}
use Rattle.std.proofs.lemmas.List.FromFn.{length-map-range_with_len}
use Rattle.grid_core.specs.declared.mark.Kind.TheVariants.{Cross}
use Rattle.grid_core.specs.Diagram.{size}
use Rattle.grid_core.specs.Parts.{column_of}
use Rattle.braid_closure.specs.Columns.{diagram_of}
use Rattle.braid_closure.specs.Closure.{closure_size}
use Rattle.braid_closure.proofs.Grids.{size_closure}
use Rattle.braid_closure.proofs.Built.{range_mapped}
use Rattle.braid_closure.proofs.closure.close.Goals as goal

pub column_of-requires : goal.column_of-requires
column_of-requires c =
    let is : size c.grid_of-grid.result ≡ closure_size c.args.braid.now =
    ap size (c.grid_of-grid.ensures ∙ ap diagram_of c.columns_of.ensures.columns) ∙ size_closure c.args.braid.now c.strands-row-end.ensures.braid in
    omega (arith, is)

pub push-requires : goal.push-requires
push-requires c = (
  omega arith,
  let size = ap length c.loop-row.invariant in omega
      (arith, size, length-map-range_with_len (column_of Cross c.grid_of-grid.result) 0 c.loop-row.row, c.strands-row-end.ensures.braid.most),
)

pub loop-row-preserved : goal.loop-row-preserved
loop-row-preserved c =
    range_mapped (column_of Cross c.grid_of-grid.result) c.loop-row.row c.loop-row.feet.items c.push.new.self.items c.loop-row.invariant
    (c.push.ensures.items ∙ ap (λ (z : ℕ). c.loop-row.feet.items ++ z ∷ []) c.column_of.ensures.column)
