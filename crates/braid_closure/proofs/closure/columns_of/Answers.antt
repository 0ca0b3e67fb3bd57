use Rattle.std.proofs.Common.{rules, ◌≡◌, List, subst, sym}
use Rattle.grid_core.specs.Diagram.{IsGrid}
use Rattle.braid_closure.specs.declared.columns.Column.{Column}
use Rattle.braid_closure.specs.Columns.{diagram_of}
use Rattle.braid_closure.specs.Closure.{columns}
use Rattle.braid_closure.proofs.Grids.{closure_grid}
use Rattle.braid_closure.proofs.closure.columns_of.Goals as goal

pub returns-clause-grid : goal.returns-clause-grid
returns-clause-grid c =
    subst (λ (zs : List Column). IsGrid (diagram_of zs)) (let is : c.append_closing.new.columns.items ≡ columns c.args.braid.now = search rules in sym is)
    (closure_grid c.args.braid.now c.strands-strands.ensures.braid)
