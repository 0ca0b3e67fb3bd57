use Rattle.std.proofs.Common.{◌==◌, get_or}
use Rattle.std.proofs.lemmas.List.Filters.{FiltersInPlace}
use Rattle.colour_rows.specs.Equation.{walk_of}
use Rattle.colour_list.proofs.level.keep_closed.Given as goal

abbrev pub invariant-loop-i : goal.invariant-loop-i
invariant-loop-i l = FiltersInPlace (λ f. walk_of l.quandle l.row f == get_or f l.row.right_end 0) l.fn.level.items l.level.items l.kept l.i
