use Rattle.std.proofs.Common.{length}
use Rattle.code_grids.proofs.Undone.{one_each}
use Rattle.code_grids.proofs.Rearranged.{each_once}
use Rattle.code_grids.proofs.laws.a_renaming_is_one_to_one.Goals as goal

pub returns-clause-edges : goal.returns-clause-edges
returns-clause-edges c = λ one two r i. one_each one.edges r.edges r.edges_back i.edges

pub returns-clause-crossings : goal.returns-clause-crossings
returns-clause-crossings c = λ one two r i. one_each (length one.crossings) r.crossings r.crossings_back i.crossings

pub returns-clause-same : goal.returns-clause-same
returns-clause-same c = each_once
