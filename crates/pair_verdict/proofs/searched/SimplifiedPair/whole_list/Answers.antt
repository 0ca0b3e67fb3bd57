use Rattle.std.proofs.Common.{◌++◌, ◌∙◌, List, ap}
use Rattle.grid_moves.specs.declared.step.Move.{Move}
use Rattle.pair_verdict.proofs.SimplifiedPairs.{slice_joins, whole_joins, whole_written}
use Rattle.pair_verdict.proofs.searched.SimplifiedPair.whole_list.Goals as goal

pub push_undone-requires : goal.push_undone-requires
push_undone-requires c =
    slice_joins c.args.given.now c.args.self.first c.args.self.second c.as_slice.result.now c.requires.simplified c.as_slice.ensures

pub returns-clause-whole : goal.returns-clause-whole
returns-clause-whole c =
    whole_written c.args.given.now c.args.self.first c.args.self.second c.args.between.now
    c.as_slice.result.now c.extend_from_slice.new.self.items c.push_undone.new.list.items c.requires.simplified c.as_slice.ensures
    (c.in_ok-extend_from_slice.ensures.items ∙ ap (λ (moves : List Move). moves ++ c.args.between.now) c.into_vec-list.ensures)
    c.in_ok-push_undone.ensures.list

pub returns-clause-joins : goal.returns-clause-joins
returns-clause-joins c =
    whole_joins c.args.given.now c.args.self.first c.args.self.second c.args.between.now c.push_undone.new.list.items
    c.requires.simplified c.requires.bounded.first_fits c.requires.bounded.second_fits c.requires.between (returns-clause-whole c)
