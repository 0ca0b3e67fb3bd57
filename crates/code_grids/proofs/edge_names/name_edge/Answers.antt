use Rattle.std.proofs.Common.{◌-◌, ◌∙◌, length, get_or, refl, arith}
use Rattle.code_grids.proofs.Undone.{trade, traded}
use Rattle.code_grids.proofs.Renamed.{edge_from}
use Rattle.code_grids.proofs.edge_names.name_edge.Goals as goal

pub returns-clause-inverse : goal.returns-clause-inverse
returns-clause-inverse c =
    let there = c.args.there.now in
    let back = c.args.back.now in
    let n = length there in
    let edge = c.args.old - 1 in
    let place = c.args.new - 1 in
    let other = get_or back place 0 in
    let before = get_or there edge 0 in
    let old = edge_from n c.args.old c.requires.old in
    let new = edge_from n c.args.new c.requires.new in
    traded n there back c.swap.new.self c.swap-2.new.self edge other before place c.requires.inverse c.swap.ensures.len
    (c.swap-2.ensures.len ∙ c.requires.inverse.as_long) (omega (arith, old.0, old.1)) (omega (arith, new.0, new.1)) refl refl
    (trade there c.swap.new.self edge other c.swap.ensures.by_index) (trade back c.swap-2.new.self before place c.swap-2.ensures.by_index)
