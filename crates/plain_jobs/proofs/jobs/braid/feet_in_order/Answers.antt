use Rattle.std.proofs.Common.{◌∙◌, ap, map}
use Rattle.grid_braid.specs.Word.{word_of_diagram}
use Rattle.grid_braid.specs.Feet.{at_feet}
use Rattle.plain_jobs.proofs.FeetListed.{all_colourings, feet_listed}
use Rattle.plain_jobs.proofs.jobs.braid.feet_in_order.Goals as goal

pub feet_of_all-requires : goal.feet_of_all-requires
feet_of_all-requires c =
    let t = c.args.quandle.now in
    let d = c.args.grid.now in
    all_colourings t d (c.each_colouring_is_listed_once.ensures.only t d) c.args.all.now c.requires

pub returns : goal.returns
returns c =
    let t = c.args.quandle.now in
    let d = c.args.grid.now in
    feet_listed t d
    (c.colourings_at_the_feet_are_the_fixed_points.ensures t c.order-order.ensures.quandle d c.size-size.ensures.grid)
    (c.the_complete_list_ascends.ensures t d)
    (c.each_colouring_is_listed_once.ensures.once t d)
    (c.each_colouring_is_listed_once.ensures.only t d)
    (c.the_fixed_points_are_listed.ensures.all t (word_of_diagram d))
    (c.the_fixed_points_are_listed.ensures.order t (word_of_diagram d))
    c.in_ok-feet_of_all.field-0.items c.in_order.result.items
    (c.in_ok-feet_of_all.ensures ∙ ap (map (at_feet t d)) c.requires)
    c.in_order.ensures.permutation c.in_order.ensures.sorted
