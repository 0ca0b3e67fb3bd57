use Rattle.std.proofs.Common.{◌∙◌, ap}
use Rattle.colour_seeds.specs.FewWays.{few_ways}
use Rattle.colour_numbers.specs.Numbers.{choices_of, coloured_by}
use Rattle.colour_numbers.proofs.counting.fits_by.Goals as goal

pub returns : goal.returns
returns c =
    c.so_many_fit.ensures
    ∙ ap (few_ways (coloured_by c.args.quandle.now c.args.cocycle.now))
    (c.choices_of-choices.ensures ∙ ap (choices_of c.args.cocycle.now) (c.len.ensures.value ∙ c.seeds.ensures.count))
