use Rattle.std.proofs.Common.{arith}
use Rattle.grid_canon.proofs.Guards.{marks_below_of}
use Rattle.grid_canon.proofs.Placed.{below_digits}
use Rattle.grid_canon.proofs.digits.below.Goals as goal

pub overflow_mul-guards : goal.overflow_mul-guards
overflow_mul-guards c =
    let facts =
    marks_below_of c.args.size c.args.value c.args.other c.ones-guards.result c.requires.most c.requires.value c.requires.other c.requires.inside
    c.requires.other_inside c.ones-guards.ensures in
    omega arith

pub overflow_add-result : goal.overflow_add-result
overflow_add-result c =
    let facts =
    marks_below_of c.args.size c.args.value c.args.other c.ones-guards.result c.requires.most c.requires.value c.requires.other c.requires.inside
    c.requires.other_inside c.ones-guards.ensures in
    omega arith

pub overflow_sub-result : goal.overflow_sub-result
overflow_sub-result c =
    let facts =
    marks_below_of c.args.size c.args.value c.args.other c.ones-guards.result c.requires.most c.requires.value c.requires.other c.requires.inside
    c.requires.other_inside c.ones-guards.ensures in
    omega arith

pub returns-clause-fits : goal.returns-clause-fits
returns-clause-fits c =
    let facts =
    below_digits c.args.size c.args.value c.args.other c.ones-guards.result c.requires.most c.requires.value c.requires.other c.requires.inside
    c.requires.other_inside c.ones-guards.ensures in
    facts.fits

pub returns-clause-marked : goal.returns-clause-marked
returns-clause-marked c =
    let facts =
    below_digits c.args.size c.args.value c.args.other c.ones-guards.result c.requires.most c.requires.value c.requires.other c.requires.inside
    c.requires.other_inside c.ones-guards.ensures in
    facts.at
