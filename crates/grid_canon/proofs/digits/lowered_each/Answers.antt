use Rattle.std.proofs.Common.{arith, refl}
use Rattle.grid_canon.proofs.Guards.{lowered_each_digits}
use Rattle.grid_canon.proofs.digits.lowered_each.Goals as goal

pub overflow_mul-guards : goal.overflow_mul-guards
overflow_mul-guards c =
    let facts =
    lowered_each_digits c.args.size c.args.value c.args.by c.ones-guards.result c.args.size c.requires.most c.requires.value c.requires.by c.requires.inside
    c.requires.by_inside c.ones-guards.ensures refl in
    omega arith

pub overflow_add-below : goal.overflow_add-below
overflow_add-below c =
    let facts =
    lowered_each_digits c.args.size c.args.value c.args.by c.ones-guards.result c.args.size c.requires.most c.requires.value c.requires.by c.requires.inside
    c.requires.by_inside c.ones-guards.ensures refl in
    omega arith

pub overflow_sub-below : goal.overflow_sub-below
overflow_sub-below c =
    let facts =
    lowered_each_digits c.args.size c.args.value c.args.by c.ones-guards.result c.args.size c.requires.most c.requires.value c.requires.by c.requires.inside
    c.requires.by_inside c.ones-guards.ensures refl in
    omega arith

pub overflow_mul-result : goal.overflow_mul-result
overflow_mul-result c =
    let facts =
    lowered_each_digits c.args.size c.args.value c.args.by c.ones-guards.result c.from.result c.requires.most c.requires.value c.requires.by c.requires.inside
    c.requires.by_inside c.ones-guards.ensures c.from.ensures in
    omega arith

pub overflow_add-result : goal.overflow_add-result
overflow_add-result c =
    let facts =
    lowered_each_digits c.args.size c.args.value c.args.by c.ones-guards.result c.from.result c.requires.most c.requires.value c.requires.by c.requires.inside
    c.requires.by_inside c.ones-guards.ensures c.from.ensures in
    omega arith

pub overflow_sub-result : goal.overflow_sub-result
overflow_sub-result c =
    let facts =
    lowered_each_digits c.args.size c.args.value c.args.by c.ones-guards.result c.from.result c.requires.most c.requires.value c.requires.by c.requires.inside
    c.requires.by_inside c.ones-guards.ensures c.from.ensures in
    omega arith

pub returns : goal.returns
returns c =
    let facts =
    lowered_each_digits c.args.size c.args.value c.args.by c.ones-guards.result c.from.result c.requires.most c.requires.value c.requires.by c.requires.inside
    c.requires.by_inside c.ones-guards.ensures c.from.ensures in
    omega arith
