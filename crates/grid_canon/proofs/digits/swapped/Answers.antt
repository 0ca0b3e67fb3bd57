use Rattle.std.proofs.Common.{arith}
use Rattle.grid_canon.proofs.SwappedDigits.{swapped_word}
use Rattle.grid_canon.proofs.digits.swapped.Goals as goal

pub overflow_mul-result : goal.overflow_mul-result
overflow_mul-result c =
    let w = swapped_word c.args.value c.args.place c.args.size c.nth_digit-near.result c.nth_digit-far.result c.requires.place c.requires.most c.requires.value
    c.nth_digit-near.ensures c.nth_digit-far.ensures in
    omega (arith, w.far_below)

pub overflow_add-result : goal.overflow_add-result
overflow_add-result c =
    let w = swapped_word c.args.value c.args.place c.args.size c.nth_digit-near.result c.nth_digit-far.result c.requires.place c.requires.most c.requires.value
    c.nth_digit-near.ensures c.nth_digit-far.ensures in
    omega (arith, w.far_below, w.near_below)

pub overflow_add-result-2 : goal.overflow_add-result-2
overflow_add-result-2 c =
    let w = swapped_word c.args.value c.args.place c.args.size c.nth_digit-near.result c.nth_digit-far.result c.requires.place c.requires.most c.requires.value
    c.nth_digit-near.ensures c.nth_digit-far.ensures in
    omega (arith, w.turned, w.fits)

pub overflow_mul-result-2 : goal.overflow_mul-result-2
overflow_mul-result-2 c =
    let w = swapped_word c.args.value c.args.place c.args.size c.nth_digit-near.result c.nth_digit-far.result c.requires.place c.requires.most c.requires.value
    c.nth_digit-near.ensures c.nth_digit-far.ensures in
    omega (arith, w.near_below)

pub overflow_add-result-3 : goal.overflow_add-result-3
overflow_add-result-3 c =
    let w = swapped_word c.args.value c.args.place c.args.size c.nth_digit-near.result c.nth_digit-far.result c.requires.place c.requires.most c.requires.value
    c.nth_digit-near.ensures c.nth_digit-far.ensures in
    omega (arith, w.near_below, w.far_below)

pub overflow_sub-result : goal.overflow_sub-result
overflow_sub-result c =
    let w = swapped_word c.args.value c.args.place c.args.size c.nth_digit-near.result c.nth_digit-far.result c.requires.place c.requires.most c.requires.value
    c.nth_digit-near.ensures c.nth_digit-far.ensures in
    omega (arith, w.turned, w.kept, w.sum)

pub returns : goal.returns
returns c =
    let w = swapped_word c.args.value c.args.place c.args.size c.nth_digit-near.result c.nth_digit-far.result c.requires.place c.requires.most c.requires.value
    c.nth_digit-near.ensures c.nth_digit-far.ensures in
    omega (arith, w.turned, w.kept, w.sum)
