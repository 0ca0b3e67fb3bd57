use Rattle.std.proofs.Common.{arith}
use Rattle.grid_canon.proofs.Guards.{marks_of, all_marked}
use Rattle.grid_canon.proofs.digits.low_digits.Goals as goal

pub overflow_mul-guards : goal.overflow_mul-guards
overflow_mul-guards c =
    let m =
    marks_of c.args.size c.args.value 0 c.ones-ones.result c.requires.most c.requires.value (omega arith) c.requires.inside
    c.ones-ones.ensures in
    omega arith

pub overflow_add-marks : goal.overflow_add-marks
overflow_add-marks c =
    let m =
    marks_of c.args.size c.args.value c.loop-bound.bound c.ones-ones.result c.requires.most c.requires.value (omega (arith, c.from-bound-end.ensures)) c.requires.inside
    c.ones-ones.ensures in
    omega arith

pub overflow_mul-marks : goal.overflow_mul-marks
overflow_mul-marks c =
    let m =
    marks_of c.args.size c.args.value c.loop-bound.bound c.ones-ones.result c.requires.most c.requires.value (omega (arith, c.from-bound-end.ensures)) c.requires.inside
    c.ones-ones.ensures in
    omega arith

pub overflow_sub-marks : goal.overflow_sub-marks
overflow_sub-marks c =
    let m =
    marks_of c.args.size c.args.value c.loop-bound.bound c.ones-ones.result c.requires.most c.requires.value (omega (arith, c.from-bound-end.ensures)) c.requires.inside
    c.ones-ones.ensures in
    omega arith

pub returns-then-marks-ne0 : goal.returns-then-marks-ne0
returns-then-marks-ne0 c =
    let m =
    marks_of c.args.size c.args.value c.loop-bound.bound c.ones-ones.result c.requires.most c.requires.value (omega (arith, c.from-bound-end.ensures))
    c.requires.inside c.ones-ones.ensures in
    record { bound = c.loop-bound.bound; some = omega arith; marked = m.marked }

pub returns : goal.returns
returns c =
    all_marked c.args.size c.args.value c.ones-ones.result (omega (arith, c.requires.least)) c.requires.most c.requires.value c.requires.inside
    c.ones-ones.ensures
