use Rattle.std.proofs.Common.{ap, nat_abs, arith, to_z, of_z, w8}
use Rattle.std.proofs.lemmas.Int.{to_z-of_z}
use Rattle.braid_closure.proofs.Built.{after_positive, after_negative}
use Rattle.braid_closure.proofs.closure.cross.Goals as goal

pub returns-then-letter-gt0-clause-columns : goal.returns-then-letter-gt0-clause-columns
returns-then-letter-gt0-clause-columns c =
    after_positive c.args.letter
    (to_z w8 (of_z w8 c.args.letter)) c.unsigned_abs-k.result c.args.row c.args.columns.now.items c.end.new.columns.items c.begin_left.new.columns.items
    (to_z-of_z w8 c.args.letter c.ranges.letter) c.if-letter-gt0.true c.unsigned_abs-k.ensures.value c.end.ensures.columns c.begin_left.ensures.columns

pub returns-else-letter-gt0-clause-columns : goal.returns-else-letter-gt0-clause-columns
returns-else-letter-gt0-clause-columns c =
    after_negative c.args.letter
    (to_z w8 (of_z w8 c.args.letter)) c.unsigned_abs-k.result c.args.row c.args.columns.now.items c.begin_right.new.columns.items c.end-else-letter-gt0.new.columns.items
    (to_z-of_z w8 c.args.letter c.ranges.letter) c.if-letter-gt0.false
    (omega (
      arith,
      c.unsigned_abs-k.ensures.value,
      ap nat_abs
          (to_z-of_z w8 c.args.letter c.ranges.letter),
      c.requires.letter.least,
    )) c.unsigned_abs-k.ensures.value c.begin_right.ensures.columns c.end-else-letter-gt0.ensures.columns
