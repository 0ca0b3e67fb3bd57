use Rattle.std.proofs.Common.{arith, refl}
use Rattle.next_moves.proofs.Extended.{extends_illegal}
use Rattle.next_moves.proofs.tries.Tries.push_narrowed.Goals as goal

pub returns-in-Err : goal.returns-in-Err
returns-in-Err c =
    record {
      offered =
          extends_illegal c.args.self.now.diagram c.translated.result c.args.self.now.cap _ c.in-Err.field-0 c.args.list.now.items
          c.args.list.now.items c.translated.ensures c.in-Err.ensures.fault refl;
      fits = omega arith;
    }
