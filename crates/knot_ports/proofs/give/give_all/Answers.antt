use Rattle.std.proofs.Common.{◌≡◌, rules, arith, ap, length, take-add}
use Rattle.std.proofs.KnownBytes.{Appends-trans}
use Rattle.knot_ports.proofs.give.give_all.Goals as goal

pub loop-done-preserved : goal.loop-done-preserved
loop-done-preserved g c =
    let bytes = c.args.bytes.now in
    let given = Appends-trans _ _ _ _ _ c.loop-done.invariant.given c.in_ok-count.ensures.bytes in
    record {
      within = search rules;
      given = rw (take-add c.loop-done.done c.in_ok-count.count bytes, ← c.split_at.ensures.back) given;
      count = search rules;
      untouched = λ none. let empty : length bytes ≡ 0 = ap length none in absurd (omega arith);
    }
