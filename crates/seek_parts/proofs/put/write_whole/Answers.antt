use Rattle.std.proofs.Common.{rules, take-add}
use Rattle.std.proofs.KnownBytes.{Appends-trans}
use Rattle.seek_parts.proofs.put.write_whole.Goals as goal

pub loop-done-preserved : goal.loop-done-preserved
loop-done-preserved g c =
    let text = c.args.text.now in
    let written = Appends-trans _ _ _ _ _ c.loop-done.invariant.written c.in_ok-count.ensures.bytes in
    record {
      within = search rules;
      apart = search rules;
      made = search rules;
      written = rw (take-add c.loop-done.done c.in_ok-count.count text, ← c.split_at.ensures.back) written;
    }
