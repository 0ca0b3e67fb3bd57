use Rattle.std.proofs.Common.{length, refl}
use Rattle.search_jobs.proofs.Printed.{walk_made}
use Rattle.search_jobs.proofs.text.walk_text.Goals as goal

pub returns : goal.returns
returns c =
    walk_made c.args.seed (length c.args.moves.now) c.args.moves.now c.args.first.now c.args.last.now c.new-out.result.items
    c.push_counted.new.out.items c.push_counted-2.new.out.items c.extend_from_slice.new.self.items c.push_counts.new.out.items c.ruled.result.now
    c.new-out.ensures.items c.in_ok-push_counted.ensures.text refl c.in_ok-push_counted-2.ensures.text c.ruled.ensures
    c.in_ok-extend_from_slice.ensures.items c.in_ok-push_counts.ensures
