use Rattle.std.proofs.Common.{codes}
use Rattle.std.proofs.lemmas.Result.{on_ok_weaker}
use Rattle.quandle_core.specs.Tables.{trivial, dihedral, tetrahedral}
use Rattle.search_jobs.proofs.Printed.{counted_by, counts_made}
use Rattle.search_jobs.proofs.text.push_counts.Goals as goal

pub returns : goal.returns
returns c =
    let d = c.args.first.now in
    let e = c.args.last.now in
    let one = counted_by c.trivial-two.result (trivial 2) d e
    (codes "trivial 2: ") c.args.out.now.items c.push_pair.new.out.items c.trivial-two.ensures c.in_ok-push_pair.ensures in
    let two = counted_by c.dihedral-three.result (dihedral 3) d e
    (codes "dihedral 3: ") c.push_pair.new.out.items c.push_pair-2.new.out.items c.dihedral-three.ensures c.in_ok-push_pair-2.ensures in
    let three = counted_by c.tetrahedral-four.result tetrahedral d e
    (codes "tetrahedral: ") c.push_pair-2.new.out.items c.push_pair-3.new.out.items c.tetrahedral-four.ensures c.in_ok-push_pair-3.ensures in
    let four = counted_by c.dihedral-five.result (dihedral 5) d e
    (codes "dihedral 5: ") c.push_pair-3.new.out.items c.push_pair-4.new.out.items c.dihedral-five.ensures c.in_ok-push_pair-4.ensures in
    on_ok_weaker c.push_pair-5.result
    (λ done. counts_made d e c.args.out.now.items c.push_pair.new.out.items c.push_pair-2.new.out.items c.push_pair-3.new.out.items
    c.push_pair-4.new.out.items c.push_pair-5.new.out.items one two three four
    (counted_by c.dihedral-seven.result (dihedral 7) d e (codes "dihedral 7: ") c.push_pair-4.new.out.items c.push_pair-5.new.out.items
    c.dihedral-seven.ensures done))
    c.push_pair-5.ensures
