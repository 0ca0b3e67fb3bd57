use Rattle.std.proofs.Common.{subst, Bool}
use Rattle.next_moves.specs.Offers.{exchanges_among}
use Rattle.mono_simplify.specs.Ways.{keys_in, IsExplored}
use Rattle.mono_simplify.proofs.Explored.{turned_over, turned}
use Rattle.mono_simplify.proofs.Ways.{extended_keys}
use Rattle.mono_simplify.proofs.explore.turn.Goals as goal

pub returns-then-over-clause-listed : goal.returns-then-over-clause-listed
returns-then-over-clause-listed c = λ d key member is stands names list stays.
    turned_over d c.args.budget c.args.place (keys_in c.args.class.now) key
    (subst (λ (b : Bool). IsExplored d c.args.budget c.args.place (keys_in c.args.class.now) b) c.if-over.true is) stands stays

pub returns-clause-listed : goal.returns-clause-listed
returns-clause-listed c = λ d key member is stands names list stays.
    turned d c.args.budget c.args.place (keys_in c.args.class.now) (keys_in c.admit_all.new.class) key member
    (exchanges_among c.args.offers.now) c.in_ok-after.after
    (subst (λ (b : Bool). IsExplored d c.args.budget c.args.place
    (keys_in c.args.class.now) b) c.if-over.false is) stands names list stays c.in_ok-after.ensures.keys c.in_ok-after.ensures.over
    (extended_keys c.args.place (exchanges_among c.args.offers.now) c.args.class.now c.admit_all.new.class c.in_ok-after.ensures.ways)
