use Rattle.std.proofs.Common.{subst}
use Rattle.quandle_core.specs.Quandle.{Table, IsQuandle}
use Rattle.colour_list.specs.Listing.{lists_of}
use Rattle.cert_check.proofs.Rulings.{accepted_lists}
use Rattle.cert_check.proofs.ToldApart.{told_apart}
use Rattle.cert_check.proofs.lists.check_lists.Goals as goal

pub returns-in-None-clause-ruling : goal.returns-in-None-clause-ruling
returns-in-None-clause-ruling c =
    accepted_lists c.args.first.now c.args.second.now c.args.listed.now c.args.one.now c.args.two.now c.quandle-quandle.result.now c.in_ok-cause.field-0 c.quandle-quandle.ensures.quandle c.in_ok-cause.ensures c.in-None.is

pub returns-in-None-clause-claim : goal.returns-in-None-clause-claim
returns-in-None-clause-claim c = λ accepted.
    told_apart c.args.listed.now.table c.args.first.now c.args.second.now (lists_of c.args.one.now) (lists_of c.args.two.now)
    (subst (λ (t : Table). IsQuandle t) c.quandle-quandle.ensures.quandle c.order-order.ensures.quandle) (returns-in-None-clause-ruling c)
