use Rattle.std.proofs.Common.{rules, ◌∙◌, sym}
use Rattle.search_pool.proofs.SeatLists.{one_saw_end, as_many_seats, written_over}
use Rattle.search_pool.proofs.Settling.{begun_history, begun_problem}
use Rattle.search_pool.proofs.many.run_workers.Goals as goal

pub new-requires-clause-fresh : goal.new-requires-clause-fresh
new-requires-clause-fresh g c = begun_history c.args.problem c.in_ok-book.book c.in_ok-book.ensures

pub new-requires-clause-of_problem : goal.new-requires-clause-of_problem
new-requires-clause-of_problem g c = begun_problem c.args.problem c.in_ok-book.book c.in_ok-book.ensures ∙ c.requires.of_problem

pub close-requires-clause-all_made_shares : goal.close-requires-clause-all_made_shares
close-requires-clause-all_made_shares g c =
    c.in_ok-shared.seats.ok.0 ∙ as_many_seats c.args.blanks.workers c.in_ok-shared.seats.items c.in_ok-shared.ensures.seats ∙ sym c.requires.made_blank.2

pub close-requires-clause-all_end_shares : goal.close-requires-clause-all_end_shares
close-requires-clause-all_end_shares g c =
    c.in_ok-shared.seats.ok.0 ∙ as_many_seats c.args.blanks.workers c.in_ok-shared.seats.items c.in_ok-shared.ensures.seats ∙ sym c.requires.end_blank.2

pub returns-clause-over : goal.returns-clause-over
returns-clause-over g c =
    let many = as_many_seats c.args.blanks.workers c.in_ok-shared.seats.items c.in_ok-shared.ensures.seats in
    let same = written_over c.in_ok-shared.seats.len c.work_all.new.seats c.in_ok-shared.seats.items (search rules) (search rules) in
    c.close.ensures.over (rw same (one_saw_end c.work_all.new.seats (search (rules, many)) c.work_all.ensures))
