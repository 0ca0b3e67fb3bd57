use Rattle.search_pool.proofs.Settling.{is_done}
use Rattle.search_pool.proofs.searcher.settle_in_flight.Goals as goal

pub unreachable-requires : goal.unreachable-requires
unreachable-requires c =
    c.in_default.not-Done
    (is_done c.args.book.now c.settle.new.self c.args.worker c.args.id c.args.offers.now c.settle.result c.requires.not_over c.requires.in_flight
    c.settle.ensures.answer)
