use Rattle.search_book.proofs.Rest.{rest_settled}
use Rattle.search_book.proofs.settle.settle_whole.Goals as goal

pub returns-then-all_settled-clause-rest : goal.returns-then-all_settled-clause-rest
returns-then-all_settled-clause-rest c =
    rest_settled c.args.roll.now c.settle.new.self c.args.id c.requires.inside c.requires.in_flight c.settle.ensures

pub returns-else-all_settled-clause-rest : goal.returns-else-all_settled-clause-rest
returns-else-all_settled-clause-rest c =
    rest_settled c.args.roll.now c.settle.new.self c.args.id c.requires.inside c.requires.in_flight c.settle.ensures
