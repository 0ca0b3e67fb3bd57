use Rattle.search_jobs.proofs.Bottoms.{small_fits}
use Rattle.search_jobs.proofs.text.count.Goals as goal

pub list_fitting-requires : goal.list_fitting-requires
list_fitting-requires c = small_fits c.args.quandle.now c.args.grid.now c.size-size.ensures.grid c.requires.grid c.requires.order
