use Rattle.std.proofs.Common.{sym}
use Rattle.next_moves.proofs.offers.Offers.of.Goals as goal

pub invariant_of-offers : goal.invariant_of-offers
invariant_of-offers c = record {
  diagram = c.args.form.now.grid;
  grid = c.fill.ensures.grid;
  canonical = c.requires.canonical;
  origin = sym c.pack.ensures;
  least = c.requires.least;
  most = c.requires.most;
  whole = c.fill.ensures.offers;
  count = c.fill.ensures.count;
}
