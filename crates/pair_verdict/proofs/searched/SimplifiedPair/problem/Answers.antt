use Rattle.std.proofs.Common.{rules}
use Rattle.pair_verdict.proofs.SimplifiedPairs.{first_small, second_small}
use Rattle.pair_verdict.proofs.searched.SimplifiedPair.problem.Goals as goal

pub returns-clause-bounded : goal.returns-clause-bounded
returns-clause-bounded c =
    let first = first_small c.args.given.now c.args.self.now.first c.args.self.now.second c.requires.simplified c.requires.bounded.first_fits in
    let second = second_small c.args.given.now c.args.self.now.first c.args.self.now.second c.requires.simplified c.requires.bounded.second_fits in
    record {
      first_fits = search (rules, first);
      second_fits = search (rules, second);
      cap = c.requires.bounded.cap;
      two = c.requires.bounded.two;
      most = c.requires.bounded.most;
    }
