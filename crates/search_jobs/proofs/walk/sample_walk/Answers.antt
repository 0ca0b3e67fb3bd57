use Rattle.std.proofs.Common.{◌+◌, ◌-◌, ◌++◌, [], arith, refl, subst, sym}
use Rattle.std.proofs.lemmas.List.{append-nil}
use Rattle.search_jobs.specs.declared.walk.TheConstants.{TURNS}
use Rattle.grid_core.specs.Trefoils.{right_trefoil}
use Rattle.search_jobs.specs.Walk.{seed_words, generator_words, Walks}
use Rattle.search_jobs.proofs.Picked.{pick_contained}
use Rattle.search_jobs.proofs.Walked.{words_left, no_words_left, walked_more, walk_within}
use Rattle.search_jobs.proofs.walk.sample_walk.Goals as goal

pub moved-here-requires : goal.moved-here-requires
moved-here-requires c = pick_contained c.loop-turn.here c.next_word.result c.picked-step.result c.picked-step.ensures

pub loop-turn-preserved : goal.loop-turn-preserved
loop-turn-preserved c =
    let left = words_left TURNS c.loop-turn._turn c.loop-turn.generator c.next_word.result c.next_word.new.self c.loop-turn-test.true c.next_word.ensures in
    let walked = walked_more (seed_words c.args.seed) (generator_words (TURNS - c.loop-turn._turn) c.loop-turn.generator)
    (generator_words (TURNS - (c.loop-turn._turn + 1)) c.next_word.new.self) c.next_word.result right_trefoil c.loop-turn.here c.moved-here.result
    c.loop-turn.moves.items c.picked-step.result c.loop-turn.invariant.walked left c.picked-step.ensures c.moved-here.ensures.moved in
    record {
      small = c.moved-here.ensures.small;
      room = omega (arith, c.push_reserved.ensures.capacity, c.loop-turn.invariant.room);
      count = omega (arith, c.push_reserved.ensures.len, c.loop-turn.invariant.count);
      walked =
          λ rest last on. subst (λ ms. Walks right_trefoil (seed_words c.args.seed) (ms ++ rest) last) (sym c.push_reserved.ensures.items)
          (walked rest last on);
    }

pub returns-clause-walk : goal.returns-clause-walk
returns-clause-walk c =
    let none = no_words_left TURNS c.loop-turn._turn c.loop-turn.generator c.loop-turn-test.false in
    let walk = subst (λ ms. Walks right_trefoil (seed_words c.args.seed) ms c.loop-turn.here) (append-nil c.loop-turn.moves.items)
    (c.loop-turn.invariant.walked [] c.loop-turn.here (subst (λ ws. Walks c.loop-turn.here ws [] c.loop-turn.here) (sym none) refl)) in
    (c.loop-turn.here, (walk, walk_within (seed_words c.args.seed) c.loop-turn.moves.items right_trefoil c.loop-turn.here (omega arith) walk))
