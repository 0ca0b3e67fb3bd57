use Rattle.std.proofs.Common.{rules, SFits, arith, w8, pos, get_or, ◌∙◌}
use Rattle.std.proofs.lemmas.Int.{to_z-of_z}
use Rattle.braid_closure.proofs.Built.{after_letters_step, open_within}
use Rattle.braid_closure.proofs.closure.cross_all.Goals as goal

pub overflow_add-strands : goal.overflow_add-strands
overflow_add-strands c =
    let within = open_within c.args.columns.now.items in
    let lt = c.loop-place-test.true in let room = c.requires.room in let count = c.requires.count in omega arith

pub loop-place-preserved : goal.loop-place-preserved
loop-place-preserved c = (
  after_letters_step c.args.strands c.loop-place.place c.args.columns.now.items c.loop-place.columns.items c.cross.new.columns.items c.args.letters.now _ c.loop-place-test.true (to_z-of_z w8 (get_or c.args.letters.now c.loop-place.place (pos 0)) (let fits : SFits w8 (get_or c.args.letters.now c.loop-place.place (pos 0)) = search rules in fits)) c.loop-place.invariant.0 c.cross.ensures.columns,
  c.cross.ensures.count ∙ c.loop-place.invariant.1,
  let size = c.cross.ensures.size in let before = c.loop-place.invariant.2 in omega arith,
)
