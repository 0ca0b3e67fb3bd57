use Rattle.std.proofs.Common.{◌∙◌, sym}
use Rattle.mono_simplify.specs.Ways.{keys_in}
use Rattle.mono_simplify.proofs.KeyOrder.{least_kept, least_taken}
use Rattle.mono_simplify.proofs.places.lesser.Goals as goal

pub returns-in-Less-clause-least : goal.returns-in-Less-clause-least
returns-in-Less-clause-least c = λ at.
    least_taken (keys_in c.args.class.now) c.args.best c.args.place c.key_at-2.result c.key_at.result at c.key_at-2.ensures c.key_at.ensures
    (sym c.compare_keys.ensures ∙ c.in-Less.is)

pub returns-in_default : goal.returns-in_default
returns-in_default c = record {
  below = c.requires.best;
  least = λ at. least_kept (keys_in c.args.class.now) c.args.best c.args.place c.key_at-2.result c.key_at.result at c.key_at-2.ensures
      c.key_at.ensures (λ less. c.in_default.not-Less (c.compare_keys.ensures ∙ less));
}
