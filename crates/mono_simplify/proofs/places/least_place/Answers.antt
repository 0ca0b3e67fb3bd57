use Rattle.std.proofs.Common.{◌≤◌, List, length, arith, subst}
use Rattle.std.proofs.lemmas.List.{take_all, length-map}
use Rattle.grid_keys.specs.declared.key.Packed.{Packed}
use Rattle.mono_simplify.specs.Ways.{Member, keys_in}
use Rattle.mono_simplify.specs.Seen.{IsLeastAt}
use Rattle.mono_simplify.proofs.KeyOrder.{least_begin}
use Rattle.mono_simplify.proofs.places.least_place.Goals as goal

pub loop-place-init : goal.loop-place-init
loop-place-init c = (c.requires, least_begin c.args.class.now c.requires)

pub returns-clause-least : goal.returns-clause-least
returns-clause-least c =
    let keys : List Packed = keys_in c.args.class.now in
    let most : length keys ≤ c.loop-place.place = omega (
      arith,
      c.loop-place-test.false,
      c.len-place-end.ensures,
      length-map c.args.class.now (λ (m : Member). m.0),
    ) in
    subst (λ (some : List Packed). IsLeastAt some keys c.loop-place.best) (take_all c.loop-place.place keys most) c.loop-place.invariant.1
