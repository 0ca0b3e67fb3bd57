use Rattle.std.proofs.Common.{◌∙◌, ap, sym, List}
use Rattle.std.specs.Map.{lookup}
use Rattle.grid_keys.specs.declared.key.Packed.{Packed}
use Rattle.grid_keys.specs.Key.{same_key}
use Rattle.search_book.specs.declared.key_map.Known.{Known}
use Rattle.search_book.proofs.TwoMaps.{by_place}
use Rattle.search_book.proofs.key_map.KeyMap.get_at.Goals as goal

pub returns-then-is_form_of : goal.returns-then-is_form_of
returns-then-is_form_of c =
    let m = c.self.inside in
    ap (λ (ps : List (Packed × Known)). lookup (same_key c.args.key.now) ps) (sym c.self.view_is)
    ∙ by_place c.in-Some.stored.now c.args.key.now c.in-Some.known.now m.brief.entries m.whole.entries c.in-Some.ensures.value
    (c.is_form_of.ensures c.if-is_form_of.true) c.self.invariant
