use Rattle.std.proofs.Common.{◌≡◌, ◌<◌, ◌≤◌, ◌||◌, ◌++◌, [], ◌∷◌, length, refl, arith, rules}
use Rattle.grid_core.specs.declared.grid.TheConstants.{MAX_SIZE}
use Rattle.text_items.specs.NumberLists.{is_long}
use Rattle.text_items.specs.Numbers.{low}
use Rattle.text_items.proofs.Keeping.{one_more, one_too_many}
use Rattle.text_items.proofs.numbers.keep.Goals as goal
use Rattle.text_items.proofs.numbers.keep.Goals.{then-kept, else-kept}

pub returns-then-is_full : goal.returns-then-is_full
returns-then-is_full c =
    let kept = c.args.kept.now in
    let long : c.if-kept.kept ≡ (kept.long || is_long c.args.value) =
    elim c.if-kept.branch [ then-kept w ↦ (search rules) | else-kept w ↦ (search rules) ] in
    let full : MAX_SIZE ≤ length kept.first.items = grind (arith, c.is_full.ensures.value, c.is_full.ensures.fits, c.if-is_full.true) in
    λ values tells. one_too_many low is_long kept.first.items c.args.value values tells full refl refl long

pub returns-else-is_full : goal.returns-else-is_full
returns-else-is_full c =
    let kept = c.args.kept.now in
    let long : c.if-kept.kept ≡ (kept.long || is_long c.args.value) =
    elim c.if-kept.branch [ then-kept w ↦ (search rules) | else-kept w ↦ (search rules) ] in
    let cut : c.low.result ≡ low c.args.value = search rules in
    let first : c.push.new.self.items ≡ kept.first.items ++ c.low.result ∷ [] = search rules in
    let room : length kept.first.items < MAX_SIZE = grind (arith, c.is_full.ensures.value, c.is_full.ensures.fits, c.if-is_full.false) in
    λ values tells. one_more low is_long kept.first.items c.args.value c.low.result values tells room cut first refl long
