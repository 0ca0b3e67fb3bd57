use Rattle.std.proofs.Common.{◌≡◌, ◌<◌, ◌≤◌, ◌||◌, ◌++◌, [], ◌∷◌, length, refl, arith, rules}
use Rattle.grid_core.specs.declared.grid.TheConstants.{MAX_SIZE}
use Rattle.text_items.specs.Braids.{is_long_letter, low_letter}
use Rattle.text_items.proofs.Keeping.{one_more, one_too_many}
use Rattle.text_items.proofs.braids.keep.Goals as goal
use Rattle.text_items.proofs.braids.keep.Goals.{then-kept, else-kept}

pub returns-then-is_full : goal.returns-then-is_full
returns-then-is_full c =
    let kept = c.args.kept.now in
    let long : c.if-kept.kept ≡ (kept.long || is_long_letter c.args.letter) =
    elim c.if-kept.branch [ then-kept w ↦ (search rules) | else-kept w ↦ (search rules) ] in
    let full : MAX_SIZE ≤ length kept.first.items = grind (arith, c.is_full.ensures.value, c.is_full.ensures.fits, c.if-is_full.true) in
    λ letters tells. one_too_many low_letter is_long_letter kept.first.items c.args.letter letters tells full refl refl long

pub returns-else-is_full : goal.returns-else-is_full
returns-else-is_full c =
    let kept = c.args.kept.now in
    let long : c.if-kept.kept ≡ (kept.long || is_long_letter c.args.letter) =
    elim c.if-kept.branch [ then-kept w ↦ (search rules) | else-kept w ↦ (search rules) ] in
    let cut : c.low_letter.result ≡ low_letter c.args.letter = search rules in
    let first : c.push.new.self.items ≡ kept.first.items ++ c.low_letter.result ∷ [] = search rules in
    let room : length kept.first.items < MAX_SIZE = grind (arith, c.is_full.ensures.value, c.is_full.ensures.fits, c.if-is_full.false) in
    λ letters tells. one_more low_letter is_long_letter kept.first.items c.args.letter c.low_letter.result letters tells room cut first refl long
