-- Colours that were printed are read again.
use Rattle.std.proofs.Common.{◌≡◌, ℕ, ◌≤◌, ◌<◌, ◌+◌, List, ◌∷◌, length, map, false, Ok, refl, arith, codes, nat_lt}
use Rattle.std.specs.List.{AllByRecursion}
use Rattle.std.specs.Fmt.{decimal}
use Rattle.std.proofs.lemmas.Bool.{le-ltb}
use Rattle.std.proofs.lemmas.List.Elements.{recursion_from_All}
use Rattle.arrayvec.specs.ArrayVec.{ArrayVec}
use Rattle.grid_core.specs.declared.grid.TheConstants.{MAX_SIZE}
use Rattle.colour_rows.specs.Colouring.{AreColours}
use Rattle.colour_rows.proofs.Colourings.{colours_test}
use Rattle.quandle_core.specs.declared.quandle.TheConstants.{MAX_ORDER}
use Rattle.text_lines.specs.Lines.{Text}
use Rattle.text_lines.specs.Spelled.{numbered}
use Rattle.text_items.specs.Reading.{next_line}
use Rattle.text_items.specs.Numbers.{numbers_behind}
use Rattle.knot_text.specs.Colours.{colours_at, colours_item}
use Rattle.knot_text.specs.Printed.{colours_lines}
use Rattle.knot_text.proofs.StepsAgain.{line_of, lines_before, IsShort, word_again, values_again, none_long, all_short}

behind_again : (n : ℕ) (cs : List ℕ) → length cs ≤ MAX_SIZE → AllByRecursion IsShort cs
    → numbers_behind (codes "colours") (line_of n (codes "colours" ∷ map decimal cs)) ≡ Ok cs
unfolding numbers_behind
behind_again n cs fits few =
    let size : nat_lt MAX_SIZE (length cs) ≡ false = le-ltb MAX_SIZE (length cs) fits in
    rw (word_again (codes "colours") n (map decimal cs), values_again n cs few, size, none_long cs few) refl

pub colours_again : (width order n : ℕ) (c : ArrayVec ℕ) (text : Text) → width ≤ MAX_SIZE → order ≤ MAX_ORDER → AreColours width order c.items
    → colours_item width order (lines_before (numbered n (colours_lines c)) text) ≡ Ok (c, text)
unfolding colours_item colours_at next_line
colours_again width order n c text fits most are =
    let few = all_short order c.items (omega (arith, most)) (recursion_from_All (λ y. y < order) c.items are.1) in
    rw (behind_again (n + 1) c.items (omega (arith, are.0, fits)) few, colours_test width order c.items are) refl
