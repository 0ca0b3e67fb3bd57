-- The line of the colours of a replay, by numbers that were cut down to 255.
use Rattle.std.proofs.Common.{◌≡◌, ℕ, ◌≤◌, ◌==◌, ◌&&◌, List, length, map, Bool, true, false, Ok, Err, refl, sym, ap, ap₂, ◌∙◌, nat_lt, codes}
use Rattle.std.specs.List.{list_all}
use Rattle.std.proofs.lemmas.Bool.{and_parts}
use Rattle.std.proofs.lemmas.List.{length-map}
use Rattle.arrayvec.specs.ArrayVec.{ArrayVec}
use Rattle.colour_rows.specs.Colouring.{are_colours}
use Rattle.text_lines.specs.Lines.{NumberedLine}
use Rattle.text_items.specs.declared.fault.TextFault.TheVariants.{Malformed}
use Rattle.text_items.specs.Numbers.{numbers_behind, low, CutsRead}
use Rattle.knot_text.specs.Colours.{colours_at}
use Rattle.text_items.proofs.Cuts.{all_low, same_low}

colours_test : (width order : ℕ) (cut values : List ℕ) → order ≤ 255 → cut ≡ map low values → are_colours width order cut ≡ are_colours width order values
colours_test width order cut values most is =
    ap (are_colours width order) is ∙ ap₂ (λ (n : ℕ) (b : Bool). (n == width) && b) (length-map values low) (all_low order values most)

pub colours_bad : (colours : ArrayVec ℕ) (width order : ℕ) (line : NumberedLine) → order ≤ 255
    → CutsRead colours (numbers_behind (codes "colours") line) → are_colours width order colours.items ≡ false
    → colours_at width order line ≡ Err (Malformed line.number)
unfolding colours_at
colours_bad colours width order line most read bad =
    let test : are_colours width order read.values ≡ false = sym (colours_test width order colours.items read.values most read.cut) ∙ bad in
    rw (read.is, test) refl

pub colours_good : (colours : ArrayVec ℕ) (width order : ℕ) (line : NumberedLine) → order ≤ 255
    → CutsRead colours (numbers_behind (codes "colours") line) → are_colours width order colours.items ≡ true
    → colours_at width order line ≡ Ok colours
unfolding colours_at
colours_good colours width order line most read good =
    let test : are_colours width order read.values ≡ true = sym (colours_test width order colours.items read.values most read.cut) ∙ good in
    let all = (and_parts (length read.values == width) (list_all (λ v. nat_lt v order) read.values) test).1 in
    let same : colours.items ≡ read.values = read.cut ∙ same_low order read.values most all in
    let one : colours_at width order line ≡ Ok (record { items = read.values }) = rw (read.is, test) refl in
    one ∙ ap (λ (vs : List ℕ). Ok (record { items = vs })) (sym same)
