-- Lists of colourings as lists of numbers.
use Rattle.std.proofs.Common.{◌≡◌, ℕ, List, [], ◌∷◌, map, ap₂, sym, codes}
use Rattle.std.specs.Fmt.{decimal}
use Rattle.std.proofs.lemmas.List.{length-map}
use Rattle.std.proofs.lemmas.Simd.{map-map}
use Rattle.arrayvec.specs.ArrayVec.{ArrayVec}
use Rattle.colour_list.specs.Listing.{lists_of}
use Rattle.knot_text.specs.Printed.{list_lines}
use Rattle.plain_jobs.specs.Lines.{listing_lines}

pub list_is_listing : (lists : List (ArrayVec ℕ)) → list_lines lists ≡ listing_lines (lists_of lists)
list_is_listing lists =
    ap₂ (λ (n : ℕ) (lines : List (List (List ℕ))). (codes "list" ∷ decimal n ∷ []) ∷ lines)
    (sym (length-map lists (λ (c : ArrayVec ℕ). c.items)))
    (sym (map-map (λ (numbers : List ℕ). map decimal numbers) (λ (c : ArrayVec ℕ). c.items) lists))
