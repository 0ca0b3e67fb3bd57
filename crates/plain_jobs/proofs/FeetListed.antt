-- The feet of all colourings, put in order, are all fixed points of the action of the grid's word.
use Rattle.std.proofs.Common.{◌≡◌, ◌↔◌, ℕ, List, All, get_or, map, arith, subst}
use Rattle.std.specs.Prelude.{IsSorted, IsPermutation}
use Rattle.std.specs.List.{AllPairs, Contains}
use Rattle.std.specs.Cmp.Lexicographic.{slice_cmp}
use Rattle.std.specs.Ordering.{nat_cmp}
use Rattle.std.proofs.lemmas.List.{length-map, get_or-map}
use Rattle.std.proofs.lemmas.List.Elements.{All-contains_itself}
use Rattle.std.proofs.lemmas.List.Sorted.{IsPermutation-map}
use Rattle.arrayvec.specs.ArrayVec.{ArrayVec}
use Rattle.grid_core.specs.Diagram.{Diagram}
use Rattle.quandle_core.specs.Quandle.{Table}
use Rattle.quandle_core.specs.Colours.{ComesBefore}
use Rattle.quandle_core.specs.Bijection.{IsBijection}
use Rattle.colour_rows.specs.Colouring.{IsColouring}
use Rattle.colour_list.specs.Listing.{colourings, lists_of, times}
use Rattle.braid_core.specs.FixedPoints.{fixed_points, IsFixedPoint}
use Rattle.braid_laws.proofs.Listed.{IsBefore}
use Rattle.grid_braid.specs.Word.{word_of_diagram}
use Rattle.grid_braid.specs.Feet.{at_feet}
use Rattle.plain_jobs.proofs.InOrder.{found, IsAscendingList, images_in_order}

-- each list of the complete list is a colouring
pub all_colourings : (t : Table) (d : Diagram) → ((c : List ℕ) → Contains (colourings t d) c → IsColouring t d c) → (all : List (ArrayVec ℕ))
    → lists_of all ≡ colourings t d → All (λ c. IsColouring t d c.items) all
all_colourings t d only all are = λ k d' lt.
    let here : Contains (lists_of all) (get_or all k d').items =
    (k, omega (arith, lt, length-map all (λ (c : ArrayVec ℕ). c.items)), get_or-map (λ (c : ArrayVec ℕ). c.items) all k d' (get_or all k d').items lt) in
    only (get_or all k d').items (subst (λ (xs : List (List ℕ)). Contains xs (get_or all k d').items) are here)

pub feet_listed : (t : Table) (d : Diagram)
    → IsBijection (IsColouring t d) (IsFixedPoint t (word_of_diagram d)) (at_feet t d)
    → AllPairs ComesBefore (colourings t d)
    → ((c : List ℕ) → IsColouring t d c → times c (colourings t d) ≡ 1)
    → ((c : List ℕ) → Contains (colourings t d) c → IsColouring t d c)
    → ((xs : List ℕ) → Contains (fixed_points t (word_of_diagram d)) xs ↔ IsFixedPoint t (word_of_diagram d) xs)
    → AllPairs IsBefore (fixed_points t (word_of_diagram d))
    → (feet sorted : List (ArrayVec ℕ)) → lists_of feet ≡ map (at_feet t d) (colourings t d)
    → IsPermutation feet sorted
    → IsSorted (λ a b. slice_cmp nat_cmp a.items b.items) sorted
    → lists_of sorted ≡ fixed_points t (word_of_diagram d)
feet_listed t d b up once only are rise feet sorted is moved order =
    let list : IsAscendingList (IsColouring t d) (colourings t d) = record {
      ascending = up;
      only = λ k c lt. only (get_or (colourings t d) k c) (All-contains_itself (colourings t d) k c lt);
      all = λ c colouring. found c (colourings t d) (omega (arith, once c colouring));
    } in
    images_in_order (IsColouring t d) (IsFixedPoint t (word_of_diagram d)) (at_feet t d) b (colourings t d)
    (fixed_points t (word_of_diagram d)) list rise are sorted
    (subst (λ (xs : List (List ℕ)). IsPermutation xs (lists_of sorted)) is (IsPermutation-map (λ (c : ArrayVec ℕ). c.items) feet sorted moved)) order
