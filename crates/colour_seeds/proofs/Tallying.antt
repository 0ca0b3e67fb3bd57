-- Counts of lists of colours, and how many lists the steps make.
use Rattle.std.proofs.Common.{◌≡◌, ◌<◌, ◌≤◌, ◌*◌, ◌^◌, ◌++◌, ◌∙◌, ℕ, zero, suc, List, [], ◌∷◌, Bool, true, false, cond, length, take, drop}
use Rattle.std.proofs.Common.{get_or, set, count_by, refl, sym, ap, subst, arith, add-one}
use Rattle.std.specs.List.{All, filter, flat_map}
use Rattle.std.proofs.Math.Nat.{pow-zero}
use Rattle.std.proofs.lemmas.Bool.{both_ways}
use Rattle.std.proofs.lemmas.Grind.{same_number_lists}
use Rattle.std.proofs.lemmas.List.{take-append-le, take_all, length-append}
use Rattle.std.proofs.lemmas.List.Elements.{All-map, All-weaker, filter_passes}
use Rattle.std.proofs.lemmas.List.Sums.{length-filter}
use Rattle.grid_core.specs.Diagram.{Diagram, IsGrid, size}
use Rattle.quandle_core.specs.Quandle.{Table}
use Rattle.colour_rows.specs.Colouring.{IsColouring}
use Rattle.colour_list.specs.Listing.{times}
use Rattle.colour_list.specs.Level.{spread, IsLevelAt}
use Rattle.colour_list.proofs.Times.{times_filter}
use Rattle.colour_list.proofs.Order.{came}
use Rattle.colour_list.proofs.Cut.{Ends, cut_colouring}
use Rattle.colour_seeds.specs.declared.progress.Step.{Step}
use Rattle.colour_seeds.specs.declared.progress.Step.TheVariants.{Seed, Rightward, Leftward, Test}
use Rattle.colour_seeds.specs.Plan.{seeds_in}
use Rattle.colour_seeds.specs.Leaves.{leaves, lists_after_step}
use Rattle.colour_seeds.proofs.Settlings.{one_leaf, spread_more, one_times, seed_power, no_seed_power}
use Rattle.colour_seeds.proofs.Levels.{cut, equally_many}

-- lists of the same numbers
pub by_place : (n : ℕ) (xs ys : List ℕ) → length xs ≡ n → length ys ≡ n → ((v : ℕ) → v < n → get_or xs v 0 ≡ get_or ys v 0) → xs ≡ ys
by_place n xs ys long as_long same = same_number_lists xs ys (long ∙ sym as_long) (λ v lt. same v (omega (arith, lt, long)))

-- at most so many leaves
pub each_length : (s : List ℕ → List (List ℕ)) (m c : ℕ) (f : List ℕ) → ((g : List ℕ) → length (s g) ≤ m) → (n : ℕ) → length (flat_map s (spread n c f)) ≤ n * m
each_length s m c f each zero = omega arith
each_length s m c f each (suc n) =
    let e = ap length (ap (λ (k : ℕ). flat_map s (spread k c f)) (sym (add-one n)) ∙ spread_more s c n f)
    ∙ length-append (flat_map s (spread n c f)) (s (set f c n)) in
    let so_far = each_length s m c f each n in
    let here = each (set f c n) in
    let times = ap (λ (k : ℕ). k * m) (sym (add-one n)) ∙ one_times n m in
    omega arith

test_length : (s : List ℕ → List (List ℕ)) (m : ℕ) (f : List ℕ) (b : Bool) → length (s f) ≤ m → length (flat_map s (cond b (f ∷ []) [])) ≤ m
test_length s m f true le = let e = length-append (s f) [] in omega arith
test_length s m f false le = omega arith

pub length_leaves : (t : Table) (d : Diagram) (steps : List Step) (f : List ℕ) → length (leaves t d steps f) ≤ t.order ^ seeds_in steps
length_leaves t d [] f = let e = pow-zero t.order in omega arith
length_leaves t d (Seed c ∷ steps) f =
    let e = seed_power t.order c steps in
    let h = each_length (leaves t d steps) (t.order ^ seeds_in steps) c f (length_leaves t d steps) t.order in
    omega arith
length_leaves t d (Rightward r ∷ steps) f =
    let e = no_seed_power t.order (Rightward r ∷ steps) steps (Rightward r) refl refl in
    let g = get_or (lists_after_step t d (Rightward r) f) 0 [] in
    let h = length_leaves t d steps g in
    let l = ap length (one_leaf t d steps g) in
    omega arith
length_leaves t d (Leftward r ∷ steps) f =
    let e = no_seed_power t.order (Leftward r ∷ steps) steps (Leftward r) refl refl in
    let g = get_or (lists_after_step t d (Leftward r) f) 0 [] in
    let h = length_leaves t d steps g in
    let l = ap length (one_leaf t d steps g) in
    omega arith
length_leaves t d (Test r ∷ steps) f =
    let e = no_seed_power t.order (Test r ∷ steps) steps (Test r) refl refl in
    let h = test_length (leaves t d steps) (t.order ^ seeds_in steps) f _ (length_leaves t d steps f) in
    subst (λ (n : ℕ). length (leaves t d (Test r ∷ steps) f) ≤ n) (sym e) h

-- lists that have each list as often have each test passed as often
same_once : (p : List ℕ → Bool) (xs ys : List (List ℕ)) → ((f : List ℕ) → times f xs ≡ times f ys) → (f : List ℕ) → (b : Bool) → p f ≡ b
    → times f (filter p xs) ≡ times f (filter p ys)
same_once p xs ys same f true e = times_filter p f e xs ∙ (same f ∙ sym (times_filter p f e ys))
same_once p xs ys same f false e =
    none (times f (filter p xs)) (λ some. both_ways (p f) e (came (λ g. p g ≡ true) f (filter p xs) (filter_passes p xs) some))
    ∙ sym (none (times f (filter p ys)) (λ some. both_ways (p f) e (came (λ g. p g ≡ true) f (filter p ys) (filter_passes p ys) some)))
  where
    none : (n : ℕ) → (0 < n → ⊥) → n ≡ 0
    none n no_more = omega (arith, no_more)

at_most_once : (p : List ℕ → Bool) (ys : List (List ℕ)) → ((f : List ℕ) → times f ys ≤ 1) → (f : List ℕ) → (b : Bool) → p f ≡ b → times f (filter p ys) ≤ 1
at_most_once p ys once f true e = let h = times_filter p f e ys in let k = once f in omega arith
at_most_once p ys once f false e =
    let h : times f (filter p ys) ≡ 0 = none (times f (filter p ys)) (λ some. both_ways (p f) e
    (came (λ g. p g ≡ true) f (filter p ys) (filter_passes p ys) some)) in
    omega arith
  where
    none : (n : ℕ) → (0 < n → ⊥) → n ≡ 0
    none n no_more = omega (arith, no_more)

pub same_counts : (p : List ℕ → Bool) (xs ys : List (List ℕ)) → ((f : List ℕ) → times f xs ≡ times f ys) → ((f : List ℕ) → times f ys ≤ 1)
    → count_by p xs ≡ count_by p ys
same_counts p xs ys same once =
    sym (length-filter p xs)
    ∙ (equally_many (filter p xs) (filter p ys) (λ f. same_once p xs ys same f (p f) refl) (λ f. at_most_once p ys once f (p f) refl) ∙ length-filter p ys)

pub cut_colourings : (t : Table) (d : Diagram) → IsGrid d → (level : List (List ℕ)) → IsLevelAt t d (size d) level → All (IsColouring t d) (cut d level)
cut_colourings t d grid level l =
    All-map (IsColouring t d) (take (size d)) level (All-weaker (Ends t d) (λ g. IsColouring t d (take (size d) g)) (cut_colouring t d grid) level l.sound)

-- what is written over a whole list is the list
pub written : (new items : List ℕ) (n : ℕ) → length new ≡ length items → n ≡ length items → take n (new ++ drop (length new) items) ≡ new
written new items n same whole = take-append-le n new (drop (length new) items) (omega arith) ∙ take_all n new (omega arith)
