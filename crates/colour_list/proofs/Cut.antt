-- The level behind the highest row, cut to the columns of the diagram and sorted, is the complete list.
use Rattle.std.proofs.Common.{◌≡◌, ◌<◌, ◌≤◌, ◌+◌, ◌-◌, ◌++◌, ◌∙◌, inl, inr, ℕ, List, Bool, true, false, cond, length, get_or, map, take, replicate, refl, sym}
use Rattle.std.proofs.Common.{ap, arith}
use Rattle.std.specs.Prelude.{IsPermutation}
use Rattle.std.specs.List.{All, AllPairs}
use Rattle.std.proofs.lemmas.Bool.{both_ways, eqb-true, eq-eqb, cases_lt}
use Rattle.std.proofs.lemmas.List.{length-replicate, length-append, length-take, get_or-replicate, get_or-take, get_or_append_left, get_or-append-add}
use Rattle.std.proofs.lemmas.List.{take-append-le, take_all}
use Rattle.std.proofs.lemmas.Grind.{same_number_lists}
use Rattle.std.proofs.lemmas.List.Elements.{All-map, All-append, All-replicate, All-take, All-weaker, filter_passes}
use Rattle.std.proofs.lemmas.List.Sorted.{All-permutation, sum_by-IsPermutation}
use Rattle.grid_core.specs.declared.grid.TheConstants.{MAX_SIZE}
use Rattle.grid_core.specs.declared.mark.Kind.TheVariants.{Cross, Ring}
use Rattle.grid_core.specs.Diagram.{Diagram, IsGrid, size, row_of}
use Rattle.grid_core.proofs.Marks.{row_below}
use Rattle.quandle_core.specs.Quandle.{Table}
use Rattle.colour_rows.specs.Walk.{walk}
use Rattle.colour_rows.specs.Colouring.{IsColouring, is_colouring}
use Rattle.grid_core.proofs.Ends.{has_ends, right, low, span_low}
use Rattle.colour_rows.proofs.Walks.{closes_agree}
use Rattle.colour_rows.proofs.Colourings.{coloured, colouring}
use Rattle.colour_list.specs.Listing.{all_lists, colourings, is_same, times}
use Rattle.colour_list.specs.Level.{Meets, IsUnbegun, RowsClose, IsLevelAt}
use Rattle.colour_list.proofs.Counts.{count-map, count_agree_on}
use Rattle.colour_list.proofs.Times.{same_true, true_same, differ, times_filter}
use Rattle.quandle_core.specs.Colours.{ComesBefore}
use Rattle.std.proofs.lemmas.List.Kept.{AllPairs-filter}
use Rattle.colour_list.proofs.Order.{Ascends, ascends_from_pairs, same_ordered, came}
use Rattle.colour_list.proofs.AllLists.{all_once, all_ascend}

-- the list with 0 in each column up to n
abbrev padded : ℕ → List ℕ → List ℕ
padded n f = f ++ replicate (n - length f) 0

-- of two equations, each of which follows from the other, the tests agree
tests_agree : (f g h k : List ℕ) → (f ≡ g → h ≡ k) → (h ≡ k → f ≡ g) → (b : Bool) → is_same f g ≡ b → is_same f g ≡ is_same h k
tests_agree f g h k into from true e = e ∙ sym (same_true h k (into (true_same f g e)))
tests_agree f g h k into from false e = e ∙ sym (differ h k (λ same. both_ways (is_same f g) e (same_true f g (from same))))

padded_front : (n : ℕ) (f : List ℕ) (c : ℕ) → c < length f → get_or (padded n f) c 0 ≡ get_or f c 0
padded_front n f c lt = get_or_append_left f (replicate (n - length f) 0) 0 c lt

padded_rest : (n : ℕ) (f : List ℕ) (c : ℕ) → length f ≤ c → c < n → get_or (padded n f) c 0 ≡ 0
padded_rest n f c le lt =
    let at : length f + (c - length f) ≡ c = omega arith in
    sym (ap (λ (k : ℕ). get_or (padded n f) k 0) at)
    ∙ (get_or-append-add f (replicate (n - length f) 0) (c - length f) 0 ∙ get_or-replicate (n - length f) (c - length f) 0 0 (omega arith))

length_padded : (n : ℕ) (f : List ℕ) → length f ≤ n → length (padded n f) ≡ n
length_padded n f le = length-append f (replicate (n - length f) 0) ∙ (ap (λ (k : ℕ). length f + k) (length-replicate (n - length f) 0) ∙ omega arith)

length_cut : (n m : ℕ) (g : List ℕ) → m ≤ n → length g ≡ n → length (take m g) ≡ m
length_cut n m g le long = let e = length-take m g in omega arith

-- a list that is 0 behind its first m columns is those columns padded
padded_take : (n m : ℕ) (g : List ℕ) → m ≤ n → length g ≡ n → ((c : ℕ) → c < n → m ≤ c → get_or g c 0 ≡ 0) → padded n (take m g) ≡ g
padded_take n m g le long zeros =
    let short = length_cut n m g le long in
    let whole = length_padded n (take m g) (omega arith) in
    same_number_lists (padded n (take m g)) g (whole ∙ sym long)
    (λ c lt. elim (cases_lt c m) [
      | inl front ↦ padded_front n (take m g) c (omega arith) ∙ get_or-take m g c 0 front
      | inr rest ↦ padded_rest n (take m g) c (omega arith) (omega arith) ∙ sym (zeros c (omega arith) rest)
    ])

take_padded : (n m : ℕ) (f : List ℕ) → length f ≡ m → take m (padded n f) ≡ f
take_padded n m f long = take-append-le m f (replicate (n - length f) 0) (omega arith) ∙ take_all m f (omega arith)

-- the lists of the level behind the highest row
abbrev pub Ends : Table → Diagram → List ℕ → Type 0
Ends t d g = Meets MAX_SIZE t.order (IsUnbegun d (size d)) (RowsClose t d (size d)) g

-- no column of the diagram is blank at the end
pub begun : (d : Diagram) → IsGrid d → (c : ℕ) → c < size d → low d c < size d
begun d grid c lt = let e = span_low (row_of Cross d c) (row_of Ring d c) in let below = row_below d grid Cross c lt in omega arith

zeros : (t : Table) (d : Diagram) (g : List ℕ) → Ends t d g → (c : ℕ) → c < MAX_SIZE → size d ≤ c → get_or g c 0 ≡ 0
zeros t d g m c lt le = m.blank c lt (λ inside. absurd (omega arith))

-- cut, such a list is a colouring
pub cut_colouring : (t : Table) (d : Diagram) → IsGrid d → (g : List ℕ) → Ends t d g → IsColouring t d (take (size d) g)
cut_colouring t d grid g m = record {
  colours_are = (length_cut MAX_SIZE (size d) g grid.most m.long, All-take (λ y. y < t.order) (size d) g m.below);
  rows = λ r lt. eqb-true (walk t d (take (size d) g) r) (get_or (take (size d) g) (right d r) 0)
      (closes_agree t d (take (size d) g) g r (has_ends d grid r lt) (λ c within. get_or-take (size d) g c 0 within) ∙ m.met r lt);
}

-- padded, a colouring is such a list
padded_ends : (t : Table) (d : Diagram) → IsGrid d → 0 < t.order → (f : List ℕ) → IsColouring t d f → Ends t d (padded MAX_SIZE f)
padded_ends t d grid some f c =
    let long = c.colours_are.0 in
    let most = grid.most in record {
      long = length_padded MAX_SIZE f (omega arith);
      below =
          All-append (λ y. y < t.order) f (replicate (MAX_SIZE - length f) 0) c.colours_are.1 (All-replicate (λ y. y < t.order) (MAX_SIZE - length f) 0 some);
      blank = λ k lt blank. elim (cases_lt k (size d)) [
        | inl inside ↦ let le : size d ≤ low d k = blank inside in let less = begun d grid k inside in absurd (omega arith)
        | inr behind ↦ padded_rest MAX_SIZE f k (omega arith) lt
      ];
      met = λ r lt.
          closes_agree t d (padded MAX_SIZE f) f r (has_ends d grid r lt) (λ k within. padded_front MAX_SIZE f k (omega arith))
          ∙ eq-eqb (walk t d f r) (get_or f (right d r) 0) (c.rows r lt);
    }

-- each colouring stands once in the level that is cut
pub cut_once : (t : Table) (d : Diagram) → IsGrid d → 0 < t.order → (level : List (List ℕ)) → IsLevelAt t d (size d) level → (f : List ℕ) → IsColouring t d f
    → times f (map (take (size d)) level) ≡ 1
cut_once t d grid some level l f c =
    let most = grid.most in
    let long = c.colours_are.0 in
    count-map (is_same f) (take (size d)) level
    ∙ (count_agree_on (λ g. is_same f (take (size d) g)) (is_same (padded MAX_SIZE f)) level
    (All-weaker (Ends t d) (λ g. is_same f (take (size d) g) ≡ is_same (padded MAX_SIZE f) g)
    (λ g m. tests_agree f (take (size d) g) (padded MAX_SIZE f) g
    (λ e. ap (padded MAX_SIZE) e ∙ padded_take MAX_SIZE (size d) g grid.most m.long (zeros t d g m))
    (λ e. sym (take_padded MAX_SIZE (size d) f long) ∙ ap (take (size d)) e)
    (is_same f (take (size d) g)) refl)
    level l.sound)
    ∙ l.once (padded MAX_SIZE f) (padded_ends t d grid some f c))

-- each colouring stands once in the complete list, and nothing else does
pub listed_once : (t : Table) (d : Diagram) (f : List ℕ) → IsColouring t d f → times f (colourings t d) ≡ 1
listed_once t d f c =
    times_filter (is_colouring t d) f (colouring t d f c) (all_lists t.order (size d)) ∙ all_once t.order (size d) f c.colours_are.0 c.colours_are.1

pub listed_only : (t : Table) (d : Diagram) → All (λ f. is_colouring t d f ≡ true) (colourings t d)
listed_only t d = filter_passes (is_colouring t d) (all_lists t.order (size d))

none : (n : ℕ) → (0 < n → ⊥) → n ≡ 0
none n no_more = omega (arith, no_more)

pub as_often : (t : Table) (d : Diagram) (xs : List (List ℕ)) → ((f : List ℕ) → IsColouring t d f → times f xs ≡ 1) → All (IsColouring t d) xs → (f : List ℕ)
    → (b : Bool) → is_colouring t d f ≡ b → times f xs ≡ times f (colourings t d)
as_often t d xs once only f true e = let c = coloured t d f e in once f c ∙ sym (listed_once t d f c)
as_often t d xs once only f false e =
    none (times f xs) (λ some. both_ways (is_colouring t d f) e (colouring t d f (came (IsColouring t d) f xs only some)))
    ∙ sym (none (times f (colourings t d))
    (λ some. both_ways (is_colouring t d f) e (came (λ h. is_colouring t d h ≡ true) f (colourings t d) (listed_only t d) some)))

-- each colouring comes before all later ones
pub listed_in_order : (t : Table) (d : Diagram) → AllPairs ComesBefore (colourings t d)
listed_in_order t d = AllPairs-filter ComesBefore (is_colouring t d) (all_lists t.order (size d)) (all_ascend t.order (size d))

-- the level behind the highest row, cut and put in order, is the complete list
pub level_is_list : (t : Table) (d : Diagram) → IsGrid d → 0 < t.order → (level xs : List (List ℕ)) → IsLevelAt t d (size d) level
    → IsPermutation (map (take (size d)) level) xs → Ascends xs → xs ≡ colourings t d
level_is_list t d grid some level xs l moved up =
    same_ordered xs (colourings t d) up (ascends_from_pairs (colourings t d) (listed_in_order t d))
    (λ f. as_often t d xs
    (λ f c. sum_by-IsPermutation (λ x. cond (is_same f x) 1 0) (map (take (size d)) level) xs moved ∙ cut_once t d grid some level l f c)
    (All-permutation (IsColouring t d) (map (take (size d)) level) xs moved
    (All-map (IsColouring t d) (take (size d)) level (All-weaker (Ends t d) (λ g. IsColouring t d (take (size d) g)) (cut_colouring t d grid) level l.sound)))
    f (is_colouring t d f) refl)
