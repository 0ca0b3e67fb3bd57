-- Colours of a code from those of the code that it becomes under other names, and back.
use Rattle.std.proofs.Common.{◌≡◌, ◌<◌, ◌≤◌, ◌+◌, ◌-◌, ◌==◌, ◌∙◌, ◌&&◌, ℕ, Bool, true, List}
use Rattle.std.proofs.Common.{length, map, drop, get_or, inl, inr, refl, sym, ap, subst, arith}
use Rattle.std.specs.Prelude.{slice_index, if◌then◌else◌}
use Rattle.std.specs.List.{All, list_all}
use Rattle.std.proofs.lemmas.Bool.{cases_lt, and_parts, and_from}
use Rattle.std.proofs.lemmas.List.{length-append, length-map, length-drop, get_or_append_left, get_or-append_right, get_or-drop, get_or-map, ext_get_or}
use Rattle.std.proofs.lemmas.List.Elements.{All-get_or, All-from_get_or}
use Rattle.std.proofs.lemmas.List.Sums.{AllPass-from_list_all, list_all-from_AllPass}
use Rattle.quandle_core.specs.Quandle.{Table, over}
use Rattle.quandle_core.specs.Bijection.{IsBijection}
use Rattle.colour_rows.specs.Colouring.{are_colours}
use Rattle.colour_rows.proofs.Colourings.{colours_from, colours_test}
use Rattle.crossing_codes.specs.declared.crossing.Code.{Code}
use Rattle.crossing_codes.specs.declared.crossing.Crossing.{Crossing}
use Rattle.crossing_codes.specs.CodeColouring.{is_edge, names_edges, edge_colour, agrees, is_code_colouring}
use Rattle.code_grids.specs.declared.renaming.Renaming.{Renaming}
use Rattle.code_grids.specs.Renaming.{AreInverse, new_name, renamed, IsRenaming}
use Rattle.code_grids.specs.Recoloured.{recoloured}
use Rattle.code_grids.proofs.Undone.{turned_over}
use Rattle.code_grids.proofs.Renamed.{edge_from, edges_from, undoing, renamed_back}

pub recoloured_long : (names ys : List ℕ) → length names ≤ length ys → length (recoloured names ys) ≡ length ys
recoloured_long names ys le =
    omega (arith, length-append (map (slice_index ys) names) (drop (length names) ys), length-map names (slice_index ys), length-drop (length names) ys)

-- an edge has the colour of its new name
pub colour_of_edge : (names ys : List ℕ) (k : ℕ) → k < length names → get_or (recoloured names ys) k 0 ≡ get_or ys (get_or names k 0) 0
colour_of_edge names ys k lt =
    get_or_append_left (map (slice_index ys) names) (drop (length names) ys) 0 k (omega (arith, length-map names (slice_index ys)))
    ∙ get_or-map (slice_index ys) names k 0 0 lt

-- a loop keeps its colour
pub colour_of_loop : (names ys : List ℕ) (k : ℕ) → length names ≤ k → get_or (recoloured names ys) k 0 ≡ get_or ys k 0
colour_of_loop names ys k le =
    let whole : length names + (k - length names) ≡ k = omega arith in
    get_or-append_right (map (slice_index ys) names) (drop (length names) ys) (length names) k 0 (length-map names (slice_index ys)) le
    ∙ (get_or-drop (length names) ys (k - length names) 0 ∙ ap (λ (i : ℕ). get_or ys i 0) whole)

-- back again the colours are those of before
pub colours_back : (n : ℕ) (there back ys : List ℕ) → AreInverse n there back → n ≤ length ys → recoloured back (recoloured there ys) ≡ ys
colours_back n there back ys i le =
    let long = i.long in
    let as_long = i.as_long in
    let once = recoloured_long there ys (omega arith) in
    let twice = recoloured_long back (recoloured there ys) (omega arith) in
    ext_get_or 0 (recoloured back (recoloured there ys)) ys (twice ∙ once) (λ k lt. elim (cases_lt k n) [
      | inl less ↦
          let at = i.redone k (omega arith) in
          colour_of_edge back (recoloured there ys) k (omega arith)
          ∙ (colour_of_edge there ys (get_or back k 0) at.0 ∙ ap (λ (j : ℕ). get_or ys j 0) at.1)
      | inr more ↦ colour_of_loop back (recoloured there ys) k (omega arith) ∙ colour_of_loop there ys k (omega arith)
    ])

-- in a crossing an edge has the colour of its new name
pub named_colour : (n : ℕ) (names back ys : List ℕ) (e : ℕ) → AreInverse n names back → is_edge n e ≡ true
    → edge_colour (recoloured names ys) e ≡ edge_colour ys (new_name names e)
named_colour n names back ys e i h =
    let known = edge_from n e h in
    let low = known.0 in
    let high = known.1 in
    let long = i.long in
    let same : get_or names (e - 1) 0 ≡ get_or names (e - 1) 0 + 1 - 1 = omega arith in
    colour_of_edge names ys (e - 1) (omega arith) ∙ ap (λ (k : ℕ). get_or ys k 0) same

-- what agrees at a crossing depends on its edges' colours alone
pub agrees_is : (t : Table) (xs ys : List ℕ) (x y : Crossing) → x.positive ≡ y.positive
    → edge_colour xs x.first ≡ edge_colour ys y.first → edge_colour xs x.second ≡ edge_colour ys y.second
    → edge_colour xs x.third ≡ edge_colour ys y.third → edge_colour xs x.fourth ≡ edge_colour ys y.fourth
    → agrees t xs x ≡ agrees t ys y
agrees_is t xs ys x y p a b c d =
    let test : Bool → ℕ → ℕ → ℕ → ℕ → Bool =
    λ s i j k l. (j == l) && (if s then k == over t i j else i == over t k j) in
    ap (λ s. test s (edge_colour xs x.first) (edge_colour xs x.second) (edge_colour xs x.third) (edge_colour xs x.fourth)) p
    ∙ (ap (λ i. test y.positive i (edge_colour xs x.second) (edge_colour xs x.third) (edge_colour xs x.fourth)) a
    ∙ (ap (λ j. test y.positive (edge_colour ys y.first) j (edge_colour xs x.third) (edge_colour xs x.fourth)) b
    ∙ (ap (λ k. test y.positive (edge_colour ys y.first) (edge_colour ys y.second) k (edge_colour xs x.fourth)) c
    ∙ ap (λ l. test y.positive (edge_colour ys y.first) (edge_colour ys y.second) (edge_colour ys y.third) l) d)))

pub agrees_renamed : (t : Table) (n : ℕ) (names back ys : List ℕ) (x : Crossing) → AreInverse n names back → names_edges n x ≡ true
    → agrees t (recoloured names ys) x ≡ agrees t ys (renamed names x)
agrees_renamed t n names back ys x i h =
    let e = edges_from n x h in
    let same : x.positive ≡ x.positive = refl in
    agrees_is t (recoloured names ys) ys x (renamed names x) same
    (named_colour n names back ys x.first i e.first) (named_colour n names back ys x.second i e.second)
    (named_colour n names back ys x.third i e.third) (named_colour n names back ys x.fourth i e.fourth)

-- colourings of the second code become colourings of the first
pub coloured_by_names : (t : Table) (one two : Code) (r : Renaming) → IsRenaming one two r → (ys : List ℕ)
    → is_code_colouring t two ys ≡ true → is_code_colouring t one (recoloured r.edges ys) ≡ true
coloured_by_names t one two r i ys h =
    let names = r.edges in
    let zs = recoloured names ys in
    let test_two : Crossing → Bool = λ x. names_edges two.edges x && agrees t ys x in
    let test_one : Crossing → Bool = λ x. names_edges one.edges x && agrees t zs x in
    let parts = and_parts (are_colours (two.edges + two.loops) t.order ys) (list_all test_two two.crossings) h in
    let colours = colours_from (two.edges + two.loops) t.order ys parts.0 in
    let each = AllPass-from_list_all test_two two.crossings parts.1 in
    let long = i.edges.long in
    let as_long = i.edges.as_long in
    let edges = i.as_many_edges in
    let loops = i.as_many_loops in
    let n = colours.0 in
    let as_many = recoloured_long names ys (omega arith) in
    let below : All (λ y. y < t.order) zs = All-from_get_or (λ y. y < t.order) zs 0 (λ k lt. elim (cases_lt k (length names)) [
      | inl less ↦
          let at = i.edges.undone k less in
          let within = at.0 in
          subst (λ y. y < t.order) (sym (colour_of_edge names ys k less)) (colours.1 (get_or names k 0) 0 (omega arith))
      | inr more ↦ subst (λ y. y < t.order) (sym (colour_of_loop names ys k more)) (colours.1 k 0 (omega arith))
    ]) in
    and_from (are_colours (one.edges + one.loops) t.order zs) (list_all test_one one.crossings)
    (colours_test (one.edges + one.loops) t.order zs (omega arith, below))
    (list_all-from_AllPass test_one one.crossings (λ k d lt.
    let x = get_or one.crossings k d in
    let named : names_edges one.edges x ≡ true = All-get_or (λ x. names_edges one.edges x ≡ true) one.crossings k d lt i.named in
    let crossings_long = i.crossings.long in
    let crossings_as_long = i.crossings.as_long in
    let as_many_crossings = i.as_many_crossings in
    let at = i.crossings.undone k (omega arith) in
    let within = at.0 in
    let there = each (get_or r.crossings k 0) d (omega arith) in
    let y = get_or two.crossings (get_or r.crossings k 0) d in
    let agreed = (and_parts (names_edges two.edges y) (agrees t ys y) there).1 in
    and_from (names_edges one.edges x) (agrees t zs x) named
    (agrees_renamed t one.edges names r.edges_back ys x i.edges named ∙ (ap (agrees t ys) (i.same k lt d) ∙ agreed))))

pub colourings_one_to_one : (t : Table) (one two : Code) (r : Renaming) → IsRenaming one two r
    → IsBijection (λ colours. is_code_colouring t two colours ≡ true) (λ colours. is_code_colouring t one colours ≡ true) (recoloured r.edges)
colourings_one_to_one t one two r i =
    let long_two : (ys : List ℕ) → is_code_colouring t two ys ≡ true → one.edges ≤ length ys =
    λ ys h.
    let test : Crossing → Bool = λ x. names_edges two.edges x && agrees t ys x in
    let parts = and_parts (are_colours (two.edges + two.loops) t.order ys) (list_all test two.crossings) h in
    let n = (colours_from (two.edges + two.loops) t.order ys parts.0).0 in
    let edges = i.as_many_edges in
    omega arith in
    let long_one : (ys : List ℕ) → is_code_colouring t one ys ≡ true → one.edges ≤ length ys =
    λ ys h.
    let test : Crossing → Bool = λ x. names_edges one.edges x && agrees t ys x in
    let parts = and_parts (are_colours (one.edges + one.loops) t.order ys) (list_all test one.crossings) h in
    let n = (colours_from (one.edges + one.loops) t.order ys parts.0).0 in
    omega arith in
    record {
      into = λ ys h. coloured_by_names t one two r i ys h;
      onto = λ ys h. (
        recoloured r.edges_back ys,
        coloured_by_names t two one (undoing r) (renamed_back one two r i) ys h,
        colours_back one.edges r.edges_back r.edges ys (turned_over one.edges r.edges r.edges_back i.edges) (long_one ys h),
      );
      one = λ xs ys hx hy e.
          sym (colours_back one.edges r.edges r.edges_back xs i.edges (long_two xs hx))
          ∙ (ap (recoloured r.edges_back) e ∙ colours_back one.edges r.edges r.edges_back ys i.edges (long_two ys hy));
    }
