-- Renamings as permutations, and one behind another.
use Rattle.std.proofs.Common.{◌≡◌, ◌<◌, ◌+◌, ◌-◌, ◌∙◌, ℕ, true, List, length, map, get_or, refl, sym, ap, subst, arith}
use Rattle.std.specs.Prelude.{slice_index}
use Rattle.std.specs.List.{All, range_with_len}
use Rattle.std.specs.List.Sorted.{IsPermutation}
use Rattle.std.proofs.lemmas.List.{length-map, get_or-map, get_or_default, ext_get_or}
use Rattle.std.proofs.lemmas.List.Elements.{All-get_or}
use Rattle.std.proofs.lemmas.List.FromFn.{length-range_with_len}
use Rattle.std.proofs.lemmas.List.Sorted.{IsPermutation-map}
use Rattle.crossing_codes.specs.declared.crossing.Code.{Code}
use Rattle.crossing_codes.specs.declared.crossing.Crossing.{Crossing}
use Rattle.crossing_codes.specs.CodeColouring.{is_edge, names_edges}
use Rattle.code_grids.specs.declared.renaming.Renaming.{Renaming}
use Rattle.code_grids.specs.Renaming.{IsUndone, AreInverse, new_name, renamed, IsRenaming, IsRenamed}
use Rattle.code_grids.proofs.Undone.{turned_over, one_each, own_place, range_inverse}
use Rattle.code_grids.proofs.Renamed.{edge_from, edges_from, same_crossing, comes_from}

-- the crossings of the second code, each the renamed one that gets its place
abbrev pub renamed_at : List ℕ → List Crossing → Crossing → ℕ → Crossing
renamed_at names xs d j = renamed names (get_or xs j d)

rearranged : (one two : Code) (r : Renaming) (d : Crossing) → IsRenaming one two r → map (renamed_at r.edges one.crossings d) r.crossings_back ≡ two.crossings
rearranged one two r d i =
    let f : ℕ → Crossing = renamed_at r.edges one.crossings d in
    let as_long = i.crossings.as_long in
    let as_many = i.as_many_crossings in
    let size = length-map r.crossings_back f in
    ext_get_or (f 0) (map f r.crossings_back) two.crossings (omega arith) (λ k lt.
    let from = comes_from one two r i k d (omega arith) in
    get_or-map f r.crossings_back k 0 (f 0) (omega arith) ∙ (from.1 ∙ get_or_default two.crossings k d (f 0) (omega arith)))

in_order : (one : Code) (names : List ℕ) (d : Crossing)
    → map (renamed_at names one.crossings d) (range_with_len 0 (length one.crossings)) ≡ map (renamed names) one.crossings
in_order one names d =
    let n = length one.crossings in
    let f : ℕ → Crossing = renamed_at names one.crossings d in
    let long = length-range_with_len 0 n in
    let size = length-map (range_with_len 0 n) f in
    let other = length-map one.crossings (renamed names) in
    ext_get_or (f 0) (map f (range_with_len 0 n)) (map (renamed names) one.crossings) (omega arith) (λ k lt.
    get_or-map f (range_with_len 0 n) k 0 (f 0) (omega arith)
    ∙ (ap f (own_place n k 0 (omega arith)) ∙ sym (get_or-map (renamed names) one.crossings k d (f 0) (omega arith))))

pub each_once : (one two : Code) (r : Renaming) → IsRenaming one two r → IsPermutation (map (renamed r.edges) one.crossings) two.crossings
each_once one two r i =
    let n = length one.crossings in
    let d : Crossing = record { first = 0; second = 0; third = 0; fourth = 0; positive = true } in
    let each = one_each n r.crossings_back r.crossings (turned_over n r.crossings r.crossings_back i.crossings) in
    subst (λ (xs : List Crossing). IsPermutation xs two.crossings) (in_order one r.edges d)
    (subst (λ (ys : List Crossing). IsPermutation (map (renamed_at r.edges one.crossings d) (range_with_len 0 n)) ys) (rearranged one two r d i)
    (IsPermutation-map (renamed_at r.edges one.crossings d) (range_with_len 0 n) r.crossings_back each))

pub told : (one two : Code) (r s : Renaming) → IsRenaming one two r → IsRenaming one two s → r.crossings ≡ s.crossings
    → (k : ℕ) (d : Crossing) → k < length one.crossings → renamed r.edges (get_or one.crossings k d) ≡ renamed s.edges (get_or one.crossings k d)
told one two r s i j is k d lt =
    i.same k lt d ∙ (ap (λ (xs : List ℕ). get_or two.crossings (get_or xs k 0) d) is ∙ sym (j.same k lt d))

-- each name its own
kept_name : (n e : ℕ) → is_edge n e ≡ true → new_name (range_with_len 0 n) e ≡ e
kept_name n e h =
    let known = edge_from n e h in
    let low = known.0 in
    let high = known.1 in
    let at = own_place n (e - 1) 0 (omega arith) in
    omega arith

kept_crossing : (n : ℕ) (x : Crossing) → names_edges n x ≡ true → renamed (range_with_len 0 n) x ≡ x
kept_crossing n x h =
    let e = edges_from n x h in
    let names = range_with_len 0 n in
    same_crossing (new_name names x.first) (new_name names x.second) (new_name names x.third) (new_name names x.fourth)
    x.first x.second x.third x.fourth x.positive
    (kept_name n x.first e.first) (kept_name n x.second e.second) (kept_name n x.third e.third) (kept_name n x.fourth e.fourth)

pub itself : (one : Code) → All (λ x. names_edges one.edges x ≡ true) one.crossings → IsRenamed one one
itself one named =
    let n = length one.crossings in
    let crossings = range_with_len 0 n in
    let edges = range_with_len 0 one.edges in (
      record { crossings = crossings; crossings_back = crossings; edges = edges; edges_back = edges },
      record {
        crossings = range_inverse n;
        edges = range_inverse one.edges;
        as_many_crossings = refl;
        as_many_edges = refl;
        as_many_loops = refl;
        named = named;
        same = λ k lt d.
            kept_crossing one.edges (get_or one.crossings k d) (All-get_or (λ x. names_edges one.edges x ≡ true) one.crossings k d lt named)
            ∙ ap (λ (j : ℕ). get_or one.crossings j d) (sym (own_place n k 0 lt));
      },
    )

-- one list behind another
through_undone : (n : ℕ) (there back next next_back : List ℕ) → AreInverse n there back → AreInverse n next next_back
    → IsUndone (map (slice_index next) there) (map (slice_index back) next_back)
through_undone n there back next next_back i j k lt =
    let long = i.long in
    let as_long = i.as_long in
    let next_long = j.long in
    let next_as_long = j.as_long in
    let size = length-map there (slice_index next) in
    let as_size = length-map next_back (slice_index back) in
    let m = get_or there k 0 in
    let at = i.undone k (omega arith) in
    let below_m = at.0 in
    let on = j.undone m (omega arith) in
    let below_on = on.0 in
    let goes : get_or (map (slice_index next) there) k 0 ≡ get_or next m 0 = get_or-map (slice_index next) there k 0 0 (omega arith) in
    let comes : get_or (map (slice_index back) next_back) (get_or next m 0) 0 ≡ get_or back (get_or next_back (get_or next m 0) 0) 0 =
    get_or-map (slice_index back) next_back (get_or next m 0) 0 0 (omega arith) in (
      omega arith,
      ap (λ (p : ℕ). get_or (map (slice_index back) next_back) p 0) goes ∙ (comes ∙ (ap (λ (p : ℕ). get_or back p 0) on.1 ∙ at.1)),
    )

through_inverse : (n : ℕ) (there back next next_back : List ℕ) → AreInverse n there back → AreInverse n next next_back
    → AreInverse n (map (slice_index next) there) (map (slice_index back) next_back)
through_inverse n there back next next_back i j = record {
  long = length-map there (slice_index next) ∙ i.long;
  as_long = length-map next_back (slice_index back) ∙ j.as_long;
  undone = through_undone n there back next next_back i j;
  redone = through_undone n next_back next back there (turned_over n next next_back j) (turned_over n there back i);
}

through_name : (n e : ℕ) (there back next : List ℕ) → AreInverse n there back → is_edge n e ≡ true
    → new_name (map (slice_index next) there) e ≡ new_name next (new_name there e)
through_name n e there back next i h =
    let known = edge_from n e h in
    let low = known.0 in
    let high = known.1 in
    let long = i.long in
    let same : get_or there (e - 1) 0 ≡ get_or there (e - 1) 0 + 1 - 1 = omega arith in
    ap (λ (k : ℕ). k + 1) (get_or-map (slice_index next) there (e - 1) 0 0 (omega arith)) ∙ ap (λ (k : ℕ). get_or next k 0 + 1) same

through_crossing : (n : ℕ) (x : Crossing) (there back next : List ℕ) → AreInverse n there back → names_edges n x ≡ true
    → renamed (map (slice_index next) there) x ≡ renamed next (renamed there x)
through_crossing n x there back next i h =
    let e = edges_from n x h in
    let both = map (slice_index next) there in
    same_crossing (new_name both x.first) (new_name both x.second) (new_name both x.third) (new_name both x.fourth)
    (new_name next (new_name there x.first)) (new_name next (new_name there x.second))
    (new_name next (new_name there x.third)) (new_name next (new_name there x.fourth)) x.positive
    (through_name n x.first there back next i e.first) (through_name n x.second there back next i e.second)
    (through_name n x.third there back next i e.third) (through_name n x.fourth there back next i e.fourth)

pub through : (one two three : Code) (r s : Renaming) → IsRenaming one two r → IsRenaming two three s
    → IsRenaming one three (record {
      crossings = map (slice_index s.crossings) r.crossings;
      crossings_back = map (slice_index r.crossings_back) s.crossings_back;
      edges = map (slice_index s.edges) r.edges;
      edges_back = map (slice_index r.edges_back) s.edges_back;
    })
through one two three r s i j =
    let crossings = subst (λ (n : ℕ). AreInverse n s.crossings s.crossings_back) i.as_many_crossings j.crossings in
    let edges = subst (λ (n : ℕ). AreInverse n s.edges s.edges_back) i.as_many_edges j.edges in
    record {
      crossings = through_inverse (length one.crossings) r.crossings r.crossings_back s.crossings s.crossings_back i.crossings crossings;
      edges = through_inverse one.edges r.edges r.edges_back s.edges s.edges_back i.edges edges;
      as_many_crossings = j.as_many_crossings ∙ i.as_many_crossings;
      as_many_edges = j.as_many_edges ∙ i.as_many_edges;
      as_many_loops = j.as_many_loops ∙ i.as_many_loops;
      named = i.named;
      same = λ k lt d.
          let long = i.crossings.long in
          let as_long = i.crossings.as_long in
          let as_many = i.as_many_crossings in
          let at = (i.crossings.undone k (omega arith)).0 in
          let m = get_or r.crossings k 0 in
          through_crossing one.edges (get_or one.crossings k d) r.edges r.edges_back s.edges i.edges
          (All-get_or (λ x. names_edges one.edges x ≡ true) one.crossings k d lt i.named)
          ∙ (ap (renamed s.edges) (i.same k lt d)
          ∙ (j.same m (omega arith) d
          ∙ ap (λ (p : ℕ). get_or three.crossings p d) (sym (get_or-map (slice_index s.crossings) r.crossings k 0 0 (omega arith)))));
    }
