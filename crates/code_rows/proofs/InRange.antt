-- Where each name stands at two ends, the numbers of edges are those from 1 to twice the rows; so a code of the rows can have no faults but two.
use Rattle.std.proofs.Common.{◌≡◌, ◌<◌, ◌≤◌, ◌+◌, ◌*◌, ◌==◌, ◌&&◌, ◌∙◌, ◌∷◌, [], ℕ, zero, suc, Bool, true, false, not, List, Option, Some, None}
use Rattle.std.proofs.Common.{cond, length, get_or, count_by, refl, sym, ap, arith}
use Rattle.std.specs.Prelude.{slice_index, nat_lt, nat_le, if◌then◌else◌}
use Rattle.std.proofs.lemmas.Bool.{ltb-true, eqb-true, le-leb, and_from, not_from_true}
use Rattle.std.proofs.lemmas.List.{length-map, get_or-map}
use Rattle.std.proofs.lemmas.List.Sums.{sum_by-cons}
use Rattle.grid_core.specs.Fault.{lowest, or_next}
use Rattle.grid_core.proofs.Accepted.{lowest_none}
use Rattle.crossing_codes.specs.declared.crossing.Code.{Code}
use Rattle.crossing_codes.specs.CodeColouring.{is_edge, names_edges}
use Rattle.code_rows.specs.declared.code_fault.TheConstants.{MAX_CROSSINGS}
use Rattle.code_rows.specs.declared.code_fault.CodeFault.{CodeFault}
use Rattle.code_rows.specs.declared.code_fault.CodeFault.TheVariants.{Empty as CodeEmpty, Size, Count, Range, Edge as CodeEdge, Plane as CodePlane}
use Rattle.code_rows.specs.JoinedEdges.{is_joined}
use Rattle.code_rows.specs.CodeMap.{no_crossing, is_plane}
use Rattle.code_rows.specs.CodeFault.{first_code_fault}
use Rattle.code_rows.proofs.Faults.{edge_fault, behind}
use Rattle.code_rows.specs.declared.row.CodeRow.{CodeRow}
use Rattle.code_rows.specs.Rows.{all_names, edge_number, numbered_row, row_of_crossing, IsCodeOf}
use Rattle.code_rows.specs.declared.rows_fault.RowsFault.{RowsFault}
use Rattle.code_rows.specs.declared.rows_fault.RowsFault.TheVariants.{Empty, Edge}
use Rattle.code_rows.specs.RowsFault.{ends_of, least_unpaired, unpaired}
use Rattle.code_rows.proofs.Pairs.{all_paired}

-- a name is not less than itself
apart_by : (less same : Bool) → (less ≡ true → same ≡ true → ⊥) → cond less 1 0 + cond same 1 0 ≤ 1
apart_by true true both = absurd (both refl refl)
apart_by true false both = omega arith
apart_by false true both = omega arith
apart_by false false both = omega arith

apart : (name x : ℕ) → cond (nat_lt x name) 1 0 + cond (x == name) 1 0 ≤ 1
apart name x = apart_by (nat_lt x name) (x == name) (λ less same. omega (arith, ltb-true x name less, eqb-true x name same))

counted_apart : (name : ℕ) (xs : List ℕ) → count_by (λ m. nat_lt m name) xs + count_by (λ m. m == name) xs ≤ length xs
counted_apart name [] = omega arith
counted_apart name (x ∷ xs) =
    let less = sum_by-cons (λ m. cond (nat_lt m name) 1 0) x xs in
    let same = sum_by-cons (λ m. cond (m == name) 1 0) x xs in
    omega (arith, less, same, apart name x, counted_apart name xs)

number_most : (all : List ℕ) (n name : ℕ) → length all ≡ 4 * n → ends_of all name ≡ 2 → edge_number all name ≤ 2 * n
number_most all n name long two = omega (arith, counted_apart name all, long, two)

pub is_number : (all : List ℕ) (n name : ℕ) → length all ≡ 4 * n → ends_of all name ≡ 2 → is_edge (2 * n) (edge_number all name) ≡ true
is_number all n name long two =
    and_from (nat_le 1 (edge_number all name)) (nat_le (edge_number all name) (2 * n)) (le-leb 1 (edge_number all name) (omega arith))
    (le-leb (edge_number all name) (2 * n) (number_most all n name long two))

pub names_long : (rows : List CodeRow) → length (all_names rows) ≡ 4 * length rows
names_long [] = refl
names_long (r ∷ rows) = let rest = names_long rows in omega (arith, rest)

-- what stands at all ends stands at the four of a row
at_ends : (P : ℕ → Type 0) (rows : List CodeRow) → ((k : ℕ) → k < length (all_names rows) → P (slice_index (all_names rows) k))
    → (d : CodeRow) (k : ℕ) → k < length rows
    → P (get_or rows k d).first × P (get_or rows k d).second × P (get_or rows k d).third × P (get_or rows k d).fourth
at_ends P [] all d k lt = absurd (omega (arith, lt))
at_ends P (r ∷ rows) all d zero lt = (all 0 (omega arith), all 1 (omega arith), all 2 (omega arith), all 3 (omega arith))
at_ends P (r ∷ rows) all d (suc k) lt = at_ends P rows (λ i within. all (suc (suc (suc (suc i)))) (omega (arith, within))) d k (omega (arith, lt))

-- the row of the crossing that is none
abbrev no_row : CodeRow
no_row = row_of_crossing no_crossing

code_long : (rows : List CodeRow) (loops : ℕ) (c : Code) → IsCodeOf rows loops c → length c.crossings ≡ length rows
code_long rows loops c of = sym (length-map c.crossings row_of_crossing) ∙ (ap length of.rows ∙ length-map rows (numbered_row (all_names rows)))

code_row : (rows : List CodeRow) (loops : ℕ) (c : Code) → IsCodeOf rows loops c → (k : ℕ) → k < length rows
    → row_of_crossing (get_or c.crossings k no_crossing) ≡ numbered_row (all_names rows) (get_or rows k no_row)
code_row rows loops c of k lt =
    sym (get_or-map row_of_crossing c.crossings k no_crossing no_row (omega (arith, lt, code_long rows loops c of)))
    ∙ (ap (λ (rs : List CodeRow). get_or rs k no_row) of.rows ∙ get_or-map (numbered_row (all_names rows)) rows k no_row no_row lt)

named : (rows : List CodeRow) (loops : ℕ) (c : Code) → IsCodeOf rows loops c
    → ((k : ℕ) → k < length (all_names rows) → ends_of (all_names rows) (slice_index (all_names rows) k) ≡ 2)
    → (k : ℕ) → k < length rows → names_edges (2 * length rows) (get_or c.crossings k no_crossing) ≡ true
named rows loops c of two k lt =
    let all = all_names rows in
    let n = length rows in
    let x = get_or c.crossings k no_crossing in
    let r = get_or rows k no_row in
    let ends = at_ends (λ name. ends_of all name ≡ 2) rows two no_row k lt in
    let is = code_row rows loops c of k lt in
    let number = λ (name : ℕ) (e : ends_of all name ≡ 2). is_number all n name (names_long rows) e in
    let first = ap (λ (q : CodeRow). is_edge (2 * n) q.first) is ∙ number r.first ends.0 in
    let second = ap (λ (q : CodeRow). is_edge (2 * n) q.second) is ∙ number r.second ends.1 in
    let third = ap (λ (q : CodeRow). is_edge (2 * n) q.third) is ∙ number r.third ends.2 in
    let fourth = ap (λ (q : CodeRow). is_edge (2 * n) q.fourth) is ∙ number r.fourth ends.3 in
    ap (λ b. b && is_edge (2 * n) x.second && is_edge (2 * n) x.third && is_edge (2 * n) x.fourth) first
    ∙ (ap (λ b. b && is_edge (2 * n) x.third && is_edge (2 * n) x.fourth) second
    ∙ (ap (λ b. b && is_edge (2 * n) x.fourth) third ∙ fourth))

-- a code of the rows has no faults but that of an edge and that of the plane
pub fault_of_code : (rows : List CodeRow) (loops : ℕ) (c : Code) → IsCodeOf rows loops c → length rows ≤ MAX_CROSSINGS
    → (length rows == 0) && (loops == 0) ≡ false
    → ((k : ℕ) → k < length (all_names rows) → ends_of (all_names rows) (slice_index (all_names rows) k) ≡ 2)
    → edge_fault (lowest (λ e. not (is_joined c.crossings (e + 1))) c.edges) (is_plane c.crossings) ≡ first_code_fault c
fault_of_code rows loops c of few full two =
    let long = code_long rows loops c of in
    let n = length c.crossings in
    behind c
    (ap (λ (m : ℕ). (m == 0) && (c.loops == 0)) long ∙ (ap (λ (m : ℕ). (length rows == 0) && (m == 0)) of.loops ∙ full))
    (omega (arith, long, few)) (of.edges ∙ ap (λ (m : ℕ). 2 * m) (sym long))
    (lowest_none (λ k. not (names_edges c.edges (get_or c.crossings k no_crossing))) n
    (λ k lt. ap (λ (m : ℕ). not (names_edges m (get_or c.crossings k no_crossing))) of.edges
    ∙ not_from_true (names_edges (2 * length rows) (get_or c.crossings k no_crossing)) (named rows loops c of two k (omega (arith, lt, long)))))
    (lowest (λ e. not (is_joined c.crossings (e + 1))) c.edges) refl (is_plane c.crossings) refl

empty_by : (t : Bool) (o : Option ℕ) → (if t then Some Empty else or_next o (λ name. Edge name) None) ≡ None → (t ≡ false) × (o ≡ None)
empty_by true o e = absurd (let no : ◌≡◌ {A = Option RowsFault} (Some Empty) None = e in cc)
empty_by false None e = (refl, refl)
empty_by false (Some name) e = absurd (let no : ◌≡◌ {A = Option RowsFault} (Some (Edge name)) None = e in cc)

-- the same of rows without such a fault
pub only_two_faults : (rows : List CodeRow) (loops : ℕ) (c : Code) → IsCodeOf rows loops c → length rows ≤ MAX_CROSSINGS → unpaired rows loops ≡ None
    → edge_fault (lowest (λ e. not (is_joined c.crossings (e + 1))) c.edges) (is_plane c.crossings) ≡ first_code_fault c
only_two_faults rows loops c of few none =
    let parts = empty_by ((length rows == 0) && (loops == 0)) (least_unpaired (all_names rows)) none in
    fault_of_code rows loops c of few parts.0 (all_paired (all_names rows) parts.1)

-- whether a fault is behind those of the numbers
abbrev pub is_late : CodeFault → Bool
is_late CodeEmpty = false
is_late Size = false
is_late Count = false
is_late (Range k) = false
is_late (CodeEdge e) = true
is_late CodePlane = true

late_by : (o : Option ℕ) (plane : Bool) (f : CodeFault) → edge_fault o plane ≡ Some f → is_late f ≡ true
late_by (Some e) plane f is =
    let same : CodeEdge (e + 1) ≡ f = (let it : ◌≡◌ {A = Option CodeFault} (Some (CodeEdge (e + 1))) (Some f) = is in cc) in sym (ap is_late same)
late_by None true f is = absurd (let no : ◌≡◌ {A = Option CodeFault} None (Some f) = is in cc)
late_by None false f is =
    let same : CodePlane ≡ f = (let it : ◌≡◌ {A = Option CodeFault} (Some CodePlane) (Some f) = is in cc) in sym (ap is_late same)

not_plane : (o : Option ℕ) (plane : Bool) → edge_fault o plane ≡ Some CodePlane → plane ≡ false
not_plane (Some e) plane is = absurd (let no : ◌≡◌ {A = Option CodeFault} (Some (CodeEdge (e + 1))) (Some CodePlane) = is in cc)
not_plane None true is = absurd (let no : ◌≡◌ {A = Option CodeFault} None (Some CodePlane) = is in cc)
not_plane None false is = refl

pub late_fault : (rows : List CodeRow) (loops : ℕ) (c : Code) → IsCodeOf rows loops c → length rows ≤ MAX_CROSSINGS → unpaired rows loops ≡ None
    → (f : CodeFault) → first_code_fault c ≡ Some f → is_late f ≡ true
late_fault rows loops c of few none f is =
    late_by (lowest (λ e. not (is_joined c.crossings (e + 1))) c.edges) (is_plane c.crossings) f (only_two_faults rows loops c of few none ∙ is)

pub plane_fails : (rows : List CodeRow) (loops : ℕ) (c : Code) → IsCodeOf rows loops c → length rows ≤ MAX_CROSSINGS → unpaired rows loops ≡ None
    → first_code_fault c ≡ Some CodePlane → is_plane c.crossings ≡ false
plane_fails rows loops c of few none is =
    not_plane (lowest (λ e. not (is_joined c.crossings (e + 1))) c.edges) (is_plane c.crossings) (only_two_faults rows loops c of few none ∙ is)
