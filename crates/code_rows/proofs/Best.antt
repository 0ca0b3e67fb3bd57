-- How far ties join edges, step by step, and what follows for the codes of rows.
use Rattle.std.proofs.Common.{◌≡◌, ◌≢◌, ◌<◌, ◌≤◌, ◌⊎◌, ◌+◌, ◌*◌, ◌==◌, ◌||◌, ◌&&◌, ◌∙◌, ℕ, Bool, true, false, not, List, Option, Some, None}
use Rattle.std.proofs.Common.{map, length, get_or, refl, sym, ap, ap₂, subst, arith, inl, inr, zero-add}
use Rattle.std.specs.Prelude.{nat_lt, slice_index, if◌then◌else◌}
use Rattle.std.specs.List.{range_with_len}
use Rattle.std.proofs.lemmas.Bool.{eq-eqb, ne_eqb, cases_lt, not-false, not-true, both_ways}
use Rattle.std.proofs.lemmas.List.{length-map, same_lists, get_or_default}
use Rattle.std.proofs.lemmas.List.Quantifiers.{position-Some}
use Rattle.std.proofs.lemmas.List.FromFn.{length-range_with_len, get_or-range_with_len, length-map-range_with_len, get_or-map-range_with_len}
use Rattle.std.proofs.lemmas.Simd.{map-map}
use Rattle.grid_core.specs.Fault.{lowest}
use Rattle.grid_core.proofs.Accepted.{none_lowest}
use Rattle.crossing_codes.specs.declared.crossing.Code.{Code}
use Rattle.crossing_codes.specs.declared.crossing.Crossing.{Crossing}
use Rattle.code_rows.specs.declared.code_fault.TheConstants.{MAX_CROSSINGS}
use Rattle.code_rows.specs.declared.code_fault.CodeFault.{CodeFault}
use Rattle.code_rows.specs.declared.code_fault.CodeFault.TheVariants.{Edge, Plane}
use Rattle.code_rows.specs.JoinedEdges.{is_joined, AreJoined}
use Rattle.code_rows.specs.CodeMap.{is_plane}
use Rattle.code_rows.specs.CodeFault.{first_code_fault}
use Rattle.code_rows.proofs.Faults.{edge_fault}
use Rattle.code_rows.specs.declared.row.CodeRow.{CodeRow}
use Rattle.code_rows.specs.declared.row_signs.Tie.{Tie}
use Rattle.code_rows.specs.Rows.{all_names, name_of, numbered_row, row_of_crossing, IsCodeOf}
use Rattle.code_rows.specs.RowsFault.{ends_of, unpaired}
use Rattle.code_rows.specs.Refused.{IsClash}
use Rattle.code_rows.specs.RowSigns.{turned_by, value_of, tie_of, chosen_values, with_signs, AreBest, IsBest, JoinsIfTwo, JoinsEnds, Reached}
use Rattle.code_rows.proofs.InRange.{names_long, only_two_faults}
use Rattle.code_rows.proofs.Signed.{crossings_back}
use Rattle.code_rows.proofs.Joining.{joined_is, joined_twice}
use Rattle.code_rows.proofs.Tied.{leaves_by, tied_apart, tied_same, value_same, IsApart}

-- nothing is joined yet, and all signs are values of ties that are their own roots
abbrev free_tie : ℕ → Tie
free_tie k = record { root = k; turned = false }

pub free_ties_reach : (rows : List CodeRow) → Reached rows (map free_tie (range_with_len 0 (length rows))) 0
free_ties_reach rows =
    let n = length rows in
    record {
      long = length-map-range_with_len free_tie 0 n;
      reached = 0;
      within = omega arith;
      joined = λ values fixed e lt. absurd (omega (arith, lt));
      given = λ start signs same all. (own signs, own_fixed signs, own_signs signs same);
      none = λ low. absurd (omega (arith, low));
    }
  where
    own : List Bool → ℕ → Bool
    own signs r = if r == length rows then true else get_or signs r false

    own_fixed : (signs : List Bool) → own signs (length rows) ≡ true
    own_fixed signs = ap (λ q. if q then true else get_or signs (length rows) false) (eq-eqb (length rows) (length rows) refl)

    own_below : (signs : List Bool) (k : ℕ) → k < length rows → own signs k ≡ get_or signs k false
    own_below signs k lt =
        ap (λ q. if q then true else get_or signs k false) (ne_eqb k (length rows) (λ (e : k ≡ length rows). omega (arith, e, lt)))

    own_signs : (signs : List Bool) → length signs ≡ length rows
        → map (value_of (own signs)) (map free_tie (range_with_len 0 (length rows))) ≡ signs
    own_signs signs same =
        let n = length rows in
        let f = λ (k : ℕ). value_of (own signs) (free_tie k) in
        map-map (value_of (own signs)) free_tie (range_with_len 0 n)
        ∙ same_lists (map f (range_with_len 0 n)) signs (length-map-range_with_len f 0 n ∙ sym same)
        (λ k d lt.
        let low : k < n = let long = length-map-range_with_len f 0 n in omega (arith, lt, long) in
        get_or-map-range_with_len f 0 n k k d low (omega arith)
        ∙ (own_below signs k low ∙ get_or_default signs k false d (omega (arith, low, same))))

-- one edge more that is joined
joined_more : (xs : List Crossing) (m : ℕ) → AreJoined xs m → is_joined xs (m + 1) ≡ true → AreJoined xs (m + 1)
joined_more xs m all here e lt = elim (cases_lt e m) [
  | inl low ↦ all e low
  | inr high ↦ let same : m ≡ e = omega (arith, lt, high) in subst (λ (i : ℕ). is_joined xs (i + 1) ≡ true) same here
]

joined_fewer : (xs : List Crossing) (m k : ℕ) → k ≤ m → AreJoined xs m → AreJoined xs k
joined_fewer xs m k le all e lt = all e (omega (arith, lt, le))

-- the step where no edge is stuck yet and the values can differ
goes_on : (rows : List CodeRow) (before after : List Tie) (m : ℕ) → Reached rows before m → length after ≡ length rows
    → ((values : ℕ → Bool) → values (length rows) ≡ true → (others : ℕ → Bool) × (others (length rows) ≡ true)
    × (map (value_of values) after ≡ map (value_of others) before) × (is_joined (with_signs rows (map (value_of others) before)) (m + 1) ≡ true))
    → ((values : ℕ → Bool) → values (length rows) ≡ true → is_joined (with_signs rows (map (value_of values) before)) (m + 1) ≡ true
    → map (value_of values) after ≡ map (value_of values) before)
    → (r : ℕ) → r ≡ m → ((values : ℕ → Bool) → values (length rows) ≡ true → AreJoined (with_signs rows (map (value_of values) before)) r)
    → ((signs : List Bool) → length signs ≡ length rows → AreJoined (with_signs rows signs) m
    → (values : ℕ → Bool) × (values (length rows) ≡ true) × (map (value_of values) before ≡ signs))
    → Reached rows after (m + 1)
goes_on rows before after m old long back kept r is joined given =
    record {
      long = long;
      reached = m + 1;
      within = omega arith;
      joined = λ values fixed.
          let other = back values fixed in
          subst (λ (bs : List Bool). AreJoined (with_signs rows bs) (m + 1)) (sym other.2)
          (joined_more (with_signs rows (map (value_of other.0) before)) m
          (subst (λ (i : ℕ). AreJoined (with_signs rows (map (value_of other.0) before)) i) is (joined other.0 other.1)) other.3);
      given = λ now signs same all.
          let found = given signs same (joined_fewer (with_signs rows signs) (m + 1) m (omega arith) all) in
          let here : is_joined (with_signs rows (map (value_of found.0) before)) (m + 1) ≡ true =
          subst (λ (bs : List Bool). is_joined (with_signs rows bs) (m + 1) ≡ true) (sym found.2) (all m (omega arith)) in
          (found.0, found.1, kept found.0 found.1 here ∙ found.2);
      none = λ low. absurd (omega (arith, low));
    }

-- the step where an edge is stuck: the values stay, or come from others
stays : (rows : List CodeRow) (before after : List Tie) (m : ℕ) → Reached rows before m → length after ≡ length rows
    → ((values : ℕ → Bool) → values (length rows) ≡ true → (others : ℕ → Bool) × (others (length rows) ≡ true)
    × (map (value_of values) after ≡ map (value_of others) before))
    → (r : ℕ) → r ≤ m → ((values : ℕ → Bool) → values (length rows) ≡ true → AreJoined (with_signs rows (map (value_of values) before)) r)
    → ((signs : List Bool) → length signs ≡ length rows → AreJoined (with_signs rows signs) (r + 1) → ⊥)
    → Reached rows after (m + 1)
stays rows before after m old long back r le joined none =
    record {
      long = long;
      reached = r;
      within = omega (arith, le);
      joined = λ values fixed.
          let other = back values fixed in
          subst (λ (bs : List Bool). AreJoined (with_signs rows bs) r) (sym other.2) (joined other.0 other.1);
      given = λ now. absurd (omega (arith, now, le));
      none = λ low. none;
    }

same_back : (rows : List CodeRow) (before after : List Tie) → after ≡ before → (values : ℕ → Bool) → values (length rows) ≡ true
    → (others : ℕ → Bool) × (others (length rows) ≡ true) × (map (value_of values) after ≡ map (value_of others) before)
same_back rows before after same values fixed = (values, fixed, ap (λ (ts : List Tie). map (value_of values) ts) same)

-- whether as many edges are joined as there were steps
some_reached : (rows : List CodeRow) (ties : List Tie) (m : ℕ) (old : Reached rows ties m) → (old.reached < m) ⊎ (old.reached ≡ m)
some_reached rows ties m old =
    let le = old.within in
    elim (cases_lt old.reached m) [
      | inl low ↦ inl low
      | inr high ↦ inr (omega (arith, high, le))
    ]

-- by the values of ties an edge is joined exactly where the values at its ends differ
joined_by : (rows : List CodeRow) (ties : List Tie) (m : ℕ) → length ties ≡ length rows → (values : ℕ → Bool) → values (length rows) ≡ true
    → (one two : ℕ) → ends_of (all_names rows) (m + 1) ≡ 2 → one < two → two < length (all_names rows)
    → slice_index (all_names rows) one ≡ m + 1 → slice_index (all_names rows) two ≡ m + 1
    → is_joined (with_signs rows (map (value_of values) ties)) (m + 1) ≡ turned_by (value_of values (tie_of ties one)) (value_of values (tie_of ties two))
joined_by rows ties m long values fixed one two twice low lt first second =
    let all = names_long rows in
    let here : values (length ties) ≡ true = ap values long ∙ fixed in
    joined_is rows (map (value_of values) ties) (m + 1) one two (length-map ties (value_of values) ∙ long) twice low lt first second
    ∙ sym (ap₂ turned_by (leaves_by values ties here one (omega (arith, low, lt, all, long))) (leaves_by values ties here two (omega (arith, lt, all, long))))

step_apart : (rows : List CodeRow) (before after : List Tie) (m : ℕ) → (old : Reached rows before m) → (j : JoinsEnds (all_names rows) (m + 1) before after)
    → ((tie_of before j.one).root == (tie_of before j.two).root) ≡ false → Reached rows after (m + 1)
step_apart rows before after m old j ne =
    let one = tie_of before j.one in
    let two = tie_of before j.two in
    let long = old.long in
    let apart : IsApart one two before after = subst (λ (ts : List Tie). IsApart one two before ts) (sym j.is) (tied_apart one two before ne) in
    let joins = λ (values : ℕ → Bool) (fixed : values (length rows) ≡ true).
    joined_by rows before m long values fixed j.one j.two j.twice j.ascending j.within j.first j.second in
    let back = λ (values : ℕ → Bool) (fixed : values (length rows) ≡ true). apart.back values (ap values long ∙ fixed) in
    let longer : length after ≡ length rows = apart.long ∙ long in
    elim (some_reached rows before m old) [
      | inl low ↦
          stays rows before after m old longer
          (λ values fixed. let other = back values fixed in (other.0, sym (ap other.0 long) ∙ other.1, other.2)) old.reached old.within old.joined
          (old.none low)
      | inr is ↦
          goes_on rows before after m old longer
          (λ values fixed.
          let other = back values fixed in
          let kept : other.0 (length rows) ≡ true = sym (ap other.0 long) ∙ other.1 in
          (other.0, kept, other.2, joins other.0 kept ∙ other.3))
          (λ values fixed here. apart.kept values (sym (joins values fixed) ∙ here)) old.reached is old.joined (old.given is)
    ]

step_same : (rows : List CodeRow) (before after : List Tie) (m : ℕ) → (old : Reached rows before m) → (j : JoinsEnds (all_names rows) (m + 1) before after)
    → ((tie_of before j.one).root == (tie_of before j.two).root) ≡ true
    → (t : Bool) → turned_by (tie_of before j.one).turned (tie_of before j.two).turned ≡ t → Reached rows after (m + 1)
step_same rows before after m old j e t turns =
    let one = tie_of before j.one in
    let two = tie_of before j.two in
    let long = old.long in
    let same : after ≡ before = j.is ∙ tied_same one two before e in
    let longer : length after ≡ length rows = ap length same ∙ long in
    let joins = λ (values : ℕ → Bool) (fixed : values (length rows) ≡ true).
    joined_by rows before m long values fixed j.one j.two j.twice j.ascending j.within j.first j.second ∙ (value_same one two values e ∙ turns) in
    elim (some_reached rows before m old) [
      | inl low ↦ stays rows before after m old longer (same_back rows before after same) old.reached old.within old.joined (old.none low)
      | inr is ↦ by t joins same longer is
    ]
  where
    by : (u : Bool)
        → ((values : ℕ → Bool) → values (length rows) ≡ true → is_joined (with_signs rows (map (value_of values) before)) (m + 1) ≡ u)
        → after ≡ before → length after ≡ length rows → old.reached ≡ m → Reached rows after (m + 1)
    by true joins same longer is =
        goes_on rows before after m old longer
        (λ values fixed. (values, fixed, ap (λ (ts : List Tie). map (value_of values) ts) same, joins values fixed))
        (λ values fixed here. ap (λ (ts : List Tie). map (value_of values) ts) same) old.reached is old.joined (old.given is)
    by false joins same longer is =
        stays rows before after m old longer (same_back rows before after same) old.reached old.within old.joined
        (λ signs long all.
        let more : AreJoined (with_signs rows signs) (m + 1) = subst (λ (i : ℕ). AreJoined (with_signs rows signs) (i + 1)) is all in
        let found = old.given is signs long (joined_fewer (with_signs rows signs) (m + 1) m (omega arith) more) in
        both_ways (is_joined (with_signs rows (map (value_of found.0) before)) (m + 1)) (joins found.0 found.1)
        (subst (λ (bs : List Bool). is_joined (with_signs rows bs) (m + 1) ≡ true) (sym found.2) (more m (omega arith))))

step_none : (rows : List CodeRow) (before after : List Tie) (m : ℕ) → (old : Reached rows before m) → ends_of (all_names rows) (m + 1) ≢ 2
    → after ≡ before → Reached rows after (m + 1)
step_none rows before after m old ne same =
    let longer : length after ≡ length rows = ap length same ∙ old.long in
    elim (some_reached rows before m old) [
      | inl low ↦ stays rows before after m old longer (same_back rows before after same) old.reached old.within old.joined (old.none low)
      | inr is ↦
          stays rows before after m old longer (same_back rows before after same) old.reached old.within old.joined
          (λ signs long all. absurd (ne (joined_twice rows signs (m + 1) (all m (omega (arith, is))))))
    ]

pub step : (rows : List CodeRow) (before after : List Tie) (m : ℕ) → Reached rows before m → JoinsIfTwo (all_names rows) (m + 1) before after
    → Reached rows after (m + 1)
step rows before after m old joining = elim joining [
  | inl j ↦ by j ((tie_of before j.one).root == (tie_of before j.two).root) refl
  | inr p ↦ step_none rows before after m old p.0 p.1
]
  where
    by : (j : JoinsEnds (all_names rows) (m + 1) before after) (q : Bool) → ((tie_of before j.one).root == (tie_of before j.two).root) ≡ q
        → Reached rows after (m + 1)
    by j true e = step_same rows before after m old j e (turned_by (tie_of before j.one).turned (tie_of before j.two).turned) refl
    by j false e = step_apart rows before after m old j e

-- the signs by chosen values
pub best_signs : (rows : List CodeRow) (ties : List Tie) (chosen : List Bool) → Reached rows ties (2 * length rows)
    → AreBest rows (map (value_of (chosen_values (length ties) chosen)) ties)
best_signs rows ties chosen r =
    let values = chosen_values (length ties) chosen in
    let fixed : values (length ties) ≡ true =
    ap (λ q. q || (nat_lt (length ties) (length chosen) && get_or chosen (length ties) false)) (eq-eqb (length ties) (length ties) refl) in
    record {
      long = length-map ties (value_of values) ∙ r.long;
      reached = r.reached;
      within = r.within;
      joined = r.joined values (sym (ap values r.long) ∙ fixed);
      none = r.none;
    }

-- the code with such signs
pub best_code : (given : List CodeRow) (free : ℕ) (c : Code) (signs : List Bool) → IsCodeOf given free c
    → AreBest (map (numbered_row (all_names given)) given) signs → c.crossings ≡ with_signs (map (numbered_row (all_names given)) given) signs
    → IsBest given free c
best_code given free c signs of best is =
    let rows = map (numbered_row (all_names given)) given in
    let long : length rows ≡ length given = length-map given (numbered_row (all_names given)) in
    let within = best.within in
    let edges = of.edges in
    record {
      reached = best.reached;
      within = omega (arith, within, edges, long);
      joined = subst (λ (xs : List Crossing). AreJoined xs best.reached) (sym is) best.joined;
      none = λ low b b_of all.
          let signs_b = map (λ (x : Crossing). x.positive) b.crossings in
          let back : with_signs rows signs_b ≡ b.crossings =
          ap (λ (rs : List CodeRow). with_signs rs signs_b) (sym b_of.rows) ∙ crossings_back b.crossings in
          let count : length signs_b ≡ length rows =
          length-map b.crossings (λ (x : Crossing). x.positive) ∙ (sym (length-map b.crossings row_of_crossing) ∙ ap length b_of.rows) in
          best.none (omega (arith, low, edges, long)) signs_b count (subst (λ (xs : List Crossing). AreJoined xs (best.reached + 1)) (sym back) all);
    }

-- the first fault of a code with an edge at fault
some_edge : (o : Option ℕ) (plane : Bool) (edge : ℕ) → edge_fault o plane ≡ Some (Edge edge) → (i : ℕ) × (o ≡ Some i) × (edge ≡ i + 1)
some_edge (Some i) plane edge is = (i, refl, (let same : ◌≡◌ {A = Option CodeFault} (Some (Edge (i + 1))) (Some (Edge edge)) = is in cc))
some_edge None true edge is = absurd (let never : ◌≡◌ {A = Option CodeFault} None (Some (Edge edge)) = is in cc)
some_edge None false edge is = absurd (let never : ◌≡◌ {A = Option CodeFault} (Some Plane) (Some (Edge edge)) = is in cc)

-- below the lowest edge that isn't joined, edges are joined
below_lowest : (xs : List Crossing) (n i : ℕ) → lowest (λ e. not (is_joined xs (e + 1))) n ≡ Some i → (i < n) × AreJoined xs i × (is_joined xs (i + 1) ≡ false)
below_lowest xs n i is =
    let test = λ (e : ℕ). not (is_joined xs (e + 1)) in
    let at = position-Some test (range_with_len 0 n) i 0 is in
    let inside : i < n = let long = length-range_with_len 0 n in let low = at.0 in omega (arith, low, long) in (
      inside,
      λ e low. not-false (is_joined xs (e + 1))
          (sym (ap test (get_or-range_with_len 0 n e 0 (omega (arith, low, inside)) ∙ zero-add e)) ∙ at.2 e low),
      not-true (is_joined xs (i + 1)) (sym (ap test (get_or-range_with_len 0 n i 0 inside ∙ zero-add i)) ∙ at.1),
    )

-- a code that isn't joined up to an edge has a lowest one
lowest_by : (xs : List Crossing) (n i : ℕ) → i < n → (AreJoined xs (i + 1) → ⊥)
    → (k : ℕ) × (k ≤ i) × (lowest (λ e. not (is_joined xs (e + 1))) n ≡ Some k)
lowest_by xs n i lt fails = by (lowest (λ e. not (is_joined xs (e + 1))) n) refl
  where
    by : (o : Option ℕ) → lowest (λ e. not (is_joined xs (e + 1))) n ≡ o
        → (k : ℕ) × (k ≤ i) × (lowest (λ e. not (is_joined xs (e + 1))) n ≡ Some k)
    by None is =
        absurd (fails (λ e low. not-false (is_joined xs (e + 1)) (none_lowest (λ j. not (is_joined xs (j + 1))) n is e (omega (arith, low, lt)))))
    by (Some k) is = elim (cases_lt i k) [
      | inl high ↦
          let below = below_lowest xs n k is in
          absurd (fails (joined_fewer xs k (i + 1) (omega (arith, high)) below.1))
      | inr le ↦ (k, le, is)
    ]

-- a code of the rows has the fault of that edge
fault_at : (given : List CodeRow) (free : ℕ) (c : Code) → IsCodeOf given free c → length given ≤ MAX_CROSSINGS → unpaired given free ≡ None
    → (k : ℕ) → lowest (λ e. not (is_joined c.crossings (e + 1))) c.edges ≡ Some k → first_code_fault c ≡ Some (Edge (k + 1))
fault_at given free c of few paired k is =
    sym (only_two_faults given free c of few paired) ∙ ap (λ (o : Option ℕ). edge_fault o (is_plane c.crossings)) is

pub clash : (given : List CodeRow) (free : ℕ) (c : Code) → IsCodeOf given free c → length given ≤ MAX_CROSSINGS → unpaired given free ≡ None
    → IsBest given free c → (edge : ℕ) → first_code_fault c ≡ Some (Edge edge) → IsClash given free (name_of (all_names given) edge)
clash given free c of few paired best edge fault =
    let found = some_edge (lowest (λ e. not (is_joined c.crossings (e + 1))) c.edges) (is_plane c.crossings) edge
    (only_two_faults given free c of few paired ∙ fault) in
    let i = found.0 in
    let below = below_lowest c.crossings c.edges i found.1 in
    let lt = below.0 in
    let is = found.2 in
    let low : best.reached ≤ i = elim (cases_lt i best.reached) [
      | inl high ↦ absurd (both_ways (is_joined c.crossings (i + 1)) below.2 (best.joined i high))
      | inr le ↦ le
    ] in
    record {
      edge = edge;
      is = refl;
      code = c;
      of = of;
      fault = fault;
      all = λ b b_of.
          let same : b.edges ≡ c.edges = b_of.edges ∙ sym of.edges in
          let first = lowest_by b.crossings b.edges i (omega (arith, lt, same))
          (λ all. best.none (omega (arith, low, lt)) b b_of (joined_fewer b.crossings (i + 1) (best.reached + 1) (omega (arith, low)) all)) in
          let le = first.1 in (
            first.0 + 1,
            omega (arith, le, is),
            fault_at given free b b_of few paired first.0 first.2,
          );
    }
