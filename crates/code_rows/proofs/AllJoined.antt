-- Codes whose edges are all joined, and other signs of a code without a fault.
use Rattle.std.proofs.Common.{◌≡◌, ◌≤◌, ◌+◌, ◌∙◌, ℕ, Bool, true, false, not, List, Option, Some, None, length, refl, sym, ap, subst}
use Rattle.std.proofs.lemmas.Bool.{not-false, not_from_true}
use Rattle.grid_core.specs.Fault.{lowest}
use Rattle.grid_core.proofs.Accepted.{lowest_none, none_lowest}
use Rattle.crossing_codes.specs.declared.crossing.Code.{Code}
use Rattle.crossing_codes.specs.declared.crossing.Crossing.{Crossing}
use Rattle.code_rows.specs.declared.code_fault.CodeFault.{CodeFault}
use Rattle.code_rows.specs.declared.code_fault.CodeFault.TheVariants.{Edge, Plane}
use Rattle.code_rows.specs.declared.code_fault.TheConstants.{MAX_CROSSINGS}
use Rattle.code_rows.specs.declared.row.CodeRow.{CodeRow}
use Rattle.code_rows.specs.JoinedEdges.{is_joined, AreJoined}
use Rattle.code_rows.specs.CodeMap.{is_plane}
use Rattle.code_rows.specs.CodeFault.{first_code_fault}
use Rattle.code_rows.specs.Rows.{IsCodeOf}
use Rattle.code_rows.specs.RowsFault.{unpaired}
use Rattle.code_rows.proofs.Faults.{edge_fault}
use Rattle.code_rows.proofs.InRange.{only_two_faults}
use Rattle.code_rows.proofs.Unsigned.{same_plane}

-- no edge is the lowest that isn't joined exactly where all are joined
pub joined_none : (xs : List Crossing) (n : ℕ) → AreJoined xs n → lowest (λ e. not (is_joined xs (e + 1))) n ≡ None
joined_none xs n all = lowest_none (λ e. not (is_joined xs (e + 1))) n (λ e lt. not_from_true (is_joined xs (e + 1)) (all e lt))

pub none_joined : (xs : List Crossing) (n : ℕ) → lowest (λ e. not (is_joined xs (e + 1))) n ≡ None → AreJoined xs n
none_joined xs n is e lt = not-false (is_joined xs (e + 1)) (none_lowest (λ j. not (is_joined xs (j + 1))) n is e lt)

-- the same of a list that is another one
pub all_joined : (xs ys : List Crossing) (n : ℕ) (o : Option ℕ) → xs ≡ ys → o ≡ lowest (λ e. not (is_joined xs (e + 1))) n → o ≡ None → AreJoined ys n
all_joined xs ys n o same is none = subst (λ (zs : List Crossing). AreJoined zs n) same (none_joined xs n (sym is ∙ none))

pub not_all_joined : (xs ys : List Crossing) (n k : ℕ) (o : Option ℕ) → xs ≡ ys → o ≡ lowest (λ e. not (is_joined xs (e + 1))) n → o ≡ Some k
    → AreJoined ys n → ⊥
not_all_joined xs ys n k o same is some all =
    let none = joined_none xs n (subst (λ (zs : List Crossing). AreJoined zs n) (sym same) all) in
    let never : ◌≡◌ {A = Option ℕ} (Some k) None = sym some ∙ (is ∙ none) in
    cc

none_of : (o : Option ℕ) (plane : Bool) → edge_fault o plane ≡ None → (o ≡ None) × (plane ≡ true)
none_of (Some e) plane is = absurd (let never : ◌≡◌ {A = Option CodeFault} (Some (Edge (e + 1))) None = is in cc)
none_of None true is = (refl, refl)
none_of None false is = absurd (let never : ◌≡◌ {A = Option CodeFault} (Some Plane) None = is in cc)

-- what no fault says of a code of rows whose names are paired
faultless : (rows : List CodeRow) (loops : ℕ) (c : Code) → length rows ≤ MAX_CROSSINGS → unpaired rows loops ≡ None → IsCodeOf rows loops c
    → first_code_fault c ≡ None → AreJoined c.crossings c.edges × (is_plane c.crossings ≡ true)
faultless rows loops c few none of is =
    let parts = none_of (lowest (λ e. not (is_joined c.crossings (e + 1))) c.edges) (is_plane c.crossings) (only_two_faults rows loops c of few none ∙ is) in
    (none_joined c.crossings c.edges parts.0, parts.1)

pub faultless_joined : (rows : List CodeRow) (loops : ℕ) (c : Code) → length rows ≤ MAX_CROSSINGS → unpaired rows loops ≡ None → IsCodeOf rows loops c
    → first_code_fault c ≡ None → AreJoined c.crossings c.edges
faultless_joined rows loops c few none of is = (faultless rows loops c few none of is).0

pub joined_faultless : (rows : List CodeRow) (loops : ℕ) (b c : Code) → length rows ≤ MAX_CROSSINGS → unpaired rows loops ≡ None
    → IsCodeOf rows loops b → IsCodeOf rows loops c → first_code_fault b ≡ None → AreJoined c.crossings c.edges → first_code_fault c ≡ None
joined_faultless rows loops b c few none b_of c_of is joined =
    let plane : is_plane c.crossings ≡ true =
    same_plane c.crossings b.crossings (c_of.rows ∙ sym b_of.rows) ∙ (faultless rows loops b few none b_of is).1 in
    sym (only_two_faults rows loops c c_of few none)
    ∙ (ap (λ (o : Option ℕ). edge_fault o (is_plane c.crossings)) (joined_none c.crossings c.edges joined) ∙ ap (edge_fault None) plane)
