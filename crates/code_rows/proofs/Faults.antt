-- The first fault, case by case.
use Rattle.std.proofs.Common.{◌≡◌, ◌≤◌, ◌*◌, ◌+◌, ◌==◌, ◌&&◌, ◌∙◌, ℕ, Bool, false, List, Option, Some, None, not, length, sym, ap}
use Rattle.std.specs.Prelude.{slice_index_or, nat_le, if◌then◌else◌}
use Rattle.std.proofs.lemmas.Bool.{le-leb, eq-eqb}
use Rattle.grid_core.specs.Fault.{lowest, or_next}
use Rattle.crossing_codes.specs.declared.crossing.Code.{Code}
use Rattle.crossing_codes.specs.declared.crossing.Crossing.{Crossing}
use Rattle.crossing_codes.specs.CodeColouring.{names_edges}
use Rattle.code_rows.specs.declared.code_fault.TheConstants.{MAX_CROSSINGS}
use Rattle.code_rows.specs.declared.code_fault.CodeFault.{CodeFault}
use Rattle.code_rows.specs.declared.code_fault.CodeFault.TheVariants.{Empty, Size, Count, Range, Edge, Plane}
use Rattle.code_rows.specs.JoinedEdges.{is_joined}
use Rattle.code_rows.specs.CodeMap.{no_crossing, is_plane}
use Rattle.code_rows.specs.CodeFault.{is_empty, first_code_fault}

-- what is left behind the faults that the code has not
abbrev pub edge_fault : Option ℕ → Bool → Option CodeFault
edge_fault edge plane = or_next edge (λ e. Edge (e + 1)) (if plane then None else Some Plane)

pub behind : (c : Code) → is_empty c ≡ false → length c.crossings ≤ MAX_CROSSINGS → c.edges ≡ 2 * length c.crossings
    → lowest (λ k. not (names_edges c.edges (slice_index_or c.crossings k no_crossing))) (length c.crossings) ≡ None
    → (edge : Option ℕ) → edge ≡ lowest (λ e. not (is_joined c.crossings (e + 1))) c.edges
    → (plane : Bool) → plane ≡ is_plane c.crossings
    → edge_fault edge plane ≡ first_code_fault c
behind c full size count named edge is plane same =
    let last = edge_fault (lowest (λ e. not (is_joined c.crossings (e + 1))) c.edges) (is_plane c.crossings) in
    let range : Option ℕ → Option CodeFault = λ o. or_next o (λ k. Range k) last in
    let counted : Bool → Option CodeFault =
    λ b. if not b then Some Count else range (lowest (λ k. not (names_edges c.edges (slice_index_or c.crossings k no_crossing))) (length c.crossings)) in
    let sized : Bool → Option CodeFault = λ b. if not b then Some Size else counted (c.edges == 2 * length c.crossings) in
    ap (λ o. edge_fault o plane) is
    ∙ (ap (λ b. edge_fault (lowest (λ e. not (is_joined c.crossings (e + 1))) c.edges) b) same
    ∙ (ap range (sym named)
    ∙ (ap counted (sym (eq-eqb c.edges (2 * length c.crossings) count))
    ∙ (ap sized (sym (le-leb (length c.crossings) MAX_CROSSINGS size))
    ∙ ap (λ b. if b then Some Empty else sized (nat_le (length c.crossings) MAX_CROSSINGS)) (sym full)))))

-- the same, told of the list of crossings
pub behind_all : (c : Code) (xs : List Crossing) → is_empty c ≡ false → xs ≡ c.crossings → length xs ≤ MAX_CROSSINGS → c.edges ≡ 2 * length xs
    → (named : Option ℕ) → named ≡ lowest (λ k. not (names_edges c.edges (slice_index_or xs k no_crossing))) (length xs) → named ≡ None
    → (edge : Option ℕ) → edge ≡ lowest (λ e. not (is_joined xs (e + 1))) c.edges
    → (plane : Bool) → plane ≡ is_plane xs
    → edge_fault edge plane ≡ first_code_fault c
behind_all c xs full same size count named named_is none edge is plane plane_is =
    behind (record { crossings = xs; edges = c.edges; loops = c.loops }) (ap (λ (ys : List Crossing). (length ys == 0) && (c.loops == 0)) same ∙ full)
    size count (sym named_is ∙ none) edge is plane plane_is
    ∙ ap (λ (ys : List Crossing). first_code_fault (record { crossings = ys; edges = c.edges; loops = c.loops })) same
