-- Slides: from the step and the table to the lists of the laws.
use Rattle.std.proofs.Common.{◌≡◌, ◌≢◌, ◌∙◌, ◌<◌, ◌+◌, ℕ, suc, List, map, ap, sym, refl, arith, inl, inr, add-one}
use Rattle.std.specs.Prelude.{true, ◌⊎◌, slice_index}
use Rattle.std.proofs.lemmas.Bool.{cases_eq}
use Rattle.std.proofs.lemmas.Bool.Decides.{nat_tests}
use Rattle.std.proofs.lemmas.List.{length-map}
use Rattle.grid_core.specs.declared.mark.Kind.{Kind}
use Rattle.grid_core.specs.declared.mark.Kind.TheVariants.{Cross, Ring}
use Rattle.grid_core.specs.Diagram.{Diagram, IsGrid, HasMark, size, row_of}
use Rattle.grid_core.specs.Span.{span, share_an_end}
use Rattle.grid_core.specs.Parts.{column_of}
use Rattle.grid_core.proofs.Marks.{row_below, row_once, column_mark}
use Rattle.grid_moves.specs.declared.step.Move.TheVariants.{SlideColumns, SlideRows}
use Rattle.grid_moves.specs.Exchange.{exchanged}
use Rattle.grid_moves.specs.Step.{Step}
use Rattle.grid_moves.proofs.OneResult.{step_moved}
use Rattle.quandle_core.specs.Quandle.{Table, IsQuandle}
use Rattle.colour_rows.specs.Colouring.{IsColouring}
use Rattle.quandle_core.specs.Bijection.{IsBijection}
use Rattle.colour_laws.specs.Carried.{carried}
use Rattle.colour_laws.proofs.ColumnLists.{swapped}
use Rattle.colour_laws.proofs.ColouredColumns.{bare, IsSharing, HasBoth}
use Rattle.colour_laws.proofs.Rows.{ends_cross, ends_ring}
use Rattle.colour_laws.proofs.ByPlaces.{column_at, sharing_at, both_at}
use Rattle.colour_laws.proofs.ExchangeSteps.{exchanged_swapped, map_same}
use Rattle.colour_laws.proofs.ColumnExchangeSteps.{marks_traded}
use Rattle.colour_laws.proofs.Walks.{by_columns}
use Rattle.colour_laws.proofs.ColumnSlides.{columns_slid, one_colour}
use Rattle.colour_laws.proofs.RowSlides.{rows_slid}
use Rattle.colour_laws.proofs.Bijections.{bijection_from}

-- two intervals that share an end share one mark's place, of one kind in the one and of the other kind in the other
shared_end : (a b c d : ℕ) → share_an_end (span a b) (span c d) ≡ true → a ≢ c → b ≢ d → (a ≡ d) ⊎ (b ≡ c)
shared_end a b c d shared n m = elim (cases_eq a d) [
  | inl e ↦ inl e
  | inr far ↦ elim (cases_eq b c) [
    | inl e ↦ inr e
    | inr other ↦ absurd (grind (arith, nat_tests, shared, n, m, far, other))
  ]
]

-- of two neighbouring columns that share a row
pub sharing : (d : Diagram) (c : ℕ) → IsGrid d → c + 1 < size d
    → share_an_end (span (row_of Cross d c) (row_of Ring d c)) (span (row_of Cross d (c + 1)) (row_of Ring d (c + 1))) ≡ true
    → (r : ℕ) × (r < size d) × IsSharing r c (bare d)
sharing d c grid lt shared =
    let here : c < size d = omega (arith, lt) in
    let next : c + 1 ≡ suc c = add-one c in
    let apart : (kind : Kind) → row_of kind d c ≢ row_of kind d (c + 1) = λ kind e. omega (arith, row_once d grid kind c (c + 1) here lt e) in
    let told = λ (r : ℕ). sharing_at r c d.x d.o (map (λ m. 0) d.x) (omega (arith, lt)) grid.same (length-map d.x (λ m. 0)) in
    elim (shared_end (row_of Cross d c) (row_of Ring d c) (row_of Cross d (c + 1)) (row_of Ring d (c + 1)) shared (apart Cross) (apart Ring)) [
      | inl e ↦ (row_of Cross d c, row_below d grid Cross c here, told (row_of Cross d c) (inl (refl, sym (e ∙ ap (row_of Ring d) next))))
      | inr e ↦ (row_of Ring d c, row_below d grid Ring c here, told (row_of Ring d c) (inr (refl, sym (e ∙ ap (row_of Cross d) next))))
    ]

pub slide_of_columns : (t : Table) → IsQuandle t → (d e : Diagram) (c : ℕ) → Step d (SlideColumns c) e
    → IsBijection (IsColouring t d) (IsColouring t e) (carried t d (SlideColumns c))
slide_of_columns t q d e c step =
    let m = step.marks in
    let marks = marks_traded c d e step.before step.after m.inside m.renumbered in
    let row = sharing d c step.before m.inside m.may_slide.shared in
    bijection_from t q d e step.before step.after (λ f. f) (λ f. f) (carried t d (SlideColumns c))
    (columns_slid t q d e step.before step.after row.0 c row.1 row.2 marks.0 marks.1) (λ f colouring. refl)

pub slid_colours : (t : Table) → IsQuandle t → (d e : Diagram) (c : ℕ) → Step d (SlideColumns c) e → (f : List ℕ) → IsColouring t d f
    → slice_index f c ≡ slice_index f (c + 1)
slid_colours t q d e c step f colouring =
    let m = step.marks in
    let row = sharing d c step.before m.inside m.may_slide.shared in
    one_colour t d step.before row.0 c row.1 row.2 f (by_columns t q d step.before f colouring) (omega (arith, m.inside)) ∙ ap (slice_index f) (sym (add-one c))

-- of two neighbouring rows that share a column
pub both : (d : Diagram) (r : ℕ) → IsGrid d → r + 1 < size d
    → share_an_end (span (column_of Cross d r) (column_of Ring d r)) (span (column_of Cross d (r + 1)) (column_of Ring d (r + 1))) ≡ true
    → HasBoth r (suc r) (bare d)
both d r grid lt shared =
    let here : r < size d = omega (arith, lt) in
    let next : r + 1 ≡ suc r = add-one r in
    let mark : (kind : Kind) (s : ℕ) → s < size d → HasMark d kind (column_of kind d s) s = λ kind s below. column_mark d grid kind s below in
    let apart : (kind : Kind) → column_of kind d r ≢ column_of kind d (r + 1) = λ kind e.
    let same : r ≡ r + 1 = sym (mark kind r here).row ∙ ap (row_of kind d) e ∙ (mark kind (r + 1) lt).row in omega (arith, same) in
    let told = λ (k : ℕ) (below : k < size d). both_at r (suc r) k d.x d.o (map (λ m. 0) d.x) below grid.same (length-map d.x (λ m. 0)) in
    elim (shared_end (column_of Cross d r) (column_of Ring d r) (column_of Cross d (r + 1)) (column_of Ring d (r + 1)) shared (apart Cross) (apart Ring)) [
      | inl e ↦
          told (column_of Cross d r) (mark Cross r here).inside
          (ends_cross r (column_at (column_of Cross d r) d.x d.o) (mark Cross r here).row)
          (ends_ring (suc r) (column_at (column_of Cross d r) d.x d.o) (ap (row_of Ring d) e ∙ (mark Ring (r + 1) lt).row ∙ next))
      | inr e ↦
          told (column_of Ring d r) (mark Ring r here).inside
          (ends_ring r (column_at (column_of Ring d r) d.x d.o) (mark Ring r here).row)
          (ends_cross (suc r) (column_at (column_of Ring d r) d.x d.o) (ap (row_of Cross d) e ∙ (mark Cross (r + 1) lt).row ∙ next))
    ]

pub slide_of_rows : (t : Table) → IsQuandle t → (d e : Diagram) (r : ℕ) → Step d (SlideRows r) e
    → IsBijection (IsColouring t d) (IsColouring t e) (carried t d (SlideRows r))
slide_of_rows t q d e r step =
    let m = step.marks in
    let is = step_moved d (SlideRows r) e step in
    bijection_from t q d e step.before step.after (λ f. f) (λ f. f) (carried t d (SlideRows r))
    (rows_slid t q d e step.before step.after r (omega (arith, m.inside)) (both d r step.before m.inside m.may_slide.shared)
    (ap (λ (f : Diagram). f.x) is ∙ map_same (exchanged r) (swapped r) (exchanged_swapped r) d.x)
    (ap (λ (f : Diagram). f.o) is ∙ map_same (exchanged r) (swapped r) (exchanged_swapped r) d.o)) (λ f colouring. refl)
