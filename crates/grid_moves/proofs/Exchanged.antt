-- Exchanges of neighbours.
use Rattle.std.proofs.Common.{Bool, true, false, cond, Option, Some, None, ◌||◌, ◌≡◌, ◌<◌, ◌+◌, ◌∙◌, ℕ, List, length, get_or, arith, sym, refl, ap, inl, inr}
use Rattle.std.specs.List.{swap}
use Rattle.std.proofs.lemmas.Bool.{cases_eq}
use Rattle.std.proofs.lemmas.Bool.Decides.{nat_tests}
use Rattle.std.proofs.lemmas.List.{get_or-map, length-map}
use Rattle.std.proofs.lemmas.List.Edits.{swapped_from_swap, length-swap}
use Rattle.grid_core.specs.declared.mark.Kind.{Kind}
use Rattle.grid_core.specs.declared.mark.Kind.TheVariants.{Cross, Ring}
use Rattle.grid_core.specs.Diagram.{Diagram, IsGrid, size, row_of}
use Rattle.grid_moves.specs.Renumbered.{Renumbered, unchanged}
use Rattle.grid_moves.specs.Exchange.{exchanged}
use Rattle.grid_moves.specs.Exchanged.{columns_exchanged, rows_exchanged}
use Rattle.grid_core.specs.declared.span.Span.{Span}
use Rattle.grid_core.specs.Span.{share_an_end, are_disjoint, are_nested}
use Rattle.grid_core.specs.Parts.{column_span, ends}
use Rattle.grid_moves.specs.declared.step.Move.TheVariants.{ExchangeColumns, ExchangeRows}
use Rattle.grid_moves.specs.declared.step.MoveFault.{MoveFault}
use Rattle.grid_moves.specs.declared.step.MoveFault.TheVariants.{Touching, Interleaved}
use Rattle.grid_moves.specs.Exchange.{MayExchange}
use Rattle.grid_moves.specs.MoveFault.{exchange_fault}
use Rattle.grid_moves.specs.Step.{Step}
use Rattle.grid_moves.proofs.Renumbering.{Permutes, unchanged-permutes, renumbered_grid}

pub exchanged-twice : (i c : ℕ) → exchanged i (exchanged i c) ≡ c
exchanged-twice i c = grind (arith, nat_tests)

pub exchanged-below : (i n c : ℕ) → i + 1 < n → c < n → exchanged i c < n
exchanged-below i n c inside lt = grind (arith, nat_tests)

pub exchanged-permutes : (i n : ℕ) → i + 1 < n → Permutes n (exchanged i)
exchanged-permutes i n inside = record {
  below = λ c lt. exchanged-below i n c inside lt;
  same = λ b c hb hc e. sym (exchanged-twice i b) ∙ ap (exchanged i) e ∙ exchanged-twice i c;
  onto = λ c lt. (exchanged i c, exchanged-below i n c inside lt, exchanged-twice i c);
}

swap_exchanged : (xs : List ℕ) (c b : ℕ) → c + 1 < length xs → get_or (swap xs c (c + 1)) (exchanged c b) 0 ≡ get_or xs b 0
swap_exchanged xs c b inside =
    let s = swapped_from_swap xs (swap xs c (c + 1)) c (c + 1) 0 (omega arith) inside refl in
    let at : (m k : ℕ) → m ≡ k → get_or (swap xs c (c + 1)) m 0 ≡ get_or (swap xs c (c + 1)) k 0 = λ m k q. ap (λ (z : ℕ). get_or (swap xs c (c + 1)) z 0) q in
    let of : (m k : ℕ) → m ≡ k → get_or xs m 0 ≡ get_or xs k 0 = λ m k q. ap (λ (z : ℕ). get_or xs z 0) q in
    elim (cases_eq b c) [
      | inl is ↦ at (exchanged c b) (c + 1) (grind (arith, nat_tests)) ∙ s.1 ∙ of c b (sym is)
      | inr no_c ↦ elim (cases_eq b (c + 1)) [
        | inl is ↦ at (exchanged c b) c (grind (arith, nat_tests)) ∙ s.0 ∙ of (c + 1) b (sym is)
        | inr far ↦ at (exchanged c b) b (grind (arith, nat_tests)) ∙ s.2 b no_c far
      ]
    ]

pub columns_exchanged-renumbered : (c : ℕ) (d : Diagram) → IsGrid d → c + 1 < size d → Renumbered (exchanged c) unchanged d (columns_exchanged c d)
columns_exchanged-renumbered c d grid inside = record {
  same_size = length-swap d.x c (c + 1);
  marks = λ kind b r mark. record {
    inside = omega (arith, length-swap d.x c (c + 1), exchanged-below c (size d) b inside mark.inside);
    row = rows kind b ∙ mark.row;
  };
}
  where
    rows : (kind : Kind) (b : ℕ) → row_of kind (columns_exchanged c d) (exchanged c b) ≡ row_of kind d b
    rows Cross b = swap_exchanged d.x c b inside
    rows Ring b = swap_exchanged d.o c b (omega (arith, inside, grid.same))

pub rows_exchanged-renumbered : (r : ℕ) (d : Diagram) → IsGrid d → Renumbered unchanged (exchanged r) d (rows_exchanged r d)
rows_exchanged-renumbered r d grid = record {
  same_size = length-map d.x (exchanged r);
  marks = λ kind b s mark. record {
    inside = omega (arith, length-map d.x (exchanged r), mark.inside);
    row = rows kind b mark.inside ∙ ap (exchanged r) mark.row;
  };
}
  where
    rows : (kind : Kind) (b : ℕ) → b < size d → row_of kind (rows_exchanged r d) b ≡ exchanged r (row_of kind d b)
    rows Cross b lt = get_or-map (exchanged r) d.x b 0 0 lt
    rows Ring b lt = get_or-map (exchanged r) d.o b 0 0 (omega (arith, lt, grid.same))

pub columns_exchanged-grid : (c : ℕ) (d : Diagram) → IsGrid d → c + 1 < size d → IsGrid (columns_exchanged c d)
columns_exchanged-grid c d grid inside =
    renumbered_grid (exchanged c) unchanged d (columns_exchanged c d) (exchanged-permutes c (size d) inside) (unchanged-permutes (size d)) grid
    (omega (arith, length-swap d.x c (c + 1), length-swap d.o c (c + 1), grid.same)) (columns_exchanged-renumbered c d grid inside)

pub rows_exchanged-grid : (r : ℕ) (d : Diagram) → IsGrid d → r + 1 < size d → IsGrid (rows_exchanged r d)
rows_exchanged-grid r d grid inside =
    renumbered_grid unchanged (exchanged r) d (rows_exchanged r d) (unchanged-permutes (size d)) (exchanged-permutes r (size d) inside) grid
    (omega (arith, length-map d.x (exchanged r), length-map d.o (exchanged r), grid.same)) (rows_exchanged-renumbered r d grid)

may_exchange_by : (a b : Bool) → cond a (Some Touching) (cond b None (Some Interleaved)) ≡ None → (a ≡ false) × (b ≡ true)
may_exchange_by true b e = absurd (let no : ◌≡◌ {A = Option MoveFault} (Some Touching) None = e in cc)
may_exchange_by false true e = (refl, refl)
may_exchange_by false false e = absurd (let no : ◌≡◌ {A = Option MoveFault} (Some Interleaved) None = e in cc)

pub exchange_allowed : (s t : Span) → exchange_fault s t ≡ None → MayExchange s t
exchange_allowed s t e =
    let both = may_exchange_by (share_an_end s t) (are_disjoint s t || are_nested s t) e in
    record { different = both.0; placed = both.1 }

pub columns_exchanged-step : (c : ℕ) (d : Diagram) → IsGrid d → c + 1 < size d → exchange_fault (column_span d c) (column_span d (c + 1)) ≡ None
    → Step d (ExchangeColumns c) (columns_exchanged c d)
columns_exchanged-step c d grid inside free = record {
  before = grid;
  after = columns_exchanged-grid c d grid inside;
  marks = record {
    inside = inside;
    may_exchange = exchange_allowed (column_span d c) (column_span d (c + 1)) free;
    renumbered = columns_exchanged-renumbered c d grid inside;
  };
}

pub rows_exchanged-step : (r : ℕ) (d : Diagram) → IsGrid d → r + 1 < size d → exchange_fault (ends d r) (ends d (r + 1)) ≡ None
    → Step d (ExchangeRows r) (rows_exchanged r d)
rows_exchanged-step r d grid inside free = record {
  before = grid;
  after = rows_exchanged-grid r d grid inside;
  marks = record {
    inside = inside;
    may_exchange = exchange_allowed (ends d r) (ends d (r + 1)) free;
    renumbered = rows_exchanged-renumbered r d grid;
  };
}
