-- The spans of a diagram's columns as two lists, place by place.
use Rattle.std.proofs.Common.{◌≡◌, ◌<◌, ◌≤◌, ◌∙◌, ap, ap₂, ℕ, Bool, false, get_or, length, arith}
use Rattle.std.specs.Prelude.{nat_lt, ◌&&◌}
use Rattle.std.proofs.lemmas.Bool.{lt-ltb, le-ltb}
use Rattle.std.proofs.lemmas.List.FromFn.{get_or-map-range_with_len, length-map-range_with_len}
use Rattle.grid_core.specs.Diagram.{Diagram, IsGrid, size, row_of}
use Rattle.grid_core.specs.declared.mark.Kind.TheVariants.{Cross, Ring}
use Rattle.grid_core.specs.Parts.{covers}
use Rattle.grid_core.proofs.Ends.{low, high, span_low, span_high}
use Rattle.grid_core.proofs.Marks.{no_cell_twice}
use Rattle.lane_spans.specs.Columns.{AreSpans}
use Rattle.lane_spans.specs.Columns as lanes
use Rattle.colour_rows.specs.Spans.{spans_of}

low_at : (d : Diagram) (c : ℕ) → c < size d → get_or (spans_of d).lows c 0 ≡ low d c
low_at d c lt = get_or-map-range_with_len (low d) 0 (size d) c c 0 lt (omega arith)

high_at : (d : Diagram) (c : ℕ) → c < size d → get_or (spans_of d).highs c 0 ≡ high d c
high_at d c lt = get_or-map-range_with_len (high d) 0 (size d) c c 0 lt (omega arith)

pub how_many : (d : Diagram) → length (spans_of d).lows ≡ size d
how_many d = length-map-range_with_len (low d) 0 (size d)

pub columns_cover : (d : Diagram) (c r : ℕ) → c < size d → lanes.lane_covers (spans_of d).lows (spans_of d).highs r c ≡ covers d c r
columns_cover d c r lt =
    ap₂ (λ (a b : Bool). a && b) (ap (nat_lt c) (how_many d) ∙ lt-ltb c (size d) lt)
    (ap₂ (λ (l h : ℕ). nat_lt l r && nat_lt r h) (low_at d c lt) (high_at d c lt))

pub none_behind : (d : Diagram) (c r : ℕ) → size d ≤ c → lanes.lane_covers (spans_of d).lows (spans_of d).highs r c ≡ false
none_behind d c r le =
    ap (λ (b : Bool). b && (nat_lt (get_or (spans_of d).lows c 0) r && nat_lt r (get_or (spans_of d).highs c 0)))
    (ap (nat_lt c) (how_many d) ∙ le-ltb c (size d) le)

pub are_spans : (d : Diagram) → IsGrid d → AreSpans (spans_of d).lows (spans_of d).highs
are_spans d grid = λ c at.
    let inside : c < size d = omega (arith, at, how_many d) in
    let apart = no_cell_twice d grid c inside in
    omega (arith, apart, low_at d c inside, high_at d c inside, span_low (row_of Cross d c) (row_of Ring d c), span_high (row_of Cross d c) (row_of Ring d c))
