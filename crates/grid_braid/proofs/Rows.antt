-- The strands around a row: those to the left of its ends, between them and to the right stay, and one strand moves.
use Rattle.std.proofs.Common.{◌≡◌, ◌≢◌, ◌<◌, ◌≤◌, ◌+◌, ◌-◌, ◌∷◌, ◌++◌, ◌∙◌, ◌⊎◌, inl, inr, [], ℕ, List, Bool, true, false, cond, length}
use Rattle.std.proofs.Common.{map, fold, reverse, All, arith, sym, ap, ap₂, length-append}
use Rattle.std.proofs.lemmas.Bool.{lt-ltb, le-ltb, cases_lt}
use Rattle.std.proofs.lemmas.List.Elements.{All-same}
use Rattle.std.proofs.lemmas.List.{map-append, length-map, length-reverse, reverse-reverse}
use Rattle.grid_core.specs.declared.mark.Kind.TheVariants.{Cross, Ring}
use Rattle.grid_core.specs.declared.span.Span.{Span}
use Rattle.grid_core.specs.Diagram.{Diagram, IsGrid, size, row_of}
use Rattle.grid_core.specs.Parts.{column_of, ends}
use Rattle.grid_core.proofs.Marks.{column_is, column_mark, no_cell_twice}
use Rattle.grid_core.proofs.Ends.{has_ends, span_low, span_high}
use Rattle.quandle_core.specs.Quandle.{Table, over, back}
use Rattle.braid_core.specs.Braid.{IsLetter}
use Rattle.braid_core.specs.Action.{action}
use Rattle.grid_braid.specs.Strands.{is_strand, strands_within, strands_at, strands_ahead, strands_between}
use Rattle.grid_braid.specs.Word.{leftward, rightward, row_letters}
use Rattle.grid_braid.specs.Sweep.{moved_colour}
use Rattle.grid_braid.proofs.Ranges.{filter_range, map_range, passing_cut, passing_first, passing_parts}
use Rattle.grid_braid.proofs.Heights.{at_ring, above_ring, at_cross, above_cross, runs_on}
use Rattle.grid_braid.proofs.Moved.{leftward_acts, rightward_acts, leftward_letters, rightward_letters}

-- the strands left and right of both ends
abbrev pub left_part : Diagram → ℕ → List ℕ
left_part d r = strands_within d r 0 (ends d r).low

abbrev pub right_part : Diagram → ℕ → List ℕ
right_part d r = strands_within d r ((ends d r).high + 1) (size d)

-- the strand moves left, from the column of the O to that of the X
pub record MovesLeft (d : Diagram) (r : ℕ) : Type 0 where
  pub ordered : column_of Cross d r < column_of Ring d r
  pub below : strands_at d r ≡ left_part d r ++ (strands_between d r ++ column_of Ring d r ∷ right_part d r)
  pub above : strands_at d (r + 1) ≡ left_part d r ++ column_of Cross d r ∷ (strands_between d r ++ right_part d r)
  pub ahead : strands_ahead d r ≡ left_part d r ++ strands_between d r

-- the strand moves right
pub record MovesRight (d : Diagram) (r : ℕ) : Type 0 where
  pub ordered : column_of Ring d r < column_of Cross d r
  pub below : strands_at d r ≡ left_part d r ++ column_of Ring d r ∷ (strands_between d r ++ right_part d r)
  pub above : strands_at d (r + 1) ≡ left_part d r ++ (strands_between d r ++ column_of Cross d r ∷ right_part d r)
  pub ahead : strands_ahead d r ≡ left_part d r

-- the marks of a row
pub record HasRow (d : Diagram) (r : ℕ) : Type 0 where
  pub cross_inside : column_of Cross d r < size d
  pub ring_inside : column_of Ring d r < size d
  pub cross_below : is_strand d r (column_of Cross d r) ≡ false
  pub cross_above : is_strand d (r + 1) (column_of Cross d r) ≡ true
  pub ring_below : is_strand d r (column_of Ring d r) ≡ true
  pub ring_above : is_strand d (r + 1) (column_of Ring d r) ≡ false
  pub elsewhere : (c : ℕ) → c < size d → c ≢ column_of Cross d r → c ≢ column_of Ring d r → is_strand d (r + 1) c ≡ is_strand d r c

pub has_row : (d : Diagram) → IsGrid d → (r : ℕ) → r < size d → HasRow d r
has_row d grid r lt =
    let a = column_of Cross d r in
    let b = column_of Ring d r in
    let cross = column_mark d grid Cross r lt in
    let ring = column_mark d grid Ring r lt in
    record {
      cross_inside = cross.inside;
      ring_inside = ring.inside;
      cross_below = ap (λ (h : ℕ). is_strand d h a) (sym cross.row) ∙ at_cross (row_of Cross d a) (row_of Ring d a) (no_cell_twice d grid a cross.inside);
      cross_above =
          ap (λ (h : ℕ). is_strand d (h + 1) a) (sym cross.row) ∙ above_cross (row_of Cross d a) (row_of Ring d a) (no_cell_twice d grid a cross.inside);
      ring_below = ap (λ (h : ℕ). is_strand d h b) (sym ring.row) ∙ at_ring (row_of Cross d b) (row_of Ring d b) (no_cell_twice d grid b ring.inside);
      ring_above = ap (λ (h : ℕ). is_strand d (h + 1) b) (sym ring.row) ∙ above_ring (row_of Cross d b) (row_of Ring d b) (no_cell_twice d grid b ring.inside);
      elsewhere = λ c inside apart free.
          runs_on (row_of Cross d c) (row_of Ring d c) r
          (λ e. apart (sym (column_is d grid Cross c r (record { inside = inside; row = e }))))
          (λ e. free (sym (column_is d grid Ring c r (record { inside = inside; row = e }))));
    }

pub ends_left : (d : Diagram) (r : ℕ) → column_of Cross d r < column_of Ring d r → ends d r ≡ record { low = column_of Cross d r; high = column_of Ring d r }
ends_left d r lt = ap (λ (b : Bool). cond {A = Span} b (record { low = column_of Cross d r; high = column_of Ring d r })
    (record { low = column_of Ring d r; high = column_of Cross d r })) (lt-ltb (column_of Cross d r) (column_of Ring d r) lt)

pub ends_right : (d : Diagram) (r : ℕ) → column_of Ring d r ≤ column_of Cross d r → ends d r ≡ record { low = column_of Ring d r; high = column_of Cross d r }
ends_right d r le = ap (λ (b : Bool). cond {A = Span} b (record { low = column_of Cross d r; high = column_of Ring d r })
    (record { low = column_of Ring d r; high = column_of Cross d r })) (le-ltb (column_of Cross d r) (column_of Ring d r) le)

-- the strands at a height in parts, and the parts above the row are those below it
parts_at : (d : Diagram) (h lo hi : ℕ) (s t : Bool) → lo < hi → hi < size d → is_strand d h lo ≡ s → is_strand d h hi ≡ t → strands_at d h
    ≡ strands_within d h 0 lo ++ (cond s (lo ∷ []) [] ++ (strands_within d h (lo + 1) hi ++ (cond t (hi ∷ []) [] ++ strands_within d h (hi + 1) (size d))))
parts_at d h lo hi s t ordered inside at_lo at_hi =
    passing_parts (is_strand d h) lo hi (size d) ordered inside
    ∙ ap₂ (λ (u v : Bool). strands_within d h 0 lo ++ (cond u
    (lo ∷ []) [] ++ (strands_within d h (lo + 1) hi ++ (cond v (hi ∷ []) [] ++ strands_within d h (hi + 1) (size d))))) at_lo at_hi

part_above : (d : Diagram) (r from to : ℕ) → HasRow d r → to ≤ size d
    → ((c : ℕ) → from ≤ c → c < to → (c ≢ column_of Cross d r) × (c ≢ column_of Ring d r))
    → strands_within d (r + 1) from to ≡ strands_within d r from to
part_above d r from to row inside apart =
    filter_range (is_strand d (r + 1)) (is_strand d r) from (to - from)
    (λ c least most. let free = apart c least (omega arith) in row.elsewhere c (omega arith) free.0 free.1)

moves_left : (d : Diagram) (r : ℕ) → HasRow d r → column_of Cross d r < column_of Ring d r → MovesLeft d r
moves_left d r row lt =
    let a = column_of Cross d r in
    let b = column_of Ring d r in
    let e = ends_left d r lt in
    let inside = row.ring_inside in
    record {
      ordered = lt;
      below =
          parts_at d r a b false true lt row.ring_inside row.cross_below row.ring_below
          ∙ sym (ap (λ (s : Span). strands_within d r 0 s.low ++ (strands_within d r (s.low + 1) s.high ++ b ∷ strands_within d r (s.high + 1) (size d))) e);
      above =
          parts_at d (r + 1) a b true false lt row.ring_inside row.cross_above row.ring_above
          ∙ (ap₂ (λ (us vs : List ℕ). us ++ a ∷ (vs ++ strands_within d (r + 1) (b + 1) (size d)))
          (part_above d r 0 a row (omega arith) (λ c from to. (omega arith, omega arith)))
          (part_above d r (a + 1) b row (omega arith) (λ c from to. (omega arith, omega arith)))
          ∙ (ap (λ (us : List ℕ). strands_within d r 0 a ++ a ∷ (strands_within d r (a + 1) b ++ us))
          (part_above d r (b + 1) (size d) row (omega arith) (λ c from to. (omega arith, omega arith)))
          ∙ sym (ap (λ (s : Span). strands_within d r 0 s.low ++ a ∷ (strands_within d r (s.low + 1) s.high ++ strands_within d r (s.high + 1) (size d))) e)));
      ahead = ahead_left ∙ sym (ap (λ (s : Span). strands_within d r 0 s.low ++ strands_within d r (s.low + 1) s.high) e);
    }
  where
    ahead_left : strands_ahead d r ≡ strands_within d r 0 (column_of Cross d r) ++ strands_within d r (column_of Cross d r + 1) (column_of Ring d r)
    ahead_left =
        passing_cut (is_strand d r) 0 (column_of Cross d r) (column_of Ring d r) (omega arith) (omega arith)
        ∙ ap (λ (us : List ℕ). strands_within d r 0 (column_of Cross d r) ++ us)
        (passing_first (is_strand d r) (column_of Cross d r) (column_of Ring d r) lt
        ∙ ap (λ (b : Bool). cond b (column_of Cross d r ∷ []) [] ++ strands_within d r (column_of Cross d r + 1) (column_of Ring d r)) row.cross_below)

moves_right : (d : Diagram) (r : ℕ) → HasRow d r → column_of Ring d r < column_of Cross d r → MovesRight d r
moves_right d r row lt =
    let a = column_of Cross d r in
    let b = column_of Ring d r in
    let e = ends_right d r (omega arith) in
    let inside = row.cross_inside in
    record {
      ordered = lt;
      below =
          parts_at d r b a true false lt row.cross_inside row.ring_below row.cross_below
          ∙ sym (ap (λ (s : Span). strands_within d r 0 s.low ++ b ∷ (strands_within d r (s.low + 1) s.high ++ strands_within d r (s.high + 1) (size d))) e);
      above =
          parts_at d (r + 1) b a false true lt row.cross_inside row.ring_above row.cross_above
          ∙ (ap₂ (λ (us vs : List ℕ). us ++ (vs ++ a ∷ strands_within d (r + 1) (a + 1) (size d)))
          (part_above d r 0 b row (omega arith) (λ c from to. (omega arith, omega arith)))
          (part_above d r (b + 1) a row (omega arith) (λ c from to. (omega arith, omega arith)))
          ∙ (ap (λ (us : List ℕ). strands_within d r 0 b ++ (strands_within d r (b + 1) a ++ a ∷ us))
          (part_above d r (a + 1) (size d) row (omega arith) (λ c from to. (omega arith, omega arith)))
          ∙ sym (ap (λ (s : Span). strands_within d r 0 s.low ++ (strands_within d r (s.low + 1) s.high ++ a ∷ strands_within d r (s.high + 1) (size d))) e)));
      ahead = sym (ap (λ (s : Span). strands_within d r 0 s.low) e);
    }

pub row_moves : (d : Diagram) → IsGrid d → (r : ℕ) → r < size d → MovesLeft d r ⊎ MovesRight d r
row_moves d grid r lt =
    let row = has_row d grid r lt in
    elim (cases_lt (column_of Cross d r) (column_of Ring d r)) [
      | inl less ↦ inl (moves_left d r row less)
      | inr le ↦ inr (moves_right d r row (apart row le))
    ]
  where
    apart : HasRow d r → column_of Ring d r ≤ column_of Cross d r → column_of Ring d r < column_of Cross d r
    apart row le = elim (cases_lt (column_of Ring d r) (column_of Cross d r)) [
      | inl less ↦ less
      | inr ge ↦ absurd (let same : column_of Cross d r ≡ column_of Ring d r = omega arith in
          let no : ◌≡◌ {A = Bool} false true = sym row.cross_below ∙ (ap (is_strand d r) same ∙ row.ring_below) in cc)
    ]

-- a function of the columns at the strands in a part of the columns
part_mapped : (d : Diagram) (h from to : ℕ) (e f : ℕ → ℕ) → to ≤ size d → ((c : ℕ) → from ≤ c → c < to → is_strand d h c ≡ true → f c ≡ e c)
    → map e (strands_within d h from to) ≡ map f (strands_within d h from to)
part_mapped d h from to e f inside agree = map_range (is_strand d h) e f from (to - from) (λ c least most at. sym (agree c least (omega arith) at))

-- the letters of a row, on the colours of the strands below it, give those above it
record SameParts (d : Diagram) (r : ℕ) (e f : ℕ → ℕ) : Type 0 where
  left_same : map e (left_part d r) ≡ map f (left_part d r)
  between_same : map e (strands_between d r) ≡ map f (strands_between d r)
  right_same : map e (right_part d r) ≡ map f (right_part d r)

abbrev pub Stay : Diagram → ℕ → (ℕ → ℕ) → (ℕ → ℕ) → Type 0
Stay d r e f = (c : ℕ) → c < size d → is_strand d r c ≡ true → c ≢ column_of Ring d r → f c ≡ e c

same_parts : (d : Diagram) (r : ℕ) (e f : ℕ → ℕ) → IsGrid d → r < size d → Stay d r e f → SameParts d r e f
same_parts d r e f grid lt stay =
    let row = has_ends d grid r lt in
    let ordered = row.ordered in
    let within = row.within in
    let low = span_low (column_of Cross d r) (column_of Ring d r) in
    let high = span_high (column_of Cross d r) (column_of Ring d r) in
    record {
      left_same = part_mapped d r 0 (ends d r).low e f (omega arith) (λ c least most at. stay c (omega arith) at (omega arith));
      between_same = part_mapped d r ((ends d r).low + 1) (ends d r).high e f (omega arith) (λ c least most at. stay c (omega arith) at (omega arith));
      right_same = part_mapped d r ((ends d r).high + 1) (size d) e f (omega arith) (λ c least most at. stay c (omega arith) at (omega arith));
    }

map_moved : (e : ℕ → ℕ) (left between right : List ℕ) (c : ℕ) → map e (left ++ (between ++ c ∷ right)) ≡ map e left ++ (map e between ++ e c ∷ map e right)
map_moved e left between right c = map-append e left (between ++ c ∷ right) ∙ ap (λ (zs : List ℕ). map e left ++ zs) (map-append e between (c ∷ right))

map_first : (e : ℕ → ℕ) (left between right : List ℕ) (c : ℕ) → map e (left ++ c ∷ (between ++ right)) ≡ map e left ++ e c ∷ (map e between ++ map e right)
map_first e left between right c = map-append e left (c ∷ (between ++ right)) ∙ ap (λ (zs : List ℕ). map e left ++ e c ∷ zs) (map-append e between right)

-- the strand's new colour
pub moved_left : (t : Table) (d : Diagram) (e : ℕ → ℕ) (r : ℕ) → column_of Cross d r < column_of Ring d r
    → moved_colour t d e r ≡ fold (over t) (e (column_of Ring d r)) (reverse (map e (strands_between d r)))
moved_left t d e r lt =
    ap (λ (b : Bool). cond b (fold (back t) (e (column_of Ring d r)) (map e (strands_between d r)))
    (fold (over t) (e (column_of Ring d r)) (reverse (map e (strands_between d r)))))
    (le-ltb (column_of Ring d r) (column_of Cross d r) (omega arith))

pub moved_right : (t : Table) (d : Diagram) (e : ℕ → ℕ) (r : ℕ) → column_of Ring d r < column_of Cross d r
    → moved_colour t d e r ≡ fold (back t) (e (column_of Ring d r)) (map e (strands_between d r))
moved_right t d e r lt =
    ap (λ (b : Bool). cond b (fold (back t) (e (column_of Ring d r)) (map e (strands_between d r)))
    (fold (over t) (e (column_of Ring d r)) (reverse (map e (strands_between d r)))))
    (lt-ltb (column_of Ring d r) (column_of Cross d r) lt)

letters_left : (d : Diagram) (r : ℕ) → MovesLeft d r
    → row_letters d r ≡ leftward (length (left_part d r) + length (strands_between d r)) (length (strands_between d r))
letters_left d r m =
    let lt = m.ordered in
    ap (λ (b : Bool). cond b (rightward (length (strands_ahead d r)) (length (strands_between d r)))
    (leftward (length (strands_ahead d r)) (length (strands_between d r))))
    (le-ltb (column_of Ring d r) (column_of Cross d r) (omega arith))
    ∙ ap (λ (n : ℕ). leftward n (length (strands_between d r))) (ap length m.ahead ∙ length-append (left_part d r) (strands_between d r))

letters_right : (d : Diagram) (r : ℕ) → MovesRight d r → row_letters d r ≡ rightward (length (left_part d r)) (length (strands_between d r))
letters_right d r m =
    ap (λ (b : Bool). cond b (rightward (length (strands_ahead d r)) (length (strands_between d r)))
    (leftward (length (strands_ahead d r)) (length (strands_between d r))))
    (lt-ltb (column_of Ring d r) (column_of Cross d r) m.ordered)
    ∙ ap (λ (us : List ℕ). rightward (length us) (length (strands_between d r))) m.ahead

acts_left : (t : Table) (d : Diagram) (r : ℕ) (e f : ℕ → ℕ) → MovesLeft d r → SameParts d r e f → f (column_of Cross d r) ≡ moved_colour t d e r
    → action t (row_letters d r) (map e (strands_at d r)) ≡ map f (strands_at d (r + 1))
acts_left t d r e f m same is =
    let left = left_part d r in
    let between = strands_between d r in
    let right = right_part d r in
    let a = column_of Cross d r in
    let b = column_of Ring d r in
    let us = map e left in
    let vs = map e between in
    let ws = map e right in
    ap₂ (action t) (letters_left d r m ∙ ap₂ (λ (k n : ℕ). leftward (k + n) n) (sym (length-map left e)) (sym (length-reverse vs ∙ length-map between e)))
    (ap (map e) m.below ∙ (map_moved e left between right b ∙ ap (λ (zs : List ℕ). us ++ (zs ++ e b ∷ ws)) (sym (reverse-reverse vs))))
    ∙ (leftward_acts t us (reverse vs) ws (e b)
    ∙ (ap₂ (λ (y : ℕ) (zs : List ℕ). us ++ y ∷ (zs ++ ws)) (sym (moved_left t d e r m.ordered) ∙ sym is) (reverse-reverse vs)
    ∙ (ap₂ (λ (xs zs : List ℕ). xs ++ f a ∷ (zs ++ ws)) same.left_same same.between_same
    ∙ (ap (λ (zs : List ℕ). map f left ++ f a ∷ (map f between ++ zs)) same.right_same
    ∙ (sym (map_first f left between right a) ∙ sym (ap (map f) m.above))))))

acts_right : (t : Table) (d : Diagram) (r : ℕ) (e f : ℕ → ℕ) → MovesRight d r → SameParts d r e f → f (column_of Cross d r) ≡ moved_colour t d e r
    → action t (row_letters d r) (map e (strands_at d r)) ≡ map f (strands_at d (r + 1))
acts_right t d r e f m same is =
    let left = left_part d r in
    let between = strands_between d r in
    let right = right_part d r in
    let a = column_of Cross d r in
    let b = column_of Ring d r in
    let us = map e left in
    let vs = map e between in
    let ws = map e right in
    ap₂ (action t) (letters_right d r m ∙ ap₂ (λ (k n : ℕ). rightward k n) (sym (length-map left e)) (sym (length-map between e)))
    (ap (map e) m.below ∙ map_first e left between right b)
    ∙ (rightward_acts t us vs ws (e b)
    ∙ (ap (λ (y : ℕ). us ++ (vs ++ y ∷ ws)) (sym (moved_right t d e r m.ordered) ∙ sym is)
    ∙ (ap₂ (λ (xs zs : List ℕ). xs ++ (zs ++ f a ∷ ws)) same.left_same same.between_same
    ∙ (ap (λ (zs : List ℕ). map f left ++ (map f between ++ f a ∷ zs)) same.right_same
    ∙ (sym (map_moved f left between right a) ∙ sym (ap (map f) m.above))))))

-- the letters of a row, on the colours of the strands below it, give those above it
pub row_acts : (t : Table) (d : Diagram) (r : ℕ) (e f : ℕ → ℕ) → IsGrid d → r < size d → Stay d r e f → f (column_of Cross d r) ≡ moved_colour t d e r
    → action t (row_letters d r) (map e (strands_at d r)) ≡ map f (strands_at d (r + 1))
row_acts t d r e f grid lt stay is =
    let same = same_parts d r e f grid lt stay in
    elim (row_moves d grid r lt) [
      | inl m ↦ acts_left t d r e f m same is
      | inr m ↦ acts_right t d r e f m same is
    ]

-- a row has as many strands above it as below it, and its letters are letters of so many
pub row_counts : (d : Diagram) (r : ℕ) → IsGrid d → r < size d → length (strands_at d (r + 1)) ≡ length (strands_at d r)
row_counts d r grid lt = elim (row_moves d grid r lt) [
  | inl m ↦ ap length m.above ∙ (sizes m ∙ sym (ap length m.below))
  | inr m ↦ ap length m.above ∙ (sym (sizes_right m) ∙ sym (ap length m.below))
]
  where
    first_size : (left between right : List ℕ) (c : ℕ) → length (left ++ c ∷ (between ++ right)) ≡ length left + (length between + length right) + 1
    first_size left between right c = length-append left (c ∷ (between ++ right)) ∙ omega (arith, length-append between right)

    last_size : (left between right : List ℕ) (c : ℕ) → length (left ++ (between ++ c ∷ right)) ≡ length left + (length between + length right) + 1
    last_size left between right c = length-append left (between ++ c ∷ right) ∙ omega (arith, length-append between (c ∷ right))

    sizes : MovesLeft d r → length (left_part d r ++ column_of Cross d r ∷ (strands_between d r ++ right_part d r))
        ≡ length (left_part d r ++ (strands_between d r ++ column_of Ring d r ∷ right_part d r))
    sizes m = first_size (left_part d r) (strands_between d r) (right_part d r) (column_of Cross d r)
        ∙ sym (last_size (left_part d r) (strands_between d r) (right_part d r) (column_of Ring d r))

    sizes_right : MovesRight d r → length (left_part d r ++ column_of Ring d r ∷ (strands_between d r ++ right_part d r))
        ≡ length (left_part d r ++ (strands_between d r ++ column_of Cross d r ∷ right_part d r))
    sizes_right m = first_size (left_part d r) (strands_between d r) (right_part d r) (column_of Ring d r)
        ∙ sym (last_size (left_part d r) (strands_between d r) (right_part d r) (column_of Cross d r))

pub row_word : (d : Diagram) (r m : ℕ) → IsGrid d → r < size d → length (strands_at d r) ≡ m → All (IsLetter m) (row_letters d r)
row_word d r m grid lt m_is =
    let left = left_part d r in
    let between = strands_between d r in
    let right = right_part d r in
    elim (row_moves d grid r lt) [
      | inl w ↦ All-same (IsLetter m) (row_letters d r) (leftward (length left + length between) (length between)) (letters_left d r w)
          (leftward_letters m (length left + length between) (length between) (omega arith)
          (let size = sym m_is ∙ (ap length w.below ∙ length-append left (between ++ column_of Ring d r ∷ right)) in
          omega (arith, length-append between (column_of Ring d r ∷ right))))
      | inr w ↦ All-same (IsLetter m) (row_letters d r) (rightward (length left) (length between)) (letters_right d r w)
          (rightward_letters m (length left) (length between)
          (let size = sym m_is ∙ (ap length w.below ∙ length-append left (column_of Ring d r ∷ (between ++ right))) in
          omega (arith, length-append between right)))
    ]

-- a strand that moves left has those between the row's ends among those ahead of it
pub ahead_most : (d : Diagram) → IsGrid d → (r : ℕ) → r < size d → column_of Cross d r ≤ column_of Ring d r
    → length (strands_between d r) ≤ length (strands_ahead d r)
ahead_most d grid r lt le = elim (row_moves d grid r lt) [
  | inl m ↦ let long = ap length m.ahead ∙ length-append (left_part d r) (strands_between d r) in omega arith
  | inr m ↦ absurd (let ordered = m.ordered in omega arith)
]
