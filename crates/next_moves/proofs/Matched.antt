-- Each move that is no shift, on any translate, is matched by one of the tries: both lead to translates of each other.
use Rattle.std.proofs.Common.{◌≡◌, ◌<◌, ◌+◌, ◌++◌, ◌∷◌, ◌∙◌, [], ℕ, List, true, false, map, arith, refl, sym, ap, ap₂, subst}
use Rattle.std.specs.List.{Contains, range_with_len, flat_map}
use Rattle.std.proofs.lemmas.List.Elements.{Contains-append_left, Contains-append_right}
use Rattle.grid_core.specs.declared.mark.Kind.{Kind}
use Rattle.grid_core.specs.declared.mark.Kind.TheVariants.{Cross, Ring}
use Rattle.grid_core.specs.declared.mark.Corner.{Corner}
use Rattle.grid_core.specs.Diagram.{Diagram, IsGrid, size, row_of}
use Rattle.grid_core.proofs.Marks.{row_below, mark_below}
use Rattle.grid_moves.specs.declared.step.Move.{Move}
use Rattle.grid_moves.specs.declared.step.Move.TheVariants.{ShiftColumns, ShiftRows, ExchangeColumns, ExchangeRows, SlideColumns, SlideRows, Stabilise}
use Rattle.grid_moves.specs.declared.step.Move.TheVariants.{Destabilise}
use Rattle.grid_moves.specs.Shift.{shifted}
use Rattle.grid_moves.specs.Step.{Step}
use Rattle.grid_moves.proofs.Shifted.{shifted_below}
use Rattle.grid_keys.specs.Translation.{translate, translates}
use Rattle.grid_keys.proofs.Translated.{origin, origin-below, origin-shifted, size-translate, row_of-translate, translate-translate}
use Rattle.grid_keys.proofs.Joined.{at_origin}
use Rattle.grid_keys.proofs.LeastTranslates.{translates_contains, flat_map_contains, range_contains, map_contains, origin_zero}
use Rattle.grid_moves.specs.Kinds.{is_shift, is_exchange}
use Rattle.grid_core.specs.Corners.{corners}
use Rattle.grid_laws.proofs.CornerList.{corner_listed}
use Rattle.next_moves.specs.Tries.{Try, shift_before, place_after_shift, tries, try_column_exchange, try_column_slide, column_trade_tries, try_row_exchange}
use Rattle.next_moves.specs.Tries.{try_row_slide, row_trade_tries, try_destabilisation, block_tries, try_stabilisation, stabilisation_tries}
use Rattle.next_moves.proofs.Members.{contains_first, contains_later}
use Rattle.next_moves.proofs.Sides.{shift_before-below, place_after_shift-below, first_origin}
use Rattle.next_moves.proofs.Rounds.{brought, brought_next, brought_from}
use Rattle.next_moves.proofs.TranslatedMoves.{exchange_columns_translated, exchange_rows_translated, slide_columns_translated, slide_rows_translated}
use Rattle.next_moves.proofs.TranslatedBlocks.{stabilise_translated, destabilise_translated}

-- a try on d leads to a translate of e, to which the move leads from a translate of d; it is an exchange where the move is
pub record Matched (move : Move) (d e : Diagram) : Type 0 where
  pub try : Try
  pub alike : is_exchange try.step ≡ is_exchange move
  pub among : Contains (tries (size d)) try
  pub columns : try.before.0 < size d
  pub rows : try.before.1 < size d
  pub result : Diagram
  pub step : Step (translate d try.before.0 try.before.1) try.step result
  pub same : Contains (translates e) result

-- the parts of the list of tries
module _ (n : ℕ) where
  abbrev columns_part : List Try
  columns_part = flat_map (column_trade_tries n) (range_with_len 0 n)

  abbrev rows_part : List Try
  rows_part = flat_map (row_trade_tries n) (range_with_len 0 n)

  abbrev blocks_part : List Try
  blocks_part = flat_map (block_tries n) (range_with_len 0 n)

  abbrev marks_part : List Try
  marks_part = flat_map stabilisation_tries (range_with_len 0 n)

  tries_column : (q : ℕ) (t : Try) → q < n → Contains (column_trade_tries n q) t → Contains (tries n) t
  tries_column q t lt among =
      Contains-append_left (columns_part ++ rows_part ++ blocks_part) marks_part t
      (Contains-append_left (columns_part ++ rows_part) blocks_part t
      (Contains-append_left columns_part rows_part t (flat_map_contains (column_trade_tries n) (range_with_len 0 n) q t (range_contains n q lt) among)))

  tries_row : (q : ℕ) (t : Try) → q < n → Contains (row_trade_tries n q) t → Contains (tries n) t
  tries_row q t lt among =
      Contains-append_left (columns_part ++ rows_part ++ blocks_part) marks_part t
      (Contains-append_left (columns_part ++ rows_part) blocks_part t
      (Contains-append_right columns_part rows_part t (flat_map_contains (row_trade_tries n) (range_with_len 0 n) q t (range_contains n q lt) among)))

  tries_block : (q s : ℕ) → q < n → s < n → Contains (tries n) (try_destabilisation n q s)
  tries_block q s hq hs =
      Contains-append_left (columns_part ++ rows_part ++ blocks_part) marks_part (try_destabilisation n q s)
      (Contains-append_right (columns_part ++ rows_part) blocks_part (try_destabilisation n q s)
      (flat_map_contains (block_tries n) (range_with_len 0 n) q (try_destabilisation n q s) (range_contains n q hq)
      (map_contains (try_destabilisation n q) (range_with_len 0 n) s (range_contains n s hs))))

  tries_mark : (q : ℕ) (kind : Kind) (corner : Corner) → q < n → Contains (tries n) (try_stabilisation q kind corner)
  tries_mark q kind corner hq =
      Contains-append_right (columns_part ++ rows_part ++ blocks_part) marks_part (try_stabilisation q kind corner)
      (flat_map_contains stabilisation_tries (range_with_len 0 n) q (try_stabilisation q kind corner) (range_contains n q hq) (of_kind kind))
    where
      of_kind : (kind : Kind) → Contains (stabilisation_tries q) (try_stabilisation q kind corner)
      of_kind Cross =
          Contains-append_left (map (try_stabilisation q Cross) corners) (map (try_stabilisation q Ring) corners) (try_stabilisation q Cross corner)
          (map_contains (try_stabilisation q Cross) corners corner (corner_listed corner))
      of_kind Ring =
          Contains-append_right (map (try_stabilisation q Cross) corners) (map (try_stabilisation q Ring) corners) (try_stabilisation q Ring corner)
          (map_contains (try_stabilisation q Ring) corners corner (corner_listed corner))

-- a translate of a translate, by what its shifts come to
brought_translate : (d : Diagram) (a b k l t u : ℕ) → IsGrid d → a < size d → b < size d → k < size d → l < size d → origin (size d) k a ≡ t
    → origin (size d) l b ≡ u → translate (translate d a b) k l ≡ translate d t u
brought_translate d a b k l t u grid ha hb hk hl et eu = translate-translate d a b k l grid ha hb hk hl ∙ ap₂ (λ (z w : ℕ). translate d z w) et eu

-- back to where it was not shifted
back_to_zero : (n b : ℕ) → b < n → origin n (shifted n b 0) b ≡ 0
back_to_zero n b lt = brought_from n b 0 b 0 lt (omega (arith, lt)) lt (omega (arith, lt)) (at_origin n b lt ∙ sym (origin_zero n b lt))

-- columns c and c + 1 of a translate, brought side by side where the tries have them
record ColumnsRound (d : Diagram) (a b c : ℕ) : Type 0 where
  q : ℕ
  below : q < size d
  k : ℕ
  l : ℕ
  columns : k < size d
  rows : l < size d
  inside : place_after_shift (size d) q + 1 < size d
  shift : shift_before (size d) q < size d
  first : origin (size d) k (place_after_shift (size d) q) ≡ c
  second : origin (size d) k (place_after_shift (size d) q + 1) ≡ c + 1
  there : translate (translate d a b) k l ≡ translate d (shift_before (size d) q) 0

columns_round : (d : Diagram) (a b c : ℕ) → IsGrid d → a < size d → b < size d → c + 1 < size d → ColumnsRound d a b c
columns_round d a b c grid ha hb inside =
    let n : ℕ = size d in
    let hc : c < n = omega (arith, inside) in
    let q : ℕ = origin n a c in
    let hq : q < n = origin-below n a c ha hc in
    let p : ℕ = place_after_shift n q in
    let p1 : p + 1 < n = place_after_shift-below n q grid.least hq in
    let hp : p < n = omega (arith, p1) in
    let k : ℕ = shifted n p c in
    let l : ℕ = shifted n b 0 in
    let hk : k < n = shifted_below n p c hp hc in
    let hl : l < n = shifted_below n b 0 hb (omega (arith, hb)) in
    record {
      q = q;
      below = hq;
      k = k;
      l = l;
      columns = hk;
      rows = hl;
      inside = p1;
      shift = shift_before-below n q grid.least hq;
      first = ap (λ (z : ℕ). origin n k z) (sym (brought n p c hp hc)) ∙ origin-shifted n k c hk hc;
      second = ap (λ (z : ℕ). origin n k z) (sym (brought_next n p c p1 inside)) ∙ origin-shifted n k (c + 1) hk inside;
      there =
          brought_translate d a b k l (shift_before n q) 0 grid ha hb hk hl
          (brought_from n a c p (shift_before n q) ha hc hp (shift_before-below n q grid.least hq) (first_origin n q grid.least hq)) (back_to_zero n b hb);
    }

match_column_exchange : (d : Diagram) (a b c : ℕ) (e : Diagram) → IsGrid d → a < size d → b < size d → Step (translate d a b) (ExchangeColumns c) e
    → Matched (ExchangeColumns c) d e
match_column_exchange d a b c e grid ha hb step =
    let long : size (translate d a b) ≡ size d = size-translate d a b ha in
    let r = columns_round d a b c grid ha hb (omega (arith, step.marks.inside, long)) in
    let same : size e ≡ size d = step.marks.renumbered.same_size ∙ long in
    let translated =
    exchange_columns_translated (translate d a b) e c (place_after_shift (size d) r.q) r.k r.l step (omega (arith, r.columns, long))
    (omega (arith, r.rows, long)) (omega (arith, r.inside, long)) (ap (λ (z : ℕ). origin z r.k (place_after_shift (size d) r.q)) long ∙ r.first)
    (ap (λ (z : ℕ). origin z r.k (place_after_shift (size d) r.q + 1)) long ∙ r.second) in
    record {
      try = try_column_exchange (size d) r.q;
      alike = refl;
      among =
          tries_column (size d) r.q (try_column_exchange (size d) r.q) r.below
          (contains_first (try_column_exchange (size d) r.q) (try_column_slide (size d) r.q ∷ []));
      columns = r.shift;
      rows = omega (arith, hb);
      result = translate e r.k r.l;
      step = subst (λ t. Step t (ExchangeColumns (place_after_shift (size d) r.q)) (translate e r.k r.l)) r.there translated;
      same = translates_contains e r.k r.l (omega (arith, r.columns, same)) (omega (arith, r.rows, same));
    }

match_column_slide : (d : Diagram) (a b c : ℕ) (e : Diagram) → IsGrid d → a < size d → b < size d → Step (translate d a b) (SlideColumns c) e
    → Matched (SlideColumns c) d e
match_column_slide d a b c e grid ha hb step =
    let long : size (translate d a b) ≡ size d = size-translate d a b ha in
    let r = columns_round d a b c grid ha hb (omega (arith, step.marks.inside, long)) in
    let same : size e ≡ size d = step.marks.renumbered.same_size ∙ long in
    let translated =
    slide_columns_translated (translate d a b) e c (place_after_shift (size d) r.q) r.k r.l step (omega (arith, r.columns, long))
    (omega (arith, r.rows, long)) (omega (arith, r.inside, long)) (ap (λ (z : ℕ). origin z r.k (place_after_shift (size d) r.q)) long ∙ r.first)
    (ap (λ (z : ℕ). origin z r.k (place_after_shift (size d) r.q + 1)) long ∙ r.second) in
    record {
      try = try_column_slide (size d) r.q;
      alike = refl;
      among =
          tries_column (size d) r.q (try_column_slide (size d) r.q) r.below
          (contains_later (try_column_exchange (size d) r.q) (try_column_slide (size d) r.q ∷ []) (try_column_slide (size d) r.q)
          (contains_first (try_column_slide (size d) r.q) []));
      columns = r.shift;
      rows = omega (arith, hb);
      result = translate e r.k r.l;
      step = subst (λ t. Step t (SlideColumns (place_after_shift (size d) r.q)) (translate e r.k r.l)) r.there translated;
      same = translates_contains e r.k r.l (omega (arith, r.columns, same)) (omega (arith, r.rows, same));
    }

-- rows c and c + 1 likewise
record RowsRound (d : Diagram) (a b c : ℕ) : Type 0 where
  q : ℕ
  below : q < size d
  k : ℕ
  l : ℕ
  columns : k < size d
  rows : l < size d
  inside : place_after_shift (size d) q + 1 < size d
  shift : shift_before (size d) q < size d
  first : shifted (size d) l c ≡ place_after_shift (size d) q
  second : shifted (size d) l (c + 1) ≡ place_after_shift (size d) q + 1
  there : translate (translate d a b) k l ≡ translate d 0 (shift_before (size d) q)

rows_round : (d : Diagram) (a b c : ℕ) → IsGrid d → a < size d → b < size d → c + 1 < size d → RowsRound d a b c
rows_round d a b c grid ha hb inside =
    let n : ℕ = size d in
    let hc : c < n = omega (arith, inside) in
    let q : ℕ = origin n b c in
    let hq : q < n = origin-below n b c hb hc in
    let p : ℕ = place_after_shift n q in
    let p1 : p + 1 < n = place_after_shift-below n q grid.least hq in
    let hp : p < n = omega (arith, p1) in
    let k : ℕ = shifted n a 0 in
    let l : ℕ = shifted n p c in
    let hk : k < n = shifted_below n a 0 ha (omega (arith, ha)) in
    let hl : l < n = shifted_below n p c hp hc in
    record {
      q = q;
      below = hq;
      k = k;
      l = l;
      columns = hk;
      rows = hl;
      inside = p1;
      shift = shift_before-below n q grid.least hq;
      first = brought n p c hp hc;
      second = brought_next n p c p1 inside;
      there =
          brought_translate d a b k l 0 (shift_before n q) grid ha hb hk hl (back_to_zero n a ha)
          (brought_from n b c p (shift_before n q) hb hc hp (shift_before-below n q grid.least hq) (first_origin n q grid.least hq));
    }

match_row_exchange : (d : Diagram) (a b c : ℕ) (e : Diagram) → IsGrid d → a < size d → b < size d → Step (translate d a b) (ExchangeRows c) e
    → Matched (ExchangeRows c) d e
match_row_exchange d a b c e grid ha hb step =
    let long : size (translate d a b) ≡ size d = size-translate d a b ha in
    let r = rows_round d a b c grid ha hb (omega (arith, step.marks.inside, long)) in
    let same : size e ≡ size d = step.marks.renumbered.same_size ∙ long in
    let translated =
    exchange_rows_translated (translate d a b) e c (place_after_shift (size d) r.q) r.k r.l step (omega (arith, r.columns, long))
    (omega (arith, r.rows, long)) (omega (arith, r.inside, long)) (ap (λ (z : ℕ). shifted z r.l c) long ∙ r.first)
    (ap (λ (z : ℕ). shifted z r.l (c + 1)) long ∙ r.second) in
    record {
      try = try_row_exchange (size d) r.q;
      alike = refl;
      among = tries_row (size d) r.q (try_row_exchange (size d) r.q) r.below (contains_first (try_row_exchange (size d) r.q) (try_row_slide (size d) r.q ∷ []));
      columns = omega (arith, ha);
      rows = r.shift;
      result = translate e r.k r.l;
      step = subst (λ t. Step t (ExchangeRows (place_after_shift (size d) r.q)) (translate e r.k r.l)) r.there translated;
      same = translates_contains e r.k r.l (omega (arith, r.columns, same)) (omega (arith, r.rows, same));
    }

match_row_slide : (d : Diagram) (a b c : ℕ) (e : Diagram) → IsGrid d → a < size d → b < size d → Step (translate d a b) (SlideRows c) e
    → Matched (SlideRows c) d e
match_row_slide d a b c e grid ha hb step =
    let long : size (translate d a b) ≡ size d = size-translate d a b ha in
    let r = rows_round d a b c grid ha hb (omega (arith, step.marks.inside, long)) in
    let same : size e ≡ size d = step.marks.renumbered.same_size ∙ long in
    let translated =
    slide_rows_translated (translate d a b) e c (place_after_shift (size d) r.q) r.k r.l step (omega (arith, r.columns, long)) (omega (arith, r.rows, long))
    (omega (arith, r.inside, long)) (ap (λ (z : ℕ). shifted z r.l c) long ∙ r.first) (ap (λ (z : ℕ). shifted z r.l (c + 1)) long ∙ r.second) in
    record {
      try = try_row_slide (size d) r.q;
      alike = refl;
      among =
          tries_row (size d) r.q (try_row_slide (size d) r.q) r.below
          (contains_later (try_row_exchange (size d) r.q) (try_row_slide (size d) r.q ∷ []) (try_row_slide (size d) r.q)
          (contains_first (try_row_slide (size d) r.q) []));
      columns = omega (arith, ha);
      rows = r.shift;
      result = translate e r.k r.l;
      step = subst (λ t. Step t (SlideRows (place_after_shift (size d) r.q)) (translate e r.k r.l)) r.there translated;
      same = translates_contains e r.k r.l (omega (arith, r.columns, same)) (omega (arith, r.rows, same));
    }

match_marks : (d : Diagram) (a b c : ℕ) (kind : Kind) (corner : Corner) (e : Diagram) → IsGrid d → a < size d → b < size d
    → Step (translate d a b) (Stabilise c kind corner) e → Matched (Stabilise c kind corner) d e
match_marks d a b c kind corner e grid ha hb step =
    let n : ℕ = size d in
    let long : size (translate d a b) ≡ n = size-translate d a b ha in
    let stab = step.marks.1.1 in
    let hc : c < n = omega (arith, stab.marked.inside, long) in
    let q : ℕ = origin n a c in
    let hq : q < n = origin-below n a c ha hc in
    let s : ℕ = row_of kind d q in
    let hs : s < n = row_below d grid kind q hq in
    let r : ℕ = row_of kind (translate d a b) c in
    let row : r ≡ shifted n b s = row_of-translate d a b grid ha kind c hc in
    let hr : r < n = omega (arith, row, shifted_below n b s hb hs) in
    let k : ℕ = shifted (size (translate d a b)) q c in
    let l : ℕ = shifted (size (translate d a b)) s r in
    let ek : k ≡ shifted n q c = ap (λ (z : ℕ). shifted z q c) long in
    let el : l ≡ shifted n s r = ap (λ (z : ℕ). shifted z s r) long in
    let hk : k < n = omega (arith, ek, shifted_below n q c hq hc) in
    let hl : l < n = omega (arith, el, shifted_below n s r hs hr) in
    let same_row : origin n 0 s ≡ origin n b r = at_origin n s hs ∙ sym (ap (λ (z : ℕ). origin n b z) row ∙ origin-shifted n b s hb hs) in
    let zero_below : 0 < n = omega (arith, ha) in
    let there : translate (translate d a b) k l ≡ translate d 0 0 =
    brought_translate d a b k l 0 0 grid ha hb hk hl
    (ap (λ (z : ℕ). origin n z a) ek ∙ brought_from n a c q 0 ha hc hq zero_below (at_origin n q hq))
    (ap (λ (z : ℕ). origin n z b) el ∙ brought_from n b r s 0 hb hr hs zero_below same_row) in
    let translated = stabilise_translated c kind corner (translate d a b) e q s step (omega (arith, hq, long)) (omega (arith, hs, long)) in
    let grown : size e ≡ size (translate d a b) + 1 = stab.larger in
    let k' : ℕ = shifted (size (translate d a b) + 1) q c in
    let l' : ℕ = shifted (size (translate d a b) + 1) s r in
    record {
      try = try_stabilisation q kind corner;
      alike = refl;
      among = tries_mark n q kind corner hq;
      columns = zero_below;
      rows = zero_below;
      result = translate e k' l';
      step = subst (λ t. Step t (Stabilise q kind corner) (translate e k' l')) there translated;
      same =
          translates_contains e k' l' (omega (
            arith,
            grown,
            shifted_below (size (translate d a b) + 1) q c (omega (arith, hq, long))
                (omega (arith, hc, long)),
          )) (omega (
            arith,
            grown,
            shifted_below (size (translate d a b) + 1) s r (omega (arith, hs, long))
                (omega (arith, hr, long)),
          ));
    }

match_blocks : (d : Diagram) (a b c r : ℕ) (e : Diagram) → IsGrid d → a < size d → b < size d → Step (translate d a b) (Destabilise c r) e
    → Matched (Destabilise c r) d e
match_blocks d a b c r e grid ha hb step =
    let n : ℕ = size d in
    let long : size (translate d a b) ≡ n = size-translate d a b ha in
    let smaller : size e + 1 ≡ n = omega (arith, step.marks.undone.larger, long) in
    let hc : c < n = omega (arith, step.marks.columns, long) in
    let hr : r < n = omega (arith, step.marks.rows, long) in
    let q : ℕ = origin n a c in
    let s : ℕ = origin n b r in
    let hq : q < n = origin-below n a c ha hc in
    let hs : s < n = origin-below n b r hb hr in
    let p : ℕ = place_after_shift n q in
    let u : ℕ = place_after_shift n s in
    let p1 : p + 1 < n = place_after_shift-below n q grid.least hq in
    let u1 : u + 1 < n = place_after_shift-below n s grid.least hs in
    let hp : p < n = omega (arith, p1) in
    let hu : u < n = omega (arith, u1) in
    let k : ℕ = shifted (size (translate d a b)) p c in
    let l : ℕ = shifted (size (translate d a b)) u r in
    let ek : k ≡ shifted n p c = ap (λ (z : ℕ). shifted z p c) long in
    let el : l ≡ shifted n u r = ap (λ (z : ℕ). shifted z u r) long in
    let hk : k < n = omega (arith, ek, shifted_below n p c hp hc) in
    let hl : l < n = omega (arith, el, shifted_below n u r hu hr) in
    let there : translate (translate d a b) k l ≡ translate d (shift_before n q) (shift_before n s) =
    brought_translate d a b k l (shift_before n q) (shift_before n s) grid ha hb hk hl
    (ap (λ (z : ℕ). origin n z a) ek ∙ brought_from n a c p (shift_before n q) ha hc hp (shift_before-below n q grid.least hq) (first_origin n q grid.least hq))
    (ap (λ (z : ℕ). origin n z b) el ∙ brought_from n b r u (shift_before n s) hb hr hu (shift_before-below n s grid.least hs)
    (first_origin n s grid.least hs)) in
    let ep : p < size e = omega (arith, p1, smaller) in
    let eu : u < size e = omega (arith, u1, smaller) in
    let translated = destabilise_translated c r (translate d a b) e p u step ep eu in
    let in_column : c < size e = step.marks.undone.marked.inside in
    let in_row : r < size e = mark_below e step.after step.marks.kind c r step.marks.undone.marked in
    record {
      try = try_destabilisation n q s;
      alike = refl;
      among = tries_block n q s hq hs;
      columns = shift_before-below n q grid.least hq;
      rows = shift_before-below n s grid.least hs;
      result = translate e (shifted (size e) p c) (shifted (size e) u r);
      step = subst (λ t. Step t (Destabilise p u) (translate e (shifted (size e) p c) (shifted (size e) u r))) there translated;
      same =
          translates_contains e (shifted (size e) p c) (shifted (size e) u r) (shifted_below (size e) p c ep in_column) (shifted_below (size e) u r eu in_row);
    }

pub matched : (move : Move) (d : Diagram) (a b : ℕ) (e : Diagram) → IsGrid d → a < size d → b < size d → is_shift move ≡ false
    → Step (translate d a b) move e → Matched move d e
matched (ShiftColumns k) d a b e grid ha hb no_shift step = absurd (let impossible : true ≡ false = no_shift in cc)
matched (ShiftRows k) d a b e grid ha hb no_shift step = absurd (let impossible : true ≡ false = no_shift in cc)
matched (ExchangeColumns c) d a b e grid ha hb no_shift step = match_column_exchange d a b c e grid ha hb step
matched (ExchangeRows r) d a b e grid ha hb no_shift step = match_row_exchange d a b r e grid ha hb step
matched (SlideColumns c) d a b e grid ha hb no_shift step = match_column_slide d a b c e grid ha hb step
matched (SlideRows r) d a b e grid ha hb no_shift step = match_row_slide d a b r e grid ha hb step
matched (Stabilise c kind corner) d a b e grid ha hb no_shift step = match_marks d a b c kind corner e grid ha hb step
matched (Destabilise c r) d a b e grid ha hb no_shift step = match_blocks d a b c r e grid ha hb step
