-- The rows of the closing columns: the top and the bottom row of a position.
use Rattle.std.proofs.Common.{◌≡◌, ◌<◌, ◌≤◌, ◌+◌, ◌-◌, ◌*◌, ◌∷◌, ◌++◌, ◌∙◌, inl, inr, [], ℕ, zero, suc, List, Bool, false, cond, length}
use Rattle.std.proofs.Common.{map, All, arith, sym, refl, ap, ap₂, subst, zero-add, length-append}
use Rattle.std.specs.List.{range_with_len}
use Rattle.std.proofs.lemmas.Bool.{le-leb, lt-leb, cases_eq}
use Rattle.std.proofs.lemmas.List.{map-append, append-nil, nil_from_length, same_from_push}
use Rattle.std.proofs.lemmas.List.Elements.{All-tail, All-weaker}
use Rattle.grid_core.proofs.OneEach.{range_more}
use Rattle.quandle_core.specs.Quandle.{Table}
use Rattle.braid_closure.specs.declared.columns.Column.{Column}
use Rattle.braid_closure.specs.Columns.{begun, ended, open_columns, at_position}
use Rattle.braid_closure.specs.Closure.{feet_columns, top_row, ended_at_the_top, closing}
use Rattle.braid_closure.proofs.Positions.{Split, open_append, open_here}
use Rattle.braid_closure.proofs.Stages.{IsStage, EndsBelow, stage_as, stage_x, stage_o, up_back}
use Rattle.braid_closure.proofs.Grids.{top_split, ended_at_top_is, stage_top}
use Rattle.braid_laws.proofs.Cut.{cut, cut_append, cut_whole, cut_ended_at_top, cut_split, here_x, here_o}
use Rattle.braid_laws.proofs.Walked.{colours_of, column_covers}
use Rattle.braid_laws.proofs.Covered.{Rising, rising_none, covers_none, covers_above, covers_below, ended_under}
use Rattle.braid_laws.proofs.Crossed.{Reads, IsClear, Closer, closing_split, reads_clear, closing_clear}
use Rattle.braid_laws.proofs.Strands.{open_colours}
use Rattle.braid_laws.proofs.Followed.{Closes, Parts}
use Rattle.colour_rows.proofs.Ranges.{range_append}

-- a row closes exactly where these two colours are equal
pub record ClosesWhere (t : Table) (colour : ℕ → ℕ) (r : ℕ) (columns : List Column) (one two : ℕ) : Type 0 where
  pub equal : Closes t colour r columns → one ≡ two
  pub closes : one ≡ two → Closes t colour r columns

where_reads : (t : Table) (colour : ℕ → ℕ) (r : ℕ) (columns : List Column) (last end : ℕ) → Reads t colour r columns last end
    → ClosesWhere t colour r columns last end
where_reads t colour r columns last end reads = record {
  equal = λ closes. sym reads.walks ∙ (closes ∙ reads.ends_at);
  closes = λ e. reads.walks ∙ (e ∙ sym reads.ends_at);
}

-- the closing columns of later positions do not cover the rows of position i + 1
above_low : (n m i : ℕ) (c : Column) → i < m → 2 * m ≤ n → Closer n m i c → column_covers i c ≡ false
above_low n m i c lt room closer =
    let later = closer.later in
    let within = closer.within in
    let x_is = ap (λ (d : Column). d.x) closer.is in
    covers_above i c closer.position (ap (λ (d : Column). d.o) closer.is) (omega arith) (omega arith)

above_high : (n m i : ℕ) (c : Column) → i < m → 2 * m ≤ n → Closer n m i c → column_covers (top_row n (i + 1)) c ≡ false
above_high n m i c lt room closer =
    let later = closer.later in
    let within = closer.within in
    let x_is = ap (λ (d : Column). d.x) closer.is in
    covers_below (top_row n (i + 1)) c closer.position (ap (λ (d : Column). d.o) closer.is) (omega arith) (omega arith)

-- the feet below a row
cut_low : (r a k : ℕ) → a + k ≤ r + 1 → cut r (map begun (range_with_len a k)) ≡ map begun (range_with_len a k)
cut_low r a zero most = refl
cut_low r a (suc k) most =
    ap (λ (b : Bool). cond {A = List Column} b (begun a ∷ []) [] ++ cut r (map begun (range_with_len (a + 1) k))) (le-leb a r (omega arith))
    ∙ ap (λ (zs : List Column). begun a ∷ zs) (cut_low r (a + 1) k (omega arith))

cut_high : (r a k : ℕ) → r < a → cut r (map begun (range_with_len a k)) ≡ []
cut_high r a zero lt = refl
cut_high r a (suc k) lt =
    ap (λ (b : Bool). cond {A = List Column} b (begun a ∷ []) [] ++ cut r (map begun (range_with_len (a + 1) k))) (lt-leb a r lt)
    ∙ cut_high r (a + 1) k (omega arith)

cut_feet : (i m : ℕ) → i < m → cut i (feet_columns m) ≡ map begun (range_with_len 0 i) ++ begun i ∷ []
cut_feet i m lt =
    let low : range_with_len 0 (suc i) ≡ range_with_len 0 i ++ i ∷ [] = range_more i 0 ∙ ap (λ (z : ℕ). range_with_len 0 i ++ z ∷ []) (zero-add i) in
    ap (λ (zs : List ℕ). cut i (map begun zs))
    (ap (range_with_len 0) (let e : m ≡ suc i + (m - suc i) = omega arith in e) ∙ sym (range_append 0 (suc i) (m - suc i)))
    ∙ (ap (cut i) (map-append begun (range_with_len 0 (suc i)) (range_with_len (0 + suc i) (m - suc i)))
    ∙ (cut_append i (map begun (range_with_len 0 (suc i))) (map begun (range_with_len (0 + suc i) (m - suc i)))
    ∙ (ap₂ (λ (us vs : List Column). us ++ vs) (cut_low i 0 (suc i) (omega arith)) (cut_high i (0 + suc i) (m - suc i) (omega arith))
    ∙ (append-nil (map begun (range_with_len 0 (suc i)))
    ∙ (ap (map begun) low
    ∙ map-append begun (range_with_len 0 i) (i ∷ []))))))

-- the bottom row of position i + 1 leads from its foot to its closing column
pub bottom_clear : (n m i : ℕ) (body : List Column) → i < m → 2 * m ≤ n → All Rising body → cut i body ≡ cut i (feet_columns m)
    → IsClear i (body ++ closing n m) i (top_row n (i + 1))
bottom_clear n m i body lt room rising cut_is =
    let one = cut_split i body (map begun (range_with_len 0 i)) (begun i) [] (cut_is ∙ cut_feet i m lt) in
    let split = closing_split n m i lt in
    let right_rising = All-tail Rising one.here one.right (up_back Rising one.left (one.here ∷ one.right) (subst (All Rising) one.is rising)) in
    let here = here_x i one.here (begun i) one.cut_here in
    let low : (c : Column) → Closer n m i c → column_covers i c ≡ false = λ c closer. above_low n m i c lt room closer in
    closing_clear i n m i i body one.left one.here one.right split one.is here (inl (here, refl))
    (rising_none i one.right [] right_rising one.cut_right refl)
    (covers_none i split.above (All-weaker (Closer n m i) (λ (c : Column). column_covers i c ≡ false) low split.above split.each))

pub bottom_where : (t : Table) (colour : ℕ → ℕ) (n m i : ℕ) (body : List Column)
    → i < m → 2 * m ≤ n → Parts body (closing n m) → cut i body ≡ cut i (feet_columns m)
    → ClosesWhere t colour i (body ++ closing n m) (colour i) (colour (top_row n (i + 1)))
bottom_where t colour n m i body lt room parts cut_is =
    where_reads t colour i (body ++ closing n m) (colour i) (colour (top_row n (i + 1)))
    (reads_clear t colour i (body ++ closing n m) i (top_row n (i + 1)) parts.grid (bottom_clear n m i body lt room parts.rising cut_is))

-- right of the last open column none is open
pub last_open : (m i r e : ℕ) (columns : List Column) → IsStage m (i + 1) r e columns → (split : Split (i + 1) columns) → open_columns split.right ≡ []
last_open m i r e columns stage split =
    let size =
    ap length (ap open_columns split.is ∙ open_append split.left (split.here ∷ split.right))
    ∙ length-append (open_columns split.left) (open_columns (split.here ∷ split.right)) in
    let here = ap length (open_here split.here split.right split.stands_open) in
    let all = stage.standing in
    let before = split.before in
    nil_from_length (open_columns split.right) (omega arith)

-- the top row of position i + 1 leads from its last column to its closing column
pub top_clear : (n m i r e : ℕ) (columns body : List Column) → i < m → 2 * m ≤ n
    → IsStage m (i + 1) r e columns → (split : Split (i + 1) columns) → All Rising body
    → cut (top_row n (i + 1)) body ≡ split.left ++ ended (top_row n (i + 1)) split.here ∷ split.right
    → IsClear (top_row n (i + 1)) (body ++ closing n m) split.here.x (top_row n (i + 1))
top_clear n m i r e columns body lt room stage split rising cut_is =
    let top = top_row n (i + 1) in
    let one = cut_split top body split.left (ended top split.here) split.right cut_is in
    let closers = closing_split n m i lt in
    let right_rising = All-tail Rising one.here one.right (up_back Rising one.left (one.here ∷ one.right) (subst (All Rising) one.is rising)) in
    let high : (c : Column) → Closer n m i c → column_covers top c ≡ false = λ c closer. above_high n m i c lt room closer in
    closing_clear top n m i split.here.x body one.left one.here one.right closers one.is
    (here_x top one.here (ended top split.here) one.cut_here)
    (inr (here_o top top one.here (ended top split.here) one.cut_here refl, refl))
    (rising_none top one.right split.right right_rising one.cut_right (ended_under top split.right (last_open m i r e columns stage split)))
    (covers_none top closers.above (All-weaker (Closer n m i) (λ (c : Column). column_covers top c ≡ false) high closers.above closers.each))

pub top_where : (t : Table) (colour : ℕ → ℕ) (n m i r e : ℕ) (columns body : List Column) → i < m → 2 * m ≤ n
    → IsStage m (i + 1) r e columns → (split : Split (i + 1) columns) → Parts body (closing n m)
    → cut (top_row n (i + 1)) body ≡ split.left ++ ended (top_row n (i + 1)) split.here ∷ split.right
    → ClosesWhere t colour (top_row n (i + 1)) (body ++ closing n m) (colour split.here.x) (colour (top_row n (i + 1)))
top_where t colour n m i r e columns body lt room stage split parts cut_is =
    let top = top_row n (i + 1) in
    where_reads t colour top (body ++ closing n m) (colour split.here.x) (colour top)
    (reads_clear t colour top (body ++ closing n m) split.here.x top parts.grid (top_clear n m i r e columns body lt room stage split parts.rising cut_is))

-- the colours of the closing columns, position 1 first
abbrev pub top_colours : (ℕ → ℕ) → ℕ → ℕ → List ℕ
top_colours colour n j = map (λ (i : ℕ). colour (top_row n (i + 1))) (range_with_len 0 j)

top_more : (colour : ℕ → ℕ) (n i : ℕ) → top_colours colour n (suc i) ≡ top_colours colour n i ++ colour (top_row n (i + 1)) ∷ []
top_more colour n i =
    ap (map (λ (z : ℕ). colour (top_row n (z + 1)))) (range_more i 0 ∙ ap (λ (z : ℕ). range_with_len 0 i ++ z ∷ []) (zero-add i))
    ∙ map-append (λ (z : ℕ). colour (top_row n (z + 1))) (range_with_len 0 i) (i ∷ [])

-- the open columns before and after the last one ends
open_before : (colour : ℕ → ℕ) (m i r e : ℕ) (columns : List Column) → IsStage m (i + 1) r e columns → (split : Split (i + 1) columns)
    → open_colours colour columns ≡ open_colours colour split.left ++ colour split.here.x ∷ []
open_before colour m i r e columns stage split =
    ap (colours_of colour) (ap open_columns split.is
    ∙ (open_append split.left (split.here ∷ split.right)
    ∙ ap (λ (zs : List Column). open_columns split.left ++ zs)
    (open_here split.here split.right split.stands_open ∙ ap (λ (zs : List Column). split.here ∷ zs) (last_open m i r e columns stage split))))
    ∙ map-append (λ (c : Column). colour c.x) (open_columns split.left) (split.here ∷ [])

open_after : (colour : ℕ → ℕ) (m n i r e : ℕ) (columns : List Column) → i + 1 + (m + e) ≡ n → IsStage m (i + 1) r e columns
    → (split : Split (i + 1) columns)
    → open_colours colour (at_position (i + 1) (λ c. ended (top_row n (i + 1)) c ∷ []) columns) ≡ open_colours colour split.left
open_after colour m n i r e columns n_is stage split =
    ap (colours_of colour) (ap open_columns (ended_at_top_is m n i r e columns n_is split)
    ∙ (open_append split.left (ended (m + e) split.here ∷ split.right)
    ∙ (ap (λ (zs : List Column). open_columns split.left ++ zs) (last_open m i r e columns stage split)
    ∙ append-nil (open_columns split.left))))

-- the part of the body at or below a top row
pub top_cut : (m n i r e : ℕ) (columns body : List Column) → i + 1 + (m + e) ≡ n → r ≤ m + e → IsStage m (i + 1) r e columns
    → (split : Split (i + 1) columns) → cut (top_row n (i + 1)) body ≡ cut (top_row n (i + 1)) (ended_at_the_top n (suc i) columns)
    → cut (top_row n (i + 1)) body ≡ split.left ++ ended (top_row n (i + 1)) split.here ∷ split.right
top_cut m n i r e columns body n_is below stage split cut_is =
    let next = stage_top m n i r e columns n_is below stage in
    let after = at_position (i + 1) (λ c. ended (top_row n (i + 1)) c ∷ []) columns in
    let top : top_row n (i + 1) ≡ m + e = omega arith in
    cut_is
    ∙ (cut_ended_at_top (top_row n (i + 1)) m n i r (e + 1) after (omega arith) (omega arith) (omega arith) next
    ∙ (cut_whole (top_row n (i + 1)) after
    (All-weaker (λ (c : Column). c.x < r) (λ (c : Column). c.x < top_row n (i + 1) + 1) (λ c lt. omega arith) after (stage_x m i r (e + 1) after next))
    (subst (λ (z : ℕ). All (EndsBelow z) after) (omega arith) (stage_o m i r (e + 1) after next))
    ∙ (ended_at_top_is m n i r e columns n_is split
    ∙ ap (λ (z : ℕ). split.left ++ ended z split.here ∷ split.right) (sym top))))

-- the top rows of positions 1 to j close exactly where the open columns have the closing columns' colours
pub closes_tops : (t : Table) (colour : ℕ → ℕ) (n m j r e : ℕ) (columns body : List Column) → j ≤ m → 2 * m ≤ n → j + (m + e) ≡ n → r ≤ m + e
    → IsStage m j r e columns → Parts body (closing n m) → ((s : ℕ) → m + e ≤ s → cut s body ≡ cut s (ended_at_the_top n j columns))
    → ((i : ℕ) → i < j → Closes t colour (top_row n (i + 1)) (body ++ closing n m)) → open_colours colour columns ≡ top_colours colour n j
closes_tops t colour n m zero r e columns body most room n_is below stage parts cuts closes =
    ap (colours_of colour) (nil_from_length (open_columns columns) stage.standing)
closes_tops t colour n m (suc i) r e columns body most room n_is below stage parts cuts closes =
    let one = stage_as m (suc i) (i + 1) r r e e columns columns refl (omega arith) refl refl stage in
    let split = top_split m n i r e columns (omega arith) one in
    let here =
    top_where t colour n m i r e columns body (omega arith) room one split parts
    (top_cut m n i r e columns body (omega arith) below one split (cuts (top_row n (i + 1)) (omega arith))) in
    let rest =
    closes_tops t colour n m i r (e + 1) (at_position (i + 1) (λ c. ended (top_row n (i + 1)) c ∷ []) columns) body (omega arith) room (omega arith)
    (omega arith) (stage_top m n i r e columns (omega arith) below one) parts
    (λ s from. cuts s (omega arith)) (λ k lt. closes k (omega arith)) in
    open_before colour m i r e columns one split
    ∙ (ap₂ (λ (us : List ℕ) (z : ℕ). us ++ z ∷ []) (sym (open_after colour m n i r e columns (omega arith) one split) ∙ rest)
    (here.equal (closes i (omega arith)))
    ∙ sym (top_more colour n i))

pub tops_close : (t : Table) (colour : ℕ → ℕ) (n m j r e : ℕ) (columns body : List Column) → j ≤ m → 2 * m ≤ n → j + (m + e) ≡ n → r ≤ m + e
    → IsStage m j r e columns → Parts body (closing n m) → ((s : ℕ) → m + e ≤ s → cut s body ≡ cut s (ended_at_the_top n j columns))
    → open_colours colour columns ≡ top_colours colour n j → (i : ℕ) → i < j → Closes t colour (top_row n (i + 1)) (body ++ closing n m)
tops_close t colour n m zero r e columns body most room n_is below stage parts cuts equal k lt = absurd (omega arith)
tops_close t colour n m (suc i) r e columns body most room n_is below stage parts cuts equal k lt =
    let one = stage_as m (suc i) (i + 1) r r e e columns columns refl (omega arith) refl refl stage in
    let split = top_split m n i r e columns (omega arith) one in
    let here =
    top_where t colour n m i r e columns body (omega arith) room one split parts
    (top_cut m n i r e columns body (omega arith) below one split (cuts (top_row n (i + 1)) (omega arith))) in
    let both =
    same_from_push (open_colours colour split.left) (top_colours colour n i) (colour split.here.x) (colour (top_row n (i + 1)))
    (sym (open_before colour m i r e columns one split) ∙ (equal ∙ top_more colour n i)) in
    elim (cases_eq k i) [
      | inl same ↦ subst (λ (z : ℕ). Closes t colour (top_row n (z + 1)) (body ++ closing n m)) (sym same) (here.closes both.1)
      | inr other ↦
          tops_close t colour n m i r (e + 1) (at_position (i + 1) (λ c. ended (top_row n (i + 1)) c ∷ []) columns) body (omega arith) room (omega arith)
          (omega arith) (stage_top m n i r e columns (omega arith) below one) parts
          (λ s from. cuts s (omega arith)) (open_after colour m n i r e columns (omega arith) one split ∙ both.0) k (omega (arith, other))
    ]
