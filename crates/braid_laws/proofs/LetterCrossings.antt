-- Each letter's row has one crossing, of the letter's sign, and no other row has any.
use Rattle.std.proofs.Common.{◌≡◌, ◌<◌, ◌≤◌, ◌+◌, ◌-◌, ◌*◌, ◌∷◌, ◌++◌, ◌∙◌, inl, inr, [], ◌⊎◌, ℕ, zero, suc, ℤ, pos, negsuc, List, Bool}
use Rattle.std.proofs.Common.{true, false, cond, Option, unwrap_or, length, map, filter, All, arith, sym, refl, ap, ap₂, subst}
use Rattle.std.proofs.Common.{append_assoc, length-append, nat_lt}
use Rattle.std.specs.Prelude.{slice_index_or, IsTrue, if◌then◌else◌}
use Rattle.std.specs.List.{range_with_len}
use Rattle.std.proofs.lemmas.Bool.{cases_lt, cases_eq, lt-ltb, le-ltb, ltb-true, and_parts, and_from}
use Rattle.std.proofs.lemmas.List.Elements.{All-head, All-tail, All-filter}
use Rattle.grid_core.specs.declared.mark.Kind.TheVariants.{Cross, Ring}
use Rattle.grid_core.specs.Diagram.{Diagram, IsGrid, size}
use Rattle.grid_core.specs.Span.{lies_within}
use Rattle.grid_core.specs.Parts.{column_of, covers, ends, is_up, is_rightward}
use Rattle.grid_core.specs.Crossing.{Direction, crosses, unit, cross_product, sign}
use Rattle.colour_rows.specs.Walk.{passed}
use Rattle.braid_core.specs.Braid.{Word, IsBraid, IsLetter}
use Rattle.braid_closure.specs.declared.columns.Column.{Column}
use Rattle.braid_closure.specs.Columns.{ended, at_position, diagram_of}
use Rattle.braid_closure.specs.Closure.{after_letter, after_letters, feet_columns, top_row, ended_at_the_top, closing, closure_size}
use Rattle.braid_closure.specs.Closure.{columns, closure, letter_sign}
use Rattle.braid_closure.proofs.Stages.{IsStage, x_rows, letter_pair, stage_as, stage_x, stage_letter, first_stage}
use Rattle.braid_closure.proofs.Grids.{size_closure, top_split, stage_top}
use Rattle.braid_laws.proofs.Cut.{cut}
use Rattle.braid_laws.proofs.Walked.{Row, column_covers, x_at, o_at, covers_at, mark_x, mark_o, last_is, row_ends}
use Rattle.braid_laws.proofs.Covered.{Rising, rising_passed, no_columns}
use Rattle.braid_laws.proofs.Crossed.{PassesUnder, IsClear, Runs, positive_under, negative_under}
use Rattle.braid_laws.proofs.Followed.{Parts, letter_cut}
use Rattle.braid_laws.proofs.Turned.{bottom_clear, top_clear, top_cut}
use Rattle.braid_laws.proofs.Feet.{built, body, built_stage, parts_of, letter_cuts, foot_cuts}

-- the column runs upward, where it has ended
abbrev runs_up : Column → Bool
runs_up c = nat_lt c.x (unwrap_or c.o 0)

up_at : (columns front : List Column) (c : Column) (rest : List Column) → columns ≡ front ++ c ∷ rest → is_up (diagram_of columns) (length front) ≡ runs_up c
up_at columns front c rest is = ap₂ nat_lt (x_at columns front c rest is) (o_at columns front c rest is)

-- neighbouring columns that a row passes under
part_step : (r : ℕ) (columns front : List Column) (v : Column) (vs rest : List Column) → columns ≡ front ++ v ∷ rest
    → (b : Bool) → column_covers r v ≡ b
    → map (is_up (diagram_of columns)) (filter (λ c. covers (diagram_of columns) c r) (range_with_len (length front + 1) (length vs)))
    ≡ map runs_up (filter (column_covers r) vs)
    → map (is_up (diagram_of columns)) (filter (λ c. covers (diagram_of columns) c r) (range_with_len (length front) (suc (length vs))))
    ≡ map runs_up (filter (column_covers r) (v ∷ vs))
part_step r columns front v vs rest is true covered more =
    let d = diagram_of columns in
    let later = filter (λ c. covers d c r) (range_with_len (length front + 1) (length vs)) in
    ap (λ (b : Bool). map (is_up d) (cond b (length front ∷ later) later)) (covers_at r columns front v rest is ∙ covered)
    ∙ (ap₂ (λ (b : Bool) (bs : List Bool). b ∷ bs) (up_at columns front v rest is) more
    ∙ sym (ap (λ (b : Bool). map runs_up (cond b (v ∷ filter (column_covers r) vs) (filter (column_covers r) vs))) covered))
part_step r columns front v vs rest is false covered more =
    let d = diagram_of columns in
    let later = filter (λ c. covers d c r) (range_with_len (length front + 1) (length vs)) in
    ap (λ (b : Bool). map (is_up d) (cond b (length front ∷ later) later)) (covers_at r columns front v rest is ∙ covered)
    ∙ (more
    ∙ sym (ap (λ (b : Bool). map runs_up (cond b (v ∷ filter (column_covers r) vs) (filter (column_covers r) vs))) covered))

passed_part : (r : ℕ) (columns front vs rest : List Column) (n : ℕ) → columns ≡ front ++ (vs ++ rest) → n ≡ length front
    → map (is_up (diagram_of columns)) (filter (λ c. covers (diagram_of columns) c r) (range_with_len n (length vs)))
    ≡ map runs_up (filter (column_covers r) vs)
passed_part r columns front [] rest n is n_is = refl
passed_part r columns front (v ∷ vs) rest n is n_is =
    let d = diagram_of columns in
    ap (λ (z : ℕ). map (is_up d) (filter (λ c. covers d c r) (range_with_len z (suc (length vs))))) n_is
    ∙ part_step r columns front v vs (vs ++ rest) is (column_covers r v) refl
    (passed_part r columns (front ++ v ∷ []) vs rest (length front + 1) (is ∙ sym (append_assoc front (v ∷ []) (vs ++ rest)))
    (sym (length-append front (v ∷ []))))

-- which of the columns that a row passes under run upward
row_passed : (r : ℕ) (columns : List Column) → IsGrid (diagram_of columns) → (row : Row r columns)
    → map (is_up (diagram_of columns)) (passed (diagram_of columns) r) ≡ map runs_up (filter (column_covers r) row.between)
row_passed r columns grid row =
    let d = diagram_of columns in
    let e = row_ends r columns grid row in
    let size = length-append row.front (row.first ∷ row.between) in
    let behind = row.last ∷ row.behind in
    ap₂ (λ (low high : ℕ). map (is_up d) (filter (λ c. covers d c r) (range_with_len (low + 1) (high - low - 1)))) e.low_is e.high_is
    ∙ (ap (λ (n : ℕ). map (is_up d) (filter (λ c. covers d c r) (range_with_len (length row.front + 1) n))) (omega arith)
    ∙ passed_part r columns (row.front ++ row.first ∷ []) row.between behind (length row.front + 1)
    (row.is ∙ sym (append_assoc row.front (row.first ∷ []) (row.between ++ behind))) (sym (length-append row.front (row.first ∷ []))))

-- a list that is mapped to none or to one
mapped_none : {A B : Type 0} (f : A → B) (xs : List A) → map f xs ≡ [] → xs ≡ []
mapped_none f [] e = refl
mapped_none f (x ∷ xs) e = absurd (let no : ◌≡◌ {A = List _} (f x ∷ map f xs) [] = e in cc)

record IsOne {A B : Type 0} (f : A → B) (xs : List A) (y : B) : Type 0 where
  pub one : A
  pub is : xs ≡ one ∷ []
  pub mapped : f one ≡ y

mapped_one : {A B : Type 0} (f : A → B) (xs : List A) (y : B) → map f xs ≡ y ∷ [] → IsOne f xs y
mapped_one f [] y e = absurd (let no : ◌≡◌ {A = List _} [] (y ∷ []) = e in cc)
mapped_one f (x ∷ xs) y e =
    let rest : map f xs ≡ [] = cc in
    record { one = x; is = ap (λ (zs : List _). x ∷ zs) (mapped_none f xs rest); mapped = cc }

-- a number of a range that passes a test, where none of them does, or one alone
abbrev keep : (ℕ → Bool) → ℕ → ℕ → List ℕ
keep p n k = filter p (range_with_len n k)

none_passes : (p : ℕ → Bool) (n k c : ℕ) → keep p n k ≡ [] → n ≤ c → c < n + k → p c ≡ true → ⊥
none_passes p n zero c none least most passes = omega arith
none_passes p n (suc k) c none least most passes =
    by (p n) refl (cases_eq c n) (λ rest other. none_passes p (n + 1) k c rest (omega (arith, other)) (omega arith) passes)
  where
    by : (b : Bool) → p n ≡ b → (c ≡ n) ⊎ (c ≡ n → ⊥) → (keep p (n + 1) k ≡ [] → (c ≡ n → ⊥) → ⊥) → ⊥
    by true is which more =
        let no : ◌≡◌ {A = List ℕ} (n ∷ keep p (n + 1) k) [] = sym (ap (λ (b : Bool). cond b (n ∷ keep p (n + 1) k) (keep p (n + 1) k)) is) ∙ none in
        cc
    by false is (inl same) more = let no : true ≡ false = sym passes ∙ (ap p same ∙ is) in cc
    by false is (inr other) more = more (sym (ap (λ (b : Bool). cond b (n ∷ keep p (n + 1) k) (keep p (n + 1) k)) is) ∙ none) other

-- the one number that passes
record IsAlone (p : ℕ → Bool) (n k v : ℕ) : Type 0 where
  pub least : n ≤ v
  pub most : v < n + k
  pub passes : p v ≡ true
  pub only : (c : ℕ) → n ≤ c → c < n + k → p c ≡ true → c ≡ v

alone : (p : ℕ → Bool) (n k v : ℕ) → keep p n k ≡ v ∷ [] → IsAlone p n k v
alone p n zero v one = absurd (let no : ◌≡◌ {A = List ℕ} [] (v ∷ []) = one in cc)
alone p n (suc k) v one = by (p n) refl (λ rest. alone p (n + 1) k v rest)
  where
    by : (b : Bool) → p n ≡ b → (keep p (n + 1) k ≡ v ∷ [] → IsAlone p (n + 1) k v) → IsAlone p n (suc k) v
    by true is later =
        let both : ◌≡◌ {A = List ℕ} (n ∷ keep p (n + 1) k) (v ∷ []) = sym (ap (λ (b : Bool). cond b (n ∷ keep p (n + 1) k) (keep p (n + 1) k)) is) ∙ one in
        let here : n ≡ v = cc in
        let none : keep p (n + 1) k ≡ [] = cc in
        record {
          least = omega arith;
          most = omega arith;
          passes = ap p (sym here) ∙ is;
          only = λ c from to at. elim (cases_eq c n) [
            | inl same ↦ same ∙ here
            | inr other ↦ absurd (none_passes p (n + 1) k c none (omega (arith, other)) (omega arith) at)
          ];
        }
    by false is later =
        let rest = later (sym (ap (λ (b : Bool). cond b (n ∷ keep p (n + 1) k) (keep p (n + 1) k)) is) ∙ one) in
        record {
          least = let low = rest.least in omega arith;
          most = let high = rest.most in omega arith;
          passes = rest.passes;
          only = λ c from to at. elim (cases_eq c n) [
            | inl same ↦ absurd (let no : true ≡ false = sym at ∙ (ap p same ∙ is) in cc)
            | inr other ↦ rest.only c (omega (arith, other)) (omega arith) at
          ];
        }

-- where a row has no crossing
pub NoneCross : Diagram → ℕ → Type 0
NoneCross d r = (c : ℕ) → IsTrue (crosses d c r) → ⊥

-- a row has one crossing, of this sign
pub record OneCrosses (d : Diagram) (r : ℕ) (s : ℤ) : Type 0 where
  pub column : ℕ
  pub crosses_there : IsTrue (crosses d column r)
  pub sign_is : sign d column r ≡ s
  pub alone : (c : ℕ) → IsTrue (crosses d c r) → c ≡ column

across : (d : Diagram) (c r : ℕ) → crosses d c r ≡ true → ((ends d r).low < c) × (c < (ends d r).high) × (covers d c r ≡ true)
across d c r at =
    let parts = and_parts (covers d c r) (lies_within (ends d r) c) at in
    let within = and_parts (nat_lt (ends d r).low c) (nat_lt c (ends d r).high) parts.1 in
    (ltb-true (ends d r).low c within.0, ltb-true c (ends d r).high within.1, parts.0)

none_cross : (d : Diagram) (r : ℕ) → passed d r ≡ [] → NoneCross d r
unfolding NoneCross
none_cross d r none = λ c at.
    let a = across d c r at in
    let low = a.0 in
    let high = a.1 in
    none_passes (λ k. covers d k r) ((ends d r).low + 1) ((ends d r).high - (ends d r).low - 1) c none (omega arith) (omega arith) a.2

one_crosses : (d : Diagram) (r c : ℕ) (s : ℤ) → passed d r ≡ c ∷ [] → sign d c r ≡ s → OneCrosses d r s
one_crosses d r c s one sign_is =
    let low = (ends d r).low in
    let high = (ends d r).high in
    let v = alone (λ k. covers d k r) (low + 1) (high - low - 1) c one in
    let least = v.least in
    let most = v.most in
    record {
      column = c;
      crosses_there = and_from (covers d c r) (lies_within (ends d r) c) v.passes
          (and_from (nat_lt low c) (nat_lt c high) (lt-ltb low c (omega arith)) (lt-ltb c high (omega arith)));
      sign_is = sign_is;
      alone = λ b at.
          let a = across d b r at in
          let from = a.0 in
          let to = a.1 in
          v.only b (omega arith) (omega arith) a.2;
    }

-- the sign of a crossing of a column that runs upward
abbrev sign_by : Bool → ℤ
sign_by right = if right then negsuc 0 else pos 1

up_sign : (d : Diagram) (c r : ℕ) (right : Bool) → is_up d c ≡ true → is_rightward d r ≡ right → sign d c r ≡ sign_by right
up_sign d c r right up runs =
    let column : Bool → Direction = λ u. record { x = pos 0; y = unit u } in
    let row : Bool → Direction = λ w. record { x = unit w; y = pos 0 } in
    ap₂ (λ (u w : Bool). cross_product (column u) (row w)) up runs ∙ by right
  where
    by : (w : Bool) → cross_product (record { x = pos 0; y = unit true }) (record { x = unit w; y = pos 0 }) ≡ sign_by w
    by true = refl
    by false = refl

-- the direction of a row, by its marks
runs_there : (r : ℕ) (columns : List Column) → IsGrid (diagram_of columns) → (row : Row r columns) (right : Bool)
    → Runs right r row.first row.last → is_rightward (diagram_of columns) r ≡ right
runs_there r columns grid row right runs =
    let low = length row.front in
    let high = length (row.front ++ row.first ∷ row.between) in
    let size = length-append row.front (row.first ∷ row.between) in
    by right runs (omega arith)
  where
    by : (w : Bool) → Runs w r row.first row.last → length row.front < length (row.front ++ row.first ∷ row.between)
        → is_rightward (diagram_of columns) r ≡ w
    by true at lt =
        let ring = mark_o columns row.front row.first (row.between ++ row.last ∷ row.behind) r grid row.is at.0 in
        let cross = mark_x columns (row.front ++ row.first ∷ row.between) row.last row.behind r grid (last_is r columns row) at.1 in
        lt-ltb (column_of Ring (diagram_of columns) r) (column_of Cross (diagram_of columns) r) (omega arith)
    by false at lt =
        let cross = mark_x columns row.front row.first (row.between ++ row.last ∷ row.behind) r grid row.is at.0 in
        let ring = mark_o columns (row.front ++ row.first ∷ row.between) row.last row.behind r grid (last_is r columns row) at.1 in
        le-ltb (column_of Ring (diagram_of columns) r) (column_of Cross (diagram_of columns) r) (omega arith)

-- the crossings of a row of the closure
one_column : (cs : List Column) (x : ℕ) → x_rows cs ≡ x ∷ [] → All Rising cs → map runs_up cs ≡ true ∷ []
one_column [] x e all = absurd (let no : ◌≡◌ {A = List ℕ} [] (x ∷ []) = e in cc)
one_column (c ∷ cs) x e all =
    let rest : x_rows cs ≡ [] = cc in
    let here = All-head Rising c cs all in
    ap₂ (λ (b : Bool) (zs : List Column). b ∷ map runs_up zs)
    (ap (λ (o : Option ℕ). nat_lt c.x (unwrap_or o 0)) here.ends_there ∙ lt-ltb c.x here.top here.up) (no_columns cs rest)

under_crosses : (r : ℕ) (columns : List Column) (low over high : ℕ) (right : Bool) → IsGrid (diagram_of columns)
    → PassesUnder r columns low over high right → OneCrosses (diagram_of columns) r (sign_by right)
under_crosses r columns low over high right grid at =
    let d = diagram_of columns in
    let cs = filter (column_covers r) at.row.between in
    let rows : x_rows cs ≡ over ∷ [] = rising_passed r at.row.between at.rising ∙ at.passes in
    let all = All-filter (column_covers r) Rising at.row.between at.rising in
    let one = mapped_one (is_up d) (passed d r) true (row_passed r columns grid at.row ∙ one_column cs over rows all) in
    one_crosses d r one.one (sign_by right) one.is (up_sign d one.one r right one.mapped (runs_there r columns grid at.row right at.runs))

clear_crosses : (r : ℕ) (columns : List Column) (low high : ℕ) → IsGrid (diagram_of columns)
    → IsClear r columns low high → NoneCross (diagram_of columns) r
clear_crosses r columns low high grid at =
    let d = diagram_of columns in
    none_cross d r (mapped_none (is_up d) (passed d r) (row_passed r columns grid at.row ∙ ap (map runs_up) at.none))

-- a letter's row
letter_crosses : (m r e : ℕ) (a : ℤ) (columns body behind : List Column) → IsLetter m a → IsStage m m r e columns → Parts body behind
    → cut r body ≡ after_letter a r columns → OneCrosses (diagram_of (body ++ behind)) r (letter_sign a)
letter_crosses m r e (pos k) columns body behind letter stage parts cut_is =
    let pair = letter_pair m k r e columns stage letter.least letter.most in
    under_crosses r (body ++ behind) r pair.first.x pair.second.x false parts.grid
    (positive_under r k columns body behind pair parts.rising (stage_x m m r e columns stage) cut_is)
letter_crosses m r e (negsuc j) columns body behind letter stage parts cut_is =
    let most = letter.most in
    let pair = letter_pair m (j + 1) r e columns stage (omega arith) (omega arith) in
    under_crosses r (body ++ behind) pair.first.x pair.second.x r true parts.grid
    (negative_under r (j + 1) columns body behind pair parts.rising (stage_x m m r e columns stage) cut_is)

letters_cross : (m r e : ℕ) (letters : List ℤ) (columns body behind : List Column) → r ≡ m + e → All (IsLetter m) letters
    → IsStage m m r e columns → Parts body behind
    → ((s : ℕ) → s < r + length letters → cut s body ≡ cut s (after_letters r columns letters))
    → (i : ℕ) → i < length letters → OneCrosses (diagram_of (body ++ behind)) (r + i) (letter_sign (slice_index_or letters i (pos 0)))
letters_cross m r e [] columns body behind r_is all stage parts cuts i lt = absurd (omega arith)
letters_cross m r e (a ∷ letters) columns body behind r_is all stage parts cuts zero lt =
    let here : r ≡ r + 0 = omega arith in
    subst (λ (z : ℕ). OneCrosses (diagram_of (body ++ behind)) z (letter_sign a)) here
    (letter_crosses m r e a columns body behind (All-head (IsLetter m) a letters all) stage parts
    (letter_cut m r e a letters columns body r_is all stage cuts))
letters_cross m r e (a ∷ letters) columns body behind r_is all stage parts cuts (suc i) lt =
    let next = stage_letter m r e a columns r_is (All-head (IsLetter m) a letters all) stage in
    let further : r + 1 + i ≡ r + suc i = omega arith in
    subst (λ (z : ℕ). OneCrosses (diagram_of (body ++ behind)) z (letter_sign (slice_index_or letters i (pos 0)))) further
    (letters_cross m (r + 1) (e + 1) letters (after_letter a r columns) body behind (omega arith) (All-tail (IsLetter m) a letters all) next parts
    (λ s low. cuts s (omega arith)) i (omega arith))

pub each_letter_crosses : (b : Word) → IsBraid b → (i : ℕ) → i < length b.letters
    → OneCrosses (closure b) (b.strands + i) (letter_sign (slice_index_or b.letters i (pos 0)))
each_letter_crosses b braid =
    letters_cross b.strands b.strands 0 b.letters (feet_columns b.strands) (body b) (closing (closure_size b) b.strands) (omega arith) braid.crossings
    (first_stage b.strands) (parts_of b braid) (letter_cuts b braid)

-- the top rows
tops_clear : (n m j r e : ℕ) (columns body : List Column) → j ≤ m → 2 * m ≤ n → j + (m + e) ≡ n → r ≤ m + e → IsStage m j r e columns
    → Parts body (closing n m) → ((s : ℕ) → m + e ≤ s → cut s body ≡ cut s (ended_at_the_top n j columns))
    → (i : ℕ) → i < j → NoneCross (diagram_of (body ++ closing n m)) (top_row n (i + 1))
tops_clear n m zero r e columns body most room n_is below stage parts cuts k lt = absurd (omega arith)
tops_clear n m (suc i) r e columns body most room n_is below stage parts cuts k lt =
    let one = stage_as m (suc i) (i + 1) r r e e columns columns refl (omega arith) refl refl stage in
    let split = top_split m n i r e columns (omega arith) one in
    let top = top_row n (i + 1) in
    let after = at_position (i + 1) (λ c. ended top c ∷ []) columns in
    elim (cases_eq k i) [
      | inl same ↦
          let here = top_clear n m i r e columns body (omega arith) room one split parts.rising
          (top_cut m n i r e columns body (omega arith) below one split (cuts top (omega arith))) in
          subst (λ (z : ℕ). NoneCross (diagram_of (body ++ closing n m)) (top_row n (z + 1))) (sym same)
          (clear_crosses top (body ++ closing n m) split.here.x top parts.grid here)
      | inr other ↦
          tops_clear n m i r (e + 1) after body (omega arith) room (omega arith) (omega arith) (stage_top m n i r e columns (omega arith) below one)
          parts (λ s from. cuts s (omega arith)) k (omega (arith, other))
    ]

-- so a row with a crossing is a letter's
pub crossing_rows : (b : Word) → IsBraid b → (c r : ℕ) → r < size (closure b) → IsTrue (crosses (closure b) c r)
    → (b.strands ≤ r) × (r < b.strands + length b.letters)
unfolding NoneCross
crossing_rows b braid c r inside at =
    let n = closure_size b in
    let m = b.strands in
    let parts = parts_of b braid in
    let below : r < n = omega (arith, inside, size_closure b braid) in
    elim (cases_lt r m) [
      | inl foot ↦ absurd (clear_crosses r (columns b) r (top_row n (r + 1)) parts.grid
          (bottom_clear n m r (body b) foot (omega arith) parts.rising (foot_cuts b braid r foot)) c at)
      | inr least ↦ elim (cases_lt r (m + length b.letters)) [
        | inl letter ↦ (least, letter)
        | inr high ↦
            let i = n - 1 - r in
            let row : top_row n (i + 1) ≡ r = omega arith in
            let none = tops_clear n m m (m + length b.letters) (length b.letters) (built b) (body b) (omega arith) (omega arith) (omega arith)
            (omega arith) (built_stage b braid) parts (λ s from. refl) i (omega arith) in
            absurd (none c (subst (λ (z : ℕ). IsTrue (crosses (closure b) c z)) (sym row) at))
      ]
    ]
