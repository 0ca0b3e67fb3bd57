-- The walk of a row under the columns, and the same under the strands.
use Rattle.std.proofs.Common.{◌≡◌, ◌≢◌, ◌<◌, ◌≤◌, ◌+◌, ◌-◌, ◌∷◌, ◌∙◌, inl, inr, ℕ, zero, suc, List, Bool, true, false, not, cond, All}
use Rattle.std.proofs.Common.{get_or, map, filter, fold, arith, sym, refl, ap, ap₂}
use Rattle.std.specs.List.{range_with_len}
use Rattle.std.proofs.lemmas.Bool.{cases_lt, lt-ltb, le-ltb}
use Rattle.grid_core.specs.declared.mark.Kind.TheVariants.{Cross, Ring}
use Rattle.grid_core.specs.Diagram.{Diagram, IsGrid, size, row_of}
use Rattle.grid_core.specs.Parts.{column_of, covers, is_up, ends}
use Rattle.grid_core.proofs.Marks.{column_is}
use Rattle.quandle_core.specs.Quandle.{Table, IsQuandle, over, back}
use Rattle.colour_rows.specs.Walk.{under, walk}
use Rattle.grid_core.proofs.Ends.{has_ends, span_low, span_high}
use Rattle.grid_braid.specs.Strands.{is_strand, strands_between}
use Rattle.grid_braid.proofs.Heights.{runs_covers_up, runs_covers_down}
use Rattle.grid_braid.proofs.Turns.{Respects, turn, turn_respects, turn_next, colour_below}

-- one column: what the walk does, seen behind the column, is what the strand does, if one runs there
column_passed : (t : Table) → IsQuandle t → (h : ℕ → ℕ) → Respects t h → (up covered strand : Bool) (x y : ℕ) → x < t.order → y < t.order
    → strand ≡ cond up covered (not covered)
    → cond up (h (cond covered (cond up (back t x y) (over t x y)) x)) (back t (h (cond covered (cond up (back t x y) (over t x y)) x)) (h y))
    ≡ cond strand (back t (h x) (h y)) (h x)
column_passed t q h r true true strand x y at by_y is = r.back_kept x y at by_y ∙ sym (ap (λ (b : Bool). cond b (back t (h x) (h y)) (h x)) is)
column_passed t q h r true false strand x y at by_y is = sym (ap (λ (b : Bool). cond b (back t (h x) (h y)) (h x)) is)
column_passed t q h r false true strand x y at by_y is =
    ap (λ (w : ℕ). back t w (h y)) (r.over_kept x y at by_y)
    ∙ (q.back_over (h x) (h y) (r.within x at) (r.within y by_y)
    ∙ sym (ap (λ (b : Bool). cond b (back t (h x) (h y)) (h x)) is))
column_passed t q h r false false strand x y at by_y is = sym (ap (λ (b : Bool). cond b (back t (h x) (h y)) (h x)) is)

passed_below : (t : Table) → IsQuandle t → (up covered : Bool) (x y : ℕ) → x < t.order → y < t.order
    → cond covered (cond up (back t x y) (over t x y)) x < t.order
passed_below t q up false x y at by_y = at
passed_below t q true true x y at by_y = q.back_within x y at by_y
passed_below t q false true x y at by_y = q.within x y at by_y

-- a column without a mark in the row
strand_by : (d : Diagram) (r c : ℕ) → row_of Cross d c ≢ r → row_of Ring d c ≢ r → is_strand d r c ≡ cond (is_up d c) (covers d c r) (not (covers d c r))
strand_by d r c apart free = elim (cases_lt (row_of Cross d c) (row_of Ring d c)) [
  | inl lt ↦ runs_covers_up (row_of Cross d c) (row_of Ring d c) r lt apart free
      ∙ sym (ap (λ (b : Bool). cond b (covers d c r) (not (covers d c r))) (lt-ltb (row_of Cross d c) (row_of Ring d c) lt))
  | inr le ↦ runs_covers_down (row_of Cross d c) (row_of Ring d c) r le apart free
      ∙ sym (ap (λ (b : Bool). cond b (covers d c r) (not (covers d c r))) (le-ltb (row_of Cross d c) (row_of Ring d c) le))
]

-- neighbouring columns without a mark in the row
walk_columns : (t : Table) → IsQuandle t → (d : Diagram) (f : List ℕ) → All (λ y. y < t.order) f → (e : ℕ → ℕ) (r a n x : ℕ) → x < t.order
    → ((c : ℕ) → a ≤ c → c < a + n → e c ≡ turn t d f c (get_or f c 0))
    → ((c : ℕ) → a ≤ c → c < a + n → row_of Cross d c ≢ r)
    → ((c : ℕ) → a ≤ c → c < a + n → row_of Ring d c ≢ r)
    → turn t d f (a + n) (fold (under t d f) x (filter (λ c. covers d c r) (range_with_len a n)))
    ≡ fold (back t) (turn t d f a x) (map e (filter (is_strand d r) (range_with_len a n)))
walk_columns t q d f below e r a zero x at is apart free = ap (λ (k : ℕ). turn t d f k x) (let n : a + 0 ≡ a = omega arith in n)
walk_columns t q d f below e r a (suc n) x at is apart free =
    let y = get_or f a 0 in
    let z = cond (covers d a r) (cond (is_up d a) (back t x y) (over t x y)) x in
    let later = filter (λ c. covers d c r) (range_with_len (a + 1) n) in
    let behind = filter (is_strand d r) (range_with_len (a + 1) n) in
    ap₂ (λ (k w : ℕ). turn t d f k w) (let s : a + suc n ≡ a + 1 + n = omega arith in s) (covered (covers d a r) later)
    ∙ (walk_columns t q d f below e r (a + 1) n z (passed_below t q (is_up d a) (covers d a r) x y at (colour_below t q f below a))
    (λ c from to. is c (omega arith) (omega arith)) (λ c from to. apart c (omega arith) (omega arith)) (λ c from to. free c (omega arith) (omega arith))
    ∙ (ap (λ (w : ℕ). fold (back t) w (map e behind))
    (turn_next t d f a z
    ∙ (column_passed t q (turn t d f a) (turn_respects t q d f below a) (is_up d a) (covers d a r) (is_strand d r a) x y at (colour_below t q f below a)
    (strand_by d r a (apart a (omega arith) (omega arith)) (free a (omega arith) (omega arith)))
    ∙ ap (λ (w : ℕ). cond (is_strand d r a) (back t (turn t d f a x) w) (turn t d f a x)) (sym (is a (omega arith) (omega arith)))))
    ∙ stood (is_strand d r a) behind))
  where
    covered : (b : Bool) (later : List ℕ) → fold (under t d f) x (cond b (a ∷ later) later)
        ≡ fold (under t d f) (cond b (cond (is_up d a) (back t x (get_or f a 0)) (over t x (get_or f a 0))) x) later
    covered true later = refl
    covered false later = refl

    stood : (b : Bool) (behind : List ℕ) → fold (back t) (cond b (back t (turn t d f a x) (e a)) (turn t d f a x)) (map e behind)
        ≡ fold (back t) (turn t d f a x) (map e (cond b (a ∷ behind) behind))
    stood true behind = refl
    stood false behind = refl

-- each column's strand has the colour that the down columns to its left make of the column's
abbrev pub Turned : Table → Diagram → List ℕ → (ℕ → ℕ) → Type 0
Turned t d f e = (c : ℕ) → c < size d → e c ≡ turn t d f c (get_or f c 0)

-- passing its own column changes no colour
own_kept : (t : Table) → IsQuandle t → (up : Bool) (y : ℕ) → y < t.order → cond up y (back t y y) ≡ y
own_kept t q true y at = refl
own_kept t q false y at = ap (λ (w : ℕ). back t w y) (sym (q.idempotent y at)) ∙ q.back_over y y at at

pub walk_turned : (t : Table) → IsQuandle t → (d : Diagram) → IsGrid d → (f : List ℕ) → All (λ y. y < t.order) f → (e : ℕ → ℕ) → Turned t d f e
    → (r : ℕ) → r < size d
    → turn t d f (ends d r).high (walk t d f r) ≡ fold (back t) (e (ends d r).low) (map e (strands_between d r))
walk_turned t q d grid f below e turned r lt =
    let lo = (ends d r).low in
    let hi = (ends d r).high in
    let row = has_ends d grid r lt in
    let ordered = row.ordered in
    let within = row.within in
    let low = span_low (column_of Cross d r) (column_of Ring d r) in
    let high = span_high (column_of Cross d r) (column_of Ring d r) in
    let y = get_or f lo 0 in
    let at = colour_below t q f below lo in
    ap (λ (k : ℕ). turn t d f k (walk t d f r)) (let n : hi ≡ lo + 1 + (hi - lo - 1) = omega arith in n)
    ∙ (walk_columns t q d f below e r (lo + 1) (hi - lo - 1) y at (λ c from to. turned c (omega arith))
    (λ c from to mark. let is = column_is d grid Cross c r (record { inside = omega arith; row = mark }) in absurd (omega arith))
    (λ c from to mark. let is = column_is d grid Ring c r (record { inside = omega arith; row = mark }) in absurd (omega arith))
    ∙ ap₂ (λ (w k : ℕ). fold (back t) w (map e (filter (is_strand d r) (range_with_len (lo + 1) k))))
    (turn_next t d f lo y ∙ (own_kept t q (is_up d lo) (turn t d f lo y) ((turn_respects t q d f below lo).within y at) ∙ sym (turned lo (omega arith))))
    (let n : hi - lo - 1 ≡ hi - (lo + 1) = omega arith in n))

-- the colours of strands lie below the order
pub turned_below : (t : Table) → IsQuandle t → (d : Diagram) (f : List ℕ) → All (λ y. y < t.order) f → (e : ℕ → ℕ) → Turned t d f e → (c : ℕ)
    → c < size d → e c < t.order
turned_below t q d f below e turned c lt =
    let within = (turn_respects t q d f below c).within (get_or f c 0) (colour_below t q f below c) in
    let is = turned c lt in
    omega arith
