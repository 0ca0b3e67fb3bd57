-- A shift of the rows by one: the lowest row goes to the top, and the columns between its ends change their colours.
use Rattle.std.proofs.Common.{◌≡◌, ◌≢◌, ◌∙◌, ◌<◌, ◌-◌, ℕ, suc, zero, List, [], ◌∷◌, map, ap, ap₂, sym, refl, arith, inl, inr, cond, subst}
use Rattle.std.specs.Prelude.{Bool, true, false, nat_lt, ◌==◌, ◌⊎◌, ◌||◌}
use Rattle.std.proofs.Math.Bool.{not}
use Rattle.std.proofs.lemmas.Bool.{cond-true, cond-false, eqb-true, false≢true, cases_Bool, cases_lt, cases_order, lt-ltb, le-ltb}
use Rattle.colour_laws.proofs.ColumnLists.{Acts, Column, ends, xs_in, os_in, crossed, crosses, IsColoured, rises, IsInside, dropped, lowered, lowered_on}
use Rattle.colour_laws.proofs.ColumnLists.{relabel, recolour}
use Rattle.colour_laws.proofs.Actions.{crossed_carried, crossed_carries, crossed_fixed, undo}
use Rattle.colour_laws.proofs.Rows.{cross, ring, apart, side, ends_cross, ends_ring, ends_apart, on_at, row_at, row_end, row_apart, on_end, on_apart, row_walk}
use Rattle.colour_laws.proofs.Level.{xs_here, xs_not_here, os_here, os_not_here, on_clear}
use Rattle.colour_laws.proofs.DroppedColumns.{dropped_other, eq_dropped_top, ends_dropped, crosses_dropped, flipped_cross, flipped_ring, on_dropped}
use Rattle.colour_laws.proofs.DroppedColumns.{row_dropped, crosses_left, same_tests, flipped_right, crosses_lowest}
use Rattle.colour_laws.proofs.LoweredMarks.{lowered_on_end, lowered_on_apart, lowered_end, lowered_apart, marks_lowered, marks_lowered_top}

-- between the ends of the lowest row: a walk there goes with the action done to its colour
mid_on : (p : Bool → ℕ → ℕ → ℕ) → Acts p → (n s : ℕ) → suc s < n → (d : Bool) (a : ℕ) (cs : List Column) → on_at p 0 0 a cs ≡ true
    → xs_in 0 cs ≡ crosses_left d → os_in 0 cs ≡ crosses_left (not d) → (v : ℕ)
    → on_at p s s (p d a v) (lowered_on p n d a cs) ≡ on_at p (suc s) (suc s) v cs
mid_on p acts n s lt d a [] low ex eo v = refl
mid_on p acts n s lt d a (c ∷ cs) low ex eo v = elim (cases_Bool (ends 0 c)) [
  | inl e ↦
      let is : lowered_on p n d a (c ∷ cs) ≡ map (relabel (dropped n)) (c ∷ cs) =
      cond-true (ends 0 c) (map (relabel (dropped n)) (c ∷ cs)) (recolour (relabel (dropped n) c) (p d a c.y) ∷ lowered_on p n d a cs) e in
      let same : a ≡ c.y = eqb-true a c.y (sym (on_end p 0 0 a c cs e) ∙ low) in
      let parts = flipped_right p acts n s lt d c cs e ex eo (p d a v) in
      let meets : (p d a v == c.y) ≡ (v == c.y) = ap (λ y. p d a v == y) (sym (acts.fixed d c.y) ∙ ap (λ b. p d b c.y) (sym same))
      ∙ same_tests p acts d a v c.y in
      let crossed_back : crosses p s (relabel (dropped n) c) (p d a v) ≡ crosses p (suc s) c v =
      parts.0 ∙ ap (λ b. p (not d) c.y (crosses p (suc s) c (p d b v))) same
      ∙ ap (p (not d) c.y) (crossed_carries p acts d (nat_lt c.x (suc s)) (nat_lt c.o (suc s)) c.y c.y v
      ∙ ap (λ b. p d b (crosses p (suc s) c v)) (crossed_fixed p acts (nat_lt c.x (suc s)) (nat_lt c.o (suc s)) c.y))
      ∙ undo p acts d c.y (crosses p (suc s) c v) in
      ap (on_at p s s (p d a v)) is
      ∙ ap₂ (λ t k. cond t k (on_at p s s (crosses p s (relabel (dropped n) c) (p d a v)) (map (relabel (dropped n)) cs))) (ends_dropped n s lt c) meets
      ∙ ap (λ k. cond (ends (suc s) c) (v == c.y) k)
      (ap (λ b. on_at p s s b (map (relabel (dropped n)) cs)) crossed_back ∙ on_dropped p n s lt (crosses p (suc s) c v) cs parts.1 parts.2)
  | inr e ↦
      let is : lowered_on p n d a (c ∷ cs) ≡ recolour (relabel (dropped n) c) (p d a c.y) ∷ lowered_on p n d a cs =
      cond-false (ends 0 c) (map (relabel (dropped n)) (c ∷ cs)) (recolour (relabel (dropped n) c) (p d a c.y) ∷ lowered_on p n d a cs) e in
      elim (side 0 c) [
        | cross f ↦ absurd (false≢true (sym e ∙ ends_cross 0 c f))
        | ring u f ↦ absurd (false≢true (sym e ∙ ends_ring 0 c f))
        | apart u w ↦
            let low' : on_at p 0 0 a cs ≡ true = sym (on_apart p 0 0 a c cs e ∙ ap (λ b. on_at p 0 0 b cs) (crosses_lowest p c a)) ∙ low in
            let step : crosses p s (recolour (relabel (dropped n) c) (p d a c.y)) (p d a v) ≡ p d a (crosses p (suc s) c v) =
            crosses_dropped p n s c (p d a c.y) (p d a v) u w ∙ sym (crossed_carried p acts d (nat_lt c.x (suc s)) (nat_lt c.o (suc s)) a c.y v) in
            let rest = mid_on p acts n s lt d a cs low' (sym (xs_not_here 0 c cs u) ∙ ex) (sym (os_not_here 0 c cs w) ∙ eo) (crosses p (suc s) c v) in
            ap (on_at p s s (p d a v)) is
            ∙ ap₂ (λ t k. cond t k (on_at p s s (crosses p s (recolour (relabel (dropped n) c) (p d a c.y)) (p d a v)) (lowered_on p n d a cs)))
            (ends_dropped n s lt c) (same_tests p acts d a v c.y)
            ∙ ap (λ k. cond (ends (suc s) c) (v == c.y) k) (ap (λ b. on_at p s s b (lowered_on p n d a cs)) step ∙ rest)
      ]
]

-- one more column in front of rows that have the same walks
pub row_front : (p : Bool → ℕ → ℕ → ℕ) (h r h' r' : ℕ) (c c' : Column) (cs cs' : List Column) → ends r' c' ≡ ends r c
    → on_at p h' r' c'.y cs' ≡ on_at p h r c.y cs → row_at p h' r' cs' ≡ row_at p h r cs
    → row_at p h' r' (c' ∷ cs') ≡ row_at p h r (c ∷ cs)
row_front p h r h' r' c c' cs cs' e f g = ap₂ (λ t k. cond t k (row_at p h' r' cs')) e f ∙ ap (λ k. cond (ends r c) (on_at p h r c.y cs) k) g

pub on_front : (p : Bool → ℕ → ℕ → ℕ) (h r h' r' v v' : ℕ) (c c' : Column) (cs cs' : List Column) → ends r' c' ≡ ends r c → (v' == c'.y) ≡ (v == c.y)
    → on_at p h' r' (crosses p h' c' v') cs' ≡ on_at p h r (crosses p h c v) cs → on_at p h' r' v' (c' ∷ cs') ≡ on_at p h r v (c ∷ cs)
on_front p h r h' r' v v' c c' cs cs' e f g = ap₂ (λ t k. cond t k (on_at p h' r' (crosses p h' c' v') cs')) e f ∙ ap (λ k. cond (ends r c) (v == c.y) k) g

-- a walk that begins between the ends of the lowest row
mid_row : (p : Bool → ℕ → ℕ → ℕ) → Acts p → (n s : ℕ) → suc s < n → (d : Bool) (a : ℕ) (cs : List Column) → on_at p 0 0 a cs ≡ true
    → xs_in 0 cs ≡ crosses_left d → os_in 0 cs ≡ crosses_left (not d)
    → row_at p s s (lowered_on p n d a cs) ≡ row_at p (suc s) (suc s) cs
mid_row p acts n s lt d a [] low ex eo = refl
mid_row p acts n s lt d a (c ∷ cs) low ex eo = elim (cases_Bool (ends 0 c)) [
  | inl e ↦
      let parts = flipped_right p acts n s lt d c cs e ex eo a in
      ap (row_at p s s) (lowered_on_end p n d a c cs e)
      ∙ row_front p (suc s) (suc s) s s c (relabel (dropped n) c) cs (map (relabel (dropped n)) cs) (ends_dropped n s lt c)
      (on_dropped p n s lt c.y cs parts.1 parts.2) (row_dropped p n s lt cs parts.1 parts.2)
  | inr e ↦ elim (side 0 c) [
    | cross f ↦ absurd (false≢true (sym e ∙ ends_cross 0 c f))
    | ring u f ↦ absurd (false≢true (sym e ∙ ends_ring 0 c f))
    | apart u w ↦
        let low' : on_at p 0 0 a cs ≡ true = sym (on_apart p 0 0 a c cs e ∙ ap (λ b. on_at p 0 0 b cs) (crosses_lowest p c a)) ∙ low in
        let ex' = sym (xs_not_here 0 c cs u) ∙ ex in
        let eo' = sym (os_not_here 0 c cs w) ∙ eo in
        ap (row_at p s s) (lowered_on_apart p n d a c cs e)
        ∙ row_front p (suc s) (suc s) s s c (recolour (relabel (dropped n) c) (p d a c.y)) cs (lowered_on p n d a cs) (ends_dropped n s lt c)
        (mid_on p acts n s lt d a cs low' ex' eo' c.y) (mid_row p acts n s lt d a cs low' ex' eo')
  ]
]

-- what is known at the left end of the lowest row
pub record IsLeft (p : Bool → ℕ → ℕ → ℕ) (n s : ℕ) (c : Column) (cs : List Column) (d : Bool) : Type 0 where
  pub acted : (v : ℕ) → crosses p s (relabel (dropped n) c) v ≡ p d c.y (crosses p (suc s) c v)
  pub crosses : xs_in 0 cs ≡ crosses_left d
  pub rings : os_in 0 cs ≡ crosses_left (not d)

pub left_end : (p : Bool → ℕ → ℕ → ℕ) → Acts p → (n s : ℕ) → suc s < n → (c : Column) (cs : List Column) → ends 0 c ≡ true → on_at p 0 0 c.y cs ≡ true
    → xs_in 0 (c ∷ cs) ≡ 1 → os_in 0 (c ∷ cs) ≡ 1 → IsLeft p n s c cs (not (rises c))
left_end p acts n s lt c cs e on ex eo = elim (side 0 c) [
  | cross f ↦
      let ex' : xs_in 0 cs ≡ 0 = omega (arith, xs_here 0 c cs f) in
      let u : c.o ≢ 0 = λ g. false≢true (sym (on_clear p 0 0 c.y cs ex' (omega (arith, os_here 0 c cs g))) ∙ on) in
      let up : rises c ≡ true = elim (cases_order c.o 0) [
        | inl g ↦ absurd (u g)
        | inr (inl l) ↦ absurd (omega arith)
        | inr (inr l) ↦ lt-ltb c.x c.o (omega arith)
      ] in
      let found : IsLeft p n s c cs false = record {
        acted = λ v. flipped_cross p acts n s lt c v f u;
        crosses = ex';
        rings =
            sym (os_not_here 0 c cs u) ∙ eo;
      } in
      subst (λ (t : Bool). IsLeft p n s c cs (not t)) (sym up) found
  | ring u f ↦
      let down : rises c ≡ false = le-ltb c.x c.o (omega arith) in
      let found : IsLeft p n s c cs true = record {
        acted = λ v. flipped_ring p acts n s lt c v f u;
        crosses = sym (xs_not_here 0 c cs u) ∙ ex;
        rings =
            omega (arith, os_here 0 c cs f);
      } in
      subst (λ (t : Bool). IsLeft p n s c cs (not t)) (sym down) found
  | apart u w ↦ absurd (false≢true (sym (ends_apart 0 c u w) ∙ e))
]

-- a walk that comes from the left of both ends of the lowest row
whole_on : (p : Bool → ℕ → ℕ → ℕ) → Acts p → (n s : ℕ) → suc s < n → (cs : List Column) → row_at p 0 0 cs ≡ true → xs_in 0 cs ≡ 1 → os_in 0 cs ≡ 1
    → (v : ℕ) → on_at p s s v (lowered p n cs) ≡ on_at p (suc s) (suc s) v cs
whole_on p acts n s lt [] low ex eo v = refl
whole_on p acts n s lt (c ∷ cs) low ex eo v = elim (cases_Bool (ends 0 c)) [
  | inl e ↦
      let on : on_at p 0 0 c.y cs ≡ true = sym (row_end p 0 0 c cs e) ∙ low in
      let left = left_end p acts n s lt c cs e on ex eo in
      ap (on_at p s s v) (lowered_end p n c cs e)
      ∙ on_front p (suc s) (suc s) s s v v c (relabel (dropped n) c) cs (lowered_on p n (not (rises c)) c.y cs) (ends_dropped n s lt c) refl
      (ap (λ b. on_at p s s b (lowered_on p n (not (rises c)) c.y cs)) (left.acted v) ∙ mid_on p acts n s lt (not (rises c)) c.y cs on left.crosses left.rings
      (crosses p (suc s) c v))
  | inr e ↦ elim (side 0 c) [
    | cross f ↦ absurd (false≢true (sym e ∙ ends_cross 0 c f))
    | ring u f ↦ absurd (false≢true (sym e ∙ ends_ring 0 c f))
    | apart u w ↦
        let low' : row_at p 0 0 cs ≡ true = sym (row_apart p 0 0 c cs e) ∙ low in
        ap (on_at p s s v) (lowered_apart p n c cs e)
        ∙ on_front p (suc s) (suc s) s s v v c (relabel (dropped n) c) cs (lowered p n cs) (ends_dropped n s lt c) refl
        (ap (λ b. on_at p s s b (lowered p n cs)) (crosses_dropped p n s c c.y v u w)
        ∙ whole_on p acts n s lt cs low' (sym (xs_not_here 0 c cs u) ∙ ex) (sym (os_not_here 0 c cs w) ∙ eo) (crosses p (suc s) c v))
  ]
]

pub whole_row : (p : Bool → ℕ → ℕ → ℕ) → Acts p → (n s : ℕ) → suc s < n → (cs : List Column) → row_at p 0 0 cs ≡ true → xs_in 0 cs ≡ 1 → os_in 0 cs ≡ 1
    → row_at p s s (lowered p n cs) ≡ row_at p (suc s) (suc s) cs
whole_row p acts n s lt [] low ex eo = refl
whole_row p acts n s lt (c ∷ cs) low ex eo = elim (cases_Bool (ends 0 c)) [
  | inl e ↦
      let on : on_at p 0 0 c.y cs ≡ true = sym (row_end p 0 0 c cs e) ∙ low in
      let left = left_end p acts n s lt c cs e on ex eo in
      let d = not (rises c) in
      ap (row_at p s s) (lowered_end p n c cs e)
      ∙ row_front p (suc s) (suc s) s s c (relabel (dropped n) c) cs (lowered_on p n (not (rises c)) c.y cs) (ends_dropped n s lt c)
      (ap (λ b. on_at p s s b (lowered_on p n (not (rises c)) c.y cs)) (sym (acts.fixed (not (rises c)) c.y))
      ∙ mid_on p acts n s lt (not (rises c)) c.y cs on left.crosses left.rings c.y)
      (mid_row p acts n s lt (not (rises c)) c.y cs on left.crosses left.rings)
  | inr e ↦ elim (side 0 c) [
    | cross f ↦ absurd (false≢true (sym e ∙ ends_cross 0 c f))
    | ring u f ↦ absurd (false≢true (sym e ∙ ends_ring 0 c f))
    | apart u w ↦
        let low' : row_at p 0 0 cs ≡ true = sym (row_apart p 0 0 c cs e) ∙ low in
        let ex' : xs_in 0 cs ≡ 1 = sym (xs_not_here 0 c cs u) ∙ ex in
        let eo' : os_in 0 cs ≡ 1 = sym (os_not_here 0 c cs w) ∙ eo in
        ap (row_at p s s) (lowered_apart p n c cs e)
        ∙ row_front p (suc s) (suc s) s s c (relabel (dropped n) c) cs (lowered p n cs) (ends_dropped n s lt c)
        (whole_on p acts n s lt cs low' ex' eo' c.y) (whole_row p acts n s lt cs low' ex' eo')
  ]
]

-- a column without a mark in the lowest row is below the new top row
crosses_top : (p : Bool → ℕ → ℕ → ℕ) (n : ℕ) (c : Column) (y a : ℕ) → c.x ≢ 0 → c.o ≢ 0 → c.x < n → c.o < n
    → crosses p (n - 1) (recolour (relabel (dropped n) c) y) a ≡ a
crosses_top p n c y a u w lx lo =
    let ix = dropped_other n c.x u in
    let io = dropped_other n c.o w in
    let e : nat_lt (dropped n c.x) (n - 1) ≡ true = elim (cases_order c.x 0) [
      | inl g ↦ absurd (u g)
      | inr (inl l) ↦ absurd (omega arith)
      | inr (inr l) ↦ lt-ltb (dropped n c.x) (n - 1) (omega arith)
    ] in
    let f : nat_lt (dropped n c.o) (n - 1) ≡ true = elim (cases_order c.o 0) [
      | inl g ↦ absurd (w g)
      | inr (inl l) ↦ absurd (omega arith)
      | inr (inr l) ↦ lt-ltb (dropped n c.o) (n - 1) (omega arith)
    ] in
    ap₂ (λ l m. crossed p l m y a) e f

pub ends_top : (n : ℕ) (c : Column) → c.x < n → c.o < n → ends (n - 1) (relabel (dropped n) c) ≡ ends 0 c
ends_top n c lx lo = ap₂ (λ a b. a || b) (eq_dropped_top n c.x lx) (eq_dropped_top n c.o lo)

top_on : (p : Bool → ℕ → ℕ → ℕ) (n : ℕ) (d : Bool) (a v : ℕ) (cs : List Column) → IsInside n cs
    → on_at p (n - 1) (n - 1) v (lowered_on p n d a cs) ≡ on_at p 0 0 v cs
top_on p n d a v [] inside = refl
top_on p n d a v (c ∷ cs) inside = elim (cases_Bool (ends 0 c)) [
  | inl e ↦
      ap (on_at p (n - 1) (n - 1) v) (lowered_on_end p n d a c cs e)
      ∙ on_end p (n - 1) (n - 1) v (relabel (dropped n) c) (map (relabel (dropped n)) cs) (ends_top n c inside.0 inside.1 ∙ e) ∙ sym (on_end p 0 0 v c cs e)
  | inr e ↦ elim (side 0 c) [
    | cross f ↦ absurd (false≢true (sym e ∙ ends_cross 0 c f))
    | ring u f ↦ absurd (false≢true (sym e ∙ ends_ring 0 c f))
    | apart u w ↦
        ap (on_at p (n - 1) (n - 1) v) (lowered_on_apart p n d a c cs e)
        ∙ on_apart p (n - 1) (n - 1) v (recolour (relabel (dropped n) c) (p d a c.y)) (lowered_on p n d a cs) (ends_top n c inside.0 inside.1 ∙ e)
        ∙ ap (λ b. on_at p (n - 1) (n - 1) b (lowered_on p n d a cs)) (crosses_top p n c (p d a c.y) v u w inside.0 inside.1 ∙ sym (crosses_lowest p c v))
        ∙ top_on p n d a (crosses p 0 c v) cs inside.2
        ∙ sym (on_apart p 0 0 v c cs e)
  ]
]

-- the top row is the old lowest row
pub top_row : (p : Bool → ℕ → ℕ → ℕ) (n : ℕ) (cs : List Column) → IsInside n cs → row_at p (n - 1) (n - 1) (lowered p n cs) ≡ row_at p 0 0 cs
top_row p n [] inside = refl
top_row p n (c ∷ cs) inside = elim (cases_Bool (ends 0 c)) [
  | inl e ↦
      ap (row_at p (n - 1) (n - 1)) (lowered_end p n c cs e)
      ∙ row_end p (n - 1) (n - 1) (relabel (dropped n) c) (lowered_on p n (not (rises c)) c.y cs) (ends_top n c inside.0 inside.1 ∙ e)
      ∙ top_on p n (not (rises c)) c.y c.y cs inside.2 ∙ sym (row_end p 0 0 c cs e)
  | inr e ↦
      ap (row_at p (n - 1) (n - 1)) (lowered_apart p n c cs e)
      ∙ row_apart p (n - 1) (n - 1) (relabel (dropped n) c) (lowered p n cs) (ends_top n c inside.0 inside.1 ∙ e)
      ∙ top_row p n cs inside.2 ∙ sym (row_apart p 0 0 c cs e)
]

-- a row of the new grid is the top one or an old one that went down
last_row : (n s : ℕ) → s < n → (suc s < n) ⊎ (s ≡ n - 1)
last_row n s lt = elim (cases_lt (suc s) n) [ inl l ↦ inl l | inr g ↦ inr (omega arith) ]

-- the shift of the rows by one carries each colouring
pub rows_lowered : (p : Bool → ℕ → ℕ → ℕ) → Acts p → (n : ℕ) (cs : List Column) → 0 < n → IsInside n cs → IsColoured p n cs → IsColoured p n (lowered p n cs)
rows_lowered p acts n cs some inside coloured =
    let low : row_at p 0 0 cs ≡ true = sym (row_walk p 0 cs) ∙ coloured.walks 0 some in
    record {
      crosses = λ s lt. elim (last_row n s lt) [
        | inl l ↦ (marks_lowered p n s cs l).0 ∙ coloured.crosses (suc s) l
        | inr e ↦ ap (λ t. xs_in t (lowered p n cs)) e ∙ (marks_lowered_top p n cs inside).0 ∙ coloured.crosses 0 some
      ];
      rings = λ s lt. elim (last_row n s lt) [
        | inl l ↦ (marks_lowered p n s cs l).1 ∙ coloured.rings (suc s) l
        | inr e ↦ ap (λ t. os_in t (lowered p n cs)) e ∙ (marks_lowered_top p n cs inside).1 ∙ coloured.rings 0 some
      ];
      walks = λ s lt. row_walk p s (lowered p n cs) ∙ elim (last_row n s lt) [
        | inl l ↦ whole_row p acts n s l cs low (coloured.crosses 0 some) (coloured.rings 0 some) ∙ sym (row_walk p (suc s) cs) ∙ coloured.walks (suc s) l
        | inr e ↦ ap (λ t. row_at p t t (lowered p n cs)) e ∙ top_row p n cs inside ∙ low
      ];
    }

-- and what it carries to a colouring is one
pub rows_raised : (p : Bool → ℕ → ℕ → ℕ) → Acts p → (n : ℕ) (cs : List Column) → 0 < n → IsInside n cs → IsColoured p n (lowered p n cs) → IsColoured p n cs
rows_raised p acts n cs some inside coloured =
    let last : n - 1 < n = omega arith in
    let top = marks_lowered_top p n cs inside in
    let ex : xs_in 0 cs ≡ 1 = sym top.0 ∙ coloured.crosses (n - 1) last in
    let eo : os_in 0 cs ≡ 1 = sym top.1 ∙ coloured.rings (n - 1) last in
    let low : row_at p 0 0 cs ≡ true = sym (top_row p n cs inside) ∙ sym (row_walk p (n - 1) (lowered p n cs)) ∙ coloured.walks (n - 1) last in
    record {
      crosses = elim [ zero ↦ λ lt. ex | suc s ↦ λ lt. sym (marks_lowered p n s cs lt).0 ∙ coloured.crosses s (omega arith) ];
      rings = elim [ zero ↦ λ lt. eo | suc s ↦ λ lt. sym (marks_lowered p n s cs lt).1 ∙ coloured.rings s (omega arith) ];
      walks = elim [
        | zero ↦ λ lt. row_walk p 0 cs ∙ low
        | suc s ↦ λ lt. row_walk p (suc s) cs ∙ sym (whole_row p acts n s lt cs low ex eo) ∙ sym (row_walk p s (lowered p n cs))
            ∙ coloured.walks s (omega arith)
      ];
    }
