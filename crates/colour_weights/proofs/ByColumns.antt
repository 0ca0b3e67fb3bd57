-- The weight by rows, as a total over the list of coloured columns.
use Rattle.std.proofs.Common.{◌≡◌, ◌≢◌, ◌∙◌, ◌<◌, ◌+◌, ◌-◌, ℕ, zero, suc, List, ◌∷◌, length, fold, ap, ap₂, sym, refl, subst, arith, inl, inr, cond}
use Rattle.std.specs.Prelude.{Bool, true, false, ◌==◌, ◌||◌, slice_index, nat_lt, filter}
use Rattle.std.specs.List.{range_with_len}
use Rattle.std.proofs.lemmas.Bool.{cases_Bool, cases_order, eq-eqb, cond-true, cond-false, lt-ltb, le-ltb, false≢true}
use Rattle.grid_core.specs.Diagram.{Diagram}
use Rattle.grid_core.specs.Parts.{ends, covers, is_up}
use Rattle.quandle_core.specs.Quandle.{Table, IsQuandle}
use Rattle.colour_rows.specs.Walk.{under, passed_rightward}
use Rattle.colour_laws.proofs.ColumnLists.{Column, crosses, crossed, IsColoured}
use Rattle.colour_laws.proofs.ColumnLists as lists
use Rattle.colour_laws.proofs.Rows.{under_crosses}
use Rattle.colour_laws.proofs.ColouredColumns.{act, columns}
use Rattle.colour_laws.proofs.Tables.{act_inside, act_up}
use Rattle.colour_laws.proofs.ByIndex.{coloured_at, columns_from, columns_next}
use Rattle.colour_laws.proofs.RowEnds.{AreEnds}
use Rattle.colour_laws.proofs.Facts.{crossed_below}
use Rattle.colour_laws.proofs.Walks.{HasColours, colour_below, covers_same, under_same, chain_step}
use Rattle.cocycle_core.proofs.Mod.{Same}
use Rattle.colour_weights.proofs.RowCounts.{same_mod}
use Rattle.colour_weights.specs.declared.shadow_walker.ShadowWalker.{ShadowWalker}
use Rattle.cocycle_core.specs.ShadowCocycle.{ShadowCochain, IsShadowCocycle}
use Rattle.colour_weights.specs.ShadowWalkSum.{shadow_gain, shadow_stepped, region_left, region_start, shadow_walked}
use Rattle.colour_weights.proofs.ModSums.{plain, by_one, by_two}
use Rattle.colour_weights.proofs.RowSums.{gains, beside, sum_on, sum_row}
use Rattle.colour_weights.proofs.RowSteps.{sum_on_end, sum_on_apart, sum_row_end, sum_row_apart}
use Rattle.colour_weights.proofs.Earned.{earned, earned_inside}

-- a column without a mark in row r gains in it what it gains below it
covered_gains : (G : Bool → ℕ → ℕ → ℕ → ℕ) (r : ℕ) (c : Column) (a u : ℕ) → c.x ≢ r → c.o ≢ r
    → cond (lists.covers r c) (G (lists.rises c) c.y a u) 0 ≡ gains G r c a u
covered_gains G r c a u n m = elim (cases_order c.x r) [
  | inl e ↦ absurd (n e)
  | inr (inl l) ↦ elim (cases_order c.o r) [
    | inl e ↦ absurd (m e)
    | inr (inl v) ↦
        let e : nat_lt c.x r ≡ true = lt-ltb c.x r l in
        let e' : nat_lt r c.x ≡ false = le-ltb r c.x (omega arith) in
        let f : nat_lt c.o r ≡ true = lt-ltb c.o r v in
        let f' : nat_lt r c.o ≡ false = le-ltb r c.o (omega arith) in
        rw (e, f, e', f') refl
    | inr (inr v) ↦
        let e : nat_lt c.x r ≡ true = lt-ltb c.x r l in
        let e' : nat_lt r c.x ≡ false = le-ltb r c.x (omega arith) in
        let f : nat_lt c.o r ≡ false = le-ltb c.o r (omega arith) in
        let f' : nat_lt r c.o ≡ true = lt-ltb r c.o v in
        let g : nat_lt c.x c.o ≡ true = lt-ltb c.x c.o (omega arith) in
        rw (e, f, f', g) refl
  ]
  | inr (inr l) ↦ elim (cases_order c.o r) [
    | inl e ↦ absurd (m e)
    | inr (inl v) ↦
        let e : nat_lt c.x r ≡ false = le-ltb c.x r (omega arith) in
        let e' : nat_lt r c.x ≡ true = lt-ltb r c.x l in
        let f : nat_lt c.o r ≡ true = lt-ltb c.o r v in
        let g : nat_lt c.x c.o ≡ false = le-ltb c.x c.o (omega arith) in
        rw (e, f, e', g) refl
    | inr (inr v) ↦
        let e : nat_lt c.x r ≡ false = le-ltb c.x r (omega arith) in
        let f : nat_lt c.o r ≡ false = le-ltb c.o r (omega arith) in
        rw (e, f) refl
  ]
]

-- the marks of a column that is no end of row r lie in other rows
pub apart_marks : (r : ℕ) (c : Column) → lists.ends r c ≡ false → (c.x ≢ r) × (c.o ≢ r)
apart_marks r c e = (
  λ h. false≢true (sym e ∙ ap (λ b. b || (c.o == r)) (eq-eqb c.x r h)),
  λ h. false≢true (sym e ∙ (ap (λ b. (c.x == r) || b) (eq-eqb c.o r h) ∙ last (c.x == r))),
)
  where
    last : (b : Bool) → (b || true) ≡ true
    last true = refl
    last false = refl

-- the walker at each step
abbrev pub step_at : ShadowCochain → Diagram → List ℕ → ShadowWalker → ℕ → ShadowWalker
step_at t d f at c = shadow_stepped t (is_up d c) at (slice_index f c)

one_column : (t : ShadowCochain) (d : Diagram) (f : List ℕ) (at : ShadowWalker) (i : ℕ) (rest : List ℕ) (b : Bool)
    → fold (step_at t d f) at (cond b (i ∷ rest) rest) ≡ fold (step_at t d f) (cond b (step_at t d f at i) at) rest
one_column t d f at i rest true = refl
one_column t d f at i rest false = refl

-- a colour passes column i, which is no end of row r
way_same : (t : Table) (d : Diagram) (f : List ℕ) (r i a : ℕ) → slice_index f i < t.order → a < t.order → lists.ends r (coloured_at i d.x d.o f) ≡ false
    → crosses (act t) r (coloured_at i d.x d.o f) a ≡ cond (covers d i r) (under t d f a i) a
way_same t d f r i a ly la apart =
    let marks = apart_marks r (coloured_at i d.x d.o f) apart in
    sym (under_crosses (act t) r (coloured_at i d.x d.o f) a marks.0 marks.1) ∙ under_same t d f r i a ly la

-- what is known of the walker behind column i, where the walk was at colour a and region u with the sum s
record IsNext (t : ShadowCochain) (at : ShadowWalker) (a u s : ℕ) : Type 0 where
  colour : at.colour ≡ a
  region : at.region ≡ u
  sum : Same t.modulus at.sum s

next : (t : ShadowCochain) → IsShadowCocycle t → (d : Diagram) (f : List ℕ) (r i a u s : ℕ) → slice_index f i < t.quandle.order → a < t.quandle.order
    → u < t.quandle.order → lists.ends r (coloured_at i d.x d.o f) ≡ false
    → IsNext t (cond (covers d i r) (step_at t d f (record { colour = a; region = u; sum = s }) i) (record { colour = a; region = u; sum = s }))
    (crosses (act t.quandle) r (coloured_at i d.x d.o f) a) (crosses (act t.quandle) r (coloured_at i d.x d.o f) u)
    (s + gains (earned t) r (coloured_at i d.x d.o f) a u)
next t cocycle d f r i a u s ly la lu apart =
    let c : Column = coloured_at i d.x d.o f in
    let marks = apart_marks r (coloured_at i d.x d.o f) apart in
    let won = covered_gains (earned t) r (coloured_at i d.x d.o f) a u marks.0 marks.1 in
    let way_a = way_same t.quandle d f r i a ly la apart in
    let way_u = way_same t.quandle d f r i u ly lu apart in
    let same : lists.covers r (coloured_at i d.x d.o f) ≡ covers d i r = covers_same (slice_index d.x i) (slice_index d.o i) r in
    elim (cases_Bool (covers d i r)) [
      | inl b ↦
          let over : cond (covers d i r) (step_at t d f (record { colour = a; region = u; sum = s }) i) (record { colour = a; region = u; sum = s })
          ≡ step_at t d f
          (record { colour = a; region = u; sum = s }) i =
          cond-true (covers d i r) (step_at t d f (record { colour = a; region = u; sum = s }) i) (record { colour = a; region = u; sum = s }) b in
          let gain_is : shadow_gain t (is_up d i) u a (slice_index f i) ≡ gains (earned t) r (coloured_at i d.x d.o f) a u =
          sym (earned_inside t (is_up d i) (slice_index f i) a u ly la lu)
          ∙ (sym (cond-true (lists.covers r (coloured_at i d.x d.o f)) (earned t (is_up d i) (slice_index f i) a u) 0 (same ∙ b)) ∙ won) in
          subst (λ (at : ShadowWalker). IsNext t at (crosses (act t.quandle) r (coloured_at i d.x d.o f) a)
          (crosses (act t.quandle) r (coloured_at i d.x d.o f) u)
          (s + gains (earned t) r (coloured_at i d.x d.o f) a u)) (sym over)
          (record {
            colour = sym (way_a ∙ cond-true (covers d i r) (under t.quandle d f a i) a b);
            region = sym (way_u ∙ cond-true (covers d i r) (under t.quandle d f u i) u b);
            sum = by_one (same_mod t.modulus (s + shadow_gain t (is_up d i) u a (slice_index f i)) (omega (arith, cocycle.least))) (omega (arith, gain_is));
          })
      | inr b ↦
          let over : cond (covers d i r) (step_at t d f (record { colour = a; region = u; sum = s }) i) (record { colour = a; region = u; sum = s })
          ≡ record { colour = a; region = u; sum = s } =
          cond-false (covers d i r) (step_at t d f (record { colour = a; region = u; sum = s }) i) (record { colour = a; region = u; sum = s }) b in
          let none : gains (earned t) r (coloured_at i d.x d.o f) a u ≡ 0 = sym won ∙ cond-false (lists.covers r (coloured_at i d.x d.o f))
          (earned t (is_up d i) (slice_index f i) a u) 0 (same ∙ b) in
          subst (λ (at : ShadowWalker). IsNext t at (crosses (act t.quandle) r (coloured_at i d.x d.o f) a)
          (crosses (act t.quandle) r (coloured_at i d.x d.o f) u)
          (s + gains (earned t) r (coloured_at i d.x d.o f) a u)) (sym over)
          (record {
            colour = sym (way_a ∙ cond-false (covers d i r) (under t.quandle d f a i) a b);
            region = sym (way_u ∙ cond-false (covers d i r) (under t.quandle d f u i) u b);
            sum = plain (omega (arith, none));
          })
    ]

-- from a place between the ends on
sum_between : (t : ShadowCochain) → IsShadowCocycle t → (d : Diagram) (f : List ℕ) → HasColours t.quandle d f → (r : ℕ) → AreEnds d r
    → (m i : ℕ) (at : ShadowWalker)
    → i + m ≡ (ends d r).high → (ends d r).low < i → at.colour < t.quandle.order → at.region < t.quandle.order
    → Same t.modulus (fold (step_at t d f) at (filter (λ c. covers d c r) (range_with_len i m))).sum
    (at.sum + sum_on (act t.quandle) (earned t) r r at.colour at.region (columns_from i d.x d.o f))
sum_between t cocycle d f has r known zero i at e low la lu =
    let here : i ≡ (ends d r).high = omega (arith, e) in
    let none : sum_on (act t.quandle) (earned t) r r at.colour at.region (columns_from i d.x d.o f) ≡ 0 =
    ap (sum_on (act t.quandle) (earned t) r r at.colour at.region) (columns_next i d.x d.o f has.rings has.size (omega (arith, here, known.within)))
    ∙ sum_on_end (act t.quandle) (earned t) r r at.colour at.region (coloured_at i d.x d.o f) (columns_from (suc i) d.x d.o f)
    (subst (λ (j : ℕ). lists.ends r (coloured_at j d.x d.o f) ≡ true) (sym here) known.right) in
    plain (omega (arith, none))
sum_between t cocycle d f has r known (suc m) i at e low la lu =
    let lt : i < length d.x = omega (arith, e, known.within) in
    let apart : lists.ends r (coloured_at i d.x d.o f) ≡ false = known.others i lt (λ k. omega (arith, k, low)) (λ k. omega (arith, k, e)) in
    let y : slice_index f i < t.quandle.order = colour_below t.quandle d f has i lt in
    let here = next t cocycle d f r i at.colour at.region at.sum y la lu apart in
    let l : Bool = nat_lt (slice_index d.x i) r in
    let lb : (cond (covers d i r) (step_at t d f at i) at).colour < t.quandle.order =
    subst (λ (z : ℕ). z < t.quandle.order) (sym here.colour)
    (crossed_below t.quandle cocycle.quandle (nat_lt (slice_index d.x i) r) (nat_lt (slice_index d.o i) r) (slice_index f i) at.colour la) in
    let lv : (cond (covers d i r) (step_at t d f at i) at).region < t.quandle.order =
    subst (λ (z : ℕ). z < t.quandle.order) (sym here.region)
    (crossed_below t.quandle cocycle.quandle (nat_lt (slice_index d.x i) r) (nat_lt (slice_index d.o i) r) (slice_index f i) at.region lu) in
    let rest = sum_between t cocycle d f has r known m (suc i) (cond (covers d i r) (step_at t d f at i) at) (omega (arith, e)) (omega (arith, low)) lb lv in
    let one : (fold (step_at t d f) at (filter (λ c. covers d c r) (range_with_len i (suc m)))).sum
    ≡ (fold (step_at t d f) (cond (covers d i r) (step_at t d f at i) at) (filter (λ c. covers d c r) (range_with_len (suc i) m))).sum =
    ap (λ (v : ShadowWalker). v.sum) (one_column t d f at i (filter (λ c. covers d c r) (range_with_len (i + 1) m)) (covers d i r)
    ∙ ap (λ j. fold (step_at t d f) (cond (covers d i r) (step_at t d f at i) at) (filter (λ c. covers d c r) (range_with_len j m))) (let k : i + 1 ≡ suc i =
    omega arith in k)) in
    let two : sum_on (act t.quandle) (earned t) r r at.colour at.region (columns_from i d.x d.o f)
    ≡ gains (earned t) r (coloured_at i d.x d.o f) at.colour at.region + sum_on (act t.quandle) (earned t) r r
    (cond (covers d i r) (step_at t d f at i) at).colour (cond (covers d i r) (step_at t d f at i) at).region (columns_from (suc i) d.x d.o f) =
    ap (sum_on (act t.quandle) (earned t) r r at.colour at.region) (columns_next i d.x d.o f has.rings has.size lt)
    ∙ (sum_on_apart (act t.quandle) (earned t) r r at.colour at.region (coloured_at i d.x d.o f) (columns_from (suc i) d.x d.o f) apart
    ∙ ap₂ (λ b v. gains (earned t) r (coloured_at i d.x d.o f) at.colour at.region + sum_on (act t.quandle) (earned t) r r b v (columns_from (suc i) d.x d.o f))
    (sym here.colour) (sym here.region)) in
    by_two rest here.sum (omega (arith, one, two))

-- the region at the left end, from that of the columns before it
start_same : (t : Table) (d : Diagram) (f : List ℕ) (i u : ℕ) → slice_index f i < t.order → u < t.order
    → beside (act t) (coloured_at i d.x d.o f) u ≡ cond (is_up d i) (passed_rightward t (is_up d i) u (slice_index f i)) u
start_same t d f i u ly lu = by_way (is_up d i)
  where
    by_way : (b : Bool) → cond b (act t true (slice_index f i) u) u ≡ cond b (passed_rightward t b u (slice_index f i)) u
    by_way true = act_up t (slice_index f i) u ly lu
    by_way false = refl

-- up to the left end nothing is gained
sum_to_left : (t : ShadowCochain) → IsQuandle t.quandle → (d : Diagram) (f : List ℕ) → HasColours t.quandle d f → (r : ℕ) → AreEnds d r → (k i u : ℕ)
    → i + k ≡ (ends d r).low → u < t.quandle.order
    → (sum_row (act t.quandle) (earned t) r r u (columns_from i d.x d.o f) ≡ sum_on (act t.quandle) (earned t) r r (slice_index f (ends d r).low)
    (beside (act t.quandle) (coloured_at (ends d r).low d.x d.o f) (fold (under t.quandle d f) u (filter (λ c. covers d c r) (range_with_len i k))))
    (columns_from (suc (ends d r).low) d.x d.o f))
    × (fold (under t.quandle d f) u (filter (λ c. covers d c r) (range_with_len i k)) < t.quandle.order)
sum_to_left t q d f has r known zero i u e lu =
    let at : i ≡ (ends d r).low = omega (arith, e) in
    let is = columns_next i d.x d.o f has.rings has.size (omega (arith, at, known.ordered, known.within)) in
    let end : lists.ends r (coloured_at i d.x d.o f) ≡ true = subst (λ (j : ℕ). lists.ends r (coloured_at j d.x d.o f) ≡ true) (sym at) known.left in (
      ap (sum_row (act t.quandle) (earned t) r r u) is
          ∙ (sum_row_end (act t.quandle) (earned t) r r u (coloured_at i d.x d.o f) (columns_from (suc i) d.x d.o f) end
          ∙ ap (λ j. sum_on (act t.quandle) (earned t) r r (slice_index f j) (beside (act t.quandle) (coloured_at j d.x d.o f) u)
          (columns_from (suc j) d.x d.o f)) at),
      lu,
    )
sum_to_left t q d f has r known (suc k) i u e lu =
    let lt : i < length d.x = omega (arith, e, known.ordered, known.within) in
    let is = columns_next i d.x d.o f has.rings has.size lt in
    let apart : lists.ends r (coloured_at i d.x d.o f) ≡ false = known.others i lt (λ h. omega (arith, h, e)) (λ h. omega (arith, h, e, known.ordered)) in
    let ly : slice_index f i < t.quandle.order = colour_below t.quandle d f has i lt in
    let way = way_same t.quandle d f r i u ly lu apart in
    let lv : cond (covers d i r) (under t.quandle d f u i) u < t.quandle.order =
    subst (λ (z : ℕ). z < t.quandle.order) way
    (crossed_below t.quandle q (nat_lt (slice_index d.x i) r) (nat_lt (slice_index d.o i) r) (slice_index f i) u lu) in
    let rest = sum_to_left t q d f has r known k (suc i) (cond (covers d i r) (under t.quandle d f u i) u) (omega (arith, e)) lv in
    let step : fold (under t.quandle d f) u (filter (λ c. covers d c r) (range_with_len i (suc k)))
    ≡ fold (under t.quandle d f) (cond (covers d i r) (under t.quandle d f u i) u) (filter (λ c. covers d c r) (range_with_len (suc i) k)) =
    chain_step t.quandle d f i u (filter (λ c. covers d c r) (range_with_len (i + 1) k)) (covers d i r)
    ∙ ap (λ j. fold (under t.quandle d f) (cond (covers d i r) (under t.quandle d f u i) u) (filter (λ c. covers d c r) (range_with_len j k)))
    (let n : i + 1 ≡ suc i = omega arith in n) in (
      ap (sum_row (act t.quandle) (earned t) r r u) is
          ∙ (sum_row_apart (act t.quandle) (earned t) r r u (coloured_at i d.x d.o f) (columns_from (suc i) d.x d.o f) apart
          ∙ (ap (λ b. sum_row (act t.quandle) (earned t) r r b (columns_from (suc i) d.x d.o f)) way
          ∙ (rest.0
          ∙ ap (λ b. sum_on (act t.quandle) (earned t) r r (slice_index f (ends d r).low) (beside (act t.quandle) (coloured_at (ends d r).low d.x d.o f) b)
          (columns_from (suc (ends d r).low) d.x d.o f)) (sym step)))),
      subst (λ (z : ℕ). z < t.quandle.order) (sym step) rest.1,
    )

-- regions have colours
pub region_start_below : (t : ShadowCochain) → IsQuandle t.quandle → (d : Diagram) (f : List ℕ) → HasColours t.quandle d f → (r : ℕ) → AreEnds d r → (u : ℕ)
    → u < t.quandle.order → region_start t.quandle d f u r < t.quandle.order
region_start_below t q d f has r known u lu =
    let ly : slice_index f (ends d r).low < t.quandle.order = colour_below t.quandle d f has (ends d r).low (omega (arith, known.ordered, known.within)) in
    let left = (sum_to_left t q d f has r known (ends d r).low 0 u (omega arith) lu).1 in
    by_way (is_up d (ends d r).low) (region_left t.quandle d f u r) ly left
  where
    by_way : (b : Bool) (v : ℕ) → slice_index f (ends d r).low < t.quandle.order → v < t.quandle.order
        → cond b (passed_rightward t.quandle b v (slice_index f (ends d r).low)) v < t.quandle.order
    by_way true v ly lv = q.back_within v (slice_index f (ends d r).low) lv ly
    by_way false v ly lv = lv

-- the weighted sum of a row's walk
pub walked_same : (t : ShadowCochain) → IsShadowCocycle t → (d : Diagram) (f : List ℕ) → HasColours t.quandle d f → (r : ℕ) → AreEnds d r → (u : ℕ)
    → u < t.quandle.order
    → Same t.modulus (shadow_walked t d f u r).sum (sum_row (act t.quandle) (earned t) r r u (columns d.x d.o f))
walked_same t cocycle d f has r known u lu =
    let q = cocycle.quandle in
    let la : slice_index f (ends d r).low < t.quandle.order = colour_below t.quandle d f has (ends d r).low (omega (arith, known.ordered, known.within)) in
    let start : ShadowWalker = record { colour = slice_index f (ends d r).low; region = region_start t.quandle d f u r; sum = 0 } in
    let lv = region_start_below t q d f has r known u lu in
    let whole = sum_between t cocycle d f has r known ((ends d r).high - (ends d r).low - 1) ((ends d r).low + 1)
    (record { colour = slice_index f (ends d r).low; region = region_start t.quandle d f u r; sum = 0 }) (omega (arith, known.ordered)) (omega arith) la lv in
    let place : suc (ends d r).low ≡ (ends d r).low + 1 = omega arith in
    let to_left = sum_to_left t q d f has r known (ends d r).low 0 u (omega arith) lu in
    let left : sum_row (act t.quandle) (earned t) r r u (columns d.x d.o f) ≡ sum_on (act t.quandle) (earned t) r r (slice_index f (ends d r).low)
    (region_start t.quandle d f u r) (columns_from ((ends d r).low + 1) d.x d.o f) =
    to_left.0
    ∙ ap₂ (λ v j. sum_on (act t.quandle) (earned t) r r (slice_index f (ends d r).low) v (columns_from j d.x d.o f))
    (start_same t.quandle d f (ends d r).low (region_left t.quandle d f u r) la to_left.1) place in
    by_one whole (omega (arith, left))
