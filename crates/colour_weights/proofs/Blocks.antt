-- A stabilisation: each row keeps its weighted sum, and the new row has none.
use Rattle.std.proofs.Common.{◌≡◌, ◌≢◌, ◌∙◌, ◌<◌, ◌≤◌, ◌+◌, ◌||◌, ℕ, zero, suc, List, [], ◌∷◌, map, ap, ap₂, sym, refl, arith, inl, inr, subst, cond}
use Rattle.std.specs.Prelude.{Bool, true, false, nat_lt, ◌==◌}
use Rattle.std.proofs.lemmas.Bool.{cases_Bool, cases_eq, cases_lt, eq-eqb, ne_eqb, eqb-true, false≢true, lt-ltb, le-ltb}
use Rattle.colour_laws.proofs.ColumnLists.{Acts, Column, ends, crossed, crosses, rises, relabel, corner_row, raised, short, long}
use Rattle.colour_laws.proofs.ColumnLists.{with_block, IsMarkAt, IsColoured}
use Rattle.colour_laws.proofs.Actions.{crossed_fixed}
use Rattle.colour_laws.proofs.Rows.{on_at, row_at, row_end, row_apart, on_end, on_apart, row_walk}
use Rattle.colour_laws.proofs.Stabilise.{two_rows, lifts, under, level_with, above, raised_lt, raised_eq, there, here, or_tests, IsElsewhere, IsHere}
use Rattle.colour_laws.proofs.Stabilisations.{short_corner, long_corner, raised_apart}
use Rattle.colour_laws.proofs.ExchangeColumns.{crossed_none}
use Rattle.cocycle_core.proofs.Mod.{Same}
use Rattle.colour_weights.proofs.RowCounts.{total, total_same, total_plus}
use Rattle.colour_weights.proofs.Ways.{rightward, rightward_end, rightward_apart, rightward_relabel}
use Rattle.colour_weights.proofs.ModSums.{plain, turn, by_one, by_two}
use Rattle.colour_weights.proofs.RowSums.{Weighs, gained, gains, beside, sum_on, sum_row, right_part, left_part, HaveSameWeight}
use Rattle.colour_weights.proofs.Gains.{gained_own}
use Rattle.colour_weights.proofs.RowSteps.{sum_on_end, sum_on_apart, sum_row_end, sum_row_apart}
use Rattle.colour_weights.proofs.Totals.{IsKept, kept, nothing}
use Rattle.colour_weights.proofs.SlidColumns.{beside_crossed}
use Rattle.colour_weights.proofs.Relabelled.{sum_on_relabel, sum_row_relabel, turned_kept}
use Rattle.colour_weights.proofs.TradedColumns.{gained_none}

-- the O of the block's columns
long_ring : (mark high : Bool) (r s : ℕ) (c : Column) (cs : List Column) → IsMarkAt mark r zero (c ∷ cs) → s ≢ r
    → ((long mark high r c).o == raised r high s) ≡ (c.o == s)
long_ring true high r s c cs at n = raised_eq r high s c.o
long_ring false high r s c cs at n =
    ne_eqb (corner_row r high) (raised r high s) (λ e. apart_from (corner_row r high) e) ∙ sym (ne_eqb c.o s (λ e. n (sym e ∙ at.0)))
  where
    apart_from : (m : ℕ) → corner_row r high ≡ raised r high s → ⊥
    apart_from m e =
        false≢true (sym (raised_apart high r s s)
        ∙ (ap (λ b. b || (raised r high s == corner_row r high)) (eq-eqb (raised r high s) (corner_row r high) (sym e))))

short_ring : (mark high : Bool) (r : ℕ) (c : Column) (cs : List Column) → IsMarkAt mark r zero (c ∷ cs)
    → ((short mark high r c).o == raised r high r) ≡ (c.o == r)
short_ring true high r c cs at =
    ne_eqb (corner_row r high) (raised r high r)
    (λ e. false≢true (sym (raised_apart high r r r)
    ∙ (ap (λ b. b || (raised r high r == corner_row r high)) (eq-eqb (raised r high r) (corner_row r high) (sym e)))))
    ∙ sym (ne_eqb c.o r at.1)
short_ring false high r c cs at = eq-eqb (raised r high r) (raised r high r) refl ∙ sym (eq-eqb c.o r at.0)

-- the long column runs as the old one did
long_rises : (mark high : Bool) (r : ℕ) (c : Column) (cs : List Column) → IsMarkAt mark r zero (c ∷ cs) → rises (long mark high r c) ≡ rises c
long_rises true high r c cs at = elim (lifts r high c.o) [
  | under l e ↦ elim (two_rows r high) [
    | inl t ↦ le-ltb (corner_row r high) (raised r high c.o) (omega (arith, t, e)) ∙ sym (le-ltb c.x c.o (omega (arith, at.0)))
    | inr t ↦ le-ltb (corner_row r high) (raised r high c.o) (omega (arith, t, e)) ∙ sym (le-ltb c.x c.o (omega (arith, at.0)))
  ]
  | level_with e ↦ absurd (at.1 e)
  | above l e ↦ elim (two_rows r high) [
    | inl t ↦ lt-ltb (corner_row r high) (raised r high c.o) (omega (arith, t, e)) ∙ sym (lt-ltb c.x c.o (omega (arith, at.0)))
    | inr t ↦ lt-ltb (corner_row r high) (raised r high c.o) (omega (arith, t, e)) ∙ sym (lt-ltb c.x c.o (omega (arith, at.0)))
  ]
]
long_rises false high r c cs at = elim (lifts r high c.x) [
  | under l e ↦ elim (two_rows r high) [
    | inl t ↦ lt-ltb (raised r high c.x) (corner_row r high) (omega (arith, t, e)) ∙ sym (lt-ltb c.x c.o (omega (arith, at.0)))
    | inr t ↦ lt-ltb (raised r high c.x) (corner_row r high) (omega (arith, t, e)) ∙ sym (lt-ltb c.x c.o (omega (arith, at.0)))
  ]
  | level_with e ↦ absurd (at.1 e)
  | above l e ↦ elim (two_rows r high) [
    | inl t ↦ le-ltb (raised r high c.x) (corner_row r high) (omega (arith, t, e)) ∙ sym (le-ltb c.x c.o (omega (arith, at.0)))
    | inr t ↦ le-ltb (raised r high c.x) (corner_row r high) (omega (arith, t, e)) ∙ sym (le-ltb c.x c.o (omega (arith, at.0)))
  ]
]

-- the region beside the old column is the one beside the short column, behind the long one
block_region : (p : Bool → ℕ → ℕ → ℕ) → Acts p → (mark high : Bool) (r : ℕ) (c : Column) (cs : List Column) → IsMarkAt mark r zero (c ∷ cs) → (u : ℕ)
    → beside p (short mark high r c) (crosses p (raised r high r) (long mark high r c) u) ≡ beside p c u
block_region p acts true high r c cs at u = elim (two_rows r high) [
  | inl t ↦
      let x : nat_lt (corner_row r high) (raised r high r) ≡ false = le-ltb (corner_row r high) (raised r high r) (omega (arith, t)) in
      let s : nat_lt (raised r high r) (corner_row r high) ≡ true = lt-ltb (raised r high r) (corner_row r high) (omega (arith, t)) in
      elim (lifts r high c.o) [
        | under l e ↦
            let o : nat_lt (raised r high c.o) (raised r high r) ≡ true = lt-ltb (raised r high c.o) (raised r high r) (omega (arith, t, e)) in
            let way : nat_lt c.x c.o ≡ false = le-ltb c.x c.o (omega (arith, at.0)) in
            rw (x, s, o, way) (acts.down_up c.y u)
        | level_with e ↦ absurd (at.1 e)
        | above l e ↦
            let o : nat_lt (raised r high c.o) (raised r high r) ≡ false = le-ltb (raised r high c.o) (raised r high r) (omega (arith, t, e)) in
            let way : nat_lt c.x c.o ≡ true = lt-ltb c.x c.o (omega (arith, at.0)) in
            rw (x, s, o, way) refl
      ]
  | inr t ↦
      let x : nat_lt (corner_row r high) (raised r high r) ≡ true = lt-ltb (corner_row r high) (raised r high r) (omega (arith, t)) in
      let s : nat_lt (raised r high r) (corner_row r high) ≡ false = le-ltb (raised r high r) (corner_row r high) (omega (arith, t)) in
      elim (lifts r high c.o) [
        | under l e ↦
            let o : nat_lt (raised r high c.o) (raised r high r) ≡ true = lt-ltb (raised r high c.o) (raised r high r) (omega (arith, t, e)) in
            let way : nat_lt c.x c.o ≡ false = le-ltb c.x c.o (omega (arith, at.0)) in
            rw (x, s, o, way) refl
        | level_with e ↦ absurd (at.1 e)
        | above l e ↦
            let o : nat_lt (raised r high c.o) (raised r high r) ≡ false = le-ltb (raised r high c.o) (raised r high r) (omega (arith, t, e)) in
            let way : nat_lt c.x c.o ≡ true = lt-ltb c.x c.o (omega (arith, at.0)) in
            rw (x, s, o, way) refl
      ]
]
block_region p acts false high r c cs at u = elim (two_rows r high) [
  | inl t ↦
      let o : nat_lt (corner_row r high) (raised r high r) ≡ false = le-ltb (corner_row r high) (raised r high r) (omega (arith, t)) in
      let s : nat_lt (corner_row r high) (raised r high r) ≡ false = o in
      elim (lifts r high c.x) [
        | under l e ↦
            let x : nat_lt (raised r high c.x) (raised r high r) ≡ true = lt-ltb (raised r high c.x) (raised r high r) (omega (arith, t, e)) in
            let way : nat_lt c.x c.o ≡ true = lt-ltb c.x c.o (omega (arith, at.0)) in
            rw (x, o, way) refl
        | level_with e ↦ absurd (at.1 e)
        | above l e ↦
            let x : nat_lt (raised r high c.x) (raised r high r) ≡ false = le-ltb (raised r high c.x) (raised r high r) (omega (arith, t, e)) in
            let way : nat_lt c.x c.o ≡ false = le-ltb c.x c.o (omega (arith, at.0)) in
            rw (x, o, way) refl
      ]
  | inr t ↦
      let o : nat_lt (corner_row r high) (raised r high r) ≡ true = lt-ltb (corner_row r high) (raised r high r) (omega (arith, t)) in
      elim (lifts r high c.x) [
        | under l e ↦
            let x : nat_lt (raised r high c.x) (raised r high r) ≡ true = lt-ltb (raised r high c.x) (raised r high r) (omega (arith, t, e)) in
            let way : nat_lt c.x c.o ≡ true = lt-ltb c.x c.o (omega (arith, at.0)) in
            rw (x, o, way) refl
        | level_with e ↦ absurd (at.1 e)
        | above l e ↦
            let x : nat_lt (raised r high c.x) (raised r high r) ≡ false = le-ltb (raised r high c.x) (raised r high r) (omega (arith, t, e)) in
            let way : nat_lt c.x c.o ≡ false = le-ltb c.x c.o (omega (arith, at.0)) in
            rw (x, o, way) (acts.down_up c.y u)
      ]
]

module _ (k : ℕ) (p : Bool → ℕ → ℕ → ℕ) (G : Bool → ℕ → ℕ → ℕ → ℕ) (acts : Acts p) (w : Weighs k p G) where
  -- two lists of which two rows have the same weighted sum, where the second one's walk is right
  record AreLike (r' r : ℕ) (cs' cs : List Column) : Type 0 where
    on : (a u : ℕ) → on_at p r r a cs ≡ true → Same k (sum_on p G r' r' a u cs') (sum_on p G r r a u cs)
    row : (u : ℕ) → row_at p r r cs ≡ true → Same k (sum_row p G r' r' u cs') (sum_row p G r r u cs)
    way : rightward r' cs' ≡ rightward r cs

  relabelled : (high : Bool) (r s : ℕ) (cs : List Column) → AreLike (raised r high s) s (map (relabel (raised r high)) cs) cs
  relabelled high r s cs = record {
    on = λ a u on. plain (sum_on_relabel p G (raised r high) s s (raised r high s) (raised r high s) (raised_eq r high s) (λ x n. raised_lt r high x s) a u cs);
    row = λ u row. plain (sum_row_relabel p G (raised r high) s s (raised r high s) (raised r high s) (raised_eq r high s) (λ x n. raised_lt r high x s) u cs
        ∙ turned_kept p G (raised r high) s s (λ c e. raised_lt r high c.x c.o) u cs);
    way = rightward_relabel (raised r high) s (raised r high s) (raised_eq r high s) cs;
  }

  -- a column in front that is the same to both rows
  same_front : (r' r : ℕ) (c' c : Column) (cs' cs : List Column) → ends r' c' ≡ ends r c → (c'.o == r') ≡ (c.o == r)
      → nat_lt c'.x r' ≡ nat_lt c.x r → nat_lt c'.o r' ≡ nat_lt c.o r → c'.y ≡ c.y → rises c' ≡ rises c
      → AreLike r' r cs' cs → AreLike r' r (c' ∷ cs') (c ∷ cs)
  same_front r' r c' c cs' cs end ring x o y order rest =
      let crosses_so : (a : ℕ) → crosses p r' c' a ≡ crosses p r c a = λ a. ap₂ (λ l m. crossed p l m c'.y a) x o
      ∙ ap (λ z. crossed p (nat_lt c.x r) (nat_lt c.o r) z a) y in
      let gains_so : (a u : ℕ) → gains G r' c' a u ≡ gains G r c a u = λ a u. ap₂ (λ l m. gained G l m c'.y a u) x o
      ∙ ap (λ z. gained G (nat_lt c.x r) (nat_lt c.o r) z a u) y in
      let beside_so : (u : ℕ) → beside p c' u ≡ beside p c u = λ u. ap₂ (λ b z. cond b (p true z u) u) order y in
      record {
        on = λ a u on. elim (cases_Bool (ends r c)) [
          | inl e ↦ plain (sum_on_end p G r' r' a u c' cs' (end ∙ e) ∙ sym (sum_on_end p G r r a u c cs e))
          | inr e ↦
              by_one (rest.on (crosses p r c a) (crosses p r c u) (sym (on_apart p r r a c cs e) ∙ on))
              (omega (
                arith,
                sum_on_apart p G r' r' a u c' cs' (end ∙ e)
                    ∙ ap₂ (λ g s. g + s) (gains_so a u) (ap₂ (λ m n. sum_on p G r' r' m n cs') (crosses_so a) (crosses_so u)),
                sum_on_apart p G r r a u c cs e,
              ))
        ];
        row = λ u row. elim (cases_Bool (ends r c)) [
          | inl e ↦
              by_one (rest.on c.y (beside p c u) (sym (row_end p r r c cs e) ∙ row))
              (omega (
                arith,
                sum_row_end p G r' r' u c' cs' (end ∙ e) ∙ ap₂ (λ m n. sum_on p G r' r' m n cs') y (beside_so u),
                sum_row_end p G r r u c cs e,
              ))
          | inr e ↦
              by_one (rest.row (crosses p r c u) (sym (row_apart p r r c cs e) ∙ row))
              (omega (
                arith,
                sum_row_apart p G r' r' u c' cs' (end ∙ e) ∙ ap (λ b. sum_row p G r' r' b cs') (crosses_so u),
                sum_row_apart p G r r u c cs e,
              ))
        ];
        way = ap₂ (λ t b. cond t b (rightward r' cs')) end ring ∙ ap (λ b. cond (ends r c) (c.o == r) b) rest.way;
      }

  -- the block's short column does nothing in another row
  skip_short : (r' r : ℕ) (sh : Column) (cs' cs : List Column) → ends r' sh ≡ false → nat_lt sh.x r' ≡ nat_lt sh.o r'
      → AreLike r' r cs' cs → AreLike r' r (sh ∷ cs') cs
  skip_short r' r sh cs' cs apart idle rest =
      let stays : (a : ℕ) → crosses p r' sh a ≡ a = λ a. crossed_none p (nat_lt sh.x r') (nat_lt sh.o r') sh.y a idle in
      let skip : (a u : ℕ) → sum_on p G r' r' a u (sh ∷ cs') ≡ 0 + sum_on p G r' r' a u cs' = λ a u.
      sum_on_apart p G r' r' a u sh cs' apart ∙ ap₂ (λ g s. g + s) (gained_none G (nat_lt sh.x r') (nat_lt sh.o r') sh.y a u idle)
      (ap₂ (λ m n. sum_on p G r' r' m n cs') (stays a) (stays u)) in
      record {
        on = λ a u on. by_one (rest.on a u on) (omega (arith, skip a u));
        row = λ u row. by_one (rest.row u row) (omega (arith, sum_row_apart p G r' r' u sh cs' apart ∙ ap (λ b. sum_row p G r' r' b cs') (stays u)));
        way = rightward_apart r' sh cs' apart ∙ rest.way;
      }

  -- the same row of a list and of one with one more column in front, twice
  elsewhere : (right : Bool) (r' s : ℕ) (sh lo c : Column) → IsElsewhere r' s sh lo c → (lo.o == r') ≡ (c.o == s) → rises lo ≡ rises c
      → (cs' cs : List Column) → AreLike r' s cs' cs
      → AreLike r' s (cond right (lo ∷ sh ∷ cs') (sh ∷ lo ∷ cs')) (c ∷ cs)
  elsewhere true r' s sh lo c e ring order cs' cs rest =
      same_front r' s lo c (sh ∷ cs') cs e.long_ends ring e.long_x e.long_o e.colour order (skip_short r' s sh cs' cs e.short_apart e.short_idle rest)
  elsewhere false r' s sh lo c e ring order cs' cs rest =
      skip_short r' s sh (lo ∷ cs') (c ∷ cs) e.short_apart e.short_idle (same_front r' s lo c cs' cs e.long_ends ring e.long_x e.long_o e.colour order rest)

  -- and in row r: the long column passes over a row that ends beside it, in its own colour
  at_mark : (right : Bool) (r' r : ℕ) (sh lo c : Column) → IsHere r' r sh lo c
      → (sh.o == r') ≡ (c.o == r) → ((u : ℕ) → beside p sh (crosses p r' lo u) ≡ beside p c u) → (cs' cs : List Column) → AreLike r' r cs' cs
      → AreLike r' r (cond right (lo ∷ sh ∷ cs') (sh ∷ lo ∷ cs')) (c ∷ cs)
  at_mark true r' r sh lo c e ring region cs' cs rest = record {
    on = λ a u on.
        let at : a ≡ c.y = eqb-true a c.y (sym (on_end p r r a c cs e.old_ends) ∙ on) in
        let own : Same k (gains G r' lo a u) 0 = subst (λ (b : ℕ). Same k (gained G (nat_lt lo.x r') (nat_lt lo.o r') lo.y b u) 0) (e.long_colour ∙ sym at)
        (gained_own k p G acts w (nat_lt lo.x r') (nat_lt lo.o r') lo.y u) in
        by_one own
        (omega (
          arith,
          sum_on_apart p G r' r' a u lo (sh ∷ cs') e.long_apart,
          sum_on_end p G r' r' (crosses p r' lo a) (crosses p r' lo u) sh cs' e.short_ends,
          sum_on_end p G r r a u c cs e.old_ends,
        ));
    row = λ u row.
        by_one (rest.on c.y (beside p c u) (sym (row_end p r r c cs e.old_ends) ∙ row))
        (omega (
          arith,
          sum_row_apart p G r' r' u lo (sh ∷ cs') e.long_apart ∙ (sum_row_end p G r' r' (crosses p r' lo u) sh cs' e.short_ends
              ∙ ap₂ (λ m n. sum_on p G r' r' m n cs') e.short_colour (region u)),
          sum_row_end p G r r u c cs e.old_ends,
        ));
    way = rightward_apart r' lo (sh ∷ cs') e.long_apart ∙ rightward_end r' sh cs' e.short_ends ∙ ring ∙ sym (rightward_end r c cs e.old_ends);
  }
  at_mark false r' r sh lo c e ring region cs' cs rest = record {
    on = λ a u on. plain (sum_on_end p G r' r' a u sh (lo ∷ cs') e.short_ends ∙ sym (sum_on_end p G r r a u c cs e.old_ends));
    row = λ u row.
        let l : Bool = nat_lt lo.x r' in
        let same : sh.y ≡ lo.y = e.short_colour ∙ sym e.long_colour in
        let own : Same k (gained G (nat_lt lo.x r') (nat_lt lo.o r') c.y c.y (beside p sh u)) 0 =
        gained_own k p G acts w (nat_lt lo.x r') (nat_lt lo.o r') c.y (beside p sh u) in
        let behind : crosses p r' lo (beside p sh u) ≡ beside p c u =
        ap (λ z. crossed p (nat_lt lo.x r') (nat_lt lo.o r') z (beside p sh u)) (sym same)
        ∙ sym (beside_crossed p acts sh (nat_lt lo.x r') (nat_lt lo.o r') u)
        ∙ ap (λ z. beside p sh (crossed p (nat_lt lo.x r') (nat_lt lo.o r') z u)) same ∙ region u in
        let stays : crosses p r' lo c.y ≡ c.y =
        ap (λ z. crossed p (nat_lt lo.x r') (nat_lt lo.o r') z c.y) e.long_colour ∙ crossed_fixed p acts (nat_lt lo.x r') (nat_lt lo.o r') c.y in
        let new : sum_row p G r' r' u (sh ∷ lo ∷ cs') ≡ gained G (nat_lt lo.x r') (nat_lt lo.o r') c.y c.y (beside p sh u)
        + sum_on p G r' r' c.y (beside p c u) cs' =
        sum_row_end p G r' r' u sh (lo ∷ cs') e.short_ends ∙ ap (λ b. sum_on p G r' r' b (beside p sh u) (lo ∷ cs')) e.short_colour
        ∙ sum_on_apart p G r' r' c.y (beside p sh u) lo cs' e.long_apart
        ∙ ap₂ (λ g s. g + s) (ap (λ z. gained G (nat_lt lo.x r') (nat_lt lo.o r') z c.y (beside p sh u)) e.long_colour)
        (ap₂ (λ m n. sum_on p G r' r' m n cs') stays behind) in
        by_two own (rest.on c.y (beside p c u) (sym (row_end p r r c cs e.old_ends) ∙ row)) (omega (arith, new, sum_row_end p G r r u c cs e.old_ends));
    way = rightward_end r' sh (lo ∷ cs') e.short_ends ∙ ring ∙ sym (rightward_end r c cs e.old_ends);
  }

  -- each old row
  block_rows : (mark right high : Bool) (r i : ℕ) (cs : List Column) → IsMarkAt mark r i cs → (s : ℕ)
      → AreLike (raised r high s) s (with_block mark right high r i cs) cs
  block_rows mark right high r i [] at s = record { on = λ a u on. plain refl; row = λ u row. plain refl; way = refl }
  block_rows mark right high r zero (c ∷ cs) at s = elim (cases_eq s r) [
    | inl e ↦ subst (λ (s : ℕ). AreLike (raised r high s) s (with_block mark right high r zero (c ∷ cs)) (c ∷ cs)) (sym e)
        (at_mark right (raised r high r) r (short mark high r c) (long mark high r c) c (here mark high r c cs at) (short_ring mark high r c cs at)
        (λ u. block_region p acts mark high r c cs at u)
        (map (relabel (raised r high)) cs) cs (relabelled high r r cs))
    | inr n ↦ elsewhere right (raised r high s) s (short mark high r c) (long mark high r c) c (there mark high r s c cs at n)
        (long_ring mark high r s c cs at n) (long_rises mark high r c cs at) (map (relabel (raised r high)) cs) cs (relabelled high r s cs)
  ]
  block_rows mark right high r (suc i) (c ∷ cs) at s =
      same_front (raised r high s) s (relabel (raised r high) c) c (with_block mark right high r i cs) cs
      (or_tests (raised r high c.x == raised r high s) (raised r high c.o == raised r high s) (c.x == s) (c.o == s) (raised_eq r high s c.x)
      (raised_eq r high s c.o))
      (raised_eq r high s c.o) (raised_lt r high c.x s) (raised_lt r high c.o s) refl (raised_lt r high c.x c.o)
      (block_rows mark right high r i cs at s)

  -- the new row joins the block's two columns
  pair_none : (r : ℕ) (a b : Column) (cs : List Column) → ends r a ≡ true → ends r b ≡ true → (u : ℕ) → sum_row p G r r u (a ∷ b ∷ cs) ≡ 0
  pair_none r a b cs ea eb u = sum_row_end p G r r u a (b ∷ cs) ea ∙ sum_on_end p G r r a.y (beside p a u) b cs eb

  corner_none : (mark right high : Bool) (r i : ℕ) (cs : List Column) (u : ℕ)
      → sum_row p G (corner_row r high) (corner_row r high) u (with_block mark right high r i cs) ≡ 0
  corner_none mark right high r i [] u = refl
  corner_none mark true high r zero (c ∷ cs) u =
      pair_none (corner_row r high) (long mark high r c) (short mark high r c) (map (relabel (raised r high)) cs) (long_corner mark high r c)
      (short_corner mark high r c) u
  corner_none mark false high r zero (c ∷ cs) u =
      pair_none (corner_row r high) (short mark high r c) (long mark high r c) (map (relabel (raised r high)) cs) (short_corner mark high r c)
      (long_corner mark high r c) u
  corner_none mark right high r (suc i) (c ∷ cs) u =
      sum_row_apart p G (corner_row r high) (corner_row r high) u (relabel (raised r high) c) (with_block mark right high r i cs) (raised_apart high r c.x c.o)
      ∙ corner_none mark right high r i cs (crosses p (corner_row r high) (relabel (raised r high) c) u)

  -- the old rows under their new numbers, and the new row, are all rows
  total_under : (f : ℕ → ℕ) (r : ℕ) (high : Bool) (n : ℕ) → n ≤ r → total (λ s. f (raised r high s)) n ≡ total f n
  total_under f r high zero le = refl
  total_under f r high (suc n) le =
      ap₂ (λ a b. a + b) (total_under f r high n (omega arith)) (ap f (elim (lifts r high n) [
        | under a e ↦ e
        | level_with a ↦ absurd (omega arith)
        | above a e ↦ absurd (omega arith)
      ]))

  total_raised : (f : ℕ → ℕ) (r : ℕ) (high : Bool) (n : ℕ) → r < n → total f (suc n) ≡ f (corner_row r high) + total (λ s. f (raised r high s)) n
  total_raised f r high zero lt = absurd (omega arith)
  total_raised f r high (suc n) lt = elim (cases_lt r n) [
    | inl l ↦
        let last : f (raised r high n) ≡ f (suc n) = ap f (elim (lifts r high n) [
          | under a e ↦ absurd (omega arith)
          | level_with a ↦ absurd (omega arith)
          | above a e ↦ e
        ]) in
        let rest = total_raised f r high n l in
        omega (arith, rest, last)
    | inr g ↦
        let at : n ≡ r = omega arith in
        let rest = total_under f r high n (omega arith) in
        let row : f (raised r high n) ≡ f (raised r high r) = ap (λ m. f (raised r high m)) at in
        elim (two_rows r high) [
          | inl t ↦ let one : f (raised r high r) ≡ f n = ap f (t.0 ∙ sym at) in let two : f (corner_row r high) ≡ f (suc n) = ap f (t.1 ∙ ap suc (sym at)) in
              omega (arith, rest, row, one, two)
          | inr t ↦ let one : f (raised r high r) ≡ f (suc n) = ap f (t.0 ∙ ap suc (sym at)) in let two : f (corner_row r high) ≡ f n = ap f (t.1 ∙ sym at) in
              omega (arith, rest, row, one, two)
        ]
  ]

  -- a stabilisation at the mark of column i in row r
  pub block_weight : (mark right high : Bool) (u n r i : ℕ) (cs : List Column) → r < n → IsMarkAt mark r i cs → IsColoured p n cs
      → HaveSameWeight k p G u n cs (suc n) (with_block mark right high r i cs)
  block_weight mark right high u n r i cs lt at coloured =
      let each : (s : ℕ) → s < n → IsKept k p G u s cs (raised r high s) (with_block mark right high r i cs) = λ s below.
      let like = block_rows mark right high r i cs at s in
      let row : row_at p s s cs ≡ true = sym (row_walk p s cs) ∙ coloured.walks s below in
      kept k p G u s (raised r high s) cs (with_block mark right high r i cs) like.way (turn (like.row u row)) in
      let rows = total_same k (λ s. right_part p G u s cs + left_part p G u (raised r high s) (with_block mark right high r i cs))
      (λ s. right_part p G u (raised r high s) (with_block mark right high r i cs) + left_part p G u s cs) n each in
      let none = nothing k p G u (corner_row r high) (with_block mark right high r i cs) (corner_none mark right high r i cs u) in
      by_one rows
      (omega (
        arith,
        total_plus (λ s. right_part p G u s cs) (λ s. left_part p G u (raised r high s) (with_block mark right high r i cs)) n,
        total_plus (λ s. right_part p G u (raised r high s) (with_block mark right high r i cs)) (λ s. left_part p G u s cs) n,
        total_raised (λ s. right_part p G u s (with_block mark right high r i cs)) r high n lt,
        total_raised (λ s. left_part p G u s (with_block mark right high r i cs)) r high n lt,
        none.0,
        none.1,
      ))
