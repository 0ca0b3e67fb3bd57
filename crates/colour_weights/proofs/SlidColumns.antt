-- A slide of columns: the two have one colour, so a row that ends at one of them and passes under the other one wins or loses a term of its own colour,
-- which is 0. The row that joins the two has no crossing.
use Rattle.std.proofs.Common.{◌≡◌, ◌∙◌, ◌+◌, ◌⊎◌, ℕ, zero, suc, List, [], ◌∷◌, ap, ap₂, sym, refl, arith, inl, inr, subst, cond}
use Rattle.std.specs.Prelude.{Bool, true, false, nat_lt}
use Rattle.std.proofs.Math.Bool.{not}
use Rattle.std.proofs.lemmas.Bool.{cases_Bool, eqb-true, eq-eqb}
use Rattle.colour_laws.proofs.ColumnLists.{Acts, Column, ends, crossed, crosses, rises, IsColoured}
use Rattle.colour_laws.proofs.ColouredColumns.{ys_of, neighbours_traded}
use Rattle.colour_laws.proofs.Actions.{crossed_fixed}
use Rattle.colour_laws.proofs.ColumnSlides.{crossed_commute}
use Rattle.colour_laws.proofs.Rows.{on_at, row_at, row_end, row_apart, on_end, on_apart, row_walk}
use Rattle.colour_laws.proofs.Stabilise.{crossed_meets}
use Rattle.cocycle_core.proofs.Mod.{Same}
use Rattle.colour_weights.proofs.Ways.{rightward, rightward_end, rightward_apart}
use Rattle.colour_weights.proofs.ModSums.{plain, turn, by_one, by_three}
use Rattle.colour_weights.proofs.RowSums.{Weighs, before, after, gained, gains, beside, sum_on, sum_row, HaveSameWeight}
use Rattle.colour_weights.proofs.Gains.{gained_own, gained_carries}
use Rattle.colour_weights.proofs.RowSteps.{sum_on_end, sum_on_apart, sum_row_end, sum_row_apart}
use Rattle.colour_weights.proofs.Totals.{kept, nothing, weight_by_kept}

-- the region beside a column, as what a column does to a colour
pub beside_is : (p : Bool → ℕ → ℕ → ℕ) (c : Column) (u : ℕ) → beside p c u ≡ crossed p true (not (rises c)) c.y u
beside_is p c u = by_way (rises c)
  where
    by_way : (b : Bool) → cond b (p true c.y u) u ≡ crossed p true (not b) c.y u
    by_way true = refl
    by_way false = refl

-- and a column of the same colour
pub beside_crossed : (p : Bool → ℕ → ℕ → ℕ) → Acts p → (c : Column) (l m : Bool) (u : ℕ) → beside p c (crossed p l m c.y u) ≡ crossed p l m c.y (beside p c u)
beside_crossed p acts c l m u =
    beside_is p c (crossed p l m c.y u) ∙ crossed_commute p acts true (not (rises c)) l m c.y u ∙ ap (crossed p l m c.y) (sym (beside_is p c u))

module _ (k : ℕ) (p : Bool → ℕ → ℕ → ℕ) (G : Bool → ℕ → ℕ → ℕ → ℕ) (acts : Acts p) (w : Weighs k p G) where
  -- two lists of which a row has the same weighted sum, where the first one's walk is right; it runs the same way, or has no crossing
  record IsSlid (r : ℕ) (cs ds : List Column) : Type 0 where
    on : (a u : ℕ) → on_at p r r a cs ≡ true → Same k (sum_on p G r r a u cs) (sum_on p G r r a u ds)
    row : (u : ℕ) → row_at p r r cs ≡ true → Same k (sum_row p G r r u cs) (sum_row p G r r u ds)
    way : (rightward r ds ≡ rightward r cs) ⊎ ((u : ℕ) → (sum_row p G r r u cs ≡ 0) × (sum_row p G r r u ds ≡ 0))

  unmoved : (r : ℕ) (cs : List Column) → IsSlid r cs cs
  unmoved r cs = record { on = λ a u on. plain refl; row = λ u row. plain refl; way = inl refl }

  -- behind a column that stays
  slid_behind : (r : ℕ) (c : Column) (cs ds : List Column) → IsSlid r cs ds → IsSlid r (c ∷ cs) (c ∷ ds)
  slid_behind r c cs ds rest = elim (cases_Bool (ends r c)) [
    | inl e ↦ record {
      on = λ a u on. plain (sum_on_end p G r r a u c cs e ∙ sym (sum_on_end p G r r a u c ds e));
      row = λ u row.
          by_one (rest.on c.y (beside p c u) (sym (row_end p r r c cs e) ∙ row)) (omega (arith, sum_row_end p G r r u c cs e, sum_row_end p G r r u c ds e));
      way = inl (rightward_end r c ds e ∙ sym (rightward_end r c cs e));
    }
    | inr e ↦ record {
      on = λ a u on.
          by_one (rest.on (crosses p r c a) (crosses p r c u) (sym (on_apart p r r a c cs e) ∙ on))
          (omega (arith, sum_on_apart p G r r a u c cs e, sum_on_apart p G r r a u c ds e));
      row = λ u row.
          by_one (rest.row (crosses p r c u) (sym (row_apart p r r c cs e) ∙ row))
          (omega (arith, sum_row_apart p G r r u c cs e, sum_row_apart p G r r u c ds e));
      way = elim rest.way [
        | inl same ↦ inl (rightward_apart r c ds e ∙ same ∙ sym (rightward_apart r c cs e))
        | inr none ↦ inr (λ u. (
          sum_row_apart p G r r u c cs e ∙ (none (crosses p r c u)).0,
          sum_row_apart p G r r u c ds e ∙ (none (crosses p r c u)).1,
        ))
      ];
    }
  ]

  -- two columns of one colour, in either order
  acted : (d l m : Bool) (y a u : ℕ)
      → Same k (G d y a u + gained G l m y (p d y a) (p d y u)) (gained G l m y a u + G d y (crossed p l m y a) (crossed p l m y u))
  acted d l m y a u =
      by_three (gained_carries k p G acts w d l m y y a u) (gained_own k p G acts w l m y (after p d y a u))
      (turn (gained_own k p G acts w l m y (before p d y a u)))
      (omega (arith, ap (λ z. G d z (crossed p l m y a) (crossed p l m y u)) (crossed_fixed p acts l m y)))

  both_pass : (l m l' m' : Bool) (y a u : ℕ)
      → Same k (gained G l m y a u + gained G l' m' y (crossed p l m y a) (crossed p l m y u))
      (gained G l' m' y a u + gained G l m y (crossed p l' m' y a) (crossed p l' m' y u))
  both_pass true true l' m' y a u = plain (omega arith)
  both_pass true false l' m' y a u = acted true l' m' y a u
  both_pass false true l' m' y a u = acted false l' m' y a u
  both_pass false false l' m' y a u = plain (omega arith)

  -- neighbours of one colour trade places, whatever their marks
  slid_pair : (r : ℕ) (u v : Column) (rest : List Column) → u.y ≡ v.y → IsSlid r (u ∷ v ∷ rest) (v ∷ u ∷ rest)
  slid_pair r u v rest e =
      -- a column of the colour of the walk
      let own : (c : Column) (a z : ℕ) → a ≡ c.y → Same k (gains G r c a z) 0 = λ c a z same.
      subst (λ (b : ℕ). Same k (gains G r c b z) 0) (sym same) (gained_own k p G acts w (nat_lt c.x r) (nat_lt c.o r) c.y z) in
      let stays : (c : Column) (a : ℕ) → a ≡ c.y → crosses p r c a ≡ a = λ c a same.
      subst (λ (b : ℕ). crosses p r c b ≡ b) (sym same) (crossed_fixed p acts (nat_lt c.x r) (nat_lt c.o r) c.y) in
      -- the region beside one of the two, behind the other
      let across : (a b : Column) → a.y ≡ b.y → (z : ℕ) → crosses p r b (beside p a z) ≡ beside p a (crosses p r b z) = λ a b same z.
      subst (λ (y : ℕ). crossed p (nat_lt b.x r) (nat_lt b.o r) y (beside p a z) ≡ beside p a (crossed p (nat_lt b.x r) (nat_lt b.o r) y z)) same
      (sym (beside_crossed p acts a (nat_lt b.x r) (nat_lt b.o r) z)) in
      elim (cases_Bool (ends r u)) [
        | inl f ↦ elim (cases_Bool (ends r v)) [
          | inl g ↦ record {
            on = λ a z on. plain (sum_on_end p G r r a z u (v ∷ rest) f ∙ sym (sum_on_end p G r r a z v (u ∷ rest) g));
            row = λ z row. plain (none u v f g z ∙ sym (none v u g f z));
            way = inr (λ z. (none u v f g z, none v u g f z));
          }
          | inr g ↦ record {
            on = λ a z on.
                let at : a ≡ u.y = eqb-true a u.y (sym (on_end p r r a u (v ∷ rest) f) ∙ on) in
                turn (by_one (own v a z (at ∙ e))
                (omega (
                  arith,
                  sum_on_apart p G r r a z v (u ∷ rest) g,
                  sum_on_end p G r r (crosses p r v a) (crosses p r v z) u rest f,
                  sum_on_end p G r r a z u (v ∷ rest) f,
                )));
            row = λ z row.
                let past : sum_on p G r r u.y (beside p u z) (v ∷ rest) ≡ gains G r v u.y (beside p u z)
                + sum_on p G r r u.y (beside p u (crosses p r v z)) rest =
                sum_on_apart p G r r u.y (beside p u z) v rest g
                ∙ ap₂ (λ b m. gains G r v u.y (beside p u z) + sum_on p G r r b m rest) (stays v u.y e) (across u v e z) in
                by_one (own v u.y (beside p u z) e)
                (omega (
                  arith,
                  sum_row_end p G r r z u (v ∷ rest) f,
                  past,
                  sum_row_apart p G r r z v (u ∷ rest) g,
                  sum_row_end p G r r (crosses p r v z) u rest f,
                ));
            way = inl (rightward_apart r v (u ∷ rest) g ∙ rightward_end r u rest f ∙ sym (rightward_end r u (v ∷ rest) f));
          }
        ]
        | inr f ↦ elim (cases_Bool (ends r v)) [
          | inl g ↦ record {
            on = λ a z on.
                let far : crosses p r u a ≡ v.y =
                eqb-true (crosses p r u a) v.y (sym (on_apart p r r a u (v ∷ rest) f ∙ on_end p r r (crosses p r u a) v rest g) ∙ on) in
                let at : a ≡ u.y = eqb-true a u.y (sym (crossed_meets p acts (nat_lt u.x r) (nat_lt u.o r) u.y a)
                ∙ eq-eqb (crosses p r u a) u.y (far ∙ sym e)) in
                by_one (own u a z at)
                (omega (
                  arith,
                  sum_on_apart p G r r a z u (v ∷ rest) f,
                  sum_on_end p G r r (crosses p r u a) (crosses p r u z) v rest g,
                  sum_on_end p G r r a z v (u ∷ rest) g,
                ));
            row = λ z row.
                let past : sum_on p G r r v.y (beside p v z) (u ∷ rest) ≡ gains G r u v.y (beside p v z)
                + sum_on p G r r v.y (beside p v (crosses p r u z)) rest =
                sum_on_apart p G r r v.y (beside p v z) u rest f
                ∙ ap₂ (λ b m. gains G r u v.y (beside p v z) + sum_on p G r r b m rest) (stays u v.y (sym e)) (across v u (sym e) z) in
                turn (by_one (own u v.y (beside p v z) (sym e))
                (omega (
                  arith,
                  sum_row_end p G r r z v (u ∷ rest) g,
                  past,
                  sum_row_apart p G r r z u (v ∷ rest) f,
                  sum_row_end p G r r (crosses p r u z) v rest g,
                )));
            way = inl (rightward_end r v (u ∷ rest) g ∙ sym (rightward_apart r u (v ∷ rest) f ∙ rightward_end r v rest g));
          }
          | inr g ↦
              let last : (a : ℕ) → crosses p r v (crosses p r u a) ≡ crosses p r u (crosses p r v a) = λ a.
              ap (λ y. crosses p r v (crossed p (nat_lt u.x r) (nat_lt u.o r) y a)) e
              ∙ crossed_commute p acts (nat_lt v.x r) (nat_lt v.o r) (nat_lt u.x r) (nat_lt u.o r) v.y a
              ∙ ap (λ y. crossed p (nat_lt u.x r) (nat_lt u.o r) y (crosses p r v a)) (sym e) in
              record {
                on = λ a z on.
                    let one : Same k (gains G r u a z + gains G r v (crosses p r u a) (crosses p r u z))
                    (gains G r v a z + gains G r u (crosses p r v a) (crosses p r v z)) =
                    subst (λ (y : ℕ). Same k (gained G (nat_lt u.x r) (nat_lt u.o r) y a z
                    + gains G r v (crossed p (nat_lt u.x r) (nat_lt u.o r) y a) (crossed p (nat_lt u.x r) (nat_lt u.o r) y z))
                    (gains G r v a z + gained G (nat_lt u.x r) (nat_lt u.o r) y (crosses p r v a) (crosses p r v z))) (sym e)
                    (both_pass (nat_lt u.x r) (nat_lt u.o r) (nat_lt v.x r) (nat_lt v.o r) v.y a z) in
                    by_one one
                    (omega (
                      arith,
                      sum_on_apart p G r r a z u (v ∷ rest) f,
                      sum_on_apart p G r r (crosses p r u a) (crosses p r u z) v rest g
                          ∙ ap₂ (λ b m. gains G r v (crosses p r u a) (crosses p r u z) + sum_on p G r r b m rest) (last a) (last z),
                      sum_on_apart p G r r a z v (u ∷ rest) g,
                      sum_on_apart p G r r (crosses p r v a) (crosses p r v z) u rest f,
                    ));
                row = λ z row. plain (sum_row_apart p G r r z u (v ∷ rest) f ∙ sum_row_apart p G r r (crosses p r u z) v rest g
                    ∙ ap (λ b. sum_row p G r r b rest) (last z)
                    ∙ sym (sum_row_apart p G r r z v (u ∷ rest) g ∙ sum_row_apart p G r r (crosses p r v z) u rest f));
                way = inl (rightward_apart r v (u ∷ rest) g ∙ rightward_apart r u rest f ∙ sym (rightward_apart r u (v ∷ rest) f ∙ rightward_apart r v rest g));
              }
        ]
      ]
    where
      none : (a b : Column) → ends r a ≡ true → ends r b ≡ true → (z : ℕ) → sum_row p G r r z (a ∷ b ∷ rest) ≡ 0
      none a b ea eb z = sum_row_end p G r r z a (b ∷ rest) ea ∙ sum_on_end p G r r a.y (beside p a z) b rest eb

  slid_row : (r c : ℕ) (cs : List Column) → neighbours_traded c (ys_of cs) ≡ ys_of cs → IsSlid r cs (neighbours_traded c cs)
  slid_row r zero [] e = unmoved r []
  slid_row r zero (u ∷ []) e = unmoved r (u ∷ [])
  slid_row r zero (u ∷ v ∷ rest) e =
      let same : v.y ≡ u.y = cc in
      slid_pair r u v rest (sym same)
  slid_row r (suc c) [] e = unmoved r []
  slid_row r (suc c) (u ∷ cs) e = slid_behind r u cs (neighbours_traded c cs) (slid_row r c cs (cc))

  -- columns c and c + 1, which have one colour
  pub columns_slid_weight : (z n c : ℕ) (cs : List Column) → neighbours_traded c (ys_of cs) ≡ ys_of cs → IsColoured p n cs
      → HaveSameWeight k p G z n cs n (neighbours_traded c cs)
  columns_slid_weight z n c cs e coloured =
      weight_by_kept k p G z n cs (neighbours_traded c cs)
      (λ r lt.
      let slid = slid_row r c cs e in
      elim slid.way [
        | inl way ↦ kept k p G z r r cs (neighbours_traded c cs) way (slid.row z (sym (row_walk p r cs) ∙ coloured.walks r lt))
        | inr none ↦
            let old = nothing k p G z r cs (none z).0 in
            let new = nothing k p G z r (neighbours_traded c cs) (none z).1 in
            plain (omega (arith, old.0, old.1, new.0, new.1))
      ])
