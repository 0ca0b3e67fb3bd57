-- The test for a dihedral quandle.
use Rattle.std.proofs.Common.{◌≡◌, ◌∙◌, ◌<◌, ◌≤◌, ◌+◌, ◌-◌, ◌*◌, ◌%◌, ◌==◌, ℕ, Bool, true, false, sym, subst, ap, arith, eq-eqb}
use Rattle.std.specs.List.{list_all, range_with_len}
use Rattle.std.proofs.lemmas.Bool.{eqb-true}
use Rattle.std.proofs.lemmas.List.Folds.{list_all_at}
use Rattle.std.proofs.lemmas.List.FromFn.{get_or-range_with_len, length-range_with_len}
use Rattle.std.proofs.lemmas.List.Sums.{list_all-from_AllPass}
use Rattle.quandle_core.specs.Quandle.{Table, IsQuandle, over}
use Rattle.quandle_core.specs.Tables.{dihedral}
use Rattle.quandle_core.proofs.Entries.{entry, table_is}
use Rattle.colour_rows.proofs.Ranges.{all_range}
use Rattle.cocycle_core.specs.Formula.{is_dihedral}
use Rattle.cocycle_core.proofs.Computed.{each}

-- a test of the numbers from a on
pub all_from : (p : ℕ → Bool) (a n : ℕ) → ((k : ℕ) → a ≤ k → k < a + n → p k ≡ true) → list_all p (range_with_len a n) ≡ true
all_from p a n each =
    list_all-from_AllPass p (range_with_len a n)
    (λ k d at. let lt : k < n = omega (arith, at, length-range_with_len a n) in
    ap p (get_or-range_with_len a n k d lt) ∙ each (a + k) (omega arith) (omega arith))

pub fails_from : (p : ℕ → Bool) (a n k : ℕ) → a ≤ k → k < a + n → p k ≡ false → list_all p (range_with_len a n) ≡ false
fails_from p a n k le lt e =
    list_all_at p (range_with_len a n) (k - a) 0 (omega (arith, length-range_with_len a n))
    (ap p (get_or-range_with_len a n (k - a) 0 (omega arith) ∙ omega arith) ∙ e)

pub dihedral_known : (t : Table) → IsQuandle t → is_dihedral t ≡ true → t ≡ dihedral t.order
dihedral_known t q e =
    sym (table_is t.order (λ x y. (2 * y + (t.order - x)) % t.order) t.entries q.square (λ x y lx ly.
    let row = each (λ x. list_all (λ y. over t x y == (2 * y + (t.order - x)) % t.order) (range_with_len 0 t.order)) t.order x lx e in
    eqb-true _ _ (each (λ y. over t x y == (2 * y + (t.order - x)) % t.order) t.order y ly row)))

dihedral_passes : (n : ℕ) → is_dihedral (dihedral n) ≡ true
dihedral_passes n =
    all_range (λ x. list_all (λ y. over (dihedral n) x y == (2 * y + (n - x)) % n) (range_with_len 0 n)) n (λ x lx.
    all_range (λ y. over (dihedral n) x y == (2 * y + (n - x)) % n) n (λ y ly.
    eq-eqb (over (dihedral n) x y) ((2 * y + (n - x)) % n) (entry n (λ x y. (2 * y + (n - x)) % n) x y lx ly)))

pub passes_dihedral : (t : Table) → t ≡ dihedral t.order → is_dihedral t ≡ true
passes_dihedral t e = subst (λ (s : Table). is_dihedral s ≡ true) (sym e) (dihedral_passes t.order)
