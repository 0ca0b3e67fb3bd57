-- The quandles by formula are trivial 2, the tetrahedral one, and all dihedral and Alexander ones: found by going over them.
use Rattle.std.proofs.Common.{rules, ◌≡◌, ◌<◌, ◌≤◌, ◌+◌, ◌-◌, ◌==◌, ◌&&◌, ◌||◌, ℕ, zero, suc, not, refl, ap₂, subst, inl, inr, arith, nat_le, Bool, true, false}
use Rattle.std.proofs.Common.{List, [], ◌∷◌, All}
use Rattle.std.specs.List.{range_with_len, list_any, list_all, AllByRecursion}
use Rattle.std.specs.Str.{bytes_eq}
use Rattle.std.proofs.lemmas.Bool.{and_parts, or_cases, eqb-true, leb-true, cases_eq}
use Rattle.std.proofs.lemmas.List.Folds.{Any-from_list_any}
use Rattle.std.proofs.lemmas.List.Elements.{All-from_recursion}
use Rattle.std.proofs.lemmas.Slice.Eq.{bytes_eq-Decides}
use Rattle.quandle_core.specs.declared.quandle.TheConstants.{MAX_ORDER}
use Rattle.quandle_core.specs.Quandle.{Table}
use Rattle.quandle_core.specs.Tables.{trivial, dihedral, alexander, tetrahedral, is_unit}
use Rattle.quandle_core.specs.Names.{NamedQuandle}
use Rattle.knot_text.proofs.SpelledNumbers.{at_one}
use Rattle.seek_core.specs.Formulas.{formula_quandles, HaveTable, IsFactor, IsAlexander, IsByFormula}
use Rattle.seek_core.proofs.OwnTables.{same_table}

-- ---- tests, which compute

abbrev have_table : List NamedQuandle → Table → Bool
have_table qs t = list_any (λ (q : NamedQuandle). same_table q.table t) qs

abbrev have_dihedral : List NamedQuandle → Bool
have_dihedral qs = list_all (λ n. have_table qs (dihedral n)) (range_with_len 3 (MAX_ORDER - 2))

abbrev have_factor : List NamedQuandle → ℕ → ℕ → Bool
have_factor qs n a = not (is_unit n a) || have_table qs (alexander n a)

abbrev have_factors : List NamedQuandle → ℕ → Bool
have_factors qs n = list_all (have_factor qs n) (range_with_len 2 (n - 2))

abbrev have_alexander : List NamedQuandle → Bool
have_alexander qs = list_all (have_factors qs) (range_with_len 3 (MAX_ORDER - 2))

abbrev is_of_factor : Table → ℕ → Bool
is_of_factor t a = is_unit t.order a && same_table t (alexander t.order a)

abbrev is_alexander : Table → Bool
is_alexander t = nat_le t.order MAX_ORDER && list_any (is_of_factor t) (range_with_len 2 (t.order - 2))

abbrev is_by_formula : Table → Bool
is_by_formula t = same_table t (trivial 2) || (same_table t tetrahedral || is_alexander t)

-- ---- what they tell

-- a table of this order and these entries
abbrev made : ℕ → List ℕ → Table
made order entries = record { order = order; entries = entries }

is_same : (s t : Table) → same_table s t ≡ true → s ≡ t
is_same s t is =
    let both = and_parts (s.order == t.order) (bytes_eq s.entries t.entries) is in
    ap₂ made (eqb-true s.order t.order both.0) ((bytes_eq-Decides s.entries t.entries).0 both.1)

has : (qs : List NamedQuandle) (t : Table) → have_table qs t ≡ true → HaveTable qs t
has qs t is =
    let some = Any-from_list_any (λ (q : NamedQuandle). same_table q.table t) qs is in
    (some.0, some.1, some.2, some.3, is_same some.1.table t some.4)

-- a number of the range that passes
abbrev InRange : (ℕ → Bool) → ℕ → ℕ → Type 0
InRange p a n = (k : ℕ) × (a ≤ k) × (k < a + n) × (p k ≡ true)

in_range : (p : ℕ → Bool) (a n : ℕ) → list_any p (range_with_len a n) ≡ true → InRange p a n
in_range p a zero is = absurd cc
in_range p a (suc n) is = elim (or_cases (p a) (list_any p (range_with_len (a + 1) n)) is) [
  | inl here ↦ (a, omega arith, omega arith, here)
  | inr later ↦
      let found = in_range p (a + 1) n later in
      let least = found.1 in
      let most = found.2 in
      (found.0, omega (arith, least), omega (arith, most), found.3)
]

dihedral_of : (qs : List NamedQuandle) → have_dihedral qs ≡ true → (n : ℕ) → 3 ≤ n → n ≤ MAX_ORDER → HaveTable qs (dihedral n)
dihedral_of qs is n least most =
    has qs (dihedral n) (at_one (λ k. have_table qs (dihedral k)) 3 (MAX_ORDER - 2) n is least (omega (arith, most)))

factor_of : (qs : List NamedQuandle) (n a : ℕ) (unit : is_unit n a ≡ true) → have_factor qs n a ≡ true → HaveTable qs (alexander n a)
factor_of qs n a unit is = elim (or_cases (not (is_unit n a)) (have_table qs (alexander n a)) is) [
  | inl none ↦ absurd (let wrong : false ≡ true = subst (λ (t : Bool). not t ≡ true) unit none in cc)
  | inr there ↦ has qs (alexander n a) there
]

alexander_of : (qs : List NamedQuandle) → have_alexander qs ≡ true → (n a : ℕ) → n ≤ MAX_ORDER → IsFactor n a → HaveTable qs (alexander n a)
alexander_of qs is n a most factor =
    let least = factor.0 in
    let below = factor.1 in
    let order = at_one (have_factors qs) 3 (MAX_ORDER - 2) n is (omega (arith, least, below)) (omega (arith, most)) in
    factor_of qs n a factor.2 (at_one (have_factor qs n) 2 (n - 2) a order least (omega (arith, least, below)))

is_alexander_of : (t : Table) → is_alexander t ≡ true → IsAlexander t
is_alexander_of t is =
    let both = and_parts (nat_le t.order MAX_ORDER) (list_any (is_of_factor t) (range_with_len 2 (t.order - 2))) is in
    let found = in_range (is_of_factor t) 2 (t.order - 2) both.1 in
    let a = found.0 in
    let least = found.1 in
    let below = found.2 in
    let parts = and_parts (is_unit t.order a) (same_table t (alexander t.order a)) found.3 in
    record {
      order = t.order;
      factor = a;
      most = leb-true t.order MAX_ORDER both.0;
      is_factor = (least, omega (arith, least, below), parts.0);
      table = is_same t (alexander t.order a) parts.1;
    }

is_by_formula_of : (t : Table) → is_by_formula t ≡ true → IsByFormula t
is_by_formula_of t is = elim (or_cases (same_table t (trivial 2)) (same_table t tetrahedral || is_alexander t) is) [
  | inl two ↦ inl (is_same t (trivial 2) two)
  | inr other ↦ elim (or_cases (same_table t tetrahedral) (is_alexander t) other) [
    | inl four ↦ inr (inl (is_same t tetrahedral four))
    | inr linear ↦ inr (inr (is_alexander_of t linear))
  ]
]

all_of : (qs : List NamedQuandle) → list_all (λ (q : NamedQuandle). is_by_formula q.table) qs ≡ true
    → AllByRecursion (λ (q : NamedQuandle). IsByFormula q.table) qs
all_of [] is = search rules
all_of (q ∷ qs) is =
    let both = and_parts (is_by_formula q.table) (list_all (λ (r : NamedQuandle). is_by_formula r.table) qs) is in
    (is_by_formula_of q.table both.0, all_of qs both.1)

-- ---- of the quandles by formula

pub trivial_there : HaveTable formula_quandles (trivial 2)
trivial_there = has formula_quandles (trivial 2) refl

pub tetrahedral_there : HaveTable formula_quandles tetrahedral
tetrahedral_there = has formula_quandles tetrahedral refl

pub dihedral_there : (n : ℕ) → 3 ≤ n → n ≤ MAX_ORDER → HaveTable formula_quandles (dihedral n)
dihedral_there = dihedral_of formula_quandles refl

pub alexander_there : (n a : ℕ) → n ≤ MAX_ORDER → IsFactor n a → HaveTable formula_quandles (alexander n a)
alexander_there = alexander_of formula_quandles refl

pub no_other : All (λ (q : NamedQuandle). IsByFormula q.table) formula_quandles
no_other = All-from_recursion (λ (q : NamedQuandle). IsByFormula q.table) formula_quandles (all_of formula_quandles refl)
