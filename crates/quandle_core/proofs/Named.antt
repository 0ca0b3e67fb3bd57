-- What a name names.
use Rattle.std.proofs.Common.{◌≡◌, ◌≢◌, ◌≤◌, ◌&&◌, true, ℕ, Some, refl, sym, subst, nat_le, arith}
use Rattle.std.proofs.lemmas.Bool.{le-leb, leb-true, and_parts, and_from}
use Rattle.std.proofs.lemmas.Option.{cond_some}
use Rattle.quandle_core.specs.declared.quandle.TheConstants.{MAX_ORDER}
use Rattle.quandle_core.specs.Quandle.{Table, IsQuandle}
use Rattle.quandle_core.specs.Tables.{trivial, dihedral, alexander, tetrahedral, is_unit}
use Rattle.quandle_core.proofs.Linear.{trivial_is, dihedral_is, alexander_is, tetrahedral_is}
use Rattle.quandle_core.specs.declared.names.QuandleName.{QuandleName}
use Rattle.quandle_core.specs.declared.names.QuandleName.TheVariants as name
use Rattle.quandle_core.specs.Names.{NamedQuandle, IsOrder, NamesWithin, Names, is_order, called, quandle_named}

-- it is a quandle
pub named_within : (most : ℕ) (n : QuandleName) (t : Table) → NamesWithin most n t → IsQuandle t
named_within most (name.Trivial n) t is = subst IsQuandle (sym is.1) (trivial_is n is.0.0)
named_within most (name.Dihedral n) t is = subst IsQuandle (sym is.1) (dihedral_is n is.0.0)
named_within most name.Tetrahedral t is = subst IsQuandle (sym is) tetrahedral_is
named_within most (name.Alexander n a) t is = subst IsQuandle (sym is.2) (alexander_is n a is.0.0 is.1)
named_within most name.Table t is = is.0

pub named_is : (n : QuandleName) (t : Table) → Names n t → IsQuandle t
named_is n t is = named_within MAX_ORDER n t is

-- what it names within a bound it names within each greater one
pub named_wider : (less most : ℕ) (n : QuandleName) (t : Table) → less ≤ most → NamesWithin less n t → NamesWithin most n t
named_wider less most (name.Trivial n) t wide is = is
named_wider less most (name.Dihedral n) t wide is = is
named_wider less most name.Tetrahedral t wide is = is
named_wider less most (name.Alexander n a) t wide is = is
named_wider less most name.Table t wide is = (is.0, omega (arith, is.1, wide))

-- the same name of the same quandle
pub named_alike : (most : ℕ) (n m : QuandleName) (t u : Table) → n ≡ m → t ≡ u → NamesWithin most m u → NamesWithin most n t
named_alike most n m t u named tabled is =
    subst (λ (k : QuandleName). NamesWithin most k t) (sym named) (subst (λ (v : Table). NamesWithin most m v) (sym tabled) is)

-- of a bound that is no less than MAX_ORDER, the order is at most the bound
pub order_within : (most : ℕ) (n : QuandleName) (t : Table) → MAX_ORDER ≤ most → NamesWithin most n t → t.order ≤ most
order_within most (name.Trivial n) t wide is = subst (λ (u : Table). u.order ≤ most) (sym is.1) (omega (arith, is.0.1, wide))
order_within most (name.Dihedral n) t wide is = subst (λ (u : Table). u.order ≤ most) (sym is.1) (omega (arith, is.0.1, wide))
order_within most name.Tetrahedral t wide is = subst (λ (u : Table). u.order ≤ most) (sym is) (omega (arith, wide))
order_within most (name.Alexander n a) t wide is = subst (λ (u : Table). u.order ≤ most) (sym is.2) (omega (arith, is.0.1, wide))
order_within most name.Table t wide is = is.1

pub names_order : (n : QuandleName) (t : Table) → Names n t → t.order ≤ MAX_ORDER
names_order n t is = order_within MAX_ORDER n t (omega arith) is

-- ---- the test of an order

pub order_is : (n : ℕ) → is_order n ≡ true → IsOrder n
order_is n test =
    let both = and_parts (nat_le 1 n) (nat_le n MAX_ORDER) test in
    (leb-true 1 n both.0, leb-true n MAX_ORDER both.1)

pub is_order_of : (n : ℕ) → IsOrder n → is_order n ≡ true
is_order_of n is = and_from (nat_le 1 n) (nat_le n MAX_ORDER) (le-leb 1 n is.0) (le-leb n MAX_ORDER is.1)

-- ---- the one quandle of a name

-- it has this name, and the name names it
abbrev pub IsNamedSo : QuandleName → NamedQuandle → Type 0
IsNamedSo n q = (n ≢ name.Table) × ((q.name ≡ n) × Names n q.table)

pub named_so : (n : QuandleName) (q : NamedQuandle) → quandle_named n ≡ Some q → IsNamedSo n q
named_so (name.Trivial n) q e =
    let c = cond_some (is_order n) (called (name.Trivial n) (trivial n)) q e in
    subst (IsNamedSo (name.Trivial n)) c.1 ((λ no. cc), (refl, (order_is n c.0, refl)))
named_so (name.Dihedral n) q e =
    let c = cond_some (is_order n) (called (name.Dihedral n) (dihedral n)) q e in
    subst (IsNamedSo (name.Dihedral n)) c.1 ((λ no. cc), (refl, (order_is n c.0, refl)))
named_so name.Tetrahedral q e =
    let c = cond_some true (called name.Tetrahedral tetrahedral) q e in
    subst (IsNamedSo name.Tetrahedral) c.1 ((λ no. cc), (refl, refl))
named_so (name.Alexander n a) q e =
    let c = cond_some (is_order n && is_unit n a) (called (name.Alexander n a) (alexander n a)) q e in
    let both = and_parts (is_order n) (is_unit n a) c.0 in
    subst (IsNamedSo (name.Alexander n a)) c.1 ((λ no. cc), (refl, (order_is n both.0, both.1, refl)))
named_so name.Table q e = absurd cc

-- a quandle of this name and table
so_called : (n : QuandleName) (t : Table) (q : NamedQuandle) → q.name ≡ n → q.table ≡ t → Some (called n t) ≡ Some q
so_called n t q named tabled = subst (λ (m : QuandleName). Some (called m t) ≡ Some q) named
    (subst (λ (u : Table). Some (called q.name u) ≡ Some q) tabled refl)

pub so_named : (n : QuandleName) (q : NamedQuandle) → IsNamedSo n q → quandle_named n ≡ Some q
so_named (name.Trivial n) q is =
    let order = is_order_of n is.1.1.0 in
    rw order (so_called (name.Trivial n) (trivial n) q is.1.0 is.1.1.1)
so_named (name.Dihedral n) q is =
    let order = is_order_of n is.1.1.0 in
    rw order (so_called (name.Dihedral n) (dihedral n) q is.1.0 is.1.1.1)
so_named name.Tetrahedral q is = so_called name.Tetrahedral tetrahedral q is.1.0 is.1.1
so_named (name.Alexander n a) q is =
    let order = and_from (is_order n) (is_unit n a) (is_order_of n is.1.1.0) is.1.1.1 in
    rw order (so_called (name.Alexander n a) (alexander n a) q is.1.0 is.1.1.2)
so_named name.Table q is = absurd (is.0 refl)
