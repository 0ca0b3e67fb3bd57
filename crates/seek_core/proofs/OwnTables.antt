-- No two of the quandles by formula have one table.
use Rattle.std.proofs.Common.{rules, ◌≡◌, ◌≢◌, ◌==◌, ◌&&◌, not, refl, ap, subst, Bool, true, false, List, [], ◌∷◌, eq-eqb}
use Rattle.std.specs.List.{AllByRecursion}
use Rattle.std.specs.Str.{bytes_eq}
use Rattle.std.proofs.lemmas.Bool.{and_parts, and_from}
use Rattle.std.proofs.lemmas.Slice.Eq.{bytes_eq-Decides}
use Rattle.quandle_core.specs.Quandle.{Table}
use Rattle.quandle_core.specs.Names.{NamedQuandle}
use Rattle.seek_core.specs.Formulas.{formula_quandles, HaveOwnTables}

-- ---- a test, which computes

abbrev pub same_table : Table → Table → Bool
same_table a b = (a.order == b.order) && bytes_eq a.entries b.entries

abbrev others_differ : Table → List NamedQuandle → Bool
others_differ t [] = true
others_differ t (q ∷ qs) = not (same_table t q.table) && others_differ t qs

abbrev all_differ : List NamedQuandle → Bool
all_differ [] = true
all_differ (q ∷ qs) = others_differ q.table qs && all_differ qs

-- ---- what it tells

same_of : (a b : Table) → a ≡ b → same_table a b ≡ true
same_of a b is =
    and_from (a.order == b.order) (bytes_eq a.entries b.entries) (eq-eqb a.order b.order (ap (λ (t : Table). t.order) is))
    ((bytes_eq-Decides a.entries b.entries).1 (ap (λ (t : Table). t.entries) is))

other : (a b : Table) → not (same_table a b) ≡ true → a ≢ b
other a b differ same = absurd (let wrong : false ≡ true = subst (λ (t : Bool). not t ≡ true) (same_of a b same) differ in cc)

others : (t : Table) (qs : List NamedQuandle) → others_differ t qs ≡ true → AllByRecursion (λ (r : NamedQuandle). t ≢ r.table) qs
others t [] is = search rules
others t (q ∷ qs) is =
    let both = and_parts (not (same_table t q.table)) (others_differ t qs) is in
    (other t q.table both.0, others t qs both.1)

own_tables : (qs : List NamedQuandle) → all_differ qs ≡ true → HaveOwnTables qs
own_tables [] is = search rules
own_tables (q ∷ qs) is =
    let both = and_parts (others_differ q.table qs) (all_differ qs) is in
    (others q.table qs both.0, own_tables qs both.1)

pub formula_once : HaveOwnTables formula_quandles
formula_once = own_tables formula_quandles refl
