-- The quandles by formula that are tried behind those of a problem.
use Rattle.std.specs.Prelude.{◌≡◌, ◌≢◌, ◌<◌, ◌≤◌, ◌⊎◌, ℕ, ◌-◌, true, List, ◌++◌, [], ◌∷◌, map, flat_map, filter_map}
use Rattle.std.specs.List.{range_with_len, AllByRecursion, Any}
use Rattle.quandle_core.specs.declared.quandle.TheConstants.{MAX_ORDER}
use Rattle.quandle_core.specs.Quandle.{Table}
use Rattle.quandle_core.specs.Tables.{trivial, tetrahedral, alexander, is_unit}
use Rattle.quandle_core.specs.declared.names.QuandleName.{QuandleName}
use Rattle.quandle_core.specs.declared.names.QuandleName.TheVariants as name
use Rattle.quandle_core.specs.Names.{NamedQuandle, quandle_named}

-- the one that counts components, and the two that tell most knots of few crossings apart
abbrev pub first_names : List QuandleName
first_names = name.Trivial 2 ∷ name.Dihedral 3 ∷ name.Tetrahedral ∷ []

-- of an order the dihedral one, and the Alexander ones but those of the factors 1 and n - 1, which are the trivial and the dihedral one
abbrev pub names_of_order : ℕ → List QuandleName
names_of_order n = name.Dihedral n ∷ map (λ a. name.Alexander n a) (range_with_len 2 (n - 3))

-- the smaller orders first
abbrev pub formula_names : List QuandleName
formula_names = first_names ++ flat_map names_of_order (range_with_len 4 (MAX_ORDER - 3))

-- the quandles of these names; a factor that has no inverse has none
abbrev pub quandles_named : List QuandleName → List NamedQuandle
quandles_named names = filter_map quandle_named names

-- all quandles by formula, in the order in which they are tried
abbrev pub formula_quandles : List NamedQuandle
formula_quandles = quandles_named formula_names

-- no two of them have one table
abbrev pub HaveOwnTables : List NamedQuandle → Type 0
HaveOwnTables [] = Unit {0}
HaveOwnTables (q ∷ qs) = AllByRecursion (λ (r : NamedQuandle). q.table ≢ r.table) qs × HaveOwnTables qs

-- one of them has this table
abbrev pub HaveTable : List NamedQuandle → Table → Type 0
HaveTable quandles t = Any (λ (q : NamedQuandle). q.table ≡ t) quandles

-- a factor of an Alexander quandle that is not trivial: from 2 up to n - 1, whose quandle is the dihedral one, with an inverse modulo n
abbrev pub IsFactor : ℕ → ℕ → Type 0
IsFactor n a = (2 ≤ a) × (a < n) × (is_unit n a ≡ true)

-- the table of an Alexander quandle that is not trivial, of an order up to the largest
pub record IsAlexander (t : Table) : Type 0 where
  pub order : ℕ
  pub factor : ℕ
  pub most : order ≤ MAX_ORDER
  pub is_factor : IsFactor order factor
  pub table : t ≡ alexander order factor

-- the table of trivial 2, of the tetrahedral quandle, or of a dihedral or Alexander one
abbrev pub IsByFormula : Table → Type 0
IsByFormula t = (t ≡ trivial 2) ⊎ ((t ≡ tetrahedral) ⊎ IsAlexander t)
