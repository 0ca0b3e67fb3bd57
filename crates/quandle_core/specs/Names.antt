-- Quandles by name.
use Rattle.std.specs.Prelude.{◌≡◌, ◌≤◌, ℕ, ◌&&◌, Bool, true, Option, Some, None, nat_le, if◌then◌else◌}
use Rattle.quandle_core.specs.declared.quandle.TheConstants.{MAX_ORDER}
use Rattle.quandle_core.specs.Quandle.{Table, IsQuandle}
use Rattle.quandle_core.specs.Tables.{trivial, dihedral, alexander, tetrahedral, is_unit}
use Rattle.quandle_core.specs.declared.names.QuandleName.{QuandleName}
use Rattle.quandle_core.specs.declared.names.QuandleName.TheVariants as name

-- a quandle, and what it is called
pub record NamedQuandle : Type 0 where
  pub name : QuandleName
  pub table : Table

-- an order of a quandle
abbrev pub IsOrder : ℕ → Type 0
IsOrder n = (1 ≤ n) × (n ≤ MAX_ORDER)

-- the name gives the quandle; `Table` is a name of each one whose order is at most the first number
abbrev pub NamesWithin : ℕ → QuandleName → Table → Type 0
NamesWithin most (name.Trivial n) t = IsOrder n × (t ≡ trivial n)
NamesWithin most (name.Dihedral n) t = IsOrder n × (t ≡ dihedral n)
NamesWithin most name.Tetrahedral t = t ≡ tetrahedral
NamesWithin most (name.Alexander n a) t = IsOrder n × (is_unit n a ≡ true) × (t ≡ alexander n a)
NamesWithin most name.Table t = IsQuandle t × (t.order ≤ most)

-- the same where the order is at most MAX_ORDER
abbrev pub Names : QuandleName → Table → Type 0
Names = NamesWithin MAX_ORDER

-- the same order as a test
abbrev pub is_order : ℕ → Bool
is_order n = nat_le 1 n && nat_le n MAX_ORDER

abbrev pub called : QuandleName → Table → NamedQuandle
called name table = record { name = name; table = table }

-- the one quandle of a name, which `Table` has not
abbrev pub quandle_named : QuandleName → Option NamedQuandle
quandle_named (name.Trivial n) = if is_order n then Some (called (name.Trivial n) (trivial n)) else None
quandle_named (name.Dihedral n) = if is_order n then Some (called (name.Dihedral n) (dihedral n)) else None
quandle_named name.Tetrahedral = Some (called name.Tetrahedral tetrahedral)
quandle_named (name.Alexander n a) = if is_order n && is_unit n a then Some (called (name.Alexander n a) (alexander n a)) else None
quandle_named name.Table = None
