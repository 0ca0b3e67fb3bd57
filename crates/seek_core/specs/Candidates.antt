-- The quandles that are tried on two diagrams.
use Rattle.std.specs.Prelude.{◌≢◌, ◌==◌, ◌&&◌, not, Bool, true, false, List, [], ◌++◌}
use Rattle.std.specs.List.{All, Contains, filter, list_any}
use Rattle.grid_core.specs.Diagram.{Diagram}
use Rattle.colour_list.specs.Fits.{fits}
use Rattle.quandle_core.specs.declared.names.QuandleName.{QuandleName}
use Rattle.quandle_core.specs.declared.names.QuandleName.TheVariants as name
use Rattle.quandle_core.specs.Names.{NamedQuandle}
use Rattle.seek_core.specs.Formulas.{formula_quandles}

-- both diagrams have few enough choices of colours
abbrev pub fits_diagrams : Diagram → Diagram → NamedQuandle → Bool
fits_diagrams d e q = fits q.table d && fits q.table e

-- two names are one: of one family, with the same numbers
abbrev pub same_name : QuandleName → QuandleName → Bool
same_name (name.Trivial n) (name.Trivial m) = n == m
same_name (name.Dihedral n) (name.Dihedral m) = n == m
same_name name.Tetrahedral name.Tetrahedral = true
same_name (name.Alexander n a) (name.Alexander m b) = (n == m) && (a == b)
same_name name.Table name.Table = true
same_name one other = false

-- one of the quandles is called so
abbrev pub is_named : List NamedQuandle → QuandleName → Bool
is_named quandles name = list_any (λ (q : NamedQuandle). same_name q.name name) quandles

-- of these quandles those that fit both diagrams and are called like none of the others
abbrev pub fitting : Diagram → Diagram → List NamedQuandle → List NamedQuandle → List NamedQuandle
fitting d e others quandles = filter (λ (q : NamedQuandle). fits_diagrams d e q && not (is_named others q.name)) quandles

-- the quandles that fit: those of a problem, and then those by formula that are not called like one of these
abbrev pub candidate_quandles : Diagram → Diagram → List NamedQuandle → List NamedQuandle
candidate_quandles d e listed = fitting d e [] listed ++ fitting d e listed formula_quandles

-- by formula, and called like none of the listed ones
abbrev pub IsUnlisted : List NamedQuandle → NamedQuandle → Type 0
IsUnlisted listed q = Contains formula_quandles q × All (λ (r : NamedQuandle). r.name ≢ q.name) listed
