-- Colourings by columns: a diagram and a list of colours as one list of coloured columns, and what a move makes of it.
-- The laws are proved of these; the files on walks, on steps and on carried colours lead from the definitions to them and back.
use Rattle.std.specs.Prelude.{◌≡◌, ◌⊎◌, ◌==◌, ◌&&◌, ◌<◌, ◌++◌, not, map, take, drop, length, Bool, true, false, ℕ, zero, suc, List, [], ◌∷◌, nat_lt}
use Rattle.std.specs.Prelude.{if◌then◌else◌}
use Rattle.std.specs.List.{All, position_or_len}
use Rattle.grid_core.specs.Diagram.{Diagram}
use Rattle.quandle_core.specs.Quandle.{Table, over, back}
use Rattle.colour_laws.proofs.ColumnLists.{Column, ends, walk, dropped, recolour, recoloured, rises, covers, IsNested, IsDisjoint, with_block, IsMarkAt}

-- both numbers are colours
abbrev pub are_both_colours : Table → ℕ → ℕ → Bool
are_both_colours t x y = nat_lt x t.order && nat_lt y t.order

-- what an up column (true) and a down column (false) of colour y make of the colour a; what is no colour stays and changes nothing
abbrev pub act : Table → Bool → ℕ → ℕ → ℕ
act t true y a = if are_both_colours t a y then back t a y else a
act t false y a = if are_both_colours t a y then over t a y else a

-- the columns with their colours
abbrev pub columns : List ℕ → List ℕ → List ℕ → List Column
columns [] os ys = []
columns (x ∷ xs) [] ys = []
columns (x ∷ xs) (o ∷ os) [] = []
columns (x ∷ xs) (o ∷ os) (y ∷ ys) = record { x = x; o = o; y = y } ∷ columns xs os ys

abbrev pub xs_of : List Column → List ℕ
xs_of cs = map (λ (c : Column). c.x) cs

abbrev pub os_of : List Column → List ℕ
os_of cs = map (λ (c : Column). c.o) cs

abbrev pub ys_of : List Column → List ℕ
ys_of cs = map (λ (c : Column). c.y) cs

-- one colour for each column, such that each row's walk leads from the colour of its left end to that of its right end
pub record IsColouringByColumns (t : Table) (g : Diagram) (c : List ℕ) : Type 0 where
  pub size : length c ≡ length g.x
  pub below : All (λ y. y < t.order) c
  pub walks : (r : ℕ) → r < length g.x → walk (act t) r (columns g.x g.o c) ≡ true

-- two maps between two sets of lists, each the inverse of the other
pub record AreInverse (P Q : List ℕ → Type 0) (go come : List ℕ → List ℕ) : Type 0 where
  pub goes : (c : List ℕ) → P c → Q (go c)
  pub comes : (d : List ℕ) → Q d → P (come d)
  pub there : (c : List ℕ) → P c → come (go c) ≡ c
  pub again : (d : List ℕ) → Q d → go (come d) ≡ d

-- the items, with the first k at the end
abbrev pub turned : {A : Type 0} → ℕ → List A → List A
turned k xs = drop k xs ++ take k xs

-- the columns carry exactly these marks
pub record IsMarked (g : Diagram) (cs : List Column) : Type 0 where
  pub crosses : xs_of cs ≡ g.x
  pub rings : os_of cs ≡ g.o

-- the lowest of n rows goes to the top
abbrev pub fallen_once : ℕ → Diagram → Diagram
fallen_once n g = record { x = map (dropped n) g.x; o = map (dropped n) g.o }

-- the k lowest rows go to the top, one after the other
abbrev pub fallen : ℕ → Diagram → Diagram
fallen zero g = g
fallen (suc k) g = fallen_once (length g.x) (fallen k g)

-- the colours that the shift of the rows by one carries, and the way back
abbrev pub fallen_colours : Table → Diagram → List ℕ → List ℕ
fallen_colours t g c = ys_of (recoloured (act t) not (columns g.x g.o c))

abbrev pub risen_colours : Table → Diagram → List ℕ → List ℕ
risen_colours t g d = ys_of (recoloured (act t) (λ up. up) (columns g.x g.o d))

-- by k, each with the diagram of that moment
abbrev pub rows_carry : Table → ℕ → Diagram → List ℕ → List ℕ
rows_carry t zero g c = c
rows_carry t (suc k) g c = fallen_colours t (fallen k g) (rows_carry t k g c)

abbrev pub rows_return : Table → ℕ → Diagram → List ℕ → List ℕ
rows_return t zero g d = d
rows_return t (suc k) g d = rows_return t k g (risen_colours t (fallen k g) d)

-- items c and c + 1 trade places
abbrev pub neighbours_traded : {A : Type 0} → ℕ → List A → List A
neighbours_traded zero [] = []
neighbours_traded zero (a ∷ []) = a ∷ []
neighbours_traded zero (a ∷ b ∷ rest) = b ∷ a ∷ rest
neighbours_traded (suc c) [] = []
neighbours_traded (suc c) (a ∷ rest) = a ∷ neighbours_traded c rest

-- both marks of v are in rows that u covers
abbrev pub encloses : Column → Column → Bool
encloses u v = covers v.x u && covers v.o u

-- two neighbouring columns trade places: an inner one takes the action of the outer one, as it passes over
abbrev pub pair_traded : (Bool → ℕ → ℕ → ℕ) → Column → Column → List Column → List Column
pair_traded p u v rest =
    if encloses u v then recolour v (p (not (rises u)) u.y v.y) ∷ u ∷ rest
    else if encloses v u then v ∷ recolour u (p (rises v) v.y u.y) ∷ rest
    else v ∷ u ∷ rest

-- columns c and c + 1 trade places
abbrev pub columns_traded : (Bool → ℕ → ℕ → ℕ) → ℕ → List Column → List Column
columns_traded p zero [] = []
columns_traded p zero (u ∷ []) = u ∷ []
columns_traded p zero (u ∷ v ∷ rest) = pair_traded p u v rest
columns_traded p (suc c) [] = []
columns_traded p (suc c) (u ∷ rest) = u ∷ columns_traded p c rest

-- the columns c and c + 1 are there, and are nested or disjoint
abbrev pub IsTradable : ℕ → List Column → Type 0
IsTradable zero [] = ⊥
IsTradable zero (u ∷ []) = ⊥
IsTradable zero (u ∷ v ∷ rest) = IsNested u v ⊎ (IsNested v u ⊎ IsDisjoint u v)
IsTradable (suc c) [] = ⊥
IsTradable (suc c) (u ∷ rest) = IsTradable c rest

-- the rule on marks: columns c and c + 1 are there, and are nested or disjoint
abbrev pub IsTradableAt : ℕ → List ℕ → List ℕ → Type 0
IsTradableAt zero [] os = ⊥
IsTradableAt zero (x ∷ []) os = ⊥
IsTradableAt zero (x ∷ z ∷ xs) [] = ⊥
IsTradableAt zero (x ∷ z ∷ xs) (o ∷ []) = ⊥
IsTradableAt zero (x ∷ z ∷ xs) (o ∷ w ∷ os) = IsTradable zero (record { x = x; o = o; y = 0 } ∷ record { x = z; o = w; y = 0 } ∷ [])
IsTradableAt (suc c) [] os = ⊥
IsTradableAt (suc c) (x ∷ xs) [] = ⊥
IsTradableAt (suc c) (x ∷ xs) (o ∷ os) = IsTradableAt c xs os

-- the colours that an exchange of columns carries
abbrev pub traded_colours : Table → ℕ → Diagram → List ℕ → List ℕ
traded_colours t c g colours = ys_of (columns_traded (act t) c (columns g.x g.o colours))

-- the column of the mark in row r, of the Xs' or of the Os' rows by column
abbrev pub place : ℕ → List ℕ → ℕ
place r rows = position_or_len (λ m. m == r) rows

-- row r as a column of the transposed diagram
abbrev pub across : ℕ → Diagram → Column
across r g = record { x = place r g.x; o = place r g.o; y = 0 }

-- rows r and r + 1 are there, and the intervals between their ends are nested or disjoint
abbrev pub AreRowsTradable : ℕ → Diagram → Type 0
AreRowsTradable r g =
    (suc r < length g.x) × (IsNested (across r g) (across (suc r) g) ⊎ (IsNested (across (suc r) g) (across r g) ⊎ IsDisjoint (across r g) (across (suc r) g)))

-- item k twice
abbrev pub doubled : ℕ → List ℕ → List ℕ
doubled k [] = []
doubled zero (y ∷ ys) = y ∷ y ∷ ys
doubled (suc k) (y ∷ ys) = y ∷ doubled k ys

-- all but item k
abbrev pub without : ℕ → List ℕ → List ℕ
without k [] = []
without zero (y ∷ ys) = ys
without (suc k) (y ∷ ys) = y ∷ without k ys

-- the columns of a grid, without colours
abbrev pub bare : Diagram → List Column
bare g = columns g.x g.o (map (λ m. 0) g.x)

-- h is g after the stabilisation at the mark of column k in row r, an X if `mark`, with the corner in the right column, in the high row
pub record IsStabilised (mark right high : Bool) (r k : ℕ) (g h : Diagram) : Type 0 where
  pub place : IsMarkAt mark r k (bare g)
  pub crosses : h.x ≡ xs_of (with_block mark right high r k (bare g))
  pub rings : h.o ≡ os_of (with_block mark right high r k (bare g))

-- columns c and c + 1 are there, and share row r
abbrev pub IsSharing : ℕ → ℕ → List Column → Type 0
IsSharing r zero [] = ⊥
IsSharing r zero (u ∷ []) = ⊥
IsSharing r zero (u ∷ v ∷ rest) = ((u.x ≡ r) × (v.o ≡ r)) ⊎ ((u.o ≡ r) × (v.x ≡ r))
IsSharing r (suc c) [] = ⊥
IsSharing r (suc c) (u ∷ rest) = IsSharing r c rest

-- some column has marks in both rows
abbrev pub HasBoth : ℕ → ℕ → List Column → Type 0
HasBoth r s [] = ⊥
HasBoth r s (c ∷ cs) = ((ends r c ≡ true) × (ends s c ≡ true)) ⊎ HasBoth r s cs
