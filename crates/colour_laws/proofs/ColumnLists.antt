-- Rows of a coloured diagram, as what they do to a colour on its way from left to right.
use Rattle.std.specs.Prelude.{◌≡◌, ◌==◌, ◌&&◌, ◌||◌, ◌<◌, ◌≢◌, ◌⊎◌, ◌-◌, not, map, Bool, true, false, ℕ, zero, suc, List, [], ◌∷◌, nat_lt, if◌then◌else◌}

-- `p d y a` is what becomes of the colour a under a column of colour y, which goes up where d is true.
-- The three laws hold for all numbers: a table's operation leaves a colour as it is where one of the two is no colour.
pub record Acts (p : Bool → ℕ → ℕ → ℕ) : Type 0 where
  -- a column leaves its own colour
  pub fixed : (d : Bool) (y : ℕ) → p d y y ≡ y
  -- up and then down, and down and then up
  pub down_up : (y a : ℕ) → p true y (p false y a) ≡ a
  pub up_down : (y a : ℕ) → p false y (p true y a) ≡ a
  -- the third law, with down columns alone
  pub third : (z y a : ℕ) → p false z (p false y a) ≡ p false (p false z y) (p false z a)

-- a column of a coloured grid: the rows of its two marks, and its colour
pub record Column : Type 0 where
  pub x : ℕ
  pub o : ℕ
  pub y : ℕ

-- the column has a mark in row r
abbrev pub ends : ℕ → Column → Bool
ends r c = (c.x == r) || (c.o == r)

-- the column lies over row r, strictly between its marks
abbrev pub covers : ℕ → Column → Bool
covers r c = (nat_lt c.x r && nat_lt r c.o) || (nat_lt c.o r && nat_lt r c.x)

-- the column goes up
abbrev pub rises : Column → Bool
rises c = nat_lt c.x c.o

-- what a column does to the walk of row r
abbrev pub under : (Bool → ℕ → ℕ → ℕ) → ℕ → Column → ℕ → ℕ
under p r c a = if covers r c then p (rises c) c.y a else a

-- the walk of row r, at colour a behind its left end, comes to its right end with that end's colour
abbrev pub walk_on : (Bool → ℕ → ℕ → ℕ) → ℕ → ℕ → List Column → Bool
walk_on p r a [] = false
walk_on p r a (c ∷ cs) = if ends r c then a == c.y else walk_on p r (under p r c a) cs

-- row r has two ends, and its walk leads from the colour of the left one to that of the right one
abbrev pub walk : (Bool → ℕ → ℕ → ℕ) → ℕ → List Column → Bool
walk p r [] = false
walk p r (c ∷ cs) = if ends r c then walk_on p r c.y cs else walk p r cs

-- how many Xs, and how many Os, stand in row r
abbrev pub xs_in : ℕ → List Column → ℕ
xs_in r [] = 0
xs_in r (c ∷ cs) = if c.x == r then suc (xs_in r cs) else xs_in r cs

abbrev pub os_in : ℕ → List Column → ℕ
os_in r [] = 0
os_in r (c ∷ cs) = if c.o == r then suc (os_in r cs) else os_in r cs

-- a chain of columns that are passed from left to right, each as its direction (true: up) and its colour
abbrev pub follow : (Bool → ℕ → ℕ → ℕ) → List (Bool × ℕ) → ℕ → ℕ
follow p [] a = a
follow p (link ∷ links) a = follow p links (p link.0 link.1 a)

-- what a column does at the height below row h, told by which of its marks are below: the X alone, up; the O alone, down
abbrev pub crossed : (Bool → ℕ → ℕ → ℕ) → Bool → Bool → ℕ → ℕ → ℕ
crossed p true true y a = a
crossed p true false y a = p true y a
crossed p false true y a = p false y a
crossed p false false y a = a

abbrev pub crosses : (Bool → ℕ → ℕ → ℕ) → ℕ → Column → ℕ → ℕ
crosses p h c a = crossed p (nat_lt c.x h) (nat_lt c.o h) c.y a

-- what all columns do, from left to right, at the height between row h - 1 and row h
abbrev pub level : (Bool → ℕ → ℕ → ℕ) → ℕ → List Column → ℕ → ℕ
level p h [] a = a
level p h (c ∷ cs) a = level p h cs (crosses p h c a)

-- each of n rows has one X and one O, and its walk is right
pub record IsColoured (p : Bool → ℕ → ℕ → ℕ) (n : ℕ) (cs : List Column) : Type 0 where
  pub crosses : (r : ℕ) → r < n → xs_in r cs ≡ 1
  pub rings : (r : ℕ) → r < n → os_in r cs ≡ 1
  pub walks : (r : ℕ) → r < n → walk p r cs ≡ true

-- the columns left of the next mark in row r
abbrev pub up_to : ℕ → List Column → List Column
up_to r [] = []
up_to r (c ∷ cs) = if ends r c then [] else c ∷ up_to r cs

-- the columns strictly between the ends of row r
abbrev pub between : ℕ → List Column → List Column
between r [] = []
between r (c ∷ cs) = if ends r c then up_to r cs else between r cs

-- both marks of row s stand strictly between the ends of row r, or neither does
abbrev pub IsTogether : ℕ → ℕ → List Column → Type 0
IsTogether r s cs = xs_in s (between r cs) ≡ os_in s (between r cs)

-- the column with its marks in other rows
abbrev pub relabel : (ℕ → ℕ) → Column → Column
relabel f c = record { x = f c.x; o = f c.o; y = c.y }

-- rows r and r + 1 trade places
abbrev pub swapped : ℕ → ℕ → ℕ
swapped r s = if s == r then suc r else if s == suc r then r else s

-- the marks of column v lie strictly between those of column u
abbrev pub IsNested : Column → Column → Type 0
IsNested u v = ((u.x < v.x) × (u.x < v.o) × (v.x < u.o) × (v.o < u.o)) ⊎ ((u.o < v.x) × (u.o < v.o) × (v.x < u.x) × (v.o < u.x))

-- the marks of one column lie above those of the other
abbrev pub IsDisjoint : Column → Column → Type 0
IsDisjoint u v = ((u.x < v.x) × (u.x < v.o) × (u.o < v.x) × (u.o < v.o)) ⊎ ((v.x < u.x) × (v.x < u.o) × (v.o < u.x) × (v.o < u.o))

-- the column in another colour
abbrev pub recolour : Column → ℕ → Column
recolour c y = record { x = c.x; o = c.o; y = y }

-- every mark is in one of n rows
abbrev pub IsInside : ℕ → List Column → Type 0
IsInside n [] = Unit {0}
IsInside n (c ∷ cs) = (c.x < n) × (c.o < n) × IsInside n cs

-- the lowest of n rows goes to the top, all others one down
abbrev pub dropped : ℕ → ℕ → ℕ
dropped n x = if x == 0 then n - 1 else x - 1

-- the columns from behind the left end of the lowest row on: up to its right end, the action of its colour a in direction d changes their colours
abbrev pub lowered_on : (Bool → ℕ → ℕ → ℕ) → ℕ → Bool → ℕ → List Column → List Column
lowered_on p n d a [] = []
lowered_on p n d a (c ∷ cs) = if ends 0 c then map (relabel (dropped n)) (c ∷ cs) else recolour (relabel (dropped n) c) (p d a c.y) ∷ lowered_on p n d a cs

-- a coloured grid of size n after the shift of its rows by one
abbrev pub lowered : (Bool → ℕ → ℕ → ℕ) → ℕ → List Column → List Column
lowered p n [] = []
lowered p n (c ∷ cs) = relabel (dropped n) c ∷ (if ends 0 c then lowered_on p n (not (rises c)) c.y cs else lowered p n cs)

-- the columns strictly between the ends of the lowest row take the action of its colour a in direction d; the marks stay
abbrev pub recoloured_on : (Bool → ℕ → ℕ → ℕ) → Bool → ℕ → List Column → List Column
recoloured_on p d a [] = []
recoloured_on p d a (c ∷ cs) = if ends 0 c then c ∷ cs else recolour c (p d a c.y) ∷ recoloured_on p d a cs

-- the direction told by that of the left end
abbrev pub recoloured : (Bool → ℕ → ℕ → ℕ) → (Bool → Bool) → List Column → List Column
recoloured p turn [] = []
recoloured p turn (c ∷ cs) = c ∷ (if ends 0 c then recoloured_on p (turn (rises c)) c.y cs else recoloured p turn cs)

-- the row of the block's corner, of a stabilisation at a mark in row r; high: in the block's upper row
abbrev pub corner_row : ℕ → Bool → ℕ
corner_row r high = if high then suc r else r

-- where a mark in row x stands afterwards: row r's other mark stands in the block's other row
abbrev pub raised : ℕ → Bool → ℕ → ℕ
raised r high x = if nat_lt x r then x else if x == r then (if high then r else suc r) else suc x

-- the block's two columns in place of column c, whose X (if `cross`) or O stands in row r: the short one holds the corner
abbrev pub short : Bool → Bool → ℕ → Column → Column
short cross high r c = record { x = if cross then raised r high r else corner_row r high; o = if cross then corner_row r high else raised r high r; y = c.y }

abbrev pub long : Bool → Bool → ℕ → Column → Column
long cross high r c = record { x = if cross then corner_row r high else raised r high c.x; o = if cross then raised r high c.o else corner_row r high; y = c.y }

-- a stabilisation at the mark of column k in row r; right: the corner is in the block's right column
abbrev pub with_block : Bool → Bool → Bool → ℕ → ℕ → List Column → List Column
with_block cross right high r k [] = []
with_block cross right high r zero (c ∷ cs) =
    if right then long cross high r c ∷ short cross high r c ∷ map (relabel (raised r high)) cs
    else short cross high r c ∷ long cross high r c ∷ map (relabel (raised r high)) cs
with_block cross right high r (suc k) (c ∷ cs) = relabel (raised r high) c ∷ with_block cross right high r k cs

-- column k is there, its X (if `cross`) or O stands in row r, and its other mark doesn't
abbrev pub IsMarkAt : Bool → ℕ → ℕ → List Column → Type 0
IsMarkAt cross r k [] = ⊥
IsMarkAt true r zero (c ∷ cs) = (c.x ≡ r) × (c.o ≢ r)
IsMarkAt false r zero (c ∷ cs) = (c.o ≡ r) × (c.x ≢ r)
IsMarkAt cross r (suc k) (c ∷ cs) = IsMarkAt cross r k cs
