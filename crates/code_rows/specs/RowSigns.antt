-- Signs of the crossings of rows, and how far they make edges lead from one passage to one; only private clauses and proofs cite this file.
use Rattle.std.specs.Prelude.{◌≡◌, ◌≢◌, ◌<◌, ◌≤◌, ◌⊎◌, ℕ, ◌+◌, ◌*◌, ◌/◌, ◌%◌, ◌==◌, ◌&&◌, ◌||◌, Bool, true, false, not, nat_lt}
use Rattle.std.specs.Prelude.{List, [], ◌∷◌, map, length, slice_index, slice_index_or, if◌then◌else◌}
use Rattle.crossing_codes.specs.declared.crossing.Code.{Code}
use Rattle.crossing_codes.specs.declared.crossing.Crossing.{Crossing}
use Rattle.code_rows.specs.JoinedEdges.{AreJoined}
use Rattle.code_rows.specs.declared.row.CodeRow.{CodeRow}
use Rattle.code_rows.specs.declared.row_signs.Tie.{Tie}
use Rattle.code_rows.specs.Rows.{with_sign, IsCodeOf}
use Rattle.code_rows.specs.RowsFault.{ends_of}

-- rows with signs, false where they are too few
abbrev pub with_signs : List CodeRow → List Bool → List Crossing
with_signs [] signs = []
with_signs (r ∷ rows) [] = with_sign r false ∷ with_signs rows []
with_signs (r ∷ rows) (sign ∷ signs) = with_sign r sign ∷ with_signs rows signs

-- with these signs the first edges are joined, up to one with which no signs join them
pub record AreBest (rows : List CodeRow) (signs : List Bool) : Type 0 where
  pub long : length signs ≡ length rows
  pub reached : ℕ
  pub within : reached ≤ 2 * length rows
  pub joined : AreJoined (with_signs rows signs) reached
  pub none : reached < 2 * length rows → (other : List Bool) → length other ≡ length rows → AreJoined (with_signs rows other) (reached + 1) → ⊥

-- the same of a code among the codes of the rows
pub record IsBest (given : List CodeRow) (free : ℕ) (c : Code) : Type 0 where
  pub reached : ℕ
  pub within : reached ≤ c.edges
  pub joined : AreJoined c.crossings reached
  pub none : reached < c.edges → (b : Code) → IsCodeOf given free b → AreJoined b.crossings (reached + 1) → ⊥

-- one truth value turned by another
abbrev pub turned_by : Bool → Bool → Bool
turned_by true b = not b
turned_by false b = b

-- the value of a tie where each root has a value
abbrev pub value_of : (ℕ → Bool) → Tie → Bool
value_of values t = turned_by t.turned (values t.root)

abbrev pub no_tie : Tie
no_tie = record { root = 0; turned = false }

-- the tie at an end: the strand leaves there where its value is true; the root that is as many as the ties has the value true
abbrev pub tie_of : List Tie → ℕ → Tie
tie_of ties end =
    if end % 4 == 0 then record { root = length ties; turned = true }
    else if end % 4 == 1 then slice_index_or ties (end / 4) no_tie
    else if end % 4 == 2 then record { root = length ties; turned = false }
    else record { root = (slice_index_or ties (end / 4) no_tie).root; turned = not (slice_index_or ties (end / 4) no_tie).turned }

-- another root, and a turn against the one before
abbrev pub replaced : ℕ → ℕ → Bool → Tie → Tie
replaced from to turn t = if t.root == from then record { root = to; turned = turned_by turn t.turned } else t

-- ties after two values are made to differ, where they can
abbrev pub tied : Tie → Tie → List Tie → List Tie
tied one two ties =
    if one.root == two.root then ties
    else if one.root == length ties then map (replaced two.root one.root (not (turned_by one.turned two.turned))) ties
    else map (replaced one.root two.root (not (turned_by one.turned two.turned))) ties

-- the values at the two ends of an edge are made to differ
pub record JoinsEnds (names : List ℕ) (edge : ℕ) (before after : List Tie) : Type 0 where
  pub twice : ends_of names edge ≡ 2
  pub one : ℕ
  pub two : ℕ
  pub ascending : one < two
  pub within : two < length names
  pub first : slice_index names one ≡ edge
  pub second : slice_index names two ≡ edge
  pub is : after ≡ tied (tie_of before one) (tie_of before two) before

-- so where there are two; else nothing changes
abbrev pub JoinsIfTwo : List ℕ → ℕ → List Tie → List Tie → Type 0
JoinsIfTwo names edge before after = JoinsEnds names edge before after ⊎ ((ends_of names edge ≢ 2) × (after ≡ before))

-- ties behind the first so many edges: by any values these are joined, up to one with which no signs join them; as long as there is none,
-- all signs that join them are values of the ties
pub record Reached (rows : List CodeRow) (ties : List Tie) (edges : ℕ) : Type 0 where
  pub long : length ties ≡ length rows
  pub reached : ℕ
  pub within : reached ≤ edges
  pub joined : (values : ℕ → Bool) → values (length rows) ≡ true → AreJoined (with_signs rows (map (value_of values) ties)) reached
  pub given : reached ≡ edges → (signs : List Bool) → length signs ≡ length rows → AreJoined (with_signs rows signs) edges
      → (values : ℕ → Bool) × (values (length rows) ≡ true) × (map (value_of values) ties ≡ signs)
  pub none : reached < edges → (signs : List Bool) → length signs ≡ length rows → AreJoined (with_signs rows signs) (reached + 1) → ⊥

-- the values of roots that were chosen
abbrev pub chosen_values : ℕ → List Bool → ℕ → Bool
chosen_values count chosen root = (root == count) || (nat_lt root (length chosen) && slice_index_or chosen root false)
