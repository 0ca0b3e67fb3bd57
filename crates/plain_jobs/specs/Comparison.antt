-- The last line of a text that compares what is told of two diagrams.
use Rattle.std.specs.Prelude.{◌≡◌, ℕ, Bool, List, [], ◌∷◌, ◌++◌, codes, if◌then◌else◌}
use Rattle.text_lines.specs.Spelled.{line_text}

abbrev pub compared_line : Bool → List ℕ
compared_line same = if same then line_text (codes "alike" ∷ []) else line_text (codes "different" ∷ [])

-- the text ends with the line `different`
pub record EndsDifferent (text : List ℕ) : Type 0 where
  pub front : List ℕ
  pub is : text ≡ front ++ line_text (codes "different" ∷ [])
