-- What is told of the walk of a seed.
use Rattle.std.specs.Prelude.{◌≡◌, ℕ, List, [], ◌∷◌, ◌++◌, codes, length, map}
use Rattle.std.specs.Fmt.{decimal}
use Rattle.grid_core.specs.Diagram.{Diagram}
use Rattle.grid_moves.specs.declared.step.Move.{Move}
use Rattle.colour_list.specs.Listing.{colourings}
use Rattle.text_lines.specs.Spelled.{line_bytes, line_text, lines_text}
use Rattle.quandle_core.specs.Names.{NamedQuandle}
use Rattle.text_items.specs.Quandles.{built_in}
use Rattle.knot_text.specs.Printed.{name_tokens}
use Rattle.verdict_core.specs.declared.verdict.Verdict.TheVariants.{Equal}
use Rattle.cert_check.specs.declared.ruling.Ruling.TheVariants.{Accepted}
use Rattle.cert_check.specs.Ruling.{RulesOnVerdict}
use Rattle.grid_core.specs.Trefoils.{right_trefoil}
use Rattle.search_jobs.specs.Walk.{seed_words, Walks}

-- the name of a quandle with a colon, and how many colourings d and e have by it
abbrev pub counts_tokens : Diagram → Diagram → NamedQuandle → List (List ℕ)
counts_tokens d e q =
    (line_bytes (name_tokens q.name q.table.order) ++ codes ":") ∷ decimal (length (colourings q.table d)) ∷ decimal (length (colourings q.table e)) ∷ []

-- a line for each quandle of the built-in list
unfoldable pub counts_text : Diagram → Diagram → List ℕ
counts_text d e = lines_text (map (counts_tokens d e) built_in)

-- the seed, the number of moves, that they are accepted between d and e, and the counts
unfoldable pub walk_text : ℕ → List Move → Diagram → Diagram → List ℕ
walk_text seed moves d e =
    lines_text ((codes "sample" ∷ decimal seed ∷ []) ∷ (codes "moves" ∷ decimal (length moves) ∷ []) ∷ (codes "accepted" ∷ []) ∷ []) ++ counts_text d e

-- the text tells of the walk of the seed, on which the ruling of the checker is that its moves join its ends
pub record TellsOfWalk (seed : ℕ) (text : List ℕ) : Type 0 where
  pub moves : List Move
  pub last : Diagram
  pub walk : Walks right_trefoil (seed_words seed) moves last
  pub ruling : RulesOnVerdict right_trefoil last (Equal moves) Accepted
  pub told : text ≡ walk_text seed moves right_trefoil last

-- what is told is the same of each seed, but for the seed
abbrev pub sample_text : ℕ → List ℕ
sample_text seed =
    line_text (codes "sample" ∷ decimal seed ∷ []) ++
    codes "moves 200\naccepted\ntrivial 2: 2 2\ndihedral 3: 9 9\ntetrahedral: 16 16\ndihedral 5: 5 5\ndihedral 7: 7 7\n"
