-- The text of a shadow cocycle, apart from reading.
use Rattle.std.specs.Prelude.{◌≡◌, ◌≤◌, ◌*◌, ℕ, true, List, [], ◌∷◌, codes, map}
use Rattle.std.specs.Fmt.{decimal}
use Rattle.std.specs.List.{range_with_len}
use Rattle.quandle_core.specs.declared.quandle.TheConstants.{MAX_ORDER}
use Rattle.quandle_core.specs.Quandle.{Table}
use Rattle.cocycle_core.specs.ShadowCocycle.{ShadowCochain, IsShadowCocycle}
use Rattle.text_lines.specs.Spelled.{lines_text}
use Rattle.knot_text.specs.Printed.{row_tokens}
use Rattle.text_items.specs.declared.modulus.TheConstants.{MAX_MODULUS}
use Rattle.evidence_core.specs.declared.shadows.Spelling.{Spelling}
use Rattle.evidence_core.specs.declared.shadows.Spelling.TheVariants as spelling
use Rattle.evidence_core.specs.declared.shadows.SpelledShadow.{SpelledShadow}
use Rattle.cocycle_core.specs.Formula.{has_formula, mochizuki}

-- the table as rows of q numbers, of which row w q + x has θ(w, x, 0) to θ(w, x, q-1)
abbrev pub shadow_rows : ShadowCochain → Table
shadow_rows t = record { order = t.quandle.order; entries = t.entries }

abbrev pub shadow_value_lines : ShadowCochain → List (List (List ℕ))
shadow_value_lines t = map (row_tokens (shadow_rows t)) (range_with_len 0 (t.quandle.order * t.quandle.order))

-- the name of the formula; or the modulus, and the table
abbrev pub shadow_lines_by : Spelling → ShadowCochain → List (List (List ℕ))
shadow_lines_by spelling.Mochizuki t = (codes "shadow" ∷ codes "mochizuki" ∷ []) ∷ []
shadow_lines_by spelling.Table t = (codes "shadow" ∷ decimal t.modulus ∷ []) ∷ shadow_value_lines t

abbrev pub shadow_lines : SpelledShadow → List (List (List ℕ))
shadow_lines s = shadow_lines_by s.spelling s.cocycle

abbrev pub shadow_text : SpelledShadow → List ℕ
shadow_text s = lines_text (shadow_lines s)

-- the spelling gives the cocycle; its table gives each one
abbrev pub Spells : Spelling → ShadowCochain → Type 0
Spells spelling.Mochizuki t = (has_formula t.quandle ≡ true) × (t ≡ mochizuki t.quandle.order)
Spells spelling.Table t = t.modulus ≤ MAX_MODULUS

-- a shadow cocycle of the quandle, which its spelling gives; the quandle has at most MAX_ORDER colours
pub record HasShadowText (quandle : Table) (s : SpelledShadow) : Type 0 where
  pub cocycle : IsShadowCocycle s.cocycle
  pub same : s.cocycle.quandle ≡ quandle
  pub few : s.cocycle.quandle.order ≤ MAX_ORDER
  pub spells : Spells s.spelling s.cocycle
