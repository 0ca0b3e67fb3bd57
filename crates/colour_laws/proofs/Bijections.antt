-- From two inverse maps between colourings by columns to a bijection of colourings.
use Rattle.std.proofs.Common.{◌≡◌, ◌∙◌, ℕ, List, ap, sym, subst}
use Rattle.grid_core.specs.Diagram.{Diagram, IsGrid}
use Rattle.quandle_core.specs.Quandle.{Table, IsQuandle}
use Rattle.colour_rows.specs.Colouring.{IsColouring}
use Rattle.quandle_core.specs.Bijection.{IsBijection}
use Rattle.colour_laws.proofs.ColouredColumns.{IsColouringByColumns, AreInverse}
use Rattle.colour_laws.proofs.Walks.{by_columns, from_columns}

pub bijection_from : (t : Table) → IsQuandle t → (d e : Diagram) → IsGrid d → IsGrid e → (go come carry : List ℕ → List ℕ)
    → AreInverse (IsColouringByColumns t d) (IsColouringByColumns t e) go come
    → ((c : List ℕ) → IsColouringByColumns t d c → go c ≡ carry c) → IsBijection (IsColouring t d) (IsColouring t e) carry
bijection_from t q d e grid grid' go come carry inverse same = record {
  into = λ c colouring.
      let old = by_columns t q d grid c colouring in
      from_columns t q e grid' (carry c) (subst (IsColouringByColumns t e) (same c old) (inverse.goes c old));
  onto = λ c colouring.
      let new = by_columns t q e grid' c colouring in
      let old = inverse.comes c new in
      (come c, from_columns t q d grid (come c) old, sym (same (come c) old) ∙ inverse.again c new);
  one = λ b c first second equal.
      let one = by_columns t q d grid b first in
      let two = by_columns t q d grid c second in
      sym (inverse.there b one) ∙ ap come (same b one ∙ equal ∙ sym (same c two)) ∙ inverse.there c two;
}
