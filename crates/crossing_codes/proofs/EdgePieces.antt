-- An edge is a piece of a strand with no crossing on the way.
use Rattle.std.proofs.Common.{◌≡◌, ◌<◌, ◌+◌, ◌∙◌, inl, inr, ℕ, Bool, cond, length, get_or, sym, ap, subst, arith}
use Rattle.std.specs.Prelude.{nat_lt, if◌then◌else◌, Contains}
use Rattle.std.proofs.lemmas.Bool.{cases_lt, lt-ltb, le-ltb}
use Rattle.grid_core.specs.Diagram.{Diagram, IsGrid}
use Rattle.crossing_codes.specs.declared.passages.Passage.{Passage}
use Rattle.crossing_codes.specs.Passages.{passages, passages_from}
use Rattle.crossing_codes.specs.Edges.{edges_after, place, edge_from, edge_to}
use Rattle.crossing_codes.proofs.Members.{place_in}
use Rattle.crossing_codes.proofs.SharedColumns.{start_below}
use Rattle.crossing_codes.proofs.Placed.{among}
use Rattle.crossing_codes.proofs.EdgeLaws.{place_at, has_contained}
use Rattle.crossing_codes.proofs.Followed.{Leads, round_leads}

-- a passage stands at its place
record Stands (d : Diagram) (p : Passage) : Type 0 where
  pub inside : place d p < length (passages d)
  pub is : (z : Passage) → get_or (passages d) (place d p) z ≡ p

stands : (d : Diagram) → IsGrid d → (p : Passage) → Contains (passages d) p → Stands d p
stands d grid p h =
    let at = place_in (passages d) p (has_contained (passages d) p h) in
    let i : place d p ≡ at.0 = ap (place d) (sym (at.2 p)) ∙ place_at d grid at.0 p at.1 in
    record {
      inside = omega (arith, i, at.1);
      is = λ z. ap (λ (k : ℕ). get_or (passages d) k z) i ∙ at.2 z;
    }

pub edge_leads : (d : Diagram) (p q : Passage) → IsGrid d → Contains (passages d) p → Contains (passages d) q → edge_to d p ≡ edge_from d q → Leads d p q
edge_leads d p q grid hp hq e =
    let one = stands d grid p hp in
    let two = stands d grid q hq in
    let at = among d grid (place d p) one.inside in
    let ps = passages_from d at.s in
    let n = length ps in
    let k = at.k in
    let next = if nat_lt (k + 1) n then k + 1 else 0 in
    let less = at.within in
    let after : get_or (edges_after d) (place d p) 0 ≡ at.b + next + 1 =
    ap (λ (i : ℕ). get_or (edges_after d) i 0) at.is
    ∙ elim (cases_lt (k + 1) n) [
      | inl more ↦ at.component.next k more ∙ (omega arith ∙ ap (λ (t : Bool). at.b + cond t (k + 1) 0 + 1) (sym (lt-ltb (k + 1) n more)))
      | inr last ↦ at.component.last k (omega arith) ∙ (omega arith ∙ ap (λ (t : Bool). at.b + cond t (k + 1) 0 + 1) (sym (le-ltb (k + 1) n last)))
    ] in
    let inside : next < n = elim (cases_lt (k + 1) n) [
      | inl more ↦ subst (λ (i : ℕ). i < n) (ap (λ (t : Bool). cond t (k + 1) 0) (sym (lt-ltb (k + 1) n more))) more
      | inr last ↦ subst (λ (i : ℕ). i < n) (ap (λ (t : Bool). cond t (k + 1) 0) (sym (le-ltb (k + 1) n last))) (omega arith)
    ] in
    let place_q : place d q ≡ at.b + next = omega (arith, after, e) in
    let here : get_or ps k p ≡ p =
    sym (at.component.passage k p at.within) ∙ (ap (λ (i : ℕ). get_or (passages d) i p) (sym at.is) ∙ one.is p) in
    let there : get_or ps next p ≡ q =
    sym (at.component.passage next p inside) ∙ (ap (λ (i : ℕ). get_or (passages d) i p) (sym place_q) ∙ two.is p) in
    subst (λ (z : Passage). Leads d z q) here
    (subst (λ (z : Passage). Leads d (get_or ps k p) z) there
    (round_leads d grid at.s k p (start_below d at.s at.component.start) at.within))
