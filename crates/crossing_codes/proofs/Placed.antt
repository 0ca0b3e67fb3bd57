-- Where the passages of each component stand among all, and to which edges they lead.
use Rattle.std.proofs.Common.{◌≡◌, ◌<◌, ◌≤◌, ◌+◌, ◌++◌, ◌∙◌, ◌∷◌, [], ℕ, true, List, length, map, get_or, refl, sym, ap, arith, inl, inr}
use Rattle.std.specs.Prelude.{nat_lt, if◌then◌else◌}
use Rattle.std.specs.List.{flat_map}
use Rattle.std.proofs.lemmas.Bool.{cases_lt, lt-ltb, le-ltb, cond-true, cond-false}
use Rattle.std.proofs.lemmas.List.{append_assoc, length-append, get_or_append_left, get_or-append-add}
use Rattle.std.proofs.lemmas.List.Concat.{flat_map-append}
use Rattle.std.proofs.lemmas.List.FromFn.{get_or-map-range_with_len, length-map-range_with_len}
use Rattle.grid_core.specs.Diagram.{Diagram, IsGrid}
use Rattle.crossing_codes.specs.declared.passages.Passage.{Passage}
use Rattle.crossing_codes.specs.Components.{component_starts}
use Rattle.crossing_codes.specs.Passages.{passages_from, passages}
use Rattle.crossing_codes.specs.Edges.{leads_to, all_lead_to, edges_after, edges_before}
use Rattle.crossing_codes.proofs.Members.{Has, has_at, of_flat_map, place_in, one_place, cut_at}
use Rattle.crossing_codes.proofs.Rising.{starts_below}
use Rattle.crossing_codes.proofs.AllPassages.{passages_apart}

-- the passages of the component of start s are the n from place b on
pub record IsPlaced (d : Diagram) (s b : ℕ) : Type 0 where
  pub start : Has (component_starts d) s
  pub before : edges_before d s ≡ b
  pub within : b + length (passages_from d s) ≤ length (passages d)
  pub passage : (k : ℕ) (z : Passage) → k < length (passages_from d s) → get_or (passages d) (b + k) z ≡ get_or (passages_from d s) k z
  pub next : (k : ℕ) → k + 1 < length (passages_from d s) → get_or (edges_after d) (b + k) 0 ≡ b + k + 2
  pub last : (k : ℕ) → k + 1 ≡ length (passages_from d s) → get_or (edges_after d) (b + k) 0 ≡ b + 1

-- an element of the middle one of three lists
middle : {A : Type 0} (xs ys zs : List A) (k : ℕ) (z : A) → k < length ys → get_or (xs ++ (ys ++ zs)) (length xs + k) z ≡ get_or ys k z
middle xs ys zs k z lt = get_or-append-add xs (ys ++ zs) k z ∙ get_or_append_left ys zs z k lt

pub length_leads : (b p : ℕ) → length (leads_to b p) ≡ p
length_leads b p = length-map-range_with_len (λ t. if nat_lt t p then b + t + 1 else b + 1) 1 p

pub leads_at : (b p k : ℕ) → k < p → get_or (leads_to b p) k 0 ≡ (if nat_lt (k + 1) p then b + (k + 1) + 1 else b + 1)
leads_at b p k lt = get_or-map-range_with_len (λ t. if nat_lt t p then b + t + 1 else b + 1) 1 p k (k + 1) 0 lt (omega arith)

-- components before and after one
lengths_before : {A B : Type 0} (g : A → List B) (b : ℕ) (front : List A) → length (all_lead_to b (map (λ s. length (g s)) front)) ≡ length (flat_map g front)
lengths_before g b [] = refl
lengths_before g b (x ∷ front) =
    omega (
      arith,
      length-append (leads_to b (length (g x))) (all_lead_to (b + length (g x)) (map (λ s. length (g s)) front)),
      length-append (g x)
          (flat_map g front),
      length_leads b (length (g x)),
      lengths_before g (b + length (g x)) front,
    )

pub lead_split : {A B : Type 0} (g : A → List B) (b : ℕ) (front : List A) (s : A) (behind : List A)
    → all_lead_to b (map (λ x. length (g x)) (front ++ s ∷ behind))
    ≡ all_lead_to b
    (map (λ x. length (g x)) front) ++ (leads_to (b + length (flat_map g front)) (length (g s)) ++ all_lead_to (b + length (flat_map g front) + length (g s))
    (map (λ x. length (g x)) behind))
lead_split g b [] s behind =
    let e : b ≡ b + 0 = omega arith in
    ap (λ (i : ℕ). leads_to i (length (g s)) ++ all_lead_to (i + length (g s)) (map (λ x. length (g x)) behind)) e
lead_split g b (x ∷ front) s behind =
    let more = lead_split g (b + length (g x)) front s behind in
    let e : b + length (g x) + length (flat_map g front) ≡ b + length (g x ++ flat_map g front) = omega (arith, length-append (g x) (flat_map g front)) in
    ap (λ (ns : List ℕ). leads_to b (length (g x)) ++ ns) (more
    ∙ ap (λ (i : ℕ). all_lead_to (b + length (g x))
    (map (λ y. length (g y)) front) ++ (leads_to i (length (g s)) ++ all_lead_to (i + length (g s)) (map (λ y. length (g y)) behind))) e)
    ∙ sym (append_assoc (leads_to b (length (g x))) (all_lead_to (b + length (g x)) (map (λ y. length (g y)) front))
    (leads_to (b + length (g x ++ flat_map g front)) (length (g s)) ++ all_lead_to (b + length (g x ++ flat_map g front) + length (g s))
    (map (λ y. length (g y)) behind)))

pub length_after : (d : Diagram) → length (edges_after d) ≡ length (passages d)
length_after d = lengths_before (passages_from d) 0 (component_starts d)

pub placed : (d : Diagram) (s : ℕ) → Has (component_starts d) s → (b : ℕ) × IsPlaced d s b
placed d s h =
    let cut = cut_at (component_starts d) s h in
    let front = cut.0 in
    let behind = cut.1 in
    let g = passages_from d in
    let b = length (flat_map g front) in
    let n = length (g s) in
    let split : passages d ≡ flat_map g front ++ (g s ++ flat_map g behind) = ap (flat_map g) cut.2 ∙ flat_map-append g front (s ∷ behind) in
    let leads : edges_after d ≡ all_lead_to 0
    (map (λ x. length (g x)) front) ++ (leads_to (0 + b) n ++ all_lead_to (0 + b + n) (map (λ x. length (g x)) behind)) =
    ap (λ (ss : List ℕ). all_lead_to 0 (map (λ x. length (g x)) ss)) cut.2 ∙ lead_split g 0 front s behind in
    let zero_b : 0 + b ≡ b = omega arith in
    let same : length (all_lead_to 0 (map (λ x. length (g x)) front)) ≡ b = lengths_before g 0 front in
    let at : (k : ℕ) → k < n → get_or (edges_after d) (b + k) 0 ≡ (if nat_lt (k + 1) n then b + (k + 1) + 1 else b + 1) =
    λ k lt. ap (λ (es : List ℕ). get_or es (b + k) 0) leads
    ∙ (ap (λ (i : ℕ). get_or
    (all_lead_to 0 (map (λ x. length (g x)) front) ++ (leads_to (0 + b) n ++ all_lead_to (0 + b + n) (map (λ x. length (g x)) behind))) (i + k) 0) (sym same)
    ∙ (middle (all_lead_to 0 (map (λ x. length (g x)) front)) (leads_to (0 + b) n) (all_lead_to (0 + b + n) (map (λ x. length (g x)) behind)) k 0
    (omega (arith, length_leads (0 + b) n, lt))
    ∙ (ap (λ (i : ℕ). get_or (leads_to i n) k 0) zero_b ∙ leads_at b n k lt))) in (
      b,
      record {
        start = h;
        before = ap (λ (ss : List ℕ). length (flat_map g ss)) (starts_below d s front behind cut.2);
        within = omega (arith, ap length split, length-append (flat_map g front) (g s ++ flat_map g behind), length-append (g s) (flat_map g behind));
        passage = λ k z lt. ap (λ (ps : List Passage). get_or ps (b + k) z) split ∙ middle (flat_map g front) (g s) (flat_map g behind) k z lt;
        next = λ k lt. at k (omega (arith, lt)) ∙ (cond-true (nat_lt (k + 1) n) (b + (k + 1) + 1) (b + 1) (lt-ltb (k + 1) n lt) ∙ omega arith);
        last = λ k e. at k (omega (arith, e)) ∙ cond-false (nat_lt (k + 1) n) (b + (k + 1) + 1) (b + 1) (le-ltb (k + 1) n (omega (arith, e)));
      },
    )

-- each passage belongs to a component
pub record IsAmong (d : Diagram) (i : ℕ) : Type 0 where
  pub s : ℕ
  pub b : ℕ
  pub k : ℕ
  pub component : IsPlaced d s b
  pub within : k < length (passages_from d s)
  pub is : i ≡ b + k

pub among : (d : Diagram) → IsGrid d → (i : ℕ) → i < length (passages d) → IsAmong d i
among d grid i lt =
    let z : Passage = record { over = true; column = 0; row = 0 } in
    let a = of_flat_map (passages_from d) (component_starts d) (get_or (passages d) i z) (has_at (passages d) i z lt) in
    let at = place_in (passages_from d a.0) (get_or (passages d) i z) a.2 in
    let p = placed d a.0 a.1 in
    let inside = p.1.within in
    let less = at.1 in
    record {
      s = a.0;
      b = p.0;
      k = at.0;
      component = p.1;
      within = at.1;
      is = one_place (passages d) z i (p.0 + at.0) (passages_apart d grid) lt (omega arith) (sym (p.1.passage at.0 z at.1 ∙ at.2 z));
    }

-- the edge to which a passage leads is one of the diagram's
pub leads_within : (d : Diagram) → IsGrid d → (i : ℕ) → i < length (passages d)
    → (1 ≤ get_or (edges_after d) i 0) × (get_or (edges_after d) i 0 ≤ length (passages d))
leads_within d grid i lt =
    let a = among d grid i lt in
    let n = length (passages_from d a.s) in
    let inside = a.component.within in
    let less = a.within in
    elim (cases_lt (a.k + 1) n) [
      | inl more ↦ let e = ap (λ j. get_or (edges_after d) j 0) a.is ∙ a.component.next a.k more in (omega arith, omega arith)
      | inr none ↦ let e = ap (λ j. get_or (edges_after d) j 0) a.is ∙ a.component.last a.k (omega arith) in (omega arith, omega arith)
    ]
