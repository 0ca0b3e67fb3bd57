-- Translates of each other have one canonical form.
use Rattle.std.proofs.Common.{◌≡◌, ◌<◌, ◌≤◌, ◌+◌, ◌-◌, ◌∙◌, ◌⊎◌, ℕ, arith, sym, refl, ap, ap₂, subst, inl, inr}
use Rattle.std.specs.List.{Contains}
use Rattle.std.proofs.lemmas.Bool.{cases_lt}
use Rattle.std.proofs.lemmas.List.Elements.{All-contains}
use Rattle.grid_core.specs.declared.mark.Kind.TheVariants.{Cross}
use Rattle.grid_core.specs.Diagram.{Diagram, IsGrid, size, row_of}
use Rattle.grid_keys.specs.declared.least_form.LeastForm.{LeastForm}
use Rattle.grid_keys.specs.Translation.{translate, translates}
use Rattle.grid_keys.specs.Order.{IsAtMost}
use Rattle.grid_keys.specs.CanonicalForm.{IsCanonicalForm, IsCanonical, IsLeastForm}
use Rattle.grid_keys.specs.Cornered.{cornered, IsFirstLeast}
use Rattle.grid_keys.proofs.Translated.{origin, origin_cases, origin-below, size-translate, translate-grid, translate-translate}
use Rattle.grid_keys.proofs.Ordered.{at_most_both}
use Rattle.grid_keys.proofs.LeastTranslates.{translates_all, translates_contains, shifts_of, least_form_at, first_least_exists}
use Rattle.grid_keys.proofs.Joined.{translate_none}

pub translate_itself : (d : Diagram) → IsGrid d → Contains (translates d) d
translate_itself d grid =
    subst (λ t. Contains (translates d) t) (translate_none d grid) (translates_contains d 0 0 (omega (arith, grid.least)) (omega (arith, grid.least)))

pub translated_grid : (d e : Diagram) → IsGrid d → Contains (translates d) e → IsGrid e
translated_grid d e grid c = let s = shifts_of d e c in subst IsGrid s.4 (translate-grid d s.0 s.1 grid s.2 s.3)

pub translated_size : (d e : Diagram) → IsGrid d → Contains (translates d) e → size e ≡ size d
translated_size d e grid c = let s = shifts_of d e c in ap size (sym s.4) ∙ size-translate d s.0 s.1 s.2

-- a translate of a translate
pub translated_twice : (d e f : Diagram) → IsGrid d → Contains (translates d) e → Contains (translates e) f → Contains (translates d) f
translated_twice d e f grid ce cf =
    let s = shifts_of d e ce in
    let t = shifts_of e f cf in
    let n : size e ≡ size d = translated_size d e grid ce in
    let ha : t.0 < size d = omega (arith, t.2, n) in
    let hb : t.1 < size d = omega (arith, t.3, n) in
    let is : translate d (origin (size d) t.0 s.0) (origin (size d) t.1 s.1) ≡ f =
    sym (translate-translate d s.0 s.1 t.0 t.1 grid s.2 s.3 ha hb) ∙ ap (λ g. translate g t.0 t.1) s.4 ∙ t.4 in
    subst (λ g. Contains (translates d) g) is (translates_contains d (origin (size d) t.0 s.0) (origin (size d) t.1 s.1)
    (origin-below (size d) t.0 s.0 ha s.2) (origin-below (size d) t.1 s.1 hb s.3))

-- the shift back
shift_back : (n a : ℕ) → a < n → (k : ℕ) × (k < n) × (origin n k a ≡ 0)
shift_back n a lt = elim (cases_lt 0 a) [
  | inl some ↦ (
    n - a,
    omega (arith, some, lt),
    elim (origin_cases n (n - a) a (omega (arith, some, lt)) lt)
        [ inl low ↦ absurd (omega (arith, low.0, lt)) | inr high ↦ omega (arith, high.1, lt) ],
  )
  | inr none ↦ (
    0,
    omega (arith, lt),
    elim (origin_cases n 0 a (omega (arith, lt)) lt)
        [ inl low ↦ omega (arith, low.1, none) | inr high ↦ absurd (omega (arith, high.0, lt)) ],
  )
]

pub translated_back : (d e : Diagram) → IsGrid d → Contains (translates d) e → Contains (translates e) d
translated_back d e grid c =
    let s = shifts_of d e c in
    let n : size e ≡ size d = translated_size d e grid c in
    let a = shift_back (size d) s.0 s.2 in
    let b = shift_back (size d) s.1 s.3 in
    let is : translate e a.0 b.0 ≡ d =
    ap (λ g. translate g a.0 b.0) (sym s.4) ∙ translate-translate d s.0 s.1 a.0 b.0 grid s.2 s.3 a.1 b.1 ∙ ap₂ (λ (z w : ℕ). translate d z w) a.2 b.2
    ∙ translate_none d grid in
    subst (λ g. Contains (translates e) g) is (translates_contains e a.0 b.0 (omega (arith, a.1, n)) (omega (arith, b.1, n)))

-- canonical forms
pub least_form_exists : (d : Diagram) → IsGrid d → (form : LeastForm) × IsLeastForm d form
least_form_exists d grid =
    let best = first_least_exists d (size d - 1) in
    let whole : IsFirstLeast d (size d) best.0 =
    subst (λ (n : ℕ). IsFirstLeast d n best.0) (let e : size d - 1 + 1 ≡ size d = omega (arith, grid.least) in e) best.1 in
    let form : LeastForm = record { grid = cornered d best.0; columns = best.0; rows = row_of Cross d best.0 } in
    (form, least_form_at d best.0 form grid whole refl refl refl)

pub canonical_exists : (d : Diagram) → IsGrid d → (e : Diagram) × IsCanonicalForm d e
canonical_exists d grid = let form = least_form_exists d grid in (form.0.grid, form.1.canonical)

pub canonical_once : (d e f : Diagram) → IsCanonicalForm d e → IsCanonicalForm d f → e ≡ f
canonical_once d e f one two =
    at_most_both e f (All-contains (λ t. IsAtMost e t) (translates d) f one.least two.among)
    (All-contains (λ t. IsAtMost f t) (translates d) e two.least one.among)

pub canonical_grid : (d e : Diagram) → IsGrid d → IsCanonicalForm d e → IsGrid e
canonical_grid d e grid form = translated_grid d e grid form.among

pub canonical_of_translate : (d e f : Diagram) → IsGrid d → Contains (translates d) e → IsCanonicalForm d f → IsCanonicalForm e f
canonical_of_translate d e f grid c form =
    let back = translated_back d e grid c in
    let ge = translated_grid d e grid c in
    record {
      among = translated_twice e d f ge back form.among;
      least =
          translates_all (λ t. IsAtMost f t) e (λ a b ha hb. All-contains (λ t. IsAtMost f t) (translates d) (translate e a b) form.least
          (translated_twice d e (translate e a b) grid c (translates_contains e a b ha hb)));
    }

pub translate_from_canonical : (d e f : Diagram) → IsGrid d → IsGrid e → IsCanonicalForm d f → IsCanonicalForm e f → Contains (translates d) e
translate_from_canonical d e f gd ge one two = translated_twice d f e gd one.among (translated_back e f ge two.among)

pub canonical_own : (d e : Diagram) → IsGrid d → IsCanonicalForm d e → IsCanonical e
canonical_own d e grid form = canonical_of_translate d e e grid form.among form

pub canonical_by_no_shift : (d : Diagram) → IsGrid d → IsCanonical d → IsLeastForm d (record { grid = d; columns = 0; rows = 0 })
canonical_by_no_shift d grid form = record {
  canonical = form;
  columns = omega (arith, grid.least);
  rows = omega (arith, grid.least);
  reached = translate_none d grid;
  first = λ a b ha hb same. elim (cases_lt 0 a) [
    | inl some ↦ inl some
    | inr none ↦ inr (omega (arith, none), omega arith)
  ];
}

same_least : (a b c d : ℕ) → (a < c) ⊎ ((a ≡ c) × (b ≤ d)) → (c < a) ⊎ ((c ≡ a) × (d ≤ b)) → (a ≡ c) × (b ≡ d)
same_least a b c d one two = elim one [
  | inl lt ↦ elim two [ inl gt ↦ absurd (omega (arith, lt, gt)) | inr eq ↦ absurd (omega (arith, lt, eq.0)) ]
  | inr eq ↦ elim two [ inl gt ↦ absurd (omega (arith, eq.0, gt)) | inr back ↦ (eq.0, omega (arith, eq.1, back.1)) ]
]

pub least_form_once : (d : Diagram) (form other : LeastForm) → IsLeastForm d form → IsLeastForm d other → form ≡ other
least_form_once d form other one two =
    let grids : form.grid ≡ other.grid = canonical_once d form.grid other.grid one.canonical two.canonical in
    let shifts = same_least form.columns form.rows other.columns other.rows
    (one.first other.columns other.rows two.columns two.rows (two.reached ∙ sym grids))
    (two.first form.columns form.rows one.columns one.rows (one.reached ∙ grids)) in
    ap (λ g. made g form.columns form.rows) grids ∙ ap₂ (λ (z w : ℕ). made other.grid z w) shifts.0 shifts.1
  where
    made : Diagram → ℕ → ℕ → LeastForm
    made g a b = record { grid = g; columns = a; rows = b }
