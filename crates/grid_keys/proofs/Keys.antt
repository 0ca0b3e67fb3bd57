-- A key is read back, two keys are told apart, and keys are in the order of their diagrams.
use Rattle.std.proofs.Common.{◌≡◌, ◌≢◌, ◌<◌, ◌∙◌, ℕ, ◌==◌, ◌&&◌, [], true, false, Option, Some, None, List, map, arith, refl, sym, ap, ap₂, inl, inr}
use Rattle.std.specs.List.{range_with_len}
use Rattle.std.specs.Option.{IfSome, IfNone}
use Rattle.std.specs.Str.{bytes_eq}
use Rattle.std.specs.declared.cmp.Ordering.{Ordering}
use Rattle.std.specs.declared.cmp.Ordering.TheVariants.{Less, Greater}
use Rattle.std.specs.Ordering.{nat_cmp, ordering_then}
use Rattle.std.specs.Cmp.Lexicographic.{slice_cmp}
use Rattle.std.proofs.lemmas.Bool.{and_parts, and_from, both_ways, cases_order, eqb-true, eq-eqb}
use Rattle.std.proofs.lemmas.Slice.Eq.{bytes_eq-Decides}
use Rattle.grid_core.specs.declared.grid.TheConstants.{MAX_SIZE}
use Rattle.grid_core.specs.declared.mark.Kind.{Kind}
use Rattle.grid_core.specs.declared.mark.Kind.TheVariants.{Cross, Ring}
use Rattle.grid_core.specs.declared.fault.GridFault.{GridFault}
use Rattle.grid_core.specs.Fault.{first_grid_fault}
use Rattle.grid_core.proofs.Accepted.{faultless}
use Rattle.grid_core.specs.Diagram.{Diagram, IsGrid, size, rows_of}
use Rattle.grid_core.proofs.Marks.{rows_each, rows_fit}
use Rattle.grid_core.proofs.OneEach.{each_below}
use Rattle.grid_keys.specs.declared.key.Packed.{Packed}
use Rattle.grid_keys.specs.Order.{compare}
use Rattle.grid_keys.specs.Key.{words_of, key_of, size_of, same_key, compare_keys, digit_at}
use Rattle.grid_keys.proofs.Ordered.{nat_cmp_less, nat_cmp_greater}
use Rattle.grid_keys.proofs.Numbers.{AreDigits}
use Rattle.grid_keys.proofs.Words.{digits_are_rows, words_order}

pub rows_are_digits : (d : Diagram) (kind : Kind) → IsGrid d → AreDigits (rows_of kind d)
rows_are_digits d kind grid k e lt = omega (arith, each_below (size d) (rows_of kind d) (rows_each d kind grid) k e lt, grid.most)

pub size_of_key : (d : Diagram) → IsGrid d → size_of (key_of d) ≡ size d
size_of_key d grid = refl

pub crosses_of_key : (d : Diagram) → IsGrid d → map (digit_at (key_of d).x) (range_with_len 0 (size d)) ≡ d.x
crosses_of_key d grid = digits_are_rows d.x grid.most (rows_are_digits d Cross grid)

pub rings_of_key : (d : Diagram) → IsGrid d → map (digit_at (key_of d).o) (range_with_len 0 (size d)) ≡ d.o
rings_of_key d grid =
    ap (λ (n : ℕ). map (digit_at (words_of d.o)) (range_with_len 0 n)) (sym grid.same)
    ∙ digits_are_rows d.o (rows_fit d Ring grid) (rows_are_digits d Ring grid)

-- a key of no grid, where a list has to be asked with some key
abbrev pub no_key : Packed
no_key = record { size = 0; x = []; o = [] }

-- a key by its fields
abbrev packed : ℕ → List ℕ → List ℕ → Packed
packed n x o = record { size = n; x = x; o = o }

-- keys are told apart
pub same_key_true : (p q : Packed) → same_key p q ≡ true → p ≡ q
same_key_true p q is =
    let parts = and_parts (p.size == q.size) (bytes_eq p.x q.x && bytes_eq p.o q.o) is in
    let words = and_parts (bytes_eq p.x q.x) (bytes_eq p.o q.o) parts.1 in
    ap (λ (n : ℕ). packed n p.x p.o) (eqb-true p.size q.size parts.0)
    ∙ ap₂ (λ (xs ys : List ℕ). packed q.size xs ys) ((bytes_eq-Decides p.x q.x).0 words.0) ((bytes_eq-Decides p.o q.o).0 words.1)

pub same_key_of : (p q : Packed) → p ≡ q → same_key p q ≡ true
same_key_of p q same =
    and_from (p.size == q.size) (bytes_eq p.x q.x && bytes_eq p.o q.o) (eq-eqb p.size q.size (ap (λ (k : Packed). k.size) same))
    (and_from (bytes_eq p.x q.x) (bytes_eq p.o q.o) ((bytes_eq-Decides p.x q.x).1 (ap (λ (k : Packed). k.x) same))
    ((bytes_eq-Decides p.o q.o).1 (ap (λ (k : Packed). k.o) same)))

pub same_key_false : (p q : Packed) → same_key p q ≡ false → p ≢ q
same_key_false p q is same = both_ways (same_key p q) is (same_key_of p q same)

abbrev made : List ℕ → List ℕ → Diagram
made x o = record { x = x; o = o }

pub key_once : (d e : Diagram) → IsGrid d → IsGrid e → key_of d ≡ key_of e → d ≡ e
key_once d e gd ge same =
    let sizes : size d ≡ size e = ap (λ (p : Packed). p.size) same in
    ap₂ made
    (sym (crosses_of_key d gd) ∙ ap₂ (λ (p : Packed) (n : ℕ). map (digit_at p.x) (range_with_len 0 n)) same sizes ∙ crosses_of_key e ge)
    (sym (rings_of_key d gd) ∙ ap₂ (λ (p : Packed) (n : ℕ). map (digit_at p.o) (range_with_len 0 n)) same sizes ∙ rings_of_key e ge)

-- the order
then_less : (o p : Ordering) → o ≡ Less → ordering_then o p ≡ Less
then_less o p e = ap (λ q. ordering_then q p) e

then_greater : (o p : Ordering) → o ≡ Greater → ordering_then o p ≡ Greater
then_greater o p e = ap (λ q. ordering_then q p) e

-- the words of two diagrams, Xs before Os
abbrev by_words : Diagram → Diagram → Ordering
by_words d e = ordering_then (slice_cmp nat_cmp (words_of d.x) (words_of e.x)) (slice_cmp nat_cmp (words_of d.o) (words_of e.o))

pub key_order : (d e : Diagram) → IsGrid d → IsGrid e → compare_keys (key_of d) (key_of e) ≡ ordering_then (nat_cmp (size d) (size e)) (compare d e)
key_order d e gd ge = elim (cases_order (size d) (size e)) [
  | inl same ↦
      ap₂ (λ o p. ordering_then (nat_cmp (size d) (size e)) (ordering_then o p))
      (words_order d.x e.x same gd.most (rows_are_digits d Cross gd) (rows_are_digits e Cross ge))
      (words_order d.o e.o (gd.same ∙ same ∙ sym ge.same) (rows_fit d Ring gd) (rows_are_digits d Ring gd) (rows_are_digits e Ring ge))
  | inr other ↦ elim other [
    | inl lt ↦
        let less = nat_cmp_less (size d) (size e) lt in
        then_less (nat_cmp (size d) (size e)) (by_words d e) less ∙ sym (then_less (nat_cmp (size d) (size e)) (compare d e) less)
    | inr gt ↦
        let greater = nat_cmp_greater (size d) (size e) gt in
        then_greater (nat_cmp (size d) (size e)) (by_words d e) greater
        ∙ sym (then_greater (nat_cmp (size d) (size e)) (compare d e) greater)
  ]
]

-- reading a key back: the lists that were read are those of each grid with the key
pub read_lists : (d : Diagram) (key : Packed) (x o : List ℕ) → IsGrid d → key_of d ≡ key → x ≡ map (digit_at key.x) (range_with_len 0 (size_of key))
    → o ≡ map (digit_at key.o) (range_with_len 0 (size_of key)) → d ≡ record { x = x; o = o }
read_lists d key x o grid same ex eo =
    let sizes : size d ≡ size_of key = ap size_of same in
    ap₂ made
    (sym (crosses_of_key d grid) ∙ ap₂ (λ (p : Packed) (n : ℕ). map (digit_at p.x) (range_with_len 0 n)) same sizes ∙ sym ex)
    (sym (rings_of_key d grid) ∙ ap₂ (λ (p : Packed) (n : ℕ). map (digit_at p.o) (range_with_len 0 n)) same sizes ∙ sym eo)

-- the diagram whose rows are the digits of a key
pub named : Packed → Diagram
named key = record { x = map (digit_at key.x) (range_with_len 0 (size_of key)); o = map (digit_at key.o) (range_with_len 0 (size_of key)) }

pub named_back : (d : Diagram) (key : Packed) → IsGrid d → key_of d ≡ key → named key ≡ d
unfolding named
named_back d key grid same =
    sym (read_lists d key (map (digit_at key.x) (range_with_len 0 (size_of key))) (map (digit_at key.o) (range_with_len 0 (size_of key))) grid same refl refl)

pub too_large : (d : Diagram) (key : Packed) → IsGrid d → key_of d ≡ key → MAX_SIZE < size_of key → ⊥
too_large d key grid same large = let sizes : size d ≡ size_of key = ap size_of same in omega (arith, sizes, grid.most, large)

pub kept_where_key : (o : Option Diagram) (g d : Diagram) (key : Packed) → IfSome o (λ h. (h ≡ g) × (key_of h ≡ key)) → IfNone o (key_of g ≡ key → ⊥) → g ≡ d
    → key_of d ≡ key → o ≡ Some d
kept_where_key None g d key some none is same = absurd (none (ap (λ (f : Diagram). key_of f) is ∙ same))
kept_where_key (Some h) g d key some none is same = ap (λ f. Some f) (some.0 ∙ is)

pub faulty : (d : Diagram) (x o : List ℕ) (fault : GridFault) → IsGrid d → d ≡ record { x = x; o = o } → Some fault ≡ first_grid_fault x o → ⊥
faulty d x o fault grid is e =
    absurd (let no : ◌≡◌ {A = Option GridFault} (Some fault) None = e ∙ ap (λ (f : Diagram). first_grid_fault f.x f.o) (sym is) ∙ faultless d grid in cc)

-- a key from its fields
pub key_from : (d : Diagram) (n : ℕ) (x o : List ℕ) → n ≡ size d → x ≡ words_of d.x → o ≡ words_of d.o → key_of d ≡ record { size = n; x = x; o = o }
key_from d n x o is ex eo = sym (ap (λ (z : ℕ). packed z x o) is ∙ ap₂ (λ (zs ws : List ℕ). packed (size d) zs ws) ex eo)
