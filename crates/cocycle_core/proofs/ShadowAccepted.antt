-- A table of numbers has no fault exactly where it is a shadow cocycle.
use Rattle.std.proofs.Common.{◌≡◌, ◌*◌, ◌%◌, ◌==◌, None, length}
use Rattle.std.specs.Prelude.{nat_lt, nat_le}
use Rattle.std.proofs.lemmas.Bool.{le-leb, leb-true, eqb-true, eq-eqb, ltb-true, lt-ltb}
use Rattle.quandle_core.specs.Quandle.{IsQuandle}
use Rattle.quandle_core.specs.Fault.{first, or_else}
use Rattle.quandle_core.proofs.Firsts.{first_none, first_all, unless_none, unless_true, both_none, none_else}
use Rattle.cocycle_core.specs.ShadowCocycle.{ShadowCochain, IsShadowCocycle, shadow_value, one_side, other_side}
use Rattle.cocycle_core.specs.ShadowFault.{shadow_modulus_fault, shadow_length_fault, shadow_range_fault, shadow_diagonal_fault, shadow_law_fault}
use Rattle.cocycle_core.specs.ShadowFault.{first_shadow_fault, shadow_range_case, shadow_diagonal_case, shadow_law_case, shadow_obeys}
use Rattle.cocycle_core.specs.declared.shadow_fault.ShadowFault.TheVariants.{Modulus, Length, Range, Diagonal, Law}

-- where no law fails it is a cocycle
pub cocycle_from_parts : (t : ShadowCochain) → IsQuandle t.quandle → shadow_modulus_fault t ≡ None → shadow_length_fault t ≡ None → shadow_range_fault t ≡ None
    → shadow_diagonal_fault t ≡ None → shadow_law_fault t ≡ None → IsShadowCocycle t
cocycle_from_parts t q one two three four five = record {
  quandle = q;
  least = leb-true 2 t.modulus (unless_none (nat_le 2 t.modulus) Modulus one);
  cube =
      eqb-true (length t.entries) (t.quandle.order * t.quandle.order * t.quandle.order)
      (unless_none (length t.entries == t.quandle.order * t.quandle.order * t.quandle.order) Length two);
  within = λ w x y lw lx ly.
      ltb-true (shadow_value t w x y) t.modulus
      (unless_none (nat_lt (shadow_value t w x y) t.modulus) (Range w x y)
      (first_none (λ y. shadow_range_case t w x y) t.quandle.order y
      (first_none (λ x. first t.quandle.order (λ y. shadow_range_case t w x y)) t.quandle.order x
      (first_none (λ w. first t.quandle.order (λ x. first t.quandle.order (λ y. shadow_range_case t w x y))) t.quandle.order w three lw) lx) ly));
  diagonal = λ w x lw lx.
      eqb-true (shadow_value t w x x) 0
      (unless_none (shadow_value t w x x == 0) (Diagonal w x)
      (first_none (λ x. shadow_diagonal_case t w x) t.quandle.order x
      (first_none (λ w. first t.quandle.order (λ x. shadow_diagonal_case t w x)) t.quandle.order w four lw) lx));
  law = λ a b c d la lb lc ld.
      eqb-true (one_side t a b c d % t.modulus) (other_side t a b c d % t.modulus)
      (unless_none (shadow_obeys t a b c d) (Law a b c d)
      (first_none (λ d. shadow_law_case t a b c d) t.quandle.order d
      (first_none (λ c. first t.quandle.order (λ d. shadow_law_case t a b c d)) t.quandle.order c
      (first_none (λ b. first t.quandle.order (λ c. first t.quandle.order (λ d. shadow_law_case t a b c d))) t.quandle.order b
      (first_none
      (λ a. first t.quandle.order (λ b. first t.quandle.order (λ c. first t.quandle.order (λ d. shadow_law_case t a b c d)))) t.quandle.order a five la)
      lb) lc) ld));
}

pub cocycle_from_none : (t : ShadowCochain) → IsQuandle t.quandle → first_shadow_fault t ≡ None → IsShadowCocycle t
cocycle_from_none t q none =
    let one = both_none (shadow_modulus_fault t)
    (or_else (shadow_length_fault t) (or_else (shadow_range_fault t) (or_else (shadow_diagonal_fault t) (shadow_law_fault t)))) none in
    let two = both_none (shadow_length_fault t) (or_else (shadow_range_fault t) (or_else (shadow_diagonal_fault t) (shadow_law_fault t))) one.1 in
    let three = both_none (shadow_range_fault t) (or_else (shadow_diagonal_fault t) (shadow_law_fault t)) two.1 in
    let four = both_none (shadow_diagonal_fault t) (shadow_law_fault t) three.1 in
    cocycle_from_parts t q one.0 two.0 three.0 four.0 four.1

-- and a cocycle breaks none
pub none_from_cocycle : (t : ShadowCochain) → IsShadowCocycle t → first_shadow_fault t ≡ None
none_from_cocycle t c =
    none_else (shadow_modulus_fault t) _ (unless_true (nat_le 2 t.modulus) Modulus (le-leb 2 t.modulus c.least))
    (none_else (shadow_length_fault t) _ (unless_true (length t.entries == t.quandle.order * t.quandle.order * t.quandle.order) Length
    (eq-eqb (length t.entries) (t.quandle.order * t.quandle.order * t.quandle.order) c.cube))
    (none_else (shadow_range_fault t) _
    (first_all (λ w. first t.quandle.order (λ x. first t.quandle.order (λ y. shadow_range_case t w x y))) t.quandle.order (λ w lw.
    first_all (λ x. first t.quandle.order (λ y. shadow_range_case t w x y)) t.quandle.order (λ x lx.
    first_all (λ y. shadow_range_case t w x y) t.quandle.order (λ y ly.
    unless_true (nat_lt (shadow_value t w x y) t.modulus) (Range w x y) (lt-ltb (shadow_value t w x y) t.modulus (c.within w x y lw lx ly))))))
    (none_else (shadow_diagonal_fault t) _
    (first_all (λ w. first t.quandle.order (λ x. shadow_diagonal_case t w x)) t.quandle.order (λ w lw.
    first_all (λ x. shadow_diagonal_case t w x) t.quandle.order (λ x lx.
    unless_true (shadow_value t w x x == 0) (Diagonal w x) (eq-eqb (shadow_value t w x x) 0 (c.diagonal w x lw lx)))))
    (first_all (λ a. first t.quandle.order (λ b. first t.quandle.order (λ c. first t.quandle.order (λ d. shadow_law_case t a b c d)))) t.quandle.order (λ a la.
    first_all (λ b. first t.quandle.order (λ c. first t.quandle.order (λ d. shadow_law_case t a b c d))) t.quandle.order (λ b lb.
    first_all (λ c. first t.quandle.order (λ d. shadow_law_case t a b c d)) t.quandle.order (λ e le.
    first_all (λ d. shadow_law_case t a b e d) t.quandle.order (λ d ld.
    unless_true (shadow_obeys t a b e d) (Law a b e d)
    (eq-eqb (one_side t a b e d % t.modulus) (other_side t a b e d % t.modulus) (c.law a b e d la lb le ld))))))))))
