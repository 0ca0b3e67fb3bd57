-- A table of numbers has no fault exactly where it is a cocycle.
use Rattle.std.proofs.Common.{◌≡◌, ◌+◌, ◌*◌, ◌%◌, ◌==◌, None, length}
use Rattle.std.specs.Prelude.{nat_lt, nat_le}
use Rattle.std.proofs.lemmas.Bool.{le-leb, leb-true, eqb-true, eq-eqb, ltb-true, lt-ltb}
use Rattle.quandle_core.specs.Quandle.{IsQuandle, over}
use Rattle.quandle_core.specs.Fault.{first, or_else}
use Rattle.quandle_core.proofs.Firsts.{first_none, first_all, unless_none, unless_true, both_none, none_else}
use Rattle.cocycle_core.specs.Cocycle.{Cochain, IsCocycle, value}
use Rattle.cocycle_core.specs.Fault.{modulus_fault, cocycle_length_fault, cocycle_range_fault, diagonal_fault, cocycle_law_fault, first_cocycle_fault}
use Rattle.cocycle_core.specs.Fault.{cocycle_range_case, diagonal_case, law_case, obeys}
use Rattle.cocycle_core.specs.declared.fault.CocycleFault.TheVariants.{Modulus, Length, Range, Diagonal, Law}

-- where no law fails it is a cocycle
pub cocycle_from_parts : (w : Cochain) → IsQuandle w.quandle → modulus_fault w ≡ None → cocycle_length_fault w ≡ None → cocycle_range_fault w ≡ None
    → diagonal_fault w ≡ None
    → cocycle_law_fault w ≡ None → IsCocycle w
cocycle_from_parts w q one two three four five = record {
  quandle = q;
  least = leb-true 2 w.modulus (unless_none (nat_le 2 w.modulus) Modulus one);
  square = eqb-true (length w.entries) (w.quandle.order * w.quandle.order) (unless_none (length w.entries == w.quandle.order * w.quandle.order) Length two);
  within = λ x y lx ly.
      ltb-true (value w x y) w.modulus
      (unless_none (nat_lt (value w x y) w.modulus) (Range x y)
      (first_none (λ y. cocycle_range_case w x y) w.quandle.order y
      (first_none (λ x. first w.quandle.order (λ y. cocycle_range_case w x y)) w.quandle.order x three lx) ly));
  diagonal = λ x lx. eqb-true (value w x x) 0 (unless_none (value w x x == 0) (Diagonal x) (first_none (λ x. diagonal_case w x) w.quandle.order x four lx));
  law = λ x y z lx ly lz.
      eqb-true ((value w x y + value w (over w.quandle x y) z) % w.modulus) ((value w x z + value w (over w.quandle x z) (over w.quandle y z)) % w.modulus)
      (unless_none (obeys w x y z) (Law x y z)
      (first_none (λ z. law_case w x y z) w.quandle.order z
      (first_none (λ y. first w.quandle.order (λ z. law_case w x y z)) w.quandle.order y
      (first_none (λ x. first w.quandle.order (λ y. first w.quandle.order (λ z. law_case w x y z))) w.quandle.order x five lx) ly) lz));
}

pub cocycle_from_none : (w : Cochain) → IsQuandle w.quandle → first_cocycle_fault w ≡ None → IsCocycle w
cocycle_from_none w q none =
    let one = both_none (modulus_fault w)
    (or_else (cocycle_length_fault w) (or_else (cocycle_range_fault w) (or_else (diagonal_fault w) (cocycle_law_fault w)))) none in
    let two = both_none (cocycle_length_fault w) (or_else (cocycle_range_fault w) (or_else (diagonal_fault w) (cocycle_law_fault w))) one.1 in
    let three = both_none (cocycle_range_fault w) (or_else (diagonal_fault w) (cocycle_law_fault w)) two.1 in
    let four = both_none (diagonal_fault w) (cocycle_law_fault w) three.1 in
    cocycle_from_parts w q one.0 two.0 three.0 four.0 four.1

-- and a cocycle breaks none
pub none_from_cocycle : (w : Cochain) → IsCocycle w → first_cocycle_fault w ≡ None
none_from_cocycle w c =
    none_else (modulus_fault w) _ (unless_true (nat_le 2 w.modulus) Modulus (le-leb 2 w.modulus c.least))
    (none_else (cocycle_length_fault w) _ (unless_true (length w.entries == w.quandle.order * w.quandle.order) Length
    (eq-eqb (length w.entries) (w.quandle.order * w.quandle.order) c.square))
    (none_else (cocycle_range_fault w) _
    (first_all (λ x. first w.quandle.order (λ y. cocycle_range_case w x y)) w.quandle.order
    (λ x lx. first_all (λ y. cocycle_range_case w x y) w.quandle.order (λ y ly.
    unless_true (nat_lt (value w x y) w.modulus) (Range x y) (lt-ltb (value w x y) w.modulus (c.within x y lx ly)))))
    (none_else (diagonal_fault w) _
    (first_all (λ x. diagonal_case w x) w.quandle.order (λ x lx. unless_true (value w x x == 0) (Diagonal x) (eq-eqb (value w x x) 0 (c.diagonal x lx))))
    (first_all (λ x. first w.quandle.order (λ y. first w.quandle.order (λ z. law_case w x y z))) w.quandle.order (λ x lx.
    first_all (λ y. first w.quandle.order (λ z. law_case w x y z)) w.quandle.order (λ y ly.
    first_all (λ z. law_case w x y z) w.quandle.order (λ z lz.
    unless_true (obeys w x y z) (Law x y z)
    (eq-eqb ((value w x y + value w (over w.quandle x y) z) % w.modulus) ((value w x z + value w (over w.quandle x z) (over w.quandle y z)) % w.modulus)
    (c.law x y z lx ly lz)))))))))
