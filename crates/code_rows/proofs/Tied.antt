-- Values of ties before and after two of them are made to differ.
use Rattle.std.proofs.Common.{◌≡◌, ◌<◌, ◌/◌, ◌%◌, ◌==◌, ◌∙◌, ℕ, Bool, true, false, not, List, map, length, get_or, refl, sym, ap, ap₂}
use Rattle.std.specs.Prelude.{slice_index_or, if◌then◌else◌}
use Rattle.std.proofs.lemmas.Bool.{eqb-true, eqb-false, eq-eqb, ne_eqb}
use Rattle.std.proofs.lemmas.List.{length-map, get_or-map}
use Rattle.std.proofs.lemmas.Simd.{map-map}
use Rattle.code_rows.specs.declared.row_signs.Tie.{Tie}
use Rattle.code_rows.specs.RowSigns.{turned_by, value_of, no_tie, tie_of, replaced, tied}

-- of truth values
not_turned : (b c : Bool) → turned_by (not b) c ≡ not (turned_by b c)
not_turned true true = refl
not_turned true false = refl
not_turned false c = refl

turned_twice : (x y z : Bool) → turned_by (turned_by x y) z ≡ turned_by y (turned_by x z)
turned_twice true true true = refl
turned_twice true true false = refl
turned_twice true false true = refl
turned_twice true false false = refl
turned_twice false true z = refl
turned_twice false false z = refl

apart_first : (x y z : Bool) → turned_by (turned_by x (turned_by (not (turned_by x y)) z)) (turned_by y z) ≡ true
apart_first true true true = refl
apart_first true true false = refl
apart_first true false true = refl
apart_first true false false = refl
apart_first false true true = refl
apart_first false true false = refl
apart_first false false true = refl
apart_first false false false = refl

apart_second : (x y z : Bool) → turned_by (turned_by x z) (turned_by y (turned_by (not (turned_by x y)) z)) ≡ true
apart_second true true true = refl
apart_second true true false = refl
apart_second true false true = refl
apart_second true false false = refl
apart_second false true true = refl
apart_second false true false = refl
apart_second false false true = refl
apart_second false false false = refl

false_true : {A : Type 0} → ◌≡◌ {A = Bool} false true → A
false_true e = absurd (let never : ◌≡◌ {A = Bool} false true = e in cc)

first_root : (x y u v : Bool) → turned_by (turned_by x u) (turned_by y v) ≡ true → u ≡ turned_by (not (turned_by x y)) v
first_root true true true true e = false_true e
first_root true true true false e = refl
first_root true true false true e = refl
first_root true true false false e = false_true e
first_root true false true true e = refl
first_root true false true false e = false_true e
first_root true false false true e = false_true e
first_root true false false false e = refl
first_root false true true true e = refl
first_root false true true false e = false_true e
first_root false true false true e = false_true e
first_root false true false false e = refl
first_root false false true true e = false_true e
first_root false false true false e = refl
first_root false false false true e = refl
first_root false false false false e = false_true e

second_root : (x y u v : Bool) → turned_by (turned_by x u) (turned_by y v) ≡ true → v ≡ turned_by (not (turned_by x y)) u
second_root true true true true e = false_true e
second_root true true true false e = refl
second_root true true false true e = refl
second_root true true false false e = false_true e
second_root true false true true e = refl
second_root true false true false e = false_true e
second_root true false false true e = false_true e
second_root true false false false e = refl
second_root false true true true e = refl
second_root false true true false e = false_true e
second_root false true false true e = false_true e
second_root false true false false e = refl
second_root false false true true e = false_true e
second_root false false true false e = refl
second_root false false false true e = refl
second_root false false false false e = false_true e

one_root : (x y u : Bool) → turned_by (turned_by x u) (turned_by y u) ≡ turned_by x y
one_root true true true = refl
one_root true true false = refl
one_root true false true = refl
one_root true false false = refl
one_root false true true = refl
one_root false true false = refl
one_root false false true = refl
one_root false false false = refl

-- whether a strand leaves its crossing at an end, counted four to a crossing: of the strand under the third, of that over the second or the fourth
abbrev pub leaves : List Bool → ℕ → Bool
leaves signs end =
    if end % 4 == 0 then false
    else if end % 4 == 1 then slice_index_or signs (end / 4) false
    else if end % 4 == 2 then true
    else not (slice_index_or signs (end / 4) false)

-- the value of the tie at an end tells whether the strand leaves there
pub leaves_by : (values : ℕ → Bool) (ties : List Tie) → values (length ties) ≡ true → (d : ℕ) → d / 4 < length ties
    → value_of values (tie_of ties d) ≡ leaves (map (value_of values) ties) d
leaves_by values ties fixed d lt =
    by (d % 4 == 0) (d % 4 == 1) (d % 4 == 2) (get_or ties (d / 4) no_tie) (get_or (map (value_of values) ties) (d / 4) false)
    (sym (get_or-map (value_of values) ties (d / 4) no_tie false lt))
  where
    by : (a b c : Bool) (t : Tie) (v : Bool) → value_of values t ≡ v
        → value_of values
        (if a then record { root = length ties; turned = true } else if b then t else if c then record { root = length ties; turned = false }
        else record { root = t.root; turned = not t.turned })
        ≡ (if a then false else if b then v else if c then true else not v)
    by true b c t v e = ap not fixed
    by false true c t v e = e
    by false false true t v e = fixed
    by false false false t v e = not_turned t.turned (values t.root) ∙ ap not e

-- the values with another one for a root
abbrev pub with_value : (ℕ → Bool) → ℕ → Bool → ℕ → Bool
with_value values root value r = if r == root then value else values r

replaced_value : (from to : ℕ) (turn : Bool) (values : ℕ → Bool) (t : Tie)
    → value_of values (replaced from to turn t) ≡ value_of (with_value values from (turned_by turn (values to))) t
replaced_value from to turn values t = by (t.root == from)
  where
    by : (q : Bool) → value_of values (if q then record { root = to; turned = turned_by turn t.turned } else t)
        ≡ turned_by t.turned (if q then turned_by turn (values to) else values t.root)
    by true = turned_twice turn t.turned (values to)
    by false = refl

replaced_values : (from to : ℕ) (turn : Bool) (values : ℕ → Bool) (ties : List Tie)
    → map (value_of values) (map (replaced from to turn) ties) ≡ map (value_of (with_value values from (turned_by turn (values to)))) ties
replaced_values from to turn values ties =
    let same : (λ (t : Tie). value_of values (replaced from to turn t)) ≡ value_of (with_value values from (turned_by turn (values to))) =
    λ i t. replaced_value from to turn values t i in
    map-map (value_of values) (replaced from to turn) ties ∙ ap (λ (f : Tie → Bool). map f ties) same

-- a root keeps its value
kept_value : (values : ℕ → Bool) (root : ℕ) (value : Bool) → values root ≡ value → with_value values root value ≡ values
kept_value values root value is = λ i r. pointwise r i
  where
    by : (r : ℕ) (q : Bool) → (r == root) ≡ q → (if q then value else values r) ≡ values r
    by r true e = sym is ∙ ap values (sym (eqb-true r root e))
    by r false e = refl

    pointwise : (r : ℕ) → with_value values root value r ≡ values r
    pointwise r = by r (r == root) refl

with_here : (values : ℕ → Bool) (root : ℕ) (value : Bool) → with_value values root value root ≡ value
with_here values root value = ap (λ q. if q then value else values root) (eq-eqb root root refl)

with_there : (values : ℕ → Bool) (root : ℕ) (value : Bool) (r : ℕ) → (r == root) ≡ false → with_value values root value r ≡ values r
with_there values root value r ne = ap (λ q. if q then value else values r) ne

turned_round : (a b : ℕ) → (a == b) ≡ false → (b == a) ≡ false
turned_round a b ne = ne_eqb b a (λ e. eqb-false a b ne (sym e))

-- what is gained where the roots are two
pub record IsApart (one two : Tie) (before after : List Tie) : Type 0 where
  pub long : length after ≡ length before
  pub back : (values : ℕ → Bool) → values (length before) ≡ true
      → (others : ℕ → Bool) × (others (length before) ≡ true) × (map (value_of values) after ≡ map (value_of others) before)
      × (turned_by (value_of others one) (value_of others two) ≡ true)
  pub kept : (values : ℕ → Bool) → turned_by (value_of values one) (value_of values two) ≡ true
      → map (value_of values) after ≡ map (value_of values) before

by_first : (one two : Tie) (ties : List Tie) → (one.root == two.root) ≡ false → (one.root == length ties) ≡ false
    → IsApart one two ties (map (replaced one.root two.root (not (turned_by one.turned two.turned))) ties)
by_first one two ties ne free =
    let turn = not (turned_by one.turned two.turned) in
    record {
      long = length-map ties (replaced one.root two.root turn);
      back = λ values fixed.
          let v = turned_by turn (values two.root) in
          let others = with_value values one.root v in (
            others,
            with_there values one.root v (length ties) (turned_round one.root (length ties) free) ∙ fixed,
            replaced_values one.root two.root turn values ties,
            ap₂ (λ p q. turned_by (turned_by one.turned p) (turned_by two.turned q)) (with_here values one.root v)
                (with_there values one.root v two.root (turned_round one.root two.root ne))
                ∙ apart_first one.turned two.turned (values two.root),
          );
      kept = λ values differ.
          replaced_values one.root two.root turn values ties
          ∙ ap (λ (f : ℕ → Bool). map (value_of f) ties)
          (kept_value values one.root (turned_by turn (values two.root))
          (first_root one.turned two.turned (values one.root) (values two.root) differ));
    }

by_second : (one two : Tie) (ties : List Tie) → (one.root == two.root) ≡ false → (two.root == length ties) ≡ false
    → IsApart one two ties (map (replaced two.root one.root (not (turned_by one.turned two.turned))) ties)
by_second one two ties ne free =
    let turn = not (turned_by one.turned two.turned) in
    record {
      long = length-map ties (replaced two.root one.root turn);
      back = λ values fixed.
          let v = turned_by turn (values one.root) in
          let others = with_value values two.root v in (
            others,
            with_there values two.root v (length ties) (turned_round two.root (length ties) free) ∙ fixed,
            replaced_values two.root one.root turn values ties,
            ap₂ (λ p q. turned_by (turned_by one.turned p) (turned_by two.turned q)) (with_there values two.root v one.root ne)
                (with_here values two.root v)
                ∙ apart_second one.turned two.turned (values one.root),
          );
      kept = λ values differ.
          replaced_values two.root one.root turn values ties
          ∙ ap (λ (f : ℕ → Bool). map (value_of f) ties)
          (kept_value values two.root (turned_by turn (values one.root))
          (second_root one.turned two.turned (values one.root) (values two.root) differ));
    }

pub tied_apart : (one two : Tie) (ties : List Tie) → (one.root == two.root) ≡ false → IsApart one two ties (tied one two ties)
tied_apart one two ties ne = by (one.root == two.root) ne (one.root == length ties) refl
  where
    turn : Bool
    turn = not (turned_by one.turned two.turned)

    by : (p : Bool) → p ≡ false → (q : Bool) → (one.root == length ties) ≡ q
        → IsApart one two ties
        (if p then ties else if q then map (replaced two.root one.root turn) ties else map (replaced one.root two.root turn) ties)
    by true e q is = false_true (sym e)
    by false e true is =
        by_second one two ties ne
        (ne_eqb two.root (length ties) (λ same. eqb-false one.root two.root ne (eqb-true one.root (length ties) is ∙ sym same)))
    by false e false is = by_first one two ties ne is

-- where the roots are one, nothing changes, and by all values they differ or none do
pub tied_same : (one two : Tie) (ties : List Tie) → (one.root == two.root) ≡ true → tied one two ties ≡ ties
tied_same one two ties e =
    ap
    (λ q. if q then ties
    else if one.root == length ties then map (replaced two.root one.root (not (turned_by one.turned two.turned))) ties
    else map (replaced one.root two.root (not (turned_by one.turned two.turned))) ties)
    e

pub value_same : (one two : Tie) (values : ℕ → Bool) → (one.root == two.root) ≡ true
    → turned_by (value_of values one) (value_of values two) ≡ turned_by one.turned two.turned
value_same one two values e =
    ap (λ u. turned_by (turned_by one.turned u) (turned_by two.turned (values two.root))) (ap values (eqb-true one.root two.root e))
    ∙ one_root one.turned two.turned (values two.root)
