-- The quandles by formula, one more at a time; each of them has a text.
use Rattle.std.proofs.Common.{rules, ◌≡◌, ◌≤◌, ◌+◌, ◌-◌, ◌∙◌, ℕ, List, [], ◌∷◌, ◌++◌, Option, Some, None, Bool, true, nat_le, map, flat_map, option_to_list}
use Rattle.std.proofs.Common.{IfSome, refl, ap, sym, subst, arith, append_assoc, All}
use Rattle.std.specs.List.{range_with_len, cons_option, list_all, AllByRecursion}
use Rattle.std.proofs.lemmas.Bool.{leb-true, and_parts}
use Rattle.std.proofs.lemmas.List.{flat_map_more}
use Rattle.std.proofs.lemmas.List.FromFn.{map-range_with_len_more}
use Rattle.std.proofs.lemmas.List.Elements.{filter_map-append, All-nil, All-cons}
use Rattle.colour_rows.proofs.Ranges.{range_longer}
use Rattle.quandle_core.specs.declared.names.QuandleName.{QuandleName}
use Rattle.quandle_core.specs.declared.names.QuandleName.TheVariants as name
use Rattle.quandle_core.specs.Names.{NamedQuandle, Names, quandle_named}
use Rattle.quandle_core.proofs.Named.{named_so}
use Rattle.knot_text.specs.Printed.{HasFactor, HasQuandleText}
use Rattle.seek_core.specs.Formulas.{first_names, names_of_order, formula_names, quandles_named, formula_quandles}

-- ---- one name more, one order more

one_by : (o : Option NamedQuandle) → option_to_list o ≡ cons_option o []
one_by None = refl
one_by (Some q) = refl

-- the quandle of a name, if it has one
pub named_one : (n : QuandleName) (o : Option NamedQuandle) → o ≡ quandle_named n → option_to_list o ≡ quandles_named (n ∷ [])
named_one n o is = subst (λ (z : Option NamedQuandle). option_to_list o ≡ cons_option z []) is (one_by o)

pub named_more : (list after : List NamedQuandle) (front more : List QuandleName) (start : List NamedQuandle) → list ≡ start ++ quandles_named front
    → after ≡ list ++ quandles_named more → after ≡ start ++ quandles_named (front ++ more)
named_more list after front more start so_far is =
    is ∙ ap (λ (z : List NamedQuandle). z ++ quandles_named more) so_far ∙ append_assoc start (quandles_named front) (quandles_named more)
    ∙ ap (λ (z : List NamedQuandle). start ++ z) (sym (filter_map-append quandle_named front more))

-- of an order the dihedral one and the Alexander ones of so many factors
abbrev pub first_of_order : ℕ → ℕ → List QuandleName
first_of_order n count = name.Dihedral n ∷ map (λ a. name.Alexander n a) (range_with_len 2 count)

pub factor_more : (n k : ℕ) (start before after : List NamedQuandle) → 2 ≤ k → before ≡ start ++ quandles_named (first_of_order n (k - 2))
    → after ≡ before ++ quandles_named (name.Alexander n k ∷ []) → after ≡ start ++ quandles_named (first_of_order n (k + 1 - 2))
factor_more n k start before after least so_far is =
    let one : k + 1 - 2 ≡ k - 2 + 1 = omega (arith, least) in
    let longer = map-range_with_len_more (λ a. name.Alexander n a) 2 (k - 2) k (omega (arith, least)) in
    let more = named_more before after (first_of_order n (k - 2)) (name.Alexander n k ∷ []) start so_far is in
    more ∙ ap (λ (z : List QuandleName). start ++ quandles_named (name.Dihedral n ∷ z)) (sym longer)
    ∙ ap (λ (z : ℕ). start ++ quandles_named (first_of_order n z)) (sym one)

-- the first three, and those of so many orders
abbrev pub first_orders : ℕ → List QuandleName
first_orders count = first_names ++ flat_map names_of_order (range_with_len 4 count)

pub order_more : (k : ℕ) (before after : List NamedQuandle) → 4 ≤ k → before ≡ quandles_named (first_orders (k - 4))
    → after ≡ before ++ quandles_named (names_of_order k) → after ≡ quandles_named (first_orders (k + 1 - 4))
order_more k before after least so_far is =
    let one : k + 1 - 4 ≡ k - 4 + 1 = omega (arith, least) in
    let last : 4 + (k - 4) ≡ k = omega (arith, least) in
    let longer : range_with_len 4 (k - 4 + 1) ≡ range_with_len 4 (k - 4) ++ k ∷ [] =
    range_longer 4 (k - 4) ∙ ap (λ (z : ℕ). range_with_len 4 (k - 4) ++ z ∷ []) last in
    let more = named_more before after (first_orders (k - 4)) (names_of_order k) [] so_far is in
    more ∙ ap quandles_named (flat_map_more names_of_order first_names (range_with_len 4 (k - 4)) k)
    ∙ ap (λ (z : List ℕ). quandles_named (first_names ++ flat_map names_of_order z)) (sym longer)
    ∙ ap (λ (z : ℕ). quandles_named (first_orders z)) (sym one)

-- ---- texts

-- the quandle of a name whose factor is below its order has a text
text_by : (n : QuandleName) (o : Option NamedQuandle) → quandle_named n ≡ o → HasFactor n → IfSome o HasQuandleText
text_by n None is factor = search rules
text_by n (Some q) is factor =
    let so = named_so n q is in
    record { names = subst (λ (m : QuandleName). Names m q.table) (sym so.1.0) so.1.1; factor = subst HasFactor (sym so.1.0) factor }

named_texts_by : (names : List QuandleName) (n : QuandleName) (o : Option NamedQuandle) → IfSome o HasQuandleText → All HasQuandleText (quandles_named names)
    → All HasQuandleText (cons_option o (quandles_named names))
named_texts_by names n None text all = all
named_texts_by names n (Some q) text all = All-cons HasQuandleText q (quandles_named names) text all

named_texts : (names : List QuandleName) → AllByRecursion HasFactor names → All HasQuandleText (quandles_named names)
named_texts [] factors = All-nil HasQuandleText
named_texts (n ∷ names) factors =
    named_texts_by names n (quandle_named n) (text_by n (quandle_named n) refl factors.0) (named_texts names factors.1)

-- the same as a test, which computes
abbrev has_factor : QuandleName → Bool
has_factor (name.Alexander n a) = nat_le (a + 1) n
has_factor (name.Trivial n) = true
has_factor (name.Dihedral n) = true
has_factor name.Tetrahedral = true
has_factor name.Table = true

factor_of : (n : QuandleName) → has_factor n ≡ true → HasFactor n
factor_of (name.Alexander n a) is = let most = leb-true (a + 1) n is in omega (arith, most)
factor_of (name.Trivial n) is = search rules
factor_of (name.Dihedral n) is = search rules
factor_of name.Tetrahedral is = search rules
factor_of name.Table is = search rules

factors_of : (names : List QuandleName) → list_all has_factor names ≡ true → AllByRecursion HasFactor names
factors_of [] is = search rules
factors_of (n ∷ names) is =
    let both = and_parts (has_factor n) (list_all has_factor names) is in
    (factor_of n both.0, factors_of names both.1)

pub formula_texts : All HasQuandleText formula_quandles
formula_texts = named_texts formula_names (factors_of formula_names refl)
