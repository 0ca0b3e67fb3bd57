-- The line of a crossing in the text of the code, and its number in the Gauss text.
use Rattle.std.proofs.Common.{◌≡◌, ◌<◌, ◌+◌, ◌^◌, ◌++◌, ◌∷◌, ◌∙◌, ◌==◌, ◌&&◌, [], ℕ, zero, suc, Bool, true, false, not, List, length, map}
use Rattle.std.proofs.Common.{get_or, refl, sym, ap, subst, arith, append_assoc}
use Rattle.std.specs.Prelude.{codes, decimal, nat_le, pos, negsuc, int_lt, Contains, if◌then◌else◌}
use Rattle.std.specs.List.{list_all, flat_map, All}
use Rattle.std.specs.Char.{digit_value}
use Rattle.std.specs.Str.Parse.{AllDigits}
use Rattle.std.proofs.lemmas.Bool.{eqb-true, leb-true, and_parts, and_from}
use Rattle.std.proofs.lemmas.Fmt.{decimal_is_IsNumeral}
use Rattle.std.proofs.lemmas.List.{length-map, get_or-map}
use Rattle.std.proofs.lemmas.List.Elements.{All-head, All-tail}
use Rattle.text_lines.specs.Tokens.{onto}
use Rattle.text_lines.specs.Lines.{lines_of}
use Rattle.grid_core.specs.Diagram.{Diagram, IsGrid}
use Rattle.grid_core.specs.Parts.{is_up, is_rightward}
use Rattle.grid_core.specs.Crossing.{unit, cross_product, sign}
use Rattle.crossing_codes.specs.declared.crossing.Crossing.{Crossing}
use Rattle.crossing_codes.specs.Passages.{Crossed, crossings, passages, through}
use Rattle.crossing_codes.specs.Code.{crossing, code}
use Rattle.crossing_codes.specs.CodeColouring.{is_edge}
use Rattle.crossing_codes.specs.Edges.{loops}
use Rattle.crossing_codes.specs.Printed.{crossing_line, crossing_number, passage_token, pd_text}
use Rattle.crossing_codes.proofs.Members.{has_at, place_in}
use Rattle.crossing_codes.proofs.Crossings.{of_crossings}
use Rattle.crossing_codes.proofs.Slots.{few_passages}
use Rattle.crossing_codes.proofs.Turns.{crossing_names}
use Rattle.crossing_codes.proofs.NumberSteps.{crossing_number_is}
use Rattle.crossing_codes.proofs.EdgeLaws.{has_contained, contained, count_twice}

-- bytes without a line feed
abbrev is_inside : ℕ → Bool
is_inside b = not (b == 10)

abbrev are_inside : List ℕ → Bool
are_inside bs = list_all is_inside bs

both_inside : (xs ys : List ℕ) → are_inside xs ≡ true → are_inside ys ≡ true → are_inside (xs ++ ys) ≡ true
both_inside [] ys a b = b
both_inside (x ∷ xs) ys a b =
    let parts = and_parts (is_inside x) (are_inside xs) a in
    and_from (is_inside x) (are_inside (xs ++ ys)) parts.0 (both_inside xs ys parts.1 b)

digit_inside : (c : ℕ) (t : Bool) → (c == 10) ≡ t → digit_value c < 10 → not t ≡ true
digit_inside c false e digit = refl
digit_inside c true e digit =
    let feed : digit_value 10 < 10 = subst (λ (b : ℕ). digit_value b < 10) (eqb-true c 10 e) digit in
    absurd (omega arith)

digits_inside : (ds : List ℕ) → AllDigits 10 ds → are_inside ds ≡ true
digits_inside [] all = refl
digits_inside (c ∷ cs) all = and_from (is_inside c) (are_inside cs) (digit_inside c (c == 10) refl all.0) (digits_inside cs all.1)

number_inside : (n : ℕ) → n < 2 ^ 64 → are_inside (decimal n) ≡ true
number_inside n lt = digits_inside (decimal n) (decimal_is_IsNumeral n lt).0.1

-- the first line of a text
first_line : (xs more : List ℕ) → are_inside xs ≡ true → lines_of (xs ++ (10 ∷ more)) ≡ xs ∷ lines_of more
first_line [] more is = refl
first_line (b ∷ bs) more is =
    by (b == 10) refl (and_parts (is_inside b) (are_inside bs) is).0 (first_line bs more (and_parts (is_inside b) (are_inside bs) is).1)
  where
    by : (t : Bool) → (b == 10) ≡ t → not (b == 10) ≡ true → lines_of (bs ++ (10 ∷ more)) ≡ bs ∷ lines_of more
        → lines_of (b ∷ (bs ++ (10 ∷ more))) ≡ (b ∷ bs) ∷ lines_of more
    by false e other rest =
        let one : lines_of (b ∷ (bs ++ (10 ∷ more))) ≡ onto b (lines_of (bs ++ (10 ∷ more))) = rw e refl in
        one ∙ ap (onto b) rest
    by true e other rest = absurd (let no : false ≡ true = sym (ap not e) ∙ other in cc)

-- the line of a crossing, without its line feed
abbrev behind_comma : List ℕ → List ℕ
behind_comma bs = codes "," ++ bs

abbrev inner : Crossing → List ℕ
inner x = codes "X[" ++ (decimal x.first ++ behind_comma (decimal x.second ++ behind_comma (decimal x.third ++ behind_comma (decimal x.fourth ++ codes "]"))))

line_is : (x : Crossing) → crossing_line x ≡ inner x ++ codes "\n"
line_is x =
    let feed = codes "\n" in
    let a = decimal x.first in
    let b = decimal x.second in
    let c = decimal x.third in
    let e = decimal x.fourth in
    let four = e ++ codes "]" in
    let three = c ++ behind_comma four in
    let two = b ++ behind_comma three in
    sym (ap (λ (bs : List ℕ). codes "X[" ++ bs) (append_assoc a (behind_comma two) feed
    ∙ ap (λ (bs : List ℕ). a ++ behind_comma bs) (append_assoc b (behind_comma three) feed
    ∙ ap (λ (bs : List ℕ). b ++ behind_comma bs) (append_assoc c (behind_comma four) feed
    ∙ ap (λ (bs : List ℕ). c ++ behind_comma bs) (append_assoc e (codes "]") feed)))))

-- edges that are printed whole
record AreShort (x : Crossing) : Type 0 where
  pub first : x.first < 2 ^ 64
  pub second : x.second < 2 ^ 64
  pub third : x.third < 2 ^ 64
  pub fourth : x.fourth < 2 ^ 64

inner_inside : (x : Crossing) → AreShort x → are_inside (inner x) ≡ true
inner_inside x short =
    let four = both_inside (decimal x.fourth) (codes "]") (number_inside x.fourth short.fourth) refl in
    let three = both_inside (decimal x.third) (behind_comma (decimal x.fourth ++ codes "]")) (number_inside x.third short.third) four in
    let two =
    both_inside (decimal x.second) (behind_comma (decimal x.third ++ behind_comma (decimal x.fourth ++ codes "]")))
    (number_inside x.second short.second) three in
    both_inside (decimal x.first) (behind_comma (decimal x.second ++ behind_comma (decimal x.third ++ behind_comma (decimal x.fourth ++ codes "]"))))
    (number_inside x.first short.first) two

line_at : (xs : List Crossing) (rest : List ℕ) (i : ℕ) (z : Crossing) → All AreShort xs → i < length xs
    → get_or (lines_of (flat_map crossing_line xs ++ rest)) i [] ++ codes "\n" ≡ crossing_line (get_or xs i z)
line_at [] rest i z all lt = absurd (omega arith)
line_at (x ∷ xs) rest i z all lt =
    let more = flat_map crossing_line xs ++ rest in
    let cut : lines_of (flat_map crossing_line (x ∷ xs) ++ rest) ≡ inner x ∷ lines_of more =
    ap lines_of (append_assoc (crossing_line x) (flat_map crossing_line xs) rest
    ∙ (ap (λ (bs : List ℕ). bs ++ more) (line_is x) ∙ append_assoc (inner x) (codes "\n") more))
    ∙ first_line (inner x) more (inner_inside x (All-head AreShort x xs all)) in
    ap (λ (ls : List (List ℕ)). get_or ls i [] ++ codes "\n") cut ∙ by i lt (λ j less. line_at xs rest j z (All-tail AreShort x xs all) less)
  where
    by : (i : ℕ) → i < length (x ∷ xs)
        → ((j : ℕ) → j < length xs → get_or (lines_of (flat_map crossing_line xs ++ rest)) j [] ++ codes "\n" ≡ crossing_line (get_or xs j z))
        → get_or (inner x ∷ lines_of (flat_map crossing_line xs ++ rest)) i [] ++ codes "\n" ≡ crossing_line (get_or (x ∷ xs) i z)
    by zero less later = sym (line_is x)
    by (suc j) less later = later j (omega arith)

-- the edges of a diagram's crossings
edges_short : (d : Diagram) → IsGrid d → (at : Crossed) → Contains (crossings d) at → AreShort (crossing d at)
edges_short d grid at h =
    let x = of_crossings d at (has_contained (crossings d) at h) in
    let n = length (passages d) in
    let c = crossing d at in
    let few = few_passages d grid in
    let names = crossing_names d grid at.column at.row x.0 x.1 in
    let three = and_parts (is_edge n c.first && is_edge n c.second && is_edge n c.third) (is_edge n c.fourth) names in
    let two = and_parts (is_edge n c.first && is_edge n c.second) (is_edge n c.third) three.0 in
    let one = and_parts (is_edge n c.first) (is_edge n c.second) two.0 in
    let most : (e : ℕ) → is_edge n e ≡ true → e < 2 ^ 64 = λ e is. let le = leb-true e n (and_parts (nat_le 1 e) (nat_le e n) is).1 in omega arith in
    record { first = most c.first one.0; second = most c.second one.1; third = most c.third two.1; fourth = most c.fourth three.1 }

-- the line of the crossing with this number
pub numbered_line : (d : Diagram) → IsGrid d → (at : Crossed) → Contains (crossings d) at
    → get_or (lines_of (pd_text (code d))) (crossing_number d at.column at.row) [] ++ codes "\n" ≡ crossing_line (crossing d at)
numbered_line d grid at h =
    let xs = crossings d in
    let k = place_in xs at (has_contained xs at h) in
    let i = k.0 in
    let cs = map (crossing d) xs in
    let number : crossing_number d at.column at.row ≡ suc i =
    crossing_number_is d i at.column at.row at k.1 (k.2 at) ∙ (let e : i + 1 ≡ suc i = omega arith in e) in
    let rest = codes "loops " ++ (decimal (length (loops d)) ++ codes "\n") in
    let count = decimal (length cs) in
    let few = few_passages d grid in
    let twice = count_twice d grid in
    let long : length cs ≡ length xs = length-map xs (crossing d) in
    let head = first_line (codes "crossings " ++ count) (flat_map crossing_line cs ++ rest)
    (both_inside (codes "crossings ") count refl (number_inside (length cs) (omega arith))) in
    let cut : lines_of (pd_text (code d)) ≡ (codes "crossings " ++ count) ∷ lines_of (flat_map crossing_line cs ++ rest) =
    ap lines_of (sym (append_assoc (codes "crossings ") count (10 ∷ (flat_map crossing_line cs ++ rest)))) ∙ head in
    let inside : i < length cs = omega (arith, long, k.1) in
    let short : All AreShort cs = λ j z lt.
    let less : j < length xs = omega (arith, lt, long) in
    subst AreShort (sym (get_or-map (crossing d) xs j at z less))
    (edges_short d grid (get_or xs j at) (contained xs (get_or xs j at) (has_at xs j at less))) in
    ap (λ (n : ℕ). get_or (lines_of (pd_text (code d))) n [] ++ codes "\n") number
    ∙ (ap (λ (ls : List (List ℕ)). get_or ls (suc i) [] ++ codes "\n") cut
    ∙ (line_at cs rest i (crossing d at) short inside
    ∙ ap crossing_line (get_or-map (crossing d) xs i at (crossing d at) k.1 ∙ ap (crossing d) (k.2 at))))

pub token_is : (d : Diagram) (over : Bool) (at : Crossed)
    → passage_token d (through over at) ≡ (if over then codes "O" else codes "U") ++ (decimal (crossing_number d at.column at.row)
    ++ (if (crossing d at).positive then codes "+" else codes "-"))
token_is d over at = refl

-- the sign of the crossing, as the code has it
pub sign_is : (d : Diagram) (at : Crossed) → sign d at.column at.row ≡ (if (crossing d at).positive then pos 1 else negsuc 0)
sign_is d at = by (is_up d at.column) (is_rightward d at.row)
  where
    by : (up right : Bool) → cross_product (record { x = pos 0; y = unit up }) (record { x = unit right; y = pos 0 })
        ≡ (if int_lt (pos 0) (cross_product (record { x = pos 0; y = unit up }) (record { x = unit right; y = pos 0 })) then pos 1 else negsuc 0)
    by true true = refl
    by true false = refl
    by false true = refl
    by false false = refl
