-- Brief keys: no two stand for one key, and grids of few columns have one.
use Rattle.std.proofs.Common.{◌≡◌, ◌<◌, ◌≤◌, ◌-◌, ◌+◌, ◌*◌, ◌/◌, ◌%◌, ◌^◌, ◌==◌, ◌∷◌, ◌∙◌, ℕ, Bool, true, false, List, arith, refl, ap, ap₂, get_or, replicate}
use Rattle.std.proofs.Common.{take, length}
use Rattle.std.proofs.Math.Nat.{pow-le-pow_right}
use Rattle.std.proofs.lemmas.Bool.{and_from, and_parts, eqb-true, eq-eqb}
use Rattle.std.proofs.lemmas.Nat.{div-mul-add, mod-mul-add}
use Rattle.std.proofs.lemmas.List.{length-take}
use Rattle.std.proofs.lemmas.List.Elements.{All-take}
use Rattle.grid_core.specs.declared.mark.Kind.TheVariants.{Cross}
use Rattle.grid_core.specs.Diagram.{Diagram, IsGrid, size}
use Rattle.grid_keys.specs.declared.brief.BriefKey.{BriefKey}
use Rattle.grid_keys.specs.declared.brief.TheConstants.{SIZE_PLACE}
use Rattle.grid_keys.specs.declared.key.Packed.{Packed}
use Rattle.grid_keys.specs.declared.key.TheConstants.{BASE, WORD_COLUMNS, WORDS}
use Rattle.grid_keys.specs.Brief.{whole_key, same_brief}
use Rattle.grid_keys.specs.Key.{key_of, same_key, key_number, filled, words_of}
use Rattle.grid_keys.proofs.Keys.{rows_are_digits, same_key_of, same_key_true}
use Rattle.grid_keys.proofs.Numbers.{AreDigits, number-below, filled-digits}
use Rattle.grid_keys.proofs.Words.{short_words_of}

abbrev brief : ℕ → ℕ → BriefKey
brief x o = record { x = x; o = o }

pub brief_once : (a b : BriefKey) → whole_key a ≡ whole_key b → a ≡ b
brief_once a b same =
    let sizes : a.x / SIZE_PLACE ≡ b.x / SIZE_PLACE = ap (λ (p : Packed). p.size) same in
    let words : a.x % SIZE_PLACE ≡ b.x % SIZE_PLACE = ap (λ (p : Packed). get_or p.x 0 0) same in
    ap₂ brief
    (omega (arith, sizes, words))
    (ap (λ (p : Packed). get_or p.o 0 0) same)

-- two brief keys are told apart as their keys are
brief_true : (a b : BriefKey) → same_brief a b ≡ true → a ≡ b
brief_true a b is =
    let parts = and_parts (a.x == b.x) (a.o == b.o) is in
    ap₂ brief (eqb-true a.x b.x parts.0) (eqb-true a.o b.o parts.1)

brief_of : (a b : BriefKey) → a ≡ b → same_brief a b ≡ true
brief_of a b same =
    and_from (a.x == b.x) (a.o == b.o) (eq-eqb a.x b.x (ap (λ (c : BriefKey). c.x) same)) (eq-eqb a.o b.o (ap (λ (c : BriefKey). c.o) same))

pub told_alike : (a b : BriefKey) → same_key (whole_key a) (whole_key b) ≡ same_brief a b
told_alike a b = by (same_key (whole_key a) (whole_key b)) (same_brief a b) refl refl
  where
    by : (p q : Bool) → same_key (whole_key a) (whole_key b) ≡ p → same_brief a b ≡ q → same_key (whole_key a) (whole_key b) ≡ q
    by true true whole is = whole
    by false false whole is = whole
    by true false whole is = absurd (let yes = brief_of a b (brief_once a b (same_key_true (whole_key a) (whole_key b) whole)) in cc)
    by false true whole is = absurd (let yes = same_key_of (whole_key a) (whole_key b) (ap whole_key (brief_true a b is)) in cc)

-- a grid of few columns has a brief key
first_below : (rows : List ℕ) → AreDigits rows → key_number (take WORD_COLUMNS (filled rows)) < SIZE_PLACE
first_below rows all =
    let piece : List ℕ = take WORD_COLUMNS (filled rows) in
    let long : length piece ≤ WORD_COLUMNS = omega (arith, length-take WORD_COLUMNS (filled rows)) in
    let low = number-below piece (All-take (λ digit. digit < BASE) WORD_COLUMNS (filled rows) (filled-digits rows all)) in
    let high : BASE ^ length piece ≤ BASE ^ WORD_COLUMNS = pow-le-pow_right {n = BASE} (omega arith) {i = length piece} {j = WORD_COLUMNS} long in
    omega (arith, low, high)

pub few_columns : (d : Diagram) → IsGrid d → size d ≤ WORD_COLUMNS → (b : BriefKey) × (whole_key b ≡ key_of d)
few_columns d grid few =
    let x : ℕ = key_number (take WORD_COLUMNS (filled d.x)) in
    let o : ℕ = key_number (take WORD_COLUMNS (filled d.o)) in
    let low : x < SIZE_PLACE = first_below d.x (rows_are_digits d Cross grid) in
    let sizes : (size d * SIZE_PLACE + x) / SIZE_PLACE ≡ size d = div-mul-add (size d) SIZE_PLACE x low in
    let words : (size d * SIZE_PLACE + x) % SIZE_PLACE ≡ x = mod-mul-add (size d) SIZE_PLACE x low in
    let xs : x ∷ replicate (WORDS - 1) 0 ≡ words_of d.x = short_words_of d.x few in
    let os : o ∷ replicate (WORDS - 1) 0 ≡ words_of d.o = short_words_of d.o (omega (arith, few, grid.same)) in
    (brief (size d * SIZE_PLACE + x) o, λ j. record { size = sizes j; x = (ap (λ (z : ℕ). z ∷ replicate (WORDS - 1) 0) words ∙ xs) j; o = os j })
