-- Diagrams that words name, as values of arguments, and that there are none.
use Rattle.std.proofs.Common.{◌≡◌, ◌≢◌, ◌++◌, ◌<◌, ◌≤◌, ◌∙◌, inl, inr, ℕ, List, [], ◌∷◌, Option, codes, length, get_or, map, take, refl, ap, subst, arith}
use Rattle.std.specs.Borrow.{Bor}
use Rattle.std.specs.Prelude.{unwrap_or}
use Rattle.std.proofs.lemmas.List.{take_all, length-map}
use Rattle.clap.specs.Walk.{Row, Text, all_of}
use Rattle.seek_words.specs.declared.given.Diagrams.{Diagrams}
use Rattle.seek_words.specs.declared.given.Diagrams.TheVariants.{Problem, Pair}
use Rattle.seek_words.specs.declared.given.Placed.{Placed}
use Rattle.seek_words.specs.Matched.{FindsNamed}
use Rattle.seek_words.specs.Words.{Named, named, named_by, AreNamedBy, AreNone}

-- ---- values of an argument

abbrev pub valued : Text → List (Bor (List ℕ)) → List Named
valued way values = map (λ (s : Bor (List ℕ)). record { way = way; text = s.now }) values

as_texts : (way : Text) (values : List (Bor (List ℕ)))
    → valued way values ≡ map (λ (text : Text). record { way = way; text = text }) (map (λ (s : Bor (List ℕ)). s.now) values)
as_texts way [] = refl
as_texts way (s ∷ values) = ap (λ (rest : List Named). record { way = way; text = s.now } ∷ rest) (as_texts way values)

-- all values of an argument are those that the words give by it
pub all_valued : (way name : Text) (values : List (Bor (List ℕ))) (rows : List Row) (at : ℕ) (front : List Named) → name ≡ way
    → map (λ (s : Bor (List ℕ)). s.now) values ≡ unwrap_or (all_of name rows) [] → length values ≤ at
    → front ++ valued way (take at values) ≡ front ++ named_by way rows
all_valued way name values rows at front same are end =
    let texts = subst (λ (n : Text). map (λ (s : Bor (List ℕ)). s.now) values ≡ unwrap_or (all_of n rows) []) same are in
    let given = as_texts way values ∙ ap (λ (ts : List Text). map (λ (text : Text). record { way = way; text = text }) ts) texts in
    ap (λ (last : List Named). front ++ last) (ap (valued way) (take_all at values end) ∙ given)

-- ---- what is no diagram, and no two

-- a single one that is no file
pub not_a_file : (x : Named) → x.way ≢ codes "FILE" → (d : Diagrams) → AreNamedBy (x ∷ []) d → ⊥
not_a_file x other (Problem one) (inl (is, way)) =
    let same : x ≡ named one = cc in
    other (ap (λ (n : Named). n.way) same ∙ way)
not_a_file x other (Problem one) (inr (none, input)) = absurd (omega (arith, ap length none))
not_a_file x other (Pair first second) (inl is) = absurd (omega (arith, ap length is))
not_a_file x other (Pair first second) (inr (is, ways)) = absurd (omega (arith, ap length is))

-- three and more
too_many : (xs : List Named) → 2 < length xs → (d : Diagrams) → AreNamedBy xs d → ⊥
too_many xs more (Problem one) (inl (is, way)) = absurd (omega (arith, more, ap length is))
too_many xs more (Problem one) (inr (none, input)) = absurd (omega (arith, more, ap length none))
too_many xs more (Pair first second) (inl is) = absurd (omega (arith, more, ap length is))
too_many xs more (Pair first second) (inr (is, ways)) = absurd (omega (arith, more, ap length is))

abbrev names : List Placed → List Named
names placed = map (λ (p : Placed). named p.given) placed

pub too_many_placed : (placed : List Placed) → 2 < length placed → AreNone (names placed)
too_many_placed placed more = too_many (names placed) (omega (arith, more, length-map placed (λ (p : Placed). named p.given)))

-- a single one among those with their places
pub one_placed : (placed : List Placed) (none : Placed) (found : Option Diagrams) → 1 ≤ length placed → length placed < 2
    → FindsNamed (named (get_or placed 0 none).given ∷ []) found → FindsNamed (names placed) found
one_placed [] none found least most finds = absurd (omega (arith, least))
one_placed (one ∷ []) none found least most finds = finds
one_placed (one ∷ other ∷ placed) none found least most finds = absurd (omega (arith, most))

-- what three arguments give, one behind the other
pub in_turn : (none placed : List Placed) (second third : List Placed) (files braids drawn : List Named) → none ≡ []
    → names placed ≡ names none ++ files → names second ≡ names placed ++ braids → names third ≡ names second ++ drawn
    → names third ≡ files ++ braids ++ drawn
in_turn none placed second third files braids drawn empty one two three =
    let first = one ∙ ap (λ (ps : List Placed). names ps ++ files) empty in
    three ∙ ap (λ (xs : List Named). xs ++ drawn) (two ∙ ap (λ (xs : List Named). xs ++ braids) first)
