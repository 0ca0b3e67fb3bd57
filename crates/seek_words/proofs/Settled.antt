-- What words settle of what they ask: how often standard input is read.
use Rattle.std.proofs.Common.{◌≡◌, ◌≢◌, ◌+◌, ◌&&◌, ◌||◌, ◌∙◌, inl, inr, ℕ, Bool, true, false, List, [], ◌∷◌, Option, Some, None, cond, codes, map}
use Rattle.std.proofs.Common.{count_by, refl, sym, ap, ap₂, arith}
use Rattle.std.specs.Borrow.{Bor}
use Rattle.std.specs.Prelude.{if◌then◌else◌, unwrap_or}
use Rattle.std.specs.Str.{bytes_eq}
use Rattle.std.proofs.lemmas.List.Sums.{sum_by-cons}
use Rattle.std.proofs.lemmas.Slice.Eq.{bytes_eq-Decides}
use Rattle.clap.specs.Faults.{fault_of}
use Rattle.clap.specs.Kinds.{Kinds, IsAmong}
use Rattle.clap.specs.Simple.{matches_of}
use Rattle.clap.specs.Walk.{Row, Text}
use Rattle.clap.specs.declared.error.kind.ErrorKind.{ErrorKind}
use Rattle.seek_words.specs.declared.asked.Asked.{Asked}
use Rattle.seek_words.specs.declared.given.Given.{Given}
use Rattle.seek_words.specs.declared.given.Given.TheVariants.{File, Braid, Code}
use Rattle.seek_words.specs.declared.given.Diagrams.{Diagrams}
use Rattle.seek_words.specs.declared.given.Diagrams.TheVariants.{Problem, Pair}
use Rattle.seek_words.specs.Words.{Named, named, seek_app, AreNamedBy, AreWeightsBy, AsksBy, AsksOfSeek, AsksNothingOfSeek}
use Rattle.seek_words.specs.Words.{is_input, is_input_given, diagram_inputs, inputs_read}

-- ---- diagrams

abbrev is_input_named : Named → Bool
is_input_named n = (bytes_eq n.way (codes "FILE") || bytes_eq n.way (codes "pd")) && is_input n.text

given_named : (g : Given) → is_input_given g ≡ is_input_named (named g)
given_named (File path) = refl
given_named (Braid word) = refl
given_named (Code path) = refl

abbrev as_number : Bool → ℕ
as_number b = if b then 1 else 0

-- how often standard input is read for diagrams that are named so: once where there is none
abbrev named_inputs : List Named → ℕ
named_inputs [] = 1
named_inputs (n ∷ []) = as_number (is_input_named n)
named_inputs (n ∷ m ∷ ns) = as_number (is_input_named n) + as_number (is_input_named m)

swapped : (a b : ℕ) → a + b ≡ b + a
swapped a b = omega arith

diagrams_settled : (all : List Named) (d : Diagrams) → AreNamedBy all d → diagram_inputs d ≡ named_inputs all
diagrams_settled all (Problem one) (inl (is, way)) = ap as_number (given_named one) ∙ ap named_inputs (sym is)
diagrams_settled all (Problem one) (inr (none, input)) = ap as_number (given_named one ∙ ap is_input_named input) ∙ ap named_inputs (sym none)
diagrams_settled all (Pair first second) (inl is) =
    ap₂ (λ a b. as_number a + as_number b) (given_named first) (given_named second) ∙ ap named_inputs (sym is)
diagrams_settled all (Pair first second) (inr (is, ways)) =
    ap₂ (λ a b. as_number a + as_number b) (given_named first) (given_named second)
    ∙ swapped (as_number (is_input_named (named first))) (as_number (is_input_named (named second))) ∙ ap named_inputs (sym is)

-- ---- lists of files

counted : (xs : List (Bor (List ℕ))) → count_by (λ (s : Bor (List ℕ)). is_input s.now) xs ≡ count_by is_input (map (λ (s : Bor (List ℕ)). s.now) xs)
counted [] = refl
counted (s ∷ xs) =
    sum_by-cons (λ (y : Bor (List ℕ)). cond (is_input y.now) 1 0) s xs ∙ ap (λ n. cond (is_input s.now) 1 0 + n) (counted xs)
    ∙ sym (sum_by-cons (λ (y : List ℕ). cond (is_input y) 1 0) s.now (map (λ (s : Bor (List ℕ)). s.now) xs))

-- the files are the same where the same option decides
weights_settled : (none : Option Text) (given a b : List Text) → AreWeightsBy none given a → AreWeightsBy none given b → a ≡ b
weights_settled None given a b x y =
    let other : None ≢ Some (codes "true") = λ is. cc in
    x.kept other ∙ sym (y.kept other)
weights_settled (Some text) given a b x y = by (bytes_eq text (codes "true")) refl
  where
    by : (test : Bool) → bytes_eq text (codes "true") ≡ test → a ≡ b
    by true is =
        let same = ap Some ((bytes_eq-Decides text (codes "true")).0 is) in
        x.dropped same ∙ sym (y.dropped same)
    by false is =
        let other : Some text ≢ Some (codes "true") = λ same.
        let yes = (bytes_eq-Decides text (codes "true")).1 (ap (λ o. unwrap_or o text) same) in
        cc
        in
        x.kept other ∙ sym (y.kept other)

-- ---- what is asked

inputs_settled : (rows : List Row) (a b : Asked) → AsksBy rows a → AsksBy rows b → inputs_read a ≡ inputs_read b
inputs_settled rows a b x y =
    let diagrams = diagrams_settled _ a.diagrams x.diagrams ∙ sym (diagrams_settled _ b.diagrams y.diagrams) in
    let quandles = counted a.quandles.items ∙ ap (count_by is_input) (x.quandles ∙ sym y.quandles) ∙ sym (counted b.quandles.items) in
    let weights = counted a.weights.items ∙ ap (count_by is_input) (weights_settled _ _ _ _ x.weights y.weights) ∙ sym (counted b.weights.items) in
    ap₂ (λ (m n : ℕ). m + n) diagrams (ap₂ (λ (m n : ℕ). m + n) quandles weights)

among_none : (k : ErrorKind) (kinds : Kinds) → kinds ≡ [] → IsAmong k kinds → ⊥
among_none k [] none among = among
among_none k (x ∷ kinds) none among = cc

pub never_both : (words : List Text) (asked : Asked) → AsksOfSeek words asked → AsksNothingOfSeek words → ⊥
never_both words asked asks (inl (k, (among, other))) = among_none k (fault_of seek_app words) asks.taken among
never_both words asked asks (inr (taken, inl none)) = none asked.diagrams asks.by.diagrams
never_both words asked asks (inr (taken, inr (inl none))) = none _ _ _ _ asks.by.numbers
never_both words asked asks (inr (taken, inr (inr twice))) =
    let same = inputs_settled (matches_of seek_app words) twice.asked asked twice.asks asks.by in
    absurd (omega (arith, twice.twice, asks.once, same))
