-- No quandle that separates two diagrams is lost among the candidates.
use Rattle.std.proofs.Common.{rules, ◌≡◌, ◌≢◌, ◌∙◌, ◌==◌, ◌&&◌, ◌⊎◌, ℕ, not, refl, ap, sym, subst, inl, inr, Bool, true, false, cond, List, [], ◌∷◌, ◌++◌}
use Rattle.std.proofs.Common.{Option, Some, None, Ok, length, slice_index_or, All}
use Rattle.std.specs.List.{find, filter, AllByRecursion, Contains, cons_option}
use Rattle.std.specs.Option.{option_or}
use Rattle.std.proofs.lemmas.Bool.{and_parts, and_cases, and_left, and_from, or_cases, or_parts, not-true, not-false, both_ways, eqb-true, eq-eqb}
use Rattle.std.proofs.lemmas.List.Folds.{find-append}
use Rattle.std.proofs.lemmas.List.Elements.{All-from_recursion, recursion_from_All, All-append, All-filter, All-weaker, All-contains_itself, filter_passes}
use Rattle.grid_core.specs.Diagram.{Diagram}
use Rattle.quandle_core.specs.Quandle.{Table}
use Rattle.colour_list.specs.Fits.{fits}
use Rattle.colour_list.specs.Listing.{colourings}
use Rattle.quandle_core.specs.declared.names.QuandleName.{QuandleName}
use Rattle.quandle_core.specs.declared.names.QuandleName.TheVariants as name
use Rattle.verdict_core.specs.declared.problem.ProblemText.{ProblemText}
use Rattle.verdict_core.specs.Diagrams.{grid_of}
use Rattle.quandle_core.specs.Names.{NamedQuandle, Names, quandle_named}
use Rattle.quandle_core.proofs.Named.{IsNamedSo, named_so}
use Rattle.knot_text.specs.Printed.{HasQuandleText}
use Rattle.verdict_text.specs.Problems.{problem_of}
use Rattle.pair_verdict.specs.Separates.{separates, first_separating}
use Rattle.seek_core.specs.Candidates.{fits_diagrams, same_name, is_named, fitting, IsUnlisted, candidate_quandles}
use Rattle.seek_core.specs.Formulas.{quandles_named, formula_names, formula_quandles}
use Rattle.seek_core.specs.declared.answer.Tried.{Tried}
use Rattle.seek_core.specs.Answers.{QuandlesTriedInVain}

-- ---- the first of those that a filter keeps

-- what is not kept does not pass
abbrev Loses : {X : Type 0} → (X → Bool) → (X → Bool) → X → Type 0
Loses p keep x = keep x ≡ false → p x ≡ false

kept_by : {X : Type 0} (p keep : X → Bool) (x : X) (xs : List X) (b : Bool) → keep x ≡ b → Loses p keep x → find p (filter keep xs) ≡ find p xs
    → find p (cond b (x ∷ filter keep xs) (filter keep xs)) ≡ cond (p x) (Some x) (find p xs)
kept_by p keep x xs true is loses rest = ap (λ (o : Option _). cond (p x) (Some x) o) rest
kept_by p keep x xs false is loses rest =
    rest ∙ ap (λ (t : Bool). cond t (Some x) (find p xs)) (sym (loses is))

find_kept : {X : Type 0} (p keep : X → Bool) (xs : List X) → AllByRecursion (Loses p keep) xs → find p (filter keep xs) ≡ find p xs
find_kept p keep [] loses = refl
find_kept p keep (x ∷ xs) loses = kept_by p keep x xs (keep x) refl loses.0 (find_kept p keep xs loses.1)

none_by : {X : Type 0} (p : X → Bool) (x : X) (xs : List X) (b : Bool) → p x ≡ b → cond b (Some x) (find p xs) ≡ None
    → (find p xs ≡ None → AllByRecursion (λ (y : X). p y ≡ false) xs) → AllByRecursion (λ (y : X). p y ≡ false) (x ∷ xs)
none_by p x xs true is none rest = absurd cc
none_by p x xs false is none rest = (is, rest none)

-- where none is found none passes
none_passes : {X : Type 0} (p : X → Bool) (xs : List X) → find p xs ≡ None → AllByRecursion (λ (x : X). p x ≡ false) xs
none_passes p [] none = search rules
none_passes p (x ∷ xs) none = none_by p x xs (p x) refl none (none_passes p xs)

-- ---- one name, one table

same_names : (m n : QuandleName) → same_name m n ≡ true → m ≡ n
same_names (name.Trivial n) (name.Trivial m) is = ap name.Trivial (eqb-true n m is)
same_names (name.Dihedral n) (name.Dihedral m) is = ap name.Dihedral (eqb-true n m is)
same_names name.Tetrahedral name.Tetrahedral is = refl
same_names (name.Alexander n a) (name.Alexander m b) is =
    let both = and_parts (n == m) (a == b) is in
    ap (λ k. name.Alexander k a) (eqb-true n m both.0) ∙ ap (λ k. name.Alexander m k) (eqb-true a b both.1)
same_names name.Table name.Table is = refl
same_names one other is = absurd cc

one_table : (n : QuandleName) (s t : Table) → n ≢ name.Table → Names n s → Names n t → s ≡ t
one_table (name.Trivial n) s t other one two = one.1 ∙ sym two.1
one_table (name.Dihedral n) s t other one two = one.1 ∙ sym two.1
one_table name.Tetrahedral s t other one two = one ∙ sym two
one_table (name.Alexander n a) s t other one two = one.2 ∙ sym two.2
one_table name.Table s t other one two = absurd (other refl)

-- each quandle by formula is the one that its name names
named_by : (names : List QuandleName) (n : QuandleName) (o : Option NamedQuandle) → quandle_named n ≡ o
    → AllByRecursion (λ (q : NamedQuandle). IsNamedSo q.name q) (quandles_named names)
    → AllByRecursion (λ (q : NamedQuandle). IsNamedSo q.name q) (cons_option o (quandles_named names))
named_by names n None is all = all
named_by names n (Some q) is all =
    let so = named_so n q is in
    (subst (λ (m : QuandleName). IsNamedSo m q) (sym so.1.0) so, all)

named_each : (names : List QuandleName) → AllByRecursion (λ (q : NamedQuandle). IsNamedSo q.name q) (quandles_named names)
named_each [] = search rules
named_each (n ∷ names) = named_by names n (quandle_named n) refl (named_each names)

-- ---- what is passed over does not separate

abbrev Separates : Diagram → Diagram → NamedQuandle → Bool
Separates d e q = separates d e q.table

unfit : (d e : Diagram) (q : NamedQuandle) → fits_diagrams d e q ≡ false → separates d e q.table ≡ false
unfit d e q is = and_left (fits q.table d && fits q.table e) (not (length (colourings q.table d) == length (colourings q.table e))) is

-- a quandle that is called like a listed one, of which none separates the diagrams
tried_before : (d e : Diagram) (listed : List NamedQuandle) (q : NamedQuandle) → IsNamedSo q.name q
    → AllByRecursion (λ (r : NamedQuandle). Names r.name r.table) listed → AllByRecursion (λ (r : NamedQuandle). Separates d e r ≡ false) listed
    → is_named listed q.name ≡ true → separates d e q.table ≡ false
tried_before d e [] q so names none is = absurd cc
tried_before d e (r ∷ rs) q so names none is =
    elim (or_cases (same_name r.name q.name) (is_named rs q.name) is) [
      | inl same ↦
          let one = subst (λ (n : QuandleName). Names n r.table) (same_names r.name q.name same) names.0 in
          subst (λ (t : Table). separates d e t ≡ false) (one_table q.name r.table q.table so.0 one so.1.1) none.0
      | inr later ↦ tried_before d e rs q so names.1 none.1 later
    ]

passed_over : (d e : Diagram) (listed : List NamedQuandle) (q : NamedQuandle) → IsNamedSo q.name q
    → AllByRecursion (λ (r : NamedQuandle). Names r.name r.table) listed → AllByRecursion (λ (r : NamedQuandle). Separates d e r ≡ false) listed
    → Loses (Separates d e) (λ (r : NamedQuandle). fits_diagrams d e r && not (is_named listed r.name)) q
passed_over d e listed q so names none lost =
    elim (and_cases (fits_diagrams d e q) (not (is_named listed q.name)) lost) [
      | inl wide ↦ unfit d e q wide
      | inr called ↦ tried_before d e listed q so names none (not-false (is_named listed q.name) called)
    ]

all_passed_over : (d e : Diagram) (listed qs : List NamedQuandle) → AllByRecursion (λ (q : NamedQuandle). IsNamedSo q.name q) qs
    → AllByRecursion (λ (r : NamedQuandle). Names r.name r.table) listed → AllByRecursion (λ (r : NamedQuandle). Separates d e r ≡ false) listed
    → AllByRecursion (Loses (Separates d e) (λ (r : NamedQuandle). fits_diagrams d e r && not (is_named listed r.name))) qs
all_passed_over d e listed [] so names none = search rules
all_passed_over d e listed (q ∷ qs) so names none =
    (passed_over d e listed q so.0 names none, all_passed_over d e listed qs so.1 names none)

unfit_passed_over : (d e : Diagram) (q : NamedQuandle) → Loses (Separates d e) (λ (r : NamedQuandle). fits_diagrams d e r && not (is_named [] r.name)) q
unfit_passed_over d e q lost =
    elim (and_cases (fits_diagrams d e q) true lost) [
      | inl wide ↦ unfit d e q wide
      | inr wrong ↦ absurd (let no : true ≡ false = wrong in cc)
    ]

all_unfit_passed_over : (d e : Diagram) (qs : List NamedQuandle)
    → AllByRecursion (Loses (Separates d e) (λ (r : NamedQuandle). fits_diagrams d e r && not (is_named [] r.name))) qs
all_unfit_passed_over d e [] = search rules
all_unfit_passed_over d e (q ∷ qs) = (unfit_passed_over d e q, all_unfit_passed_over d e qs)

-- ---- so the first is the same

first_listed : (d e : Diagram) (listed : List NamedQuandle) → first_separating d e (fitting d e [] listed) ≡ first_separating d e listed
first_listed d e listed = find_kept (Separates d e) (λ (r : NamedQuandle). fits_diagrams d e r && not (is_named [] r.name)) listed
    (all_unfit_passed_over d e listed)

first_by_formula : (d e : Diagram) (listed : List NamedQuandle) → AllByRecursion (λ (r : NamedQuandle). Names r.name r.table) listed
    → first_separating d e listed ≡ None → first_separating d e (fitting d e listed formula_quandles) ≡ first_separating d e formula_quandles
first_by_formula d e listed names none =
    find_kept (Separates d e) (λ (r : NamedQuandle). fits_diagrams d e r && not (is_named listed r.name)) formula_quandles
    (all_passed_over d e listed formula_quandles (named_each formula_names) names (none_passes (Separates d e) listed none))

first_both : (d e : Diagram) (listed : List NamedQuandle) (o : Option NamedQuandle) → first_separating d e listed ≡ o
    → AllByRecursion (λ (r : NamedQuandle). Names r.name r.table) listed
    → option_or o (first_separating d e (fitting d e listed formula_quandles)) ≡ option_or o (first_separating d e formula_quandles)
first_both d e listed (Some q) is names = refl
first_both d e listed None is names = first_by_formula d e listed names is

pub first_of_all : (d e : Diagram) (listed : List NamedQuandle) → All (λ (q : NamedQuandle). Names q.name q.table) listed
    → first_separating d e (candidate_quandles d e listed) ≡ first_separating d e (listed ++ formula_quandles)
first_of_all d e listed names =
    find-append (Separates d e) (fitting d e [] listed) (fitting d e listed formula_quandles)
    ∙ ap (λ (o : Option NamedQuandle). option_or o (first_separating d e (fitting d e listed formula_quandles))) (first_listed d e listed)
    ∙ first_both d e listed (first_separating d e listed) refl (recursion_from_All (λ (q : NamedQuandle). Names q.name q.table) listed names)
    ∙ sym (find-append (Separates d e) listed formula_quandles)

-- ---- where none separates

none_of_front : (o p : Option NamedQuandle) → option_or o p ≡ None → o ≡ None
none_of_front None p none = refl
none_of_front (Some q) p none = absurd cc

none_of_back : (o p : Option NamedQuandle) → option_or o p ≡ None → p ≡ None
none_of_back None p none = none
none_of_back (Some q) p none = absurd cc

none_separates : (d e : Diagram) (qs : List NamedQuandle) → first_separating d e qs ≡ None → All (λ (q : NamedQuandle). separates d e q.table ≡ false) qs
none_separates d e qs none = All-from_recursion (λ (q : NamedQuandle). separates d e q.table ≡ false) qs (none_passes (Separates d e) qs none)

pub none_listed : (d e : Diagram) (listed : List NamedQuandle) → first_separating d e (candidate_quandles d e listed) ≡ None
    → All (λ (q : NamedQuandle). separates d e q.table ≡ false) listed
none_listed d e listed none =
    let parts = sym (find-append (Separates d e) (fitting d e [] listed) (fitting d e listed formula_quandles)) ∙ none in
    let front = none_of_front (first_separating d e (fitting d e [] listed)) (first_separating d e (fitting d e listed formula_quandles)) parts in
    none_separates d e listed (sym (first_listed d e listed) ∙ front)

pub none_by_formula : (d e : Diagram) (listed : List NamedQuandle) → All (λ (q : NamedQuandle). Names q.name q.table) listed
    → first_separating d e (candidate_quandles d e listed) ≡ None → All (λ (q : NamedQuandle). separates d e q.table ≡ false) formula_quandles
none_by_formula d e listed names none =
    let parts = sym (find-append (Separates d e) listed formula_quandles) ∙ sym (first_of_all d e listed names) ∙ none in
    none_separates d e formula_quandles (none_of_back (first_separating d e listed) (first_separating d e formula_quandles) parts)

-- the diagrams of a problem
pub none_of_problem : (bytes : List ℕ) (tried : Tried) (p : ProblemText) → QuandlesTriedInVain bytes tried → problem_of bytes ≡ Ok p
    → first_separating (grid_of p.first) (grid_of p.second) (candidate_quandles (grid_of p.first) (grid_of p.second) p.quandles) ≡ None
none_of_problem bytes tried p was read =
    let same : was.problem ≡ p = let e = sym was.read ∙ read in cc in
    subst (λ (r : ProblemText). first_separating (grid_of r.first) (grid_of r.second) (candidate_quandles (grid_of r.first) (grid_of r.second) r.quandles)
    ≡ None) same
    (sym (ap (first_separating (grid_of was.problem.first) (grid_of was.problem.second)) was.quandles) ∙ was.in_vain)

pub names_of : (qs : List NamedQuandle) → AllByRecursion HasQuandleText qs → All (λ (q : NamedQuandle). Names q.name q.table) qs
names_of qs texts =
    All-weaker HasQuandleText (λ (q : NamedQuandle). Names q.name q.table) (λ q text. text.names) qs (All-from_recursion HasQuandleText qs texts)

-- ---- nothing else is tried

named_alike : (n : QuandleName) → same_name n n ≡ true
named_alike (name.Trivial n) = eq-eqb n n refl
named_alike (name.Dihedral n) = eq-eqb n n refl
named_alike name.Tetrahedral = refl
named_alike (name.Alexander n a) = and_from (n == n) (a == a) (eq-eqb n n refl) (eq-eqb a a refl)
named_alike name.Table = refl

not_so_called : (qs : List NamedQuandle) (n : QuandleName) → is_named qs n ≡ false → AllByRecursion (λ (r : NamedQuandle). r.name ≢ n) qs
not_so_called [] n is = search rules
not_so_called (r ∷ rs) n is =
    let both = or_parts (same_name r.name n) (is_named rs n) is in (
      λ same. both_ways (same_name r.name n) both.0 (subst (λ (m : QuandleName). same_name r.name m ≡ true) same (named_alike r.name)),
      not_so_called rs n both.1,
    )

abbrev Keeps : Diagram → Diagram → List NamedQuandle → NamedQuandle → Bool
Keeps d e others q = fits_diagrams d e q && not (is_named others q.name)

abbrev FitsBoth : Diagram → Diagram → NamedQuandle → Type 0
FitsBoth d e q = (fits q.table d ≡ true) × (fits q.table e ≡ true)

fit_kept : (d e : Diagram) (others : List NamedQuandle) (q : NamedQuandle) → Keeps d e others q ≡ true → FitsBoth d e q
fit_kept d e others q kept = and_parts (fits q.table d) (fits q.table e) (and_parts (fits_diagrams d e q) (not (is_named others q.name)) kept).0

fit_each : (d e : Diagram) (others qs : List NamedQuandle) → All (FitsBoth d e) (fitting d e others qs)
fit_each d e others qs =
    All-weaker (λ (q : NamedQuandle). Keeps d e others q ≡ true) (FitsBoth d e) (fit_kept d e others) (fitting d e others qs)
    (filter_passes (Keeps d e others) qs)

pub fit_both : (d e : Diagram) (listed : List NamedQuandle)
    → All (λ (q : NamedQuandle). (fits q.table d ≡ true) × (fits q.table e ≡ true)) (candidate_quandles d e listed)
fit_both d e listed =
    All-append (FitsBoth d e) (fitting d e [] listed) (fitting d e listed formula_quandles) (fit_each d e [] listed) (fit_each d e listed formula_quandles)

abbrev IsKnown : List NamedQuandle → NamedQuandle → Type 0
IsKnown listed q = Contains listed q ⊎ IsUnlisted listed q

unlisted : (d e : Diagram) (listed : List NamedQuandle) (q : NamedQuandle) → Keeps d e listed q ≡ true → All (λ (r : NamedQuandle). r.name ≢ q.name) listed
unlisted d e listed q kept =
    let free = not-true (is_named listed q.name) (and_parts (fits_diagrams d e q) (not (is_named listed q.name)) kept).1 in
    All-from_recursion (λ (r : NamedQuandle). r.name ≢ q.name) listed (not_so_called listed q.name free)

known_listed : (d e : Diagram) (listed : List NamedQuandle) → All (IsKnown listed) (fitting d e [] listed)
known_listed d e listed =
    All-weaker (Contains listed) (IsKnown listed) (λ q there. inl there) (fitting d e [] listed)
    (All-filter (Keeps d e []) (Contains listed) listed (All-contains_itself listed))

known_by_formula : (d e : Diagram) (listed : List NamedQuandle) → All (IsKnown listed) (fitting d e listed formula_quandles)
known_by_formula d e listed = λ k z below. inr (
  All-filter (Keeps d e listed) (Contains formula_quandles) formula_quandles (All-contains_itself formula_quandles) k z below,
  unlisted d e listed (slice_index_or (fitting d e listed formula_quandles) k z) (filter_passes (Keeps d e listed) formula_quandles k z below),
)

pub known : (d e : Diagram) (listed : List NamedQuandle)
    → All (λ (q : NamedQuandle). Contains listed q ⊎ IsUnlisted listed q) (candidate_quandles d e listed)
known d e listed =
    All-append (IsKnown listed) (fitting d e [] listed) (fitting d e listed formula_quandles) (known_listed d e listed) (known_by_formula d e listed)
