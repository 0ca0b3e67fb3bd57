-- The first quandle that separates two diagrams.
use Rattle.std.proofs.Common.{rules, ◌≡◌, ◌≢◌, ◌∙◌, ap, sym, refl, subst, ℕ, ◌+◌, ◌<◌, List, [], ◌∷◌, Bool, true, false, cond, not, ◌&&◌, ◌==◌, Option, Some}
use Rattle.std.proofs.Common.{None, length, take, drop, get_or}
use Rattle.std.specs.List.{find}
use Rattle.std.specs.Option.{is_some, option_or}
use Rattle.std.proofs.lemmas.List.Folds.{find-append}
use Rattle.std.proofs.lemmas.List.{take-append-drop, take_more, drop_more}
use Rattle.grid_core.specs.Diagram.{Diagram}
use Rattle.colour_list.specs.Fits.{fits}
use Rattle.colour_list.specs.Listing.{colourings}
use Rattle.verdict_core.specs.Evidence.{VerdictHolds, IsTidyVerdict}
use Rattle.quandle_core.specs.Names.{NamedQuandle}
use Rattle.verdict_core.specs.declared.verdict.Verdict.{Verdict}
use Rattle.pair_verdict.specs.Separates.{separates, first_separating, IsDifferentBy, IsSeparation}

-- ---- finding

find_by : {X : Type 0} (p : X → Bool) (y x : X) (t : Bool) (rest : Option X) → p y ≡ t → cond t (Some y) rest ≡ Some x → (rest ≡ Some x → p x ≡ true)
    → p x ≡ true
find_by p y x true rest e is more = let same : y ≡ x = cc in subst (λ z. p z ≡ true) same e
find_by p y x false rest e is more = more is

-- what is found passes
pub find_passes : {X : Type 0} (p : X → Bool) (xs : List X) (x : X) → find p xs ≡ Some x → p x ≡ true
find_passes p [] x is = cc
find_passes p (y ∷ ys) x is = find_by p y x (p y) (find p ys) refl is (find_passes p ys x)

-- what passes behind a front in which nothing does is found
find_here : {X : Type 0} (p : X → Bool) (xs : List X) (i : ℕ) (d : X) → i < length xs → find p (take i xs) ≡ None → p (get_or xs i d) ≡ true
    → find p xs ≡ Some (get_or xs i d)
find_here p xs i d lt none passes =
    ap (find p) (sym (take-append-drop i xs))
    ∙ find-append p (take i xs) (drop i xs)
    ∙ ap (λ o. option_or o (find p (drop i xs))) none
    ∙ ap (find p) (drop_more xs i d lt)
    ∙ ap (λ (t : Bool). cond t (Some (get_or xs i d)) (find p (drop (i + 1) xs))) passes

-- the front with one more that does not
find_past : {X : Type 0} (p : X → Bool) (xs : List X) (i : ℕ) (d : X) → i < length xs → find p (take i xs) ≡ None → p (get_or xs i d) ≡ false
    → find p (take (i + 1) xs) ≡ None
find_past p xs i d lt none fails =
    ap (find p) (take_more xs i d lt)
    ∙ find-append p (take i xs) (get_or xs i d ∷ [])
    ∙ ap (λ o. option_or o (find p (get_or xs i d ∷ []))) none
    ∙ ap (λ (t : Bool). cond t (Some (get_or xs i d)) None) fails

-- ---- the loop over the listed quandles

-- the verdict by one quandle, where the quandles before do not separate the diagrams
by_test : (d e : Diagram) (qs : List NamedQuandle) (i : ℕ) (z : NamedQuandle) (o : Option Verdict) (t : Bool) → separates d e (get_or qs i z).table ≡ t
    → i < length qs → first_separating d e (take i qs) ≡ None → IsSeparation d e (cond t (Some (get_or qs i z)) None) o → is_some o ≡ true
    → IsSeparation d e (first_separating d e qs) o
by_test d e qs i z o true is lt none verdict some =
    subst (λ (found : Option NamedQuandle). IsSeparation d e found o) (sym (find_here (λ (q : NamedQuandle). separates d e q.table) qs i z lt none is)) verdict
by_test d e qs i z None false is lt none verdict some = absurd (let wrong : false ≡ true = some in cc)
by_test d e qs i z (Some v) false is lt none verdict some = absurd verdict

pub told : (d e : Diagram) (qs : List NamedQuandle) (i : ℕ) (z : NamedQuandle) (o : Option Verdict) → i < length qs → first_separating d e (take i qs) ≡ None
    → get_or qs i z ≡ z → IsSeparation d e (cond (separates d e z.table) (Some z) None) o → is_some o ≡ true → IsSeparation d e (first_separating d e qs) o
told d e qs i z o lt none is verdict some = by_test d e qs i z o (separates d e (get_or qs i z).table) refl lt none
    (subst (λ (q : NamedQuandle). IsSeparation d e (cond (separates d e q.table) (Some q) None) o) (sym is) verdict) some

none_by_test : (d e : Diagram) (qs : List NamedQuandle) (i : ℕ) (z : NamedQuandle) (o : Option Verdict) (t : Bool) → separates d e (get_or qs i z).table ≡ t
    → i < length qs → first_separating d e (take i qs) ≡ None → IsSeparation d e (cond t (Some (get_or qs i z)) None) o → is_some o ≡ false
    → first_separating d e (take (i + 1) qs) ≡ None
none_by_test d e qs i z o false is lt none verdict fails = find_past (λ (q : NamedQuandle). separates d e q.table) qs i z lt none is
none_by_test d e qs i z None true is lt none verdict fails = absurd verdict
none_by_test d e qs i z (Some v) true is lt none verdict fails = absurd (let wrong : true ≡ false = fails in cc)

pub not_told : (d e : Diagram) (qs : List NamedQuandle) (i : ℕ) (z : NamedQuandle) (o : Option Verdict) → i < length qs
    → first_separating d e (take i qs) ≡ None → get_or qs i z ≡ z → IsSeparation d e (cond (separates d e z.table) (Some z) None) o → is_some o ≡ false
    → first_separating d e (take (i + 1) qs) ≡ None
not_told d e qs i z o lt none is verdict fails = none_by_test d e qs i z o (separates d e (get_or qs i z).table) refl lt none
    (subst (λ (q : NamedQuandle). IsSeparation d e (cond (separates d e q.table) (Some q) None) o) (sym is) verdict) fails

-- ---- what a separating quandle is worth

both : (a b : Bool) → a && b ≡ true → (a ≡ true) × (b ≡ true)
both true true is = (refl, refl)
both true false is = absurd (let wrong : false ≡ true = is in cc)
both false b is = absurd (let wrong : false ≡ true = is in cc)

differ : (m n : ℕ) → not (m == n) ≡ true → m ≢ n
differ m n is same = absurd (let wrong : not (n == n) ≡ true = subst (λ k. not (k == n) ≡ true) same is in let right : n == n ≡ true = search rules in cc)

-- it tells the diagrams apart by their complete lists
pub holds_by : (d e : Diagram) (q : NamedQuandle) (v : Verdict) → separates d e q.table ≡ true → IsDifferentBy d e q v → VerdictHolds d e v
holds_by d e q v is lists =
    let parts = both (fits q.table d && fits q.table e) (not (length (colourings q.table d) == length (colourings q.table e))) is in
    let fit = both (fits q.table d) (fits q.table e) parts.0 in
    subst (VerdictHolds d e) (sym lists.verdict) (record {
      fits_first = fit.0;
      fits_second = fit.1;
      first = lists.of_first;
      second = lists.of_second;
      differ = λ same. differ (length (colourings q.table d)) (length (colourings q.table e)) parts.1
          (ap length (sym lists.of_first) ∙ same ∙ ap length lists.of_second);
    })

-- ---- what was found

by_found : (d e : Diagram) (qs : List NamedQuandle) (o : Option NamedQuandle) (v : Verdict) → first_separating d e qs ≡ o → IsSeparation d e o (Some v)
    → VerdictHolds d e v
by_found d e qs (Some q) v is lists = holds_by d e q v (find_passes (λ (r : NamedQuandle). separates d e r.table) qs q is) lists
by_found d e qs None v is lists = absurd lists

pub told_holds : (d e : Diagram) (qs : List NamedQuandle) (v : Verdict) → IsSeparation d e (first_separating d e qs) (Some v) → VerdictHolds d e v
told_holds d e qs v lists = by_found d e qs (first_separating d e qs) v refl lists

-- it has no moves
tidy_by : (d e : Diagram) (o : Option NamedQuandle) (v : Verdict) → IsSeparation d e o (Some v) → IsTidyVerdict v
tidy_by d e (Some q) v lists = subst (λ (w : Verdict). IsTidyVerdict w) (sym lists.verdict) tt
tidy_by d e None v lists = absurd lists

pub told_tidy : (d e : Diagram) (qs : List NamedQuandle) (v : Verdict) → IsSeparation d e (first_separating d e qs) (Some v) → IsTidyVerdict v
told_tidy d e qs v lists = tidy_by d e (first_separating d e qs) v lists

none_by : (d e : Diagram) (o : Option NamedQuandle) → IsSeparation d e o None → o ≡ None
none_by d e None lists = refl
none_by d e (Some q) lists = absurd lists

pub none_told : (d e : Diagram) (qs : List NamedQuandle) → IsSeparation d e (first_separating d e qs) None → first_separating d e qs ≡ None
none_told d e qs lists = none_by d e (first_separating d e qs) lists
