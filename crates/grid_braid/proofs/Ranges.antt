-- Neighbouring numbers: parts of their list, filters and folds over it.
use Rattle.std.proofs.Common.{◌≡◌, ◌<◌, ◌≤◌, ◌+◌, ◌-◌, ◌∷◌, ◌++◌, ◌∙◌, [], ℕ, zero, suc, List, length, Bool, true, false, cond, All, map}
use Rattle.std.proofs.Common.{filter, reverse, arith, sym, refl, ap, ap₂, inl, inr}
use Rattle.std.specs.List.{range_with_len}
use Rattle.std.proofs.lemmas.List.Elements.{filter-append, All-nil, All-cons, All-same, All-append, All-head, All-tail}
use Rattle.std.proofs.lemmas.List.{reverse-append}
use Rattle.std.proofs.lemmas.Bool.{cases_eq}
use Rattle.colour_rows.proofs.Ranges.{range_append}

-- two tests that agree on neighbouring numbers
pub filter_range : (p q : ℕ → Bool) (a n : ℕ) → ((c : ℕ) → a ≤ c → c < a + n → p c ≡ q c) → filter p (range_with_len a n) ≡ filter q (range_with_len a n)
filter_range p q a zero agree = refl
filter_range p q a (suc n) agree =
    ap₂ (λ (b : Bool) (zs : List ℕ). cond b (a ∷ zs) zs) (agree a (omega arith) (omega arith))
    (filter_range p q (a + 1) n (λ c from to. agree c (omega arith) (omega arith)))

-- a test of one number
pub filter_one : (p : ℕ → Bool) (a : ℕ) (b : Bool) → p a ≡ b → filter p (range_with_len a 1) ≡ cond b (a ∷ []) []
filter_one p a b e = ap (λ (s : Bool). cond s (a ∷ []) []) e

-- two functions that agree where the test passes
pub map_range : (p : ℕ → Bool) (f g : ℕ → ℕ) (a n : ℕ) → ((c : ℕ) → a ≤ c → c < a + n → p c ≡ true → f c ≡ g c)
    → map f (filter p (range_with_len a n)) ≡ map g (filter p (range_with_len a n))
map_range p f g a zero agree = refl
map_range p f g a (suc n) agree = by_test (p a) refl (map_range p f g (a + 1) n (λ c from to. agree c (omega arith) (omega arith)))
  where
    by_test : (b : Bool) → p a ≡ b → map f (filter p (range_with_len (a + 1) n)) ≡ map g (filter p (range_with_len (a + 1) n))
        → map f (cond (p a) (a ∷ filter p (range_with_len (a + 1) n)) (filter p (range_with_len (a + 1) n)))
        ≡ map g (cond (p a) (a ∷ filter p (range_with_len (a + 1) n)) (filter p (range_with_len (a + 1) n)))
    by_test true e rest =
        let later = filter p (range_with_len (a + 1) n) in
        ap (λ (s : Bool). map f (cond s (a ∷ later) later)) e
        ∙ (ap₂ (λ (x : ℕ) (zs : List ℕ). x ∷ zs) (agree a (omega arith) (omega arith) e) rest
        ∙ sym (ap (λ (s : Bool). map g (cond s (a ∷ later) later)) e))
    by_test false e rest =
        let later = filter p (range_with_len (a + 1) n) in
        ap (λ (s : Bool). map f (cond s (a ∷ later) later)) e ∙ (rest ∙ sym (ap (λ (s : Bool). map g (cond s (a ∷ later) later)) e))

-- the numbers that pass, from the first up to, but without, the second
abbrev pub passing : (ℕ → Bool) → ℕ → ℕ → List ℕ
passing p from to = filter p (range_with_len from (to - from))

pub passing_all : (p : ℕ → Bool) (n : ℕ) → passing p 0 n ≡ filter p (range_with_len 0 n)
passing_all p n = ap (λ (k : ℕ). filter p (range_with_len 0 k)) (let e : n - 0 ≡ n = omega arith in e)

pub passing_cut : (p : ℕ → Bool) (from mid to : ℕ) → from ≤ mid → mid ≤ to → passing p from to ≡ passing p from mid ++ passing p mid to
passing_cut p from mid to first last =
    ap (λ (j : ℕ). filter p (range_with_len from j)) (let e : to - from ≡ (mid - from) + (to - mid) = omega arith in e)
    ∙ (ap (filter p) (sym (range_append from (mid - from) (to - mid)))
    ∙ (filter-append p (range_with_len from (mid - from)) (range_with_len (from + (mid - from)) (to - mid))
    ∙ ap (λ (a : ℕ). passing p from mid ++ filter p (range_with_len a (to - mid))) (let e : from + (mid - from) ≡ mid = omega arith in e)))

pub passing_first : (p : ℕ → Bool) (from to : ℕ) → from < to → passing p from to ≡ cond (p from) (from ∷ []) [] ++ passing p (from + 1) to
passing_first p from to lt =
    passing_cut p from (from + 1) to (omega arith) (omega arith)
    ∙ ap (λ (j : ℕ). filter p (range_with_len from j) ++ passing p (from + 1) to) (let e : from + 1 - from ≡ 1 = omega arith in e)

-- two of the numbers apart from those before, between and behind
pub passing_parts : (p : ℕ → Bool) (lo hi n : ℕ) → lo < hi → hi < n → passing p 0 n
    ≡ passing p 0 lo ++ (cond (p lo) (lo ∷ []) [] ++ (passing p (lo + 1) hi ++ (cond (p hi) (hi ∷ []) [] ++ passing p (hi + 1) n)))
passing_parts p lo hi n ordered within =
    passing_cut p 0 lo n (omega arith) (omega arith)
    ∙ ap (λ (zs : List ℕ). passing p 0 lo ++ zs)
    (passing_first p lo n (omega arith)
    ∙ ap (λ (zs : List ℕ). cond (p lo) (lo ∷ []) [] ++ zs)
    (passing_cut p (lo + 1) hi n (omega arith) (omega arith)
    ∙ ap (λ (zs : List ℕ). passing p (lo + 1) hi ++ zs) (passing_first p hi n within)))

-- what holds of each number that passes
pub all_passing : (p : ℕ → Bool) (P : ℕ → Type 0) (f : ℕ → ℕ) (a n : ℕ) → ((c : ℕ) → a ≤ c → c < a + n → p c ≡ true → P (f c))
    → All P (map f (filter p (range_with_len a n)))
all_passing p P f a zero holds = All-nil P
all_passing p P f a (suc n) holds =
    by_test (p a) refl (filter p (range_with_len (a + 1) n)) (all_passing p P f (a + 1) n (λ c from to. holds c (omega arith) (omega arith)))
  where
    by_test : (b : Bool) → p a ≡ b → (later : List ℕ) → All P (map f later) → All P (map f (cond b (a ∷ later) later))
    by_test true e later rest = All-cons P (f a) (map f later) (holds a (omega arith) (omega arith) e) rest
    by_test false e later rest = rest

pub reversed_all : (P : ℕ → Type 0) (zs : List ℕ) → All P zs → All P (reverse zs)
reversed_all P [] all = all
reversed_all P (z ∷ zs) all =
    All-same P (reverse (z ∷ zs)) (reverse zs ++ z ∷ []) (reverse-append (z ∷ []) zs)
    (All-append P (reverse zs) (z ∷ []) (reversed_all P zs (All-tail P z zs all)) (All-cons P z [] (All-head P z zs all) (All-nil P)))

-- functions that agree on all numbers that pass agree on each
pub passing_same : (p : ℕ → Bool) (f g : ℕ → ℕ) (a n : ℕ) → map f (filter p (range_with_len a n)) ≡ map g (filter p (range_with_len a n)) → (c : ℕ)
    → a ≤ c → c < a + n → p c ≡ true → f c ≡ g c
passing_same p f g a zero same c least most at = absurd (omega arith)
passing_same p f g a (suc n) same c least most at =
    by_test (p a) refl (filter p (range_with_len (a + 1) n)) same (λ less rest. passing_same p f g (a + 1) n rest c (omega arith) (omega arith) at)
  where
    heads : (x y : ℕ) (xs ys : List ℕ) → x ∷ xs ≡ y ∷ ys → (x ≡ y) × (xs ≡ ys)
    heads x y xs ys e = (cc, cc)

    no_pass : (b : Bool) → p a ≡ b → b ≡ false → a < c
    no_pass b e fails = elim (cases_eq c a) [
      | inl is ↦ absurd (let no : ◌≡◌ {A = Bool} true false = sym at ∙ (ap p is ∙ (e ∙ fails)) in cc)
      | inr other ↦ omega arith
    ]

    by_test : (b : Bool) → p a ≡ b → (zs : List ℕ) → map f (cond b (a ∷ zs) zs) ≡ map g (cond b (a ∷ zs) zs)
        → (a < c → map f zs ≡ map g zs → f c ≡ g c) → f c ≡ g c
    by_test true e zs same later =
        let both = heads (f a) (g a) (map f zs) (map g zs) same in
        elim (cases_eq c a) [
          | inl is ↦ ap f is ∙ (both.0 ∙ ap g (sym is))
          | inr other ↦ later (omega arith) both.1
        ]
    by_test false e zs same later = later (no_pass false e refl) same

pub passing_none : (p : ℕ → Bool) (a : ℕ) → passing p a a ≡ []
passing_none p a = ap (λ (k : ℕ). filter p (range_with_len a k)) (let e : a - a ≡ 0 = omega arith in e)

pub passing_last : (p : ℕ → Bool) (from to : ℕ) → from ≤ to → passing p from (to + 1) ≡ passing p from to ++ cond (p to) (to ∷ []) []
passing_last p from to le =
    passing_cut p from to (to + 1) le (omega arith)
    ∙ ap (λ (k : ℕ). passing p from to ++ filter p (range_with_len to k)) (let e : to + 1 - to ≡ 1 = omega arith in e)

pub filter_size : (p : ℕ → Bool) (a n : ℕ) → length (filter p (range_with_len a n)) ≤ n
filter_size p a zero = omega arith
filter_size p a (suc n) = step (p a) (filter p (range_with_len (a + 1) n)) (filter_size p (a + 1) n)
  where
    step : (b : Bool) (zs : List ℕ) → length zs ≤ n → length (cond b (a ∷ zs) zs) ≤ suc n
    step true zs le = omega arith
    step false zs le = omega arith

pub passing_size : (p : ℕ → Bool) (from to : ℕ) → length (passing p from to) ≤ to - from
passing_size p from to = filter_size p from (to - from)
