-- Steps of the loops that follow strands.
use Rattle.std.proofs.Common.{◌≡◌, ◌≢◌, ◌<◌, ◌≤◌, ◌+◌, ◌-◌, ◌++◌, ◌∙◌, ◌∷◌, [], ℕ, suc, Bool, true, false, cond, List, map, reverse, refl, sym, ap, arith}
use Rattle.std.specs.Prelude.{if◌then◌else◌}
use Rattle.std.specs.List.{range_with_len, filter}
use Rattle.std.proofs.lemmas.List.{append-nil, append_assoc, map-append}
use Rattle.std.proofs.lemmas.List.Elements.{filter-append}
use Rattle.std.proofs.lemmas.List.FromFn.{map-range_with_len_more}
use Rattle.grid_core.specs.Diagram.{Diagram, IsGrid, size}
use Rattle.grid_core.specs.declared.span.Span.{Span}
use Rattle.colour_rows.proofs.Ranges.{range_longer}
use Rattle.crossing_codes.specs.Passages.{as_met}
use Rattle.crossing_codes.specs.Layout.{met_at}
use Rattle.crossing_codes.proofs.Crossings.{between}
use Rattle.crossing_codes.proofs.Members.{reverse_cons}
use Rattle.crossing_codes.specs.Components.{next_column, column_after, round_length, component}
use Rattle.crossing_codes.proofs.ColumnsAfter.{round_is}
use Rattle.crossing_codes.proofs.Strands.{same_round}

-- the first n columns of the strand through c
abbrev pub walked : Diagram → ℕ → ℕ → List ℕ
walked d c n = map (λ k. column_after d k c) (range_with_len 0 n)

pub walked_more : (d : Diagram) (c n : ℕ) (columns longer : List ℕ) (column : ℕ) → columns ≡ walked d c n → column ≡ column_after d n c
    → longer ≡ columns ++ column ∷ [] → longer ≡ walked d c (n + 1)
walked_more d c n columns longer column so_far is more =
    more ∙ (ap (λ (cs : List ℕ). cs ++ column ∷ []) so_far
    ∙ (ap (λ (k : ℕ). walked d c n ++ k ∷ []) is ∙ sym (map-range_with_len_more (λ k. column_after d k c) 0 n n (omega arith))))

-- the strand is back for the first time
pub walked_round : (d : Diagram) (c n : ℕ) → IsGrid d → c < size d → n < size d → column_after d (n + 1) c ≡ c
    → ((k : ℕ) → k < n → column_after d (k + 1) c ≢ c) → walked d c (n + 1) ≡ component d c
walked_round d c n grid lt less back away =
    ap (walked d c)
    (same_round d c (n + 1) (round_length d c) (record { some = omega arith; most = omega arith; back = back; first = λ k most. away k (omega arith) })
    (round_is d grid c lt))

-- it is back at the latest after all columns
pub is_back_by : (d : Diagram) (c n : ℕ) → IsGrid d → c < size d → size d ≤ n → ((k : ℕ) → k < n → column_after d (k + 1) c ≢ c) → ⊥
is_back_by d c n grid lt most away =
    let round = round_is d grid c lt in
    let some = round.some in
    let fits = round.most in
    let whole : round_length d c - 1 + 1 ≡ round_length d c = omega arith in
    away (round_length d c - 1) (omega arith) (ap (λ k. column_after d k c) whole ∙ round.back)

pub after_more : (d : Diagram) (c n column next : ℕ) → column ≡ column_after d n c → next ≡ next_column d column → next ≡ column_after d (n + 1) c
after_more d c n column next is e = let one : suc n ≡ n + 1 = omega arith in e ∙ (ap (next_column d) is ∙ ap (λ k. column_after d k c) one)

-- the numbers that pass a test among the first so many within an interval, on the way up or on the way down
abbrev pub met : Bool → (ℕ → Bool) → Span → ℕ → List ℕ
met forward p s done = if forward then filter p (range_with_len (s.low + 1) done) else reverse (filter p (range_with_len (s.high - done) done))

pub met_none : (forward : Bool) (p : ℕ → Bool) (s : Span) → met forward p s 0 ≡ []
met_none true p s = refl
met_none false p s = refl

reverse_by : (b : Bool) (x : ℕ) (xs : List ℕ) → reverse (cond b (x ∷ xs) xs) ≡ reverse xs ++ cond b (x ∷ []) []
reverse_by true x xs = reverse_cons x xs
reverse_by false x xs = sym (append-nil (reverse xs))

pub met_more : (forward : Bool) (p : ℕ → Bool) (s : Span) (done : ℕ) → s.low + done + 1 < s.high
    → met forward p s (done + 1) ≡ met forward p s done ++ cond (p (met_at forward s done)) (met_at forward s done ∷ []) []
met_more true p s done lt = ap (filter p) (range_longer (s.low + 1) done) ∙ filter-append p (range_with_len (s.low + 1) done) ((s.low + 1 + done) ∷ [])
met_more false p s done lt =
    let first : s.high - (done + 1) ≡ s.high - 1 - done = omega arith in
    let rest : s.high - 1 - done + 1 ≡ s.high - done = omega arith in
    let one : done + 1 ≡ suc done = omega arith in
    let range : range_with_len (s.high - (done + 1)) (done + 1) ≡ (s.high - 1 - done) ∷ range_with_len (s.high - done) done =
    ap (λ (a : ℕ). range_with_len a (done + 1)) first
    ∙ (ap (range_with_len (s.high - 1 - done)) one ∙ ap (λ (a : ℕ). (s.high - 1 - done) ∷ range_with_len a done) rest) in
    ap (λ (xs : List ℕ). reverse (filter p xs)) range ∙ reverse_by (p (s.high - 1 - done)) (s.high - 1 - done) (filter p (range_with_len (s.high - done) done))

pub met_all : (forward : Bool) (p : ℕ → Bool) (s : Span) (done : ℕ) → s.low < s.high → done ≡ s.high - s.low - 1
    → met forward p s done ≡ as_met forward (between p s)
met_all true p s done lt e = ap (λ (n : ℕ). filter p (range_with_len (s.low + 1) n)) e
met_all false p s done lt e =
    let first : s.high - done ≡ s.low + 1 = omega arith in
    ap (λ (a : ℕ). reverse (filter p (range_with_len a done))) first ∙ ap (λ (n : ℕ). reverse (filter p (range_with_len (s.low + 1) n))) e

-- one more that passes, and one that does not
pub met_yes : {A : Type 0} (make : ℕ → A) (forward : Bool) (p : ℕ → Bool) (s : Span) (done x : ℕ) (before out longer : List A)
    → s.low + done + 1 < s.high → x ≡ met_at forward s done → p x ≡ true
    → out ≡ before ++ map make (met forward p s done) → longer ≡ out ++ make x ∷ [] → longer ≡ before ++ map make (met forward p s (done + 1))
met_yes make forward p s done x before out longer lt is e so_far more =
    let next : met forward p s (done + 1) ≡ met forward p s done ++ x ∷ [] =
    met_more forward p s done lt
    ∙ (ap (λ (y : ℕ). met forward p s done ++ cond (p y) (y ∷ []) []) (sym is) ∙ ap (λ b. met forward p s done ++ cond b (x ∷ []) []) e) in
    more ∙ (ap (λ zs. zs ++ make x ∷ []) so_far
    ∙ (append_assoc before (map make (met forward p s done)) (make x ∷ [])
    ∙ ap (λ zs. before ++ zs) (sym (map-append make (met forward p s done) (x ∷ [])) ∙ ap (map make) (sym next))))

pub met_no : {A : Type 0} (make : ℕ → A) (forward : Bool) (p : ℕ → Bool) (s : Span) (done x : ℕ) (before out : List A) → s.low + done + 1 < s.high
    → x ≡ met_at forward s done → p x ≡ false
    → out ≡ before ++ map make (met forward p s done) → out ≡ before ++ map make (met forward p s (done + 1))
met_no make forward p s done x before out lt is e so_far =
    let next : met forward p s (done + 1) ≡ met forward p s done =
    met_more forward p s done lt
    ∙ (ap (λ (y : ℕ). met forward p s done ++ cond (p y) (y ∷ []) []) (sym is)
    ∙ (ap (λ b. met forward p s done ++ cond b (x ∷ []) []) e ∙ append-nil (met forward p s done))) in
    so_far ∙ ap (λ zs. before ++ map make zs) (sym next)

-- none, and all, from left to right
pub met_begins : {A : Type 0} (make : ℕ → A) (p : ℕ → Bool) (s : Span) (n : ℕ) (before : List A) → n ≡ 0 → before ≡ before ++ map make (met true p s n)
met_begins make p s n before none = sym (ap (λ (k : ℕ). before ++ map make (met true p s k)) none ∙ append-nil before)

pub met_ends : {A : Type 0} (make : ℕ → A) (p : ℕ → Bool) (s : Span) (n : ℕ) (before out : List A) → s.low < s.high → n ≡ s.high - s.low - 1
    → out ≡ before ++ map make (met true p s n) → out ≡ before ++ map make (between p s)
met_ends make p s n before out lt all so_far = so_far ∙ ap (λ (xs : List ℕ). before ++ map make xs) (met_all true p s n lt all)
