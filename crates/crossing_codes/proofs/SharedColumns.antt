-- The components share out the columns: each column is in the component of exactly one start.
use Rattle.std.proofs.Common.{◌≡◌, ◌<◌, ◌≤◌, ◌+◌, ◌-◌, ◌∙◌, ◌∷◌, [], inl, inr, ℕ, zero, suc, Bool, true, List, refl, sym, ap, subst, arith}
use Rattle.std.specs.Prelude.{nat_le}
use Rattle.std.specs.List.{range_with_len, list_all, flat_map}
use Rattle.std.proofs.lemmas.Bool.{cases_lt, leb-true, le-leb, and_parts, and_from}
use Rattle.grid_core.specs.Diagram.{Diagram, IsGrid, size}
use Rattle.crossing_codes.specs.Components.{next_column, column_after, round_length, component, is_least, component_starts}
use Rattle.crossing_codes.proofs.Members.{Has, Apart, apart_filter, apart_range, apart_flat_map, of_map, of_range, of_filter, has_map, has_range, has_filter}
use Rattle.crossing_codes.proofs.ColumnsAfter.{after_below, after_add, apart_until, round_is}

pub each_passes : {A : Type 0} (p : A → Bool) (xs : List A) → list_all p xs ≡ true → (x : A) → Has xs x → p x ≡ true
each_passes p [] e x h = absurd h
each_passes p (y ∷ xs) e x h =
    let parts = and_parts (p y) (list_all p xs) e in
    elim h [ inl same ↦ ap p (sym same) ∙ parts.0 | inr more ↦ each_passes p xs parts.1 x more ]

pub all_pass : {A : Type 0} (p : A → Bool) (xs : List A) → ((x : A) → Has xs x → p x ≡ true) → list_all p xs ≡ true
all_pass p [] each = refl
all_pass p (y ∷ xs) each = and_from (p y) (list_all p xs) (each y (inl refl)) (all_pass p xs (λ x h. each x (inr h)))

-- the k-th column of a component, and which it is
pub has_after : (d : Diagram) (c k : ℕ) → k < round_length d c → Has (component d c) (column_after d k c)
has_after d c k lt = has_map (λ i. column_after d i c) (range_with_len 0 (round_length d c)) k (has_range 0 (round_length d c) k (omega arith) (omega arith))

pub which_after : (d : Diagram) (c b : ℕ) → Has (component d c) b → (k : ℕ) × (k < round_length d c) × (column_after d k c ≡ b)
which_after d c b h =
    let r = of_map (λ i. column_after d i c) (range_with_len 0 (round_length d c)) b h in
    (r.0, let within = of_range 0 (round_length d c) r.0 r.1 in omega arith, r.2)

pub has_itself : (d : Diagram) → IsGrid d → (c : ℕ) → c < size d → Has (component d c) c
has_itself d grid c lt = has_after d c 0 (round_is d grid c lt).some

pub member_below : (d : Diagram) → IsGrid d → (c b : ℕ) → c < size d → Has (component d c) b → b < size d
member_below d grid c b lt h = let r = which_after d c b h in subst (λ z. z < size d) r.2 (after_below d grid r.0 c lt)

pub component_apart : (d : Diagram) → IsGrid d → (c : ℕ) → c < size d → Apart (component d c)
component_apart d grid c lt = apart_until d grid (round_length d c) c lt (round_is d grid c lt).first

-- what follows in the strand is in the component
has_next : (d : Diagram) → IsGrid d → (c b : ℕ) → c < size d → Has (component d c) b → Has (component d c) (next_column d b)
has_next d grid c b lt h =
    let r = which_after d c b h in
    let round = round_is d grid c lt in
    subst (λ z. Has (component d c) z) (ap (next_column d) r.2) (elim (cases_lt (suc r.0) (round_length d c)) [
      | inl less ↦ has_after d c (suc r.0) less
      | inr last ↦
          let whole : suc r.0 ≡ round_length d c = let most = r.1 in omega arith in
          subst (λ z. Has (component d c) z) (sym (ap (λ k. column_after d k c) whole ∙ round.back)) (has_itself d grid c lt)
    ])

pub has_later : (d : Diagram) → IsGrid d → (c b k : ℕ) → c < size d → Has (component d c) b → Has (component d c) (column_after d k b)
has_later d grid c b zero lt h = h
has_later d grid c b (suc k) lt h = has_next d grid c (column_after d k b) lt (has_later d grid c b k lt h)

pub has_whole : (d : Diagram) → IsGrid d → (c b a : ℕ) → c < size d → Has (component d c) b → Has (component d b) a → Has (component d c) a
has_whole d grid c b a lt h k = let r = which_after d b a k in subst (λ z. Has (component d c) z) r.2 (has_later d grid c b r.0 lt h)

pub has_back : (d : Diagram) → IsGrid d → (c b : ℕ) → c < size d → Has (component d c) b → Has (component d b) c
has_back d grid c b lt h =
    let r = which_after d c b h in
    let n = round_length d c in
    let whole : n - r.0 + r.0 ≡ n = let most = r.1 in omega arith in
    let home : column_after d (n - r.0) b ≡ c =
    ap (column_after d (n - r.0)) (sym r.2) ∙ (sym (after_add d (n - r.0) r.0 c) ∙ (ap (λ k. column_after d k c) whole ∙ (round_is d grid c lt).back)) in
    subst (λ z. Has (component d b) z) home (has_later d grid b b (n - r.0) (member_below d grid c b lt h) (has_itself d grid b (member_below d grid c b lt h)))

-- the least of some numbers
least_of : (x : ℕ) (xs : List ℕ) → (m : ℕ) × Has (x ∷ xs) m × ((y : ℕ) → Has (x ∷ xs) y → m ≤ y)
least_of x [] = (x, inl refl, λ y h. elim h [ inl e ↦ omega arith | inr none ↦ absurd none ])
least_of x (z ∷ xs) =
    let r = least_of z xs in
    elim (cases_lt r.0 x) [
      | inl less ↦ (r.0, inr r.1, λ y h. elim h [ inl e ↦ omega arith | inr more ↦ r.2 y more ])
      | inr most ↦ (x, inl refl, λ y h. elim h [ inl e ↦ omega arith | inr more ↦ let m = r.2 y more in omega arith ])
    ]

least_member : (xs : List ℕ) (c : ℕ) → Has xs c → (m : ℕ) × Has xs m × ((y : ℕ) → Has xs y → m ≤ y)
least_member [] c h = absurd h
least_member (x ∷ xs) c h = least_of x xs

-- each column is in the component of a start
pub start_of : (d : Diagram) → IsGrid d → (c : ℕ) → c < size d → (s : ℕ) × Has (component_starts d) s × Has (component d s) c
start_of d grid c lt =
    let m = least_member (component d c) c (has_itself d grid c lt) in
    let within = member_below d grid c m.0 lt m.1 in
    let least : is_least d m.0 ≡ true = all_pass (λ b. nat_le m.0 b) (component d m.0) (λ b h. le-leb m.0 b (m.2 b (has_whole d grid c m.0 b lt m.1 h))) in
    (m.0, has_filter (is_least d) (range_with_len 0 (size d)) m.0 (has_range 0 (size d) m.0 (omega arith) (omega arith)) least, has_back d grid c m.0 lt m.1)

pub start_below : (d : Diagram) (s : ℕ) → Has (component_starts d) s → s < size d
start_below d s h = let r = of_range 0 (size d) s (of_filter (is_least d) (range_with_len 0 (size d)) s h).0 in omega arith

pub start_least : (d : Diagram) (s b : ℕ) → Has (component_starts d) s → Has (component d s) b → s ≤ b
start_least d s b h k = leb-true s b (each_passes (λ a. nat_le s a) (component d s) (of_filter (is_least d) (range_with_len 0 (size d)) s h).1 b k)

-- of exactly one
pub one_start : (d : Diagram) → IsGrid d → (s t b : ℕ) → Has (component_starts d) s → Has (component_starts d) t → Has (component d s) b → Has (component d t) b
    → s ≡ t
one_start d grid s t b hs ht at_s at_t =
    let below_s = start_below d s hs in
    let below_t = start_below d t ht in
    let s_in_t = has_whole d grid t b s below_t at_t (has_back d grid s b below_s at_s) in
    let t_in_s = has_whole d grid s b t below_s at_s (has_back d grid t b below_t at_t) in
    omega (arith, start_least d s t hs t_in_s, start_least d t s ht s_in_t)

pub starts_apart : (d : Diagram) → Apart (component_starts d)
starts_apart d = apart_filter (is_least d) (range_with_len 0 (size d)) (apart_range 0 (size d))

-- the columns in the order in which the strands run through them
abbrev pub order : Diagram → List ℕ
order d = flat_map (component d) (component_starts d)

pub order_apart : (d : Diagram) → IsGrid d → Apart (order d)
order_apart d grid =
    apart_flat_map (component d) (component_starts d) (λ s h. component_apart d grid s (start_below d s h))
    (λ s t b hs ht at_s at_t. one_start d grid s t b hs ht at_s at_t) (starts_apart d)
