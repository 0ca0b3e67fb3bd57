-- What operations reach from the colour 0.
use Rattle.std.proofs.Common.{◌≡◌, ◌<◌, ◌∙◌, inl, inr, ℕ, List, Bool, true, false, not, length, get_or, set, replicate, refl, sym, ap, arith}
use Rattle.std.specs.List.{range_with_len, list_all}
use Rattle.std.proofs.lemmas.Bool.{both_ways, cases_lt}
use Rattle.std.proofs.lemmas.List.{length-replicate, length-set, get_or-replicate, get_or_past}
use Rattle.std.proofs.lemmas.List.FromFn.{get_or-range_with_len, length-range_with_len}
use Rattle.std.proofs.lemmas.List.Sums.{AllPass-from_list_all}
use Rattle.quandle_core.specs.Quandle.{Table, IsQuandle, over, back}
use Rattle.colour_rows.proofs.Ranges.{all_range}
use Rattle.colour_seeds.specs.Connected.{IsStableSet, IsConnected}
use Rattle.colour_seeds.proofs.Ways.{mark_new, mark_here, marked}

-- which colours are marked
abbrev pub is_reached : List Bool → ℕ → Bool
is_reached marks x = get_or marks x false

-- the marks have the colour 0, and only what operations reach from it
pub record IsReached (t : Table) (n : ℕ) (marks : List Bool) : Type 0 where
  pub long : length marks ≡ n
  pub begins : is_reached marks 0 ≡ true
  pub only : (p : ℕ → Bool) → IsStableSet t p → p 0 ≡ true → (x : ℕ) → is_reached marks x ≡ true → p x ≡ true

pub reached_first : (t : Table) (n : ℕ) (marks : List Bool) → 0 < n → marks ≡ set (replicate n false) 0 true → IsReached t n marks
reached_first t n marks some is = record {
  long = ap length is ∙ (length-set (replicate n false) 0 true ∙ length-replicate n false);
  begins = ap (λ (l : List Bool). get_or l 0 false) is ∙ mark_here (replicate n false) 0 (omega (arith, length-replicate n false));
  only = λ p stable has x e. elim (mark_new (replicate n false) 0 x (ap (λ (l : List Bool). get_or l x false) (sym is) ∙ e)) [
    | inl same ↦ ap p same ∙ has
    | inr before ↦ absurd (both_ways (get_or (replicate n false) x false) (none n x) before)
  ];
}
  where
    none : (n x : ℕ) → get_or (replicate n false) x false ≡ false
    none n x = elim (cases_lt x n) [
      | inl lt ↦ get_or-replicate n x false false lt
      | inr le ↦ get_or_past (replicate n false) x false (omega (arith, length-replicate n false))
    ]

pub reached_more : (t : Table) (n : ℕ) (marks later : List Bool) (z : ℕ) → IsReached t n marks
    → ((p : ℕ → Bool) → IsStableSet t p → ((x : ℕ) → x < t.order → is_reached marks x ≡ true → p x ≡ true) → p z ≡ true)
    → later ≡ set marks z true → IsReached t n later
reached_more t n marks later z reached new is = record {
  long = ap length is ∙ (length-set marks z true ∙ reached.long);
  begins = ap (λ (l : List Bool). get_or l 0 false) is ∙ marked marks z 0 reached.begins;
  only = λ p stable has x e. elim (mark_new marks z x (ap (λ (l : List Bool). get_or l x false) (sym is) ∙ e)) [
    | inl same ↦ ap p same ∙ new p stable (λ y lt before. reached.only p stable has y before)
    | inr before ↦ reached.only p stable has x before
  ];
}

-- what is not in a stable set is stable
others_stable : (t : Table) → IsQuandle t → (p : ℕ → Bool) → IsStableSet t p → IsStableSet t (λ x. not (p x))
others_stable t q p stable = record {
  over_stays = λ x y first second out. other (p (over t x y)) (p x) out
      (λ has. ap p (sym (q.back_over x y first second)) ∙ stable.back_stays (over t x y) y (q.within x y first second) second has);
  back_stays = λ x y first second out. other (p (back t x y)) (p x) out
      (λ has. ap p (sym (q.over_back x y first second)) ∙ stable.over_stays (back t x y) y (q.back_within x y first second) second has);
}
  where
    other : (a b : Bool) → not b ≡ true → (a ≡ true → b ≡ true) → not a ≡ true
    other true true out to = out
    other true false out to = absurd (both_ways false refl (to refl))
    other false b out to = refl

both_reached : (t : Table) → IsQuandle t → (n : ℕ) (marks : List Bool) → IsReached t n marks → (p : ℕ → Bool) → IsStableSet t p → (x z : ℕ) → p x ≡ true
    → is_reached marks x ≡ true → is_reached marks z ≡ true → (b : Bool) → p 0 ≡ b → p z ≡ true
both_reached t q n marks reached p stable x z has at to true e = reached.only p stable e z to
both_reached t q n marks reached p stable x z has at to false e =
    let out : not (p x) ≡ true = reached.only (λ y. not (p y)) (others_stable t q p stable) (ap not e) x at in
    absurd (both_ways (not (p x)) (ap not has) out)

-- where all are reached from the colour 0, each is reached from each
pub connected_from : (t : Table) → IsQuandle t → (n : ℕ) (marks : List Bool) → IsReached t n marks
    → list_all (λ x. is_reached marks x) (range_with_len 0 t.order) ≡ true → IsConnected t
connected_from t q n marks reached all = λ p stable x z at to has.
    let each : (y : ℕ) → y < t.order → is_reached marks y ≡ true = λ y lt.
    ap (λ (k : ℕ). is_reached marks k) (sym (get_or-range_with_len 0 t.order y 0 lt ∙ omega arith))
    ∙ AllPass-from_list_all (λ x. is_reached marks x) (range_with_len 0 t.order) all y 0 (omega (arith, lt, length-range_with_len 0 t.order)) in
    both_reached t q n marks reached p stable x z has (each x at) (each z to) (p 0) refl

-- and in a connected quandle they are, where the marks are stable
pub all_reached : (t : Table) → IsQuandle t → (n : ℕ) (marks : List Bool) → IsReached t n marks → IsStableSet t (is_reached marks) → IsConnected t
    → list_all (λ x. is_reached marks x) (range_with_len 0 t.order) ≡ true
all_reached t q n marks reached stable connected =
    all_range (λ x. is_reached marks x) t.order (λ x lt. connected (is_reached marks) stable 0 x (omega (arith, q.least)) lt reached.begins)
