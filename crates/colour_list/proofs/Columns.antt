-- The level of a sweep: all lists of colours that meet what was read so far, each once.
use Rattle.std.proofs.Common.{◌≡◌, ◌≢◌, ◌<◌, ◌==◌, ◌∙◌, ◌⊎◌, inl, inr, ℕ, List, Bool, true, false, cond, length, get_or, set, refl, sym, ap, arith}
use Rattle.std.specs.List.{range_with_len, flat_map, filter, All}
use Rattle.std.proofs.lemmas.List.{length-set, set-set, set-get_or, get_or-set_same, get_or-set_other}
use Rattle.std.proofs.lemmas.List.FromFn.{get_or-range_with_len, length-range_with_len}
use Rattle.std.proofs.lemmas.List.Elements.{All-set, All-map, All-get_or, All-filter, filter_passes}
use Rattle.std.proofs.lemmas.Bool.{both_ways, eqb-true, eqb-false}
use Rattle.colour_list.specs.Listing.{is_same, times}
use Rattle.colour_list.specs.Level.{spread, Meets, IsLevel}
use Rattle.colour_list.proofs.Counts.{count-map, count_agree, count_no, range_once}
use Rattle.colour_list.proofs.Times.{same_true, true_same, differ, times_filter, times_flat_map, All-flat_map}

range_all : (q : ℕ) → All (λ a. a < q) (range_with_len 0 q)
range_all q = λ k d lt. omega (arith, lt, length-range_with_len 0 q, get_or-range_with_len 0 q k d (omega (arith, lt, length-range_with_len 0 q)))

hit_at : (c : ℕ) (f g : List ℕ) (a : ℕ) → c < length g → set g c 0 ≡ f → (t : Bool) → (get_or g c 0 == a) ≡ t → is_same g (set f c a) ≡ (get_or g c 0 == a)
hit_at c f g a at from true e =
    let there : set f c a ≡ g = ap (λ h. set h c a) (sym from) ∙ (set-set g c 0 a ∙ (ap (set g c) (sym (eqb-true (get_or g c 0) a e)) ∙ set-get_or g c 0)) in
    same_true g (set f c a) (sym there) ∙ sym e
hit_at c f g a at from false e =
    let there : set f c a ≡ set g c a = ap (λ h. set h c a) (sym from) ∙ set-set g c 0 a in
    differ g (set f c a) (λ same. eqb-false (get_or g c 0) a e (ap (λ h. get_or h c 0) (same ∙ there) ∙ get_or-set_same g c a 0 at)) ∙ sym e

-- what stands where the column was 0
hit : (q c : ℕ) (f g : List ℕ) → c < length g → get_or g c 0 < q → set g c 0 ≡ f → times g (spread q c f) ≡ 1
hit q c f g at lt from =
    let b = get_or g c 0 in
    let agree : (a : ℕ) → is_same g (set f c a) ≡ (b == a) = λ a. hit_at c f g a at from (b == a) refl in
    count-map (is_same g) (set f c) (range_with_len 0 q)
    ∙ (count_agree (λ a. is_same g (set f c a)) (λ a. b == a) agree (range_with_len 0 q) ∙ range_once b 0 q (omega arith) (omega arith))

miss : (q c : ℕ) (f g : List ℕ) → get_or f c 0 ≡ 0 → (set g c 0 ≡ f → ⊥) → times g (spread q c f) ≡ 0
miss q c f g empty apart =
    let none : (a : ℕ) → is_same g (set f c a) ≡ false =
    λ a. differ g (set f c a) (λ same. apart (ap (λ h. set h c 0) same ∙ (set-set f c a 0 ∙ (ap (set f c) (sym empty) ∙ set-get_or f c 0)))) in
    count-map (is_same g) (set f c) (range_with_len 0 q) ∙ count_no (λ a. is_same g (set f c a)) none (range_with_len 0 q)

spread_times : (q c : ℕ) (f g : List ℕ) → c < length g → get_or g c 0 < q → get_or f c 0 ≡ 0 → (t : Bool) → is_same (set g c 0) f ≡ t
    → times g (spread q c f) ≡ cond (is_same (set g c 0) f) 1 0
spread_times q c f g at lt empty true e = hit q c f g at lt (true_same (set g c 0) f e) ∙ sym (ap (λ t. cond t 1 0) e)
spread_times q c f g at lt empty false e =
    miss q c f g empty (λ same. both_ways (is_same (set g c 0) f) e (same_true (set g c 0) f same)) ∙ sym (ap (λ t. cond t 1 0) e)

-- column c was blank, and is the one that is blank no more
pub record Opens (c : ℕ) (IsBlank IsLater : ℕ → Type 0) : Type 0 where
  pub was : IsBlank c
  pub others : (x : ℕ) → IsBlank x → (x ≡ c) ⊎ IsLater x
  pub stays : (x : ℕ) → IsLater x → IsBlank x × (x ≢ c)

-- what was read says nothing of column c
abbrev pub Ignores : ℕ → ℕ → (List ℕ → Type 0) → Type 0
Ignores n c IsMet = (g : List ℕ) (a : ℕ) → length g ≡ n → IsMet g → IsMet (set g c a)

filled : (n q c : ℕ) (IsBlank IsLater : ℕ → Type 0) (IsMet : List ℕ → Type 0) → Opens c IsBlank IsLater → Ignores n c IsMet → (f : List ℕ) (a : ℕ) → a < q
    → Meets n q IsBlank IsMet f → Meets n q IsLater IsMet (set f c a)
filled n q c IsBlank IsLater IsMet opens ignores f a lt m = record {
  long = length-set f c a ∙ m.long;
  below = All-set (λ y. y < q) f c a lt m.below;
  blank = λ x at later. get_or-set_other f c x a 0 (opens.stays x later).1 ∙ m.blank x at (opens.stays x later).0;
  met = ignores f a m.long m.met;
}

cleared : (n q c : ℕ) (IsBlank IsLater : ℕ → Type 0) (IsMet : List ℕ → Type 0) → 0 < q → c < n → Opens c IsBlank IsLater → Ignores n c IsMet → (g : List ℕ)
    → Meets n q IsLater IsMet g → Meets n q IsBlank IsMet (set g c 0)
cleared n q c IsBlank IsLater IsMet some at opens ignores g m = record {
  long = length-set g c 0 ∙ m.long;
  below = All-set (λ y. y < q) g c 0 some m.below;
  blank = λ x within empty. elim (opens.others x empty) [
    | inl same ↦ ap (λ y. get_or (set g c 0) y 0) same ∙ get_or-set_same g c 0 0 (omega (arith, m.long))
    | inr later ↦ get_or-set_other g c x 0 0 (opens.stays x later).1 ∙ m.blank x within later
  ];
  met = ignores g 0 m.long m.met;
}

-- a blank column takes each colour
pub open_level : (n q c : ℕ) (IsBlank IsLater : ℕ → Type 0) (IsMet : List ℕ → Type 0) (level : List (List ℕ)) → 0 < q → c < n → Opens c IsBlank IsLater
    → Ignores n c IsMet → IsLevel n q IsBlank IsMet level → IsLevel n q IsLater IsMet (flat_map (spread q c) level)
open_level n q c IsBlank IsLater IsMet level some at opens ignores l = record {
  sound = All-flat_map (spread q c) (Meets n q IsBlank IsMet) (Meets n q IsLater IsMet)
      (λ f m. All-map (Meets n q IsLater IsMet) (set f c) (range_with_len 0 q)
      (λ k d lt. filled n q c IsBlank IsLater IsMet opens ignores f _ (range_all q k d lt) m))
      level l.sound;
  once = λ g m.
      times_flat_map (spread q c) (Meets n q IsBlank IsMet) g (set g c 0)
      (λ f h. spread_times q c f g (omega (arith, m.long)) (All-get_or (λ y. y < q) g c 0 (omega (arith, m.long)) m.below) (h.blank c at opens.was)
      (is_same (set g c 0) f) refl)
      level l.sound
      ∙ l.once (set g c 0) (cleared n q c IsBlank IsLater IsMet some at opens ignores g m);
}

-- a further condition takes those that meet it
pub read_level : (n q : ℕ) (IsBlank : ℕ → Type 0) (IsMet IsNext : List ℕ → Type 0) (p : List ℕ → Bool) (level : List (List ℕ))
    → ((g : List ℕ) → IsMet g → p g ≡ true → IsNext g) → ((g : List ℕ) → IsNext g → IsMet g × (p g ≡ true)) → IsLevel n q IsBlank IsMet level
    → IsLevel n q IsBlank IsNext (filter p level)
read_level n q IsBlank IsMet IsNext p level into from l = record {
  sound = λ k d lt.
      let m = All-filter p (Meets n q IsBlank IsMet) level l.sound k d lt in
      record { long = m.long; below = m.below; blank = m.blank; met = into _ m.met (filter_passes p level k d lt) };
  once = λ g m.
      let h = from g m.met in
      times_filter p g h.1 level ∙ l.once g (record { long = m.long; below = m.below; blank = m.blank; met = h.0 });
}
