-- Listings of two sets between which there is a bijection have one length.
use Rattle.std.proofs.Common.{◌≡◌, ◌∙◌, ◌≤◌, ◌⊎◌, ℕ, suc, List, [], ◌∷◌, map, length, ap, sym, refl, arith, inl, inr, subst}
use Rattle.std.proofs.lemmas.List.{length-map}
use Rattle.quandle_core.specs.Bijection.{IsBijection}

-- c is one of the lists
abbrev pub IsOneOf : List ℕ → List (List ℕ) → Type 0
IsOneOf c [] = ⊥
IsOneOf c (d ∷ ds) = (c ≡ d) ⊎ IsOneOf c ds

-- no list stands there twice
abbrev pub AreDistinct : List (List ℕ) → Type 0
AreDistinct [] = Unit {0}
AreDistinct (d ∷ ds) = (IsOneOf d ds → ⊥) × AreDistinct ds

-- exactly the lists with P, each once
pub record IsListing (P : List ℕ → Type 0) (ds : List (List ℕ)) : Type 0 where
  pub distinct : AreDistinct ds
  pub sound : (c : List ℕ) → IsOneOf c ds → P c
  pub complete : (c : List ℕ) → P c → IsOneOf c ds

-- one list less
record IsLess (x : List ℕ) (ys rest : List (List ℕ)) : Type 0 where
  size : suc (length rest) ≡ length ys
  keeps : (z : List ℕ) → (z ≡ x → ⊥) → IsOneOf z ys → IsOneOf z rest

less : (x : List ℕ) (ys : List (List ℕ)) → IsOneOf x ys → (rest : List (List ℕ)) × IsLess x ys rest
less x [] is = absurd is
less x (y ∷ ys) is = elim is [
  | inl e ↦ (ys, record { size = refl; keeps = λ z differ one. elim one [ inl f ↦ absurd (differ (f ∙ sym e)) | inr f ↦ f ] })
  | inr h ↦
      let more = less x ys h in
      (y ∷ more.0, record { size = ap suc more.1.size; keeps = λ z differ one. elim one [ inl f ↦ inl f | inr f ↦ inr (more.1.keeps z differ f) ] })
]

-- different lists that all stand in ys are no more than ys has
fits : (xs ys : List (List ℕ)) → AreDistinct xs → ((x : List ℕ) → IsOneOf x xs → IsOneOf x ys) → length xs ≤ length ys
fits [] ys distinct all = omega arith
fits (x ∷ xs) ys distinct all =
    let more = less x ys (all x (inl refl)) in
    let rest = fits xs more.0 distinct.1 (λ z one. more.1.keeps z (λ e. distinct.0 (subst (λ (w : List ℕ). IsOneOf w xs) e one)) (all z (inr one))) in
    omega (arith, rest, more.1.size)

-- what stands in the images
image : (go : List ℕ → List ℕ) (ds : List (List ℕ)) (y : List ℕ) → IsOneOf y (map go ds) → (c : List ℕ) × IsOneOf c ds × (y ≡ go c)
image go [] y is = absurd is
image go (d ∷ ds) y is = elim is [
  | inl e ↦ (d, inl refl, e)
  | inr h ↦
      let more = image go ds y h in
      (more.0, inr more.1, more.2)
]

image_in : (go : List ℕ → List ℕ) (ds : List (List ℕ)) (c : List ℕ) → IsOneOf c ds → IsOneOf (go c) (map go ds)
image_in go [] c is = absurd is
image_in go (d ∷ ds) c is = elim is [ inl e ↦ inl (ap go e) | inr h ↦ inr (image_in go ds c h) ]

-- images of different lists differ
images : (P Q : List ℕ → Type 0) (go : List ℕ → List ℕ) → IsBijection P Q go → (ds : List (List ℕ)) → ((c : List ℕ) → IsOneOf c ds → P c) → AreDistinct ds
    → AreDistinct (map go ds)
images P Q go b [] sound distinct = tt
images P Q go b (d ∷ ds) sound distinct = (
  λ one.
      let from = image go ds (go d) one in
      let same : d ≡ from.0 = b.one d from.0 (sound d (inl refl)) (sound from.0 (inr from.1)) from.2 in
      distinct.0 (subst (λ (w : List ℕ). IsOneOf w ds) (sym same) from.1),
  images P Q go b ds (λ c one. sound c (inr one)) distinct.1,
)

pub equal_lengths : (P Q : List ℕ → Type 0) (go : List ℕ → List ℕ) → IsBijection P Q go → (cs ds : List (List ℕ)) → IsListing P cs → IsListing Q ds
    → length cs ≡ length ds
equal_lengths P Q go b cs ds first second =
    let one = fits (map go cs) ds (images P Q go b cs first.sound first.distinct) (λ y is.
    let from = image go cs y is in
    second.complete y (subst Q (sym from.2) (b.into from.0 (first.sound from.0 from.1)))) in
    let two = fits ds (map go cs) second.distinct (λ y is.
    let from = b.onto y (second.sound y is) in
    subst (λ (w : List ℕ). IsOneOf w (map go cs)) from.2 (image_in go cs from.0 (first.complete from.0 from.1))) in
    omega (arith, one, two, length-map cs go)
