-- Look-ups in two maps, by brief keys and by whole ones.
use Rattle.std.proofs.Common.{◌≡◌, ◌∙◌, ◌++◌, ◌∷◌, [], arith, suc, Bool, true, false, cond, List}
use Rattle.std.proofs.Common.{map, Option, Some, None, IsPermutation, ap, ap₂, refl, sym, subst}
use Rattle.std.specs.Map.{lookup}
use Rattle.std.proofs.lemmas.List.{append_assoc, map_push}
use Rattle.std.proofs.lemmas.List.Sorted.{IsPermutation-append_comm, IsPermutation-append_right, IsPermutation-refl}
use Rattle.grid_keys.specs.declared.brief.BriefKey.{BriefKey}
use Rattle.grid_keys.specs.declared.key.Packed.{Packed}
use Rattle.grid_keys.specs.Brief.{whole_key, same_brief}
use Rattle.grid_keys.specs.Key.{same_key}
use Rattle.grid_keys.proofs.Briefs.{told_alike}
use Rattle.grid_keys.proofs.Keys.{same_key_true}
use Rattle.search_book.specs.declared.key_map.Known.{Known}
use Rattle.search_book.specs.KeyMap.{whole_pair, pairs, IsWide, AreWide}

-- one more in the middle
pub moved_in : {A : Type 0} (xs ys : List A) (a : A) → IsPermutation ((xs ++ ys) ++ a ∷ []) ((xs ++ a ∷ []) ++ ys)
moved_in xs ys a =
    subst (λ zs. IsPermutation ((xs ++ ys) ++ a ∷ []) zs) (sym (append_assoc xs (a ∷ []) ys))
    (subst (λ zs. IsPermutation zs (xs ++ (a ∷ [] ++ ys))) (sym (append_assoc xs ys (a ∷ [])))
    (IsPermutation-append_right xs (ys ++ a ∷ []) (a ∷ [] ++ ys) (IsPermutation-append_comm ys (a ∷ []))))

-- what is found in the first list, and what isn't
found_first : (test : Packed → Bool) (xs ys : List (Packed × Known)) (known : Known) → lookup test xs ≡ Some known → lookup test (xs ++ ys) ≡ Some known
found_first test [] ys known is = cc
found_first test (x ∷ xs) ys known is = by (test x.0) is (λ rest. found_first test xs ys known rest)
  where
    by : (b : Bool) → cond b (Some x.1) (lookup test xs) ≡ Some known → (lookup test xs ≡ Some known → lookup test (xs ++ ys) ≡ Some known)
        → cond b (Some x.1) (lookup test (xs ++ ys)) ≡ Some known
    by true here rest = here
    by false here rest = rest here

not_first : (test : Packed → Bool) (xs ys : List (Packed × Known)) → lookup test xs ≡ None → lookup test (xs ++ ys) ≡ lookup test ys
not_first test [] ys is = refl
not_first test (x ∷ xs) ys is = by (test x.0) is (λ rest. not_first test xs ys rest)
  where
    by : (b : Bool) → cond b (Some x.1) (lookup test xs) ≡ None → (lookup test xs ≡ None → lookup test (xs ++ ys) ≡ lookup test ys)
        → cond b (Some x.1) (lookup test (xs ++ ys)) ≡ lookup test ys
    by true here rest = cc
    by false here rest = rest here

-- a key that no brief key stands for passes at none of them, and a key that one stands for at none of the wide keys
pub not_brief : (key : Packed) (bs : List (BriefKey × Known)) → IsWide key → lookup (same_key key) (map whole_pair bs) ≡ None
not_brief key [] wide = refl
not_brief key (b ∷ bs) wide =
    ap (λ (t : Bool). cond t (Some b.1) (lookup (same_key key) (map whole_pair bs))) (fails (same_key key (whole_key b.0)) refl) ∙ not_brief key bs wide
  where
    fails : (t : Bool) → same_key key (whole_key b.0) ≡ t → t ≡ false
    fails true is = absurd (wide b.0 (sym (same_key_true key (whole_key b.0) is)))
    fails false is = refl

pub not_wide : (b : BriefKey) (key : Packed) (ws : List (Packed × Known)) → whole_key b ≡ key → AreWide ws → lookup (same_key key) ws ≡ None
not_wide b key [] is wide = refl
not_wide b key (w ∷ ws) is wide =
    ap (λ (t : Bool). cond t (Some w.1) (lookup (same_key key) ws)) (fails (same_key key w.0) refl)
    ∙ not_wide b key ws is (λ k d lt. wide (suc k) d (omega (arith, lt)))
  where
    fails : (t : Bool) → same_key key w.0 ≡ t → t ≡ false
    fails true same = absurd (wide 0 w (omega arith) b (is ∙ same_key_true key w.0 same))
    fails false same = refl

-- a brief key is looked up as the key that it stands for
alike : (b : BriefKey) (bs : List (BriefKey × Known)) → lookup (same_key (whole_key b)) (map whole_pair bs) ≡ lookup (same_brief b) bs
alike b [] = refl
alike b (c ∷ bs) = ap₂ (λ (t : Bool) (o : Option Known). cond t (Some c.1) o) (told_alike b c.0) (alike b bs)

-- so a look-up in the one map or the other is one among all pairs
pub by_brief : (b : BriefKey) (key : Packed) (bs : List (BriefKey × Known)) (ws : List (Packed × Known)) → whole_key b ≡ key → AreWide ws
    → lookup (same_brief b) bs ≡ lookup (same_key key) (pairs bs ws)
by_brief b key bs ws is wide = by (lookup (same_brief b) bs) refl
  where
    here : lookup (same_key key) (map whole_pair bs) ≡ lookup (same_brief b) bs
    here = ap (λ (k : Packed). lookup (same_key k) (map whole_pair bs)) (sym is) ∙ alike b bs

    by : (o : Option Known) → lookup (same_brief b) bs ≡ o → o ≡ lookup (same_key key) (pairs bs ws)
    by None found = sym (not_first (same_key key) (map whole_pair bs) ws (here ∙ found) ∙ not_wide b key ws is wide)
    by (Some known) found = sym (found_first (same_key key) (map whole_pair bs) ws known (here ∙ found))

-- a brief key that is found under itself
pub by_place : (brief : BriefKey) (key : Packed) (known : Known) (bs : List (BriefKey × Known)) (ws : List (Packed × Known))
    → lookup (same_brief brief) bs ≡ Some known → whole_key brief ≡ key → AreWide ws → lookup (same_key key) (pairs bs ws) ≡ Some known
by_place brief key known bs ws found is wide = sym (by_brief brief key bs ws is wide) ∙ found

pub by_whole : (key : Packed) (bs : List (BriefKey × Known)) (ws : List (Packed × Known)) → IsWide key
    → lookup (same_key key) ws ≡ lookup (same_key key) (pairs bs ws)
by_whole key bs ws wide = sym (not_first (same_key key) (map whole_pair bs) ws (not_brief key bs wide))

-- a pair more in either map is one more among all pairs
pub brief_more : (b : BriefKey) (key : Packed) (known : Known) (bs : List (BriefKey × Known)) (ws : List (Packed × Known)) → whole_key b ≡ key
    → IsPermutation (pairs bs ws ++ (key, known) ∷ []) (pairs (bs ++ (b, known) ∷ []) ws)
brief_more b key known bs ws is =
    subst (λ (ps : List (Packed × Known)). IsPermutation (pairs bs ws ++ (key, known) ∷ []) (ps ++ ws)) (sym (map_push whole_pair bs (b, known)))
    (subst (λ (k : Packed). IsPermutation (pairs bs ws ++ (key, known) ∷ []) ((map whole_pair bs ++ (k, known) ∷ []) ++ ws)) (sym is)
    (moved_in (map whole_pair bs) ws (key, known)))

pub whole_more : (key : Packed) (known : Known) (bs : List (BriefKey × Known)) (ws : List (Packed × Known))
    → IsPermutation (pairs bs ws ++ (key, known) ∷ []) (pairs bs (ws ++ (key, known) ∷ []))
whole_more key known bs ws =
    subst (λ (ps : List (Packed × Known)). IsPermutation (pairs bs ws ++ (key, known) ∷ []) ps) (append_assoc (map whole_pair bs) ws ((key, known) ∷ []))
    (IsPermutation-refl (pairs bs ws ++ (key, known) ∷ []))
