-- Lists of offers that are made longer.
use Rattle.std.proofs.Common.{◌≡◌, ◌<◌, ◌≤◌, ◌+◌, ◌∷◌, ◌++◌, ◌∙◌, ◌&&◌, [], ℕ, List, Bool, true, false, cond, map, take, get_or, length, nat_le, Option, Some}
use Rattle.std.proofs.Common.{None, sym, refl, ap, ap₂, subst, add-one, zero-add, append_assoc}
use Rattle.std.specs.List.{All, range_with_len, flat_map}
use Rattle.std.specs.Option.{is_none}
use Rattle.std.proofs.lemmas.Bool.{le-leb, lt-leb}
use Rattle.std.proofs.lemmas.List.{append-nil, map-append, take_more}
use Rattle.std.proofs.lemmas.List.Elements.{All-append, All-nil, All-cons, All-head, All-tail, All-map, filter-append}
use Rattle.std.proofs.lemmas.List.Concat.{flat_map-append}
use Rattle.grid_core.proofs.OneEach.{range_more}
use Rattle.grid_core.specs.declared.mark.Kind.TheVariants.{Cross, Ring}
use Rattle.grid_core.specs.Diagram.{Diagram, size}
use Rattle.grid_moves.specs.declared.step.Move.TheVariants.{Stabilise}
use Rattle.grid_moves.specs.declared.step.MoveFault.{MoveFault}
use Rattle.grid_moves.specs.MoveFault.{first_move_fault}
use Rattle.grid_moves.specs.Step.{Step}
use Rattle.grid_moves.specs.SizeAfter.{size_after}
use Rattle.grid_moves.proofs.OneResult.{step_legal}
use Rattle.grid_laws.proofs.Sizes.{step_size}
use Rattle.grid_keys.specs.Translation.{translate}
use Rattle.grid_keys.specs.CanonicalForm.{IsLeastForm}
use Rattle.grid_keys.specs.declared.least_form.LeastForm.{LeastForm}
use Rattle.grid_keys.specs.Key.{key_of}
use Rattle.grid_keys.proofs.Translated.{size-translate}
use Rattle.next_moves.specs.declared.links.Offer.{Offer}
use Rattle.grid_core.specs.Corners.{corners}
use Rattle.next_moves.specs.Tries.{Try, column_trade_tries, row_trade_tries, block_tries, try_stabilisation, stabilisation_tries}
use Rattle.next_moves.specs.Offers.{is_offered, Leads, IsOfferOf, AreOffersOf, IsOfferList, try_of}
use Rattle.next_moves.specs.Extends.{Extends}

pub extends_none : (d : Diagram) (cap : ℕ) (old new : List Offer) → new ≡ old → Extends d cap [] old new
extends_none d cap old new same = record {
  more = [];
  is = same ∙ sym (append-nil old);
  offers = record { order = refl; leads = All-nil (IsOfferOf d) };
}

pub extends_then : (d : Diagram) (cap : ℕ) (s t : List Try) (a b c : List Offer) → Extends d cap s a b → Extends d cap t b c → Extends d cap (s ++ t) a c
extends_then d cap s t a b c one two = record {
  more = one.more ++ two.more;
  is = two.is ∙ ap (λ xs. xs ++ two.more) one.is ∙ append_assoc a one.more two.more;
  offers = record {
    order = map-append try_of one.more two.more ∙ ap₂ (λ xs ys. xs ++ ys) one.offers.order two.offers.order ∙ sym (filter-append (is_offered d cap) s t);
    leads = All-append (IsOfferOf d) one.more two.more one.offers.leads two.offers.leads;
  };
}

pub extends_skip : (d : Diagram) (cap : ℕ) (t : Try) (old new : List Offer) → new ≡ old → is_offered d cap t ≡ false → Extends d cap (t ∷ []) old new
extends_skip d cap t old new same no_offer = record {
  more = [];
  is = same ∙ sym (append-nil old);
  offers = record { order = sym (ap (λ b. cond b (t ∷ []) []) no_offer); leads = All-nil (IsOfferOf d) };
}

pub extends_one : (d : Diagram) (cap : ℕ) (t : Try) (offer : Offer) (old new : List Offer) → new ≡ old ++ offer ∷ [] → is_offered d cap t ≡ true
    → try_of offer ≡ t → IsOfferOf d offer → Extends d cap (t ∷ []) old new
extends_one d cap t offer old new same offered is leads = record {
  more = offer ∷ [];
  is = same;
  offers = record {
    order = ap (λ u. u ∷ []) is ∙ sym (ap (λ b. cond b (t ∷ []) []) offered);
    leads = All-cons (IsOfferOf d) offer [] leads (All-nil (IsOfferOf d));
  };
}

-- what is offered, by what the call found
none_fault : (fault : Option MoveFault) (b : Bool) → fault ≡ None → (is_none fault && b) ≡ b
none_fault fault b e = ap (λ f. is_none f && b) e

some_fault : (fault : Option MoveFault) (f : MoveFault) (b : Bool) → fault ≡ Some f → (is_none fault && b) ≡ false
some_fault fault f b e = ap (λ g. is_none g && b) e

-- a legal move on a translate, within the cap or not
pub legal_offered : (d translated moved : Diagram) (cap : ℕ) (t : Try) → t.before.0 < size d → translated ≡ translate d t.before.0 t.before.1
    → Step translated t.step moved → is_offered d cap t ≡ nat_le (size moved) cap
legal_offered d translated moved cap t columns is step =
    let legal : first_move_fault (translate d t.before.0 t.before.1) t.step ≡ None =
    ap (λ e. first_move_fault e t.step) (sym is) ∙ step_legal translated t.step moved step in
    let grown : size moved ≡ size_after t.step (size d) =
    step_size t.step translated moved step ∙ ap (λ (n : ℕ). size_after t.step n) (ap size is ∙ size-translate d t.before.0 t.before.1 columns) in
    none_fault (first_move_fault (translate d t.before.0 t.before.1) t.step) (nat_le (size_after t.step (size d)) cap) legal
    ∙ ap (λ (n : ℕ). nat_le n cap) (sym grown)

pub extends_legal : (d translated moved : Diagram) (cap : ℕ) (t : Try) (offer : Offer) (form : LeastForm) (old new : List Offer) → t.before.0 < size d
    → t.before.1 < size d → translated ≡ translate d t.before.0 t.before.1 → Step translated t.step moved → size moved ≤ cap → IsLeastForm moved form
    → key_of form.grid ≡ offer.key → try_of offer ≡ t → offer.link.after ≡ (form.columns, form.rows) → new ≡ old ++ offer ∷ [] → Extends d cap (t ∷ []) old new
extends_legal d translated moved cap t offer form old new columns rows is step small least key same after pushed =
    extends_one d cap t offer old new pushed (legal_offered d translated moved cap t columns is step ∙ le-leb (size moved) cap small) same
    (record { form = form.grid; key = key; leads = led t same columns rows (subst (λ e. Step e t.step moved) is step) })
  where
    led : (u : Try) → try_of offer ≡ u → u.before.0 < size d → u.before.1 < size d → Step (translate d u.before.0 u.before.1) u.step moved
        → Leads d offer.link form.grid
    led u e ha hb s =
        let back = sym e in
        let P : Try → Type 0 = λ v. (v.before.0 < size d) × (v.before.1 < size d) × Step (translate d v.before.0 v.before.1) v.step moved in
        let here : P (try_of offer) = subst P back (ha, hb, s) in
        record {
          columns = here.0;
          rows = here.1;
          moved = moved;
          step = here.2;
          form = subst (λ (p : ℕ × ℕ). IsLeastForm moved (record { grid = form.grid; columns = p.0; rows = p.1 })) (sym after) least;
        }

pub extends_large : (d translated moved : Diagram) (cap : ℕ) (t : Try) (old new : List Offer) → t.before.0 < size d
    → translated ≡ translate d t.before.0 t.before.1 → Step translated t.step moved → cap < size moved → new ≡ old → Extends d cap (t ∷ []) old new
extends_large d translated moved cap t old new columns is step large same =
    extends_skip d cap t old new same (legal_offered d translated moved cap t columns is step ∙ lt-leb (size moved) cap large)

pub extends_illegal : (d translated : Diagram) (cap : ℕ) (t : Try) (fault : MoveFault) (old new : List Offer)
    → translated ≡ translate d t.before.0 t.before.1 → Some fault ≡ first_move_fault translated t.step → new ≡ old → Extends d cap (t ∷ []) old new
extends_illegal d translated cap t fault old new is found same =
    extends_skip d cap t old new same (some_fault (first_move_fault (translate d t.before.0 t.before.1) t.step) fault (nat_le (size_after t.step (size d)) cap)
    (ap (λ e. first_move_fault e t.step) (sym is) ∙ sym found))

-- one more of a kind
pub map_range_more : {A : Type 0} (f : ℕ → A) (n : ℕ) → map f (range_with_len 0 (n + 1)) ≡ map f (range_with_len 0 n) ++ f n ∷ []
map_range_more f n =
    ap (λ (z : ℕ). map f (range_with_len 0 z)) (add-one n) ∙ ap (λ zs. map f zs) (range_more n 0) ∙ map-append f (range_with_len 0 n) ((0 + n) ∷ [])
    ∙ ap (λ (z : ℕ). map f (range_with_len 0 n) ++ f z ∷ []) (zero-add n)

pub flat_map_range_more : {A : Type 0} (f : ℕ → List A) (n : ℕ) → flat_map f (range_with_len 0 (n + 1)) ≡ flat_map f (range_with_len 0 n) ++ f n
flat_map_range_more f n =
    ap (λ (z : ℕ). flat_map f (range_with_len 0 z)) (add-one n)
    ∙ ap (λ zs. flat_map f zs) (range_more n 0 ∙ ap (λ (z : ℕ). range_with_len 0 n ++ z ∷ []) (zero-add n))
    ∙ flat_map-append f (range_with_len 0 n) (n ∷ []) ∙ ap (λ zs. flat_map f (range_with_len 0 n) ++ zs) (append-nil (f n))

pub extends_more : (d : Diagram) (cap : ℕ) (f : ℕ → Try) (n : ℕ) (t : Try) (a b c : List Offer) → Extends d cap (map f (range_with_len 0 n)) a b → t ≡ f n
    → Extends d cap (t ∷ []) b c → Extends d cap (map f (range_with_len 0 (n + 1))) a c
extends_more d cap f n t a b c one is two =
    subst (λ s. Extends d cap s a c) (sym (map_range_more f n))
    (extends_then d cap (map f (range_with_len 0 n)) (f n ∷ []) a b c one (subst (λ u. Extends d cap (u ∷ []) b c) is two))

pub extends_flat_more : (d : Diagram) (cap : ℕ) (f : ℕ → List Try) (n : ℕ) (a b c : List Offer) → Extends d cap (flat_map f (range_with_len 0 n)) a b
    → Extends d cap (f n) b c → Extends d cap (flat_map f (range_with_len 0 (n + 1))) a c
extends_flat_more d cap f n a b c one two =
    subst (λ s. Extends d cap s a c) (sym (flat_map_range_more f n)) (extends_then d cap (flat_map f (range_with_len 0 n)) (f n) a b c one two)

-- one more of a list
pub extends_taken : {A : Type 0} (d : Diagram) (cap : ℕ) (f : A → Try) (xs : List A) (i : ℕ) (x : A) (a b c : List Offer) → i < length xs → get_or xs i x ≡ x
    → Extends d cap (map f (take i xs)) a b → Extends d cap (f x ∷ []) b c → Extends d cap (map f (take (i + 1) xs)) a c
extends_taken d cap f xs i x a b c lt is one two =
    subst (λ s. Extends d cap s a c)
    (sym (ap (λ ys. map f ys) (take_more xs i x lt) ∙ map-append f (take i xs) (get_or xs i x ∷ []) ∙ ap (λ y. map f (take i xs) ++ f y ∷ []) is))
    (extends_then d cap (map f (take i xs)) (f x ∷ []) a b c one two)

-- a list made from nothing
pub offers_from_nothing : (d : Diagram) (cap : ℕ) (list : List Try) (old new : List Offer) → old ≡ [] → Extends d cap list old new → AreOffersOf d cap list new
offers_from_nothing d cap list old new empty all = subst (λ xs. AreOffersOf d cap list xs) (sym (all.is ∙ ap (λ xs. xs ++ all.more) empty)) all.offers

-- the four parts are the whole list
pub whole_list : (d : Diagram) (cap : ℕ) (l m o p q : List Offer) → l ≡ []
    → Extends d cap (flat_map (column_trade_tries (size d)) (range_with_len 0 (size d))) l m
    → Extends d cap (flat_map (row_trade_tries (size d)) (range_with_len 0 (size d))) m o
    → Extends d cap (flat_map (block_tries (size d)) (range_with_len 0 (size d))) o p
    → Extends d cap (flat_map stabilisation_tries (range_with_len 0 (size d))) p q → IsOfferList d cap q
whole_list d cap l m o p q empty columns rows blocks marks =
    let n : ℕ = size d in
    let a : List Try = flat_map (column_trade_tries n) (range_with_len 0 n) in
    let b : List Try = flat_map (row_trade_tries n) (range_with_len 0 n) in
    let e : List Try = flat_map (block_tries n) (range_with_len 0 n) in
    let f : List Try = flat_map stabilisation_tries (range_with_len 0 n) in
    offers_from_nothing d cap (a ++ b ++ e ++ f) l q empty
    (extends_then d cap (a ++ b ++ e) f l p q (extends_then d cap (a ++ b) e l o p (extends_then d cap a b l m o columns rows) blocks) marks)

-- no stabilisation is within the cap
extends_all_skipped : (d : Diagram) (cap : ℕ) (list : List Try) (old : List Offer) → All (λ t. is_offered d cap t ≡ false) list → Extends d cap list old old
extends_all_skipped d cap [] old all = extends_none d cap old old refl
extends_all_skipped d cap (t ∷ ts) old all =
    extends_then d cap (t ∷ []) ts old old old (extends_skip d cap t old old refl (All-head (λ u. is_offered d cap u ≡ false) t ts all))
    (extends_all_skipped d cap ts old (All-tail (λ u. is_offered d cap u ≡ false) t ts all))

too_large_for : (b : Bool) (n cap : ℕ) → cap < n → (b && nat_le n cap) ≡ false
too_large_for true n cap lt = lt-leb n cap lt
too_large_for false n cap lt = refl

flat_map_each : {A : Type 0} (P : A → Type 0) (f : ℕ → List A) (xs : List ℕ) → ((k : ℕ) → All P (f k)) → All P (flat_map f xs)
flat_map_each P f [] all = All-nil P
flat_map_each P f (x ∷ xs) all = All-append P (f x) (flat_map f xs) (all x) (flat_map_each P f xs all)

pub extends_too_large : (d : Diagram) (cap : ℕ) (old new : List Offer) → cap < size d + 1 → new ≡ old
    → Extends d cap (flat_map stabilisation_tries (range_with_len 0 (size d))) old new
extends_too_large d cap old new large same =
    subst (λ xs. Extends d cap (flat_map stabilisation_tries (range_with_len 0 (size d))) old xs) (sym same)
    (extends_all_skipped d cap (flat_map stabilisation_tries (range_with_len 0 (size d))) old
    (flat_map_each (λ t. is_offered d cap t ≡ false) stabilisation_tries (range_with_len 0 (size d)) (λ c.
    All-append (λ t. is_offered d cap t ≡ false) (map (try_stabilisation c Cross) corners) (map (try_stabilisation c Ring) corners)
    (All-map (λ t. is_offered d cap t ≡ false) (try_stabilisation c Cross) corners
    (λ k e lt. too_large_for (is_none (first_move_fault (translate d 0 0) (Stabilise c Cross (get_or corners k e)))) (size d + 1) cap large))
    (All-map (λ t. is_offered d cap t ≡ false) (try_stabilisation c Ring) corners
    (λ k e lt. too_large_for (is_none (first_move_fault (translate d 0 0) (Stabilise c Ring (get_or corners k e)))) (size d + 1) cap large)))))
