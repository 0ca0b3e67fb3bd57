-- What the offers of a diagram at its own size do to its size: the exchanges keep it, and only destabilisations make it smaller.
use Rattle.std.proofs.Common.{◌≡◌, ◌≤◌, ◌+◌, ◌-◌, ◌∷◌, ◌∙◌, ◌⊎◌, [], ℕ, List, Bool, true, false, map, arith, sym, refl, ap, subst, inl, inr}
use Rattle.std.specs.List.{All, Contains, range_with_len}
use Rattle.std.proofs.lemmas.Bool.{le-leb}
use Rattle.std.proofs.lemmas.List.Elements.{All-append, All-contains, All-cons}
use Rattle.grid_core.specs.Diagram.{Diagram, IsGrid, size}
use Rattle.grid_moves.specs.declared.step.Move.{Move}
use Rattle.grid_moves.specs.declared.step.Move.TheVariants.{ShiftColumns, ShiftRows, ExchangeColumns, ExchangeRows, SlideColumns, SlideRows, Stabilise}
use Rattle.grid_moves.specs.declared.step.Move.TheVariants.{Destabilise}
use Rattle.grid_moves.specs.Step.{Step}
use Rattle.grid_moves.proofs.OneResult.{step_exists, step_legal}
use Rattle.grid_keys.specs.declared.key.Packed.{Packed}
use Rattle.grid_keys.specs.Translation.{translate, translates}
use Rattle.grid_keys.specs.CanonicalForm.{IsCanonicalForm}
use Rattle.grid_keys.specs.Key.{key_of, IsKeyOf}
use Rattle.grid_keys.proofs.Keys.{key_once}
use Rattle.grid_keys.proofs.LeastTranslates.{shifts_of, translates_contains, map_contains}
use Rattle.grid_keys.proofs.CanonicalForms.{translated_grid, translated_size, canonical_of_translate, canonical_exists, canonical_grid}
use Rattle.grid_keys.proofs.Translated.{size-translate}
use Rattle.next_moves.specs.declared.links.Offer.{Offer}
use Rattle.grid_moves.specs.Kinds.{is_shift, is_exchange, is_destabilisation}
use Rattle.next_moves.specs.Tries.{Try, tries, exchange_tries, try_column_exchange, try_row_exchange}
use Rattle.grid_moves.specs.SizeAfter.{size_after}
use Rattle.next_moves.specs.Offers.{is_offered, Leads, IsOfferOf, AreOffersOf, IsOfferList, try_of}
use Rattle.grid_laws.proofs.Sizes.{step_size}
use Rattle.next_moves.proofs.Extended.{legal_offered}
use Rattle.next_moves.proofs.Members.{contains_first, contains_later, contains_filter, filter_contains, mapped_from}
use Rattle.next_moves.proofs.Matched.{matched}
use Rattle.next_moves.proofs.Complete.{neighbour_offered, led_by, ranged}
use Rattle.next_moves.proofs.Exchanges.{exchanges_of_tries}
use Rattle.mono_simplify.specs.ExchangeClass.{is_shift_or_exchange, MayDestabilise}
use Rattle.mono_simplify.specs.Listing.{IsExchangeList, NoTranslateDestabilises}

-- a move that neither shifts nor changes the size
abbrev pub IsExchange : Move → Type 0
IsExchange move = (is_shift_or_exchange move ≡ true) × (is_shift move ≡ false) × (is_destabilisation move ≡ false) × ((n : ℕ) → size_after move n ≡ n)

pub exchanges_exchange : (n : ℕ) → All (λ (t : Try). IsExchange t.step) (exchange_tries n)
exchanges_exchange n =
    All-append (λ (t : Try). IsExchange t.step) (map (try_column_exchange n) (range_with_len 0 n)) (map (try_row_exchange n) (range_with_len 0 n))
    (ranged (λ (t : Try). IsExchange t.step) (try_column_exchange n) n (λ k. (refl, refl, refl, λ m. refl)))
    (ranged (λ (t : Try). IsExchange t.step) (try_row_exchange n) n (λ k. (refl, refl, refl, λ m. refl)))

-- an offer's try is one of the list, and is offered
pub offer_tried : (d : Diagram) (cap : ℕ) (list : List Try) (offers : List Offer) (offer : Offer) → AreOffersOf d cap list offers → Contains offers offer
    → Contains list (try_of offer) × (is_offered d cap (try_of offer) ≡ true)
offer_tried d cap list offers offer are among =
    filter_contains (is_offered d cap) list (try_of offer)
    (subst (λ (ts : List Try). Contains ts (try_of offer)) are.order (map_contains try_of offers offer among))

abbrev pub Keeps : Offer → Type 0
Keeps offer = is_destabilisation offer.link.step ≡ false

-- how the size changes along an offer's link
led_size : (d : Diagram) (offer : Offer) (f : Diagram) → IsGrid d → Leads d offer.link f → size f ≡ size_after offer.link.step (size d)
led_size d offer f grid led =
    ap size (sym led.form.reached)
    ∙ size-translate led.moved offer.link.after.0 offer.link.after.1 led.form.columns
    ∙ step_size offer.link.step (translate d offer.link.before.0 offer.link.before.1) led.moved led.step
    ∙ ap (λ (n : ℕ). size_after offer.link.step n) (size-translate d offer.link.before.0 offer.link.before.1 led.columns)

led_grid : (d : Diagram) (offer : Offer) (f : Diagram) → Leads d offer.link f → IsGrid f
led_grid d offer f led = canonical_grid led.moved f led.step.after led.form.canonical

-- an offered destabilisation leads to a grid that is smaller by one
pub smaller_by_one : (d : Diagram) (offers : List Offer) (offer : Offer) → IsGrid d → IsOfferList d (size d) offers → Contains offers offer
    → is_destabilisation offer.link.step ≡ true → (f : Diagram) × (IsKeyOf offer.key f × Leads d offer.link f × (size f + 1 ≡ size d))
smaller_by_one d offers offer grid list among shrinks =
    let is = All-contains (IsOfferOf d) offers offer list.leads among in
    let long : size is.form ≡ size d - 1 = led_size d offer is.form grid is.leads ∙ shrunk offer.link.step shrinks (size d) in (
      is.form,
      (
        record { grid = led_grid d offer is.form is.leads; key = is.key },
        is.leads,
        omega (arith, long, grid.least),
      ),
    )
  where
    shrunk : (move : Move) → is_destabilisation move ≡ true → (n : ℕ) → size_after move n ≡ n - 1
    shrunk (ShiftColumns k) h n = absurd (let no : false ≡ true = h in cc)
    shrunk (ShiftRows k) h n = absurd (let no : false ≡ true = h in cc)
    shrunk (ExchangeColumns c) h n = absurd (let no : false ≡ true = h in cc)
    shrunk (ExchangeRows r) h n = absurd (let no : false ≡ true = h in cc)
    shrunk (SlideColumns c) h n = absurd (let no : false ≡ true = h in cc)
    shrunk (SlideRows r) h n = absurd (let no : false ≡ true = h in cc)
    shrunk (Stabilise c kind corner) h n = absurd (let no : false ≡ true = h in cc)
    shrunk (Destabilise c r) h n = refl

-- an offer that leads to a smaller diagram destabilises
kept_large : (move : Move) → is_destabilisation move ≡ false → (n : ℕ) → n ≤ size_after move n
kept_large (ShiftColumns k) h n = omega arith
kept_large (ShiftRows k) h n = omega arith
kept_large (ExchangeColumns c) h n = omega arith
kept_large (ExchangeRows r) h n = omega arith
kept_large (SlideColumns c) h n = omega arith
kept_large (SlideRows r) h n = omega arith
kept_large (Stabilise c kind corner) h n = omega arith
kept_large (Destabilise c r) h n = absurd (let no : true ≡ false = h in cc)

-- where no offer destabilises, no destabilisation is legal on any translate
pub none_smaller : (d : Diagram) (offers : List Offer) (e : Diagram) → IsGrid d → IsOfferList d (size d) offers → All Keeps offers → Contains (translates d) e
    → MayDestabilise e → ⊥
none_smaller d offers e grid list none translated may =
    let here : IsGrid e = translated_grid d e grid translated in
    let long : size e ≡ size d = translated_size d e grid translated in
    let stepped = step_exists e (Destabilise may.column may.row) here may.legal in
    let after : Diagram = stepped.0 in
    let shrunk : size after ≡ size e - 1 = step_size (Destabilise may.column may.row) e after stepped.1 in
    let formed = canonical_exists after stepped.1.after in
    let f : Diagram = formed.0 in
    let f_grid : IsGrid f = canonical_grid after f stepped.1.after formed.1 in
    let f_size : size f ≡ size after = translated_size after f stepped.1.after formed.1.among in
    let found = neighbour_offered d f (size d) offers grid list (record {
      before = e;
      translated = translated;
      move = Destabilise may.column may.row;
      no_shift = refl;
      after = after;
      step = stepped.1;
      small = omega (arith, shrunk, long);
      form = formed.1;
    }) in
    let offer : Offer = found.0 in
    let is = All-contains (IsOfferOf d) offers offer list.leads found.1.0 in
    let keys : key_of f ≡ offer.key = found.1.1 in
    let met : key_of f ≡ key_of is.form = keys ∙ sym is.key in
    let same : f ≡ is.form = key_once f is.form f_grid (led_grid d offer is.form is.leads) met in
    let large : size d ≤ size_after offer.link.step (size d) = kept_large offer.link.step (All-contains Keeps offers offer none found.1.0) (size d) in
    omega (arith, ap size same, led_size d offer is.form grid is.leads, large, f_size, shrunk, long, grid.least)

-- the same for the grid that a key names
pub stays_large : (key : Packed) (d : Diagram) (offers : List Offer) → IsKeyOf key d → IsOfferList d (size d) offers → All Keeps offers
    → NoTranslateDestabilises key
stays_large key d offers names list none = λ f e named translated may.
    let same : f ≡ d = key_once f d named.grid names.grid (named.key ∙ sym names.key) in
    none_smaller d offers e names.grid list none (subst (λ (g : Diagram). Contains (translates g) e) same translated) may

-- the exchanges of a diagram: each leads to a diagram of its size, and all that exchanges of its translates lead to are among them
pub exchange_led : (d : Diagram) (offers : List Offer) (offer : Offer) → IsGrid d → IsExchangeList d offers → Contains offers offer
    → (f : Diagram) × (IsKeyOf offer.key f × Leads d offer.link f × (size f ≡ size d) × IsExchange offer.link.step)
exchange_led d offers offer grid list among =
    let is = All-contains (IsOfferOf d) offers offer list.leads among in
    let tried = offer_tried d (size d) (exchange_tries (size d)) offers offer list among in
    let exchange = All-contains (λ (t : Try). IsExchange t.step) (exchange_tries (size d)) (try_of offer) (exchanges_exchange (size d)) tried.0 in (
      is.form,
      (
        record { grid = led_grid d offer is.form is.leads; key = is.key },
        is.leads,
        led_size d offer is.form grid is.leads ∙ exchange.3 (size d),
        exchange,
      ),
    )

pub exchange_offered : (d : Diagram) (offers : List Offer) (before after f : Diagram) (move : Move) → IsGrid d → IsExchangeList d offers
    → Contains (translates d) before → is_shift move ≡ false → is_exchange move ≡ true → Step before move after → size after ≡ size d → IsCanonicalForm after f
    → (offer : Offer) × (Contains offers offer × (key_of f ≡ offer.key))
exchange_offered d offers before after f move grid list translated turns exchange step same form =
    let s = shifts_of d before translated in
    let here : Step (translate d s.0 s.1) move after = subst (λ t. Step t move after) (sym s.4) step in
    let m = matched move d s.0 s.1 after grid s.2 s.3 turns here in
    let long : size m.result ≡ size d = translated_size after m.result step.after m.same ∙ same in
    let offered : is_offered d (size d) m.try ≡ true = legal_offered d (translate d m.try.before.0 m.try.before.1) m.result (size d) m.try m.columns refl m.step
    ∙ le-leb (size m.result) (size d) (omega (arith, long)) in
    let among : Contains (exchange_tries (size d)) m.try = subst (λ (ts : List Try). Contains ts m.try) (exchanges_of_tries (size d))
    (contains_filter (λ (t : Try). is_exchange t.step) (tries (size d)) m.try m.among (m.alike ∙ exchange)) in
    let tried : Contains (map try_of offers) m.try = subst (λ (ts : List Try). Contains ts m.try) (sym list.order)
    (contains_filter (is_offered d (size d)) (exchange_tries (size d)) m.try among offered) in
    let found = mapped_from try_of offers m.try tried in
    let is = All-contains (IsOfferOf d) offers found.0 list.leads found.1 in
    (found.0, (found.1, led_by d found.0 m.try m.result f is found.2 m.step (canonical_of_translate after m.result f step.after m.same form)))

-- some offer destabilises, or none does
some_or_none : (offers : List Offer) → ((offer : Offer) × (Contains offers offer × (is_destabilisation offer.link.step ≡ true))) ⊎ All Keeps offers
some_or_none [] = inr (λ k d lt. absurd (omega (arith, lt)))
some_or_none (offer ∷ offers) = by (is_destabilisation offer.link.step) refl (some_or_none offers)
  where
    by : (b : Bool) → is_destabilisation offer.link.step ≡ b → ((o : Offer) × (Contains offers o × (is_destabilisation o.link.step ≡ true))) ⊎ All Keeps offers
        → ((o : Offer) × (Contains (offer ∷ offers) o × (is_destabilisation o.link.step ≡ true))) ⊎ All Keeps (offer ∷ offers)
    by true is rest = inl (offer, (contains_first offer offers, is))
    by false is (inl found) = inl (found.0, (contains_later offer offers found.0 found.1.0, found.1.1))
    by false is (inr none) = inr (All-cons Keeps offer offers is none)

pub destabilisation_offered : (d e : Diagram) (offers : List Offer) → IsGrid d → IsOfferList d (size d) offers → Contains (translates d) e → MayDestabilise e
    → (offer : Offer) × (Contains offers offer × (is_destabilisation offer.link.step ≡ true))
destabilisation_offered d e offers grid list translated may =
    elim (some_or_none offers) [
      | inl found ↦ found
      | inr none ↦ absurd (none_smaller d offers e grid list none translated may)
    ]

may_by : (d e : Diagram) (move : Move) → is_destabilisation move ≡ true → Step d move e → MayDestabilise d
may_by d e (ShiftColumns k) h step = absurd (let no : false ≡ true = h in cc)
may_by d e (ShiftRows k) h step = absurd (let no : false ≡ true = h in cc)
may_by d e (ExchangeColumns c) h step = absurd (let no : false ≡ true = h in cc)
may_by d e (ExchangeRows r) h step = absurd (let no : false ≡ true = h in cc)
may_by d e (SlideColumns c) h step = absurd (let no : false ≡ true = h in cc)
may_by d e (SlideRows r) h step = absurd (let no : false ≡ true = h in cc)
may_by d e (Stabilise c kind corner) h step = absurd (let no : false ≡ true = h in cc)
may_by d e (Destabilise c r) h step = record { column = c; row = r; legal = step_legal d (Destabilise c r) e step }

pub offered_destabilisation : (d : Diagram) (offers : List Offer) (offer : Offer) → IsGrid d → IsOfferList d (size d) offers → Contains offers offer
    → is_destabilisation offer.link.step ≡ true → (e : Diagram) × (Contains (translates d) e × MayDestabilise e)
offered_destabilisation d offers offer grid list among shrinks =
    let is = All-contains (IsOfferOf d) offers offer list.leads among in
    let led = is.leads in (
      translate d offer.link.before.0 offer.link.before.1,
      (
        translates_contains d offer.link.before.0 offer.link.before.1 led.columns led.rows,
        may_by
            (translate d offer.link.before.0 offer.link.before.1) led.moved offer.link.step shrinks led.step,
      ),
    )
