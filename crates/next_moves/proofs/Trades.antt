-- Of the exchange and the slide of two neighbours at most one is legal.
use Rattle.std.proofs.Common.{◌≡◌, ◌∙◌, ◌⊎◌, ◌+◌, ◌∷◌, ◌&&◌, ◌||◌, [], ℕ, List, Bool, true, false, cond, nat_lt, nat_le, Option, Some, None, refl, sym, ap, inl}
use Rattle.std.proofs.Common.{inr}
use Rattle.std.specs.Option.{is_none}
use Rattle.std.proofs.lemmas.Bool.{cases_Bool, cond-true, cond-false}
use Rattle.grid_core.specs.declared.span.Span.{Span}
use Rattle.grid_core.specs.Diagram.{Diagram, size}
use Rattle.grid_core.specs.Span.{share_an_end, share_both_ends, are_disjoint, are_nested}
use Rattle.grid_core.specs.Parts.{column_span, ends}
use Rattle.grid_moves.specs.declared.step.Move.{Move}
use Rattle.grid_moves.specs.declared.step.Move.TheVariants.{ExchangeColumns, ExchangeRows, SlideColumns, SlideRows}
use Rattle.grid_moves.specs.declared.step.MoveFault.{MoveFault}
use Rattle.grid_moves.specs.declared.step.MoveFault.TheVariants.{Range, Touching, Interleaved, Apart}
use Rattle.grid_moves.specs.MoveFault.{first_move_fault, exchange_fault, slide_fault}
use Rattle.grid_keys.specs.Translation.{translate}
use Rattle.next_moves.specs.declared.links.Offer.{Offer}
use Rattle.next_moves.specs.Tries.{Try, shift_before, place_after_shift, try_column_exchange, try_column_slide, column_trade_tries}
use Rattle.next_moves.specs.Tries.{try_row_exchange, try_row_slide, row_trade_tries}
use Rattle.grid_moves.specs.SizeAfter.{size_after}
use Rattle.next_moves.specs.Offers.{is_legal, is_offered}
use Rattle.next_moves.specs.Extends.{Extends}
use Rattle.next_moves.proofs.Extended.{extends_then, extends_skip}

-- neighbours that touch are not exchanged, and neighbours that don't touch do not slide
touching : (s t : Span) → share_an_end s t ≡ true → is_none (exchange_fault s t) ≡ false
touching s t shared = ap is_none (cond-true (share_an_end s t) (Some Touching) (cond (are_disjoint s t || are_nested s t) None (Some Interleaved)) shared)

parted_by : (b : Bool) → is_none (cond b (Some Touching) (Some Apart)) ≡ false
parted_by true = refl
parted_by false = refl

parted : (s t : Span) → share_an_end s t ≡ false → is_none (slide_fault s t) ≡ false
parted s t apart =
    ap (λ o. is_none (cond (share_both_ends s t) (Some Touching) o)) (cond-false (share_an_end s t) None (Some Apart) apart) ∙ parted_by (share_both_ends s t)

refused : (b : Bool) (fault : Option MoveFault) → is_none fault ≡ false → is_none (cond b fault (Some Range)) ≡ false
refused true fault e = e
refused false fault e = refl

not_offered : (d : Diagram) (cap : ℕ) (before : ℕ × ℕ) (translated : Diagram) (step : Move) → translated ≡ translate d before.0 before.1
    → is_none (first_move_fault translated step) ≡ false → is_offered d cap (record { before = before; step = step }) ≡ false
not_offered d cap before translated step is e = ap (λ b. b && nat_le (size_after step (size d)) cap) (ap (λ f. is_none (first_move_fault f step)) (sym is) ∙ e)

-- of two tries one that is not offered
extends_second : (d : Diagram) (cap : ℕ) (s t : Try) (old new : List Offer) → is_offered d cap s ≡ false → Extends d cap (t ∷ []) old new
    → Extends d cap (s ∷ t ∷ []) old new
extends_second d cap s t old new e one = extends_then d cap (s ∷ []) (t ∷ []) old old new (extends_skip d cap s old old refl e) one

extends_first : (d : Diagram) (cap : ℕ) (s t : Try) (old new : List Offer) → is_offered d cap t ≡ false → Extends d cap (s ∷ []) old new
    → Extends d cap (s ∷ t ∷ []) old new
extends_first d cap s t old new e one = extends_then d cap (s ∷ []) (t ∷ []) old new new one (extends_skip d cap t new new refl e)

-- columns: of the exchange and the slide the one that is not taken has a fault
column_exchange_refused : (d : Diagram) (c : ℕ) → share_an_end (column_span d c) (column_span d (c + 1)) ≡ true
    → is_none (first_move_fault d (ExchangeColumns c)) ≡ false
column_exchange_refused d c shared =
    refused (nat_lt (c + 1) (size d)) (exchange_fault (column_span d c) (column_span d (c + 1))) (touching (column_span d c) (column_span d (c + 1)) shared)

column_slide_refused : (d : Diagram) (c : ℕ) → share_an_end (column_span d c) (column_span d (c + 1)) ≡ false
    → is_none (first_move_fault d (SlideColumns c)) ≡ false
column_slide_refused d c apart =
    refused (nat_lt (c + 1) (size d)) (slide_fault (column_span d c) (column_span d (c + 1))) (parted (column_span d c) (column_span d (c + 1)) apart)

pub columns_once : (d : Diagram) (cap n c : ℕ) → (is_offered d cap (try_column_exchange n c) ≡ false) ⊎ (is_offered d cap (try_column_slide n c) ≡ false)
columns_once d cap n c =
    let before : ℕ × ℕ = (try_column_exchange n c).before in
    let p : ℕ = place_after_shift n c in
    let translated : Diagram = translate d before.0 before.1 in
    elim (cases_Bool (share_an_end (column_span translated p) (column_span translated (p + 1)))) [
      | inl shared ↦ inl (not_offered d cap before translated (ExchangeColumns p) refl (column_exchange_refused translated p shared))
      | inr apart ↦ inr (not_offered d cap before translated (SlideColumns p) refl (column_slide_refused translated p apart))
    ]

-- rows: of the exchange and the slide the one that is not taken has a fault
row_exchange_refused : (d : Diagram) (r : ℕ) → share_an_end (ends d r) (ends d (r + 1)) ≡ true → is_none (first_move_fault d (ExchangeRows r)) ≡ false
row_exchange_refused d r shared = refused (nat_lt (r + 1) (size d)) (exchange_fault (ends d r) (ends d (r + 1))) (touching (ends d r) (ends d (r + 1)) shared)

row_slide_refused : (d : Diagram) (r : ℕ) → share_an_end (ends d r) (ends d (r + 1)) ≡ false → is_none (first_move_fault d (SlideRows r)) ≡ false
row_slide_refused d r apart = refused (nat_lt (r + 1) (size d)) (slide_fault (ends d r) (ends d (r + 1))) (parted (ends d r) (ends d (r + 1)) apart)

pub rows_once : (d : Diagram) (cap n r : ℕ) → (is_offered d cap (try_row_exchange n r) ≡ false) ⊎ (is_offered d cap (try_row_slide n r) ≡ false)
rows_once d cap n r =
    let before : ℕ × ℕ = (try_row_exchange n r).before in
    let p : ℕ = place_after_shift n r in
    let translated : Diagram = translate d before.0 before.1 in
    elim (cases_Bool (share_an_end (ends translated p) (ends translated (p + 1)))) [
      | inl shared ↦ inl (not_offered d cap before translated (ExchangeRows p) refl (row_exchange_refused translated p shared))
      | inr apart ↦ inr (not_offered d cap before translated (SlideRows p) refl (row_slide_refused translated p apart))
    ]

-- what is not legal is not offered
pub illegal : (d : Diagram) (cap : ℕ) (t : Try) → is_legal d t ≡ false → is_offered d cap t ≡ false
illegal d cap t e = ap (λ b. b && nat_le (size_after t.step (size d)) cap) e

-- where the exchange is legal the slide is not
only_exchanged : (b : Bool) (s t : Span) → is_none (cond b (exchange_fault s t) (Some Range)) ≡ true → is_none (cond b (slide_fault s t) (Some Range)) ≡ false
only_exchanged true s t legal = elim (cases_Bool (share_an_end s t)) [
  | inl shared ↦ absurd (never (sym legal ∙ touching s t shared))
  | inr apart ↦ parted s t apart
]
  where
    never : true ≡ false → ⊥
    never e = cc
only_exchanged false s t legal = refl

-- the two tries of a column and the next one, by which of them is legal
pub columns_exchanged : (d : Diagram) (cap n c : ℕ) (old new : List Offer) → is_legal d (try_column_exchange n c) ≡ true
    → Extends d cap (try_column_exchange n c ∷ []) old new → Extends d cap (column_trade_tries n c) old new
columns_exchanged d cap n c old new legal one =
    let p : ℕ = place_after_shift n c in
    let translated : Diagram = translate d (shift_before n c) 0 in
    extends_first d cap (try_column_exchange n c) (try_column_slide n c) old new
    (illegal d cap (try_column_slide n c)
    (only_exchanged (nat_lt (p + 1) (size translated)) (column_span translated p) (column_span translated (p + 1)) legal)) one

pub columns_slid : (d : Diagram) (cap n c : ℕ) (old new : List Offer) → is_legal d (try_column_exchange n c) ≡ false
    → Extends d cap (try_column_slide n c ∷ []) old new → Extends d cap (column_trade_tries n c) old new
columns_slid d cap n c old new no_exchange one =
    extends_second d cap (try_column_exchange n c) (try_column_slide n c) old new (illegal d cap (try_column_exchange n c) no_exchange) one

pub columns_kept : (d : Diagram) (cap n c : ℕ) (old : List Offer) → is_legal d (try_column_exchange n c) ≡ false → is_legal d (try_column_slide n c) ≡ false
    → Extends d cap (column_trade_tries n c) old old
columns_kept d cap n c old no_exchange no_slide =
    columns_slid d cap n c old old no_exchange (extends_skip d cap (try_column_slide n c) old old refl (illegal d cap (try_column_slide n c) no_slide))

-- of a row and the next one likewise
pub rows_exchanged : (d : Diagram) (cap n r : ℕ) (old new : List Offer) → is_legal d (try_row_exchange n r) ≡ true
    → Extends d cap (try_row_exchange n r ∷ []) old new → Extends d cap (row_trade_tries n r) old new
rows_exchanged d cap n r old new legal one =
    let p : ℕ = place_after_shift n r in
    let translated : Diagram = translate d 0 (shift_before n r) in
    extends_first d cap (try_row_exchange n r) (try_row_slide n r) old new
    (illegal d cap (try_row_slide n r) (only_exchanged (nat_lt (p + 1) (size translated)) (ends translated p) (ends translated (p + 1)) legal)) one

pub rows_slid : (d : Diagram) (cap n r : ℕ) (old new : List Offer) → is_legal d (try_row_exchange n r) ≡ false
    → Extends d cap (try_row_slide n r ∷ []) old new → Extends d cap (row_trade_tries n r) old new
rows_slid d cap n r old new no_exchange one =
    extends_second d cap (try_row_exchange n r) (try_row_slide n r) old new (illegal d cap (try_row_exchange n r) no_exchange) one

pub rows_kept : (d : Diagram) (cap n r : ℕ) (old : List Offer) → is_legal d (try_row_exchange n r) ≡ false → is_legal d (try_row_slide n r) ≡ false
    → Extends d cap (row_trade_tries n r) old old
rows_kept d cap n r old no_exchange no_slide =
    rows_slid d cap n r old old no_exchange (extends_skip d cap (try_row_slide n r) old old refl (illegal d cap (try_row_slide n r) no_slide))
