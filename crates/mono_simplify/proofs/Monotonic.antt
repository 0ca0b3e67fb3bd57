-- The moves of the ways are of each kind that has all shifts and exchanges, where the last move is of it.
use Rattle.std.proofs.Common.{◌≡◌, ◌<◌, ◌++◌, ◌∷◌, [], ℕ, zero, suc, List, Bool, true, reverse, slice_get, Some, arith, sym, refl, subst}
use Rattle.std.specs.List.{All}
use Rattle.std.proofs.lemmas.Bool.{or_left, or_right}
use Rattle.std.proofs.lemmas.List.{reverse-append}
use Rattle.std.proofs.lemmas.List.Elements.{All-nil, All-cons, All-head, All-tail, All-push, All-append}
use Rattle.grid_core.specs.Diagram.{Diagram}
use Rattle.grid_moves.specs.declared.step.Move.{Move}
use Rattle.grid_moves.specs.declared.step.Move.TheVariants.{ShiftColumns, ShiftRows}
use Rattle.grid_keys.specs.declared.key.Packed.{Packed}
use Rattle.grid_keys.specs.Shifts.{needed_column_shift, needed_row_shift, shift_moves}
use Rattle.next_moves.specs.declared.links.Link.{Link}
use Rattle.next_moves.specs.Links.{link_moves}
use Rattle.mono_simplify.specs.declared.class.MemberOrigin.{MemberOrigin}
use Rattle.mono_simplify.specs.ExchangeClass.{is_shift_or_exchange}
use Rattle.grid_moves.specs.Kinds.{is_destabilisation}
use Rattle.mono_simplify.specs.Simplified.{is_monotonic, AreMonotonic}
use Rattle.mono_simplify.specs.Ways.{Member, AreLinked}

pub monotonic_destabilisation : (move : Move) → is_destabilisation move ≡ true → is_monotonic move ≡ true
monotonic_destabilisation move is = or_right (is_shift_or_exchange move) (is_destabilisation move) is

pub monotonic_exchange : (move : Move) → is_shift_or_exchange move ≡ true → is_monotonic move ≡ true
monotonic_exchange move is = or_left (is_shift_or_exchange move) (is_destabilisation move) is

pub monotonic_more : (moves more all : List Move) → all ≡ moves ++ more → AreMonotonic moves → AreMonotonic more → AreMonotonic all
monotonic_more moves more all is first then =
    subst AreMonotonic (sym is) (All-append (λ (move : Move). is_monotonic move ≡ true) moves more first then)

-- the kind has all shifts and exchanges
abbrev pub HasExchanges : (Move → Bool) → Type 0
HasExchanges kind = (move : Move) → is_shift_or_exchange move ≡ true → kind move ≡ true

-- the moves are of the kind
abbrev pub AreAll : (Move → Bool) → List Move → Type 0
AreAll kind moves = All (λ (move : Move). kind move ≡ true) moves

module _ (kind : Move → Bool) (has : HasExchanges kind) where
  abbrev Is : Move → Type 0
  Is move = kind move ≡ true

  all_more : (moves more all : List Move) → all ≡ moves ++ more → AreAll kind moves → AreAll kind more → AreAll kind all
  all_more moves more all is first then = subst (AreAll kind) (sym is) (All-append Is moves more first then)

  all_one : (move : Move) → kind move ≡ true → AreAll kind (move ∷ [])
  all_one move is = All-cons Is move [] is (All-nil Is)

  all_reversed : (moves : List Move) → AreAll kind moves → AreAll kind (reverse moves)
  all_reversed [] are = are
  all_reversed (move ∷ moves) are =
      all_more (reverse moves) (move ∷ []) (reverse (move ∷ moves)) (reverse-append (move ∷ []) moves)
      (all_reversed moves (All-tail Is move moves are))
      (all_one move (All-head Is move moves are))

  all_column_shift : (k : ℕ) → AreAll kind (needed_column_shift k)
  all_column_shift zero = All-nil Is
  all_column_shift (suc k) = all_one (ShiftColumns (suc k)) (has (ShiftColumns (suc k)) refl)

  all_row_shift : (k : ℕ) → AreAll kind (needed_row_shift k)
  all_row_shift zero = All-nil Is
  all_row_shift (suc k) = all_one (ShiftRows (suc k)) (has (ShiftRows (suc k)) refl)

  pub all_shifts : (columns rows : ℕ) → AreAll kind (shift_moves columns rows)
  all_shifts columns rows = All-append Is (needed_column_shift columns) (needed_row_shift rows) (all_column_shift columns) (all_row_shift rows)

  all_link : (link : Link) → kind link.step ≡ true → AreAll kind (link_moves link)
  all_link link is =
      let before : List Move = shift_moves link.before.0 link.before.1 in
      let after : List Move = shift_moves link.after.0 link.after.1 in
      All-append Is (before ++ link.step ∷ []) after
      (All-push Is before link.step (all_shifts link.before.0 link.before.1) is)
      (all_shifts link.after.0 link.after.1)

  -- a list written backwards, with a link or with shifts at its end
  pub all_start : (back after : List Move) (link : Link)
      → back ≡ []
      → after ≡ back ++ reverse (link_moves link)
      → kind link.step ≡ true
      → AreAll kind after
  all_start back after link empty is step =
      all_more back (reverse (link_moves link)) after is (subst (AreAll kind) (sym empty) (All-nil Is))
      (all_reversed (link_moves link) (all_link link step))

  pub all_on : (d : Diagram) (members : List Member) (here : ℕ) (origin : MemberOrigin) (key : Packed) (back after : List Move)
      → 0 < here
      → AreLinked d members
      → slice_get members here ≡ Some (key, origin)
      → after ≡ back ++ reverse (link_moves origin.link)
      → AreAll kind back
      → AreAll kind after
  all_on d members zero origin key back after lt ways stands is are = absurd (omega (arith, lt))
  all_on d members (suc here) origin key back after lt ways stands is are =
      let link : Link = origin.link in
      let step : kind link.step ≡ true = has link.step (ways.child here (key, origin) stands).exchanges in
      all_more back (reverse (link_moves link)) after is are (all_reversed (link_moves link) (all_link link step))

  pub all_end : (back after : List Move) (columns rows : ℕ)
      → after ≡ back ++ reverse (shift_moves columns rows)
      → AreAll kind back
      → AreAll kind (reverse after)
  all_end back after columns rows is are =
      let shifts : List Move = shift_moves columns rows in
      let backwards = all_reversed shifts (all_shifts columns rows) in
      all_reversed after (all_more back (reverse shifts) after is are backwards)
