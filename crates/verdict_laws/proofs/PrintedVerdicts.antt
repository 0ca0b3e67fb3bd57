-- What holds has a text.
use Rattle.std.proofs.Common.{rules, ◌≡◌, ◌≤◌, ◌^◌, ◌∙◌, ap, sym, refl, subst, ℕ, List, [], ◌∷◌, Bool, true, false, cond, Option, Some, None, length, arith}
use Rattle.std.specs.List.{AllByRecursion, filter, find}
use Rattle.std.proofs.lemmas.Bool.{leb-true}
use Rattle.std.proofs.lemmas.List.{length-map}
use Rattle.arrayvec.specs.ArrayVec.{ArrayVec}
use Rattle.grid_core.specs.Diagram.{Diagram, IsGrid, size}
use Rattle.grid_core.specs.Parts.{bottoms}
use Rattle.grid_moves.specs.declared.step.Move.{Move}
use Rattle.grid_moves.specs.declared.step.Move.TheVariants.{ShiftColumns, ShiftRows, ExchangeColumns, ExchangeRows, SlideColumns, SlideRows, Stabilise}
use Rattle.grid_moves.specs.declared.step.Move.TheVariants.{Destabilise}
use Rattle.grid_moves.specs.Step.{Step}
use Rattle.grid_moves.specs.Joining.{Joins}
use Rattle.quandle_core.specs.Quandle.{Table, IsQuandle}
use Rattle.quandle_core.specs.Colours.{all_lists}
use Rattle.colour_rows.specs.Colouring.{AreColours, is_colouring}
use Rattle.colour_rows.proofs.Colourings.{coloured}
use Rattle.colour_list.specs.Listing.{colourings, lists_of}
use Rattle.colour_list.specs.Fits.{fits}
use Rattle.colour_list.specs.declared.limits.TheConstants.{MAX_COLOURINGS}
use Rattle.quandle_core.specs.Names.{NamedQuandle}
use Rattle.verdict_core.specs.declared.verdict.Verdict.{Verdict}
use Rattle.verdict_core.specs.declared.verdict.Verdict.TheVariants.{Equal, Different, UnknownBudget, UnknownExhausted}
use Rattle.verdict_core.specs.Evidence.{VerdictHolds, TellsApart}
use Rattle.quandle_core.proofs.Named.{named_is}
use Rattle.text_items.specs.declared.reading.TheConstants.{MAX_NUMBER}
use Rattle.knot_text.specs.Printed.{HasMoveText, HaveMovesText, HasListText, HasQuandleText, HasVerdictText}
use Rattle.verdict_laws.specs.VerdictDecision.{IsByWrittenQuandle, HasFewMoves}

-- ---- moves

-- the numbers of a legal move are those of columns and rows
move_text : (d e : Diagram) (move : Move) → Step d move e → HasMoveText move
move_text d e (ShiftColumns k) step = let most = step.marks.most in let fits = step.before.most in omega (arith, most, fits)
move_text d e (ShiftRows k) step = let most = step.marks.most in let fits = step.before.most in omega (arith, most, fits)
move_text d e (ExchangeColumns c) step = let most = step.marks.inside in let fits = step.before.most in omega (arith, most, fits)
move_text d e (ExchangeRows r) step = let most = step.marks.inside in let fits = step.before.most in omega (arith, most, fits)
move_text d e (SlideColumns c) step = let most = step.marks.inside in let fits = step.before.most in omega (arith, most, fits)
move_text d e (SlideRows r) step = let most = step.marks.inside in let fits = step.before.most in omega (arith, most, fits)
move_text d e (Stabilise c kind corner) step = let most = step.marks.1.1.marked.inside in let fits = step.before.most in omega (arith, most, fits)
move_text d e (Destabilise c r) step =
    let columns = step.marks.columns in
    let rows = step.marks.rows in
    let fits = step.before.most in
    (omega (arith, columns, fits), omega (arith, rows, fits))

each_move : (moves : List Move) (d e : Diagram) → Joins d moves e → AllByRecursion HasMoveText moves
each_move [] d e joins = search rules
each_move (move ∷ moves) d e joins = (move_text d joins.0 move joins.1.0, each_move moves joins.0 e joins.1.1)

pub moves_text : (moves : List Move) (d e : Diagram) → Joins d moves e → length moves ≤ MAX_NUMBER → HaveMovesText moves
moves_text moves d e joins few = record { count = few; each = each_move moves d e joins }

-- ---- lists of colourings

-- what is kept passes the test
kept_by : (p : List ℕ → Bool) (x : List ℕ) (rest : List (List ℕ)) (t : Bool) → p x ≡ t → AllByRecursion (λ y. p y ≡ true) rest
    → AllByRecursion (λ y. p y ≡ true) (cond t (x ∷ rest) rest)
kept_by p x rest true is all = (is, all)
kept_by p x rest false is all = all

kept : (p : List ℕ → Bool) (xs : List (List ℕ)) → AllByRecursion (λ y. p y ≡ true) (filter p xs)
kept p [] = search rules
kept p (x ∷ xs) = kept_by p x (filter p xs) (p x) refl (kept p xs)

of_each : (P Q : List ℕ → Type 0) (xs : List (List ℕ)) → ((x : List ℕ) → P x → Q x) → AllByRecursion P xs → AllByRecursion Q xs
of_each P Q [] implies all = search rules
of_each P Q (x ∷ xs) implies all = (implies x all.0, of_each P Q xs implies all.1)

of_items : (Q : List ℕ → Type 0) (lists : List (ArrayVec ℕ)) → AllByRecursion Q (lists_of lists) → AllByRecursion (λ (c : ArrayVec ℕ). Q c.items) lists
of_items Q [] all = search rules
of_items Q (c ∷ lists) all = (all.0, of_items Q lists all.1)

lists_text : (t : Table) (d : Diagram) (lists : List (ArrayVec ℕ)) → lists_of lists ≡ colourings t d → length lists ≤ MAX_COLOURINGS
    → HasListText (size d) t.order lists
lists_text t d lists is few = record {
  count = few;
  each = of_items (AreColours (size d) t.order) lists (subst (AllByRecursion (AreColours (size d) t.order)) (sym is)
      (of_each (λ c. is_colouring t d c ≡ true) (AreColours (size d) t.order) (colourings t d) (λ c colouring. (coloured t d c colouring).colours_are)
      (kept (is_colouring t d) (all_lists t.order (size d)))));
}

-- ---- verdicts

-- the law that a diagram has at most as many colourings as choices of a colour for each bottom
abbrev pub FewColourings : Type 0
FewColourings = (t : Table) (d : Diagram) → IsQuandle t → IsGrid d → length (colourings t d) ≤ t.order ^ bottoms d

-- so the complete list of a quandle that fits is not too long
few_listed : FewColourings → (t : Table) (d : Diagram) → IsQuandle t → IsGrid d → fits t d ≡ true → (lists : List (ArrayVec ℕ))
    → lists_of lists ≡ colourings t d
    → length lists ≤ MAX_COLOURINGS
few_listed few t d quandle grid fitting lists complete =
    let within = leb-true (t.order ^ bottoms d) MAX_COLOURINGS fitting in
    let most = few t d quandle grid in
    let same : length (colourings t d) ≡ length lists = ap length (sym complete) ∙ length-map lists (λ (c : ArrayVec ℕ). c.items) in
    omega arith

-- the lists by which a quandle that has a text tells diagrams apart have texts
pub told_text : FewColourings → (d e : Diagram) (q : NamedQuandle) (one two : List (ArrayVec ℕ)) → IsGrid d → IsGrid e → HasQuandleText q
    → TellsApart q.table d e (lists_of one) (lists_of two) → HasVerdictText (size d) (size e) (Different q one two)
told_text few d e q one two first second named told =
    let quandle = named_is q.name q.table named.names in
    let of_first = few_listed few q.table d quandle first told.fits_first one told.first in
    let of_second = few_listed few q.table e quandle second told.fits_second two told.second in
    (named, lists_text q.table d one told.first of_first, lists_text q.table e two told.second of_second)

-- a verdict that holds, and whose moves, if any, are few
pub held_text : FewColourings → (d e : Diagram) (v : Verdict) → IsGrid d → IsGrid e → IsByWrittenQuandle v → VerdictHolds d e v → HasFewMoves v
    → HasVerdictText (size d) (size e) v
held_text few d e (Equal moves) first second written holds short = moves_text moves d e holds short
held_text few d e (Different q one two) first second named told short = told_text few d e q one two first second named told
held_text few d e (UnknownBudget budget) first second written holds short = absurd holds
held_text few d e (UnknownExhausted cap k) first second written holds short = absurd holds

-- what is found stands in the list
found_by : (P : NamedQuandle → Type 0) (p : NamedQuandle → Bool) (q r : NamedQuandle) (rest : List NamedQuandle) (t : Bool)
    → cond t (Some q) (find p rest) ≡ Some r → P q → (find p rest ≡ Some r → P r) → P r
found_by P p q r rest true is here later = let same : q ≡ r = cc in subst P same here
found_by P p q r rest false is here later = later is

pub found : (P : NamedQuandle → Type 0) (p : NamedQuandle → Bool) (qs : List NamedQuandle) (r : NamedQuandle) → AllByRecursion P qs → find p qs ≡ Some r → P r
found P p [] r all is = absurd (let wrong : ◌≡◌ {A = Option NamedQuandle} None (Some r) = is in cc)
found P p (q ∷ qs) r all is = found_by P p q r qs (p q) is all.0 (found P p qs r all.1)
