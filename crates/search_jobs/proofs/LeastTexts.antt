-- What a text of `least` tells: the diagram with which it begins, and whether the whole class was seen.
use Rattle.std.proofs.Common.{◌≡◌, ◌∙◌, ◌++◌, ◌∷◌, ◌^◌, ◌<◌, ◌+◌, ◌%◌, ◌↔◌, ℕ, List, [], Ok}
use Rattle.std.proofs.Common.{get_or, reverse, refl, sym, ap, subst, arith, codes, append_assoc}
use Rattle.std.specs.Fmt.{decimal}
use Rattle.std.proofs.lemmas.Fmt.{decimal_by_steps}
use Rattle.std.proofs.lemmas.List.{append-nil, reverse-append}
use Rattle.std.proofs.lemmas.List.Concat.{flat_map-cons}
use Rattle.grid_core.specs.Diagram.{Diagram as Marks, IsGrid, size}
use Rattle.grid_moves.proofs.Within.{joins_grid, within_joins}
use Rattle.mono_simplify.specs.ExchangeClass.{JoinedByExchanges}
use Rattle.mono_simplify.specs.declared.least.LeastEnd.{LeastEnd}
use Rattle.mono_simplify.specs.declared.least.LeastEnd.TheVariants.{Whole, Spent}
use Rattle.mono_simplify.specs.declared.least.LeastGrid.{LeastGrid}
use Rattle.mono_simplify.specs.Least.{IsLeastReached, EndsAt}
use Rattle.mono_simplify.proofs.LeastClass.{least_once, least_joins}
use Rattle.text_lines.specs.Lines.{Text, text_from, text_of}
use Rattle.text_lines.specs.Spelled.{spaced}
use Rattle.text_items.specs.Grids.{grid_item}
use Rattle.verdict_core.specs.declared.diagrams.Diagram.{Diagram}
use Rattle.verdict_core.specs.Diagrams.{grid_of}
use Rattle.knot_text.specs.Printed.{grid_text, moves_text}
use Rattle.knot_text.proofs.ReadBack.{grid_read}
use Rattle.knot_text.proofs.Steady.{ok_is}
use Rattle.reply_text.specs.declared.reply.PlainReply.{PlainReply}
use Rattle.reply_text.specs.Reply.{done}
use Rattle.search_jobs.specs.Least.{least_end_line, AnswersLeast, TellsWhole}

-- ---- the last line

-- the last digit of a number
record LastDigit (digits : List ℕ) : Type 0 where
  front : List ℕ
  last : ℕ
  small : last < 10
  is : digits ≡ front ++ (48 + last) ∷ []

last_digit : (n : ℕ) → n < 2 ^ 64 → LastDigit (decimal n)
last_digit =
    decimal_by_steps (λ (m : ℕ) (ds : List ℕ). LastDigit ds) (λ m l. record { front = []; last = m; small = l; is = refl })
    (λ m ds l h. record { front = ds; last = m % 10; small = omega arith; is = refl })

spent_line : (n : ℕ) → least_end_line (Spent n) ≡ codes "spent " ++ (decimal n ++ codes "\n")
spent_line n =
    ap (λ (ds : List ℕ). (codes "spent" ++ ds) ++ codes "\n") (flat_map-cons spaced (decimal n) [] ∙ append-nil (spaced (decimal n)))

-- a line that ends with a number is not `whole`
number_ends : (front behind : List ℕ) (n : ℕ) → n < 2 ^ 64 → front ++ least_end_line (Spent n) ≡ behind ++ codes "whole\n" → ⊥
number_ends front behind n small same =
    let d = last_digit n small in
    let ending : List ℕ = (48 + d.last) ∷ codes "\n" in
    let words : List ℕ = codes "spent " ++ d.front in
    let line : least_end_line (Spent n) ≡ words ++ ending =
    spent_line n ∙ ap (λ (ds : List ℕ). codes "spent " ++ (ds ++ codes "\n")) d.is
    ∙ ap (λ (ds : List ℕ). codes "spent " ++ ds) (append_assoc d.front ((48 + d.last) ∷ []) (codes "\n")) in
    let all : (front ++ words) ++ ending ≡ behind ++ codes "whole\n" =
    append_assoc front words ending ∙ ap (λ (ds : List ℕ). front ++ ds) (sym line) ∙ same in
    let back : reverse ending ++ reverse (front ++ words) ≡ reverse (codes "whole\n") ++ reverse behind =
    sym (reverse-append (front ++ words) ending) ∙ ap reverse all ∙ reverse-append behind (codes "whole\n") in
    let letter : 48 + d.last ≡ 101 = ap (λ (bytes : List ℕ). get_or bytes 1 0) back in
    omega (arith, letter, d.small)

-- ---- a text that ends with `whole`

answered : (d : Diagram) (text : List ℕ) (budget : ℕ) (a : AnswersLeast budget d (done text))
    → text ≡ grid_text a.least.grid ++ (moves_text a.least.moves ++ least_end_line a.least.end)
answered d text budget a = ap (λ (r : PlainReply). r.text) a.is

begun : (d : Diagram) (text : List ℕ) (g : Marks) → IsGrid (grid_of d) → (t : TellsWhole d text g) → g ≡ t.answer.least.grid
begun d text g grid t =
    let l : LeastGrid = t.answer.least in
    let more : List ℕ = moves_text l.moves ++ least_end_line l.end in
    let joined = within_joins (size (grid_of d)) l.moves (grid_of d) l.grid t.answer.finds.joined in
    let here : IsGrid l.grid = joins_grid l.moves (grid_of d) l.grid grid joined in
    let read : grid_item (text_of text) ≡ Ok (l.grid, text_from (0 + 2) more) =
    ap (λ (bytes : List ℕ). grid_item (text_of bytes)) (answered d text t.budget t.answer) ∙ grid_read 0 l.grid more here in
    ap (λ (y : Marks × Text). y.0) (ok_is (g, t.rest) (l.grid, text_from (0 + 2) more) (sym t.begins ∙ read))

ended : (d : Diagram) (text : List ℕ) (g : Marks) (t : TellsWhole d text g) → t.answer.least.end ≡ Whole
ended d text g t =
    let l : LeastGrid = t.answer.least in
    by l.end t.answer.finds.end
    (answered d text t.budget t.answer ∙ sym (append_assoc (grid_text l.grid) (moves_text l.moves) (least_end_line l.end)))
  where
    front : List ℕ
    front = grid_text t.answer.least.grid ++ moves_text t.answer.least.moves

    by : (e : LeastEnd) → EndsAt (grid_of d) t.budget t.answer.least.grid e → text ≡ front ++ least_end_line e → e ≡ Whole
    by Whole at is = refl
    by (Spent members) at is =
        let same = at.0 in
        absurd (number_ends front t.front members (omega (arith, same, t.bounded)) (sym is ∙ t.ends))

pub tells_least : (d : Diagram) (text : List ℕ) (g : Marks) → IsGrid (grid_of d) → TellsWhole d text g → IsLeastReached (grid_of d) g
tells_least d text g grid t =
    let l : LeastGrid = t.answer.least in
    let end : EndsAt (grid_of d) t.budget l.grid Whole =
    subst (λ (e : LeastEnd). EndsAt (grid_of d) t.budget l.grid e) (ended d text g t) t.answer.finds.end in
    subst (λ (f : Marks). IsLeastReached (grid_of d) f) (sym (begun d text g grid t)) end.1

pub one_exactly : (d e : Diagram) (first second : List ℕ) (g h : Marks)
    → IsGrid (grid_of d)
    → IsGrid (grid_of e)
    → TellsWhole d first g
    → TellsWhole e second h
    → JoinedByExchanges (grid_of d) (grid_of e) ↔ (g ≡ h)
one_exactly d e first second g h one two s t =
    let a = tells_least d first g one s in
    let b = tells_least e second h two t in (
      λ joined. least_once (grid_of d) (grid_of e) g h joined a b,
      λ same. least_joins (grid_of d) (grid_of e) g a (subst (λ (f : Marks). IsLeastReached (grid_of e) f) (sym same) b),
    )
