-- The colours that a replay is given are colours: one below the order of their quandle for each column of the diagram.
use Rattle.std.proofs.Common.{◌≡◌, ℕ, List, Bool, true, false, cond, Option, Some, None, Ok, Err, refl, subst, codes}
use Rattle.arrayvec.specs.ArrayVec.{ArrayVec}
use Rattle.colour_rows.specs.Colouring.{AreColours, are_colours}
use Rattle.colour_rows.proofs.Colourings.{colours_from}
use Rattle.text_lines.specs.Lines.{NumberedLine, Text, first_starts}
use Rattle.text_items.specs.declared.fault.TextFault.TheVariants.{Malformed}
use Rattle.knot_text.specs.declared.shapes.ReplayText.{ReplayText}
use Rattle.quandle_core.specs.Names.{NamedQuandle}
use Rattle.text_items.specs.Reading.{◌>>=◌, next_line, text_end}
use Rattle.text_items.specs.Numbers.{numbers_behind}
use Rattle.verdict_text.specs.Moves.{moves_item}
use Rattle.text_items.specs.Quandles.{quandle_item}
use Rattle.knot_text.specs.Colours.{colours_at, colours_item, coloured_item, some_coloured, coloured}
use Rattle.verdict_core.specs.Diagrams.{column_count}
use Rattle.verdict_text.specs.Diagrams.{diagram_item}
use Rattle.knot_text.specs.Shapes.{replay_in}
use Rattle.knot_text.proofs.Steady.{bind_ok, ok_is}

-- a quandle with colours for so many columns, if there are any
abbrev Given : Type 0
Given = Option (NamedQuandle × ArrayVec ℕ)

abbrev AreGiven : ℕ → Given → Type 0
AreGiven width None = Unit {0}
AreGiven width (Some given) = AreColours width given.0.table.order given.1.items

tested : (width order n : ℕ) (cs : List ℕ) (c : ArrayVec ℕ) (t : Bool) → are_colours width order cs ≡ t
    → cond t (Ok (record { items = cs })) (Err (Malformed n)) ≡ Ok c → AreColours width order c.items
tested width order n cs c true test is =
    subst (λ (x : ArrayVec ℕ). AreColours width order x.items) (ok_is (record { items = cs }) c is) (colours_from width order cs test)
tested width order n cs c false test is = absurd cc

line_is : (width order : ℕ) (line : NumberedLine) (c : ArrayVec ℕ) → colours_at width order line ≡ Ok c → AreColours width order c.items
unfolding colours_at
line_is width order line c is =
    let b = bind_ok (numbers_behind (codes "colours") line) (λ cs. cond (are_colours width order cs) (Ok (record { items = cs }))
    (Err (Malformed line.number))) c is in
    tested width order line.number b.0 c (are_colours width order b.0) refl b.2

colours_are : (width order : ℕ) (text : Text) (c : ArrayVec ℕ) (rest : Text) → colours_item width order text ≡ Ok (c, rest) → AreColours width order c.items
unfolding colours_item
colours_are width order text c rest is =
    let a = bind_ok (next_line text) (λ line. colours_at width order line.0 >>= λ c. Ok (c, line.1)) (c, rest) is in
    let e = bind_ok (colours_at width order a.0.0) (λ c. Ok (c, a.0.1)) (c, rest) a.2 in
    let same = ok_is (e.0, a.0.1) (c, rest) e.2 in
    subst (λ (y : ArrayVec ℕ × Text). AreColours width order y.0.items) {x = (e.0, a.0.1)} same (line_is width order a.0.0 e.0 e.1)

some_are : (width : ℕ) (text : Text) (given : NamedQuandle × ArrayVec ℕ) (rest : Text) → coloured_item width text ≡ Ok (given, rest)
    → AreGiven width (Some given)
unfolding coloured_item
some_are width text given rest is =
    let a = bind_ok (quandle_item text) (λ q. colours_item width q.0.table.order q.1 >>= λ c. Ok ((q.0, c.0), c.1)) (given, rest) is in
    let b = bind_ok (colours_item width a.0.0.table.order a.0.1) (λ c. Ok ((a.0.0, c.0), c.1)) (given, rest) a.2 in
    let same = ok_is ((a.0.0, b.0.0), b.0.1) (given, rest) b.2 in
    subst (λ (y : (NamedQuandle × ArrayVec ℕ) × Text). AreGiven width (Some y.0)) {x = ((a.0.0, b.0.0), b.0.1)} same
    (colours_are width a.0.0.table.order a.0.1 b.0.0 b.0.1 b.1)

given_are : (width : ℕ) (text : Text) (g : Given) (rest : Text) → coloured width text ≡ Ok (g, rest) → AreGiven width g
unfolding coloured
given_are width text g rest is = by (first_starts (codes "quandle") text.lines) is
  where
    by : (t : Bool) → cond t (some_coloured width text) (Ok (None, text)) ≡ Ok (g, rest) → AreGiven width g
    by true is =
        let b = bind_ok (coloured_item width text) (λ item. Ok (Some item.0, item.1)) (g, rest) is in
        let same = ok_is (Some b.0.0, b.0.1) (g, rest) b.2 in
        subst (λ (y : Given × Text). AreGiven width y.0) {x = (Some b.0.0, b.0.1)} same (some_are width text b.0.0 b.0.1 b.1)
    by false is = subst (λ (y : Given × Text). AreGiven width y.0) {x = (None, text)} (ok_is (None, text) (g, rest) is) tt

replay_given : (text : Text) (r : ReplayText) → replay_in text ≡ Ok r → AreGiven (column_count r.diagram) r.colours
unfolding replay_in
replay_given text r is =
    let a = bind_ok (diagram_item text) (λ d. moves_item d.1 >>= λ m. coloured (column_count d.0) m.1 >>= λ g. text_end g.1
    >>= λ end. Ok (record { diagram = d.0; moves = m.0; colours = g.0 })) r is in
    let b = bind_ok (moves_item a.0.1) (λ m. coloured (column_count a.0.0) m.1 >>= λ g. text_end g.1
    >>= λ end. Ok (record { diagram = a.0.0; moves = m.0; colours = g.0 })) r a.2 in
    let c = bind_ok (coloured (column_count a.0.0) b.0.1) (λ g. text_end g.1 >>= λ end. Ok (record { diagram = a.0.0; moves = b.0.0; colours = g.0 })) r b.2 in
    let e = bind_ok (text_end c.0.1) (λ end. Ok (record { diagram = a.0.0; moves = b.0.0; colours = c.0.0 })) r c.2 in
    let same = ok_is (record { diagram = a.0.0; moves = b.0.0; colours = c.0.0 }) r e.2 in
    subst (λ (x : ReplayText). AreGiven (column_count x.diagram) x.colours) {x = record { diagram = a.0.0; moves = b.0.0; colours = c.0.0 }} same
    (given_are (column_count a.0.0) b.0.1 c.0.0 c.0.1 c.1)

pub replay_colours : (text : Text) (r : ReplayText) (q : NamedQuandle) (c : ArrayVec ℕ) → replay_in text ≡ Ok r → r.colours ≡ Some (q, c)
    → AreColours (column_count r.diagram) q.table.order c.items
replay_colours text r q c is given = subst (λ (g : Given). AreGiven (column_count r.diagram) g) given (replay_given text r is)
