-- Quandle items up to the first line that does not begin with `quandle`.
use Rattle.std.proofs.Common.{◌≡◌, ℕ, zero, suc, List, [], ◌∷◌, ◌++◌, Bool, true, false, Result, Ok, Err, refl, sym, ap, subst, ◌∙◌, inl, inr, ◌⊎◌, codes}
use Rattle.std.proofs.lemmas.Bool.{both_ways}
use Rattle.text_lines.specs.Lines.{NumberedLine, Text, first_starts}
use Rattle.text_items.specs.declared.fault.TextFault.{TextFault}
use Rattle.text_items.specs.declared.fault.TextFault.TheVariants.{Limit}
use Rattle.text_items.specs.declared.quandles.TheConstants.{MAX_QUANDLES}
use Rattle.quandle_core.specs.Names.{NamedQuandle}
use Rattle.text_items.specs.Quandles.{or_built_in}
use Rattle.text_items.specs.Reading.{◌>>=◌, next_line, word}
use Rattle.text_items.specs.Quandles.{written_at, quandle_item, surplus_quandle, quandles, quandle_list}
use Rattle.knot_text.specs.FirstBadLine.{lines_then, FailsAtEnd}
use Rattle.knot_text.proofs.Steady.{Stop, Took, AreTaken, BadLine, Steady, then_read, bind_ok, bind_err, ok_is, then_steady}
use Rattle.knot_text.proofs.AtLine.{At, at_limit, at_bind, at_same, word_at, word_keeps}
use Rattle.knot_text.proofs.ItemsAtLine.{written_at_at, written_keeps}
use Rattle.knot_text.proofs.ItemsSteady.{quandle_steady}
use Rattle.knot_text.proofs.FirstFault.{IsSeenFirst}

-- the first line, if there is one, does not begin with `quandle`
abbrev pub AtOther : Stop
AtOther lines = first_starts (codes "quandle") lines ≡ false

other_front : (xs ys : List NumberedLine) → AtOther (xs ++ ys) → AtOther xs
other_front [] ys other = refl
other_front (x ∷ xs) ys other = other

other_same : (xs ys zs : List NumberedLine) (line : NumberedLine) → AtOther (xs ++ line ∷ ys) → AtOther (xs ++ line ∷ zs)
other_same [] ys zs line other = other
other_same (x ∷ xs) ys zs line other = other

pub other_seen : IsSeenFirst AtOther
other_seen = record { none = refl; front = other_front; same = other_same }

pub other_behind : (xs ys : List NumberedLine) → AtOther xs → AtOther ys → AtOther (xs ++ ys)
other_behind [] ys other end = end
other_behind (x ∷ xs) ys other end = other

-- the same where the first line begins with `quandle`
begins_same : (xs ys zs : List NumberedLine) (line : NumberedLine) → first_starts (codes "quandle") (xs ++ line ∷ ys) ≡ true
    → first_starts (codes "quandle") (xs ++ line ∷ zs) ≡ true
begins_same [] ys zs line is = is
begins_same (x ∷ xs) ys zs line is = is

begins_used : (used rest more : List NumberedLine) → first_starts (codes "quandle") (used ++ rest) ≡ true → AtOther rest
    → first_starts (codes "quandle") (used ++ more) ≡ true
begins_used [] rest more is other = absurd (both_ways (first_starts (codes "quandle") rest) other is)
begins_used (x ∷ used) rest more is other = is

-- ---- a map behind a reader that stops at other lines

pub map_steady : {A B : Type 0} (Stops : Stop) (r : Text → Result (A × Text) TextFault) (f : A → B) → Steady Stops r
    → Steady Stops (then_read r (λ x text. Ok (f x, text)))
map_steady {A} {B} Stops r f steady = record {
  took = λ text value rest is.
      let b = bind_ok (r text) (λ x. Ok (f x.0, x.1)) (value, rest) is in
      let t = steady.took text b.0.0 b.0.1 b.1 in
      let same = ok_is (f b.0.0, b.0.1) (value, rest) b.2 in
      let made : Took Stops (then_read r (λ x text. Ok (f x, text))) text (f b.0.0) b.0.1 = record {
        used = t.used;
        lines = t.lines;
        ending = t.ending;
        stops = t.stops;
        again = λ more e stop. ap (λ s. s >>= λ x. Ok (f x.0, x.1)) (t.again more e stop);
      } in
      subst (λ (y : B × Text). Took Stops (then_read r (λ x text. Ok (f x, text))) text y.0 y.1) same made;
  failed = λ text fault is. elim (bind_err (r text) (λ x. Ok (f x.0, x.1)) fault is) [
    | inl e ↦ elim (steady.failed text fault e) [
      | inl bad ↦ inl (record {
        front = bad.front;
        line = bad.line;
        behind = bad.behind;
        lines = bad.lines;
        names = bad.names;
        good = λ ending. elim (bad.good ending) [
          | inl taken ↦ inl (f taken.0, ap (λ s. s >>= λ x. Ok (f x.0, x.1)) taken.1)
          | inr due ↦ inr (ap (λ s. s >>= λ x. Ok (f x.0, x.1)) due)
        ];
        decided = λ behind ending. ap (λ s. s >>= λ x. Ok (f x.0, x.1)) (bad.decided behind ending);
      })
      | inr end ↦ inr (record { names = end.names; due = λ ending. ap (λ s. s >>= λ x. Ok (f x.0, x.1)) (end.due ending) })
    ]
    | inr w ↦ absurd (let no = w.2 in cc)
  ];
}

-- ---- one quandle too many

abbrev surplus_line : NumberedLine → Result (List NamedQuandle × Text) TextFault
surplus_line line = word (codes "quandle") line >>= λ rest. written_at rest >>= λ name. Err (Limit name.1.number)

surplus_at : (line : NumberedLine) → At line.number (surplus_line line)
surplus_at line =
    at_bind (word_at (codes "quandle") line) (λ rest e.
    let same = (word_keeps (codes "quandle") line).of rest e in
    at_bind (at_same same (written_at_at rest)) (λ name g. at_same ((written_keeps rest).of name g ∙ same) at_limit))

surplus_not_read : (line : NumberedLine) (x : List NamedQuandle × Text) → surplus_line line ≡ Ok x → ⊥
surplus_not_read line x is =
    let a = bind_ok (word (codes "quandle") line) (λ rest. written_at rest >>= λ name. Err (Limit name.1.number)) x is in
    let b = bind_ok (written_at a.0) (λ name. Err (Limit name.1.number)) x a.2 in
    let no = b.2 in
    cc

-- ---- quandle items

-- no item is left to be read
none_took : (room : ℕ) (text : Text) (value : List NamedQuandle) (rest : Text)
    → ((more : List NumberedLine) (e : ℕ) → AtOther more → quandles room (lines_then more e) ≡ Ok ([], lines_then more e)) → AtOther text.lines
    → ◌≡◌ {A = Result (List NamedQuandle × Text) TextFault} (Ok ([], text)) (Ok (value, rest)) → Took AtOther (quandles room) text value rest
none_took room text value rest ends other is =
    let same = ok_is ([], text) (value, rest) is in
    let made : Took AtOther (quandles room) text [] text =
    record { used = []; lines = refl; ending = refl; stops = other; again = λ more e stop. ends more e stop } in
    subst (λ (y : List NamedQuandle × Text). Took AtOther (quandles room) text y.0 y.1) same made

pub ends_here : (room : ℕ) (more : List NumberedLine) (e : ℕ) → AtOther more → quandles room (lines_then more e) ≡ Ok ([], lines_then more e)
unfolding quandles
ends_here zero more e other = rw other refl
ends_here (suc room) more e other = rw other refl

-- no room is left
over_is : (line : NumberedLine) (lines : List NumberedLine) (e : ℕ) → first_starts (codes "quandle") (line ∷ lines) ≡ true
    → quandles zero (lines_then (line ∷ lines) e) ≡ surplus_line line
unfolding quandles surplus_quandle next_line
over_is line lines e is = rw is refl

zero_took : (lines : List NumberedLine) (ending : ℕ) (t : Bool) → first_starts (codes "quandle") lines ≡ t → (value : List NamedQuandle) (rest : Text)
    → quandles zero (lines_then lines ending) ≡ Ok (value, rest) → Took AtOther (quandles zero) (lines_then lines ending) value rest
zero_took lines ending false begin value rest is =
    none_took zero (lines_then lines ending) value rest (ends_here zero) begin (sym (ends_here zero lines ending begin) ∙ is)
zero_took [] ending true begin value rest is = absurd cc
zero_took (line ∷ lines) ending true begin value rest is = absurd (surplus_not_read line (value, rest) (sym (over_is line lines ending begin) ∙ is))

zero_failed : (lines : List NumberedLine) (ending : ℕ) (t : Bool) → first_starts (codes "quandle") lines ≡ t → (fault : TextFault)
    → quandles zero (lines_then lines ending) ≡ Err fault
    → BadLine (quandles zero) (lines_then lines ending) fault ⊎ FailsAtEnd (quandles zero) (lines_then lines ending) fault
zero_failed lines ending false begin fault is = absurd (let no = sym (ends_here zero lines ending begin) ∙ is in cc)
zero_failed [] ending true begin fault is = absurd cc
zero_failed (line ∷ lines) ending true begin fault is =
    let bad : surplus_line line ≡ Err fault = sym (over_is line lines ending begin) ∙ is in
    inl (record {
      front = [];
      line = line;
      behind = lines;
      lines = refl;
      names = (surplus_at line).of fault bad;
      good = λ e. inl ([], ends_here zero [] e refl);
      decided = λ behind e. over_is line behind e begin ∙ bad;
    })

zero_steady : Steady AtOther (quandles zero)
zero_steady = record {
  took = λ text value rest is. zero_took text.lines text.ending (first_starts (codes "quandle") text.lines) refl value rest is;
  failed = λ text fault is. zero_failed text.lines text.ending (first_starts (codes "quandle") text.lines) refl fault is;
}

-- one item and what follows it
abbrev some_items : ℕ → Text → Result (List NamedQuandle × Text) TextFault
some_items room = then_read quandle_item (λ first. then_read (quandles room) (λ others text. Ok (first ∷ others, text)))

some_is : (room : ℕ) (text : Text) → first_starts (codes "quandle") text.lines ≡ true → quandles (suc room) text ≡ some_items room text
unfolding quandles
some_is room text is = rw is refl

suc_took : (room : ℕ) → Steady AtOther (some_items room) → (text : Text) (t : Bool) → first_starts (codes "quandle") text.lines ≡ t
    → (value : List NamedQuandle) (rest : Text) → quandles (suc room) text ≡ Ok (value, rest) → Took AtOther (quandles (suc room)) text value rest
suc_took room steady text false begin value rest is =
    none_took (suc room) text value rest (ends_here (suc room)) begin (sym (ends_here (suc room) text.lines text.ending begin) ∙ is)
suc_took room steady text true begin value rest is =
    let t = steady.took text value rest (sym (some_is room text begin) ∙ is) in
    let start : first_starts (codes "quandle") (t.used ++ rest.lines) ≡ true =
    subst (λ (ls : List NumberedLine). first_starts (codes "quandle") ls ≡ true) t.lines begin in
    record {
      used = t.used;
      lines = t.lines;
      ending = t.ending;
      stops = t.stops;
      again = λ more e stop. some_is room (lines_then (t.used ++ more) e) (begins_used t.used rest.lines more start t.stops) ∙ t.again more e stop;
    }

-- the lines before a bad one
suc_good : (room : ℕ) (front behind : List NumberedLine) (line : NumberedLine) → first_starts (codes "quandle") (front ++ line ∷ behind) ≡ true
    → AreTaken (some_items room) front → AreTaken (quandles (suc room)) front
suc_good room [] behind line begin good e = inl ([], ends_here (suc room) [] e refl)
suc_good room (x ∷ front) behind line begin good e = elim (good e) [
  | inl taken ↦ inl (taken.0, some_is room (lines_then (x ∷ front) e) begin ∙ taken.1)
  | inr due ↦ inr (some_is room (lines_then (x ∷ front) e) begin ∙ due)
]

suc_failed : (room : ℕ) → Steady AtOther (some_items room) → (text : Text) (t : Bool) → first_starts (codes "quandle") text.lines ≡ t
    → (fault : TextFault) → quandles (suc room) text ≡ Err fault
    → BadLine (quandles (suc room)) text fault ⊎ FailsAtEnd (quandles (suc room)) text fault
suc_failed room steady text false begin fault is = absurd (let no = sym (ends_here (suc room) text.lines text.ending begin) ∙ is in cc)
suc_failed room steady text true begin fault is = elim (steady.failed text fault (sym (some_is room text begin) ∙ is)) [
  | inl bad ↦
      let start : first_starts (codes "quandle") (bad.front ++ bad.line ∷ bad.behind) ≡ true =
      subst (λ (ls : List NumberedLine). first_starts (codes "quandle") ls ≡ true) bad.lines begin in
      inl (record {
        front = bad.front;
        line = bad.line;
        behind = bad.behind;
        lines = bad.lines;
        names = bad.names;
        good = suc_good room bad.front bad.behind bad.line start bad.good;
        decided = λ behind e. some_is room (lines_then (bad.front ++ bad.line ∷ behind) e) (begins_same bad.front bad.behind behind bad.line start)
            ∙ bad.decided behind e;
      })
  | inr end ↦ inr (record { names = end.names; due = λ e. some_is room (lines_then text.lines e) begin ∙ end.due e })
]

pub quandles_steady : (room : ℕ) → Steady AtOther (quandles room)
quandles_steady zero = zero_steady
quandles_steady (suc room) =
    let some : Steady AtOther (some_items room) =
    then_steady AtOther quandle_item (λ first. then_read (quandles room) (λ others text. Ok (first ∷ others, text))) quandle_steady
    (λ first. map_steady AtOther (quandles room) (λ others. first ∷ others) (quandles_steady room)) in
    record {
      took = λ text value rest is. suc_took room some text (first_starts (codes "quandle") text.lines) refl value rest is;
      failed = λ text fault is. suc_failed room some text (first_starts (codes "quandle") text.lines) refl fault is;
    }

pub list_steady : Steady AtOther quandle_list
unfolding quandle_list
list_steady = map_steady AtOther (quandles MAX_QUANDLES) or_built_in (quandles_steady MAX_QUANDLES)
