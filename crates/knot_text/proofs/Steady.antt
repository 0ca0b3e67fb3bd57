-- Readers that take lines from the front alone and fail at the first bad line, and how larger ones are made of them.
use Rattle.std.proofs.Common.{◌≡◌, ℕ, zero, suc, List, [], ◌∷◌, ◌++◌, Result, Ok, Err, refl, sym, ap, ap₂, subst, ◌∙◌, append_assoc, inl, inr, ◌⊎◌}
use Rattle.text_lines.specs.Lines.{NumberedLine, Text}
use Rattle.text_items.specs.declared.fault.TextFault.{TextFault}
use Rattle.text_items.specs.declared.fault.TextFault.TheVariants.{Malformed}
use Rattle.text_items.specs.Reading.{◌>>=◌, in_turn, next_line}
use Rattle.knot_text.specs.FirstBadLine.{lines_then, IsStable, NamesLine, FailsAtEnd}

-- ---- what a reader took

-- lines at which a reader may stop
abbrev pub Stop : Type 1
Stop = List NumberedLine → Type 0

-- at any
abbrev pub Anywhere : Stop
Anywhere lines = Unit {0}

-- these lines were taken from the front, and are taken again whatever stands behind them, if the reader may stop there
pub record Took {A : Type 0} (Stops : Stop) (read : Text → Result (A × Text) TextFault) (text : Text) (value : A) (rest : Text) : Type 0 where
  pub used : List NumberedLine
  pub lines : text.lines ≡ used ++ rest.lines
  pub ending : rest.ending ≡ text.ending
  pub stops : Stops rest.lines
  pub again : (more : List NumberedLine) (ending : ℕ) → Stops more → read (lines_then (used ++ more) ending) ≡ Ok (value, lines_then more ending)

-- the lines before a bad line are good: nothing is left of them, or more is due
abbrev pub AreTaken : {A : Type 0} → (Text → Result (A × Text) TextFault) → List NumberedLine → Type 0
AreTaken {A} read lines =
    (ending : ℕ) → ((value : A) × (read (lines_then lines ending) ≡ Ok (value, lines_then [] ending)))
    ⊎ (read (lines_then lines ending) ≡ Err (Malformed ending))

pub record BadLine {A : Type 0} (read : Text → Result (A × Text) TextFault) (text : Text) (fault : TextFault) : Type 0 where
  pub front : List NumberedLine
  pub line : NumberedLine
  pub behind : List NumberedLine
  pub lines : text.lines ≡ front ++ line ∷ behind
  pub names : NamesLine fault line.number
  pub good : AreTaken read front
  pub decided : (behind : List NumberedLine) (ending : ℕ) → read (lines_then (front ++ line ∷ behind) ending) ≡ Err fault

pub record Steady {A : Type 0} (Stops : Stop) (read : Text → Result (A × Text) TextFault) : Type 0 where
  pub took : (text : Text) (value : A) (rest : Text) → read text ≡ Ok (value, rest) → Took Stops read text value rest
  pub failed : (text : Text) (fault : TextFault) → read text ≡ Err fault → BadLine read text fault ⊎ FailsAtEnd read text fault

-- ---- steps

pub bind_ok : {A B : Type 0} (r : Result A TextFault) (f : A → Result B TextFault) (y : B) → (r >>= f) ≡ Ok y → (x : A) × (r ≡ Ok x) × (f x ≡ Ok y)
bind_ok (Ok x) f y e = (x, refl, e)
bind_ok (Err d) f y e = absurd cc

pub bind_err : {A B : Type 0} (r : Result A TextFault) (f : A → Result B TextFault) (d : TextFault) → (r >>= f) ≡ Err d
    → (r ≡ Err d) ⊎ ((x : A) × (r ≡ Ok x) × (f x ≡ Err d))
bind_err (Ok x) f d e = inr (x, refl, e)
bind_err (Err c) f d e = let same : c ≡ d = cc in inl (ap (λ (x : TextFault). Err x) same)

-- one reader behind another
abbrev pub then_read : {A B : Type 0} → (Text → Result (A × Text) TextFault) → (A → Text → Result B TextFault) → Text → Result B TextFault
then_read r k text = r text >>= λ x. k x.0 x.1

pub then_ok : {A B : Type 0} (r : Text → Result (A × Text) TextFault) (k : A → Text → Result B TextFault) (text : Text) (a : A) (mid : Text)
    (y : Result B TextFault) → r text ≡ Ok (a, mid) → k a mid ≡ y → then_read r k text ≡ y
then_ok r k text a mid y first second = ap (λ s. s >>= λ x. k x.0 x.1) first ∙ second

pub then_err : {A B : Type 0} (r : Text → Result (A × Text) TextFault) (k : A → Text → Result B TextFault) (text : Text) (d : TextFault)
    → r text ≡ Err d → then_read r k text ≡ Err d
then_err r k text d first = ap (λ s. s >>= λ x. k x.0 x.1) first

abbrev done : {A : Type 0} → A → Result A TextFault
done x = Ok x

pub ok_is : {A : Type 0} (x y : A) → done x ≡ done y → x ≡ y
ok_is x y e = cc

-- a list with a line in it is not empty
pub no_line : (front behind : List NumberedLine) (line : NumberedLine) → [] ≡ front ++ line ∷ behind → ⊥
no_line [] behind line e = cc
no_line (x ∷ front) behind line e = cc

both_empty : (xs ys : List NumberedLine) → [] ≡ xs ++ ys → ys ≡ []
both_empty [] ys e = sym e
both_empty (x ∷ xs) ys e = absurd cc

pub regroup : (a b c : List NumberedLine) (ending : ℕ) → lines_then ((a ++ b) ++ c) ending ≡ lines_then (a ++ (b ++ c)) ending
regroup a b c ending = ap (λ (ls : List NumberedLine). lines_then ls ending) (append_assoc a b c)

-- ---- a reader on no lines

pub on_nothing : {A : Type 0} (Stops : Stop) (read : Text → Result (A × Text) TextFault) → Steady Stops read → AreTaken read []
on_nothing {A} Stops read steady ending = by (read (lines_then [] ending)) refl
  where
    by : (r : Result (A × Text) TextFault) → read (lines_then [] ending) ≡ r
        → ((value : A) × (read (lines_then [] ending) ≡ Ok (value, lines_then [] ending))) ⊎ (read (lines_then [] ending) ≡ Err (Malformed ending))
    by (Ok x) is =
        let t = steady.took (lines_then [] ending) x.0 x.1 is in
        let none : x.1.lines ≡ [] = both_empty t.used x.1.lines t.lines in
        let rest : x.1 ≡ lines_then [] ending = ap₂ lines_then none t.ending in
        inl (x.0, is ∙ ap (λ (s : Text). Ok (x.0, s)) rest)
    by (Err d) is =
        elim (steady.failed (lines_then [] ending) d is) [
          | inl bad ↦ absurd (no_line bad.front bad.behind bad.line bad.lines)
          | inr end ↦ inr (is ∙ ap (λ (x : TextFault). Err x) end.names)
        ]

-- ---- a reader of one line

pub line_steady : {A : Type 0} (g : NumberedLine → Result A TextFault)
    → ((line : NumberedLine) (fault : TextFault) → g line ≡ Err fault → NamesLine fault line.number)
    → Steady Anywhere (λ text. next_line text >>= λ line. g line.0 >>= λ x. Ok (x, line.1))
unfolding next_line
line_steady {A} g names = record {
  took = λ text value rest is. took_by text.lines text.ending value rest is;
  failed = λ text fault is. failed_by text.lines text.ending fault is;
}
  where
    read : Text → Result (A × Text) TextFault
    read text = next_line text >>= λ line. g line.0 >>= λ x. Ok (x, line.1)

    took_by : (lines : List NumberedLine) (ending : ℕ) (value : A) (rest : Text) → read (lines_then lines ending) ≡ Ok (value, rest)
        → Took Anywhere read (lines_then lines ending) value rest
    took_by [] ending value rest is = absurd cc
    took_by (line ∷ lines) ending value rest is =
        let b = bind_ok (g line) (λ x. Ok (x, lines_then lines ending)) (value, rest) is in
        let same = ok_is (b.0, lines_then lines ending) (value, rest) b.2 in
        let made : Took Anywhere read (lines_then (line ∷ lines) ending) b.0 (lines_then lines ending) = record {
          used = line ∷ [];
          lines = refl;
          ending = refl;
          stops = tt;
          again = λ more e stop. ap (λ s. s >>= λ x. Ok (x, lines_then more e)) b.1;
        } in
        subst (λ (y : A × Text). Took Anywhere read (lines_then (line ∷ lines) ending) y.0 y.1) same made

    failed_by : (lines : List NumberedLine) (ending : ℕ) (fault : TextFault) → read (lines_then lines ending) ≡ Err fault
        → BadLine read (lines_then lines ending) fault ⊎ FailsAtEnd read (lines_then lines ending) fault
    failed_by [] ending fault is =
        let same : Malformed ending ≡ fault = cc in
        inr (record { names = sym same; due = λ e. refl })
    failed_by (line ∷ lines) ending fault is =
        elim (bind_err (g line) (λ x. Ok (x, lines_then lines ending)) fault is) [
          | inl bad ↦ inl (record {
            front = [];
            line = line;
            behind = lines;
            lines = refl;
            names = names line fault bad;
            good = λ e. inr refl;
            decided = λ behind e. ap (λ s. s >>= λ x. Ok (x, lines_then behind e)) bad;
          })
          | inr other ↦ absurd (let no = other.2 in cc)
        ]

-- ---- a value alone

pub pure_steady : {A : Type 0} (value : A) → Steady Anywhere (λ text. Ok (value, text))
pure_steady {A} value = record {
  took = λ text v rest is.
      let same = ok_is (value, text) (v, rest) is in
      let made : Took Anywhere (λ t. Ok (value, t)) text value text =
      record { used = []; lines = refl; ending = refl; stops = tt; again = λ more e stop. refl } in
      subst (λ (y : A × Text). Took Anywhere (λ t. Ok (value, t)) text y.0 y.1) same made;
  failed = λ text fault is. absurd (let no = is in cc);
}

-- ---- the same reader in another form

pub same_steady : {A : Type 0} (Stops : Stop) (r s : Text → Result (A × Text) TextFault) → ((text : Text) → s text ≡ r text) → Steady Stops r → Steady Stops s
same_steady Stops r s same steady = record {
  took = λ text v rest is.
      let t = steady.took text v rest (sym (same text) ∙ is) in
      record {
        used = t.used;
        lines = t.lines;
        ending = t.ending;
        stops = t.stops;
        again = λ more e stop. same (lines_then (t.used ++ more) e)
            ∙ t.again more e stop;
      };
  failed = λ text fault is.
      elim (steady.failed text fault (sym (same text) ∙ is)) [
        | inl bad ↦ inl (record {
          front = bad.front;
          line = bad.line;
          behind = bad.behind;
          lines = bad.lines;
          names = bad.names;
          good = λ e. elim (bad.good e) [
            | inl taken ↦ inl (taken.0, same (lines_then bad.front e) ∙ taken.1)
            | inr due ↦ inr (same (lines_then bad.front e) ∙ due)
          ];
          decided = λ behind e. same (lines_then (bad.front ++ bad.line ∷ behind) e) ∙ bad.decided behind e;
        })
        | inr end ↦ inr (record { names = end.names; due = λ e. same (lines_then text.lines e) ∙ end.due e })
      ];
}

-- ---- a reader behind a reader

pub then_steady : {A B : Type 0} (Stops : Stop) (r : Text → Result (A × Text) TextFault) (k : A → Text → Result (B × Text) TextFault)
    → Steady Anywhere r → ((a : A) → Steady Stops (k a)) → Steady Stops (then_read r k)
then_steady {A} {B} Stops r k first second = record { took = took_both; failed = failed_both }
  where
    took_both : (text : Text) (value : B) (rest : Text) → then_read r k text ≡ Ok (value, rest) → Took Stops (then_read r k) text value rest
    took_both text value rest is =
        let b = bind_ok (r text) (λ x. k x.0 x.1) (value, rest) is in
        let a = b.0.0 in
        let mid = b.0.1 in
        let t = first.took text a mid b.1 in
        let u = (second a).took mid value rest b.2 in
        record {
          used = t.used ++ u.used;
          lines = t.lines ∙ ap (λ (ls : List NumberedLine). t.used ++ ls) u.lines ∙ sym (append_assoc t.used u.used rest.lines);
          ending = u.ending ∙ t.ending;
          stops = u.stops;
          again = λ more e stop.
              ap (then_read r k) (regroup t.used u.used more e)
              ∙ then_ok r k (lines_then (t.used ++ (u.used ++ more)) e) a (lines_then (u.used ++ more) e) (Ok (value, lines_then more e))
              (t.again (u.used ++ more) e tt) (u.again more e stop);
        }

    failed_both : (text : Text) (fault : TextFault) → then_read r k text ≡ Err fault
        → BadLine (then_read r k) text fault ⊎ FailsAtEnd (then_read r k) text fault
    failed_both text fault is = elim (bind_err (r text) (λ x. k x.0 x.1) fault is) [
      | inl e ↦ elim (first.failed text fault e) [
        | inl bad ↦ inl (record {
          front = bad.front;
          line = bad.line;
          behind = bad.behind;
          lines = bad.lines;
          names = bad.names;
          good = λ ending. elim (bad.good ending) [
            | inl taken ↦ elim (on_nothing Stops (k taken.0) (second taken.0) ending) [
              | inl more ↦ inl (
                more.0,
                then_ok r k (lines_then bad.front ending) taken.0 (lines_then [] ending)
                    (Ok (more.0, lines_then [] ending)) taken.1 more.1,
              )
              | inr due ↦ inr (then_ok r k (lines_then bad.front ending) taken.0 (lines_then [] ending) (Err (Malformed ending)) taken.1 due)
            ]
            | inr due ↦ inr (then_err r k (lines_then bad.front ending) (Malformed ending) due)
          ];
          decided = λ behind ending. then_err r k (lines_then (bad.front ++ bad.line ∷ behind) ending) fault (bad.decided behind ending);
        })
        | inr end ↦ inr (record { names = end.names; due = λ ending. then_err r k (lines_then text.lines ending) (Malformed ending) (end.due ending) })
      ]
      | inr w ↦
          let a = w.0.0 in
          let mid = w.0.1 in
          let t = first.took text a mid w.1 in
          elim ((second a).failed mid fault w.2) [
            | inl bad ↦ inl (record {
              front = t.used ++ bad.front;
              line = bad.line;
              behind = bad.behind;
              lines = t.lines ∙ ap (λ (ls : List NumberedLine). t.used ++ ls) bad.lines ∙ sym (append_assoc t.used bad.front (bad.line ∷ bad.behind));
              names = bad.names;
              good = λ ending. elim (bad.good ending) [
                | inl taken ↦ inl (
                  taken.0,
                  then_ok r k (lines_then (t.used ++ bad.front) ending) a (lines_then bad.front ending)
                      (Ok (taken.0, lines_then [] ending)) (t.again bad.front ending tt) taken.1,
                )
                | inr due ↦ inr (then_ok r k (lines_then (t.used ++ bad.front) ending) a (lines_then bad.front ending) (Err (Malformed ending))
                    (t.again bad.front ending tt) due)
              ];
              decided = λ behind ending.
                  ap (then_read r k) (regroup t.used bad.front (bad.line ∷ behind) ending)
                  ∙ then_ok r k (lines_then (t.used ++ (bad.front ++ bad.line ∷ behind)) ending) a (lines_then (bad.front ++ bad.line ∷ behind) ending)
                  (Err fault) (t.again (bad.front ++ bad.line ∷ behind) ending tt) (bad.decided behind ending);
            })
            | inr end ↦ inr (record {
              names = end.names ∙ ap (λ (n : ℕ). Malformed n) t.ending;
              due = λ ending.
                  ap (λ (ls : List NumberedLine). then_read r k (lines_then ls ending)) t.lines
                  ∙ then_ok r k (lines_then (t.used ++ mid.lines) ending) a (lines_then mid.lines ending) (Err (Malformed ending)) (t.again mid.lines ending tt)
                  (end.due ending);
            })
          ]
    ]

-- ---- many, one behind the other

pub turns_steady : {A : Type 0} (item : Text → Result (A × Text) TextFault) (count : ℕ) → Steady Anywhere item → Steady Anywhere (in_turn item count)
unfolding in_turn
turns_steady item zero steady = pure_steady []
turns_steady item (suc count) steady =
    then_steady Anywhere item (λ first text. in_turn item count text >>= λ others. Ok (first ∷ others.0, others.1)) steady
    (λ first. then_steady Anywhere (in_turn item count) (λ others text. Ok (first ∷ others, text)) (turns_steady item count steady)
    (λ others. pure_steady (first ∷ others)))

-- ---- what follows

pub stable : {A : Type 0} (read : Text → Result (A × Text) TextFault) → Steady Anywhere read → IsStable read
stable read steady text value rest is more ending =
    let t = steady.took text value rest is in
    ap (λ (ls : List NumberedLine). read (lines_then (ls ++ more) ending)) t.lines
    ∙ ap read (regroup t.used rest.lines more ending)
    ∙ t.again (rest.lines ++ more) ending tt
