-- A whole text fails at its first bad line, or at its end.
use Rattle.std.proofs.Common.{◌≡◌, ℕ, List, [], ◌∷◌, ◌++◌, Result, Ok, Err, refl, sym, ap, subst, ◌∙◌, append_assoc, inl, inr, ◌⊎◌}
use Rattle.std.specs.Prelude.{IsOk}
use Rattle.text_lines.specs.Lines.{NumberedLine, Text}
use Rattle.text_items.specs.declared.fault.TextFault.{TextFault}
use Rattle.text_items.specs.declared.fault.TextFault.TheVariants.{Malformed}
use Rattle.text_items.specs.Reading.{◌>>=◌, text_end}
use Rattle.knot_text.specs.FirstBadLine.{lines_then, AreGood, FailsAtLine, FailsAtEnd, FailsFirst}
use Rattle.knot_text.proofs.Steady.{Stop, Anywhere, Steady, then_read, then_ok, then_err, bind_err, no_line, regroup}

-- whether a reader may stop before some lines is seen at the first of them
pub record IsSeenFirst (Stops : Stop) : Type 0 where
  pub none : Stops []
  pub front : (xs ys : List NumberedLine) → Stops (xs ++ ys) → Stops xs
  pub same : (xs ys zs : List NumberedLine) (line : NumberedLine) → Stops (xs ++ line ∷ ys) → Stops (xs ++ line ∷ zs)

pub anywhere_seen : IsSeenFirst Anywhere
anywhere_seen = record { none = tt; front = λ xs ys h. tt; same = λ xs ys zs line h. tt }

-- a text of no lines
pub nothing_good : {A : Type 0} (read : Text → Result A TextFault) → FailsFirst read → AreGood read []
nothing_good {A} read fails ending = by (read (lines_then [] ending)) refl
  where
    by : (r : Result A TextFault) → read (lines_then [] ending) ≡ r
        → IsOk (read (lines_then [] ending)) ⊎ (read (lines_then [] ending) ≡ Err (Malformed ending))
    by (Ok x) is = inl (subst (λ (s : Result A TextFault). IsOk s) (sym is) refl)
    by (Err d) is =
        elim (fails (lines_then [] ending) d is) [
          | inl bad ↦ absurd (no_line bad.front bad.behind bad.line bad.lines)
          | inr end ↦ inr (is ∙ ap (λ (x : TextFault). Err x) end.names)
        ]

pub ok_again : {A : Type 0} (r s : Result A TextFault) → s ≡ r → IsOk r → IsOk s
ok_again {A} r s same is = subst (λ (t : Result A TextFault). IsOk t) (sym same) is

pub then_fails : {A B : Type 0} (Stops : Stop) (r : Text → Result (A × Text) TextFault) (k : A → Text → Result B TextFault) → IsSeenFirst Stops
    → Steady Stops r → ((a : A) → FailsFirst (k a)) → FailsFirst (then_read r k)
then_fails {A} {B} Stops r k seen first second text fault is = elim (bind_err (r text) (λ x. k x.0 x.1) fault is) [
  | inl e ↦ elim (first.failed text fault e) [
    | inl bad ↦ inl (record {
      front = bad.front;
      line = bad.line;
      behind = bad.behind;
      lines = bad.lines;
      first = record {
        names = bad.names;
        good = λ ending. elim (bad.good ending) [
          | inl taken ↦
              let same = then_ok r k (lines_then bad.front ending) taken.0 (lines_then [] ending) (k taken.0 (lines_then [] ending)) taken.1 refl in
              elim (nothing_good (k taken.0) (second taken.0) ending) [
                | inl ok ↦ inl (ok_again (k taken.0 (lines_then [] ending)) (then_read r k (lines_then bad.front ending)) same ok)
                | inr due ↦ inr (same ∙ due)
              ]
          | inr due ↦ inr (then_err r k (lines_then bad.front ending) (Malformed ending) due)
        ];
        decided = λ behind ending. then_err r k (lines_then (bad.front ++ bad.line ∷ behind) ending) fault (bad.decided behind ending);
      };
    })
    | inr end ↦ inr (record { names = end.names; due = λ ending. then_err r k (lines_then text.lines ending) (Malformed ending) (end.due ending) })
  ]
  | inr w ↦
      let a = w.0.0 in
      let mid = w.0.1 in
      let t = first.took text a mid w.1 in
      elim (second a mid fault w.2) [
        | inl bad ↦
            let stop : Stops (bad.front ++ bad.line ∷ bad.behind) = subst Stops bad.lines t.stops in
            inl (record {
              front = t.used ++ bad.front;
              line = bad.line;
              behind = bad.behind;
              lines = t.lines ∙ ap (λ (ls : List NumberedLine). t.used ++ ls) bad.lines ∙ sym (append_assoc t.used bad.front (bad.line ∷ bad.behind));
              first = record {
                names = bad.first.names;
                good = λ ending.
                    let same = then_ok r k (lines_then (t.used ++ bad.front) ending) a (lines_then bad.front ending) (k a (lines_then bad.front ending))
                    (t.again bad.front ending (seen.front bad.front (bad.line ∷ bad.behind) stop)) refl in
                    elim (bad.first.good ending) [
                      | inl ok ↦ inl (ok_again (k a (lines_then bad.front ending)) (then_read r k (lines_then (t.used ++ bad.front) ending)) same ok)
                      | inr due ↦ inr (same ∙ due)
                    ];
                decided = λ behind ending.
                    ap (then_read r k) (regroup t.used bad.front (bad.line ∷ behind) ending)
                    ∙ then_ok r k (lines_then (t.used ++ (bad.front ++ bad.line ∷ behind)) ending) a (lines_then (bad.front ++ bad.line ∷ behind) ending)
                    (Err fault)
                    (t.again (bad.front ++ bad.line ∷ behind) ending (seen.same bad.front bad.behind behind bad.line stop)) (bad.first.decided behind ending);
              };
            })
        | inr end ↦ inr (record {
          names = end.names ∙ ap (λ (n : ℕ). Malformed n) t.ending;
          due = λ ending.
              ap (λ (ls : List NumberedLine). then_read r k (lines_then ls ending)) t.lines
              ∙ then_ok r k (lines_then (t.used ++ mid.lines) ending) a (lines_then mid.lines ending) (Err (Malformed ending))
              (t.again mid.lines ending t.stops) (end.due ending);
        })
      ]
]

-- ---- a value, and nothing behind it

pub end_fails : {A : Type 0} (value : A) → FailsFirst (λ text. text_end text >>= λ end. Ok value)
unfolding text_end
end_fails {A} value text fault is = by text.lines text.ending is
  where
    read : Text → Result A TextFault
    read text = text_end text >>= λ end. Ok value

    by : (lines : List NumberedLine) (ending : ℕ) → read (lines_then lines ending) ≡ Err fault
        → FailsAtLine read (lines_then lines ending) fault ⊎ FailsAtEnd read (lines_then lines ending) fault
    by [] ending is = absurd cc
    by (line ∷ lines) ending is =
        let same : Malformed line.number ≡ fault = cc in
        inl (record {
          front = [];
          line = line;
          behind = lines;
          lines = refl;
          first = record {
            names = inl (sym same);
            good = λ e. inl refl;
            decided = λ behind e. ap (λ (x : TextFault). Err x) same;
          };
        })
