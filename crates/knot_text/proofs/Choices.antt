-- Of two readers, the next line decides which one reads, by its first word or by another test.
use Rattle.std.proofs.Common.{◌≡◌, ℕ, List, [], ◌∷◌, ◌++◌, Bool, true, false, cond, Result, Ok, Err, refl, sym, ap, ◌∙◌, inl, inr, ◌⊎◌}
use Rattle.text_lines.specs.Lines.{NumberedLine, Text, first_starts}
use Rattle.text_items.specs.declared.fault.TextFault.{TextFault}
use Rattle.text_items.specs.declared.fault.TextFault.TheVariants.{Malformed}
use Rattle.knot_text.specs.FirstBadLine.{lines_then, AreGood, FailsAtLine, FailsAtEnd, FailsFirst}
use Rattle.knot_text.proofs.Steady.{Anywhere, Took, AreTaken, BadLine, Steady}
use Rattle.knot_text.proofs.FirstFault.{nothing_good, ok_again}

-- a test of the next line alone: the same whatever lines stand behind it
abbrev pub IsOfNextLine : (List NumberedLine → Bool) → Type 0
IsOfNextLine test = (xs ys zs : List NumberedLine) (line : NumberedLine) → test (xs ++ line ∷ zs) ≡ test (xs ++ line ∷ ys)

-- the first reader where the next line passes the test, else the second
abbrev pub by_next : {B : Type 0} → (List NumberedLine → Bool) → (Text → Result B TextFault) → (Text → Result B TextFault) → Text → Result B TextFault
by_next test r s text = cond (test text.lines) (r text) (s text)

-- the first reader where a line that begins with this word is next, else the second
abbrev pub choice : {B : Type 0} → List ℕ → (Text → Result B TextFault) → (Text → Result B TextFault) → Text → Result B TextFault
choice w r s = by_next (first_starts w) r s

starts_of_next : (w : List ℕ) → IsOfNextLine (first_starts w)
starts_of_next w [] ys zs line = refl
starts_of_next w (x ∷ xs) ys zs line = refl

-- a reader that is this one where the test has this answer
abbrev Agrees : {B : Type 0} → (List NumberedLine → Bool) → Bool → (Text → Result B TextFault) → (Text → Result B TextFault) → Type 0
Agrees test b c q = (text : Text) → test text.lines ≡ b → c text ≡ q text

first_agrees : {B : Type 0} (test : List NumberedLine → Bool) (r s : Text → Result B TextFault) → Agrees test true (by_next test r s) r
first_agrees test r s text is = rw is refl

second_agrees : {B : Type 0} (test : List NumberedLine → Bool) (r s : Text → Result B TextFault) → Agrees test false (by_next test r s) s
second_agrees test r s text is = rw is refl

-- ---- readers of items

-- a line is due
abbrev pub IsDue : {B : Type 0} → (Text → Result B TextFault) → Type 0
IsDue read = (ending : ℕ) → read (lines_then [] ending) ≡ Err (Malformed ending)

-- so one is taken
used_start : {A : Type 0} (w : List ℕ) (q : Text → Result (A × Text) TextFault) (value : A) (used ls more : List NumberedLine) → IsDue q
    → ((ending : ℕ) → q (lines_then (used ++ []) ending) ≡ Ok (value, lines_then [] ending))
    → first_starts w (used ++ more) ≡ first_starts w (used ++ ls)
used_start w q value [] ls more due again = absurd (let no = sym (due 0) ∙ again 0 in cc)
used_start w q value (x ∷ used) ls more due again = refl

took_by : {A : Type 0} (w : List ℕ) (b : Bool) (c q : Text → Result (A × Text) TextFault) → Agrees (first_starts w) b c q → IsDue q → Steady Anywhere q
    → (text : Text) → first_starts w text.lines ≡ b → (value : A) (rest : Text) → c text ≡ Ok (value, rest) → Took Anywhere c text value rest
took_by w b c q agrees due steady text begin value rest is =
    let t = steady.took text value rest (sym (agrees text begin) ∙ is) in
    let start : first_starts w (t.used ++ rest.lines) ≡ b = sym (ap (first_starts w) t.lines) ∙ begin in
    record {
      used = t.used;
      lines = t.lines;
      ending = t.ending;
      stops = tt;
      again = λ more e stop.
          agrees (lines_then (t.used ++ more) e) (used_start w q value t.used rest.lines more due (λ ending. t.again [] ending tt) ∙ start) ∙ t.again more e tt;
    }

good_by : {A : Type 0} (w : List ℕ) (b : Bool) (c q : Text → Result (A × Text) TextFault) → Agrees (first_starts w) b c q → IsDue c
    → (front behind : List NumberedLine) (line : NumberedLine) → first_starts w (front ++ line ∷ behind) ≡ b → AreTaken q front → AreTaken c front
good_by w b c q agrees due [] behind line begin good e = inr (due e)
good_by w b c q agrees due (x ∷ front) behind line begin good e = elim (good e) [
  | inl taken ↦ inl (taken.0, agrees (lines_then (x ∷ front) e) begin ∙ taken.1)
  | inr more ↦ inr (agrees (lines_then (x ∷ front) e) begin ∙ more)
]

failed_by : {A : Type 0} (w : List ℕ) (b : Bool) (c q : Text → Result (A × Text) TextFault) → Agrees (first_starts w) b c q → IsDue c → Steady Anywhere q
    → (text : Text) → first_starts w text.lines ≡ b → (fault : TextFault) → c text ≡ Err fault → BadLine c text fault ⊎ FailsAtEnd c text fault
failed_by w b c q agrees due steady text begin fault is = elim (steady.failed text fault (sym (agrees text begin) ∙ is)) [
  | inl bad ↦
      let start : first_starts w (bad.front ++ bad.line ∷ bad.behind) ≡ b = sym (ap (first_starts w) bad.lines) ∙ begin in
      inl (record {
        front = bad.front;
        line = bad.line;
        behind = bad.behind;
        lines = bad.lines;
        names = bad.names;
        good = good_by w b c q agrees due bad.front bad.behind bad.line start bad.good;
        decided = λ behind e. agrees (lines_then (bad.front ++ bad.line ∷ behind) e) (starts_of_next w bad.front bad.behind behind bad.line ∙ start)
            ∙ bad.decided behind e;
      })
  | inr end ↦ inr (record { names = end.names; due = λ e. agrees (lines_then text.lines e) begin ∙ end.due e })
]

pub choice_steady : {A : Type 0} (w : List ℕ) (r s : Text → Result (A × Text) TextFault) → IsDue r → IsDue s → Steady Anywhere r → Steady Anywhere s
    → Steady Anywhere (choice w r s)
choice_steady {A} w r s r_due s_due first second = record {
  took = λ text value rest is. took text (first_starts w text.lines) refl value rest is;
  failed = λ text fault is. failed text (first_starts w text.lines) refl fault is;
}
  where
    due : IsDue (choice w r s)
    due ending = s_due ending

    took : (text : Text) (t : Bool) → first_starts w text.lines ≡ t → (value : A) (rest : Text) → choice w r s text ≡ Ok (value, rest)
        → Took Anywhere (choice w r s) text value rest
    took text true begin value rest is = took_by w true (choice w r s) r (first_agrees (first_starts w) r s) r_due first text begin value rest is
    took text false begin value rest is = took_by w false (choice w r s) s (second_agrees (first_starts w) r s) s_due second text begin value rest is

    failed : (text : Text) (t : Bool) → first_starts w text.lines ≡ t → (fault : TextFault) → choice w r s text ≡ Err fault
        → BadLine (choice w r s) text fault ⊎ FailsAtEnd (choice w r s) text fault
    failed text true begin fault is = failed_by w true (choice w r s) r (first_agrees (first_starts w) r s) due first text begin fault is
    failed text false begin fault is = failed_by w false (choice w r s) s (second_agrees (first_starts w) r s) due second text begin fault is

-- ---- readers of whole texts

whole_good : {B : Type 0} (test : List NumberedLine → Bool) (b : Bool) (c q : Text → Result B TextFault) → IsOfNextLine test → Agrees test b c q → AreGood c []
    → (front behind : List NumberedLine) (line : NumberedLine) → test (front ++ line ∷ behind) ≡ b → AreGood q front → AreGood c front
whole_good test b c q next agrees none [] behind line begin good e = none e
whole_good test b c q next agrees none (x ∷ front) behind line begin good e =
    let start : test (x ∷ front) ≡ b = next [] (front ++ line ∷ behind) front x ∙ begin in
    elim (good e) [
      | inl ok ↦ inl (ok_again (q (lines_then (x ∷ front) e)) (c (lines_then (x ∷ front) e)) (agrees (lines_then (x ∷ front) e) start) ok)
      | inr more ↦ inr (agrees (lines_then (x ∷ front) e) start ∙ more)
    ]

fails_by : {B : Type 0} (test : List NumberedLine → Bool) (b : Bool) (c q : Text → Result B TextFault) → IsOfNextLine test → Agrees test b c q → AreGood c []
    → FailsFirst q → (text : Text) → test text.lines ≡ b → (fault : TextFault) → c text ≡ Err fault → FailsAtLine c text fault ⊎ FailsAtEnd c text fault
fails_by test b c q next agrees none fails text begin fault is = elim (fails text fault (sym (agrees text begin) ∙ is)) [
  | inl bad ↦
      let start : test (bad.front ++ bad.line ∷ bad.behind) ≡ b = sym (ap test bad.lines) ∙ begin in
      inl (record {
        front = bad.front;
        line = bad.line;
        behind = bad.behind;
        lines = bad.lines;
        first = record {
          names = bad.first.names;
          good = whole_good test b c q next agrees none bad.front bad.behind bad.line start bad.first.good;
          decided = λ behind e. agrees (lines_then (bad.front ++ bad.line ∷ behind) e) (next bad.front bad.behind behind bad.line ∙ start)
              ∙ bad.first.decided behind e;
        };
      })
  | inr end ↦ inr (record { names = end.names; due = λ e. agrees (lines_then text.lines e) begin ∙ end.due e })
]

pub by_next_fails : {B : Type 0} (test : List NumberedLine → Bool) (r s : Text → Result B TextFault) → IsOfNextLine test → test [] ≡ false → FailsFirst r
    → FailsFirst s → FailsFirst (by_next test r s)
by_next_fails test r s next nothing first second text fault is = by text (test text.lines) refl is
  where
    none : AreGood (by_next test r s) []
    none e = elim (nothing_good s second e) [
      | inl ok ↦ inl (ok_again (s (lines_then [] e)) (by_next test r s (lines_then [] e)) (second_agrees test r s (lines_then [] e) nothing) ok)
      | inr more ↦ inr (second_agrees test r s (lines_then [] e) nothing ∙ more)
    ]

    by : (text : Text) (t : Bool) → test text.lines ≡ t → by_next test r s text ≡ Err fault
        → FailsAtLine (by_next test r s) text fault ⊎ FailsAtEnd (by_next test r s) text fault
    by text true begin is = fails_by test true (by_next test r s) r next (first_agrees test r s) none first text begin fault is
    by text false begin is = fails_by test false (by_next test r s) s next (second_agrees test r s) none second text begin fault is

pub choice_fails : {B : Type 0} (w : List ℕ) (r s : Text → Result B TextFault) → FailsFirst r → FailsFirst s → FailsFirst (choice w r s)
choice_fails w r s first second = by_next_fails (first_starts w) r s (starts_of_next w) refl first second

-- the same reader in another form
pub same_fails : {B : Type 0} (q c : Text → Result B TextFault) → ((text : Text) → c text ≡ q text) → FailsFirst q → FailsFirst c
same_fails q c same fails text fault is = elim (fails text fault (sym (same text) ∙ is)) [
  | inl bad ↦ inl (record {
    front = bad.front;
    line = bad.line;
    behind = bad.behind;
    lines = bad.lines;
    first = record {
      names = bad.first.names;
      good = λ e. elim (bad.first.good e) [
        | inl ok ↦ inl (ok_again (q (lines_then bad.front e)) (c (lines_then bad.front e)) (same (lines_then bad.front e)) ok)
        | inr more ↦ inr (same (lines_then bad.front e) ∙ more)
      ];
      decided = λ behind e. same (lines_then (bad.front ++ bad.line ∷ behind) e) ∙ bad.first.decided behind e;
    };
  })
  | inr end ↦ inr (record { names = end.names; due = λ e. same (lines_then text.lines e) ∙ end.due e })
]
