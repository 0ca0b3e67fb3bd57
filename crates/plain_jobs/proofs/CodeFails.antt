-- The text of a code fails at its first bad line, or where rows are still due at its end.
use Rattle.std.proofs.Common.{◌≡◌, ◌==◌, ◌||◌, ◌%◌, ◌∙◌, inl, inr, ◌⊎◌, ℕ, List, [], ◌∷◌, ◌++◌, length, filter, Bool, true, false, not, cond}
use Rattle.std.proofs.Common.{Option, Some, None, unwrap_or, Result, Ok, Err, refl, sym, ap, subst, codes, nat_lt}
use Rattle.std.specs.List.{list_any}
use Rattle.text_lines.specs.Lines.{NumberedLine, Text, starts, first_starts}
use Rattle.text_lines.specs.NumberTokens.{number_of}
use Rattle.text_items.specs.declared.fault.TextFault.{TextFault}
use Rattle.text_items.specs.declared.fault.TextFault.TheVariants.{Malformed}
use Rattle.text_items.specs.NumberLists.{is_long}
use Rattle.text_items.specs.Reading.{◌>>=◌, next_line, word, last_number, at_most, text_end}
use Rattle.code_rows.specs.declared.code_fault.TheConstants.{MAX_CROSSINGS}
use Rattle.code_rows.specs.declared.row.CodeRow.{CodeRow}
use Rattle.code_text.specs.declared.gauss_lines.GaussPassage.{GaussPassage}
use Rattle.code_text.specs.declared.code_reading.CodeText.{CodeText}
use Rattle.code_text.specs.declared.code_reading.TheConstants.{MAX_LOOPS}
use Rattle.code_text.specs.RowLines.{says_something, rows_of_numbers, rows_or_fault, with_rows, rows_among, rows_from}
use Rattle.code_text.specs.GaussLines.{passage_of, is_beyond, some_passages, walk_at, walks_among, walks_from}
use Rattle.code_text.specs.CodeReading.{counted_item, some_count, perhaps_counted, most_rows, next_number, are_due, rows_item, walks_behind, code_in}
use Rattle.knot_text.specs.FirstBadLine.{lines_then, FailsAtLine, FailsAtEnd, FailsFirst}
use Rattle.knot_text.proofs.Steady.{Stop, Anywhere, Took, BadLine, Steady, bind_ok, bind_err, ok_is, same_steady}
use Rattle.knot_text.proofs.AtLine.{At, at_ok, at_malformed, at_limit, at_bind, at_cond, at_same, line_alone, word_at, word_keeps, tokens_at}
use Rattle.knot_text.proofs.ItemsAtLine.{word_count_at}
use Rattle.knot_text.proofs.Choices.{choice, choice_fails, same_fails}
use Rattle.knot_text.proofs.FirstFault.{IsSeenFirst, anywhere_seen, then_fails, end_fails}

-- ---- lines read one behind the other, up to one that stops the reader

-- no line is left, or the next one stops the reader
abbrev stop_among : (NumberedLine → Bool) → List NumberedLine → Bool
stop_among stops [] = true
stop_among stops (line ∷ lines) = stops line

abbrev AtStop : (NumberedLine → Bool) → Stop
AtStop stops lines = stop_among stops lines ≡ true

stop_front : (stops : NumberedLine → Bool) (xs ys : List NumberedLine) → AtStop stops (xs ++ ys) → AtStop stops xs
stop_front stops [] ys stop = refl
stop_front stops (x ∷ xs) ys stop = stop

stop_same : (stops : NumberedLine → Bool) (xs ys zs : List NumberedLine) (line : NumberedLine) → AtStop stops (xs ++ line ∷ ys)
    → AtStop stops (xs ++ line ∷ zs)
stop_same stops [] ys zs line stop = stop
stop_same stops (x ∷ xs) ys zs line stop = stop

stop_seen : (stops : NumberedLine → Bool) → IsSeenFirst (AtStop stops)
stop_seen stops = record { none = refl; front = stop_front stops; same = stop_same stops }

module _ (A : Type 0) (stops : NumberedLine → Bool) (step : A → NumberedLine → Result A TextFault) where
  -- what was read before, and what each line makes of it
  abbrev gathered : A → List NumberedLine → ℕ → Result (A × Text) TextFault
  gathered before [] ending = Ok (before, lines_then [] ending)
  gathered before (line ∷ lines) ending =
      cond (stops line) (Ok (before, lines_then (line ∷ lines) ending)) (step before line >>= λ after. gathered after lines ending)

  abbrev gathered_from : A → Text → Result (A × Text) TextFault
  gathered_from before text = gathered before text.lines text.ending

  stopped : (before : A) (lines : List NumberedLine) (ending : ℕ) → AtStop stops lines → gathered before lines ending ≡ Ok (before, lines_then lines ending)
  stopped before [] ending stop = refl
  stopped before (line ∷ lines) ending stop = rw stop refl

  goes_on : (before : A) (line : NumberedLine) (lines : List NumberedLine) (ending : ℕ) → stops line ≡ false
      → gathered before (line ∷ lines) ending ≡ (step before line >>= λ after. gathered after lines ending)
  goes_on before line lines ending goes = rw goes refl

  one_more : (before after : A) (line : NumberedLine) (lines : List NumberedLine) (ending : ℕ) → stops line ≡ false → step before line ≡ Ok after
      → gathered before (line ∷ lines) ending ≡ gathered after lines ending
  one_more before after line lines ending goes is =
      goes_on before line lines ending goes ∙ ap (λ s. s >>= λ x. gathered x lines ending) is

  bad_line : (before : A) (fault : TextFault) (line : NumberedLine) (lines : List NumberedLine) (ending : ℕ) → stops line ≡ false
      → step before line ≡ Err fault → gathered before (line ∷ lines) ending ≡ Err fault
  bad_line before fault line lines ending goes is =
      goes_on before line lines ending goes ∙ ap (λ s. s >>= λ x. gathered x lines ending) is

  took_none : (before : A) (lines : List NumberedLine) (ending : ℕ) → AtStop stops lines → (value : A) (rest : Text)
      → gathered before lines ending ≡ Ok (value, rest) → Took (AtStop stops) (gathered_from before) (lines_then lines ending) value rest
  took_none before lines ending stop value rest is =
      let same = ok_is (before, lines_then lines ending) (value, rest) (sym (stopped before lines ending stop) ∙ is) in
      let made : Took (AtStop stops) (gathered_from before) (lines_then lines ending) before (lines_then lines ending) =
      record { used = []; lines = refl; ending = refl; stops = stop; again = λ more e at. stopped before more e at } in
      subst (λ (y : A × Text). Took (AtStop stops) (gathered_from before) (lines_then lines ending) y.0 y.1) same made

  took_more : (before : A) (line : NumberedLine) (lines : List NumberedLine) (ending : ℕ) (value : A) (rest : Text)
      → ((after : A) → gathered after lines ending ≡ Ok (value, rest) → Took (AtStop stops) (gathered_from after) (lines_then lines ending) value rest)
      → (t : Bool) → stops line ≡ t → gathered before (line ∷ lines) ending ≡ Ok (value, rest)
      → Took (AtStop stops) (gathered_from before) (lines_then (line ∷ lines) ending) value rest
  took_more before line lines ending value rest others true here is = took_none before (line ∷ lines) ending here value rest is
  took_more before line lines ending value rest others false here is =
      let b = bind_ok (step before line) (λ after. gathered after lines ending) (value, rest) (sym (goes_on before line lines ending here) ∙ is) in
      let t = others b.0 b.2 in
      record {
        used = line ∷ t.used;
        lines = ap (λ (ls : List NumberedLine). line ∷ ls) t.lines;
        ending = t.ending;
        stops = t.stops;
        again = λ more e at. one_more before b.0 line (t.used ++ more) e here b.1 ∙ t.again more e at;
      }

  took_all : (before : A) (lines : List NumberedLine) (ending : ℕ) (value : A) (rest : Text) → gathered before lines ending ≡ Ok (value, rest)
      → Took (AtStop stops) (gathered_from before) (lines_then lines ending) value rest
  took_all before [] ending value rest is = took_none before [] ending refl value rest is
  took_all before (line ∷ lines) ending value rest is =
      took_more before line lines ending value rest (λ after behind. took_all after lines ending value rest behind) (stops line) refl is

  module _ (names : (before : A) (line : NumberedLine) → At line.number (step before line)) where
    failed_more : (before : A) (line : NumberedLine) (lines : List NumberedLine) (ending : ℕ) (fault : TextFault)
        → ((after : A) → gathered after lines ending ≡ Err fault → BadLine (gathered_from after) (lines_then lines ending) fault)
        → (t : Bool) → stops line ≡ t → gathered before (line ∷ lines) ending ≡ Err fault
        → BadLine (gathered_from before) (lines_then (line ∷ lines) ending) fault
    failed_more before line lines ending fault others true here is = absurd (let no = sym (stopped before (line ∷ lines) ending here) ∙ is in cc)
    failed_more before line lines ending fault others false here is =
        elim (bind_err (step before line) (λ after. gathered after lines ending) fault (sym (goes_on before line lines ending here) ∙ is)) [
          | inl bad ↦ record {
            front = [];
            line = line;
            behind = lines;
            lines = refl;
            names = (names before line).of fault bad;
            good = λ e. inl (before, refl);
            decided = λ behind e. bad_line before fault line behind e here bad;
          }
          | inr w ↦
              let b = others w.0 w.2 in
              record {
                front = line ∷ b.front;
                line = b.line;
                behind = b.behind;
                lines = ap (λ (ls : List NumberedLine). line ∷ ls) b.lines;
                names = b.names;
                good = λ e. elim (b.good e) [
                  | inl taken ↦ inl (taken.0, one_more before w.0 line b.front e here w.1 ∙ taken.1)
                  | inr due ↦ inr (one_more before w.0 line b.front e here w.1 ∙ due)
                ];
                decided = λ behind e. one_more before w.0 line (b.front ++ b.line ∷ behind) e here w.1 ∙ b.decided behind e;
              }
        ]

    failed_all : (before : A) (lines : List NumberedLine) (ending : ℕ) (fault : TextFault) → gathered before lines ending ≡ Err fault
        → BadLine (gathered_from before) (lines_then lines ending) fault
    failed_all before [] ending fault is = absurd (let no = is in cc)
    failed_all before (line ∷ lines) ending fault is =
        failed_more before line lines ending fault (λ after behind. failed_all after lines ending fault behind) (stops line) refl is

    gathered_steady : (before : A) → Steady (AtStop stops) (gathered_from before)
    gathered_steady before = record {
      took = λ text value rest is. took_all before text.lines text.ending value rest is;
      failed = λ text fault is. inl (failed_all before text.lines text.ending fault is);
    }

same_behind : {A B : Type 0} (r : Result A TextFault) (f g : A → Result B TextFault) → ((x : A) → f x ≡ g x) → (r >>= f) ≡ (r >>= g)
same_behind (Ok x) f g same = same x
same_behind (Err e) f g same = refl

-- ---- rows

rows_or_fault_at : (most n : ℕ) (has_long : Bool) (rows : List CodeRow) → At n (rows_or_fault most n has_long rows)
rows_or_fault_at most n has_long rows =
    at_cond (has_long || nat_lt MAX_CROSSINGS (length rows)) at_limit (at_cond (nat_lt most (length rows)) at_malformed at_ok)

with_rows_at : (most : ℕ) (before : List CodeRow) (line : NumberedLine) → At line.number (with_rows most before line)
unfolding with_rows
with_rows_at most before line =
    at_bind (tokens_at number_of line.number (filter says_something line.tokens))
    (λ names e. at_cond (length names % 4 == 0)
    (rows_or_fault_at most line.number (list_any is_long names) (before ++ rows_of_numbers names)) at_malformed)

-- the line stands behind the rows
abbrev is_behind : NumberedLine → Bool
is_behind line = starts (codes "loops") line.tokens || starts (codes "gauss") line.tokens

abbrev gathered_rows : ℕ → List CodeRow → List NumberedLine → ℕ → Result (List CodeRow × Text) TextFault
gathered_rows most before lines ending = gathered (List CodeRow) is_behind (with_rows most) before lines ending

rows_are : (most : ℕ) (before : List CodeRow) (lines : List NumberedLine) (ending : ℕ)
    → rows_among most before lines ending ≡ gathered_rows most before lines ending
rows_are most before [] ending = refl
rows_are most before (line ∷ lines) ending =
    ap (λ (s : Result (List CodeRow × Text) TextFault). cond (is_behind line) (Ok (before, lines_then (line ∷ lines) ending)) s)
    (same_behind (with_rows most before line) (λ rows. rows_among most rows lines ending) (λ rows. gathered_rows most rows lines ending)
    (λ rows. rows_are most rows lines ending))

rows_steady : (most : ℕ) (before : List CodeRow) → Steady (AtStop is_behind) (rows_from most before)
unfolding rows_from
rows_steady most before =
    same_steady (AtStop is_behind) (gathered_from (List CodeRow) is_behind (with_rows most) before) (rows_from most before)
    (λ text. rows_are most before text.lines text.ending)
    (gathered_steady (List CodeRow) is_behind (with_rows most) (with_rows_at most) before)

-- ---- Gauss lines

passages_at : (n : ℕ) (ps : List GaussPassage) → At n (some_passages n ps)
passages_at n [] = at_malformed
passages_at n (p ∷ ps) = at_cond (list_any is_beyond (p ∷ ps)) at_limit at_ok

walk_at_at : (line : NumberedLine) → At line.number (walk_at line)
unfolding walk_at
walk_at_at line =
    at_bind (word_at (codes "gauss") line) (λ rest e. at_same ((word_keeps (codes "gauss") line).of rest e)
    (at_bind (tokens_at passage_of rest.number rest.tokens) (λ ps f. passages_at rest.number ps)))

-- the walks of lines
abbrev Walks : Type 0
Walks = List (List GaussPassage)

abbrev all_walks : Walks → Result Walks TextFault
all_walks walks = Ok walks

abbrev with_walk : Walks → NumberedLine → Result Walks TextFault
with_walk before line = walk_at line >>= λ walk. all_walks (before ++ walk ∷ [])

with_walk_at : (before : Walks) (line : NumberedLine) → At line.number (with_walk before line)
with_walk_at before line = at_bind (walk_at_at line) (λ walk e. at_ok)

-- the line stands behind the Gauss lines
abbrev is_other : NumberedLine → Bool
is_other line = not (starts (codes "gauss") line.tokens)

abbrev gathered_walks : Walks → List NumberedLine → ℕ → Result (Walks × Text) TextFault
gathered_walks before lines ending = gathered Walks is_other with_walk before lines ending

one_walk : (before : Walks) (lines : List NumberedLine) (ending : ℕ) (rest : Text)
    → ((walks : Walks) → walks_among walks lines ending ≡ gathered_walks walks lines ending) → (t : Bool) (r : Result (List GaussPassage) TextFault)
    → cond t (r >>= λ walk. walks_among (before ++ walk ∷ []) lines ending) (Ok (before, rest))
    ≡ cond (not t) (Ok (before, rest)) ((r >>= λ walk. all_walks (before ++ walk ∷ [])) >>= λ walks. gathered_walks walks lines ending)
one_walk before lines ending rest same true (Ok walk) = same (before ++ walk ∷ [])
one_walk before lines ending rest same true (Err e) = refl
one_walk before lines ending rest same false r = refl

walks_are : (before : Walks) (lines : List NumberedLine) (ending : ℕ) → walks_among before lines ending ≡ gathered_walks before lines ending
walks_are before [] ending = refl
walks_are before (line ∷ lines) ending =
    one_walk before lines ending (lines_then (line ∷ lines) ending) (λ walks. walks_are walks lines ending) (starts (codes "gauss") line.tokens) (walk_at line)

walks_steady : (before : Walks) → Steady (AtStop is_other) (walks_from before)
unfolding walks_from
walks_steady before =
    same_steady (AtStop is_other) (gathered_from Walks is_other with_walk before) (walks_from before) (λ text. walks_are before text.lines text.ending)
    (gathered_steady Walks is_other with_walk with_walk_at before)

-- ---- a number that may lack, and what stands behind it

abbrev counted : ℕ → Text → Result (ℕ × Text) TextFault
counted count text = Ok (count, text)

abbrev count_of : ℕ → Result (ℕ × NumberedLine) TextFault → Result ℕ TextFault
count_of most s = s >>= λ value. at_most most value.1.number value.0

abbrev count_line : List ℕ → ℕ → NumberedLine → Result ℕ TextFault
count_line w most line = word w line >>= λ rest. count_of most (last_number rest)

flat_number : (most : ℕ) (s : Result (ℕ × NumberedLine) TextFault) (text : Text)
    → (s >>= λ value. at_most most value.1.number value.0 >>= λ count. counted count text) ≡ (count_of most s >>= λ count. counted count text)
flat_number most (Ok value) text = refl
flat_number most (Err e) text = refl

flat_word : (most : ℕ) (s : Result NumberedLine TextFault) (text : Text)
    → (s >>= λ rest. last_number rest >>= λ value. at_most most value.1.number value.0 >>= λ count. counted count text)
    ≡ ((s >>= λ rest. count_of most (last_number rest)) >>= λ count. counted count text)
flat_word most (Ok rest) text = flat_number most (last_number rest) text
flat_word most (Err e) text = refl

flat_line : (w : List ℕ) (most : ℕ) (r : Result (NumberedLine × Text) TextFault)
    → (r >>= λ line. word w line.0 >>= λ rest. last_number rest >>= λ value. at_most most value.1.number value.0 >>= λ count. counted count line.1)
    ≡ (r >>= λ line. count_line w most line.0 >>= λ count. counted count line.1)
flat_line w most (Ok line) = flat_word most (word w line.0) line.1
flat_line w most (Err e) = refl

counted_steady : (w : List ℕ) (most : ℕ) → Steady Anywhere (counted_item w most)
unfolding counted_item
counted_steady w most =
    same_steady Anywhere (λ text. next_line text >>= λ line. count_line w most line.0 >>= λ count. counted count line.1) (counted_item w most)
    (λ text. flat_line w most (next_line text)) (line_alone (count_line w most) (word_count_at w most))

abbrev perhaps_then : {B : Type 0} → List ℕ → ℕ → (Option ℕ → Text → Result B TextFault) → Text → Result B TextFault
perhaps_then w most k text = perhaps_counted w most text >>= λ told. k told.0 told.1

abbrev counted_then : {B : Type 0} → List ℕ → ℕ → (Option ℕ → Text → Result B TextFault) → Text → Result B TextFault
counted_then w most k text = counted_item w most text >>= λ count. k (Some count.0) count.1

abbrev none_told : Text → Result (Option ℕ × Text) TextFault
none_told text = Ok (None, text)

flat_told : {B : Type 0} (s : Result (ℕ × Text) TextFault) (k : Option ℕ → Text → Result B TextFault)
    → (some_count s >>= λ told. k told.0 told.1) ≡ (s >>= λ count. k (Some count.0) count.1)
flat_told (Ok count) k = refl
flat_told (Err e) k = refl

flat_perhaps : {B : Type 0} (w : List ℕ) (most : ℕ) (k : Option ℕ → Text → Result B TextFault) (text : Text)
    → perhaps_then w most k text ≡ choice w (counted_then w most k) (k None) text
unfolding perhaps_counted
flat_perhaps {B} w most k text = by (first_starts w text.lines)
  where
    by : (t : Bool)
        → (cond t (some_count (counted_item w most text)) (none_told text) >>= λ told. k told.0 told.1) ≡ cond t (counted_then w most k text) (k None text)
    by true = flat_told (counted_item w most text) k
    by false = refl

perhaps_fails : {B : Type 0} (w : List ℕ) (most : ℕ) (k : Option ℕ → Text → Result B TextFault) → ((told : Option ℕ) → FailsFirst (k told))
    → FailsFirst (perhaps_then w most k)
perhaps_fails w most k fails =
    same_fails (choice w (counted_then w most k) (k None)) (perhaps_then w most k) (flat_perhaps w most k)
    (choice_fails w (counted_then w most k) (k None)
    (then_fails Anywhere (counted_item w most) (λ count text. k (Some count) text) anywhere_seen (counted_steady w most) (λ count. fails (Some count)))
    (fails None))

-- ---- what stands behind the rows

abbrev code_with : List CodeRow → Option ℕ → Walks → CodeText
code_with rows loops walks = record { rows = rows; loops = unwrap_or loops 0; walks = walks }

abbrev ended : List CodeRow → Option ℕ → Walks → Text → Result CodeText TextFault
ended rows loops walks text = text_end text >>= λ end. Ok (code_with rows loops walks)

abbrev behind_loops : List CodeRow → Option ℕ → Text → Result CodeText TextFault
behind_loops rows loops text = walks_behind rows text >>= λ walks. ended rows loops walks.0 walks.1

behind_loops_fails : (rows : List CodeRow) (loops : Option ℕ) → FailsFirst (behind_loops rows loops)
behind_loops_fails [] loops = end_fails (code_with [] loops [])
behind_loops_fails (row ∷ rows) loops =
    then_fails (AtStop is_other) (walks_from []) (ended (row ∷ rows) loops) (stop_seen is_other) (walks_steady [])
    (λ walks. end_fails (code_with (row ∷ rows) loops walks))

abbrev behind_rows : List CodeRow → Text → Result CodeText TextFault
behind_rows rows text = perhaps_then (codes "loops") MAX_LOOPS (behind_loops rows) text

-- ---- rows, of which all that were told must be there

-- rows are still due at the next line
abbrev rows_lack : Text → Result CodeText TextFault
rows_lack text = Err (Malformed (next_number text.lines text.ending))

rows_lack_fails : FailsFirst rows_lack
rows_lack_fails text fault is = by text.lines text.ending is
  where
    by : (lines : List NumberedLine) (ending : ℕ) → rows_lack (lines_then lines ending) ≡ Err fault
        → FailsAtLine rows_lack (lines_then lines ending) fault ⊎ FailsAtEnd rows_lack (lines_then lines ending) fault
    by [] ending is =
        let same : Malformed ending ≡ fault = cc in
        inr (record { names = sym same; due = λ e. refl })
    by (line ∷ lines) ending is =
        let same : Malformed line.number ≡ fault = cc in
        inl (record {
          front = [];
          line = line;
          behind = lines;
          lines = refl;
          first = record { names = inl (sym same); good = λ e. inr refl; decided = λ behind e. ap (λ (x : TextFault). Err x) same };
        })

abbrev if_due : Bool → List CodeRow → Text → Result CodeText TextFault
if_due b rows text = cond b (behind_rows rows text) (rows_lack text)

if_due_fails : (b : Bool) (rows : List CodeRow) → FailsFirst (if_due b rows)
if_due_fails true rows = perhaps_fails (codes "loops") MAX_LOOPS (behind_loops rows) (behind_loops_fails rows)
if_due_fails false rows = rows_lack_fails

abbrev rows_then : Option ℕ → Text → Result CodeText TextFault
rows_then due text = rows_from (most_rows due) [] text >>= λ rows. if_due (are_due due rows.0) rows.0 rows.1

rows_then_fails : (due : Option ℕ) → FailsFirst (rows_then due)
rows_then_fails due =
    then_fails (AtStop is_behind) (rows_from (most_rows due) []) (λ rows. if_due (are_due due rows) rows) (stop_seen is_behind)
    (rows_steady (most_rows due) []) (λ rows. if_due_fails (are_due due rows) rows)

-- ---- the whole text

abbrev Rows : Type 0
Rows = List CodeRow × Text

abbrev rows_if : Bool → Rows → Result Rows TextFault
rows_if b rows = cond b (Ok rows) (Err (Malformed (next_number rows.1.lines rows.1.ending)))

flat_if : (b : Bool) (rows : Rows) → (rows_if b rows >>= λ rest. behind_rows rest.0 rest.1) ≡ if_due b rows.0 rows.1
flat_if true rows = refl
flat_if false rows = refl

flat_rows : (due : Option ℕ) (s : Result Rows TextFault)
    → ((s >>= λ rows. rows_if (are_due due rows.0) rows) >>= λ rest. behind_rows rest.0 rest.1) ≡ (s >>= λ rows. if_due (are_due due rows.0) rows.0 rows.1)
flat_rows due (Ok rows) = flat_if (are_due due rows.0) rows
flat_rows due (Err e) = refl

flat_code : (r : Result (Option ℕ × Text) TextFault)
    → ((r >>= λ due. rows_from (most_rows due.0) [] due.1 >>= λ rows. rows_if (are_due due.0 rows.0) rows) >>= λ rest. behind_rows rest.0 rest.1)
    ≡ (r >>= λ due. rows_then due.0 due.1)
flat_code (Ok due) = flat_rows due.0 (rows_from (most_rows due.0) [] due.1)
flat_code (Err e) = refl

pub code_fails : FailsFirst code_in
unfolding code_in rows_item
code_fails =
    same_fails (perhaps_then (codes "crossings") MAX_CROSSINGS rows_then) code_in
    (λ text. flat_code (perhaps_counted (codes "crossings") MAX_CROSSINGS text))
    (perhaps_fails (codes "crossings") MAX_CROSSINGS rows_then rows_then_fails)
