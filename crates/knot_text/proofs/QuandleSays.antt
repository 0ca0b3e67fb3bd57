-- A quandle that was read is written there, and so is a list of quandles.
use Rattle.std.proofs.Common.{◌≡◌, ℕ, zero, suc, ◌≤◌, ◌+◌, ◌-◌, ◌*◌, ◌&&◌, List, [], ◌∷◌, ◌++◌, length, get_or, map, Bool, true, false}
use Rattle.std.proofs.Common.{cond, Option, Some, None, Ok, Err, refl, sym, ap, ap₂, subst, ◌∙◌, append_assoc, arith, codes, nat_le, nat_lt}
use Rattle.std.proofs.Common.{length-append}
use Rattle.std.specs.Prelude.{is_none}
use Rattle.std.specs.List.{AllByRecursion, range_with_len}
use Rattle.std.specs.Str.{bytes_eq}
use Rattle.std.specs.Fmt.{decimal}
use Rattle.std.proofs.lemmas.Bool.{ltb-true, ltb-false, and_parts, or_parts}
use Rattle.std.proofs.lemmas.List.{append-nil, map-append, get_or_append_left, get_or-append-add}
use Rattle.std.proofs.lemmas.List.FromFn.{fill_by_all}
use Rattle.std.proofs.lemmas.Option.{cond_some}
use Rattle.colour_rows.specs.Colouring.{AreColours}
use Rattle.quandle_core.specs.declared.quandle.TheConstants.{MAX_ORDER}
use Rattle.quandle_core.specs.declared.fault.QuandleFault.{QuandleFault}
use Rattle.quandle_core.specs.Quandle.{Table, IsQuandle, over}
use Rattle.quandle_core.specs.Tables.{trivial, dihedral, alexander, tetrahedral, is_unit}
use Rattle.quandle_core.specs.Fault.{first_fault_within}
use Rattle.quandle_core.proofs.Accepted.{quandle_within}
use Rattle.text_lines.specs.Lines.{NumberedLine, Text, begins}
use Rattle.text_items.specs.declared.fault.TextFault.{TextFault}
use Rattle.text_items.specs.declared.reading.TheConstants.{MAX_NUMBER}
use Rattle.quandle_core.specs.declared.names.QuandleName.{QuandleName}
use Rattle.quandle_core.specs.declared.names.QuandleName.TheVariants as name
use Rattle.text_items.specs.declared.quandles.Written.{Written}
use Rattle.text_items.specs.declared.quandles.Written.TheVariants as written
use Rattle.quandle_core.proofs.Named.{order_is}
use Rattle.quandle_core.specs.Names.{NamedQuandle, is_order, called}
use Rattle.text_items.specs.Reading.{◌>>=◌, or_malformed}
use Rattle.text_items.specs.NumberLists.{is_long}
use Rattle.text_items.specs.Numbers.{numbers_below}
use Rattle.text_items.specs.Quandles.{with_order, alexander_at, tetrahedral_at, written_at, is_over, meant, table_row, table_rows}
use Rattle.text_items.specs.Quandles.{table_item, quandle_of, quandle_at, quandle_item, surplus_quandle, quandles}
use Rattle.knot_text.specs.Printed.{name_tokens, row_tokens, table_lines, quandle_lines, HasQuandleTextWithin, HasQuandleText}
use Rattle.knot_text.specs.WrittenThere.{StandInFront, listed_lines}
use Rattle.knot_text.proofs.LineTexts.{map_decimals}
use Rattle.knot_text.proofs.Tables.{row}
use Rattle.knot_text.proofs.Says.{Says, says_ok, says_err, says_bind, says_if, says_more, no_lines_in_front, in_front_of, in_front_is, IsNext, next_says}
use Rattle.knot_text.proofs.LineSays.{IsFirst, next_token_says, HasNone, line_end_says, is_word, word_says, or_malformed_says}
use Rattle.knot_text.proofs.LineSays.{IsNumberFirst, number_says, IsNumberAlone, last_number_says, AreColoursAlone, numbers_below_says}
use Rattle.knot_text.proofs.ItemsSay.{IsWritten, line_says}

-- ---- the rows of a table

-- rows one behind the other
abbrev pub joined : List (List ℕ) → List ℕ
joined [] = []
joined (r ∷ rows) = r ++ joined rows

abbrev pub row_line : List ℕ → List (List ℕ)
row_line r = map decimal r

row_is : (t : Table) (x : ℕ) (before r rest : List ℕ) → t.entries ≡ before ++ (r ++ rest) → length before ≡ x * t.order → length r ≡ t.order → row t x ≡ r
row_is t x before r rest is start len =
    sym (fill_by_all (over t x) r t.order 0 len (λ k lt.
    let place : length before + k ≡ x * t.order + k = ap (λ (j : ℕ). j + k) start in
    sym (ap (λ (es : List ℕ). get_or es (x * t.order + k) 0) is ∙ ap (λ (j : ℕ). get_or (before ++ (r ++ rest)) j 0) (sym place)
    ∙ get_or-append-add before (r ++ rest) k 0 ∙ get_or_append_left r rest 0 k (omega (arith, len, lt)))))

row_tokens_are : (t : Table) (x : ℕ) (r : List ℕ) → row t x ≡ r → row_tokens t x ≡ row_line r
row_tokens_are t x r is = sym (map_decimals (over t x) (range_with_len 0 t.order)) ∙ ap row_line is

rows_are : (t : Table) (a : ℕ) (before : List ℕ) (rows : List (List ℕ)) → t.entries ≡ before ++ joined rows → length before ≡ a * t.order
    → AllByRecursion (λ (r : List ℕ). length r ≡ t.order) rows
    → map (row_tokens t) (range_with_len a (length rows)) ≡ map row_line rows
rows_are t a before [] is start each = refl
rows_are t a before (r ∷ rows) is start each =
    let next : (a + 1) * t.order ≡ a * t.order + t.order = omega arith in
    let len : length (before ++ r) ≡ (a + 1) * t.order = omega (arith, length-append before r, start, each.0, next) in
    ap₂ (λ (ts : List (List ℕ)) (tss : List (List (List ℕ))). ts ∷ tss) (row_tokens_are t a r (row_is t a before r (joined rows) is start each.0))
    (rows_are t (a + 1) (before ++ r) rows (is ∙ sym (append_assoc before r (joined rows))) len each.1)

row_says : (order bound : ℕ) (text : Text)
    → Says (table_row order bound text) (IsWritten (λ r. AreColours order bound r) (λ r. row_line r ∷ []) text)
unfolding table_row
row_says order bound text = line_says (λ r. AreColours order bound r) row_line (numbers_below order bound)
    (λ line. says_more (λ r are. (are.colours, are.tokens)) (numbers_below_says order bound line)) text

-- so many rows were read
pub record AreRows (order many : ℕ) (text : Text) (x : List ℕ × Text) : Type 0 where
  pub rows : List (List ℕ)
  pub number : length rows ≡ many
  pub each : AllByRecursion (λ (r : List ℕ). length r ≡ order) rows
  pub entries : x.0 ≡ joined rows
  pub there : StandInFront (map row_line rows) text x.1

pub rows_say : (order bound count : ℕ) (text : Text) → Says (table_rows order bound count text) (AreRows order count text)
unfolding table_rows
rows_say order bound zero text = says_ok ([], text) (record { rows = []; number = refl; each = tt; entries = refl; there = no_lines_in_front text })
rows_say order bound (suc count) text =
    says_bind (IsWritten (λ r. AreColours order bound r) (λ r. row_line r ∷ []) text) (row_says order bound text) (λ first is.
    says_bind (AreRows order count first.1) (rows_say order bound count first.1) (λ others are.
    says_ok (first.0 ++ others.0, others.1) (record {
      rows = first.0 ∷ are.rows;
      number = ap suc are.number;
      each = (is.0.0, are.each);
      entries = ap (λ (es : List ℕ). first.0 ++ es) are.entries;
      there = in_front_of is.1 are.there;
    })))

-- a quandle that its table gives
abbrev IsTabled : ℕ → NamedQuandle → Type 0
IsTabled order q = (q.name ≡ name.Table) × IsQuandle q.table × (q.table.order ≡ order)

-- all rows are written there
abbrev IsTable : ℕ → Text → NamedQuandle × Text → Type 0
IsTable order text q = IsTabled order q.0 × StandInFront (table_lines name.Table q.0.table) text q.1

joined_last : (rows : List (List ℕ)) (r : List ℕ) → joined (rows ++ r ∷ []) ≡ joined rows ++ r
joined_last [] r = append-nil r
joined_last (s ∷ rows) r = ap (λ (es : List ℕ). s ++ es) (joined_last rows r) ∙ sym (append_assoc s (joined rows) r)

each_last : (order : ℕ) (rows : List (List ℕ)) (r : List ℕ) → AllByRecursion (λ (s : List ℕ). length s ≡ order) rows → length r ≡ order
    → AllByRecursion (λ (s : List ℕ). length s ≡ order) (rows ++ r ∷ [])
each_last order [] r all len = (len, tt)
each_last order (s ∷ rows) r all len = (all.0, each_last order rows r all.1 len)

-- the rows of a square table were read, the last one behind the others
pub rows_printed : (t : Table) (text : Text) (front : List ℕ × Text) (line : NumberedLine × Text) (r : List ℕ) → 1 ≤ t.order → t.entries ≡ front.0 ++ r
    → AreRows t.order (t.order - 1) text front → IsNext front.1 line → line.0.tokens ≡ row_line r → length r ≡ t.order
    → StandInFront (map (row_tokens t) (range_with_len 0 t.order)) text line.1
rows_printed t text front line r some is are there tokens len =
    let all = are.rows ++ r ∷ [] in
    let entries : t.entries ≡ joined all = is ∙ ap (λ (es : List ℕ). es ++ r) are.entries ∙ sym (joined_last are.rows r) in
    let number : length all ≡ t.order = omega (arith, length-append are.rows (r ∷ []), are.number, some) in
    let none : length {A = ℕ} [] ≡ 0 * t.order = omega arith in
    let lines : map (row_tokens t) (range_with_len 0 (length all)) ≡ map row_line all =
    rows_are t 0 [] all entries none (each_last t.order are.rows r are.each len) in
    let printed : map row_line are.rows ++ line.0.tokens ∷ [] ≡ map (row_tokens t) (range_with_len 0 t.order) =
    ap (λ (ts : List (List ℕ)). map row_line are.rows ++ ts ∷ []) tokens ∙ sym (map-append row_line are.rows (r ∷ [])) ∙ sym lines
    ∙ ap (λ (j : ℕ). map (row_tokens t) (range_with_len 0 j)) number in
    in_front_is printed (in_front_of are.there there)

table_is : (order : ℕ) (text : Text) (front : List ℕ × Text) (line : NumberedLine × Text) (r : List ℕ) → AreRows order (order - 1) text front
    → IsNext front.1 line → AreColoursAlone order order line.0 r → IsQuandle (record { order = order; entries = front.0 ++ r })
    → IsTable order text (called name.Table (record { order = order; entries = front.0 ++ r }), line.1)
table_is order text front line r are there last quandle =
    let t : Table = record { order = order; entries = front.0 ++ r } in
    ((refl, quandle, refl), rows_printed t text front line r quandle.least refl are there last.tokens last.colours.0)

table_by : (order : ℕ) (text : Text) (front : List ℕ × Text) (line : NumberedLine × Text) (r : List ℕ) → AreRows order (order - 1) text front
    → IsNext front.1 line → AreColoursAlone order order line.0 r
    → (f : Option QuandleFault) → first_fault_within order (record { order = order; entries = front.0 ++ r }) ≡ f → (e : TextFault)
    → Says (cond (is_none f) (Ok (called name.Table (record { order = order; entries = front.0 ++ r }), line.1)) (Err e)) (IsTable order text)
table_by order text front line r are there last (Some fault) is e = says_err
table_by order text front line r are there last None is e =
    says_ok (called name.Table (record { order = order; entries = front.0 ++ r }), line.1)
    (table_is order text front line r are there last (quandle_within order (record { order = order; entries = front.0 ++ r }) is).0)

table_says : (order : ℕ) (text : Text) → Says (table_item order text) (IsTable order text)
unfolding table_item
table_says order text = says_bind (AreRows order (order - 1) text) (rows_say order order (order - 1) text) (λ front are.
    says_bind (IsNext front.1) (next_says front.1) (λ line there.
    says_bind (AreColoursAlone order order line.0) (numbers_below_says order order line.0) (λ r last.
    table_by order text front line r are there last (first_fault_within order (record { order = order; entries = front.0 ++ r })) refl _)))

-- ---- names

abbrev written_tokens : Written → List (List ℕ)
written_tokens (written.Trivial n) = codes "trivial" ∷ decimal n ∷ []
written_tokens (written.Dihedral n) = codes "dihedral" ∷ decimal n ∷ []
written_tokens written.Tetrahedral = codes "tetrahedral" ∷ []
written_tokens (written.Alexander n a) = codes "alexander" ∷ decimal n ∷ decimal a ∷ []
written_tokens (written.Table n) = codes "table" ∷ decimal n ∷ []

-- a name within its limits is written there
abbrev IsName : ℕ → List (List ℕ) → Written × NumberedLine → Type 0
IsName most tokens w = is_over most w.0 ≡ false → tokens ≡ written_tokens w.0

few_order : (bound n : ℕ) → bound ≤ MAX_NUMBER → nat_lt bound n ≡ false → n ≤ MAX_NUMBER
few_order bound n small within = omega (arith, small, ltb-false bound n within)

-- behind the word, an order within its limit
record NamesOrder (most bound : ℕ) (family : List ℕ) (make : ℕ → Written) : Type 0 where
  small : bound ≤ MAX_NUMBER
  over : (n : ℕ) → is_over most (make n) ≡ nat_lt bound n
  tokens : (n : ℕ) → family ∷ decimal n ∷ [] ≡ written_tokens (make n)

order_says : (most bound : ℕ) (family : List ℕ) (make : ℕ → Written) → NamesOrder most bound family make → (tokens : List (List ℕ)) (t : List ℕ × NumberedLine)
    → IsFirst tokens t → bytes_eq t.0 family ≡ true → Says (with_order make t.1) (IsName most tokens)
order_says most bound family make names tokens t is same = says_bind (IsNumberAlone t.1.tokens) (last_number_says t.1) (λ n there.
    says_ok (make n.0, n.1) (λ within.
    is ∙ ap₂ (λ (s : List ℕ) (ts : List (List ℕ)). s ∷ ts) (is_word t.0 family same) (there (few_order bound n.0 names.small (sym (names.over n.0) ∙ within)))
    ∙ names.tokens n.0))

alexander_says : (most : ℕ) (tokens : List (List ℕ)) (t : List ℕ × NumberedLine) → IsFirst tokens t → bytes_eq t.0 (codes "alexander") ≡ true
    → Says (alexander_at t.1) (IsName most tokens)
unfolding alexander_at
alexander_says most tokens t is same = says_bind (IsNumberFirst t.1.tokens) (number_says t.1) (λ n first.
    says_bind (IsNumberAlone n.1.tokens) (last_number_says n.1) (λ a second.
    says_ok (written.Alexander n.0 a.0, a.1) (λ within.
    let both = or_parts (nat_lt MAX_ORDER n.0) (is_long a.0) within in
    is ∙ ap₂ (λ (s : List ℕ) (ts : List (List ℕ)). s ∷ ts) (is_word t.0 (codes "alexander") same)
    (first (few_order MAX_ORDER n.0 (omega arith) both.0) ∙ ap (λ (ts : List (List ℕ)). decimal n.0 ∷ ts) (second (ltb-false MAX_NUMBER a.0 both.1))))))

tetrahedral_says : (most : ℕ) (tokens : List (List ℕ)) (t : List ℕ × NumberedLine) → IsFirst tokens t → bytes_eq t.0 (codes "tetrahedral") ≡ true
    → Says (tetrahedral_at t.1) (IsName most tokens)
unfolding tetrahedral_at
tetrahedral_says most tokens t is same = says_bind (HasNone t.1.tokens) (line_end_says t.1) (λ end none.
    says_ok (written.Tetrahedral, end) (λ within. is ∙ ap₂ (λ (s : List ℕ) (ts : List (List ℕ)). s ∷ ts) (is_word t.0 (codes "tetrahedral") same) none.0))

written_says : (most : ℕ) → most ≤ MAX_NUMBER → (line : NumberedLine) → Says (written_at line) (IsName most line.tokens)
unfolding written_at
written_says most small line = says_bind (IsFirst line.tokens) (next_token_says line) (λ t is.
    says_if (bytes_eq t.0 (codes "trivial")) (λ same. order_says most MAX_ORDER (codes "trivial") (λ n. written.Trivial n)
    (record { small = omega arith; over = λ n. refl; tokens = λ n. refl }) line.tokens t is same) (λ a.
    says_if (bytes_eq t.0 (codes "dihedral")) (λ same. order_says most MAX_ORDER (codes "dihedral") (λ n. written.Dihedral n)
    (record { small = omega arith; over = λ n. refl; tokens = λ n. refl }) line.tokens t is same) (λ b.
    says_if (bytes_eq t.0 (codes "tetrahedral")) (λ same. tetrahedral_says most line.tokens t is same) (λ c.
    says_if (bytes_eq t.0 (codes "alexander")) (λ same. alexander_says most line.tokens t is same) (λ d.
    says_if (bytes_eq t.0 (codes "table")) (λ same. order_says most most (codes "table") (λ n. written.Table n)
    (record { small = small; over = λ n. refl; tokens = λ n. refl }) line.tokens t is same) (λ e. says_err))))))

-- ---- what a name means

test_if : {A : Type 0} (b : Bool) (o : Option A) (y : A) → cond b o None ≡ Some y → (b ≡ true) × (o ≡ Some y)
test_if true o y e = (refl, e)
test_if false o y e = absurd cc

-- the quandle of a name without a table
record IsNamed (most : ℕ) (w : Written) (q : NamedQuandle) : Type 0 where
  text : HasQuandleTextWithin most q
  tokens : written_tokens w ≡ name_tokens q.name q.table.order
  lines : [] ≡ table_lines q.name q.table

meant_named : (most : ℕ) (w : Written) (q : NamedQuandle) → meant w ≡ Some q → IsNamed most w q
meant_named most (written.Trivial n) q e =
    let c = cond_some (is_order n) (called (name.Trivial n) (trivial n)) q e in
    subst (IsNamed most (written.Trivial n)) c.1 (record { text = record { names = (order_is n c.0, refl); factor = tt }; tokens = refl; lines = refl })
meant_named most (written.Dihedral n) q e =
    let c = cond_some (is_order n) (called (name.Dihedral n) (dihedral n)) q e in
    subst (IsNamed most (written.Dihedral n)) c.1 (record { text = record { names = (order_is n c.0, refl); factor = tt }; tokens = refl; lines = refl })
meant_named most written.Tetrahedral q e =
    let c = cond_some true (called name.Tetrahedral tetrahedral) q e in
    subst (IsNamed most written.Tetrahedral) c.1 (record { text = record { names = refl; factor = tt }; tokens = refl; lines = refl })
meant_named most (written.Alexander n a) q e =
    let low = test_if (nat_lt a n) (cond (is_order n && is_unit n a) (Some (called (name.Alexander n a) (alexander n a))) None) q e in
    let c = cond_some (is_order n && is_unit n a) (called (name.Alexander n a) (alexander n a)) q low.1 in
    let both = and_parts (is_order n) (is_unit n a) c.0 in
    subst (IsNamed most (written.Alexander n a)) c.1
    (record { text = record { names = (order_is n both.0, both.1, refl); factor = ltb-true a n low.0 }; tokens = refl; lines = refl })
meant_named most (written.Table n) q e = absurd cc

-- a quandle, by a name that a line ends with and the lines of a table behind it; the order of a table is at most the first number
pub record IsQuandleAt (most : ℕ) (words : List (List ℕ)) (lines : Text) (x : NamedQuandle × Text) : Type 0 where
  pub text : HasQuandleTextWithin most x.0
  pub tokens : words ≡ name_tokens x.0.name x.0.table.order
  pub there : StandInFront (table_lines x.0.name x.0.table) lines x.1

untabled_says : (most : ℕ) (w : Written) (tokens : List (List ℕ)) (n : ℕ) (lines : Text) → tokens ≡ written_tokens w
    → Says (or_malformed n (meant w) >>= λ q. Ok (q, lines)) (IsQuandleAt most tokens lines)
untabled_says most w tokens n lines is = says_bind (λ (q : NamedQuandle). meant w ≡ Some q) (or_malformed_says n (meant w)) (λ q e.
    let m = meant_named most w q e in
    says_ok (q, lines) (record { text = m.text; tokens = is ∙ m.tokens; there = in_front_is m.lines (no_lines_in_front lines) }))

tabled : (most order : ℕ) (tokens : List (List ℕ)) (lines : Text) (called_so : QuandleName) (t : Table) (rest : Text)
    → order ≤ most → tokens ≡ codes "table" ∷ decimal order ∷ [] → IsTable order lines (called called_so t, rest)
    → IsQuandleAt most tokens lines (called called_so t, rest)
tabled most order tokens lines called_so t rest few is table =
    let same : name.Table ≡ called_so = sym table.0.0 in
    subst (λ (m : QuandleName). IsQuandleAt most tokens lines (called m t, rest)) same (record {
      text = record { names = (table.0.1, omega (arith, few, table.0.2)); factor = tt };
      tokens = is ∙ ap (λ (k : ℕ). codes "table" ∷ decimal k ∷ []) (sym table.0.2);
      there = table.1;
    })

of_says : (most n : ℕ) (w : Written) (tokens : List (List ℕ)) (lines : Text) → is_over most w ≡ false → tokens ≡ written_tokens w
    → Says (quandle_of n w lines) (IsQuandleAt most tokens lines)
of_says most n (written.Trivial k) tokens lines within is = untabled_says most (written.Trivial k) tokens n lines is
of_says most n (written.Dihedral k) tokens lines within is = untabled_says most (written.Dihedral k) tokens n lines is
of_says most n written.Tetrahedral tokens lines within is = untabled_says most written.Tetrahedral tokens n lines is
of_says most n (written.Alexander k a) tokens lines within is = untabled_says most (written.Alexander k a) tokens n lines is
of_says most n (written.Table order) tokens lines within is =
    says_if (nat_le 1 order) (λ some. says_more
    (λ q table. tabled most order tokens lines q.0.name q.0.table q.1 (ltb-false most order within) is table) (table_says order lines))
    (λ none. says_err)

pub quandle_at_says : (most : ℕ) → most ≤ MAX_NUMBER → (line : NumberedLine) (text : Text)
    → Says (quandle_at most line text) (IsQuandleAt most line.tokens text)
unfolding quandle_at
quandle_at_says most small line text = says_bind (IsName most line.tokens) (written_says most small line) (λ w is.
    says_if (is_over most w.0) (λ over. says_err) (λ within. of_says most w.1.number w.0 line.tokens text within (is within)))

-- ---- the item, and a list of items

pub quandle_says : (text : Text) → Says (quandle_item text) (IsWritten HasQuandleText (quandle_lines (codes "quandle")) text)
unfolding quandle_item
quandle_says text = says_bind (IsNext text) (next_says text) (λ line there.
    says_bind (λ (rest : NumberedLine). line.0.tokens ≡ codes "quandle" ∷ rest.tokens) (word_says (codes "quandle") line.0) (λ rest named.
    says_more (λ q is. (
      is.text,
      in_front_of (in_front_is (ap (λ (ts : List (List ℕ)). ts ∷ [])
          (named ∙ ap (λ (ts : List (List ℕ)). codes "quandle" ∷ ts) is.tokens)) there) is.there,
    )) (quandle_at_says MAX_ORDER (omega arith) rest line.1)))

-- at most so many, one behind the other
pub record AreItems (room : ℕ) (text : Text) (x : List NamedQuandle × Text) : Type 0 where
  pub few : length x.0 ≤ room
  pub each : AllByRecursion HasQuandleText x.0
  pub there : StandInFront (listed_lines x.0) text x.1

no_items : (room : ℕ) (text : Text) → AreItems room text ([], text)
no_items room text = record { few = omega arith; each = tt; there = no_lines_in_front text }

surplus_says : (P : List NamedQuandle × Text → Type 0) (text : Text) → Says (surplus_quandle text) P
unfolding surplus_quandle
surplus_says P text = says_bind (IsNext text) (next_says text) (λ line there.
    says_bind (λ (rest : NumberedLine). line.0.tokens ≡ codes "quandle" ∷ rest.tokens) (word_says (codes "quandle") line.0) (λ rest named.
    says_bind (IsName MAX_ORDER rest.tokens) (written_says MAX_ORDER (omega arith) rest) (λ w is. says_err)))

pub quandles_say : (room : ℕ) (text : Text) → Says (quandles room text) (AreItems room text)
unfolding quandles
quandles_say zero text =
    says_if (begins (codes "quandle") text) (λ more. surplus_says (AreItems zero text) text) (λ none. says_ok ([], text) (no_items zero text))
quandles_say (suc room) text = says_if (begins (codes "quandle") text) (λ more.
    says_bind (IsWritten HasQuandleText (quandle_lines (codes "quandle")) text) (quandle_says text) (λ first is.
    says_bind (AreItems room first.1) (quandles_say room first.1) (λ others are.
    says_ok (first.0 ∷ others.0, others.1) (record { few = omega (arith, are.few); each = (is.0, are.each); there = in_front_of is.1 are.there }))))
    (λ none. says_ok ([], text) (no_items (suc room) text))
