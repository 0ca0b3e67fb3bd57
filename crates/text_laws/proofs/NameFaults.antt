-- The readers of quandles refuse their names by their kind.
use Rattle.std.proofs.Common.{◌≡◌, ◌∙◌, ℕ, ◌&&◌, ◌||◌, Bool, true, false, cond, List, [], ◌∷◌}
use Rattle.std.proofs.Common.{codes, Option, Some, None, Result, Ok, Err, nat_le, nat_lt, refl, ap, arith}
use Rattle.std.specs.List.{list_any}
use Rattle.std.specs.Str.{bytes_eq}
use Rattle.quandle_core.specs.declared.quandle.TheConstants.{MAX_ORDER}
use Rattle.quandle_core.specs.Tables.{is_unit}
use Rattle.quandle_core.specs.Names.{NamedQuandle}
use Rattle.text_lines.specs.Lines.{NumberedLine, Text, starts}
use Rattle.text_lines.specs.NumberTokens.{is_number}
use Rattle.text_items.specs.declared.fault.TextFault.{TextFault}
use Rattle.text_items.specs.declared.fault.TextFault.TheVariants.{Malformed, Limit}
use Rattle.text_items.specs.declared.quandles.Written.{Written}
use Rattle.text_items.specs.declared.quandles.Written.TheVariants as written
use Rattle.text_items.specs.Reading.{◌>>=◌, next_line, next_token, line_end, word, number, last_number}
use Rattle.text_items.specs.Quandles.{with_order, alexander_at, tetrahedral_at, written_at, is_over, quandle_of, quandle_at, quandle_item, table_item}
use Rattle.verdict_core.specs.declared.verdict.Verdict.TheVariants.{Different}
use Rattle.verdict_text.specs.Verdicts.{list_item, different_at, verdict_of}
use Rattle.verdict_text.specs.declared.verdicts.Version.{Version}
use Rattle.text_laws.specs.LineKinds.{read_fault, fault_by, kind_fault, is_overlong, worth, has_form}
use Rattle.text_laws.specs.LineKinds.{is_name_over, says_quandle, name_kind, others, behind_word}
use Rattle.text_laws.specs.FirstLines.{or_later, on_top, table_fault, BeginsBy, FailsWith, FailsElse}
use Rattle.knot_text.proofs.StepsAgain.{line_of}
use Rattle.text_laws.proofs.Worths.{kept, within, above_kept}
use Rattle.text_laws.proofs.LineFaults.{long_by}
use Rattle.text_laws.proofs.StepFaults.{most_by, chosen}

-- ---- what a name says, once it is read

abbrev judge : Text → Written × NumberedLine → Result (NamedQuandle × Text) TextFault
judge text name = cond (is_over MAX_ORDER name.0) (Err (Limit name.1.number)) (quandle_of name.1.number name.0 text)

-- the lines of a table, where the family is that of tables
abbrev later : List ℕ → Text → ℕ → Option TextFault
later family text k = cond (bytes_eq family (codes "table")) (read_fault (table_item k text)) None

-- a family of one order: its limit and its content
record IsFamily (family : List ℕ) (make : ℕ → Written) : Type 0 where
  over : (k : ℕ) → is_over MAX_ORDER (make k) ≡ nat_lt MAX_ORDER k
  content : (n k : ℕ) (text : Text) → nat_lt MAX_ORDER k ≡ false
      → read_fault (quandle_of n (make k) text) ≡ or_later (fault_by true false (nat_le 1 k) n) (later family text k)

trivial_content : (n k : ℕ) (text : Text) (least : Bool) → nat_le 1 k ≡ least → nat_lt MAX_ORDER k ≡ false
    → read_fault (quandle_of n (written.Trivial k) text) ≡ or_later (fault_by true false least n) None
trivial_content n k text true is few = rw (is, most_by MAX_ORDER k, few) refl
trivial_content n k text false is few = rw is refl

trivials : IsFamily (codes "trivial") (λ k. written.Trivial k)
trivials = record { over = λ k. refl; content = λ n k text few. trivial_content n k text (nat_le 1 k) refl few }

dihedral_content : (n k : ℕ) (text : Text) (least : Bool) → nat_le 1 k ≡ least → nat_lt MAX_ORDER k ≡ false
    → read_fault (quandle_of n (written.Dihedral k) text) ≡ or_later (fault_by true false least n) None
dihedral_content n k text true is few = rw (is, most_by MAX_ORDER k, few) refl
dihedral_content n k text false is few = rw is refl

dihedrals : IsFamily (codes "dihedral") (λ k. written.Dihedral k)
dihedrals = record { over = λ k. refl; content = λ n k text few. dihedral_content n k text (nat_le 1 k) refl few }

table_content : (n k : ℕ) (text : Text) (least : Bool) → nat_le 1 k ≡ least
    → read_fault (quandle_of n (written.Table k) text) ≡ or_later (fault_by true false least n) (read_fault (table_item k text))
table_content n k text true is = rw is refl
table_content n k text false is = rw is refl

tables : IsFamily (codes "table") (λ k. written.Table k)
tables = record { over = λ k. refl; content = λ n k text few. table_content n k text (nat_le 1 k) refl }

-- ---- a family and one order

one_order : (family : List ℕ) (make : ℕ → Written) (n : ℕ) (t : List ℕ) (text : Text) (over : Bool) → IsFamily family make → is_number t ≡ true
    → nat_lt MAX_ORDER (worth t) ≡ over
    → read_fault (judge text (make (kept t), line_of n [])) ≡ or_later (fault_by true over (nat_le 1 (worth t)) n) (later family text (worth t))
one_order family make n t text true is number over = rw (is.over (kept t), above_kept MAX_ORDER t (omega arith) number, over) refl
one_order family make n t text false is number over =
    rw (within MAX_ORDER t (omega arith) number over, is.over (worth t), over) (is.content n (worth t) text over)

abbrev Refuses : (Text → NumberedLine → Result (NamedQuandle × Text) TextFault) → (List (List ℕ) → Bool) → List ℕ → ℕ → List (List ℕ) → Text → Type 0
Refuses read form family n rest text =
    read_fault (read text (line_of n rest))
    ≡ or_later (fault_by (form rest || false) (is_name_over (family ∷ rest)) (says_quandle (family ∷ rest)) n) (table_fault (family ∷ rest) text)

abbrev by_order : (ℕ → Written) → Text → NumberedLine → Result (NamedQuandle × Text) TextFault
by_order make text line = with_order make line >>= λ name. judge text name

order_fails : (family : List ℕ) (make : ℕ → Written) (n : ℕ) (rest : List (List ℕ)) (text : Text) → IsFamily family make
    → Refuses (by_order make) (has_form (is_number ∷ [])) family n rest text
unfolding last_number number next_token line_end
order_fails family make n [] text is = refl
order_fails family make n (t ∷ []) text is = by (is_number t) refl
  where
    by : (b : Bool) → is_number t ≡ b → Refuses (by_order make) (has_form (is_number ∷ [])) family n (t ∷ []) text
    by true number = rw number (one_order family make n t text (nat_lt MAX_ORDER (worth t)) is number refl)
    by false number = rw number refl
order_fails family make n (t ∷ u ∷ more) text is = by (is_number t) refl
  where
    by : (b : Bool) → is_number t ≡ b → Refuses (by_order make) (has_form (is_number ∷ [])) family n (t ∷ u ∷ more) text
    by true number = rw number refl
    by false number = rw number refl

-- ---- `tetrahedral`

abbrev by_end : Text → NumberedLine → Result (NamedQuandle × Text) TextFault
by_end text line = tetrahedral_at line >>= λ name. judge text name

end_fails : (n : ℕ) (rest : List (List ℕ)) (text : Text) → Refuses by_end (has_form []) (codes "tetrahedral") n rest text
unfolding tetrahedral_at line_end
end_fails n [] text = refl
end_fails n (t ∷ more) text = refl

-- ---- `alexander`

unit_by : (n k a : ℕ) (text : Text) (low least unit : Bool) → nat_lt a k ≡ low → nat_le 1 k ≡ least → is_unit k a ≡ unit → nat_lt MAX_ORDER k ≡ false
    → read_fault (quandle_of n (written.Alexander k a) text) ≡ fault_by true false (least && (low && unit)) n
unit_by n k a text true true true below is has few = rw (below, is, most_by MAX_ORDER k, few, has) refl
unit_by n k a text true true false below is has few = rw (below, is, most_by MAX_ORDER k, few, has) refl
unit_by n k a text true false unit below is has few = rw (below, is) refl
unit_by n k a text false true unit below is has few = rw below refl
unit_by n k a text false false unit below is has few = rw below refl

kept_short : (u : List ℕ) → is_overlong u ≡ false → kept u ≡ worth u
kept_short u short = rw short refl

two_by : (n : ℕ) (t u : List ℕ) (text : Text) (over long : Bool) → is_number t ≡ true → is_number u ≡ true → nat_lt MAX_ORDER (worth t) ≡ over
    → is_overlong u ≡ long
    → read_fault (judge text (written.Alexander (kept t) (kept u), line_of n []))
    ≡ fault_by true (over || long) (nat_le 1 (worth t) && (nat_lt (worth u) (worth t) && is_unit (worth t) (worth u))) n
two_by n t u text true long first second over digits = rw (above_kept MAX_ORDER t (omega arith) first, over) refl
two_by n t u text false true first second over digits = rw (above_kept MAX_ORDER t (omega arith) first, over, long_by u true second digits) refl
two_by n t u text false false first second over digits =
    rw (within MAX_ORDER t (omega arith) first over, over, long_by u false second digits, kept_short u digits)
    (unit_by n (worth t) (worth u) text _ _ _ refl refl refl over)

none_later : (fault : Option TextFault) → fault ≡ or_later fault None
none_later None = refl
none_later (Some fault) = refl

abbrev by_factor : Text → NumberedLine → Result (NamedQuandle × Text) TextFault
by_factor text line = alexander_at line >>= λ name. judge text name

factor_fails : (n : ℕ) (rest : List (List ℕ)) (text : Text) → Refuses by_factor (has_form (is_number ∷ is_number ∷ [])) (codes "alexander") n rest text
unfolding alexander_at last_number number next_token line_end
factor_fails n [] text = refl
factor_fails n (t ∷ []) text = by (is_number t) refl
  where
    by : (b : Bool) → is_number t ≡ b → Refuses by_factor (has_form (is_number ∷ is_number ∷ [])) (codes "alexander") n (t ∷ []) text
    by true first = rw first refl
    by false first = rw first refl
factor_fails n (t ∷ u ∷ []) text = by (is_number t) (is_number u) refl refl
  where
    by : (b c : Bool) → is_number t ≡ b → is_number u ≡ c
        → Refuses by_factor (has_form (is_number ∷ is_number ∷ [])) (codes "alexander") n (t ∷ u ∷ []) text
    by true true first second = rw (first, second) (two_by n t u text _ _ first second refl refl ∙ none_later _)
    by true false first second = rw (first, second) refl
    by false c first second = rw first refl
factor_fails n (t ∷ u ∷ v ∷ more) text = by (is_number t) (is_number u) refl refl
  where
    by : (b c : Bool) → is_number t ≡ b → is_number u ≡ c
        → Refuses by_factor (has_form (is_number ∷ is_number ∷ [])) (codes "alexander") n (t ∷ u ∷ v ∷ more) text
    by true true first second = rw (first, second) refl
    by true false first second = rw (first, second) refl
    by false c first second = rw first refl

-- ---- any name

either_then : {A B : Type 0} (b : Bool) (x y : Result A TextFault) (next : A → Result B TextFault) (fault : Option TextFault)
    → (b ≡ true → read_fault (x >>= next) ≡ fault) → (b ≡ false → read_fault (y >>= next) ≡ fault) → read_fault (cond b x y >>= next) ≡ fault
either_then true x y next fault first second = first refl
either_then false x y next fault first second = second refl

-- a name of none of the five families
pub record IsOther (family : List ℕ) : Type 0 where
  pub trivial : bytes_eq family (codes "trivial") ≡ false
  pub dihedral : bytes_eq family (codes "dihedral") ≡ false
  pub tetrahedral : bytes_eq family (codes "tetrahedral") ≡ false
  pub alexander : bytes_eq family (codes "alexander") ≡ false
  pub table : bytes_eq family (codes "table") ≡ false

abbrev expected : ℕ → List (List ℕ) → Text → Option TextFault
expected n tokens text = or_later (kind_fault name_kind (line_of n tokens)) (table_fault tokens text)

other : (family : List ℕ) (n : ℕ) (rest : List (List ℕ)) (text : Text) → IsOther family → Some (Malformed n) ≡ expected n (family ∷ rest) text
other family n rest text is = rw (is.trivial, is.dihedral, is.table, is.tetrahedral, is.alexander) refl

abbrev from_table : List ℕ → NumberedLine → Result (Written × NumberedLine) TextFault
from_table t line = cond (bytes_eq t (codes "table")) (with_order (λ k. written.Table k) line) (Err (Malformed line.number))

abbrev from_alexander : List ℕ → NumberedLine → Result (Written × NumberedLine) TextFault
from_alexander t line = cond (bytes_eq t (codes "alexander")) (alexander_at line) (from_table t line)

abbrev from_tetrahedral : List ℕ → NumberedLine → Result (Written × NumberedLine) TextFault
from_tetrahedral t line = cond (bytes_eq t (codes "tetrahedral")) (tetrahedral_at line) (from_alexander t line)

abbrev from_dihedral : List ℕ → NumberedLine → Result (Written × NumberedLine) TextFault
from_dihedral t line = cond (bytes_eq t (codes "dihedral")) (with_order (λ k. written.Dihedral k) line) (from_tetrahedral t line)

-- what is read behind each of the families, and behind none
pub record ByFamily {B : Type 0} (n : ℕ) (rest : List (List ℕ)) (next : Written × NumberedLine → Result B TextFault)
    (fault : List ℕ → Option TextFault) : Type 0 where
  pub trivial : read_fault (with_order (λ k. written.Trivial k) (line_of n rest) >>= next) ≡ fault (codes "trivial")
  pub dihedral : read_fault (with_order (λ k. written.Dihedral k) (line_of n rest) >>= next) ≡ fault (codes "dihedral")
  pub tetrahedral : read_fault (tetrahedral_at (line_of n rest) >>= next) ≡ fault (codes "tetrahedral")
  pub alexander : read_fault (alexander_at (line_of n rest) >>= next) ≡ fault (codes "alexander")
  pub table : read_fault (with_order (λ k. written.Table k) (line_of n rest) >>= next) ≡ fault (codes "table")
  pub none : (family : List ℕ) → IsOther family → Some (Malformed n) ≡ fault family

pub by_family : {B : Type 0} (n : ℕ) (family : List ℕ) (rest : List (List ℕ)) (next : Written × NumberedLine → Result B TextFault)
    (fault : List ℕ → Option TextFault) → ByFamily n rest next fault → read_fault (written_at (line_of n (family ∷ rest)) >>= next) ≡ fault family
unfolding written_at next_token
by_family n family rest next fault by =
    let left = line_of n rest in
    either_then (bytes_eq family (codes "trivial")) (with_order (λ k. written.Trivial k) left) (from_dihedral family left) next (fault family)
    (λ is. chosen (codes "trivial") family (λ w. read_fault (with_order (λ k. written.Trivial k) left >>= next) ≡ fault w) is by.trivial)
    (λ trivial. either_then (bytes_eq family (codes "dihedral")) (with_order (λ k. written.Dihedral k) left) (from_tetrahedral family left) next (fault family)
    (λ is. chosen (codes "dihedral") family (λ w. read_fault (with_order (λ k. written.Dihedral k) left >>= next) ≡ fault w) is by.dihedral)
    (λ dihedral. either_then (bytes_eq family (codes "tetrahedral")) (tetrahedral_at left) (from_alexander family left) next (fault family)
    (λ is. chosen (codes "tetrahedral") family (λ w. read_fault (tetrahedral_at left >>= next) ≡ fault w) is by.tetrahedral)
    (λ tetrahedral. either_then (bytes_eq family (codes "alexander")) (alexander_at left) (from_table family left) next (fault family)
    (λ is. chosen (codes "alexander") family (λ w. read_fault (alexander_at left >>= next) ≡ fault w) is by.alexander)
    (λ alexander. either_then (bytes_eq family (codes "table")) (with_order (λ k. written.Table k) left) (Err (Malformed n)) next (fault family)
    (λ is. chosen (codes "table") family (λ w. read_fault (with_order (λ k. written.Table k) left >>= next) ≡ fault w) is by.table)
    (λ table. by.none family
    (record { trivial = trivial; dihedral = dihedral; tetrahedral = tetrahedral; alexander = alexander; table = table }))))))

-- the fault of a name that is read
families : (n : ℕ) (rest : List (List ℕ)) (text : Text) → ByFamily n rest (λ name. judge text name) (λ family. expected n (family ∷ rest) text)
families n rest text = record {
  trivial = order_fails (codes "trivial") (λ k. written.Trivial k) n rest text trivials;
  dihedral = order_fails (codes "dihedral") (λ k. written.Dihedral k) n rest text dihedrals;
  tetrahedral = end_fails n rest text;
  alexander = factor_fails n rest text;
  table = order_fails (codes "table") (λ k. written.Table k) n rest text tables;
  none = λ family is. other family n rest text is;
}

name_fails : (n : ℕ) (tokens : List (List ℕ)) (text : Text) → read_fault (quandle_at MAX_ORDER (line_of n tokens) text) ≡ expected n tokens text
unfolding quandle_at written_at next_token
name_fails n [] text = refl
name_fails n (family ∷ rest) text = by_family n family rest (λ name. judge text name) (λ w. expected n (w ∷ rest) text) (families n rest text)

quandle_by : (n : ℕ) (tokens : List (List ℕ)) (text : Text)
    → read_fault (word (codes "quandle") (line_of n tokens) >>= λ rest. quandle_at MAX_ORDER rest text)
    ≡ or_later (kind_fault (behind_word (codes "quandle") name_kind) (line_of n tokens)) (table_fault (others tokens) text)
unfolding word next_token
quandle_by n [] text = refl
quandle_by n (w ∷ name) text = by (bytes_eq w (codes "quandle")) refl
  where
    by : (b : Bool) → bytes_eq w (codes "quandle") ≡ b → read_fault (word (codes "quandle") (line_of n (w ∷ name)) >>= λ rest. quandle_at MAX_ORDER rest text)
        ≡ or_later (kind_fault (behind_word (codes "quandle") name_kind) (line_of n (w ∷ name))) (table_fault name text)
    by true is = rw is (name_fails n name text)
    by false is = rw is refl

pub quandle_begins : BeginsBy (behind_word (codes "quandle") name_kind) (λ tokens text. table_fault (others tokens) text) quandle_item
unfolding quandle_item next_line
quandle_begins line text = quandle_by line.number line.tokens text

-- ---- `different`

fault_stays : {A B : Type 0} (m : Result A TextFault) (next : A → Result B TextFault) (fault : TextFault) → read_fault m ≡ Some fault
    → read_fault (m >>= next) ≡ Some fault
fault_stays (Ok x) next fault is = absurd cc
fault_stays (Err e) next fault is = is

different_head : (one two n : ℕ) (name : List (List ℕ)) (text : Text) (fault : TextFault) → kind_fault name_kind (line_of n name) ≡ Some fault
    → read_fault (different_at one two (line_of n name) text) ≡ Some fault
unfolding different_at
different_head one two n name text fault is =
    fault_stays (quandle_at MAX_ORDER (line_of n name) text)
    (λ quandle. list_item one quandle.0.table.order quandle.1 >>= λ first. list_item two quandle.0.table.order first.1
    >>= λ second. Ok (Different quandle.0 first.0 second.0, second.1)) fault
    (name_fails n name text ∙ ap (λ (first : Option TextFault). or_later first (table_fault name text)) is)

different_by : (version : Version) (one two n : ℕ) (tokens : List (List ℕ)) (text : Text) (fault : TextFault) → starts (codes "different") tokens ≡ true
    → kind_fault (behind_word (codes "different") name_kind) (line_of n tokens) ≡ Some fault
    → read_fault (verdict_of version one two (on_top (line_of n tokens) text)) ≡ Some fault
unfolding verdict_of next_line next_token
different_by version one two n [] text fault is bad = absurd cc
different_by version one two n (m ∷ name) text fault is bad =
    chosen (codes "different") m
    (λ w. kind_fault (behind_word (codes "different") name_kind) (line_of n (w ∷ name)) ≡ Some fault
    → read_fault (verdict_of version one two (on_top (line_of n (w ∷ name)) text)) ≡ Some fault)
    is (λ named. different_head one two n name text fault named) bad

pub different_fails : (version : Version) (one two : ℕ) → FailsWith (codes "different") (behind_word (codes "different") name_kind) (verdict_of version one two)
different_fails version one two line text fault is bad = different_by version one two line.number line.tokens text fault is bad

-- ---- no verdict

none_by : (a b c : Bool) → (a || (b || (c || false))) ≡ false → (a ≡ false) × (b ≡ false) × (c ≡ false)
none_by true b c none = absurd cc
none_by false true c none = absurd cc
none_by false false true none = absurd cc
none_by false false false none = (refl, refl, refl)

other_by : (version : Version) (one two n : ℕ) (tokens : List (List ℕ)) (text : Text)
    → list_any (λ word. starts word tokens) (codes "equal" ∷ codes "different" ∷ codes "unknown" ∷ []) ≡ false
    → read_fault (verdict_of version one two (on_top (line_of n tokens) text)) ≡ Some (Malformed n)
unfolding verdict_of next_line next_token
other_by version one two n [] text none = refl
other_by version one two n (m ∷ rest) text none =
    let each = none_by (bytes_eq m (codes "equal")) (bytes_eq m (codes "different")) (bytes_eq m (codes "unknown")) none in
    rw (each.0, each.1, each.2) refl

pub others_fail : (version : Version) (one two : ℕ) → FailsElse (codes "equal" ∷ codes "different" ∷ codes "unknown" ∷ []) (verdict_of version one two)
others_fail version one two line text none = other_by version one two line.number line.tokens text none
