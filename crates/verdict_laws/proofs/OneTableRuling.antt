-- A table of knots has one ruling.
use Rattle.std.proofs.Common.{◌≡◌, ◌<◌, ◌∙◌, inl, inr, ℕ, List, Option, Some, None, length, refl, sym, ap, ap₂, subst, arith}
use Rattle.std.specs.Prelude.{slice_get}
use Rattle.std.proofs.lemmas.Bool.{cases_lt}
use Rattle.std.proofs.lemmas.Option.{same_Some, slice_get_within}
use Rattle.evidence_core.specs.declared.blocks.Block.{Block}
use Rattle.verdict_core.specs.Diagrams.{grid_of}
use Rattle.verdict_core.specs.declared.verdict.Verdict.TheVariants.{Equal}
use Rattle.evidence_core.specs.declared.cause.Cause.TheVariants as number
use Rattle.cert_check.specs.declared.ruling.Ruling.{Ruling}
use Rattle.cert_check.specs.declared.ruling.Ruling.TheVariants as moves
use Rattle.cert_check.specs.declared.ruling.Why.{Why}
use Rattle.cert_check.specs.Cause.{IsCauseOfMoves}
use Rattle.cert_check.proofs.Rulings.{ruled_once}
use Rattle.number_check.proofs.Causes.{seeds_faultless}
use Rattle.table_check.specs.declared.class_items.Class.{Class}
use Rattle.table_check.specs.declared.row_items.KnotRow.{KnotRow}
use Rattle.table_check.specs.declared.tables.KnotTable.{KnotTable}
use Rattle.table_check.specs.declared.cause.ClassCause.{ClassCause}
use Rattle.table_check.specs.declared.cause.ClassCause.TheVariants.{Outside, Unsettled, Wide, Numbers}
use Rattle.table_check.specs.declared.cause.TableCause.{TableCause}
use Rattle.table_check.specs.declared.cause.TableCause.TheVariants as cause
use Rattle.table_check.specs.declared.cause.TableRuling.{TableRuling}
use Rattle.table_check.specs.declared.cause.TableRuling.TheVariants.{Accepted, Rejected}
use Rattle.table_check.specs.TableHolds.{numbers_at, ShownAt, ClassAt, PairsWith}
use Rattle.table_check.specs.Cause.{shown_cause, FailsBy, IsClassCause, ClassFails, PairFails, RowFails, IsTableCause}
use Rattle.table_check.specs.Ruling.{RulesOnTable}
use Rattle.table_check.proofs.Causes.{none_of_shown, class_not_held, pair_not_held, row_not_held, not_held}
use Rattle.verdict_laws.proofs.OneRuling.{outside_once, unsettled_once, not_both}

-- ---- a class

not_shown : (blocks : List Block) (c : Class) (at : ℕ) (why : ClassCause) → FailsBy blocks c at why → ShownAt blocks c at → ⊥
not_shown blocks c at why fails shown =
    let no : ◌≡◌ {A = Option ClassCause} None (Some why) =
    sym (none_of_shown c at fails.block (numbers_at c at) (shown fails.block fails.here)) ∙ fails.cause in
    cc

one_at_block : (blocks : List Block) (c : Class) (at : ℕ) (x y : ClassCause) → FailsBy blocks c at x → FailsBy blocks c at y → x ≡ y
one_at_block blocks c at x y one two =
    let same : one.block ≡ two.block = same_Some one.block two.block (sym one.here ∙ two.here) in
    same_Some x y (sym one.cause ∙ (ap (λ (b : Block). shown_cause c at b (numbers_at c at)) same ∙ two.cause))

one_block_cause : (blocks : List Block) (c : Class) (at at' : ℕ) (x y : ClassCause) → FailsBy blocks c at x → FailsBy blocks c at' y → x ≡ y
one_block_cause blocks c at at' x y one two = elim (cases_lt at at') [
  | inl less ↦ absurd (not_shown blocks c at x one (two.before at less))
  | inr least ↦ elim (cases_lt at' at) [
    | inl more ↦ absurd (not_shown blocks c at' y two (one.before at' more))
    | inr most ↦ let same : at ≡ at' = omega (arith, least, most) in one_at_block blocks c at' x y (subst (λ (k : ℕ). FailsBy blocks c k x) same one) two
  ]
]

one_class_cause : (blocks : List Block) (c : Class) (x y : ClassCause) → IsClassCause blocks c x → IsClassCause blocks c y → x ≡ y
one_class_cause blocks c (Outside a) (Outside b) one two = ap (λ (k : ℕ). Outside k) (outside_once (grid_of c.diagram) c.seeds.items a b one two)
one_class_cause blocks c (Outside a) (Unsettled b) one two = absurd (not_both (grid_of c.diagram) c.seeds.items a b one two)
one_class_cause blocks c (Outside a) (Wide at) one two =
    absurd (seeds_faultless 1 (grid_of c.diagram) c.seeds.items (number.Outside 1 a) (refl, one) two.settled)
one_class_cause blocks c (Outside a) (Numbers at place) one two =
    absurd (seeds_faultless 1 (grid_of c.diagram) c.seeds.items (number.Outside 1 a) (refl, one) two.settled)
one_class_cause blocks c (Unsettled a) (Outside b) one two = absurd (not_both (grid_of c.diagram) c.seeds.items b a two one)
one_class_cause blocks c (Unsettled a) (Unsettled b) one two = ap (λ (k : ℕ). Unsettled k) (unsettled_once (grid_of c.diagram) c.seeds.items a b one two)
one_class_cause blocks c (Unsettled a) (Wide at) one two =
    absurd (seeds_faultless 1 (grid_of c.diagram) c.seeds.items (number.Unsettled 1 a) (refl, one) two.settled)
one_class_cause blocks c (Unsettled a) (Numbers at place) one two =
    absurd (seeds_faultless 1 (grid_of c.diagram) c.seeds.items (number.Unsettled 1 a) (refl, one) two.settled)
one_class_cause blocks c (Wide at) (Outside b) one two =
    absurd (seeds_faultless 1 (grid_of c.diagram) c.seeds.items (number.Outside 1 b) (refl, two) one.settled)
one_class_cause blocks c (Wide at) (Unsettled b) one two =
    absurd (seeds_faultless 1 (grid_of c.diagram) c.seeds.items (number.Unsettled 1 b) (refl, two) one.settled)
one_class_cause blocks c (Wide at) (Wide at') one two = one_block_cause blocks c at at' (Wide at) (Wide at') one two
one_class_cause blocks c (Wide at) (Numbers at' place) one two = one_block_cause blocks c at at' (Wide at) (Numbers at' place) one two
one_class_cause blocks c (Numbers at place) (Outside b) one two =
    absurd (seeds_faultless 1 (grid_of c.diagram) c.seeds.items (number.Outside 1 b) (refl, two) one.settled)
one_class_cause blocks c (Numbers at place) (Unsettled b) one two =
    absurd (seeds_faultless 1 (grid_of c.diagram) c.seeds.items (number.Unsettled 1 b) (refl, two) one.settled)
one_class_cause blocks c (Numbers at place) (Wide at') one two = one_block_cause blocks c at at' (Numbers at place) (Wide at') one two
one_class_cause blocks c (Numbers at place) (Numbers at' place') one two = one_block_cause blocks c at at' (Numbers at place) (Numbers at' place') one two

class_fails_not : (t : KnotTable) (at : ℕ) (why : ClassCause) → ClassFails t at why → ClassAt t at → ⊥
class_fails_not t at why fails holds = class_not_held t.blocks fails.class why fails.cause (holds fails.class fails.here)

one_at_class : (t : KnotTable) (at : ℕ) (x y : ClassCause) → ClassFails t at x → ClassFails t at y → x ≡ y
one_at_class t at x y one two =
    let same : one.class ≡ two.class = same_Some one.class two.class (sym one.here ∙ two.here) in
    one_class_cause t.blocks two.class x y (subst (λ (c : Class). IsClassCause t.blocks c x) same one.cause) two.cause

-- ---- a pair of classes

first_within : (t : KnotTable) (first second : ℕ) → PairFails t first second → first < length t.classes
first_within t first second fails = slice_get_within t.classes first fails.one fails.here

second_within : (t : KnotTable) (first second : ℕ) → PairFails t first second → second < length t.classes
second_within t first second fails = slice_get_within t.classes second fails.two fails.there

pair_fails_not : (t : KnotTable) (first second : ℕ) → PairFails t first second → PairsWith t first (length t.classes) → ⊥
pair_fails_not t first second fails holds = pair_not_held t first second fails (holds second (second_within t first second fails))

one_second : (t : KnotTable) (first s s' : ℕ) → PairsWith t first s → PairFails t first s → PairsWith t first s' → PairFails t first s' → s ≡ s'
one_second t first s s' before fails before' fails' = elim (cases_lt s s') [
  | inl less ↦ absurd (pair_not_held t first s fails (before' s less))
  | inr least ↦ elim (cases_lt s' s) [
    | inl more ↦ absurd (pair_not_held t first s' fails' (before s' more))
    | inr most ↦ omega (arith, least, most)
  ]
]

-- ---- a row

one_at_row : (t : KnotTable) (at : ℕ) (x y : Why) → RowFails t at x → RowFails t at y → x ≡ y
one_at_row t at x y one two =
    let row : one.row ≡ two.row = same_Some one.row two.row (sym one.here ∙ two.here) in
    let here : slice_get t.classes two.row.class ≡ Some one.class = subst (λ (r : KnotRow). slice_get t.classes r.class ≡ Some one.class) row one.known in
    let class : one.class ≡ two.class = same_Some one.class two.class (sym here ∙ two.known) in
    let by_row : IsCauseOfMoves (grid_of two.row.diagram) (grid_of one.class.diagram) two.row.moves x =
    subst (λ (r : KnotRow). IsCauseOfMoves (grid_of r.diagram) (grid_of one.class.diagram) r.moves x) row one.cause in
    let first : IsCauseOfMoves (grid_of two.row.diagram) (grid_of two.class.diagram) two.row.moves x =
    subst (λ (c : Class). IsCauseOfMoves (grid_of two.row.diagram) (grid_of c.diagram) two.row.moves x) class by_row in
    let same : ◌≡◌ {A = Ruling} (moves.Rejected x) (moves.Rejected y) =
    ruled_once (grid_of two.row.diagram) (grid_of two.class.diagram) (Equal two.row.moves) (moves.Rejected x) (moves.Rejected y) first two.cause in
    cc

-- ---- a table

one_cause : (t : KnotTable) (x y : TableCause) → IsTableCause t x → IsTableCause t y → x ≡ y
one_cause t (cause.Class at why) (cause.Class at' why') one two = elim (cases_lt at at') [
  | inl less ↦ absurd (class_fails_not t at why one.1 (two.0 at less))
  | inr least ↦ elim (cases_lt at' at) [
    | inl more ↦ absurd (class_fails_not t at' why' two.1 (one.0 at' more))
    | inr most ↦
        let same : at ≡ at' = omega (arith, least, most) in
        ap₂ (λ (k : ℕ) (w : ClassCause). cause.Class k w) same (one_at_class t at' why why' (subst (λ (k : ℕ). ClassFails t k why) same one.1) two.1)
  ]
]
one_cause t (cause.Class at why) (cause.Same first second) one two =
    absurd (class_fails_not t at why one.1 (two.0 at (slice_get_within t.classes at one.1.class one.1.here)))
one_cause t (cause.Class at why) (cause.Row row w) one two =
    absurd (class_fails_not t at why one.1 (two.0 at (slice_get_within t.classes at one.1.class one.1.here)))
one_cause t (cause.Same first second) (cause.Class at why) one two =
    absurd (class_fails_not t at why two.1 (one.0 at (slice_get_within t.classes at two.1.class two.1.here)))
one_cause t (cause.Same f s) (cause.Same f' s') one two = elim (cases_lt f f') [
  | inl less ↦ absurd (pair_fails_not t f s one.1.1.1 (two.1.0 f less))
  | inr least ↦ elim (cases_lt f' f) [
    | inl more ↦ absurd (pair_fails_not t f' s' two.1.1.1 (one.1.0 f' more))
    | inr most ↦
        let same : f ≡ f' = omega (arith, least, most) in
        let before : PairsWith t f' s = subst (λ (k : ℕ). PairsWith t k s) same one.1.1.0 in
        let fails : PairFails t f' s = subst (λ (k : ℕ). PairFails t k s) same one.1.1.1 in
        ap₂ (λ (k n : ℕ). cause.Same k n) same (one_second t f' s s' before fails two.1.1.0 two.1.1.1)
  ]
]
one_cause t (cause.Same first second) (cause.Row row w) one two =
    absurd (pair_fails_not t first second one.1.1.1 (two.1.0 first (first_within t first second one.1.1.1)))
one_cause t (cause.Row row w) (cause.Class at why) one two =
    absurd (class_fails_not t at why two.1 (one.0 at (slice_get_within t.classes at two.1.class two.1.here)))
one_cause t (cause.Row row w) (cause.Same first second) one two =
    absurd (pair_fails_not t first second two.1.1.1 (one.1.0 first (first_within t first second two.1.1.1)))
one_cause t (cause.Row at w) (cause.Row at' w') one two = elim (cases_lt at at') [
  | inl less ↦ absurd (row_not_held t at w one.1.1.1 (two.1.1.0 at less))
  | inr least ↦ elim (cases_lt at' at) [
    | inl more ↦ absurd (row_not_held t at' w' two.1.1.1 (one.1.1.0 at' more))
    | inr most ↦
        let same : at ≡ at' = omega (arith, least, most) in
        ap₂ (λ (k : ℕ) (x : Why). cause.Row k x) same (one_at_row t at' w w' (subst (λ (k : ℕ). RowFails t k w) same one.1.1.1) two.1.1.1)
  ]
]

pub one_table_ruling : (t : KnotTable) (one two : TableRuling) → RulesOnTable t one → RulesOnTable t two → one ≡ two
one_table_ruling t Accepted Accepted one two = refl
one_table_ruling t Accepted (Rejected why) one two = absurd (not_held t why two one)
one_table_ruling t (Rejected why) Accepted one two = absurd (not_held t why one two)
one_table_ruling t (Rejected x) (Rejected y) one two = ap (λ (k : TableCause). Rejected k) (one_cause t x y one two)
