-- A table of grids has a ruling.
use Rattle.std.proofs.Common.{◌≡◌, ◌<◌, ◌∙◌, ◌⊎◌, inl, inr, ℕ, zero, suc, List, Bool, true, false, Option, Some, None, length, refl, sym, ap, ap₂, subst, arith}
use Rattle.std.specs.Prelude.{slice_get, nat_eq, is_some}
use Rattle.std.specs.List.{All, Contains}
use Rattle.std.proofs.lemmas.Bool.{cases_lt}
use Rattle.std.proofs.lemmas.Bool.Decides.{Decides-eqb}
use Rattle.std.proofs.lemmas.Option.{slice_get_cases, slice_get_within, get_or_from_slice_get, same_Some}
use Rattle.grid_core.specs.Diagram.{IsGrid}
use Rattle.grid_moves.specs.Joining.{Joins}
use Rattle.evidence_core.specs.declared.blocks.Block.{Block}
use Rattle.verdict_core.specs.Diagrams.{grid_of}
use Rattle.verdict_core.specs.declared.verdict.Verdict.TheVariants.{Equal}
use Rattle.colour_seeds.specs.Settled.{Determine}
use Rattle.evidence_core.specs.Unequal.{first_unequal}
use Rattle.cert_check.specs.declared.ruling.Ruling.{Ruling}
use Rattle.cert_check.specs.declared.ruling.Ruling.TheVariants as moves
use Rattle.cert_check.specs.declared.ruling.Why.{Why}
use Rattle.cert_check.specs.Ruling.{RulesOnVerdict}
use Rattle.cert_check.proofs.Rulings.{some_ruling}
use Rattle.table_check.specs.declared.class_items.Class.{Class}
use Rattle.table_check.specs.declared.row_items.OpenPair.{OpenPair}
use Rattle.table_check.specs.declared.row_items.KnotRow.{KnotRow}
use Rattle.table_check.specs.declared.tables.KnotTable.{KnotTable}
use Rattle.table_check.specs.declared.cause.ClassCause.{ClassCause}
use Rattle.table_check.specs.declared.cause.ClassCause.TheVariants.{Outside, Unsettled}
use Rattle.table_check.specs.declared.cause.TableCause.TheVariants as cause
use Rattle.table_check.specs.declared.cause.TableRuling.{TableRuling}
use Rattle.table_check.specs.declared.cause.TableRuling.TheVariants.{Accepted, Rejected}
use Rattle.table_check.specs.TableHolds.{numbers_at, ShownAt, ClassHolds, ClassAt, ClassesHold, Differ, AreToldApart, PairHolds, PairsWith, PairsHold, RowHolds}
use Rattle.table_check.specs.TableHolds.{RowAt}
use Rattle.table_check.specs.Cause.{shown_cause, IsClassCause, ClassFails, PairFails, RowFails}
use Rattle.table_check.specs.Ruling.{RulesOnTable}
use Rattle.table_check.proofs.Below.{below_more, below_none}
use Rattle.table_check.proofs.Causes.{shown_of_none, fails_kind, differ_yes, differ_no}
use Rattle.table_check.proofs.Claims.{of_each, place}
use Rattle.verdict_laws.proofs.SeedWays.{determine_or_fault}

-- ---- the first place at which something fails

record FirstOf (P F : ℕ → Type 0) (n : ℕ) : Type 0 where
  at : ℕ
  within : at < n
  before : (i : ℕ) → i < at → P i
  fails : F at

first_of : (P F : ℕ → Type 0) → ((i : ℕ) → P i ⊎ F i) → (n : ℕ) → ((i : ℕ) → i < n → P i) ⊎ FirstOf P F n
first_of P F each zero = inl (below_none P)
first_of P F each (suc n) = elim (first_of P F each n) [
  | inl all ↦ elim (each n) [
    | inl holds ↦ inl (λ i lt. below_more P n all holds i (omega (arith, lt)))
    | inr fails ↦ inr (record { at = n; within = omega arith; before = all; fails = fails })
  ]
  | inr some ↦ let within = some.within in inr (record { at = some.at; within = omega (arith, within); before = some.before; fails = some.fails })
]

-- ---- classes

record BlockFails (blocks : List Block) (c : Class) (at : ℕ) : Type 0 where
  block : Block
  here : slice_get blocks at ≡ Some block
  why : ClassCause
  cause : shown_cause c at block (numbers_at c at) ≡ Some why

each_block : (blocks : List Block) (c : Class) → Determine c.seeds.items (grid_of c.diagram) → (at : ℕ) → ShownAt blocks c at ⊎ BlockFails blocks c at
each_block blocks c settled at = elim (slice_get_cases blocks at).1 [
  | inl found ↦ by found.0 found.2 (shown_cause c at found.0 (numbers_at c at)) refl
  | inr past ↦ inl (λ b here. absurd (let no : ◌≡◌ {A = Option Block} None (Some b) = sym past.1 ∙ here in cc))
]
  where
    by : (b : Block) → slice_get blocks at ≡ Some b → (o : Option ClassCause) → shown_cause c at b (numbers_at c at) ≡ o
        → ShownAt blocks c at ⊎ BlockFails blocks c at
    by b here None none = inl (λ x there.
        let same : b ≡ x = same_Some b x (sym here ∙ there) in
        shown_of_none c at x (numbers_at c at) settled (subst (λ (y : Block). shown_cause c at y (numbers_at c at) ≡ None) same none))
    by b here (Some why) is = inr (record { block = b; here = here; why = why; cause = is })

abbrev SomeClassCause : List Block → Class → Type 0
SomeClassCause blocks c = (why : ClassCause) × IsClassCause blocks c why

class_or_cause : (blocks : List Block) (c : Class) → IsGrid (grid_of c.diagram) → ClassHolds blocks c ⊎ SomeClassCause blocks c
class_or_cause blocks c grid = elim (determine_or_fault (grid_of c.diagram) c.seeds.items grid) [
  | inl settled ↦ elim (first_of (ShownAt blocks c) (BlockFails blocks c) (each_block blocks c settled) (length blocks)) [
    | inl all ↦ inl (record { settled = settled; shown = all })
    | inr first ↦
        let f = first.fails in
        inr (
          f.why,
          fails_kind blocks c first.at f.why
              (record { settled = settled; before = first.before; within = first.within; block = f.block; here = f.here; cause = f.cause }),
        )
  ]
  | inr fault ↦ elim fault [
    | inl outside ↦ inr (Outside outside.0, outside.1)
    | inr unsettled ↦ inr (Unsettled unsettled.0, unsettled.1)
  ]
]

abbrev SomeClassFails : KnotTable → ℕ → Type 0
SomeClassFails t at = (why : ClassCause) × ClassFails t at why

each_class : (t : KnotTable) → All (λ c. IsGrid (grid_of c.diagram)) t.classes → (at : ℕ) → ClassAt t at ⊎ SomeClassFails t at
each_class t grids at = elim (slice_get_cases t.classes at).1 [
  | inl found ↦
      let c = found.0 in
      let here = found.2 in
      elim (class_or_cause t.blocks c (of_each (λ (c : Class). IsGrid (grid_of c.diagram)) t.classes at c grids here)) [
        | inl holds ↦ inl (λ x there. subst (λ (y : Class). ClassHolds t.blocks y) (same_Some c x (sym here ∙ there)) holds)
        | inr why ↦ inr (why.0, record { class = c; here = here; cause = why.1 })
      ]
  | inr past ↦ inl (λ x there. absurd (let no : ◌≡◌ {A = Option Class} None (Some x) = sym past.1 ∙ there in cc))
]

-- ---- pairs of classes

differ_or_not : (o p : Option (List ℕ)) → Differ o p ⊎ (Differ o p → ⊥)
differ_or_not None p = inr (λ differ. differ)
differ_or_not (Some one) None = inr (λ differ. differ)
differ_or_not (Some one) (Some two) = by (is_some (first_unequal nat_eq one two)) refl
  where
    by : (t : Bool) → is_some (first_unequal nat_eq one two) ≡ t → Differ (Some one) (Some two) ⊎ (Differ (Some one) (Some two) → ⊥)
    by true yes_so = inl (differ_yes (Some one) (Some two) one two (first_unequal nat_eq one two) refl refl refl yes_so)
    by false not_so = inr (differ_no (Some one) (Some two) one two (first_unequal nat_eq one two) refl refl refl not_so)

told_or_not : (blocks : List Block) (c d : Class) → AreToldApart blocks c d ⊎ (AreToldApart blocks c d → ⊥)
told_or_not blocks c d =
    elim (first_of (λ at. Differ (numbers_at c at) (numbers_at d at) → ⊥) (λ at. Differ (numbers_at c at) (numbers_at d at)) each (length blocks)) [
      | inl none ↦ inr (λ told. none told.at told.within told.differ)
      | inr first ↦ inl (record { at = first.at; within = first.within; differ = first.fails })
    ]
  where
    each : (at : ℕ) → (Differ (numbers_at c at) (numbers_at d at) → ⊥) ⊎ Differ (numbers_at c at) (numbers_at d at)
    each at = elim (differ_or_not (numbers_at c at) (numbers_at d at)) [ inl differ ↦ inr differ | inr same ↦ inl same ]

abbrev pair_of : ℕ → ℕ → OpenPair
pair_of first second = record { first = first; second = second }

same_pair : (p : OpenPair) (first second : ℕ) → (p ≡ pair_of first second) ⊎ (p ≡ pair_of first second → ⊥)
same_pair p first second = by (nat_eq p.first first) (nat_eq p.second second) refl refl
  where
    by : (t u : Bool) → nat_eq p.first first ≡ t → nat_eq p.second second ≡ u → (p ≡ pair_of first second) ⊎ (p ≡ pair_of first second → ⊥)
    by true true one two =
        inl (ap₂ (λ (a b : ℕ). pair_of a b) ((Decides-eqb p.first first).0 one) ((Decides-eqb p.second second).0 two))
    by false u one two = inr (λ same.
        let no : false ≡ true = sym one ∙ (Decides-eqb p.first first).1 (ap (λ (q : OpenPair). q.first) same) in
        cc)
    by true false one two = inr (λ same.
        let no : false ≡ true = sym two ∙ (Decides-eqb p.second second).1 (ap (λ (q : OpenPair). q.second) same) in
        cc)

left_or_not : (left : List OpenPair) (first second : ℕ) → Contains left (pair_of first second) ⊎ (Contains left (pair_of first second) → ⊥)
left_or_not left first second =
    elim (first_of (λ at. slice_get left at ≡ Some p → ⊥) (λ at. slice_get left at ≡ Some p) each (length left)) [
      | inl none ↦ inr (λ is. let at = place left p is in none at.0 at.1.0 at.1.1)
      | inr found ↦ inl (found.at, slice_get_within left found.at p found.fails, get_or_from_slice_get left found.at p p found.fails)
    ]
  where
    p : OpenPair
    p = pair_of first second

    each : (at : ℕ) → (slice_get left at ≡ Some p → ⊥) ⊎ (slice_get left at ≡ Some p)
    each at = elim (slice_get_cases left at).1 [
      | inl found ↦ elim (same_pair found.0 first second) [
        | inl same ↦ inr (found.2 ∙ ap (λ (q : OpenPair). Some q) same)
        | inr other ↦ inl (λ there. other (same_Some found.0 p (sym found.2 ∙ there)))
      ]
      | inr past ↦ inl (λ there. let no : ◌≡◌ {A = Option OpenPair} None (Some p) = sym past.1 ∙ there in cc)
    ]

each_pair : (t : KnotTable) (first second : ℕ) → PairHolds t first second ⊎ PairFails t first second
each_pair t first second = elim (slice_get_cases t.classes first).1 [
  | inr past ↦ inl (λ c d here there less. absurd (let no : ◌≡◌ {A = Option Class} None (Some c) = sym past.1 ∙ here in cc))
  | inl one ↦ elim (slice_get_cases t.classes second).1 [
    | inr past ↦ inl (λ c d here there less. absurd (let no : ◌≡◌ {A = Option Class} None (Some d) = sym past.1 ∙ there in cc))
    | inl two ↦ elim (cases_lt first second) [
      | inr least ↦ inl (λ c d here there less. absurd (omega (arith, least, less)))
      | inl less ↦ elim (left_or_not t.left first second) [
        | inl left ↦ inl (λ c d here there lt. inl left)
        | inr closed ↦ elim (told_or_not t.blocks one.0 two.0) [
          | inl told ↦ inl (λ c d here there lt.
              let first_same : one.0 ≡ c = same_Some one.0 c (sym one.2 ∙ here) in
              let second_same : two.0 ≡ d = same_Some two.0 d (sym two.2 ∙ there) in
              inr (subst (λ (x : Class). AreToldApart t.blocks x d) first_same (subst (λ (y : Class). AreToldApart t.blocks one.0 y) second_same told)))
          | inr same ↦ inr (record {
            one = one.0;
            two = two.0;
            here = one.2;
            there = two.2;
            less = less;
            closed = closed;
            same = same;
          })
        ]
      ]
    ]
  ]
]

each_first : (t : KnotTable) (first : ℕ) → PairsWith t first (length t.classes) ⊎ FirstOf (PairHolds t first) (PairFails t first) (length t.classes)
each_first t first = first_of (PairHolds t first) (PairFails t first) (each_pair t first) (length t.classes)

-- ---- rows

abbrev SomeRowFails : KnotTable → ℕ → Type 0
SomeRowFails t at = (why : Why) × RowFails t at why

row_ruled : (t : KnotTable) (at : ℕ) (r : KnotRow) (c : Class) → slice_get t.rows at ≡ Some r → slice_get t.classes r.class ≡ Some c → (ruling : Ruling)
    → RulesOnVerdict (grid_of r.diagram) (grid_of c.diagram) (Equal r.moves) ruling → RowAt t at ⊎ SomeRowFails t at
row_ruled t at r c here known moves.Accepted joins = inl (λ s there.
    subst (λ (x : KnotRow). RowHolds t.classes x) (same_Some r s (sym here ∙ there))
    (λ e also. subst (λ (y : Class). Joins (grid_of r.diagram) r.moves (grid_of y.diagram)) (same_Some c e (sym known ∙ also)) joins))
row_ruled t at r c here known (moves.Rejected why) cause = inr (why, record { row = r; class = c; here = here; known = known; cause = cause })

each_row : (t : KnotTable) → All (λ r. IsGrid (grid_of r.diagram)) t.rows → (at : ℕ) → RowAt t at ⊎ SomeRowFails t at
each_row t grids at = elim (slice_get_cases t.rows at).1 [
  | inr past ↦ inl (λ s there. absurd (let no : ◌≡◌ {A = Option KnotRow} None (Some s) = sym past.1 ∙ there in cc))
  | inl found ↦
      let r = found.0 in
      let here = found.2 in
      elim (slice_get_cases t.classes r.class).1 [
        | inr past ↦ inl (λ s there.
            subst (λ (x : KnotRow). RowHolds t.classes x) (same_Some r s (sym here ∙ there))
            (λ e also. absurd (let no : ◌≡◌ {A = Option Class} None (Some e) = sym past.1 ∙ also in cc)))
        | inl class ↦
            let c = class.0 in
            let ruled = some_ruling (grid_of r.diagram) (grid_of c.diagram) (Equal r.moves)
            (of_each (λ (x : KnotRow). IsGrid (grid_of x.diagram)) t.rows at r grids here) in
            row_ruled t at r c here class.2 ruled.0 ruled.1
      ]
]

-- ---- a table

abbrev SomeTableRuling : KnotTable → Type 0
SomeTableRuling t = (ruling : TableRuling) × RulesOnTable t ruling

by_rows : (t : KnotTable) → ClassesHold t (length t.classes) → PairsHold t (length t.classes) → All (λ r. IsGrid (grid_of r.diagram)) t.rows → SomeTableRuling t
by_rows t classes pairs grids = elim (first_of (RowAt t) (SomeRowFails t) (each_row t grids) (length t.rows)) [
  | inl rows ↦ (Accepted, record { classes = classes; pairs = pairs; rows = rows })
  | inr first ↦
      let fails = first.fails in
      (Rejected (cause.Row first.at fails.0), (classes, (pairs, (first.before, fails.1))))
]

by_pairs : (t : KnotTable) → ClassesHold t (length t.classes) → All (λ r. IsGrid (grid_of r.diagram)) t.rows → SomeTableRuling t
by_pairs t classes grids =
    elim (first_of (λ first. PairsWith t first (length t.classes)) (λ first. FirstOf (PairHolds t first) (PairFails t first) (length t.classes)) (each_first t)
    (length t.classes)) [
      | inl pairs ↦ by_rows t classes pairs grids
      | inr first ↦
          let second = first.fails in
          (Rejected (cause.Same first.at second.at), (classes, (first.before, (second.before, second.fails))))
    ]

pub some_table_ruling : (t : KnotTable) → All (λ c. IsGrid (grid_of c.diagram)) t.classes → All (λ r. IsGrid (grid_of r.diagram)) t.rows
    → (ruling : TableRuling) × RulesOnTable t ruling
some_table_ruling t class_grids row_grids = elim (first_of (ClassAt t) (SomeClassFails t) (each_class t class_grids) (length t.classes)) [
  | inl classes ↦ by_pairs t classes row_grids
  | inr first ↦
      let fails = first.fails in
      (Rejected (cause.Class first.at fails.0), (first.before, fails.1))
]
