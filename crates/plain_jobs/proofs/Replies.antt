-- The replies of plain jobs to what was read: their statuses, and that there is one where the input determines it.
use Rattle.std.proofs.Common.{◌≡◌, ◌∷◌, ℕ, List, [], Bool, Option, Some, None, Result, Ok, Err, true, false, cond, codes, refl, sym, ap, ap₂, subst, ◌∙◌, inl}
use Rattle.std.proofs.Common.{inr, ◌⊎◌}
use Rattle.arrayvec.specs.ArrayVec.{ArrayVec}
use Rattle.grid_core.specs.Diagram.{Diagram, IsGrid}
use Rattle.grid_moves.specs.declared.step.Move.{Move}
use Rattle.grid_moves.proofs.Stopped.{joins_once, not_both, stops_once, joins_or_stops}
use Rattle.colour_rows.specs.Colouring.{is_colouring}
use Rattle.text_lines.specs.Lines.{Text, text_of}
use Rattle.text_items.specs.declared.fault.TextFault.{TextFault}
use Rattle.text_items.specs.declared.fault.TextFault.TheVariants as bad
use Rattle.verdict_core.specs.declared.problem.ProblemText.{ProblemText}
use Rattle.verdict_core.specs.declared.verdict.Verdict.{Verdict}
use Rattle.quandle_core.specs.Names.{NamedQuandle}
use Rattle.knot_text.specs.Printed.{grid_text}
use Rattle.verdict_core.specs.Diagrams.{grid_of}
use Rattle.knot_text.specs.Shapes.{replay_in, colour_in, close_in, lone_diagram_in}
use Rattle.knot_text.specs.Pairs.{pair_in}
use Rattle.knot_text.specs.BraidChecks.{braidcheck_in}
use Rattle.number_text.specs.Weighed.{weighed_in}
use Rattle.knot_text.specs.FirstBadLine.{FailsFirst}
use Rattle.knot_text.proofs.Steady.{ok_is}
use Rattle.knot_text.proofs.ShapesFail.{replay_fails, colour_fails, close_fails, lone_diagram_fails, pair_fails}
use Rattle.knot_text.proofs.BraidChecksFail.{braidcheck_fails}
use Rattle.certificates.proofs.WeighedFails.{weighed_fails}
use Rattle.braid_moves.specs.declared.ruling.BraidRuling.{BraidRuling}
use Rattle.braid_moves.specs.declared.ruling.BraidRuling.TheVariants as braids
use Rattle.braid_moves.specs.Ruling.{ruling}
use Rattle.cert_check.specs.declared.ruling.Ruling.{Ruling}
use Rattle.cert_check.specs.declared.ruling.Ruling.TheVariants.{Accepted, Rejected}
use Rattle.cert_check.proofs.Rulings.{ruled_once, some_ruling}
use Rattle.number_text.specs.declared.said.Said.{Said}
use Rattle.number_text.specs.declared.said.Said.TheVariants as said
use Rattle.number_text.specs.Said.{said_of}
use Rattle.evidence_core.specs.declared.cause.NumberRuling.{NumberRuling}
use Rattle.evidence_core.specs.declared.cause.NumberRuling.TheVariants as numbers
use Rattle.verdict_laws.proofs.OneRuling.{one_ruling}
use Rattle.verdict_laws.proofs.SomeRuling.{some_ruling as some_number_ruling}
use Rattle.verdict_laws.proofs.OneTableRuling.{one_table_ruling}
use Rattle.verdict_laws.proofs.SomeTableRuling.{some_table_ruling}
use Rattle.table_check.specs.declared.tables.KnotTable.{KnotTable}
use Rattle.table_check.specs.Tables.{starts_table, knot_table_of}
use Rattle.table_check.specs.declared.cause.TableRuling.{TableRuling}
use Rattle.table_check.specs.declared.cause.TableRuling.TheVariants as tables
use Rattle.table_check.specs.Lines.{table_ruling_line}
use Rattle.table_check.specs.Answer.{table_ruling_status, AnswersTable}
use Rattle.code_text.specs.declared.code_reading.CodeText.{CodeText}
use Rattle.code_text.specs.declared.refusal.TextRefusal.{TextRefusal}
use Rattle.code_text.specs.declared.refusal.TextRefusal.TheVariants.{Rows, Gauss, Columns, Lost}
use Rattle.code_text.specs.TextGrid.{IsAnswer}
use Rattle.knot_ports.specs.declared.status.Status.{Status}
use Rattle.knot_ports.specs.declared.status.Status.TheVariants as status
use Rattle.knot_ports.specs.Status.{IsOfDefinedAnswer}
use Rattle.reply_text.specs.declared.reply.PlainReply.{PlainReply}
use Rattle.knot_words.specs.declared.job.PlainJob.{PlainJob}
use Rattle.knot_words.specs.declared.job.PlainJob.TheVariants.{Check, Replay, Colour, Close, Code, Braid, Linking, Braidcheck, Weights, Numbers, Grid}
use Rattle.reply_text.specs.Lines.{ruling_line, number_ruling_line, illegal_step_tokens}
use Rattle.reply_text.specs.Reply.{plain_reply, done, rejected}
use Rattle.check_job.specs.Input.{Certificate, as_pair, as_table, certificate_in, certificate_of}
use Rattle.check_job.specs.Answer.{ruling_status, number_ruling_status, AnswersSaid, AnswersCheck}
use Rattle.plain_jobs.specs.Jobs.Replay.{coloured_text, ReplaysMoves, ReplaysColoured, Stops, AnswersMoves}
use Rattle.plain_jobs.specs.Jobs.Colour.{colour_text}
use Rattle.plain_jobs.specs.Jobs.Close.{close_text}
use Rattle.plain_jobs.specs.Jobs.Code.{code_text}
use Rattle.plain_jobs.specs.Jobs.Braid.{word_text}
use Rattle.plain_jobs.specs.Jobs.Linking.{linking_text}
use Rattle.plain_jobs.specs.Jobs.Braidcheck.{ruled_reply}
use Rattle.plain_jobs.specs.Jobs.Weights.{weights_text}
use Rattle.plain_jobs.specs.Jobs.Grid.{drawn_reply}
use Rattle.plain_jobs.specs.Job.{plain_task, is_determined, IsTooWideFor}
use Rattle.plain_jobs.proofs.Along.{carries_once, carried_along, joins_along}
use Rattle.plain_jobs.proofs.Grids.{said_grids, replay_grid}
use Rattle.plain_jobs.proofs.TableGrids.{table_grids}
use Rattle.plain_jobs.proofs.TableFails.{certificate_fails}

abbrev status_of : PlainReply → Status
status_of r = r.status

-- ---- the status of a reply

ruling_defined : (ruling : Ruling) → IsOfDefinedAnswer (ruling_status ruling)
ruling_defined Accepted = inl refl
ruling_defined (Rejected cause) = inr (inr refl)

number_ruling_defined : (ruling : NumberRuling) → IsOfDefinedAnswer (number_ruling_status ruling)
number_ruling_defined numbers.Accepted = inl refl
number_ruling_defined (numbers.Rejected cause) = inr (inr refl)

said_defined : (p : ProblemText) (s : Said) (r : PlainReply) → AnswersSaid p s r → IsOfDefinedAnswer r.status
said_defined p (said.Verdict v) r a = rw (ap status_of a.is) (ruling_defined a.ruling)
said_defined p (said.Evidence e) r a = rw (ap status_of a.is) (number_ruling_defined a.ruling)

table_ruling_defined : (ruling : TableRuling) → IsOfDefinedAnswer (table_ruling_status ruling)
table_ruling_defined tables.Accepted = inl refl
table_ruling_defined (tables.Rejected cause) = inr (inr refl)

certificate_defined : (c : Certificate) (r : PlainReply) → AnswersCheck c r → IsOfDefinedAnswer r.status
certificate_defined (inl pair) r a = said_defined pair.0 pair.1 r a
certificate_defined (inr table) r a = rw (ap status_of a.is) (table_ruling_defined a.ruling)

ruled_defined : (ruled : BraidRuling) → IsOfDefinedAnswer (ruled_reply ruled).status
ruled_defined braids.Accepted = inl refl
ruled_defined (braids.Step place fault) = inr (inr refl)
ruled_defined braids.OtherEnd = inr (inr refl)

moves_defined : (d : Diagram) (moves : List Move) (colours : Option (NamedQuandle × ArrayVec ℕ)) (r : PlainReply)
    → AnswersMoves d moves colours r → IsOfDefinedAnswer r.status
moves_defined d moves None r a = elim a [ inl last ↦ inl (ap status_of last.is) | inr stop ↦ inr (inr (ap status_of stop.is)) ]
moves_defined d moves (Some (q, colours)) r a = elim a [
  | inl none ↦ inr (inr (ap status_of none.is))
  | inr some ↦ elim some.answer [ inl last ↦ inl (ap status_of last.is) | inr stop ↦ inr (inr (ap status_of stop.is)) ]
]

-- what was read has one: a defined answer, or more columns than a diagram may have
abbrev pub IsDefined : PlainJob → PlainReply → Type 0
IsDefined job r = IsOfDefinedAnswer r.status ⊎ IsTooWideFor job r

drawn_defined : (i : CodeText) (answer : Result Diagram TextRefusal) (r : PlainReply) → IsAnswer i answer → r ≡ drawn_reply answer → IsDefined Grid r
drawn_defined i (Ok d) r is_true is = inl (inl (ap status_of is))
drawn_defined i (Err (Rows fault)) r is_true is = inl (inr (inr (ap status_of is)))
drawn_defined i (Err Gauss) r is_true is = inl (inr (inr (ap status_of is)))
drawn_defined i (Err (Columns columns)) r is_true is = inr (columns, is_true.0, is)
drawn_defined i (Err Lost) r is_true is = inl (inr (inr (ap status_of is)))

pub replies_defined : (job : PlainJob) (i : (plain_task job).Input) (r : PlainReply) → (plain_task job).Replies i r → IsDefined job r
replies_defined Check i r a = inl (certificate_defined i r a)
replies_defined Replay i r a = inl (moves_defined (grid_of i.diagram) i.moves i.colours r a)
replies_defined Colour i r a = inl (inl (ap status_of a))
replies_defined Close i r a = inl (inl (ap status_of a))
replies_defined Code i r a = inl (inl (ap status_of a))
replies_defined Braid i r a = inl (inl (ap status_of a))
replies_defined Linking i r a = inl (inl (ap status_of a))
replies_defined Braidcheck i r a = inl (rw (ap status_of a) (ruled_defined (ruling i.first i.second i.steps)))
replies_defined Weights i r a = inl (inl (ap status_of a))
replies_defined Numbers i r a = inl (inl (ap status_of a.is))
replies_defined Grid i r a = drawn_defined i a.answer r a.is_true a.is

-- more columns than a diagram may have are a limit
pub too_wide_status : (job : PlainJob) (r : PlainReply) → IsTooWideFor job r → r.status ≡ status.Limit
too_wide_status Grid r a = ap status_of a.2
too_wide_status job r a = absurd a

-- ---- one reply

said_once : (p : ProblemText) (s : Said) (r r' : PlainReply) → AnswersSaid p s r → AnswersSaid p s r' → r ≡ r'
said_once p (said.Verdict v) r r' one two =
    let same = ruled_once (grid_of p.first) (grid_of p.second) v one.ruling two.ruling one.rules two.rules in
    one.is ∙ ap (λ ruling. plain_reply (ruling_status ruling) (ruling_line ruling)) same ∙ sym two.is
said_once p (said.Evidence e) r r' one two =
    let same = one_ruling (grid_of p.first) (grid_of p.second) e one.ruling two.ruling one.rules two.rules in
    one.is ∙ ap (λ ruling. plain_reply (number_ruling_status ruling) (number_ruling_line ruling)) same ∙ sym two.is

certificate_once : (c : Certificate) (r r' : PlainReply) → AnswersCheck c r → AnswersCheck c r' → r ≡ r'
certificate_once (inl pair) r r' one two = said_once pair.0 pair.1 r r' one two
certificate_once (inr table) r r' one two =
    let same = one_table_ruling table one.ruling two.ruling one.rules two.rules in
    one.is ∙ ap (λ ruling. plain_reply (table_ruling_status ruling) (table_ruling_line ruling)) same ∙ sym two.is

stop_once : (d : Diagram) (moves : List Move) (r r' : PlainReply) → Stops d moves r → Stops d moves r' → r ≡ r'
stop_once d moves r r' a b =
    let same = stops_once moves d a.place b.place a.fault b.fault a.stops b.stops in
    a.is ∙ ap₂ (λ p f. rejected (illegal_step_tokens p f)) same.0 same.1 ∙ sym b.is

replay_once : (d : Diagram) (moves : List Move) (r r' : PlainReply) → ReplaysMoves d moves r ⊎ Stops d moves r → ReplaysMoves d moves r' ⊎ Stops d moves r'
    → r ≡ r'
replay_once d moves r r' one two = elim one [
  | inl a ↦ elim two [
    | inl b ↦ a.is ∙ ap (λ e. done (grid_text e)) (joins_once moves d a.last b.last a.joins b.joins) ∙ sym b.is
    | inr b ↦ absurd (not_both moves d a.last b.place b.fault b.stops a.joins)
  ]
  | inr a ↦ elim two [
    | inl b ↦ absurd (not_both moves d b.last a.place a.fault a.stops b.joins)
    | inr b ↦ stop_once d moves r r' a b
  ]
]

carry_once : (d : Diagram) (moves : List Move) (q : NamedQuandle) (colours : List ℕ) (r r' : PlainReply)
    → ReplaysColoured d moves q colours r ⊎ Stops d moves r → ReplaysColoured d moves q colours r' ⊎ Stops d moves r' → r ≡ r'
carry_once d moves q colours r r' one two = elim one [
  | inl a ↦ elim two [
    | inl b ↦
        let same = carries_once q.table moves d a.last b.last colours a.last_colours b.last_colours a.carries b.carries in
        a.is ∙ ap₂ (λ (e : Diagram) (last : List ℕ). done (coloured_text e last)) same.0 same.1 ∙ sym b.is
    | inr b ↦ absurd (not_both moves d a.last b.place b.fault b.stops (joins_along q.table moves d a.last colours a.last_colours a.carries))
  ]
  | inr a ↦ elim two [
    | inl b ↦ absurd (not_both moves d b.last a.place a.fault a.stops (joins_along q.table moves d b.last colours b.last_colours b.carries))
    | inr b ↦ stop_once d moves r r' a b
  ]
]

moves_once : (d : Diagram) (moves : List Move) (colours : Option (NamedQuandle × ArrayVec ℕ)) (r r' : PlainReply)
    → AnswersMoves d moves colours r → AnswersMoves d moves colours r' → r ≡ r'
moves_once d moves None r r' one two = replay_once d moves r r' one two
moves_once d moves (Some (q, colours)) r r' one two = elim one [
  | inl a ↦ elim two [ inl b ↦ a.is ∙ sym b.is | inr b ↦ absurd (let wrong = sym a.none ∙ b.colouring in cc) ]
  | inr a ↦ elim two [
    | inl b ↦ absurd (let wrong = sym b.none ∙ a.colouring in cc)
    | inr b ↦ carry_once d moves q colours.items r r' a.answer b.answer
  ]
]

pub replies_once : (job : PlainJob) → is_determined job ≡ true → (i : (plain_task job).Input) (r r' : PlainReply)
    → (plain_task job).Replies i r → (plain_task job).Replies i r' → r ≡ r'
replies_once Check fixed i r r' one two = certificate_once i r r' one two
replies_once Replay fixed i r r' one two = moves_once (grid_of i.diagram) i.moves i.colours r r' one two
replies_once Colour fixed i r r' one two = one ∙ sym two
replies_once Close fixed i r r' one two = one ∙ sym two
replies_once Code fixed i r r' one two = one ∙ sym two
replies_once Braid fixed i r r' one two = one ∙ sym two
replies_once Linking fixed i r r' one two = one ∙ sym two
replies_once Braidcheck fixed i r r' one two = one ∙ sym two
replies_once Weights fixed i r r' one two = one ∙ sym two
replies_once Numbers fixed i r r' one two = absurd (let wrong : false ≡ true = fixed in cc)
replies_once Grid fixed i r r' one two = absurd (let wrong : false ≡ true = fixed in cc)

-- ---- and there is one

abbrev pub SomeReply : (PlainReply → Type 0) → Type 0
SomeReply Is = (r : PlainReply) × Is r

some_said : (p : ProblemText) (s : Said) → IsGrid (grid_of p.first) → IsGrid (grid_of p.second) → SomeReply (AnswersSaid p s)
some_said p (said.Verdict v) first second =
    let r = some_ruling (grid_of p.first) (grid_of p.second) v first in
    (plain_reply (ruling_status r.0) (ruling_line r.0), record { ruling = r.0; rules = r.1; is = refl })
some_said p (said.Evidence e) first second =
    let r = some_number_ruling (grid_of p.first) (grid_of p.second) e first second in
    (plain_reply (number_ruling_status r.0) (number_ruling_line r.0), record { ruling = r.0; rules = r.1; is = refl })

some_table : (bytes : List ℕ) (table : KnotTable) → knot_table_of bytes ≡ Ok table → SomeReply (AnswersTable table)
some_table bytes table is =
    let grids = table_grids bytes table is in
    let r = some_table_ruling table grids.0 grids.1 in
    (plain_reply (table_ruling_status r.0) (table_ruling_line r.0), record { ruling = r.0; rules = r.1; is = refl })

some_certificate : (bytes : List ℕ) (c : Certificate) → certificate_of bytes ≡ Ok c → SomeReply (AnswersCheck c)
some_certificate bytes c is = by (starts_table (text_of bytes).lines) is
  where
    pair : (s : Result (ProblemText × Said) TextFault) → said_of bytes ≡ s → as_pair s ≡ Ok c → SomeReply (AnswersCheck c)
    pair (Ok x) read is =
        let grids = said_grids bytes x.0 x.1 read in
        subst (λ (y : Certificate). SomeReply (AnswersCheck y)) (ok_is (inl x) c is) (some_said x.0 x.1 grids.0 grids.1)
    pair (Err fault) read is = absurd cc

    table : (s : Result KnotTable TextFault) → knot_table_of bytes ≡ s → as_table s ≡ Ok c → SomeReply (AnswersCheck c)
    table (Ok x) read is = subst (λ (y : Certificate). SomeReply (AnswersCheck y)) (ok_is (inr x) c is) (some_table bytes x read)
    table (Err fault) read is = absurd cc

    by : (t : Bool) → cond t (as_table (knot_table_of bytes)) (as_pair (said_of bytes)) ≡ Ok c → SomeReply (AnswersCheck c)
    by true is = table (knot_table_of bytes) refl is
    by false is = pair (said_of bytes) refl is

some_moves : (d : Diagram) (moves : List Move) (colours : Option (NamedQuandle × ArrayVec ℕ)) → IsGrid d → SomeReply (AnswersMoves d moves colours)
some_moves d moves None grid = elim (joins_or_stops moves d grid) [
  | inl joined ↦ (done (grid_text joined.0), inl (record { last = joined.0; joins = joined.1; is = refl }))
  | inr stop ↦ (rejected (illegal_step_tokens stop.0 stop.1.0), inr (record { place = stop.0; fault = stop.1.0; stops = stop.1.1; is = refl }))
]
some_moves d moves (Some (q, colours)) grid = by (is_colouring q.table d colours.items) refl
  where
    by : (t : Bool) → is_colouring q.table d colours.items ≡ t → SomeReply (AnswersMoves d moves (Some (q, colours)))
    by false none = (rejected (codes "colours" ∷ []), inl (record { none = none; is = refl }))
    by true some = elim (joins_or_stops moves d grid) [
      | inl joined ↦
          let c = carried_along q.table moves d joined.0 colours.items joined.1 in
          let last = inl (record { last = joined.0; last_colours = c.0; carries = c.1; is = refl }) in
          (done (coloured_text joined.0 c.0), inr (record { colouring = some; answer = last }))
      | inr stop ↦
          let first = inr (record { place = stop.0; fault = stop.1.0; stops = stop.1.1; is = refl }) in
          (rejected (illegal_step_tokens stop.0 stop.1.0), inr (record { colouring = some; answer = first }))
    ]

pub some_reply : (job : PlainJob) → is_determined job ≡ true → (bytes : List ℕ) (i : (plain_task job).Input) → (plain_task job).read bytes ≡ Ok i
    → SomeReply ((plain_task job).Replies i)
some_reply Check fixed bytes i is = some_certificate bytes i is
some_reply Replay fixed bytes i is = some_moves (grid_of i.diagram) i.moves i.colours (replay_grid bytes i is)
some_reply Colour fixed bytes i is = (done (colour_text (grid_of i.diagram) i.quandles), refl)
some_reply Close fixed bytes i is = (done (close_text i.braid i.quandles), refl)
some_reply Code fixed bytes i is = (done (code_text (grid_of i)), refl)
some_reply Braid fixed bytes i is = (done (word_text (grid_of i.diagram) i.quandles), refl)
some_reply Linking fixed bytes i is = (done (linking_text (grid_of i.0) (grid_of i.1)), refl)
some_reply Braidcheck fixed bytes i is = (ruled_reply (ruling i.first i.second i.steps), refl)
some_reply Weights fixed bytes i is = (done (weights_text i.cocycle (grid_of i.first) (grid_of i.second)), refl)
some_reply Numbers fixed bytes i is = absurd (let wrong : false ≡ true = fixed in cc)
some_reply Grid fixed bytes i is = absurd (let wrong : false ≡ true = fixed in cc)

-- a reader answers no want of memory in its definition
first_fails : {A : Type 0} (read : Text → Result A TextFault) → FailsFirst read → (text : Text) → read text ≡ Err bad.OutOfMemory → ⊥
first_fails read first text is = elim (first text bad.OutOfMemory is) [
  | inl here ↦ absurd (elim here.first.names [ inl wrong ↦ cc | inr wrong ↦ cc ])
  | inr end ↦ absurd (let wrong = end.names in cc)
]

pub never_memory : (job : PlainJob) → is_determined job ≡ true → (bytes : List ℕ) → (plain_task job).read bytes ≡ Err bad.OutOfMemory → ⊥
never_memory Check fixed bytes is = first_fails certificate_in certificate_fails (text_of bytes) is
never_memory Replay fixed bytes is = first_fails replay_in replay_fails (text_of bytes) is
never_memory Colour fixed bytes is = first_fails colour_in colour_fails (text_of bytes) is
never_memory Close fixed bytes is = first_fails close_in close_fails (text_of bytes) is
never_memory Code fixed bytes is = first_fails lone_diagram_in lone_diagram_fails (text_of bytes) is
never_memory Braid fixed bytes is = first_fails colour_in colour_fails (text_of bytes) is
never_memory Linking fixed bytes is = first_fails pair_in pair_fails (text_of bytes) is
never_memory Braidcheck fixed bytes is = first_fails braidcheck_in braidcheck_fails (text_of bytes) is
never_memory Weights fixed bytes is = first_fails weighed_in weighed_fails (text_of bytes) is
never_memory Numbers fixed bytes is = absurd (let wrong : false ≡ true = fixed in cc)
never_memory Grid fixed bytes is = absurd (let wrong : false ≡ true = fixed in cc)
