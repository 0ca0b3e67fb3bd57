-- How a call ends, from what was answered and what was written.
use Rattle.std.proofs.Common.{◌≡◌, ◌≤◌, ◌+◌, ◌++◌, ℕ, List, [], Bool, true, false, length, take, Option, Some, None, is_some}
use Rattle.std.proofs.Common.{Result, Ok, Err, arith, refl, sym, ap, subst, ◌∙◌, inl, inr, ◌⊎◌, if◌then◌else◌}
use Rattle.std.specs.Io.KnownBytes.{Appends, Consumes, IsAtEnd}
use Rattle.std.proofs.lemmas.Bool.{cases_lt}
use Rattle.std.proofs.lemmas.List.{append-nil, take_at, take_all, length-take-le}
use Rattle.search_pool.specs.declared.finding.Finding.{Finding}
use Rattle.search_jobs.specs.declared.reply.Reply.{Reply}
use Rattle.knot_words.specs.declared.words.Asked.{Asked}
use Rattle.knot_words.specs.declared.words.WordsFault.{WordsFault}
use Rattle.knot_words.specs.declared.words.WordsFault.TheVariants as bad_words
use Rattle.knot_ports.specs.declared.status.Status.{Status}
use Rattle.knot_ports.specs.declared.status.Status.TheVariants as status
use Rattle.knot_words.specs.Words.{Asks, AsksNothing}
use Rattle.knot_ports.specs.Status.{IsOfAnswer}
use Rattle.reply_text.specs.Reply.{plain_reply, too_long}
use Rattle.search_jobs.specs.Reply.{without_search}
use Rattle.knot_jobs.specs.Call.{with_workers, Call, TakesAll, Comes, Loses}
use Rattle.knot_words.specs.Limits.{limit_of, part_for}
use Rattle.knot_jobs.specs.Answer.{leaves_no_choice, IsOver, IsNotOver, AnswersText, Answers}
use Rattle.knot_ports.specs.Change.{Change, IsUntouched, Failed}
use Rattle.knot_ports.specs.declared.limits.TheConstants.{MAX_CERTIFICATE}
use Rattle.knot_words.specs.declared.job.Job.{Job}
use Rattle.knot_words.specs.declared.job.Job.TheVariants.{Plain}
use Rattle.knot_words.specs.declared.job.PlainJob.TheVariants.{Check}
use Rattle.reply_text.specs.declared.reply.PlainReply.{PlainReply}
use Rattle.check_job.specs.Input.{certificate_of}
use Rattle.check_job.specs.Answer.{AnswersCheck}
use Rattle.check_job.specs.Ending.{IsCheckReplyDue}
use Rattle.knot_jobs.specs.Ending.{usage_line, IsReplyTo, IsAnswered, IsMisused, IsDue, IsCutOff, LosesInput, Writes, EndsAnyCall}
use Rattle.knot_jobs.specs.ReplyTruth.{IsTrueReply, IsTrueOf, TellsOnlyTruth, Goes}
use Rattle.check_job.specs.Ports.{IsWritten}
use Rattle.knot_jobs.specs.Delivered.{IsWithoutReply, IsMadeOf, IsDelivered, IsRefused, IsEnded}
use Rattle.knot_words.proofs.AskedOnce.{asked_once, never_both}
use Rattle.knot_jobs.proofs.OneAnswer.{answer_status, answers_once, not_decide, by_so_many, not_over}
use Rattle.knot_jobs.proofs.Plainly.{AnswersAs, read_plainly}

pub usage_ends : (call : Call) (s : Status) → AsksNothing call.words → IsUntouched call.source → IsWritten call.sink usage_line status.Usage s
    → EndsAnyCall call s None
usage_ends call s refused source written =
    let usage : Reply = without_search (plain_reply status.Usage usage_line) in
    let misused : IsMisused call usage = record { refused = refused; source = source; is = refl } in
    elim written [
      | inl whole ↦ subst (λ z. EndsAnyCall call z None) (sym whole.0) (record { text = usage_line; is = misused; written = whole.1 })
      | inr cut ↦ subst (λ z. EndsAnyCall call z None) (sym cut.0) (record { failed = cut.1.0; reply = usage; due = inr misused; front = cut.1.1 }, refl)
    ]

-- the words are refused, or memory is wanting for them
refused_ends : (call : Call) (fault : WordsFault) (s : Status) (kept : Option Finding) → (fault ≡ bad_words.Usage → AsksNothing call.words)
    → IsUntouched call.source → IsRefused fault call.sink s → kept ≡ None → EndsAnyCall call s kept
refused_ends call bad_words.Usage s kept usage source refused none =
    subst (λ k. EndsAnyCall call s k) (sym none) (usage_ends call s (usage refl) source refused)
refused_ends call bad_words.OutOfMemory s kept usage source refused none =
    subst (λ z. EndsAnyCall call z kept) (sym refused.0) ((inl source, refused.1), none)

refused_truth : (call : Call) (fault : WordsFault) (s : Status) → (fault ≡ bad_words.Usage → AsksNothing call.words) → IsRefused fault call.sink s
    → TellsOnlyTruth call s
refused_truth call bad_words.Usage s usage refused = λ asked asks done. absurd (never_both call.words asked asks (usage refl))
refused_truth call bad_words.OutOfMemory s usage refused = λ asked asks done.
    absurd (let wrong : status.OutOfMemory ≡ status.Done = sym refused.0 ∙ done in cc)

pub refused_goes : (call : Call) (fault : WordsFault) (s : Status) (kept : Option Finding) → (fault ≡ bad_words.Usage → AsksNothing call.words)
    → IsUntouched call.source → IsRefused fault call.sink s → kept ≡ None → Goes call s kept
refused_goes call fault s kept usage source refused none = record {
  ends = refused_ends call fault s kept usage source refused none;
  truth = refused_truth call fault s usage refused;
}

-- ---- an answer that was written

abbrev is_of_answer : Status → Bool
is_of_answer status.Usage = false
is_of_answer status.ReadFault = false
is_of_answer status.WriteFault = false
is_of_answer status.OutOfMemory = false
is_of_answer s = true

of_answer : (s : Status) → IsOfAnswer s → is_of_answer s ≡ true
of_answer s is = elim is [
  | inl defined ↦ elim defined [
    | inl e ↦ ap is_of_answer e
    | inr more ↦ elim more [ inl e ↦ ap is_of_answer e | inr e ↦ ap is_of_answer e ]
  ]
  | inr other ↦ elim other [ inl e ↦ ap is_of_answer e | inr e ↦ ap is_of_answer e ]
]

written_ends : (call : Call) (s : Status) (kept : Option Finding) → is_of_answer s ≡ true → Writes (IsAnswered call) call s kept
    → EndsAnyCall call s kept
written_ends call status.Done kept is writes = writes
written_ends call status.Unknown kept is writes = writes
written_ends call status.Rejected kept is writes = writes
written_ends call status.Malformed kept is writes = writes
written_ends call status.Limit kept is writes = writes
written_ends call status.Usage kept is writes = absurd (let wrong : false ≡ true = is in cc)
written_ends call status.ReadFault kept is writes = absurd (let wrong : false ≡ true = is in cc)
written_ends call status.WriteFault kept is writes = absurd (let wrong : false ≡ true = is in cc)
written_ends call status.OutOfMemory kept is writes = absurd (let wrong : false ≡ true = is in cc)

pub answer_ends : (call : Call) (reply : Reply) (s : Status) (kept : Option Finding) → IsAnswered call reply → IsDelivered call.sink reply s kept
    → EndsAnyCall call s kept
answer_ends call reply s kept a delivered = elim delivered [
  | inl whole ↦
      let same : reply ≡ record { status = s; text = reply.text; kept = kept } =
      λ i. record { status = sym whole.0.0 i; text = reply.text; kept = sym whole.0.1 i } in
      let b = subst (IsAnswered call) same a in
      let asked = with_workers call.searching b.asked in
      let own = of_answer s (answer_status asked b.answer.bytes (record { status = s; text = reply.text; kept = kept }) b.answer.answer) in
      written_ends call s kept own (record { text = reply.text; is = b; written = whole.1 })
  | inr cut ↦
      let cut_off : IsCutOff call = record { failed = cut.1.0; reply = reply; due = inl a; front = cut.1.1 } in
      subst (λ z. EndsAnyCall call z kept) (sym cut.0.0) (cut_off, cut.0.1)
]

-- and what it says is true
pub tells_truth : (call : Call) (asked : Asked) (reply : Reply) (s : Status) (kept : Option Finding) → Asks call.words asked
    → IsDelivered call.sink reply s kept
    → IsTrueOf asked.job call.source reply
    → TellsOnlyTruth call s
tells_truth call asked reply s kept asks delivered claim = λ other asks' done.
    let same : asked ≡ other = asked_once call.words asked other asks asks' in
    let said = claim (own delivered done) in
    let all = subst (λ (x : Asked). TakesAll (limit_of x.job) call.source said.0) same said.1.0 in
    (said.0, (reply.text, (all, (written delivered done, subst (λ (x : Asked). IsTrueReply x.job said.0 reply.text) same said.1.1))))
  where
    own : IsDelivered call.sink reply s kept → s ≡ status.Done → reply.status ≡ status.Done
    own delivered done = elim delivered [
      | inl whole ↦ sym whole.0.0 ∙ done
      | inr cut ↦ absurd (let wrong : status.WriteFault ≡ status.Done = sym cut.0.0 ∙ done in cc)
    ]

    written : IsDelivered call.sink reply s kept → s ≡ status.Done → Appends call.sink.before call.sink.after reply.text
    written delivered done = elim delivered [
      | inl whole ↦ whole.1
      | inr cut ↦ absurd (let wrong : status.WriteFault ≡ status.Done = sym cut.0.0 ∙ done in cc)
    ]

-- ---- a reply, or none

loses : (call : Call) (asked : Asked) (more : ℕ) → Asks call.words asked → Loses (limit_of asked.job) more call.source → LosesInput call more
loses call asked more asks lost = record { asked = asked; asks = asks; lost = lost }

without_ends : (call : Call) (asked : Asked) (s : Status) → Asks call.words asked → IsWithoutReply (limit_of asked.job) call.source s
    → IsUntouched call.sink → EndsAnyCall call s None
without_ends call asked s asks without sink = elim without [
  | inl fault ↦ subst (λ z. EndsAnyCall call z None) (sym fault.0) ((fault.1.0, loses call asked 0 asks fault.1.1, sink), refl)
  | inr memory ↦ elim memory.1 [
    | inl source ↦ subst (λ z. EndsAnyCall call z None) (sym memory.0) ((inl source, sink), refl)
    | inr lost ↦ subst (λ z. EndsAnyCall call z None) (sym memory.0) ((inr (loses call asked 1 asks lost), sink), refl)
  ]
]

ends_by : (call : Call) (asked : Asked) (reply : Result Reply Status) (s : Status) (kept : Option Finding) → Asks call.words asked
    → IsMadeOf (with_workers call.searching asked) call.source reply → IsEnded call.sink reply s kept → EndsAnyCall call s kept
ends_by call asked (Ok r) s kept asks made ended =
    answer_ends call r s kept (record { asked = asked; asks = asks; answer = made.0 }) ended
ends_by call asked (Err e) s kept asks made ended =
    subst (λ k. EndsAnyCall call s k) (sym ended.1) (subst (λ z. EndsAnyCall call z None) (sym ended.0.0) (without_ends call asked e asks made ended.0.1))

tells_by : (call : Call) (asked : Asked) (reply : Result Reply Status) (s : Status) (kept : Option Finding) → Asks call.words asked
    → IsMadeOf (with_workers call.searching asked) call.source reply → IsEnded call.sink reply s kept → TellsOnlyTruth call s
tells_by call asked (Ok r) s kept asks made ended = tells_truth call asked r s kept asks ended made.1
tells_by call asked (Err e) s kept asks made ended = λ other asks' done. elim made [
  | inl fault ↦ absurd (let wrong : status.ReadFault ≡ status.Done = sym fault.0 ∙ sym ended.0.0 ∙ done in cc)
  | inr memory ↦ absurd (let wrong : status.OutOfMemory ≡ status.Done = sym memory.0 ∙ sym ended.0.0 ∙ done in cc)
]

-- of what was asked for, with as many workers as search
pub reply_goes : (call : Call) (asked done : Asked) (reply : Result Reply Status) (s : Status) (kept : Option Finding) → Asks call.words asked
    → done ≡ with_workers call.searching asked → IsMadeOf done call.source reply → IsEnded call.sink reply s kept → Goes call s kept
reply_goes call asked done reply s kept asks same made ended =
    let by = subst (λ (x : Asked). IsMadeOf x call.source reply) same made in
    record { ends = ends_by call asked reply s kept asks by ended; truth = tells_by call asked reply s kept asks by ended }

-- ---- one outcome

-- of bytes that are told, those that came for a job with this limit
abbrev front : Option ℕ → List ℕ → List ℕ
front (Some limit) bytes = take (limit + 1) bytes
front None bytes = []

whole_once : (limit : ℕ) (bytes : List ℕ) (after : Option (List ℕ)) (got : List ℕ) → Consumes (Some bytes) after got → length got ≤ limit
    → IsAtEnd after → got ≡ take (limit + 1) bytes
whole_once limit bytes None got consumed within ended = absurd consumed
whole_once limit bytes (Some rest) got consumed within ended =
    let whole : bytes ≡ got = consumed ∙ ap (λ (t : List ℕ). got ++ t) ended ∙ append-nil got in
    rw whole (sym (take_all (limit + 1) got (omega (arith, within))))

over_once : (limit : ℕ) (bytes : List ℕ) (after : Option (List ℕ)) (got : List ℕ) → Consumes (Some bytes) after got → length got ≡ limit + 1
    → got ≡ take (limit + 1) bytes
over_once limit bytes None got consumed over = absurd consumed
over_once limit bytes (Some rest) got consumed over = rw (consumed, ← over) (sym (take_at got rest (length got) refl))

came_once : (limit : Option ℕ) (bytes : List ℕ) (source : Change) (got : List ℕ) → source.before ≡ Some bytes → Comes limit source got
    → got ≡ front limit bytes
came_once (Some limit) bytes source got left came = elim came [
  | inl all ↦ whole_once limit bytes source.after got (subst (λ l. Consumes l source.after got) left all.consumed) all.within all.ended
  | inr much ↦ over_once limit bytes source.after got (subst (λ l. Consumes l source.after got) left much.consumed) much.over
]
came_once None bytes source got left came = elim came [ inl all ↦ all.1 | inr much ↦ absurd much ]

-- the answer to the bytes that came, by the bytes that are told
front_answered : (call : Call) (asked : Asked) (bytes : List ℕ) (reply : Reply) → Asks call.words asked → call.source.before ≡ Some bytes
    → IsAnswered call reply → Answers (with_workers call.searching asked) (front (limit_of asked.job) bytes) reply
front_answered call asked bytes reply asks left a =
    let same : a.asked ≡ asked = asked_once call.words a.asked asked a.asks asks in
    let done = with_workers call.searching asked in
    let answer : IsReplyTo done call.source reply = subst (λ (x : Asked). IsReplyTo (with_workers call.searching x) call.source reply) same a.answer in
    let came = came_once (limit_of asked.job) bytes call.source answer.bytes left answer.came in
    subst (λ bs. Answers done bs reply) came answer.answer

-- the words and the bytes of the input decide the reply of every job that leaves no choice
pub outcome_once : (input : List ℕ) (a b : Call) (asked : Asked) (r r' : Reply)
    → a.words ≡ b.words → a.source.before ≡ Some input → b.source.before ≡ Some input
    → Asks a.words asked → leaves_no_choice asked.job ≡ true → IsDue a r → IsDue b r' → r ≡ r'
outcome_once input a b asked r r' words left left' asks fixed one two =
    let other = not_decide asked.job fixed in
    let asks' : Asks b.words asked = subst (λ ws. Asks ws asked) words asks in
    elim one [
      | inl x ↦ elim two [
        | inl y ↦
            let bytes = front (limit_of asked.job) input in
            let first = by_so_many a.searching asked bytes r other (front_answered a asked input r asks left x) in
            answers_once asked bytes r r' fixed first (by_so_many b.searching asked bytes r' other (front_answered b asked input r' asks' left' y))
        | inr y ↦ absurd (never_both b.words asked asks' y.refused)
      ]
      | inr x ↦ absurd (never_both a.words asked asks x.refused)
    ]

-- ---- the separate checker

-- the answers of a job to the bytes of any input
abbrev AnswersBy : Job → Asked → List ℕ → Reply → Type 0
AnswersBy job asked bytes reply =
    (IsOver (limit_of job) bytes × (reply ≡ without_search too_long)) ⊎ (IsNotOver (limit_of job) bytes × AnswersAs job asked bytes reply)

-- what is due to an input of the checker answers the bytes that come for `check`
check_answered : (asked : Asked) (input : List ℕ) (source : Change) (other : PlainReply) → source.before ≡ Some input → IsCheckReplyDue source other
    → AnswersBy (Plain Check) asked (take (MAX_CERTIFICATE + 1) input) (without_search other)
check_answered asked input source other left due = elim due [
  | inl a ↦
      let consumed = subst (λ l. Consumes l source.after a.bytes) left a.came.consumed in
      let came = whole_once MAX_CERTIFICATE input source.after a.bytes consumed a.came.within a.came.ended in
      subst (λ bs. AnswersBy (Plain Check) asked bs (without_search other)) came
      (inr (a.came.within, read_plainly AnswersCheck (certificate_of a.bytes) other a.answer))
  | inr a ↦
      let consumed = subst (λ l. Consumes l source.after a.bytes) left a.came.consumed in
      let came = over_once MAX_CERTIFICATE input source.after a.bytes consumed a.came.over in
      let over = a.came.over in
      subst (λ bs. AnswersBy (Plain Check) asked bs (without_search other)) came (inl (omega (arith, over), ap without_search a.is))
]

pub same_as_check : (input : List ℕ) (call : Call) (source : Change) (asked : Asked) (reply : Reply) (other : PlainReply)
    → call.source.before ≡ Some input → source.before ≡ Some input → Asks call.words asked → asked.job ≡ Plain Check
    → IsDue call reply → IsCheckReplyDue source other → reply ≡ without_search other
same_as_check input call source asked reply other left left' asks job due due' =
    let fixed : leaves_no_choice asked.job ≡ true = subst (λ (j : Job). leaves_no_choice j ≡ true) (sym job) refl in
    let bytes = front (limit_of asked.job) input in
    let second : Answers asked bytes (without_search other) =
    subst (λ (j : Job). AnswersBy j asked (front (limit_of j) input) (without_search other)) (sym job) (check_answered asked input source other left' due') in
    elim due [
      | inl x ↦
          let first = by_so_many call.searching asked bytes reply (not_decide asked.job fixed) (front_answered call asked input reply asks left x) in
          answers_once asked bytes reply (without_search other) fixed first second
      | inr x ↦ absurd (never_both call.words asked asks x.refused)
    ]

-- ---- without faults

-- the answer to the bytes that came is the answer to the whole input: where it is too long, so are they
whole_by : (limit : Option ℕ) (asked : Asked) (bytes : List ℕ) (reply : Reply)
    → (IsOver limit (front limit bytes) × (reply ≡ without_search too_long))
    ⊎ (IsNotOver limit (front limit bytes) × AnswersText asked (front limit bytes) reply)
    → (IsOver limit (if is_some limit then bytes else []) × (reply ≡ without_search too_long))
    ⊎ (IsNotOver limit (if is_some limit then bytes else []) × AnswersText asked (if is_some limit then bytes else []) reply)
whole_by None asked bytes reply one = one
whole_by (Some limit) asked bytes reply one =
    elim (cases_lt limit (length bytes)) [
      | inl long ↦
          let came : length (take (limit + 1) bytes) ≡ limit + 1 = length-take-le (limit + 1) bytes (omega (arith, long)) in
          elim one [ inl x ↦ inl (long, x.1) | inr y ↦ absurd (let within = y.0 in omega (arith, within, came)) ]
      | inr short ↦
          let all : take (limit + 1) bytes ≡ bytes = take_all (limit + 1) bytes (omega (arith, short)) in
          elim one [
            | inl x ↦ absurd (not_over (Some limit) bytes (subst (IsOver (Some limit)) all x.0) short)
            | inr y ↦ inr (short, subst (λ bs. AnswersText asked bs reply) all y.1)
          ]
    ]

-- the status is that of an answer to the input, and so is the search
abbrev pub HasAnswer : Asked → List ℕ → Status → Option Finding → Type 0
HasAnswer asked bytes s kept = (text : List ℕ) × Answers asked (part_for asked.job bytes) (record { status = s; text = text; kept = kept })

writes_answer : (call : Call) (asked : Asked) (bytes : List ℕ) (s : Status) (kept : Option Finding) → Asks call.words asked
    → call.source.before ≡ Some bytes → Writes (IsAnswered call) call s kept → HasAnswer (with_workers call.searching asked) bytes s kept
writes_answer call asked bytes s kept asks left e =
    let reply : Reply = record { status = s; text = e.text; kept = kept } in
    (e.text, whole_by (limit_of asked.job) (with_workers call.searching asked) bytes reply (front_answered call asked bytes reply asks left e.is))

pub ends_with_answer : (call : Call) (asked : Asked) (bytes : List ℕ) (s : Status) (kept : Option Finding) → EndsAnyCall call s kept → Asks call.words asked
    → call.source.before ≡ Some bytes → (Failed call.source → ⊥) → (Failed call.sink → ⊥)
    → HasAnswer (with_workers call.searching asked) bytes s kept ⊎ (s ≡ status.OutOfMemory)
ends_with_answer call asked bytes status.Done kept e asks left calm quiet = inl (writes_answer call asked bytes status.Done kept asks left e)
ends_with_answer call asked bytes status.Unknown kept e asks left calm quiet = inl (writes_answer call asked bytes status.Unknown kept asks left e)
ends_with_answer call asked bytes status.Rejected kept e asks left calm quiet = inl (writes_answer call asked bytes status.Rejected kept asks left e)
ends_with_answer call asked bytes status.Malformed kept e asks left calm quiet = inl (writes_answer call asked bytes status.Malformed kept asks left e)
ends_with_answer call asked bytes status.Limit kept e asks left calm quiet = inl (writes_answer call asked bytes status.Limit kept asks left e)
ends_with_answer call asked bytes status.OutOfMemory kept e asks left calm quiet = inr refl
ends_with_answer call asked bytes status.Usage kept e asks left calm quiet = absurd (never_both call.words asked asks e.is.refused)
ends_with_answer call asked bytes status.ReadFault kept e asks left calm quiet = absurd (calm e.0.0)
ends_with_answer call asked bytes status.WriteFault kept e asks left calm quiet = absurd (quiet e.0.failed)

pub ends_with_usage : (call : Call) (s : Status) (kept : Option Finding) → EndsAnyCall call s kept → AsksNothing call.words → (Failed call.sink → ⊥)
    → (s ≡ status.Usage) ⊎ (s ≡ status.OutOfMemory)
ends_with_usage call status.Done kept e none quiet = absurd (never_both call.words e.is.asked e.is.asks none)
ends_with_usage call status.Unknown kept e none quiet = absurd (never_both call.words e.is.asked e.is.asks none)
ends_with_usage call status.Rejected kept e none quiet = absurd (never_both call.words e.is.asked e.is.asks none)
ends_with_usage call status.Malformed kept e none quiet = absurd (never_both call.words e.is.asked e.is.asks none)
ends_with_usage call status.Limit kept e none quiet = absurd (never_both call.words e.is.asked e.is.asks none)
ends_with_usage call status.OutOfMemory kept e none quiet = inr refl
ends_with_usage call status.Usage kept e none quiet = inl refl
ends_with_usage call status.ReadFault kept e none quiet = absurd (never_both call.words e.0.1.asked e.0.1.asks none)
ends_with_usage call status.WriteFault kept e none quiet = absurd (quiet e.0.failed)
