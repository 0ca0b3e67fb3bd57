-- An input of a job that leaves no choice has one answer.
use Rattle.std.proofs.Common.{◌≡◌, ℕ, List, Option, Some, None, Result, Ok, Err, IsOk, true, false, arith, refl, sym, subst, ap, ◌∙◌, inl, inr, ◌⊎◌, length}
use Rattle.std.proofs.lemmas.Bool.{cases_lt}
use Rattle.text_items.specs.declared.fault.TextFault.{TextFault}
use Rattle.text_items.specs.declared.fault.TextFault.TheVariants as bad
use Rattle.verdict_core.specs.declared.verdict.Verdict.{Verdict}
use Rattle.verdict_core.specs.declared.verdict.Verdict.TheVariants.{Equal, Different, UnknownBudget, UnknownExhausted}
use Rattle.search_jobs.specs.Text.{sample_text}
use Rattle.knot_ports.specs.declared.status.Status.{Status}
use Rattle.knot_ports.specs.declared.status.Status.TheVariants as status
use Rattle.knot_ports.specs.Status.{IsOfDefinedAnswer, IsOfAnswer}
use Rattle.reply_text.specs.declared.reply.PlainReply.{PlainReply}
use Rattle.reply_text.specs.Lines.{malformed_line, limit_line}
use Rattle.reply_text.specs.Reply.{plain_reply, done, too_long}
use Rattle.plain_jobs.proofs.Replies.{replies_defined as plain_defined, too_wide_status, replies_once as plain_once}
use Rattle.plain_jobs.proofs.Replies.{some_reply as some_plain, never_memory as plain_memory}
use Rattle.search_jobs.specs.declared.reply.Reply.{Reply}
use Rattle.knot_words.specs.declared.job.Job.{Job}
use Rattle.knot_words.specs.declared.job.Job.TheVariants.{Decide, Simplify, Least, Sample, Plain}
use Rattle.knot_words.specs.declared.words.Asked.{Asked}
use Rattle.search_jobs.specs.Reply.{without_search, plain_of, RepliesRead}
use Rattle.knot_jobs.specs.Call.{with_workers}
use Rattle.search_jobs.specs.Decide.{verdict_status}
use Rattle.knot_words.specs.Limits.{limit_of}
use Rattle.knot_jobs.specs.Answer.{IsOver, IsNotOver, task_of, leaves_no_choice, IsInShape, IsBeyondColumns, Answers}

abbrev status_of : PlainReply → Status
status_of r = r.status

-- replies behind which is no search are told apart by their statuses and texts
same_plainly : (r r' : Reply) → r.kept ≡ None → r'.kept ≡ None → plain_of r ≡ plain_of r' → r ≡ r'
same_plainly r r' none none' same =
    let kept = none ∙ sym none' in
    λ i. record { status = (same i).status; text = (same i).text; kept = kept i }

-- ---- the status of an answer

verdict_defined : (v : Verdict) → IsOfDefinedAnswer (verdict_status v)
verdict_defined (Equal moves) = inl refl
verdict_defined (Different listed one two) = inl refl
verdict_defined (UnknownBudget budget) = inr (inl refl)
verdict_defined (UnknownExhausted cap admitted) = inr (inl refl)

-- what was read has one: a defined answer, or more columns than a diagram may have
abbrev IsDefined : Job → Reply → Type 0
IsDefined job r = IsOfDefinedAnswer r.status ⊎ IsBeyondColumns job r

replies_defined : (job : Job) (asked : Asked) (i : (task_of job asked).Input) (r : Reply) → (task_of job asked).Replies i r → IsDefined job r
replies_defined Decide asked i r a = inl (rw a.status_is (verdict_defined a.verdict))
replies_defined Simplify asked i r a = let is = a.1.is in inl (inl (ap status_of is))
replies_defined Least asked i r a = let is = a.1.is in inl (inl (ap status_of is))
replies_defined Sample asked i r a = inl (inl (ap status_of a.1))
replies_defined (Plain job) asked i r a = plain_defined job i (plain_of r) a.1

-- more columns than a diagram may have are a limit
beyond_status : (job : Job) (r : Reply) → IsBeyondColumns job r → r.status ≡ status.Limit
beyond_status (Plain job) r a = too_wide_status job (plain_of r) a
beyond_status job r a = absurd a

read_status : {A : Type 0} (job : Job) (answers : A → Reply → Type 0) (read : Result A TextFault) (r : Reply)
    → ((i : A) → answers i r → IsDefined job r) → RepliesRead answers read r → IsOfAnswer r.status
read_status job answers (Ok i) r each a = elim (each i a) [ inl defined ↦ inl defined | inr wide ↦ inr (inr (beyond_status job r wide)) ]
read_status job answers (Err (bad.Malformed n)) r each a = inr (inl (ap status_of a.1))
read_status job answers (Err (bad.Limit n)) r each a = inr (inr (ap status_of a.1))
read_status job answers (Err bad.OutOfMemory) r each a = absurd a.1

pub answer_status : (asked : Asked) (bytes : List ℕ) (r : Reply) → Answers asked bytes r → IsOfAnswer r.status
answer_status asked bytes r a = elim a [
  | inl long ↦ inr (inr (ap (λ (reply : Reply). reply.status) long.1))
  | inr text ↦
      let task = task_of asked.job asked in
      read_status asked.job task.Replies (task.read bytes) r (λ i. replies_defined asked.job asked i r) text.1
]

-- ---- one answer

replies_once : (job : Job) (asked : Asked) → leaves_no_choice job ≡ true → (i : (task_of job asked).Input) (r r' : Reply)
    → (task_of job asked).Replies i r → (task_of job asked).Replies i r' → r ≡ r'
replies_once Decide asked fixed i r r' one two = absurd (let wrong : false ≡ true = fixed in cc)
replies_once Simplify asked fixed i r r' one two = absurd (let wrong : false ≡ true = fixed in cc)
replies_once Least asked fixed i r r' one two = absurd (let wrong : false ≡ true = fixed in cc)
replies_once Sample asked fixed i r r' one two = same_plainly r r' one.0 two.0 (one.1 ∙ sym two.1)
replies_once (Plain job) asked fixed i r r' one two = same_plainly r r' one.0 two.0 (plain_once job fixed i (plain_of r) (plain_of r') one.1 two.1)

read_once : {A : Type 0} (answers : A → Reply → Type 0) (read : Result A TextFault) (r r' : Reply)
    → ((i : A) → answers i r → answers i r' → r ≡ r') → RepliesRead answers read r → RepliesRead answers read r' → r ≡ r'
read_once answers (Ok i) r r' each one two = each i one two
read_once answers (Err (bad.Malformed n)) r r' each one two = same_plainly r r' one.0 two.0 (one.1 ∙ sym two.1)
read_once answers (Err (bad.Limit n)) r r' each one two = same_plainly r r' one.0 two.0 (one.1 ∙ sym two.1)
read_once answers (Err bad.OutOfMemory) r r' each one two = absurd one.1

-- an input is too long or is not
pub not_over : (limit : Option ℕ) (bytes : List ℕ) → IsOver limit bytes → IsNotOver limit bytes → ⊥
not_over (Some limit) bytes over within = omega (arith, over, within)
not_over None bytes over within = over

over_or_within : (limit : Option ℕ) (bytes : List ℕ) → IsOver limit bytes ⊎ IsNotOver limit bytes
over_or_within (Some limit) bytes = cases_lt limit (length bytes)
over_or_within None bytes = inr tt

pub answers_once : (asked : Asked) (bytes : List ℕ) (r r' : Reply) → leaves_no_choice asked.job ≡ true → Answers asked bytes r → Answers asked bytes r' → r ≡ r'
answers_once asked bytes r r' fixed one two = elim one [
  | inl a ↦ elim two [ inl b ↦ a.1 ∙ sym b.1 | inr b ↦ absurd (not_over (limit_of asked.job) bytes a.0 b.0) ]
  | inr a ↦ elim two [
    | inl b ↦ absurd (not_over (limit_of asked.job) bytes b.0 a.0)
    | inr b ↦
        let task = task_of asked.job asked in
        read_once task.Replies (task.read bytes) r r' (λ i. replies_once asked.job asked fixed i r r') a.1 b.1
  ]
]

-- such a job is not `decide`
pub not_decide : (job : Job) → leaves_no_choice job ≡ true → job ≡ Decide → ⊥
not_decide job fixed is = let wrong : false ≡ true = subst (λ (j : Job). leaves_no_choice j ≡ true) is fixed in cc

-- and how many workers search makes nothing else of it
read_by_so_many : (job : Job) (searching : ℕ → ℕ) (asked : Asked) (bytes : List ℕ) (r : Reply) → (job ≡ Decide → ⊥)
    → RepliesRead (task_of job (with_workers searching asked)).Replies ((task_of job (with_workers searching asked)).read bytes) r
    → RepliesRead (task_of job asked).Replies ((task_of job asked).read bytes) r
read_by_so_many Decide searching asked bytes r other a = absurd (other refl)
read_by_so_many Simplify searching asked bytes r other a = a
read_by_so_many Least searching asked bytes r other a = a
read_by_so_many Sample searching asked bytes r other a = a
read_by_so_many (Plain job) searching asked bytes r other a = a

pub by_so_many : (searching : ℕ → ℕ) (asked : Asked) (bytes : List ℕ) (r : Reply) → (asked.job ≡ Decide → ⊥)
    → Answers (with_workers searching asked) bytes r → Answers asked bytes r
by_so_many searching asked bytes r other a = elim a [
  | inl long ↦ inl long
  | inr text ↦ inr (text.0, read_by_so_many asked.job searching asked bytes r other text.1)
]

-- ---- and there is one, behind which is no search

abbrev pub SomeReply : (Reply → Type 0) → Type 0
SomeReply Is = (r : Reply) × ((r.kept ≡ None) × Is r)

some_reply : (job : Job) (asked : Asked) → leaves_no_choice job ≡ true → (bytes : List ℕ) (i : (task_of job asked).Input)
    → (task_of job asked).read bytes ≡ Ok i
    → SomeReply ((task_of job asked).Replies i)
some_reply Decide asked fixed bytes i is = absurd (let wrong : false ≡ true = fixed in cc)
some_reply Simplify asked fixed bytes i is = absurd (let wrong : false ≡ true = fixed in cc)
some_reply Least asked fixed bytes i is = absurd (let wrong : false ≡ true = fixed in cc)
some_reply Sample asked fixed bytes i is = (without_search (done (sample_text i)), (refl, (refl, refl)))
some_reply (Plain job) asked fixed bytes i is =
    let plain = some_plain job fixed bytes i is in
    (without_search plain.0, (refl, (refl, plain.1)))

-- a reader answers no want of memory in its definition
never_memory : (job : Job) (asked : Asked) → leaves_no_choice job ≡ true → (bytes : List ℕ) → (task_of job asked).read bytes ≡ Err bad.OutOfMemory → ⊥
never_memory Decide asked fixed bytes is = absurd (let wrong : false ≡ true = fixed in cc)
never_memory Simplify asked fixed bytes is = absurd (let wrong : false ≡ true = fixed in cc)
never_memory Least asked fixed bytes is = absurd (let wrong : false ≡ true = fixed in cc)
never_memory Sample asked fixed bytes is = let wrong = is in cc
never_memory (Plain job) asked fixed bytes is = plain_memory job fixed bytes is

some_read : {A : Type 0} (answers : A → Reply → Type 0) (read : Result A TextFault) → (read ≡ Err bad.OutOfMemory → ⊥)
    → ((i : A) → read ≡ Ok i → SomeReply (answers i)) → SomeReply (RepliesRead answers read)
some_read answers (Ok i) never each = each i refl
some_read answers (Err (bad.Malformed n)) never each = (without_search (plain_reply status.Malformed (malformed_line n)), (refl, (refl, refl)))
some_read answers (Err (bad.Limit n)) never each = (without_search (plain_reply status.Limit (limit_line n)), (refl, (refl, refl)))
some_read answers (Err bad.OutOfMemory) never each = absurd (never refl)

pub some_answer : (asked : Asked) (bytes : List ℕ) → leaves_no_choice asked.job ≡ true → SomeReply (Answers asked bytes)
some_answer asked bytes fixed = elim (over_or_within (limit_of asked.job) bytes) [
  | inl over ↦ (without_search too_long, (refl, inl (over, refl)))
  | inr within ↦
      let task = task_of asked.job asked in
      let a = some_read task.Replies (task.read bytes) (never_memory asked.job asked fixed bytes) (some_reply asked.job asked fixed bytes) in
      (a.0, (a.1.0, inr (within, a.1.1)))
]

-- ---- an input of the job's shape

ok_defined : {A : Type 0} (job : Job) (answers : A → Reply → Type 0) (read : Result A TextFault) (r : Reply)
    → ((i : A) → answers i r → IsDefined job r) → IsOk read → RepliesRead answers read r → IsDefined job r
ok_defined job answers (Ok i) r each ok a = each i a
ok_defined job answers (Err e) r each ok a = absurd (let wrong = ok in cc)

pub defined_answer : (asked : Asked) (bytes : List ℕ) (r : Reply) → IsNotOver (limit_of asked.job) bytes → IsInShape asked bytes
    → Answers asked bytes r → IsDefined asked.job r
defined_answer asked bytes r within shape answer = elim answer [
  | inl long ↦ absurd (not_over (limit_of asked.job) bytes long.0 within)
  | inr text ↦
      let task = task_of asked.job asked in
      ok_defined asked.job task.Replies (task.read bytes) r (λ i. replies_defined asked.job asked i r) shape text.1
]
