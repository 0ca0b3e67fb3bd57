-- Words ask for one thing.
use Rattle.std.proofs.Common.{◌≡◌, ◌∙◌, ap, sym, refl, ℕ, List}
use Rattle.std.specs.Prelude.{unwrap_or, if◌then◌else◌}
use Rattle.std.specs.Str.{bytes_eq}
use Rattle.clap.specs.Walk.{Text}
use Rattle.knot_words.specs.Words.{job_word, Asks, AsksNothing}
use Rattle.knot_words.specs.declared.words.Asked.{Asked}
use Rattle.knot_words.specs.declared.job.Job.{Job}
use Rattle.knot_words.specs.declared.job.Job.TheVariants.{Decide, Simplify, Least, Sample, Plain}
use Rattle.knot_words.specs.declared.job.PlainJob.TheVariants.{Check, Replay, Colour, Close, Code, Braid, Linking, Braidcheck, Weights, Numbers, Grid}
use Rattle.knot_words.proofs.KnotReads.{one_number}

-- the job that is called so
abbrev job_of : List ℕ → Job
job_of word = if bytes_eq word (job_word Decide) then Decide else (
    if bytes_eq word (job_word Simplify) then Simplify else (
    if bytes_eq word (job_word Least) then Least else (
    if bytes_eq word (job_word (Plain Check)) then Plain Check else (
    if bytes_eq word (job_word (Plain Replay)) then Plain Replay else (
    if bytes_eq word (job_word (Plain Colour)) then Plain Colour else (
    if bytes_eq word (job_word (Plain Close)) then Plain Close else (
    if bytes_eq word (job_word (Plain Code)) then Plain Code else (
    if bytes_eq word (job_word (Plain Braid)) then Plain Braid else (
    if bytes_eq word (job_word (Plain Linking)) then Plain Linking else (
    if bytes_eq word (job_word (Plain Braidcheck)) then Plain Braidcheck else (
    if bytes_eq word (job_word (Plain Weights)) then Plain Weights else (
    if bytes_eq word (job_word (Plain Numbers)) then Plain Numbers else (
    if bytes_eq word (job_word (Plain Grid)) then Plain Grid else (
    Sample
    )
    )
    )
    )
    )
    )
    )
    )
    )
    )
    )
    )
    )
    )

job_of_word : (job : Job) → job_of (job_word job) ≡ job
job_of_word Decide = refl
job_of_word Simplify = refl
job_of_word Least = refl
job_of_word (Plain Check) = refl
job_of_word (Plain Replay) = refl
job_of_word (Plain Colour) = refl
job_of_word (Plain Close) = refl
job_of_word (Plain Code) = refl
job_of_word (Plain Braid) = refl
job_of_word (Plain Linking) = refl
job_of_word (Plain Braidcheck) = refl
job_of_word (Plain Weights) = refl
job_of_word (Plain Numbers) = refl
job_of_word (Plain Grid) = refl
job_of_word Sample = refl

one_job : (a b : Job) → job_word a ≡ job_word b → a ≡ b
one_job a b same = sym (job_of_word a) ∙ ap job_of same ∙ job_of_word b

pub asked_once : (words : List Text) (a b : Asked) → Asks words a → Asks words b → a ≡ b
asked_once words a b x y =
    let job = one_job a.job b.job (ap (λ o. unwrap_or o (job_word a.job)) (sym x.job ∙ y.job)) in
    λ i. record {
      job = job i;
      workers = one_number _ _ _ x.workers y.workers i;
      budget = one_number _ _ _ x.budget y.budget i;
      spare = one_number _ _ _ x.spare y.spare i;
      seed = one_number _ _ _ x.seed y.seed i;
    }

pub never_both : (words : List Text) (a : Asked) → Asks words a → AsksNothing words → ⊥
never_both words a x none = none x.taken a.job x.job
