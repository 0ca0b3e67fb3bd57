-- Worked command lines, by computing.
use Rattle.std.proofs.Common.{◌≡◌, refl, [], ◌∷◌, Some, codes}
use Rattle.clap.specs.Faults.{fault_of}
use Rattle.clap.specs.declared.error.kind.ErrorKind.TheVariants as kind
use Rattle.clap.proofs.OnLiterals.{clap_on_literals}
use Rattle.knot_words.specs.Words.{AreTaken, Asks, job_given, knot_app}
use Rattle.knot_words.specs.declared.job.Job.TheVariants.{Plain}
use Rattle.knot_words.specs.declared.job.PlainJob.TheVariants.{Check, Replay, Colour}

defaults : Asks (codes "knot" ∷ codes "check" ∷ []) (record { job = Plain Check; workers = 1; budget = 20000; spare = 1; seed = 1 })
unfolding clap_on_literals
defaults = record { taken = refl; job = refl; workers = refl; budget = refl; spare = refl; seed = refl }

greatest : Asks (codes "knot" ∷ codes "replay" ∷ codes "--budget" ∷ codes "500000" ∷ codes "--seed=18446744073709551615" ∷ [])
    (record { job = Plain Replay; workers = 1; budget = 500000; spare = 1; seed = 18446744073709551615 })
unfolding clap_on_literals
greatest = record { taken = refl; job = refl; workers = refl; budget = refl; spare = refl; seed = refl }

over_budget : fault_of knot_app (codes "knot" ∷ codes "decide" ∷ codes "--budget" ∷ codes "500001" ∷ []) ≡ kind.ValueValidation ∷ []
unfolding clap_on_literals
over_budget = refl

options_before_the_job : Asks (codes "knot" ∷ codes "--workers" ∷ codes "8" ∷ codes "colour" ∷ [])
    (record { job = Plain Colour; workers = 8; budget = 20000; spare = 1; seed = 1 })
unfolding clap_on_literals
options_before_the_job = record { taken = refl; job = refl; workers = refl; budget = refl; spare = refl; seed = refl }

no_words : fault_of knot_app ([]) ≡ kind.MissingRequiredArgument ∷ []
unfolding clap_on_literals
no_words = refl

no_job : fault_of knot_app (codes "knot" ∷ []) ≡ kind.MissingRequiredArgument ∷ []
unfolding clap_on_literals
no_job = refl

two_jobs : fault_of knot_app (codes "knot" ∷ codes "check" ∷ codes "check" ∷ []) ≡ kind.UnknownArgument ∷ []
unfolding clap_on_literals
two_jobs = refl

no_workers : fault_of knot_app (codes "knot" ∷ codes "check" ∷ codes "--workers" ∷ codes "0" ∷ []) ≡ kind.ValueValidation ∷ []
unfolding clap_on_literals
no_workers = refl

many_workers : fault_of knot_app (codes "knot" ∷ codes "check" ∷ codes "--workers" ∷ codes "65" ∷ []) ≡ kind.ValueValidation ∷ []
unfolding clap_on_literals
many_workers = refl

help : fault_of knot_app (codes "knot" ∷ codes "--help" ∷ []) ≡ kind.DisplayHelp ∷ []
unfolding clap_on_literals
help = refl

-- the words are taken, and name no job
unknown_job_is_taken : AreTaken (codes "knot" ∷ codes "decode" ∷ [])
unfolding clap_on_literals
unknown_job_is_taken = refl

unknown_job : job_given (codes "knot" ∷ codes "decode" ∷ []) ≡ Some (codes "decode")
unfolding clap_on_literals
unknown_job = refl

-- ---- spellings

pluses_and_zeros : Asks (codes "knot" ∷ codes "check" ∷ codes "--workers" ∷ codes "00008" ∷ codes "--spare=+0" ∷ codes "--seed" ∷ codes "+000" ∷ [])
    (record { job = Plain Check; workers = 8; budget = 20000; spare = 0; seed = 0 })
unfolding clap_on_literals
pluses_and_zeros = record { taken = refl; job = refl; workers = refl; budget = refl; spare = refl; seed = refl }

minus_zero : Asks (codes "knot" ∷ codes "check" ∷ codes "--spare=-0" ∷ []) (record { job = Plain Check; workers = 1; budget = 20000; spare = 0; seed = 1 })
unfolding clap_on_literals
minus_zero = record { taken = refl; job = refl; workers = refl; budget = refl; spare = refl; seed = refl }

minus_zero_apart : fault_of knot_app (codes "knot" ∷ codes "check" ∷ codes "--spare" ∷ codes "-0" ∷ []) ≡ kind.UnknownArgument ∷ []
unfolding clap_on_literals
minus_zero_apart = refl

minus_zero_seed : fault_of knot_app (codes "knot" ∷ codes "check" ∷ codes "--seed=-0" ∷ []) ≡ kind.ValueValidation ∷ []
unfolding clap_on_literals
minus_zero_seed = refl

empty_value : fault_of knot_app (codes "knot" ∷ codes "check" ∷ codes "--workers=" ∷ []) ≡ kind.ValueValidation ∷ []
unfolding clap_on_literals
empty_value = refl

no_value : fault_of knot_app (codes "knot" ∷ codes "check" ∷ codes "--workers" ∷ []) ≡ kind.InvalidValue ∷ []
unfolding clap_on_literals
no_value = refl

blank_before : fault_of knot_app (codes "knot" ∷ codes "check" ∷ codes "--workers" ∷ codes " 8" ∷ []) ≡ kind.ValueValidation ∷ []
unfolding clap_on_literals
blank_before = refl

hexadecimal : fault_of knot_app (codes "knot" ∷ codes "check" ∷ codes "--workers=0x8" ∷ []) ≡ kind.ValueValidation ∷ []
unfolding clap_on_literals
hexadecimal = refl

underscore : fault_of knot_app (codes "knot" ∷ codes "check" ∷ codes "--budget=5_000" ∷ []) ≡ kind.ValueValidation ∷ []
unfolding clap_on_literals
underscore = refl

repeated : fault_of knot_app (codes "knot" ∷ codes "check" ∷ codes "--workers" ∷ codes "8" ∷ codes "--workers" ∷ codes "8" ∷ []) ≡ kind.ArgumentConflict ∷ []
unfolding clap_on_literals
repeated = refl

shortened : fault_of knot_app (codes "knot" ∷ codes "check" ∷ codes "--work" ∷ codes "8" ∷ []) ≡ kind.UnknownArgument ∷ []
unfolding clap_on_literals
shortened = refl

two_hyphens : Asks (codes "knot" ∷ codes "--" ∷ codes "check" ∷ []) (record { job = Plain Check; workers = 1; budget = 20000; spare = 1; seed = 1 })
unfolding clap_on_literals
two_hyphens = record { taken = refl; job = refl; workers = refl; budget = refl; spare = refl; seed = refl }

option_after_two_hyphens : fault_of knot_app (codes "knot" ∷ codes "--" ∷ codes "check" ∷ codes "--workers" ∷ codes "8" ∷ []) ≡ kind.UnknownArgument ∷ []
unfolding clap_on_literals
option_after_two_hyphens = refl
