-- Worked command lines, by computing.
use Rattle.std.proofs.Common.{◌≡◌, ◌∙◌, inl, inr, refl, sym, subst, [], ◌∷◌, Some, None, codes}
use Rattle.std.specs.Prelude.{option_map, List}
use Rattle.clap.specs.Faults.{fault_of}
use Rattle.clap.specs.Kinds.{Kinds, IsAmong}
use Rattle.clap.specs.Simple.{matches_of}
use Rattle.clap.specs.Walk.{Text, first_of, one_of, all_of}
use Rattle.clap.specs.declared.error.kind.ErrorKind.TheVariants as kind
use Rattle.clap.proofs.OnLiterals.{clap_on_literals}
use Rattle.knot_words.specs.OptionNumbers.{number_of_text}
use Rattle.seek_words.specs.Words.{seek_app, AsksNothingOfSeek}

abbrev line : List Text
line = codes "seek" ∷ codes "--seed" ∷ codes "7" ∷ codes "a" ∷ codes "--quiet" ∷ codes "--steps=90" ∷ codes "--quandles" ∷ codes "q" ∷ codes "b" ∷ []

taken : fault_of seek_app line ≡ []
unfolding clap_on_literals
taken = refl

seed : option_map number_of_text (one_of (codes "seed") (matches_of seek_app line)) ≡ Some 7
unfolding clap_on_literals
seed = refl

steps : option_map number_of_text (one_of (codes "steps") (matches_of seek_app line)) ≡ Some 90
unfolding clap_on_literals
steps = refl

room : option_map number_of_text (one_of (codes "room") (matches_of seek_app line)) ≡ Some 524288
unfolding clap_on_literals
room = refl

quiet : one_of (codes "quiet") (matches_of seek_app line) ≡ Some (codes "true")
unfolding clap_on_literals
quiet = refl

progress : one_of (codes "progress") (matches_of seek_app line) ≡ Some (codes "false")
unfolding clap_on_literals
progress = refl

files : all_of (codes "FILE") (matches_of seek_app line) ≡ Some (codes "a" ∷ codes "b" ∷ [])
unfolding clap_on_literals
files = refl

quandles : all_of (codes "quandles") (matches_of seek_app line) ≡ Some (codes "q" ∷ [])
unfolding clap_on_literals
quandles = refl

weights : all_of (codes "weights") (matches_of seek_app (codes "seek" ∷ codes "--weights=w" ∷ codes "a" ∷ codes "--weights" ∷ codes "v" ∷ []))
    ≡ Some (codes "w" ∷ codes "v" ∷ [])
unfolding clap_on_literals
weights = refl

some_weights : one_of (codes "no-weights") (matches_of seek_app line) ≡ Some (codes "false")
unfolding clap_on_literals
some_weights = refl

no_weights : one_of (codes "no-weights") (matches_of seek_app (codes "seek" ∷ codes "--no-weights" ∷ codes "a" ∷ [])) ≡ Some (codes "true")
unfolding clap_on_literals
no_weights = refl

no_file : first_of (codes "out") (matches_of seek_app line) ≡ None
unfolding clap_on_literals
no_file = refl

no_workers : fault_of seek_app (codes "seek" ∷ codes "--workers" ∷ codes "0" ∷ []) ≡ kind.ValueValidation ∷ []
unfolding clap_on_literals
no_workers = refl

help : fault_of seek_app (codes "seek" ∷ codes "--help" ∷ []) ≡ kind.DisplayHelp ∷ []
unfolding clap_on_literals
help = refl

version : fault_of seek_app (codes "seek" ∷ codes "a" ∷ codes "--version" ∷ []) ≡ kind.DisplayVersion ∷ []
unfolding clap_on_literals
version = refl

-- a request for help isn't refused
help_is_shown : AsksNothingOfSeek (codes "seek" ∷ codes "--help" ∷ []) → ⊥
help_is_shown (inl (k, (among, other))) =
    other (elim (subst (λ (kinds : Kinds). IsAmong k kinds) help among) [
      | inl is ↦ inl is
      | inr none ↦ absurd none
    ])
help_is_shown (inr (taken, nothing)) =
    let bad : kind.DisplayHelp ∷ [] ≡ [] = sym help ∙ taken in
    cc
