-- What an error says of the words.
use Rattle.std.proofs.Common.{◌≡◌, ◌∙◌, ◌⊎◌, inl, inr, refl, sym, subst}
use Rattle.std.specs.Prelude.{List, Result, Ok, Err, IfErr, OnOk, []}
use Rattle.clap.specs.Kinds.{Kinds, IsAmong, FailsBy}
use Rattle.clap.specs.Simple.{matches_of}
use Rattle.clap.specs.Values.{kind_of}
use Rattle.clap.specs.Walk.{Row, Text}
use Rattle.clap.specs.declared.error.Error.{Error}
use Rattle.clap.specs.declared.error.kind.ErrorKind.{ErrorKind}
use Rattle.clap.specs.declared.error.kind.ErrorKind.TheVariants as kind
use Rattle.seek_words.specs.Words.{seek_app, AreTakenBySeek, IsHelpOrVersion, AsksNothingBy, AsksNothingOfSeek}

abbrev IsOfMemory : ErrorKind → Type 0
IsOfMemory kind.OutOfMemory = Unit {0}
IsOfMemory k = ⊥

abbrev pub HasShown : Kinds → Type 0
HasShown kinds = IsAmong kind.DisplayHelp kinds ⊎ IsAmong kind.DisplayVersion kinds

abbrev pub HasOther : Kinds → Type 0
HasOther kinds = (k : ErrorKind) × (IsAmong k kinds × (IsHelpOrVersion k → ⊥))

of_kind : (k : ErrorKind) (kinds : Kinds) → (k ≡ kind.OutOfMemory) ⊎ IsAmong k kinds → IsHelpOrVersion k → HasShown kinds
of_kind k kinds (inl none) (inl help) = absurd (subst IsOfMemory (sym none ∙ help) tt)
of_kind k kinds (inl none) (inr version) = absurd (subst IsOfMemory (sym none ∙ version) tt)
of_kind k kinds (inr among) (inl help) = inl (subst (λ x. IsAmong x kinds) help among)
of_kind k kinds (inr among) (inr version) = inr (subst (λ x. IsAmong x kinds) version among)

-- an error that is the help or the version is one of the kinds by which the words fail
pub by_kinds : {T : Type 0} (r : Result T Error) (kinds : Kinds) → FailsBy kinds r → IfErr r (λ e. IsHelpOrVersion (kind_of e) → HasShown kinds)
by_kinds (Ok m) kinds h = tt
by_kinds (Err e) kinds h = of_kind (kind_of e) kinds h

-- words that are taken fail by no kind
pub taken_by : {T : Type 0} (r : Result T Error) (kinds : Kinds) → FailsBy kinds r → OnOk r (kinds ≡ [])
taken_by (Ok m) kinds h = h
taken_by (Err e) kinds h = tt

-- the help and the version are shown, and no other
is_shown : (k : ErrorKind) → IsHelpOrVersion k ⊎ (IsHelpOrVersion k → ⊥)
is_shown kind.DisplayHelp = inl (inl refl)
is_shown kind.DisplayVersion = inl (inr refl)
is_shown kind.InvalidValue = inr (λ is. elim is [ inl h ↦ cc | inr h ↦ cc ])
is_shown kind.UnknownArgument = inr (λ is. elim is [ inl h ↦ cc | inr h ↦ cc ])
is_shown kind.InvalidSubcommand = inr (λ is. elim is [ inl h ↦ cc | inr h ↦ cc ])
is_shown kind.NoEquals = inr (λ is. elim is [ inl h ↦ cc | inr h ↦ cc ])
is_shown kind.ValueValidation = inr (λ is. elim is [ inl h ↦ cc | inr h ↦ cc ])
is_shown kind.TooManyValues = inr (λ is. elim is [ inl h ↦ cc | inr h ↦ cc ])
is_shown kind.TooFewValues = inr (λ is. elim is [ inl h ↦ cc | inr h ↦ cc ])
is_shown kind.WrongNumberOfValues = inr (λ is. elim is [ inl h ↦ cc | inr h ↦ cc ])
is_shown kind.ArgumentConflict = inr (λ is. elim is [ inl h ↦ cc | inr h ↦ cc ])
is_shown kind.MissingRequiredArgument = inr (λ is. elim is [ inl h ↦ cc | inr h ↦ cc ])
is_shown kind.MissingSubcommand = inr (λ is. elim is [ inl h ↦ cc | inr h ↦ cc ])
is_shown kind.DisplayHelpOnMissingArgumentOrSubcommand = inr (λ is. elim is [ inl h ↦ cc | inr h ↦ cc ])
is_shown kind.Io = inr (λ is. elim is [ inl h ↦ cc | inr h ↦ cc ])
is_shown kind.Format = inr (λ is. elim is [ inl h ↦ cc | inr h ↦ cc ])
is_shown kind.OutOfMemory = inr (λ is. elim is [ inl h ↦ cc | inr h ↦ cc ])

-- a kind that may come is shown, or is a fault that is not
refusal : (k : ErrorKind) (kinds : Kinds) → IsAmong k kinds → IsHelpOrVersion k ⊎ HasOther kinds
refusal k kinds among = elim (is_shown k) [
  | inl shown ↦ inl shown
  | inr other ↦ inr (k, (among, other))
]

-- an error comes for want of memory, or is shown, or the words have a fault that is not
pub refused_by : {T : Type 0} (r : Result T Error) (kinds : Kinds) → FailsBy kinds r
    → IfErr r (λ e. (kind_of e ≡ kind.OutOfMemory) ⊎ (IsHelpOrVersion (kind_of e) ⊎ HasOther kinds))
refused_by (Ok m) kinds h = tt
refused_by (Err e) kinds (inl none) = inl none
refused_by (Err e) kinds (inr among) = inr (refusal (kind_of e) kinds among)

-- what is taken is refused for what its matches ask
pub refused_for : {T : Type 0} (r : Result T Error) (words : List Text) (rows : List Row) → AreTakenBySeek words → rows ≡ matches_of seek_app words
    → IfErr r (λ e. (kind_of e ≡ kind.OutOfMemory) ⊎ AsksNothingBy rows)
    → IfErr r (λ e. (kind_of e ≡ kind.OutOfMemory) ⊎ (IsHelpOrVersion (kind_of e) ⊎ AsksNothingOfSeek words))
refused_for (Ok asked) words rows taken is refused = tt
refused_for (Err e) words rows taken is (inl none) = inl none
refused_for (Err e) words rows taken is (inr nothing) = inr (inr (inr (taken, subst AsksNothingBy is nothing)))
