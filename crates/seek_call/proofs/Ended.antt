-- What the exit status 0 says.
use Rattle.std.proofs.Common.{◌≡◌, ◌⊎◌, ◌∙◌, inl, inr, ℕ, List, Option, Some, None, refl, sym, subst, arith}
use Rattle.std.specs.Borrow.{Bor}
use Rattle.clap.specs.Walk.{Text}
use Rattle.seek_parts.specs.Places.{Standing}
use Rattle.clap.specs.declared.error.kind.ErrorKind.{ErrorKind}
use Rattle.clap.specs.declared.error.kind.ErrorKind.TheVariants as kind
use Rattle.knot_ports.specs.declared.status.Status.{Status}
use Rattle.knot_ports.specs.declared.status.Status.TheVariants as status
use Rattle.knot_ports.specs.Status.{status_number}
use Rattle.seek_words.specs.Words.{IsHelpOrVersion, AsksOfSeek, AsksNothingOfSeek, AskForText}
use Rattle.seek_words.specs.declared.asked.Asked.{Asked}
use Rattle.seek_parts.specs.Parts.{Told, ArePartsOf, all_due}
use Rattle.seek_parts.proofs.NeverDone.{never_done, text_never_done}
use Rattle.evidence_core.specs.declared.blocks.Block.{Block}
use Rattle.seek_core.specs.Parts.{joined}
use Rattle.seek_call.specs.declared.failure.Failure.{Failure}
use Rattle.seek_call.specs.declared.failure.Failure.TheVariants as failure
use Rattle.seek_call.specs.Failure.{failure_status}
use Rattle.seek_call.specs.Blocks.{AreBlocksOf}
use Rattle.seek_call.specs.Inputs.{IsPartsFailure, IsInputsFailure}
use Rattle.seek_call.specs.declared.outlets.Outlets.{Outlets}
use Rattle.seek_call.specs.SeekExit.{Outside, outside_of, FilesTold, IsOutsideUntouched, IsSought, EndsUnread, EndsBy, IsShownTo, EndsRefused, EndsCall}
use Rattle.seek_call.specs.SeekExit.{IsWrittenTo, IsAnsweredByDecision}
use Rattle.seek_call.proofs.Found.{kept, written_where_done}

-- only Done has the number 0
pub only_zero : (s : Status) → status_number s ≡ 0 → s ≡ status.Done
only_zero status.Done is = refl
only_zero status.Unknown is = absurd (omega (arith, is))
only_zero status.Usage is = absurd (omega (arith, is))
only_zero status.Malformed is = absurd (omega (arith, is))
only_zero status.Limit is = absurd (omega (arith, is))
only_zero status.ReadFault is = absurd (omega (arith, is))
only_zero status.WriteFault is = absurd (omega (arith, is))
only_zero status.OutOfMemory is = absurd (omega (arith, is))
only_zero status.Rejected is = absurd (omega (arith, is))

failed : (f : Failure) → failure_status f ≡ status.Done → ⊥
failed (failure.Part fault) is = never_done fault is
failed (failure.Blocks name fault) is = text_never_done fault is
failed (failure.ReadAndWritten name) is = cc
failed (failure.Write name error) is = cc
failed failure.OutOfMemory is = cc

written : (out : Option (Bor (List ℕ))) (bytes : List ℕ) (blocks : List Block) (old new : Outside) (s : Status) → IsSought out bytes blocks old new s
    → s ≡ status.Done → IsWrittenTo out bytes old new
written None bytes blocks old new s (sought, kept) done = written_where_done bytes blocks old.output new.output s sought done
written (Some path) bytes blocks old new s (inl (is, puts), kept) done = puts
written (Some path) bytes blocks old new s (inr (same, inl fault), kept) done = cc
written (Some path) bytes blocks old new s (inr (same, inr (not_done, sought)), kept) done = absurd (not_done done)

-- a call that has what it reads ends as one that does what is asked
pub with_inputs : (told : Told) (asked : Asked) (parts : List (List ℕ)) (blocks : List Block) (old new : Outside) (s : Status)
    → ArePartsOf told (all_due asked) parts → AreBlocksOf told asked.weights.items blocks
    → IsSought asked.out (joined parts) blocks old new s → EndsBy told asked old new s
with_inputs told asked parts blocks old new s are given sought =
    inl record { parts = parts; are = are; ends = record { blocks = blocks; given = given; sought = sought } }

unread : (told : Told) (asked : Asked) (old new : Outside) (s : Status) (f : Failure) → IsOutsideUntouched old new → IsPartsFailure told asked f
    → s ≡ failure_status f → EndsUnread told asked old new s
unread told asked old new s (failure.Part fault) same bad is = record { fault = fault; is = bad; status_is = is; untouched = same }
unread told asked old new s (failure.Blocks name fault) same bad is = absurd bad
unread told asked old new s (failure.ReadAndWritten name) same bad is = absurd bad
unread told asked old new s (failure.Write name error) same bad is = absurd bad
unread told asked old new s failure.OutOfMemory same bad is = absurd bad

-- so does one that can't have it
pub without_inputs : (told : Told) (asked : Asked) (old new : Outside) (s : Status) (f : Failure) → IsOutsideUntouched old new
    → IsInputsFailure told asked f → s ≡ failure_status f → EndsBy told asked old new s
without_inputs told asked old new s f same (inl bad) is = inr (inl (unread told asked old new s f same bad is))
without_inputs told asked old new s f same (inr bad) is =
    inr (inr record { parts = bad.parts; are = bad.are; failure = f; is = bad.is; status_is = is; untouched = same })

-- a call that is done and does what is asked has answered it
answered_by : (told : Told) (words : List Text) (asked : Asked) (old new : Outside) (s : Status) → AsksOfSeek words asked → EndsBy told asked old new s
    → s ≡ status.Done → IsAnsweredByDecision told words old new
answered_by told words asked old new s asks (inl by) done = record {
  asked = asked;
  asks = asks;
  parts = by.parts;
  are = by.are;
  written = written asked.out _ by.ends.blocks old new s by.ends.sought done;
}
answered_by told words asked old new s asks (inr (inl by)) done = absurd (never_done by.fault (sym by.status_is ∙ done))
answered_by told words asked old new s asks (inr (inr by)) done = absurd (failed by.failure (sym by.status_is ∙ done))

-- a call that is done has answered its words, or they ask for the help or the version
pub answered : (files : FilesTold) (words : List Text) (old new : Outside) (s : Status) → EndsCall files words old new s → s ≡ status.Done
    → AskForText words ⊎ IsAnsweredByDecision files.bytes words old new
answered files words old new s (inr (inl shown)) done = inl shown.asks
answered files words old new s (inr (inr refused)) done = elim refused.status_is [ inl is ↦ cc | inr is ↦ cc ]
answered files words old new s (inl asked) done = inr (
    elim asked.ends [
      | inl by ↦ answered_by files.bytes words asked.asked old new s asked.asks by.ends done
      | inr by ↦ cc
    ])

-- words that `clap` or the seeker refuses
refused : (words : List Text) (old new : Outside) (s : Status) (k : ErrorKind) → IsOutsideUntouched old new
    → (k ≡ kind.OutOfMemory) ⊎ (IsHelpOrVersion k ⊎ AsksNothingOfSeek words) → (IsHelpOrVersion k → ⊥) → (s ≡ status.Usage → k ≡ kind.OutOfMemory → ⊥)
    → s ≡ status.Usage → EndsRefused words old new s
refused words old new s k same (inl memory) other usage is = absurd (usage is memory)
refused words old new s k same (inr (inl shown)) other usage is = absurd (other shown)
refused words old new s k same (inr (inr none)) other usage is = record { status_is = inl is; nothing = λ at. none; untouched = same }

-- the same, and words that ask for the help or the version
pub words_refused : (files : FilesTold) (words : List Text) (old new : Outside) (s : Status) (k : ErrorKind)
    → (IsHelpOrVersion k → AskForText words) → (k ≡ kind.OutOfMemory) ⊎ (IsHelpOrVersion k ⊎ AsksNothingOfSeek words)
    → (IsHelpOrVersion k × IsShownTo old new s) ⊎ ((((IsHelpOrVersion k → ⊥) × (s ≡ status.Usage)) ⊎ (s ≡ status.OutOfMemory)) × IsOutsideUntouched old new)
    → (s ≡ status.Usage → k ≡ kind.OutOfMemory → ⊥) → EndsCall files words old new s
words_refused files words old new s k shown none (inl (is, ends)) usage = inr (inl record { asks = shown is; shown = ends })
words_refused files words old new s k shown none (inr (inl (other, ends), same)) usage =
    inr (inr (refused words old new s k same none other usage ends))
words_refused files words old new s k shown none (inr (inr memory, same)) usage =
    inr (inr record { status_is = inr memory; nothing = λ is. cc; untouched = same })

-- outlets that stay are untouched
pub untouched : {P W : Type 0} (standing : P → Option Standing) (contents : W → Option (List ℕ)) (old new : Outlets P W) → new ≡ old
    → IsOutsideUntouched (outside_of standing contents old) (outside_of standing contents new)
untouched standing contents old new same =
    subst (λ o. IsOutsideUntouched (outside_of standing contents old) (outside_of standing contents o)) (sym same) (record { output = kept _; files = refl })

-- words of which a text was shown, or nothing was changed
pub settled_words : {P W A B : Type 0} (standing : P → Option Standing) (contents : W → Option (List ℕ)) (old new : Outlets P W)
    → A ⊎ (B × (new ≡ old)) → A ⊎ (B × IsOutsideUntouched (outside_of standing contents old) (outside_of standing contents new))
settled_words standing contents old new (inl shown) = inl shown
settled_words standing contents old new (inr (ends, same)) = inr (ends, untouched standing contents old new same)
