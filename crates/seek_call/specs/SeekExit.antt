-- How a call ends, and what its exit status says of the words, of the parts of the input, and of what was written.
use Rattle.std.specs.Prelude.{◌≡◌, ◌⊎◌, ℕ, List, Option, Some, None, Result, Ok, Err, String, Vec}
use Rattle.std.specs.declared.alloc.Global.{Global}
use Rattle.std.specs.Borrow.{Bor}
use Rattle.std.specs.Io.KnownBytes.{Keeps, Appends}
use Rattle.std.specs.Process.{exit_status}
use Rattle.std.specs.declared.process.ExitCode.{ExitCode}
use Rattle.clap.specs.Walk.{Text}
use Rattle.seek_parts.specs.Places.{Standing}
use Rattle.knot_ports.specs.declared.status.Status.{Status}
use Rattle.knot_ports.specs.declared.status.Status.TheVariants as status
use Rattle.knot_ports.specs.Status.{status_number}
use Rattle.knot_ports.specs.Faults.{Rose}
use Rattle.knot_ports.specs.Sink.{AppendsFront}
use Rattle.seek_core.specs.Answers.{WritesDecision}
use Rattle.seek_core.specs.Parts.{joined}
use Rattle.seek_words.specs.declared.asked.Asked.{Asked}
use Rattle.knot_words.specs.OptionNumbers.{texts_of}
use Rattle.seek_words.specs.Words.{AsksOfSeek, AsksNothingOfSeek, AskForText}
use Rattle.seek_parts.specs.declared.fault.PartFault.{PartFault}
use Rattle.seek_parts.specs.Parts.{Told, ArePartsOf, all_due}
use Rattle.seek_parts.specs.Clash.{FilesAt, Clashes, IsOutUnread}
use Rattle.seek_parts.specs.Fault.{IsPartFaultOf, fault_status}
use Rattle.evidence_core.specs.declared.blocks.Block.{Block}
use Rattle.seek_call.specs.declared.failure.Failure.{Failure}
use Rattle.seek_call.specs.declared.outlets.Outlets.{Outlets}
use Rattle.knot_ports.specs.declared.given.NoWords.{NoWords}
use Rattle.knot_ports.specs.Given.{status_without_words}
use Rattle.seek_call.specs.Failure.{failure_status}
use Rattle.seek_call.specs.Blocks.{AreBlocksOf, IsBlocksFailure}
use Rattle.seek_call.specs.Search.{HeldBySink, port_held, IsSoughtToSink, PutsDecision, IsSoughtToFile}

-- what a call may change, as far as it is told: what the lent output holds, with its count of faults, and what stands at each path
pub record Outside : Type 0 where
  pub output : HeldBySink
  pub files : Option Standing

-- what outlets come to, by what tells what stands at each path, and what tells what a writer holds
abbrev pub outside_of : {P W : Type 0} → (P → Option Standing) → (W → Option (List ℕ)) → Outlets P W → Outside
outside_of standing contents outlets = record {
  output = port_held contents outlets.output;
  files = standing outlets.places;
}

-- what is told of files: the bytes at each path, and which file stands there
pub record FilesTold : Type 0 where
  pub bytes : Told
  pub at : FilesAt

-- what the lent files come to, by what tells of each
abbrev pub told_of : {F : Type 0} → (F → Told) → (F → FilesAt) → F → FilesTold
told_of bytes_of at_of files = record { bytes = bytes_of files; at = at_of files }

-- a sink holds what it held, as far as that is told, and counted no fault
pub record IsKept (old new : HeldBySink) : Type 0 where
  pub bytes : Keeps old.bytes new.bytes
  pub faults : new.faults ≡ old.faults

pub record IsOutsideUntouched (old new : Outside) : Type 0 where
  pub output : IsKept old.output new.output
  pub files : new.files ≡ old.files

-- ---- what words ask for, and how a call ends that does it

-- a verdict on the input was sought, to be written to standard output, or to the file that the words name
abbrev pub IsSought : Option (Bor (List ℕ)) → List ℕ → List Block → Outside → Outside → Status → Type 0
IsSought None bytes blocks old new s = IsSoughtToSink bytes blocks old.output new.output s × (new.files ≡ old.files)
IsSought (Some path) bytes blocks old new s = IsSoughtToFile bytes blocks old.files new.files path.now s × IsKept old.output new.output

-- on these parts a verdict was sought, by the blocks of the files that are asked too
pub record EndsWithBlocks (told : Told) (asked : Asked) (parts : List (List ℕ)) (old new : Outside) (s : Status) : Type 0 where
  pub blocks : List Block
  pub given : AreBlocksOf told asked.weights.items blocks
  pub sought : IsSought asked.out (joined parts) blocks old new s

-- the parts of what is asked can be had, and a file of blocks can't
pub record EndsWithoutBlocks (told : Told) (asked : Asked) (old new : Outside) (s : Status) : Type 0 where
  pub parts : List (List ℕ)
  pub are : ArePartsOf told (all_due asked) parts
  pub failure : Failure
  pub is : IsBlocksFailure told asked.weights.items failure
  pub status_is : s ≡ failure_status failure
  pub untouched : IsOutsideUntouched old new

-- on the parts of what is asked a verdict was sought
pub record EndsSought (told : Told) (asked : Asked) (old new : Outside) (s : Status) : Type 0 where
  pub parts : List (List ℕ)
  pub are : ArePartsOf told (all_due asked) parts
  pub ends : EndsWithBlocks told asked parts old new s

-- a part of what is asked can't be had
pub record EndsUnread (told : Told) (asked : Asked) (old new : Outside) (s : Status) : Type 0 where
  pub fault : PartFault
  pub is : IsPartFaultOf told (all_due asked) fault
  pub status_is : s ≡ fault_status fault
  pub untouched : IsOutsideUntouched old new

-- what is read is had or not, and a verdict on it was sought where it is
abbrev pub EndsBy : Told → Asked → Outside → Outside → Status → Type 0
EndsBy told asked old new s =
    EndsSought told asked old new s ⊎ (EndsUnread told asked old new s ⊎ EndsWithoutBlocks told asked old new s)

-- the file that would be written is read too, as far as that is told
pub record EndsClashing (at : FilesAt) (asked : Asked) (old new : Outside) (s : Status) : Type 0 where
  pub clash : Clashes at asked
  pub status_is : s ≡ status.Usage
  pub untouched : IsOutsideUntouched old new

-- it is another one than those that are read
pub record EndsApart (files : FilesTold) (asked : Asked) (old new : Outside) (s : Status) : Type 0 where
  pub apart : IsOutUnread files.at asked
  pub ends : EndsBy files.bytes asked old new s

abbrev pub EndsDoing : FilesTold → Asked → Outside → Outside → Status → Type 0
EndsDoing files asked old new s = EndsApart files asked old new s ⊎ EndsClashing files.at asked old new s

-- ---- all words

-- the words ask for this, and the call ends as one that does it
pub record EndsAsked (files : FilesTold) (words : List Text) (old new : Outside) (s : Status) : Type 0 where
  pub asked : Asked
  pub asks : AsksOfSeek words asked
  pub ends : EndsDoing files asked old new s

-- this text was written to the output, whole, or a front of it where the status is that of a writer that failed; no file was put
pub record IsShown (text : List ℕ) (old new : Outside) (s : Status) : Type 0 where
  pub status_is : (s ≡ status.Done) ⊎ (s ≡ status.WriteFault)
  pub whole : s ≡ status.Done → Appends old.output.bytes new.output.bytes text
  pub front : s ≡ status.WriteFault → AppendsFront old.output.bytes new.output.bytes text
  pub fault : s ≡ status.WriteFault → Rose old.output.faults new.output.faults
  pub files : new.files ≡ old.files

-- some text was, or a front of it
pub record IsShownTo (old new : Outside) (s : Status) : Type 0 where
  pub text : List ℕ
  pub shown : IsShown text old new s

-- the words ask for the help or the version
pub record EndsShown (words : List Text) (old new : Outside) (s : Status) : Type 0 where
  pub asks : AskForText words
  pub shown : IsShownTo old new s

-- the words ask for nothing that can be done, or memory was wanting for them
pub record EndsRefused (words : List Text) (old new : Outside) (s : Status) : Type 0 where
  pub status_is : (s ≡ status.Usage) ⊎ (s ≡ status.OutOfMemory)
  pub nothing : s ≡ status.Usage → AsksNothingOfSeek words
  pub untouched : IsOutsideUntouched old new

abbrev pub EndsCall : FilesTold → List Text → Outside → Outside → Status → Type 0
EndsCall files words old new s = EndsAsked files words old new s ⊎ (EndsShown words old new s ⊎ EndsRefused words old new s)

-- the exit status is the number of a status by which such a call ends
pub record IsExitOfSeek (files : FilesTold) (words : List Text) (old new : Outside) (exit : ExitCode) : Type 0 where
  pub ended : Status
  pub number : exit_status exit ≡ status_number ended
  pub ends : EndsCall files words old new ended

-- ---- the exit status 0

-- a text that decides the input was written: to standard output, or to a file with no more and no less at the path that the words name
abbrev pub IsWrittenTo : Option (Bor (List ℕ)) → List ℕ → Outside → Outside → Type 0
IsWrittenTo None bytes old new = WritesDecision bytes old.output.bytes new.output.bytes
IsWrittenTo (Some path) bytes old new = PutsDecision bytes old.files new.files path.now

-- the words are answered by a decision on the parts of what they ask
pub record IsAnsweredByDecision (told : Told) (words : List Text) (old new : Outside) : Type 0 where
  pub asked : Asked
  pub asks : AsksOfSeek words asked
  pub parts : List (List ℕ)
  pub are : ArePartsOf told (all_due asked) parts
  pub written : IsWrittenTo asked.out (joined parts) old new

-- ---- the program

-- the words that came, as texts
abbrev pub came : Result (Vec (String Global) Global) NoWords → Result (List Text) NoWords
came (Ok words) = Ok (texts_of words.items)
came (Err why) = Err why

-- the words came and the program ended as a call of them, or none did
abbrev pub EndsSeek : FilesTold → Result (List Text) NoWords → Outside → Outside → ExitCode → Type 0
EndsSeek files (Ok words) old new exit = IsExitOfSeek files words old new exit
EndsSeek files (Err why) old new exit = (exit_status exit ≡ status_without_words why) × IsOutsideUntouched old new
