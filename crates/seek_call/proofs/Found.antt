-- What the status of a search says of what was written, or put at a path.
use Rattle.std.proofs.Common.{◌≡◌, ◌≢◌, ◌⊎◌, ◌∙◌, inl, inr, ℕ, List, [], Option, Some, None, length, refl, sym, subst}
use Rattle.std.proofs.lemmas.Bool.{cases_lt}
use Rattle.std.specs.Borrow.{Bor}
use Rattle.std.proofs.KnownBytes.{Keeps-refl}
use Rattle.seek_parts.specs.Places.{Standing, PutsAt}
use Rattle.evidence_core.specs.declared.blocks.Block.{Block}
use Rattle.knot_ports.specs.declared.limits.TheConstants.{MAX_INPUT}
use Rattle.knot_ports.specs.declared.status.Status.{Status}
use Rattle.knot_ports.specs.declared.status.Status.TheVariants as status
use Rattle.seek_core.specs.declared.ending.Ending.{Ending}
use Rattle.seek_core.specs.declared.ending.Ending.TheVariants as end
use Rattle.seek_core.specs.Answers.{EndsRun, WritesDecision, ending_status}
use Rattle.seek_call.specs.SeekExit.{Outside, IsKept, IsSought}
use Rattle.seek_call.specs.Search.{HeldBySink, unseen, EndsSearch, IsSoughtToSink, IsDecisionText, IsUnput, IsSoughtToFile}

-- only the ending of a verdict that was written has the status of one
pub only_done : (e : Ending) → ending_status e ≡ status.Done → e ≡ end.Done
only_done end.Done is = refl
only_done (end.NotFound tried) is = cc
only_done (end.Malformed line) is = cc
only_done (end.Limit line) is = cc
only_done end.TooLong is = cc
only_done end.WriteFault is = cc
only_done end.OutOfMemory is = cc

-- a call that is done has written a text that decides the input
pub written_where_done : (bytes : List ℕ) (blocks : List Block) (before after : HeldBySink) (s : Status)
    → IsSoughtToSink bytes blocks before after s → s ≡ status.Done → WritesDecision bytes before.bytes after.bytes
written_where_done bytes blocks before after s sought done =
    subst (EndsRun bytes before.bytes after.bytes) (only_done sought.ending (sym sought.status_is ∙ done)) sought.ends.ends

-- an ending is one too where nothing is told of what was written
untold : (bytes : List ℕ) (before after : Option (List ℕ)) (e : Ending) → EndsRun bytes before after e → EndsRun bytes None None e
untold bytes before after end.Done h = (h.0, (h.1.0, tt))
untold bytes before after (end.NotFound tried) h = (h.0, tt)
untold bytes before after (end.Malformed line) h = (h.0, tt)
untold bytes before after (end.Limit line) h = (h.0, tt)
untold bytes before after end.TooLong h = (h.0, tt)
untold bytes before after end.WriteFault h = (h.0, (h.1.0, (h.1.1.0, h.1.1.1, tt)))
untold bytes before after end.OutOfMemory h = tt

-- a search whose sink is in memory, didn't fail, and holds nothing that is put anywhere
pub sought_in_memory : (bytes : List ℕ) (blocks : List Block) (before after : HeldBySink) (e : Ending) (s : Status)
    → EndsSearch bytes blocks before after e → (e ≡ end.WriteFault → ⊥) → s ≡ ending_status e → IsSoughtToSink bytes blocks unseen unseen s
sought_in_memory bytes blocks before after e s ends unfailed is = record {
  ending = e;
  status_is = is;
  ends = record {
    ends = untold bytes before.bytes after.bytes e ends.ends;
    vain = ends.vain;
    long = ends.long;
    fault = λ fails. absurd (unfailed fails);
  };
}

-- a search that is done has written a text that decides an input within the limit
pub decided : (bytes : List ℕ) (blocks : List Block) (before after : HeldBySink) (e : Ending) (text : List ℕ) → EndsSearch bytes blocks before after e
    → e ≡ end.Done → before.bytes ≡ Some [] → after.bytes ≡ Some text → IsDecisionText bytes text
decided bytes blocks before after e text ends done empty held = record {
  within = elim (cases_lt MAX_INPUT (length bytes)) [
    | inl more ↦ elim (ends.long more) [ inl is ↦ cc | inr is ↦ cc ]
    | inr within ↦ within
  ];
  decides = subst (λ o. WritesDecision bytes o (Some text)) empty (subst (λ o. WritesDecision bytes before.bytes o) held
      (subst (EndsRun bytes before.bytes after.bytes) done ends.ends));
}

-- memory may be wanting for any search
pub wanting : (bytes : List ℕ) (blocks : List Block) (s : Status) → s ≡ status.OutOfMemory → IsSoughtToSink bytes blocks unseen unseen s
wanting bytes blocks s is = record {
  ending = end.OutOfMemory;
  status_is = is;
  ends = record { ends = tt; vain = λ tried found. cc; long = λ more. inr refl; fault = λ fails. cc };
}

-- a file that can't be written has no decision
pub unwritten : (bytes : List ℕ) (blocks : List Block) (s : Status) → (s ≡ status.WriteFault) ⊎ (s ≡ status.OutOfMemory)
    → IsUnput bytes blocks s
unwritten bytes blocks s (inl fault) = inl fault
unwritten bytes blocks s (inr memory) = inr ((λ done. cc), wanting bytes blocks s memory)

-- how a text that decides the input is put: whole, or what stands at each path is as it was
pub put_at : (bytes : List ℕ) (blocks : List Block) (text : List ℕ) (before after : Option Standing) (path : List ℕ) (s : Status)
    → IsDecisionText bytes text → (s ≡ status.Done → PutsAt before after path text) → (s ≢ status.Done → after ≡ before)
    → (s ≡ status.Done) ⊎ ((s ≡ status.WriteFault) ⊎ (s ≡ status.OutOfMemory)) → IsSoughtToFile bytes blocks before after path s
put_at bytes blocks text before after path s decided whole none (inl done) = inl (done, (text, (decided, whole done)))
put_at bytes blocks text before after path s decided whole none (inr (inl fault)) = inr (none (λ done. cc), inl fault)
put_at bytes blocks text before after path s decided whole none (inr (inr memory)) =
    inr (none (λ done. cc), unwritten bytes blocks s (inr memory))

-- a search whose words name a file
pub sought_to_file : (out : Option (Bor (List ℕ))) (path : Bor (List ℕ)) (bytes : List ℕ) (blocks : List Block) (old new : Outside) (s : Status)
    → out ≡ Some path → IsSoughtToFile bytes blocks old.files new.files path.now s → IsKept old.output new.output
    → IsSought out bytes blocks old new s
sought_to_file out path bytes blocks old new s is sought kept = subst (λ o. IsSought o bytes blocks old new s) (sym is) (sought, kept)

pub kept : (held : HeldBySink) → IsKept held held
kept held = record { bytes = Keeps-refl held.bytes; faults = refl }
