-- Why the parts of an input can't be had, and the status of a call that ends so.
use Rattle.std.specs.Prelude.{◌≡◌, ◌⊎◌, ◌<◌, ◌++◌, ℕ, true, List, ◌∷◌, Option, Ok, Err, IfSome, length}
use Rattle.text_lines.specs.Lines.{text_of}
use Rattle.text_items.specs.declared.fault.TextFault.{TextFault}
use Rattle.text_items.specs.declared.fault.TextFault.TheVariants as bad
use Rattle.text_items.specs.Reading.{Fails}
use Rattle.code_text.specs.declared.refusal.TextRefusal.{TextRefusal}
use Rattle.code_text.specs.declared.refusal.TextRefusal.TheVariants as refusal
use Rattle.code_text.specs.declared.code_reading.CodeText.{CodeText}
use Rattle.code_text.specs.TextGrid.{IsRefusal}
use Rattle.code_text.specs.CodeReading.{code_text_of}
use Rattle.knot_ports.specs.declared.limits.TheConstants.{MAX_INPUT}
use Rattle.knot_ports.specs.declared.status.Status.{Status}
use Rattle.knot_ports.specs.declared.status.Status.TheVariants as status
use Rattle.seek_faults.specs.Alone.{one_diagram}
use Rattle.seek_words.specs.declared.given.Given.{Given}
use Rattle.seek_words.specs.declared.given.Given.TheVariants.{File, Braid}
use Rattle.seek_words.specs.declared.given.Given.TheVariants as way
use Rattle.seek_parts.specs.declared.fault.PartFault.{PartFault}
use Rattle.seek_parts.specs.declared.fault.PartFault.TheVariants.{Read, Long, NotOne, Code, NoDiagram, OutOfMemory}
use Rattle.seek_parts.specs.Parts.{Told, Due, IsTextOf, ArePartsOf}

-- ---- statuses

-- of a text that can't be read
abbrev pub text_status : TextFault → Status
text_status (bad.Malformed line) = status.Malformed
text_status (bad.Limit line) = status.Limit
text_status bad.OutOfMemory = status.OutOfMemory

-- of a code of which no diagram is answered: a limit where the drawing is too wide
abbrev pub refusal_status : TextRefusal → Status
refusal_status (refusal.Rows fault) = status.Malformed
refusal_status refusal.Gauss = status.Malformed
refusal_status (refusal.Columns columns) = status.Limit
refusal_status refusal.Lost = status.Malformed

abbrev pub fault_status : PartFault → Status
fault_status (Read name error) = status.ReadFault
fault_status (Long name) = status.Limit
fault_status (NotOne name why) = status.Malformed
fault_status (Code name fault) = text_status fault
fault_status (NoDiagram name why) = refusal_status why
fault_status OutOfMemory = status.OutOfMemory

-- ---- causes

-- a file is not read: what is told of it is too long, or the system refuses it, or memory was wanting
abbrev pub IsUnread : Option (List ℕ) → PartFault → Type 0
IsUnread told (Read name error) = Unit {0}
IsUnread told (Long name) = IfSome told (λ bytes. MAX_INPUT < length bytes)
IsUnread told (NotOne name why) = ⊥
IsUnread told (Code name fault) = ⊥
IsUnread told (NoDiagram name why) = ⊥
IsUnread told OutOfMemory = Unit {0}

-- no diagram is drawn of a code: its first bad line, or why none is answered, or memory was wanting
abbrev pub IsUndrawn : Option (List ℕ) → PartFault → Type 0
IsUndrawn told (Read name error) = ⊥
IsUndrawn told (Long name) = ⊥
IsUndrawn told (NotOne name why) = ⊥
IsUndrawn told (Code name fault) = IfSome told (λ bytes. Fails fault (code_text_of bytes))
IsUndrawn told (NoDiagram name why) = IfSome told (λ bytes. (text : CodeText) × ((code_text_of bytes ≡ Ok text) × IsRefusal text why))
IsUndrawn told OutOfMemory = Unit {0}

-- what is given has no text
abbrev pub HasNoText : Told → Given → PartFault → Type 0
HasNoText told (File path) fault = IsUnread (told path.now) fault
HasNoText told (Braid word) fault = fault ≡ OutOfMemory
HasNoText told (way.Code path) fault = IsUnread (told path.now) fault ⊎ IsUndrawn (told path.now) fault

-- a text of what is given is not one diagram, for this reason
abbrev pub IsNotOne : Told → Given → PartFault → Type 0
IsNotOne told given (Read name error) = ⊥
IsNotOne told given (Long name) = ⊥
IsNotOne told given (NotOne name why) = (bytes : List ℕ) × (IsTextOf told given bytes × (one_diagram (text_of bytes).lines ≡ Err why))
IsNotOne told given (Code name fault) = ⊥
IsNotOne told given (NoDiagram name why) = ⊥
IsNotOne told given OutOfMemory = ⊥

-- a part that is due can't be had
abbrev pub IsWanting : Told → Due → PartFault → Type 0
IsWanting told due fault = HasNoText told due.given fault ⊎ (((due.is_one ≡ true) × IsNotOne told due.given fault) ⊎ (fault ≡ OutOfMemory))

-- the first of the parts that are due which can't be had: those before it can
pub record IsPartFaultOf (told : Told) (dues : List Due) (fault : PartFault) : Type 0 where
  pub front : List Due
  pub due : Due
  pub back : List Due
  pub split : dues ≡ front ++ due ∷ back
  pub texts : List (List ℕ)
  pub had : ArePartsOf told front texts
  pub wanting : IsWanting told due fault
