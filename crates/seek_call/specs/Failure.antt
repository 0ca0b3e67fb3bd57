-- The status of each failure.
use Rattle.knot_ports.specs.declared.status.Status.{Status}
use Rattle.knot_ports.specs.declared.status.Status.TheVariants as status
use Rattle.seek_parts.specs.Fault.{text_status, fault_status}
use Rattle.seek_call.specs.declared.failure.Failure.{Failure}
use Rattle.seek_call.specs.declared.failure.Failure.TheVariants.{Part, Blocks, ReadAndWritten, Write, OutOfMemory}

-- the status of a call that ends so, before or behind its search
abbrev pub failure_status : Failure → Status
failure_status (Part fault) = fault_status fault
failure_status (Blocks name fault) = text_status fault
failure_status (ReadAndWritten name) = status.Usage
failure_status (Write name error) = status.WriteFault
failure_status OutOfMemory = status.OutOfMemory
