-- No fault of a text or a part has the status of a call that is done.
use Rattle.std.proofs.Common.{◌≡◌}
use Rattle.text_items.specs.declared.fault.TextFault.{TextFault}
use Rattle.text_items.specs.declared.fault.TextFault.TheVariants as bad
use Rattle.code_text.specs.declared.refusal.TextRefusal.{TextRefusal}
use Rattle.code_text.specs.declared.refusal.TextRefusal.TheVariants as refusal
use Rattle.knot_ports.specs.declared.status.Status.TheVariants as status
use Rattle.seek_parts.specs.declared.fault.PartFault.{PartFault}
use Rattle.seek_parts.specs.declared.fault.PartFault.TheVariants as part
use Rattle.seek_parts.specs.Fault.{text_status, refusal_status, fault_status}

pub text_never_done : (fault : TextFault) → text_status fault ≡ status.Done → ⊥
text_never_done (bad.Malformed line) is = cc
text_never_done (bad.Limit line) is = cc
text_never_done bad.OutOfMemory is = cc

of_refusal : (why : TextRefusal) → refusal_status why ≡ status.Done → ⊥
of_refusal (refusal.Rows fault) is = cc
of_refusal refusal.Gauss is = cc
of_refusal (refusal.Columns columns) is = cc
of_refusal refusal.Lost is = cc

pub never_done : (fault : PartFault) → fault_status fault ≡ status.Done → ⊥
never_done (part.Read name error) is = cc
never_done (part.Long name) is = cc
never_done (part.NotOne name why) is = cc
never_done (part.Code name fault) is = text_never_done fault is
never_done (part.NoDiagram name why) is = of_refusal why is
never_done part.OutOfMemory is = cc
