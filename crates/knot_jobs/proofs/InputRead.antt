-- The input of a job that has one, by its limit.
use Rattle.std.proofs.Common.{◌≡◌, ◌+◌, ℕ, Option, Some, None, Result, Ok, Err, arith, refl, sym, subst, inl, inr}
use Rattle.std.specs.Prelude.{Vec}
use Rattle.std.specs.declared.alloc.Global.{Global}
use Rattle.knot_ports.specs.declared.status.Status.{Status}
use Rattle.knot_ports.specs.Change.{Change, Drops}
use Rattle.check_job.specs.Ports.{IsReadWithin}
use Rattle.knot_jobs.specs.Call.{Loses}
use Rattle.knot_jobs.specs.Delivered.{IsRead}

loses : (most more n : ℕ) (source : Change) → n ≡ most + more → Drops n source → Loses (Some most) more source
loses most more n source is d = record { most = most; has_input = refl; drops = subst (λ (k : ℕ). Drops k source) is d }

pub input_read : (limit : Option ℕ) (most : ℕ) (source : Change) (r : Result (Option (Vec ℕ Global)) Status) → limit ≡ Some most
    → IsReadWithin most source r → IsRead limit source r
input_read limit most source r is read = subst (λ (l : Option ℕ). IsRead l source r) (sym is) (by r read)
  where
    by : (r : Result (Option (Vec ℕ Global)) Status) → IsReadWithin most source r → IsRead (Some most) source r
    by (Ok (Some bytes)) read = ((read.0, read.0.within), inr (loses most 1 (most + 1) source refl read.1))
    by (Ok None) read =
        let over = read.1.0.over in
        ((read.0, (read.1.0, omega (arith, over))), inr (loses most 1 (most + 1) source refl read.1.1))
    by (Err s) read = elim read [
      | inl fault ↦ inl (fault.0, (fault.1.0, loses most 0 most source (omega arith) fault.1.1))
      | inr memory ↦ inr (memory.0, inr (loses most 1 (most + 1) source refl memory.1))
    ]
