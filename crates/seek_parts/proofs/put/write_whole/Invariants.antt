use Rattle.std.proofs.Common.{◌≡◌, ◌≤◌, ◌-◌, length, take}
use Rattle.std.specs.Io.KnownBytes.{Appends}
use Rattle.seek_parts.proofs.put.write_whole.Given as goal

abbrev pub invariant-loop-done : goal.invariant-loop-done
invariant-loop-done g l = record {
  within : l.done ≤ length l.text;
  apart : g.P.Place.standing l.port ≡ g.P.Place.standing l.fn.port;
  made : g.P.Place.is_made l.port ≡ g.P.Place.is_made l.fn.port;
  written : Appends (g.P.Place.beside l.fn.port) (g.P.Place.beside l.port) (take l.done l.text);
}

abbrev pub decreases-loop-done : goal.decreases-loop-done
decreases-loop-done g l = length l.text - l.done
