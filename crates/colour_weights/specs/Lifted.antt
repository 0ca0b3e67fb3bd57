-- A 2-cocycle, as a shadow cocycle that doesn't look at the region.
use Rattle.std.specs.Prelude.{◌*◌, ◌%◌, map, slice_index}
use Rattle.std.specs.List.{range_with_len}
use Rattle.cocycle_core.specs.Cocycle.{Cochain}
use Rattle.cocycle_core.specs.ShadowCocycle.{ShadowCochain}

-- θ(w, x, y) = φ(x, y): the table once for each colour of a region
abbrev pub lifted_cochain : Cochain → ShadowCochain
lifted_cochain w = record {
  quandle = w.quandle;
  modulus = w.modulus;
  entries =
      map (λ k. slice_index w.entries (k % (w.quandle.order * w.quandle.order)))
      (range_with_len 0 (w.quandle.order * w.quandle.order * w.quandle.order));
}
