-- What stands in a list where some moves, put one behind the other, found no memory.
use Rattle.std.proofs.Common.{◌≡◌, ◌<◌, ◌≤◌, ◌+◌, ◌-◌, ◌++◌, List, length, take, arith, refl, sym, ap, ◌∙◌, append_assoc}
use Rattle.std.proofs.Common.{Result, Ok, Err, OnErr}
use Rattle.std.proofs.lemmas.List.{append-nil, take-append-le, take_all, length-append}
use Rattle.std.proofs.Math.Seq.{take-append-add}
use Rattle.grid_moves.specs.declared.step.Move.{Move}
use Rattle.grid_moves.specs.PutsPart.{PutsPart}

-- nothing was put there
pub part_none : (old new moves : List Move) → new ≡ old → 0 < length moves → PutsPart old new moves
part_none old new moves same some = record { count = 0; few = some; list = same ∙ sym (append-nil old) }

-- the first moves found no memory
pub part_ahead : (old new front back : List Move) → PutsPart old new front → PutsPart old new (front ++ back)
part_ahead old new front back part = record {
  count = part.count;
  few = omega (arith, part.few, length-append front back);
  list = part.list ∙ ap (λ (ms : List Move). old ++ ms) (sym (take-append-le part.count front back (omega (arith, part.few))));
}

-- the first moves stand there, and what is behind them found no memory
pub part_behind : (old mid new front back : List Move) → mid ≡ old ++ front → PutsPart mid new back → PutsPart old new (front ++ back)
part_behind old mid new front back before part = record {
  count = length front + part.count;
  few = omega (arith, part.few, length-append front back);
  list =
      part.list ∙ ap (λ (ms : List Move). ms ++ take part.count back) before ∙ append_assoc old front (take part.count back)
      ∙ ap (λ (ms : List Move). old ++ ms) (sym (take-append-add front back part.count));
}

-- the same of a call whose result is returned as it is
pub last_behind : {T E : Type 0} (r : Result T E) (old mid new front back : List Move) → mid ≡ old ++ front → OnErr r (PutsPart mid new back)
    → OnErr r (PutsPart old new (front ++ back))
last_behind (Ok x) old mid new front back before part = tt
last_behind (Err e) old mid new front back before part = part_behind old mid new front back before part

pub on_err : {T E : Type 0} (r : Result T E) (P : Type 0) → P → OnErr r P
on_err (Ok x) P p = tt
on_err (Err e) P p = p

-- what is not put there yet stands behind the list
pub part_left : (old new left moves : List Move) → new ++ left ≡ old ++ moves → length old ≤ length new → 0 < length left → PutsPart old new moves
part_left old new left moves whole grown some =
    let many = ap length whole in
    let put : length new ≡ length old + (length new - length old) = omega (arith, grown) in
    record {
      count = length new - length old;
      few = omega (arith, grown, some, many, length-append new left, length-append old moves);
      list =
          sym (take-append-le (length new) new left (omega arith) ∙ take_all (length new) new (omega arith))
          ∙ ap (λ (ms : List Move). take (length new) ms) whole
          ∙ ap (λ n. take n (old ++ moves)) put
          ∙ take-append-add old moves (length new - length old);
    }
