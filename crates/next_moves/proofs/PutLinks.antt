-- What stands in a list where some moves of a link found no memory.
use Rattle.std.proofs.Common.{◌≡◌, ◌∙◌, ◌++◌, ◌∷◌, [], List, reverse, arith, ap, sym, subst, append_assoc}
use Rattle.std.proofs.Common.{Result, OnErr}
use Rattle.std.proofs.lemmas.List.{reverse-append}
use Rattle.grid_moves.specs.declared.step.Move.{Move}
use Rattle.grid_moves.specs.PutsPart.{PutsPart}
use Rattle.grid_moves.proofs.PutParts.{on_err, part_none, part_ahead, part_behind, last_behind}
use Rattle.grid_keys.specs.Shifts.{shift_moves}
use Rattle.next_moves.specs.declared.links.Link.{Link}
use Rattle.next_moves.specs.Links.{link_moves}

abbrev before : Link → List Move
before link = shift_moves link.before.0 link.before.1

abbrev after : Link → List Move
after link = shift_moves link.after.0 link.after.1

whole : (link : Link) → link_moves link ≡ before link ++ link.step ∷ after link
whole link = grind arith

-- what is said of the three parts is said of the moves
of_link : {T E : Type 0} (r : Result T E) (link : Link) (old new : List Move) → OnErr r (PutsPart old new (before link ++ link.step ∷ after link))
    → OnErr r (PutsPart old new (link_moves link))
of_link r link old new part = subst (λ (ms : List Move). OnErr r (PutsPart old new ms)) (sym (whole link)) part

-- of three parts in turn: the first one, the move between, and the last one
between : (old mid new front back : List Move) (step : Move) → mid ≡ old ++ front → new ≡ mid → PutsPart old new (front ++ step ∷ back)
between old mid new front back step first same =
    part_behind old mid new front (step ∷ back) first (part_none mid new (step ∷ back) same (omega arith))

third : {T E : Type 0} (r : Result T E) (old mid on new front back : List Move) (step : Move) → mid ≡ old ++ front → on ≡ mid ++ step ∷ []
    → OnErr r (PutsPart on new back) → OnErr r (PutsPart old new (front ++ step ∷ back))
third r old mid on new front back step first second part =
    last_behind r old mid new front (step ∷ back) first (last_behind r mid on new (step ∷ []) back second part)

pub link_ahead : {T E : Type 0} (r : Result T E) (link : Link) (old new : List Move) → PutsPart old new (shift_moves link.before.0 link.before.1)
    → OnErr r (PutsPart old new (link_moves link))
link_ahead r link old new part = of_link r link old new (on_err r _ (part_ahead old new (before link) (link.step ∷ after link) part))

pub link_between : {T E : Type 0} (r : Result T E) (link : Link) (old mid new : List Move) → mid ≡ old ++ shift_moves link.before.0 link.before.1 → new ≡ mid
    → OnErr r (PutsPart old new (link_moves link))
link_between r link old mid new first same =
    of_link r link old new (on_err r _ (between old mid new (before link) (after link) link.step first same))

pub link_last : {T E : Type 0} (r : Result T E) (link : Link) (old mid on new : List Move) → mid ≡ old ++ shift_moves link.before.0 link.before.1
    → on ≡ mid ++ link.step ∷ [] → OnErr r (PutsPart on new (shift_moves link.after.0 link.after.1)) → OnErr r (PutsPart old new (link_moves link))
link_last r link old mid on new first second part =
    of_link r link old new (third r old mid on new (before link) (after link) link.step first second part)

-- the same, the last one first
turned : (link : Link) → reverse (link_moves link) ≡ reverse (after link) ++ link.step ∷ reverse (before link)
turned link =
    ap reverse (whole link) ∙ reverse-append (before link) (link.step ∷ after link)
    ∙ ap (λ (ms : List Move). ms ++ reverse (before link)) (reverse-append (link.step ∷ []) (after link))
    ∙ append_assoc (reverse (after link)) (link.step ∷ []) (reverse (before link))

pub back_ahead : {T E : Type 0} (r : Result T E) (link : Link) (old new : List Move)
    → PutsPart old new (reverse (shift_moves link.after.0 link.after.1))
    → OnErr r (PutsPart old new (reverse (link_moves link)))
back_ahead r link old new part =
    subst (λ (ms : List Move). OnErr r (PutsPart old new ms)) (sym (turned link))
    (on_err r _ (part_ahead old new (reverse (after link)) (link.step ∷ reverse (before link)) part))

pub back_between : {T E : Type 0} (r : Result T E) (link : Link) (old mid new : List Move)
    → mid ≡ old ++ reverse (shift_moves link.after.0 link.after.1) → new ≡ mid → OnErr r (PutsPart old new (reverse (link_moves link)))
back_between r link old mid new first same =
    subst (λ (ms : List Move). OnErr r (PutsPart old new ms)) (sym (turned link))
    (on_err r _ (between old mid new (reverse (after link)) (reverse (before link)) link.step first same))

pub back_last : {T E : Type 0} (r : Result T E) (link : Link) (old mid on new : List Move) → mid ≡ old ++ reverse (shift_moves link.after.0 link.after.1)
    → on ≡ mid ++ link.step ∷ [] → OnErr r (PutsPart on new (reverse (shift_moves link.before.0 link.before.1)))
    → OnErr r (PutsPart old new (reverse (link_moves link)))
back_last r link old mid on new first second part =
    subst (λ (ms : List Move). OnErr r (PutsPart old new ms)) (sym (turned link))
    (third r old mid on new (reverse (after link)) (reverse (before link)) link.step first second part)
