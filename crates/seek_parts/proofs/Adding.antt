-- Parts that are put behind others, and files of quandles among what is due.
use Rattle.std.proofs.Common.{◌≡◌, ◌++◌, ◌+◌, ◌<◌, ◌∙◌, ℕ, List, [], ◌∷◌, length, get_or, take, drop, refl, subst, sym, ap}
use Rattle.std.proofs.Common.{append_assoc}
use Rattle.std.specs.Borrow.{Bor}
use Rattle.std.proofs.lemmas.List.{map_more, map-append, take-append-drop}
use Rattle.seek_parts.specs.declared.fault.PartFault.{PartFault}
use Rattle.seek_parts.specs.Fault.{IsWanting, IsPartFaultOf}
use Rattle.seek_parts.specs.Parts.{Told, Due, IsPartOf, AddsPartOf, ArePartsOf, quandles_due, quandle_due}

one_more : (told : Told) (dues : List Due) (texts : List (List ℕ)) (due : Due) (bytes : List ℕ)
    → ArePartsOf told dues texts → IsPartOf told due bytes → ArePartsOf told (dues ++ due ∷ []) (texts ++ bytes ∷ [])
one_more told [] [] due bytes are is = (is, tt)
one_more told [] (y ∷ texts) due bytes are is = absurd are
one_more told (x ∷ dues) [] due bytes are is = absurd are
one_more told (x ∷ dues) (y ∷ texts) due bytes are is = (are.0, one_more told dues texts due bytes are.1 is)

-- a part that is put behind the parts that are due so far is the next one that is due
added : (told : Told) (dues : List Due) (due : Due) (old new : List (List ℕ))
    → ArePartsOf told dues old → AddsPartOf told due old new → ArePartsOf told (dues ++ due ∷ []) new
added told dues due old new are adds =
    subst (ArePartsOf told (dues ++ due ∷ [])) (sym adds.behind) (one_more told dues old due adds.bytes are adds.is)

-- a file of quandles more, of those that a loop sees
pub quandle_added : (told : Told) (dues : List Due) (paths seen : List (Bor (List ℕ))) (i : ℕ) (d : Bor (List ℕ)) (old new : List (List ℕ))
    → seen ≡ paths → i < length seen → ArePartsOf told (dues ++ quandles_due (take i paths)) old
    → AddsPartOf told (quandle_due (get_or seen i d)) old new → ArePartsOf told (dues ++ quandles_due (take (i + 1) paths)) new
quandle_added told dues paths seen i d old new same lt are adds =
    let within = subst (λ (ps : List (Bor (List ℕ))). i < length ps) same lt in
    let path = subst (λ (ps : List (Bor (List ℕ))). AddsPartOf told (quandle_due (get_or ps i d)) old new) same adds in
    let next = added told (dues ++ quandles_due (take i paths)) (quandle_due (get_or paths i d)) old new are path in
    rw (map_more quandle_due paths i d within, ← append_assoc) next

-- ---- the first that can't be had

pub alone : (told : Told) (due : Due) (back : List Due) (f : PartFault) → IsWanting told due f → IsPartFaultOf told (due ∷ back) f
alone told due back f wanting =
    record { front = []; due = due; back = back; split = refl; texts = []; had = tt; wanting = wanting }

-- the second of two, where the first one was put behind nothing
pub second_fault : (told : Told) (first second : Due) (old new : List (List ℕ)) (f : PartFault) → AddsPartOf told first old new
    → IsWanting told second f → IsPartFaultOf told (first ∷ second ∷ []) f
second_fault told first second old new f adds wanting = record {
  front = first ∷ [];
  due = second;
  back = [];
  split = refl;
  texts = adds.bytes ∷ [];
  had = (adds.is, tt);
  wanting = wanting;
}

-- one of the diagrams, before files of quandles
pub diagram_fault : (told : Told) (dues more : List Due) (f : PartFault) → IsPartFaultOf told dues f → IsPartFaultOf told (dues ++ more) f
diagram_fault told dues more f fault = record {
  front = fault.front;
  due = fault.due;
  back = fault.back ++ more;
  split = ap (λ (all : List Due). all ++ more) fault.split ∙ append_assoc fault.front (fault.due ∷ fault.back) more;
  texts = fault.texts;
  had = fault.had;
  wanting = fault.wanting;
}

-- what stands before a path, and what behind it
parted : (dues : List Due) (paths : List (Bor (List ℕ))) (i : ℕ) (d : Bor (List ℕ)) → i < length paths
    → dues ++ quandles_due paths ≡ (dues ++ quandles_due (take i paths)) ++ quandle_due (get_or paths i d) ∷ quandles_due (drop (i + 1) paths)
parted dues paths i d lt =
    let split = sym (take-append-drop (i + 1) paths) in
    let mapped = map-append quandle_due (take (i + 1) paths) (drop (i + 1) paths) in
    let next = map_more quandle_due paths i d lt in
    ap (λ (ps : List (Bor (List ℕ))). dues ++ quandles_due ps) split
    ∙ ap (λ (all : List Due). dues ++ all) (mapped ∙ ap (λ (front : List Due). front ++ quandles_due (drop (i + 1) paths)) next)
    ∙ ap (λ (all : List Due). dues ++ all)
    (append_assoc (quandles_due (take i paths)) (quandle_due (get_or paths i d) ∷ []) (quandles_due (drop (i + 1) paths)))
    ∙ sym (append_assoc dues (quandles_due (take i paths)) (quandle_due (get_or paths i d) ∷ quandles_due (drop (i + 1) paths)))

-- a file of quandles, of those that a loop sees
pub path_fault : (told : Told) (dues : List Due) (paths seen : List (Bor (List ℕ))) (i : ℕ) (d : Bor (List ℕ)) (old : List (List ℕ)) (f : PartFault)
    → seen ≡ paths → i < length seen → ArePartsOf told (dues ++ quandles_due (take i paths)) old
    → IsWanting told (quandle_due (get_or seen i d)) f → IsPartFaultOf told (dues ++ quandles_due paths) f
path_fault told dues paths seen i d old f same lt are wanting = record {
  front = dues ++ quandles_due (take i paths);
  due = quandle_due (get_or paths i d);
  back = quandles_due (drop (i + 1) paths);
  split = parted dues paths i d (subst (λ (ps : List (Bor (List ℕ))). i < length ps) same lt);
  texts = old;
  had = are;
  wanting = subst (λ (ps : List (Bor (List ℕ))). IsWanting told (quandle_due (get_or ps i d)) f) same wanting;
}
