-- What the steps of a plan leave, from the list of zeros on, is each list of colours on which all rows close, once.
use Rattle.std.proofs.Common.{◌≡◌, ◌≢◌, ◌<◌, ◌≤◌, ◌+◌, ◌-◌, ◌++◌, ◌==◌, ◌∙◌, inl, inr, ℕ, List, [], ◌∷◌, Bool, true, false, cond, length, map, take}
use Rattle.std.proofs.Common.{get_or, set, replicate, nat_lt, refl, sym, ap, subst, arith, append-nil}
use Rattle.std.specs.Prelude.{if◌then◌else◌}
use Rattle.std.specs.List.{All, flat_map, filter, range_with_len}
use Rattle.std.proofs.lemmas.Bool.{false_from_ne_true, cases_eq, both_ways, lt-ltb, and_from}
use Rattle.std.proofs.lemmas.List.{length-map, get_or-set_other}
use Rattle.std.proofs.lemmas.List.Concat.{flat_map-append, flat_map_single}
use Rattle.std.proofs.lemmas.List.Elements.{All-map, All-weaker, filter_passes}
use Rattle.grid_core.specs.declared.grid.TheConstants.{MAX_SIZE}
use Rattle.grid_core.specs.Diagram.{Diagram, IsGrid, size}
use Rattle.grid_core.specs.Parts.{covers, ends}
use Rattle.grid_core.specs.Span.{lies_within}
use Rattle.grid_core.specs.Crossing.{crosses}
use Rattle.grid_core.proofs.Ends.{has_ends, left, right}
use Rattle.quandle_core.specs.Quandle.{Table, IsQuandle}
use Rattle.colour_rows.specs.Walk.{passed, walk, closes}
use Rattle.colour_rows.specs.Equation.{equation, walk_of}
use Rattle.colour_rows.specs.Colouring.{AreColours, IsColouring, is_colouring}
use Rattle.colour_rows.proofs.Walks.{IsPassed, each_passed, closes_apart, walk_back}
use Rattle.colour_rows.proofs.Equations.{walk_same, walk_back_same}
use Rattle.colour_list.specs.Listing.{colourings, times}
use Rattle.colour_list.specs.Level.{spread, with_right, with_left, IsLevel, IsLevelAt, IsUnbegun, RowsClose}
use Rattle.colour_list.proofs.Columns.{Opens, Ignores, open_level, read_level}
use Rattle.colour_list.proofs.Solved.{solved_right, solved_left}
use Rattle.colour_list.proofs.Sweep.{first_level}
use Rattle.colour_list.proofs.Cut.{Ends, begun, cut_once, cut_colouring, as_often}
use Rattle.colour_list.proofs.Choices.{listed_most}
use Rattle.colour_list.proofs.Fewer.{fewer}
use Rattle.colour_seeds.specs.declared.progress.Step.{Step}
use Rattle.colour_seeds.specs.declared.progress.Step.TheVariants.{Seed, Rightward, Leftward, Test}
use Rattle.colour_seeds.specs.declared.progress.SeedProgress.{SeedProgress}
use Rattle.colour_seeds.specs.Plan.{is_known, is_read, progress_after, nothing, LeadsBySteps, IsAllowed, IsPlan}
use Rattle.colour_seeds.specs.Leaves.{leaves, lists_after_step}
use Rattle.colour_seeds.proofs.RowSteps.{row_steps, rightward_ends, leftward_ends}
use Rattle.colour_seeds.proofs.Ways.{IsSound, marked, mark_new, mark_old, mark_here, nothing_known, sound_after, sound_leads, sound_nothing}

-- what is not known is blank, and the rows that were read close
abbrev pub IsBlank : SeedProgress → ℕ → Type 0
IsBlank g c = is_known g c ≡ false

abbrev pub ReadClose : Table → Diagram → SeedProgress → List ℕ → Type 0
ReadClose t d g f = (r : ℕ) → r < size d → is_read g r ≡ true → closes t d f r ≡ true

abbrev pub IsLevelOf : Table → Diagram → SeedProgress → List (List ℕ) → Type 0
IsLevelOf t d g level = IsLevel MAX_SIZE t.order (IsBlank g) (ReadClose t d g) level

-- the columns that a row passes under cross it
pub passed_crosses : (d : Diagram) (r : ℕ) → left d r < right d r → All (λ c. crosses d c r ≡ true) (passed d r)
passed_crosses d r ordered = λ k p at.
    let place = each_passed d r ordered k p at in
    let over = filter_passes (λ c. covers d c r) (range_with_len (left d r + 1) (right d r - left d r - 1)) k p at in
    let c = get_or (passed d r) k p in
    and_from (covers d c r) (lies_within (ends d r) c) over
    (and_from (nat_lt (left d r) c) (nat_lt c (right d r)) (lt-ltb (left d r) c place.after) (lt-ltb c (right d r) place.ahead))

pub both : (A B : ℕ → Type 0) (xs : List ℕ) → All A xs → All B xs → All (λ c. A c × B c) xs
both A B xs a b = λ k p at. (a k p at, b k p at)

-- a column that is not known is read by no row that was read
ignored : (t : Table) (d : Diagram) (g : SeedProgress) → IsGrid d → IsSound d g → (c : ℕ) → is_known g c ≡ false → Ignores MAX_SIZE c (ReadClose t d g)
ignored t d g grid sound c unknown = λ f a long closed r lt read.
    let all = sound.rows r lt read in
    let e = has_ends d grid r lt in
    let within = e.within in
    closes_apart t d f r c a (λ same. both_ways (is_known g c) unknown (ap (is_known g) (sym same) ∙ all.at_left))
    (λ same. both_ways (is_known g c) unknown (ap (is_known g) (sym same) ∙ all.at_right))
    (All-weaker (λ k. (crosses d k r ≡ true) × IsPassed d r k) (λ k. k ≢ c)
    (λ k h same. let ahead = h.1.ahead in both_ways (is_known g c) unknown (ap (is_known g) (sym same) ∙ all.overs k (omega (arith, ahead, within)) h.0))
    (passed d r) (both (λ k. crosses d k r ≡ true) (IsPassed d r) (passed d r) (passed_crosses d r e.ordered) (each_passed d r e.ordered)))
    ∙ closed r lt read

-- a column that is not known becomes known
opens_at : (d : Diagram) (g : SeedProgress) → IsGrid d → IsSound d g → (c : ℕ) → c < size d → is_known g c ≡ false
    → Opens c (IsBlank g) (λ x. get_or (set g.known c true) x false ≡ false)
opens_at d g grid sound c lt unknown = record {
  was = unknown;
  others = λ x b. elim (cases_eq x c) [
    | inl same ↦ inl same
    | inr other ↦ inr (get_or-set_other g.known c x true false other ∙ b)
  ];
  stays = λ x later. (
    mark_old g.known c x later,
    λ same. both_ways (get_or (set g.known c true) x false) later
        (ap (λ k. get_or (set g.known c true) k false) same ∙ mark_here g.known c (omega (arith, lt, grid.most, sound.known_long))),
  );
}

-- one row more was read
read_more : (t : Table) (d : Diagram) (g h : SeedProgress) (r : ℕ) (Blank : ℕ → Type 0) → IsGrid d → IsSound d g → r < size d → h.read ≡ set g.read r true
    → (level : List (List ℕ)) → IsLevel MAX_SIZE t.order Blank (ReadClose t d g) level
    → IsLevel MAX_SIZE t.order Blank (ReadClose t d h) (filter (λ f. closes t d f r) level)
read_more t d g h r Blank grid sound lt is level l =
    let marks : (s : ℕ) → is_read h s ≡ get_or (set g.read r true) s false = λ s. ap (λ (xs : List Bool). get_or xs s false) is in
    read_level MAX_SIZE t.order Blank (ReadClose t d g) (ReadClose t d h) (λ f. closes t d f r) level
    (λ f closed here s below read. elim (mark_new g.read r s (sym (marks s) ∙ read)) [
      | inl same ↦ subst (λ (s : ℕ). closes t d f s ≡ true) (sym same) here
      | inr before ↦ closed s below before
    ])
    (λ f closed. (
      λ s below read. closed s below (marks s ∙ marked g.read r s read),
      closed r lt (marks r ∙ mark_here g.read r (omega (arith, lt, grid.most, sound.read_long))),
    ))
    l

level_colours : (t : Table) (d : Diagram) (g : SeedProgress) (level : List (List ℕ)) → IsLevelOf t d g level → All (AreColours MAX_SIZE t.order) level
level_colours t d g level l = λ k e lt. let m = l.sound k e lt in (m.long, m.below)

flat_map_test : {X : Type 0} (p : X → Bool) (xs : List X) → flat_map (λ x. if p x then x ∷ [] else []) xs ≡ filter p xs
flat_map_test p [] = refl
flat_map_test p (x ∷ xs) = here (p x) (x) (filter p xs) (flat_map (λ x. if p x then x ∷ [] else []) xs) (flat_map_test p xs)
  where
    here : {X : Type 0} (b : Bool) (x : X) (kept rest : List X) → rest ≡ kept → (if b then x ∷ [] else []) ++ rest ≡ cond b (x ∷ kept) kept
    here true x kept rest e = ap (λ ys. x ∷ ys) e
    here false x kept rest e = e

-- a step carries its level to the next
step_level : (t : Table) (d : Diagram) (g : SeedProgress) (s : Step) → IsQuandle t → IsGrid d → IsSound d g → IsAllowed d g s → (level : List (List ℕ))
    → IsLevelOf t d g level → IsLevelOf t d (progress_after d g s) (flat_map (lists_after_step t d s) level)
step_level t d g (Seed c) q grid sound allowed level l =
    let some : 0 < t.order = omega (arith, q.least) in
    let at : c < MAX_SIZE = omega (arith, allowed.0, grid.most) in
    open_level MAX_SIZE t.order c (IsBlank g) (λ x. get_or (set g.known c true) x false ≡ false) (ReadClose t d g) level some at
    (opens_at d g grid sound c allowed.0 allowed.1) (ignored t d g grid sound c allowed.1) l
step_level t d g (Rightward r) q grid sound allowed level l =
    let some : 0 < t.order = omega (arith, q.least) in
    let h = progress_after d g (Rightward r) in
    let steps = row_steps d g r (Rightward r) allowed.1 in
    let sides = rightward_ends r (is_known g (left d r)) (is_known g (right d r)) steps.ends in
    let e = has_ends d grid r allowed.0 in
    let at : right d r < MAX_SIZE = omega (arith, e.within, grid.most) in
    let wide = open_level MAX_SIZE t.order (right d r) (IsBlank g) (IsBlank h) (ReadClose t d g) level some at
    (opens_at d g grid sound (right d r) e.within sides.1) (ignored t d g grid sound (right d r) sides.1) l in
    let closed = read_more t d g h r (IsBlank h) grid sound allowed.0 refl (flat_map (spread t.order (right d r)) level) wide in
    let single : flat_map (lists_after_step t d (Rightward r)) level ≡ map (λ f. set f (right d r) (walk t d f r)) level =
    flat_map_single (with_right t (equation d r)) level ∙ (λ i. map (λ f. set f (right d r) (walk_same t d f r i)) level) in
    subst (IsLevelOf t d h) (solved_right t d r MAX_SIZE q e grid.most level (level_colours t d g level l) ∙ sym single) closed
step_level t d g (Leftward r) q grid sound allowed level l =
    let some : 0 < t.order = omega (arith, q.least) in
    let h = progress_after d g (Leftward r) in
    let steps = row_steps d g r (Leftward r) allowed.1 in
    let sides = leftward_ends r (is_known g (left d r)) (is_known g (right d r)) steps.ends in
    let e = has_ends d grid r allowed.0 in
    let lt : left d r < size d = omega (arith, e.within, e.ordered) in
    let at : left d r < MAX_SIZE = omega (arith, lt, grid.most) in
    let wide = open_level MAX_SIZE t.order (left d r) (IsBlank g) (IsBlank h) (ReadClose t d g) level some at
    (opens_at d g grid sound (left d r) lt sides.0) (ignored t d g grid sound (left d r) sides.0) l in
    let closed = read_more t d g h r (IsBlank h) grid sound allowed.0 refl (flat_map (spread t.order (left d r)) level) wide in
    let single : flat_map (lists_after_step t d (Leftward r)) level ≡ map (λ f. set f (left d r) (walk_back t d f r)) level =
    flat_map_single (with_left t (equation d r)) level ∙ (λ i. map (λ f. set f (left d r) (walk_back_same t d f r i)) level) in
    subst (IsLevelOf t d h) (solved_left t d r MAX_SIZE q e grid.most level (level_colours t d g level l) ∙ sym single) closed
step_level t d g (Test r) q grid sound allowed level l =
    let h = progress_after d g (Test r) in
    let closed = read_more t d g h r (IsBlank g) grid sound allowed.0 refl level l in
    let tests : flat_map (lists_after_step t d (Test r)) level ≡ filter (λ f. closes t d f r) level =
    flat_map_test (λ f. walk_of t (equation d r) f == get_or f (right d r) 0) level
    ∙ (λ i. filter (λ f. walk_same t d f r i == get_or f (right d r) 0) level) in
    subst (IsLevelOf t d h) (sym tests) closed

flat_map_twice : {X Y Z : Type 0} (f : Y → List Z) (h : X → List Y) (xs : List X) → flat_map (λ x. flat_map f (h x)) xs ≡ flat_map f (flat_map h xs)
flat_map_twice f h [] = refl
flat_map_twice f h (x ∷ xs) = ap (λ ys. flat_map f (h x) ++ ys) (flat_map_twice f h xs) ∙ sym (flat_map-append f (h x) (flat_map h xs))

map_itself : {X : Type 0} (xs : List X) → flat_map (λ x. x ∷ []) xs ≡ xs
map_itself [] = refl
map_itself (x ∷ xs) = ap (λ ys. x ∷ ys) (map_itself xs)

-- and all steps carry it to the last
leaves_level : (t : Table) (d : Diagram) → IsQuandle t → IsGrid d → (steps : List Step) (g h : SeedProgress) → IsSound d g → LeadsBySteps d g steps h
    → (level : List (List ℕ))
    → IsLevelOf t d g level → IsLevelOf t d h (flat_map (leaves t d steps) level)
leaves_level t d q grid [] g h sound leads level l =
    subst (IsLevelOf t d h) (sym (map_itself level)) (subst (λ (g : SeedProgress). IsLevelOf t d g level) leads l)
leaves_level t d q grid (s ∷ steps) g h sound leads level l =
    subst (IsLevelOf t d h) (sym (flat_map_twice (leaves t d steps) (lists_after_step t d s) level))
    (leaves_level t d q grid steps (progress_after d g s) h (sound_after d g s grid sound leads.0) leads.1 (flat_map (lists_after_step t d s) level)
    (step_level t d g s q grid sound leads.0 level l))

-- the same level, said otherwise
same_level : (n q : ℕ) (Blank Later : ℕ → Type 0) (Met Next : List ℕ → Type 0) (level : List (List ℕ)) → ((c : ℕ) → c < n → Later c → Blank c)
    → ((c : ℕ) → c < n → Blank c → Later c) → ((f : List ℕ) → Met f → Next f) → ((f : List ℕ) → Next f → Met f) → IsLevel n q Blank Met level
    → IsLevel n q Later Next level
same_level n q Blank Later Met Next level was is to from l = record {
  sound = λ k d lt. let m = l.sound k d lt in record { long = m.long; below = m.below; blank = λ c at later. m.blank c at (was c at later); met = to _ m.met };
  once = λ g m. l.once g (record { long = m.long; below = m.below; blank = λ c at blank. m.blank c at (is c at blank); met = from g m.met });
}

first_of : (t : Table) (d : Diagram) → IsQuandle t → IsLevelOf t d nothing (replicate MAX_SIZE 0 ∷ [])
first_of t d q =
    same_level MAX_SIZE t.order (IsUnbegun d 0) (IsBlank nothing) (RowsClose t d 0) (ReadClose t d nothing) (replicate MAX_SIZE 0 ∷ [])
    (λ c at blank inside. omega arith) (λ c at b. nothing_known c) (λ f closed r lt read. absurd (both_ways (is_read nothing r) (nothing_known r) read))
    (λ f closed s lt. absurd (omega arith)) (first_level t d (omega (arith, q.least)))

last_of : (t : Table) (d : Diagram) (steps : List Step) → IsGrid d → (plan : IsPlan d steps) → (level : List (List ℕ)) → IsLevelOf t d plan.last level
    → IsLevelAt t d (size d) level
last_of t d steps grid plan level l =
    let sound = sound_leads d nothing plan.last steps grid (sound_nothing d) plan.leads in
    same_level MAX_SIZE t.order (IsBlank plan.last) (IsUnbegun d (size d)) (ReadClose t d plan.last) (RowsClose t d (size d)) level
    (λ c at unbegun. false_from_ne_true (is_known plan.last c) (λ known.
    let inside = sound.inside c known in
    let below = begun d grid c inside in
    let above = unbegun inside in omega arith))
    (λ c at blank inside. absurd (both_ways (is_known plan.last c) blank (plan.known c inside)))
    (λ f closed s lt. closed s lt (plan.read s lt)) (λ f closed r lt read. closed r lt) l

-- the leaves of a plan are the lists of colours on which all rows close
pub plan_level : (t : Table) (d : Diagram) (steps : List Step) → IsQuandle t → IsGrid d → IsPlan d steps
    → IsLevelAt t d (size d) (leaves t d steps (replicate MAX_SIZE 0))
plan_level t d steps q grid plan =
    last_of t d steps grid plan (leaves t d steps (replicate MAX_SIZE 0))
    (subst (IsLevelOf t d plan.last) (append-nil (leaves t d steps (replicate MAX_SIZE 0)))
    (leaves_level t d q grid steps nothing plan.last (sound_nothing d) plan.leads (replicate MAX_SIZE 0 ∷ []) (first_of t d q)))

-- cut to the columns, they stand as often as in the complete list
abbrev pub cut : Diagram → List (List ℕ) → List (List ℕ)
cut d level = map (take (size d)) level

pub cut_as_often : (t : Table) (d : Diagram) → IsQuandle t → IsGrid d → (level : List (List ℕ)) → IsLevelAt t d (size d) level → (f : List ℕ)
    → times f (cut d level) ≡ times f (colourings t d)
cut_as_often t d q grid level l f =
    as_often t d (cut d level) (cut_once t d grid (omega (arith, q.least)) level l)
    (All-map (IsColouring t d) (take (size d)) level (All-weaker (Ends t d) (λ g. IsColouring t d (take (size d) g)) (cut_colouring t d grid) level l.sound))
    f (is_colouring t d f) refl

-- lists that have each list as often, at most once, are equally many
pub equally_many : (xs ys : List (List ℕ)) → ((f : List ℕ) → times f xs ≡ times f ys) → ((f : List ℕ) → times f ys ≤ 1) → length xs ≡ length ys
equally_many xs ys same once =
    let le = fewer ys xs (λ f. let e = same f in let h = once f in omega arith) (λ f some. let e = same f in omega arith) in
    let ge = fewer xs ys once (λ f some. let e = same f in omega arith) in
    omega arith

pub leaves_count : (t : Table) (d : Diagram) (steps : List Step) → IsQuandle t → IsGrid d → IsPlan d steps
    → length (leaves t d steps (replicate MAX_SIZE 0)) ≡ length (colourings t d)
leaves_count t d steps q grid plan =
    let level = leaves t d steps (replicate MAX_SIZE 0) in
    sym (length-map level (take (size d)))
    ∙ equally_many (cut d level) (colourings t d) (cut_as_often t d q grid level (plan_level t d steps q grid plan)) (listed_most t d)
