-- After a parse that succeeds, an option with a default has a value that passed its parser.
use Rattle.std.proofs.Common.{◌≡◌, ◌∙◌, ◌<◌, ◌≤◌, ℕ, Bool, zero, suc, true, false, cond, refl, sym, ap, subst, inl, inr, arith}
use Rattle.std.proofs.Common.{List, [], ◌∷◌, length, Option, Some, None, is_some}
use Rattle.std.specs.List.{All, slice_index_or}
use Rattle.std.specs.Prelude.{find, option_and_then, option_map, slice_get}
use Rattle.std.specs.Str.{bytes_eq}
use Rattle.std.specs.Borrow.{Bor}
use Rattle.std.proofs.lemmas.Slice.Eq.{bytes_eq-Decides}
use Rattle.std.proofs.lemmas.List.Elements.{All-get_or}
use Rattle.clap.specs.Built.{IsAuto, IsParsedFrom, IsPlain, SameRules}
use Rattle.clap.specs.Facts.{Entry, EntryPasses, PassesArg, WantsDefault, args_of, least_values, parser_of_value}
use Rattle.clap.specs.Matches.{found_of, matched_of, one_text}
use Rattle.clap.specs.Values.{Accepts, read_as, reading_of}
use Rattle.clap.specs.declared.builder.action.ArgAction.TheVariants.{Set, Count}
use Rattle.clap.specs.declared.builder.arg.Arg.{Arg}
use Rattle.clap.specs.declared.builder.command.Command.{Command}
use Rattle.clap.specs.declared.builder.command.Command.TheViews.{out-Command}
use Rattle.clap.specs.declared.builder.value_parser.Reading.{Reading}
use Rattle.clap.specs.declared.builder.value_parser.ValueParser.{ValueParser}
use Rattle.clap.specs.declared.parser.matches.ArgMatches.{ArgMatches}
use Rattle.clap.specs.declared.parser.matches.Found.{Found}
use Rattle.clap.specs.declared.parser.matches.MatchedArg.{MatchedArg}
use Rattle.clap.proofs.CallerLemmas.{default_present, entry_by_id, same_rules_by_id}

-- the argument takes one value at a use, by the parser q, and has a default; no other argument has its name
pub record IsOption (c : Command) (k : ℕ) (d : Arg) (q : ValueParser) : Type 0 where
  pub inside : k < length (args_of c)
  pub set : (slice_index_or (args_of c) k d).action ≡ Some Set
  pub undivided : (slice_index_or (args_of c) k d).val_delim ≡ None
  pub least : 1 ≤ least_values (slice_index_or (args_of c) k d)
  pub parser : (slice_index_or (args_of c) k d).value_parser ≡ Some q
  pub default : WantsDefault (slice_index_or (args_of c) k d)
  pub named : (slice_index_or (args_of c) k d).id.now ≡ [] → ⊥
  pub own : IsAuto (slice_index_or (args_of c) k d) → ⊥
  pub alone : (j : ℕ) (e : Arg) → j < length (args_of c)
      → bytes_eq (slice_index_or (args_of c) j e).id.now (slice_index_or (args_of c) k d).id.now ≡ true → j ≡ k

-- a search finds something where one element passes
found_at : {X : Type 0} (p : X → Bool) (xs : List X) (i : ℕ) → i < length xs → ((d : X) → p (slice_index_or xs i d) ≡ true)
    → (x : X) × (find p xs ≡ Some x)
found_at p [] i lt hit = absurd (omega arith)
found_at p (x ∷ xs) zero lt hit = (x, rw (hit x) refl)
found_at p (x ∷ xs) (suc i) lt hit = go (p x) (found_at p xs i (omega arith) hit)
  where
    go : (b : Bool) → (y : _) × (find p xs ≡ Some y) → (y : _) × (cond b (Some x) (find p xs) ≡ Some y)
    go true rest = (x, refl)
    go false rest = rest

-- the first value and how it is read
value_read : (how : Reading) (x : MatchedArg) (P : List ℕ → Type 0) → x.reading ≡ how → 0 < length x.vals.items → All (λ v. P v.now) x.vals.items
    → (t : List ℕ) × (option_map (λ s. read_as x.reading s.now) (slice_get x.vals.items 0) ≡ Some (read_as how t)) × P t
value_read how x P reads some all = go x.vals.items some all
  where
    go : (vs : List (Bor (List ℕ))) → 0 < length vs → All (λ v. P v.now) vs
        → (t : List ℕ) × (option_map (λ s. read_as x.reading s.now) (slice_get vs 0) ≡ Some (read_as how t)) × P t
    go [] lt rest = absurd (omega arith)
    go (v ∷ vs) lt rest = (v.now, ap (λ (by : Reading). Some (read_as by v.now)) reads, All-get_or (λ w. P w.now) (v ∷ vs) 0 v (omega arith) rest)

-- what a getter reads of an entry
text_read : (f : Found) (id : List ℕ) (x : MatchedArg) (answer : Option (List ℕ)) → matched_of f id ≡ Some x
    → option_map (λ s. read_as x.reading s.now) (slice_get x.vals.items 0) ≡ answer → one_text f id ≡ answer
text_read f id x answer found is =
    ap (option_and_then (λ (y : MatchedArg). option_map (λ s. read_as y.reading s.now) (slice_get y.vals.items 0))) found ∙ is

module _ (c : Command) (m : ArgMatches) (p : IsParsedFrom c m) (plain : IsPlain c) (k : ℕ) (d : Arg) (q : ValueParser) (o : IsOption c k d q) where
  abbrev arg : Arg
  arg = slice_index_or (args_of c) k d

  -- an argument of the built command with this name is this one
  kept : (j : ℕ) (y : Arg) → j < length (args_of p.built) → slice_index_or (args_of p.built) j y ≡ y → bytes_eq y.id.now arg.id.now ≡ true → SameRules arg y
  kept j y lt at same = same_rules_by_id c m p k d o.inside o.alone o.own j y lt at same

  is_q : (y : Arg) → SameRules arg y → parser_of_value y.value_parser ≡ q
  is_q y s = ap parser_of_value (s.parser q o.parser)

  accepted : (t : List ℕ) → PassesArg p.built arg.id.now t → Accepts arg.ignore_case q t
  accepted t pass =
      let s = kept pass.0 pass.1 pass.2 pass.3 pass.4.0 in
      let by_q = subst (λ (w : ValueParser). Accepts pass.1.ignore_case w t) (is_q pass.1 s) pass.4.1 in
      subst (λ (b : Bool). Accepts b q t) s.ignore_case by_q

  module _ (e : Entry) (key : e.0.now ≡ arg.id.now) (pass : EntryPasses p.built e) where
    no_group : e.1.is_group ≡ true → ⊥
    no_group g = elim (pass.3 g) [
      | inl empty ↦ o.named (sym key ∙ empty)
      | inr some ↦
          let bad : 0 < 0 = rw (p.from.plain plain).1 at some in
          omega arith
    ]

    has_value : 0 < length e.1.vals.items
    has_value = elim pass.1 [
      | inl g ↦ absurd (no_group g.0)
      | inr (inl v) ↦ v
      | inr (inr (inl h)) ↦
          let any = h.1 in
          let s = kept any.0 any.1 any.2 any.3 (rw key at any.4.0) in
          let set : any.1.action ≡ Some Set = s.action Set o.set in
          let bad : Set ≡ Count = rw set at any.4.1 in
          cc
      | inr (inr (inr h)) ↦
          let s = kept h.0 h.1 h.2 h.3 (rw key at h.4.0) in
          elim h.4.1 [
            | inl zero_values ↦
                let one = s.least o.set o.least in
                absurd (omega arith)
            | inr divided ↦
                let bad : is_some h.1.val_delim ≡ true = divided in
                let none : is_some h.1.val_delim ≡ false = rw (s.val_delim, o.undivided) refl in
                cc
          ]
    ]

    all_pass : All (λ v. PassesArg p.built arg.id.now v.now) e.1.vals.items
    all_pass = elim pass.0 [
      | inl g ↦ absurd (no_group g)
      | inr all ↦ subst (λ (w : List ℕ). All (λ v. PassesArg p.built w v.now) e.1.vals.items) key all
    ]

    reads : e.1.reading ≡ reading_of q
    reads = elim pass.4 [
      | inl g ↦ absurd (no_group g)
      | inr any ↦
          let s = kept any.0 any.1 any.2 any.3 (rw key at any.4.0) in
          sym any.4.1 ∙ ap reading_of (is_q any.1 s)
    ]

  -- the value of the option, as a getter reads it
  pub option_reads : (out-Command c).has_globals ≡ false
      → (t : List ℕ) × (one_text (found_of m) arg.id.now ≡ Some (read_as (reading_of q) t)) × Accepts arg.ignore_case q t
  option_reads local =
      let f = found_of m in
      let there = default_present c m p local k d o.inside o.default in
      let hit = found_at (λ (x : Entry). bytes_eq x.0.now arg.id.now) f.entries.items there.0 there.1 there.2 in
      let found : matched_of f arg.id.now ≡ Some hit.0.1 = ap (option_map (λ (x : Entry). x.1)) hit.1 in
      let parsed = p.parsed (p.from.globals ∙ local) in
      let got = entry_by_id (EntryPasses p.built) f.entries.items arg.id.now hit.0.1 parsed.values found in
      let key : got.0.0.now ≡ arg.id.now = (bytes_eq-Decides got.0.0.now arg.id.now).0 got.2 in
      let passes = all_pass got.0 key got.3 in
      let read = value_read (reading_of q) got.0.1 (PassesArg p.built arg.id.now) (reads got.0 key got.3) (has_value got.0 key got.3) passes in
      let text = text_read f arg.id.now got.0.1 (Some (read_as (reading_of q) read.0)) (found ∙ ap (λ (x : MatchedArg). Some x) (sym got.1)) read.1 in
      (read.0, text, accepted read.0 read.2)
