-- What the matches of `knot_app` hold: a job, and four options with numbers within their bounds.
use Rattle.std.proofs.Common.{◌≡◌, ◌∙◌, ◌<◌, ◌≤◌, ◌&&◌, ℕ, Bool, zero, suc, true, not, refl, sym, ap, subst, inl, inr, arith}
use Rattle.std.proofs.Common.{List, [], ◌∷◌, length, map, Option, Some, None, is_some, true≢false, codes, ◌^◌, ◌-◌, pos}
use Rattle.std.specs.List.{list_all, position_or_len, slice_index_or}
use Rattle.std.specs.Prelude.{Ok, Result, option_map, unwrap_or}
use Rattle.std.specs.Str.{bytes_eq}
use Rattle.std.specs.Str.Parse.{ExplainsUnsignedError, HasUnsignedDigitsIfOk, ParsesUnsigned}
use Rattle.std.specs.declared.num.ParseIntError.{ParseIntError}
use Rattle.std.proofs.lemmas.List.{get_or-map, length-map}
use Rattle.std.proofs.lemmas.Slice.Eq.{bytes_eq-Decides}
use Rattle.clap.specs.Built.{IsPlain, IsPlainArg}
use Rattle.clap.specs.Facts.{args_of, least_values, unwrap_or_range}
use Rattle.clap.specs.Lexer.{without_minus}
use Rattle.clap.specs.Matches.{ReadsOne, first_value, found_of, one_text}
use Rattle.clap.specs.Values.{Accepts, IsSignedIn, IsUnsignedIn, read_as, reading_of}
use Rattle.clap.specs.Simple.{matches_of}
use Rattle.clap.specs.Walk.{Rule, Text, one_of, rows_of, rule_of}
use Rattle.clap.specs.declared.builder.action.ArgAction.TheVariants.{Set}
use Rattle.clap.specs.declared.builder.arg.Arg.{Arg}
use Rattle.clap.specs.declared.builder.value_parser.ValueParser.{ValueParser}
use Rattle.clap.specs.declared.builder.value_parser.ValueParser.TheVariants as parser
use Rattle.clap.specs.declared.parser.matches.ArgMatches.{ArgMatches}
use Rattle.clap.proofs.CallerLemmas.{required_has_value}
use Rattle.clap.proofs.CallerReads.{signed_reads}
use Rattle.clap.proofs.SimpleLemmas.{HasPlainFields, is_false, is_nil, plain_fields}
use Rattle.clap.proofs.TakesLemmas.{each_rule}
use Rattle.clap.proofs.WalkLemmas.{both, one_text-rows}
use Rattle.knot_words.specs.declared.words.TheConstants.{MAX_BUDGET}
use Rattle.knot_words.specs.Matched.{AreMatchesBy}
use Rattle.knot_words.specs.OptionNumbers.{number_of_text, seed_rule, workers_rule}
use Rattle.knot_words.specs.Words.{budget_rule, job_rule, knot_app, number_given, spare_rule}
use Rattle.knot_words.proofs.OptionReads.{IsOption, option_reads}

-- the number of this name
abbrev HasNumber : ArgMatches → Text → ℕ → Type 0
HasNumber matches name n = option_map number_of_text (one_of name (rows_of (found_of matches))) ≡ Some n

abbrev knot_rules : List Rule
knot_rules = job_rule ∷ workers_rule ∷ budget_rule ∷ spare_rule ∷ seed_rule ∷ []

-- the place of a name among the rules; five where it has none
abbrev place : Text → ℕ
place name = position_or_len (λ (r : Rule). bytes_eq r.id name) knot_rules

place_at : (j : ℕ) (r : Rule) → j < 5 → place (slice_index_or knot_rules j r).id ≡ j
place_at zero r lt = refl
place_at (suc zero) r lt = refl
place_at (suc (suc zero)) r lt = refl
place_at (suc (suc (suc zero))) r lt = refl
place_at (suc (suc (suc (suc zero)))) r lt = refl
place_at (suc (suc (suc (suc (suc j))))) r lt = absurd (omega arith)

no_option : {X : Type 0} (o : Option X) → not (is_some o) ≡ true → o ≡ None
no_option None e = refl
no_option (Some x) e = absurd (true≢false (sym e))

abbrev is_plain_rule : Rule → Bool
is_plain_rule r = r.is_simple && r.is_free

plain_arg : (a : Arg) → is_plain_rule (rule_of a) ≡ true → IsPlainArg a × (a.default_vals_ifs.items ≡ []) × (a.val_delim ≡ None)
plain_arg a e =
    let parts = both _ _ e in
    let s = both _ _ parts.0 in
    let t = both _ _ s.1 in
    let u = both _ _ t.1 in
    let v = both _ _ u.1 in
    let f = both _ _ parts.1 in
    let g = both _ _ f.1 in
    ((is_false _ f.0, is_nil _ g.0, is_nil _ s.0, is_nil _ u.0), is_nil _ t.0, no_option _ v.0)

any_arg : (xs : List Arg) → 0 < length xs → Arg
any_arg [] lt = absurd (omega arith)
any_arg (x ∷ xs) lt = x

module _ (m : ArgMatches) (h : AreMatchesBy knot_app m) where
  abbrev args : List Arg
  args = args_of h.command

  rules : map rule_of args ≡ knot_rules
  rules = ap (λ a. a.top.rules) h.rules

  five : length args ≡ 5
  five = sym (length-map args rule_of) ∙ ap length rules

  rule_at : (k : ℕ) (d : Arg) → k < 5 → rule_of (slice_index_or args k d) ≡ slice_index_or knot_rules k (rule_of d)
  rule_at k d lt = sym (get_or-map rule_of args k d (rule_of d) (omega (arith, five))) ∙ ap (λ rs. slice_index_or rs k (rule_of d)) rules

  place_of_id : (k : ℕ) (d : Arg) → k < 5 → place (slice_index_or args k d).id.now ≡ k
  place_of_id k d lt = ap (λ (r : Rule). place r.id) (rule_at k d lt) ∙ place_at k (rule_of d) lt

  alone : (k : ℕ) (d : Arg) → k < 5 → (j : ℕ) (e : Arg) → j < length args
      → bytes_eq (slice_index_or args j e).id.now (slice_index_or args k d).id.now ≡ true → j ≡ k
  alone k d lt j e low same =
      let one : (slice_index_or args j e).id.now ≡ (slice_index_or args k d).id.now = (bytes_eq-Decides _ _).0 same in
      sym (place_of_id j e (omega (arith, five))) ∙ ap place one ∙ place_of_id k d lt

  -- a name that is none of the five is not the name of an argument
  other : (k : ℕ) (d : Arg) (name : Text) → k < 5 → place name ≡ 5 → (slice_index_or args k d).id.now ≡ name → ⊥
  other k d name lt none is = omega (arith, sym (place_of_id k d lt) ∙ ap place is ∙ none)

  each_plain : (k : ℕ) (d : Arg) → k < length args → is_plain_rule (rule_of (slice_index_or args k d)) ≡ true
  each_plain = each_rule is_plain_rule args (ap (list_all is_plain_rule) rules)

  fields : HasPlainFields h.command
  fields = plain_fields h.command (ap (λ a. a.top.is_plain) h.rules)

  plain : IsPlain h.command
  plain = (λ k d lt. (plain_arg (slice_index_or args k d) (each_plain k d lt)).0, fields.groups)

  an_arg : Arg
  an_arg = any_arg args (omega (arith, five))

  least_one : (k : ℕ) (d : Arg) → k < 5 → (slice_index_or knot_rules k (rule_of d)).range ≡ None → 1 ≤ least_values (slice_index_or args k d)
  least_one k d lt none =
      let is : (slice_index_or args k d).num_vals ≡ None = ap (λ (r : Rule). r.range) (rule_at k d lt) ∙ none in
      subst (λ range. 1 ≤ (unwrap_or_range range).start_inclusive) (sym is) (omega arith)

  option_at : (k : ℕ) (d : Arg) (q : ValueParser) → k < 5 → (slice_index_or knot_rules k (rule_of d)).action ≡ Some Set
      → (slice_index_or knot_rules k (rule_of d)).range ≡ None → (slice_index_or knot_rules k (rule_of d)).parser ≡ Some q
      → length (slice_index_or knot_rules k (rule_of d)).defaults ≡ 1 → IsOption h.command k d q
  option_at k d q lt set range read default =
      let r = rule_at k d lt in
      let inside : k < length args = omega (arith, five) in
      let facts = plain_arg (slice_index_or args k d) (each_plain k d inside) in
      let one = sym (length-map _ _) ∙ ap (λ (x : Rule). length x.defaults) r ∙ default in
      record {
        inside = inside;
        set = ap (λ (x : Rule). x.action) r ∙ set;
        undivided = facts.2;
        least = least_one k d lt range;
        parser = ap (λ (x : Rule). x.parser) r ∙ read;
        default = (facts.1, omega (arith, one));
        named = other k d [] lt refl;
        own = λ auto. elim auto [ inl e ↦ other k d (codes "help") lt refl e | inr e ↦ other k d (codes "version") lt refl e ];
        alone = alone k d lt;
      }

  -- the job is there
  pub job_read : is_some (first_value (found_of m) (codes "job")) ≡ true
  job_read =
      let d = an_arg in
      let r = rule_at 0 d (omega arith) in
      let facts = plain_arg (slice_index_or args 0 d) (each_plain 0 d (omega (arith, five))) in
      let has = required_has_value h.command m h.parsed plain fields.globals (ap (λ a. a.top.subcommand_negates_reqs) h.rules) 0 d (omega (arith, five))
      (ap (λ (x : Rule). x.required) r) (ap (λ (x : Rule). x.action) r) facts.2 (least_one 0 d (omega arith) refl) (alone 0 d (omega arith))
      (other 0 d [] (omega arith) refl)
      (λ auto. elim auto [ inl e ↦ other 0 d (codes "help") (omega arith) refl e | inr e ↦ other 0 d (codes "version") (omega arith) refl e ]) in
      subst (λ (name : Text). is_some (first_value (found_of m) name) ≡ true) (ap (λ (x : Rule). x.id) r) has

  text_at : (k : ℕ) (d : Arg) (q : ValueParser) (name : Text) → k < 5 → (slice_index_or knot_rules k (rule_of d)).id ≡ name → IsOption h.command k d q
      → (t : Text) × (one_text (found_of m) name ≡ Some (read_as (reading_of q) t)) × Accepts (slice_index_or args k d).ignore_case q t
  text_at k d q name lt is o =
      let got = option_reads h.command m h.parsed plain k d q o fields.globals in
      let id : (slice_index_or args k d).id.now ≡ name = ap (λ (r : Rule). r.id) (rule_at k d lt) ∙ is in
      (got.0, subst (λ (w : Text). one_text (found_of m) w ≡ Some (read_as (reading_of q) got.0)) id got.1, got.2)

  workers_text : (t : Text) × (one_text (found_of m) (codes "workers") ≡ Some (without_minus t)) × IsSignedIn (pos 1) (pos 64) t
  workers_text =
      text_at 1 an_arg (parser.Signed (pos 1) (pos 64)) (codes "workers") (omega arith) refl (option_at 1 an_arg _ (omega arith) refl refl refl refl)

  budget_text : (t : Text) × (one_text (found_of m) (codes "budget") ≡ Some (without_minus t)) × IsSignedIn (pos 2) (pos MAX_BUDGET) t
  budget_text =
      text_at 2 an_arg (parser.Signed (pos 2) (pos MAX_BUDGET)) (codes "budget") (omega arith) refl (option_at 2 an_arg _ (omega arith) refl refl refl refl)

  spare_text : (t : Text) × (one_text (found_of m) (codes "spare") ≡ Some (without_minus t)) × IsSignedIn (pos 0) (pos 4) t
  spare_text =
      text_at 3 an_arg (parser.Signed (pos 0) (pos 4)) (codes "spare") (omega arith) refl (option_at 3 an_arg _ (omega arith) refl refl refl refl)

  seed_text : (t : Text) × (one_text (found_of m) (codes "seed") ≡ Some t) × IsUnsignedIn 0 (2 ^ 64 - 1) t
  seed_text =
      text_at 4 an_arg (parser.Unsigned 0 (2 ^ 64 - 1)) (codes "seed") (omega arith) refl (option_at 4 an_arg _ (omega arith) refl refl refl refl)

-- what reading a text as a number of k bits gives
abbrev pub FromText : ℕ → Text → Result ℕ ParseIntError → Type 0
FromText k t x = ParsesUnsigned k 10 t x × ExplainsUnsignedError 10 t x × HasUnsignedDigitsIfOk t x

-- a getter of the argument of this name answers r
abbrev pub Answers : ArgMatches → Text → ℕ → Option ℕ → Type 0
Answers m name k r = (t : Text) → one_text (found_of m) name ≡ Some t → ReadsOne (FromText k) t r

number_read : (m : ArgMatches) (name : Text) (k : ℕ) (r : Option ℕ) → Answers m name k r → (t : Text) → one_text (found_of m) name ≡ Some t
    → (n : ℕ) → r ≡ Some n → HasNumber m name n
number_read m name k r gives t is n read =
    let one : FromText k t (Ok n) = subst (λ (x : Option ℕ). ReadsOne (FromText k) t x) read (gives t is) in
    ap (option_map number_of_text) (sym (one_text-rows (found_of m) name) ∙ is) ∙ ap (λ (x : ℕ). Some x) (sym one.0.1)

-- an answer is one number
pub one_number : (r : Option ℕ) (n k : ℕ) → r ≡ Some n → r ≡ Some k → n ≡ k
one_number r n k a b = ap (λ (o : Option ℕ). unwrap_or o n) (sym a ∙ b)

signed_number : (m : ArgMatches) (name : Text) (k low high : ℕ) (r : Option ℕ) → Answers m name k r → high < 2 ^ k
    → (t : Text) × (one_text (found_of m) name ≡ Some (without_minus t)) × IsSignedIn (pos low) (pos high) t
    → (n : ℕ) × (r ≡ Some n) × HasNumber m name n × (low ≤ n) × (n ≤ high)
signed_number m name k low high r gives fits text =
    let got = signed_reads ParseIntError (FromText k) k low high text.0 r (gives (without_minus text.0) text.1) (λ u x g. g.0) fits text.2 in
    (got.0, got.1, number_read m name k r gives (without_minus text.0) text.1 got.0 got.1, got.2, got.3)

-- a getter of the option finds a number, and what it finds is the given number, within its bounds
pub record IsRead (m : ArgMatches) (name : Text) (k : ℕ) (Within : ℕ → Type 0) : Type 0 where
  pub there : (r : Option ℕ) → Answers m name k r → is_some r ≡ true
  pub number : (n : ℕ) → Answers m name k (Some n) → HasNumber m name n × Within n

signed_read : (m : ArgMatches) (name : Text) (k low high : ℕ) → high < 2 ^ k
    → (t : Text) × (one_text (found_of m) name ≡ Some (without_minus t)) × IsSignedIn (pos low) (pos high) t
    → IsRead m name k (λ n. (low ≤ n) × (n ≤ high))
signed_read m name k low high fits text = record {
  there = λ r gives. ap (λ o. is_some o) (signed_number m name k low high r gives fits text).1;
  number = λ n gives.
      let got = signed_number m name k low high (Some n) gives fits text in
      let same = one_number (Some n) got.0 n got.1 refl in
      subst (λ x. HasNumber m name x × ((low ≤ x) × (x ≤ high))) same (got.2, (got.3, got.4));
}

module _ (m : ArgMatches) (h : AreMatchesBy knot_app m) where
  pub workers_read : IsRead m (codes "workers") 32 (λ n. (1 ≤ n) × (n ≤ 64))
  workers_read = signed_read m (codes "workers") 32 1 64 (omega arith) (workers_text m h)

  pub budget_read : IsRead m (codes "budget") 32 (λ n. (2 ≤ n) × (n ≤ MAX_BUDGET))
  budget_read = signed_read m (codes "budget") 32 2 MAX_BUDGET (omega arith) (budget_text m h)

  pub spare_read : IsRead m (codes "spare") 8 (λ n. (0 ≤ n) × (n ≤ 4))
  spare_read = signed_read m (codes "spare") 8 0 4 (omega arith) (spare_text m h)

  -- a seed has no bounds but those of its 64 bits
  pub seed_read : IsRead m (codes "seed") 64 (λ n. Unit {0})
  seed_read = record {
    there = λ r gives. go r (gives text.0 text.1);
    number = λ n gives. (number_read m (codes "seed") 64 (Some n) gives text.0 text.1 n refl, tt);
  }
    where
      text : (t : Text) × (one_text (found_of m) (codes "seed") ≡ Some t) × IsUnsignedIn 0 (2 ^ 64 - 1) t
      text = seed_text m h

      go : (o : Option ℕ) → ReadsOne (FromText 64) text.0 o → is_some o ≡ true
      go None given = absurd (given.1.0 (text.2.0, text.2.1))
      go (Some n) given = refl

-- the number that a getter finds is the one that the words give
pub number_is_given : (m : ArgMatches) (name : Text) (words : List Text) (n : ℕ) → rows_of (found_of m) ≡ matches_of knot_app words
    → HasNumber m name n → number_given name words ≡ Some n
number_is_given m name words n rows has = subst (λ rs. option_map number_of_text (one_of name rs) ≡ Some n) rows has
