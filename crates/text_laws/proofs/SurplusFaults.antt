-- One quandle more than a text may have is refused by the kind of its line.
use Rattle.std.proofs.Common.{◌≡◌, ℕ, ◌||◌, Bool, true, false, List, [], ◌∷◌, codes, Option, Some, None, Result, Err, refl}
use Rattle.std.specs.Str.{bytes_eq}
use Rattle.quandle_core.specs.Names.{NamedQuandle}
use Rattle.text_lines.specs.Lines.{NumberedLine, Text}
use Rattle.text_lines.specs.NumberTokens.{is_number}
use Rattle.text_items.specs.declared.fault.TextFault.{TextFault}
use Rattle.text_items.specs.declared.fault.TextFault.TheVariants.{Malformed, Limit}
use Rattle.text_items.specs.declared.quandles.Written.{Written}
use Rattle.text_items.specs.declared.quandles.Written.TheVariants as written
use Rattle.text_items.specs.Reading.{◌>>=◌, next_line, next_token, line_end, word, number, last_number}
use Rattle.text_items.specs.Quandles.{with_order, alexander_at, tetrahedral_at, written_at, surplus_quandle}
use Rattle.text_laws.specs.LineKinds.{read_fault, fault_by, kind_fault, has_form, is_name, surplus_kind}
use Rattle.text_laws.specs.FirstLines.{or_later, BeginsBy}
use Rattle.knot_text.proofs.StepsAgain.{line_of}
use Rattle.text_laws.proofs.NameFaults.{ByFamily, by_family, IsOther}

abbrev past : Written × NumberedLine → Result (List NamedQuandle × Text) TextFault
past name = Err (Limit name.1.number)

abbrev Refuses : (NumberedLine → Result (Written × NumberedLine) TextFault) → (List (List ℕ) → Bool) → ℕ → List (List ℕ) → Type 0
Refuses read form n rest = read_fault (read (line_of n rest) >>= past) ≡ fault_by (form rest || false) true true n

order_past : (make : ℕ → Written) (n : ℕ) (rest : List (List ℕ)) → Refuses (with_order make) (has_form (is_number ∷ [])) n rest
unfolding last_number number next_token line_end
order_past make n [] = refl
order_past make n (t ∷ []) = by (is_number t) refl
  where
    by : (b : Bool) → is_number t ≡ b → Refuses (with_order make) (has_form (is_number ∷ [])) n (t ∷ [])
    by true is = rw is refl
    by false is = rw is refl
order_past make n (t ∷ u ∷ more) = by (is_number t) refl
  where
    by : (b : Bool) → is_number t ≡ b → Refuses (with_order make) (has_form (is_number ∷ [])) n (t ∷ u ∷ more)
    by true is = rw is refl
    by false is = rw is refl

end_past : (n : ℕ) (rest : List (List ℕ)) → Refuses tetrahedral_at (has_form []) n rest
unfolding tetrahedral_at line_end
end_past n [] = refl
end_past n (t ∷ more) = refl

factor_past : (n : ℕ) (rest : List (List ℕ)) → Refuses alexander_at (has_form (is_number ∷ is_number ∷ [])) n rest
unfolding alexander_at last_number number next_token line_end
factor_past n [] = refl
factor_past n (t ∷ []) = by (is_number t) refl
  where
    by : (b : Bool) → is_number t ≡ b → Refuses alexander_at (has_form (is_number ∷ is_number ∷ [])) n (t ∷ [])
    by true is = rw is refl
    by false is = rw is refl
factor_past n (t ∷ u ∷ []) = by (is_number t) (is_number u) refl refl
  where
    by : (b c : Bool) → is_number t ≡ b → is_number u ≡ c → Refuses alexander_at (has_form (is_number ∷ is_number ∷ [])) n (t ∷ u ∷ [])
    by true true is factor = rw (is, factor) refl
    by true false is factor = rw (is, factor) refl
    by false c is factor = rw is refl
factor_past n (t ∷ u ∷ v ∷ more) = by (is_number t) (is_number u) refl refl
  where
    by : (b c : Bool) → is_number t ≡ b → is_number u ≡ c → Refuses alexander_at (has_form (is_number ∷ is_number ∷ [])) n (t ∷ u ∷ v ∷ more)
    by true true is factor = rw (is, factor) refl
    by true false is factor = rw (is, factor) refl
    by false c is factor = rw is refl

abbrev expected : ℕ → List (List ℕ) → Option TextFault
expected n name = fault_by (is_name name) true true n

other : (n : ℕ) (rest : List (List ℕ)) (family : List ℕ) → IsOther family → Some (Malformed n) ≡ expected n (family ∷ rest)
other n rest family is = rw (is.trivial, is.dihedral, is.table, is.tetrahedral, is.alexander) refl

families : (n : ℕ) (rest : List (List ℕ)) → ByFamily n rest past (λ family. expected n (family ∷ rest))
families n rest = record {
  trivial = order_past (λ k. written.Trivial k) n rest;
  dihedral = order_past (λ k. written.Dihedral k) n rest;
  tetrahedral = end_past n rest;
  alexander = factor_past n rest;
  table = order_past (λ k. written.Table k) n rest;
  none = λ family is. other n rest family is;
}

name_past : (n : ℕ) (name : List (List ℕ)) → read_fault (written_at (line_of n name) >>= past) ≡ expected n name
unfolding written_at next_token
name_past n [] = refl
name_past n (family ∷ rest) = by_family n family rest past (λ w. expected n (w ∷ rest)) (families n rest)

surplus_by : (n : ℕ) (tokens : List (List ℕ))
    → read_fault (word (codes "quandle") (line_of n tokens) >>= λ rest. written_at rest >>= past) ≡ or_later (kind_fault surplus_kind (line_of n tokens)) None
unfolding word next_token
surplus_by n [] = refl
surplus_by n (w ∷ name) = by (bytes_eq w (codes "quandle")) (is_name name) refl refl
  where
    by : (b c : Bool) → bytes_eq w (codes "quandle") ≡ b → is_name name ≡ c
        → read_fault (word (codes "quandle") (line_of n (w ∷ name)) >>= λ rest. written_at rest >>= past)
        ≡ or_later (kind_fault surplus_kind (line_of n (w ∷ name))) None
    by true true is named = rw (is, name_past n name, named) refl
    by true false is named = rw (is, name_past n name, named) refl
    by false c is named = rw is refl

pub surplus_begins : BeginsBy surplus_kind (λ tokens text. None) surplus_quandle
unfolding surplus_quandle next_line
surplus_begins line text = surplus_by line.number line.tokens
