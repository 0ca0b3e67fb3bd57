-- A certificate is read as a table, or as a problem and what is said of its diagrams.
use Rattle.std.proofs.Common.{◌≡◌, ◌∙◌, ℕ, List, [], ◌∷◌, Bool, true, false, Result, Ok, Err, codes, refl, sym, ap, inl, inr}
use Rattle.std.specs.Str.{bytes_eq}
use Rattle.std.proofs.lemmas.Bool.{and_parts}
use Rattle.std.proofs.lemmas.Slice.Eq.{bytes_eq-Decides}
use Rattle.text_lines.specs.Lines.{NumberedLine, Text, text_of}
use Rattle.text_items.specs.declared.fault.TextFault.{TextFault}
use Rattle.text_items.specs.declared.fault.TextFault.TheVariants.{Malformed}
use Rattle.text_items.specs.Reading.{next_line, next_token, word}
use Rattle.text_items.specs.Numbers.{numbers_behind}
use Rattle.text_items.specs.Grids.{x_at, grid_item}
use Rattle.verdict_text.specs.Diagrams.{diagram_item}
use Rattle.verdict_text.specs.Problems.{problem_item, check_in}
use Rattle.verdict_core.specs.declared.problem.ProblemText.{ProblemText}
use Rattle.number_text.specs.declared.said.Said.{Said}
use Rattle.number_text.specs.Said.{said_in, said_of}
use Rattle.table_check.specs.declared.tables.KnotTable.{KnotTable}
use Rattle.table_check.specs.Tables.{is_fourth_line, starts_table, begins_table, knot_table_of}
use Rattle.reply_text.specs.declared.reply.PlainReply.{PlainReply}
use Rattle.reply_text.specs.Reply.{AnswersRead}
use Rattle.table_check.specs.Answer.{AnswersTable, IsTableCertificate}
use Rattle.check_job.specs.Input.{as_pair, as_table, certificate_of}
use Rattle.check_job.specs.Answer.{AnswersPair, AnswersCheck}
use Rattle.check_job.specs.CertificateTruth.{IsTruePair, IsCertificate}

as_table_answered : (read : Result KnotTable TextFault) (reply : PlainReply) → AnswersRead AnswersTable read reply
    → AnswersRead AnswersCheck (as_table read) reply
as_table_answered (Ok table) reply answers = answers
as_table_answered (Err fault) reply answers = answers

as_pair_answered : (read : Result (ProblemText × Said) TextFault) (reply : PlainReply) → AnswersRead AnswersPair read reply
    → AnswersRead AnswersCheck (as_pair read) reply
as_pair_answered (Ok pair) reply answers = answers
as_pair_answered (Err fault) reply answers = answers

pub table_answered : (bytes : List ℕ) (reply : PlainReply) → begins_table bytes ≡ true → AnswersRead AnswersTable (knot_table_of bytes) reply
    → AnswersRead AnswersCheck (certificate_of bytes) reply
table_answered bytes reply begins answers = rw begins (as_table_answered (knot_table_of bytes) reply answers)

pub pair_answered : (bytes : List ℕ) (reply : PlainReply) → begins_table bytes ≡ false → AnswersRead AnswersPair (said_of bytes) reply
    → AnswersRead AnswersCheck (certificate_of bytes) reply
pair_answered bytes reply begins answers = rw begins (as_pair_answered (said_of bytes) reply answers)

pub table_true : (bytes : List ℕ) → begins_table bytes ≡ true → IsTableCertificate bytes → IsCertificate bytes
table_true bytes begins is = record { certificate = inr is.table; read = rw begins (ap as_table is.read); is_true = is.is_true }

pub pair_true : (bytes : List ℕ) → begins_table bytes ≡ false → IsTruePair bytes → IsCertificate bytes
pair_true bytes begins is = record { certificate = inl (is.problem, is.said); read = rw begins (ap as_pair is.read); is_true = is.is_true }

-- ---- what is read as a problem with what is said of its diagrams begins as no table

fourth_tokens : (tokens : List (List ℕ)) → is_fourth_line tokens ≡ true → tokens ≡ codes "certificate" ∷ codes "4" ∷ []
fourth_tokens [] is = absurd cc
fourth_tokens (word ∷ []) is = absurd cc
fourth_tokens (word ∷ version ∷ []) is =
    let both = and_parts (bytes_eq word (codes "certificate")) (bytes_eq version (codes "4")) is in
    let first : word ≡ codes "certificate" = (bytes_eq-Decides word (codes "certificate")).0 both.0 in
    let second : version ≡ codes "4" = (bytes_eq-Decides version (codes "4")).0 both.1 in
    rw (first, second) refl
fourth_tokens (word ∷ version ∷ token ∷ tokens) is = absurd cc

no_problem : (n ending : ℕ) (lines : List NumberedLine)
    → problem_item (record { lines = record { number = n; tokens = codes "certificate" ∷ codes "4" ∷ [] } ∷ lines; ending = ending }) ≡ Err (Malformed n)
unfolding problem_item diagram_item grid_item next_line x_at numbers_behind word next_token
no_problem n ending lines = refl

not_said : (text : Text) (n : ℕ) (x : ProblemText × Said) → problem_item text ≡ Err (Malformed n) → said_in text ≡ Ok x → ⊥
unfolding check_in
not_said text n x none read =
    let fails : said_in text ≡ Err (Malformed n) = rw none refl in
    let no : ◌≡◌ {A = Result (ProblemText × Said) TextFault} (Err (Malformed n)) (Ok x) = sym fails ∙ read in
    cc

begins_none : (text : Text) (x : ProblemText × Said) → said_in text ≡ Ok x → starts_table text.lines ≡ false
begins_none text x read = by text.lines refl (starts_table text.lines) refl
  where
    by : (lines : List NumberedLine) → text.lines ≡ lines → (t : Bool) → starts_table text.lines ≡ t → starts_table text.lines ≡ false
    by lines are false is = is
    by [] are true is = absurd (let no : false ≡ true = sym (ap starts_table are) ∙ is in cc)
    by (line ∷ lines) are true is =
        let tokens = fourth_tokens line.tokens (sym (ap starts_table are) ∙ is) in
        let whole : text ≡ record { lines = record { number = line.number; tokens = codes "certificate" ∷ codes "4" ∷ [] } ∷ lines; ending = text.ending } =
        rw (are, tokens) refl in
        absurd (not_said text line.number x (ap problem_item whole ∙ no_problem line.number text.ending lines) read)

pub pair_read_so : (bytes : List ℕ) (x : ProblemText × Said) → said_of bytes ≡ Ok x → certificate_of bytes ≡ Ok (inl x)
pair_read_so bytes x read = let none = begins_none (text_of bytes) x read in rw none (ap as_pair read)

-- ---- so is all that begins as no table, and it fails so

pub others_read_so : (bytes : List ℕ) → begins_table bytes ≡ false → certificate_of bytes ≡ as_pair (said_of bytes)
others_read_so bytes begins = rw begins refl
