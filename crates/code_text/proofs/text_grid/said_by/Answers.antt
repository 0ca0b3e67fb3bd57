use Rattle.std.proofs.Common.{◌≡◌, ◌<◌, ◌≤◌, ◌*◌, ◌∙◌, ℕ, List, None, true, false, length, refl, sym, ap, subst, rules}
use Rattle.std.proofs.lemmas.Bool.{true≢false}
use Rattle.std.proofs.lemmas.List.{length-map}
use Rattle.crossing_codes.specs.declared.crossing.Code.{Code}
use Rattle.code_rows.specs.CodeFault.{first_code_fault}
use Rattle.code_rows.specs.Rows.{row_of_crossing, all_names, numbered_row, IsCodeOf}
use Rattle.code_rows.proofs.AllJoined.{joined_faultless, faultless_joined}
use Rattle.code_text.specs.declared.gauss_lines.GaussPassage.{GaussPassage}
use Rattle.code_text.specs.GaussCheck.{all_of, agrees_with_gauss}
use Rattle.code_text.specs.GaussSigns.{AreSigned}
use Rattle.code_text.proofs.SignsForced.{code_forced}
use Rattle.code_text.proofs.text_grid.said_by.Goals as goal

-- signs leave the number of crossings as it is
pub are_joined-requires-clause-count : goal.are_joined-requires-clause-count
are_joined-requires-clause-count c =
    let given = c.args.text.now.rows in
    let said : Code = c.in_ok-said.said in
    let same : length said.crossings ≡ length given =
    sym (length-map said.crossings row_of_crossing)
    ∙ (ap length (c.in_ok-said.ensures.crossings.rows ∙ c.requires.rows.rows) ∙ length-map given (numbered_row (all_names given))) in
    c.in_ok-said.ensures.rest.0 ∙ (c.requires.rows.edges ∙ ap (λ (n : ℕ). 2 * n) (sym same))

-- where there are Gauss lines, the code with their signs is the only one that may have them
pub returns-then-not-agrees_with_gauss-clause-none : goal.returns-then-not-agrees_with_gauss-clause-none
returns-then-not-agrees_with_gauss-clause-none c =
    let t = c.args.text.now in
    let code = c.args.code in
    let said : Code = c.in_ok-said.said in
    let here : 0 < length c.as_slice-walks.result.now = search rules in
    let some : 0 < length t.walks = subst (λ (ws : List (List GaussPassage)). 0 < length ws) c.as_slice-walks.ensures here in
    record {
      lines = some;
      paired = c.requires.paired;
      code = (code, c.requires.rows, c.requires.faultless);
      none = λ other says.
          let passages = c.as_slice.ensures.value ∙ (c.in_ok-passages.ensures ∙ ap all_of c.as_slice-walks.ensures) in
          let are = subst (λ (ps : List GaussPassage). AreSigned ps code.crossings said.crossings) passages c.in_ok-said.ensures.crossings in
          let edges = c.in_ok-said.ensures.rest.0 in
          let loops = c.in_ok-said.ensures.rest.1 in
          let same = code_forced t.rows t.loops t.walks code said other some c.requires.rows are edges loops says.rows says.gauss in
          let has : agrees_with_gauss said t.walks ≡ true = subst (λ (z : Code). agrees_with_gauss z t.walks ≡ true) same says.gauss in
          let lacks : agrees_with_gauss said t.walks ≡ false =
          ap (agrees_with_gauss said) (sym c.as_slice-walks.ensures) ∙ (sym c.agrees_with_gauss.ensures ∙ c.if-not-agrees_with_gauss.true) in
          true≢false (sym has ∙ lacks);
    }

pub returns-then-not-are_joined-clause-none : goal.returns-then-not-are_joined-clause-none
returns-then-not-are_joined-clause-none c =
    let t = c.args.text.now in
    let code = c.args.code in
    let said : Code = c.in_ok-said.said in
    let here : 0 < length c.as_slice-walks.result.now = search rules in
    let some : 0 < length t.walks = subst (λ (ws : List (List GaussPassage)). 0 < length ws) c.as_slice-walks.ensures here in
    record {
      lines = some;
      paired = c.requires.paired;
      code = (code, c.requires.rows, c.requires.faultless);
      none = λ other says.
          let passages = c.as_slice.ensures.value ∙ (c.in_ok-passages.ensures ∙ ap all_of c.as_slice-walks.ensures) in
          let are = subst (λ (ps : List GaussPassage). AreSigned ps code.crossings said.crossings) passages c.in_ok-said.ensures.crossings in
          let edges = c.in_ok-said.ensures.rest.0 in
          let loops = c.in_ok-said.ensures.rest.1 in
          let same = code_forced t.rows t.loops t.walks code said other some c.requires.rows are edges loops says.rows says.gauss in
          let of = subst (λ (z : Code). IsCodeOf t.rows t.loops z) same says.rows in
          let none : first_code_fault said ≡ None = subst (λ (z : Code). first_code_fault z ≡ None) same says.faultless in
          let yes = c.are_joined.ensures.1 (faultless_joined t.rows t.loops said c.requires.few c.requires.paired of none) in
          let no = c.if-not-are_joined.true in
          cc;
    }

pub returns-clause-some : goal.returns-clause-some
returns-clause-some c =
    let t = c.args.text.now in
    let code = c.args.code in
    let said : Code = c.in_ok-said.said in
    let of : IsCodeOf t.rows t.loops said = record {
      rows = c.in_ok-said.ensures.crossings.rows ∙ c.requires.rows.rows;
      edges = c.in_ok-said.ensures.rest.0 ∙ c.requires.rows.edges;
      loops = c.in_ok-said.ensures.rest.1 ∙ c.requires.rows.loops;
    } in
    record {
      paired = c.requires.paired;
      rows = of;
      faultless = joined_faultless t.rows t.loops code said c.requires.few c.requires.paired c.requires.rows of c.requires.faultless
          (c.are_joined.ensures.0 c.if-not-are_joined.false);
      gauss = ap (agrees_with_gauss said) (sym c.as_slice-walks.ensures) ∙ (sym c.agrees_with_gauss.ensures ∙ c.if-not-agrees_with_gauss.false);
    }
