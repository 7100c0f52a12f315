-- Only what is written is read.
use Rattle.std.proofs.Common.{ℕ, zero, suc, ◌+◌, ◌-◌, ◌<◌, ◌≤◌, ◌≡◌, ◌==◌, ◌&&◌, inl, inr, Bool, true, false, List, [], ◌∷◌, ◌++◌, length, flat_map, codes, Option, None, Some, Result, Ok, Err, refl, sym, ap, ap₂, subst, arith, ◌∙◌}
use Rattle.std.specs.Prelude.{if◌then◌else◌, is_none, is_some, nat_le}
use Rattle.std.specs.Fmt.{decimal}
use Rattle.std.specs.List.{join_with_byte}
use Rattle.std.proofs.lemmas.Bool.{cases_lt, eqb-true, and_parts, leb-true}
use Rattle.std.proofs.lemmas.Bool.Decides.{nat_tests}
use Rattle.std.proofs.lemmas.List.{append-nil, append_assoc, flat_map_more, length-append}
use Rattle.std.proofs.lemmas.List.Splits.{join_with_byte-slice_split}
use Rattle.std.proofs.lemmas.Option.{same_Some}
use Rattle.dft_base.specs.Lexing.{Text}
use Rattle.dft_report.specs.declared.report.Header.{Header}
use Rattle.dft_report.specs.declared.report.Load.{Load}
use Rattle.dft_report.specs.declared.report.ScannedLine.{ScannedLine}
use Rattle.dft_report.specs.declared.report.UnscannedLine.{UnscannedLine}
use Rattle.dft_report.specs.declared.report.Variable.{Variable}
use Rattle.dft_report.specs.declared.report.SumLine.{SumLine}
use Rattle.dft_report.specs.declared.report.CubeLine.{CubeLine}
use Rattle.dft_report.specs.declared.report.CubeLine.TheVariants as outcome
use Rattle.dft_report.specs.declared.report.CubeReport.{CubeReport}
use Rattle.dft_report.specs.declared.report.Report.{Report}
use Rattle.dft_report.specs.Written.{chain_line, chain_lines, counts_text, cube_lines, header_line, lines_before_cubes, scanned_line, sum_line, unscanned_line, unsolvable_text, written}
use Rattle.dft_report_reader.specs.declared.error.ReadError.{ReadError}
use Rattle.dft_report_reader.specs.declared.error.ReadError.TheVariants.{K1}
use Rattle.dft_report_reader.specs.Words.{words_of}
use Rattle.dft_report_reader.specs.Saying.{Said, Title, Counts, Chain, Scanned, Unscanned, Encoded, Unsolvable, Skipped, Sum, said_of, variables_of}
use Rattle.dft_report_reader.specs.Reading.{Owing, Reading, may_be_cube, nothing_read, place_of_line, read_lines, report_by, report_in, summed, then_ended, then_lines, with_chain, with_counts, with_cube, with_owing, with_said, with_scanned, with_sum, with_title, with_unscanned}
use Rattle.dft_report_reader.specs.WrittenRead.{ReadIsWritten}
use Rattle.dft_report_reader.proofs.Lines.{behind, by_lines, front, last, lines_some, read_on}
use Rattle.dft_report_reader.proofs.Saying.{bit_word, scanned_behind}
use Rattle.dft_report_reader.proofs.CanonicalNumbers.{behind_test}
use Rattle.dft_report_reader.proofs.CanonicalWords.{said_told, variables_are, word_said, words_said}
use Rattle.dft_report_reader.proofs.Bringing.{sum_words}

-- ---- the text that has been read

-- the title and the header, up to a kind of lines
abbrev head : (stage : ℕ) → Header → Text
head zero header = []
head (suc zero) header = codes "edt report 1\n"
head (suc (suc n)) header = codes "edt report 1\n" ++ header_line header

-- an unsolvable cube of which sums are to come
abbrev owing_text : Option Owing → Text
owing_text None = []
owing_text (Some o) = codes "cube " ++ (o.name ++ (codes " unsolvable " ++ (decimal (length o.sums + o.owed) ++ (codes "\n" ++ flat_map sum_line o.sums))))

abbrev before_cubes : (stage : ℕ) → Header → List ℕ → List ScannedLine → List UnscannedLine → Text
before_cubes stage header chains scanned unscanned = ((head stage header ++ chain_lines 0 chains) ++ flat_map scanned_line scanned) ++ flat_map unscanned_line unscanned

abbrev text_of : (stage : ℕ) → Header → List ℕ → List ScannedLine → List UnscannedLine → List CubeReport → Option Owing → Text
text_of stage header chains scanned unscanned cubes owing = (before_cubes stage header chains scanned unscanned ++ flat_map cube_lines cubes) ++ owing_text owing

so_far : Reading → Text
so_far r = text_of r.stage r.header r.chains r.scanned r.unscanned r.cubes r.owing

abbrev pub IsOwed : Option Owing → Type 0
IsOwed None = Unit {0}
IsOwed (Some o) = 1 ≤ o.owed

-- lines of a kind stand only where that kind has begun
pub record IsStaged (r : Reading) : Type 0 where
  pub chains : r.stage < 2 → r.chains ≡ []
  pub scanned : r.stage < 3 → r.scanned ≡ []
  pub unscanned : r.stage < 4 → r.unscanned ≡ []
  pub cubes : r.stage < 5 → r.cubes ≡ []
  pub owing : r.stage < 5 → r.owing ≡ None
  pub owed : IsOwed r.owing

-- a line brings the text of one reading to that of another
record Adds (r : Reading) (line : Text) (s : Reading) : Type 0 where
  pub text : so_far r ++ line ≡ so_far s
  pub staged : IsStaged s

-- ---- a line more

nil_cubes : (x : Text) → (x ++ []) ++ [] ≡ x
nil_cubes x = append-nil (x ++ []) ∙ append-nil x

nil_unscanned : (x : Text) → ((x ++ []) ++ []) ++ [] ≡ x
nil_unscanned x = nil_cubes (x ++ []) ∙ append-nil x

nil_scanned : (x : Text) → (((x ++ []) ++ []) ++ []) ++ [] ≡ x
nil_scanned x = nil_unscanned (x ++ []) ∙ append-nil x

nil_chains : (x : Text) → ((((x ++ []) ++ []) ++ []) ++ []) ++ [] ≡ x
nil_chains x = nil_scanned (x ++ []) ∙ append-nil x

chains_more : (k : ℕ) (chains : List ℕ) (size : ℕ) → chain_lines k chains ++ chain_line (k + length chains) size ≡ chain_lines k (chains ++ size ∷ [])
chains_more k [] size = ap (λ (n : ℕ). chain_line n size) (omega arith) ∙ sym (append-nil (chain_line k size))
chains_more k (c ∷ chains) size =
    append_assoc (chain_line k c) (chain_lines (k + 1) chains) (chain_line (k + suc (length chains)) size)
    ∙ ap (λ (n : ℕ). chain_line k c ++ (chain_lines (k + 1) chains ++ chain_line n size)) (omega arith)
    ∙ ap (λ (t : Text). chain_line k c ++ t) (chains_more (k + 1) chains size)

-- where nothing but the header has been read
at_title : (r : Reading) → IsStaged r → r.stage ≡ 0 → so_far r ≡ []
unfolding so_far
at_title r is stage =
    ap (λ (n : ℕ). text_of n r.header r.chains r.scanned r.unscanned r.cubes r.owing) stage
    ∙ ap₂ (λ (c : List ℕ) (s : List ScannedLine). text_of 0 r.header c s r.unscanned r.cubes r.owing) (is.chains (omega (arith, stage))) (is.scanned (omega (arith, stage)))
    ∙ ap₂ (λ (u : List UnscannedLine) (c : List CubeReport). text_of 0 r.header [] [] u c r.owing) (is.unscanned (omega (arith, stage))) (is.cubes (omega (arith, stage)))
    ∙ ap (λ (o : Option Owing). text_of 0 r.header [] [] [] [] o) (is.owing (omega (arith, stage)))

at_header : (r : Reading) (stage : ℕ) (header : Header) → IsStaged r → r.stage < 2 → text_of stage header r.chains r.scanned r.unscanned r.cubes r.owing ≡ head stage header
at_header r stage header is less =
    ap₂ (λ (c : List ℕ) (s : List ScannedLine). text_of stage header c s r.unscanned r.cubes r.owing) (is.chains less) (is.scanned (omega (arith, less)))
    ∙ ap₂ (λ (u : List UnscannedLine) (c : List CubeReport). text_of stage header [] [] u c r.owing) (is.unscanned (omega (arith, less))) (is.cubes (omega (arith, less)))
    ∙ ap (λ (o : Option Owing). text_of stage header [] [] [] [] o) (is.owing (omega (arith, less)))
    ∙ nil_chains (head stage header)

is_nothing : {A : Type 0} (o : Option A) → is_none o ≡ true → o ≡ None
is_nothing None e = refl
is_nothing (Some x) e = absurd cc

adds_title : (r s : Reading) → IsStaged r → with_title r ≡ Some s → Adds r (codes "edt report 1\n") s
unfolding so_far
adds_title r s is e =
    let t = behind_test (r.stage == 0) (Some (record r { stage = 1 })) s e in
    let stage = eqb-true r.stage 0 t.0 in
    subst (λ (z : Reading). Adds r (codes "edt report 1\n") z) (same_Some (record r { stage = 1 }) s t.1) (record {
      text = ap (λ (x : Text). x ++ codes "edt report 1\n") (at_title r is stage) ∙ sym (at_header r 1 r.header is (omega (arith, stage)));
      staged = record {
        chains = λ less. is.chains (omega (arith, stage));
        scanned = λ less. is.scanned (omega (arith, stage));
        unscanned = λ less. is.unscanned (omega (arith, stage));
        cubes = λ less. is.cubes (omega (arith, stage));
        owing = λ less. is.owing (omega (arith, stage));
        owed = is.owed;
      };
    })

adds_counts : (r s : Reading) (header : Header) → IsStaged r → with_counts r header ≡ Some s → Adds r (header_line header) s
unfolding so_far
adds_counts r s header is e =
    let t = behind_test (r.stage == 1) (Some (record r { header = header; stage = 2 })) s e in
    let stage = eqb-true r.stage 1 t.0 in
    subst (λ (z : Reading). Adds r (header_line header) z) (same_Some (record r { header = header; stage = 2 }) s t.1) (record {
      text = ap (λ (x : Text). x ++ header_line header) (at_header r r.stage r.header is (omega (arith, stage)) ∙ ap (λ (n : ℕ). head n r.header) stage) ∙ sym (at_header r 2 header is (omega (arith, stage)));
      staged = record {
        chains = λ less. is.chains (omega (arith, stage));
        scanned = λ less. is.scanned (omega (arith, stage));
        unscanned = λ less. is.unscanned (omega (arith, stage));
        cubes = λ less. is.cubes (omega (arith, stage));
        owing = λ less. is.owing (omega (arith, stage));
        owed = is.owed;
      };
    })

-- where chains are read
at_chains : (r : Reading) (chains : List ℕ) → IsStaged r → r.stage ≡ 2 → text_of r.stage r.header chains r.scanned r.unscanned r.cubes r.owing ≡ head r.stage r.header ++ chain_lines 0 chains
at_chains r chains is stage =
    ap₂ (λ (s : List ScannedLine) (u : List UnscannedLine). text_of r.stage r.header chains s u r.cubes r.owing) (is.scanned (omega (arith, stage))) (is.unscanned (omega (arith, stage)))
    ∙ ap₂ (λ (c : List CubeReport) (o : Option Owing). text_of r.stage r.header chains [] [] c o) (is.cubes (omega (arith, stage))) (is.owing (omega (arith, stage)))
    ∙ nil_scanned (head r.stage r.header ++ chain_lines 0 chains)

adds_chain : (r s : Reading) (chain size : ℕ) → IsStaged r → with_chain r chain size ≡ Some s → Adds r (chain_line chain size) s
unfolding so_far
adds_chain r s chain size is e =
    let t = behind_test ((r.stage == 2) && (chain == length r.chains)) (Some (record r { chains = r.chains ++ size ∷ [] })) s e in
    let b = and_parts (r.stage == 2) (chain == length r.chains) t.0 in
    let stage = eqb-true r.stage 2 b.0 in
    let count : chain ≡ 0 + length r.chains = (let same = eqb-true chain (length r.chains) b.1 in omega (arith, same)) in
    let h : Text = head r.stage r.header in
    subst (λ (z : Reading). Adds r (chain_line chain size) z) (same_Some (record r { chains = r.chains ++ size ∷ [] }) s t.1) (record {
      text = ap (λ (x : Text). x ++ chain_line chain size) (at_chains r r.chains is stage) ∙ append_assoc h (chain_lines 0 r.chains) (chain_line chain size)
          ∙ ap (λ (n : ℕ). h ++ (chain_lines 0 r.chains ++ chain_line n size)) count ∙ ap (λ (x : Text). h ++ x) (chains_more 0 r.chains size) ∙ sym (at_chains r (r.chains ++ size ∷ []) is stage);
      staged = record {
        chains = λ less. absurd (omega (arith, stage, less));
        scanned = is.scanned;
        unscanned = is.unscanned;
        cubes = is.cubes;
        owing = is.owing;
        owed = is.owed;
      };
    })

-- a header that is read stays
head_stays : (m n : ℕ) (header : Header) → 2 ≤ m → 2 ≤ n → head m header ≡ head n header
head_stays zero n header a b = absurd (omega (arith, a))
head_stays (suc zero) n header a b = absurd (omega (arith, a))
head_stays (suc (suc m)) zero header a b = absurd (omega (arith, b))
head_stays (suc (suc m)) (suc zero) header a b = absurd (omega (arith, b))
head_stays (suc (suc m)) (suc (suc n)) header a b = refl

-- where scanned flip-flops are read
at_scanned : (r : Reading) (stage : ℕ) (scanned : List ScannedLine) → IsStaged r → r.stage ≤ 3 → text_of stage r.header r.chains scanned r.unscanned r.cubes r.owing ≡ (head stage r.header ++ chain_lines 0 r.chains) ++ flat_map scanned_line scanned
at_scanned r stage scanned is most =
    ap₂ (λ (u : List UnscannedLine) (c : List CubeReport). text_of stage r.header r.chains scanned u c r.owing) (is.unscanned (omega (arith, most))) (is.cubes (omega (arith, most)))
    ∙ ap (λ (o : Option Owing). text_of stage r.header r.chains scanned [] [] o) (is.owing (omega (arith, most)))
    ∙ nil_unscanned ((head stage r.header ++ chain_lines 0 r.chains) ++ flat_map scanned_line scanned)

adds_scanned : (r s : Reading) (line : ScannedLine) → IsStaged r → with_scanned r line ≡ Some s → Adds r (scanned_line line) s
unfolding so_far
adds_scanned r s line is e =
    let t = behind_test (nat_le 2 r.stage && nat_le r.stage 3) (Some (record r { scanned = r.scanned ++ line ∷ []; stage = 3 })) s e in
    let b = and_parts (nat_le 2 r.stage) (nat_le r.stage 3) t.0 in
    let low = leb-true 2 r.stage b.0 in
    let most = leb-true r.stage 3 b.1 in
    subst (λ (z : Reading). Adds r (scanned_line line) z) (same_Some (record r { scanned = r.scanned ++ line ∷ []; stage = 3 }) s t.1) (record {
      text = ap (λ (x : Text). x ++ scanned_line line) (at_scanned r r.stage r.scanned is most) ∙ flat_map_more scanned_line (head r.stage r.header ++ chain_lines 0 r.chains) r.scanned line
          ∙ ap (λ (x : Text). (x ++ chain_lines 0 r.chains) ++ flat_map scanned_line (r.scanned ++ line ∷ [])) (head_stays r.stage 3 r.header low (omega arith)) ∙ sym (at_scanned r 3 (r.scanned ++ line ∷ []) is most);
      staged = record {
        chains = λ less. absurd (omega (arith, less));
        scanned = λ less. absurd (omega (arith, less));
        unscanned = λ less. is.unscanned (omega (arith, most));
        cubes = λ less. is.cubes (omega (arith, most));
        owing = λ less. is.owing (omega (arith, most));
        owed = is.owed;
      };
    })

-- where other flip-flops are read
at_unscanned : (r : Reading) (stage : ℕ) (unscanned : List UnscannedLine) → IsStaged r → r.stage ≤ 4 → text_of stage r.header r.chains r.scanned unscanned r.cubes r.owing ≡ before_cubes stage r.header r.chains r.scanned unscanned
at_unscanned r stage unscanned is most =
    ap₂ (λ (c : List CubeReport) (o : Option Owing). text_of stage r.header r.chains r.scanned unscanned c o) (is.cubes (omega (arith, most))) (is.owing (omega (arith, most)))
    ∙ nil_cubes (before_cubes stage r.header r.chains r.scanned unscanned)

adds_unscanned : (r s : Reading) (line : UnscannedLine) → IsStaged r → with_unscanned r line ≡ Some s → Adds r (unscanned_line line) s
unfolding so_far
adds_unscanned r s line is e =
    let t = behind_test (nat_le 2 r.stage && nat_le r.stage 4) (Some (record r { unscanned = r.unscanned ++ line ∷ []; stage = 4 })) s e in
    let b = and_parts (nat_le 2 r.stage) (nat_le r.stage 4) t.0 in
    let low = leb-true 2 r.stage b.0 in
    let most = leb-true r.stage 4 b.1 in
    subst (λ (z : Reading). Adds r (unscanned_line line) z) (same_Some (record r { unscanned = r.unscanned ++ line ∷ []; stage = 4 }) s t.1) (record {
      text = ap (λ (x : Text). x ++ unscanned_line line) (at_unscanned r r.stage r.unscanned is most)
          ∙ flat_map_more unscanned_line ((head r.stage r.header ++ chain_lines 0 r.chains) ++ flat_map scanned_line r.scanned) r.unscanned line
          ∙ ap (λ (x : Text). ((x ++ chain_lines 0 r.chains) ++ flat_map scanned_line r.scanned) ++ flat_map unscanned_line (r.unscanned ++ line ∷ [])) (head_stays r.stage 4 r.header low (omega arith))
          ∙ sym (at_unscanned r 4 (r.unscanned ++ line ∷ []) is most);
      staged = record {
        chains = λ less. absurd (omega (arith, less));
        scanned = λ less. absurd (omega (arith, less));
        unscanned = λ less. absurd (omega (arith, less));
        cubes = λ less. is.cubes (omega (arith, most));
        owing = λ less. is.owing (omega (arith, most));
        owed = is.owed;
      };
    })

-- ---- cubes

record MayBeCube (r : Reading) : Type 0 where
  pub low : 2 ≤ r.stage
  pub owing : r.owing ≡ None

may_be : (r : Reading) → may_be_cube r ≡ true → MayBeCube r
may_be r e =
    let a = and_parts (nat_le 2 r.stage && is_none r.owing) (is_some r.header.load) e in
    let b = and_parts (nat_le 2 r.stage) (is_none r.owing) a.0 in
    record { low = leb-true 2 r.stage b.0; owing = is_nothing r.owing b.1 }

-- all that stands before cubes, at the last stage
abbrev base : Reading → Text
base r = before_cubes 5 r.header r.chains r.scanned r.unscanned

at_cubes : (r : Reading) → MayBeCube r → so_far r ≡ base r ++ flat_map cube_lines r.cubes
unfolding so_far
at_cubes r may =
    ap₂ (λ (h : Text) (o : Option Owing). ((((h ++ chain_lines 0 r.chains) ++ flat_map scanned_line r.scanned) ++ flat_map unscanned_line r.unscanned) ++ flat_map cube_lines r.cubes) ++ owing_text o) (head_stays r.stage 5 r.header may.low (omega arith)) may.owing
    ∙ append-nil (base r ++ flat_map cube_lines r.cubes)

late : (r : Reading) → r.stage ≡ 5 → IsOwed r.owing → IsStaged r
late r stage owed = record {
  chains = λ less. absurd (omega (arith, stage, less));
  scanned = λ less. absurd (omega (arith, stage, less));
  unscanned = λ less. absurd (omega (arith, stage, less));
  cubes = λ less. absurd (omega (arith, stage, less));
  owing = λ less. absurd (omega (arith, stage, less));
  owed = owed;
}

abbrev cubed : Reading → CubeReport → Reading
cubed r cube = record r { cubes = r.cubes ++ cube ∷ []; stage = 5 }

adds_cube : (r s : Reading) (name : Text) (o : CubeLine) → IsStaged r → with_cube r name o ≡ Some s → Adds r (cube_lines (record { name = name; outcome = o })) s
unfolding so_far
adds_cube r s name o is e =
    let cube : CubeReport = record { name = name; outcome = o } in
    let t = behind_test (may_be_cube r) (Some (cubed r cube)) s e in
    let may = may_be r t.0 in
    subst (λ (z : Reading). Adds r (cube_lines cube) z) (same_Some (cubed r cube) s t.1) (record {
      text = ap (λ (x : Text). x ++ cube_lines cube) (at_cubes r may) ∙ flat_map_more cube_lines (base r) r.cubes cube
          ∙ sym (ap (λ (w : Option Owing). (base r ++ flat_map cube_lines (r.cubes ++ cube ∷ [])) ++ owing_text w) may.owing ∙ append-nil (base r ++ flat_map cube_lines (r.cubes ++ cube ∷ [])));
      staged = late (cubed r cube) refl is.owed;
    })

-- a cube of which sums are to come
adds_owing : (r s : Reading) (name : Text) (sums : ℕ) → IsStaged r → 1 ≤ sums → with_owing r name sums ≡ Some s → Adds r (codes "cube " ++ (name ++ (codes " unsolvable " ++ (decimal sums ++ codes "\n")))) s
unfolding so_far
adds_owing r s name sums is some e =
    let o : Owing = record { name = name; sums = []; owed = sums } in
    let next : Reading = record r { owing = Some o; stage = 5 } in
    let line : Text = codes "cube " ++ (name ++ (codes " unsolvable " ++ (decimal sums ++ codes "\n"))) in
    let t = behind_test (may_be_cube r) (Some next) s e in
    let may = may_be r t.0 in
    let count : sums ≡ 0 + sums = omega arith in
    subst (λ (z : Reading). Adds r line z) (same_Some next s t.1) (record {
      text = ap (λ (x : Text). x ++ line) (at_cubes r may) ∙ ap (λ (n : ℕ). (base r ++ flat_map cube_lines r.cubes) ++ (codes "cube " ++ (name ++ (codes " unsolvable " ++ (decimal n ++ codes "\n"))))) count;
      staged = late next refl some;
    })

adds_unsolvable : (t : Bool) (r s : Reading) (name : Text) (sums : ℕ) → IsStaged r → (sums == 0) ≡ t → (if t then with_cube r name (outcome.Unsolvable []) else with_owing r name sums) ≡ Some s →
    Adds r (codes "cube " ++ (name ++ (codes " unsolvable " ++ (decimal sums ++ codes "\n")))) s
unfolding cube_lines unsolvable_text
adds_unsolvable true r s name sums is none e =
    subst (λ (n : ℕ). Adds r (codes "cube " ++ (name ++ (codes " unsolvable " ++ (decimal n ++ codes "\n")))) s) (sym (eqb-true sums 0 none)) (adds_cube r s name (outcome.Unsolvable []) is e)
adds_unsolvable false r s name sums is none e = adds_owing r s name sums is (not_zero sums none) e
  where
    not_zero : (n : ℕ) → (n == 0) ≡ false → 1 ≤ n
    not_zero n e = grind (arith, nat_tests, e)

-- ---- sums

at_sums : (r : Reading) (o : Owing) → r.owing ≡ Some o → so_far r ≡ (before_cubes r.stage r.header r.chains r.scanned r.unscanned ++ flat_map cube_lines r.cubes) ++ owing_text (Some o)
unfolding so_far
at_sums r o is = ap (λ (w : Option Owing). (before_cubes r.stage r.header r.chains r.scanned r.unscanned ++ flat_map cube_lines r.cubes) ++ owing_text w) is

five : (r : Reading) (o : Owing) → IsStaged r → r.owing ≡ Some o → 5 ≤ r.stage
five r o is owing = at_least 5 r.stage (λ less. no (sym (is.owing less) ∙ owing))
  where
    no : None ≡ Some o → ⊥
    no e = absurd cc

    at_least : (n m : ℕ) → (m < n → ⊥) → n ≤ m
    at_least n m h = elim (cases_lt m n) [ inl less ↦ absurd (h less) | inr most ↦ most ]

sums_text : (name : Text) (count : ℕ) (sums : List SumLine) → Text
sums_text name count sums = codes "cube " ++ (name ++ (codes " unsolvable " ++ (decimal count ++ (codes "\n" ++ flat_map sum_line sums))))

one_sum_more : (name : Text) (count : ℕ) (sums : List SumLine) (line : SumLine) → sums_text name count sums ++ sum_line line ≡ sums_text name count (sums ++ line ∷ [])
unfolding sums_text
one_sum_more name count sums line =
    append_assoc (codes "cube ") (name ++ (codes " unsolvable " ++ (decimal count ++ (codes "\n" ++ flat_map sum_line sums)))) (sum_line line)
    ∙ ap (λ (x : Text). codes "cube " ++ x) (append_assoc name (codes " unsolvable " ++ (decimal count ++ (codes "\n" ++ flat_map sum_line sums))) (sum_line line)
    ∙ ap (λ (x : Text). name ++ x) (append_assoc (codes " unsolvable ") (decimal count ++ (codes "\n" ++ flat_map sum_line sums)) (sum_line line)
    ∙ ap (λ (x : Text). codes " unsolvable " ++ x) (append_assoc (decimal count) (codes "\n" ++ flat_map sum_line sums) (sum_line line)
    ∙ ap (λ (x : Text). decimal count ++ x) (flat_map_more sum_line (codes "\n") sums line))))

-- by whether it is the last one
adds_summed : (t : Bool) (r : Reading) (o : Owing) (line : SumLine) → IsStaged r → r.owing ≡ Some o → 1 ≤ o.owed → nat_le o.owed 1 ≡ t →
    Adds r (sum_line line) (if t then record r { cubes = r.cubes ++ record { name = o.name; outcome = outcome.Unsolvable (o.sums ++ line ∷ []) } ∷ []; owing = None } else record r { owing = Some (record { name = o.name; sums = o.sums ++ line ∷ []; owed = o.owed - 1 }) })
unfolding so_far sums_text cube_lines unsolvable_text
adds_summed true r o line is owing some t =
    let all : Text = before_cubes r.stage r.header r.chains r.scanned r.unscanned in
    let cube : CubeReport = record { name = o.name; outcome = outcome.Unsolvable (o.sums ++ line ∷ []) } in
    let most = leb-true o.owed 1 t in
    let count : length o.sums + o.owed ≡ length (o.sums ++ line ∷ []) = (let l = length-append o.sums (line ∷ []) in omega (arith, l, some, most)) in
    let fifth = five r o is owing in
    record {
      text = ap (λ (x : Text). x ++ sum_line line) (at_sums r o owing) ∙ append_assoc (all ++ flat_map cube_lines r.cubes) (sums_text o.name (length o.sums + o.owed) o.sums) (sum_line line)
          ∙ ap (λ (x : Text). (all ++ flat_map cube_lines r.cubes) ++ x) (one_sum_more o.name (length o.sums + o.owed) o.sums line ∙ ap (λ (n : ℕ). sums_text o.name n (o.sums ++ line ∷ [])) count)
          ∙ flat_map_more cube_lines all r.cubes cube ∙ sym (append-nil (all ++ flat_map cube_lines (r.cubes ++ cube ∷ [])));
      staged = record {
        chains = λ less. absurd (omega (arith, fifth, less));
        scanned = λ less. absurd (omega (arith, fifth, less));
        unscanned = λ less. absurd (omega (arith, fifth, less));
        cubes = λ less. absurd (omega (arith, fifth, less));
        owing = λ less. absurd (omega (arith, fifth, less));
        owed = tt;
      };
    }
adds_summed false r o line is owing some t =
    let all : Text = before_cubes r.stage r.header r.chains r.scanned r.unscanned in
    let more = not_most o.owed 1 t in
    let count : length o.sums + o.owed ≡ length (o.sums ++ line ∷ []) + (o.owed - 1) = (let l = length-append o.sums (line ∷ []) in omega (arith, l, more)) in
    let fifth = five r o is owing in
    record {
      text = ap (λ (x : Text). x ++ sum_line line) (at_sums r o owing) ∙ append_assoc (all ++ flat_map cube_lines r.cubes) (sums_text o.name (length o.sums + o.owed) o.sums) (sum_line line)
          ∙ ap (λ (x : Text). (all ++ flat_map cube_lines r.cubes) ++ x) (one_sum_more o.name (length o.sums + o.owed) o.sums line ∙ ap (λ (n : ℕ). sums_text o.name n (o.sums ++ line ∷ [])) count);
      staged = record {
        chains = λ less. absurd (omega (arith, fifth, less));
        scanned = λ less. absurd (omega (arith, fifth, less));
        unscanned = λ less. absurd (omega (arith, fifth, less));
        cubes = λ less. absurd (omega (arith, fifth, less));
        owing = λ less. absurd (omega (arith, fifth, less));
        owed = omega (arith, more);
      };
    }
  where
    not_most : (a b : ℕ) → nat_le a b ≡ false → b < a
    not_most a b e = grind (arith, nat_tests, e)

-- the line of what is said
abbrev line_said : Said → Text
line_said s = word_said s ++ behind (words_said s) (10 ∷ [])

adds_sum : (ow : Option Owing) (vars : Option (List Variable)) (r s : Reading) (name : Text) (bit : Bool) (words : List Text) → IsStaged r → r.owing ≡ ow → IsOwed ow → variables_of words ≡ vars → with_sum r ow name bit vars ≡ Some s →
    Adds r (line_said (Sum name bit words)) s
adds_sum None vars r s name bit words is owing owed v e = absurd cc
adds_sum (Some o) None r s name bit words is owing owed v e = absurd cc
adds_sum (Some o) (Some vs) r s name bit words is owing owed v e =
    let line : SumLine = record { name = name; bit = bit; variables = vs } in
    let written : sum_line line ≡ line_said (Sum name bit words) = sum_words line ∙ ap (λ (ws : List Text). codes "sum" ++ behind (name ∷ bit_word bit ∷ ws) (10 ∷ [])) (sym (variables_are words vs v)) in
    subst (λ (x : Text). Adds r x s) written (subst (λ (z : Reading). Adds r (sum_line line) z) (same_Some (summed r o line) s e) (adds_summed (nat_le o.owed 1) r o line is owing owed refl))

-- ---- any line

header_words : (cells chains : ℕ) (load : Option Load) → header_line (record { cells = cells; chains = chains; load = load }) ≡ line_said (Counts (record { cells = cells; chains = chains; load = load }))
unfolding header_line counts_text
header_words cells chains None = refl
header_words cells chains (Some load) =
    ap (λ (x : Text). codes "cells " ++ (decimal cells ++ (codes " chains " ++ (decimal chains ++ x))))
    (append_assoc (codes " cycles ") (decimal load.cycles ++ (codes " variables " ++ decimal load.variables)) (codes "\n")
    ∙ ap (λ (x : Text). codes " cycles " ++ x) (append_assoc (decimal load.cycles) (codes " variables " ++ decimal load.variables) (codes "\n")
    ∙ ap (λ (x : Text). decimal load.cycles ++ x) (append_assoc (codes " variables ") (decimal load.variables) (codes "\n"))))

adds_said : (said : Said) (r s : Reading) → IsStaged r → with_said r (Some said) ≡ Some s → Adds r (line_said said) s
unfolding chain_line unscanned_line cube_lines
adds_said Title r s is e = adds_title r s is e
adds_said (Counts header) r s is e = subst (λ (x : Text). Adds r x s) (header_words header.cells header.chains header.load) (adds_counts r s header is e)
adds_said (Chain chain size) r s is e = adds_chain r s chain size is e
adds_said (Scanned name domain chain place falling) r s is e =
    subst (λ (x : Text). Adds r x s) (scanned_behind name domain chain place falling) (adds_scanned r s (record { name = name; domain = domain; chain = chain; place = place; falling = falling }) is e)
adds_said (Unscanned name rule) r s is e = adds_unscanned r s (record { name = name; rule = rule }) is e
adds_said (Encoded name pattern) r s is e = adds_cube r s name (outcome.Encoded pattern) is e
adds_said (Unsolvable name sums) r s is e = adds_unsolvable (sums == 0) r s name sums is refl e
adds_said (Skipped name cell) r s is e = adds_cube r s name (outcome.Skipped cell) is e
adds_said (Sum name bit words) r s is e = adds_sum r.owing (variables_of words) r s name bit words is refl is.owed refl e

-- ---- the whole

joined_behind : (word : Text) (words : List Text) (rest : Text) → join_with_byte 32 (word ∷ words) ++ rest ≡ word ++ behind words rest
joined_behind word [] rest = refl
joined_behind word (next ∷ words) rest =
    append_assoc word (32 ∷ join_with_byte 32 (next ∷ words)) rest ∙ ap (λ (x : Text). word ++ (32 ∷ x)) (joined_behind next words rest)

line_is : (line : Text) (words : List Text) (said : Option Said) (r s : Reading) → IsStaged r → words_of line ≡ words → said_of words ≡ said → with_said r said ≡ Some s → Adds r (line ++ 10 ∷ []) s
line_is line words None r s is f g e = absurd cc
line_is line [] (Some said) r s is f g e = absurd (no g)
  where
    no : None ≡ Some said → ⊥
    no e = absurd cc
line_is line (word ∷ words) (Some said) r s is f g e =
    let t = said_told word words said g in
    let back : line ≡ join_with_byte 32 (word ∷ words) = sym (join_with_byte-slice_split 32 line) ∙ ap (join_with_byte 32) f in
    let text : line ++ 10 ∷ [] ≡ line_said said = ap (λ (x : Text). x ++ 10 ∷ []) back ∙ joined_behind word words (10 ∷ []) ∙ ap₂ (λ (x : Text) (xs : List Text). x ++ behind xs (10 ∷ [])) t.0 t.1 in
    subst (λ (x : Text). Adds r x s) (sym text) (adds_said said r s is e)

-- a line leaves lines of a kind where that kind has begun
pub line_staged : (line : Text) (r s : Reading) → IsStaged r → with_said r (said_of (words_of line)) ≡ Some s → IsStaged s
line_staged line r s is e = (line_is line (words_of line) (said_of (words_of line)) r s is refl refl e).staged

-- lines with the end of each
abbrev ended_lines : List Text → Text
ended_lines [] = []
ended_lines (line ∷ lines) = (line ++ 10 ∷ []) ++ ended_lines lines

abbrev pub IsOk : Result Reading ReadError → Reading → Type 0
IsOk o s = o ≡ Ok s

pub same_ok : (a b : Reading) → IsOk (Ok a) b → a ≡ b
same_ok a b e = cc

lines_add : (lines : List Text) (r s : Reading) (k : ℕ) → IsStaged r → read_lines r k lines ≡ Ok s → Adds r (ended_lines lines) s
lines_add [] r s k is e = subst (λ (z : Reading). Adds r [] z) (same_ok r s e) (record { text = append-nil (so_far r); staged = is })
lines_add (line ∷ lines) r s k is e = by (with_said r (said_of (words_of line))) refl e (λ t. lines_add lines t s (suc k))
  where
    by : (o : Option Reading) → with_said r (said_of (words_of line)) ≡ o → then_lines (suc k) o (λ t. read_lines t (suc k) lines) ≡ Ok s → ((t : Reading) → IsStaged t → read_lines t (suc k) lines ≡ Ok s → Adds t (ended_lines lines) s) → Adds r (ended_lines (line ∷ lines)) s
    by None f e later = absurd cc
    by (Some t) f e later =
        let one = line_is line (words_of line) (said_of (words_of line)) r t is refl refl f in
        let rest = later t one.staged e in
        record { text = sym (append_assoc (so_far r) (line ++ 10 ∷ []) (ended_lines lines)) ∙ ap (λ (x : Text). x ++ ended_lines lines) one.text ∙ rest.text; staged = rest.staged }

joined_lines : (line : Text) (lines : List Text) → join_with_byte 10 (line ∷ lines) ≡ ended_lines (front (line ∷ lines)) ++ last (line ∷ lines)
unfolding front last
joined_lines line [] = refl
joined_lines line (next ∷ lines) =
    ap (λ (x : Text). line ++ (10 ∷ x)) (joined_lines next lines) ∙ sym (append_assoc (line ++ 10 ∷ []) (ended_lines (front (next ∷ lines))) (last (next ∷ lines)) ∙ append_assoc line (10 ∷ []) (ended_lines (front (next ∷ lines)) ++ last (next ∷ lines)))

is_empty : (text : Text) → nat_le (length text) 0 ≡ true → text ≡ []
is_empty [] e = refl
is_empty (b ∷ text) e = absurd (no (length text) e)
  where
    no : (n : ℕ) → nat_le (suc n) 0 ≡ true → ⊥
    no n e = grind (arith, nat_tests, e)

pub nothing_staged : IsStaged nothing_read
nothing_staged = record { chains = λ less. refl; scanned = λ less. refl; unscanned = λ less. refl; cubes = λ less. refl; owing = λ less. refl; owed = tt }

pub behind_end : {A E : Type 0} (t : Bool) (x y : A) (error : E) → (if t then Ok x else Err error) ≡ Ok y → (t ≡ true) × (x ≡ y)
behind_end true x y error e = (refl, cc)
behind_end false x y error e = absurd cc

whole_text : (s : Reading) → 2 ≤ s.stage → s.owing ≡ None → so_far s ≡ written (report_in s)
unfolding so_far written lines_before_cubes
whole_text s low owing =
    let title : Text = codes "edt report 1\n" in
    let header : Text = header_line s.header in
    let chains : Text = chain_lines 0 s.chains in
    let scanned : Text = flat_map scanned_line s.scanned in
    let unscanned : Text = flat_map unscanned_line s.unscanned in
    let cubes : Text = flat_map cube_lines s.cubes in
    ap₂ (λ (h : Text) (o : Option Owing). ((((h ++ chains) ++ scanned) ++ unscanned) ++ cubes) ++ owing_text o) (head_stays s.stage 2 s.header low (omega arith)) owing
    ∙ append-nil (((((title ++ header) ++ chains) ++ scanned) ++ unscanned) ++ cubes)
    ∙ ap (λ (x : Text). x ++ cubes) (append_assoc ((title ++ header) ++ chains) scanned unscanned ∙ append_assoc (title ++ header) chains (scanned ++ unscanned) ∙ append_assoc title header (chains ++ (scanned ++ unscanned)))

ends_whole : (number : ℕ) (lines : List Text) (final : Text) (o : Result Reading ReadError) (r : Report) → read_lines nothing_read 0 lines ≡ o → then_ended number final o ≡ Ok r → ended_lines lines ++ final ≡ written r
unfolding so_far
ends_whole number lines final (Err error) r f e = absurd cc
ends_whole number lines final (Ok s) r f e =
    let t = behind_end (nat_le (length final) 0 && nat_le 2 s.stage && is_none s.owing) (report_in s) r (K1 (place_of_line number)) e in
    let a = and_parts (nat_le (length final) 0 && nat_le 2 s.stage) (is_none s.owing) t.0 in
    let b = and_parts (nat_le (length final) 0) (nat_le 2 s.stage) a.0 in
    let added = lines_add lines nothing_read s 0 nothing_staged f in
    ap (λ (x : Text). ended_lines lines ++ x) (is_empty final b.0) ∙ append-nil (ended_lines lines) ∙ added.text ∙ whole_text s (leb-true 2 s.stage b.1) (is_nothing s.owing a.1) ∙ ap written t.1

pub read_is_written : ReadIsWritten
unfolding read_on
read_is_written text r e =
    let some = lines_some text in
    let first : Text = some.0 in
    let more : List Text = some.1 in
    let by : then_ended (suc (length more)) (last (first ∷ more)) (read_lines nothing_read 0 (front (first ∷ more))) ≡ Ok r = sym (by_lines first more) ∙ ap report_by (sym some.2) ∙ e in
    sym (join_with_byte-slice_split 10 text) ∙ ap (join_with_byte 10) some.2 ∙ joined_lines first more
    ∙ ends_whole (suc (length more)) (front (first ∷ more)) (last (first ∷ more)) (read_lines nothing_read 0 (front (first ∷ more))) r refl by
