-- What is read can be read.
use Rattle.std.proofs.Common.{ℕ, suc, ◌+◌, ◌-◌, ◌≤◌, ◌≡◌, ◌==◌, ◌&&◌, Bool, true, false, List, [], ◌∷◌, ◌++◌, length, Option, None, Some, Result, Ok, Err, refl, sym, ap, subst, arith, ◌∙◌}
use Rattle.std.specs.Prelude.{if◌then◌else◌, is_none, is_some, nat_le}
use Rattle.std.proofs.lemmas.Bool.{and_parts, eqb-true}
use Rattle.std.proofs.lemmas.List.{length-append}
use Rattle.std.proofs.lemmas.Option.{none-some, same_Some}
use Rattle.std.specs.List.{AllByRecursion}
use Rattle.dft_base.specs.Lexing.{Text}
use Rattle.dft_base.specs.Name.{IsName}
use Rattle.dft_base.proofs.ListLemmas.{all_append}
use Rattle.dft_report.specs.declared.report.Header.{Header}
use Rattle.dft_report.specs.declared.report.Load.{Load}
use Rattle.dft_report.specs.declared.report.ScannedLine.{ScannedLine}
use Rattle.dft_report.specs.declared.report.UnscannedLine.{UnscannedLine}
use Rattle.dft_report.specs.declared.report.Variable.{Variable}
use Rattle.dft_report.specs.declared.report.SumLine.{SumLine}
use Rattle.dft_report.specs.declared.report.CubeLine.{CubeLine}
use Rattle.dft_report.specs.declared.report.CubeLine.TheVariants as outcome
use Rattle.dft_report.specs.declared.report.CubeReport.{CubeReport}
use Rattle.dft_report.specs.declared.report.Report.{Report}
use Rattle.dft_report_reader.specs.declared.error.ReadError.{ReadError}
use Rattle.dft_report_reader.specs.declared.error.ReadError.TheVariants.{K1}
use Rattle.dft_report_reader.specs.Words.{words_of}
use Rattle.dft_report_reader.specs.Saying.{Said, Title, Counts, Chain, Scanned, Unscanned, Encoded, Unsolvable, Skipped, Sum, said_of, variables_of}
use Rattle.dft_report_reader.specs.Reading.{Owing, Reading, may_be_cube, nothing_read, place_of_line, read_lines, report_by, report_in, summed, then_ended, then_lines, with_chain, with_counts, with_cube, with_owing, with_said, with_scanned, with_sum, with_title, with_unscanned}
use Rattle.dft_report_reader.specs.WrittenRead.{HasLoad, IsCubeReadable, IsHeaderReadable, IsOutcomeReadable, IsReadable, IsScannedReadable, IsSmall, IsSumReadable, IsUnscannedReadable, ReadIsReadable}
use Rattle.dft_report_reader.proofs.Lines.{by_lines, front, last, lines_some, read_on}
use Rattle.dft_report_reader.proofs.CanonicalNumbers.{behind_test}
use Rattle.dft_report_reader.proofs.CanonicalWords.{IsSaidReadable, said_told, variables_readable}
use Rattle.dft_report_reader.proofs.CanonicalReading.{IsOwed, IsStaged, behind_end, line_staged, nothing_staged, same_ok}

-- ---- what has been read

-- an unsolvable cube with its sums so far, and as many as are to come; it stands where there is a load
abbrev IsOwingReadable : Option Load → Option Owing → Type 0
IsOwingReadable load None = Unit {0}
IsOwingReadable load (Some o) = IsName o.name × IsSmall (length o.sums + o.owed) × AllByRecursion IsSumReadable o.sums × (is_some load ≡ true)

-- what has been read can be read
record IsReadableSoFar (r : Reading) : Type 0 where
  pub report : IsReadable (report_in r)
  pub owing : IsOwingReadable r.header.load r.owing

-- cubes where there is a load
loaded : (load : Option Load) (cubes : List CubeReport) → is_some load ≡ true → HasLoad load cubes
loaded None cubes e = absurd cc
loaded (Some load) cubes e = tt

-- no cubes
unloaded : (load : Option Load) → HasLoad load []
unloaded None = tt
unloaded (Some load) = tt

-- ---- a line more

keeps_title : (r s : Reading) → IsReadableSoFar r → with_title r ≡ Some s → IsReadableSoFar s
keeps_title r s is e =
    let t = behind_test (r.stage == 0) (Some (record r { stage = 1 })) s e in
    subst IsReadableSoFar (same_Some (record r { stage = 1 }) s t.1) (record { report = is.report; owing = is.owing })

keeps_counts : (r s : Reading) (header : Header) → IsStaged r → IsReadableSoFar r → IsHeaderReadable header → with_counts r header ≡ Some s → IsReadableSoFar s
keeps_counts r s header staged is can e =
    let t = behind_test (r.stage == 1) (Some (record r { header = header; stage = 2 })) s e in
    let stage = eqb-true r.stage 1 t.0 in
    let none = staged.cubes (omega (arith, stage)) in
    subst IsReadableSoFar (same_Some (record r { header = header; stage = 2 }) s t.1) (record {
      report = record {
        header = can;
        count = is.report.count;
        chains = is.report.chains;
        scanned = is.report.scanned;
        unscanned = is.report.unscanned;
        cubes = is.report.cubes;
        load = subst (HasLoad header.load) (sym none) (unloaded header.load);
      };
      owing = subst (IsOwingReadable header.load) (sym (staged.owing (omega (arith, stage)))) tt;
    })

keeps_chain : (r s : Reading) (chain size : ℕ) → IsReadableSoFar r → IsSmall chain → IsSmall size → with_chain r chain size ≡ Some s → IsReadableSoFar s
keeps_chain r s chain size is small can e =
    let t = behind_test ((r.stage == 2) && (chain == length r.chains)) (Some (record r { chains = r.chains ++ size ∷ [] })) s e in
    let same = eqb-true chain (length r.chains) (and_parts (r.stage == 2) (chain == length r.chains) t.0).1 in
    subst IsReadableSoFar (same_Some (record r { chains = r.chains ++ size ∷ [] }) s t.1) (record {
      report = record {
        header = is.report.header;
        count = (let count = length-append r.chains (size ∷ []) in omega (arith, same, small, count));
        chains = all_append IsSmall r.chains (size ∷ []) is.report.chains (can, tt);
        scanned = is.report.scanned;
        unscanned = is.report.unscanned;
        cubes = is.report.cubes;
        load = is.report.load;
      };
      owing = is.owing;
    })

keeps_scanned : (r s : Reading) (line : ScannedLine) → IsReadableSoFar r → IsScannedReadable line → with_scanned r line ≡ Some s → IsReadableSoFar s
keeps_scanned r s line is can e =
    let t = behind_test (nat_le 2 r.stage && nat_le r.stage 3) (Some (record r { scanned = r.scanned ++ line ∷ []; stage = 3 })) s e in
    subst IsReadableSoFar (same_Some (record r { scanned = r.scanned ++ line ∷ []; stage = 3 }) s t.1) (record {
      report = record {
        header = is.report.header;
        count = is.report.count;
        chains = is.report.chains;
        scanned = all_append IsScannedReadable r.scanned (line ∷ []) is.report.scanned (can, tt);
        unscanned = is.report.unscanned;
        cubes = is.report.cubes;
        load = is.report.load;
      };
      owing = is.owing;
    })

keeps_unscanned : (r s : Reading) (line : UnscannedLine) → IsReadableSoFar r → IsUnscannedReadable line → with_unscanned r line ≡ Some s → IsReadableSoFar s
keeps_unscanned r s line is can e =
    let t = behind_test (nat_le 2 r.stage && nat_le r.stage 4) (Some (record r { unscanned = r.unscanned ++ line ∷ []; stage = 4 })) s e in
    subst IsReadableSoFar (same_Some (record r { unscanned = r.unscanned ++ line ∷ []; stage = 4 }) s t.1) (record {
      report = record {
        header = is.report.header;
        count = is.report.count;
        chains = is.report.chains;
        scanned = is.report.scanned;
        unscanned = all_append IsUnscannedReadable r.unscanned (line ∷ []) is.report.unscanned (can, tt);
        cubes = is.report.cubes;
        load = is.report.load;
      };
      owing = is.owing;
    })

-- ---- cubes

-- the report with a cube more
cube_more : (r : Reading) (cube : CubeReport) → IsReadable (report_in r) → IsCubeReadable cube → is_some r.header.load ≡ true → IsReadable (report_in (record r { cubes = r.cubes ++ cube ∷ [] }))
cube_more r cube is can load = record {
  header = is.header;
  count = is.count;
  chains = is.chains;
  scanned = is.scanned;
  unscanned = is.unscanned;
  cubes = all_append IsCubeReadable r.cubes (cube ∷ []) is.cubes (can, tt);
  load = loaded r.header.load (r.cubes ++ cube ∷ []) load;
}

has_load : (r : Reading) → may_be_cube r ≡ true → is_some r.header.load ≡ true
has_load r e = (and_parts (nat_le 2 r.stage && is_none r.owing) (is_some r.header.load) e).1

keeps_cube : (r s : Reading) (name : Text) (o : CubeLine) → IsReadableSoFar r → IsName name → IsOutcomeReadable o → with_cube r name o ≡ Some s → IsReadableSoFar s
keeps_cube r s name o is named can e =
    let cube : CubeReport = record { name = name; outcome = o } in
    let next : Reading = record r { cubes = r.cubes ++ cube ∷ []; stage = 5 } in
    let t = behind_test (may_be_cube r) (Some next) s e in
    subst IsReadableSoFar (same_Some next s t.1) (record { report = cube_more r cube is.report (named, can) (has_load r t.0); owing = is.owing })

-- a cube of which sums are to come
keeps_owing : (r s : Reading) (name : Text) (sums : ℕ) → IsReadableSoFar r → IsName name → IsSmall sums → with_owing r name sums ≡ Some s → IsReadableSoFar s
keeps_owing r s name sums is named small e =
    let next : Reading = record r { owing = Some (record { name = name; sums = []; owed = sums }); stage = 5 } in
    let t = behind_test (may_be_cube r) (Some next) s e in
    subst IsReadableSoFar (same_Some next s t.1) (record { report = is.report; owing = (named, omega (arith, small), tt, has_load r t.0) })

keeps_unsolvable : (t : Bool) (r s : Reading) (name : Text) (sums : ℕ) → IsReadableSoFar r → IsName name → IsSmall sums → (if t then with_cube r name (outcome.Unsolvable []) else with_owing r name sums) ≡ Some s → IsReadableSoFar s
keeps_unsolvable true r s name sums is named small e = keeps_cube r s name (outcome.Unsolvable []) is named (omega arith, tt) e
keeps_unsolvable false r s name sums is named small e = keeps_owing r s name sums is named small e

-- ---- sums

-- by whether it is the last one
keeps_summed : (t : Bool) (r : Reading) (o : Owing) (line : SumLine) → IsReadableSoFar r → IsOwingReadable r.header.load (Some o) → 1 ≤ o.owed → IsSumReadable line →
    IsReadableSoFar (if t then record r { cubes = r.cubes ++ record { name = o.name; outcome = outcome.Unsolvable (o.sums ++ line ∷ []) } ∷ []; owing = None } else record r { owing = Some (record { name = o.name; sums = o.sums ++ line ∷ []; owed = o.owed - 1 }) })
keeps_summed true r o line is owing some can =
    let small = owing.1 in
    let count = length-append o.sums (line ∷ []) in
    record { report = cube_more r (record { name = o.name; outcome = outcome.Unsolvable (o.sums ++ line ∷ []) }) is.report (owing.0, (omega (arith, small, count, some), all_append IsSumReadable o.sums (line ∷ []) owing.2 (can, tt))) owing.3; owing = tt }
keeps_summed false r o line is owing some can =
    let small = owing.1 in
    let count = length-append o.sums (line ∷ []) in
    record { report = is.report; owing = (owing.0, omega (arith, small, count, some), all_append IsSumReadable o.sums (line ∷ []) owing.2 (can, tt), owing.3) }

keeps_sum : (ow : Option Owing) (vars : Option (List Variable)) (r s : Reading) (name : Text) (bit : Bool) (words : List Text) → IsReadableSoFar r → IsOwingReadable r.header.load ow → IsOwed ow → IsName name → variables_of words ≡ vars → with_sum r ow name bit vars ≡ Some s → IsReadableSoFar s
keeps_sum None vars r s name bit words is owing owed named v e = absurd cc
keeps_sum (Some o) None r s name bit words is owing owed named v e = absurd cc
keeps_sum (Some o) (Some vs) r s name bit words is owing owed named v e =
    let line : SumLine = record { name = name; bit = bit; variables = vs } in
    subst IsReadableSoFar (same_Some (summed r o line) s e) (keeps_summed (nat_le o.owed 1) r o line is owing owed (named, variables_readable words vs v))

-- ---- any line

keeps_said : (said : Said) (r s : Reading) → IsStaged r → IsReadableSoFar r → IsSaidReadable said → with_said r (Some said) ≡ Some s → IsReadableSoFar s
keeps_said Title r s staged is can e = keeps_title r s is e
keeps_said (Counts header) r s staged is can e = keeps_counts r s header staged is can e
keeps_said (Chain chain size) r s staged is can e = keeps_chain r s chain size is can.0 can.1 e
keeps_said (Scanned name domain chain place falling) r s staged is can e = keeps_scanned r s (record { name = name; domain = domain; chain = chain; place = place; falling = falling }) is can e
keeps_said (Unscanned name rule) r s staged is can e = keeps_unscanned r s (record { name = name; rule = rule }) is can e
keeps_said (Encoded name pattern) r s staged is can e = keeps_cube r s name (outcome.Encoded pattern) is can.0 can.1 e
keeps_said (Unsolvable name sums) r s staged is can e = keeps_unsolvable (sums == 0) r s name sums is can.0 can.1 e
keeps_said (Skipped name cell) r s staged is can e = keeps_cube r s name (outcome.Skipped cell) is can.0 can.1 e
keeps_said (Sum name bit words) r s staged is can e = keeps_sum r.owing (variables_of words) r s name bit words is is.owing staged.owed can refl e

line_keeps : (words : List Text) (said : Option Said) (r s : Reading) → IsStaged r → IsReadableSoFar r → said_of words ≡ said → with_said r said ≡ Some s → IsReadableSoFar s
line_keeps words None r s staged is g e = absurd cc
line_keeps [] (Some said) r s staged is g e = absurd (none-some said g)
line_keeps (word ∷ words) (Some said) r s staged is g e = keeps_said said r s staged is (said_told word words said g).2 e

-- ---- the whole

lines_keep : (lines : List Text) (r s : Reading) (k : ℕ) → IsStaged r → IsReadableSoFar r → read_lines r k lines ≡ Ok s → IsReadableSoFar s
lines_keep [] r s k staged is e = subst IsReadableSoFar (same_ok r s e) is
lines_keep (line ∷ lines) r s k staged is e = by (with_said r (said_of (words_of line))) refl e (λ t. lines_keep lines t s (suc k))
  where
    by : (o : Option Reading) → with_said r (said_of (words_of line)) ≡ o → then_lines (suc k) o (λ t. read_lines t (suc k) lines) ≡ Ok s → ((t : Reading) → IsStaged t → IsReadableSoFar t → read_lines t (suc k) lines ≡ Ok s → IsReadableSoFar s) → IsReadableSoFar s
    by None f e later = absurd cc
    by (Some t) f e later = later t (line_staged line r t staged f) (line_keeps (words_of line) (said_of (words_of line)) r t staged is refl f) e

nothing_readable : IsReadableSoFar nothing_read
nothing_readable = record { report = record { header = (omega arith, omega arith, tt); count = omega arith; chains = tt; scanned = tt; unscanned = tt; cubes = tt; load = tt }; owing = tt }

ends_readable : (number : ℕ) (lines : List Text) (final : Text) (o : Result Reading ReadError) (r : Report) → read_lines nothing_read 0 lines ≡ o → then_ended number final o ≡ Ok r → IsReadable r
ends_readable number lines final (Err error) r f e = absurd cc
ends_readable number lines final (Ok s) r f e =
    let t = behind_end (nat_le (length final) 0 && nat_le 2 s.stage && is_none s.owing) (report_in s) r (K1 (place_of_line number)) e in
    subst IsReadable t.1 (lines_keep lines nothing_read s 0 nothing_staged nothing_readable f).report

pub read_is_readable : ReadIsReadable
unfolding read_on
read_is_readable text r e =
    let some = lines_some text in
    let first : Text = some.0 in
    let more : List Text = some.1 in
    ends_readable (suc (length more)) (front (first ∷ more)) (last (first ∷ more)) (read_lines nothing_read 0 (front (first ∷ more))) r refl (sym (by_lines first more) ∙ ap report_by (sym some.2) ∙ e)
