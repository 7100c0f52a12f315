-- What is written is read.
use Rattle.std.proofs.Common.{ℕ, ◌≤◌, ◌≡◌, ◌&&◌, Bool, true, List, [], ◌∷◌, ◌++◌, flat_map, codes, Option, None, Some, Ok, Err, refl, sym, ap, subst, arith, ◌∙◌}
use Rattle.std.specs.Prelude.{if◌then◌else◌, is_some, nat_le}
use Rattle.std.proofs.lemmas.Bool.Decides.{nat_tests}
use Rattle.std.proofs.lemmas.List.{append_assoc}
use Rattle.std.specs.List.{AllByRecursion}
use Rattle.dft_base.specs.Lexing.{Text}
use Rattle.dft_report.specs.declared.report.Load.{Load}
use Rattle.dft_report.specs.declared.report.CubeReport.{CubeReport}
use Rattle.dft_report.specs.declared.report.Report.{Report}
use Rattle.dft_report.specs.Written.{chain_lines, cube_lines, header_line, lines_before_cubes, scanned_line, unscanned_line, written}
use Rattle.dft_report_reader.specs.declared.error.ReadError.TheVariants.{K1}
use Rattle.dft_report_reader.specs.Reading.{Reading, nothing_read, place_of_line, then_ended}
use Rattle.dft_report_reader.specs.WrittenRead.{HasLoad, IsCubeReadable, WrittenIsRead}
use Rattle.dft_report_reader.proofs.Lines.{Brings, brings_both, brings_none, whole_read}
use Rattle.dft_report_reader.proofs.Bringing.{chained, chains_bring, cubes_bring, header_brings, headed, scanned_at, scanned_bring, title_brings, titled, unscanned_bring}

-- a reading of all parts
abbrev whole : Report → (stage : ℕ) → Reading
whole r stage = record { header = r.header; chains = r.chains; scanned = r.scanned; unscanned = r.unscanned; cubes = r.cubes; owing = None; stage = stage }

record Reaches (start : Reading) (text : Text) (r : Report) : Type 0 where
  pub stage : ℕ
  pub low : 2 ≤ stage
  pub brings : Brings start text (whole r stage)

load_there : (load : Option Load) (cube : CubeReport) (cubes : List CubeReport) → HasLoad load (cube ∷ cubes) → is_some load ≡ true
load_there None cube cubes h = absurd h
load_there (Some load) cube cubes h = refl

abbrev before_cubes : Report → (stage : ℕ) → Reading
before_cubes r stage = record (whole r stage) { cubes = [] }

cubes_reach : (r : Report) (cubes : List CubeReport) (stage : ℕ) → r.cubes ≡ cubes → 2 ≤ stage → AllByRecursion IsCubeReadable cubes → HasLoad r.header.load cubes → Reaches (before_cubes r stage) (flat_map cube_lines cubes) r
cubes_reach r [] stage same low each load =
    record { stage = stage; low = low; brings = subst (λ (cs : List CubeReport). Brings (before_cubes r stage) [] (record (whole r stage) { cubes = cs })) (sym same) (brings_none (before_cubes r stage)) }
cubes_reach r (cube ∷ cubes) stage same low each load = record {
  stage = 5;
  low = omega arith;
  brings = subst (λ (cs : List CubeReport). Brings (before_cubes r stage) (flat_map cube_lines (cube ∷ cubes)) (record (whole r 5) { cubes = cs })) (sym same)
      (cubes_bring (before_cubes r stage) [] (cube ∷ cubes) stage (λ none. absurd cc) (load_there r.header.load cube cubes load) low each);
}

ends : (number : ℕ) (r : Report) (stage : ℕ) → 2 ≤ stage → then_ended number [] (Ok (whole r stage)) ≡ Ok r
ends number r stage low = ap (λ (t : Bool). if t then Ok r else Err (K1 (place_of_line number))) (ready stage low)
  where
    ready : (s : ℕ) → 2 ≤ s → (nat_le 0 0 && nat_le 2 s && true) ≡ true
    ready s h = grind (arith, nat_tests)

pub written_is_read : WrittenIsRead
unfolding written lines_before_cubes
written_is_read r is =
    let title : Text = codes "edt report 1\n" in
    let header : Text = header_line r.header in
    let chains : Text = chain_lines 0 r.chains in
    let scanned : Text = flat_map scanned_line r.scanned in
    let unscanned : Text = flat_map unscanned_line r.unscanned in
    let cubes : Text = flat_map cube_lines r.cubes in
    let at_chains : Reading = chained r.header r.chains in
    let s = scanned_bring at_chains [] r.scanned 2 (omega arith) (omega arith) is.scanned in
    let at_scanned : Reading = scanned_at at_chains r.scanned s.stage in
    let u = unscanned_bring at_scanned [] r.unscanned s.stage s.low (let most = s.most in omega (arith, most)) is.unscanned in
    let c = cubes_reach r r.cubes u.stage refl u.low is.cubes is.load in
    let last : Brings at_scanned (unscanned ++ cubes) (whole r c.stage) = brings_both at_scanned (before_cubes r u.stage) (whole r c.stage) unscanned cubes u.brings c.brings in
    let flops : Brings at_chains (scanned ++ (unscanned ++ cubes)) (whole r c.stage) = brings_both at_chains at_scanned (whole r c.stage) scanned (unscanned ++ cubes) s.brings last in
    let from_header : Brings (headed r.header) (chains ++ (scanned ++ (unscanned ++ cubes))) (whole r c.stage) =
    brings_both (headed r.header) at_chains (whole r c.stage) chains (scanned ++ (unscanned ++ cubes)) (chains_bring r.header [] r.chains (let count = is.count in omega (arith, count)) is.chains) flops in
    let from_title : Brings titled (header ++ (chains ++ (scanned ++ (unscanned ++ cubes)))) (whole r c.stage) =
    brings_both titled (headed r.header) (whole r c.stage) header (chains ++ (scanned ++ (unscanned ++ cubes))) (header_brings r.header is.header) from_header in
    let all : Brings nothing_read (title ++ (header ++ (chains ++ (scanned ++ (unscanned ++ cubes))))) (whole r c.stage) =
    brings_both nothing_read titled (whole r c.stage) title (header ++ (chains ++ (scanned ++ (unscanned ++ cubes)))) title_brings from_title in
    let text : written r ≡ title ++ (header ++ (chains ++ (scanned ++ (unscanned ++ cubes)))) =
    append_assoc title (header ++ (chains ++ (scanned ++ unscanned))) cubes
    ∙ ap (λ (t : Text). title ++ t) (append_assoc header (chains ++ (scanned ++ unscanned)) cubes
    ∙ ap (λ (t : Text). header ++ t) (append_assoc chains (scanned ++ unscanned) cubes ∙ ap (λ (t : Text). chains ++ t) (append_assoc scanned unscanned cubes))) in
    whole_read (written r) (whole r c.stage) (Ok r) (subst (λ (t : Text). Brings nothing_read t (whole r c.stage)) (sym text) all) (λ number. ends number r c.stage c.low)
