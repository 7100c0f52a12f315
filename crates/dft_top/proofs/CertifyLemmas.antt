-- What a test of a report comes to.
use Rattle.std.proofs.Common.{ℕ, ◌≡◌, ◌∙◌, List, length, map, Option, None, Some, refl, sym, subst}
use Rattle.dft_netlist.specs.Netlist.{Netlist}
use Rattle.dft_config.specs.Config.{Config}
use Rattle.dft_equations.specs.LoadRows.{AreLoadEquations, LoadRows}
use Rattle.dft_stitch.specs.Chains.{plan_of}
use Rattle.dft_stitch.specs.Plans.{Plan, falling_head}
use Rattle.dft_cubes.specs.declared.cube.Cube.{Cube}
use Rattle.dft_merge.specs.Rows.{cell_row}
use Rattle.dft_load_laws.specs.Loading.{AreRows, rows_of}
use Rattle.dft_encode.proofs.OneLemmas.{equations_one}
use Rattle.dft_report.specs.declared.report.Report.{Report}
use Rattle.dft_certify.specs.declared.error.CertifyError.{CertifyError}
use Rattle.dft_certify.specs.declared.error.CertifyError.TheVariants as certify
use Rattle.dft_certify.specs.Certifying.{IsFault, certify_refusal, unsolvable_in}
use Rattle.dft_answers.specs.declared.answer.Refusal.{Refusal}
use Rattle.dft_answers.specs.declared.outcome.Outcome.{Outcome}
use Rattle.dft_answers.specs.declared.outcome.Outcome.TheVariants.{Finished, Refused}
use Rattle.dft_answers.specs.declared.outcome.Work.TheVariants.{Certified}
use Rattle.dft_answers.specs.Refusals as refusals
use Rattle.dft_top.specs.Outcomes.{IsOutcomeOfReport, IsOutcomeOfTest, IsRefusal}

-- the first test that a report fails, over these chains
abbrev pub first_test : Netlist → Config → Plan → LoadRows → List Cube → Report → Option CertifyError
first_test n config plan rows cubes report = certify_refusal n config.ring (cell_row plan.chains rows) rows.columns cubes report

tested : (n : Netlist) (config : Config) (cubes : List Cube) (report : Report) (plan : Plan) (rows : LoadRows) (o : Outcome) → plan ≡ plan_of n config →
    AreLoadEquations config.ring (map (λ cells. length cells) plan.chains) (falling_head plan) plan.cycles rows → IsOutcomeOfTest report (first_test n config plan rows cubes report) o → IsOutcomeOfReport n config cubes report o
tested n config cubes report plan rows o planned are is = (
  rows,
  (
    subst (λ (p : Plan). AreLoadEquations config.ring (map (λ cells. length cells) p.chains) (falling_head p) p.cycles rows) planned are,
    subst (λ (p : Plan). IsOutcomeOfTest report (first_test n config p rows cubes report) o) planned is,
  ),
)

pub certified_is : (n : Netlist) (config : Config) (cubes : List Cube) (report : Report) (plan : Plan) (rows : LoadRows) (count : ℕ) → plan ≡ plan_of n config →
    AreLoadEquations config.ring (map (λ cells. length cells) plan.chains) (falling_head plan) plan.cycles rows → first_test n config plan rows cubes report ≡ None → count ≡ unsolvable_in report.cubes →
    IsOutcomeOfReport n config cubes report (Finished (Certified count))
certified_is n config cubes report plan rows count planned are none is =
    tested n config cubes report plan rows (Finished (Certified count)) planned are
    (subst (λ (fault : Option CertifyError). IsOutcomeOfTest report fault (Finished (Certified count))) (sym none) (λ i. Finished (Certified (is i))))

-- an error that is told as a refusal is the first test that fails
fault_is : (fault : Option CertifyError) (error : CertifyError) (refusal : Refusal) → IsFault fault error → refusals.certify_refusal error ≡ Some refusal → fault ≡ Some error
fault_is fault (certify.K2 place name) refusal is told = is
fault_is fault (certify.K3 name) refusal is told = is
fault_is fault (certify.K4 place name) refusal is told = is
fault_is fault (certify.K5 name) refusal is told = is
fault_is fault (certify.Memory error) refusal is told = absurd cc

pub refusal_is : (r : Option Refusal) (refusal : Refusal) → r ≡ Some refusal → IsRefusal r (Refused refusal)
refusal_is r refusal is = subst (λ (o : Option Refusal). IsRefusal o (Refused refusal)) (sym is) refl

pub uncertified_is : (n : Netlist) (config : Config) (cubes : List Cube) (report : Report) (plan : Plan) (rows : LoadRows) (error : CertifyError) (refusal : Refusal) → plan ≡ plan_of n config →
    AreLoadEquations config.ring (map (λ cells. length cells) plan.chains) (falling_head plan) plan.cycles rows → IsFault (first_test n config plan rows cubes report) error → refusals.certify_refusal error ≡ Some refusal →
    IsOutcomeOfReport n config cubes report (Refused refusal)
uncertified_is n config cubes report plan rows error refusal planned are fault told =
    tested n config cubes report plan rows (Refused refusal) planned are
    (subst (λ (f : Option CertifyError). IsOutcomeOfTest report f (Refused refusal)) (sym (fault_is (first_test n config plan rows cubes report) error refusal fault told))
    (refusal_is (refusals.certify_refusal error) refusal told))

-- ---- one outcome

pub refusal_one : (r : Option Refusal) (a b : Outcome) → IsRefusal r a → IsRefusal r b → a ≡ b
refusal_one None a b x y = absurd x
refusal_one (Some refusal) a b x y = x ∙ sym y

test_one : (report : Report) (fault : Option CertifyError) (a b : Outcome) → IsOutcomeOfTest report fault a → IsOutcomeOfTest report fault b → a ≡ b
test_one report (Some error) a b x y = refusal_one (refusals.certify_refusal error) a b x y
test_one report None a b x y = x ∙ sym y

rows_one : (n : Netlist) (config : Config) (a b : LoadRows) → AreRows n config a → AreRows n config b → a ≡ b
rows_one n config a b x y = equations_one config.ring (map (λ cells. length cells) (plan_of n config).chains) (falling_head (plan_of n config)) (plan_of n config).cycles a b x y

-- over these load equations
pub report_over : (n : Netlist) (config : Config) (cubes : List Cube) (report : Report) (rows : LoadRows) (o : Outcome) → AreRows n config rows → IsOutcomeOfReport n config cubes report o →
    IsOutcomeOfTest report (certify_refusal n config.ring (rows_of n config rows) rows.columns cubes report) o
report_over n config cubes report rows o are x =
    subst (λ (r : LoadRows). IsOutcomeOfTest report (certify_refusal n config.ring (rows_of n config r) r.columns cubes report) o) (rows_one n config x.0 rows x.1.0 are) x.1.1

pub report_one : (n : Netlist) (config : Config) (cubes : List Cube) (report : Report) (a b : Outcome) → IsOutcomeOfReport n config cubes report a → IsOutcomeOfReport n config cubes report b → a ≡ b
report_one n config cubes report a b x y = test_one report (certify_refusal n config.ring (rows_of n config x.0) x.0.columns cubes report) a b x.1.1 (report_over n config cubes report x.0 b x.1.0 y)
