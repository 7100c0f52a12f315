-- Pins of scan cells.
use Rattle.std.proofs.Common.{ℕ, suc, ◌+◌, ◌-◌, ◌≡◌, ◌≤◌, ◌<◌, Bool, true, false, List, [], ◌∷◌, length, map, drop, Option, None, Some, option_and_then, slice_get, refl, sym, subst, ap, arith, ◌∙◌}
use Rattle.std.specs.Prelude.{slice_index_or, if◌then◌else◌}
use Rattle.std.proofs.lemmas.List.{drop_more, length-map}
use Rattle.std.proofs.lemmas.Option.{none-some}
use Rattle.dft_cells.specs.declared.kind.Kind.{Kind}
use Rattle.dft_cells.specs.declared.kind.Role.{Role}
use Rattle.dft_cells.specs.declared.cell.CellId.{CellId}
use Rattle.dft_cells.specs.declared.cell.Pin.{Pin}
use Rattle.dft_cells.specs.WellFormed.{IsWellFormed, role_of}
use Rattle.dft_netlist.specs.declared.instance.CellRef.TheVariants.{Library}
use Rattle.dft_netlist.specs.declared.instance.Instance.{Instance}
use Rattle.dft_netlist.specs.Drivers.{Shape, shape_of}
use Rattle.dft_netlist.specs.Netlist.{Netlist}
use Rattle.dft_netlist.specs.NetNumbers.{nets_from}
use Rattle.dft_config.specs.Config.{Config}
use Rattle.dft_config.specs.Range.{IsInRange}
use Rattle.dft_rules.specs.declared.judged.Judged.{Judged}
use Rattle.dft_rules.specs.declared.judged.Judged.TheVariants.{Scanned, Unscanned}
use Rattle.dft_rules.specs.Refusals.{is_scanned}
use Rattle.dft_rules.specs.Rules.{judged, scan_cell_in, scan_cell_of}
use Rattle.dft_stitch.specs.Chains.{plan_of}
use Rattle.dft_stitch.specs.Plans.{Plan, cell_at}
use Rattle.dft_stitch.proofs.OnceLemmas.{cells_once, cells_scanned}
use Rattle.dft_scan_frame.specs.Pins.{number_of}
use Rattle.dft_scan_frame.proofs.ScanPairs.{ScanPair, Plain, PlainBoth, Resets, ResetsBoth, Sets, SetsBoth}
use Rattle.dft_insert.proofs.Frames.{scan_pair}

-- ---- the first pin of a role

pub number_here : (test : Role → Bool) (k : ℕ) (pins : List Pin) (d : Pin) → k < length pins → test (slice_index_or pins k d).role ≡ true → number_of test k (map role_of (drop k pins)) ≡ Some k
number_here test k pins d less is =
    ap (λ (ps : List Pin). number_of test k (map role_of ps)) (drop_more pins k d less)
    ∙ ap (λ b. if b then Some k else number_of test (suc k) (map role_of (drop (k + 1) pins))) is

pub number_later : (test : Role → Bool) (k : ℕ) (pins : List Pin) (d : Pin) → k < length pins → test (slice_index_or pins k d).role ≡ false → number_of test k (map role_of (drop k pins)) ≡ number_of test (k + 1) (map role_of (drop (k + 1) pins))
number_later test k pins d less is =
    let next : suc k ≡ k + 1 = omega arith in
    ap (λ (ps : List Pin). number_of test k (map role_of ps)) (drop_more pins k d less)
    ∙ ap (λ b. if b then Some k else number_of test (suc k) (map role_of (drop (k + 1) pins))) is
    ∙ ap (λ j. number_of test j (map role_of (drop (k + 1) pins))) next

-- ---- a scan cell has few pins

five_few : 5 ≤ 7
five_few = omega arith

six_few : 6 ≤ 7
six_few = omega arith

seven_few : 7 ≤ 7
seven_few = omega arith

few_by : (k : Kind) (old : List Role) (l : Kind) (new : List Role) → ScanPair k old l new → length new ≤ 7
few_by _ _ _ _ Plain = five_few
few_by _ _ _ _ PlainBoth = six_few
few_by _ _ _ _ Resets = six_few
few_by _ _ _ _ ResetsBoth = seven_few
few_by _ _ _ _ Sets = six_few
few_by _ _ _ _ SetsBoth = seven_few

few_at : (n : Netlist) (o : Option Instance) (id : CellId) → IsWellFormed n.library → option_and_then (λ (x : Instance). scan_cell_in n.library x.cell) o ≡ Some id → length (shape_of n.library (Library id)).roles ≤ 7
few_at n None id whole e = absurd (none-some id e)
few_at n (Some x) id whole e =
    let s : Shape = shape_of n.library x.cell in
    let t : Shape = shape_of n.library (Library id) in
    few_by s.kind s.roles t.kind t.roles (scan_pair n.library x.cell id e whole)

pub few_pins : (n : Netlist) (i : ℕ) (id : CellId) (pins : List Pin) → IsWellFormed n.library → scan_cell_of n i ≡ Some id → map role_of pins ≡ (shape_of n.library (Library id)).roles → length pins ≤ 7
few_pins n i id pins whole e roles = omega (arith, few_at n (slice_get n.instances i) id whole e, ap length roles, length-map pins role_of)

-- ---- cells of chains are the scanned flip-flops

pub scanned_here : (n : Netlist) (config : Config) (plan : Plan) (i chain place : ℕ) → IsInRange config → plan ≡ plan_of n config → cell_at plan.chains chain place ≡ Some (record { 0 = i }) → true ≡ is_scanned (judged n config i)
scanned_here n config plan i chain place range planned stands =
    let it = cells_scanned n config chain place (record { 0 = i }) range (subst (λ (p : Plan). cell_at p.chains chain place ≡ Some (record { 0 = i })) planned stands) in
    sym (ap is_scanned it.is)

not_by : (n : Netlist) (config : Config) (plan : Plan) (i : ℕ) (o : Option Judged) → judged n config i ≡ o → IsInRange config → plan ≡ plan_of n config → ((chain place : ℕ) → cell_at plan.chains chain place ≡ Some (record { 0 = i }) → ⊥) → false ≡ is_scanned o
not_by n config plan i None is range planned nowhere = refl
not_by n config plan i (Some (Unscanned rule)) is range planned nowhere = refl
not_by n config plan i (Some (Scanned domain falling)) is range planned nowhere =
    let it = cells_once n config i domain falling range is in
    absurd (nowhere it.chain it.place (subst (λ (p : Plan). cell_at p.chains it.chain it.place ≡ Some (record { 0 = i })) (sym planned) it.stands))

pub not_here : (n : Netlist) (config : Config) (plan : Plan) (i : ℕ) → IsInRange config → plan ≡ plan_of n config → ((chain place : ℕ) → cell_at plan.chains chain place ≡ Some (record { 0 = i }) → ⊥) → false ≡ is_scanned (judged n config i)
not_here n config plan i range planned nowhere = not_by n config plan i (judged n config i) refl range planned nowhere

-- ---- nets from a number on

pub nets_on : (first k count : ℕ) → k < count → nets_from (first + k) (count - k) ≡ record { 0 = first + k } ∷ nets_from (first + (k + 1)) (count - (k + 1))
nets_on first k count less =
    let left : count - k ≡ suc (count - (k + 1)) = omega (arith, less) in
    let next : suc (first + k) ≡ first + (k + 1) = omega arith in
    ap (nets_from (first + k)) left ∙ ap (λ j. record { 0 = first + k } ∷ nets_from j (count - (k + 1))) next

pub nets_over : (first k count : ℕ) → count ≤ k → nets_from (first + k) (count - k) ≡ []
nets_over first k count past = let left : count - k ≡ 0 = omega (arith, past) in ap (nets_from (first + k)) left
