-- A scanned flip-flop of the design has no scan pins yet.
use Rattle.std.proofs.Common.{ℕ, zero, suc, ◌+◌, ◌≡◌, Bool, true, length, map, Option, None, Some, slice_get, refl, ap, arith, ◌∙◌}
use Rattle.std.specs.Prelude.{slice_index_or}
use Rattle.std.specs.List.{range_with_len}
use Rattle.std.proofs.lemmas.Option.{none-some}
use Rattle.dft_base.proofs.BitLemmas.{and_second}
use Rattle.dft_cells.specs.declared.kind.Role.TheVariants as role
use Rattle.dft_cells.specs.WellFormed.{IsWellFormed}
use Rattle.dft_netlist.specs.Drivers.{Source, kind_at, pins_of}
use Rattle.dft_netlist.specs.Connections.{pin_of}
use Rattle.dft_behavior.specs.Logic.{scan_of}
use Rattle.dft_rules.specs.declared.judged.Judged.{Judged}
use Rattle.dft_rules.specs.Rules.{judged, judgements, may_be_scanned}
use Rattle.dft_rules.proofs.ReadingLemmas.{judged_may}
use Rattle.dft_stitch.specs.Chains.{clock_in, clock_of}
use Rattle.dft_expect.proofs.ScannedCells.{pins_none}
use Rattle.dft_seek.specs.Searches.{Search, cells_in, has_cell, is_of, takes_at}

-- no cell that takes its next value has scan pins
abbrev pub HasNoScanPins : Search → Type 0
HasNoScanPins s = (c : ℕ) (falling : Bool) → takes_at s falling c ≡ true → scan_of (pin_of role.ScanEnable c (pins_of s.design c)) (pin_of role.ScanIn c (pins_of s.design c)) ≡ None

-- ---- what is judged

judged_at : (f : ℕ → Option Judged) (a k i : ℕ) (v : Judged) → slice_index_or (map f (range_with_len a k)) i None ≡ Some v → f (a + i) ≡ Some v
judged_at f a zero i v is = absurd (none-some v is)
judged_at f a (suc k) zero v is = ap f (let e : a + 0 ≡ a = omega arith in e) ∙ is
judged_at f a (suc k) (suc i) v is = ap f (let e : a + suc i ≡ (a + 1) + i = omega arith in e) ∙ judged_at f (a + 1) k i v is

-- what has a clock is judged
clock_judged : (o : Option Judged) (domain : ℕ) (falling : Bool) → is_of domain falling (clock_in o) ≡ true → (v : Judged) × (o ≡ Some v)
clock_judged None domain falling is = absurd cc
clock_judged (Some v) domain falling is = (v, refl)

pub no_scan_pins : (s : Search) → IsWellFormed s.design.library → HasNoScanPins s
no_scan_pins s well c falling takes =
    let of : is_of s.domain falling (clock_of (judgements s.design s.config) (record { 0 = c })) ≡ true = and_second (has_cell (cells_in s) c) (is_of s.domain falling (clock_of (judgements s.design s.config) (record { 0 = c }))) takes in
    let found = clock_judged (slice_index_or (judgements s.design s.config) c None) s.domain falling of in
    let may : may_be_scanned (kind_at s.design c) ≡ true = judged_may s.design s.config c found.0 (ap (judged s.design s.config) (let e : c ≡ 0 + c = omega arith in e) ∙ judged_at (judged s.design s.config) 0 (length s.design.instances) c found.0 found.1) in
    ap (λ (o : Option Source). scan_of o (pin_of role.ScanIn c (pins_of s.design c))) (pins_none s.design.library c (slice_get s.design.instances c) well may)
