-- A flip-flop that is judged has a name, and one that is scanned has a domain with a name.
use Rattle.std.proofs.Common.{◌≡◌, ℕ, ◌<◌, Bool, true, false, cond, List, [], length, get_or, Option, None, Some, option_and_then, slice_get, refl, ◌∙◌, ap, arith, inl, inr}
use Rattle.std.specs.Prelude.{IsSome, is_some}
use Rattle.std.proofs.lemmas.Option.{slice_get_past, slice_get-get_or}
use Rattle.std.proofs.lemmas.List.FromFn.{get_or-map-range_with_len}
use Rattle.dft_base.specs.Lexing.{Text}
use Rattle.dft_cells.specs.declared.cell.Cell.{Cell}
use Rattle.dft_netlist.specs.declared.instance.CellRef.{CellRef}
use Rattle.dft_netlist.specs.declared.instance.CellRef.TheVariants.{Library, Gate}
use Rattle.dft_netlist.specs.declared.instance.Instance.{Instance}
use Rattle.dft_netlist.specs.Netlist.{Netlist}
use Rattle.dft_netlist.specs.Names.{instance_name}
use Rattle.dft_netlist.specs.Drivers.{kind_at, kind_of, shape_of}
use Rattle.dft_netlist.specs.Sound.{IsCellOf, IsNetlist}
use Rattle.dft_netlist.proofs.LiveLemmas.{le_or_lt}
use Rattle.dft_config.specs.Config.{Config}
use Rattle.dft_rules.specs.declared.judged.Judged.{Judged}
use Rattle.dft_rules.specs.declared.judged.Judged.TheVariants.{Scanned, Unscanned}
use Rattle.dft_base.specs.declared.rule.Rule.{Rule}
use Rattle.dft_rules.specs.Rules.{judged, judgements, may_be_scanned}
use Rattle.dft_rules.proofs.ReadingLemmas.{no_gate, judged_may}
use Rattle.dft_stitch.specs.Chains.{clock_in, clock_of, domain_in, is_falling}
use Rattle.dft_stitch.proofs.OnceLemmas.{domain_within}
use Rattle.dft_scan_frame.specs.Statements.{IsReady}
use Rattle.dft_scan.specs.Reports.{domain_name, name_of, scanned_as, unscanned_as}
use Rattle.dft_scan.specs.Laws.{FlipFlopsHaveLines, HasLine}

-- ---- names

named_cell : (library : List Cell) (name : Option Text) (ref : CellRef) → IsCellOf library name ref → may_be_scanned (shape_of library ref).kind ≡ true → IsSome name
named_cell library name (Library cell) fits s = fits.1
named_cell library name (Gate k inputs) fits s = absurd (no_gate k s fits.0)

named_by : (n : Netlist) (i : ℕ) (o : Option Instance) → IsNetlist n → slice_get n.instances i ≡ o → may_be_scanned (kind_of n.library o) ≡ true → IsSome (option_and_then instance_name o)
named_by n i None sound at s = absurd (let f : ⊥ = cc in f)
named_by n i (Some x) sound at s = named_cell n.library x.name x.cell (sound.instances i x at).fits s

-- ---- judged instances

flip_flop_by : (t : Bool) (o : Option Judged) (verdict : Judged) → cond t o None ≡ Some verdict → t ≡ true
flip_flop_by true o verdict e = refl
flip_flop_by false o verdict e = absurd (let f : ⊥ = cc in f)

is_there : (n : Netlist) (i : ℕ) → may_be_scanned (kind_at n i) ≡ true → i < length n.instances
is_there n i s = elim (le_or_lt (length n.instances) i) [
  | inl past ↦ (
      let opaque : may_be_scanned (kind_at n i) ≡ false = ap (λ (o : Option Instance). may_be_scanned (kind_of n.library o)) (slice_get_past n.instances i past) in
      absurd (let f : ⊥ = cc in f))
  | inr less ↦ less
]

-- ---- domains

domain_named : (n : Netlist) (config : Config) (i d : ℕ) (f : Bool) → judged n config i ≡ Some (Scanned d f) → IsSome (domain_name config (judgements n config) (record { 0 = i }))
domain_named n config i d f h =
    let less = is_there n i (judged_may n config i (Scanned d f) h) in
    let verdict : get_or (judgements n config) i None ≡ Some (Scanned d f) = get_or-map-range_with_len (judged n config) 0 (length n.instances) i i None less (omega arith) ∙ h in
    let name : slice_get config.domains d ≡ Some (get_or config.domains d []) = slice_get-get_or config.domains d [] (domain_within n config i d f h) in
    let is : domain_name config (judgements n config) (record { 0 = i }) ≡ Some (get_or config.domains d []) = ap (λ (o : Option Judged). option_and_then (slice_get config.domains) (domain_in (clock_in o))) verdict ∙ name in
    ap is_some is

-- ---- lines

scanned_some : (chain place : ℕ) (falling : Bool) (name domain : Option Text) → IsSome name → IsSome domain → IsSome (scanned_as chain place falling name domain)
scanned_some chain place falling (Some name) (Some domain) x y = refl
scanned_some chain place falling (Some name) None x y = y
scanned_some chain place falling None domain x y = x

unscanned_some : (name : Option Text) (rule : Rule) → IsSome name → IsSome (unscanned_as name (Some (Unscanned rule)))
unscanned_some (Some name) rule x = refl
unscanned_some None rule x = x

has_line : (n : Netlist) (config : Config) (i : ℕ) (verdict : Option Judged) → IsReady n config → judged n config i ≡ verdict → HasLine n config i verdict
has_line n config i None ready e = _
has_line n config i (Some (Scanned d f)) ready e = λ chain place.
    scanned_some chain place (is_falling (clock_of (judgements n config) (record { 0 = i }))) (name_of n i) (domain_name config (judgements n config) (record { 0 = i }))
    (named_by n i (slice_get n.instances i) ready.netlist refl (judged_may n config i (Scanned d f) e)) (domain_named n config i d f e)
has_line n config i (Some (Unscanned rule)) ready e =
    unscanned_some (name_of n i) rule (named_by n i (slice_get n.instances i) ready.netlist refl (judged_may n config i (Unscanned rule) e))

pub flip_flops_lined : FlipFlopsHaveLines
flip_flops_lined = λ n config i ready. has_line n config i (judged n config i) ready refl
