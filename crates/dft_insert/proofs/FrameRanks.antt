-- Ranks of the nets of a frame, and the scanned cells in it.
use Rattle.std.proofs.Common.{ℕ, zero, suc, ◌+◌, ◌-◌, ◌≡◌, ◌<◌, ◌≤◌, ◌⊎◌, inl, inr, nat_lt, Bool, true, false, List, [], ◌∷◌, length, Option, None, Some, is_some, option_map, option_and_then, slice_get, refl, sym, subst, ap, arith, ◌∙◌}
use Rattle.std.specs.Prelude.{if◌then◌else◌, slice_index_or, IsTrue}
use Rattle.std.specs.List.{AllByRecursion}
use Rattle.dft_base.specs.Lexing.{Text}
use Rattle.dft_cells.specs.declared.kind.Kind.{Kind}
use Rattle.dft_cells.specs.declared.kind.Role.{Role}
use Rattle.dft_cells.specs.declared.cell.CellId.{CellId}
use Rattle.dft_cells.specs.FlipFlops.{is_flip_flop}
use Rattle.dft_netlist.specs.declared.ids.NetId.{NetId}
use Rattle.dft_netlist.specs.declared.ids.InstanceId.{InstanceId}
use Rattle.dft_netlist.specs.declared.instance.Instance.{Instance}
use Rattle.dft_netlist.specs.declared.instance.CellRef.TheVariants.{Library}
use Rattle.dft_netlist.specs.Connections.{input_net}
use Rattle.dft_netlist.specs.Drivers.{Shape, shape_of}
use Rattle.dft_netlist.specs.Names.{find_net}
use Rattle.dft_netlist.specs.Netlist.{Netlist}
use Rattle.dft_netlist.specs.NetDrivers.{roles_in}
use Rattle.dft_netlist.proofs.LiveDriven.{ports_fit}
use Rattle.dft_config.specs.Config.{Config}
use Rattle.dft_rules.specs.Refusals.{is_scanned}
use Rattle.dft_rules.specs.Rules.{judged, scan_cell_in, scan_cell_of}
use Rattle.dft_stitch.specs.Chains.{plan_of}
use Rattle.dft_stitch.specs.Plans.{cell_at}
use Rattle.dft_scan_frame.specs.Moves.{Gap, moved}
use Rattle.dft_scan_frame.specs.Statements.{IsReady}
use Rattle.dft_scan_frame.specs.Pins.{moved_or_none}
use Rattle.dft_scan_frame.proofs.LiveNets.{own_live, input_live}
use Rattle.dft_scan_frame.proofs.ScanPairs.{ScanPair, Plain as PlainPair, PlainBoth, Resets, ResetsBoth, Sets, SetsBoth}
use Rattle.dft_scan_frame.proofs.Standing.{stands_scanned}
use Rattle.dft_scan_frame.proofs.Whole.{moved_front, moved_back}
use Rattle.dft_insert.specs.declared.style.Style.{Style}
use Rattle.dft_insert.specs.declared.style.Style.TheVariants.{Plain, Edt}
use Rattle.dft_insert.specs.Chained.{roles_of}
use Rattle.dft_insert.specs.Frame.{as_scan_cell, framed_instance, framed_at, frame}
use Rattle.dft_insert.specs.Ports.{gap_in}
use Rattle.dft_insert.proofs.Frames.{scan_pair, plain_count, edt_count}
use Rattle.dft_insert.proofs.Keeping.{from_get}
use Rattle.dft_insert.proofs.Claims.{IsFlopIn}
use Rattle.dft_insert.proofs.Goods.{IsBelow}
use Rattle.dft_insert.proofs.GoodChains.{IsScanCell, ChainSetting}

-- ---- ranks by where a net stands

-- of the design's ports, an added input, an added output, another net of the design, a made net
abbrev pub picked : (k before outs end all : ℕ) → (port top other made : ℕ) → ℕ
picked k before outs end all port top other made = if nat_lt k before then port else (if nat_lt k outs then 0 else (if nat_lt k end then top else (if nat_lt k all then other else made)))

picked_made : (k before outs end all port top other made : ℕ) → before ≤ all → outs ≤ all → end ≤ all → all ≤ k → picked k before outs end all port top other made ≡ made
picked_made = grind arith

picked_out : (k before outs end all port top other made : ℕ) → before ≤ outs → outs ≤ k → k < end → picked k before outs end all port top other made ≡ top
picked_out = grind arith

picked_front : (k before outs end all port top other made count : ℕ) → port ≤ count → k < outs → picked k before outs end all port top other made ≤ count
picked_front = grind arith

picked_back : (k before outs end all port top other made count : ℕ) → other ≤ count → before ≤ k → outs ≤ k → end ≤ k → k < all → picked k before outs end all port top other made ≤ count
picked_back = grind arith

picked_port : (k before outs end all port top other made : ℕ) → k < before → picked k before outs end all port top other made ≡ port
picked_port = grind arith

picked_other : (k before outs end all port top other made : ℕ) → before ≤ k → outs ≤ k → end ≤ k → k < all → picked k before outs end all port top other made ≡ other
picked_other = grind arith

-- where the added outputs begin
abbrev pub outs_start : Style → Netlist → Config → ℕ
outs_start Plain n config = (gap_in Plain n config).before + 1 + config.chains
outs_start Edt n config = (gap_in Edt n config).before + 3 + config.ring.channels + config.compactor.mask_inputs

-- the rank of a net of the scanned netlist, by a rank of the design's nets
abbrev pub rank_in : Style → Netlist → Config → (r : ℕ → ℕ) → (top : ℕ) → ℕ → ℕ
rank_in style n config r top k =
    let gap = gap_in style n config in picked k gap.before (outs_start style n config) (gap.before + gap.width) (length n.nets + gap.width) (r k) top (r (k - gap.width)) (length n.nets + 1 + k)

-- how the nets of the frame stand
pub record IsLaid (style : Style) (n : Netlist) (config : Config) : Type 0 where
  pub before : (gap_in style n config).before ≤ length n.nets
  pub start : (gap_in style n config).before < outs_start style n config
  pub end : outs_start style n config ≤ (gap_in style n config).before + (gap_in style n config).width

pub laid : (style : Style) (n : Netlist) (config : Config) → IsReady n config → IsLaid style n config
laid Plain n config ready = record { before = ports_fit n ready.netlist; start = omega arith; end = omega (arith, plain_count config) }
laid Edt n config ready = record { before = ports_fit n ready.netlist; start = omega arith; end = omega (arith, edt_count config) }

module _ (style : Style) (n : Netlist) (config : Config) (r : ℕ → ℕ) (top : ℕ) (lies : IsLaid style n config) (bound : (j : ℕ) → r j ≤ length n.nets) where
  abbrev gap : Gap
  gap = gap_in style n config

  abbrev rank : ℕ → ℕ
  rank = rank_in style n config r top

  pub rank_made : (k : ℕ) → length n.nets + gap.width ≤ k → rank k ≡ length n.nets + 1 + k
  rank_made k past =
      picked_made k gap.before (outs_start style n config) (gap.before + gap.width) (length n.nets + gap.width) (r k) top (r (k - gap.width)) (length n.nets + 1 + k)
      (omega (arith, lies.before)) (omega (arith, lies.before, lies.end)) (omega (arith, lies.before)) past

  pub rank_out : (k : ℕ) → outs_start style n config ≤ k → k < gap.before + gap.width → rank k ≡ top
  rank_out k from less = picked_out k gap.before (outs_start style n config) (gap.before + gap.width) (length n.nets + gap.width) (r k) top (r (k - gap.width)) (length n.nets + 1 + k) (omega (arith, lies.start)) from less

  -- before the added outputs
  pub rank_front : (k : ℕ) → k < outs_start style n config → rank k ≤ length n.nets
  rank_front k less = picked_front k gap.before (outs_start style n config) (gap.before + gap.width) (length n.nets + gap.width) (r k) top (r (k - gap.width)) (length n.nets + 1 + k) (length n.nets) (bound k) less

  rank_back : (k : ℕ) → gap.before + gap.width ≤ k → k < length n.nets + gap.width → rank k ≤ length n.nets
  rank_back k from less =
      picked_back k gap.before (outs_start style n config) (gap.before + gap.width) (length n.nets + gap.width) (r k) top (r (k - gap.width)) (length n.nets + 1 + k) (length n.nets) (bound (k - gap.width))
      (omega (arith, from)) (omega (arith, from, lies.end)) from less

  moved_rank : (own : ℕ) (b : Bool) → nat_lt own gap.before ≡ b → own < length n.nets → rank (if b then own else own + gap.width) ≤ length n.nets
  moved_rank own true is less = rank_front own (let e : own < gap.before = (let lt : nat_lt own gap.before ≡ true = is in grind (arith, lt)) in omega (arith, e, lies.start))
  moved_rank own false is less = rank_back (own + gap.width) (let e : gap.before ≤ own = (let ge : nat_lt own gap.before ≡ false = is in grind (arith, ge)) in omega (arith, e)) (omega (arith, less))

  moved_is : (own : ℕ) → (own < gap.before) ⊎ (gap.before ≤ own) → own < length n.nets → rank (moved gap own) ≡ r own
  moved_is own (inl front) less =
      ap rank (moved_front gap own front)
      ∙ picked_port own gap.before (outs_start style n config) (gap.before + gap.width) (length n.nets + gap.width) (r own) top (r (own - gap.width)) (length n.nets + 1 + own) front
  moved_is own (inr back) less =
      let k = own + gap.width in
      ap rank (moved_back gap own back)
      ∙ picked_other k gap.before (outs_start style n config) (gap.before + gap.width) (length n.nets + gap.width) (r k) top (r (k - gap.width)) (length n.nets + 1 + k)
      (omega (arith, back)) (omega (arith, back, lies.end)) (omega (arith, back)) (omega (arith, less))
      ∙ ap r (let e : own + gap.width - gap.width ≡ own = omega arith in e)

  less_or : (a b : ℕ) → (b < a) ⊎ (a ≤ b)
  less_or zero b = inr (omega arith)
  less_or (suc a) zero = inl (omega arith)
  less_or (suc a) (suc b) = elim (less_or a b) [ inl h ↦ inl (omega (arith, h)) | inr h ↦ inr (omega (arith, h)) ]

  -- a net of the design has the rank that it had
  pub rank_moved : (own : ℕ) → own < length n.nets → rank (moved gap own) ≡ r own
  rank_moved own less = moved_is own (less_or gap.before own) less

  -- low nets stand below what is made
  pub low_below : (k : ℕ) → rank k ≤ length n.nets → IsBelow rank (length n.nets + gap.width) (record { 0 = k })
  low_below k low j past = let e = rank_made j past in omega (arith, e, low)

  pub moved_below : (own : ℕ) → own < length n.nets → IsBelow rank (length n.nets + gap.width) (record { 0 = moved gap own })
  moved_below own less = low_below (moved gap own) (moved_rank own (nat_lt own gap.before) refl less)

  none_or_moved : (o : Option ℕ) → ((net : ℕ) → o ≡ Some net → net < length n.nets) → IsBelow rank (length n.nets + gap.width) (record { 0 = moved_or_none gap o })
  none_or_moved None live = low_below 0 (rank_front 0 (omega (arith, lies.start)))
  none_or_moved (Some net) live = moved_below net (live net refl)

  pub chain_setting : IsReady n config → ChainSetting n (frame style n config) config gap rank (length n.nets + gap.width)
  chain_setting ready = record {
    setting = record {
      well = ready.library;
      rising = λ j k from less. (let a = rank_made j from in let b = rank_made k (omega (arith, from, less)) in omega (arith, a, b, less));
      first = λ k past. (let low = rank_front 0 (omega (arith, lies.start)) in let e = rank_made k past in omega (arith, low, e));
    };
    domains = λ domain. (
        let name : Text = slice_index_or config.domains domain [] in
        none_or_moved (option_map (λ (k : NetId). k.0) (input_net n name)) (λ net e. input_live n name (find_net n name) net refl e)
        );
    owns = λ cell net own. moved_below net (own_live n cell net ready.netlist own);
  }

-- ---- scanned cells

pub pair_flop : (k : Kind) (old : List Role) (scan : Kind) (new : List Role) → ScanPair k old scan new → IsTrue (is_flip_flop scan)
pair_flop _ _ _ _ PlainPair = refl
pair_flop _ _ _ _ PlainBoth = refl
pair_flop _ _ _ _ Resets = refl
pair_flop _ _ _ _ ResetsBoth = refl
pair_flop _ _ _ _ Sets = refl
pair_flop _ _ _ _ SetsBoth = refl

-- an instance of the design stands in the frame
pub framed_there : (style : Style) (n : Netlist) (config : Config) (i : ℕ) (x : Instance) → slice_get n.instances i ≡ Some x → slice_get (frame style n config).instances i ≡ Some (framed_at n config (gap_in style n config) i x)
framed_there style n config i x at =
    from_get (framed_at n config (gap_in style n config)) 0 n.instances i x at ∙ ap (λ j. Some (framed_at n config (gap_in style n config) j x)) (let e : 0 + i ≡ i = omega arith in e)

scan_cell_by : (style : Style) (n : Netlist) (config : Config) (cell : InstanceId) (x : Instance) (o : Option CellId) → IsReady n config → slice_get n.instances cell.0 ≡ Some x → is_scanned (judged n config cell.0) ≡ true → scan_cell_in n.library x.cell ≡ o → is_some o ≡ true →
    IsScanCell n (frame style n config) cell
scan_cell_by style n config cell x None ready at on names some = absurd cc
scan_cell_by style n config cell x (Some id) ready at on names some =
    let gap : Gap = gap_in style n config in
    let w : Netlist = frame style n config in
    let there : slice_get w.instances cell.0 ≡ Some (as_scan_cell n.library gap x (Some id)) =
    framed_there style n config cell.0 x at ∙ ap (λ b. Some (framed_instance n.library gap b x)) on ∙ ap (λ (o : Option CellId). Some (as_scan_cell n.library gap x o)) names in
    let s : Shape = shape_of n.library x.cell in
    let t : Shape = shape_of n.library (Library id) in
    let its : scan_cell_of n cell.0 ≡ Some id = ap (λ (o : Option Instance). option_and_then (λ (y : Instance). scan_cell_in n.library y.cell) o) at ∙ names in
    record {
      flop = subst (IsFlopIn n.library) (sym there) (pair_flop s.kind s.roles t.kind t.roles (scan_pair n.library x.cell id names ready.library));
      roles = ap (roles_in w) there ∙ sym (ap (roles_of n.library) its);
    }

scanned_by : (style : Style) (n : Netlist) (config : Config) (cell : InstanceId) (o : Option Instance) → IsReady n config → slice_get n.instances cell.0 ≡ o → is_scanned (judged n config cell.0) ≡ true → is_some (option_and_then (λ (y : Instance). scan_cell_in n.library y.cell) o) ≡ true →
    IsScanCell n (frame style n config) cell
scanned_by style n config cell None ready at on some = absurd cc
scanned_by style n config cell (Some x) ready at on some = scan_cell_by style n config cell x (scan_cell_in n.library x.cell) ready at on refl some

-- a cell of the planned chains
pub planned_cell : (style : Style) (n : Netlist) (config : Config) (chain place : ℕ) (cell : InstanceId) → IsReady n config → cell_at (plan_of n config).chains chain place ≡ Some cell → IsScanCell n (frame style n config) cell
planned_cell style n config chain place cell ready stands =
    let flop = stands_scanned n config chain place cell ready stands in
    scanned_by style n config cell (slice_get n.instances cell.0) ready refl (ap is_scanned flop.judgement) flop.passed.is_scan

all_of_chain : (P : InstanceId → Type 0) (cells : List InstanceId) → ((place : ℕ) (cell : InstanceId) → slice_get cells place ≡ Some cell → P cell) → AllByRecursion P cells
all_of_chain P [] h = tt
all_of_chain P (cell ∷ cells) h = (h zero cell refl, all_of_chain P cells (λ place other at. h (suc place) other at))

all_of_chains : (P : InstanceId → Type 0) (chains : List (List InstanceId)) → ((chain place : ℕ) (cell : InstanceId) → cell_at chains chain place ≡ Some cell → P cell) → AllByRecursion (AllByRecursion P) chains
all_of_chains P [] h = tt
all_of_chains P (cells ∷ chains) h = (all_of_chain P cells (λ place cell at. h zero place cell at), all_of_chains P chains (λ chain place cell at. h (suc chain) place cell at))

-- and all of them
pub planned_cells : (style : Style) (n : Netlist) (config : Config) → IsReady n config → AllByRecursion (AllByRecursion (IsScanCell n (frame style n config))) (plan_of n config).chains
planned_cells style n config ready = all_of_chains (IsScanCell n (frame style n config)) (plan_of n config).chains (λ chain place cell at. planned_cell style n config chain place cell ready at)
