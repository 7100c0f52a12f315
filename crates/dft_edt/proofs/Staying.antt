-- The hardware stands in every logic that means as much or more.
use Rattle.std.proofs.Common.{ℕ, zero, Bool, true, false, List, [], ◌∷◌, inl, inr, sym, subst, ap, ◌∙◌}
use Rattle.dft_cells.specs.declared.kind.Gate.TheVariants.{Buf, Inv, And, Or, Xor}
use Rattle.dft_netlist.specs.declared.ids.InstanceId.{InstanceId}
use Rattle.dft_netlist.specs.Drivers.{Source, Net}
use Rattle.dft_behavior.specs.Logic.{Logic, Ports, Cell, Input, Gate, Flop, Lockup}
use Rattle.dft_config.specs.declared.config.RingConfig.{RingConfig}
use Rattle.dft_config.specs.Config.{Config}
use Rattle.dft_runs.specs.WiderPorts.{MeansMore}
use Rattle.dft_chains.specs.Hardware.{ChainNets}
use Rattle.dft_chains.proofs.Staying.{net_stays, chains_stay, cell_stays}
use Rattle.dft_edt.specs.Hardware.{EdtNets, HasStage, IsEntered, HasPhase, HasRing, HeadsAre, HasHold, HasEnd, HasOutput, HasCompactor, before_in, HardwareStays}
use Rattle.dft_config.specs.Segments.{chain_in}
use Rattle.dft_parts.specs.SumTrees.{IsSum, Term, Joined}
use Rattle.dft_parts.specs.Standing.{IsFlop}

sum_stays : (l m : Logic) (net : ℕ) (terms : List ℕ) → MeansMore l m → IsSum l net terms → IsSum m net terms
sum_stays l m net _ more Term = Term
sum_stays l m net _ more (Joined {net = at} {a = a} {b = b} {left = xs} {right = ys} is first second) =
    Joined {net = at} {a = a} {b = b} {left = xs} {right = ys} (net_stays l m at (Gate Xor (Net a ∷ Net b ∷ [])) more is (λ free. free)) (sum_stays l m a xs more first) (sum_stays l m b ys more second)

abbrev is_net : Source → Type 0
is_net (Net net) = Unit {0}
is_net _ = ⊥

flop_stays : (l m : Logic) (clock flop output input : ℕ) → MeansMore l m → IsFlop l clock flop output input → IsFlop m clock flop output input
flop_stays l m clock flop output input more is = record {
  cell = elim (more.cells flop) [
    | inl none ↦ absurd (subst is_net (sym (ap (λ (c : Cell). c.takes.input) is.cell) ∙ ap (λ (c : Cell). c.takes.input) none) tt)
    | inr same ↦ same ∙ is.cell
  ];
  net = net_stays l m output (Flop flop false) more is.net (λ free. free);
}

stage_stays : (l m : Logic) (ring : RingConfig) (hw : EdtNets) (i : ℕ) → MeansMore l m → HasStage l ring hw i → HasStage m ring hw i
stage_stays l m ring hw i more h = record {
  sum = h.sum;
  kept = h.kept;
  sums = sum_stays l m h.sum _ more h.sums;
  gate = net_stays l m h.kept (Gate And (Net h.sum ∷ Net hw.run ∷ [])) more h.gate (λ free. free);
  flop = flop_stays l m hw.clock (hw.stage i) (hw.stage_net i) h.kept more h.flop;
}

entry_stays : (l m : Logic) (hw : EdtNets) (into : Source) (sum : ℕ) (falling : Bool) → MeansMore l m → IsEntered l hw into sum falling → IsEntered m hw into sum falling
entry_stays l m hw into sum true more h = h
entry_stays l m hw into sum false more h = record { lockup = h.lockup; entry = h.entry; latch = net_stays l m h.entry (Lockup h.lockup hw.clock false (Net sum)) more h.latch (λ free. free); leads = h.leads }

phase_stays : (l m : Logic) (ring : RingConfig) (hw : EdtNets) (into : Source) (falling : Bool) (chain : ℕ) → MeansMore l m → HasPhase l ring hw into falling chain → HasPhase m ring hw into falling chain
phase_stays l m ring hw into falling chain more h = record {
  sum = h.sum;
  sums = sum_stays l m h.sum _ more h.sums;
  entered = entry_stays l m hw into h.sum falling more h.entered;
}

pub heads_stay : (l m : Logic) (ports : Ports) (config : Config) (chains : List (List InstanceId)) (w : ChainNets) (hw : EdtNets) (falling : ℕ → Bool) → MeansMore l m → HasRing l ports config chains w hw → HeadsAre l chains falling → HeadsAre m chains falling
heads_stay l m ports config chains w hw falling more h heads chain cell stands =
    ap (λ (c : Cell). c.falling) (cell_stays l m cell.0 more (h.chained.cells chain zero cell stands).modelled) ∙ heads chain cell stands

ring_stays : (l m : Logic) (ports : Ports) (config : Config) (chains : List (List InstanceId)) (w : ChainNets) (hw : EdtNets) → MeansMore l m → HasRing l ports config chains w hw → HasRing m ports config chains w hw
ring_stays l m ports config chains w hw more h = record {
  count = h.count;
  chained = chains_stay l m ports chains w more h.chained;
  update = net_stays l m hw.update Input more h.update (λ free. free);
  channels = λ j less. net_stays l m (hw.channel j) Input more (h.channels j less) (λ free. free);
  run = net_stays l m hw.run (Gate Inv (Net hw.update ∷ [])) more h.run (λ free. free);
  stages = λ i less. stage_stays l m config.ring hw i more (h.stages i less);
  phases = λ chain cell stands. (
      let same = cell_stays l m cell.0 more (h.chained.cells chain zero cell stands).modelled in
      phase_stays l m config.ring hw (w.into chain zero) (m.cell cell.0).falling chain more
      (subst (λ (c : Cell). HasPhase l config.ring hw (w.into chain zero) c.falling chain) (sym same) (h.phases chain cell stands)));
}

hold_stays : (l m : Logic) (hw : EdtNets) (chain : ℕ) → MeansMore l m → HasHold l hw chain → HasHold m hw chain
hold_stays l m hw chain more h = record {
  taken = h.taken;
  kept = h.kept;
  next = h.next;
  take = net_stays l m h.taken (Gate And (Net hw.update ∷ Net (hw.mask_net chain) ∷ [])) more h.take (λ free. free);
  keep = net_stays l m h.kept (Gate And (Net hw.run ∷ Net (hw.hold_net chain) ∷ [])) more h.keep (λ free. free);
  either = net_stays l m h.next (Gate Or (Net h.taken ∷ Net h.kept ∷ [])) more h.either (λ free. free);
  flop = flop_stays l m hw.clock (hw.hold chain) (hw.hold_net chain) h.next more h.flop;
}

end_stays : (l m : Logic) (chains : List (List InstanceId)) (hw : EdtNets) (chain : ℕ) → MeansMore l m → HasEnd l chains hw chain → HasEnd m chains hw chain
end_stays l m chains hw chain more h = record {
  place = h.place;
  cell = h.cell;
  here = h.here;
  last = h.last;
  shown = h.shown;
  end = net_stays l m (hw.end_net chain) (Flop h.cell.0 false) more h.end (λ free. free);
  show = net_stays l m h.shown (Gate Inv (Net (hw.hold_net chain) ∷ [])) more h.show (λ free. free);
  gate = net_stays l m (hw.gated chain) (Gate And (Net h.shown ∷ Net (hw.end_net chain) ∷ [])) more h.gate (λ free. free);
}

output_stays : (l m : Logic) (config : Config) (hw : EdtNets) (j : ℕ) → MeansMore l m → HasOutput l config hw j → HasOutput m config hw j
output_stays l m config hw j more h = record {
  sum = h.sum;
  sums = sum_stays l m h.sum _ more h.sums;
  buffer = net_stays l m (hw.output j) (Gate Buf (Net h.sum ∷ [])) more h.buffer (λ free. free);
}

compactor_stays : (l m : Logic) (config : Config) (chains : List (List InstanceId)) (hw : EdtNets) → MeansMore l m → HasCompactor l config chains hw → HasCompactor m config chains hw
compactor_stays l m config chains hw more h = record {
  ports = λ i less. net_stays l m (hw.mask_port i) Input more (h.ports i less) (λ free. free);
  masks = λ i k i_less k_less. flop_stays l m hw.clock (hw.mask (chain_in config i k)) (hw.mask_net (chain_in config i k)) (before_in config hw.mask_port hw.mask_net i k) more (h.masks i k i_less k_less);
  holds = λ chain less. hold_stays l m hw chain more (h.holds chain less);
  ends = λ chain less. end_stays l m chains hw chain more (h.ends chain less);
  outputs = λ j less. output_stays l m config hw j more (h.outputs j less);
}

pub hardware_stays : HardwareStays
hardware_stays l m ports config chains w hw more = (ring_stays l m ports config chains w hw more, compactor_stays l m config chains hw more)
