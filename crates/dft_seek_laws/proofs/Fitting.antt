-- The scanned cells are modelled in the design, and in the design with a fault by whose net no clock, reset or set comes.
use Rattle.std.proofs.Common.{ℕ, ◌≡◌, ◌==◌, ◌&&◌, ◌∙◌, Bool, true, false, List, [], ◌∷◌, Option, Some, is_some, refl, sym, subst, ap}
use Rattle.std.specs.Prelude.{if◌then◌else◌}
use Rattle.dft_cells.specs.declared.kind.Gate.{Gate as GateKind}
use Rattle.dft_cells.specs.FlipFlops.{taken_from}
use Rattle.dft_netlist.specs.declared.ids.NetId.{NetId}
use Rattle.dft_netlist.specs.Netlist.{Netlist}
use Rattle.dft_netlist.specs.Drivers.{IsOrdered, Source, Tied, nets_of}
use Rattle.dft_behavior.specs.Logic.{Clock, Gate, Joined, Logic, Meaning, Ports, flip_flop, logic_of}
use Rattle.dft_behavior.specs.Runs.{takes}
use Rattle.dft_edt.specs.Captures.{AllIn, IsClockFree}
use Rattle.dft_rules.specs.ConfigPorts.{config_ports}
use Rattle.dft_rules.specs.Rules.{is_net, judgements}
use Rattle.dft_stitch.specs.Chains.{clock_of}
use Rattle.dft_expect.specs.Captures.{capture_clock}
use Rattle.dft_expect.specs.Capturing.{CanCapture}
use Rattle.dft_faults.specs.Faulty.{IsFault, faulty}
use Rattle.dft_fault_laws.specs.Stuck.{IsApart, with_fault}
use Rattle.dft_fault_laws.proofs.Meaning.{faulty_means, flip_flop_kept}
use Rattle.dft_scan_behavior.proofs.ClockFree.{clock_free, inputs_clear, is_clear}
use Rattle.dft_seek.specs.Searches.{Search, cells_in, has_cell, is_of, moving_of, takes_at}
use Rattle.dft_seek.proofs.RigLemmas.{cell_there, no_clock_resets}
use Rattle.dft_seeking.proofs.ExpectedLemmas.{takes_edge}
use Rattle.dft_seek_laws.proofs.Following.{Fits}

-- ---- the design

module _ (s : Search) (rank : ℕ → ℕ) (order : IsOrdered s.design rank) (can : CanCapture s.design s.config) (clock : NetId) (is : capture_clock s.design s.config s.domain ≡ Some clock) where
  abbrev own : Ports
  own = config_ports s.design s.config

  abbrev l : Logic
  l = logic_of s.design own

  flops : (i : ℕ) → has_cell (cells_in s) i ≡ true → is_some (flip_flop s.design own i) ≡ true
  flops i holds = ap is_some (cell_there s.design s.config i can holds).flop

  moves : (rising falling : Bool) → ((i : ℕ) → has_cell (cells_in s) i ≡ true →
      (is_net (l.cell i).domain (capture_clock s.design s.config s.domain) && takes rising (l.cell i).falling) ≡ is_of s.domain falling (clock_of (judgements s.design s.config) (record { 0 = i }))) →
      (i : ℕ) → has_cell (cells_in s) i ≡ true → ((clock.0 == (l.cell i).domain) && takes rising (l.cell i).falling) ≡ takes_at s falling i
  moves rising falling edge i holds =
      ap (λ (o : Option NetId). is_net (l.cell i).domain o && takes rising (l.cell i).falling) (sym is) ∙ edge i holds
      ∙ ap (λ (b : Bool). b && is_of s.domain falling (clock_of (judgements s.design s.config) (record { 0 = i }))) (sym holds)

  pub good_fits : Fits s.design own (moving_of s) clock.0 (is_clear s.design s.config)
  good_fits = record {
    clocks = λ net. refl;
    apart = λ net clocks resets. no_clock_resets s.design s.config net can.range clocks resets;
    flops = flops;
    rises = moves true false (λ i holds. takes_edge s can true i holds);
    falls = moves false true (λ i holds. takes_edge s can false i holds);
    clear = clock_free s.design s.config rank order can.netlist can.library can.passed;
    inputs = λ i holds. inputs_clear s.design s.config rank order can.netlist can.library can.passed i (flops i holds);
  }

-- ---- the design with the fault

module _ (l : Logic) (free : ℕ → Bool) (stuck : ℕ) (value : Bool) (clear : IsClockFree l free) where
  stuck_clock : (net : ℕ) (b : Bool) → free net ≡ true → (if b then Joined (Tied value) else l.net net) ≡ Clock → ⊥
  stuck_clock net true is e = let f : ⊥ = cc in f
  stuck_clock net false is e = clear.clocks net is e

  stuck_gate : (net : ℕ) (kind : GateKind) (inputs : List Source) (b : Bool) → free net ≡ true → (if b then Joined (Tied value) else l.net net) ≡ Gate kind inputs → AllIn free (nets_of inputs)
  stuck_gate net kind inputs true is e = absurd (let f : ⊥ = cc in f)
  stuck_gate net kind inputs false is e = clear.gates net kind inputs is e

  abbrev joined_in : Source → Meaning → Source
  joined_in other (Joined source) = source
  joined_in other _ = other

  stuck_join : (net : ℕ) (source : Source) (b : Bool) → free net ≡ true → (if b then Joined (Tied value) else l.net net) ≡ Joined source → AllIn free (nets_of (source ∷ []))
  stuck_join net source true is e = (let same : Tied value ≡ source = ap (joined_in source) e in subst (λ (x : Source). AllIn free (nets_of (x ∷ []))) same tt)
  stuck_join net source false is e = clear.joins net source is e

  stuck_clear : IsClockFree (with_fault stuck value l) free
  stuck_clear = record {
    clocks = λ net is e. stuck_clock net (net == stuck) is e;
    gates = λ net kind inputs is e. stuck_gate net kind inputs (net == stuck) is e;
    joins = λ net source is e. stuck_join net source (net == stuck) is e;
  }

pub bad_fits : (s : Search) (rank : ℕ → ℕ) → IsOrdered s.design rank → CanCapture s.design s.config → (clock : NetId) → capture_clock s.design s.config s.domain ≡ Some clock → IsFault s.design s.fault → IsApart s.design s.fault →
    Fits (faulty s.design s.fault) (config_ports s.design s.config) (moving_of s) clock.0 (is_clear s.design s.config)
bad_fits s rank order can clock is fault apart =
    let n : Netlist = s.design in
    let own : Ports = config_ports n s.config in
    let free : ℕ → Bool = is_clear n s.config in
    let good : Fits n own (moving_of s) clock.0 free = good_fits s rank order can clock is in
    let same : logic_of (faulty n s.fault) own ≡ with_fault s.fault.net.0 s.fault.value (logic_of n own) = faulty_means n s.fault own fault apart in
    record {
      clocks = good.clocks;
      apart = good.apart;
      flops = λ i holds. ap is_some (flip_flop_kept n s.fault apart.0 own i fault apart.1.0 apart.1.1) ∙ good.flops i holds;
      rises = λ i holds. ap (λ (l : Logic). (clock.0 == (l.cell i).domain) && takes true (l.cell i).falling) same ∙ good.rises i holds;
      falls = λ i holds. ap (λ (l : Logic). (clock.0 == (l.cell i).domain) && takes false (l.cell i).falling) same ∙ good.falls i holds;
      clear = subst (λ (l : Logic). IsClockFree l free) (sym same) (stuck_clear (logic_of n own) free s.fault.net.0 s.fault.value good.clear);
      inputs = λ i holds. subst (λ (l : Logic). AllIn free (nets_of (taken_from (l.cell i).takes))) (sym same) (good.inputs i holds);
    }
