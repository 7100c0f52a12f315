-- What the original's strobe and capture know stands above the abstract cycle of a design that contains it.
use Rattle.std.specs.Prelude.{ℕ, ◌<◌, ◌≡◌, ◌==◌, ◌&&◌, ◌⊎◌, Bool, true, false, List, [], ◌∷◌, if◌then◌else◌}
use Rattle.dft_base.specs.declared.tri.Tri.{Tri}
use Rattle.dft_base.specs.declared.tri.Tri.TheVariants.{Zero}
use Rattle.dft_base.specs.Tri.{AboveTri}
use Rattle.dft_cells.specs.declared.kind.Gate.{Gate as GateKind}
use Rattle.dft_cells.specs.FlipFlops.{taken_from}
use Rattle.dft_netlist.specs.Drivers.{Source, nets_of, AreBelow}
use Rattle.dft_behavior.specs.Logic.{Logic, Input, Clock, Gate, Joined, Flop, Lockup, Free, reads, IsRanked}
use Rattle.dft_behavior.specs.Settled.{IsTriSettled}
use Rattle.dft_behavior.specs.Runs.{Vector, takes}
use Rattle.dft_abstract.specs.Cycle.{rise_of, strobe_sources, Halves, AreHalves, after_halves}
use Rattle.dft_abstract.specs.Laws.{next_from}
use Rattle.dft_runs.specs.WiderPorts.{MeansMore}
use Rattle.dft_chains.specs.ScanOff.{moved_meaning, Places, KeepsFlop, Contains}

-- The written design has each net of the original with the same meaning, or the net is free in the original, as the output of a
-- flip-flop that is modelled only where more ports count as resets; and it has each modelled flip-flop of the original.
pub record Covers (original written : Logic) (p : Places) : Type 0 where
  pub enable : written.net p.enable ≡ Input
  pub nets : (net : ℕ) → net < p.size → (original.net net ≡ Free) ⊎ (written.net (p.moved net) ≡ moved_meaning p.moved (original.net net))
  pub closed : (net : ℕ) → net < p.size → AreBelow (λ k. k) p.size (reads (original.net net))
  pub shown : (net cell : ℕ) (inverted : Bool) → net < p.size → original.net net ≡ Flop cell inverted → p.is_flop cell ≡ true
  pub flops : (cell : ℕ) → p.is_flop cell ≡ true → KeepsFlop p (original.cell cell) (written.cell cell)
  pub no_lockup : (net cell domain : ℕ) (high : Bool) (source : Source) → net < p.size → original.net net ≡ Lockup cell domain high source → ⊥

-- a design that contains another covers it
abbrev pub ContainingCovers : Type 0
ContainingCovers = (original written : Logic) (p : Places) → Contains original written p → Covers original written p

-- so does one that means more, as under wider ports, where the flip-flops of the original are the same
abbrev pub WideningCovers : Type 0
WideningCovers =
    (original written wide : Logic) (p : Places) → Contains original written p → MeansMore written wide → ((cell : ℕ) → p.is_flop cell ≡ true → wide.cell cell ≡ written.cell cell) →
    Covers original wide p

-- what a vector of the written design is for the original: the ports' values and the flip-flops' stand above those of the design
pub record StandsOver (p : Places) (y x : Vector) (its old : ℕ → Tri) : Type 0 where
  pub ports : (net : ℕ) → net < p.size → AboveTri (y.ports net) (x.ports (p.moved net))
  pub flops : (cell : ℕ) → p.is_flop cell ≡ true → AboveTri (its cell) (old cell)

-- At the strobe of any vector.
abbrev pub StrobeLaw : Type 0
StrobeLaw =
    (original written : Logic) (rank : ℕ → ℕ) (p : Places) (y x : Vector) (its old values shows : ℕ → Tri) →
    IsRanked original rank → Covers original written p → StandsOver p y x its old → IsTriSettled original (strobe_sources original y its values) values → IsTriSettled written (strobe_sources written x old shows) shows →
    (net : ℕ) → net < p.size → AboveTri (values net) (shows (p.moved net))

-- a capture vector: of the original's clocks this one pulses alone, and scan_enable is 0
pub record IsCapture (p : Places) (d : ℕ) (x : Vector) : Type 0 where
  pub pulsed : x.pulsed (p.moved d) ≡ true
  pub alone : (e : ℕ) → x.pulsed (p.moved e) ≡ true → e ≡ d
  pub off : x.ports p.enable ≡ Zero

-- ---- captures

abbrev pub AllIn : (free : ℕ → Bool) → List ℕ → Type 0
AllIn free [] = Unit {0}
AllIn free (net ∷ nets) = (free net ≡ true) × AllIn free nets

-- nets that no clock reaches: none is a clock port, and gates and joins among them read such nets alone
pub record IsClockFree (l : Logic) (free : ℕ → Bool) : Type 0 where
  pub clocks : (net : ℕ) → free net ≡ true → l.net net ≡ Clock → ⊥
  pub gates : (net : ℕ) (kind : GateKind) (inputs : List Source) → free net ≡ true → l.net net ≡ Gate kind inputs → AllIn free (nets_of inputs)
  pub joins : (net : ℕ) (source : Source) → free net ≡ true → l.net net ≡ Joined source → AllIn free (nets_of (source ∷ []))

-- the flip-flops' values after an edge of a domain's clock: those that take a bit there have their next values, from their own and these of nets
abbrev pub after_edge : Logic → Vector → (domain : ℕ) → (rising : Bool) → (values old : ℕ → Tri) → (cell : ℕ) → Tri
after_edge l y d rising values old c = if ((l.cell c).domain == d) && takes rising (l.cell c).falling then next_from l y values (old c) c else old c

-- What a capture of a domain knows of the original: the values that are settled before its clock rises, and those that are settled before it falls,
-- where no more is known of the flip-flops than what they have once it has risen. Clocks are 0 in both.
pub record IsCaptured (l : Logic) (d : ℕ) (y : Vector) (its risen values later : ℕ → Tri) : Type 0 where
  pub first : IsTriSettled l (strobe_sources l y its values) values
  pub above : (cell : ℕ) → AboveTri (risen cell) (after_edge l y d true values its cell)
  pub second : IsTriSettled l (strobe_sources l y risen later) later

-- After a capture vector, whatever the halves: a rising flip-flop of the domain has no more than its next value from the values before the rise, a
-- falling one that takes nothing which a clock reaches no more than its next value from those before the fall, and another one no more than what it had.
abbrev pub CaptureLaw : Type 0
CaptureLaw =
    (original written : Logic) (rank : ℕ → ℕ) (p : Places) (d : ℕ) (y x : Vector) (its risen old : ℕ → Tri) (h : Halves) (values later : ℕ → Tri) (free : ℕ → Bool) →
    IsRanked original rank → Covers original written p → IsClockFree original free → IsCapture p d x → StandsOver p y x its old → IsCaptured original d y its risen values later →
    AreHalves written x old h → (cell : ℕ) → p.is_flop cell ≡ true → ((original.cell cell).falling ≡ true → AllIn free (nets_of (taken_from (original.cell cell).takes))) →
    AboveTri (after_edge original y d false later (after_edge original y d true values (rise_of original y its).old) cell) (after_halves written x old h cell)
