-- Each instance of the scanned netlist can stand in it.
use Rattle.std.proofs.Common.{ℕ, zero, suc, ◌+◌, ◌≡◌, ◌≤◌, ◌<◌, Bool, true, List, ◌∷◌, length, map, drop, Option, None, Some, is_some, slice_get, refl, subst, ap, arith, ◌∙◌, []}
use Rattle.std.specs.Prelude.{slice_index_or}
use Rattle.std.proofs.lemmas.List.{length-map}
use Rattle.std.proofs.lemmas.Option.{none-some, same_Some, slice_get_within}
use Rattle.dft_base.specs.Lexing.{Text}
use Rattle.dft_base.proofs.ListLemmas.{at_of_map}
use Rattle.dft_cells.specs.declared.kind.Kind.{Kind}
use Rattle.dft_cells.specs.declared.kind.Kind.TheVariants as kind
use Rattle.dft_cells.specs.declared.kind.Role.{Role}
use Rattle.dft_cells.specs.declared.cell.Cell.{Cell}
use Rattle.dft_cells.specs.declared.cell.CellId.{CellId}
use Rattle.dft_netlist.specs.declared.instance.CellRef.{CellRef}
use Rattle.dft_netlist.specs.declared.instance.CellRef.TheVariants.{Library, Gate}
use Rattle.dft_netlist.specs.declared.instance.Signal.{Signal}
use Rattle.dft_netlist.specs.declared.instance.Signal.TheVariants.{Net, Constant, Unconnected}
use Rattle.dft_netlist.specs.declared.instance.Instance.{Instance}
use Rattle.dft_netlist.specs.Drivers.{shape_of, shape_of_cell}
use Rattle.dft_netlist.specs.Sound.{IsLive, AreLive, IsCellOf, IsInstance, NoConstantOutput, is_output}
use Rattle.dft_rules.specs.Rules.{scan_cell_in}
use Rattle.dft_scan_frame.specs.Moves.{Gap, moved_signal}
use Rattle.dft_scan_frame.proofs.Pairs.{shared_roles}
use Rattle.dft_scan_frame.proofs.ScanPairs.{ScanPair, Plain, PlainBoth, Resets, ResetsBoth, Sets, SetsBoth}
use Rattle.dft_scan_frame.proofs.LiveNets.{moved_less}

-- ---- moved instances

pub signal_live : (gap : Gap) (count all : ℕ) (s : Signal) → count + gap.width ≤ all → IsLive count s → IsLive all (moved_signal gap s)
signal_live gap count all (Net net) le live = omega (arith, le, moved_less gap net.0 count live)
signal_live gap count all (Constant bit) le live = tt
signal_live gap count all Unconnected le live = tt

pub moved_live : (gap : Gap) (count all : ℕ) (pins : List Signal) → count + gap.width ≤ all → AreLive count pins → AreLive all (map (moved_signal gap) pins)
moved_live gap count all pins le live place s at =
    let it = at_of_map (moved_signal gap) pins place s at in subst (IsLive all) it.2 (signal_live gap count all it.0 le (live place it.0 it.1))

moved_constant : (gap : Gap) (s : Signal) (bit : Bool) → moved_signal gap s ≡ Constant bit → s ≡ Constant bit
moved_constant gap (Net net) bit e = absurd cc
moved_constant gap (Constant b) bit e = e
moved_constant gap Unconnected bit e = e

pub moved_outputs : (gap : Gap) (roles : List Role) (pins : List Signal) → NoConstantOutput roles pins → NoConstantOutput roles (map (moved_signal gap) pins)
moved_outputs gap roles pins none pin role bit at is there =
    let it = at_of_map (moved_signal gap) pins pin (Constant bit) there in none pin role bit at is (it.1 ∙ ap Some (moved_constant gap it.0 bit it.2))

pub moved_sound : (library : List Cell) (gap : Gap) (count all : ℕ) (x : Instance) → count + gap.width ≤ all → IsInstance library count x.name x.cell x.pins → IsInstance library all x.name x.cell (map (moved_signal gap) x.pins)
moved_sound library gap count all x le sound = record {
  fits = sound.fits;
  width = length-map x.pins (moved_signal gap) ∙ sound.width;
  live = moved_live gap count all x.pins le sound.live;
  outputs = moved_outputs gap (shape_of library x.cell).roles x.pins sound.outputs;
}

-- ---- scan cells

pub live_drop : (all : ℕ) (pins : List Signal) → AreLive all pins → AreLive all (drop 1 pins)
live_drop all [] live = live
live_drop all (x ∷ pins) live = λ place s at. live (suc place) s at

pub live_first : (all : ℕ) (pins : List Signal) → AreLive all pins → IsLive all (slice_index_or pins zero Unconnected)
live_first all [] live = tt
live_first all (x ∷ pins) live = live 0 x refl

-- no output is joined to a constant, pin by pin
pub none_none : (pins : List Signal) → NoConstantOutput [] pins
none_none pins pin role bit at is there = none-some role at

pub none_cons : (r : Role) (roles : List Role) (s : Signal) (pins : List Signal) → (is_output r ≡ true → (bit : Bool) → s ≡ Constant bit → ⊥) → NoConstantOutput roles pins → NoConstantOutput (r ∷ roles) (s ∷ pins)
none_cons r roles s pins here more zero role bit at is there = here (ap is_output (same_Some r role at) ∙ is) bit (same_Some s (Constant bit) there)
none_cons r roles s pins here more (suc pin) role bit at is there = more pin role bit at is there

pub none_drop : (r : Role) (roles : List Role) (pins : List Signal) → NoConstantOutput (r ∷ roles) pins → NoConstantOutput roles (drop 1 pins)
none_drop r roles [] none pin role bit at is there = none-some (Constant bit) there
none_drop r roles (s ∷ pins) none pin role bit at is there = none (suc pin) role bit at is there

pub none_first : (r : Role) (roles : List Role) (pins : List Signal) (bit : Bool) → NoConstantOutput (r ∷ roles) pins → is_output r ≡ true → slice_index_or pins zero Unconnected ≡ Constant bit → ⊥
none_first r roles [] bit none is e = cc
none_first r roles (s ∷ pins) bit none is e = none zero r bit refl is (ap Some e)

-- the flip-flop has its scan cell's pins but those for scan
pub pair_shared : (k : Kind) (old : List Role) (l : Kind) (new : List Role) → ScanPair k old l new → old ≡ shared_roles new
pair_shared k old l new Plain = refl
pair_shared k old l new PlainBoth = refl
pair_shared k old l new Resets = refl
pair_shared k old l new ResetsBoth = refl
pair_shared k old l new Sets = refl
pair_shared k old l new SetsBoth = refl

pub pair_modelled : (k : Kind) (old : List Role) (l : Kind) (new : List Role) → ScanPair k old l new → l ≡ kind.Opaque → ⊥
pair_modelled k old l new Plain e = cc
pair_modelled k old l new PlainBoth e = cc
pair_modelled k old l new Resets e = cc
pair_modelled k old l new ResetsBoth e = cc
pair_modelled k old l new Sets e = cc
pair_modelled k old l new SetsBoth e = cc

-- a cell that is modelled is there
there_by : (library : List Cell) (k : ℕ) (o : Option Cell) → slice_get library k ≡ o → ((shape_of_cell o).kind ≡ kind.Opaque → ⊥) → k < length library
there_by library k None at modelled = absurd (modelled refl)
there_by library k (Some cell) at modelled = slice_get_within library k cell at

pub there : (library : List Cell) (id : CellId) → ((shape_of library (Library id)).kind ≡ kind.Opaque → ⊥) → id.0 < length library
there library id modelled = there_by library id.0 (slice_get library id.0) refl modelled

pub named_by : (library : List Cell) (name : Option Text) (ref : CellRef) (id : CellId) → scan_cell_in library ref ≡ Some id → IsCellOf library name ref → is_some name ≡ true
named_by library name (Library cell) id e fits = fits.1
named_by library name (Gate k inputs) id e fits = absurd (none-some id e)
