-- The steps of flattening: what the tests of a hierarchy give.
use Rattle.std.proofs.Common.{ℕ, ◌<◌, ◌≡◌, List, length, get_or, None, Some, Ok, slice_get, sym, ap, subst, arith, ◌∙◌}
use Rattle.std.proofs.lemmas.Option.{slice_get-get_or}
use Rattle.dft_base.specs.Lexing.{Text}
use Rattle.dft_cells.specs.declared.cell.Cell.{Cell}
use Rattle.dft_netlist.specs.declared.error.NetlistError.{NetlistError}
use Rattle.dft_netlist.specs.declared.error.NetlistError.TheVariants as netlist
use Rattle.dft_netlist.specs.Netlist.{Netlist}
use Rattle.dft_netlist.specs.Finishing.{IsFinished, CannotFinish}
use Rattle.dft_modules.specs.Modules.{Module}
use Rattle.dft_modules.specs.Sound.{AreModules}
use Rattle.dft_hier.specs.declared.weights.Weight.{Weight}
use Rattle.dft_hier.specs.declared.error.HierError.{HierError}
use Rattle.dft_hier.specs.Growing.{IsRefusal}
use Rattle.dft_hier.specs.Hierarchy.{all_subs, HaveOwnNames}
use Rattle.dft_hier.specs.Laid.{IsTopOf, IsFlatNetlist, IsLaidOut, flat_at, flat_in, told_of}
use Rattle.dft_hier.specs.Numbers.{children_of}
use Rattle.dft_hier.specs.Reach.{Graph, AreWithin, IsOrder, IsFirstOnCircle, NoCircle}
use Rattle.dft_hier.specs.Refusals.{first_unknown, first_misfit, NoneInItself, IsFirstInItself, IsFlat, Part, Whole, CannotFlatten}
use Rattle.dft_hier.specs.TopNumbers.{IsTop, TellsTops}
use Rattle.dft_hier.specs.Fitting.{TellsMisfit}
use Rattle.dft_hier.specs.Weights.{Live, AreWeights, AreLive}
use Rattle.dft_hier.proofs.RefusalLemmas.{tops_told, misfit_told}
use Rattle.dft_hier.proofs.ModuleLemmas.{none_in_itself, first_in_itself, top_is, module_at}
use Rattle.dft_hier.proofs.NumberLemmas.{graph_count, graph_within}
use Rattle.dft_hier.proofs.ReachLemmas.{ordered_apart}

pub within_of : (ms : List Module) (g : Graph) → g ≡ children_of ms → AreWithin (length g) g
within_of ms g is = subst (λ (x : Graph). AreWithin (length x) x) (sym is) (graph_within ms)

pub count_of : (ms : List Module) (g : Graph) → g ≡ children_of ms → length g ≡ length ms
count_of ms g is = ap (λ (x : Graph). length x) is ∙ graph_count ms

pub ordered_none : (ms : List Module) (g : Graph) (order : List ℕ) → HaveOwnNames ms → g ≡ children_of ms → IsOrder g order → NoneInItself ms ms
ordered_none ms g order own is o = none_in_itself ms own (subst NoCircle is (ordered_apart g order o))

pub ordered_circle : (ms : List Module) (g : Graph) (order : List ℕ) → g ≡ children_of ms → IsOrder g order → NoCircle (children_of ms)
ordered_circle ms g order is o = subst NoCircle is (ordered_apart g order o)

pub first_named : (ms : List Module) (g : Graph) (first : ℕ) (m : Module) (name : Text) → HaveOwnNames ms → g ≡ children_of ms → IsFirstOnCircle g first → m ≡ get_or ms first m → name ≡ m.name → IsFirstInItself ms name
first_named ms g first m name own is circle at named =
    let size = count_of ms g is in
    let live = circle.live in
    let there : slice_get ms first ≡ Some m = slice_get-get_or ms first m (omega arith) ∙ ap (λ (x : Module). Some x) (sym at) in
    subst (IsFirstInItself ms) (sym named) (first_in_itself ms first m own (subst (λ (x : Graph). IsFirstOnCircle x first) is circle) there)

-- the one top is there, and is the top of a hierarchy
pub top_found : (ms : List Module) (g : Graph) (k : ℕ) → HaveOwnNames ms → first_unknown ms ≡ None → NoneInItself ms ms → g ≡ children_of ms → IsTop g k → k < length g → first_misfit ms (all_subs ms) ≡ None → IsTopOf ms k
top_found ms g k own known apart is top live fitting =
    let size = count_of ms g is in
    let m = module_at ms k (omega arith) in
    record {
      top = m.0;
      at = m.1;
      joinable = record { hierarchy = record { known = known; apart = apart; one = top_is ms k m.0 own (subst (λ (x : Graph). IsTop x k) is top) m.1 }; fitting = fitting };
    }

-- ---- what is built

-- what is built is the flat netlist
pub built_whole : (ms : List Module) (library : List Cell) (k : ℕ) (grown : Netlist) → IsTopOf ms k → flat_at ms library k ≡ Ok grown → IsFlatNetlist ms library grown
built_whole ms library k grown t built = record {
  top = t.top;
  joinable = t.joinable;
  parts = sym (ap (flat_in ms library) t.at) ∙ built;
}

-- a flat netlist that is finished is the flat design
pub finished_flat : (ms : List Module) (library : List Cell) (grown design : Netlist) → IsFlatNetlist ms library grown → IsFinished grown design → IsFlat ms library design
finished_flat ms library grown design f done = record {
  top = f.top;
  joinable = f.joinable;
  grown = grown;
  parts = f.parts;
  finished = done;
}

pub built_refused : (ms : List Module) (library : List Cell) (k : ℕ) (e : NetlistError) → IsTopOf ms k → IsRefusal (flat_at ms library k) e → CannotFlatten ms library (told_of e)
built_refused ms library k (netlist.Memory error) t is = tt
built_refused ms library k (netlist.MultipleDrivers net) t is = Part t.joinable (sym (ap (flat_in ms library) t.at) ∙ is)
built_refused ms library k (netlist.Loop net) t is = Part t.joinable (sym (ap (flat_in ms library) t.at) ∙ is)
built_refused ms library k (netlist.DuplicateName name) t is = Part t.joinable (sym (ap (flat_in ms library) t.at) ∙ is)
built_refused ms library k (netlist.TooMany what limit) t is = Part t.joinable (sym (ap (flat_in ms library) t.at) ∙ is)

pub unfinished_told : (ms : List Module) (library : List Cell) (grown : Netlist) (e : NetlistError) → IsFlatNetlist ms library grown → CannotFinish grown e → CannotFlatten ms library (told_of e)
unfinished_told ms library grown (netlist.Memory error) f is = tt
unfinished_told ms library grown (netlist.MultipleDrivers net) f is = Whole f.joinable f.parts is
unfinished_told ms library grown (netlist.Loop net) f is = Whole f.joinable f.parts is
unfinished_told ms library grown (netlist.DuplicateName name) f is = Whole f.joinable f.parts is
unfinished_told ms library grown (netlist.TooMany what limit) f is = Whole f.joinable f.parts is

-- ---- refusals of the top and of connections

pub tops_refused : (ms : List Module) (g : Graph) (library : List Cell) (error : HierError) → HaveOwnNames ms → first_unknown ms ≡ None → NoneInItself ms ms → g ≡ children_of ms → TellsTops g error → CannotFlatten ms library error
tops_refused ms g library error own known apart is told = tops_told ms library error own known apart (subst (λ (x : Graph). TellsTops x error) is told)

pub misfit_refused : (ms : List Module) (g : Graph) (library : List Cell) (k : ℕ) (error : HierError) → HaveOwnNames ms → first_unknown ms ≡ None → NoneInItself ms ms → g ≡ children_of ms → IsTop g k → k < length g → TellsMisfit (first_misfit ms (all_subs ms)) error → CannotFlatten ms library error
misfit_refused ms g library k error own known apart is top live told =
    let size = count_of ms g is in
    let m = module_at ms k (omega arith) in
    misfit_told ms library error m.0 (record { known = known; apart = apart; one = top_is ms k m.0 own (subst (λ (x : Graph). IsTop x k) is top) m.1 }) told

-- ---- what stands for the walks

pub hierarchy_laid : (ms : List Module) (g : Graph) (library : List Cell) (order : List ℕ) (k : ℕ) (weights : List Weight) (items : List Live) → AreModules library ms → g ≡ children_of ms → IsOrder g order → IsTopOf ms k → AreWeights ms g weights → AreLive ms g weights items →
    IsLaidOut library ms weights items
hierarchy_laid ms g library order k weights items sound is ordered top weighed live = record {
  sound = sound;
  known = top.joinable.hierarchy.known;
  apart = ordered_circle ms g order is ordered;
  fitting = top.joinable.fitting;
  weights = subst (λ (x : Graph). AreWeights ms x weights) is weighed;
  items = subst (λ (x : Graph). AreLive ms x weights items) is live;
}
