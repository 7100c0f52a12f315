-- What is found of nets and instances answers what the definitions ask.
use Rattle.std.proofs.Common.{◌≡◌, ℕ, zero, suc, ◌+◌, ◌<◌, Bool, true, false, cond, not, ◌&&◌, ◌||◌, List, [], ◌∷◌, length, get_or, Option, None, Some, option_map, option_and_then, slice_get, refl, sym, ◌∙◌, ap, arith}
use Rattle.std.specs.Prelude.{nat_lt, slice_index_or}
use Rattle.std.specs.List.{list_any, range_with_len}
use Rattle.std.proofs.lemmas.List.{length-map}
use Rattle.std.proofs.lemmas.List.Folds.{list_any-append}
use Rattle.std.proofs.lemmas.List.FromFn.{get_or-map-range_with_len, length-map-range_with_len}
use Rattle.dft_base.proofs.BitLemmas.{or_false}
use Rattle.dft_base.proofs.ListLemmas.{range_last}
use Rattle.dft_cells.specs.declared.kind.Role.{Role}
use Rattle.dft_cells.specs.declared.kind.Role.TheVariants.{Clock}
use Rattle.dft_netlist.specs.declared.ids.NetId.{NetId}
use Rattle.dft_netlist.specs.declared.instance.Instance.{Instance}
use Rattle.dft_netlist.specs.declared.instance.Signal.{Signal}
use Rattle.dft_netlist.specs.declared.instance.Signal.TheVariants as signal
use Rattle.dft_behavior.specs.declared.root.ClockRoot.{ClockRoot}
use Rattle.dft_behavior.specs.declared.root.NetRoot as declared
use Rattle.dft_netlist.specs.Netlist.{Netlist}
use Rattle.dft_netlist.specs.Connections.{signal_of, pin_of}
use Rattle.dft_netlist.specs.Drivers.{Connection, Net, Source, connections_of, source_of}
use Rattle.dft_behavior.specs.Roots.{shown_root, shown_clock}
use Rattle.dft_behavior.specs.RootTables.{AreRoots, root_in, clock_in}
use Rattle.dft_behavior.specs.Traces.{root_of}
use Rattle.dft_behavior.proofs.RootTables.{root_in_is, clock_in_is}
use Rattle.dft_rules.specs.Findings.{AreUsed}
use Rattle.dft_rules.proofs.JudgeLemmas.{same_pin, same_then}
use Rattle.dft_configure.specs.Found.{AreClean, hold_at, marked_only, number, numbers_of, port_at, shown_hold}
use Rattle.dft_configure.specs.Roots.{clean_clock, clean_only, hold_root, is_clean, is_port, is_tapped, open_clock, open_clocks, port_of_clock, port_shown}

-- ---- clean nets

any_last : (p : ℕ → Bool) (k : ℕ) → list_any p (range_with_len 0 (k + 1)) ≡ (list_any p (range_with_len 0 k) || p k)
any_last p k = ap (list_any p) (range_last k) ∙ list_any-append p (range_with_len 0 k) (k ∷ []) ∙ ap (λ (b : Bool). list_any p (range_with_len 0 k) || b) (or_false (p k))

neither : (a l t : Bool) → ((a && not l) && not t) ≡ (a && not (l || t))
neither true true t = refl
neither true false t = refl
neither false l t = refl

-- the mark of a port after one net more
pub clean_more : (n : Netlist) (roots : List declared.NetRoot) (used : List Bool) (net port : ℕ) (clock : Option ClockRoot) (mark before after : Bool) → AreRoots n roots → AreUsed n.library n.instances (length n.nets) used →
    net < length n.nets → clock ≡ clock_in roots (signal.Net (record { 0 = net })) → mark ≡ slice_index_or used net false → before ≡ (nat_lt port (length n.nets) && not (list_any (is_tapped n port) (range_with_len 0 net))) →
    after ≡ (before && not (is_port port (port_of_clock (shown_clock clock)) && mark)) → after ≡ (nat_lt port (length n.nets) && not (list_any (is_tapped n port) (range_with_len 0 (net + 1))))
clean_more n roots used net port clock mark before after shows marks less at marked rest step =
    let root = ap shown_clock at ∙ clock_in_is n roots shows 0 0 (signal.Net (record { 0 = net })) in
    let tapped : (is_port port (port_of_clock (shown_clock clock)) && mark) ≡ is_tapped n port net = (λ i. is_port port (port_of_clock (root i)) && (marked ∙ marks.each net less) i) in
    step ∙ (λ i. rest i && not (tapped i)) ∙ neither (nat_lt port (length n.nets)) (list_any (is_tapped n port) (range_with_len 0 net)) (is_tapped n port net)
    ∙ ap (λ (b : Bool). nat_lt port (length n.nets) && not b) (sym (any_last (is_tapped n port) net))

pub clean_all : (n : Netlist) (marks : List Bool) (net : ℕ) → length marks ≡ length n.nets → net ≡ length n.nets →
    ((port : ℕ) → slice_index_or marks port false ≡ (nat_lt port (length n.nets) && not (list_any (is_tapped n port) (range_with_len 0 net)))) → AreClean n marks
unfolding is_clean
clean_all n marks net size all each = record {
  count = size;
  each = λ port. (each port ∙ ap (λ (k : ℕ). nat_lt port (length n.nets) && not (list_any (is_tapped n port) (range_with_len 0 k))) all);
}

-- ---- clocks

port_is : (n : Netlist) (roots : List declared.NetRoot) → AreRoots n roots → (i : ℕ) (pins : List Connection) → port_at roots (signal_of Clock pins) ≡ option_and_then (port_shown n) (pin_of Clock i pins)
port_is n roots shows i pins =
    same_then (λ s. port_of_clock (shown_clock (clock_in roots s))) (port_shown n) (signal_of Clock pins) (pin_of Clock i pins)
    (same_pin (λ s. port_of_clock (shown_clock (clock_in roots s))) (port_shown n) (λ j p s. ap port_of_clock (clock_in_is n roots shows j p s)) Clock i pins)

marked_is : (n : Netlist) (marks : List Bool) → AreClean n marks → (port : Option ℕ) → marked_only marks port ≡ clean_only n port
marked_is n marks clean None = refl
marked_is n marks clean (Some port) = ap (λ (b : Bool). cond b (Some port) None) (clean.each port)

pub clean_clock_is : (n : Netlist) (roots : List declared.NetRoot) (marks : List Bool) (i : ℕ) (x : Instance) → slice_get n.instances i ≡ Some x → AreRoots n roots → AreClean n marks →
    marked_only marks (port_at roots (signal_of Clock (connections_of n.library x))) ≡ clean_clock n i
clean_clock_is n roots marks i x at shows clean =
    let pins = connections_of n.library x in
    rw at (ap (marked_only marks) (port_is n roots shows i pins) ∙ marked_is n marks clean (option_and_then (port_shown n) (pin_of Clock i pins)))

-- ---- resets and sets

hold_shown : (roots : List declared.NetRoot) (pin : Option Signal) → shown_hold (hold_at roots pin) ≡ option_map (λ s. shown_root (root_in roots s)) pin
hold_shown roots None = refl
hold_shown roots (Some s) = refl

hold_is : (n : Netlist) (roots : List declared.NetRoot) → AreRoots n roots → (hold : Role) (i : ℕ) (pins : List Connection) → shown_hold (hold_at roots (signal_of hold pins)) ≡ option_map (root_of n) (pin_of hold i pins)
hold_is n roots found hold i pins =
    hold_shown roots (signal_of hold pins) ∙ same_pin (λ s. shown_root (root_in roots s)) (root_of n) (root_in_is n roots found) hold i pins

pub hold_root_is : (n : Netlist) (roots : List declared.NetRoot) (hold : Role) (i : ℕ) (x : Instance) → slice_get n.instances i ≡ Some x → AreRoots n roots →
    shown_hold (hold_at roots (signal_of hold (connections_of n.library x))) ≡ hold_root n hold i
hold_root_is n roots hold i x at found = rw at (hold_is n roots found hold i (connections_of n.library x))

-- ---- tables of instances

pub clocks_count : (n : Netlist) (clocks : List (Option NetId)) → numbers_of clocks ≡ open_clocks n → length clocks ≡ length n.instances
clocks_count n clocks are = sym (length-map clocks number) ∙ ap length are ∙ length-map-range_with_len (open_clock n) 0 (length n.instances)

number_at : (clocks : List (Option NetId)) (k : ℕ) → get_or (numbers_of clocks) k None ≡ number (get_or clocks k None)
number_at [] k = refl
number_at (x ∷ clocks) zero = refl
number_at (x ∷ clocks) (suc k) = number_at clocks k

-- the clock of an instance
pub clock_at : (n : Netlist) (clocks : List (Option NetId)) (k : ℕ) → numbers_of clocks ≡ open_clocks n → k < length n.instances → number (get_or clocks k None) ≡ open_clock n k
clock_at n clocks k are less = sym (number_at clocks k) ∙ ap (λ (l : List (Option ℕ)). get_or l k None) are ∙ get_or-map-range_with_len (open_clock n) 0 (length n.instances) k k None less (omega arith)
