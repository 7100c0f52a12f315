-- Each signal of a netlist's ports fits it.
use Rattle.std.proofs.Common.{ℕ, zero, suc, ◌+◌, ◌<◌, ◌≡◌, List, [], ◌∷◌, ◌++◌, length, map, Option, None, Some, slice_get, refl, ap, arith, ◌∙◌}
use Rattle.std.specs.Prelude.{if◌then◌else◌, slice_index_or}
use Rattle.std.proofs.lemmas.Option.{slice_get-get_or}
use Rattle.dft_base.specs.Lexing.{Text}
use Rattle.dft_base.specs.declared.dir.Dir.{Dir}
use Rattle.dft_base.specs.declared.dir.Dir.TheVariants as dir
use Rattle.dft_netlist.specs.declared.ids.NetId.{NetId}
use Rattle.dft_netlist.specs.declared.named.Named.TheVariants.{Net}
use Rattle.dft_netlist.specs.declared.port.Port as design_port
use Rattle.dft_netlist.specs.Names.{find_net}
use Rattle.dft_netlist.specs.NetNumbers.{nets_from}
use Rattle.dft_netlist.specs.Netlist.{Netlist}
use Rattle.dft_netlist.specs.Sound.{IsNetlist, bits_of}
use Rattle.dft_netlist.proofs.FindLemmas.{not_found}
use Rattle.dft_expect.specs.Captures.{bits_out, output_bits}
use Rattle.dft_patterns.specs.declared.signal.StilSignal.{StilSignal}
use Rattle.dft_replay.specs.Fits.{first_misfit}
use Rattle.dft_replay.specs.Vectors.{dirs_of}
use Rattle.dft_replay.proofs.FitLemmas.{found_named, net_fits, dir_same}
use Rattle.dft_vectors.proofs.OwnLemmas.{inputs_live, outputs_live}
use Rattle.dft_vectors.specs.Signals.{bits_in, input_bits, signal_of}
use Rattle.dft_pattern_behavior.proofs.Listed.{AllNets}
use Rattle.dft_compile_laws.specs.Passing.{SignalsFit}
use Rattle.dft_compile_laws.proofs.Rows.{all_nets}

found_name : (n : Netlist) (q : Text) (k : NetId) (o : Option NetId) → IsNetlist n → slice_get n.nets k.0 ≡ Some q → find_net n q ≡ o → find_net n q ≡ Some k
found_name n q k None sound at found = absurd (not_found 0 n.nets q found k.0 at)
found_name n q k (Some j) sound at found = found ∙ some_net j k (sound.names q (Net j) (Net k) (found_named n q j found) at)
  where
    some_net : (a b : NetId) → Net a ≡ Net b → Some a ≡ Some b
    some_net a b e = cc

-- ---- directions by net

head_is : (b : NetId) (bits : List NetId) (from count : ℕ) → b ∷ bits ≡ nets_from from (suc count) → b.0 ≡ from
head_is b bits from count e = let same : b ≡ record { 0 = from } = cc in ap (λ (k : NetId). k.0) same

tail_is : (b : NetId) (bits : List NetId) (from count : ℕ) → b ∷ bits ≡ nets_from from (suc count) → bits ≡ nets_from (suc from) count
tail_is b bits from count e = cc

abbrev pub HasDir : (whole : List Dir) → Dir → (k : ℕ) → Type 0
HasDir whole d k = slice_get whole k ≡ Some d

abbrev pub Behind : (whole dirs : List Dir) → (from : ℕ) → Type 0
Behind whole dirs from = (j : ℕ) → slice_get whole (from + j) ≡ slice_get dirs j

behind_next : (whole dirs : List Dir) (d : Dir) (from : ℕ) → Behind whole (d ∷ dirs) from → Behind whole dirs (suc from)
behind_next whole dirs d from h j = let e : suc from + j ≡ from + suc j = omega arith in ap (slice_get whole) e ∙ h (suc j)

here_dir : (whole dirs : List Dir) (d : Dir) (from k : ℕ) → k ≡ from → Behind whole (d ∷ dirs) from → HasDir whole d k
here_dir whole dirs d from k e h = let at : k ≡ from + 0 = e ∙ omega arith in ap (slice_get whole) at ∙ h 0

in_dirs : (whole : List Dir) (d : Dir) (bits rest ins : List NetId) (dirs : List Dir) (from count : ℕ) → bits ++ rest ≡ nets_from from count → Behind whole (map (λ (k : NetId). d) bits ++ dirs) from →
    ((f c : ℕ) → rest ≡ nets_from f c → Behind whole dirs f → AllNets (HasDir whole dir.Input) ins) → AllNets (HasDir whole dir.Input) (bits_in d bits ++ ins)
in_dirs whole dir.Output [] rest ins dirs from count e h more = more from count e h
in_dirs whole dir.Input [] rest ins dirs from count e h more = more from count e h
in_dirs whole dir.Output (b ∷ bits) rest ins dirs from zero e h more = absurd cc
in_dirs whole dir.Input (b ∷ bits) rest ins dirs from zero e h more = absurd cc
in_dirs whole dir.Output (b ∷ bits) rest ins dirs from (suc count) e h more =
    in_dirs whole dir.Output bits rest ins dirs (suc from) count (tail_is b (bits ++ rest) from count e) (behind_next whole (map (λ (k : NetId). dir.Output) bits ++ dirs) dir.Output from h) more
in_dirs whole dir.Input (b ∷ bits) rest ins dirs from (suc count) e h more = (
  here_dir whole (map (λ (k : NetId). dir.Input) bits ++ dirs) dir.Input from b.0 (head_is b (bits ++ rest) from count e) h,
  in_dirs whole dir.Input bits rest ins dirs (suc from) count (tail_is b (bits ++ rest) from count e) (behind_next whole (map (λ (k : NetId). dir.Input) bits ++ dirs) dir.Input from h) more,
)

pub ports_in_dirs : (whole : List Dir) (ports : List design_port.Port) (from count : ℕ) → bits_of ports ≡ nets_from from count → Behind whole (dirs_of ports) from → AllNets (HasDir whole dir.Input) (input_bits ports)
ports_in_dirs whole [] from count e h = tt
ports_in_dirs whole (p ∷ ps) from count e h = in_dirs whole p.dir p.bits (bits_of ps) (input_bits ps) (dirs_of ps) from count e h (λ f c its far. ports_in_dirs whole ps f c its far)

out_dirs : (whole : List Dir) (d : Dir) (bits rest outs : List NetId) (dirs : List Dir) (from count : ℕ) → bits ++ rest ≡ nets_from from count → Behind whole (map (λ (k : NetId). d) bits ++ dirs) from →
    ((f c : ℕ) → rest ≡ nets_from f c → Behind whole dirs f → AllNets (HasDir whole dir.Output) outs) → AllNets (HasDir whole dir.Output) (bits_out d bits ++ outs)
out_dirs whole dir.Output [] rest outs dirs from count e h more = more from count e h
out_dirs whole dir.Input [] rest outs dirs from count e h more = more from count e h
out_dirs whole dir.Output (b ∷ bits) rest outs dirs from zero e h more = absurd cc
out_dirs whole dir.Input (b ∷ bits) rest outs dirs from zero e h more = absurd cc
out_dirs whole dir.Input (b ∷ bits) rest outs dirs from (suc count) e h more =
    out_dirs whole dir.Input bits rest outs dirs (suc from) count (tail_is b (bits ++ rest) from count e) (behind_next whole (map (λ (k : NetId). dir.Input) bits ++ dirs) dir.Input from h) more
out_dirs whole dir.Output (b ∷ bits) rest outs dirs from (suc count) e h more = (
  here_dir whole (map (λ (k : NetId). dir.Output) bits ++ dirs) dir.Output from b.0 (head_is b (bits ++ rest) from count e) h,
  out_dirs whole dir.Output bits rest outs dirs (suc from) count (tail_is b (bits ++ rest) from count e) (behind_next whole (map (λ (k : NetId). dir.Output) bits ++ dirs) dir.Output from h) more,
)

pub ports_out_dirs : (whole : List Dir) (ports : List design_port.Port) (from count : ℕ) → bits_of ports ≡ nets_from from count → Behind whole (dirs_of ports) from → AllNets (HasDir whole dir.Output) (output_bits ports)
ports_out_dirs whole [] from count e h = tt
ports_out_dirs whole (p ∷ ps) from count e h = out_dirs whole p.dir p.bits (bits_of ps) (output_bits ps) (dirs_of ps) from count e h (λ f c its far. ports_out_dirs whole ps f c its far)

-- ---- signals

fit_all : (n : Netlist) (d : Dir) (xs : List NetId) (rest : List StilSignal) → IsNetlist n → AllNets (λ k. k < length n.nets) xs → AllNets (HasDir (dirs_of n.ports) d) xs → first_misfit n rest ≡ None → first_misfit n (map (signal_of n d) xs ++ rest) ≡ None
fit_all n d [] rest sound live dirs none = none
fit_all n d (x ∷ xs) rest sound live dirs none =
    let name : Text = slice_index_or n.nets x.0 [] in
    let found : find_net n name ≡ Some x = found_name n name x (find_net n name) sound (slice_get-get_or n.nets x.0 [] live.0) refl in
    ap (λ b. if b then first_misfit n (map (signal_of n d) xs ++ rest) else Some name) (net_fits n (signal_of n d x) x d sound found dirs.0 (dir_same d)) ∙ fit_all n d xs rest sound live.1 dirs.1 none

outs_fit : (n : Netlist) (d : Dir) (xs : List NetId) → IsNetlist n → AllNets (λ k. k < length n.nets) xs → AllNets (HasDir (dirs_of n.ports) d) xs → first_misfit n (map (signal_of n d) xs) ≡ None
outs_fit n d [] sound live dirs = refl
outs_fit n d (x ∷ xs) sound live dirs =
    let name : Text = slice_index_or n.nets x.0 [] in
    let found : find_net n name ≡ Some x = found_name n name x (find_net n name) sound (slice_get-get_or n.nets x.0 [] live.0) refl in
    ap (λ b. if b then first_misfit n (map (signal_of n d) xs) else Some name) (net_fits n (signal_of n d x) x d sound found dirs.0 (dir_same d)) ∙ outs_fit n d xs sound live.1 dirs.1

pub signals_fit : SignalsFit
signals_fit w sound =
    let count : ℕ = length (bits_of w.ports) in
    let far : Behind (dirs_of w.ports) (dirs_of w.ports) 0 = λ j. (let e : 0 + j ≡ j = omega arith in ap (slice_get (dirs_of w.ports)) e) in
    fit_all w dir.Input (input_bits w.ports) (map (signal_of w dir.Output) (output_bits w.ports)) sound (all_nets (λ k. k < length w.nets) (input_bits w.ports) (inputs_live w sound))
    (ports_in_dirs (dirs_of w.ports) w.ports 0 count sound.numbered far)
    (outs_fit w dir.Output (output_bits w.ports) sound (all_nets (λ k. k < length w.nets) (output_bits w.ports) (outputs_live w sound)) (ports_out_dirs (dirs_of w.ports) w.ports 0 count sound.numbered far))
