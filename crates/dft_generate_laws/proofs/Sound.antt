-- The stated design keeps what every netlist keeps.
use Rattle.std.proofs.Common.{◌≡◌, inl, inr, ℕ, zero, suc, ◌*◌, ◌<◌, ◌≤◌, ◌%◌, Bool, List, [], ◌∷◌, length, Option, Some, codes, slice_get, refl, sym, ap, subst, arith}
use Rattle.std.specs.List.{range_with_len}
use Rattle.std.proofs.Math.Nat.{mod-lt}
use Rattle.dft_base.specs.Name.{IsName}
use Rattle.dft_base.specs.declared.dir.Dir.TheVariants.{Input, Output}
use Rattle.dft_cells.specs.declared.kind.Role.{Role}
use Rattle.dft_cells.specs.declared.cell.Cell.{Cell}
use Rattle.dft_cells.specs.Standard.{gate, standard_cells}
use Rattle.dft_netlist.specs.declared.port.Port.{Port}
use Rattle.dft_netlist.specs.declared.instance.Signal.{Signal}
use Rattle.dft_netlist.specs.declared.instance.Signal.TheVariants as signal
use Rattle.dft_netlist.specs.declared.instance.CellRef.TheVariants as cell_ref
use Rattle.dft_netlist.specs.declared.instance.Instance.{Instance}
use Rattle.dft_netlist.specs.declared.instance.Join.{Join}
use Rattle.dft_netlist.specs.Drivers.{shape_of, shape_of_cell}
use Rattle.dft_netlist.specs.Names.{IsNameIfAny, IsShortRange, names_taken, bit_names}
use Rattle.dft_netlist.specs.Sound.{IsLive, AreLive, IsInstance, IsAJoin, IsNetlist, NoConstantOutput}
use Rattle.dft_verilog_out.proofs.CountLemmas.{Once}
use Rattle.dft_generate.specs.Jobs.{IsSize}
use Rattle.dft_generate.specs.Netlists.{kind_of}
use Rattle.dft_generate.specs.Words.{word_at}
use Rattle.dft_generate_laws.specs.Designs.{nets_of, net_in, q_of, d_of, first_of, second_of, gate_cell, gate_in, flop_in, instances_in, scalar, design_ports, design_joins, design}
use Rattle.dft_generate_laws.proofs.Words as letters
use Rattle.dft_generate_laws.proofs.Nets.{number-below}
use Rattle.dft_generate_laws.proofs.Said.{nets_grow}
use Rattle.dft_generate_laws.proofs.CellLines.{gate_known}
use Rattle.dft_generate_laws.proofs.Front.{module_name, clock0_name, clock1_name, output_name}
use Rattle.dft_generate_laws.proofs.NetNames.{are_nets, net_named, all_once, once_differ}
use Rattle.dft_generate_laws.proofs.Places.{instance_of, instances-length, q_there, d_there, first_there, second_there, nets-few, nets-some}

-- ---- instances

gate_live : (size : ℕ) (words : List ℕ) (cell : ℕ) → 0 < size → cell < size → AreLive (length (nets_of size words)) (gate_in (nets_of size words) size words cell).pins
gate_live size words cell some lt zero s at =
    let e : net_in (nets_of size words) (q_of (first_of size words cell)) ≡ s = cc in
    subst (IsLive (length (nets_of size words))) e (number-below (nets_of size words) (q_of (first_of size words cell)) (first_there size words cell some))
gate_live size words cell some lt (suc zero) s at =
    let e : net_in (nets_of size words) (q_of (second_of size words cell)) ≡ s = cc in
    subst (IsLive (length (nets_of size words))) e (number-below (nets_of size words) (q_of (second_of size words cell)) (second_there size words cell some))
gate_live size words cell some lt (suc (suc zero)) s at =
    let e : net_in (nets_of size words) (d_of cell) ≡ s = cc in
    subst (IsLive (length (nets_of size words))) e (number-below (nets_of size words) (d_of cell) (d_there size words cell lt))
gate_live size words cell some lt (suc (suc (suc k))) s at = absurd (let f : ⊥ = cc in f)

no_constant : (nets : List Signal) (roles : List Role) → ((k : ℕ) (bit : Bool) → slice_get nets k ≡ Some (signal.Constant bit) → ⊥) → NoConstantOutput roles nets
no_constant nets roles h = λ pin role bit at out to. h pin bit to

gate_joined : (size : ℕ) (words : List ℕ) (cell k : ℕ) (bit : Bool) → slice_get (gate_in (nets_of size words) size words cell).pins k ≡ Some (signal.Constant bit) → ⊥
gate_joined size words cell zero bit at = let f : ⊥ = cc in f
gate_joined size words cell (suc zero) bit at = let f : ⊥ = cc in f
gate_joined size words cell (suc (suc zero)) bit at = let f : ⊥ = cc in f
gate_joined size words cell (suc (suc (suc k))) bit at = let f : ⊥ = cc in f

flop_joined : (size : ℕ) (words : List ℕ) (cell k : ℕ) (bit : Bool) → slice_get (flop_in (nets_of size words) cell).pins k ≡ Some (signal.Constant bit) → ⊥
flop_joined size words cell zero bit at = let f : ⊥ = cc in f
flop_joined size words cell (suc zero) bit at = let f : ⊥ = cc in f
flop_joined size words cell (suc (suc zero)) bit at = let f : ⊥ = cc in f
flop_joined size words cell (suc (suc (suc zero))) bit at = let f : ⊥ = cc in f
flop_joined size words cell (suc (suc (suc (suc k)))) bit at = let f : ⊥ = cc in f

flop_live : (size : ℕ) (words : List ℕ) (cell : ℕ) → cell < size → AreLive (length (nets_of size words)) (flop_in (nets_of size words) cell).pins
flop_live size words cell lt zero s at =
    let e : signal.Net (record { 0 = cell % 2 }) ≡ s = cc in
    subst (IsLive (length (nets_of size words))) e (let m = mod-lt cell {m = 2} (omega arith) in let n = nets-some size words in omega (arith, m, n))
flop_live size words cell lt (suc zero) s at =
    let e : net_in (nets_of size words) (d_of cell) ≡ s = cc in
    subst (IsLive (length (nets_of size words))) e (number-below (nets_of size words) (d_of cell) (d_there size words cell lt))
flop_live size words cell lt (suc (suc zero)) s at =
    let e : net_in (nets_of size words) (q_of cell) ≡ s = cc in
    subst (IsLive (length (nets_of size words))) e (number-below (nets_of size words) (q_of cell) (q_there size words cell lt))
flop_live size words cell lt (suc (suc (suc zero))) s at = let e : signal.Unconnected ≡ s = cc in subst (IsLive (length (nets_of size words))) e tt
flop_live size words cell lt (suc (suc (suc (suc k)))) s at = absurd (let f : ⊥ = cc in f)

-- a cell that is there has a number of the library
below : (cells : List Cell) (k : ℕ) (cell : Cell) → slice_get cells k ≡ Some cell → k < length cells
below [] k cell at = absurd (let f : ⊥ = cc in f)
below (c ∷ cells) zero cell at = omega arith
below (c ∷ cells) (suc k) cell at = let i = below cells k cell at in omega (arith, i)

gate_stands : (size : ℕ) (words : List ℕ) (cell : ℕ) → 0 < size → cell < size
    → IsInstance standard_cells (length (nets_of size words)) (gate_in (nets_of size words) size words cell).name (gate_in (nets_of size words) size words cell).cell (gate_in (nets_of size words) size words cell).pins
gate_stands size words cell some lt =
    let number : ℕ = gate_cell (word_at words (cell * 3)) in
    let g = gate_known (word_at words (cell * 3)) in
    record {
      fits = (below standard_cells number (gate (kind_of (word_at words (cell * 3))) g.kind (codes "AB")) g.there, refl);
      width = ap (λ (o : Option Cell). length (shape_of_cell o).roles) (sym g.there);
      live = gate_live size words cell some lt;
      outputs = no_constant (gate_in (nets_of size words) size words cell).pins (shape_of standard_cells (cell_ref.Library (record { 0 = number }))).roles (gate_joined size words cell);
    }

flop_stands : (size : ℕ) (words : List ℕ) (cell : ℕ) → cell < size
    → IsInstance standard_cells (length (nets_of size words)) (flop_in (nets_of size words) cell).name (flop_in (nets_of size words) cell).cell (flop_in (nets_of size words) cell).pins
flop_stands size words cell lt = record {
  fits = (omega arith, refl);
  width = refl;
  live = flop_live size words cell lt;
  outputs = no_constant (flop_in (nets_of size words) cell).pins (shape_of standard_cells (cell_ref.Library (record { 0 = 5 }))).roles (flop_joined size words cell);
}

abbrev StandsIn : (size : ℕ) (words : List ℕ) → Instance → Type 0
StandsIn size words i = IsInstance standard_cells (length (nets_of size words)) i.name i.cell i.pins

instance_stands : (size : ℕ) (words : List ℕ) (place : ℕ) (i : Instance) → 0 < size → slice_get (instances_in (nets_of size words) size words (range_with_len 0 size)) place ≡ Some i → StandsIn size words i
instance_stands size words place i some at =
    let h = instance_of (nets_of size words) size words size 0 place i at in
    let lt : h.cell < size = let l = h.high in omega (arith, l) in
    elim h.which [ inl w ↦ subst (StandsIn size words) (sym w.1) (gate_stands size words h.cell some lt) | inr w ↦ subst (StandsIn size words) (sym w.1) (flop_stands size words h.cell lt) ]

abbrev NamedIfAny : Instance → Type 0
NamedIfAny i = IsNameIfAny i.name

instance_named : (size : ℕ) (words : List ℕ) (place : ℕ) (i : Instance) → size ≤ 20000 → slice_get (instances_in (nets_of size words) size words (range_with_len 0 size)) place ≡ Some i → NamedIfAny i
instance_named size words place i few at =
    let h = instance_of (nets_of size words) size words size 0 place i at in
    let l = h.high in
    elim h.which [
      | inl w ↦ subst NamedIfAny (sym w.1) (letters.numbered 103 h.cell (omega arith) (omega arith) (omega (arith, l, few))).name
      | inr w ↦ subst NamedIfAny (sym w.1) (letters.numbered 102 h.cell (omega arith) (omega arith) (omega (arith, l, few))).name
    ]

-- ---- ports and joins

abbrev GoodPort : Port → Type 0
GoodPort p = IsName p.name × IsShortRange p.range

port_named : (k : ℕ) (p : Port) → slice_get design_ports k ≡ Some p → GoodPort p
port_named zero p at = let e : scalar (codes "clk0") Input 0 ≡ p = cc in subst GoodPort e (clock0_name, tt)
port_named (suc zero) p at = let e : scalar (codes "clk1") Input 1 ≡ p = cc in subst GoodPort e (clock1_name, tt)
port_named (suc (suc zero)) p at = let e : scalar (codes "y") Output 2 ≡ p = cc in subst GoodPort e (output_name, tt)
port_named (suc (suc (suc k))) p at = absurd (let f : ⊥ = cc in f)

abbrev WidePort : Port → Type 0
WidePort p = length p.bits ≡ length (bit_names p.name p.range)

port_wide : (k : ℕ) (p : Port) → slice_get design_ports k ≡ Some p → WidePort p
port_wide zero p at = let e : scalar (codes "clk0") Input 0 ≡ p = cc in subst WidePort e refl
port_wide (suc zero) p at = let e : scalar (codes "clk1") Input 1 ≡ p = cc in subst WidePort e refl
port_wide (suc (suc zero)) p at = let e : scalar (codes "y") Output 2 ≡ p = cc in subst WidePort e refl
port_wide (suc (suc (suc k))) p at = absurd (let f : ⊥ = cc in f)

abbrev JoinStands : (count : ℕ) → Join → Type 0
JoinStands count j = IsAJoin count j.target j.source

join_stands : (size : ℕ) (words : List ℕ) (k : ℕ) (j : Join) → 0 < size → slice_get (design_joins (nets_of size words)) k ≡ Some j → JoinStands (length (nets_of size words)) j
join_stands size words zero j some at =
    let e : record { target = record { 0 = 2 }; source = net_in (nets_of size words) (q_of 0) } ≡ j = cc in
    let n = nets-some size words in
    subst (JoinStands (length (nets_of size words))) e (record { target_live = omega (arith, n); source_live = number-below (nets_of size words) (q_of 0) (q_there size words 0 some); connected = tt })
join_stands size words (suc k) j some at = absurd (let f : ⊥ = cc in f)

-- ---- the whole

pub names-once : (size : ℕ) (words : List ℕ) → IsSize size → Once (names_taken (design size words))
names-once size words is =
    let low = is.low in
    all_once (nets_of size words) (nets_of size words) size words (are_nets size words (omega (arith, low)) is.high) is.high

pub design_sound : (size : ℕ) (words : List ℕ) → IsSize size → IsNetlist (design size words)
design_sound size words is =
    let low = is.low in
    let high = is.high in
    let some : 0 < size = omega (arith, low) in
    let nets = are_nets size words some high in
    let few = nets-few size words in
    let count = instances-length (nets_of size words) size words size 0 in
    record {
      few_ports = omega arith;
      few_nets = omega (arith, few, high);
      few_instances = omega (arith, count, high);
      names = once_differ (design size words) (names-once size words is);
      named = record {
        own = module_name;
        ports = port_named;
        nets = λ k w at. net_named w (nets.each k w at);
        instances = λ k i at. instance_named size words k i high at;
      };
      widths = port_wide;
      numbered = refl;
      bits = record { rest = (nets_grow size words).more; same = (nets_grow size words).is };
      instances = λ k i at. instance_stands size words k i some at;
      joins = λ k j at. join_stands size words k j some at;
    }
