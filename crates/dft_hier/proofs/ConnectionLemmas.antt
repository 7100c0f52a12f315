-- The joins of an instance's connections can stand in the flat netlist.
use Rattle.std.proofs.Common.{ℕ, zero, suc, ◌+◌, ◌<◌, ◌≤◌, ◌≡◌, ◌^◌, Bool, true, false, cond, List, [], ◌∷◌, ◌++◌, length, get_or, map, find, Some, slice_get, refl, sym, ap, subst, arith, length-append}
use Rattle.std.specs.List.{All, AllByRecursion}
use Rattle.std.specs.Str.{bytes_eq}
use Rattle.std.proofs.lemmas.List.Elements.{All-get_or, All-from_recursion, recursion_from_All}
use Rattle.dft_base.specs.Lexing.{Text}
use Rattle.dft_base.specs.Ranges.{going_up}
use Rattle.dft_cells.specs.declared.cell.Cell.{Cell}
use Rattle.dft_netlist.specs.declared.ids.NetId.{NetId}
use Rattle.dft_netlist.specs.declared.port.Port.{Port}
use Rattle.dft_netlist.specs.declared.instance.Signal.{Signal}
use Rattle.dft_netlist.specs.Names.{bit_names}
use Rattle.dft_netlist.specs.Sound.{bits_of, bit_names_of}
use Rattle.dft_modules.specs.declared.connections.Connection.{Connection}
use Rattle.dft_modules.specs.declared.module.SubInstance.{SubInstance}
use Rattle.dft_modules.specs.declared.module.Item.{Item}
use Rattle.dft_modules.specs.declared.module.Item.TheVariants as item
use Rattle.dft_modules.specs.Modules.{Module}
use Rattle.dft_modules.specs.Sound.{IsModule, IsItem, IsConnectionOf, IsOuterBit}
use Rattle.dft_hier.specs.Flat.{joined_to, signals_of}
use Rattle.dft_hier.specs.Moving.{AreWritable, AreBitsWritable}
use Rattle.dft_hier.proofs.ItemLemmas.{writable}

-- ---- the bits of ports

up_below : (from count all : ℕ) → from + count ≤ all → AllByRecursion (λ (n : ℕ). n < all) (going_up from count)
up_below from zero all within = tt
up_below from (suc count) all within = (omega (arith, within), up_below (suc from) count all (omega (arith, within)))

nets_below : (numbers : List ℕ) (all : ℕ) → AllByRecursion (λ (n : ℕ). n < all) numbers → AllByRecursion (λ (b : NetId). b.0 < all) (map (λ (n : ℕ). record { 0 = n }) numbers)
nets_below [] all h = tt
nets_below (n ∷ numbers) all h = (h.0, nets_below numbers all h.1)

split_all : (P : NetId → Type 0) (xs ys : List NetId) → AllByRecursion P (xs ++ ys) → AllByRecursion P xs × AllByRecursion P ys
split_all P [] ys h = (tt, h)
split_all P (x ∷ xs) ys h = let r = split_all P xs ys h.1 in ((h.0, r.0), r.1)

ports_below : (P : NetId → Type 0) (ports : List Port) → AllByRecursion P (bits_of ports) → AllByRecursion (λ (p : Port). AllByRecursion P p.bits) ports
ports_below P [] h = tt
ports_below P (p ∷ ports) h = let r = split_all P p.bits (bits_of ports) h in (r.0, ports_below P ports r.1)

bits_count : (ports : List Port) → ((place : ℕ) (p : Port) → slice_get ports place ≡ Some p → length p.bits ≡ length (bit_names p.name p.range)) → length (bits_of ports) ≡ length (bit_names_of ports)
bits_count [] widths = refl
bits_count (p ∷ ports) widths =
    let here = widths 0 p refl in
    let rest = bits_count ports (λ place q at. widths (suc place) q at) in
    let a = length-append p.bits (bits_of ports) in
    let b = length-append (bit_names p.name p.range) (bit_names_of ports) in
    omega arith

-- the bits of a module's ports are its nets
pub port_bits : (library : List Cell) (m : Module) → IsModule library m → AllByRecursion (λ (p : Port). AllByRecursion (λ (b : NetId). b.0 < length m.nets) p.bits) m.ports
port_bits library m is =
    let count = bits_count m.ports is.widths in
    let whole = ap (λ (xs : List Text). length xs) is.bits.same in
    let split = length-append (bit_names_of m.ports) is.bits.rest in
    let below = nets_below (going_up 0 (length (bits_of m.ports))) (length m.nets) (up_below 0 (length (bits_of m.ports)) (length m.nets) (omega arith)) in
    ports_below (λ (b : NetId). b.0 < length m.nets) m.ports (subst (AllByRecursion (λ (b : NetId). b.0 < length m.nets)) (sym is.numbered) below)

bits_writable : (first count : ℕ) (bits : List NetId) → first + count ≤ 2 ^ 32 → AllByRecursion (λ (b : NetId). b.0 < count) bits → AllByRecursion (λ (b : NetId). first + b.0 < 2 ^ 32) bits
bits_writable first count [] within h = tt
bits_writable first count (b ∷ bits) within h = ((let l = h.0 in omega arith), bits_writable first count bits within h.1)

pub ports_writable : (first count : ℕ) (ports : List Port) → first + count ≤ 2 ^ 32 → AllByRecursion (λ (p : Port). AllByRecursion (λ (b : NetId). b.0 < count) p.bits) ports → AllByRecursion (λ (p : Port). AreBitsWritable first p.bits) ports
ports_writable first count [] within h = tt
ports_writable first count (p ∷ ports) within h = (All-from_recursion (λ (b : NetId). first + b.0 < 2 ^ 32) p.bits (bits_writable first count p.bits within h.0), ports_writable first count ports within h.1)

-- ---- what connections join to

connection_sound : (count : ℕ) (connections : List Connection) (name : Text) → All (λ (c : Connection). IsConnectionOf count c) connections → AllByRecursion (λ (s : Signal). IsOuterBit count s) (joined_to connections name)
connection_sound count [] name h = tt
connection_sound count (c ∷ connections) name h = by (bytes_eq c.port name) (connection_sound count connections name (λ k d less. h (suc k) d (omega (arith, less))))
  where
    by : (t : Bool) → AllByRecursion (λ (s : Signal). IsOuterBit count s) (joined_to connections name) → AllByRecursion (λ (s : Signal). IsOuterBit count s) (signals_of (cond t (Some c) (find (λ (x : Connection). bytes_eq x.port name) connections)))
    by true more = recursion_from_All (λ (s : Signal). IsOuterBit count s) c.signals (h 0 c (omega arith))
    by false more = more

pub connections_sound : (library : List Cell) (count : ℕ) (i : Item) (connections : List Connection) → IsItem library count i → (s : SubInstance) → i ≡ item.Sub s → connections ≡ s.connections → (name : Text) → AllByRecursion (λ (x : Signal). IsOuterBit count x) (joined_to connections name)
connections_sound library count i connections sound s is are name =
    let whole : All (λ (c : Connection). IsConnectionOf count c) s.connections = subst (IsItem library count) is sound in
    connection_sound count connections name (subst (λ (cs : List Connection). All (λ (c : Connection). IsConnectionOf count c) cs) (sym are) whole)

signals_writable : (first count : ℕ) (signals : List Signal) → first + count ≤ 2 ^ 32 → AllByRecursion (λ (s : Signal). IsOuterBit count s) signals → AreWritable first signals
signals_writable first count signals within h = λ k d less. (let P : Signal → Type 0 = λ (s : Signal). IsOuterBit count s in writable first count (get_or signals k d) within (All-get_or P signals k d less (All-from_recursion P signals h)).0)

pub joined_writable : (first count : ℕ) (connections : List Connection) (ports : List Port) → first + count ≤ 2 ^ 32 → ((name : Text) → AllByRecursion (λ (s : Signal). IsOuterBit count s) (joined_to connections name)) → AllByRecursion (λ (p : Port). AreWritable first (joined_to connections p.name)) ports
joined_writable first count connections [] within h = tt
joined_writable first count connections (p ∷ ports) within h = (signals_writable first count (joined_to connections p.name) within (h p.name), joined_writable first count connections ports within h)
