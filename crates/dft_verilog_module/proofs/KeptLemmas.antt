-- The cells of a draft stay the same.
use Rattle.std.proofs.Common.{◌≡◌, ℕ, Bool, true, false, cond, nat_le, nat_lt, ◌+◌, List, [], ◌∷◌, ◌++◌, length, Option, Some, None, is_some, Ok, Err, refl, sym, ap, ◌∙◌}
use Rattle.dft_base.specs.declared.place.Range.{Range}
use Rattle.dft_base.specs.Lexing.{Text}
use Rattle.dft_base.specs.declared.dir.Dir.{Dir}
use Rattle.dft_netlist.specs.declared.instance.Signal.{Signal}
use Rattle.dft_netlist_text.specs.declared.text.Declared.{Declared}
use Rattle.dft_netlist_text.specs.declared.text.Cause.TheVariants as cause
use Rattle.dft_netlist_text.specs.declared.text.Fault.{Fault}
use Rattle.dft_netlist_text.specs.declared.text.Meaning.TheVariants as meaning
use Rattle.dft_netlist.specs.declared.error.Counted.{Counted}
use Rattle.dft_netlist.specs.declared.error.Counted.TheVariants as counted
use Rattle.dft_netlist_text.specs.Steps.{fault}
use Rattle.dft_netlist.specs.declared.limits.TheConstants.{MAX_NETS, MAX_PORTS}
use Rattle.dft_netlist_text.specs.Modules.{Draft, with_name, with_declared, next_shape, free_bits, with_bits, with_nets, names_of_bits, declare_nets, announce, declare_found, declare_port, declare_new_port, repeat_port, declare_wire_as, declare_wire, declared_at, is_taken, first_taken, net_count, port_place, meaning_of}
use Rattle.dft_netlist_text.specs.Items.{with_joins}

-- the faults of the tests
abbrev taken : ℕ → Text → Fault
taken place word = fault (cause.Taken word) place

abbrev full : ℕ → Counted → Fault
full place what = fault (cause.Full what) place

-- what is Ok was Ok before the tests
steps : (t u v : Bool) (f g i : Fault) (place : ℕ) (o : Option Text) (new e d : Draft) → new.library ≡ d.library →
    cond t (Err f) (free_bits place o (cond u (Err g) (cond v (Err i) (Ok new)))) ≡ Ok e → e.library ≡ d.library
steps true u v f g i place o new e d kept h = absurd (cc)
steps false u v f g i place (Some word) new e d kept h = absurd (cc)
steps false true v f g i place None new e d kept h = absurd (cc)
steps false false true f g i place None new e d kept h = absurd (cc)
steps false false false f g i place None new e d kept h = let same : new ≡ e = cc in sym (ap (λ (x : Draft). x.library) same) ∙ kept

bits_kept : (words : List Text) (d : Draft) → (with_bits words d).library ≡ d.library
bits_kept [] d = refl
bits_kept (word ∷ words) d = bits_kept words _

pub joins_kept : (targets sources : List Signal) (d : Draft) → (with_joins targets sources d).library ≡ d.library
joins_kept [] sources d = refl
joins_kept (target ∷ targets) [] d = refl
joins_kept (target ∷ targets) (source ∷ sources) d = joins_kept targets sources _

nets_kept : (place : ℕ) (word : Text) (range : Option Range) (d e : Draft) → declare_nets place word range d ≡ Ok e → e.library ≡ d.library
nets_kept place word range d e h =
    steps (is_taken d word) false (nat_lt MAX_NETS (length d.nets + net_count range)) (taken place word) (taken place word) (full place counted.Nets) place (first_taken d (names_of_bits word range))
    (with_nets word range (with_name word (meaning.Nets (next_shape d range)) d)) e d (bits_kept (names_of_bits word range) _) h

pub announce_kept : (place : ℕ) (word : Text) (d e : Draft) → announce place word d ≡ Ok e → e.library ≡ d.library
announce_kept place word d e h =
    steps (is_taken d word) false (nat_le MAX_PORTS (length d.ports)) (taken place word) (taken place word) (full place counted.Ports) place None
    (with_name word (meaning.Port (length d.ports)) (record d { ports = d.ports ++ record { name = word; declared = None } ∷ [] })) e d refl h

found_kept : (place : ℕ) (word : Text) (dir : Dir) (range : Option Range) (d e : Draft) (found : Option ℕ) → declare_found place word dir range d found ≡ Ok e → e.library ≡ d.library
found_kept place word dir range d e None h = absurd (cc)
found_kept place word dir range d e (Some port) h =
    steps (is_some (declared_at d port)) false (nat_lt MAX_NETS (length d.nets + net_count range)) (taken place word) (taken place word) (full place counted.Nets) place (first_taken d (names_of_bits word range))
    (with_nets word range (with_declared port word (record { dir = dir; shape = next_shape d range; repeated = false }) d)) e d (bits_kept (names_of_bits word range) _) h

pub port_kept : (place : ℕ) (word : Text) (dir : Dir) (range : Option Range) (d e : Draft) → declare_port place word dir range d ≡ Ok e → e.library ≡ d.library
port_kept place word dir range d e h = found_kept place word dir range d e (port_place (meaning_of d word)) h

pub new_port_kept : (place : ℕ) (word : Text) (dir : Dir) (range : Option Range) (d e : Draft) → declare_new_port place word dir range d ≡ Ok e → e.library ≡ d.library
new_port_kept place word dir range d e h =
    steps (is_taken d word) (nat_le MAX_PORTS (length d.ports)) (nat_lt MAX_NETS (length d.nets + net_count range)) (taken place word) (full place counted.Ports) (full place counted.Nets) place
    (first_taken d (names_of_bits word range))
    (with_nets word range (with_name word (meaning.Port (length d.ports))
    (record d { ports = d.ports ++ record { name = word; declared = Some (record { dir = dir; shape = next_shape d range; repeated = false }) } ∷ [] }))) e d (bits_kept (names_of_bits word range) _) h

chosen : (t : Bool) (new d e : Draft) (f : Fault) → new.library ≡ d.library → cond t (Ok new) (Err f) ≡ Ok e → e.library ≡ d.library
chosen true new d e f k h = steps false false false f f f 0 None new e d k h
chosen false new d e f k h = absurd (cc)

repeat_kept : (place : ℕ) (word : Text) (range : Option Range) (d e : Draft) (port : ℕ) (declared : Option Declared) → repeat_port place word range d port declared ≡ Ok e → e.library ≡ d.library
repeat_kept place word range d e port None h = absurd (cc)
repeat_kept place word range d e port (Some declared) h = chosen _ _ d e _ refl h

wire_as_kept : (place : ℕ) (word : Text) (range : Option Range) (d e : Draft) (found : Option ℕ) → declare_wire_as place word range d found ≡ Ok e → e.library ≡ d.library
wire_as_kept place word range d e None h = nets_kept place word range d e h
wire_as_kept place word range d e (Some port) h = repeat_kept place word range d e port (declared_at d port) h

pub wire_kept : (place : ℕ) (word : Text) (range : Option Range) (d e : Draft) → declare_wire place word range d ≡ Ok e → e.library ≡ d.library
wire_kept place word range d e h = wire_as_kept place word range d e (port_place (meaning_of d word)) h

pub ruleset declared_kept = (announce_kept, port_kept, new_port_kept, wire_kept)
