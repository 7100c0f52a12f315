-- The clock port and the reset of a scanned flip-flop of a design, by its domain.
use Rattle.std.proofs.Common.{ℕ, ◌≡◌, ◌<◌, Bool, true, false, inl, inr, Option, None, Some, option_map, length, slice_get, refl, sym, subst, ap, ◌∙◌}
use Rattle.std.specs.Prelude.{if◌then◌else◌}
use Rattle.std.proofs.lemmas.Bool.{eqb-true, and_parts}
use Rattle.std.proofs.lemmas.Option.{none-some, same_Some}
use Rattle.dft_cells.specs.FlipFlops.{Forces, moved_forces}
use Rattle.dft_netlist.specs.declared.ids.NetId.{NetId}
use Rattle.dft_netlist.specs.Netlist.{Netlist}
use Rattle.dft_netlist.specs.Connections.{input_net}
use Rattle.dft_netlist.specs.Drivers.{Source}
use Rattle.dft_netlist.specs.Sound.{bits_of}
use Rattle.dft_behavior.specs.Traces.{Root, Port, Constant, Other, root_of}
use Rattle.dft_behavior.specs.Logic.{force_of, force_at, both_forces, forcing}
use Rattle.dft_config.specs.Config.{Config}
use Rattle.dft_scan_frame.specs.ConfigPorts.{config_ports}
use Rattle.dft_rules.specs.Rules.{is_net, is_held, is_pin_held, are_held}
use Rattle.dft_rules.proofs.ClockedFlops.{IsClocked, reset_is}
use Rattle.dft_chains.specs.Hardware.{ActByPorts}
use Rattle.dft_scan_frame.specs.Moves.{moved}
use Rattle.dft_scan_frame.specs.Statements.{IsReady}
use Rattle.dft_scan_frame.proofs.Kept.{root_among, clock_among}
use Rattle.dft_scan_frame.proofs.Whole.{moved_front}
use Rattle.dft_insert.specs.declared.style.Style.{Style}
use Rattle.dft_insert.specs.Ports.{gap_in}

-- ---- the clock

-- its port is a port of the design, and is not moved
pub port_among : (n : Netlist) (config : Config) (i domain : ℕ) (falling : Bool) → IsReady n config → (c : IsClocked n config i domain falling) → c.net < length (bits_of n.ports)
port_among n config i domain falling ready c = clock_among n config c.source (record { port = c.net; inverted = falling }) ready c.root

pub port_stays : (style : Style) (n : Netlist) (config : Config) (i domain : ℕ) (falling : Bool) → IsReady n config → (c : IsClocked n config i domain falling) → moved (gap_in style n config) c.net ≡ c.net
port_stays style n config i domain falling ready c = moved_front (gap_in style n config) c.net (port_among n config i domain falling ready c)

pub net_is : (net : ℕ) (o : Option NetId) → is_net net o ≡ true → o ≡ Some (record { 0 = net })
net_is net None e = absurd cc
net_is net (Some other) e = ap (λ k. Some (record { 0 = k })) (eqb-true other.0 net e)

-- cells of one domain have one clock port
pub same_clock : (n : Netlist) (config : Config) (i j d e : ℕ) (f g : Bool) (a : IsClocked n config i d f) (b : IsClocked n config j e g) → d ≡ e → a.net ≡ b.net
same_clock n config i j d e f g a b same =
    let name : a.name ≡ b.name = same_Some a.name b.name (sym a.named ∙ ap (slice_get config.domains) same ∙ b.named) in
    ap (λ (k : NetId). k.0) (same_Some (record { 0 = a.net }) (record { 0 = b.net }) (sym (net_is a.net (input_net n a.name) a.is) ∙ ap (input_net n) name ∙ net_is b.net (input_net n b.name) b.is))

-- ---- the reset or set

-- a root of the design is not moved
pub root_stays : (style : Style) (n : Netlist) (config : Config) (source : Source) (net : ℕ) → IsReady n config → root_of n source ≡ Port net → moved (gap_in style n config) net ≡ net
root_stays style n config source net ready is = moved_front (gap_in style n config) net (root_among n config source net ready is)

-- what resets and sets are, and that they act by reset ports
pub record ActsBy (style : Style) (n : Netlist) (config : Config) (o : Option (Forces ℕ)) : Type 0 where
  pub forces : Forces ℕ
  pub is : o ≡ Some forces
  pub act : ActByPorts (config_ports n config) (moved_forces (moved (gap_in style n config)) forces)

-- the same of one pin
record PinActsBy (style : Style) (n : Netlist) (config : Config) (o : Option (Option ℕ)) : Type 0 where
  pub force : Option ℕ
  pub is : o ≡ Some force
  pub acts : (port : ℕ) → option_map (moved (gap_in style n config)) force ≡ Some port → (config_ports n config).is_reset port ≡ true

acts_root : (style : Style) (n : Netlist) (config : Config) (source : Source) (r : Root) → IsReady n config → root_of n source ≡ r → is_held n config.resets r ≡ true → PinActsBy style n config (force_of (config_ports n config) r)
acts_root style n config source (Port net) ready root e =
    let reset : (config_ports n config).is_reset net ≡ true = reset_is n config net e in
    record {
      force = Some net;
      is = ap (λ b. if b then Some (Some net) else None) reset;
      acts = λ port is. subst (λ (k : ℕ). (config_ports n config).is_reset k ≡ true) (same_Some (moved (gap_in style n config) net) port is) (ap (config_ports n config).is_reset (root_stays style n config source net ready root) ∙ reset);
    }
acts_root style n config source (Constant true) ready root e = record { force = None; is = refl; acts = λ port is. absurd (none-some port is) }
acts_root style n config source (Constant false) ready root e = absurd cc
acts_root style n config source Other ready root e = absurd cc

acts_pin : (style : Style) (n : Netlist) (config : Config) (pin : Option Source) → IsReady n config → is_pin_held n config.resets pin ≡ true → PinActsBy style n config (force_at n (config_ports n config) pin)
acts_pin style n config None ready e = record { force = None; is = refl; acts = λ port is. absurd (none-some port is) }
acts_pin style n config (Some source) ready e = acts_root style n config source (root_of n source) ready refl e

pub acts_pins : (style : Style) (n : Netlist) (config : Config) (pins : Forces Source) → IsReady n config → are_held n config.resets pins.clear pins.preset ≡ true → ActsBy style n config (forcing n (config_ports n config) pins)
acts_pins style n config pins ready e =
    let both = and_parts (is_pin_held n config.resets pins.clear) (is_pin_held n config.resets pins.preset) e in
    let clear = acts_pin style n config pins.clear ready both.0 in
    let set = acts_pin style n config pins.preset ready both.1 in
    record {
      forces = record { clear = clear.force; preset = set.force };
      is = λ t. both_forces (clear.is t) (set.is t);
      act = λ port has. elim has [
        | inl is ↦ clear.acts port is
        | inr is ↦ set.acts port is
      ];
    }
