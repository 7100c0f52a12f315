-- Made names are free in the frame of a generated design, and there is room for what is made.
use Rattle.std.proofs.Common.{◌≡◌, ℕ, zero, suc, ◌+◌, ◌<◌, ◌≤◌, ◌^◌, Bool, true, false, List, [], ◌∷◌, ◌++◌, length, get_or, take, drop, Option, None, Some, decimal, slice_get, refl, ap, ◌∙◌, arith, length-append}
use Rattle.std.specs.Prelude.{◌||◌}
use Rattle.std.specs.List.{filter_map, cons_option}
use Rattle.std.specs.Str.{bytes_eq}
use Rattle.std.proofs.lemmas.List.Elements.{filter_map-append}
use Rattle.std.proofs.lemmas.Fmt.{decimal_injective}
use Rattle.std.proofs.lemmas.Bool.{or_parts}
use Rattle.dft_base.specs.Lexing.{Text}
use Rattle.dft_base.proofs.TextLemmas.{differ}
use Rattle.dft_cells.specs.WellFormed.{has_name}
use Rattle.dft_netlist.proofs.NamesLemmas.{none_append}
use Rattle.dft_netlist.specs.declared.error.NetlistError.{NetlistError}
use Rattle.dft_netlist.specs.declared.ids.NetId.{NetId}
use Rattle.dft_netlist.specs.declared.ids.InstanceId.{InstanceId}
use Rattle.dft_netlist.specs.declared.instance.CellRef.{CellRef}
use Rattle.dft_netlist.specs.declared.instance.Signal.{Signal}
use Rattle.dft_netlist.specs.declared.instance.Instance.{Instance}
use Rattle.dft_netlist.specs.declared.limits.TheConstants.{MAX_NETS, MAX_INSTANCES}
use Rattle.dft_netlist.specs.Names.{is_taken, first_taken, vector_name, instance_name}
use Rattle.dft_netlist.specs.Netlist.{Netlist}
use Rattle.dft_netlist.proofs.RefusalLemmas.{net_open, instance_open}
use Rattle.dft_parts.specs.MadeNames.{made_net, made_instance}
use Rattle.dft_parts.specs.Parts.{Part, ANet, AnInstance, APin, Making, with_net, with_instance, with_pin, instance_joined, parts_refusal, or_else}
use Rattle.dft_parts.proofs.Growing.{joined_length}
use Rattle.dft_generate_laws.proofs.Nets.{has-other}
use Rattle.dft_generate_laws.proofs.Sizes.{instance_counts, size_of}

-- ---- names that are not there

neither : (a b c : Bool) → a || b ≡ false → (b ≡ false → c ≡ false) → a || c ≡ false
neither true b c h k = absurd (let f : ⊥ = cc in f)
neither false b c h k = k h

pub none_take : (k : ℕ) (xs : List Text) (w : Text) → has_name xs w ≡ false → has_name (take k xs) w ≡ false
none_take zero xs w h = refl
none_take (suc k) [] w h = refl
none_take (suc k) (x ∷ xs) w h = neither (bytes_eq x w) (has_name xs w) (has_name (take k xs) w) h (λ r. none_take k xs w r)

pub none_drop : (k : ℕ) (xs : List Text) (w : Text) → has_name xs w ≡ false → has_name (drop k xs) w ≡ false
none_drop zero xs w h = h
none_drop (suc k) [] w h = refl
none_drop (suc k) (x ∷ xs) w h = none_drop k xs w ((or_parts (bytes_eq x w) (has_name xs w) h).1)

pub none_each : (xs : List Text) (w : Text) → ((k : ℕ) (v : Text) → slice_get xs k ≡ Some v → bytes_eq v w ≡ false) → has_name xs w ≡ false
none_each [] w h = refl
none_each (x ∷ xs) w h = rw (h 0 x refl) (none_each xs w (λ k v at. h (suc k) v at))

-- the name is free
pub record IsFree (n : Netlist) (w : Text) : Type 0 where
  pub nets : has_name n.nets w ≡ false
  pub vectors : has_name (filter_map vector_name n.ports) w ≡ false
  pub owns : has_name (filter_map instance_name n.instances) w ≡ false

free_is : (n : Netlist) (w : Text) → IsFree n w → is_taken n w ≡ false
free_is n w f = none_append n.nets (filter_map vector_name n.ports ++ filter_map instance_name n.instances) w f.nets (none_append (filter_map vector_name n.ports) (filter_map instance_name n.instances) w f.vectors f.owns)

-- ---- made names

nets_apart : (j k : ℕ) → j < 2 ^ 64 → k < 2 ^ 64 → (j ≡ k → ⊥) → bytes_eq (made_net j) (made_net k) ≡ false
nets_apart j k a b h = differ (made_net j) (made_net k) (λ e. h (decimal_injective j k a b (let s : decimal j ≡ decimal k = ap (drop 5) e in s)))

instances_apart : (j k : ℕ) → j < 2 ^ 64 → k < 2 ^ 64 → (j ≡ k → ⊥) → bytes_eq (made_instance j) (made_instance k) ≡ false
instances_apart j k a b h = differ (made_instance j) (made_instance k) (λ e. h (decimal_injective j k a b (let s : decimal j ≡ decimal k = ap (drop 5) e in s)))

net_instance : (j k : ℕ) → bytes_eq (made_net j) (made_instance k) ≡ false
net_instance j k = differ (made_net j) (made_instance k) (λ e. absurd (let h : 110 ≡ 105 = ap (λ (w : Text). get_or w 4 0) e in omega (arith, h)))

instance_net : (j k : ℕ) → bytes_eq (made_instance j) (made_net k) ≡ false
instance_net j k = differ (made_instance j) (made_net k) (λ e. absurd (let h : 105 ≡ 110 = ap (λ (w : Text). get_or w 4 0) e in omega (arith, h)))

-- ---- what is made

-- no made name that comes is taken, and there is room for so many nets and instances
pub record IsFresh (s : Making) (room : ℕ) : Type 0 where
  pub nets : (j : ℕ) → s.made.nets ≤ j → j < 2 ^ 64 → IsFree s.netlist (made_net j)
  pub instances : (j : ℕ) → s.made.instances ≤ j → j < 2 ^ 64 → IsFree s.netlist (made_instance j)
  pub few_nets : length s.netlist.nets + room ≤ MAX_NETS
  pub few_instances : length s.netlist.instances + room ≤ MAX_INSTANCES
  pub low_nets : s.made.nets + room < 2 ^ 64
  pub low_instances : s.made.instances + room < 2 ^ 64

net_kept : (s : Making) (w : Text) → IsFree s.netlist w → bytes_eq (made_net s.made.nets) w ≡ false → IsFree (with_net s).netlist w
net_kept s w f e = record { nets = has-other s.netlist.nets (made_net s.made.nets) w f.nets e; vectors = f.vectors; owns = f.owns }

net_fresh : (s : Making) (room : ℕ) → IsFresh s (suc room) → IsFresh (with_net s) room
net_fresh s room f =
    let few = f.few_nets in
    let more = f.few_instances in
    let low = f.low_nets in
    let last = f.low_instances in
    record {
      nets = λ j le wide. net_kept s (made_net j) (f.nets j (omega (arith, le)) wide) (nets_apart s.made.nets j (omega (arith, low)) wide (λ e. absurd (omega (arith, e, le))));
      instances = λ j le wide. net_kept s (made_instance j) (f.instances j le wide) (net_instance s.made.nets j);
      few_nets = omega (arith, few, length-append s.netlist.nets (made_net s.made.nets ∷ []));
      few_instances = omega (arith, more);
      low_nets = omega (arith, low);
      low_instances = omega (arith, last);
    }

owns_push : (instances : List Instance) (x : Instance) (name : Text) → x.name ≡ Some name → filter_map instance_name (instances ++ x ∷ []) ≡ filter_map instance_name instances ++ name ∷ []
owns_push instances x name e = filter_map-append instance_name instances (x ∷ []) ∙ ap (λ (o : Option Text). filter_map instance_name instances ++ cons_option o []) e

instance_kept : (s : Making) (cell : CellRef) (pins : List Signal) (w : Text) → IsFree s.netlist w → bytes_eq (made_instance s.made.instances) w ≡ false → IsFree (with_instance s cell pins).netlist w
instance_kept s cell pins w f e = record {
  nets = f.nets;
  vectors = f.vectors;
  owns = ap (λ (ws : List Text). has_name ws w) (owns_push s.netlist.instances (record { name = Some (made_instance s.made.instances); cell = cell; pins = pins }) (made_instance s.made.instances) refl)
      ∙ has-other (filter_map instance_name s.netlist.instances) (made_instance s.made.instances) w f.owns e;
}

instance_fresh : (s : Making) (cell : CellRef) (pins : List Signal) (room : ℕ) → IsFresh s (suc room) → IsFresh (with_instance s cell pins) room
instance_fresh s cell pins room f =
    let few = f.few_nets in
    let more = f.few_instances in
    let low = f.low_nets in
    let last = f.low_instances in
    record {
      nets = λ j le wide. instance_kept s cell pins (made_net j) (f.nets j le wide) (instance_net s.made.instances j);
      instances = λ j le wide. instance_kept s cell pins (made_instance j) (f.instances j (omega (arith, le)) wide) (instances_apart s.made.instances j (omega (arith, last)) wide (λ e. absurd (omega (arith, e, le))));
      few_nets = omega (arith, few);
      few_instances = omega (arith, more, length-append s.netlist.instances (record { name = Some (made_instance s.made.instances); cell = cell; pins = pins } ∷ []));
      low_nets = omega (arith, low);
      low_instances = omega (arith, last);
    }

-- a pin changes no name
joined_names : (i pin : ℕ) (net : NetId) (xs : List Instance) → filter_map instance_name (instance_joined i pin net xs) ≡ filter_map instance_name xs
joined_names i pin net [] = refl
joined_names zero pin net (x ∷ xs) = refl
joined_names (suc i) pin net (x ∷ xs) = ap (cons_option x.name) (joined_names i pin net xs)

pin_kept : (s : Making) (instance : InstanceId) (pin : ℕ) (net : NetId) (w : Text) → IsFree s.netlist w → IsFree (with_pin s instance pin net).netlist w
pin_kept s instance pin net w f = record { nets = f.nets; vectors = f.vectors; owns = ap (λ (ws : List Text). has_name ws w) (joined_names instance.0 pin net s.netlist.instances) ∙ f.owns }

pin_fresh : (s : Making) (instance : InstanceId) (pin : ℕ) (net : NetId) (room : ℕ) → IsFresh s room → IsFresh (with_pin s instance pin net) room
pin_fresh s instance pin net room f =
    let more = f.few_instances in
    record {
      nets = λ j le wide. pin_kept s instance pin net (made_net j) (f.nets j le wide);
      instances = λ j le wide. pin_kept s instance pin net (made_instance j) (f.instances j le wide);
      few_nets = f.few_nets;
      few_instances = omega (arith, more, joined_length instance.0 pin net s.netlist.instances);
      low_nets = f.low_nets;
      low_instances = f.low_instances;
    }

first_free : (n : Netlist) (w : Text) → is_taken n w ≡ false → first_taken n (w ∷ []) ≡ None
first_free n w h = rw h refl

-- so none of these parts is refused
pub parts_pass : (parts : List Part) (s : Making) (room : ℕ) → size_of parts ≤ room → IsFresh s room → parts_refusal s parts ≡ None
parts_pass [] s room le f = refl
parts_pass (ANet ∷ parts) s zero le f = absurd (omega (arith, le))
parts_pass (ANet ∷ parts) s (suc room) le f =
    let few = f.few_nets in
    let low = f.low_nets in
    ap (λ (o : Option NetlistError). or_else o (parts_refusal (with_net s) parts))
    (net_open s.netlist (made_net s.made.nets) (free_is s.netlist (made_net s.made.nets) (f.nets s.made.nets (omega arith) (omega (arith, low)))) (omega (arith, few)))
    ∙ parts_pass parts (with_net s) room (omega (arith, le)) (net_fresh s room f)
parts_pass (AnInstance cell pins ∷ parts) s zero le f = absurd (omega (arith, le, instance_counts cell pins parts))
parts_pass (AnInstance cell pins ∷ parts) s (suc room) le f =
    let few = f.few_instances in
    let low = f.low_instances in
    ap (λ (o : Option NetlistError). or_else o (parts_refusal (with_instance s cell pins) parts))
    (instance_open s.netlist (Some (made_instance s.made.instances)) (first_free s.netlist (made_instance s.made.instances) (free_is s.netlist (made_instance s.made.instances) (f.instances s.made.instances (omega arith) (omega (arith, low))))) (omega (arith, few)))
    ∙ parts_pass parts (with_instance s cell pins) room (omega (arith, le, instance_counts cell pins parts)) (instance_fresh s cell pins room f)
parts_pass (APin instance pin net ∷ parts) s room le f = parts_pass parts (with_pin s instance pin net) room le (pin_fresh s instance pin net room f)
