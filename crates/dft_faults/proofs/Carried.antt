-- A design with a stuck net is made stage by stage, and nothing of it is refused.
use Rattle.std.proofs.Common.{ℕ, zero, suc, ◌+◌, ◌≡◌, ◌≤◌, ◌<◌, ◌==◌, Bool, true, false, not, ◌&&◌, List, [], ◌∷◌, ◌++◌, length, map, take, drop, filter, Option, None, Some, option_map, slice_get, refl, sym, subst, ap, arith, ◌∙◌, append-nil, append_assoc, get_or}
use Rattle.std.specs.Prelude.{if◌then◌else◌}
use Rattle.std.specs.List.{filter_map, cons_option}
use Rattle.std.proofs.lemmas.List.{length-map, take-append-drop, drop_all}
use Rattle.std.proofs.lemmas.Option.{same_Some, slice_get-map, slice_get-get_or}
use Rattle.dft_cells.specs.declared.cell.Cell.{Cell}
use Rattle.dft_cells.specs.declared.kind.Role.{Role}
use Rattle.dft_netlist.specs.declared.instance.Instance.{Instance}
use Rattle.dft_netlist.specs.declared.instance.Join.{Join}
use Rattle.dft_netlist.specs.declared.instance.Signal.{Signal}
use Rattle.dft_netlist.specs.declared.instance.Signal.TheVariants.{Net, Constant, Unconnected}
use Rattle.dft_netlist.specs.Netlist.{Netlist}
use Rattle.dft_netlist.specs.Building.{empty_netlist}
use Rattle.dft_netlist.specs.Drivers.{shape_of}
use Rattle.dft_netlist.specs.Names.{names_taken, vector_name, instance_name}
use Rattle.dft_netlist.specs.Sound.{IsNetlist, IsInstance, IsAJoin, IsLive, AreLive, NoConstantOutput, bits_of, is_output}
use Rattle.dft_scan_frame.specs.Growing.{AllFit, port_things, net_things, instance_things, join_things, with_things}
use Rattle.dft_scan_frame.proofs.Fitting.{IsWhole, nets_fit, instances_fit, joins_fit, with_all_nets, with_all_instances, with_all_joins}
use Rattle.dft_scan_frame.proofs.NamesOnce.{times_named, stands_once}
use Rattle.dft_scan_frame.proofs.Stages.{ports_stand, front_count}
use Rattle.dft_faults.specs.declared.fault.Fault.{Fault}
use Rattle.dft_faults.specs.Faulty.{is_at, loosened_pin, loosened_at, loosened_pins, loosened, is_elsewhere, stuck_join, ports_alone, faulty, IsFault}

-- ---- pins

none_split : (pins : List Signal) (k : ℕ) (to : Signal) → slice_get pins k ≡ Some to → drop k pins ≡ to ∷ drop (suc k) pins
none_split [] k to at = absurd (let f : ⊥ = cc in f)
none_split (p ∷ pins) zero to at = ap (λ s. s ∷ pins) (same_Some p to at)
none_split (p ∷ pins) (suc k) to at = none_split pins k to at

-- the next pin, where roles and pins are looked up by number
pub loosened_split : (net : ℕ) (roles : List Role) (pins : List Signal) (k : ℕ) (to : Signal) → slice_get pins k ≡ Some to →
    loosened_pins net (drop k roles) (drop k pins) ≡ loosened_at net (slice_get roles k) to ∷ loosened_pins net (drop (suc k) roles) (drop (suc k) pins)
loosened_split net roles [] k to at = absurd (let f : ⊥ = cc in f)
loosened_split net [] (p ∷ pins) zero to at = ap (λ s. s ∷ pins) (same_Some p to at)
loosened_split net [] (p ∷ pins) (suc k) to at = none_split pins k to at
loosened_split net (r ∷ roles) (p ∷ pins) zero to at = ap (λ s. loosened_pin net r s ∷ loosened_pins net roles pins) (same_Some p to at)
loosened_split net (r ∷ roles) (p ∷ pins) (suc k) to at = loosened_split net roles pins k to at

-- one pin more
pub pins_more : (net k : ℕ) (roles : List Role) (pins : List Signal) (d : Signal) (so_far new whole : List Signal) (next : Signal) → k < length pins → next ≡ loosened_at net (slice_get roles k) (get_or pins k d) → new ≡ so_far ++ next ∷ [] →
    so_far ++ loosened_pins net (drop k roles) (drop k pins) ≡ whole → new ++ loosened_pins net (drop (k + 1) roles) (drop (k + 1) pins) ≡ whole
pins_more net k roles pins d so_far new whole next less is added so =
    let after : suc k ≡ k + 1 = omega arith in
    ap (λ (xs : List Signal). xs ++ loosened_pins net (drop (k + 1) roles) (drop (k + 1) pins)) added
    ∙ append_assoc so_far (next ∷ []) (loosened_pins net (drop (k + 1) roles) (drop (k + 1) pins))
    ∙ ap (λ s. so_far ++ s ∷ loosened_pins net (drop (k + 1) roles) (drop (k + 1) pins)) is
    ∙ ap (λ j. so_far ++ loosened_at net (slice_get roles k) (get_or pins k d) ∷ loosened_pins net (drop j roles) (drop j pins)) (sym after)
    ∙ ap (λ (xs : List Signal). so_far ++ xs) (sym (loosened_split net roles pins k (get_or pins k d) (slice_get-get_or pins k d less)))
    ∙ so

no_pins : (net : ℕ) (roles : List Role) → loosened_pins net roles [] ≡ []
no_pins net [] = refl
no_pins net (r ∷ roles) = refl

-- no pin is left
pub pins_end : (net k : ℕ) (roles : List Role) (pins so_far whole : List Signal) → length pins ≤ k → so_far ++ loosened_pins net (drop k roles) (drop k pins) ≡ whole → so_far ≡ whole
pins_end net k roles pins so_far whole past so =
    let none : loosened_pins net (drop k roles) (drop k pins) ≡ [] = ap (loosened_pins net (drop k roles)) (drop_all k pins past) ∙ no_pins net (drop k roles) in
    sym (append-nil so_far) ∙ ap (λ (xs : List Signal). so_far ++ xs) (sym none) ∙ so

pins-length : (net : ℕ) (roles : List Role) (pins : List Signal) → length (loosened_pins net roles pins) ≡ length pins
pins-length net [] pins = refl
pins-length net (r ∷ roles) [] = refl
pins-length net (r ∷ roles) (to ∷ pins) = ap suc (pins-length net roles pins)

pin_live : (b : Bool) (count : ℕ) (to : Signal) → IsLive count to → IsLive count (if b then Unconnected else to)
pin_live true count to live = tt
pin_live false count to live = live

pins_live : (net count : ℕ) (roles : List Role) (pins : List Signal) → AreLive count pins → AreLive count (loosened_pins net roles pins)
pins_live net count [] pins live place s at = live place s at
pins_live net count (r ∷ roles) [] live place s at = absurd (let f : ⊥ = cc in f)
pins_live net count (r ∷ roles) (to ∷ pins) live zero s at = subst (IsLive count) (same_Some (loosened_pin net r to) s at) (loosened_live net count r to (live 0 to refl))
  where
    loosened_live : (net count : ℕ) (r : Role) (to : Signal) → IsLive count to → IsLive count (loosened_pin net r to)
    loosened_live net count r to h = pin_live (is_output r && is_at net to) count to h
pins_live net count (r ∷ roles) (to ∷ pins) live (suc place) s at = pins_live net count roles pins (λ k t is. live (suc k) t is) place s at

pin_constant : (b : Bool) (to : Signal) (bit : Bool) → (if b then Unconnected else to) ≡ Constant bit → to ≡ Constant bit
pin_constant true to bit e = absurd (let f : ⊥ = cc in f)
pin_constant false to bit e = e

pins_outputs : (net : ℕ) (roles : List Role) (pins : List Signal) → NoConstantOutput roles pins → NoConstantOutput roles (loosened_pins net roles pins)
pins_outputs net [] pins none = none
pins_outputs net (r ∷ roles) [] none = none
pins_outputs net (r ∷ roles) (to ∷ pins) none = λ k. elim k as (λ k. (role : Role) (bit : Bool) → slice_get (r ∷ roles) k ≡ Some role → is_output role ≡ true → slice_get (loosened_pins net (r ∷ roles) (to ∷ pins)) k ≡ Some (Constant bit) → ⊥) [
  | zero ↦ λ role bit is out at. none 0 role bit is out (ap Some (pin_constant (is_output r && is_at net to) to bit (same_Some (loosened_pin net r to) (Constant bit) at)))
  | suc j ↦ λ role bit is out at. pins_outputs net roles pins (λ m role bit is out at. none (suc m) role bit is out at) j role bit is out at
]

-- ---- instances

loosened_sound : (library : List Cell) (count net : ℕ) (x : Instance) → IsInstance library count x.name x.cell x.pins → IsInstance library count x.name x.cell (loosened_pins net (shape_of library x.cell).roles x.pins)
loosened_sound library count net x sound = record {
  fits = sound.fits;
  width = pins-length net (shape_of library x.cell).roles x.pins ∙ sound.width;
  live = pins_live net count (shape_of library x.cell).roles x.pins sound.live;
  outputs = pins_outputs net (shape_of library x.cell).roles x.pins sound.outputs;
}

sound_by : (library : List Cell) (count net : ℕ) (o : Option Instance) (y : Instance) → ((x : Instance) → o ≡ Some x → IsInstance library count x.name x.cell x.pins) → option_map (loosened library net) o ≡ Some y → IsInstance library count y.name y.cell y.pins
sound_by library count net None y sound at = absurd (let f : ⊥ = cc in f)
sound_by library count net (Some x) y sound at =
    subst (λ (z : Instance). IsInstance library count z.name z.cell z.pins) (same_Some (loosened library net x) y at) (loosened_sound library count net x (sound x refl))

instances_sound : (n : Netlist) (net k : ℕ) (y : Instance) → IsNetlist n → slice_get (map (loosened n.library net) n.instances) k ≡ Some y → IsInstance n.library (length n.nets) y.name y.cell y.pins
instances_sound n net k y sound at = sound_by n.library (length n.nets) net (slice_get n.instances k) y (λ x is. sound.instances k x is) (sym (slice_get-map (loosened n.library net) n.instances k) ∙ at)

-- ---- joins

kept_join : (b : Bool) (x : Join) (xs : List Join) (k : ℕ) (y : Join) (P : Join → Type 0) → P x → ((k : ℕ) → slice_get xs k ≡ Some y → P y) → slice_get (if b then x ∷ xs else xs) k ≡ Some y → P y
kept_join true x xs zero y P here more at = subst P (same_Some x y at) here
kept_join true x xs (suc k) y P here more at = more k at
kept_join false x xs k y P here more at = more k at

joins_sound : (net count : ℕ) (xs : List Join) → ((k : ℕ) (x : Join) → slice_get xs k ≡ Some x → IsAJoin count x.target x.source) → (k : ℕ) (y : Join) → slice_get (filter (is_elsewhere net) xs) k ≡ Some y → IsAJoin count y.target y.source
joins_sound net count [] sound k y at = absurd (let f : ⊥ = cc in f)
joins_sound net count (x ∷ xs) sound k y at =
    kept_join (is_elsewhere net x) x (filter (is_elsewhere net) xs) k y (λ j. IsAJoin count j.target j.source) (sound 0 x refl) (λ m is. joins_sound net count xs (λ i j at. sound (suc i) j at) m y is) at

-- ---- names

same_names : (library : List Cell) (net : ℕ) (xs : List Instance) → filter_map instance_name (map (loosened library net) xs) ≡ filter_map instance_name xs
same_names library net [] = refl
same_names library net (x ∷ xs) = ap (cons_option (instance_name x)) (same_names library net xs)

pub faulty_whole : (n : Netlist) (f : Fault) → IsNetlist n → IsWhole (faulty n f)
faulty_whole n f sound = record {
  once = λ q. subst (λ names. times_named q names ≤ 1) (ap (λ names. n.nets ++ (filter_map vector_name n.ports ++ names)) (sym (same_names n.library f.net.0 n.instances))) (stands_once q n sound.names);
  few_ports = sound.few_ports;
  few_nets = sound.few_nets;
  few_instances = omega (arith, length-map n.instances (loosened n.library f.net.0), sound.few_instances);
}

-- ---- stage by stage

abbrev pub before_of : Netlist → ℕ
before_of n = length (bits_of n.ports)

pub ports_done : (n b new : Netlist) → IsNetlist n → b ≡ empty_netlist n.name n.library → new ≡ with_things b (port_things n.ports) → new ≡ ports_alone n
ports_done n b new sound is added = ports_stand n b new sound is added

-- the number of the first net that is no bit of a port
pub first_other : (n b : Netlist) → IsNetlist n → b ≡ ports_alone n → length b.nets ≡ before_of n
first_other n b sound is = ap (λ (m : Netlist). length m.nets) is ∙ front_count n sound

pub nets_pass : (n b : Netlist) (f : Fault) (k : ℕ) → IsNetlist n → b ≡ ports_alone n → k ≡ before_of n → AllFit b (net_things (drop k n.nets))
nets_pass n b f k sound is first =
    subst (λ (m : Netlist). AllFit m (net_things (drop k n.nets))) (sym is) (subst (λ j. AllFit (ports_alone n) (net_things (drop j n.nets))) (sym first)
    (nets_fit (faulty n f) (ports_alone n) (drop (before_of n) n.nets) [] [] (faulty n f).instances (faulty_whole n f sound)
    (record {
      its_ports = sym (append-nil n.ports);
      its_nets = sym (take-append-drop (before_of n) n.nets) ∙ ap (λ xs. take (before_of n) n.nets ++ xs) (sym (append-nil (drop (before_of n) n.nets)));
      its_instances = refl;
    })))

-- ports and nets
abbrev pub nets_alone : Netlist → Netlist
nets_alone n = record (ports_alone n) { nets = n.nets }

pub nets_done : (n b new : Netlist) (k : ℕ) → b ≡ ports_alone n → k ≡ before_of n → new ≡ with_things b (net_things (drop k n.nets)) → new ≡ nets_alone n
nets_done n b new k is first added =
    added ∙ (λ t. with_things (is t) (net_things (drop (first t) n.nets))) ∙ with_all_nets (ports_alone n) (drop (before_of n) n.nets)
    ∙ ap (λ nets. record (ports_alone n) { nets = nets }) (take-append-drop (before_of n) n.nets)

pub instances_pass : (n b : Netlist) (f : Fault) → IsNetlist n → b ≡ nets_alone n → AllFit b (instance_things (map (loosened n.library f.net.0) n.instances))
instances_pass n b f sound is =
    subst (λ (m : Netlist). AllFit m (instance_things (map (loosened n.library f.net.0) n.instances))) (sym is)
    (instances_fit (faulty n f) (nets_alone n) (map (loosened n.library f.net.0) n.instances) [] [] [] (faulty_whole n f sound)
    (record { its_ports = sym (append-nil n.ports); its_nets = sym (append-nil n.nets); its_instances = sym (append-nil (map (loosened n.library f.net.0) n.instances)) })
    (λ k y at. instances_sound n f.net.0 k y sound at))

-- ports, nets and instances
abbrev pub instances_alone : Netlist → Fault → Netlist
instances_alone n f = record (nets_alone n) { instances = map (loosened n.library f.net.0) n.instances }

pub instances_done : (n b new : Netlist) (f : Fault) → b ≡ nets_alone n → new ≡ with_things b (instance_things (map (loosened n.library f.net.0) n.instances)) → new ≡ instances_alone n f
instances_done n b new f is added =
    added ∙ ap (λ (m : Netlist). with_things m (instance_things (map (loosened n.library f.net.0) n.instances))) is ∙ with_all_instances (nets_alone n) (map (loosened n.library f.net.0) n.instances)

pub joins_pass : (n b : Netlist) (f : Fault) → IsNetlist n → b ≡ instances_alone n f → AllFit b (join_things (filter (is_elsewhere f.net.0) n.joins))
joins_pass n b f sound is =
    subst (λ (m : Netlist). AllFit m (join_things (filter (is_elsewhere f.net.0) n.joins))) (sym is)
    (joins_fit (instances_alone n f) (filter (is_elsewhere f.net.0) n.joins) (λ k y at. joins_sound f.net.0 (length n.nets) n.joins sound.joins k y at))

-- and the joins of other nets
abbrev pub joins_alone : Netlist → Fault → Netlist
joins_alone n f = record (instances_alone n f) { joins = filter (is_elsewhere f.net.0) n.joins }

pub joins_done : (n b new : Netlist) (f : Fault) → b ≡ instances_alone n f → new ≡ with_things b (join_things (filter (is_elsewhere f.net.0) n.joins)) → new ≡ joins_alone n f
joins_done n b new f is added =
    added ∙ ap (λ (m : Netlist). with_things m (join_things (filter (is_elsewhere f.net.0) n.joins))) is ∙ with_all_joins (instances_alone n f) (filter (is_elsewhere f.net.0) n.joins)

-- the join to the constant
pub stuck_fits : (n : Netlist) (f : Fault) → IsFault n f → IsAJoin (length n.nets) f.net (Constant f.value)
stuck_fits n f fault = record { target_live = fault.live; source_live = tt; connected = tt }
