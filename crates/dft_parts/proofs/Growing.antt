-- What stays while parts are made, and where the parts stand.
use Rattle.std.proofs.Common.{ℕ, zero, suc, ◌+◌, ◌≡◌, List, [], ◌∷◌, ◌++◌, length, map, Option, Some, slice_get, refl, sym, subst, ap, arith, ◌∙◌, append_assoc}
use Rattle.std.specs.List.{range_with_len}
use Rattle.std.proofs.lemmas.List.{append-nil, map-append}
use Rattle.std.proofs.lemmas.Option.{none-some, same_Some}
use Rattle.dft_base.specs.Lexing.{Text}
use Rattle.dft_base.proofs.ListLemmas.{get_left, length_push}
use Rattle.dft_netlist.specs.declared.ids.NetId.{NetId}
use Rattle.dft_netlist.specs.declared.instance.CellRef.{CellRef}
use Rattle.dft_netlist.specs.declared.instance.Signal.{Signal}
use Rattle.dft_netlist.specs.declared.instance.Signal.TheVariants.{Net, Constant, Unconnected}
use Rattle.dft_netlist.specs.declared.instance.Instance.{Instance}
use Rattle.dft_netlist.specs.Names.{instance_name}
use Rattle.dft_netlist.proofs.Places.{get_push}
use Rattle.dft_parts.specs.MadeNames.{made_net, made_instance}
use Rattle.dft_parts.specs.Parts.{Part, ANet, AnInstance, APin, Making, next_instance, joined_to, pin_joined, instance_joined, with_part, with_parts}
use Rattle.dft_parts.specs.Recipes.{nets_in}
use Rattle.dft_parts.specs.Growth.{IsKept, AreKept, Stands, HasParts, instances_in, names_of, made_names, PartsGrow, PartsStay}

-- ---- pins

kept_same : (x : Signal) → IsKept x x
kept_same Unconnected = tt
kept_same (Net net) = refl
kept_same (Constant bit) = refl

pub kept_refl : (xs : List Signal) → AreKept xs xs
kept_refl [] = tt
kept_refl (x ∷ xs) = (kept_same x, kept_refl xs)

kept_joined : (net : NetId) (x : Signal) → IsKept x (joined_to net x)
kept_joined net Unconnected = tt
kept_joined net (Net other) = refl
kept_joined net (Constant bit) = refl

pins_joined : (pin : ℕ) (net : NetId) (xs : List Signal) → AreKept xs (pin_joined pin net xs)
pins_joined pin net [] = tt
pins_joined zero net (x ∷ xs) = (kept_joined net x, kept_refl xs)
pins_joined (suc pin) net (x ∷ xs) = (kept_same x, pins_joined pin net xs)

kept_on : (x y z : Signal) → IsKept x y → IsKept y z → IsKept x z
kept_on Unconnected y z h k = tt
kept_on (Net net) y z h k = subst (λ (s : Signal). IsKept s z) h k
kept_on (Constant bit) y z h k = subst (λ (s : Signal). IsKept s z) h k

pub kept_trans : (xs ys zs : List Signal) → AreKept xs ys → AreKept ys zs → AreKept xs zs
kept_trans [] [] [] h k = tt
kept_trans [] [] (z ∷ zs) h k = absurd k
kept_trans [] (y ∷ ys) zs h k = absurd h
kept_trans (x ∷ xs) [] zs h k = absurd h
kept_trans (x ∷ xs) (y ∷ ys) [] h k = absurd k
kept_trans (x ∷ xs) (y ∷ ys) (z ∷ zs) h k = (kept_on x y z h.0 k.0, kept_trans xs ys zs h.1 k.1)

-- ---- instances

-- an instance after a pin was joined
pub record IsSame (x : Instance) (ys : List Instance) (k : ℕ) : Type 0 where
  pub instance : Instance
  pub at : slice_get ys k ≡ Some instance
  pub cell_is : instance.cell ≡ x.cell
  pub kept : AreKept x.pins instance.pins

pub joined_get : (i pin : ℕ) (net : NetId) (xs : List Instance) (k : ℕ) (x : Instance) → slice_get xs k ≡ Some x → IsSame x (instance_joined i pin net xs) k
joined_get i pin net [] k x at = absurd (none-some x at)
joined_get zero pin net (z ∷ xs) zero x at = record {
  instance = record z { pins = pin_joined pin net z.pins };
  at = refl;
  cell_is = ap (λ (v : Instance). v.cell) (same_Some z x at);
  kept = subst (λ (v : Instance). AreKept v.pins (pin_joined pin net z.pins)) (same_Some z x at) (pins_joined pin net z.pins);
}
joined_get zero pin net (z ∷ xs) (suc k) x at = record { instance = x; at = at; cell_is = refl; kept = kept_refl x.pins }
joined_get (suc i) pin net (z ∷ xs) zero x at = record {
  instance = z;
  at = refl;
  cell_is = ap (λ (v : Instance). v.cell) (same_Some z x at);
  kept = subst (λ (v : Instance). AreKept v.pins z.pins) (same_Some z x at) (kept_refl z.pins);
}
joined_get (suc i) pin net (z ∷ xs) (suc k) x at = let h = joined_get i pin net xs k x at in record { instance = h.instance; at = h.at; cell_is = h.cell_is; kept = h.kept }

pub joined_length : (i pin : ℕ) (net : NetId) (xs : List Instance) → length (instance_joined i pin net xs) ≡ length xs
joined_length i pin net [] = refl
joined_length zero pin net (x ∷ xs) = refl
joined_length (suc i) pin net (x ∷ xs) = ap suc (joined_length i pin net xs)

joined_names : (i pin : ℕ) (net : NetId) (xs : List Instance) → names_of (instance_joined i pin net xs) ≡ names_of xs
joined_names i pin net [] = refl
joined_names zero pin net (x ∷ xs) = refl
joined_names (suc i) pin net (x ∷ xs) = ap (λ (ns : List (Option Text)). x.name ∷ ns) (joined_names i pin net xs)

-- ---- what stands

pub stands_part : (s : Making) (part : Part) (i : ℕ) (cell : CellRef) (pins : List Signal) → Stands s.netlist i cell pins → Stands (with_part s part).netlist i cell pins
stands_part s ANet i cell pins h = record { instance = h.instance; at = h.at; cell_is = h.cell_is; kept = h.kept }
stands_part s (AnInstance other more) i cell pins h = record {
  instance = h.instance;
  at = get_left s.netlist.instances (next_instance s.made other more ∷ []) i h.instance h.at;
  cell_is = h.cell_is;
  kept = h.kept;
}
stands_part s (APin instance pin net) i cell pins h =
    let x : Instance = h.instance in
    let k = joined_get instance.0 pin net s.netlist.instances i x h.at in
    record { instance = k.instance; at = k.at; cell_is = k.cell_is ∙ h.cell_is; kept = kept_trans pins x.pins k.instance.pins h.kept k.kept }

pub stands_on : (s : Making) (parts : List Part) (i : ℕ) (cell : CellRef) (pins : List Signal) → Stands s.netlist i cell pins → Stands (with_parts s parts).netlist i cell pins
stands_on s [] i cell pins h = h
stands_on s (part ∷ parts) i cell pins h = stands_on (with_part s part) parts i cell pins (stands_part s part i cell pins h)

pub parts_stay : PartsStay
parts_stay s more [] i h = tt
parts_stay s more (ANet ∷ parts) i h = parts_stay s more parts i h
parts_stay s more (AnInstance cell pins ∷ parts) i h = (stands_on s more i cell pins h.0, parts_stay s more parts (suc i) h.1)
parts_stay s more (APin instance pin net ∷ parts) i h = parts_stay s more parts i h

-- ---- lists that grow

instance_there : (s : Making) (parts : List Part) (cell : CellRef) (pins : List Signal) → Stands (with_parts (with_part s (AnInstance cell pins)) parts).netlist (length s.netlist.instances) cell pins
instance_there s parts cell pins =
    stands_on (with_part s (AnInstance cell pins)) parts (length s.netlist.instances) cell pins
    (record { instance = next_instance s.made cell pins; at = get_push s.netlist.instances (next_instance s.made cell pins); cell_is = refl; kept = kept_refl pins })

pub parts_grow : PartsGrow
parts_grow s [] = record {
  name = refl;
  library = refl;
  ports = refl;
  joins = refl;
  nets = sym (append-nil s.netlist.nets);
  instances = sym (append-nil (names_of s.netlist.instances));
  made_nets = omega arith;
  made_instances = omega arith;
  stay = λ number cell pins h. h;
  there = tt;
}
parts_grow s (ANet ∷ parts) =
    let h = parts_grow (with_part s ANet) parts in record {
      name = h.name;
      library = h.library;
      ports = h.ports;
      joins = h.joins;
      nets = h.nets ∙ append_assoc s.netlist.nets (made_net s.made.nets ∷ []) (map made_net (range_with_len (s.made.nets + 1) (nets_in parts)));
      instances = h.instances;
      made_nets = omega (arith, h.made_nets);
      made_instances = h.made_instances;
      stay = λ number cell pins k. stands_on s (ANet ∷ parts) number cell pins k;
      there = h.there;
    }
parts_grow s (AnInstance cell pins ∷ parts) =
    let h = parts_grow (with_part s (AnInstance cell pins)) parts in record {
      name = h.name;
      library = h.library;
      ports = h.ports;
      joins = h.joins;
      nets = h.nets;
      instances =
          h.instances
          ∙ ap (λ (ns : List (Option Text)). ns ++ made_names (s.made.instances + 1) (instances_in parts)) (map-append instance_name s.netlist.instances (next_instance s.made cell pins ∷ []))
          ∙ append_assoc (names_of s.netlist.instances) (Some (made_instance s.made.instances) ∷ []) (made_names (s.made.instances + 1) (instances_in parts));
      made_nets = h.made_nets;
      made_instances = omega (arith, h.made_instances);
      stay = λ number other more k. stands_on s (AnInstance cell pins ∷ parts) number other more k;
      there = (
        instance_there s parts cell pins,
        subst (λ (k : ℕ). HasParts (with_parts (with_part s (AnInstance cell pins)) parts).netlist k parts) (length_push s.netlist.instances (next_instance s.made cell pins)) h.there,
      );
    }
parts_grow s (APin instance pin net ∷ parts) =
    let h = parts_grow (with_part s (APin instance pin net)) parts in record {
      name = h.name;
      library = h.library;
      ports = h.ports;
      joins = h.joins;
      nets = h.nets;
      instances = h.instances ∙ ap (λ (ns : List (Option Text)). ns ++ made_names s.made.instances (instances_in parts)) (joined_names instance.0 pin net s.netlist.instances);
      made_nets = h.made_nets;
      made_instances = h.made_instances;
      stay = λ number cell pins k. stands_on s (APin instance pin net ∷ parts) number cell pins k;
      there = subst (λ (k : ℕ). HasParts (with_parts (with_part s (APin instance pin net)) parts).netlist k parts) (joined_length instance.0 pin net s.netlist.instances) h.there;
    }
