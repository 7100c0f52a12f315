-- What stays of a netlist while parts are made, and where the parts stand.
use Rattle.std.specs.Prelude.{ℕ, suc, ◌+◌, ◌≡◌, List, [], ◌∷◌, ◌++◌, length, map, Option, Some, slice_get}
use Rattle.std.specs.List.{range_with_len}
use Rattle.dft_base.specs.Lexing.{Text}
use Rattle.dft_netlist.specs.declared.instance.CellRef.{CellRef}
use Rattle.dft_netlist.specs.declared.instance.Signal.{Signal}
use Rattle.dft_netlist.specs.declared.instance.Signal.TheVariants.{Net, Constant, Unconnected}
use Rattle.dft_netlist.specs.declared.instance.Instance.{Instance}
use Rattle.dft_netlist.specs.Names.{instance_name}
use Rattle.dft_netlist.specs.Netlist.{Netlist}
use Rattle.dft_parts.specs.MadeNames.{made_net, made_instance}
use Rattle.dft_parts.specs.Parts.{Part, ANet, AnInstance, APin, Making, with_parts}
use Rattle.dft_parts.specs.Recipes.{nets_in}

-- a pin that was joined is joined as it was; an open one may be joined by now
abbrev pub IsKept : (old new : Signal) → Type 0
IsKept Unconnected new = Unit {0}
IsKept (Net net) new = new ≡ Net net
IsKept (Constant bit) new = new ≡ Constant bit

abbrev pub AreKept : (old new : List Signal) → Type 0
AreKept [] [] = Unit {0}
AreKept [] (y ∷ ys) = ⊥
AreKept (x ∷ xs) [] = ⊥
AreKept (x ∷ xs) (y ∷ ys) = IsKept x y × AreKept xs ys

-- an instance of this cell with these pins stands at this number, but that open ones may be joined by now
pub record Stands (n : Netlist) (number : ℕ) (cell : CellRef) (pins : List Signal) : Type 0 where
  pub instance : Instance
  pub at : slice_get n.instances number ≡ Some instance
  pub cell_is : instance.cell ≡ cell
  pub kept : AreKept pins instance.pins

-- the instances among these parts stand in a netlist, one after another, the first at this number
abbrev pub HasParts : Netlist → (number : ℕ) → List Part → Type 0
HasParts n i [] = Unit {0}
HasParts n i (ANet ∷ parts) = HasParts n i parts
HasParts n i (AnInstance cell pins ∷ parts) = Stands n i cell pins × HasParts n (suc i) parts
HasParts n i (APin instance pin net ∷ parts) = HasParts n i parts

-- how many instances are among parts
abbrev pub instances_in : List Part → ℕ
instances_in [] = 0
instances_in (ANet ∷ parts) = instances_in parts
instances_in (AnInstance cell pins ∷ parts) = suc (instances_in parts)
instances_in (APin instance pin net ∷ parts) = instances_in parts

abbrev pub names_of : List Instance → List (Option Text)
names_of instances = map instance_name instances

-- the made names of so many instances, from a number on
abbrev pub made_names : (number count : ℕ) → List (Option Text)
made_names number count = map (λ k. Some (made_instance k)) (range_with_len number count)

-- what these parts leave: all that was there, and behind it what they make, under made names in order
pub record IsGrown (old : Making) (parts : List Part) (new : Making) : Type 0 where
  pub name : new.netlist.name ≡ old.netlist.name
  pub library : new.netlist.library ≡ old.netlist.library
  pub ports : new.netlist.ports ≡ old.netlist.ports
  pub joins : new.netlist.joins ≡ old.netlist.joins
  pub nets : new.netlist.nets ≡ old.netlist.nets ++ map made_net (range_with_len old.made.nets (nets_in parts))
  pub instances : names_of new.netlist.instances ≡ names_of old.netlist.instances ++ made_names old.made.instances (instances_in parts)
  pub made_nets : new.made.nets ≡ old.made.nets + nets_in parts
  pub made_instances : new.made.instances ≡ old.made.instances + instances_in parts
  -- what stood stands
  pub stay : (number : ℕ) (cell : CellRef) (pins : List Signal) → Stands old.netlist number cell pins → Stands new.netlist number cell pins
  -- and behind it the parts
  pub there : HasParts new.netlist (length old.netlist.instances) parts

-- A netlist grows by its parts, and by nothing else.
abbrev pub PartsGrow : Type 0
PartsGrow = (s : Making) (parts : List Part) → IsGrown s parts (with_parts s parts)

-- Parts that stand go on standing.
abbrev pub PartsStay : Type 0
PartsStay = (s : Making) (more parts : List Part) (number : ℕ) → HasParts s.netlist number parts → HasParts (with_parts s more).netlist number parts
