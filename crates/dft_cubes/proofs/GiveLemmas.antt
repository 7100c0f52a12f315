-- What is given twice, and what may not be given.
use Rattle.std.proofs.Common.{◌≡◌, ◌∙◌, ◌||◌, Bool, true, false, Option, None, Some, sym, ap}
use Rattle.std.specs.Prelude.{if◌then◌else◌}
use Rattle.dft_base.specs.Lexing.{Text}
use Rattle.dft_base.specs.declared.place.Place.{Place}
use Rattle.dft_config.specs.Config.{Config}
use Rattle.dft_netlist.specs.declared.ids.NetId.{NetId}
use Rattle.dft_netlist.specs.declared.ids.InstanceId.{InstanceId}
use Rattle.dft_cubes.specs.declared.cube.Cube.{Cube}
use Rattle.dft_cubes.specs.declared.error.CubeError.{CubeError}
use Rattle.dft_cubes.specs.declared.error.CubeError.TheVariants.{Q6, Q8}
use Rattle.dft_cubes.specs.Cubes.{cell_refusal, has_cell, has_port, is_among, port_refusal}

pub cell_twice : (cube : Cube) (place : Place) (name told : Text) (found : Option InstanceId) (cell : InstanceId) → found ≡ Some cell → has_cell cube cell ≡ true → told ≡ name →
    cell_refusal cube place name found ≡ Some (Q6 place told)
cell_twice cube place name told found cell is has same =
    ap (cell_refusal cube place name) is ∙ ap (λ (t : Bool). if t then Some (Q6 place name) else None) has ∙ ap (λ (word : Text). Some (Q6 place word)) (sym same)

-- the check of a port that is there
abbrev pub port_fault : Place → (name : Text) → (twice special : Bool) → Option CubeError
port_fault place name twice special = if twice then Some (Q6 place name) else if special then Some (Q8 place name) else None

abbrev pub is_special : Config → (name : Text) → Bool
is_special config name = is_among config.domains name || is_among config.resets name

pub port_twice : (config : Config) (cube : Cube) (place : Place) (name told : Text) (found : Option NetId) (port : NetId) → found ≡ Some port → has_port cube port ≡ true → told ≡ name →
    port_refusal config cube place name found ≡ Some (Q6 place told)
port_twice config cube place name told found port is has same =
    ap (port_refusal config cube place name) is ∙ ap (λ (t : Bool). port_fault place name t (is_special config name)) has ∙ ap (λ (word : Text). Some (Q6 place word)) (sym same)

pub port_special : (config : Config) (cube : Cube) (place : Place) (name told : Text) (found : Option NetId) (port : NetId) → found ≡ Some port → has_port cube port ≡ false →
    is_special config name ≡ true → told ≡ name → port_refusal config cube place name found ≡ Some (Q8 place told)
port_special config cube place name told found port is has special same =
    ap (port_refusal config cube place name) is ∙ ap (λ (t : Bool). port_fault place name t (is_special config name)) has
    ∙ ap (λ (t : Bool). port_fault place name false t) special ∙ ap (λ (word : Text). Some (Q8 place word)) (sym same)
