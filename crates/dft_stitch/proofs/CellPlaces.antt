-- The chain and the place of a cell.
use Rattle.std.proofs.Common.{ℕ, ◌≡◌, List, Option, None, Some, option_and_then, slice_get, ◌<◌, length, refl}
use Rattle.std.proofs.lemmas.Option.{none-some, slice_get_within}
use Rattle.dft_netlist.specs.declared.ids.InstanceId.{InstanceId}
use Rattle.dft_stitch.specs.Plans.{cell_at}

pub chain_of : (chains : List (List InstanceId)) (chain place : ℕ) (cell : InstanceId) (o : Option (List InstanceId)) → slice_get chains chain ≡ o → option_and_then (λ cells. slice_get cells place) o ≡ Some cell →
    (cells : List InstanceId) × (slice_get chains chain ≡ Some cells) × (slice_get cells place ≡ Some cell)
chain_of chains chain place cell None at is = absurd (none-some cell is)
chain_of chains chain place cell (Some cells) at is = (cells, at, is)

pub chain_within_in : (chains : List (List InstanceId)) (chain place : ℕ) (o : Option (List InstanceId)) (cell : InstanceId) → slice_get chains chain ≡ o → option_and_then (λ cells. slice_get cells place) o ≡ Some cell → chain < length chains
chain_within_in chains chain place None cell is stands = absurd (none-some cell stands)
chain_within_in chains chain place (Some cells) cell is stands = slice_get_within chains chain cells is

pub chain_within : (chains : List (List InstanceId)) (chain place : ℕ) (cell : InstanceId) → cell_at chains chain place ≡ Some cell → chain < length chains
chain_within chains chain place cell stands = chain_within_in chains chain place (slice_get chains chain) cell refl stands
