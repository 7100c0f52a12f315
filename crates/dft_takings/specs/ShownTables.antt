-- What nets show, as a table.
use Rattle.std.specs.Prelude.{ℕ, Bool, List, slice_index_or}
use Rattle.dft_base.specs.declared.tri.Tri.TheVariants.{Unknown}
use Rattle.dft_behavior.specs.Logic.{Cell, Meaning, Free}
use Rattle.dft_abstract.specs.Cycle.{Pulse}
use Rattle.dft_takings.specs.Shows.{shown_given}
use Rattle.dft_takings.specs.Shows as shows
use Rattle.dft_takings.specs.declared.shown.Shown.{Shown}
use Rattle.dft_takings.specs.declared.shown.Shown.TheVariants.{Nothing, Domain, Several}
use Rattle.dft_logic.specs.Circuit.{cell_at}

abbrev pub shown_of : Shown → shows.Shown
shown_of Nothing = shows.Nothing
shown_of (Domain net) = shows.Domain net.0
shown_of Several = shows.Several

-- what the net at a place shows, and nothing past the end
abbrev pub shown_at : List Shown → ℕ → shows.Shown
shown_at table net = shown_of (slice_index_or table net Nothing)

-- the edges of these clocks, which are all that matters here
abbrev pub edges_of : (rising : Bool) → (pulsed : ℕ → Bool) → Pulse
edges_of rising pulsed = record { rising = rising; ports = λ k. Unknown; pulsed = pulsed; old = λ c. Unknown }

-- what a net shows in a phase by its meaning, where these are the cells
abbrev pub shown_in : List Cell → (rising : Bool) → (pulsed : ℕ → Bool) → (shown : ℕ → shows.Shown) → (net : ℕ) → Meaning → shows.Shown
shown_in cells rising pulsed shown net m = shown_given (record { net = λ k. Free; cell = cell_at cells }) (edges_of rising pulsed) shown net m
