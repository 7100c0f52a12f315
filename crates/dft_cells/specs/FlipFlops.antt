-- The next bit of a flip-flop, over bits and over three-valued bits: reset, set, scan (Bushnell and Agrawal, Essentials of Electronic Testing).
use Rattle.std.specs.Prelude.{Bool, true, false, not, ◌&&◌, if◌then◌else◌, Option, None, Some, option_map, List, [], ◌∷◌, ◌≡◌, ◌⊎◌}
use Rattle.dft_base.specs.declared.tri.Tri.{Tri}
use Rattle.dft_base.specs.Tri.{known}
use Rattle.dft_cells.specs.declared.kind.Kind.{Kind}
use Rattle.dft_cells.specs.declared.kind.Kind.TheVariants as kind
use Rattle.dft_cells.specs.declared.kind.Forcing.{Forcing}
use Rattle.dft_cells.specs.declared.kind.Forcing.TheVariants as force
use Rattle.dft_cells.specs.Gates.{completing}

-- the bit that a reset (value 0) or a set (value 1) leaves: its value where its pin is 0, else the bit
abbrev pub forced : (value pin bit : Bool) → Bool
forced value pin bit = if pin then bit else value

-- the bit that a scan flip-flop takes: SI where SE is 1, else D
abbrev pub chosen : (enable scan_in data_in : Bool) → Bool
chosen enable scan_in data_in = if enable then scan_in else data_in

-- the same over three values: what all completions share
abbrev pub tri_forced : (value : Bool) (pin bit : Tri) → Tri
tri_forced value pin bit = completing (λ p. completing (λ b. known (forced value p b)) bit) pin

abbrev pub tri_chosen : (enable scan_in data_in : Tri) → Tri
tri_chosen enable scan_in data_in = completing (λ e. completing (λ s. completing (λ d. known (chosen e s d)) data_in) scan_in) enable

-- ---- what a cell takes, and what forces it, by the places that its pins read

-- the scan input that a scan cell takes where its scan enable is 1
pub record Scan (A : Type 0) : Type 0 where
  pub enable : A
  pub input : A

-- what a cell takes at the edge of its clock
pub record Takes (A : Type 0) : Type 0 where
  pub input : A
  pub scan : Option (Scan A)

-- what acts on a cell at any moment while it is 0: a reset clears it, and a set presets it. The reset wins.
pub record Forces (A : Type 0) : Type 0 where
  pub clear : Option A
  pub preset : Option A

abbrev pub no_forces : {A : Type 0} → Forces A
no_forces = record { clear = None; preset = None }

-- a reset or a set of a cell
abbrev pub IsForceOf : {A : Type 0} → Forces A → A → Type 0
IsForceOf forces pin = (forces.clear ≡ Some pin) ⊎ (forces.preset ≡ Some pin)

-- what forces a cell whose pins are at other places
abbrev pub moved_forces : {A B : Type 0} → (moved : A → B) → Forces A → Forces B
moved_forces moved forces = record { clear = option_map moved forces.clear; preset = option_map moved forces.preset }

abbrev pub scan_sources : {A : Type 0} → Option (Scan A) → List A
scan_sources None = []
scan_sources (Some scan) = scan.enable ∷ scan.input ∷ []

-- the places that a cell takes its bit from
abbrev pub taken_from : {A : Type 0} → Takes A → List A
taken_from takes = takes.input ∷ scan_sources takes.scan

-- the data bit, or the scan input where the scan enable is 1
abbrev pub scanned : {A : Type 0} → Option (Scan A) → (at : A → Bool) → (data_in : Bool) → Bool
scanned None at data_in = data_in
scanned (Some scan) at data_in = chosen (at scan.enable) (at scan.input) data_in

-- the bit that a cell takes at the edge of its clock, by its own bit and those of the places just before
abbrev pub taken_by : {A : Type 0} → Takes A → (own : Bool) → (at : A → Bool) → Bool
taken_by takes own at = scanned takes.scan at (at takes.input)

abbrev pub forced_where : {A : Type 0} → (value : Bool) → (pin : Option A) → (at : A → Bool) → Bool → Bool
forced_where value None at bit = bit
forced_where value (Some pin) at bit = forced value (at pin) bit

-- the bit that resets and sets leave
abbrev pub forced_by : {A : Type 0} → Forces A → (at : A → Bool) → Bool → Bool
forced_by forces at bit = forced_where false forces.clear at (forced_where true forces.preset at bit)

-- the same over three values
abbrev pub tri_scanned : {A : Type 0} → Option (Scan A) → (at : A → Tri) → (data_in : Tri) → Tri
tri_scanned None at data_in = data_in
tri_scanned (Some scan) at data_in = tri_chosen (at scan.enable) (at scan.input) data_in

abbrev pub tri_taken_by : {A : Type 0} → Takes A → (own : Tri) → (at : A → Tri) → Tri
tri_taken_by takes own at = tri_scanned takes.scan at (at takes.input)

abbrev pub tri_forced_where : {A : Type 0} → (value : Bool) → (pin : Option A) → (at : A → Tri) → Tri → Tri
tri_forced_where value None at bit = bit
tri_forced_where value (Some pin) at bit = tri_forced value (at pin) bit

abbrev pub tri_forced_by : {A : Type 0} → Forces A → (at : A → Tri) → Tri → Tri
tri_forced_by forces at bit = tri_forced_where false forces.clear at (tri_forced_where true forces.preset at bit)

-- ---- kinds

-- whether a kind is a flip-flop
abbrev pub is_flip_flop : Kind → Bool
is_flip_flop (kind.Flop flop) = true
is_flip_flop (kind.Gate gate) = false
is_flip_flop kind.Lockup = false
is_flip_flop kind.Opaque = false

-- whether the same acts on two flip-flops
abbrev pub same_force : Forcing → Forcing → Bool
same_force force.Nothing force.Nothing = true
same_force force.Reset force.Reset = true
same_force force.Set force.Set = true
same_force _ _ = false

-- whether a kind is dff: a flip-flop with no more than its clock and its data input
abbrev pub is_dff : Kind → Bool
is_dff (kind.Flop flop) = same_force flop.force force.Nothing && not flop.scan
is_dff _ = false
