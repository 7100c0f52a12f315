-- That three-valued meanings stand above the meanings of bits.
use Rattle.std.specs.Prelude.{ℕ, Bool, List, [], ◌∷◌}
use Rattle.dft_base.specs.declared.tri.Tri.{Tri}
use Rattle.dft_base.specs.Tri.{Above}
use Rattle.dft_cells.specs.Gates.{shared}
use Rattle.dft_cells.specs.FlipFlops.{forced, chosen, tri_forced, tri_chosen, Takes, Forces, taken_by, forced_by, tri_taken_by, tri_forced_by}

-- each value stands above the bit at its place
abbrev pub AllAbove : List Tri → List Bool → Type 0
AllAbove [] [] = Unit {0}
AllAbove [] (b ∷ bs) = ⊥
AllAbove (t ∷ ts) [] = ⊥
AllAbove (t ∷ ts) (b ∷ bs) = Above t b × AllAbove ts bs

abbrev pub CompletionsAreAbove : Type 0
CompletionsAreAbove = (f : List Bool → Bool) (values : List Tri) (bits : List Bool) → AllAbove values bits → Above (shared f values) (f bits)

abbrev pub ForcedIsAbove : Type 0
ForcedIsAbove = (value : Bool) (pin bit : Tri) (p b : Bool) → Above pin p → Above bit b → Above (tri_forced value pin bit) (forced value p b)

abbrev pub ChosenIsAbove : Type 0
ChosenIsAbove = (enable scan_in data_in : Tri) (e s d : Bool) → Above enable e → Above scan_in s → Above data_in d → Above (tri_chosen enable scan_in data_in) (chosen e s d)

-- What a cell takes over three values stands above what it takes over bits, and so does what resets and sets leave.
abbrev pub TakenIsAbove : Type 0
TakenIsAbove =
    (takes : Takes ℕ) (own : Tri) (o : Bool) (values : ℕ → Tri) (bits : ℕ → Bool) → Above own o → ((k : ℕ) → Above (values k) (bits k)) →
    Above (tri_taken_by takes own values) (taken_by takes o bits)

abbrev pub LeftIsAbove : Type 0
LeftIsAbove =
    (forces : Forces ℕ) (value : Tri) (bit : Bool) (values : ℕ → Tri) (bits : ℕ → Bool) → Above value bit → ((k : ℕ) → Above (values k) (bits k)) →
    Above (tri_forced_by forces values value) (forced_by forces bits bit)
