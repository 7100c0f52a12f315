-- Cubes that were placed in patterns are loaded and captured.
use Rattle.std.proofs.Common.{ℕ, zero, suc, ◌≡◌, ◌==◌, Bool, true, false, List, [], ◌∷◌, map, Option, None, Some, option_map, slice_get, refl, sym, subst, ap, arith, ◌∙◌}
use Rattle.std.specs.Prelude.{if◌then◌else◌}
use Rattle.std.proofs.lemmas.Bool.{eq-eqb, eqb-true}
use Rattle.std.proofs.lemmas.Option.{none-some, same_Some, slice_get-map}
use Rattle.dft_base.specs.Solutions.{bit_at}
use Rattle.dft_netlist.specs.declared.ids.NetId.{NetId}
use Rattle.dft_netlist.specs.Netlist.{Netlist}
use Rattle.dft_behavior.specs.Runs.{Vector}
use Rattle.dft_config.specs.Config.{Config}
use Rattle.dft_equations.specs.LoadRows.{LoadRows}
use Rattle.dft_cubes.specs.declared.cube.Cube.{Cube}
use Rattle.dft_cubes.specs.declared.cube.Domains.{Domains}
use Rattle.dft_cubes.specs.declared.cube.Merged.{Merged}
use Rattle.dft_cubes.specs.Domains.{captured, later_of}
use Rattle.dft_expect.specs.Captures.{bit_of_port, port_value, vector_of}
use Rattle.dft_merge.specs.declared.placed.Placed.{Placed}
use Rattle.dft_merge.specs.declared.placed.Placed.TheVariants.{Into}
use Rattle.dft_merge.specs.Placement.{Loads}
use Rattle.dft_merge.specs.Staying.{IsIn, IsMerged}
use Rattle.dft_merge.proofs.MergedLemmas.{patterns_sound}
use Rattle.dft_merge.proofs.StayLemmas.{cubes_stay}
use Rattle.dft_pattern_behavior.specs.Given.{AreCapturesFrom, IsCaptureOf}
use Rattle.dft_pattern_behavior.proofs.Clocks.{pulsed_rests}
use Rattle.dft_vectors.specs.PatternData.{PatternData}
use Rattle.dft_pattern_behavior.specs.Listed.{pattern_of}
use Rattle.dft_load_laws.specs.Loading.{rows_of}
use Rattle.dft_load_laws.proofs.Bringing.{bits_load}
use Rattle.dft_compile_laws.specs.Bringing.{AreCompiled, CaptureInTurn, CapturesCube, CubesAreCaptured, CubesAreLoaded, merged_of}
use Rattle.dft_compile_laws.proofs.Played.{patterns_play}
use Rattle.dft_compile_laws.proofs.Turns.{runs_load}

-- ---- the pattern that a cube is in

record Found (n : Netlist) (config : Config) (rows : LoadRows) (patterns : List PatternData) (p : ℕ) (cube : Cube) : Type 0 where
  pattern : PatternData
  at : slice_get patterns p ≡ Some pattern
  it : IsIn (rows_of n config rows) (map merged_of patterns) p cube
  same : pattern.merged ≡ it.pattern

found_by : (n : Netlist) (config : Config) (rows : LoadRows) (patterns : List PatternData) (p : ℕ) (cube : Cube) (it : IsIn (rows_of n config rows) (map merged_of patterns) p cube) (o : Option PatternData) → slice_get patterns p ≡ o →
    option_map merged_of o ≡ Some it.pattern → Found n config rows patterns p cube
found_by n config rows patterns p cube it None at is = absurd (none-some it.pattern is)
found_by n config rows patterns p cube it (Some d) at is = record { pattern = d; at = at; it = it; same = same_Some d.merged it.pattern is }

found : (n : Netlist) (config : Config) (rows : LoadRows) (window : ℕ) (cubes : List Cube) (placed : List Placed) (patterns : List PatternData) → AreCompiled n config rows window cubes placed patterns →
    (c p : ℕ) (cube : Cube) → slice_get cubes c ≡ Some cube → slice_get placed c ≡ Some (Into p) → Found n config rows patterns p cube
found n config rows window cubes placed patterns are c p cube at word =
    let it = cubes_stay rows.columns (rows_of n config rows) window cubes placed (map merged_of patterns) are.places c p cube at word in
    found_by n config rows patterns p cube it (slice_get patterns p) refl (sym (slice_get-map merged_of patterns p) ∙ it.is)

pub cubes_loaded : CubesAreLoaded
cubes_loaded n config ports rows window cubes placed patterns xs start ts ready suits are does run c p cube at word k given there =
    let f = found n config rows window cubes placed patterns are c p cube at word in
    let row = rows_of n config rows in
    let loads : Loads rows.columns row (bit_at f.pattern.bits) cube.cells =
    (λ j own stands. (let place = f.it.holds.cells j own stands in are.loads p f.pattern f.at place.0 own (ap (λ (m : Merged). slice_get m.cells place.0) f.same ∙ place.1))) in
    let ends = runs_load n config ports patterns xs start ts ready does run p f.pattern f.at in
    ap (λ (flops : ℕ → Bool). flops given.0.0) (sym ends.same) ∙ bits_load n config ports rows (bit_at f.pattern.bits) cube.cells ready suits are.equations f.it.scanned loads ends.run k given there

-- ---- ports

first_port : (x given : NetId × Bool) (more : Option Bool) → x ≡ given → (if x.0.0 == given.0.0 then Some x.1 else more) ≡ Some given.1
first_port x given more same =
    ap (λ (b : Bool). if b then Some x.1 else more) (eq-eqb x.0.0 given.0.0 (ap (λ (g : NetId × Bool). g.0.0) same)) ∙ ap (λ (g : NetId × Bool). Some g.1) same

later_port : (x : NetId × Bool) (net : ℕ) (bit : Bool) (more : Option Bool) (b : Bool) → (x.0.0 == net) ≡ b → (x.0.0 ≡ net → ⊥) → more ≡ Some bit → (if b then Some x.1 else more) ≡ Some bit
later_port x net bit more true is apart rest = absurd (apart (eqb-true x.0.0 net is))
later_port x net bit more false is apart rest = rest

-- a port that a list gives once has the bit that the list gives it
port_bit : (ports : List (NetId × Bool)) → ((j k : ℕ) (a b : NetId × Bool) → slice_get ports j ≡ Some a → slice_get ports k ≡ Some b → a.0.0 ≡ b.0.0 → j ≡ k) → (j : ℕ) (given : NetId × Bool) → slice_get ports j ≡ Some given →
    bit_of_port ports given.0.0 ≡ Some given.1
port_bit [] once j given at = absurd (none-some given at)
port_bit (x ∷ ports) once zero given at = first_port x given (bit_of_port ports given.0.0) (same_Some x given at)
port_bit (x ∷ ports) once (suc j) given at =
    later_port x given.0.0 given.1 (bit_of_port ports given.0.0) (x.0.0 == given.0.0) refl (λ same. (let e = once zero (suc j) x given refl at same in omega (arith, e)))
    (port_bit ports (λ i k a b at_i at_k same. (let e = once (suc i) (suc k) a b at_i at_k same in omega (arith, e))) j given at)

-- a capture vector of a sound pattern captures for a cube that it holds
captures_cube : (n : Netlist) (config : Config) (rows : LoadRows) (patterns : List PatternData) (p : ℕ) (cube : Cube) (f : Found n config rows patterns p cube) (domain : ℕ) (x : Vector) → IsMerged n config f.it.pattern → IsCaptureOf n config (pattern_of config f.pattern) domain x →
    CapturesCube n config cube domain x
captures_cube n config rows patterns p cube f domain x sound captures = record {
  off = captures.off;
  ports = λ k given there. (
      let place = f.it.holds.ports k given there in
      let net : ℕ = given.0.0 in
      let here : slice_get f.pattern.merged.ports place.0 ≡ Some given = ap (λ (m : Merged). slice_get m.ports place.0) f.same ∙ place.1 in
      let bit : bit_of_port f.it.pattern.ports net ≡ Some given.1 = port_bit f.it.pattern.ports sound.ports.once place.0 given place.1 in
      let rests : (vector_of n config f.pattern.merged domain).pulsed net ≡ false = pulsed_rests n config net domain (sound.ports.no_clock place.0 given place.1) in
      captures.ports net (sound.ports.input place.0 given place.1) rests
      ∙ ap (λ (r : Bool). port_value r (bit_of_port f.pattern.merged.ports net)) (sound.ports.no_reset place.0 given place.1)
      ∙ ap (λ (m : Merged). port_value false (bit_of_port m.ports net)) f.same
      ∙ ap (port_value false) bit);
  clock = λ e. captures.pulsed e;
}

-- so do all of them, each one
capture_in_turn : (n : Netlist) (config : Config) (rows : LoadRows) (patterns : List PatternData) (p : ℕ) (cube : Cube) (f : Found n config rows patterns p cube) (domain : ℕ) (later : List ℕ) (xs : List Vector) → IsMerged n config f.it.pattern →
    AreCapturesFrom n config (pattern_of config f.pattern) domain later xs → CaptureInTurn n config cube (domain ∷ later) xs
capture_in_turn n config rows patterns p cube f domain [] [] sound are = absurd are
capture_in_turn n config rows patterns p cube f domain [] (x ∷ y ∷ xs) sound are = absurd are
capture_in_turn n config rows patterns p cube f domain [] (x ∷ []) sound are = (captures_cube n config rows patterns p cube f domain x sound are.0, tt)
capture_in_turn n config rows patterns p cube f domain (next ∷ later) [] sound are = absurd are
capture_in_turn n config rows patterns p cube f domain (next ∷ later) (x ∷ xs) sound are =
    (captures_cube n config rows patterns p cube f domain x sound are.0, capture_in_turn n config rows patterns p cube f next later xs sound are.2)

pub cubes_captured : CubesAreCaptured
cubes_captured n config rows window cubes placed patterns xs ready sound are does c p cube at word =
    let f = found n config rows window cubes placed patterns are c p cube at word in
    let merged = patterns_sound n config rows.columns (rows_of n config rows) window cubes placed (map merged_of patterns) sound are.places p f.it.pattern f.it.is in
    let played = patterns_play n config patterns xs ready does p f.pattern f.at in
    let own : Domains = f.pattern.merged.domains in
    let same : own ≡ cube.domains = ap (λ (m : Merged). m.domains) f.same ∙ f.it.holds.domains in
    record {
      captures = played.captures;
      at = played.at;
      each = subst (λ (d : Domains). CaptureInTurn n config cube (captured d) played.captures) same (capture_in_turn n config rows patterns p cube f own.first (later_of own) played.captures merged played.captured);
    }
