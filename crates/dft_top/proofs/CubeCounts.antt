-- A cube file has no more cubes than there may be, and each of them gives no more cells than the file has lines.
use Rattle.std.proofs.Common.{ℕ, suc, ◌≡◌, ◌≤◌, ◌<◌, ◌+◌, Bool, true, false, if◌then◌else◌, List, [], ◌∷◌, ◌++◌, length, length-append, Option, None, Some, Ok, arith, subst, refl, ◌==◌, ◌^◌}
use Rattle.std.specs.Prelude.{is_none, nat_le}
use Rattle.std.specs.List.{AllByRecursion}
use Rattle.std.proofs.lemmas.Bool.{leb-false}
use Rattle.std.proofs.lemmas.List.Elements.{All-from_recursion}
use Rattle.dft_base.specs.Lexing.{Text}
use Rattle.dft_base.specs.declared.place.Place.{Place}
use Rattle.dft_netlist.specs.declared.ids.InstanceId.{InstanceId}
use Rattle.dft_netlist.specs.declared.ids.NetId.{NetId}
use Rattle.dft_netlist.specs.Netlist.{Netlist}
use Rattle.dft_netlist.specs.Connections.{input_net}
use Rattle.dft_config.specs.Config.{Config}
use Rattle.dft_rules.specs.Rules.{flip_flop_named}
use Rattle.dft_cells.specs.WellFormed.{has_name}
use Rattle.dft_word_lines.specs.Lines.{are_printed, lines_of, onto_first, words_of}
use Rattle.dft_cubes.specs.declared.cube.Cube.{Cube}
use Rattle.dft_cubes.specs.declared.error.CubeError.{CubeError}
use Rattle.dft_cubes.specs.declared.error.CubeError.TheVariants.{Q1, Q4, Q5, Q9}
use Rattle.dft_cubes.specs.declared.limits.TheConstants.{MAX_CUBES}
use Rattle.dft_cubes.specs.Cubes.{Line, Version, Begin, BeginTwo, SetCell, SetPort, End, Reading, begin_refusal, begun, cubes_from, cubes_of, domain_named, ended, line_of, line_refusal, names_of, or_first, place_of_line, said_refusal, with_cell, with_line, with_port, with_said}
use Rattle.dft_cubes.proofs.SoundLemmas.{printed_passes, ok_is, both_pass}
use Rattle.dft_top.specs.declared.limits.TheConstants.{MAX_CUBE_BYTES}
use Rattle.dft_top.specs.Checks.{AreFew}

-- ---- lines

one_more : (b : ℕ) (texts : List Text) → length (onto_first b texts) ≤ suc (length texts)
one_more b [] = omega arith
one_more b (text ∷ texts) = omega arith

lines_by : (b : ℕ) (test : Bool) (texts : List Text) (n : ℕ) → length texts ≤ suc n → length (if test then [] ∷ texts else onto_first b texts) ≤ suc (suc n)
lines_by b true texts n few = omega arith
lines_by b false texts n few = omega (arith, one_more b texts)

lines_few : (text : Text) → length (lines_of text) ≤ suc (length text)
unfolding lines_of
lines_few [] = omega arith
lines_few (b ∷ text) = lines_by b (b == 10) (lines_of text) (length text) (lines_few text)

-- ---- what is held, where so many lines are left

abbrev Few : ℕ → Cube → Type 0
Few m cube = length cube.cells ≤ m

abbrev Left : (m left : ℕ) → Option Cube → Type 0
Left m left None = Unit {0}
Left m left (Some cube) = length cube.cells + left ≤ m

abbrev pending_count : Option Cube → ℕ
pending_count None = 0
pending_count (Some cube) = 1

record Holds (m left : ℕ) (cubes : List Cube) (pending : Option Cube) : Type 0 where
  given : AllByRecursion (Few m) cubes
  pending_few : Left m left pending
  count : length cubes + pending_count pending ≤ MAX_CUBES
  room : left ≤ m

less_left : (m left : ℕ) (pending : Option Cube) → Left m (suc left) pending → Left m left pending
less_left m left None few = tt
less_left m left (Some cube) few = omega arith

waits : (m left : ℕ) (cubes : List Cube) (pending : Option Cube) → Holds m (suc left) cubes pending → Holds m left cubes pending
waits m left cubes pending holds = record { given = holds.given; pending_few = less_left m left pending holds.pending_few; count = holds.count; room = omega (arith, holds.room) }

all_push : (P : Cube → Type 0) (cubes : List Cube) (cube : Cube) → AllByRecursion P cubes → P cube → AllByRecursion P (cubes ++ cube ∷ [])
all_push P [] cube all p = (p, tt)
all_push P (first ∷ cubes) cube all p = (all.0, all_push P cubes cube all.1 p)

cell_left : (m left : ℕ) (cube : Cube) (found : Option InstanceId) (bit : Bool) → length cube.cells + suc left ≤ m → length (with_cell cube found bit).cells + left ≤ m
cell_left m left cube None bit few = omega arith
cell_left m left cube (Some cell) bit few = let more = length-append cube.cells ((cell, bit) ∷ []) in omega arith

port_left : (m left : ℕ) (cube : Cube) (found : Option NetId) (bit : Bool) → length cube.cells + suc left ≤ m → length (with_port cube found bit).cells + left ≤ m
port_left m left cube None bit few = omega arith
port_left m left cube (Some port) bit few = omega arith

third_fails : (a b c : Bool) (x y z : CubeError) → (if a then Some x else if b then Some y else if c then Some z else None) ≡ None → c ≡ false
third_fails true b c x y z e = absurd (let f : ⊥ = cc in f)
third_fails false true c x y z e = absurd (let f : ⊥ = cc in f)
third_fails false false true x y z e = absurd (let f : ⊥ = cc in f)
third_fails false false false x y z e = refl

-- ---- one line

-- a cube begins, which is not one too many
begins_few : (m left : ℕ) (config : Config) (cubes : List Cube) (place : Place) (name clock first : Text) (second : Option ℕ) → begin_refusal config cubes place name clock ≡ None → Holds m (suc left) cubes None →
    Holds m left cubes (Some (begun config name first second))
begins_few m left config cubes place name clock first second passed holds =
    let more : nat_le MAX_CUBES (length cubes) ≡ false = third_fails (is_none (domain_named config clock)) (has_name (names_of cubes) name) (nat_le MAX_CUBES (length cubes)) (Q4 place clock) (Q5 place name) (Q9 place) passed in
    let less = leb-false MAX_CUBES (length cubes) more in
    record { given = holds.given; pending_few = omega (arith, holds.room); count = omega (arith, less); room = omega (arith, holds.room) }

-- so it is where both clocks are tested
second_passes : (a : Bool) (x : CubeError) (later : Option CubeError) → (if a then Some x else later) ≡ None → later ≡ None
second_passes true x later e = absurd (let f : ⊥ = cc in f)
second_passes false x later e = e

begins_two : (m left : ℕ) (config : Config) (cubes : List Cube) (place : Place) (name clock second : Text) (b : Bool) →
    (if b then (if is_none (domain_named config clock) then Some (Q4 place clock) else begin_refusal config cubes place name second) else Some (Q1 place)) ≡ None → Holds m (suc left) cubes None →
    Holds m left cubes (Some (begun config name clock (domain_named config second)))
begins_two m left config cubes place name clock second false passed holds = absurd (let f : ⊥ = cc in f)
begins_two m left config cubes place name clock second true passed holds =
    begins_few m left config cubes place name second clock (domain_named config second) (second_passes (is_none (domain_named config clock)) (Q4 place clock) (begin_refusal config cubes place name second) passed) holds

said_few : (m left : ℕ) (n : Netlist) (config : Config) (version : Option ℕ) (cubes : List Cube) (pending : Option Cube) (place : Place) (line : Option Line) → said_refusal n config version cubes pending place line ≡ None →
    Holds m (suc left) cubes pending → Holds m left (with_said n config version cubes pending line).cubes (with_said n config version cubes pending line).pending
said_few m left n config version cubes None place None passed holds = absurd (let f : ⊥ = cc in f)
said_few m left n config version cubes None place (Some (Version number)) passed holds = waits m left cubes None holds
said_few m left n config version cubes None place (Some (Begin name clock)) passed holds = begins_few m left config cubes place name clock clock None passed holds
said_few m left n config version cubes None place (Some (BeginTwo name clock second)) passed holds = begins_two m left config cubes place name clock second (or_first version == 2) passed holds
said_few m left n config version cubes None place (Some (SetCell name bit)) passed holds = absurd (let f : ⊥ = cc in f)
said_few m left n config version cubes None place (Some (SetPort name bit)) passed holds = absurd (let f : ⊥ = cc in f)
said_few m left n config version cubes None place (Some End) passed holds = absurd (let f : ⊥ = cc in f)
said_few m left n config version cubes (Some cube) place None passed holds = absurd (let f : ⊥ = cc in f)
said_few m left n config version cubes (Some cube) place (Some (Version number)) passed holds = absurd (let f : ⊥ = cc in f)
said_few m left n config version cubes (Some cube) place (Some (Begin name clock)) passed holds = absurd (let f : ⊥ = cc in f)
said_few m left n config version cubes (Some cube) place (Some (BeginTwo name clock second)) passed holds = absurd (let f : ⊥ = cc in f)
said_few m left n config version cubes (Some cube) place (Some (SetCell name bit)) passed holds = record {
  given = holds.given;
  pending_few = cell_left m left cube (flip_flop_named n name) bit holds.pending_few;
  count = holds.count;
  room = omega (arith, holds.room);
}
said_few m left n config version cubes (Some cube) place (Some (SetPort name bit)) passed holds = record {
  given = holds.given;
  pending_few = port_left m left cube (input_net n name) bit holds.pending_few;
  count = holds.count;
  room = omega (arith, holds.room);
}
said_few m left n config version cubes (Some cube) place (Some End) passed holds =
    let more = length-append cubes (cube ∷ []) in record {
      given = all_push (Few m) cubes cube holds.given (omega (arith, holds.pending_few));
      pending_few = tt;
      count = omega (arith, holds.count);
      room = omega (arith, holds.room);
    }

line_few : (m left : ℕ) (n : Netlist) (config : Config) (r : Reading) (place : Place) (words : List Text) → line_refusal n config r place words ≡ None →
    Holds m (suc left) r.cubes r.pending → Holds m left (with_line n config r words).cubes (with_line n config r words).pending
line_few m left n config r place [] passed holds = waits m left r.cubes r.pending holds
line_few m left n config r place (word ∷ words) passed holds = said_few m left n config r.version r.cubes r.pending place (line_of (word ∷ words)) (printed_passes (are_printed (word ∷ words)) _ _ passed) holds

-- ---- the text

record AreBelow (m : ℕ) (given : List Cube) : Type 0 where
  count : length given ≤ MAX_CUBES
  cells : AllByRecursion (Few m) given

ended_few : (m number : ℕ) (cubes : List Cube) (pending : Option Cube) (given : List Cube) → ended number cubes pending ≡ Ok given → Holds m 0 cubes pending → AreBelow m given
ended_few m number cubes None given e holds = subst (AreBelow m) (ok_is cubes given e) (record { count = omega (arith, holds.count); cells = holds.given })
ended_few m number cubes (Some cube) given e holds = absurd (let f : ⊥ = cc in f)

all_few : (m : ℕ) (n : Netlist) (config : Config) (r : Reading) (number : ℕ) (lines : List Text) (given : List Cube) → cubes_from n config r number lines ≡ Ok given → Holds m (length lines) r.cubes r.pending → AreBelow m given
unfolding cubes_from
all_few m n config r number [] given e holds = ended_few m number r.cubes r.pending given e holds
all_few m n config r number (line ∷ lines) given e holds =
    let parts = both_pass (line_refusal n config r (place_of_line (suc number)) (words_of line)) (cubes_from n config (with_line n config r (words_of line)) (suc number) lines) given e in
    all_few m n config (with_line n config r (words_of line)) (suc number) lines given parts.1 (line_few m (length lines) n config r (place_of_line (suc number)) (words_of line) parts.0 holds)

below : (P Q : Cube → Type 0) (cubes : List Cube) → ((cube : Cube) → P cube → Q cube) → AllByRecursion P cubes → AllByRecursion Q cubes
below P Q [] f all = tt
below P Q (cube ∷ cubes) f all = (f cube all.0, below P Q cubes f all.1)

pub cubes_few : (n : Netlist) (config : Config) (text : Text) (given : List Cube) → length text ≤ MAX_CUBE_BYTES → cubes_of n config text ≡ Ok given → AreFew given
cubes_few n config text given short told =
    let lines = lines_of text in
    let is = all_few (length lines) n config (record { version = None; cubes = []; pending = None }) 0 lines given told (record { given = tt; pending_few = tt; count = omega arith; room = omega arith }) in
    let few : length lines ≤ suc (length text) = lines_few text in
    let small : (cube : Cube) → Few (length lines) cube → length cube.cells < 2 ^ 32 = λ cube h. omega (arith, h, few, short) in
    record { count = omega (arith, is.count); cells = All-from_recursion (λ cube. length cube.cells < 2 ^ 32) given (below (Few (length lines)) (λ cube. length cube.cells < 2 ^ 32) given small is.cells) }
