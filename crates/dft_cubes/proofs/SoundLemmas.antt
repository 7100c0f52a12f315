-- The cubes of every text are sound: what is added was not there.
use Rattle.std.proofs.Common.{ℕ, zero, suc, ◌≡◌, ◌<◌, ◌==◌, ◌||◌, ◌⊎◌, inl, inr, Bool, true, false, List, [], ◌∷◌, ◌++◌, length, Option, None, Some, is_none, option_and_then, slice_get, Result, Ok, refl, sym, subst, ap, ◌∙◌}
use Rattle.std.specs.Prelude.{IsSome, if◌then◌else◌}
use Rattle.std.specs.List.{AllByRecursion, list_any}
use Rattle.std.specs.Str.{bytes_eq}
use Rattle.std.proofs.lemmas.List.Quantifiers.{position-Some}
use Rattle.std.proofs.lemmas.Slice.Eq.{bytes_eq-Decides}
use Rattle.std.proofs.lemmas.Bool.{or_parts, eq-eqb}
use Rattle.std.proofs.lemmas.Option.{same_Some}
use Rattle.dft_base.specs.Lexing.{Text}
use Rattle.dft_base.specs.declared.place.Place.{Place}
use Rattle.dft_base.proofs.BitLemmas.{true_false}
use Rattle.dft_cells.specs.WellFormed.{has_name}
use Rattle.dft_config.specs.Config.{Config}
use Rattle.dft_netlist.specs.declared.ids.NetId.{NetId}
use Rattle.dft_netlist.specs.declared.ids.InstanceId.{InstanceId}
use Rattle.dft_netlist.specs.Netlist.{Netlist}
use Rattle.dft_netlist.specs.Drivers.{driver}
use Rattle.dft_netlist.specs.Connections.{input_net, is_input}
use Rattle.dft_netlist.specs.Names.{instance_name}
use Rattle.dft_netlist.proofs.LookUpLemmas.{net_there}
use Rattle.dft_rules.specs.ConfigPorts.{config_ports}
use Rattle.dft_rules.specs.Rules.{flip_flop_named}
use Rattle.dft_rules.proofs.NameLemmas.{flip_flop_there}
use Rattle.dft_rules.proofs.NamedPorts.{input_there, not_among}
use Rattle.dft_word_lines.specs.Lines.{are_printed, lines_of, words_of}
use Rattle.dft_cubes.specs.declared.cube.Cube.{Cube}
use Rattle.dft_cubes.specs.declared.error.CubeError.{CubeError}
use Rattle.dft_cubes.specs.declared.error.CubeError.TheVariants.{Q1, Q4}
use Rattle.dft_cubes.specs.Domains.{listed}
use Rattle.dft_cubes.specs.Cubes.{Line, Version, Begin, BeginTwo, SetCell, SetPort, End, Reading, begin_refusal, begun, cell_refusal, cubes_from, cubes_of, domain_named, ended, held, is_among, line_of, line_refusal, names_of, or_first, or_refused, or_zero, place_of_line, port_refusal, said_refusal, with_cell, with_line, with_port, with_said}
use Rattle.dft_cubes.specs.Laws.{AreCubes, IsCube}
use Rattle.dft_cubes.proofs.CellNames.{has_name_of}

-- ---- one more at the end of a list

one_later : {A : Type 0} (y x a : A) (xs : List A) (j : ℕ) → (slice_get xs j ≡ Some a) ⊎ ((j ≡ length xs) × (a ≡ x)) → (slice_get (y ∷ xs) (suc j) ≡ Some a) ⊎ ((suc j ≡ length (y ∷ xs)) × (a ≡ x))
one_later y x a xs j (inl e) = inl e
one_later y x a xs j (inr e) = inr (ap suc e.0, e.1)

before_or_last : {A : Type 0} (xs : List A) (x a : A) (j : ℕ) → slice_get (xs ++ x ∷ []) j ≡ Some a → (slice_get xs j ≡ Some a) ⊎ ((j ≡ length xs) × (a ≡ x))
before_or_last [] x a zero e = inr (refl, sym (same_Some x a e))
before_or_last [] x a (suc j) e = absurd (let f : ⊥ = cc in f)
before_or_last (y ∷ xs) x a zero e = inl e
before_or_last (y ∷ xs) x a (suc j) e = one_later y x a xs j (before_or_last xs x a j e)

own_by : {A K : Type 0} (key : A → K) (xs : List A) (x : A) → ((j k : ℕ) (a b : A) → slice_get xs j ≡ Some a → slice_get xs k ≡ Some b → key a ≡ key b → j ≡ k) →
    ((j : ℕ) (a : A) → slice_get xs j ≡ Some a → key a ≡ key x → ⊥) → (j k : ℕ) (a b : A) → (slice_get xs j ≡ Some a) ⊎ ((j ≡ length xs) × (a ≡ x)) →
    (slice_get xs k ≡ Some b) ⊎ ((k ≡ length xs) × (b ≡ x)) → key a ≡ key b → j ≡ k
own_by key xs x own new j k a b (inl p) (inl q) same = own j k a b p q same
own_by key xs x own new j k a b (inl p) (inr q) same = absurd (new j a p (same ∙ ap key q.1))
own_by key xs x own new j k a b (inr p) (inl q) same = absurd (new k b q (sym same ∙ ap key p.1))
own_by key xs x own new j k a b (inr p) (inr q) same = p.0 ∙ sym q.0

own_push : {A K : Type 0} (key : A → K) (xs : List A) (x : A) → ((j k : ℕ) (a b : A) → slice_get xs j ≡ Some a → slice_get xs k ≡ Some b → key a ≡ key b → j ≡ k) →
    ((j : ℕ) (a : A) → slice_get xs j ≡ Some a → key a ≡ key x → ⊥) → (j k : ℕ) (a b : A) → slice_get (xs ++ x ∷ []) j ≡ Some a → slice_get (xs ++ x ∷ []) k ≡ Some b → key a ≡ key b → j ≡ k
own_push key xs x own new j k a b at_j at_k same = own_by key xs x own new j k a b (before_or_last xs x a j at_j) (before_or_last xs x b k at_k) same

each_by : {A : Type 0} (P : A → Type 0) (xs : List A) (x : A) → ((k : ℕ) (a : A) → slice_get xs k ≡ Some a → P a) → P x → (k : ℕ) (a : A) → (slice_get xs k ≡ Some a) ⊎ ((k ≡ length xs) × (a ≡ x)) → P a
each_by P xs x each last k a (inl p) = each k a p
each_by P xs x each last k a (inr p) = subst P (sym p.1) last

each_push : {A : Type 0} (P : A → Type 0) (xs : List A) (x : A) → ((k : ℕ) (a : A) → slice_get xs k ≡ Some a → P a) → P x → (k : ℕ) (a : A) → slice_get (xs ++ x ∷ []) k ≡ Some a → P a
each_push P xs x each last k a at_k = each_by P xs x each last k a (before_or_last xs x a k at_k)

nothing_at : {A : Type 0} (j : ℕ) (a : A) → slice_get [] j ≡ Some a → ⊥
nothing_at zero a e = let f : ⊥ = cc in f
nothing_at (suc j) a e = let f : ⊥ = cc in f

-- ---- what is not there

none_has : {A : Type 0} (test : A → Bool) (xs : List A) → list_any test xs ≡ false → (j : ℕ) (a : A) → slice_get xs j ≡ Some a → test a ≡ true → ⊥
none_has test [] none j a there holds = nothing_at j a there
none_has test (x ∷ xs) none zero a there holds = true_false (test x) (ap test (same_Some x a there) ∙ holds) (or_parts (test x) (list_any test xs) none).0
none_has test (x ∷ xs) none (suc j) a there holds = none_has test xs (or_parts (test x) (list_any test xs) none).1 j a there holds

none_named : (cubes : List Cube) (name : Text) → has_name (names_of cubes) name ≡ false → (j : ℕ) (a : Cube) → slice_get cubes j ≡ Some a → a.name ≡ name → ⊥
none_named [] name none j a there same = nothing_at j a there
none_named (c ∷ cubes) name none zero a there same =
    true_false (bytes_eq c.name name) ((bytes_eq-Decides c.name name).1 (ap (λ (cube : Cube). cube.name) (same_Some c a there) ∙ same)) (or_parts (bytes_eq c.name name) (has_name (names_of cubes) name) none).0
none_named (c ∷ cubes) name none (suc j) a there same = none_named cubes name (or_parts (bytes_eq c.name name) (has_name (names_of cubes) name) none).1 j a there same

-- ---- checks that pass

one_passes : (a : Bool) (x : CubeError) (later : Option CubeError) → (if a then Some x else later) ≡ None → (a ≡ false) × (later ≡ None)
one_passes true x later e = absurd (let f : ⊥ = cc in f)
one_passes false x later e = (refl, e)

pub printed_passes : (t : Bool) (fault : Option CubeError) (x : CubeError) → (if t then fault else Some x) ≡ None → fault ≡ None
printed_passes true fault x e = e
printed_passes false fault x e = absurd (let f : ⊥ = cc in f)

-- ---- what has been read is sound

abbrev IsPending : Netlist → Config → List Cube → Option Cube → Type 0
IsPending n config cubes None = Unit {0}
IsPending n config cubes (Some cube) = IsCube n config cube × (has_name (names_of cubes) cube.name ≡ false)

record Kept (n : Netlist) (config : Config) (r : Reading) : Type 0 where
  cubes : AreCubes n config r.cubes
  pending : IsPending n config r.cubes r.pending

-- a cube begins
domain_less : (config : Config) (clock : Text) (d : Option ℕ) → domain_named config clock ≡ d → is_none d ≡ false → or_zero d < length config.domains
domain_less config clock None is some = absurd (let f : ⊥ = cc in f)
domain_less config clock (Some k) is some = (position-Some (λ (name : Text). bytes_eq name clock) config.domains k [] is).0

-- a second clock is a domain
listed_less : (config : Config) (clock : Text) (d : Option ℕ) → domain_named config clock ≡ d → AllByRecursion (λ domain. domain < length config.domains) (listed d)
listed_less config clock None is = tt
listed_less config clock (Some k) is = (domain_less config clock (Some k) is refl, tt)

begun_sound : (n : Netlist) (config : Config) (name clock : Text) (second : Option ℕ) → is_none (domain_named config clock) ≡ false → AllByRecursion (λ domain. domain < length config.domains) (listed second) → IsCube n config (begun config name clock second)
begun_sound n config name clock second some later = record {
  domains = (domain_less config clock (domain_named config clock) refl some, later);
  cells = record { once = λ j k a b at_j at_k same. absurd (nothing_at j a at_j); live = λ k a at_k. absurd (nothing_at k a at_k); named = λ k a at_k. absurd (nothing_at k a at_k) };
  ports = record {
    once = λ j k a b at_j at_k same. absurd (nothing_at j a at_j);
    live = λ k a at_k. absurd (nothing_at k a at_k);
    input = λ k a at_k. absurd (nothing_at k a at_k);
    no_clock = λ k a at_k. absurd (nothing_at k a at_k);
    no_reset = λ k a at_k. absurd (nothing_at k a at_k);
  };
}

-- a cell and a port are given
with_cell_sound : (n : Netlist) (config : Config) (cubes : List Cube) (cube : Cube) (place : Place) (name : Text) (bit : Bool) (found : Option InstanceId) → flip_flop_named n name ≡ found →
    cell_refusal cube place name found ≡ None → IsPending n config cubes (Some cube) → IsPending n config cubes (Some (with_cell cube found bit))
with_cell_sound n config cubes cube place name bit None is passed pending = absurd (let f : ⊥ = cc in f)
with_cell_sound n config cubes cube place name bit (Some cell) is passed pending =
    let test = λ (g : InstanceId × Bool). g.0.0 == cell.0 in
    let absent : list_any test cube.cells ≡ false = (one_passes (list_any test cube.cells) _ None passed).0 in (
      record {
        domains = pending.0.domains;
        cells = record {
          once = own_push (λ (g : InstanceId × Bool). g.0.0) cube.cells (cell, bit) pending.0.cells.once (λ j a there same. none_has test cube.cells absent j a there (eq-eqb a.0.0 cell.0 same));
          live = each_push (λ (g : InstanceId × Bool). g.0.0 < length n.instances) cube.cells (cell, bit) pending.0.cells.live (flip_flop_there n name cell is);
          named = each_push (λ (g : InstanceId × Bool). IsSome (option_and_then instance_name (slice_get n.instances g.0.0))) cube.cells (cell, bit) pending.0.cells.named (has_name_of n name cell is);
        };
        ports = pending.0.ports;
      },
      pending.1,
    )

with_port_sound : (n : Netlist) (config : Config) (cubes : List Cube) (cube : Cube) (place : Place) (name : Text) (bit : Bool) (found : Option NetId) → input_net n name ≡ found →
    port_refusal config cube place name found ≡ None → IsPending n config cubes (Some cube) → IsPending n config cubes (Some (with_port cube found bit))
with_port_sound n config cubes cube place name bit None is passed pending = absurd (let f : ⊥ = cc in f)
with_port_sound n config cubes cube place name bit (Some port) is passed pending =
    let test = λ (g : NetId × Bool). g.0.0 == port.0 in
    let first = one_passes (list_any test cube.ports) _ _ passed in
    let absent : list_any test cube.ports ≡ false = first.0 in
    let apart = or_parts (is_among config.domains name) (is_among config.resets name) (one_passes (is_among config.domains name || is_among config.resets name) _ _ first.1).0 in
    let there = input_there n name port is in (
      record {
        domains = pending.0.domains;
        cells = pending.0.cells;
        ports = record {
          once = own_push (λ (g : NetId × Bool). g.0.0) cube.ports (port, bit) pending.0.ports.once (λ j a there same. none_has test cube.ports absent j a there (eq-eqb a.0.0 port.0 same));
          live = each_push (λ (g : NetId × Bool). g.0.0 < length n.nets) cube.ports (port, bit) pending.0.ports.live (net_there n name port there.0);
          input = each_push (λ (g : NetId × Bool). is_input (driver n g.0.0) ≡ true) cube.ports (port, bit) pending.0.ports.input there.1;
          no_clock = each_push (λ (g : NetId × Bool). (config_ports n config).is_clock g.0.0 ≡ false) cube.ports (port, bit) pending.0.ports.no_clock (not_among n config.domains name port is apart.0);
          no_reset = each_push (λ (g : NetId × Bool). (config_ports n config).is_reset g.0.0 ≡ false) cube.ports (port, bit) pending.0.ports.no_reset (not_among n config.resets name port is apart.1);
        };
      },
      pending.1,
    )

-- a cube with two clocks begins
two_sound : (n : Netlist) (config : Config) (version : Option ℕ) (cubes : List Cube) (place : Place) (name clock second : Text) (b : Bool) →
    (if b then (if is_none (domain_named config clock) then Some (Q4 place clock) else begin_refusal config cubes place name second) else Some (Q1 place)) ≡ None → AreCubes n config cubes →
    Kept n config (record { version = held version; cubes = cubes; pending = Some (begun config name clock (domain_named config second)) })
two_sound n config version cubes place name clock second false passed sound = absurd (let f : ⊥ = cc in f)
two_sound n config version cubes place name clock second true passed sound =
    let first = one_passes (is_none (domain_named config clock)) _ _ passed in
    let other = one_passes (is_none (domain_named config second)) _ _ first.1 in
    record {
      cubes = sound;
      pending = (begun_sound n config name clock (domain_named config second) first.0 (listed_less config second (domain_named config second) refl), (one_passes (has_name (names_of cubes) name) _ _ other.1).0);
    }

-- what a line says
said_sound : (n : Netlist) (config : Config) (version : Option ℕ) (cubes : List Cube) (pending : Option Cube) (place : Place) (line : Option Line) → said_refusal n config version cubes pending place line ≡ None →
    AreCubes n config cubes → IsPending n config cubes pending → Kept n config (with_said n config version cubes pending line)
said_sound n config version cubes None place None passed sound pending = absurd (let f : ⊥ = cc in f)
said_sound n config version cubes None place (Some (Begin name clock)) passed sound pending =
    let none = is_none (domain_named config clock) in
    let first : (none ≡ false) × (_ ≡ None) = one_passes none _ _ passed in
    record { cubes = sound; pending = (begun_sound n config name clock None first.0 tt, (one_passes (has_name (names_of cubes) name) _ _ first.1).0) }
said_sound n config version cubes None place (Some (Version number)) passed sound pending = record { cubes = sound; pending = tt }
said_sound n config version cubes None place (Some (BeginTwo name clock second)) passed sound pending =
    two_sound n config version cubes place name clock second (or_first version == 2) passed sound
said_sound n config version cubes None place (Some (SetCell name bit)) passed sound pending = absurd (let f : ⊥ = cc in f)
said_sound n config version cubes None place (Some (SetPort name bit)) passed sound pending = absurd (let f : ⊥ = cc in f)
said_sound n config version cubes None place (Some End) passed sound pending = absurd (let f : ⊥ = cc in f)
said_sound n config version cubes (Some cube) place None passed sound pending = absurd (let f : ⊥ = cc in f)
said_sound n config version cubes (Some cube) place (Some (Version number)) passed sound pending = absurd (let f : ⊥ = cc in f)
said_sound n config version cubes (Some cube) place (Some (Begin name clock)) passed sound pending = absurd (let f : ⊥ = cc in f)
said_sound n config version cubes (Some cube) place (Some (BeginTwo name clock second)) passed sound pending = absurd (let f : ⊥ = cc in f)
said_sound n config version cubes (Some cube) place (Some (SetCell name bit)) passed sound pending =
    record { cubes = sound; pending = with_cell_sound n config cubes cube place name bit (flip_flop_named n name) refl passed pending }
said_sound n config version cubes (Some cube) place (Some (SetPort name bit)) passed sound pending =
    record { cubes = sound; pending = with_port_sound n config cubes cube place name bit (input_net n name) refl passed pending }
said_sound n config version cubes (Some cube) place (Some End) passed sound pending = record {
  cubes = record {
    names = own_push (λ (c : Cube). c.name) cubes cube sound.names (λ j a there same. none_named cubes cube.name pending.1 j a there same);
    each = each_push (IsCube n config) cubes cube sound.each pending.0;
  };
  pending = tt;
}

line_sound : (n : Netlist) (config : Config) (r : Reading) (place : Place) (words : List Text) → line_refusal n config r place words ≡ None → Kept n config r → Kept n config (with_line n config r words)
line_sound n config r place [] passed kept = kept
line_sound n config r place (word ∷ words) passed kept =
    said_sound n config r.version r.cubes r.pending place (line_of (word ∷ words)) (printed_passes (are_printed (word ∷ words)) _ _ passed) kept.cubes kept.pending

-- the text
pub ok_is : (cubes told : List Cube) → ◌≡◌ {A = Result (List Cube) CubeError} (Ok cubes) (Ok told) → cubes ≡ told
ok_is cubes told e = cc

ended_sound : (n : Netlist) (config : Config) (number : ℕ) (cubes : List Cube) (pending : Option Cube) (told : List Cube) → ended number cubes pending ≡ Ok told → AreCubes n config cubes → AreCubes n config told
ended_sound n config number cubes None told e sound = subst (AreCubes n config) (ok_is cubes told e) sound
ended_sound n config number cubes (Some cube) told e sound = absurd (let f : ⊥ = cc in f)

pub both_pass : (fault : Option CubeError) (later : Result (List Cube) CubeError) (told : List Cube) → or_refused fault later ≡ Ok told → (fault ≡ None) × (later ≡ Ok told)
both_pass None later told e = (refl, e)
both_pass (Some error) later told e = absurd (let f : ⊥ = cc in f)

lines_sound : (n : Netlist) (config : Config) (r : Reading) (number : ℕ) (lines : List Text) (told : List Cube) → cubes_from n config r number lines ≡ Ok told → Kept n config r → AreCubes n config told
unfolding cubes_from
lines_sound n config r number [] told e kept = ended_sound n config number r.cubes r.pending told e kept.cubes
lines_sound n config r number (line ∷ lines) told e kept =
    let parts = both_pass (line_refusal n config r (place_of_line (suc number)) (words_of line)) (cubes_from n config (with_line n config r (words_of line)) (suc number) lines) told e in
    lines_sound n config (with_line n config r (words_of line)) (suc number) lines told parts.1 (line_sound n config r (place_of_line (suc number)) (words_of line) parts.0 kept)

pub cubes_sound : (n : Netlist) (config : Config) (text : Text) (told : List Cube) → cubes_of n config text ≡ Ok told → AreCubes n config told
cubes_sound n config text told e = lines_sound n config (record { version = None; cubes = []; pending = None }) 0 (lines_of text) told e (record {
  cubes = record { names = λ j k a b at_j at_k same. absurd (nothing_at j a at_j); each = λ k a at_k. absurd (nothing_at k a at_k) };
  pending = tt;
})
