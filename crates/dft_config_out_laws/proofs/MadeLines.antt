-- The lines of a made configuration.
use Rattle.std.proofs.Common.{◌≡◌, ℕ, ◌+◌, ◌<◌, ◌^◌, List, [], ◌∷◌, ◌++◌, codes, decimal, Some, option_map, refl, sym, ◌∙◌, ap, subst, arith, append_assoc, append-nil}
use Rattle.std.specs.Fmt as fmt
use Rattle.std.specs.List.{AllByRecursion}
use Rattle.dft_base.specs.Lexing.{Text}
use Rattle.dft_base.specs.Name.{IsName}
use Rattle.toml.specs.Data.{Data, string}
use Rattle.toml.specs.Tables.{close, no_nodes}
use Rattle.toml.proofs.OnLiterals.{toml_on_literals}
use Rattle.toml.proofs.ReadLines.{run}
use Rattle.dft_config.specs.declared.config.CompactorConfig.{CompactorConfig}
use Rattle.dft_config.specs.declared.config.Injector.{Injector}
use Rattle.dft_config.specs.declared.config.PortNames.{PortNames}
use Rattle.dft_config.specs.declared.config.RingConfig.{RingConfig}
use Rattle.dft_config.specs.declared.config.Tap.{Tap}
use Rattle.dft_config_out.specs.declared.made.Made.{Made}
use Rattle.dft_config_out.specs.Written.{carrying_text, clocking_text, compactor_text, front_text, groups_text, head_text, injector_text, injectors_text, lists_text, loading_text, made_text, name_text, names_text, numbers_text, phase_text, ports_text, ring_text, scanning_text, sizes_text, steering_text, tap_text, taps_text, wires_text}
use Rattle.dft_config_out_laws.specs.Lists.{IsReadAs}
use Rattle.dft_config_out_laws.specs.Tables.{injector_numbers, injectors_data, lists_data, names_data, number_data, numbers_data, table_of, tap_numbers, taps_data}
use Rattle.dft_config_out_laws.proofs.ItemRead.{items_read}
use Rattle.dft_config_out_laws.proofs.ListRead.{list_read}
use Rattle.dft_config_out_laws.proofs.Low.{IsLow, digits_low, list_low, name_low}
use Rattle.dft_config_out_laws.proofs.Pieces.{Piece, all_expressions, all_text, header_piece, nested, pair_piece, pair_pieces, pairs_nested}

-- ---- values, each read as it is, of low bytes

abbrev pub IsGiven : Text → Data → Type 0
IsGiven text d = IsReadAs 80 text d × IsLow text

pub each : {X : Type 0} (P Q : X → Type 0) (xs : List X) → ((x : X) → P x → Q x) → AllByRecursion P xs → AllByRecursion Q xs
each P Q [] next all = tt
each P Q (x ∷ xs) next all = (next x all.0, each P Q xs next all.1)

pub number_given : (n : ℕ) → n < 2 ^ 63 → IsGiven (decimal n) (number_data n)
number_given n less = (items_read.0 80 n less, digits_low n (omega arith))

pub name_given : (name : Text) → IsName name → IsGiven (name_text name) (string name)
name_given name is = (items_read.1 80 name is, name_low name is)

pub names_given : (names : List Text) → AllByRecursion IsName names → IsGiven (names_text names) (names_data names)
names_given names all = (
  list_read 79 name_text string names (each IsName (λ name. IsReadAs 79 (name_text name) (string name)) names (λ name is. items_read.1 79 name is) all),
  list_low name_text names (each IsName (λ name. IsLow (name_text name)) names name_low all),
)

abbrev pub AreSmall : List ℕ → Type 0
AreSmall numbers = AllByRecursion (λ n. n < 2 ^ 63) numbers

numbers_read : (numbers : List ℕ) → AreSmall numbers → IsReadAs 79 (numbers_text numbers) (numbers_data numbers)
numbers_read numbers all = list_read 78 decimal number_data numbers (each (λ n. n < 2 ^ 63) (λ n. IsReadAs 78 (decimal n) (number_data n)) numbers (λ n less. items_read.0 78 n less) all)

numbers_low : (numbers : List ℕ) → AreSmall numbers → IsLow (numbers_text numbers)
numbers_low numbers all = list_low decimal numbers (each (λ n. n < 2 ^ 63) (λ n. IsLow (decimal n)) numbers (λ n less. digits_low n (omega arith)) all)

pub lists_given : (lists : List (List ℕ)) → AllByRecursion AreSmall lists → IsGiven (lists_text lists) (lists_data lists)
lists_given lists all = (
  list_read 79 numbers_text numbers_data lists (each AreSmall (λ numbers. IsReadAs 79 (numbers_text numbers) (numbers_data numbers)) lists numbers_read all),
  list_low numbers_text lists (each AreSmall (λ numbers. IsLow (numbers_text numbers)) lists numbers_low all),
)

pub taps_given : (taps : List Tap) → AllByRecursion (λ tap. AreSmall (tap_numbers tap)) taps → IsGiven (taps_text taps) (taps_data taps)
taps_given taps all = (
  list_read 79 tap_text (λ tap. numbers_data (tap_numbers tap)) taps
      (each (λ tap. AreSmall (tap_numbers tap)) (λ tap. IsReadAs 79 (tap_text tap) (numbers_data (tap_numbers tap))) taps (λ tap small. numbers_read (tap_numbers tap) small) all),
  list_low tap_text taps (each (λ tap. AreSmall (tap_numbers tap)) (λ tap. IsLow (tap_text tap)) taps (λ tap small. numbers_low (tap_numbers tap) small) all),
)

pub injectors_given : (injectors : List Injector) → AllByRecursion (λ injector. AreSmall (injector_numbers injector)) injectors → IsGiven (injectors_text injectors) (injectors_data injectors)
injectors_given injectors all = (
  list_read 79 injector_text (λ injector. numbers_data (injector_numbers injector)) injectors
      (each (λ injector. AreSmall (injector_numbers injector)) (λ injector. IsReadAs 79 (injector_text injector) (numbers_data (injector_numbers injector))) injectors (λ injector small. numbers_read (injector_numbers injector) small) all),
  list_low injector_text injectors (each (λ injector. AreSmall (injector_numbers injector)) (λ injector. IsLow (injector_text injector)) injectors (λ injector small. numbers_low (injector_numbers injector) small) all),
)

-- the digits of literals
one_is : decimal 1 ≡ codes "1"
unfolding fmt.digits
one_is = refl

sixteen_is : decimal 16 ≡ codes "16"
unfolding fmt.digits
sixteen_is = refl

pub one_given : IsGiven (codes "1") (number_data 1)
one_given = subst (λ (t : Text). IsGiven t (number_data 1)) one_is (number_given 1 (omega arith))

pub sixteen_given : IsGiven (codes "16") (number_data 16)
sixteen_given = subst (λ (t : Text). IsGiven t (number_data 16)) sixteen_is (number_given 16 (omega arith))

-- ---- their lines

abbrev Pairs : Type 0
Pairs = List (Text × (Text × Data))

abbrev pub top_pairs : Made → Pairs
top_pairs made =
    (codes "version", (codes "1", number_data 1))
    ∷ (codes "domains", (names_text made.domains, names_data made.domains))
    ∷ (codes "resets", (names_text made.resets, names_data made.resets))
    ∷ (codes "chains", (decimal made.chains, number_data made.chains))
    ∷ (codes "warm", (decimal made.warm, number_data made.warm))
    ∷ (codes "window", (codes "16", number_data 16))
    ∷ (codes "fill", (name_text (codes "seed"), string (codes "seed")))
    ∷ (codes "seed", (codes "1", number_data 1))
    ∷ []

abbrev pub ring_pairs : RingConfig → Pairs
ring_pairs ring =
    (codes "stages", (decimal ring.stages, number_data ring.stages))
    ∷ (codes "channels", (decimal ring.channels, number_data ring.channels))
    ∷ (codes "taps", (taps_text ring.taps, taps_data ring.taps))
    ∷ (codes "injectors", (injectors_text ring.injectors, injectors_data ring.injectors))
    ∷ (codes "phase", (lists_text ring.phase, lists_data ring.phase))
    ∷ []

abbrev pub compactor_pairs : CompactorConfig → Pairs
compactor_pairs compactor = (codes "groups", (lists_text compactor.groups, lists_data compactor.groups)) ∷ (codes "mask_inputs", (decimal compactor.mask_inputs, number_data compactor.mask_inputs)) ∷ []

abbrev port_pair : (key name : Text) → Text × (Text × Data)
port_pair key name = (key, (name_text name, string name))

abbrev pub port_pairs : PortNames → Pairs
port_pairs names =
    port_pair (codes "scan_enable") names.scan_enable
    ∷ port_pair (codes "edt_clock") names.edt_clock
    ∷ port_pair (codes "edt_update") names.edt_update
    ∷ port_pair (codes "channel") names.channel
    ∷ port_pair (codes "mask") names.mask
    ∷ port_pair (codes "output") names.output
    ∷ port_pair (codes "scan_in") names.scan_in
    ∷ port_pair (codes "scan_out") names.scan_out
    ∷ []

abbrev pub section : (name : Text) → Pairs → List Piece
section name pairs = header_piece name ∷ pair_pieces pairs

abbrev pub pieces_of : Made → List Piece
pieces_of made = pair_pieces (top_pairs made) ++ (section (codes "ring") (ring_pairs made.ring) ++ (section (codes "compactor") (compactor_pairs made.compactor) ++ section (codes "names") (port_pairs made.names)))

all_text-append : (a b : List Piece) → all_text (a ++ b) ≡ all_text a ++ all_text b
all_text-append [] b = refl
all_text-append (p ∷ a) b = ap (λ (t : Text). p.0 ++ t) (all_text-append a b) ∙ sym (append_assoc p.0 (all_text a) (all_text b))

top_flat : (a d b r c n e w f : Text) → ((a ++ d) ++ (b ++ r)) ++ ((c ++ n) ++ ((e ++ w) ++ f)) ≡ a ++ (d ++ (b ++ (r ++ (c ++ (n ++ (e ++ (w ++ f)))))))
top_flat a d b r c n e w f = simp append_assoc refl

top_same : (made : Made) → clocking_text made ++ loading_text made ≡ nested (top_pairs made)
unfolding clocking_text loading_text
top_same made =
    top_flat (codes "version = 1\ndomains = ") (names_text made.domains) (codes "\nresets = ") (names_text made.resets) (codes "\nchains = ") (decimal made.chains) (codes "\nwarm = ") (decimal made.warm)
    (codes "\nwindow = 16\nfill = \"seed\"\nseed = 1\n")

ring_flat : (a s b c d t e i f p n : Text) → ((a ++ s) ++ (b ++ c)) ++ ((d ++ (t ++ (e ++ i))) ++ (f ++ (p ++ n))) ≡ a ++ (s ++ (b ++ (c ++ (d ++ (t ++ (e ++ (i ++ (f ++ (p ++ n)))))))))
ring_flat a s b c d t e i f p n = simp append_assoc refl

ring_same : (ring : RingConfig) → ring_text ring ≡ (header_piece (codes "ring")).0 ++ nested (ring_pairs ring)
unfolding ring_text sizes_text wires_text phase_text
ring_same ring =
    ring_flat (codes "\n[ring]\nstages = ") (decimal ring.stages) (codes "\nchannels = ") (decimal ring.channels) (codes "\ntaps = ") (taps_text ring.taps) (codes "\ninjectors = ") (injectors_text ring.injectors) (codes "\nphase = ")
    (lists_text ring.phase) (codes "\n")

compactor_flat : (a g b m n : Text) → (a ++ g) ++ ((b ++ m) ++ n) ≡ a ++ (g ++ (b ++ (m ++ n)))
compactor_flat a g b m n = simp append_assoc refl

compactor_same : (compactor : CompactorConfig) → compactor_text compactor ≡ (header_piece (codes "compactor")).0 ++ nested (compactor_pairs compactor)
unfolding compactor_text groups_text
compactor_same compactor = compactor_flat (codes "\n[compactor]\ngroups = ") (lists_text compactor.groups) (codes "\nmask_inputs = ") (decimal compactor.mask_inputs) (codes "\n")

eight_flat : (a b c d e f g h : Text) → (a ++ (b ++ c)) ++ ((d ++ (e ++ f)) ++ (g ++ h)) ≡ a ++ (b ++ (c ++ (d ++ (e ++ (f ++ (g ++ (h ++ [])))))))
eight_flat a b c d e f g h = simp (append_assoc, append-nil) refl

abbrev line_of : (key name : Text) → Text
line_of key name = (pair_piece key (name_text name) (string name)).0

ports_same : (names : PortNames) → ports_text names ≡ (header_piece (codes "names")).0 ++ all_text (pair_pieces (port_pairs names))
unfolding ports_text steering_text carrying_text scanning_text
ports_same names =
    eight_flat ((header_piece (codes "names")).0 ++ line_of (codes "scan_enable") names.scan_enable) (line_of (codes "edt_clock") names.edt_clock) (line_of (codes "edt_update") names.edt_update) (line_of (codes "channel") names.channel)
    (line_of (codes "mask") names.mask) (line_of (codes "output") names.output) (line_of (codes "scan_in") names.scan_in) (line_of (codes "scan_out") names.scan_out)

pub made_same : (cells : ℕ) (made : Made) → made_text cells made ≡ head_text cells made.chains ++ all_text (pieces_of made)
unfolding made_text front_text
made_same cells made =
    let top = pair_pieces (top_pairs made) in
    let ring = section (codes "ring") (ring_pairs made.ring) in
    let compactor = section (codes "compactor") (compactor_pairs made.compactor) in
    let ports = section (codes "names") (port_pairs made.names) in
    let rest = all_text-append ring (compactor ++ ports) ∙ ap (λ (t : Text). all_text ring ++ t) (all_text-append compactor ports) in
    let whole : all_text (pieces_of made) ≡ all_text top ++ (all_text ring ++ (all_text compactor ++ all_text ports)) = all_text-append top (ring ++ (compactor ++ ports)) ∙ ap (λ (t : Text). all_text top ++ t) rest in
    let top_is = top_same made ∙ sym (pairs_nested (top_pairs made)) in
    let ring_is : ring_text made.ring ≡ all_text ring = ring_same made.ring ∙ ap (λ (t : Text). (header_piece (codes "ring")).0 ++ t) (sym (pairs_nested (ring_pairs made.ring))) in
    let compactor_is : compactor_text made.compactor ≡ all_text compactor = compactor_same made.compactor ∙ ap (λ (t : Text). (header_piece (codes "compactor")).0 ++ t) (sym (pairs_nested (compactor_pairs made.compactor))) in
    append_assoc (head_text cells made.chains) (clocking_text made ++ loading_text made) (ring_text made.ring ++ (compactor_text made.compactor ++ ports_text made.names))
    ∙ (λ i. head_text cells made.chains ++ (top_is i ++ (ring_is i ++ (compactor_is i ++ ports_same made.names i))))
    ∙ ap (λ (t : Text). head_text cells made.chains ++ t) (sym whole)

-- ---- what they define

pub pieces_run : (made : Made) → option_map (λ doc. close doc.0) (run (no_nodes, []) (all_expressions (pieces_of made))) ≡ Some (table_of made)
unfolding toml_on_literals
pieces_run made = refl
