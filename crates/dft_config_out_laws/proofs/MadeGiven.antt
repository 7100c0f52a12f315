-- The lines of a made configuration are read, and are of low bytes.
use Rattle.std.proofs.Common.{◌≡◌, ℕ, ◌<◌, ◌≤◌, ◌^◌, List, [], ◌∷◌, ◌++◌, codes, refl, arith}
use Rattle.std.specs.List.{All, AllByRecursion}
use Rattle.std.proofs.lemmas.List.Elements.{All-from_recursion, recursion_from_All}
use Rattle.dft_base.specs.Lexing.{Text}
use Rattle.dft_base.specs.Name.{IsName}
use Rattle.toml_writer.specs.Text.{key_text}
use Rattle.toml.specs.Data.{Data}
use Rattle.dft_config.specs.declared.config.CompactorConfig.{CompactorConfig}
use Rattle.dft_config.specs.declared.config.Injector.{Injector}
use Rattle.dft_config.specs.declared.config.PortNames.{PortNames}
use Rattle.dft_config.specs.declared.config.RingConfig.{RingConfig}
use Rattle.dft_config.specs.declared.config.Tap.{Tap}
use Rattle.dft_config.specs.Range.{IsCompactorInRange, IsRingInRange, IsSet, names_of}
use Rattle.dft_config_out.specs.declared.made.Made.{Made}
use Rattle.dft_config_out_laws.specs.Tables.{IsWritable, injector_numbers, tap_numbers}
use Rattle.dft_config_out_laws.proofs.Low.{IsLow, both_low}
use Rattle.dft_config_out_laws.proofs.MadeLines.{AreSmall, IsGiven, compactor_pairs, each, injectors_given, lists_given, name_given, names_given, number_given, one_given, pieces_of, port_pairs, ring_pairs, section, sixteen_given, taps_given, top_pairs}
use Rattle.dft_config_out_laws.proofs.Pieces.{IsLine, Piece, header_is_line, header_piece, pair_is_line, pair_piece, pair_pieces}

-- ---- lines

abbrev pub IsGood : Piece → Type 0
IsGood piece = IsLine piece.0 piece.1 × IsLow piece.0

abbrev pub AllGood : List Piece → Type 0
AllGood pieces = AllByRecursion IsGood pieces

both_good : (a b : List Piece) → AllGood a → AllGood b → AllGood (a ++ b)
both_good [] b first second = second
both_good (p ∷ a) b first second = (first.0, both_good a b first.1 second)

pair_good : (key value : Text) (d : Data) → key_text key ≡ key → IsLow key → IsGiven value d → IsGood (pair_piece key value d)
pair_good key value d bare plain given =
    (pair_is_line key value d bare given.0, both_low key (codes " = " ++ (value ++ codes "\n")) plain (both_low (codes " = ") (value ++ codes "\n") refl (both_low value (codes "\n") given.1 refl)))

header_good : (key : Text) → key_text key ≡ key → IsLow key → IsGood (header_piece key)
header_good key bare plain = (header_is_line key bare, both_low (codes "\n[") (key ++ codes "]\n") refl (both_low key (codes "]\n") plain refl))

-- ---- numbers in range are small

sets_small : (bound : ℕ) (lists : List (List ℕ)) → bound < 2 ^ 63 → All (IsSet bound) lists → AllByRecursion AreSmall lists
sets_small bound lists less all =
    each (IsSet bound) AreSmall lists (λ numbers set. each (λ n. n < bound) (λ n. n < 2 ^ 63) numbers (λ n below. omega (arith, less, below)) (recursion_from_All (λ n. n < bound) numbers set.below))
    (recursion_from_All (IsSet bound) lists all)

taps_small : (bound : ℕ) (taps : List Tap) → bound < 2 ^ 63 → All (λ tap. (tap.from < bound) × (tap.to < bound)) taps → AllByRecursion (λ tap. AreSmall (tap_numbers tap)) taps
taps_small bound taps less all =
    each (λ tap. (tap.from < bound) × (tap.to < bound)) (λ tap. AreSmall (tap_numbers tap)) taps (λ tap below. ((let a = below.0 in omega (arith, less, a)), ((let b = below.1 in omega (arith, less, b)), tt)))
    (recursion_from_All (λ tap. (tap.from < bound) × (tap.to < bound)) taps all)

injectors_small : (channels stages : ℕ) (injectors : List Injector) → channels < 2 ^ 63 → stages < 2 ^ 63 → All (λ injector. (injector.channel < channels) × (injector.stage < stages)) injectors →
    AllByRecursion (λ injector. AreSmall (injector_numbers injector)) injectors
injectors_small channels stages injectors few less all =
    each (λ injector. (injector.channel < channels) × (injector.stage < stages)) (λ injector. AreSmall (injector_numbers injector)) injectors
    (λ injector below. ((let a = below.0 in omega (arith, few, a)), ((let b = below.1 in omega (arith, less, b)), tt)))
    (recursion_from_All (λ injector. (injector.channel < channels) × (injector.stage < stages)) injectors all)

-- ---- the parts

seed_name : IsName (codes "seed")
seed_name = record {
  some = omega arith;
  each = All-from_recursion (λ b. (33 ≤ b) × (b ≤ 126)) (codes "seed") ((omega arith, omega arith), ((omega arith, omega arith), ((omega arith, omega arith), ((omega arith, omega arith), tt))));
}

top_good : (made : Made) → IsWritable made → AllGood (pair_pieces (top_pairs made))
unfolding key_text
top_good made is =
    let chains = is.range.chains.1 in
    let warm = is.range.warm in (
      pair_good (codes "version") _ _ refl refl one_given,
      (
        pair_good (codes "domains") _ _ refl refl (names_given made.domains (recursion_from_All IsName made.domains is.clocks)),
        (
          pair_good (codes "resets") _ _ refl refl (names_given made.resets (recursion_from_All IsName made.resets is.resets)),
          (
            pair_good (codes "chains") _ _ refl refl (number_given made.chains (omega (arith, chains))),
            (
              pair_good (codes "warm") _ _ refl refl (number_given made.warm (omega (arith, warm))),
              (
                pair_good (codes "window") _ _ refl refl sixteen_given,
                (pair_good (codes "fill") _ _ refl refl (name_given (codes "seed") seed_name), (pair_good (codes "seed") _ _ refl refl one_given, tt)),
              ),
            ),
          ),
        ),
      ),
    )

ring_good : (chains : ℕ) (ring : RingConfig) → IsRingInRange chains ring → AllGood (section (codes "ring") (ring_pairs ring))
unfolding key_text
ring_good chains ring is =
    let high = is.stages.1 in
    let few = is.channels.1 in
    let stages : ring.stages < 2 ^ 63 = omega (arith, high) in
    let channels : ring.channels < 2 ^ 63 = omega (arith, few) in (
      header_good (codes "ring") refl refl,
      (
        pair_good (codes "stages") _ _ refl refl (number_given ring.stages stages),
        (
          pair_good (codes "channels") _ _ refl refl (number_given ring.channels channels),
          (
            pair_good (codes "taps") _ _ refl refl (taps_given ring.taps (taps_small ring.stages ring.taps stages is.taps)),
            (
              pair_good (codes "injectors") _ _ refl refl (injectors_given ring.injectors (injectors_small ring.channels ring.stages ring.injectors channels stages is.injectors)),
              (pair_good (codes "phase") _ _ refl refl (lists_given ring.phase (sets_small ring.stages ring.phase stages is.phase)), tt),
            ),
          ),
        ),
      ),
    )

compactor_good : (chains : ℕ) (compactor : CompactorConfig) → chains < 2 ^ 63 → IsCompactorInRange chains compactor → AllGood (section (codes "compactor") (compactor_pairs compactor))
unfolding key_text
compactor_good chains compactor less is =
    let masks = is.mask_inputs.1 in (
      header_good (codes "compactor") refl refl,
      (pair_good (codes "groups") _ _ refl refl (lists_given compactor.groups (sets_small chains compactor.groups less is.groups)), (pair_good (codes "mask_inputs") _ _ refl refl (number_given compactor.mask_inputs (omega (arith, masks))), tt)),
    )

ports_good : (names : PortNames) → All IsName (names_of names) → AllGood (section (codes "names") (port_pairs names))
unfolding key_text
ports_good names all =
    let is = recursion_from_All IsName (names_of names) all in (
      header_good (codes "names") refl refl,
      (
        pair_good (codes "scan_enable") _ _ refl refl (name_given names.scan_enable is.0),
        (
          pair_good (codes "edt_clock") _ _ refl refl (name_given names.edt_clock is.1.0),
          (
            pair_good (codes "edt_update") _ _ refl refl (name_given names.edt_update is.1.1.0),
            (
              pair_good (codes "channel") _ _ refl refl (name_given names.channel is.1.1.1.0),
              (
                pair_good (codes "mask") _ _ refl refl (name_given names.mask is.1.1.1.1.0),
                (
                  pair_good (codes "output") _ _ refl refl (name_given names.output is.1.1.1.1.1.0),
                  (pair_good (codes "scan_in") _ _ refl refl (name_given names.scan_in is.1.1.1.1.1.1.0), (pair_good (codes "scan_out") _ _ refl refl (name_given names.scan_out is.1.1.1.1.1.1.1.0), tt)),
                ),
              ),
            ),
          ),
        ),
      ),
    )

pub pieces_good : (made : Made) → IsWritable made → AllGood (pieces_of made)
pieces_good made is =
    let top = pair_pieces (top_pairs made) in
    let ring = section (codes "ring") (ring_pairs made.ring) in
    let compactor = section (codes "compactor") (compactor_pairs made.compactor) in
    let ports = section (codes "names") (port_pairs made.names) in
    let high = is.range.chains.1 in
    let less : made.chains < 2 ^ 63 = omega (arith, high) in
    both_good top (ring ++ (compactor ++ ports)) (top_good made is)
    (both_good ring (compactor ++ ports) (ring_good made.chains made.ring is.range.ring) (both_good compactor ports (compactor_good made.chains made.compactor less is.range.compactor) (ports_good made.names is.names)))
