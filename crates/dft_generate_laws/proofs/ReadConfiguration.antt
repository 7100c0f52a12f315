-- The configuration text of generated jobs is read.
use Rattle.std.proofs.Common.{ℕ, zero, suc, ◌<◌, ◌≡◌, true, List, [], ◌∷◌, Some, Ok, pos, codes, refl, arith}
use Rattle.std.specs.Prelude.{nat_lt}
use Rattle.std.specs.List.{list_all}
use Rattle.std.specs.Str.{IsAscii}
use Rattle.std.proofs.lemmas.Bool.{and_parts}
use Rattle.std.proofs.lemmas.Bool.Decides.{nat_tests}
use Rattle.std.proofs.lemmas.Str.{IsUtf8-from_ascii}
use Rattle.toml.specs.Data.{Members, array, integer, item, member, no_items, no_members, string, table}
use Rattle.toml.specs.Parse.{parse_document}
use Rattle.toml.proofs.OnLiterals.{toml_on_literals}
use Rattle.dft_config_text.specs.Checks.{first_empty, first_repeated, first_unreached}
use Rattle.dft_config_text.specs.Reading.{carrying_of, checked, clocking_of, compactor_of, keys_of, loading_of, names_of_ports, reading, ring_of, steering_of}
use Rattle.dft_config_text.specs.Sections.{has_key, is_always_key}
use Rattle.dft_config_text.specs.Settings.{domains, fill, groups, injectors, keep, number, numbers, phase, port_name, resets, taps}
use Rattle.dft_config_text.specs.Unknown.{first_unknown}
use Rattle.dft_generate.specs.Configurations.{configuration, configuration_text}
use Rattle.dft_generate_laws.specs.Laws.{ConfigurationIsRead}

-- ---- the table of the text

abbrev ring : Members
ring = member (codes "channels") (integer (pos 2)) (member (codes "injectors") (array (item (array (item (integer (pos 0)) (item (integer (pos 0)) no_items))) (item (array (item (integer (pos 1)) (item (integer (pos 8)) no_items))) no_items))) (member (codes "phase") (array (item (array (item (integer (pos 0)) (item (integer (pos 5)) (item (integer (pos 11)) no_items)))) (item (array (item (integer (pos 1)) (item (integer (pos 6)) (item (integer (pos 12)) no_items)))) (item (array (item (integer (pos 2)) (item (integer (pos 7)) (item (integer (pos 13)) no_items)))) (item (array (item (integer (pos 3)) (item (integer (pos 8)) (item (integer (pos 14)) no_items)))) (item (array (item (integer (pos 4)) (item (integer (pos 9)) (item (integer (pos 15)) no_items)))) (item (array (item (integer (pos 5)) (item (integer (pos 10)) (item (integer (pos 0)) no_items)))) (item (array (item (integer (pos 6)) (item (integer (pos 11)) (item (integer (pos 1)) no_items)))) (item (array (item (integer (pos 7)) (item (integer (pos 12)) (item (integer (pos 2)) no_items)))) (item (array (item (integer (pos 8)) (item (integer (pos 13)) (item (integer (pos 3)) no_items)))) (item (array (item (integer (pos 9)) (item (integer (pos 14)) (item (integer (pos 4)) no_items)))) (item (array (item (integer (pos 10)) (item (integer (pos 15)) (item (integer (pos 5)) no_items)))) (item (array (item (integer (pos 11)) (item (integer (pos 0)) (item (integer (pos 6)) no_items)))) (item (array (item (integer (pos 12)) (item (integer (pos 1)) (item (integer (pos 7)) no_items)))) (item (array (item (integer (pos 13)) (item (integer (pos 2)) (item (integer (pos 8)) no_items)))) (item (array (item (integer (pos 14)) (item (integer (pos 3)) (item (integer (pos 9)) no_items)))) (item (array (item (integer (pos 15)) (item (integer (pos 4)) (item (integer (pos 10)) no_items)))) no_items))))))))))))))))) (member (codes "stages") (integer (pos 16)) (member (codes "taps") (array (item (array (item (integer (pos 3)) (item (integer (pos 12)) no_items))) (item (array (item (integer (pos 6)) (item (integer (pos 9)) no_items))) no_items))) no_members))))

abbrev compactor : Members
compactor = member (codes "groups") (array (item (array (item (integer (pos 0)) (item (integer (pos 2)) (item (integer (pos 4)) (item (integer (pos 6)) (item (integer (pos 8)) (item (integer (pos 10)) (item (integer (pos 12)) (item (integer (pos 14)) no_items))))))))) (item (array (item (integer (pos 1)) (item (integer (pos 3)) (item (integer (pos 5)) (item (integer (pos 7)) (item (integer (pos 9)) (item (integer (pos 11)) (item (integer (pos 13)) (item (integer (pos 15)) no_items))))))))) no_items))) (member (codes "mask_inputs") (integer (pos 2)) no_members)

abbrev the_table : Members
the_table = member (codes "chains") (integer (pos 16)) (member (codes "compactor") (table compactor) (member (codes "domains") (array (item (string (codes "clk0")) (item (string (codes "clk1")) no_items))) (member (codes "fill") (string (codes "zeros")) (member (codes "ring") (table ring) (member (codes "version") (integer (pos 1)) (member (codes "warm") (integer (pos 16)) (member (codes "window") (integer (pos 8)) no_members)))))))

-- ---- its reading

low : (b : ℕ) → nat_lt b 128 ≡ true → b < 128
low b is = grind (arith, nat_tests)

low_bytes : (bytes : List ℕ) → list_all (λ b. nat_lt b 128) bytes ≡ true → IsAscii bytes
low_bytes [] all i = omega arith
low_bytes (b ∷ bytes) all zero = low b (and_parts (nat_lt b 128) (list_all (λ b. nat_lt b 128) bytes) all).0
low_bytes (b ∷ bytes) all (suc i) = low_bytes bytes (and_parts (nat_lt b 128) (list_all (λ b. nat_lt b 128) bytes) all).1 i

plain : list_all (λ b. nat_lt b 128) configuration_text ≡ true
unfolding configuration_text
plain = refl

parsed : parse_document configuration_text ≡ Some the_table
unfolding configuration_text toml_on_literals
parsed = refl

read : reading the_table ≡ Ok configuration
unfolding first_empty first_repeated first_unreached carrying_of checked clocking_of compactor_of keys_of loading_of names_of_ports reading ring_of steering_of has_key is_always_key domains fill groups injectors keep number numbers phase port_name resets taps first_unknown
read = refl

pub configuration_read : ConfigurationIsRead
configuration_read = (the_table, (IsUtf8-from_ascii configuration_text (low_bytes configuration_text plain), parsed), read)
