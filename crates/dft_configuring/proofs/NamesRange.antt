-- The names of the added ports are names that no standard reserves, and differ.
use Rattle.std.proofs.Common.{◌≡◌, ℕ, zero, suc, ◌≤◌, Bool, true, ◌&&◌, [], ◌∷◌, codes, None, Some, refl, ◌∙◌, ap, arith}
use Rattle.std.specs.Prelude.{nat_le, not, replicate}
use Rattle.std.specs.List.{All, AllByRecursion, list_all}
use Rattle.std.specs.Str.{bytes_eq}
use Rattle.std.proofs.lemmas.Bool.{and_parts}
use Rattle.std.proofs.lemmas.Bool.Decides.{nat_tests}
use Rattle.std.proofs.lemmas.List.Elements.{All-from_recursion}
use Rattle.std.proofs.lemmas.List.Folds.{list_all-append}
use Rattle.dft_base.specs.Lexing.{Text}
use Rattle.dft_base.specs.Name.{IsName}
use Rattle.dft_base.specs.Words.{continues_word, is_later_reserved, is_simple_name, later_reserved_words, reserved_words}
use Rattle.dft_netlist.specs.Netlist.{Netlist}
use Rattle.dft_config.specs.Range.{all_differ, names_of}
use Rattle.dft_configuring.specs.Names.{barred, bars_for, names_for}

-- ---- with any number of `_` behind it

bars_continue : (bars : ℕ) → list_all continues_word (replicate bars 95) ≡ true
bars_continue zero = refl
bars_continue (suc bars) = bars_continue bars

abbrev IsFit : Text → Type 0
IsFit name = (is_simple_name name && not (is_later_reserved name)) ≡ true

scan_enable_fits : (bars : ℕ) → IsFit (barred (codes "scan_enable") bars)
unfolding reserved_words later_reserved_words
scan_enable_fits bars = ap (λ (b : Bool). (b && true) && true) (bars_continue bars)

edt_clock_fits : (bars : ℕ) → IsFit (barred (codes "edt_clock") bars)
unfolding reserved_words later_reserved_words
edt_clock_fits bars = ap (λ (b : Bool). (b && true) && true) (bars_continue bars)

edt_update_fits : (bars : ℕ) → IsFit (barred (codes "edt_update") bars)
unfolding reserved_words later_reserved_words
edt_update_fits bars = ap (λ (b : Bool). (b && true) && true) (bars_continue bars)

channel_fits : (bars : ℕ) → IsFit (barred (codes "edt_in") bars)
unfolding reserved_words later_reserved_words
channel_fits bars = ap (λ (b : Bool). (b && true) && true) (bars_continue bars)

mask_fits : (bars : ℕ) → IsFit (barred (codes "edt_mask") bars)
unfolding reserved_words later_reserved_words
mask_fits bars = ap (λ (b : Bool). (b && true) && true) (bars_continue bars)

output_fits : (bars : ℕ) → IsFit (barred (codes "edt_out") bars)
unfolding reserved_words later_reserved_words
output_fits bars = ap (λ (b : Bool). (b && true) && true) (bars_continue bars)

scan_in_fits : (bars : ℕ) → IsFit (barred (codes "scan_in") bars)
unfolding reserved_words later_reserved_words
scan_in_fits bars = ap (λ (b : Bool). (b && true) && true) (bars_continue bars)

scan_out_fits : (bars : ℕ) → IsFit (barred (codes "scan_out") bars)
unfolding reserved_words later_reserved_words
scan_out_fits bars = ap (λ (b : Bool). (b && true) && true) (bars_continue bars)

pub names_fit : (n : Netlist) (channels masks outputs chains : ℕ) → All IsFit (names_of (names_for n channels masks outputs chains))
unfolding names_for
names_fit n channels masks outputs chains =
    All-from_recursion IsFit (names_of (names_for n channels masks outputs chains))
    (scan_enable_fits (bars_for n None (codes "scan_enable")), (edt_clock_fits (bars_for n None (codes "edt_clock")), (edt_update_fits (bars_for n None (codes "edt_update")), (channel_fits (bars_for n (Some channels) (codes "edt_in")), (mask_fits (bars_for n (Some masks) (codes "edt_mask")), (output_fits (bars_for n (Some outputs) (codes "edt_out")), (scan_in_fits (bars_for n (Some chains) (codes "scan_in")), (scan_out_fits (bars_for n (Some chains) (codes "scan_out")), tt))))))))

-- ---- names

abbrev pub printed : ℕ → Bool
printed b = nat_le 33 b && nat_le b 126

low_is : (b : ℕ) → nat_le 33 b ≡ true → 33 ≤ b
low_is b is = grind (arith, nat_tests, is)

high_is : (b : ℕ) → nat_le b 126 ≡ true → b ≤ 126
high_is b is = grind (arith, nat_tests, is)

printed_is : (b : ℕ) → printed b ≡ true → (33 ≤ b) × (b ≤ 126)
printed_is b is = let parts = and_parts (nat_le 33 b) (nat_le b 126) is in (low_is b parts.0, high_is b parts.1)

each_printed : (text : Text) → list_all printed text ≡ true → AllByRecursion (λ b. (33 ≤ b) × (b ≤ 126)) text
each_printed [] all = tt
each_printed (b ∷ text) all = let parts = and_parts (printed b) (list_all printed text) all in (printed_is b parts.0, each_printed text parts.1)

bars_printed : (bars : ℕ) → list_all printed (replicate bars 95) ≡ true
bars_printed zero = refl
bars_printed (suc bars) = bars_printed bars

barred_name : (first : ℕ) (rest : Text) (bars : ℕ) → list_all printed (first ∷ rest) ≡ true → IsName (barred (first ∷ rest) bars)
barred_name first rest bars all = record {
  some = omega arith;
  each = All-from_recursion (λ b. (33 ≤ b) × (b ≤ 126)) (barred (first ∷ rest) bars) (each_printed (barred (first ∷ rest) bars) (list_all-append printed (first ∷ rest) (replicate bars 95) ∙ (λ i. all i && bars_printed bars i)));
}

pub literal_name : (first : ℕ) (rest : Text) → list_all printed (first ∷ rest) ≡ true → IsName (first ∷ rest)
literal_name first rest all = record {
  some = omega arith;
  each = All-from_recursion (λ b. (33 ≤ b) × (b ≤ 126)) (first ∷ rest) (each_printed (first ∷ rest) all);
}

pub names_are : (n : Netlist) (channels masks outputs chains : ℕ) → All IsName (names_of (names_for n channels masks outputs chains))
unfolding names_for
names_are n channels masks outputs chains =
    All-from_recursion IsName (names_of (names_for n channels masks outputs chains)) (
      barred_name 115 (codes "can_enable") (bars_for n None (codes "scan_enable")) refl,
      (
        barred_name 101 (codes "dt_clock") (bars_for n None (codes "edt_clock")) refl,
        (
          barred_name 101 (codes "dt_update") (bars_for n None (codes "edt_update")) refl,
          (barred_name 101 (codes "dt_in") (bars_for n (Some channels) (codes "edt_in")) refl, (barred_name 101 (codes "dt_mask") (bars_for n (Some masks) (codes "edt_mask")) refl, (barred_name 101 (codes "dt_out") (bars_for n (Some outputs) (codes "edt_out")) refl, (barred_name 115 (codes "can_in") (bars_for n (Some chains) (codes "scan_in")) refl, (barred_name 115 (codes "can_out") (bars_for n (Some chains) (codes "scan_out")) refl, tt))))),
        ),
      ),
    )

-- ---- they differ, whatever the number of `_` behind each

differ_with : (a b c d e f g h : ℕ) →
    all_differ bytes_eq (barred (codes "scan_enable") a ∷ barred (codes "edt_clock") b ∷ barred (codes "edt_update") c ∷ barred (codes "edt_in") d ∷ barred (codes "edt_mask") e ∷ barred (codes "edt_out") f ∷ barred (codes "scan_in") g ∷ barred (codes "scan_out") h ∷ [])
    ≡ true
differ_with a b c d e f g h = refl

pub names_apart : (n : Netlist) (channels masks outputs chains : ℕ) → all_differ bytes_eq (names_of (names_for n channels masks outputs chains)) ≡ true
unfolding names_for
names_apart n channels masks outputs chains = differ_with (bars_for n None (codes "scan_enable")) (bars_for n None (codes "edt_clock")) (bars_for n None (codes "edt_update")) (bars_for n (Some channels) (codes "edt_in")) (bars_for n (Some masks) (codes "edt_mask")) (bars_for n (Some outputs) (codes "edt_out")) (bars_for n (Some chains) (codes "scan_in")) (bars_for n (Some chains) (codes "scan_out"))
