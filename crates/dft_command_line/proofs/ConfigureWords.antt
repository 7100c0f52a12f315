-- The options of the command `configure`, from the rows that show them.
use Rattle.std.proofs.Common.{◌≡◌, ◌≤◌, ◌&&◌, ◌^◌, ℕ, Bool, true, false, List, [], ◌∷◌, Option, Some, None, option_map, option_and_then, if◌then◌else◌, codes, length, nat_le, refl, sym, ap, ap₂, ◌∙◌, subst, arith}
use Rattle.std.specs.List.{AllByRecursion}
use Rattle.std.proofs.Math.Dec.{eqb-suc-zero}
use Rattle.std.proofs.lemmas.Bool.{leb-true, le-leb, and_parts}
use Rattle.std.proofs.lemmas.Option.{same_Some}
use Rattle.clap.specs.Walk.{Row, first_of}
use Rattle.dft_command_line.specs.Words.{AreNumbers, ConfigureFiles, HardwareNumbers, HardwareTexts, IsDecimal, IsOne, IsPerhapsWithin, IsWithin, Text, configure_options, list_of}
use Rattle.dft_command_line.specs.CommandLine.{configure_from, configure_in, decimal_in, decimal_of, is_empty, is_one, number_in, numbers_from, numbers_in, one_of_both, perhaps_in, perhaps_number_from, perhaps_number_in, ranged, value_in}
use Rattle.dft_command_line.proofs.JobWords.{DecimalShown, decimal_is, decimal_shown, is_decimal_of, shown_decimal}
use Rattle.dft_command_line.proofs.Taken.{Shows}
use Rattle.dft_command_line.proofs.Values.{perhaps_shown, shown_perhaps, shown_value, value_shown}

-- ---- numbers in a range

ranged_is : (most number : ℕ) → 1 ≤ number → number ≤ most → ranged most number ≡ Some number
ranged_is most number low high = ap₂ (λ a b. if a && b then Some number else None) (le-leb 1 number low) (le-leb number most high)

record Ranged (most all number : ℕ) : Type 0 where
  same : all ≡ number
  low : 1 ≤ number
  high : number ≤ most

ranged_parts : (most all number : ℕ) → ranged most all ≡ Some number → Ranged most all number
ranged_parts most all number e = go (nat_le 1 all) (nat_le all most) refl refl e
  where
    go : (a b : Bool) → nat_le 1 all ≡ a → nat_le all most ≡ b → (if a && b then Some all else None) ≡ Some number → Ranged most all number
    go false b p q e = absurd cc
    go true false p q e = absurd cc
    go true true p q e =
        let same = same_Some all number e in
        record { same = same; low = subst (λ (n : ℕ). 1 ≤ n) same (leb-true 1 all p); high = subst (λ (n : ℕ). n ≤ most) same (leb-true all most q) }

-- ---- an option that is needed

number_shown : (digits most : ℕ) (rs : List Row) (name text : Text) (number : ℕ) → Shows rs (name, Some text) → IsWithin digits most text number → number_in digits most name rs ≡ Some number
number_shown digits most rs name text number shows is =
    ap (option_and_then (ranged most)) (decimal_shown digits rs name text number shows is.is) ∙ ranged_is most number is.low is.high

record NumberShown (digits most : ℕ) (rs : List Row) (name : Text) (number : ℕ) : Type 0 where
  text : Text
  shows : Shows rs (name, Some text)
  is : IsWithin digits most text number

shown_number : (digits most : ℕ) (rs : List Row) (name : Text) (number : ℕ) → number_in digits most name rs ≡ Some number → NumberShown digits most rs name number
shown_number digits most rs name number e = go (decimal_in digits name rs) refl e
  where
    go : (q : Option ℕ) → decimal_in digits name rs ≡ q → option_and_then (ranged most) q ≡ Some number → NumberShown digits most rs name number
    go None is e = absurd cc
    go (Some all) is e =
        let parts = ranged_parts most all number e in
        let shown = shown_decimal digits rs name number (is ∙ ap Some parts.same) in
        record { text = shown.text; shows = shown.shows; is = record { is = shown.is; low = parts.low; high = parts.high } }

-- ---- an option that may be left out

perhaps_number_shown : (digits most : ℕ) (rs : List Row) (name : Text) (text : Option Text) (number : Option ℕ) → Shows rs (name, text) → IsPerhapsWithin digits most text number → perhaps_number_in digits most name rs ≡ Some number
perhaps_number_shown digits most rs name None None shows is = ap (perhaps_number_from digits most) shows.0
perhaps_number_shown digits most rs name None (Some number) shows is = absurd is
perhaps_number_shown digits most rs name (Some text) None shows is = absurd is
perhaps_number_shown digits most rs name (Some text) (Some number) shows is =
    ap (perhaps_number_from digits most) shows.0
    ∙ ap (λ q. option_map Some (option_and_then (ranged most) q)) (decimal_is digits text number is.is)
    ∙ ap (option_map Some) (ranged_is most number is.low is.high)

record PerhapsShown (digits most : ℕ) (rs : List Row) (name : Text) (number : Option ℕ) : Type 0 where
  text : Option Text
  shows : Shows rs (name, text)
  is : IsPerhapsWithin digits most text number

full : (digits number : ℕ) (text : Text) → IsDecimal digits text number → is_empty text ≡ false
full digits number [] is = absurd (let d = is.digits.0 in omega (arith, d))
full digits number (b ∷ text) is = eqb-suc-zero (length text)

shown_perhaps_number : (digits most : ℕ) (rs : List Row) (name : Text) (number : Option ℕ) → perhaps_number_in digits most name rs ≡ Some number → PerhapsShown digits most rs name number
shown_perhaps_number digits most rs name number e = go (first_of name rs) refl e
  where
    found : (text : Text) (q : Option ℕ) → first_of name rs ≡ Some text → decimal_of digits text ≡ q → option_map Some (option_and_then (ranged most) q) ≡ Some number → PerhapsShown digits most rs name number
    found text None at is e = absurd cc
    found text (Some all) at is e = ranges (ranged most all) refl e
      where
        ranges : (r : Option ℕ) → ranged most all ≡ r → option_map Some r ≡ Some number → PerhapsShown digits most rs name number
        ranges None there e = absurd cc
        ranges (Some one) there e =
            let parts = ranged_parts most all one there in
            let decimal = is_decimal_of digits text one (is ∙ ap Some parts.same) in
            record {
              text = Some text;
              shows = (at, (full digits one text decimal, tt));
              is = subst (IsPerhapsWithin digits most (Some text)) (same_Some (Some one) number e) (record { is = decimal; low = parts.low; high = parts.high });
            }

    go : (q : Option Text) → first_of name rs ≡ q → perhaps_number_from digits most q ≡ Some number → PerhapsShown digits most rs name number
    go None at e = record { text = None; shows = (at, tt); is = subst (IsPerhapsWithin digits most None) (same_Some None number e) tt }
    go (Some text) at e = found text (decimal_of digits text) at refl e

-- ---- just one of two

one_told : (one other : Option ℕ) → IsOne one other → is_one one other ≡ true
one_told (Some one) None is = refl
one_told None (Some other) is = refl
one_told (Some one) (Some other) is = absurd is
one_told None None is = absurd is

told_one : (one other : Option ℕ) → is_one one other ≡ true → IsOne one other
told_one (Some one) None e = tt
told_one None (Some other) e = tt
told_one (Some one) (Some other) e = absurd cc
told_one None None e = absurd cc

-- ---- the numbers

record Given (channels : Option ℕ) (chains longest outputs masks : Option (Option ℕ)) (numbers : HardwareNumbers) : Type 0 where
  channels_are : channels ≡ Some numbers.channels
  chains_are : chains ≡ Some numbers.chains
  longest_is : longest ≡ Some numbers.longest
  outputs_are : outputs ≡ Some numbers.outputs
  masks_are : masks ≡ Some numbers.masks
  one : IsOne numbers.chains numbers.longest

both_of : (all numbers : HardwareNumbers) → one_of_both all ≡ Some numbers → (all ≡ numbers) × IsOne all.chains all.longest
both_of all numbers e = go (is_one all.chains all.longest) refl e
  where
    go : (b : Bool) → is_one all.chains all.longest ≡ b → (if b then Some all else None) ≡ Some numbers → (all ≡ numbers) × IsOne all.chains all.longest
    go false is e = absurd cc
    go true is e = (same_Some all numbers e, told_one all.chains all.longest is)

given_parts : (channels : Option ℕ) (chains longest outputs masks : Option (Option ℕ)) (numbers : HardwareNumbers) → numbers_from channels chains longest outputs masks ≡ Some numbers → Given channels chains longest outputs masks numbers
given_parts None chains longest outputs masks numbers e = absurd cc
given_parts (Some channels) None longest outputs masks numbers e = absurd cc
given_parts (Some channels) (Some chains) None outputs masks numbers e = absurd cc
given_parts (Some channels) (Some chains) (Some longest) None masks numbers e = absurd cc
given_parts (Some channels) (Some chains) (Some longest) (Some outputs) None numbers e = absurd cc
given_parts (Some channels) (Some chains) (Some longest) (Some outputs) (Some masks) numbers e =
    let all : HardwareNumbers = record { channels = channels; chains = chains; longest = longest; outputs = outputs; masks = masks } in
    let both = both_of all numbers e in
    record {
      channels_are = ap (λ (n : HardwareNumbers). Some n.channels) both.0;
      chains_are = ap (λ (n : HardwareNumbers). Some n.chains) both.0;
      longest_is = ap (λ (n : HardwareNumbers). Some n.longest) both.0;
      outputs_are = ap (λ (n : HardwareNumbers). Some n.outputs) both.0;
      masks_are = ap (λ (n : HardwareNumbers). Some n.masks) both.0;
      one = subst (λ (n : HardwareNumbers). IsOne n.chains n.longest) both.0 both.1;
    }

-- the rows show these texts
record Texts (rs : List Row) (texts : HardwareTexts) : Type 0 where
  channels : Shows rs (codes "channels", Some texts.channels)
  chains : Shows rs (codes "chains", texts.chains)
  longest : Shows rs (codes "length", texts.longest)
  outputs : Shows rs (codes "outputs", texts.outputs)
  masks : Shows rs (codes "masks", texts.masks)

numbers_shown : (rs : List Row) (texts : HardwareTexts) (numbers : HardwareNumbers) → Texts rs texts → AreNumbers texts numbers → numbers_in rs ≡ Some numbers
numbers_shown rs texts numbers shows are =
    (λ i. numbers_from (number_shown 2 32 rs (codes "channels") texts.channels numbers.channels shows.channels are.channels i)
    (perhaps_number_shown 4 1024 rs (codes "chains") texts.chains numbers.chains shows.chains are.chains i)
    (perhaps_number_shown 5 65536 rs (codes "length") texts.longest numbers.longest shows.longest are.longest i)
    (perhaps_number_shown 2 32 rs (codes "outputs") texts.outputs numbers.outputs shows.outputs are.outputs i)
    (perhaps_number_shown 2 32 rs (codes "masks") texts.masks numbers.masks shows.masks are.masks i))
    ∙ ap (λ b. if b then Some numbers else None) (one_told numbers.chains numbers.longest are.one)

record NumbersShown (rs : List Row) (numbers : HardwareNumbers) : Type 0 where
  texts : HardwareTexts
  shows : Texts rs texts
  are : AreNumbers texts numbers

shown_numbers : (rs : List Row) (numbers : HardwareNumbers) → numbers_in rs ≡ Some numbers → NumbersShown rs numbers
shown_numbers rs numbers e =
    let given = given_parts (number_in 2 32 (codes "channels") rs) (perhaps_number_in 4 1024 (codes "chains") rs) (perhaps_number_in 5 65536 (codes "length") rs)
    (perhaps_number_in 2 32 (codes "outputs") rs) (perhaps_number_in 2 32 (codes "masks") rs) numbers e in
    let channels = shown_number 2 32 rs (codes "channels") numbers.channels given.channels_are in
    let chains = shown_perhaps_number 4 1024 rs (codes "chains") numbers.chains given.chains_are in
    let longest = shown_perhaps_number 5 65536 rs (codes "length") numbers.longest given.longest_is in
    let outputs = shown_perhaps_number 2 32 rs (codes "outputs") numbers.outputs given.outputs_are in
    let masks = shown_perhaps_number 2 32 rs (codes "masks") numbers.masks given.masks_are in
    record {
      texts = record { channels = channels.text; chains = chains.text; longest = longest.text; outputs = outputs.text; masks = masks.text };
      shows = record { channels = channels.shows; chains = chains.shows; longest = longest.shows; outputs = outputs.shows; masks = masks.shows };
      are = record { channels = channels.is; chains = chains.is; longest = longest.is; outputs = outputs.is; masks = masks.is; one = given.one };
    }

-- ---- configure

pub shows_configure : (rs : List Row) (files : ConfigureFiles) (texts : HardwareTexts) → AllByRecursion (Shows rs) (configure_options files texts) → AreNumbers texts files.numbers → configure_in rs ≡ Some files
shows_configure rs files texts all are =
    let shows : Texts rs texts = record { channels = all.1.0; chains = all.1.1.1.0; longest = all.1.1.1.1.0; outputs = all.1.1.1.1.1.0; masks = all.1.1.1.1.1.1.0 } in
    (λ i. configure_from (perhaps_shown rs (codes "library") files.library all.1.1.1.1.1.1.1.0 i) (value_shown rs (codes "netlist") files.netlist all.0 i) (value_shown rs (codes "out") files.out all.1.1.0 i)
    (numbers_shown rs texts files.numbers shows are i))

record ConfigureParts (l : Option (Option Text)) (n o : Option Text) (h : Option HardwareNumbers) (files : ConfigureFiles) : Type 0 where
  library_is : l ≡ Some files.library
  netlist_is : n ≡ Some files.netlist
  out_is : o ≡ Some files.out
  numbers_are : h ≡ Some files.numbers

configure_parts : (l : Option (Option Text)) (n o : Option Text) (h : Option HardwareNumbers) (files : ConfigureFiles) → configure_from l n o h ≡ Some files → ConfigureParts l n o h files
configure_parts None n o h files e = absurd cc
configure_parts (Some l) None o h files e = absurd cc
configure_parts (Some l) (Some n) None h files e = absurd cc
configure_parts (Some l) (Some n) (Some o) None files e = absurd cc
configure_parts (Some l) (Some n) (Some o) (Some h) files e =
    let same = same_Some _ files e in
    record {
      library_is = ap (λ (f : ConfigureFiles). Some f.library) same;
      netlist_is = ap (λ (f : ConfigureFiles). Some f.netlist) same;
      out_is = ap (λ (f : ConfigureFiles). Some f.out) same;
      numbers_are = ap (λ (f : ConfigureFiles). Some f.numbers) same;
    }

-- rows that show the files and numbers of a made configuration
pub record Configures (rs : List Row) (files : ConfigureFiles) : Type 0 where
  pub texts : HardwareTexts
  pub shows : AllByRecursion (Shows rs) (configure_options files texts)
  pub are : AreNumbers texts files.numbers

pub configure_shows : (rs : List Row) (files : ConfigureFiles) → configure_in rs ≡ Some files → Configures rs files
configure_shows rs files e =
    let parts = configure_parts (perhaps_in (codes "library") rs) (value_in (codes "netlist") rs) (value_in (codes "out") rs) (numbers_in rs) files e in
    let numbers = shown_numbers rs files.numbers parts.numbers_are in
    record {
      texts = numbers.texts;
      shows = (
        shown_value rs (codes "netlist") files.netlist parts.netlist_is,
        (
          numbers.shows.channels,
          (
            shown_value rs (codes "out") files.out parts.out_is,
            (
              numbers.shows.chains,
              (
                numbers.shows.longest,
                (numbers.shows.outputs, (numbers.shows.masks, (shown_perhaps rs (codes "library") files.library parts.library_is, tt))),
              ),
            ),
          ),
        ),
      );
      are = numbers.are;
    }
