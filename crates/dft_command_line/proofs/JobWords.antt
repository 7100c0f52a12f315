-- The options of the commands `certify`, `grade` and `generate`, from the rows that show them.
use Rattle.std.proofs.Common.{◌≡◌, ◌≤◌, ◌<◌, ◌&&◌, ◌^◌, ℕ, Bool, true, false, List, Option, Some, None, Result, Ok, Err, option_and_then, if◌then◌else◌, codes, length, refl, sym, ap, ap₂, ◌∙◌, subst}
use Rattle.std.specs.Char.{is_ascii_digit}
use Rattle.std.specs.List.{AllByRecursion, list_all}
use Rattle.std.specs.Result.{OkIff, result_ok}
use Rattle.std.specs.Str.Parse.{ParsesUnsigned, digits_value}
use Rattle.std.proofs.lemmas.Bool.{leb-true, le-leb, ltb-true, lt-ltb, and_parts}
use Rattle.std.proofs.lemmas.Str.Parse.{parse_digits}
use Rattle.std.proofs.lemmas.Option.{same_Some}
use Rattle.clap.specs.Walk.{Row}
use Rattle.dft_base.proofs.DigitLemmas.{all_digits}
use Rattle.dft_command_line.specs.Words.{CertifyFiles, GradeFiles, IsDecimal, JobNumbers, Text, certify_options, generate_options, grade_options}
use Rattle.dft_command_line.specs.CommandLine.{certify_from, certify_in, decimal_in, decimal_of, generate_from, generate_in, grade_from, grade_in, is_decimal, perhaps_in, sized, value_in}
use Rattle.dft_command_line.proofs.Taken.{Shows}
use Rattle.dft_command_line.proofs.Values.{perhaps_shown, shown_perhaps, shown_value, value_shown}

-- ---- certify

pub shows_certify : (rs : List Row) (files : CertifyFiles) → AllByRecursion (Shows rs) (certify_options files) → certify_in rs ≡ Some files
shows_certify rs files all =
    (λ i. certify_from (perhaps_shown rs (codes "library") files.library all.1.1.1.1.0 i) (value_shown rs (codes "netlist") files.netlist all.0 i) (value_shown rs (codes "config") files.config all.1.0 i)
    (value_shown rs (codes "cubes") files.cubes all.1.1.0 i) (value_shown rs (codes "report") files.report all.1.1.1.0 i))

record CertifyParts (l : Option (Option Text)) (n c u r : Option Text) (files : CertifyFiles) : Type 0 where
  library_is : l ≡ Some files.library
  netlist_is : n ≡ Some files.netlist
  config_is : c ≡ Some files.config
  cubes_is : u ≡ Some files.cubes
  report_is : r ≡ Some files.report

certify_parts : (l : Option (Option Text)) (n c u r : Option Text) (files : CertifyFiles) → certify_from l n c u r ≡ Some files → CertifyParts l n c u r files
certify_parts None n c u r files e = absurd cc
certify_parts (Some l) None c u r files e = absurd cc
certify_parts (Some l) (Some n) None u r files e = absurd cc
certify_parts (Some l) (Some n) (Some c) None r files e = absurd cc
certify_parts (Some l) (Some n) (Some c) (Some u) None files e = absurd cc
certify_parts (Some l) (Some n) (Some c) (Some u) (Some r) files e =
    let same = same_Some _ files e in
    record {
      library_is = ap (λ (f : CertifyFiles). Some f.library) same;
      netlist_is = ap (λ (f : CertifyFiles). Some f.netlist) same;
      config_is = ap (λ (f : CertifyFiles). Some f.config) same;
      cubes_is = ap (λ (f : CertifyFiles). Some f.cubes) same;
      report_is = ap (λ (f : CertifyFiles). Some f.report) same;
    }

pub certify_shows : (rs : List Row) (files : CertifyFiles) → certify_in rs ≡ Some files → AllByRecursion (Shows rs) (certify_options files)
certify_shows rs files e =
    let parts = certify_parts (perhaps_in (codes "library") rs) (value_in (codes "netlist") rs) (value_in (codes "config") rs) (value_in (codes "cubes") rs) (value_in (codes "report") rs) files e in (
      shown_value rs (codes "netlist") files.netlist parts.netlist_is,
      (
        shown_value rs (codes "config") files.config parts.config_is,
        (
          shown_value rs (codes "cubes") files.cubes parts.cubes_is,
          (
            shown_value rs (codes "report") files.report parts.report_is,
            (shown_perhaps rs (codes "library") files.library parts.library_is, tt),
          ),
        ),
      ),
    )

-- ---- grade

pub shows_grade : (rs : List Row) (files : GradeFiles) → AllByRecursion (Shows rs) (grade_options files) → grade_in rs ≡ Some files
shows_grade rs files all =
    (λ i. grade_from (perhaps_shown rs (codes "library") files.library all.1.1.1.0 i) (value_shown rs (codes "netlist") files.netlist all.0 i) (value_shown rs (codes "patterns") files.patterns all.1.0 i)
    (value_shown rs (codes "out") files.out all.1.1.0 i))

record GradeParts (l : Option (Option Text)) (n p o : Option Text) (files : GradeFiles) : Type 0 where
  library_is : l ≡ Some files.library
  netlist_is : n ≡ Some files.netlist
  patterns_is : p ≡ Some files.patterns
  out_is : o ≡ Some files.out

grade_parts : (l : Option (Option Text)) (n p o : Option Text) (files : GradeFiles) → grade_from l n p o ≡ Some files → GradeParts l n p o files
grade_parts None n p o files e = absurd cc
grade_parts (Some l) None p o files e = absurd cc
grade_parts (Some l) (Some n) None o files e = absurd cc
grade_parts (Some l) (Some n) (Some p) None files e = absurd cc
grade_parts (Some l) (Some n) (Some p) (Some o) files e =
    let same = same_Some _ files e in
    record {
      library_is = ap (λ (f : GradeFiles). Some f.library) same;
      netlist_is = ap (λ (f : GradeFiles). Some f.netlist) same;
      patterns_is = ap (λ (f : GradeFiles). Some f.patterns) same;
      out_is = ap (λ (f : GradeFiles). Some f.out) same;
    }

pub grade_shows : (rs : List Row) (files : GradeFiles) → grade_in rs ≡ Some files → AllByRecursion (Shows rs) (grade_options files)
grade_shows rs files e =
    let parts = grade_parts (perhaps_in (codes "library") rs) (value_in (codes "netlist") rs) (value_in (codes "patterns") rs) (value_in (codes "out") rs) files e in (
      shown_value rs (codes "netlist") files.netlist parts.netlist_is,
      (
        shown_value rs (codes "patterns") files.patterns parts.patterns_is,
        (shown_value rs (codes "out") files.out parts.out_is, (shown_perhaps rs (codes "library") files.library parts.library_is, tt)),
      ),
    )

-- ---- decimal numbers

four : (a b c d : Bool) → a ≡ true → b ≡ true → c ≡ true → d ≡ true → (a && (b && (c && d))) ≡ true
four a b c d p q r s = ap₂ (λ x y. x && y) p (ap₂ (λ x y. x && y) q (ap₂ (λ x y. x && y) r s))

decimal_passes : (most : ℕ) (text : Text) (number : ℕ) → IsDecimal most text number → is_decimal most text ≡ true
decimal_passes most text number is = four _ _ _ _ (lt-ltb _ _ is.digits.0) (le-leb _ _ is.few) (all_digits.from text is.digits.1) (lt-ltb _ _ (subst (λ n. n < 2 ^ 64) (sym is.value) is.below))

-- a decimal text gives its number
pub decimal_is : (most : ℕ) (text : Text) (number : ℕ) → IsDecimal most text number → decimal_of most text ≡ Some number
decimal_is most text number is = ap (λ t. if t then Some (digits_value 10 text) else None) (decimal_passes most text number is) ∙ ap Some is.value

tested : (text : Text) (number : ℕ) (t : Bool) → (if t then Some (digits_value 10 text) else None) ≡ Some number → (t ≡ true) × (digits_value 10 text ≡ number)
tested text number true e = (refl, same_Some _ number e)
tested text number false e = absurd cc

pub is_decimal_of : (most : ℕ) (text : Text) (number : ℕ) → decimal_of most text ≡ Some number → IsDecimal most text number
is_decimal_of most text number e =
    let test = tested text number (is_decimal most text) e in
    let some = and_parts _ _ test.0 in
    let few = and_parts _ _ some.1 in
    let digits = and_parts _ _ few.1 in
    record {
      digits = (ltb-true _ _ some.0, all_digits.to text digits.0);
      few = leb-true _ _ few.0;
      value = test.1;
      below = subst (λ n. n < 2 ^ 64) test.1 (ltb-true _ _ digits.1);
    }

no_decimal : (most : ℕ) (text : Text) (t : Bool) → is_decimal most text ≡ t → ((0 < length text) × (digits_value 10 text < 2 ^ 64) → ⊥) → (if t then Some (digits_value 10 text) else None) ≡ None
no_decimal most text false e other = refl
no_decimal most text true e other =
    let some = and_parts _ _ e in
    absurd (other (ltb-true _ _ some.0, ltb-true _ _ (and_parts _ _ (and_parts _ _ some.1).1).1))

-- what `parse` gives of some digits
pub read_as : {E : Type 0} (most : ℕ) (text : Text) (r : Result ℕ E) → length text ≤ most → list_all is_ascii_digit text ≡ true → ParsesUnsigned 64 10 text r → result_ok r ≡ decimal_of most text
read_as {E} most text r few digits parses = go r (parse_digits all_digits 64 text r parses digits)
  where
    go : (q : Result ℕ E) → OkIff q ((0 < length text) × (digits_value 10 text < 2 ^ 64)) (digits_value 10 text) → result_ok q ≡ decimal_of most text
    go (Ok x) is = ap Some is.1 ∙ sym (decimal_is most text (digits_value 10 text) (record { digits = (is.0.0, all_digits.to text digits); few = few; value = refl; below = is.0.1 }))
    go (Err e) is = sym (no_decimal most text (is_decimal most text) refl is)

-- ---- generate

-- rows that show the two numbers of a job
pub record Numbers (rs : List Row) (job : JobNumbers) : Type 0 where
  pub seed : Text
  pub size : Text
  pub shows : AllByRecursion (Shows rs) (generate_options seed size)
  pub seed_is : IsDecimal 20 seed job.seed
  pub size_is : IsDecimal 5 size job.size
  pub least : 16 ≤ job.size
  pub most : job.size ≤ 20000

pub decimal_shown : (most : ℕ) (rs : List Row) (name text : Text) (number : ℕ) → Shows rs (name, Some text) → IsDecimal most text number → decimal_in most name rs ≡ Some number
decimal_shown most rs name text number shows is = ap (option_and_then (decimal_of most)) (value_shown rs name text shows) ∙ decimal_is most text number is

sized_is : (job : JobNumbers) → 16 ≤ job.size → job.size ≤ 20000 → sized job ≡ Some job
sized_is job least most = ap₂ (λ a b. if a && b then Some job else None) (le-leb 16 job.size least) (le-leb job.size 20000 most)

pub shows_generate : (rs : List Row) (job : JobNumbers) (seed size : Text) → AllByRecursion (Shows rs) (generate_options seed size) → IsDecimal 20 seed job.seed → IsDecimal 5 size job.size →
    16 ≤ job.size → job.size ≤ 20000 → generate_in rs ≡ Some job
shows_generate rs job seed size all seed_is size_is least most =
    ap₂ generate_from (decimal_shown 20 rs (codes "seed") seed job.seed all.0 seed_is) (decimal_shown 5 rs (codes "size") size job.size all.1.0 size_is) ∙ sized_is job least most

record Sized (all job : JobNumbers) : Type 0 where
  same : all ≡ job
  least : 16 ≤ job.size
  most : job.size ≤ 20000

sized_parts : (all job : JobNumbers) (t : Bool) → (t ≡ true → (16 ≤ all.size) × (all.size ≤ 20000)) → (if t then Some all else None) ≡ Some job → Sized all job
sized_parts all job false bounds e = absurd cc
sized_parts all job true bounds e =
    let same = same_Some all job e in
    let b = bounds refl in
    record { same = same; least = subst (λ (j : JobNumbers). 16 ≤ j.size) same b.0; most = subst (λ (j : JobNumbers). j.size ≤ 20000) same b.1 }

size_tested : (size : ℕ) (a b : Bool) → (a ≡ true → 16 ≤ size) → (b ≡ true → size ≤ 20000) → (a && b) ≡ true → (16 ≤ size) × (size ≤ 20000)
size_tested size a b low high e = let parts = and_parts a b e in (low parts.0, high parts.1)

record GenerateParts (seed size : Option ℕ) (job : JobNumbers) : Type 0 where
  seed_is : seed ≡ Some job.seed
  size_is : size ≡ Some job.size
  least : 16 ≤ job.size
  most : job.size ≤ 20000

generate_parts : (seed size : Option ℕ) (job : JobNumbers) → generate_from seed size ≡ Some job → GenerateParts seed size job
generate_parts None size job e = absurd cc
generate_parts (Some seed) None job e = absurd cc
generate_parts (Some seed) (Some size) job e =
    let parts = sized_parts (record { seed = seed; size = size }) job _ (size_tested size _ _ (leb-true 16 size) (leb-true size 20000)) e in
    record {
      seed_is = ap (λ (j : JobNumbers). Some j.seed) parts.same;
      size_is = ap (λ (j : JobNumbers). Some j.size) parts.same;
      least = parts.least;
      most = parts.most;
    }

pub record DecimalShown (most : ℕ) (rs : List Row) (name : Text) (number : ℕ) : Type 0 where
  pub text : Text
  pub shows : Shows rs (name, Some text)
  pub is : IsDecimal most text number

pub shown_decimal : (most : ℕ) (rs : List Row) (name : Text) (number : ℕ) → decimal_in most name rs ≡ Some number → DecimalShown most rs name number
shown_decimal most rs name number e = go (value_in name rs) refl e
  where
    go : (q : Option Text) → value_in name rs ≡ q → option_and_then (decimal_of most) q ≡ Some number → DecimalShown most rs name number
    go None is e = absurd cc
    go (Some text) is e = record { text = text; shows = shown_value rs name text is; is = is_decimal_of most text number e }

pub generate_shows : (rs : List Row) (job : JobNumbers) → generate_in rs ≡ Some job → Numbers rs job
generate_shows rs job e =
    let parts = generate_parts (decimal_in 20 (codes "seed") rs) (decimal_in 5 (codes "size") rs) job e in
    let seed = shown_decimal 20 rs (codes "seed") job.seed parts.seed_is in
    let size = shown_decimal 5 rs (codes "size") job.size parts.size_is in
    record {
      seed = seed.text;
      size = size.text;
      shows = (seed.shows, (size.shows, tt));
      seed_is = seed.is;
      size_is = size.is;
      least = parts.least;
      most = parts.most;
    }
