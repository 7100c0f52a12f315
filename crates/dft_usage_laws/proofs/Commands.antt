-- Each command, and the words that are one.
use Rattle.std.proofs.Common.{◌≡◌, ◌∙◌, ℕ, Bool, true, false, List, [], ◌∷◌, codes, Option, Some, None, refl, sym, ap, ap₂, subst, arith}
use Rattle.std.specs.Prelude.{if◌then◌else◌}
use Rattle.std.specs.Str.{bytes_eq}
use Rattle.dft_base.proofs.TextLemmas.{bytes_eq-self, differ, same_text}
use Rattle.dft_command_line.specs.Words.{AreNumbers, Command, CertifyFiles, CompileFiles, ConfigureFiles, GradeFiles, HardwareTexts, IsCertify, IsCompile, IsConfigure, IsFor, IsGenerate, IsGrade, IsOne, IsPerhapsWithin, IsReplay, IsScan, IsSeek, JobNumbers, OutputsDiffer, ReplayFiles, ScanFiles, SeekFiles, Replay, Scan, Compile, Certify, Generate, Grade, Configure, Seek, certify_options, compile_options, configure_options, generate_options, grade_options, list_of, replay_options, scan_options, seek_options}
use Rattle.dft_explain.specs.Faults.{Fault, OneFile, Form, Pair, Range, Text, certify_form, chains, channels, compile_form, configure_form, fault_of_both, fault_of_command, fault_of_first, fault_of_number, fault_of_options, fault_of_right_options, first_fault, further_form, generate_form, grade_form, limit, longest, masks, missing, no_number, not_one, one_file, or_else, outputs, replay_form, scan_form, seed, seek_form, size, wrong_option}
use Rattle.dft_explain.specs.Options.{compile_saves, grade_saves, is_text, value_of}
use Rattle.dft_explain.proofs.FaultLemmas.{or_none}
use Rattle.dft_usage_laws.proofs.Forms.{Backed, all_there, backed, none_missing, plain_of, whole}
use Rattle.dft_usage_laws.proofs.Numbers.{Number, chains_number, channels_number, limit_number, longest_number, masks_number, number_chains, number_channels, number_limit, number_longest, number_masks, number_outputs, number_seed, number_size, outputs_number, seed_number, size_number}
use Rattle.dft_usage_laws.proofs.Taking.{IsPlain, or_both}
use Rattle.dft_usage_laws.specs.Usage.{FaultsAreUsage, IsCommandLine}

-- ---- the faults of a form

record Parts (form : Form) (words : List Text) : Type 0 where
  right : wrong_option form [] words ≡ None
  there : missing form.needed words ≡ None
  pair : not_one form.pair words ≡ None
  numbers : no_number form.numbers words ≡ None
  files : one_file form.saved words form.saved ≡ None

parts_of : (form : Form) (words : List Text) → fault_of_options form words ≡ None → Parts form words
parts_of form words e =
    let a = or_both (wrong_option form [] words) (fault_of_right_options form words) e in
    let b = or_both (missing form.needed words) (or_else (not_one form.pair words) (or_else (no_number form.numbers words) (one_file form.saved words form.saved))) a.1 in
    let c = or_both (not_one form.pair words) (or_else (no_number form.numbers words) (one_file form.saved words form.saved)) b.1 in
    let d = or_both (no_number form.numbers words) (one_file form.saved words form.saved) c.1 in
    record { right = a.0; there = b.0; pair = c.0; numbers = d.0; files = d.1 }

no_parts : (form : Form) (words : List Text) → Parts form words → fault_of_options form words ≡ None
no_parts form words p =
    or_none (wrong_option form [] words) (fault_of_right_options form words) p.right
    ∙ (or_none (missing form.needed words) (or_else (not_one form.pair words) (or_else (no_number form.numbers words) (one_file form.saved words form.saved))) p.there
    ∙ (or_none (not_one form.pair words) (or_else (no_number form.numbers words) (one_file form.saved words form.saved)) p.pair
    ∙ (or_none (no_number form.numbers words) (one_file form.saved words form.saved) p.numbers ∙ p.files)))

none_some : {fault : Fault} → None ≡ Some fault → ⊥
none_some e = absurd cc

-- ---- the words of a command

first_word : List Text → Text
first_word [] = []
first_word (word ∷ words) = word

other_words : List Text → List Text
other_words [] = []
other_words (word ∷ words) = words

no_word : (word : Text) (words : List Text) → [] ≡ word ∷ words → ⊥
no_word word words e = absurd cc

same_first : (a b : Text) (x y : List Text) → a ∷ x ≡ b ∷ y → a ≡ b
unfolding first_word
same_first a b x y e = ap first_word e

same_others : (a b : Text) (x y : List Text) → a ∷ x ≡ b ∷ y → x ≡ y
unfolding other_words
same_others a b x y e = ap other_words e

-- ---- replay

replay_plain : IsPlain replay_form
replay_plain = plain_of replay_form ((refl, omega arith), ((refl, omega arith), ((refl, omega arith), tt)))

replay_words : (words : List Text) → fault_of_options replay_form words ≡ None → (files : ReplayFiles) × IsReplay (codes "replay" ∷ words) files
replay_words words e =
    let p = parts_of replay_form words e in
    let w = whole replay_form replay_plain words p.right in
    let m = none_missing (codes "netlist" ∷ codes "patterns" ∷ []) words p.there in (
      record { library = value_of (codes "library") words; netlist = m.0.0; patterns = m.1.0.0 },
      record {
        given = w.given;
        are = w.are;
        each = (w.each (codes "netlist") refl ∙ ap list_of m.0.1, (w.each (codes "patterns") refl ∙ ap list_of m.1.0.1, (w.each (codes "library") refl, tt)));
      },
    )

replay_backed : (words : List Text) (files : ReplayFiles) → Backed replay_form (replay_options files) words → fault_of_options replay_form words ≡ None
replay_backed words files b = no_parts replay_form words (record {
  right = b.right;
  there = all_there (codes "netlist" ∷ codes "patterns" ∷ []) words ((files.netlist, b.values.0), ((files.patterns, b.values.1.0), tt));
  pair = refl;
  numbers = refl;
  files = refl;
})

replay_is : (words : List Text) (files : ReplayFiles) → IsReplay words files → first_fault words ≡ None
replay_is [] files is = absurd (no_word _ _ is.are.written)
replay_is (name ∷ words) files is =
    subst (λ (n : Text). first_fault (n ∷ words) ≡ None) (sym (same_first _ _ _ _ is.are.written))
    (replay_backed words files (backed replay_form replay_plain (replay_options files) refl (refl, (refl, (refl, tt))) words is.given (same_others _ _ _ _ is.are.written) is.are.values is.are.known is.each))

-- ---- certify

certify_plain : IsPlain certify_form
certify_plain = plain_of certify_form ((refl, omega arith), ((refl, omega arith), ((refl, omega arith), ((refl, omega arith), ((refl, omega arith), tt)))))

certify_words : (words : List Text) → fault_of_options certify_form words ≡ None → (files : CertifyFiles) × IsCertify (codes "certify" ∷ words) files
certify_words words e =
    let p = parts_of certify_form words e in
    let w = whole certify_form certify_plain words p.right in
    let m = none_missing (codes "netlist" ∷ codes "config" ∷ codes "cubes" ∷ codes "report" ∷ []) words p.there in (
      record { library = value_of (codes "library") words; netlist = m.0.0; config = m.1.0.0; cubes = m.1.1.0.0; report = m.1.1.1.0.0 },
      record {
        given = w.given;
        are = w.are;
        each = (
          w.each (codes "netlist") refl ∙ ap list_of m.0.1,
          (
            w.each (codes "config") refl ∙ ap list_of m.1.0.1,
            (w.each (codes "cubes") refl ∙ ap list_of m.1.1.0.1, (w.each (codes "report") refl ∙ ap list_of m.1.1.1.0.1, (w.each (codes "library") refl, tt))),
          ),
        );
      },
    )

certify_backed : (words : List Text) (files : CertifyFiles) → Backed certify_form (certify_options files) words → fault_of_options certify_form words ≡ None
certify_backed words files b = no_parts certify_form words (record {
  right = b.right;
  there = all_there (codes "netlist" ∷ codes "config" ∷ codes "cubes" ∷ codes "report" ∷ []) words
      ((files.netlist, b.values.0), ((files.config, b.values.1.0), ((files.cubes, b.values.1.1.0), ((files.report, b.values.1.1.1.0), tt))));
  pair = refl;
  numbers = refl;
  files = refl;
})

certify_is : (words : List Text) (files : CertifyFiles) → IsCertify words files → first_fault words ≡ None
certify_is [] files is = absurd (no_word _ _ is.are.written)
certify_is (name ∷ words) files is =
    subst (λ (n : Text). first_fault (n ∷ words) ≡ None) (sym (same_first _ _ _ _ is.are.written))
    (certify_backed words files (backed certify_form certify_plain (certify_options files) refl (refl, (refl, (refl, (refl, (refl, tt))))) words is.given (same_others _ _ _ _ is.are.written) is.are.values is.are.known is.each))

-- ---- generate

generate_plain : IsPlain generate_form
generate_plain = plain_of generate_form ((refl, omega arith), ((refl, omega arith), tt))

generate_words : (words : List Text) → fault_of_options generate_form words ≡ None → (job : JobNumbers) × IsGenerate (codes "generate" ∷ words) job
unfolding seed size
generate_words words e =
    let p = parts_of generate_form words e in
    let w = whole generate_form generate_plain words p.right in
    let m = none_missing (codes "seed" ∷ codes "size" ∷ []) words p.there in
    let first = or_both (fault_of_number seed (value_of (codes "seed") words)) (or_else (fault_of_number size (value_of (codes "size") words)) None) p.numbers in
    let second = or_both (fault_of_number size (value_of (codes "size") words)) None first.1 in
    let s = seed_number m.0.0 (sym (ap (fault_of_number seed) m.0.1) ∙ first.0) in
    let z = size_number m.1.0.0 (sym (ap (fault_of_number size) m.1.0.1) ∙ second.0) in (
      record { seed = s.number; size = z.number },
      record {
        seed = m.0.0;
        size = m.1.0.0;
        written = record { given = w.given; are = w.are; each = (w.each (codes "seed") refl ∙ ap list_of m.0.1, (w.each (codes "size") refl ∙ ap list_of m.1.0.1, tt)) };
        seed_is = s.is;
        size_is = z.is;
        least = z.low;
        most = z.high;
      },
    )

generate_backed : (words : List Text) (job : JobNumbers) (seed_text size_text : Text) → Number 20 0 18446744073709551615 seed_text → Number 5 16 20000 size_text → Backed generate_form (generate_options seed_text size_text) words → fault_of_options generate_form words ≡ None
unfolding seed size
generate_backed words job seed_text size_text s z b = no_parts generate_form words (record {
  right = b.right;
  there = all_there (codes "seed" ∷ codes "size" ∷ []) words ((seed_text, b.values.0), ((size_text, b.values.1.0), tt));
  pair = refl;
  numbers = ap₂ (λ v w. or_else (fault_of_number seed v) (or_else (fault_of_number size w) None)) b.values.0 b.values.1.0 ∙ ap₂ (λ v w. or_else v (or_else w None)) (number_seed seed_text s) (number_size size_text z);
  files = refl;
})

generate_is : (words : List Text) (job : JobNumbers) → IsGenerate words job → first_fault words ≡ None
generate_is [] job is = absurd (no_word _ _ is.written.are.written)
generate_is (name ∷ words) job is =
    subst (λ (n : Text). first_fault (n ∷ words) ≡ None) (sym (same_first _ _ _ _ is.written.are.written))
    (generate_backed words job is.seed is.size (record { number = job.seed; is = is.seed_is; low = omega arith; high = omega (arith, is.seed_is.below) }) (record { number = job.size; is = is.size_is; low = is.least; high = is.most })
    (backed generate_form generate_plain (generate_options is.seed is.size) refl (refl, (refl, tt)) words is.written.given (same_others _ _ _ _ is.written.are.written) is.written.are.values is.written.are.known is.written.each))

-- ---- grade

grade_plain : IsPlain grade_form
grade_plain = plain_of grade_form ((refl, omega arith), ((refl, omega arith), ((refl, omega arith), ((refl, omega arith), tt))))

grade_words : (words : List Text) → fault_of_options grade_form words ≡ None → (files : GradeFiles) × IsGrade (codes "grade" ∷ words) files
grade_words words e =
    let p = parts_of grade_form words e in
    let w = whole grade_form grade_plain words p.right in
    let m = none_missing (codes "netlist" ∷ codes "patterns" ∷ codes "out" ∷ []) words p.there in (
      record { library = value_of (codes "library") words; netlist = m.0.0; patterns = m.1.0.0; out = m.1.1.0.0 },
      record {
        given = w.given;
        are = w.are;
        each = (
          w.each (codes "netlist") refl ∙ ap list_of m.0.1,
          (w.each (codes "patterns") refl ∙ ap list_of m.1.0.1, (w.each (codes "out") refl ∙ ap list_of m.1.1.0.1, (w.each (codes "library") refl, tt))),
        );
      },
    )

-- the fault of one output, by its value
abbrev grade_by : (out : Option Text) → (file : Option Text) → Option Fault
grade_by out None = None
grade_by out (Some file) = fault_of_first (if is_text file out then Some (codes "out") else None) (codes "out") file

abbrev grade_output : (out : Option Text) → Option Fault
grade_output out = or_else (grade_by out out) None

-- the same, by whether the name is equal to itself
abbrev grade_told : (same : Bool) → (out : Text) → Option Fault
grade_told same out = or_else (fault_of_first (if same then Some (codes "out") else None) (codes "out") out) None

-- one output is no fault
grade_apart : (words : List Text) (out : Text) → value_of (codes "out") words ≡ Some out → one_file grade_saves words grade_saves ≡ None
grade_apart words out a =
    let values : one_file grade_saves words grade_saves ≡ grade_output (Some out) = ap grade_output a in
    values ∙ ap (λ s. grade_told s out) (bytes_eq-self out)

grade_backed : (words : List Text) (files : GradeFiles) → Backed grade_form (grade_options files) words → fault_of_options grade_form words ≡ None
grade_backed words files b = no_parts grade_form words (record {
  right = b.right;
  there = all_there (codes "netlist" ∷ codes "patterns" ∷ codes "out" ∷ []) words ((files.netlist, b.values.0), ((files.patterns, b.values.1.0), ((files.out, b.values.1.1.0), tt)));
  pair = refl;
  numbers = refl;
  files = grade_apart words files.out b.values.1.1.0;
})

grade_is : (words : List Text) (files : GradeFiles) → IsGrade words files → first_fault words ≡ None
grade_is [] files is = absurd (no_word _ _ is.are.written)
grade_is (name ∷ words) files is =
    subst (λ (n : Text). first_fault (n ∷ words) ≡ None) (sym (same_first _ _ _ _ is.are.written))
    (grade_backed words files (backed grade_form grade_plain (grade_options files) refl (refl, (refl, (refl, (refl, tt)))) words is.given (same_others _ _ _ _ is.are.written) is.are.values is.are.known is.each))

-- ---- configure

configure_plain : IsPlain configure_form
configure_plain =
    plain_of configure_form ((refl, omega arith), ((refl, omega arith), ((refl, omega arith), ((refl, omega arith), ((refl, omega arith), ((refl, omega arith), ((refl, omega arith), ((refl, omega arith), tt))))))))

-- an option that may be left out, and its number
record MayBe (digits most : ℕ) (value : Option Text) : Type 0 where
  number : Option ℕ
  is : IsPerhapsWithin digits most value number

may_be : (range : Range) (digits most : ℕ) → ((text : Text) → fault_of_number range (Some text) ≡ None → Number digits 1 most text) → (value : Option Text) → fault_of_number range value ≡ None → MayBe digits most value
may_be range digits most tells None e = record { number = None; is = tt }
may_be range digits most tells (Some text) e =
    let n = tells text e in record { number = Some n.number; is = record { is = n.is; low = n.low; high = n.high } }

was : (range : Range) (digits most : ℕ) → ((text : Text) → Number digits 1 most text → fault_of_number range (Some text) ≡ None) → (value : Option Text) (number : Option ℕ) → IsPerhapsWithin digits most value number → fault_of_number range value ≡ None
was range digits most tells None None is = refl
was range digits most tells None (Some number) is = absurd is
was range digits most tells (Some text) None is = absurd is
was range digits most tells (Some text) (Some number) is = tells text (record { number = number; is = is.is; low = is.low; high = is.high })

-- just one of the pair is there
one_of_pair : (pair : Pair) (digits most others_digits others_most : ℕ) (one other : Option Text) (first second : Option ℕ) → IsPerhapsWithin digits most one first → IsPerhapsWithin others_digits others_most other second
    → fault_of_both pair one other ≡ None → IsOne first second
one_of_pair pair d m p q (Some one) None (Some first) None a b e = tt
one_of_pair pair d m p q None (Some other) None (Some second) a b e = tt
one_of_pair pair d m p q (Some one) (Some other) first second a b e = absurd cc
one_of_pair pair d m p q None None first second a b e = absurd cc
one_of_pair pair d m p q (Some one) None None second a b e = absurd a
one_of_pair pair d m p q (Some one) None (Some first) (Some second) a b e = absurd b
one_of_pair pair d m p q None (Some other) (Some first) second a b e = absurd a
one_of_pair pair d m p q None (Some other) None None a b e = absurd b

pair_of_one : (pair : Pair) (digits most others_digits others_most : ℕ) (one other : Option Text) (first second : Option ℕ) → IsPerhapsWithin digits most one first → IsPerhapsWithin others_digits others_most other second
    → IsOne first second → fault_of_both pair one other ≡ None
pair_of_one pair d m p q (Some one) None first second a b is = refl
pair_of_one pair d m p q None (Some other) first second a b is = refl
pair_of_one pair d m p q (Some one) (Some other) (Some first) (Some second) a b is = absurd is
pair_of_one pair d m p q (Some one) (Some other) None second a b is = absurd a
pair_of_one pair d m p q (Some one) (Some other) (Some first) None a b is = absurd b
pair_of_one pair d m p q None None None None a b is = absurd is
pair_of_one pair d m p q None None (Some first) second a b is = absurd a
pair_of_one pair d m p q None None None (Some second) a b is = absurd b

configure_words : (words : List Text) → fault_of_options configure_form words ≡ None → (files : ConfigureFiles) × IsConfigure (codes "configure" ∷ words) files
unfolding channels chains longest outputs masks
configure_words words e =
    let p = parts_of configure_form words e in
    let w = whole configure_form configure_plain words p.right in
    let m = none_missing (codes "netlist" ∷ codes "channels" ∷ codes "out" ∷ []) words p.there in
    let at = λ (option : Text). value_of option words in
    let masks_alone = or_else (fault_of_number masks (at (codes "masks"))) None in
    let outputs_on = or_else (fault_of_number outputs (at (codes "outputs"))) masks_alone in
    let longest_on = or_else (fault_of_number longest (at (codes "length"))) outputs_on in
    let chains_on = or_else (fault_of_number chains (at (codes "chains"))) longest_on in
    let f1 = or_both (fault_of_number channels (at (codes "channels"))) chains_on p.numbers in
    let f2 = or_both (fault_of_number chains (at (codes "chains"))) longest_on f1.1 in
    let f3 = or_both (fault_of_number longest (at (codes "length"))) outputs_on f2.1 in
    let f4 = or_both (fault_of_number outputs (at (codes "outputs"))) masks_alone f3.1 in
    let f5 = or_both (fault_of_number masks (at (codes "masks"))) None f4.1 in
    let b = channels_number m.1.0.0 (sym (ap (fault_of_number channels) m.1.0.1) ∙ f1.0) in
    let c = may_be chains 4 1024 chains_number (at (codes "chains")) f2.0 in
    let l = may_be longest 5 65536 longest_number (at (codes "length")) f3.0 in
    let o = may_be outputs 2 32 outputs_number (at (codes "outputs")) f4.0 in
    let k = may_be masks 2 32 masks_number (at (codes "masks")) f5.0 in (
      record {
        library = at (codes "library");
        netlist = m.0.0;
        out = m.1.1.0.0;
        numbers = record { channels = b.number; chains = c.number; longest = l.number; outputs = o.number; masks = k.number };
      },
      record {
        texts = record { channels = m.1.0.0; chains = at (codes "chains"); longest = at (codes "length"); outputs = at (codes "outputs"); masks = at (codes "masks") };
        written = record {
          given = w.given;
          are = w.are;
          each = (
            w.each (codes "netlist") refl ∙ ap list_of m.0.1,
            (
              w.each (codes "channels") refl ∙ ap list_of m.1.0.1,
              (
                w.each (codes "out") refl ∙ ap list_of m.1.1.0.1,
                (
                  w.each (codes "chains") refl,
                  (w.each (codes "length") refl, (w.each (codes "outputs") refl, (w.each (codes "masks") refl, (w.each (codes "library") refl, tt)))),
                ),
              ),
            ),
          );
        };
        numbers = record {
          channels = record { is = b.is; low = b.low; high = b.high };
          chains = c.is;
          longest = l.is;
          outputs = o.is;
          masks = k.is;
          one = one_of_pair (record { first = codes "chains"; second = codes "length" }) 4 1024 5 65536 (at (codes "chains")) (at (codes "length")) c.number l.number c.is l.is p.pair;
        };
      },
    )

-- the faults of five numbers, by their values
abbrev five : (b c l o k : Option Text) → Option Fault
five b c l o k = or_else (fault_of_number channels b) (or_else (fault_of_number chains c) (or_else (fault_of_number longest l) (or_else (fault_of_number outputs o) (or_else (fault_of_number masks k) None))))

abbrev five_faults : (b c l o k : Option Fault) → Option Fault
five_faults b c l o k = or_else b (or_else c (or_else l (or_else o (or_else k None))))

configure_backed : (words : List Text) (files : ConfigureFiles) (texts : HardwareTexts) → AreNumbers texts files.numbers → Backed configure_form (configure_options files texts) words → fault_of_options configure_form words ≡ None
unfolding channels chains longest outputs masks
configure_backed words files texts are b =
    let v = b.values in
    let c = v.1.1.1.0 in
    let l = v.1.1.1.1.0 in
    let o = v.1.1.1.1.1.0 in
    let k = v.1.1.1.1.1.1.0 in
    let n = are.channels in
    no_parts configure_form words (record {
      right = b.right;
      there = all_there (codes "netlist" ∷ codes "channels" ∷ codes "out" ∷ []) words ((files.netlist, v.0), ((texts.channels, v.1.0), ((files.out, v.1.1.0), tt)));
      pair =
          ap₂ (fault_of_both (record { first = codes "chains"; second = codes "length" })) c l
          ∙ pair_of_one (record { first = codes "chains"; second = codes "length" }) 4 1024 5 65536 texts.chains texts.longest files.numbers.chains files.numbers.longest are.chains are.longest are.one;
      numbers =
          (λ i. five (v.1.0 i) (c i) (l i) (o i) (k i))
          ∙ (λ i. five_faults (number_channels texts.channels (record { number = files.numbers.channels; is = n.is; low = n.low; high = n.high }) i) (was chains 4 1024 number_chains texts.chains files.numbers.chains are.chains i)
          (was longest 5 65536 number_longest texts.longest files.numbers.longest are.longest i) (was outputs 2 32 number_outputs texts.outputs files.numbers.outputs are.outputs i) (was masks 2 32 number_masks texts.masks files.numbers.masks are.masks i));
      files = grade_apart words files.out v.1.1.0;
    })

configure_is : (words : List Text) (files : ConfigureFiles) → IsConfigure words files → first_fault words ≡ None
configure_is [] files is = absurd (no_word _ _ is.written.are.written)
configure_is (name ∷ words) files is =
    subst (λ (n : Text). first_fault (n ∷ words) ≡ None) (sym (same_first _ _ _ _ is.written.are.written))
    (configure_backed words files is.texts is.numbers
    (backed configure_form configure_plain (configure_options files is.texts) refl (refl, (refl, (refl, (refl, (refl, (refl, (refl, (refl, tt)))))))) words is.written.given (same_others _ _ _ _ is.written.are.written) is.written.are.values is.written.are.known is.written.each))

-- ---- scan

scan_plain : IsPlain scan_form
scan_plain = plain_of scan_form ((refl, omega arith), ((refl, omega arith), ((refl, omega arith), ((refl, omega arith), ((refl, omega arith), tt)))))

-- the fault of two outputs of these options, by their values
abbrev two_by : (one two : Text) → (out report : Option Text) → (second : Text) → (file : Option Text) → Option Fault
two_by one two out report second None = None
two_by one two out report second (Some file) = fault_of_first (if is_text file out then Some one else (if is_text file report then Some two else None)) second file

abbrev two_outputs : (one two : Text) → (out report : Option Text) → Option Fault
two_outputs one two out report = or_else (two_by one two out report one out) (or_else (two_by one two out report two report) None)

-- the same, by which names are equal
abbrev two_told : (one two : Text) → (same apart own : Bool) → (other : Option Text) → (out report : Text) → Option Fault
two_told one two same apart own other out report =
    or_else (fault_of_first (if same then Some one else other) one out) (or_else (fault_of_first (if apart then Some one else (if own then Some two else None)) two report) None)

-- two outputs of one name are a fault
two_same : (one two : Text) → bytes_eq one two ≡ false → (words : List Text) (out report : Text) → value_of one words ≡ Some out → value_of two words ≡ Some report → one_file (one ∷ two ∷ []) words (one ∷ two ∷ []) ≡ None → out ≡ report → ⊥
two_same one two differ words out report a b e same =
    let values : one_file (one ∷ two ∷ []) words (one ∷ two ∷ []) ≡ two_outputs one two (Some report) (Some report) = ap₂ (two_outputs one two) (a ∙ ap Some same) b in
    let other = if bytes_eq report report then Some two else None in
    let by_names : two_outputs one two (Some report) (Some report) ≡ two_told one two true true (bytes_eq report report) other report report =
    ap₂ (λ s d. two_told one two s d (bytes_eq report report) other report report) (bytes_eq-self report) (bytes_eq-self report) in
    let told : two_told one two true true (bytes_eq report report) other report report ≡ Some (OneFile one two report) =
    ap₂ (λ p q. or_else (if p then None else Some (OneFile one one report)) (or_else (if q then None else Some (OneFile one two report)) None)) (bytes_eq-self one) differ in
    none_some (sym e ∙ (values ∙ (by_names ∙ told)))

two_apart : (one two : Text) → (words : List Text) (out report : Text) → value_of one words ≡ Some out → value_of two words ≡ Some report → (out ≡ report → ⊥) → one_file (one ∷ two ∷ []) words (one ∷ two ∷ []) ≡ None
two_apart one two words out report a b apart =
    let values : one_file (one ∷ two ∷ []) words (one ∷ two ∷ []) ≡ two_outputs one two (Some out) (Some report) = ap₂ (two_outputs one two) a b in
    let other = if bytes_eq report out then Some two else None in
    values
    ∙ (ap₂ (λ s d. two_told one two s d (bytes_eq report report) other out report) (bytes_eq-self out) (differ out report apart)
    ∙ (ap (λ r. two_told one two true false r other out report) (bytes_eq-self report)
    ∙ ap₂ (λ p q. or_else (if p then None else Some (OneFile one one out)) (or_else (if q then None else Some (OneFile two two report)) None)) (bytes_eq-self one) (bytes_eq-self two)))

scan_words : (words : List Text) → fault_of_options scan_form words ≡ None → (files : ScanFiles) × IsScan (codes "scan" ∷ words) files
scan_words words e =
    let p = parts_of scan_form words e in
    let w = whole scan_form scan_plain words p.right in
    let m = none_missing (codes "netlist" ∷ codes "config" ∷ codes "out" ∷ codes "report" ∷ []) words p.there in (
      record { library = value_of (codes "library") words; netlist = m.0.0; config = m.1.0.0; out = m.1.1.0.0; report = m.1.1.1.0.0 },
      (
        record {
          given = w.given;
          are = w.are;
          each = (
            w.each (codes "netlist") refl ∙ ap list_of m.0.1,
            (
              w.each (codes "config") refl ∙ ap list_of m.1.0.1,
              (w.each (codes "out") refl ∙ ap list_of m.1.1.0.1, (w.each (codes "report") refl ∙ ap list_of m.1.1.1.0.1, (w.each (codes "library") refl, tt))),
            ),
          );
        },
        two_same (codes "out") (codes "report") refl words m.1.1.0.0 m.1.1.1.0.0 m.1.1.0.1 m.1.1.1.0.1 p.files,
      ),
    )

scan_backed : (words : List Text) (files : ScanFiles) → (files.out ≡ files.report → ⊥) → Backed scan_form (scan_options files) words → fault_of_options scan_form words ≡ None
scan_backed words files apart b = no_parts scan_form words (record {
  right = b.right;
  there = all_there (codes "netlist" ∷ codes "config" ∷ codes "out" ∷ codes "report" ∷ []) words
      ((files.netlist, b.values.0), ((files.config, b.values.1.0), ((files.out, b.values.1.1.0), ((files.report, b.values.1.1.1.0), tt))));
  pair = refl;
  numbers = refl;
  files = two_apart (codes "out") (codes "report") words files.out files.report b.values.1.1.0 b.values.1.1.1.0 apart;
})

scan_is : (words : List Text) (files : ScanFiles) → IsScan words files → first_fault words ≡ None
scan_is [] files is = absurd (no_word _ _ is.0.are.written)
scan_is (name ∷ words) files is =
    subst (λ (n : Text). first_fault (n ∷ words) ≡ None) (sym (same_first _ _ _ _ is.0.are.written))
    (scan_backed words files is.1 (backed scan_form scan_plain (scan_options files) refl (refl, (refl, (refl, (refl, (refl, tt))))) words is.0.given (same_others _ _ _ _ is.0.are.written) is.0.are.values is.0.are.known is.0.each))

-- ---- seek

seek_plain : IsPlain seek_form
seek_plain = plain_of seek_form ((refl, omega arith), ((refl, omega arith), ((refl, omega arith), ((refl, omega arith), ((refl, omega arith), ((refl, omega arith), ((refl, omega arith), tt)))))))

seek_words : (words : List Text) → fault_of_options seek_form words ≡ None → (files : SeekFiles) × IsSeek (codes "seek" ∷ words) files
unfolding limit
seek_words words e =
    let p = parts_of seek_form words e in
    let w = whole seek_form seek_plain words p.right in
    let m = none_missing (codes "netlist" ∷ codes "config" ∷ codes "clock" ∷ codes "limit" ∷ codes "out-cubes" ∷ codes "out-report" ∷ []) words p.there in
    let alone = or_both (fault_of_number limit (value_of (codes "limit") words)) None p.numbers in
    let n = limit_number m.1.1.1.0.0 (sym (ap (fault_of_number limit) m.1.1.1.0.1) ∙ alone.0) in (
      record { library = value_of (codes "library") words; netlist = m.0.0; config = m.1.0.0; clock = m.1.1.0.0; limit = n.number; out_cubes = m.1.1.1.1.0.0; out_report = m.1.1.1.1.1.0.0 },
      record {
        limit = m.1.1.1.0.0;
        written = record {
          given = w.given;
          are = w.are;
          each = (
            w.each (codes "netlist") refl ∙ ap list_of m.0.1,
            (
              w.each (codes "config") refl ∙ ap list_of m.1.0.1,
              (
                w.each (codes "clock") refl ∙ ap list_of m.1.1.0.1,
                (
                  w.each (codes "limit") refl ∙ ap list_of m.1.1.1.0.1,
                  (
                    w.each (codes "out-cubes") refl ∙ ap list_of m.1.1.1.1.0.1,
                    (w.each (codes "out-report") refl ∙ ap list_of m.1.1.1.1.1.0.1, (w.each (codes "library") refl, tt)),
                  ),
                ),
              ),
            ),
          );
        };
        is = n.is;
        most = n.high;
        differ = two_same (codes "out-cubes") (codes "out-report") refl words m.1.1.1.1.0.0 m.1.1.1.1.1.0.0 m.1.1.1.1.0.1 m.1.1.1.1.1.0.1 p.files;
      },
    )

seek_backed : (words : List Text) (files : SeekFiles) (text : Text) → Number 7 0 1000000 text → (files.out_cubes ≡ files.out_report → ⊥) → Backed seek_form (seek_options files text) words → fault_of_options seek_form words ≡ None
unfolding limit
seek_backed words files text n apart b =
    let v = b.values in
    no_parts seek_form words (record {
      right = b.right;
      there = all_there (codes "netlist" ∷ codes "config" ∷ codes "clock" ∷ codes "limit" ∷ codes "out-cubes" ∷ codes "out-report" ∷ []) words
          ((files.netlist, v.0), ((files.config, v.1.0), ((files.clock, v.1.1.0), ((text, v.1.1.1.0), ((files.out_cubes, v.1.1.1.1.0), ((files.out_report, v.1.1.1.1.1.0), tt))))));
      pair = refl;
      numbers = ap (λ t. or_else (fault_of_number limit t) None) v.1.1.1.0 ∙ ap (λ f. or_else f None) (number_limit text n);
      files = two_apart (codes "out-cubes") (codes "out-report") words files.out_cubes files.out_report v.1.1.1.1.0 v.1.1.1.1.1.0 apart;
    })

seek_is : (words : List Text) (files : SeekFiles) → IsSeek words files → first_fault words ≡ None
seek_is [] files is = absurd (no_word _ _ is.written.are.written)
seek_is (name ∷ words) files is =
    subst (λ (n : Text). first_fault (n ∷ words) ≡ None) (sym (same_first _ _ _ _ is.written.are.written))
    (seek_backed words files is.limit (record { number = files.limit; is = is.is; low = omega arith; high = is.most }) is.differ
    (backed seek_form seek_plain (seek_options files is.limit) refl (refl, (refl, (refl, (refl, (refl, (refl, (refl, tt))))))) words is.written.given (same_others _ _ _ _ is.written.are.written) is.written.are.values is.written.are.known is.written.each))

-- ---- compile

compile_plain : IsPlain compile_form
compile_plain = plain_of compile_form ((refl, omega arith), ((refl, omega arith), ((refl, omega arith), ((refl, omega arith), ((refl, omega arith), ((refl, omega arith), ((refl, omega arith), tt)))))))

record Outputs (words : List Text) (a b c : Text) : Type 0 where
  netlist : value_of (codes "out-netlist") words ≡ Some a
  patterns : value_of (codes "out-patterns") words ≡ Some b
  report : value_of (codes "out-report") words ≡ Some c

-- the fault of three outputs, by their values
abbrev compile_by : (a b c : Option Text) → (second : Text) → (file : Option Text) → Option Fault
compile_by a b c second None = None
compile_by a b c second (Some file) =
    fault_of_first (if is_text file a then Some (codes "out-netlist") else (if is_text file b then Some (codes "out-patterns") else (if is_text file c then Some (codes "out-report") else None))) second file

abbrev compile_outputs : (a b c : Option Text) → Option Fault
compile_outputs a b c = or_else (compile_by a b c (codes "out-netlist") a) (or_else (compile_by a b c (codes "out-patterns") b) (or_else (compile_by a b c (codes "out-report") c) None))

-- the same, by which names are equal
abbrev compile_told : (aa ab bb ac bc own : Bool) → (one two : Option Text) → (a b c : Text) → Option Fault
compile_told aa ab bb ac bc own one two a b c =
    or_else (fault_of_first (if aa then Some (codes "out-netlist") else one) (codes "out-netlist") a)
    (or_else (fault_of_first (if ab then Some (codes "out-netlist") else (if bb then Some (codes "out-patterns") else two)) (codes "out-patterns") b)
    (or_else (fault_of_first (if ac then Some (codes "out-netlist") else (if bc then Some (codes "out-patterns") else (if own then Some (codes "out-report") else None))) (codes "out-report") c) None))

abbrev one_of : (a b c : Text) → Option Text
one_of a b c = if bytes_eq b a then Some (codes "out-patterns") else (if bytes_eq c a then Some (codes "out-report") else None)

abbrev two_of : (b c : Text) → Option Text
two_of b c = if bytes_eq c b then Some (codes "out-report") else None

told_of : (words : List Text) (a b c : Text) → Outputs words a b c → one_file compile_saves words compile_saves
    ≡ compile_told (bytes_eq a a) (bytes_eq a b) (bytes_eq b b) (bytes_eq a c) (bytes_eq b c) (bytes_eq c c) (one_of a b c) (two_of b c) a b c
told_of words a b c o =
    ap (λ v. compile_outputs v (value_of (codes "out-patterns") words) (value_of (codes "out-report") words)) o.netlist ∙ ap₂ (λ v w. compile_outputs (Some a) v w) o.patterns o.report

compile_patterns : (words : List Text) (a b c : Text) → Outputs words a b c → one_file compile_saves words compile_saves ≡ None → a ≡ b → ⊥
compile_patterns words a b c o e same =
    let told : compile_told (bytes_eq a a) (bytes_eq a b) (bytes_eq b b) (bytes_eq a c) (bytes_eq b c) (bytes_eq c c) (one_of a b c) (two_of b c) a b c ≡ Some (OneFile (codes "out-netlist") (codes "out-patterns") b) =
    ap₂ (λ x y. compile_told x y (bytes_eq b b) (bytes_eq a c) (bytes_eq b c) (bytes_eq c c) (one_of a b c) (two_of b c) a b c) (bytes_eq-self a) (subst (λ (l : Text). bytes_eq l b ≡ true) (sym same) (bytes_eq-self b)) in
    none_some (sym e ∙ (told_of words a b c o ∙ told))

compile_report : (words : List Text) (a b c : Text) → Outputs words a b c → one_file compile_saves words compile_saves ≡ None → (a ≡ b → ⊥) → a ≡ c → ⊥
compile_report words a b c o e apart same =
    let told : compile_told (bytes_eq a a) (bytes_eq a b) (bytes_eq b b) (bytes_eq a c) (bytes_eq b c) (bytes_eq c c) (one_of a b c) (two_of b c) a b c ≡ Some (OneFile (codes "out-netlist") (codes "out-report") c) =
    ap₂ (λ x y. compile_told x y (bytes_eq b b) (bytes_eq a c) (bytes_eq b c) (bytes_eq c c) (one_of a b c) (two_of b c) a b c) (bytes_eq-self a) (differ a b apart)
    ∙ ap₂ (λ x y. compile_told true false x y (bytes_eq b c) (bytes_eq c c) (one_of a b c) (two_of b c) a b c) (bytes_eq-self b) (subst (λ (l : Text). bytes_eq l c ≡ true) (sym same) (bytes_eq-self c)) in
    none_some (sym e ∙ (told_of words a b c o ∙ told))

compile_both : (words : List Text) (a b c : Text) → Outputs words a b c → one_file compile_saves words compile_saves ≡ None → (a ≡ b → ⊥) → (a ≡ c → ⊥) → b ≡ c → ⊥
compile_both words a b c o e apart other same =
    let told : compile_told (bytes_eq a a) (bytes_eq a b) (bytes_eq b b) (bytes_eq a c) (bytes_eq b c) (bytes_eq c c) (one_of a b c) (two_of b c) a b c ≡ Some (OneFile (codes "out-patterns") (codes "out-report") c) =
    ap₂ (λ x y. compile_told x y (bytes_eq b b) (bytes_eq a c) (bytes_eq b c) (bytes_eq c c) (one_of a b c) (two_of b c) a b c) (bytes_eq-self a) (differ a b apart)
    ∙ (ap₂ (λ x y. compile_told true false x y (bytes_eq b c) (bytes_eq c c) (one_of a b c) (two_of b c) a b c) (bytes_eq-self b) (differ a c other)
    ∙ ap (λ x. compile_told true false true false x (bytes_eq c c) (one_of a b c) (two_of b c) a b c) (subst (λ (l : Text). bytes_eq l c ≡ true) (sym same) (bytes_eq-self c))) in
    none_some (sym e ∙ (told_of words a b c o ∙ told))

compile_apart : (words : List Text) (a b c : Text) → Outputs words a b c → (a ≡ b → ⊥) → (a ≡ c → ⊥) → (b ≡ c → ⊥) → one_file compile_saves words compile_saves ≡ None
compile_apart words a b c o p q r =
    told_of words a b c o
    ∙ (ap₂ (λ x y. compile_told x y (bytes_eq b b) (bytes_eq a c) (bytes_eq b c) (bytes_eq c c) (one_of a b c) (two_of b c) a b c) (bytes_eq-self a) (differ a b p)
    ∙ (ap₂ (λ x y. compile_told true false x y (bytes_eq b c) (bytes_eq c c) (one_of a b c) (two_of b c) a b c) (bytes_eq-self b) (differ a c q)
    ∙ ap₂ (λ x y. compile_told true false true false x y (one_of a b c) (two_of b c) a b c) (differ b c r) (bytes_eq-self c)))

compile_words : (words : List Text) → fault_of_options compile_form words ≡ None → (files : CompileFiles) × IsCompile (codes "compile" ∷ words) files
compile_words words e =
    let p = parts_of compile_form words e in
    let w = whole compile_form compile_plain words p.right in
    let m = none_missing (codes "netlist" ∷ codes "config" ∷ codes "cubes" ∷ codes "out-netlist" ∷ codes "out-patterns" ∷ codes "out-report" ∷ []) words p.there in
    let a = m.1.1.1.0.0 in
    let b = m.1.1.1.1.0.0 in
    let c = m.1.1.1.1.1.0.0 in
    let o : Outputs words a b c = record { netlist = m.1.1.1.0.1; patterns = m.1.1.1.1.0.1; report = m.1.1.1.1.1.0.1 } in
    let patterns = compile_patterns words a b c o p.files in
    let report = compile_report words a b c o p.files patterns in (
      record { library = value_of (codes "library") words; netlist = m.0.0; config = m.1.0.0; cubes = m.1.1.0.0; out_netlist = a; out_patterns = b; out_report = c },
      (
        record {
          given = w.given;
          are = w.are;
          each = (
            w.each (codes "netlist") refl ∙ ap list_of m.0.1,
            (
              w.each (codes "config") refl ∙ ap list_of m.1.0.1,
              (
                w.each (codes "cubes") refl ∙ ap list_of m.1.1.0.1,
                (
                  w.each (codes "out-netlist") refl ∙ ap list_of o.netlist,
                  (w.each (codes "out-patterns") refl ∙ ap list_of o.patterns, (w.each (codes "out-report") refl ∙ ap list_of o.report, (w.each (codes "library") refl, tt))),
                ),
              ),
            ),
          );
        },
        record { patterns = patterns; report = report; both = compile_both words a b c o p.files patterns report },
      ),
    )

compile_backed : (words : List Text) (files : CompileFiles) → OutputsDiffer files → Backed compile_form (compile_options files) words → fault_of_options compile_form words ≡ None
compile_backed words files apart b =
    let v = b.values in
    no_parts compile_form words (record {
      right = b.right;
      there = all_there (codes "netlist" ∷ codes "config" ∷ codes "cubes" ∷ codes "out-netlist" ∷ codes "out-patterns" ∷ codes "out-report" ∷ []) words
          ((files.netlist, v.0), ((files.config, v.1.0), ((files.cubes, v.1.1.0), ((files.out_netlist, v.1.1.1.0), ((files.out_patterns, v.1.1.1.1.0), ((files.out_report, v.1.1.1.1.1.0), tt))))));
      pair = refl;
      numbers = refl;
      files = compile_apart words files.out_netlist files.out_patterns files.out_report (record { netlist = v.1.1.1.0; patterns = v.1.1.1.1.0; report = v.1.1.1.1.1.0 }) apart.patterns apart.report apart.both;
    })

compile_is : (words : List Text) (files : CompileFiles) → IsCompile words files → first_fault words ≡ None
compile_is [] files is = absurd (no_word _ _ is.0.are.written)
compile_is (name ∷ words) files is =
    subst (λ (n : Text). first_fault (n ∷ words) ≡ None) (sym (same_first _ _ _ _ is.0.are.written))
    (compile_backed words files is.1 (backed compile_form compile_plain (compile_options files) refl (refl, (refl, (refl, (refl, (refl, (refl, (refl, tt))))))) words is.0.given (same_others _ _ _ _ is.0.are.written) is.0.are.values is.0.are.known is.0.each))

-- ---- all commands

usage : (words : List Text) (command : Command) → IsFor words command → first_fault words ≡ None
usage words (Replay files) is = replay_is words files is
usage words (Scan files) is = scan_is words files is
usage words (Compile files) is = compile_is words files is
usage words (Certify files) is = certify_is words files is
usage words (Generate job) is = generate_is words job is
usage words (Grade files) is = grade_is words files is
usage words (Configure files) is = configure_is words files is
usage words (Seek files) is = seek_is words files is

further_by_name : (name : Text) (words : List Text) (a b c d : Bool) → bytes_eq name (codes "generate") ≡ a → bytes_eq name (codes "grade") ≡ b → bytes_eq name (codes "configure") ≡ c → bytes_eq name (codes "seek") ≡ d
    → fault_of_command name (if a then Some generate_form else (if b then Some grade_form else (if c then Some configure_form else (if d then Some seek_form else None)))) words ≡ None → IsCommandLine (name ∷ words)
further_by_name name words true b c d i j k l f = let r = generate_words words f in (Generate r.0, subst (λ (t : Text). IsGenerate (t ∷ words) r.0) (sym (same_text name (codes "generate") i)) r.1)
further_by_name name words false true c d i j k l f = let r = grade_words words f in (Grade r.0, subst (λ (t : Text). IsGrade (t ∷ words) r.0) (sym (same_text name (codes "grade") j)) r.1)
further_by_name name words false false true d i j k l f = let r = configure_words words f in (Configure r.0, subst (λ (t : Text). IsConfigure (t ∷ words) r.0) (sym (same_text name (codes "configure") k)) r.1)
further_by_name name words false false false true i j k l f = let r = seek_words words f in (Seek r.0, subst (λ (t : Text). IsSeek (t ∷ words) r.0) (sym (same_text name (codes "seek") l)) r.1)
further_by_name name words false false false false i j k l f = absurd cc

by_name : (name : Text) (words : List Text) (a b c d : Bool) → bytes_eq name (codes "replay") ≡ a → bytes_eq name (codes "scan") ≡ b → bytes_eq name (codes "compile") ≡ c → bytes_eq name (codes "certify") ≡ d
    → fault_of_command name (if a then Some replay_form else (if b then Some scan_form else (if c then Some compile_form else (if d then Some certify_form else further_form name)))) words ≡ None
    → IsCommandLine (name ∷ words)
by_name name words true b c d i j k l f = let r = replay_words words f in (Replay r.0, subst (λ (t : Text). IsReplay (t ∷ words) r.0) (sym (same_text name (codes "replay") i)) r.1)
by_name name words false true c d i j k l f = let r = scan_words words f in (Scan r.0, subst (λ (t : Text). IsScan (t ∷ words) r.0) (sym (same_text name (codes "scan") j)) r.1)
by_name name words false false true d i j k l f = let r = compile_words words f in (Compile r.0, subst (λ (t : Text). IsCompile (t ∷ words) r.0) (sym (same_text name (codes "compile") k)) r.1)
by_name name words false false false true i j k l f = let r = certify_words words f in (Certify r.0, subst (λ (t : Text). IsCertify (t ∷ words) r.0) (sym (same_text name (codes "certify") l)) r.1)
by_name name words false false false false i j k l f = further_by_name name words (bytes_eq name (codes "generate")) (bytes_eq name (codes "grade")) (bytes_eq name (codes "configure")) (bytes_eq name (codes "seek")) refl refl refl refl f

command : (words : List Text) → first_fault words ≡ None → IsCommandLine words
command [] e = absurd cc
command (name ∷ words) e = by_name name words (bytes_eq name (codes "replay")) (bytes_eq name (codes "scan")) (bytes_eq name (codes "compile")) (bytes_eq name (codes "certify")) refl refl refl refl e

-- words have no fault exactly where they are a command
pub faults_are_usage : FaultsAreUsage
faults_are_usage words = (command words, λ is. usage words is.0 is.1)
