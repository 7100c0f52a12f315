-- What `clap` makes of a command line is what the words are for.
use Rattle.std.proofs.Common.{◌≡◌, Bool, true, false, true≢false, not, List, [], Option, Some, None, option_map, if◌then◌else◌, codes, bytes_eq, refl, sym, ap, ◌∙◌, subst, ⊎_elim}
use Rattle.std.specs.List.{AllByRecursion, list_all}
use Rattle.std.proofs.lemmas.Slice.Eq.{bytes_eq-Decides}
use Rattle.std.proofs.lemmas.Option.{same_Some}
use Rattle.clap.specs.Faults.{fault_of}
use Rattle.clap.specs.Kinds.{HasKind, Kinds}
use Rattle.clap.specs.Values.{kind_of}
use Rattle.clap.specs.declared.error.Error.{Error}
use Rattle.clap.specs.declared.error.kind.ErrorKind.TheVariants as kind
use Rattle.clap.specs.Simple.{subcommand_of}
use Rattle.clap.specs.Walk.{Row}
use Rattle.dft_command_line.specs.Words.{AreFor, Certify, CertifyFiles, Command, Compile, CompileFiles, Configure, ConfigureFiles, Generate, Grade, GradeFiles, IsCommand, IsFor, JobNumbers, OutputsDiffer, Replay, ReplayFiles, Scan, ScanFiles, Seek, SeekFiles, Text, Valued, certify_options, compile_options, configure_options, generate_options, grade_options, replay_options, scan_options, seek_options}
use Rattle.dft_command_line.specs.CommandLine.{Form, certify_form, certify_in, command_from, command_in, compile_form, compile_from, compile_in, configure_form, configure_in, dft_app, generate_form, generate_in, grade_form, grade_in, may_stand, outputs_differ, perhaps_in, replay_form, replay_from, replay_in, scan_form, scan_from, scan_in, seek_form, seek_in, value_in}
use Rattle.dft_command_line.proofs.Options.{names}
use Rattle.dft_command_line.proofs.FirstWords.{find_form}
use Rattle.dft_command_line.proofs.Rows.{rows}
use Rattle.dft_command_line.proofs.Taken.{Shows, Taken, TakesOptions, command_taken, labels, taken, takes_command}
use Rattle.dft_command_line.proofs.Values.{perhaps_shown, shown_perhaps, shown_value, value_shown}
use Rattle.dft_command_line.proofs.ConfigureWords.{configure_shows, shows_configure}
use Rattle.dft_command_line.proofs.SeekWords.{seek_shows, shows_seek}
use Rattle.dft_command_line.proofs.JobWords.{certify_shows, generate_shows, grade_shows, shows_certify, shows_generate, shows_grade}

-- ---- replay

shows_replay : (rs : List Row) (files : ReplayFiles) → AllByRecursion (Shows rs) (replay_options files) → replay_in rs ≡ Some files
shows_replay rs files all =
    (λ i. replay_from (perhaps_shown rs (codes "library") files.library all.1.1.0 i) (value_shown rs (codes "netlist") files.netlist all.0 i) (value_shown rs (codes "patterns") files.patterns all.1.0 i))

replay_parts : (l : Option (Option Text)) (n p : Option Text) (files : ReplayFiles) → replay_from l n p ≡ Some files → (l ≡ Some files.library) × (n ≡ Some files.netlist) × (p ≡ Some files.patterns)
replay_parts None n p files e = absurd cc
replay_parts (Some l) None p files e = absurd cc
replay_parts (Some l) (Some n) None files e = absurd cc
replay_parts (Some l) (Some n) (Some p) files e =
    let same = same_Some _ files e in
    (ap (λ (f : ReplayFiles). Some f.library) same, ap (λ (f : ReplayFiles). Some f.netlist) same, ap (λ (f : ReplayFiles). Some f.patterns) same)

replay_shows : (rs : List Row) (files : ReplayFiles) → replay_in rs ≡ Some files → AllByRecursion (Shows rs) (replay_options files)
replay_shows rs files e =
    let parts = replay_parts (perhaps_in (codes "library") rs) (value_in (codes "netlist") rs) (value_in (codes "patterns") rs) files e in
    (shown_value rs (codes "netlist") files.netlist parts.1, (shown_value rs (codes "patterns") files.patterns parts.2, (shown_perhaps rs (codes "library") files.library parts.0, tt)))

-- ---- scan

differ : (files : ScanFiles) (b : Bool) → (b ≡ true → files.out ≡ files.report) → (files.out ≡ files.report → ⊥) → (if b then None else Some files) ≡ Some files
differ files true same other = absurd (other (same refl))
differ files false same other = refl

shows_scan : (rs : List Row) (files : ScanFiles) → AllByRecursion (Shows rs) (scan_options files) → (files.out ≡ files.report → ⊥) → scan_in rs ≡ Some files
shows_scan rs files all other =
    (λ i. scan_from (perhaps_shown rs (codes "library") files.library all.1.1.1.1.0 i) (value_shown rs (codes "netlist") files.netlist all.0 i) (value_shown rs (codes "config") files.config all.1.0 i)
    (value_shown rs (codes "out") files.out all.1.1.0 i) (value_shown rs (codes "report") files.report all.1.1.1.0 i))
    ∙ differ files (bytes_eq files.out files.report) (bytes_eq-Decides files.out files.report).0 other

record ScanParts (l : Option (Option Text)) (n c o r : Option Text) (files : ScanFiles) : Type 0 where
  library_is : l ≡ Some files.library
  netlist_is : n ≡ Some files.netlist
  config_is : c ≡ Some files.config
  out_is : o ≡ Some files.out
  report_is : r ≡ Some files.report
  other : files.out ≡ files.report → ⊥

scan_parts_of : (all files : ScanFiles) (b : Bool) → (all.out ≡ all.report → b ≡ true) → (if b then None else Some all) ≡ Some files →
    ScanParts (Some all.library) (Some all.netlist) (Some all.config) (Some all.out) (Some all.report) files
scan_parts_of all files true same e = absurd cc
scan_parts_of all files false same e =
    subst (ScanParts (Some all.library) (Some all.netlist) (Some all.config) (Some all.out) (Some all.report)) (same_Some all files e)
    (record { library_is = refl; netlist_is = refl; config_is = refl; out_is = refl; report_is = refl; other = λ alike. true≢false (sym (same alike)) })

scan_parts : (l : Option (Option Text)) (n c o r : Option Text) (files : ScanFiles) → scan_from l n c o r ≡ Some files → ScanParts l n c o r files
scan_parts None n c o r files e = absurd cc
scan_parts (Some l) None c o r files e = absurd cc
scan_parts (Some l) (Some n) None o r files e = absurd cc
scan_parts (Some l) (Some n) (Some c) None r files e = absurd cc
scan_parts (Some l) (Some n) (Some c) (Some o) None files e = absurd cc
scan_parts (Some l) (Some n) (Some c) (Some o) (Some r) files e =
    scan_parts_of (record { library = l; netlist = n; config = c; out = o; report = r }) files (bytes_eq o r) (bytes_eq-Decides o r).1 e

record ScanShows (rs : List Row) (files : ScanFiles) : Type 0 where
  shows : AllByRecursion (Shows rs) (scan_options files)
  other : files.out ≡ files.report → ⊥

scan_shows : (rs : List Row) (files : ScanFiles) → scan_in rs ≡ Some files → ScanShows rs files
scan_shows rs files e =
    let parts = scan_parts (perhaps_in (codes "library") rs) (value_in (codes "netlist") rs) (value_in (codes "config") rs) (value_in (codes "out") rs) (value_in (codes "report") rs) files e in
    record {
      shows = (
        shown_value rs (codes "netlist") files.netlist parts.netlist_is,
        (
          shown_value rs (codes "config") files.config parts.config_is,
          (
            shown_value rs (codes "out") files.out parts.out_is,
            (
              shown_value rs (codes "report") files.report parts.report_is,
              (shown_perhaps rs (codes "library") files.library parts.library_is, tt),
            ),
          ),
        ),
      );
      other = parts.other;
    }

-- ---- compile

no_then : (b : Bool) (P : Type 0) → (b ≡ true → P) → (P → ⊥) → b ≡ false
no_then true P same other = absurd (other (same refl))
no_then false P same other = refl

differ_tests : (a b c : Bool) → a ≡ false → b ≡ false → c ≡ false → (if a then false else (if b then false else not c)) ≡ true
differ_tests a b c p q r = ap (λ (t : Bool). if t then false else (if b then false else not c)) p ∙ ap (λ (t : Bool). if t then false else not c) q ∙ ap not r

they_differ : (files : CompileFiles) → OutputsDiffer files → outputs_differ files ≡ true
they_differ files other =
    differ_tests (bytes_eq files.out_netlist files.out_patterns) (bytes_eq files.out_netlist files.out_report) (bytes_eq files.out_patterns files.out_report)
    (no_then _ _ (bytes_eq-Decides files.out_netlist files.out_patterns).0 other.patterns)
    (no_then _ _ (bytes_eq-Decides files.out_netlist files.out_report).0 other.report)
    (no_then _ _ (bytes_eq-Decides files.out_patterns files.out_report).0 other.both)

shows_compile : (rs : List Row) (files : CompileFiles) → AllByRecursion (Shows rs) (compile_options files) → OutputsDiffer files → compile_in rs ≡ Some files
shows_compile rs files all other =
    (λ i. compile_from (perhaps_shown rs (codes "library") files.library all.1.1.1.1.1.1.0 i) (value_shown rs (codes "netlist") files.netlist all.0 i) (value_shown rs (codes "config") files.config all.1.0 i)
    (value_shown rs (codes "cubes") files.cubes all.1.1.0 i) (value_shown rs (codes "out-netlist") files.out_netlist all.1.1.1.0 i)
    (value_shown rs (codes "out-patterns") files.out_patterns all.1.1.1.1.0 i) (value_shown rs (codes "out-report") files.out_report all.1.1.1.1.1.0 i))
    ∙ ap (λ b. if b then Some files else None) (they_differ files other)

record CompileParts (l : Option (Option Text)) (n c u on op or : Option Text) (files : CompileFiles) : Type 0 where
  library_is : l ≡ Some files.library
  netlist_is : n ≡ Some files.netlist
  config_is : c ≡ Some files.config
  cubes_is : u ≡ Some files.cubes
  out_netlist_is : on ≡ Some files.out_netlist
  out_patterns_is : op ≡ Some files.out_patterns
  out_report_is : or ≡ Some files.out_report
  other : OutputsDiffer files

test_apart : (a b c : Bool) → (if a then false else (if b then false else not c)) ≡ true → (a ≡ false) × (b ≡ false) × (c ≡ false)
test_apart true b c e = absurd cc
test_apart false true c e = absurd cc
test_apart false false true e = absurd cc
test_apart false false false e = (refl, refl, refl)

apart_of : (a b : Text) → bytes_eq a b ≡ false → a ≡ b → ⊥
apart_of a b test same = true≢false (sym ((bytes_eq-Decides a b).1 same) ∙ test)

outputs_apart : (files : CompileFiles) → outputs_differ files ≡ true → OutputsDiffer files
outputs_apart files e =
    let tests = test_apart (bytes_eq files.out_netlist files.out_patterns) (bytes_eq files.out_netlist files.out_report) (bytes_eq files.out_patterns files.out_report) e in
    record {
      patterns = apart_of files.out_netlist files.out_patterns tests.0;
      report = apart_of files.out_netlist files.out_report tests.1;
      both = apart_of files.out_patterns files.out_report tests.2;
    }

compile_parts_of : (all files : CompileFiles) (b : Bool) → outputs_differ all ≡ b → (if b then Some all else None) ≡ Some files →
    CompileParts (Some all.library) (Some all.netlist) (Some all.config) (Some all.cubes) (Some all.out_netlist) (Some all.out_patterns) (Some all.out_report) files
compile_parts_of all files false test e = absurd cc
compile_parts_of all files true test e =
    subst (CompileParts (Some all.library) (Some all.netlist) (Some all.config) (Some all.cubes) (Some all.out_netlist) (Some all.out_patterns) (Some all.out_report)) (same_Some all files e)
    (record {
      library_is = refl;
      netlist_is = refl;
      config_is = refl;
      cubes_is = refl;
      out_netlist_is = refl;
      out_patterns_is = refl;
      out_report_is = refl;
      other = outputs_apart all test;
    })

compile_parts : (l : Option (Option Text)) (n c u on op or : Option Text) (files : CompileFiles) → compile_from l n c u on op or ≡ Some files → CompileParts l n c u on op or files
compile_parts None n c u on op or files e = absurd cc
compile_parts (Some l) None c u on op or files e = absurd cc
compile_parts (Some l) (Some n) None u on op or files e = absurd cc
compile_parts (Some l) (Some n) (Some c) None on op or files e = absurd cc
compile_parts (Some l) (Some n) (Some c) (Some u) None op or files e = absurd cc
compile_parts (Some l) (Some n) (Some c) (Some u) (Some on) None or files e = absurd cc
compile_parts (Some l) (Some n) (Some c) (Some u) (Some on) (Some op) None files e = absurd cc
compile_parts (Some l) (Some n) (Some c) (Some u) (Some on) (Some op) (Some or) files e =
    let all : CompileFiles = record { library = l; netlist = n; config = c; cubes = u; out_netlist = on; out_patterns = op; out_report = or } in
    compile_parts_of all files (outputs_differ all) refl e

record CompileShows (rs : List Row) (files : CompileFiles) : Type 0 where
  shows : AllByRecursion (Shows rs) (compile_options files)
  other : OutputsDiffer files

compile_shows : (rs : List Row) (files : CompileFiles) → compile_in rs ≡ Some files → CompileShows rs files
compile_shows rs files e =
    let parts = compile_parts (perhaps_in (codes "library") rs) (value_in (codes "netlist") rs) (value_in (codes "config") rs) (value_in (codes "cubes") rs)
    (value_in (codes "out-netlist") rs) (value_in (codes "out-patterns") rs) (value_in (codes "out-report") rs) files e in
    record {
      shows = (
        shown_value rs (codes "netlist") files.netlist parts.netlist_is,
        (
          shown_value rs (codes "config") files.config parts.config_is,
          (
            shown_value rs (codes "cubes") files.cubes parts.cubes_is,
            (
              shown_value rs (codes "out-netlist") files.out_netlist parts.out_netlist_is,
              (
                shown_value rs (codes "out-patterns") files.out_patterns parts.out_patterns_is,
                (
                  shown_value rs (codes "out-report") files.out_report parts.out_report_is,
                  (shown_perhaps rs (codes "library") files.library parts.library_is, tt),
                ),
              ),
            ),
          ),
        ),
      );
      other = parts.other;
    }

-- ---- every command

record IsTaken (words : List Text) (command : Command) : Type 0 where
  stand : list_all may_stand words ≡ true
  passes : fault_of dft_app words ≡ []
  found : command_in (subcommand_of dft_app words) ≡ Some command

is_taken : (command : Text) (options : List Valued) (words : List Text) (c : Command) → TakesOptions words command options → ((rs : List Row) → AllByRecursion (Shows rs) options → command_from command rs ≡ Some c) → IsTaken words c
is_taken command options words c t is = record { stand = t.takes.stand; passes = t.takes.passes; found = ap command_in t.takes.shown ∙ is t.kept t.each }

-- the words of a command are taken, and it is found
for_taken : (words : List Text) (c : Command) → IsFor words c → IsTaken words c
for_taken words (Replay files) r =
    is_taken (codes "replay") (replay_options files) words (Replay files) (takes_command replay_form (replay_options files) words refl refl r) (λ rs all. ap (option_map Replay) (shows_replay rs files all))
for_taken words (Scan files) s =
    is_taken (codes "scan") (scan_options files) words (Scan files) (takes_command scan_form (scan_options files) words refl refl s.0) (λ rs all. ap (option_map Scan) (shows_scan rs files all s.1))
for_taken words (Compile files) s =
    is_taken (codes "compile") (compile_options files) words (Compile files) (takes_command compile_form (compile_options files) words refl refl s.0) (λ rs all. ap (option_map Compile) (shows_compile rs files all s.1))
for_taken words (Certify files) s =
    is_taken (codes "certify") (certify_options files) words (Certify files) (takes_command certify_form (certify_options files) words refl refl s) (λ rs all. ap (option_map Certify) (shows_certify rs files all))
for_taken words (Generate job) s =
    is_taken (codes "generate") (generate_options s.seed s.size) words (Generate job) (takes_command generate_form (generate_options s.seed s.size) words refl refl s.written)
    (λ rs all. ap (option_map Generate) (shows_generate rs job s.seed s.size all s.seed_is s.size_is s.least s.most))
for_taken words (Grade files) s =
    is_taken (codes "grade") (grade_options files) words (Grade files) (takes_command grade_form (grade_options files) words refl refl s) (λ rs all. ap (option_map Grade) (shows_grade rs files all))
for_taken words (Configure files) s =
    is_taken (codes "configure") (configure_options files s.texts) words (Configure files) (takes_command configure_form (configure_options files s.texts) words refl refl s.written)
    (λ rs all. ap (option_map Configure) (shows_configure rs files s.texts all s.numbers))
for_taken words (Seek files) s =
    is_taken (codes "seek") (seek_options files s.limit) words (Seek files) (takes_command seek_form (seek_options files s.limit) words refl refl s.written)
    (λ rs all. ap (option_map Seek) (shows_seek rs files s.limit all s.is s.most s.differ))

-- a command that is found by its name has the form of that name
form_named : (words : List Text) (t : Taken words) (f : Form) → find_form f.command ≡ Some f → t.form.command ≡ f.command → t.form ≡ f
form_named words t f is same = same_Some t.form f (sym t.is ∙ ap find_form same ∙ is)

as_form : (words : List Text) (t : Taken words) (f : Form) (options : List Valued) → t.form ≡ f → names f.options ≡ labels options → AllByRecursion (Shows (rows t.given)) options → IsCommand f.command options words
as_form words t f options same agree all =
    subst (λ (g : Form). IsCommand g.command options words) same (command_taken words t options (ap (λ (g : Form). names g.options) same ∙ agree) all)

found_replay : (words : List Text) (t : Taken words) (c : Command) (q : Option ReplayFiles) → t.form ≡ replay_form → replay_in (rows t.given) ≡ q → option_map Replay q ≡ Some c → IsFor words c
found_replay words t c None same is e = absurd cc
found_replay words t c (Some files) same is e =
    subst (IsFor words) (same_Some (Replay files) c e) (as_form words t replay_form (replay_options files) same refl (replay_shows (rows t.given) files is))

found_scan : (words : List Text) (t : Taken words) (c : Command) (q : Option ScanFiles) → t.form ≡ scan_form → scan_in (rows t.given) ≡ q → option_map Scan q ≡ Some c → IsFor words c
found_scan words t c None same is e = absurd cc
found_scan words t c (Some files) same is e =
    let found = scan_shows (rows t.given) files is in
    subst (IsFor words) (same_Some (Scan files) c e) (as_form words t scan_form (scan_options files) same refl found.shows, found.other)

found_compile : (words : List Text) (t : Taken words) (c : Command) (q : Option CompileFiles) → t.form ≡ compile_form → compile_in (rows t.given) ≡ q → option_map Compile q ≡ Some c → IsFor words c
found_compile words t c None same is e = absurd cc
found_compile words t c (Some files) same is e =
    let found = compile_shows (rows t.given) files is in
    subst (IsFor words) (same_Some (Compile files) c e) (as_form words t compile_form (compile_options files) same refl found.shows, found.other)

found_certify : (words : List Text) (t : Taken words) (c : Command) (q : Option CertifyFiles) → t.form ≡ certify_form → certify_in (rows t.given) ≡ q → option_map Certify q ≡ Some c → IsFor words c
found_certify words t c None same is e = absurd cc
found_certify words t c (Some files) same is e =
    subst (IsFor words) (same_Some (Certify files) c e) (as_form words t certify_form (certify_options files) same refl (certify_shows (rows t.given) files is))

found_generate : (words : List Text) (t : Taken words) (c : Command) (q : Option JobNumbers) → t.form ≡ generate_form → generate_in (rows t.given) ≡ q → option_map Generate q ≡ Some c → IsFor words c
found_generate words t c None same is e = absurd cc
found_generate words t c (Some job) same is e =
    let found = generate_shows (rows t.given) job is in
    subst (IsFor words) (same_Some (Generate job) c e)
    (record {
      seed = found.seed;
      size = found.size;
      written = as_form words t generate_form (generate_options found.seed found.size) same refl found.shows;
      seed_is = found.seed_is;
      size_is = found.size_is;
      least = found.least;
      most = found.most;
    })

found_grade : (words : List Text) (t : Taken words) (c : Command) (q : Option GradeFiles) → t.form ≡ grade_form → grade_in (rows t.given) ≡ q → option_map Grade q ≡ Some c → IsFor words c
found_grade words t c None same is e = absurd cc
found_grade words t c (Some files) same is e =
    subst (IsFor words) (same_Some (Grade files) c e) (as_form words t grade_form (grade_options files) same refl (grade_shows (rows t.given) files is))

found_configure : (words : List Text) (t : Taken words) (c : Command) (q : Option ConfigureFiles) → t.form ≡ configure_form → configure_in (rows t.given) ≡ q → option_map Configure q ≡ Some c → IsFor words c
found_configure words t c None same is e = absurd cc
found_configure words t c (Some files) same is e =
    let found = configure_shows (rows t.given) files is in
    subst (IsFor words) (same_Some (Configure files) c e)
    (record { texts = found.texts; written = as_form words t configure_form (configure_options files found.texts) same refl found.shows; numbers = found.are })

found_seek : (words : List Text) (t : Taken words) (c : Command) (q : Option SeekFiles) → t.form ≡ seek_form → seek_in (rows t.given) ≡ q → option_map Seek q ≡ Some c → IsFor words c
found_seek words t c None same is e = absurd cc
found_seek words t c (Some files) same is e =
    let found = seek_shows (rows t.given) files is in
    subst (IsFor words) (same_Some (Seek files) c e)
    (record { limit = found.limit; written = as_form words t seek_form (seek_options files found.limit) same refl found.shows; is = found.is; most = found.most; differ = found.differ })

-- by the tests of the names
record Named (t_form : Form) (replay scan compile certify generate grade configure seek : Bool) : Type 0 where
  is_replay : replay ≡ true → t_form ≡ replay_form
  is_scan : scan ≡ true → t_form ≡ scan_form
  is_compile : compile ≡ true → t_form ≡ compile_form
  is_certify : certify ≡ true → t_form ≡ certify_form
  is_generate : generate ≡ true → t_form ≡ generate_form
  is_grade : grade ≡ true → t_form ≡ grade_form
  is_configure : configure ≡ true → t_form ≡ configure_form
  is_seek : seek ≡ true → t_form ≡ seek_form

found_is : (words : List Text) (t : Taken words) (c : Command) (replay scan compile certify generate grade configure seek : Bool) → Named t.form replay scan compile certify generate grade configure seek →
    (if replay then option_map Replay (replay_in (rows t.given))
    else (if scan then option_map Scan (scan_in (rows t.given))
    else (if compile then option_map Compile (compile_in (rows t.given))
    else (if certify then option_map Certify (certify_in (rows t.given))
    else (if generate then option_map Generate (generate_in (rows t.given))
    else (if grade then option_map Grade (grade_in (rows t.given))
    else (if configure then option_map Configure (configure_in (rows t.given))
    else (if seek then option_map Seek (seek_in (rows t.given)) else None)))))))) ≡ Some c → IsFor words c
found_is words t c true scan compile certify generate grade configure seek named e = found_replay words t c (replay_in (rows t.given)) (named.is_replay refl) refl e
found_is words t c false true compile certify generate grade configure seek named e = found_scan words t c (scan_in (rows t.given)) (named.is_scan refl) refl e
found_is words t c false false true certify generate grade configure seek named e = found_compile words t c (compile_in (rows t.given)) (named.is_compile refl) refl e
found_is words t c false false false true generate grade configure seek named e = found_certify words t c (certify_in (rows t.given)) (named.is_certify refl) refl e
found_is words t c false false false false true grade configure seek named e = found_generate words t c (generate_in (rows t.given)) (named.is_generate refl) refl e
found_is words t c false false false false false true configure seek named e = found_grade words t c (grade_in (rows t.given)) (named.is_grade refl) refl e
found_is words t c false false false false false false true seek named e = found_configure words t c (configure_in (rows t.given)) (named.is_configure refl) refl e
found_is words t c false false false false false false false true named e = found_seek words t c (seek_in (rows t.given)) (named.is_seek refl) refl e
found_is words t c false false false false false false false false named e = absurd cc

-- words that are taken are those of the command that is found
taken_for : (words : List Text) (c : Command) → Taken words → command_in (subcommand_of dft_app words) ≡ Some c → IsFor words c
taken_for words c t is =
    found_is words t c (bytes_eq t.form.command (codes "replay")) (bytes_eq t.form.command (codes "scan")) (bytes_eq t.form.command (codes "compile"))
    (bytes_eq t.form.command (codes "certify")) (bytes_eq t.form.command (codes "generate")) (bytes_eq t.form.command (codes "grade")) (bytes_eq t.form.command (codes "configure"))
    (bytes_eq t.form.command (codes "seek"))
    (record {
      is_replay = λ e. form_named words t replay_form refl ((bytes_eq-Decides t.form.command (codes "replay")).0 e);
      is_scan = λ e. form_named words t scan_form refl ((bytes_eq-Decides t.form.command (codes "scan")).0 e);
      is_compile = λ e. form_named words t compile_form refl ((bytes_eq-Decides t.form.command (codes "compile")).0 e);
      is_certify = λ e. form_named words t certify_form refl ((bytes_eq-Decides t.form.command (codes "certify")).0 e);
      is_generate = λ e. form_named words t generate_form refl ((bytes_eq-Decides t.form.command (codes "generate")).0 e);
      is_grade = λ e. form_named words t grade_form refl ((bytes_eq-Decides t.form.command (codes "grade")).0 e);
      is_configure = λ e. form_named words t configure_form refl ((bytes_eq-Decides t.form.command (codes "configure")).0 e);
      is_seek = λ e. form_named words t seek_form refl ((bytes_eq-Decides t.form.command (codes "seek")).0 e);
    })
    (ap command_in (sym t.shown) ∙ is)

-- ---- what words are for

-- what is found in words that are taken is what they are for
pub are_for : (words : List Text) (q : Option Command) → list_all may_stand words ≡ true → fault_of dft_app words ≡ [] → q ≡ command_in (subcommand_of dft_app words) → AreFor words q
are_for words None stand passes is = λ c r. let found = (for_taken words c r).found in cc
are_for words (Some c) stand passes is = taken_for words c (taken words stand passes) (sym is)

-- words that `clap` refuses are no command
pub no_command : (words : List Text) → (list_all may_stand words ≡ true → fault_of dft_app words ≡ [] → ⊥) → AreFor words None
no_command words fails = λ c r. let t = for_taken words c r in fails t.stand t.passes

-- words are for one command at most
pub for_once : (words : List Text) (a b : Option Command) → AreFor words a → AreFor words b → a ≡ b
for_once words None None x y = refl
for_once words None (Some c) x y = absurd (x c y)
for_once words (Some c) None x y = absurd (y c x)
for_once words (Some c) (Some d) x y = sym (for_taken words c x).found ∙ (for_taken words d y).found

-- words that pass fail for want of memory alone
pub memory_alone : (kinds : Kinds) (e : Error) → HasKind kinds e → kinds ≡ [] → kind_of e ≡ kind.OutOfMemory
memory_alone kinds e has passes = ⊎_elim (λ m. m) (λ none. absurd none) (subst (λ k. HasKind k e) passes has)
