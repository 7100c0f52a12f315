-- The options of the command `seek`, from the rows that show them.
use Rattle.std.proofs.Common.{◌≡◌, ◌≤◌, ◌&&◌, ℕ, Bool, true, false, not, List, Option, Some, None, if◌then◌else◌, bytes_eq, codes, refl, sym, ap, ap₂, ◌∙◌, subst}
use Rattle.std.specs.Prelude.{nat_le}
use Rattle.std.specs.List.{AllByRecursion}
use Rattle.std.proofs.lemmas.Bool.{leb-true, le-leb, and_parts}
use Rattle.std.proofs.lemmas.Option.{same_Some}
use Rattle.std.proofs.lemmas.Slice.Eq.{bytes_eq-Decides}
use Rattle.clap.specs.Walk.{Row}
use Rattle.dft_command_line.specs.Words.{IsDecimal, SeekFiles, Text, seek_options}
use Rattle.dft_command_line.specs.CommandLine.{decimal_in, limited, perhaps_in, seek_from, seek_in, value_in}
use Rattle.dft_command_line.proofs.JobWords.{decimal_shown, shown_decimal}
use Rattle.dft_command_line.proofs.Taken.{Shows}
use Rattle.dft_command_line.proofs.Values.{perhaps_shown, shown_perhaps, shown_value, value_shown}

-- ---- the limit, and names that differ

told_apart : (a b : Text) (t : Bool) → bytes_eq a b ≡ t → (a ≡ b → ⊥) → not t ≡ true
told_apart a b true is other = absurd (other ((bytes_eq-Decides a b).0 is))
told_apart a b false is other = refl

apart : (a b : Text) → not (bytes_eq a b) ≡ true → a ≡ b → ⊥
apart a b h same = let e : bytes_eq a b ≡ true = (bytes_eq-Decides a b).1 same in let f : false ≡ true = ap not (sym e) ∙ h in cc

limited_is : (files : SeekFiles) → files.limit ≤ 1000000 → (files.out_cubes ≡ files.out_report → ⊥) → limited files ≡ Some files
limited_is files most differ =
    ap₂ (λ a b. if a && b then Some files else None) (le-leb files.limit 1000000 most) (told_apart files.out_cubes files.out_report (bytes_eq files.out_cubes files.out_report) refl differ)

record Limited (all files : SeekFiles) : Type 0 where
  same : all ≡ files
  most : files.limit ≤ 1000000
  differ : files.out_cubes ≡ files.out_report → ⊥

limited_parts : (all files : SeekFiles) → limited all ≡ Some files → Limited all files
limited_parts all files e = go (nat_le all.limit 1000000) (not (bytes_eq all.out_cubes all.out_report)) refl refl e
  where
    go : (a b : Bool) → nat_le all.limit 1000000 ≡ a → not (bytes_eq all.out_cubes all.out_report) ≡ b → (if a && b then Some all else None) ≡ Some files → Limited all files
    go false b p q e = absurd cc
    go true false p q e = absurd cc
    go true true p q e =
        let same = same_Some all files e in
        record {
          same = same;
          most = subst (λ (f : SeekFiles). f.limit ≤ 1000000) same (leb-true all.limit 1000000 p);
          differ = subst (λ (f : SeekFiles). f.out_cubes ≡ f.out_report → ⊥) same (apart all.out_cubes all.out_report q);
        }

-- ---- seek

pub shows_seek : (rs : List Row) (files : SeekFiles) (limit : Text) → AllByRecursion (Shows rs) (seek_options files limit) → IsDecimal 7 limit files.limit → files.limit ≤ 1000000 → (files.out_cubes ≡ files.out_report → ⊥) → seek_in rs ≡ Some files
shows_seek rs files limit all is most differ =
    (λ i. seek_from (perhaps_shown rs (codes "library") files.library all.1.1.1.1.1.1.0 i) (value_shown rs (codes "netlist") files.netlist all.0 i) (value_shown rs (codes "config") files.config all.1.0 i)
    (value_shown rs (codes "clock") files.clock all.1.1.0 i) (decimal_shown 7 rs (codes "limit") limit files.limit all.1.1.1.0 is i)
    (value_shown rs (codes "out-cubes") files.out_cubes all.1.1.1.1.0 i) (value_shown rs (codes "out-report") files.out_report all.1.1.1.1.1.0 i))
    ∙ limited_is files most differ

record SeekParts (l : Option (Option Text)) (n c k : Option Text) (m : Option ℕ) (u r : Option Text) (files : SeekFiles) : Type 0 where
  library_is : l ≡ Some files.library
  netlist_is : n ≡ Some files.netlist
  config_is : c ≡ Some files.config
  clock_is : k ≡ Some files.clock
  limit_is : m ≡ Some files.limit
  cubes_is : u ≡ Some files.out_cubes
  report_is : r ≡ Some files.out_report
  most : files.limit ≤ 1000000
  differ : files.out_cubes ≡ files.out_report → ⊥

seek_parts : (l : Option (Option Text)) (n c k : Option Text) (m : Option ℕ) (u r : Option Text) (files : SeekFiles) → seek_from l n c k m u r ≡ Some files → SeekParts l n c k m u r files
seek_parts None n c k m u r files e = absurd cc
seek_parts (Some l) None c k m u r files e = absurd cc
seek_parts (Some l) (Some n) None k m u r files e = absurd cc
seek_parts (Some l) (Some n) (Some c) None m u r files e = absurd cc
seek_parts (Some l) (Some n) (Some c) (Some k) None u r files e = absurd cc
seek_parts (Some l) (Some n) (Some c) (Some k) (Some m) None r files e = absurd cc
seek_parts (Some l) (Some n) (Some c) (Some k) (Some m) (Some u) None files e = absurd cc
seek_parts (Some l) (Some n) (Some c) (Some k) (Some m) (Some u) (Some r) files e =
    let all : SeekFiles = record { library = l; netlist = n; config = c; clock = k; limit = m; out_cubes = u; out_report = r } in
    let parts = limited_parts all files e in
    let same = parts.same in
    record {
      library_is = ap (λ (f : SeekFiles). Some f.library) same;
      netlist_is = ap (λ (f : SeekFiles). Some f.netlist) same;
      config_is = ap (λ (f : SeekFiles). Some f.config) same;
      clock_is = ap (λ (f : SeekFiles). Some f.clock) same;
      limit_is = ap (λ (f : SeekFiles). Some f.limit) same;
      cubes_is = ap (λ (f : SeekFiles). Some f.out_cubes) same;
      report_is = ap (λ (f : SeekFiles). Some f.out_report) same;
      most = parts.most;
      differ = parts.differ;
    }

-- rows that show the options of a search
pub record SeekShown (rs : List Row) (files : SeekFiles) : Type 0 where
  pub limit : Text
  pub shows : AllByRecursion (Shows rs) (seek_options files limit)
  pub is : IsDecimal 7 limit files.limit
  pub most : files.limit ≤ 1000000
  pub differ : files.out_cubes ≡ files.out_report → ⊥

pub seek_shows : (rs : List Row) (files : SeekFiles) → seek_in rs ≡ Some files → SeekShown rs files
seek_shows rs files e =
    let parts = seek_parts (perhaps_in (codes "library") rs) (value_in (codes "netlist") rs) (value_in (codes "config") rs) (value_in (codes "clock") rs) (decimal_in 7 (codes "limit") rs)
    (value_in (codes "out-cubes") rs) (value_in (codes "out-report") rs) files e in
    let limit = shown_decimal 7 rs (codes "limit") files.limit parts.limit_is in
    record {
      limit = limit.text;
      shows = (
        shown_value rs (codes "netlist") files.netlist parts.netlist_is,
        (
          shown_value rs (codes "config") files.config parts.config_is,
          (
            shown_value rs (codes "clock") files.clock parts.clock_is,
            (
              limit.shows,
              (
                shown_value rs (codes "out-cubes") files.out_cubes parts.cubes_is,
                (shown_value rs (codes "out-report") files.out_report parts.report_is, (shown_perhaps rs (codes "library") files.library parts.library_is, tt)),
              ),
            ),
          ),
        ),
      );
      is = limit.is;
      most = parts.most;
      differ = parts.differ;
    }
