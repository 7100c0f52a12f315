-- What the reader hears and holds.
use Rattle.std.specs.Prelude.{◌≡◌, Bool, true, false, map, Option, option_map, Result, Ok, Err, Some, None}
use Rattle.dft_base.specs.Name.{IsName}
use Rattle.dft_report_reader.specs.declared.heard.Heard.{Heard}
use Rattle.dft_report_reader.specs.declared.heard.Heard.TheVariants as heard
use Rattle.dft_report_reader.specs.declared.draft.Draft.{Draft}
use Rattle.dft_report_reader.specs.declared.draft.Pending.{Pending}
use Rattle.dft_report_reader.specs.Saying.{Said, Title, Counts, Chain, Scanned, Unscanned, Encoded, Unsolvable, Skipped, Sum}
use Rattle.dft_report_reader.specs.Reading.{Reading, Owing}

abbrev pub said_by : Heard → Said
said_by heard.Title = Title
said_by (heard.Counts header) = Counts header
said_by (heard.Chain chain length) = Chain chain length
said_by (heard.Scanned name domain stand) = Scanned name.now domain.now stand.chain stand.place stand.falling
said_by (heard.Unscanned name rule) = Unscanned name.now rule
said_by (heard.Encoded name pattern) = Encoded name.now pattern
said_by (heard.Unsolvable name sums) = Unsolvable name.now sums
said_by (heard.Skipped name cell) = Skipped name.now cell.now
said_by (heard.Sum name bit variables) = Sum name.now bit (map (λ word. word.now) variables.now)

-- its words are names
abbrev pub SaysNames : Said → Type 0
SaysNames Title = Unit {0}
SaysNames (Counts header) = Unit {0}
SaysNames (Chain chain length) = Unit {0}
SaysNames (Scanned name domain chain place falling) = IsName name × IsName domain
SaysNames (Unscanned name rule) = IsName name
SaysNames (Encoded name pattern) = IsName name
SaysNames (Unsolvable name sums) = IsName name
SaysNames (Skipped name cell) = IsName name × IsName cell
SaysNames (Sum name bit variables) = IsName name

abbrev pub owing_of : Pending → Owing
owing_of p = record { name = p.name; sums = p.sums.items; owed = p.owed }

abbrev pub reading_of : Draft → Reading
reading_of d = record {
  header = d.header;
  chains = d.chains.items;
  scanned = d.scanned.items;
  unscanned = d.unscanned.items;
  cubes = d.cubes.items;
  owing = option_map owing_of d.pending;
  stage = d.stage;
}

-- where the answer is true this is what is read then, and where it is false there is no such reading; nothing is said where memory runs out
abbrev pub Takes : {E : Type 0} → Option Reading → Result Bool E → Draft → Type 0
Takes next (Ok true) new = next ≡ Some (reading_of new)
Takes next (Ok false) new = next ≡ None
Takes next (Err error) new = Unit {0}
