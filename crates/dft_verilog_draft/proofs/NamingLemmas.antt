-- What a name gives lies among the nets of the draft.
use Rattle.std.proofs.Common.{◌≡◌, ℕ, zero, suc, ◌+◌, ◌-◌, ◌<◌, ◌≤◌, Bool, true, false, cond, ◌&&◌, nat_le, nat_lt, List, [], ◌∷◌, ◌++◌, length, length-append, get_or, slice_get, option_and_then, Option, Some, None, Result, Ok, Err, refl, subst, arith}
use Rattle.std.specs.Prelude.{IfSome}
use Rattle.std.proofs.lemmas.Bool.Decides.{nat_tests}
use Rattle.std.specs.List.{All}
use Rattle.std.proofs.lemmas.List.Elements.{All-head, All-tail, All-append}
use Rattle.dft_base.specs.declared.place.Range.{Range}
use Rattle.dft_base.specs.Parser.{Checked}
use Rattle.dft_base.specs.Ranges.{falls, width, has_index, place_in, has_part}
use Rattle.dft_netlist.specs.declared.instance.Signal.{Signal}
use Rattle.dft_netlist.specs.declared.instance.Signal.TheVariants as signal
use Rattle.dft_netlist_text.specs.declared.text.Declared.{Declared}
use Rattle.dft_netlist_text.specs.declared.text.Cause.TheVariants as cause
use Rattle.dft_netlist_text.specs.declared.text.Fault.{Fault}
use Rattle.dft_netlist.specs.declared.error.Counted.TheVariants as counted
use Rattle.dft_netlist.specs.declared.limits.TheConstants.{MAX_NETS}
use Rattle.dft_netlist_text.specs.Steps.{fault}
use Rattle.dft_netlist_text.specs.declared.text.Meaning.{Meaning}
use Rattle.dft_netlist_text.specs.declared.text.Meaning.TheVariants as meaning
use Rattle.dft_netlist_text.specs.declared.text.Select.{Select}
use Rattle.dft_netlist_text.specs.declared.text.Select.TheVariants as select
use Rattle.dft_netlist_text.specs.declared.text.Shape.{Shape}
use Rattle.dft_netlist_text.specs.declared.text.Site.{Site}
use Rattle.dft_netlist_text.specs.Modules.{Draft, HeaderPort, meaning_of, declared_at, declare_nets, net_count, is_taken, with_name, with_nets, next_shape}
use Rattle.dft_netlist_text.specs.Expressions.{SelectedName, Operand, nets_of_shape, selected_in, selected, fitting, implied_net, bits_of_port, bits_of_meaning, bits_of_name, implies, is_whole}
use Rattle.dft_verilog_draft.specs.Drafts.{IsDraft, IsShapeWithin, IsMeaningWithin, IsDeclaredWithin}
use Rattle.dft_verilog_draft.specs.Operands.{Grows, IsBit, AreBits}
use Rattle.dft_verilog_draft.specs.Selects.{behind_bits}
use Rattle.dft_verilog_draft.proofs.DraftLemmas.{meaning-within}
use Rattle.dft_verilog_draft.proofs.OperandLemmas.{grows_not, bits_more}

-- ---- nets one after the other

bits_cons : (count : ℕ) (drives : Bool) (s : Signal) (rest : List Signal) → IsBit count drives s → AreBits count drives rest → (k : ℕ) (d : Signal) → k < length (s ∷ rest) → IsBit count drives (get_or (s ∷ rest) k d)
bits_cons count drives s rest here h zero d below = here
bits_cons count drives s rest here h (suc k) d below = h k d (omega arith)

-- nets below a number
nets_within : (count first n : ℕ) (drives : Bool) → first + n ≤ count → AreBits count drives (nets_of_shape first n)
nets_within count first zero drives le = λ k d below. absurd (omega arith)
nets_within count first (suc n) drives le = bits_cons count drives (signal.Net (record { 0 = first })) (nets_of_shape (suc first) n) (omega arith) (nets_within count (suc first) n drives (omega arith))

-- bits of any site, where they are there
abbrev AreThere : ℕ → Option (List Signal) → Type 0
AreThere count bits = IfSome bits (λ bits. (drives : Bool) → AreBits count drives bits)

-- ---- what is selected

place_by : (t : Bool) (l r i : ℕ) → nat_le r l ≡ t → cond t (nat_le r i && nat_le i l) (nat_le l i && nat_le i r) ≡ true → cond t (l - i) (i - l) < suc (cond t (l - r) (r - l))
place_by true l r i way has = grind (arith, nat_tests)
place_by false l r i way has = grind (arith, nat_tests)

-- a bit of a range lies in it
place_within : (r : Range) (i : ℕ) → has_index r i ≡ true → place_in r i < width r
place_within r i has = place_by (falls r) r.left r.right i refl has

bit_there : (t : Bool) (count first : ℕ) (r : Range) (i : ℕ) → has_index r i ≡ t → first + width r ≤ count → AreThere count (cond t (Some (nets_of_shape (first + place_in r i) 1)) None)
bit_there true count first r i has le = λ drives. let below = place_within r i has in nets_within count (first + place_in r i) 1 drives (omega arith)
bit_there false count first r i has le = tt

both : (a b c : Bool) → (a && b && c) ≡ true → (a ≡ true) × (b ≡ true) × (c ≡ true)
both true true true h = (refl, refl, refl)
both true true false h = absurd (cc)
both true false c h = absurd (cc)
both false b c h = absurd (cc)

part_there : (t : Bool) (count first : ℕ) (r part : Range) → has_part r part ≡ t → first + width r ≤ count →
    AreThere count (cond t (Some (nets_of_shape (first + place_in r part.left) (suc (place_in r part.right - place_in r part.left)))) None)
part_there true count first r part has le = λ drives.
    let all = both (has_index r part.left) (has_index r part.right) (nat_le (place_in r part.left) (place_in r part.right)) has in
    let last = place_within r part.right all.1 in
    let way : place_in r part.left ≤ place_in r part.right = grind (arith, nat_tests) in
    nets_within count (first + place_in r part.left) (suc (place_in r part.right - place_in r part.left)) drives (omega arith)
part_there false count first r part has le = tt

there_in : (count : ℕ) (s : Shape) (what : Select) (range : Option Range) → s.first.0 + net_count range ≤ count → AreThere count (selected_in s what range)
there_in count s select.Whole None le = λ drives. nets_within count s.first.0 1 drives le
there_in count s (select.Bit i) None le = tt
there_in count s (select.Part part) None le = tt
there_in count s select.Whole (Some r) le = λ drives. nets_within count s.first.0 (width r) drives le
there_in count s (select.Bit i) (Some r) le = bit_there (has_index r i) count s.first.0 r i refl le
there_in count s (select.Part part) (Some r) le = part_there (has_part r part) count s.first.0 r part refl le

-- what is selected of nets that are there is there
there : (count : ℕ) (s : Shape) (what : Select) → IsShapeWithin count s → AreThere count (selected s what)
there count s what le = there_in count s what s.range le

-- ---- what a name gives

-- the draft behind a name has no fewer nets, and the bits are among them
abbrev Kept : Draft → Operand → Type 0
Kept d o = Grows d o.0 × ((drives : Bool) → AreBits (length o.0.nets) drives o.1)

fitted : (place : ℕ) (d : Draft) (o : Operand) (bits : Option (List Signal)) → AreThere (length d.nets) bits → fitting place d bits ≡ Ok o → Kept d o
fitted place d o None w h = absurd (cc)
fitted place d o (Some bits) w h = let same : (d, bits) ≡ o = cc in subst (λ (x : Operand). Kept d x) same (grows_not d, w)

of_port : (named : SelectedName) (d : Draft) (o : Operand) (declared : Option Declared) → IsDeclaredWithin (length d.nets) declared → bits_of_port named d declared ≡ Ok o → Kept d o
of_port named d o None w h = absurd (cc)
of_port named d o (Some declared) w h = fitted named.place d o (selected declared.shape named.what) (there (length d.nets) declared.shape named.what w) h

one_more_net : (t u : Bool) (f g : Fault) (count : ℕ) (next new d : Draft) → Kept d (next, nets_of_shape count 1) → cond t (Err f) (cond u (Err g) (Ok next)) ≡ Ok new → Kept d (new, nets_of_shape count 1)
one_more_net true u f g count next new d kept h = absurd (cc)
one_more_net false true f g count next new d kept h = absurd (cc)
one_more_net false false f g count next new d kept h = let same : next ≡ new = cc in subst (λ (x : Draft). Kept d (x, nets_of_shape count 1)) same kept

new_net : (named : SelectedName) (d new : Draft) → declare_nets named.place named.word None d ≡ Ok new → Kept d (new, nets_of_shape (length d.nets) 1)
new_net named d new h =
    one_more_net (is_taken d named.word) (nat_lt MAX_NETS (length d.nets + 1)) (fault (cause.Taken named.word) named.place) (fault (cause.Full counted.Nets) named.place) (length d.nets)
    (with_nets named.word None (with_name named.word (meaning.Nets (next_shape d None)) d)) new d (
      record { library = refl; instances = refl; nets = omega (arith, length-append d.nets (named.word ∷ [])) },
      λ drives. nets_within (length (d.nets ++ named.word ∷ [])) (length d.nets) 1 drives (omega (arith, length-append d.nets (named.word ∷ []))),
    ) h

implied : (named : SelectedName) (d : Draft) (o : Operand) (outcome : Result Draft Fault) → declare_nets named.place named.word None d ≡ outcome → implied_net named d outcome ≡ Ok o → Kept d o
implied named d o (Err f) e h = absurd (cc)
implied named d o (Ok new) e h = let same : (new, nets_of_shape (length d.nets) 1) ≡ o = cc in subst (λ (x : Operand). Kept d x) same (new_net named d new e)

of_meaning : (may : Bool) (named : SelectedName) (d : Draft) (o : Operand) (m : Option Meaning) → IfSome m (IsMeaningWithin (length d.nets)) →
    ((port : ℕ) → IsDeclaredWithin (length d.nets) (declared_at d port)) → bits_of_meaning may named d m ≡ Ok o → Kept d o
of_meaning may named d o (Some (meaning.Nets shape)) w ports h = fitted named.place d o (selected shape named.what) (there (length d.nets) shape named.what w) h
of_meaning may named d o (Some (meaning.Port port)) w ports h = of_port named d o (declared_at d port) (ports port) h
of_meaning may named d o (Some meaning.Bit) w ports h = absurd (cc)
of_meaning true named d o (Some meaning.Instance) w ports h = absurd (cc)
of_meaning false named d o (Some meaning.Instance) w ports h = absurd (cc)
of_meaning true named d o None w ports h = implied named d o (declare_nets named.place named.word None d) refl h
of_meaning false named d o None w ports h = absurd (cc)

-- what a name gives, from what the draft keeps
pub named_kept : (at : Site) (depth : ℕ) (named : SelectedName) (d : Draft) (o : Operand) → IfSome (meaning_of d named.word) (IsMeaningWithin (length d.nets)) →
    ((port : ℕ) → IsDeclaredWithin (length d.nets) (declared_at d port)) → bits_of_name at depth named d ≡ Ok o → Kept d o
named_kept at depth named d o w ports h = of_meaning (implies at depth && is_whole named.what) named d o (meaning_of d named.word) w ports h

declared_in : (count : ℕ) (ports : List HeaderPort) → All (λ (p : HeaderPort). IsDeclaredWithin count p.declared) ports → (place : ℕ) →
    IsDeclaredWithin count (option_and_then (λ (p : HeaderPort). p.declared) (slice_get ports place))
declared_in count [] all place = tt
declared_in count (p ∷ ports) all zero = All-head (λ (x : HeaderPort). IsDeclaredWithin count x.declared) p ports all
declared_in count (p ∷ ports) all (suc place) = declared_in count ports (All-tail (λ (x : HeaderPort). IsDeclaredWithin count x.declared) p ports all) place

of_name : (at : Site) (depth : ℕ) (named : SelectedName) (d : Draft) (o : Operand) → IsDraft d → bits_of_name at depth named d ≡ Ok o → Kept d o
of_name at depth named d o keeps h = named_kept at depth named d o (meaning-within (length d.nets) d.names named.word keeps.names) (declared_in (length d.nets) d.ports keeps.ports) h

-- what is put behind the bits before
abbrev KeptBehind : Draft → List Signal → Draft → List Signal → Type 0
KeptBehind d before new all = Grows d new × ((drives : Bool) → AreBits (length d.nets) drives before → AreBits (length new.nets) drives all)

behind_kept : (outcome : Checked Fault Operand) (d new : Draft) (before all : List Signal) → ((o : Operand) → outcome ≡ Ok o → Kept d o) → behind_bits before outcome ≡ Ok (new, all) → KeptBehind d before new all
behind_kept (Err f) d new before all kept h = absurd (cc)
behind_kept (Ok o) d new before all kept h =
    let same : (o.0, before ++ o.1) ≡ (new, all) = cc in
    subst (λ (x : Operand). KeptBehind d before x.0 x.1) same (
      (kept o refl).0,
      λ drives h. All-append (λ (s : Signal). IsBit (length o.0.nets) drives s) before o.1
          (bits_more (length d.nets) (length o.0.nets) drives before (kept o refl).0.nets h) ((kept o refl).1 drives),
    )

-- behind a name the draft has no fewer nets
pub name_grows : (at : Site) (depth : ℕ) (named : SelectedName) (d new : Draft) (before all : List Signal) → IsDraft d → behind_bits before (bits_of_name at depth named d) ≡ Ok (new, all) → Grows d new
name_grows at depth named d new before all keeps h = (behind_kept (bits_of_name at depth named d) d new before all (λ o e. of_name at depth named d o keeps e) h).0

-- and the bits are among them
pub name_bits : (at : Site) (depth : ℕ) (named : SelectedName) (d new : Draft) (before all : List Signal) (drives : Bool) → IsDraft d → behind_bits before (bits_of_name at depth named d) ≡ Ok (new, all) →
    AreBits (length d.nets) drives before → AreBits (length new.nets) drives all
name_bits at depth named d new before all drives keeps h = (behind_kept (bits_of_name at depth named d) d new before all (λ o e. of_name at depth named d o keeps e) h).1 drives
