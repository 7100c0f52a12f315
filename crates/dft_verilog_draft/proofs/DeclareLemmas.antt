-- Declarations: what each gives where its tests pass or fail.
use Rattle.std.proofs.Common.{◌≡◌, ℕ, ◌+◌, ◌<◌, Bool, true, false, cond, List, ◌++◌, length, drop, is_some, nat_lt, nat_le, Option, Some, None, Ok, Err, refl, sym, ap, ◌∙◌, arith, length-append, not, subst}
use Rattle.std.proofs.lemmas.List.{length-map}
use Rattle.std.proofs.Math.Seq.{drop-append_seam}
use Rattle.std.proofs.lemmas.Bool.Decides.{nat_tests}
use Rattle.dft_base.specs.declared.place.Range.{Range}
use Rattle.dft_base.specs.Parser.{Checked}
use Rattle.dft_base.specs.Ranges.{width}
use Rattle.dft_netlist_text.specs.declared.text.Cause.TheVariants as cause
use Rattle.dft_netlist.specs.declared.error.Counted.TheVariants as counted
use Rattle.dft_netlist_text.specs.Steps.{fault}
use Rattle.dft_netlist_text.specs.declared.text.Fault.{Fault}
use Rattle.dft_netlist_text.specs.declared.text.Meaning.{Meaning}
use Rattle.dft_netlist.specs.declared.limits.TheConstants.{MAX_NETS, MAX_PORTS}
use Rattle.dft_netlist.specs.Names.{bit_names, bit_name, going_up, going_down, indices_of}
use Rattle.dft_netlist.proofs.BitLemmas.{up_length, down_length}
use Rattle.dft_netlist_text.specs.Modules.{Draft, net_count, names_of_bits, first_taken, free_bits, room_for_nets, with_nets, with_bits, next_shape}
use Rattle.dft_verilog_draft.specs.Free.{new_bits, unless_taken, with_bits_of, AreFreeBits}
use Rattle.dft_verilog_draft.specs.Drafts.{IsShapeWithin}
use Rattle.dft_verilog_draft.proofs.BitNameLemmas.{first_indices-all}
use Rattle.dft_netlist_text.specs.declared.text.Shape.{Shape}

-- ---- the tests

unless_ok : (t : Option (List ℕ)) (place : ℕ) (names got : List (List ℕ)) → unless_taken place t names ≡ Ok got → (t ≡ None) × (got ≡ names)
unless_ok None place names got e = let same : got ≡ names = cc in (refl, same)
unless_ok (Some w) place names got e = absurd (cc)

pub new_bits-ok : (place : ℕ) (word : List ℕ) (range : Option Range) (d : Draft) (got : List (List ℕ)) → new_bits place word range d ≡ Ok got → (first_taken d (names_of_bits word range) ≡ None) × (got ≡ bit_names word range)
new_bits-ok place word range d got e = unless_ok _ place _ got e

-- a name that is free, bits that are free and ports for which there is room pass their tests
pub name_by : (m : Option Meaning) (f : Fault) (next : Checked Fault Draft) → m ≡ None → cond (is_some m) (Err f) next ≡ next
name_by None f next h = refl
name_by (Some a) f next h = absurd (cc)

pub free_by : (t : Option (List ℕ)) (place : ℕ) (next : Checked Fault Draft) → t ≡ None → free_bits place t next ≡ next
free_by None place next h = refl
free_by (Some w) place next h = absurd (cc)

pub full_by : (full b : Bool) (f : Fault) (next : Checked Fault Draft) → full ≡ b → cond full (Err f) next ≡ cond b (Err f) next
full_by full b f next h = ap (λ (t : Bool). cond t (Err f) next) h

ports_by : (n m : ℕ) → n ≡ m → n < MAX_PORTS → nat_le MAX_PORTS m ≡ false
ports_by n m at few = grind (arith, nat_tests)

length_by : (rises : Bool) (from n : ℕ) → length (cond rises (going_up from n) (going_down from n)) ≡ n
length_by true from n = up_length from n
length_by false from n = down_length from n

-- a name has as many nets as names
pub length-bit_names : (word : List ℕ) (range : Option Range) → length (bit_names word range) ≡ net_count range
length-bit_names word None = refl
length-bit_names word (Some r) = length-map (indices_of r) (bit_name word) ∙ ap length (sym (first_indices-all r)) ∙ length_by (nat_le r.left r.right) r.left (width r)

-- whether the nets of a name are too many
pub is-full : (word : List ℕ) (range : Option Range) (d : Draft) (names : List (List ℕ)) (more : ℕ) (has b : Bool) → names ≡ bit_names word range → more ≡ length names → has ≡ not (nat_lt MAX_NETS (length d.nets + more)) → has ≡ not b → nat_lt MAX_NETS (length d.nets + net_count range) ≡ b
is-full word range d names more has b same count is was =
    let counted : more ≡ net_count range = count ∙ ap length same ∙ length-bit_names word range in
    sym (ap (λ (n : ℕ). nat_lt MAX_NETS (length d.nets + n)) counted) ∙ not_same (nat_lt MAX_NETS (length d.nets + more)) b (sym is ∙ was)
  where
    not_same : (x y : Bool) → not x ≡ not y → x ≡ y
    not_same true true h = refl
    not_same true false h = absurd (cc)
    not_same false true h = absurd (cc)
    not_same false false h = refl

-- the bits are free, and there is room for the nets or not
pub tests : (place : ℕ) (word : List ℕ) (range : Option Range) (d : Draft) (names : List (List ℕ)) (more : ℕ) (has b : Bool) (next : Checked Fault Draft)
    → new_bits place word range d ≡ Ok names → more ≡ length names → has ≡ not (nat_lt MAX_NETS (length d.nets + more)) → has ≡ not b
    → free_bits place (first_taken d (names_of_bits word range)) (room_for_nets place (net_count range) d next) ≡ cond b (Err (fault (cause.Full counted.Nets) place)) next
tests place word range d names more has b next made count is was =
    let bits = new_bits-ok place word range d names made in
    free_by (first_taken d (names_of_bits word range)) place _ bits.0
    ∙ full_by (nat_lt MAX_NETS (length d.nets + net_count range)) b _ next (is-full word range d names more has b bits.1 count is was)

-- the same of a name in a header with directions, for which there is room
pub port-tests : (place : ℕ) (word : List ℕ) (range : Option Range) (d : Draft) (names : List (List ℕ)) (more ports : ℕ) (has b : Bool) (f : Fault) (next : Checked Fault Draft)
    → new_bits place word range d ≡ Ok names → more ≡ length names → has ≡ not (nat_lt MAX_NETS (length d.nets + more)) → has ≡ not b → ports ≡ length d.ports → ports < MAX_PORTS
    → free_bits place (first_taken d (names_of_bits word range)) (cond (nat_le MAX_PORTS (length d.ports)) (Err f) (room_for_nets place (net_count range) d next)) ≡ cond b (Err (fault (cause.Full counted.Nets) place)) next
port-tests place word range d names more ports has b f next made count is was at few =
    let bits = new_bits-ok place word range d names made in
    let some : nat_le MAX_PORTS (length d.ports) ≡ false = ports_by ports (length d.ports) at few in
    free_by (first_taken d (names_of_bits word range)) place _ bits.0
    ∙ full_by (nat_le MAX_PORTS (length d.ports)) false f _ some
    ∙ full_by (nat_lt MAX_NETS (length d.nets + net_count range)) b _ next (is-full word range d names more has b bits.1 count is was)

-- the nets of a name that comes next are there once they are added
pub shape-within : (word : List ℕ) (range : Option Range) (d e : Draft) (s : Shape) (names : List (List ℕ)) → s ≡ next_shape d range → e ≡ record d { nets = d.nets ++ names } → names ≡ bit_names word range → IsShapeWithin (length e.nets) s
shape-within word range d e s names is grown same =
    let first : s.first.0 + net_count s.range ≡ length d.nets + net_count range = ap (λ (x : Shape). x.first.0 + net_count x.range) is in
    let all : length e.nets ≡ length (d.nets ++ names) = ap (λ (x : Draft). length x.nets) grown in
    omega (arith, first, all, length-append d.nets names, ap length same, length-bit_names word range)

-- bits that are free are so among the nets that were added
pub free-at : (range : Option Range) (x e : Draft) (nets names : List (List ℕ)) (first : ℕ) → e ≡ record x { nets = nets ++ names } → first ≡ length nets → AreFreeBits range x.names names → AreFreeBits range e.names (drop first e.nets)
free-at range x e nets names first grown at free =
    subst (λ (y : Draft). AreFreeBits range y.names (drop first y.nets)) (sym grown)
    (subst (λ (n : ℕ). AreFreeBits range x.names (drop n (nets ++ names))) (sym at)
    (subst (AreFreeBits range x.names) (sym (drop-append_seam nets names)) free))

-- ---- the draft that grows

bits_same : (range : Option Range) (word : List ℕ) (d : Draft) → with_bits_of range (bit_names word range) d ≡ with_bits (names_of_bits word range) d
bits_same None word d = refl
bits_same (Some r) word d = refl

-- nets behind those of x, and the names of their bits
pub with_nets-made : (word : List ℕ) (range : Option Range) (x d e : Draft) (names : List (List ℕ)) (first : ℕ) → d ≡ record x { nets = x.nets ++ names } → first ≡ length x.nets → names ≡ bit_names word range → e ≡ with_bits_of range (drop first d.nets) d → e ≡ with_nets word range x
with_nets-made word range x d e names first grown at same made =
    made ∙ ap (λ (n : ℕ). with_bits_of range (drop n d.nets) d) at
    ∙ ap (λ (y : Draft). with_bits_of range (drop (length x.nets) y.nets) y) (grown ∙ ap (λ (n : List (List ℕ)). record x { nets = x.nets ++ n }) same)
    ∙ ap (λ (n : List (List ℕ)). with_bits_of range n (record x { nets = x.nets ++ bit_names word range })) (drop-append_seam x.nets (bit_names word range))
    ∙ bits_same range word (record x { nets = x.nets ++ bit_names word range })
