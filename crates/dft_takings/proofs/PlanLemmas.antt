-- From what the parts of a fast pulse give to the pulse.
use Rattle.std.proofs.Common.{ℕ, Bool, true, false, List, [], ◌∷◌, ◌≡◌, ◌<◌, ◌≤◌, ◌++◌, ◌⊎◌, inl, inr, length, map, refl, sym, ap, ◌∙◌, subst, Option, None, Some, true≢false, arith, ◌&&◌}
use Rattle.std.specs.Prelude.{◌||◌, if◌then◌else◌}
use Rattle.std.proofs.Math.Dec.{leb}
use Rattle.std.proofs.lemmas.Bool.Decides.{leb_tells}
use Rattle.std.proofs.lemmas.List.{get_or_past}
use Rattle.std.proofs.lemmas.Bool.{or_left, or_right}
use Rattle.dft_base.specs.declared.tri.Tri.{Tri}
use Rattle.dft_base.specs.declared.tri.Tri.TheVariants.{Zero, One, Unknown}
use Rattle.dft_cells.specs.FlipFlops.{Scan, Forces}
use Rattle.dft_netlist.specs.Drivers.{Source, Net, Tied, Loose, nets_of}
use Rattle.dft_behavior.specs.Logic.{Cell, reads}
use Rattle.dft_behavior.specs.Settled.{value_from, value_given}
use Rattle.dft_netlist.specs.Orders.{Has}
use Rattle.dft_behavior.specs.Runs.{takes}
use Rattle.dft_abstract.specs.Cycle.{Pulse, IsLeast, after_pulse, level_before}
use Rattle.dft_takings.specs.Needs.{HasAll, IsStrobeClosed, still_from, chosen_reads, taken_reads, reads_at, reads_where, forced_reads, next_reads, IsStillOn, IsBeforeOn}
use Rattle.dft_takings.specs.Takes.{AreOrigins}
use Rattle.dft_takings.specs.Shows.{Shown, IsShownOn}
use Rattle.dft_takings.specs.Entries.{Entry, Keeps, Takes, Follows, Reads, Computes, entry_value}
use Rattle.dft_logic.specs.declared.circuit.Op.{Op}
use Rattle.dft_logic.specs.declared.circuit.Op.TheVariants.{Free}
use Rattle.dft_logic.specs.Values.{value_at}
use Rattle.dft_logic.specs.Circuit.{Circuit, meaning, op_at, logic_at, cell_of, cell_at, flag_at, IsCircuit}
use Rattle.dft_logic.specs.Circuit.{next_at}
use Rattle.dft_takings.specs.Ranks.{rank_of}
use Rattle.dft_takings.proofs.EntryLemmas.{pass_of_needed}
use Rattle.dft_takings.proofs.CircuitRanks.{circuit_ranked}
use Rattle.dft_takings.specs.EntryTables.{scan_needs, entry_needs, entry_for}
use Rattle.dft_logic.proofs.Writings.{cell_past}
use Rattle.dft_takings.specs.ShownTables.{edges_of}

-- ---- what a flip-flop needs

pub one_or_more : (k : ℕ) (source : Source) (sources : List Source) → Has (nets_of (source ∷ sources)) k → Has (nets_of (source ∷ [])) k ⊎ Has (nets_of sources) k
one_or_more k (Net net) sources h = elim h [ inl e ↦ inl (inl e) | inr rest ↦ inr rest ]
one_or_more k (Tied bit) sources h = inr h
one_or_more k (Loose i pin) sources h = inr h

first : (k : ℕ) (source : Source) (sources : List Source) → Has (nets_of (source ∷ [])) k → Has (nets_of (source ∷ sources)) k
first k (Net net) sources h = elim h [ inl e ↦ inl e | inr none ↦ absurd none ]
first k (Tied bit) sources h = absurd h
first k (Loose i pin) sources h = absurd h

second : (k : ℕ) (source : Source) (sources : List Source) → Has (nets_of sources) k → Has (nets_of (source ∷ sources)) k
second k (Net net) sources h = inr h
second k (Tied bit) sources h = h
second k (Loose i pin) sources h = h

has_left : (k : ℕ) (xs ys : List ℕ) → Has xs k → Has (xs ++ ys) k
has_left k [] ys h = absurd h
has_left k (x ∷ xs) ys h = elim h [ inl e ↦ inl e | inr rest ↦ inr (has_left k xs ys rest) ]

has_right : (k : ℕ) (xs ys : List ℕ) → Has ys k → Has (xs ++ ys) k
has_right k [] ys h = h
has_right k (x ∷ xs) ys h = inr (has_right k xs ys h)

enable_scan : (k : ℕ) (alone : Bool) (found : Option (Scan Source)) (scan : Scan Source) → found ≡ Some scan → Has (nets_of (scan.enable ∷ [])) k → Has (scan_needs alone found) k
enable_scan k alone None scan is h = absurd cc
enable_scan k true (Some s) scan is h = let e : s ≡ scan = cc in subst (λ (t : Scan Source). Has (nets_of (t.enable ∷ [])) k) (sym e) h
enable_scan k false (Some s) scan is h = let e : s ≡ scan = cc in first k s.enable (s.input ∷ []) (subst (λ (t : Scan Source). Has (nets_of (t.enable ∷ [])) k) (sym e) h)

enable_needed : (k : ℕ) (cell : Cell) (entry : Entry) (scan : Scan Source) → cell.takes.scan ≡ Some scan → Has (nets_of (scan.enable ∷ [])) k → Has (entry_needs cell entry) k
enable_needed k cell Keeps scan is h = enable_scan k true cell.takes.scan scan is h
enable_needed k cell (Takes value) scan is h = enable_scan k true cell.takes.scan scan is h
enable_needed k cell (Follows other) scan is h = enable_scan k true cell.takes.scan scan is h
enable_needed k cell (Reads net) scan is h = inr (enable_scan k true cell.takes.scan scan is h)
enable_needed k cell Computes scan is h = has_right k (nets_of (cell.takes.input ∷ [])) (scan_needs false cell.takes.scan) (enable_scan k false cell.takes.scan scan is h)

chosen_needed : (k : ℕ) (enable : Tri) (scan : Scan Source) (data_in : Source) → Has (nets_of (chosen_reads enable scan.input data_in)) k → Has (nets_of (data_in ∷ []) ++ nets_of (scan.enable ∷ scan.input ∷ [])) k
chosen_needed k Zero scan d h = has_left k (nets_of (d ∷ [])) (nets_of (scan.enable ∷ scan.input ∷ [])) h
chosen_needed k One scan d h = has_right k (nets_of (d ∷ [])) (nets_of (scan.enable ∷ scan.input ∷ [])) (second k scan.enable (scan.input ∷ []) h)
chosen_needed k Unknown scan d h = elim (one_or_more k scan.input (d ∷ []) h) [
  | inl si ↦ has_right k (nets_of (d ∷ [])) (nets_of (scan.enable ∷ scan.input ∷ [])) (second k scan.enable (scan.input ∷ []) si)
  | inr di ↦ has_left k (nets_of (d ∷ [])) (nets_of (scan.enable ∷ scan.input ∷ [])) di
]

taken_needed : (k : ℕ) (scan : Option (Scan Source)) (at : Source → Tri) (data_in : Source) → Has (nets_of (taken_reads scan at data_in)) k → Has (nets_of (data_in ∷ []) ++ scan_needs false scan) k
taken_needed k None at d h = has_left k (nets_of (d ∷ [])) [] h
taken_needed k (Some scan) at d h = elim (one_or_more k scan.enable (chosen_reads (at scan.enable) scan.input d) h) [
  | inl e ↦ has_right k (nets_of (d ∷ [])) (nets_of (scan.enable ∷ scan.input ∷ [])) (first k scan.enable (scan.input ∷ []) e)
  | inr rest ↦ chosen_needed k (at scan.enable) scan d rest
]

pressed_needed : (k : ℕ) (port : Tri) (sources : List Source) → Has (nets_of (reads_at port sources)) k → Has (nets_of sources) k
pressed_needed k Zero sources h = absurd h
pressed_needed k One sources h = h
pressed_needed k Unknown sources h = h

where_needed : (k : ℕ) (pin : Option ℕ) (ports : ℕ → Tri) (sources : List Source) → Has (nets_of (reads_where pin ports sources)) k → Has (nets_of sources) k
where_needed k None ports sources h = h
where_needed k (Some port) ports sources h = pressed_needed k (ports port) sources h

forced_needed : (k : ℕ) (forces : Forces ℕ) (ports : ℕ → Tri) (sources : List Source) → Has (nets_of (forced_reads forces ports sources)) k → Has (nets_of sources) k
forced_needed k forces ports sources h = where_needed k forces.preset ports sources (where_needed k forces.clear ports (reads_where forces.preset ports sources) h)

pub computes_needed : (k : ℕ) (cell : Cell) (ports : ℕ → Tri) (at : Source → Tri) → Has (nets_of (next_reads cell ports at)) k → Has (entry_needs cell Computes) k
computes_needed k cell ports at h = taken_needed k cell.takes.scan at cell.takes.input (forced_needed k cell.forces ports (taken_reads cell.takes.scan at cell.takes.input) h)

-- ---- the marked nets, and all past the end

abbrev pub needs_of : (count : ℕ) (marked : List Bool) → ℕ → Bool
needs_of count marked k = flag_at marked k || leb count k

pub or_only : (b c : Bool) → c ≡ false → (b || c) ≡ true → b ≡ true
or_only true c down is = refl
or_only false c down is = absurd (true≢false (sym is ∙ down))

pub has_needs : (count : ℕ) (marked : List Bool) (nets : List ℕ) → ((k : ℕ) → k < count → Has nets k → flag_at marked k ≡ true) → HasAll (needs_of count marked) nets
has_needs count marked [] each = tt
has_needs count marked (n ∷ ns) each = (
  elim (leb_tells count n) [ inl out ↦ or_right (flag_at marked n) (leb count n) out.0 | inr live ↦ or_left (flag_at marked n) (leb count n) (each n live.1 (inl refl)) ],
  has_needs count marked ns (λ k live h. each k live (inr h)),
)

all_needs : (count : ℕ) (marked : List Bool) (nets : List ℕ) → HasAll (flag_at marked) nets → HasAll (needs_of count marked) nets
all_needs count marked [] all = tt
all_needs count marked (n ∷ ns) all = (or_left (flag_at marked n) (leb count n) all.0, all_needs count marked ns all.1)

pub needs_closed : (x : Circuit) (marked : List Bool) → IsStrobeClosed (logic_at x) (flag_at marked) → IsStrobeClosed (logic_at x) (needs_of (length x.ops) marked)
unfolding logic_at
needs_closed x marked closed k need = elim (leb_tells (length x.ops) k) [
  | inl out ↦ (let P : Op → Type 0 = λ o. HasAll (needs_of (length x.ops) marked) (reads (meaning o)) in subst P (sym (get_or_past x.ops k Free out.1)) tt)
  | inr live ↦ all_needs (length x.ops) marked (reads (meaning (op_at x.ops k))) (closed k (or_only (flag_at marked k) (leb (length x.ops) k) live.0 need))
]

pub needs_on : (x : Circuit) (level : ℕ → Bool) (ports flops : ℕ → Tri) (marked : List Bool) (values : List Tri) → length values ≡ length x.ops → IsStillOn (logic_at x) level ports flops (flag_at marked) (value_at values) →
    IsStillOn (logic_at x) level ports flops (needs_of (length x.ops) marked) (value_at values)
unfolding logic_at
needs_on x level ports flops marked values len on k need = elim (leb_tells (length x.ops) k) [
  | inl out ↦ (let far : length values ≤ k = omega (arith, out.1, len) in
      get_or_past values k Unknown far
      ∙ sym (ap (λ (o : Op). value_given (still_from level ports flops (value_at values)) (value_at values) k (meaning o)) (get_or_past x.ops k Free out.1)))
  | inr live ↦ on k (or_only (flag_at marked k) (leb (length x.ops) k) live.0 need)
]

-- ---- entries of all flip-flops

abbrev or_keeps : Option Entry → Entry
or_keeps None = Keeps
or_keeps (Some entry) = entry

there : (found : Option Entry) (entry : Entry) → found ≡ Some entry → found ≡ Some (or_keeps found)
there None entry is = absurd cc
there (Some was) entry is = refl

-- past the end a flip-flop takes an unknown bit or keeps its value
abbrev past : (up : Bool) → Option Entry
past up = if up then Some (Takes Unknown) else Some Keeps

past_there : (up : Bool) → past up ≡ Some (or_keeps (past up))
past_there true = refl
past_there false = refl

past_reads : (up : Bool) (net : ℕ) → or_keeps (past up) ≡ Reads net → ⊥
past_reads true net is = absurd cc
past_reads false net is = absurd cc

past_computes : (up : Bool) → or_keeps (past up) ≡ Computes → ⊥
past_computes true is = absurd cc
past_computes false is = absurd cc

-- What the parts give comes to the phase at a least map.
pub planned : (x : Circuit) (p : Pulse) (origin : ℕ → Option ℕ) (shown : ℕ → Shown) (table : ℕ → Entry) (marked : List Bool) (values next : List Tri) → (is : IsCircuit x) → (len : length values ≡ length x.ops) →
    (origins : AreOrigins (logic_at x) (level_before p) origin) → (on : IsShownOn (logic_at x) (edges_of p.rising p.pulsed) (λ net. true) shown) → (closed : IsStrobeClosed (logic_at x) (flag_at marked)) → (settled : IsBeforeOn (logic_at x) p (flag_at marked) (value_at values)) →
    (has : ((c : ℕ) → c < length x.flops → entry_for (cell_at (map cell_of x.flops) c) p origin shown (value_at values) ≡ Some (table c))) →
    (marks : ((c : ℕ) → c < length x.flops → (k : ℕ) → k < length x.ops → Has (entry_needs (cell_at (map cell_of x.flops) c) (table c)) k → flag_at marked k ≡ true)) →
    (gives : ((c : ℕ) → c < length x.flops → value_at next c ≡ entry_value p.old (value_at values) (next_at (cell_at (map cell_of x.flops) c) p.ports (value_at values)) c (table c))) →
    (poss : ℕ → Tri) × ((view : ℕ → ℕ → Tri) × (IsLeast (logic_at x) p poss view × ((c : ℕ) → c < length x.flops → value_at next c ≡ after_pulse (logic_at x) p view c)))
unfolding logic_at
planned x p origin shown table marked values next is len origins on closed settled has marks gives =
    let v : ℕ → Tri = value_at values in
    let count : ℕ = length x.ops in
    let cells : ℕ → Cell = cell_at (map cell_of x.flops) in
    let found : Cell → Option Entry = λ cell. entry_for cell p origin shown v in
    let entries : ℕ → Entry = λ c. or_keeps (found (cells c)) in
    let same : (c : ℕ) → c < length x.flops → entries c ≡ table c = λ c live. ap or_keeps (has c live) in
    let given : (c : ℕ) → found (cells c) ≡ Some (entries c) = λ c. elim (leb_tells (length x.flops) c) [
      | inl out ↦ (let P : Cell → Type 0 = λ cell. found cell ≡ Some (or_keeps (found cell)) in subst P (sym (cell_past x.flops c out.1)) (past_there (p.pulsed 0 && takes p.rising false)))
      | inr live ↦ there (found (cells c)) (table c) (has c live.1)
    ] in
    let enables : (c : ℕ) (scan : Scan Source) → (cells c).takes.scan ≡ Some scan → HasAll (needs_of count marked) (nets_of (scan.enable ∷ [])) = λ c scan at. elim (leb_tells (length x.flops) c) [
      | inl out ↦ (let none : (cells c).takes.scan ≡ None = ap (λ (cell : Cell). cell.takes.scan) (cell_past x.flops c out.1) in absurd cc)
      | inr live ↦ has_needs count marked (nets_of (scan.enable ∷ [])) (λ k less h. marks c live.1 k less (enable_needed k (cells c) (table c) scan at h))
    ] in
    let reading : (c net : ℕ) → entries c ≡ Reads net → needs_of count marked net ≡ true = λ c net at. elim (leb_tells (length x.flops) c) [
      | inl out ↦ (let P : Cell → Type 0 = λ cell. or_keeps (found cell) ≡ Reads net in absurd (past_reads (p.pulsed 0 && takes p.rising false) net (subst P (cell_past x.flops c out.1) at)))
      | inr live ↦ (let N : Entry → Type 0 = λ e. Has (entry_needs (cells c) e) net in
          (has_needs count marked (net ∷ []) (λ k less h. elim h [
            | inl e ↦ subst (λ (i : ℕ). flag_at marked i ≡ true) (sym e) (marks c live.1 net (subst (λ (i : ℕ). i < count) e less) (subst N (sym at ∙ same c live.1) (inl refl)))
            | inr none ↦ absurd none
          ])).0)
    ] in
    let computing : (c : ℕ) → entries c ≡ Computes → HasAll (needs_of count marked) (nets_of (next_reads (cells c) p.ports (value_from v))) = λ c at. elim (leb_tells (length x.flops) c) [
      | inl out ↦ (let P : Cell → Type 0 = λ cell. or_keeps (found cell) ≡ Computes in absurd (past_computes (p.pulsed 0 && takes p.rising false) (subst P (cell_past x.flops c out.1) at)))
      | inr live ↦ has_needs count marked (nets_of (next_reads (cells c) p.ports (value_from v)))
          (λ k less h. (let N : Entry → Type 0 = λ e. Has (entry_needs (cells c) e) k in marks c live.1 k less (subst N (sym at ∙ same c live.1) (computes_needed k (cells c) p.ports (value_from v) h))))
    ] in
    let pass = pass_of_needed (logic_at x) (rank_of x) p origin shown (needs_of count marked) v entries (circuit_ranked x is) origins on (needs_closed x marked closed) (needs_on x (level_before p) p.ports p.old marked values len settled)
    given enables reading computing in (
      pass.0,
      (
        pass.1.0,
        (
          pass.1.1.0,
          λ c live. gives c live
              ∙ ap (entry_value p.old v (next_at (cells c) p.ports v) c) (sym (same c live)) ∙ sym (pass.1.1.1 c),
        ),
      ),
    )
