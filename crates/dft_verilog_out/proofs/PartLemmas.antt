-- The lines of joins and of instances, one after another.
use Rattle.std.proofs.Common.{◌≡◌, ℕ, zero, suc, ◌+◌, ◌-◌, ◌<◌, ◌≤◌, Bool, true, false, List, [], ◌∷◌, ◌++◌, length, map, flat_map, get_or, Option, Some, None, refl, sym, ap, ◌∙◌, subst, arith, append_assoc, append-nil, length-append, slice_get}
use Rattle.std.specs.List.{filter_map, cons_option}
use Rattle.std.proofs.lemmas.Bool.Decides.{nat_tests}
use Rattle.std.proofs.lemmas.List.{length-map}
use Rattle.std.proofs.Math.Seq.{take-append_seam, drop-append_seam}
use Rattle.std.proofs.lemmas.Bool.{false_from_ne_true}
use Rattle.dft_base.specs.Lexing.{Text}
use Rattle.dft_base.proofs.ListLemmas.{get_there}
use Rattle.dft_cells.specs.declared.kind.Gate.{Gate}
use Rattle.dft_cells.specs.declared.kind.Gate.TheVariants as primitive
use Rattle.dft_cells.specs.declared.kind.Role.{Role}
use Rattle.dft_cells.specs.declared.kind.Role.TheVariants as role
use Rattle.dft_cells.specs.declared.cell.Pin.{Pin}
use Rattle.dft_cells.specs.declared.cell.Cell.{Cell}
use Rattle.dft_cells.specs.WellFormed.{TakesInputs, IsWellFormed, all_differ, pin_name}
use Rattle.dft_cells.specs.Pins.{takes_inputs}
use Rattle.dft_netlist.specs.declared.instance.Signal.{Signal}
use Rattle.dft_netlist.specs.declared.instance.Signal.TheVariants as signal
use Rattle.dft_netlist.specs.declared.instance.CellRef.{CellRef}
use Rattle.dft_netlist.specs.declared.instance.CellRef.TheVariants as cell_ref
use Rattle.dft_netlist.specs.declared.instance.Instance.{Instance}
use Rattle.dft_netlist.specs.declared.instance.Join.{Join}
use Rattle.dft_netlist.specs.declared.limits.TheConstants.{MAX_INSTANCES}
use Rattle.dft_netlist_text.specs.declared.text.Meaning.TheVariants as meaning
use Rattle.dft_netlist_text.specs.declared.text.Site.{Site}
use Rattle.dft_netlist_text.specs.declared.text.Site.TheVariants as site
use Rattle.dft_netlist.specs.Netlist.{Netlist}
use Rattle.dft_netlist.specs.Names.{IsNameIfAny, instance_name}
use Rattle.dft_netlist.specs.Drivers.{shape_of, shape_of_cell, gate_roles}
use Rattle.dft_netlist.specs.Sound.{is_primitive, IsLive, AreLive, IsInstance, IsConnected, IsAJoin, is_output}
use Rattle.dft_netlist.proofs.PinLemmas.{length-gate_roles}
use Rattle.dft_netlist_text.specs.Modules.{HeaderPort, TakenName, Draft}
use Rattle.dft_netlist_text.specs.Expressions.{drives}
use Rattle.dft_netlist_text.specs.Items.{gate_instance, cell_instance}
use Rattle.dft_cells.proofs.CellNames.{cell_is_named, pin_is_named}
use Rattle.dft_base.specs.Name.{IsName}
use Rattle.dft_verilog_out.specs.Named.{IsJoinedGate}
use Rattle.dft_verilog_out.specs.Written.{join_line, output_first, gate_line, cell_line, found_cell_line, instance_line}
use Rattle.dft_verilog_out.proofs.CountLemmas.{Once, look, words}
use Rattle.dft_verilog_out.proofs.DraftLemmas.{entry, free_at, words-append, name_instance-is, room_for_instance-is}
use Rattle.dft_verilog_out.proofs.FindLemmas.{find_cell-at, pin_place-at}
use Rattle.dft_verilog_out.proofs.LineLemmas.{Line, Lines, no_lines, lines_cons, join_read}
use Rattle.dft_verilog_out.proofs.InstanceLemmas.{Operands, IsGate, gate_form, named_gate_read, unnamed_gate_read, as_joined, IsPin, ArePins, signals-back, cell_form, cell_read}
use Rattle.dft_verilog_out.proofs.OperandLemmas.{net_at-kept, NetsAt, target_operand, signal_operand}
use Rattle.dft_verilog_out.proofs.PhaseLemmas.{stage}
use Rattle.dft_verilog_out.proofs.JoinedLemmas.{is_joined-connected}

-- ---- joins

no_constant : (at : Site) (s : Signal) → drives at ≡ false → (bit : Bool) → s ≡ signal.Constant bit → drives at ≡ false
no_constant at s free bit e = free

pub joins_read : (n : Netlist) (todo : List Join) (names : List TakenName) (ports : List HeaderPort) (nets : List Text) (done : List Join) (texts : List Text) → NetsAt names ports texts
    → ((place : ℕ) (join : Join) → slice_get todo place ≡ Some join → IsAJoin (length texts) join.target join.source)
    → Lines (length todo) (flat_map (join_line texts) todo) (stage n names ports nets [] done) (stage n names ports nets [] (done ++ todo))
joins_read n [] names ports nets done texts known stands =
    subst (λ (x : List Join). Lines 0 [] (stage n names ports nets [] done) (stage n names ports nets [] x)) (sym (append-nil done)) (no_lines (stage n names ports nets [] done))
joins_read n (j ∷ todo) names ports nets done texts known stands =
    let start = stage n names ports nets [] done in
    let mid = stage n names ports nets [] (done ++ j ∷ []) in
    let here = stands 0 j refl in
    let first = join_read texts j start (target_operand start site.Target texts j.target known here.target_live)
    (signal_operand start site.Source texts j.source known here.source_live here.connected (no_constant site.Source j.source refl)) in
    lines_cons (length todo) (join_line texts j) (flat_map (join_line texts) todo) start mid (stage n names ports nets [] ((done ++ j ∷ []) ++ todo)) (stage n names ports nets [] (done ++ j ∷ todo)) first
    (joins_read n todo names ports nets (done ++ j ∷ []) texts known (λ place join at. stands (suc place) join at))
    (ap (λ (x : List Join). stage n names ports nets [] x) (append_assoc done (j ∷ []) todo))

-- ---- gates

-- the inputs and the output of some pins
pub record Split (pins : List Signal) (count : ℕ) : Type 0 where
  pub ins : List Signal
  pub output : Signal
  pub is : pins ≡ ins ++ output ∷ []
  pub size : length ins ≡ count

split : (pins : List Signal) (count : ℕ) → length pins ≡ suc count → Split pins count
split [] count e = absurd (omega arith)
split (s ∷ []) count e = record { ins = []; output = s; is = refl; size = omega arith }
split (s ∷ t ∷ pins) zero e = absurd (omega arith)
split (s ∷ t ∷ pins) (suc count) e =
    let r = split (t ∷ pins) count (omega arith) in
    record { ins = s ∷ r.ins; output = r.output; is = ap (λ ss. s ∷ ss) r.is; size = ap suc r.size }

last_role : (inputs : ℕ) → slice_get (gate_roles inputs) inputs ≡ Some role.Output
last_role zero = refl
last_role (suc inputs) = last_role inputs

last_signal : (ins : List Signal) (s : Signal) (count : ℕ) → length ins ≡ count → slice_get (ins ++ s ∷ []) count ≡ Some s
last_signal [] s zero e = refl
last_signal [] s (suc count) e = absurd (omega arith)
last_signal (i ∷ ins) s zero e = absurd (omega arith)
last_signal (i ∷ ins) s (suc count) e = last_signal ins s count (omega arith)

takes_by : (k : Gate) (n : ℕ) → is_primitive k ≡ true → TakesInputs k n → takes_inputs k n ≡ true
takes_by primitive.Mux2 n p t = absurd (cc)
takes_by (primitive.Table number) n p t = absurd (cc)
takes_by primitive.Tie0 n p t = absurd (cc)
takes_by primitive.Tie1 n p t = absurd (cc)
takes_by _ n p t = grind (arith, nat_tests)

-- each of these is live and joined
abbrev AreJoined : ℕ → List Signal → Type 0
AreJoined count [] = Unit {0}
AreJoined count (s ∷ ss) = (IsLive count s × IsConnected s) × AreJoined count ss

joined_front : (count : ℕ) (ins : List Signal) (rest : List Signal) → AreLive count (ins ++ rest) → ((pin : ℕ) (to : Signal) → slice_get (ins ++ rest) pin ≡ Some to → IsConnected to) → AreJoined count ins
joined_front count [] rest live joined = tt
joined_front count (s ∷ ins) rest live joined = ((live 0 s refl, joined 0 s refl), joined_front count ins rest (λ pin to at. live (suc pin) to at) (λ pin to at. joined (suc pin) to at))

operands_of : (d : Draft) (texts : List Text) (ins : List Signal) → NetsAt d.names d.ports texts → AreJoined (length texts) ins → Operands d (site.Terminal false) texts ins
operands_of d texts [] known h = tt
operands_of d texts (s ∷ ins) known h = (signal_operand d (site.Terminal false) texts s known h.0.0 h.0.1 (no_constant (site.Terminal false) s refl), operands_of d texts ins known h.1)

-- a gate's pins, in two parts
gate_of : (d : Draft) (library : List Cell) (texts : List Text) (name : Option Text) (k : Gate) (inputs : ℕ) (pins : List Signal) (p : Split pins inputs) → NetsAt d.names d.ports texts
    → IsInstance library (length texts) name (cell_ref.Gate k inputs) pins → ((pin : ℕ) (to : Signal) → slice_get pins pin ≡ Some to → IsConnected to) → IsGate d texts k p.output p.ins
gate_of d library texts name k inputs pins p known stands joined =
    let last : slice_get pins inputs ≡ Some p.output = ap (λ (ss : List Signal). slice_get ss inputs) p.is ∙ last_signal p.ins p.output inputs p.size in
    let free : (bit : Bool) → p.output ≡ signal.Constant bit → ⊥ = λ bit e. stands.outputs inputs role.Output bit (last_role inputs) refl (last ∙ ap Some e) in
    let live : AreLive (length texts) (p.ins ++ p.output ∷ []) = subst (AreLive (length texts)) p.is stands.live in
    let both : (pin : ℕ) (to : Signal) → slice_get (p.ins ++ p.output ∷ []) pin ≡ Some to → IsConnected to = λ pin to at. joined pin to (ap (λ (ss : List Signal). slice_get ss pin) p.is ∙ at) in
    record {
      primitive = stands.fits.0;
      output_reads = signal_operand d (site.Terminal true) texts p.output known (stands.live inputs p.output last) (joined inputs p.output last) (λ bit e. absurd (free bit e));
      inputs_read = operands_of d texts p.ins known (joined_front (length texts) p.ins (p.output ∷ []) live both);
      fits = ap (takes_inputs k) p.size ∙ takes_by k inputs stands.fits.0 stands.fits.1;
    }

first_is : (ins : List Signal) (output : Signal) → output_first (ins ++ output ∷ []) ≡ output ∷ ins
first_is ins output =
    let e : length (ins ++ output ∷ []) - 1 ≡ length ins = omega (arith, length-append ins (output ∷ [])) in
    rw (e, drop-append_seam ins (output ∷ []), take-append_seam ins (output ∷ [])) refl

gate_line-is : (texts : List Text) (k : Gate) (i : Instance) (ins : List Signal) (output : Signal) → i.pins ≡ ins ++ output ∷ [] → gate_line texts k i ≡ gate_form texts k i.name output ins
unfolding gate_line
gate_line-is texts k i ins output e = rw (e, first_is ins output) refl

-- ---- cells

-- what is known of the pins of a cell
record OfCell (d : Draft) (texts : List Text) (cell : Cell) (signals : List Signal) : Type 0 where
  nets : NetsAt d.names d.ports texts
  names : (place : ℕ) (pin : Pin) → slice_get cell.pins place ≡ Some pin → IsName pin.name
  differ : all_differ (map pin_name cell.pins) ≡ true
  live : AreLive (length texts) signals
  outputs : (place : ℕ) (pin : Pin) (bit : Bool) → slice_get cell.pins place ≡ Some pin → slice_get signals place ≡ Some (signal.Constant bit) → is_output pin.role ≡ false

pin_of : (d : Draft) (texts : List Text) (cell : Cell) (signals : List Signal) (place : ℕ) (pin : Pin) (to : Signal) → OfCell d texts cell signals → slice_get cell.pins place ≡ Some pin → slice_get signals place ≡ Some to → IsPin d texts cell place pin to
pin_of d texts cell signals place pin to c at is = record {
  found = pin_place-at cell place pin c.differ at;
  at = at;
  name = λ joined. c.names place pin at;
  reads = λ joined. signal_operand d (site.Pin (is_output pin.role)) texts to c.nets (c.live place to is) (is_joined-connected to joined) (λ bit e. c.outputs place pin bit at (is ∙ ap Some e));
}

pins_of : (d : Draft) (texts : List Text) (cell : Cell) (all : List Signal) (place : ℕ) (pins : List Pin) (signals : List Signal) → OfCell d texts cell all → length signals ≡ length pins
    → ((k : ℕ) (pin : Pin) → slice_get pins k ≡ Some pin → slice_get cell.pins (place + k) ≡ Some pin) → ((k : ℕ) (to : Signal) → slice_get signals k ≡ Some to → slice_get all (place + k) ≡ Some to)
    → ArePins d texts cell place pins signals
pins_of d texts cell all place [] [] c w ps ss = tt
pins_of d texts cell all place [] (to ∷ signals) c w ps ss = absurd (omega arith)
pins_of d texts cell all place (pin ∷ pins) [] c w ps ss = absurd (omega arith)
pins_of d texts cell all place (pin ∷ pins) (to ∷ signals) c w ps ss =
    let here : place + 0 ≡ place = omega arith in (
      pin_of d texts cell all place pin to c (ap (slice_get cell.pins) (sym here) ∙ ps 0 pin refl) (ap (slice_get all) (sym here) ∙ ss 0 to refl),
      pins_of d texts cell all (suc place) pins signals c (omega arith)
          (λ k p at. let e : suc place + k ≡ place + suc k = omega arith in ap (slice_get cell.pins) e ∙ ps (suc k) p at)
          (λ k s at. let e : suc place + k ≡ place + suc k = omega arith in ap (slice_get all) e ∙ ss (suc k) s at),
    )

from_zero : {X : Type 0} (xs : List X) (k : ℕ) (x : X) → slice_get xs k ≡ Some x → slice_get xs (0 + k) ≡ Some x
from_zero xs k x at = let e : 0 + k ≡ k = omega arith in ap (slice_get xs) e ∙ at

cell_line-is : (texts : List Text) (cell : Cell) (w : Text) (ref : CellRef) (pins : List Signal) → cell_line texts cell (record { name = Some w; cell = ref; pins = pins }) ≡ cell_form texts cell w pins
unfolding cell_line
cell_line-is texts cell w ref pins = refl

role_at : (pins : List Pin) (k : ℕ) (pin : Pin) → slice_get pins k ≡ Some pin → slice_get (map (λ (p : Pin). p.role) pins) k ≡ Some pin.role
role_at [] k pin at = absurd (cc)
role_at (p ∷ pins) zero pin at = let e : p ≡ pin = cc in ap (λ (x : Pin). Some x.role) e
role_at (p ∷ pins) (suc k) pin at = role_at pins k pin at

-- ---- instances

abbrev inst : Option Text → CellRef → List Signal → Instance
inst name cell pins = record { name = name; cell = cell; pins = pins }

abbrev pub own_entries : Option Text → List TakenName
own_entries None = []
own_entries (Some w) = entry w meaning.Instance ∷ []

pub nets_kept : (names more : List TakenName) (ports : List HeaderPort) (texts : List Text) → NetsAt names ports texts → NetsAt (names ++ more) ports texts
nets_kept names more ports texts known k lt = net_at-kept names more ports (get_or texts k []) k (known k lt)

-- an instance, and what it needs to be written and read
pub record IsReadable (library : List Cell) (count : ℕ) (i : Instance) : Type 0 where
  pub stands : IsInstance library count i.name i.cell i.pins
  pub own : IsNameIfAny i.name
  pub joined : IsJoinedGate i

made_gate : (k : Gate) (name : Option Text) (inputs : ℕ) (pins ins : List Signal) (output : Signal) → length ins ≡ inputs → pins ≡ ins ++ output ∷ [] → gate_instance k name output ins ≡ inst name (cell_ref.Gate k inputs) pins
made_gate k name inputs pins ins output size is = ap (λ m. inst name (cell_ref.Gate k m) (ins ++ output ∷ [])) size ∙ ap (λ (ss : List Signal). inst name (cell_ref.Gate k inputs) ss) (sym is)

instance_step : (n : Netlist) (name : Option Text) (ref : CellRef) (pins : List Signal) (names : List TakenName) (ports : List HeaderPort) (nets : List Text) (done : List Instance) (joins : List Join) (texts : List Text)
    → IsWellFormed n.library → IsReadable n.library (length texts) (inst name ref pins) → NetsAt names ports texts → ((w : Text) → name ≡ Some w → look names w ≡ None) → length done < MAX_INSTANCES
    → Line (instance_line n.library texts (inst name ref pins)) (stage n names ports nets done joins) (stage n (names ++ own_entries name) ports nets (done ++ inst name ref pins ∷ []) joins)
instance_step n (Some w) (cell_ref.Gate k inputs) pins names ports nets done joins texts well r known free room =
    let start = stage n names ports nets done joins in
    let named = stage n (names ++ entry w meaning.Instance ∷ []) ports nets done joins in
    let p = split pins inputs (r.stands.width ∙ length-gate_roles inputs) in
    let g = gate_of named n.library texts (Some w) k inputs pins p (nets_kept names (entry w meaning.Instance ∷ []) ports texts known) r.stands r.joined in
    let line = named_gate_read k start named w texts p.output p.ins g r.own (λ place. name_instance-is place w start (free w refl) room) in
    let made = made_gate k (Some w) inputs pins p.ins p.output p.size p.is in
    subst (λ (text : Text). Line text start (stage n (names ++ entry w meaning.Instance ∷ []) ports nets (done ++ inst (Some w) (cell_ref.Gate k inputs) pins ∷ []) joins)) (sym (gate_line-is texts k (inst (Some w) (cell_ref.Gate k inputs) pins) p.ins p.output p.is))
    (subst (λ (i : Instance). Line (gate_form texts k (Some w) p.output p.ins) start (stage n (names ++ entry w meaning.Instance ∷ []) ports nets (done ++ i ∷ []) joins)) made line)
instance_step n None (cell_ref.Gate k inputs) pins names ports nets done joins texts well r known free room =
    let start = stage n names ports nets done joins in
    let p = split pins inputs (r.stands.width ∙ length-gate_roles inputs) in
    let g = gate_of start n.library texts None k inputs pins p known r.stands r.joined in
    let line = unnamed_gate_read k start texts p.output p.ins g (λ place. room_for_instance-is place start room) in
    let made = made_gate k None inputs pins p.ins p.output p.size p.is in
    subst (λ (x : List TakenName). Line (instance_line n.library texts (inst None (cell_ref.Gate k inputs) pins)) start (stage n x ports nets (done ++ inst None (cell_ref.Gate k inputs) pins ∷ []) joins)) (sym (append-nil names))
    (subst (λ (text : Text). Line text start (stage n names ports nets (done ++ inst None (cell_ref.Gate k inputs) pins ∷ []) joins)) (sym (gate_line-is texts k (inst None (cell_ref.Gate k inputs) pins) p.ins p.output p.is))
    (subst (λ (i : Instance). Line (gate_form texts k None p.output p.ins) start (stage n names ports nets (done ++ i ∷ []) joins)) made line))
instance_step n None (cell_ref.Library id) pins names ports nets done joins texts well r known free room = absurd (let f = r.stands.fits.1 in cc)
instance_step n (Some w) (cell_ref.Library id) pins names ports nets done joins texts well r known free room =
    let start = stage n names ports nets done joins in
    let named = stage n (names ++ entry w meaning.Instance ∷ []) ports nets done joins in
    let at = get_there n.library id.0 r.stands.fits.0 in
    let cell = at.0 in
    let is_cell = well.each id.0 cell at.1 in
    let roles : (shape_of n.library (cell_ref.Library id)).roles ≡ map (λ (p : Pin). p.role) cell.pins = ap (λ (o : Option Cell). (shape_of_cell o).roles) at.1 in
    let width : length pins ≡ length cell.pins = r.stands.width ∙ ap length roles ∙ length-map cell.pins (λ (p : Pin). p.role) in
    let c : OfCell named texts cell pins = record {
      nets = nets_kept names (entry w meaning.Instance ∷ []) ports texts known;
      names = λ place pin there. pin_is_named cell place pin is_cell there;
      differ = is_cell.differ;
      live = r.stands.live;
      outputs = λ place pin bit here to.
          false_from_ne_true (is_output pin.role) (λ out. r.stands.outputs place pin.role bit (ap (λ (rs : List Role). slice_get rs place) roles ∙ role_at cell.pins place pin here) out to);
    } in
    let line = cell_read start named texts id cell w pins (find_cell-at n.library id.0 cell well.names at.1) at.1 (cell_is_named cell is_cell) r.own (λ place. name_instance-is place w start (free w refl) room)
    (pins_of named texts cell pins 0 cell.pins pins c width (from_zero cell.pins) (from_zero pins)) width in
    let made : cell_instance id w (map as_joined pins) ≡ inst (Some w) (cell_ref.Library id) pins = ap (λ (ss : List Signal). inst (Some w) (cell_ref.Library id) ss) (signals-back pins) in
    let text : instance_line n.library texts (inst (Some w) (cell_ref.Library id) pins) ≡ cell_form texts cell w pins =
    ap (λ (o : Option Cell). found_cell_line texts o (inst (Some w) (cell_ref.Library id) pins)) at.1 ∙ cell_line-is texts cell w (cell_ref.Library id) pins in
    subst (λ (t : Text). Line t start (stage n (names ++ entry w meaning.Instance ∷ []) ports nets (done ++ inst (Some w) (cell_ref.Library id) pins ∷ []) joins)) (sym text)
    (subst (λ (i : Instance). Line (cell_form texts cell w pins) start (stage n (names ++ entry w meaning.Instance ∷ []) ports nets (done ++ i ∷ []) joins)) made line)

abbrev pub instance_entries : List Instance → List TakenName
instance_entries [] = []
instance_entries (i ∷ is) = own_entries i.name ++ instance_entries is

own_words : (names : List TakenName) (name : Option Text) (rest : List Text) → words names ++ cons_option name rest ≡ words (names ++ own_entries name) ++ rest
own_words names None rest = ap (λ (es : List TakenName). words es ++ rest) (sym (append-nil names))
own_words names (Some w) rest = sym (append_assoc (words names) (w ∷ []) rest) ∙ ap (λ ws. ws ++ rest) (sym (words-append names (entry w meaning.Instance ∷ [])))

own_free : (names : List TakenName) (name : Option Text) (rest : List Text) → Once (words names ++ cons_option name rest) → (w : Text) → name ≡ Some w → look names w ≡ None
own_free names None rest once w e = absurd (cc)
own_free names (Some v) rest once w e = let same : v ≡ w = cc in subst (λ x. look names x ≡ None) same (free_at names v rest once)

pub instances_read : (n : Netlist) (todo : List Instance) (names : List TakenName) (ports : List HeaderPort) (nets : List Text) (done : List Instance) (joins : List Join) (texts : List Text)
    → IsWellFormed n.library → ((place : ℕ) (i : Instance) → slice_get todo place ≡ Some i → IsReadable n.library (length texts) i) → NetsAt names ports texts → Once (words names ++ filter_map instance_name todo) → length done + length todo ≤ MAX_INSTANCES
    → Lines (length todo) (flat_map (instance_line n.library texts) todo) (stage n names ports nets done joins) (stage n (names ++ instance_entries todo) ports nets (done ++ todo) joins)
instances_read n [] names ports nets done joins texts well r known once room =
    subst (λ (x : List TakenName). Lines 0 [] (stage n names ports nets done joins) (stage n x ports nets (done ++ []) joins)) (sym (append-nil names))
    (subst (λ (x : List Instance). Lines 0 [] (stage n names ports nets done joins) (stage n names ports nets x joins)) (sym (append-nil done)) (no_lines (stage n names ports nets done joins)))
instances_read n (i ∷ todo) names ports nets done joins texts well r known once room =
    let rest : List Text = filter_map instance_name todo in
    let start = stage n names ports nets done joins in
    let mid = stage n (names ++ own_entries i.name) ports nets (done ++ i ∷ []) joins in
    let first = instance_step n i.name i.cell i.pins names ports nets done joins texts well (r 0 i refl) known (own_free names i.name rest once) (omega arith) in
    let more = instances_read n todo (names ++ own_entries i.name) ports nets (done ++ i ∷ []) joins texts well (λ place j at. r (suc place) j at) (nets_kept names (own_entries i.name) ports texts known)
    (subst Once (own_words names i.name rest) once) (omega (arith, length-append done (i ∷ []))) in
    lines_cons (length todo) (instance_line n.library texts i) (flat_map (instance_line n.library texts) todo) start mid
    (stage n ((names ++ own_entries i.name) ++ instance_entries todo) ports nets ((done ++ i ∷ []) ++ todo) joins) (stage n (names ++ instance_entries (i ∷ todo)) ports nets (done ++ i ∷ todo) joins) first more
    (rw (append_assoc names (own_entries i.name) (instance_entries todo), append_assoc done (i ∷ []) todo) refl)
