-- The written form, one part more.
use Rattle.std.proofs.Common.{◌≡◌, ℕ, zero, suc, ◌+◌, ◌<◌, ◌≤◌, true, false, List, [], ◌∷◌, ◌++◌, length, map, flat_map, drop, get_or, codes, Option, Some, None, refl, sym, ap, ◌∙◌, arith, append_assoc, add-one, slice_get, length-append, subst}
use Rattle.std.proofs.lemmas.List.{length-map}
use Rattle.dft_base.specs.declared.place.Range.{Range}
use Rattle.dft_base.specs.Lexing.{Text}
use Rattle.dft_cells.specs.declared.cell.Pin.{Pin}
use Rattle.dft_netlist.specs.declared.port.Port.{Port}
use Rattle.dft_netlist.specs.declared.instance.Signal.{Signal}
use Rattle.dft_netlist.specs.Names.{bit_name, bit_names, indices_of}
use Rattle.std.proofs.Math.Seq.{drop-append_seam}
use Rattle.dft_cells.specs.declared.cell.Cell.{Cell}
use Rattle.dft_netlist.specs.declared.instance.Instance.{Instance}
use Rattle.dft_netlist.specs.declared.instance.Join.{Join}
use Rattle.dft_netlist.specs.Netlist.{Netlist}
use Rattle.dft_netlist.specs.Sound.{bit_names_of, IsNetlist, IsAJoin, IsInstance}
use Rattle.dft_base.specs.Name.{IsName}
use Rattle.dft_verilog_out.specs.Written.{name_text, bit_select_text, bit_texts, port_texts, list_text_behind, connection_text, is_joined, connection_texts, wire_names, net_texts, module_line, port_line, wire_line, join_line, instance_line, body, written}

-- ---- the connections from a place on

joined_next : (nets : List Text) (pins : List Pin) (signals : List Signal) (k : ℕ) (p : Pin) (s : Signal) → k < length pins → k < length signals → is_joined (get_or signals k s) ≡ true
    → connection_texts nets (drop k pins) (drop k signals) ≡ connection_text nets (get_or pins k p).name (get_or signals k s) ∷ connection_texts nets (drop (suc k) pins) (drop (suc k) signals)
joined_next nets [] signals k p s a b is = absurd (omega arith)
joined_next nets (x ∷ pins) [] k p s a b is = absurd (omega arith)
joined_next nets (x ∷ pins) (y ∷ signals) zero p s a b is = rw is refl
joined_next nets (x ∷ pins) (y ∷ signals) (suc k) p s a b is = joined_next nets pins signals k p s (omega arith) (omega arith) is

unjoined_next : (nets : List Text) (pins : List Pin) (signals : List Signal) (k : ℕ) (s : Signal) → k < length pins → k < length signals → is_joined (get_or signals k s) ≡ false
    → connection_texts nets (drop k pins) (drop k signals) ≡ connection_texts nets (drop (suc k) pins) (drop (suc k) signals)
unjoined_next nets [] signals k s a b is = absurd (omega arith)
unjoined_next nets (x ∷ pins) [] k s a b is = absurd (omega arith)
unjoined_next nets (x ∷ pins) (y ∷ signals) zero s a b is = rw is refl
unjoined_next nets (x ∷ pins) (y ∷ signals) (suc k) s a b is = unjoined_next nets pins signals k s (omega arith) (omega arith) is

-- a pin that is joined is written
pub connections-joined : (nets : List Text) (pins : List Pin) (signals : List Signal) (k : ℕ) (p : Pin) (s : Signal) (old mid new before after whole : Text)
    → after ≡ codes ", " → k < length pins → k < length signals → is_joined (get_or signals k s) ≡ true → mid ≡ old ++ before → new ≡ mid ++ connection_text nets (get_or pins k p).name (get_or signals k s)
    → old ++ list_text_behind before (connection_texts nets (drop k pins) (drop k signals)) ≡ whole
    → new ++ list_text_behind after (connection_texts nets (drop (k + 1) pins) (drop (k + 1) signals)) ≡ whole
connections-joined nets pins signals k p s old mid new before after whole comma a b is m n e =
    let here : Text = connection_text nets (get_or pins k p).name (get_or signals k s) in
    let rest : Text = list_text_behind (codes ", ") (connection_texts nets (drop (suc k) pins) (drop (suc k) signals)) in
    rw (add-one, n, m, comma) (append_assoc (old ++ before) here rest ∙ append_assoc old before (here ++ rest) ∙ ap (λ cs. old ++ list_text_behind before cs) (sym (joined_next nets pins signals k p s a b is)) ∙ e)

-- another is not
pub connections-unjoined : (nets : List Text) (pins : List Pin) (signals : List Signal) (k : ℕ) (s : Signal) (old before whole : Text) → k < length pins → k < length signals → is_joined (get_or signals k s) ≡ false
    → old ++ list_text_behind before (connection_texts nets (drop k pins) (drop k signals)) ≡ whole
    → old ++ list_text_behind before (connection_texts nets (drop (k + 1) pins) (drop (k + 1) signals)) ≡ whole
connections-unjoined nets pins signals k s old before whole a b is e =
    rw add-one (ap (λ cs. old ++ list_text_behind before cs) (sym (unjoined_next nets pins signals k s a b is)) ∙ e)

-- ---- the texts of nets

pub length-bit_texts : (name : Text) (range : Option Range) → length (bit_texts name range) ≡ length (bit_names name range)
length-bit_texts name None = refl
length-bit_texts name (Some range) = length-map (indices_of range) (bit_select_text name) ∙ sym (length-map (indices_of range) (bit_name name))

pub length-port_texts : (ports : List Port) → length (flat_map port_texts ports) ≡ length (bit_names_of ports)
length-port_texts [] = refl
length-port_texts (port ∷ ports) =
    let one = length-bit_texts port.name port.range in
    let more = length-port_texts ports in
    omega (arith, length-append (port_texts port) (flat_map port_texts ports), length-append (bit_names port.name port.range) (bit_names_of ports))

-- one more of those behind a place
map_next : {X : Type 0} (f : X → Text) (xs : List X) (k : ℕ) (x : X) → slice_get xs k ≡ Some x → map f (drop k xs) ≡ f x ∷ map f (drop (suc k) xs)
map_next f [] k x h = absurd (cc)
map_next f (y ∷ xs) zero x h = let e : y ≡ x = cc in ap (λ z. f z ∷ map f xs) e
map_next f (y ∷ xs) (suc k) x h = map_next f xs k x h

pub map-drop_one : {X : Type 0} (f : X → Text) (xs : List X) (k : ℕ) (x : X) → slice_get xs k ≡ Some x → map f (drop k xs) ≡ f x ∷ map f (drop (k + 1) xs)
map-drop_one f xs k x h = rw add-one (map_next f xs k x h)

pub map-drop_none : {X : Type 0} (f : X → Text) (xs : List X) (k : ℕ) → length xs ≤ k → map f (drop k xs) ≡ []
map-drop_none f [] zero h = refl
map-drop_none f [] (suc k) h = refl
map-drop_none f (x ∷ xs) zero h = absurd (omega arith)
map-drop_none f (x ∷ xs) (suc k) h = map-drop_none f xs k (omega arith)

-- a text more behind what is there, where the rest was to come
pub pushed : {X : Type 0} (old new : List X) (x : X) (rest whole all : List X) → new ≡ old ++ x ∷ [] → rest ≡ x ∷ all → old ++ rest ≡ whole → new ++ all ≡ whole
pushed old new x rest whole all n r e = rw n (append_assoc old (x ∷ []) all ∙ ap (λ z. old ++ z) (sym r) ∙ e)

-- ---- the whole

-- the nets behind those of the ports
pub others-are : (n : Netlist) → IsNetlist n → n.nets ≡ bit_names_of n.ports ++ wire_names n
others-are n sound = sound.bits.same ∙ ap (λ rest. bit_names_of n.ports ++ rest) (sym (ap (λ nets. drop (length (bit_names_of n.ports)) nets) sound.bits.same ∙ drop-append_seam (bit_names_of n.ports) sound.bits.rest))

pub ports-fit : (n : Netlist) → IsNetlist n → length (flat_map port_texts n.ports) ≤ length n.nets
ports-fit n sound =
    let names = length-port_texts n.ports in
    omega (arith, ap length sound.bits.same, length-append (bit_names_of n.ports) sound.bits.rest)

pub length-net_texts : (n : Netlist) → IsNetlist n → length (net_texts n) ≡ length n.nets
length-net_texts n sound =
    let names = length-port_texts n.ports in
    omega (arith, length-append (flat_map port_texts n.ports) (map name_text (wire_names n)), length-map (wire_names n) name_text, ap length (others-are n sound), length-append (bit_names_of n.ports) (wire_names n))

-- the texts of all nets, made in two steps
pub texts-are : (n : Netlist) (first all : List Text) → first ≡ flat_map port_texts n.ports → all ≡ first ++ map name_text (drop (length first) n.nets) → all ≡ net_texts n
texts-are n first all f e =
    e ∙ ap (λ xs. xs ++ map name_text (drop (length xs) n.nets)) f ∙ ap (λ k. flat_map port_texts n.ports ++ map name_text (drop k n.nets)) (length-port_texts n.ports)

pub wires-are : (n : Netlist) (first all : List Text) (from : ℕ) → first ≡ flat_map port_texts n.ports → from ≡ length first → all ≡ net_texts n → drop from all ≡ map name_text (wire_names n)
wires-are n first all from f k e = ap (drop from) e ∙ ap (λ j. drop j (net_texts n)) (k ∙ ap length f) ∙ drop-append_seam (flat_map port_texts n.ports) (map name_text (wire_names n))

pub module_line-is : (n : Netlist) (old new name : Text) (ports : List Port) → old ≡ [] → name ≡ n.name → ports ≡ n.ports → new ≡ old ++ module_line name ports → new ≡ module_line n.name n.ports
module_line-is n old new name ports o m p e = e ∙ rw (o, m, p) refl

-- the parts, one behind the other
pub assembled : (n : Netlist) (all wires : List Text) (a b c d e f : Text) → all ≡ net_texts n → wires ≡ map name_text (wire_names n)
    → (ha : a ≡ module_line n.name n.ports) → (hb : b ≡ a ++ flat_map port_line n.ports) → (hc : c ≡ b ++ flat_map wire_line wires) → (hd : d ≡ c ++ flat_map (join_line all) n.joins) → (he : e ≡ d ++ flat_map (instance_line n.library all) n.instances)
    → (hf : f ≡ e ++ codes "endmodule\n") → f ≡ written n
unfolding written body
assembled n all wires a b c d e f t w ha hb hc hd he hf =
    let h : Text = module_line n.name n.ports in
    let p : Text = flat_map port_line n.ports in
    let v : Text = flat_map wire_line (map name_text (wire_names n)) in
    let j : Text = flat_map (join_line (net_texts n)) n.joins in
    let i : Text = flat_map (instance_line n.library (net_texts n)) n.instances in
    let z : Text = codes "endmodule\n" in
    hf ∙ rw (he, hd, hc, hb, ha, t, w)
    (append_assoc ((((h ++ p) ++ v) ++ j)) i z ∙ append_assoc ((h ++ p) ++ v) j (i ++ z) ∙ append_assoc (h ++ p) v (j ++ (i ++ z)) ∙ append_assoc h p (v ++ (j ++ (i ++ z))))

pub joins-stand : (n : Netlist) (all : List Text) (joins : List Join) → IsNetlist n → all ≡ net_texts n → joins ≡ n.joins → (place : ℕ) (join : Join) → slice_get joins place ≡ Some join → IsAJoin (length all) join.target join.source
joins-stand n all joins sound t e place join at =
    subst (λ k. IsAJoin k join.target join.source) (sym (ap length t ∙ length-net_texts n sound)) (sound.joins place join (ap (λ js. slice_get js place) (sym e) ∙ at))

pub instances-stand : (n : Netlist) (library : List Cell) (all : List Text) (instances : List Instance) → IsNetlist n → library ≡ n.library → all ≡ net_texts n → instances ≡ n.instances
    → (place : ℕ) (i : Instance) → slice_get instances place ≡ Some i → IsInstance library (length all) i.name i.cell i.pins
instances-stand n library all instances sound l t e place i at =
    subst (λ cells. IsInstance cells (length all) i.name i.cell i.pins) (sym l)
    (subst (λ k. IsInstance n.library k i.name i.cell i.pins) (sym (ap length t ∙ length-net_texts n sound)) (sound.instances place i (ap (λ is. slice_get is place) (sym e) ∙ at)))

-- a line more behind what is there, where the rest was to come
flat_next : {X : Type 0} (f : X → Text) (xs : List X) (k : ℕ) (x : X) → slice_get xs k ≡ Some x → flat_map f (drop k xs) ≡ f x ++ flat_map f (drop (suc k) xs)
flat_next f [] k x h = absurd (cc)
flat_next f (y ∷ xs) zero x h = let e : y ≡ x = cc in ap (λ z. f z ++ flat_map f xs) e
flat_next f (y ∷ xs) (suc k) x h = flat_next f xs k x h

pub line_more : {X : Type 0} (f : X → Text) (xs : List X) (k : ℕ) (x : X) (old new whole : Text) → slice_get xs k ≡ Some x → new ≡ old ++ f x → old ++ flat_map f (drop k xs) ≡ whole → new ++ flat_map f (drop (k + 1) xs) ≡ whole
line_more f xs k x old new whole at n e =
    rw (add-one, n) (append_assoc old (f x) (flat_map f (drop (suc k) xs)) ∙ ap (λ t. old ++ t) (sym (flat_next f xs k x at)) ∙ e)

-- ---- names

get_drop : (xs : List Text) (from k : ℕ) → slice_get (drop from xs) k ≡ slice_get xs (from + k)
get_drop xs zero k = let e : k ≡ 0 + k = omega arith in ap (slice_get xs) e
get_drop [] (suc from) k = nothing (suc from + k)
  where
    nothing : (j : ℕ) → None ≡ slice_get {X = Text} [] j
    nothing j = refl
get_drop (x ∷ xs) (suc from) k = let e : suc (from + k) ≡ suc from + k = omega arith in get_drop xs from k ∙ ap (slice_get (x ∷ xs)) e

-- the nets behind those of the ports have names
pub wires-named : (n : Netlist) → IsNetlist n → (place : ℕ) (name : Text) → slice_get (wire_names n) place ≡ Some name → IsName name
wires-named n sound place name at = let bits : ℕ = length (bit_names_of n.ports) in sound.named.nets (bits + place) name (sym (get_drop n.nets bits place) ∙ at)
