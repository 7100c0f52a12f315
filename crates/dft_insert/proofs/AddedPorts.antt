-- Ports that are added one after another.
use Rattle.std.proofs.Common.{ℕ, suc, ◌+◌, ◌-◌, ◌≡◌, ◌≤◌, ◌<◌, Bool, true, false, List, [], ◌∷◌, ◌++◌, length, map, Option, None, Some, refl, sym, subst, ap, arith, ◌∙◌, append_assoc, append-nil, length-append}
use Rattle.std.specs.Prelude.{pos, nat_le, option_map, if◌then◌else◌}
use Rattle.std.specs.List.{range_with_len}
use Rattle.std.specs.Str.{bytes_eq}
use Rattle.std.proofs.lemmas.Option.{none-some}
use Rattle.dft_base.specs.Lexing.{Text}
use Rattle.dft_base.proofs.BitLemmas.{true_false}
use Rattle.dft_base.proofs.ListLemmas.{range_over}
use Rattle.dft_base.proofs.TextLemmas.{same_text}
use Rattle.dft_netlist.specs.declared.error.Counted.TheVariants.{Ports, Nets}
use Rattle.dft_netlist.specs.declared.error.NetlistError.{NetlistError}
use Rattle.dft_netlist.specs.declared.error.NetlistError.TheVariants as netlist
use Rattle.dft_netlist.specs.declared.limits.TheConstants.{MAX_PORTS, MAX_NETS}
use Rattle.dft_netlist.specs.declared.port.Port.{Port}
use Rattle.dft_netlist.specs.Building.{port_refusal, room_limit, taken_or}
use Rattle.dft_netlist.specs.Names.{is_taken, names_taken, vector_name}
use Rattle.dft_netlist.specs.Netlist.{Netlist}
use Rattle.dft_netlist.specs.Sound.{HasOnlyPorts}
use Rattle.dft_netlist.proofs.PortLemmas.{bits_behind}
use Rattle.dft_scan_frame.specs.declared.error.InsertError.{InsertError}
use Rattle.dft_scan_frame.specs.declared.error.InsertError.TheVariants.{NameClash, TooMany, Memory}
use Rattle.dft_scan_frame.specs.AddedPorts.{NewPort, port_name, ports_from}
use Rattle.dft_scan_frame.specs.Growing.{next_port}
use Rattle.dft_scan_frame.specs.Refusals.{IsRefusal, or_else}
use Rattle.dft_scan_frame.proofs.AddedNames.{le_by}
use Rattle.dft_scan_frame.proofs.Additions.{both_none}
use Rattle.dft_scan_frame.proofs.NamesOnce.{times_named, as_count, named-append, has_never, one_named, taken_times, shown_append}
use Rattle.dft_parts.proofs.Runs.{range_on}
use Rattle.dft_insert.specs.Refusals.{as_told, new_port_refusal, ports_refusal, with_port, with_ports}

-- ---- lists that grow by one for each number

pub mapped_on : {A : Type 0} (f : ℕ → A) (k n : ℕ) (so_far new whole : List A) → k < n → new ≡ so_far ++ f k ∷ [] → so_far ++ map f (range_with_len k (n - k)) ≡ whole → new ++ map f (range_with_len (k + 1) (n - (k + 1))) ≡ whole
mapped_on f k n so_far new whole less is inv =
    ap (λ xs. xs ++ map f (range_with_len (k + 1) (n - (k + 1)))) is
    ∙ append_assoc so_far (f k ∷ []) (map f (range_with_len (k + 1) (n - (k + 1))))
    ∙ ap (λ (ks : List ℕ). so_far ++ map f ks) (sym (range_on k n less))
    ∙ inv

pub mapped_over : {A : Type 0} (f : ℕ → A) (k n : ℕ) (so_far whole : List A) → n ≤ k → so_far ++ map f (range_with_len k (n - k)) ≡ whole → so_far ≡ whole
mapped_over f k n so_far whole past inv = sym (append-nil so_far) ∙ ap (λ (ks : List ℕ). so_far ++ map f ks) (sym (range_over k n past)) ∙ inv

-- ---- a port that is not refused

-- its name is new, and there is room
pub record IsNew (n s : Netlist) (name : Text) : Type 0 where
  pub not_in_design : is_taken n name ≡ false
  pub not_so_far : is_taken s name ≡ false
  pub few : length s.ports + 1 ≤ MAX_PORTS

told_none : (o : Option NetlistError) → option_map as_told o ≡ None → o ≡ None
told_none None e = refl
told_none (Some error) e = absurd (none-some (as_told error) (sym e))

few_by : (ports nets : ℕ) (b : Bool) → nat_le ports MAX_PORTS ≡ b → (if b then (if nat_le nets MAX_NETS then None else Some (netlist.TooMany Nets (pos MAX_NETS))) else Some (netlist.TooMany Ports (pos MAX_PORTS))) ≡ None → nat_le ports MAX_PORTS ≡ true
few_by ports nets true is e = is
few_by ports nets false is e = absurd (none-some (netlist.TooMany Ports (pos MAX_PORTS)) (sym e))

le_of : (m : ℕ) → nat_le m MAX_PORTS ≡ true → m ≤ MAX_PORTS
le_of m is = le_by m MAX_PORTS (TooMany Ports (pos MAX_PORTS)) (nat_le m MAX_PORTS) refl (ap (λ b. if b then None else Some (TooMany Ports (pos MAX_PORTS))) is)

free_by : (s : Netlist) (name : Text) (b : Bool) (limit : Option NetlistError) → is_taken s name ≡ b → taken_or (if b then Some name else None) limit ≡ None → (is_taken s name ≡ false) × (limit ≡ None)
free_by s name true limit is e = absurd (none-some (netlist.DuplicateName name) (sym e))
free_by s name false limit is e = (is, e)

new_by : (n s : Netlist) (port : NewPort) (b : Bool) → is_taken n port.name ≡ b → (if b then Some (NameClash port.name) else option_map as_told (port_refusal s port.name None)) ≡ None → IsNew n s port.name
new_by n s port true is e = absurd (none-some (NameClash port.name) (sym e))
new_by n s port false is e =
    let free = free_by s port.name (is_taken s port.name) (room_limit s 1) refl (told_none (port_refusal s port.name None) e) in
    record { not_in_design = is; not_so_far = free.0; few = le_of (length s.ports + 1) (few_by (length s.ports + 1) (length s.nets + 1) (nat_le (length s.ports + 1) MAX_PORTS) refl free.1) }

pub new_port : (n s : Netlist) (port : NewPort) → new_port_refusal n s port ≡ None → IsNew n s port.name
new_port n s port e = new_by n s port (is_taken n port.name) refl e

-- ---- names of ports that are not refused

-- a name stands among these once at most, and at no time where it was taken before, or is one of the design
pub record AreOnce (n : Netlist) (q : Text) (taken : ℕ) (names : List Text) : Type 0 where
  pub once : times_named q names ≤ 1
  pub added : 1 ≤ taken → times_named q names ≡ 0
  pub design : is_taken n q ≡ true → times_named q names ≡ 0

one_taken : (s : Netlist) (port : NewPort) (q : Text) → times_named q (names_taken (with_port s port)) ≡ times_named q (names_taken s) + as_count (bytes_eq port.name q)
one_taken s port q =
    omega (
      arith,
      taken_times q (with_port s port),
      taken_times q s,
      named-append q s.nets (port.name ∷ []),
      shown_append vector_name q s.ports (next_port s port.name port.dir None ∷ []),
    )

once_by : (n s : Netlist) (q : Text) (port : NewPort) (names : List Text) (b : Bool) → bytes_eq port.name q ≡ b → IsNew n s port.name → AreOnce n q (times_named q (names_taken (with_port s port))) names → AreOnce n q (times_named q (names_taken s)) (port.name ∷ names)
once_by n s q port names true same new more =
    let is : port.name ≡ q = same_text port.name q same in
    let counted = one_taken s port q in
    let one = ap as_count same in
    let none : times_named q names ≡ 0 = more.added (omega (arith, counted, one)) in record {
      once = omega (arith, none, one_named (bytes_eq port.name q));
      added = λ some. absurd (omega (arith, some, subst (λ x. times_named x (names_taken s) ≡ 0) is (has_never port.name (names_taken s) new.not_so_far)));
      design = λ taken. absurd (true_false (is_taken n q) taken (subst (λ x. is_taken n x ≡ false) is new.not_in_design));
    }
once_by n s q port names false other new more =
    let counted = one_taken s port q in
    let zero_one = ap as_count other in record {
      once = omega (arith, more.once, zero_one);
      added = λ some. omega (arith, more.added (omega (arith, some, counted)), zero_one);
      design = λ taken. omega (arith, more.design taken, zero_one);
    }

pub added_once : (n s : Netlist) (ports : List NewPort) (q : Text) → ports_refusal n s ports ≡ None → AreOnce n q (times_named q (names_taken s)) (map port_name ports)
added_once n s [] q e = record { once = omega arith; added = λ some. refl; design = λ taken. refl }
added_once n s (port ∷ ports) q e =
    let both = both_none (new_port_refusal n s port) (ports_refusal n (with_port s port) ports) e in
    once_by n s q port (map port_name ports) (bytes_eq port.name q) refl (new_port n s port both.first) (added_once n (with_port s port) ports q both.later)

-- ---- counts

pub added_few : (n s : Netlist) (ports : List NewPort) → ports_refusal n s ports ≡ None → length s.ports ≤ MAX_PORTS → length s.ports + length ports ≤ MAX_PORTS
added_few n s [] e few = omega (arith, few)
added_few n s (port ∷ ports) e few =
    let both = both_none (new_port_refusal n s port) (ports_refusal n (with_port s port) ports) e in
    let one = length-append s.ports (next_port s port.name port.dir None ∷ []) in
    omega (arith, one, added_few n (with_port s port) ports both.later (omega (arith, one, (new_port n s port both.first).few)))

-- ---- what is there when they are added

pub with_ports_is : (s : Netlist) (ports : List NewPort) → with_ports s ports ≡ record s { ports = s.ports ++ ports_from (length s.nets) ports; nets = s.nets ++ map port_name ports }
with_ports_is s [] = ap (λ (ps : List Port). record s { ports = ps }) (sym (append-nil s.ports)) ∙ ap (λ xs. record s { ports = s.ports ++ []; nets = xs }) (sym (append-nil s.nets))
with_ports_is s (port ∷ ports) =
    let first : Port = next_port s port.name port.dir None in
    let next : length (s.nets ++ port.name ∷ []) ≡ suc (length s.nets) = omega (arith, length-append s.nets (port.name ∷ [])) in
    with_ports_is (with_port s port) ports
    ∙ ap (λ k. record s { ports = (s.ports ++ first ∷ []) ++ ports_from k ports; nets = (s.nets ++ port.name ∷ []) ++ map port_name ports }) next
    ∙ ap (λ (ps : List Port). record s { ports = ps; nets = (s.nets ++ port.name ∷ []) ++ map port_name ports }) (append_assoc s.ports (first ∷ []) (ports_from (suc (length s.nets)) ports))
    ∙ ap (λ xs. record s { ports = s.ports ++ first ∷ ports_from (suc (length s.nets)) ports; nets = xs }) (append_assoc s.nets (port.name ∷ []) (map port_name ports))

only_on : (s : Netlist) (port : NewPort) → HasOnlyPorts s → HasOnlyPorts (with_port s port)
only_on s port only = omega (arith, only, length-append s.nets (port.name ∷ []), bits_behind s.ports (next_port s port.name port.dir None))

-- ---- the loop

-- what is left of the ports gives what all give
pub record Adds (n start now : Netlist) (all left : List NewPort) : Type 0 where
  pub refused : ports_refusal n start all ≡ ports_refusal n now left
  pub added : with_ports start all ≡ with_ports now left
  pub only : HasOnlyPorts now

pub adds_start : (n s : Netlist) (all left : List NewPort) → left ≡ all → HasOnlyPorts s → Adds n s s all left
adds_start n s all left same only = record { refused = ap (ports_refusal n s) (sym same); added = ap (with_ports s) (sym same); only = only }

pub adds_on : (n start now new : Netlist) (all left after : List NewPort) (port : NewPort) → left ≡ port ∷ after → Adds n start now all left → new_port_refusal n now port ≡ None → new ≡ with_port now port → Adds n start new all after
adds_on n start now new all left after port is a passes added =
    subst (λ (m : Netlist). Adds n start m all after) (sym added) (record {
      refused = a.refused ∙ ap (ports_refusal n now) is ∙ ap (λ o. or_else o (ports_refusal n (with_port now port) after)) passes;
      added = a.added ∙ ap (with_ports now) is;
      only = only_on now port a.only;
    })

pub adds_end : (n start now : Netlist) (all left : List NewPort) → left ≡ [] → Adds n start now all left → (ports_refusal n start all ≡ None) × (now ≡ with_ports start all)
adds_end n start now all left none a = (a.refused ∙ ap (ports_refusal n now) none, sym (a.added ∙ ap (with_ports now) none))

pub first_refused : (a b : Option InsertError) (error : InsertError) → IsRefusal a error → IsRefusal (or_else a b) error
first_refused a b (NameClash name) e = ap (λ o. or_else o b) e
first_refused a b (TooMany what limit) e = ap (λ o. or_else o b) e
first_refused a b (Memory error) e = tt

pub same_refusal : (a b : Option InsertError) (error : InsertError) → a ≡ b → IsRefusal b error → IsRefusal a error
same_refusal a b error same e = subst (λ o. IsRefusal o error) (sym same) e

pub adds_stop : (n start now : Netlist) (all left after : List NewPort) (port : NewPort) (error : InsertError) → left ≡ port ∷ after → Adds n start now all left → IsRefusal (new_port_refusal n now port) error → IsRefusal (ports_refusal n start all) error
adds_stop n start now all left after port error is a refused =
    same_refusal (ports_refusal n start all) (ports_refusal n now (port ∷ after)) error (a.refused ∙ ap (ports_refusal n now) is) (first_refused (new_port_refusal n now port) (ports_refusal n (with_port now port) after) error refused)

pub later_refused : (a b : Option InsertError) (error : InsertError) → a ≡ None → IsRefusal b error → IsRefusal (or_else a b) error
later_refused a b error none e = same_refusal (or_else a b) b error (ap (λ o. or_else o b) none) e
