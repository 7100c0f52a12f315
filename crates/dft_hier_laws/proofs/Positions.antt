-- Where the joins and instances of a flat design come from, and at which number the nets of each module begin.
use Rattle.std.proofs.Common.{ℕ, zero, suc, ◌+◌, ◌<◌, ◌≡◌, ◌⊎◌, inl, inr, List, [], ◌∷◌, ◌++◌, length, map, Option, None, Some, slice_get, refl, sym, ap, subst, arith, ◌∙◌, append_assoc, append-nil}
use Rattle.std.specs.List.{AllByRecursion}
use Rattle.dft_base.specs.Lexing.{Text}
use Rattle.dft_base.specs.declared.dir.Dir.{Dir}
use Rattle.dft_base.specs.declared.dir.Dir.TheVariants as dir
use Rattle.dft_base.proofs.ListLemmas.{all_append, get_left, get_right}
use Rattle.dft_netlist.specs.declared.ids.NetId.{NetId}
use Rattle.dft_netlist.specs.declared.instance.Instance.{Instance}
use Rattle.dft_netlist.specs.declared.instance.Join.{Join}
use Rattle.dft_netlist.specs.declared.instance.Signal.{Signal}
use Rattle.dft_netlist.specs.declared.instance.Signal.TheVariants as signal
use Rattle.dft_netlist.specs.declared.port.Port.{Port}
use Rattle.dft_modules.specs.declared.connections.Connection.{Connection}
use Rattle.dft_modules.specs.declared.module.SubInstance.{SubInstance}
use Rattle.dft_modules.specs.declared.module.Item.{Item}
use Rattle.dft_modules.specs.declared.module.Item.TheVariants as item
use Rattle.dft_modules.specs.Modules.{Module}
use Rattle.dft_hier.specs.Hierarchy.{joins_of, cells_of, subs_of, find_module}
use Rattle.dft_hier.specs.Flat.{Parts, moved_net, moved, moved_join, inside, joined_to, bit_joins, port_joins, connection_joins, sub_parts, item_parts, parts_within}
use Rattle.dft_hier_laws.specs.Joined.{Meets}
use Rattle.dft_hier.specs.Paths.{Path, Spot, module_at, below, own_spots, sub_spots, subs_spots, item_spots, net_spots_within, instance_spots_within}
use Rattle.dft_hier.proofs.InstanceSpotLemmas.{module_on}
use Rattle.dft_hier.proofs.PartLemmas.{StandsTall, Rises, nets_same}
use Rattle.dft_hier.proofs.SpotLemmas.{spot, own_from, own_there, own_count, module_below, nets_count}

-- ---- what is among others

-- this is one of these
pub record In (A : Type 0) (xs : List A) (x : A) : Type 0 where
  pub place : ℕ
  pub at : slice_get xs place ≡ Some x

pub in_left : (A : Type 0) (xs ys : List A) (x : A) → In A xs x → In A (xs ++ ys) x
in_left A xs ys x h = record { place = h.place; at = get_left xs ys h.place x h.at }

pub in_right : (A : Type 0) (xs ys : List A) (x : A) → In A ys x → In A (xs ++ ys) x
in_right A xs ys x h = record { place = length xs + h.place; at = get_right xs ys h.place x h.at }

pub in_either : (A : Type 0) (xs ys : List A) (x : A) (k : ℕ) → slice_get (xs ++ ys) k ≡ Some x → In A xs x ⊎ In A ys x
in_either A [] ys x k at = inr (record { place = k; at = at })
in_either A (z ∷ xs) ys x zero at = inl (record { place = zero; at = at })
in_either A (z ∷ xs) ys x (suc k) at = elim (in_either A xs ys x k at) [
  | inl front ↦ inl (record { place = suc front.place; at = front.at })
  | inr back ↦ inr back
]

-- ---- spots from a number on

-- what stands at a spot has this number
abbrev pub IsAt : List Spot → Path → (at number : ℕ) → Type 0
IsAt spots path at number = slice_get spots number ≡ Some (spot path at)

-- these spots stand among all from this number on
abbrev pub Segment : List Spot → (first : ℕ) → List Spot → Type 0
Segment all first xs = (k : ℕ) (s : Spot) → slice_get xs k ≡ Some s → slice_get all (first + k) ≡ Some s

segment_left : (all : List Spot) (first : ℕ) (xs ys : List Spot) → Segment all first (xs ++ ys) → Segment all first xs
segment_left all first xs ys h = λ k s at. h k s (get_left xs ys k s at)

segment_right : (all : List Spot) (first : ℕ) (xs ys : List Spot) → Segment all first (xs ++ ys) → Segment all (first + length xs) ys
segment_right all first xs ys h = λ k s at. (let e : first + length xs + k ≡ first + (length xs + k) = omega arith in ap (slice_get all) e ∙ h (length xs + k) s (get_right xs ys k s at))

-- the nets of the module at a path begin at this number
abbrev pub HasBase : List Spot → Path → Module → (first : ℕ) → Type 0
HasBase all path m first = (net : ℕ) → net < length m.nets → IsAt all path net (first + net)

base_of : (all : List Spot) (path : Path) (m : Module) (first : ℕ) (rest : List Spot) → Segment all first (own_spots path (length m.nets) ++ rest) → HasBase all path m first
base_of all path m first rest h = λ net less. (
    let start : 0 + net ≡ net = omega arith in
    h net (spot path net) (get_left (own_from path 0 (length m.nets)) rest net (spot path net) (own_there path 0 (length m.nets) net less ∙ ap (λ (n : ℕ). Some (spot path n)) start)))

rest_of : (all : List Spot) (path : Path) (m : Module) (first : ℕ) (rest : List Spot) → Segment all first (own_spots path (length m.nets) ++ rest) → Segment all (first + length m.nets) rest
rest_of all path m first rest h = subst (λ (n : ℕ). Segment all (first + n) rest) (own_count path 0 (length m.nets)) (segment_right all first (own_from path 0 (length m.nets)) rest h)

-- a module that stands somewhere has its base there
pub based : (ms : List Module) (all : List Spot) (depth : ℕ) (path : Path) (m : Module) (first : ℕ) → StandsTall ms depth m → Segment all first (net_spots_within depth ms path m) → HasBase all path m first
based ms all zero path m first tall h = elim tall [ ]
based ms all (suc depth) path m first tall h = base_of all path m first (subs_spots (net_spots_within depth ms) ms path 0 (subs_of m.items)) h

-- ---- a place among the items of a module

-- what a module instance gives, where its nets begin at the second number
abbrev here : List Module → (depth : ℕ) → (prefix : Text) → (first next : ℕ) → SubInstance → Parts
here ms depth prefix first next x = sub_parts (parts_within depth ms) prefix first next x (find_module ms x.of)

sub_count : (ms : List Module) (depth : ℕ) (prefix : Text) (outside first : ℕ) (x : SubInstance) (path : Path) (o : Option Module) →
    length (sub_parts (parts_within depth ms) prefix outside first x o).nets ≡ length (sub_spots (net_spots_within depth ms) path o)
sub_count ms depth prefix outside first x path None = refl
sub_count ms depth prefix outside first x path (Some m) = ap (λ (ns : List Text). length ns) (nets_same depth ms (inside prefix x.name) first m) ∙ nets_count ms depth (inside prefix x.name) path m

-- the spots behind those of an instance
past_nets : (ms : List Module) (all : List Spot) (depth : ℕ) (prefix : Text) (path : Path) (first next place : ℕ) (x : SubInstance) (subs : List SubInstance) →
    Segment all next (subs_spots (net_spots_within depth ms) ms path place (x ∷ subs)) → Segment all (next + length (here ms depth prefix first next x).nets) (subs_spots (net_spots_within depth ms) ms path (suc place) subs)
past_nets ms all depth prefix path first next place x subs h =
    let own : List Spot = sub_spots (net_spots_within depth ms) (below path place) (find_module ms x.of) in
    let rest : List Spot = subs_spots (net_spots_within depth ms) ms path (suc place) subs in
    subst (λ (n : ℕ). Segment all (next + n) rest) (sym (sub_count ms depth prefix first next x (below path place) (find_module ms x.of))) (segment_right all next own rest h)

own_nets : (ms : List Module) (all : List Spot) (depth : ℕ) (path : Path) (next place : ℕ) (x : SubInstance) (subs : List SubInstance) (inner : Module) → find_module ms x.of ≡ Some inner →
    Segment all next (subs_spots (net_spots_within depth ms) ms path place (x ∷ subs)) → Segment all next (net_spots_within depth ms (below path place) inner)
own_nets ms all depth path next place x subs inner found h =
    let find = net_spots_within depth ms in
    subst (λ (o : Option Module). Segment all next (sub_spots find (below path place) o)) found (segment_left all next (sub_spots find (below path place) (find_module ms x.of)) (subs_spots find ms path (suc place) subs) h)

-- the items of the module at a path from a join, a cell and a module instance on
pub record Position (ms : List Module) (top : Module) (all : List Spot) (depth : ℕ) (path : Path) (m : Module) (first join cell place next : ℕ) (items : List Item) : Type 0 where
  pub at : module_at ms path top ≡ Some m
  pub base : HasBase all path m first
  pub joins : (j : ℕ) → slice_get (joins_of m.items) (join + j) ≡ slice_get (joins_of items) j
  pub cells : (j : ℕ) → slice_get (cells_of m.items) (cell + j) ≡ slice_get (cells_of items) j
  pub subs : (j : ℕ) → slice_get (subs_of m.items) (place + j) ≡ slice_get (subs_of items) j
  pub nets : Segment all next (subs_spots (net_spots_within depth ms) ms path place (subs_of items))

starts : (ms : List Module) (top : Module) (all : List Spot) (depth : ℕ) (path : Path) (m : Module) (first : ℕ) → module_at ms path top ≡ Some m → Segment all first (net_spots_within (suc depth) ms path m) →
    Position ms top all depth path m first 0 0 0 (first + length m.nets) m.items
starts ms top all depth path m first at h =
    let rest : List Spot = subs_spots (net_spots_within depth ms) ms path 0 (subs_of m.items) in
    record {
      at = at;
      base = base_of all path m first rest h;
      joins = λ j. (let e : 0 + j ≡ j = omega arith in ap (slice_get (joins_of m.items)) e);
      cells = λ j. (let e : 0 + j ≡ j = omega arith in ap (slice_get (cells_of m.items)) e);
      subs = λ j. (let e : 0 + j ≡ j = omega arith in ap (slice_get (subs_of m.items)) e);
      nets = rest_of all path m first rest h;
    }

pub later : (A : Type 0) (xs ys : List A) (x : A) (k : ℕ) → ((j : ℕ) → slice_get xs (k + j) ≡ slice_get (x ∷ ys) j) → (j : ℕ) → slice_get xs (suc k + j) ≡ slice_get ys j
later A xs ys x k h j = let e : suc k + j ≡ k + suc j = omega arith in ap (slice_get xs) e ∙ h (suc j)

pub first_one : (A : Type 0) (xs ys : List A) (x : A) (k : ℕ) → ((j : ℕ) → slice_get xs (k + j) ≡ slice_get (x ∷ ys) j) → slice_get xs k ≡ Some x
first_one A xs ys x k h = let e : k ≡ k + 0 = omega arith in ap (slice_get xs) e ∙ h 0

module _ (ms : List Module) (top : Module) (all : List Spot) (depth : ℕ) (path : Path) (m : Module) (first join cell place next : ℕ) where
  past_join : (j : Join) (items : List Item) → Position ms top all depth path m first join cell place next (item.Join j ∷ items) → Position ms top all depth path m first (suc join) cell place next items
  past_join j items p = record { at = p.at; base = p.base; joins = later Join (joins_of m.items) (joins_of items) j join p.joins; cells = p.cells; subs = p.subs; nets = p.nets }

  past_cell : (i : Instance) (items : List Item) → Position ms top all depth path m first join cell place next (item.Cell i ∷ items) → Position ms top all depth path m first join (suc cell) place next items
  past_cell i items p = record { at = p.at; base = p.base; joins = p.joins; cells = later Instance (cells_of m.items) (cells_of items) i cell p.cells; subs = p.subs; nets = p.nets }

  past_sub : (prefix : Text) (x : SubInstance) (items : List Item) → Position ms top all depth path m first join cell place next (item.Sub x ∷ items) →
      Position ms top all depth path m first join cell (suc place) (next + length (here ms depth prefix first next x).nets) items
  past_sub prefix x items p = record {
    at = p.at;
    base = p.base;
    joins = p.joins;
    cells = p.cells;
    subs = later SubInstance (subs_of m.items) (subs_of items) x place p.subs;
    nets = past_nets ms all depth prefix path first next place x (subs_of items) p.nets;
  }

-- ---- instances

-- an instance of the flat design is the one at a spot, by the numbers of its nets there
pub record IsMovedAt (ms : List Module) (top : Module) (all : List Spot) (s : Spot) (i : Instance) : Type 0 where
  pub m : Module
  pub at : module_at ms s.path top ≡ Some m
  pub there : Instance
  pub there_at : slice_get (cells_of m.items) s.at ≡ Some there
  pub first : ℕ
  pub base : HasBase all s.path m first
  pub cell : i.cell ≡ there.cell
  pub pins : i.pins ≡ map (moved first) there.pins

abbrev pub AreMoved : List Module → (top : Module) → (all spots : List Spot) → List Instance → Type 0
AreMoved ms top all [] [] = Unit {0}
AreMoved ms top all (s ∷ spots) (i ∷ instances) = IsMovedAt ms top all s i × AreMoved ms top all spots instances
AreMoved ms top all [] (i ∷ instances) = ⊥
AreMoved ms top all (s ∷ spots) [] = ⊥

moved_both : (ms : List Module) (top : Module) (all xs ys : List Spot) (is js : List Instance) → AreMoved ms top all xs is → AreMoved ms top all ys js → AreMoved ms top all (xs ++ ys) (is ++ js)
moved_both ms top all [] ys [] js h k = k
moved_both ms top all (s ∷ xs) ys (i ∷ is) js h k = (h.0, moved_both ms top all xs ys is js h.1 k)
moved_both ms top all [] ys (i ∷ is) js h k = absurd h
moved_both ms top all (s ∷ xs) ys [] js h k = absurd h

pub moved_at : (ms : List Module) (top : Module) (all spots : List Spot) (is : List Instance) (k : ℕ) (s : Spot) (i : Instance) → AreMoved ms top all spots is → slice_get spots k ≡ Some s → slice_get is k ≡ Some i → IsMovedAt ms top all s i
moved_at ms top all [] is k s i h p q = absurd (let f : ⊥ = cc in f)
moved_at ms top all (x ∷ spots) [] k s i h p q = absurd h
moved_at ms top all (x ∷ spots) (y ∷ is) zero s i h p q =
    let e : x ≡ s = cc in
    let f : y ≡ i = cc in
    subst (λ (t : Spot). IsMovedAt ms top all t i) e (subst (λ (j : Instance). IsMovedAt ms top all x j) f h.0)
moved_at ms top all (x ∷ spots) (y ∷ is) (suc k) s i h p q = moved_at ms top all spots is k s i h.1 p q

pub moved_count : (ms : List Module) (top : Module) (all spots : List Spot) (is : List Instance) → AreMoved ms top all spots is → length is ≡ length spots
moved_count ms top all [] [] h = refl
moved_count ms top all (s ∷ spots) (i ∷ is) h = ap suc (moved_count ms top all spots is h.1)
moved_count ms top all [] (i ∷ is) h = absurd h
moved_count ms top all (s ∷ spots) [] h = absurd h

abbrev InstancesBelow : List Module → (top : Module) → (all : List Spot) → (depth : ℕ) → Type 0
InstancesBelow ms top all depth = (prefix : Text) (first : ℕ) (path : Path) (m : Module) → module_at ms path top ≡ Some m → Segment all first (net_spots_within depth ms path m) →
    AreMoved ms top all (instance_spots_within depth ms path m) (parts_within depth ms prefix first m).instances

one_moved : (ms : List Module) (top : Module) (all : List Spot) (depth : ℕ) → InstancesBelow ms top all depth → (prefix : Text) (first next : ℕ) (path : Path) (x : SubInstance) (o : Option Module) →
    ((inner : Module) → o ≡ Some inner → (module_at ms path top ≡ Some inner) × Segment all next (net_spots_within depth ms path inner)) →
    AreMoved ms top all (sub_spots (instance_spots_within depth ms) path o) (sub_parts (parts_within depth ms) prefix first next x o).instances
one_moved ms top all depth deep prefix first next path x None is = tt
one_moved ms top all depth deep prefix first next path x (Some inner) is = let h = is inner refl in deep (inside prefix x.name) next path inner h.0 h.1

items_moved : (ms : List Module) (top : Module) (all : List Spot) (depth : ℕ) → InstancesBelow ms top all depth → (prefix : Text) (path : Path) (m : Module) (first join cell place next : ℕ) (items : List Item) →
    Position ms top all depth path m first join cell place next items → AreMoved ms top all (item_spots (instance_spots_within depth ms) ms path cell place items) (item_parts (parts_within depth ms) ms prefix first next items).instances
items_moved ms top all depth deep prefix path m first join cell place next [] p = tt
items_moved ms top all depth deep prefix path m first join cell place next (item.Join j ∷ items) p =
    items_moved ms top all depth deep prefix path m first (suc join) cell place next items (past_join ms top all depth path m first join cell place next j items p)
items_moved ms top all depth deep prefix path m first join cell place next (item.Cell i ∷ items) p = (
  record { m = m; at = p.at; there = i; there_at = first_one Instance (cells_of m.items) (cells_of items) i cell p.cells; first = first; base = p.base; cell = refl; pins = refl },
  items_moved ms top all depth deep prefix path m first join (suc cell) place next items (past_cell ms top all depth path m first join cell place next i items p),
)
items_moved ms top all depth deep prefix path m first join cell place next (item.Sub x ∷ items) p =
    let mine : Parts = here ms depth prefix first next x in
    moved_both ms top all (sub_spots (instance_spots_within depth ms) (below path place) (find_module ms x.of)) (item_spots (instance_spots_within depth ms) ms path cell (suc place) items) mine.instances
    (item_parts (parts_within depth ms) ms prefix first (next + length mine.nets) items).instances
    (one_moved ms top all depth deep prefix first next (below path place) x (find_module ms x.of) (λ inner found. (
      module_on ms path top m inner place x p.at (first_one SubInstance (subs_of m.items) (subs_of items) x place p.subs) found,
      own_nets ms all depth path next place x (subs_of items) inner found p.nets,
    )))
    (items_moved ms top all depth deep prefix path m first join cell (suc place) (next + length mine.nets) items (past_sub ms top all depth path m first join cell place next prefix x items p))

pub instances_moved : (ms : List Module) (top : Module) (all : List Spot) (depth : ℕ) → InstancesBelow ms top all depth
instances_moved ms top all zero = λ prefix first path m at h. tt
instances_moved ms top all (suc depth) = λ prefix first path m at h.
    items_moved ms top all depth (instances_moved ms top all depth) prefix path m first 0 0 0 (first + length m.nets) m.items (starts ms top all depth path m first at h)

-- ---- joins

-- a join of the flat design is a module's own, or stands where two modules meet
pub data JoinFrom (ms : List Module) (top : Module) (all : List Spot) (j : Join) : Type 0 where
  OwnJoin : (path : Path) (m : Module) (first place : ℕ) (there : Join) → module_at ms path top ≡ Some m → HasBase all path m first → slice_get (joins_of m.items) place ≡ Some there → j ≡ moved_join first there →
      JoinFrom ms top all j
  InJoin : (path : Path) (place outside within net : ℕ) (to : Signal) → (meets : Meets ms top path place dir.Input net to) → HasBase all path meets.outer outside → HasBase all (below path place) meets.inner within →
      j ≡ record { target = record { 0 = within + net }; source = moved outside to } → JoinFrom ms top all j
  OutJoin : (path : Path) (place outside within inner net : ℕ) → (meets : Meets ms top path place dir.Output inner (signal.Net (record { 0 = net }))) → HasBase all path meets.outer outside →
      HasBase all (below path place) meets.inner within → j ≡ record { target = record { 0 = outside + net }; source = signal.Net (record { 0 = within + inner }) } → JoinFrom ms top all j

-- the module instance at a place of the module at a path, with the bases of both
pub record Stood (ms : List Module) (top : Module) (all : List Spot) (path : Path) (place outside within : ℕ) (x : SubInstance) (inner : Module) : Type 0 where
  pub outer : Module
  pub outer_at : module_at ms path top ≡ Some outer
  pub sub_at : slice_get (subs_of outer.items) place ≡ Some x
  pub inner_is : find_module ms x.of ≡ Some inner
  pub outer_base : HasBase all path outer outside
  pub inner_base : HasBase all (below path place) inner within

module _ (ms : List Module) (top : Module) (all : List Spot) (path : Path) (place outside within : ℕ) (x : SubInstance) (inner : Module) (s : Stood ms top all path place outside within x inner) where
  meets_by : (port : ℕ) (p : Port) (d : Dir) (bit net : ℕ) (to : Signal) → slice_get inner.ports port ≡ Some p → p.dir ≡ d → slice_get p.bits bit ≡ Some (record { 0 = net }) → slice_get (joined_to x.connections p.name) bit ≡ Some to →
      Meets ms top path place d net to
  meets_by port p d bit net to at is bit_at to_at = record {
    outer = s.outer;
    outer_at = s.outer_at;
    sub = x;
    sub_at = s.sub_at;
    inner = inner;
    inner_is = s.inner_is;
    joins = record { place = port; port = p; port_at = at; dir_is = is; bit = bit; within = bit_at; outside = to_at };
  }

  bit_from : (port : ℕ) (p : Port) (d : Dir) (bit : ℕ) (b : NetId) (to : Signal) → slice_get inner.ports port ≡ Some p → p.dir ≡ d → slice_get p.bits bit ≡ Some b → slice_get (joined_to x.connections p.name) bit ≡ Some to →
      AllByRecursion (λ (j : Join). JoinFrom ms top all j) (bit_joins d (moved_net within b) (moved outside to))
  unfolding meets_by
  bit_from port p dir.Input bit b to at is bit_at to_at = (InJoin path place outside within b.0 to (meets_by port p dir.Input bit b.0 to at is bit_at to_at) s.outer_base s.inner_base refl, tt)
  bit_from port p dir.Output bit b (signal.Net net) at is bit_at to_at = (OutJoin path place outside within b.0 net.0 (meets_by port p dir.Output bit b.0 (signal.Net net) at is bit_at to_at) s.outer_base s.inner_base refl, tt)
  bit_from port p dir.Output bit b (signal.Constant value) at is bit_at to_at = tt
  bit_from port p dir.Output bit b signal.Unconnected at is bit_at to_at = tt

  bits_from : (port : ℕ) (p : Port) (d : Dir) (bit : ℕ) (bits : List NetId) (signals : List Signal) → slice_get inner.ports port ≡ Some p → p.dir ≡ d → ((j : ℕ) → slice_get p.bits (bit + j) ≡ slice_get bits j) →
      ((j : ℕ) → slice_get (joined_to x.connections p.name) (bit + j) ≡ slice_get signals j) → AllByRecursion (λ (j : Join). JoinFrom ms top all j) (port_joins d (map (moved_net within) bits) (map (moved outside) signals))
  bits_from port p d bit [] signals at is own to = tt
  bits_from port p d bit (b ∷ bits) [] at is own to = tt
  bits_from port p d bit (b ∷ bits) (t ∷ signals) at is own to =
      all_append (λ (j : Join). JoinFrom ms top all j) (bit_joins d (moved_net within b) (moved outside t)) (port_joins d (map (moved_net within) bits) (map (moved outside) signals))
      (bit_from port p d bit b t at is (first_one NetId p.bits bits b bit own) (first_one Signal (joined_to x.connections p.name) signals t bit to))
      (bits_from port p d (suc bit) bits signals at is (later NetId p.bits bits b bit own) (later Signal (joined_to x.connections p.name) signals t bit to))

  ports_from : (port : ℕ) (ports : List Port) → ((j : ℕ) → slice_get inner.ports (port + j) ≡ slice_get ports j) → AllByRecursion (λ (j : Join). JoinFrom ms top all j) (connection_joins outside within x.connections ports)
  ports_from port [] own = tt
  ports_from port (p ∷ ports) own =
      all_append (λ (j : Join). JoinFrom ms top all j) (port_joins p.dir (map (moved_net within) p.bits) (map (moved outside) (joined_to x.connections p.name))) (connection_joins outside within x.connections ports)
      (bits_from port p p.dir 0 p.bits (joined_to x.connections p.name) (first_one Port inner.ports ports p port own) refl (λ j. (let e : 0 + j ≡ j = omega arith in ap (slice_get p.bits) e))
      (λ j. (let e : 0 + j ≡ j = omega arith in ap (slice_get (joined_to x.connections p.name)) e)))
      (ports_from (suc port) ports (later Port inner.ports ports p port own))

abbrev JoinsBelow : List Module → (top : Module) → (all : List Spot) → (depth : ℕ) → Type 0
JoinsBelow ms top all depth = (prefix : Text) (first : ℕ) (path : Path) (m : Module) → StandsTall ms depth m → module_at ms path top ≡ Some m → Segment all first (net_spots_within depth ms path m) →
    AllByRecursion (λ (j : Join). JoinFrom ms top all j) (parts_within depth ms prefix first m).joins

-- the module instances from a place on stand no deeper
abbrev AreTall : List Module → (depth : ℕ) → List SubInstance → Type 0
AreTall ms depth subs = (place : ℕ) (s : SubInstance) (b : Module) → slice_get subs place ≡ Some s → find_module ms s.of ≡ Some b → StandsTall ms depth b

tall_subs : (ms : List Module) (depth : ℕ) (m : Module) → StandsTall ms (suc depth) m → AreTall ms depth (subs_of m.items)
tall_subs ms depth m (Rises each) = each

one_from : (ms : List Module) (top : Module) (all : List Spot) (depth : ℕ) → JoinsBelow ms top all depth → (prefix : Text) (first next place : ℕ) (path : Path) (x : SubInstance) (o : Option Module) →
    ((inner : Module) → o ≡ Some inner → StandsTall ms depth inner × (module_at ms (below path place) top ≡ Some inner) × Segment all next (net_spots_within depth ms (below path place) inner) × Stood ms top all path place first next x inner) →
    AllByRecursion (λ (j : Join). JoinFrom ms top all j) (sub_parts (parts_within depth ms) prefix first next x o).joins
one_from ms top all depth deep prefix first next place path x None is = tt
one_from ms top all depth deep prefix first next place path x (Some inner) is =
    let h = is inner refl in
    all_append (λ (j : Join). JoinFrom ms top all j) (connection_joins first next x.connections inner.ports) (parts_within depth ms (inside prefix x.name) next inner).joins
    (ports_from ms top all path place first next x inner h.3 0 inner.ports (λ j. (let e : 0 + j ≡ j = omega arith in ap (slice_get inner.ports) e)))
    (deep (inside prefix x.name) next (below path place) inner h.0 h.1 h.2)

items_from : (ms : List Module) (top : Module) (all : List Spot) (depth : ℕ) → JoinsBelow ms top all depth → (prefix : Text) (path : Path) (m : Module) (first join cell place next : ℕ) (items : List Item) →
    AreTall ms depth (subs_of items) → Position ms top all depth path m first join cell place next items → AllByRecursion (λ (j : Join). JoinFrom ms top all j) (item_parts (parts_within depth ms) ms prefix first next items).joins
items_from ms top all depth deep prefix path m first join cell place next [] tall p = tt
items_from ms top all depth deep prefix path m first join cell place next (item.Join j ∷ items) tall p = (
  OwnJoin path m first join j p.at p.base (first_one Join (joins_of m.items) (joins_of items) j join p.joins) refl,
  items_from ms top all depth deep prefix path m first (suc join) cell place next items tall (past_join ms top all depth path m first join cell place next j items p),
)
items_from ms top all depth deep prefix path m first join cell place next (item.Cell i ∷ items) tall p =
    items_from ms top all depth deep prefix path m first join (suc cell) place next items tall (past_cell ms top all depth path m first join cell place next i items p)
items_from ms top all depth deep prefix path m first join cell place next (item.Sub x ∷ items) tall p =
    let mine : Parts = here ms depth prefix first next x in
    let there = first_one SubInstance (subs_of m.items) (subs_of items) x place p.subs in
    all_append (λ (j : Join). JoinFrom ms top all j) mine.joins (item_parts (parts_within depth ms) ms prefix first (next + length mine.nets) items).joins
    (one_from ms top all depth deep prefix first next place path x (find_module ms x.of) (λ inner found. (
    let stands = tall 0 x inner refl found in
    let nets = own_nets ms all depth path next place x (subs_of items) inner found p.nets in (
      stands,
      module_on ms path top m inner place x p.at there found,
      nets,
      record { outer = m; outer_at = p.at; sub_at = there; inner_is = found; outer_base = p.base; inner_base = based ms all depth (below path place) inner next stands nets },
    ))))
    (items_from ms top all depth deep prefix path m first join cell (suc place) (next + length mine.nets) items (λ k s b at is. tall (suc k) s b at is) (past_sub ms top all depth path m first join cell place next prefix x items p))

pub joins_from : (ms : List Module) (top : Module) (all : List Spot) (depth : ℕ) → JoinsBelow ms top all depth
joins_from ms top all zero = λ prefix first path m tall at h. tt
joins_from ms top all (suc depth) = λ prefix first path m tall at h.
    items_from ms top all depth (joins_from ms top all depth) prefix path m first 0 0 0 (first + length m.nets) m.items (tall_subs ms depth m tall) (starts ms top all depth path m first at h)

-- ---- what stands at a path is there

-- the module at a path gives its part of these joins
pub record Block (ms : List Module) (all : List Spot) (joins : List Join) (path : Path) (m : Module) : Type 0 where
  pub depth : ℕ
  pub prefix : Text
  pub first : ℕ
  pub base : HasBase all path m first
  pub nets : Segment all (first + length m.nets) (subs_spots (net_spots_within depth ms) ms path 0 (subs_of m.items))
  pub tall : AreTall ms depth (subs_of m.items)
  pub given : (j : Join) → In Join (item_parts (parts_within depth ms) ms prefix first (first + length m.nets) m.items).joins j → In Join joins j

-- and so does the module instance at a place
record SubBlock (ms : List Module) (all : List Spot) (joins : List Join) (depth : ℕ) (prefix : Text) (first : ℕ) (path : Path) (place : ℕ) (x : SubInstance) (inner : Module) : Type 0 where
  start : ℕ
  nets : Segment all start (net_spots_within depth ms (below path place) inner)
  given : (j : Join) → In Join (connection_joins first start x.connections inner.ports ++ (parts_within depth ms (inside prefix x.name) start inner).joins) j → In Join joins j

module _ (ms : List Module) (all : List Spot) (joins : List Join) (depth : ℕ) (prefix : Text) (first : ℕ) (path : Path) where
  sub_block : (next from place : ℕ) (items : List Item) (x : SubInstance) (inner : Module) → slice_get (subs_of items) place ≡ Some x → find_module ms x.of ≡ Some inner →
      Segment all next (subs_spots (net_spots_within depth ms) ms path from (subs_of items)) → ((j : Join) → In Join (item_parts (parts_within depth ms) ms prefix first next items).joins j → In Join joins j) →
      SubBlock ms all joins depth prefix first path (from + place) x inner
  sub_block next from place [] x inner at found nets given = absurd (let f : ⊥ = cc in f)
  sub_block next from place (item.Join j ∷ items) x inner at found nets given =
      sub_block next from place items x inner at found nets (λ k h. given k (record { place = suc h.place; at = h.at }))
  sub_block next from place (item.Cell i ∷ items) x inner at found nets given = sub_block next from place items x inner at found nets given
  sub_block next from zero (item.Sub y ∷ items) x inner at found nets given =
      let same : y ≡ x = cc in
      let start : from ≡ from + 0 = omega arith in
      let known : find_module ms y.of ≡ Some inner = ap (λ (z : SubInstance). find_module ms z.of) same ∙ found in
      let mine : List Join = connection_joins first next y.connections inner.ports ++ (parts_within depth ms (inside prefix y.name) next inner).joins in
      let is : (here ms depth prefix first next y).joins ≡ mine = ap (λ (o : Option Module). (sub_parts (parts_within depth ms) prefix first next y o).joins) known in
      let rest : List Join = (item_parts (parts_within depth ms) ms prefix first (next + length (here ms depth prefix first next y).nets) items).joins in
      let given_here : (j : Join) → In Join mine j → In Join joins j = λ j h. given j (in_left Join (here ms depth prefix first next y).joins rest j (subst (λ (js : List Join). In Join js j) (sym is) h)) in
      subst (λ (z : SubInstance). SubBlock ms all joins depth prefix first path (from + 0) z inner) same
      (subst (λ (n : ℕ). SubBlock ms all joins depth prefix first path n y inner) start (record { start = next; nets = own_nets ms all depth path next from y (subs_of items) inner known nets; given = given_here }))
  sub_block next from (suc place) (item.Sub y ∷ items) x inner at found nets given =
      let on : suc from + place ≡ from + suc place = omega arith in
      let mine : Parts = here ms depth prefix first next y in
      subst (λ (n : ℕ). SubBlock ms all joins depth prefix first path n x inner) on
      (sub_block (next + length mine.nets) (suc from) place items x inner at found (past_nets ms all depth prefix path first next from y (subs_of items) nets)
      (λ j h. given j (in_right Join mine.joins (item_parts (parts_within depth ms) ms prefix first (next + length mine.nets) items).joins j h)))

pub block_at : (ms : List Module) (all : List Spot) (joins : List Join) (depth : ℕ) (x : Module) → StandsTall ms depth x → (base path : Path) (prefix : Text) (first : ℕ) (m : Module) → Segment all first (net_spots_within depth ms base x) →
    ((j : Join) → In Join (parts_within depth ms prefix first x).joins j → In Join joins j) → module_at ms path x ≡ Some m → Block ms all joins (base ++ path) m
block_at ms all joins zero x tall base path prefix first m nets given at = elim tall [ ]
block_at ms all joins (suc depth) x tall base [] prefix first m nets given at =
    let same : x ≡ m = cc in
    let rest : List Spot = subs_spots (net_spots_within depth ms) ms base 0 (subs_of x.items) in
    let block : Block ms all joins base x = record {
      depth = depth;
      prefix = prefix;
      first = first;
      base = base_of all base x first rest nets;
      nets = rest_of all base x first rest nets;
      tall = tall_subs ms depth x tall;
      given = given;
    } in
    subst (λ (p : Path). Block ms all joins p m) (sym (append-nil base)) (subst (Block ms all joins base) same block)
block_at ms all joins (suc depth) x tall base (place ∷ path) prefix first m nets given at =
    let b = module_below ms path m (slice_get (subs_of x.items) place) at in
    let rest : List Spot = subs_spots (net_spots_within depth ms) ms base 0 (subs_of x.items) in
    let start : 0 + place ≡ place = omega arith in
    let there : SubBlock ms all joins depth prefix first base place b.sub b.inner = subst (λ (n : ℕ). SubBlock ms all joins depth prefix first base n b.sub b.inner) start
    (sub_block ms all joins depth prefix first base (first + length x.nets) 0 place x.items b.sub b.inner b.at b.found (rest_of all base x first rest nets) given) in
    let own : List Join = connection_joins first there.start b.sub.connections b.inner.ports in
    subst (λ (p : Path). Block ms all joins p m) (append_assoc base (place ∷ []) path)
    (block_at ms all joins depth b.inner (tall_subs ms depth x tall place b.sub b.inner b.at b.found) (below base place) path (inside prefix b.sub.name) there.start m there.nets
    (λ j h. there.given j (in_right Join own (parts_within depth ms (inside prefix b.sub.name) there.start b.inner).joins j h)) b.rest)

-- ---- joins that are there

own_in : (ms : List Module) (depth : ℕ) (prefix : Text) (first next : ℕ) (items : List Item) (k : ℕ) (there : Join) → slice_get (joins_of items) k ≡ Some there → In Join (item_parts (parts_within depth ms) ms prefix first next items).joins (moved_join first there)
own_in ms depth prefix first next [] k there at = absurd (let f : ⊥ = cc in f)
own_in ms depth prefix first next (item.Join j ∷ items) zero there at = let same : j ≡ there = cc in record { place = 0; at = ap (λ (x : Join). Some (moved_join first x)) same }
own_in ms depth prefix first next (item.Join j ∷ items) (suc k) there at = let r = own_in ms depth prefix first next items k there at in record { place = suc r.place; at = r.at }
own_in ms depth prefix first next (item.Cell i ∷ items) k there at = own_in ms depth prefix first next items k there at
own_in ms depth prefix first next (item.Sub x ∷ items) k there at =
    let mine : Parts = here ms depth prefix first next x in
    in_right Join mine.joins (item_parts (parts_within depth ms) ms prefix first (next + length mine.nets) items).joins (moved_join first there) (own_in ms depth prefix first (next + length mine.nets) items k there at)

-- a module's own join
pub own_join : (ms : List Module) (all : List Spot) (joins : List Join) (path : Path) (m : Module) (b : Block ms all joins path m) (k : ℕ) (there : Join) → slice_get (joins_of m.items) k ≡ Some there → In Join joins (moved_join b.first there)
own_join ms all joins path m b k there at = b.given (moved_join b.first there) (own_in ms b.depth b.prefix b.first (b.first + length m.nets) m.items k there at)

bit_in : (outside within : ℕ) (d : Dir) (bits : List NetId) (signals : List Signal) (k : ℕ) (b : NetId) (to : Signal) (j : Join) → slice_get bits k ≡ Some b → slice_get signals k ≡ Some to → In Join (bit_joins d (moved_net within b) (moved outside to)) j →
    In Join (port_joins d (map (moved_net within) bits) (map (moved outside) signals)) j
bit_in outside within d [] signals k b to j at is h = absurd (let f : ⊥ = cc in f)
bit_in outside within d (x ∷ bits) [] k b to j at is h = absurd (let f : ⊥ = cc in f)
bit_in outside within d (x ∷ bits) (y ∷ signals) zero b to j at is h =
    let e : x ≡ b = cc in
    let f : y ≡ to = cc in
    in_left Join (bit_joins d (moved_net within x) (moved outside y)) (port_joins d (map (moved_net within) bits) (map (moved outside) signals)) j
    (subst (λ (z : NetId). In Join (bit_joins d (moved_net within z) (moved outside y)) j) (sym e) (subst (λ (z : Signal). In Join (bit_joins d (moved_net within b) (moved outside z)) j) (sym f) h))
bit_in outside within d (x ∷ bits) (y ∷ signals) (suc k) b to j at is h =
    in_right Join (bit_joins d (moved_net within x) (moved outside y)) (port_joins d (map (moved_net within) bits) (map (moved outside) signals)) j (bit_in outside within d bits signals k b to j at is h)

port_in : (outside within : ℕ) (connections : List Connection) (ports : List Port) (k : ℕ) (p : Port) (j : Join) → slice_get ports k ≡ Some p → In Join (port_joins p.dir (map (moved_net within) p.bits) (map (moved outside) (joined_to connections p.name))) j →
    In Join (connection_joins outside within connections ports) j
port_in outside within connections [] k p j at h = absurd (let f : ⊥ = cc in f)
port_in outside within connections (x ∷ ports) zero p j at h =
    let e : x ≡ p = cc in
    in_left Join (port_joins x.dir (map (moved_net within) x.bits) (map (moved outside) (joined_to connections x.name))) (connection_joins outside within connections ports) j
    (subst (λ (z : Port). In Join (port_joins z.dir (map (moved_net within) z.bits) (map (moved outside) (joined_to connections z.name))) j) (sym e) h)
port_in outside within connections (x ∷ ports) (suc k) p j at h =
    in_right Join (port_joins x.dir (map (moved_net within) x.bits) (map (moved outside) (joined_to connections x.name))) (connection_joins outside within connections ports) j (port_in outside within connections ports k p j at h)

-- the join of a bit where two modules meet, by where the nets of the inner one begin
pub record MetJoin (ms : List Module) (top : Module) (all : List Spot) (joins : List Join) (path : Path) (place outside : ℕ) (d : Dir) (net : ℕ) (to : Signal) (meets : Meets ms top path place d net to) : Type 0 where
  pub within : ℕ
  pub base : HasBase all (below path place) meets.inner within
  pub there : (j : Join) → In Join (bit_joins d (record { 0 = within + net }) (moved outside to)) j → In Join joins j

pub met_join : (ms : List Module) (top : Module) (all : List Spot) (joins : List Join) (path : Path) (place : ℕ) (d : Dir) (net : ℕ) (to : Signal) (meets : Meets ms top path place d net to) (b : Block ms all joins path meets.outer) →
    MetJoin ms top all joins path place b.first d net to meets
met_join ms top all joins path place d net to meets b =
    let start : 0 + place ≡ place = omega arith in
    let x : SubInstance = meets.sub in
    let inner : Module = meets.inner in
    let bit = meets.joins in
    let sub : SubBlock ms all joins b.depth b.prefix b.first path place x inner = subst (λ (n : ℕ). SubBlock ms all joins b.depth b.prefix b.first path n x inner) start
    (sub_block ms all joins b.depth b.prefix b.first path (b.first + length meets.outer.nets) 0 place meets.outer.items x inner meets.sub_at meets.inner_is b.nets b.given) in
    record {
      within = sub.start;
      base = based ms all b.depth (below path place) inner sub.start (b.tall place x inner meets.sub_at meets.inner_is) sub.nets;
      there = λ j h. sub.given j (in_left Join (connection_joins b.first sub.start x.connections inner.ports) (parts_within b.depth ms (inside b.prefix x.name) sub.start inner).joins j
          (port_in b.first sub.start x.connections inner.ports bit.place bit.port j bit.port_at
          (bit_in b.first sub.start bit.port.dir bit.port.bits (joined_to x.connections bit.port.name) bit.bit (record { 0 = net }) to j bit.within bit.outside
          (subst (λ (e : Dir). In Join (bit_joins e (record { 0 = sub.start + net }) (moved b.first to)) j) (sym bit.dir_is) h))));
    }
