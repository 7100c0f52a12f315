-- One pattern more.
use Rattle.std.proofs.Common.{◌≡◌, ℕ, ◌+◌, ◌<◌, ◌≤◌, ◌⊎◌, inl, inr, List, [], ◌∷◌, ◌++◌, length, map, take, Option, None, Some, refl, sym, subst, ap, ◌∙◌, length-take, zero-add, arith}
use Rattle.std.specs.Prelude.{slice_get, count_by, IfSome}
use Rattle.std.proofs.lemmas.List.{take_more, map_push, length-map}
use Rattle.std.proofs.lemmas.List.Sums.{sum_by-append}
use Rattle.std.proofs.lemmas.Option.{get_or_from_slice_get, slice_get_within}
use Rattle.dft_base.proofs.ListLemmas.{get_push}
use Rattle.dft_netlist.specs.Netlist.{Netlist}
use Rattle.dft_config.specs.Config.{Config}
use Rattle.dft_cubes.specs.Domains.{captures_of}
use Rattle.dft_equations.specs.LoadRows.{LoadRows}
use Rattle.dft_stitch.specs.Plans.{Plan}
use Rattle.dft_cubes.specs.declared.cube.Merged.{Merged}
use Rattle.dft_vectors.specs.Listing.{Listing, Lists}
use Rattle.dft_vectors.specs.PatternData.{PatternData}
use Rattle.dft_vectors.specs.VectorList.{last_of}
use Rattle.dft_encode.specs.declared.filling.Filled.{Filled}
use Rattle.dft_encode.specs.declared.finder.Finder.{Finder}
use Rattle.dft_encode.specs.declared.found.Found.{Found}
use Rattle.dft_encode.specs.Compiled.{IsPattern, merged_of}
use Rattle.dft_encode.specs.Counts.{is_set, masked_in}
use Rattle.dft_encode.specs.Finding.{HasPatterns, FitsFound, data_found, last_found}

last_push : (before : Option PatternData) (patterns : List PatternData) (p : PatternData) → last_of before (patterns ++ p ∷ []) ≡ Some p
last_push before [] p = refl
last_push before (q ∷ patterns) p = last_push (Some q) patterns p

-- a pattern of one of these
each_case : (n : Netlist) (config : Config) (plan : Plan) (rows : LoadRows) (patterns : List PatternData) (p q : PatternData) (number k : ℕ) → length patterns ≡ number → ((j : ℕ) (r : PatternData) → slice_get patterns j ≡ Some r → IsPattern n config plan rows j r) →
    IsPattern n config plan rows number p → (slice_get patterns k ≡ Some q) ⊎ ((k ≡ length patterns) × (p ≡ q)) → IsPattern n config plan rows k q
each_case n config plan rows patterns p q number k count each new (inl there) = each k q there
each_case n config plan rows patterns p q number k count each new (inr last) = subst (IsPattern n config plan rows k) last.1 (subst (λ (j : ℕ). IsPattern n config plan rows j p) (sym (last.0 ∙ count)) new)

-- no pattern yet
pub none_yet : (f : Finder) (g : Filled) (l : Listing) → l ≡ record { design = f.loads.now.design; config = f.loads.now.config; plan = f.loads.now.plan; vectors = []; captures = [] } → g.last ≡ None → g.masked ≡ 0 → HasPatterns f 0 g l
none_yet f g l is last masked = record {
  design = ap (λ (k : Listing). k.design) is;
  config = ap (λ (k : Listing). k.config) is;
  plan = ap (λ (k : Listing). k.plan) is;
  patterns = [];
  are = record { merged = refl; each = λ number p at. absurd (let none : ⊥ = cc in none) };
  lists = record { vectors = ap (λ (k : Listing). k.vectors) is; captures = ap (λ (k : Listing). k.captures) is };
  last = ap (last_found f.loads.now.config f.loads.now.plan) last;
  fits = subst (λ (o : Option Found). IfSome o (FitsFound f.loads.now.config f.loads.now.plan)) (sym last) tt;
  masked = masked;
  few = omega (arith, masked);
}

-- the patterns so far are as many as their merged cubes
pub count_is : (f : Finder) (number : ℕ) (g : Filled) (l : Listing) → HasPatterns f number g l → number < length f.merger.now.patterns → length l.captures ≡ number
count_is f number g l h less = ap length h.lists.captures ∙ length-map (map merged_of h.patterns) captures_of ∙ ap length h.are.merged ∙ length-take number f.merger.now.patterns ∙ omega (arith, less)

-- what a list of this configuration and these chains has, in the words of the finder
in_list : (config d : Config) (plan q : Plan) (last : Option Found) (l m : Listing) (found : Found) (patterns : List PatternData) → config ≡ d → plan ≡ q →
    (Lists l patterns → last_found config plan last ≡ last_of None patterns → Lists m (patterns ++ data_found config plan found ∷ [])) → Lists l patterns → last_found d q last ≡ last_of None patterns → Lists m (patterns ++ data_found d q found ∷ [])
in_list config d plan q last l m found patterns e r h =
    let P : Config → Type 0 = λ x. Lists l patterns → last_found x q last ≡ last_of None patterns → Lists m (patterns ++ data_found x q found ∷ []) in
    let Q : Plan → Type 0 = λ y. Lists l patterns → last_found config y last ≡ last_of None patterns → Lists m (patterns ++ data_found config y found ∷ []) in
    subst P e (subst Q r h)

-- with one pattern more
pub one_found : (f : Finder) (number : ℕ) (g h : Filled) (l m : Listing) (found : Found) → (has : HasPatterns f number g l) → (at : slice_get f.merger.now.patterns number ≡ Some found.merged) →
    (is : IsPattern f.loads.now.design f.loads.now.config f.loads.now.plan f.merger.now.loads.rows number (data_found f.loads.now.config f.loads.now.plan found)) → (fits : FitsFound f.loads.now.config f.loads.now.plan found) → (small : count_by is_set found.masks ≤ 1024) →
    (same : m ≡ record l { vectors = m.vectors; captures = l.captures ++ captures_of found.merged ∷ [] }) →
    (added : ((patterns : List PatternData) → Lists l patterns → last_found l.config l.plan g.last ≡ last_of None patterns → Lists m (patterns ++ data_found l.config l.plan found ∷ []))) →
    (last : h.last ≡ Some found) → (masked : h.masked ≡ g.masked + count_by is_set found.masks) → HasPatterns f (number + 1) h m
one_found f number g h l m found has at is fits small same added last masked =
    let merged = f.merger.now.patterns in
    let p = data_found f.loads.now.config f.loads.now.plan found in
    let less = slice_get_within merged number found.merged at in
    let length_is : length has.patterns ≡ number = sym (length-map has.patterns merged_of) ∙ ap length has.are.merged ∙ length-take number merged ∙ omega (arith, less) in
    let more_masked : masked_in (has.patterns ++ p ∷ []) ≡ masked_in has.patterns + count_by is_set found.masks =
    sum_by-append (λ (q : PatternData). count_by is_set q.masks) has.patterns (p ∷ []) ∙ ap (λ (m : ℕ). masked_in has.patterns + m) (zero-add (count_by is_set found.masks)) in
    let more : take (number + 1) merged ≡ take number merged ++ found.merged ∷ [] =
    take_more merged number found.merged less ∙ ap (λ (m : Merged). take number merged ++ m ∷ []) (get_or_from_slice_get merged number found.merged found.merged at) in record {
      design = ap (λ (k : Listing). k.design) same ∙ has.design;
      config = ap (λ (k : Listing). k.config) same ∙ has.config;
      plan = ap (λ (k : Listing). k.plan) same ∙ has.plan;
      patterns = has.patterns ++ p ∷ [];
      are = record {
        merged = map_push merged_of has.patterns p ∙ ap (λ (ms : List Merged). ms ++ found.merged ∷ []) has.are.merged ∙ sym more;
        each = λ k q there. each_case f.loads.now.design f.loads.now.config f.loads.now.plan f.merger.now.loads.rows has.patterns p q number k length_is has.are.each is (get_push has.patterns p q k there);
      };
      lists = in_list l.config f.loads.now.config l.plan f.loads.now.plan g.last l m found has.patterns has.config has.plan (added has.patterns) has.lists has.last;
      last = ap (last_found f.loads.now.config f.loads.now.plan) last ∙ sym (last_push None has.patterns p);
      fits = subst (λ (o : Option Found). IfSome o (FitsFound f.loads.now.config f.loads.now.plan)) (sym last) fits;
      masked = masked ∙ ap (λ (m : ℕ). m + count_by is_set found.masks) has.masked ∙ sym more_masked;
      few = omega (arith, masked, has.few, small);
    }

-- what is found, in the words of a list for the same configuration and chains
pub fits_list : (config d : Config) (plan q : Plan) (found : Found) → config ≡ d → plan ≡ q → FitsFound d q found → FitsFound config plan found
fits_list config d plan q found e r h = subst (λ (x : Config). FitsFound x plan found) (sym e) (subst (λ (y : Plan). FitsFound d y found) (sym r) h)

pub last_fits : (config d : Config) (plan q : Plan) (last : Option Found) → config ≡ d → plan ≡ q → IfSome last (FitsFound d q) → IfSome last (FitsFound config plan)
last_fits config d plan q last e r h = subst (λ (x : Config). IfSome last (FitsFound x plan)) (sym e) (subst (λ (y : Plan). IfSome last (FitsFound d y)) (sym r) h)
