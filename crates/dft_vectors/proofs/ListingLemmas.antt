-- One pattern more, and the end.
use Rattle.std.proofs.Common.{◌≡◌, ℕ, List, [], ◌∷◌, ◌++◌, length, map, min, take, drop, arith, Option, None, Some, refl, sym, ap, ap₂, subst, ◌∙◌, append_assoc}
use Rattle.std.proofs.lemmas.List.{append-nil, drop_min, take_min}
use Rattle.dft_base.specs.declared.tri.Tri.{Tri}
use Rattle.dft_cubes.specs.declared.cube.Merged.{Merged}
use Rattle.dft_cubes.specs.Domains.{captures_of}
use Rattle.dft_netlist.specs.Netlist.{Netlist}
use Rattle.dft_config.specs.Config.{Config}
use Rattle.dft_config.specs.Ring.{Table}
use Rattle.dft_stitch.specs.Plans.{Plan}
use Rattle.dft_patterns.specs.declared.act.Act.{Act}
use Rattle.dft_patterns.specs.Patterns.{Patterns}
use Rattle.dft_vectors.specs.PatternData.{PatternData, load_of, merged_of}
use Rattle.dft_vectors.specs.Listing.{Listing, Lists}
use Rattle.dft_vectors.specs.ListSteps.{begun_by, set_up_at, unload_at, ended_by}
use Rattle.dft_expect.specs.Captures.{output_bits}
use Rattle.dft_vectors.specs.AddedPorts.{clearing, waiting}
use Rattle.dft_vectors.specs.VectorList.{set_up_acts, load_vectors, capture_acts, capture_list, capture_with, captures_in, captures_with, pattern_vectors, last_of, vectors_before_end, vectors_of, no_table}

-- the captures of one pattern more
captures_more : (patterns : List PatternData) (p : PatternData) → captures_in (map merged_of (patterns ++ p ∷ [])) ≡ captures_in (map merged_of patterns) ++ captures_of p.merged ∷ []
captures_more [] p = refl
captures_more (q ∷ patterns) p = ap (λ (c : List ℕ). captures_of q.merged ∷ c) (captures_more patterns p)

-- the vectors of one pattern more
pattern_more : (n : Netlist) (config : Config) (plan : Plan) (before : Option PatternData) (patterns : List PatternData) (p : PatternData) →
    pattern_vectors n config plan before (patterns ++ p ∷ []) ≡ pattern_vectors n config plan before patterns ++ (load_vectors n config plan (load_of config p) p.masks (last_of before patterns) ++ capture_acts n config p)
pattern_more n config plan before [] p = ap (λ l. load_vectors n config plan (load_of config p) p.masks before ++ l) (append-nil (capture_acts n config p))
pattern_more n config plan before (q ∷ patterns) p =
    let one : List (List Act) = load_vectors n config plan (load_of config p) p.masks (last_of (Some q) patterns) ++ capture_acts n config p in
    let load : List (List Act) = load_vectors n config plan (load_of config q) q.masks before in
    ap (λ l. load ++ (capture_acts n config q ++ l)) (pattern_more n config plan (Some q) patterns p)
    ∙ ap (λ l. load ++ l) (sym (append_assoc (capture_acts n config q) (pattern_vectors n config plan (Some q) patterns) one))
    ∙ sym (append_assoc load (capture_acts n config q ++ pattern_vectors n config plan (Some q) patterns) one)

-- the vectors so far and those of one pattern more
vectors_more : (l : Listing) (patterns : List PatternData) (p : PatternData) → Lists l patterns →
    begun_by l ++ (load_vectors l.design l.config l.plan (load_of l.config p) p.masks (last_of None patterns) ++ capture_acts l.design l.config p) ≡ vectors_before_end l.design l.config l.plan (patterns ++ p ∷ [])
vectors_more l [] p h = ap₂ (λ c v. set_up_at c (set_up_acts l.design l.config) v ++ (load_vectors l.design l.config l.plan (load_of l.config p) p.masks None ++ capture_acts l.design l.config p)) h.captures h.vectors
    ∙ ap (λ v. set_up_acts l.design l.config ∷ (load_vectors l.design l.config l.plan (load_of l.config p) p.masks None ++ v)) (sym (append-nil (capture_acts l.design l.config p)))
vectors_more l (q ∷ patterns) p h =
    ap₂ (λ c v. set_up_at c (set_up_acts l.design l.config) v ++ (load_vectors l.design l.config l.plan (load_of l.config p) p.masks (last_of None (q ∷ patterns)) ++ capture_acts l.design l.config p)) h.captures h.vectors
    ∙ ap (λ v. set_up_acts l.design l.config ∷ v) (sym (pattern_more l.design l.config l.plan None (q ∷ patterns) p))

-- a list with the vectors of one pattern more
pub lists_more : (l m : Listing) (patterns : List PatternData) (p : PatternData) → Lists l patterns →
    m ≡ record l { vectors = (begun_by l ++ load_vectors l.design l.config l.plan (load_of l.config p) p.masks (last_of None patterns)) ++ capture_acts l.design l.config p; captures = l.captures ++ captures_of p.merged ∷ [] } → Lists m (patterns ++ p ∷ [])
lists_more l m patterns p h is = subst (λ (k : Listing). Lists k (patterns ++ p ∷ [])) (sym is) (record {
  vectors = append_assoc (begun_by l) (load_vectors l.design l.config l.plan (load_of l.config p) p.masks (last_of None patterns)) (capture_acts l.design l.config p) ∙ vectors_more l patterns p h;
  captures = ap (λ (c : List ℕ). c ++ captures_of p.merged ∷ []) h.captures ∙ sym (captures_more patterns p);
})

-- the steps of two captures
pub two_steps : (l l1 l2 : Listing) (merged : Merged) (first second own : ℕ) (outputs one two : List Tri) → own ≡ length (output_bits l.design.ports) → one ≡ take (min own (length outputs)) outputs → two ≡ drop (min own (length outputs)) outputs →
    l1 ≡ record l { vectors = l.vectors ++ capture_with l.design l.config merged first (waiting l.config) one ∷ [] } → l2 ≡ record l1 { vectors = l1.vectors ++ capture_with l1.design l1.config merged second (clearing l1.config) two ∷ [] } →
    l2 ≡ record l { vectors = l.vectors ++ captures_with l.design l.config merged first (second ∷ []) outputs }
two_steps l l1 l2 merged first second own outputs one two count front back e1 e2 =
    let a : List Act → List Act → List (List Act) = λ x y. (l.vectors ++ x ∷ []) ++ y ∷ [] in
    let shown = λ (os : List Tri). capture_with l.design l.config merged first (waiting l.config) os in
    let last = λ (os : List Tri). capture_with l.design l.config merged second (clearing l.config) os in
    let width : ℕ = length (output_bits l.design.ports) in
    let fronts : one ≡ take width outputs = front ∙ take_min own outputs ∙ ap (λ (k : ℕ). take k outputs) count in
    let backs : two ≡ drop width outputs = back ∙ drop_min own outputs ∙ ap (λ (k : ℕ). drop k outputs) count in
    e2 ∙ ap (λ (k : Listing). record k { vectors = k.vectors ++ capture_with k.design k.config merged second (clearing k.config) two ∷ [] }) e1
    ∙ (λ i. record l { vectors = a (shown (fronts i)) (last (backs i)) })
    ∙ ap (λ (v : List (List Act)). record l { vectors = v }) (append_assoc l.vectors (shown (take width outputs) ∷ []) (last (drop width outputs) ∷ []))

-- the steps of one pattern more
pub all_steps : (l l1 l2 l3 m : Listing) (patterns : List PatternData) (p : PatternData) (load : Config → Table) (last : Config → Plan → Option PatternData) → Lists l patterns →
    (before : last l.config l.plan ≡ last_of None patterns) → (bits : load l.config ≡ load_of l.config p) → (e1 : l1 ≡ record l { vectors = begun_by l }) →
    (e2 : l2 ≡ record l1 { vectors = l1.vectors ++ load_vectors l1.design l1.config l1.plan (load l1.config) p.masks (last l1.config l1.plan) }) →
    (e3 : l3 ≡ record l2 { vectors = l2.vectors ++ capture_list l2.design l2.config p.merged p.response.outputs }) → (e4 : m ≡ record l3 { captures = l3.captures ++ captures_of p.merged ∷ [] }) → Lists m (patterns ++ p ∷ [])
all_steps l l1 l2 l3 m patterns p load last h before bits e1 e2 e3 e4 =
    let second = λ (k : Listing). record k { vectors = k.vectors ++ load_vectors k.design k.config k.plan (load k.config) p.masks (last k.config k.plan) } in
    let third = λ (k : Listing). record k { vectors = k.vectors ++ capture_list k.design k.config p.merged p.response.outputs } in
    let fourth = λ (k : Listing). record k { captures = k.captures ++ captures_of p.merged ∷ [] } in
    lists_more l m patterns p h (e4 ∙ ap fourth (e3 ∙ ap third (e2 ∙ ap second e1))
    ∙ (λ i. record l { vectors = (begun_by l ++ load_vectors l.design l.config l.plan (bits i) p.masks (before i)) ++ capture_acts l.design l.config p; captures = l.captures ++ captures_of p.merged ∷ [] }))

-- all vectors
pub lists_end : (l : Listing) (patterns : List PatternData) (load : Table) (last : Option PatternData) → Lists l patterns → load ≡ no_table → last ≡ last_of None patterns → ended_by l load last ≡ vectors_of l.design l.config l.plan patterns
lists_end l [] load last h none before = ap₂ (λ c v. unload_at c (load_vectors l.design l.config l.plan load [] last) v) h.captures h.vectors
lists_end l (q ∷ patterns) load last h none before =
    ap₂ (λ c v. unload_at c (load_vectors l.design l.config l.plan load [] last) v) h.captures h.vectors
    ∙ (λ i. vectors_before_end l.design l.config l.plan (q ∷ patterns) ++ load_vectors l.design l.config l.plan (none i) [] (before i))

pub unload_none : (captures : List ℕ) (load vectors : List (List Act)) → length captures ≡ 0 → unload_at captures load vectors ≡ vectors
unload_none [] load vectors is = refl
unload_none (count ∷ captures) load vectors is = absurd (omega (arith, is))

pub unload_some : (captures : List ℕ) (load vectors : List (List Act)) → (length captures ≡ 0 → ⊥) → unload_at captures load vectors ≡ vectors ++ load
unload_some [] load vectors some = absurd (some refl)
unload_some (count ∷ captures) load vectors some = refl

pub same_set : (a b : Patterns) → a.signals ≡ b.signals → a.vectors ≡ b.vectors → a.notes ≡ b.notes → a ≡ b
same_set a b signals vectors notes = λ i. record { signals = signals i; vectors = vectors i; notes = notes i }
