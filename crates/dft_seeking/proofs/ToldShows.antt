-- A pattern that gives what a told cube gives shows its fault.
use Rattle.std.proofs.Common.{ℕ, zero, suc, ◌≡◌, ◌∙◌, ◌||◌, ◌⊎◌, inl, inr, Bool, true, false, List, [], ◌∷◌, filter, map, Some, slice_get, ap, subst}
use Rattle.std.specs.Prelude.{slice_index_or}
use Rattle.std.specs.List.{list_any}
use Rattle.std.proofs.lemmas.Option.{none-some, same_Some}
use Rattle.dft_base.specs.declared.tri.Tri.{Tri}
use Rattle.dft_base.specs.declared.tri.Tri.TheVariants.{Unknown}
use Rattle.dft_netlist.specs.declared.ids.NetId.{NetId}
use Rattle.dft_netlist.specs.declared.ids.InstanceId.{InstanceId}
use Rattle.dft_faults.specs.Faulty.{faulty}
use Rattle.dft_expect.specs.declared.response.Response.{Response}
use Rattle.dft_expect.specs.Captures.{output_bits}
use Rattle.dft_capture.specs.Captures.{captured}
use Rattle.dft_seek.specs.Searches.{Both, Given, Output, Point, Response as AResponse, Search, cells_in, detects_at, differ, moving_of, points_of, takes_at}
use Rattle.dft_seek.proofs.Telling.{cube_true}
use Rattle.dft_seek.proofs.TreeLemmas.{both_one}
use Rattle.dft_seeking.specs.Expected.{Disagree, ExpectedTells, HaveDifference, IsShown, given_by}
use Rattle.dft_seeking.proofs.ApartLemmas.{StandsIn, any_stands, made_of, one_of, passes}
use Rattle.dft_seeking.proofs.ExpectedLemmas.{expected_shown}

value_there : {X : Type 0} (f : X → Tri) (xs : List X) (k : ℕ) (x : X) → slice_get xs k ≡ Some x → slice_index_or (map f xs) k Unknown ≡ f x
value_there f [] k x at = absurd (none-some x at)
value_there f (y ∷ xs) zero x at = ap f (same_Some y x at)
value_there f (y ∷ xs) (suc k) x at = value_there f xs k x at

-- what two functions give where they differ
apart_there : {X : Type 0} (f h : X → Tri) (values others : List Tri) (xs : List X) (x : X) → values ≡ map f xs → others ≡ map h xs → StandsIn xs x → differ (f x) (h x) ≡ true → HaveDifference values others
apart_there f h values others xs x one other stands is =
    let k : ℕ = stands.0 in
    let first : slice_index_or values k Unknown ≡ f x = ap (λ (ts : List Tri). slice_index_or ts k Unknown) one ∙ value_there f xs k x stands.1 in
    let second : slice_index_or others k Unknown ≡ h x = ap (λ (ts : List Tri). slice_index_or ts k Unknown) other ∙ value_there h xs k x stands.1 in
    (k, (λ i. differ (first i) (second i)) ∙ is)

module _ (s : Search) (g : Given) (r q : Response) (good : IsShown s s.design g r) (bad : IsShown s (faulty s.design s.fault) g q) where
  abbrev both : Both
  both = record { good = good.settled; faulty = bad.settled }

  abbrev output_of : NetId → Point
  output_of net = Output net.0

  abbrev response_of : InstanceId → Point
  response_of cell = AResponse cell.0

  abbrev takes : InstanceId → Bool
  takes cell = takes_at s false cell.0 || takes_at s true cell.0

  at_output : (net : NetId) → StandsIn (output_bits s.design.ports) net → detects_at s g both (Output net.0) ≡ true → Disagree r q
  at_output net stands is = inr (apart_there (λ (x : NetId). good.settled.first x.0) (λ (x : NetId). bad.settled.first x.0) r.outputs q.outputs (output_bits s.design.ports) net good.outputs bad.outputs stands is)

  at_response : (cell : InstanceId) → StandsIn (cells_in s) cell → detects_at s g both (AResponse cell.0) ≡ true → Disagree r q
  at_response cell stands is =
      inl (apart_there (λ (x : InstanceId). captured s.design (moving_of s) g.cells good.settled x.0) (λ (x : InstanceId). captured (faulty s.design s.fault) (moving_of s) g.cells bad.settled x.0) r.cells q.cells (cells_in s) cell good.cells bad.cells stands is)

  at_point : (point : Point) → StandsIn (map output_of (output_bits s.design.ports)) point ⊎ StandsIn (map response_of (filter takes (cells_in s))) point → detects_at s g both point ≡ true → Disagree r q
  at_point point (inl stands) is =
      let m = made_of output_of (output_bits s.design.ports) point stands in
      at_output m.from m.stands (ap (detects_at s g both) m.is ∙ is)
  at_point point (inr stands) is =
      let m = made_of response_of (filter takes (cells_in s)) point stands in
      at_response m.from (passes takes (cells_in s) m.from m.stands).0 (ap (detects_at s g both) m.is ∙ is)

  pub differ_by : list_any (detects_at s g both) (points_of s) ≡ true → Disagree r q
  differ_by any =
      let found = any_stands (detects_at s g both) (points_of s) any in
      at_point found.0 (one_of (map output_of (output_bits s.design.ports)) (map response_of (filter takes (cells_in s))) found.0 found.1.0) found.1.1

pub expected_tells : ExpectedTells
expected_tells s rank limit name cube merged loaded r q can may once sought completes expected bad =
    let g : Given = given_by s merged loaded in
    let good : IsShown s s.design g r = expected_shown s merged loaded r may once expected in
    let detects = cube_true s rank limit name cube g can sought completes in
    let both : Both = record { good = good.settled; faulty = bad.settled } in
    let same : detects.0 ≡ both = both_one s rank g detects.0 both can detects.1.0 (record { good = good.are; faulty = bad.are }) in
    differ_by s g r q good bad (subst (λ (x : Both). list_any (detects_at s g x) (points_of s) ≡ true) same detects.1.1)
