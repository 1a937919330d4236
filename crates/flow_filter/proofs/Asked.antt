-- The first filter that matches, in the order in which they are asked, is the one that wins.
use Rattle.std.proofs.Common.{◌≡◌, ◌⊎◌, inl, inr, ⊎_elim, ℕ, ◌<◌, ◌≤◌, ◌==◌, min, Bool, true, false, ◌&&◌, ◌||◌, List, [], length, get_or, Option, Some, None, refl, arith, sym, ◌∙◌, ap, subst}
use Rattle.std.specs.Prelude.{Contains, option_and_then, slice_get}
use Rattle.std.specs.Option.{option_map_or, IfSome}
use Rattle.std.proofs.lemmas.Bool.{and_parts, cases_lt}
use Rattle.std.proofs.lemmas.Bool.Decides.{nat_tests}
use Rattle.std.proofs.lemmas.List.{get_or_default}
use Rattle.std.proofs.lemmas.Option.{slice_get-get_or, slice_get_within, get_or_from_slice_get}
use Rattle.conf_tree.specs.declared.filter.Addresses.{Addresses}
use Rattle.conf_tree.specs.declared.filter.Addresses.TheVariants as own
use Rattle.conf_tree.specs.declared.filter.Filter.{Filter}
use Rattle.packet_heads.specs.Flow.{Flow, Heads, V4, V6, Other}
use Rattle.flow_filter.specs.declared.ports.Filed.{Filed}
use Rattle.flow_filter.specs.declared.entries.Entries.{Entries}
use Rattle.flow_filter.specs.declared.entries.Entries.TheVariants as entries
use Rattle.flow_filter.specs.declared.numbers.Numbers.{Numbers}
use Rattle.flow_filter.specs.declared.numbers.Numbers.TheVariants as numbers
use Rattle.flow_filter.specs.declared.ports.Group.{Group}
use Rattle.flow_filter.specs.declared.ports.Side.{Side}
use Rattle.flow_filter.specs.declared.ports.Version.{Version}
use Rattle.flow_filter.specs.declared.ports.Version.TheVariants as version
use Rattle.flow_filter.specs.declared.sides.Sides.{Sides}
use Rattle.flow_filter.specs.declared.table.Table.{Table}
use Rattle.flow_filter.specs.declared.ports.Side.TheVariants.{Target, Source}
use Rattle.flow_filter.specs.Entries.{fits_at, of_version}
use Rattle.flow_filter.specs.Filed.{IsAtMost, port_among, port_in, port_on, version_of}
use Rattle.flow_filter.specs.Index.{least}
use Rattle.flow_filter.specs.Matches.{addresses_agree_4, addresses_agree_6, matches, ports_agree, ports_of, rest_agrees}
use Rattle.flow_filter.specs.Numbers.{AreNumbersOf, ports_in}
use Rattle.flow_filter.specs.Ranked.{IsRanked, filter_at, matches_at, ruleno_at}
use Rattle.flow_filter.specs.Search.{IsFirst, IsFirstUnder}
use Rattle.flow_filter.specs.Tables.{AreSides, IsTable}
use Rattle.flow_filter.specs.Winner.{matching, winner}
use Rattle.flow_filter.proofs.Best.{best_is}
use Rattle.flow_filter.proofs.Places.{Leads, leads_is, leads_or_none, none_left}

-- the filter that matches as this one
pub record Asked (filters : List Filter) (places : List ℕ) (flow : Flow) (rank : ℕ) : Type 0 where
  pub place : ℕ
  pub asked : Filter
  pub at_rank : slice_get places rank ≡ Some place
  pub at_place : slice_get filters place ≡ Some asked
  pub agrees : matches asked flow ≡ true

by_place : (filters : List Filter) (places : List ℕ) (flow : Flow) (rank place : ℕ) (o : Option Filter) → slice_get places rank ≡ Some place
    → slice_get filters place ≡ o → option_map_or (λ f. matches f flow) o false ≡ true → Asked filters places flow rank
by_place filters places flow rank place None at e h = cc
by_place filters places flow rank place (Some f) at e h = record { place = place; asked = f; at_rank = at; at_place = e; agrees = h }

by_rank : (filters : List Filter) (places : List ℕ) (flow : Flow) (rank : ℕ) (o : Option ℕ) → slice_get places rank ≡ o
    → option_map_or (λ f. matches f flow) (option_and_then (λ place. slice_get filters place) o) false ≡ true → Asked filters places flow rank
by_rank filters places flow rank None e h = cc
by_rank filters places flow rank (Some place) e h = by_place filters places flow rank place (slice_get filters place) e refl h

pub asked_at : (filters : List Filter) (places : List ℕ) (flow : Flow) (rank : ℕ) → matches_at filters places flow rank ≡ true
    → Asked filters places flow rank
asked_at filters places flow rank h = by_rank filters places flow rank (slice_get places rank) refl h

pub filter_of : (filters : List Filter) (places : List ℕ) (flow : Flow) (rank : ℕ) (a : Asked filters places flow rank)
    → filter_at filters places rank ≡ Some a.asked
filter_of filters places flow rank a = ap (λ o. option_and_then (λ place. slice_get filters place) o) a.at_rank ∙ a.at_place

-- the tests of one that matches
agree_on_ports : (f : Filter) (flow : Flow) → matches f flow ≡ true → ports_agree f (ports_of flow) ≡ true
agree_on_ports f (V4 heads) h = (and_parts _ _ (and_parts _ _ (and_parts _ _ h).1).0).0
agree_on_ports f (V6 heads) h = (and_parts _ _ (and_parts _ _ (and_parts _ _ h).1).0).0
agree_on_ports f Other h = cc

is_zero : (n : ℕ) → (n == 0) ≡ true → n ≡ 0
is_zero n h = grind (arith, nat_tests)

is_same : (m n : ℕ) (b : Bool) → b ≡ false → (b || (m == n)) ≡ true → m ≡ n
is_same m n true e h = cc
is_same m n false e h = grind (arith, nat_tests)

source_at_none : (f : Filter) → (f.target_port == 0) ≡ true → port_on Source f ≡ Some f.source_port
source_at_none f h = rw h refl

target_at_some : (f : Filter) → (f.target_port == 0) ≡ false → port_on Target f ≡ Some f.target_port
target_at_some f h = rw h refl

pub under_none : (f : Filter) → ports_agree f None ≡ true → port_on Source f ≡ Some 0
under_none f h =
    let parts = and_parts (f.source_port == 0) (f.target_port == 0) h in
    source_at_none f parts.1 ∙ ap Some (is_zero f.source_port parts.0)

by_tests : (f : Filter) (s t : ℕ) (tz sz : Bool) → (f.target_port == 0) ≡ tz → (f.source_port == 0) ≡ sz
    → (sz || (f.source_port == s)) ≡ true → (tz || (f.target_port == t)) ≡ true
    → (port_on Source f ≡ Some 0) ⊎ ((port_on Source f ≡ Some s) ⊎ (port_on Target f ≡ Some t))
by_tests f s t false sz et es hs ht = inr (inr (target_at_some f et ∙ ap Some (is_same f.target_port t false refl ht)))
by_tests f s t true true et es hs ht = inl (source_at_none f et ∙ ap Some (is_zero f.source_port es))
by_tests f s t true false et es hs ht = inr (inl (source_at_none f et ∙ ap Some (is_same f.source_port s false refl hs)))

pub under_ports : (f : Filter) (s t : ℕ) → ports_agree f (Some (s, t)) ≡ true
    → (port_on Source f ≡ Some 0) ⊎ ((port_on Source f ≡ Some s) ⊎ (port_on Target f ≡ Some t))
under_ports f s t h = by_tests f s t (f.target_port == 0) (f.source_port == 0) refl refl (and_parts _ _ h).0 (and_parts _ _ h).1

-- one that matches is of the flow's version, and filed there
by_addresses_4 : (a : Addresses) (source target : List ℕ) (b : Bool) → (addresses_agree_4 a source target && b) ≡ true → version_of a ≡ version.V4
by_addresses_4 (own.V4 t tm s sm) source target b h = refl
by_addresses_4 (own.V6 t tl s sl) source target b h = cc

by_addresses_6 : (a : Addresses) (source target : List ℕ) (b : Bool) → (addresses_agree_6 a source target && b) ≡ true → version_of a ≡ version.V6
by_addresses_6 (own.V4 t tm s sm) source target b h = cc
by_addresses_6 (own.V6 t tl s sl) source target b h = refl

of_its_version : (f : Filter) (v : Version) (heads : Heads) → matches f (of_version v heads) ≡ true → version_of f.addresses ≡ v
of_its_version f version.V4 heads h = by_addresses_4 f.addresses heads.source heads.target (rest_agrees f heads.tos heads.protocol heads.ports) h
of_its_version f version.V6 heads h = by_addresses_6 f.addresses heads.source heads.target (rest_agrees f heads.tos heads.protocol heads.ports) h

among_same : (v : Version) (port : Option ℕ) → port_among v v port ≡ port
among_same version.V4 port = refl
among_same version.V6 port = refl

filed : (filters : List Filter) (places : List ℕ) (v : Version) (side : Side) (heads : Heads) (rank port : ℕ) (a : Asked filters places (of_version v heads) rank)
    → port_on side a.asked ≡ Some port → option_and_then (port_in (record { version = v; side = side })) (filter_at filters places rank) ≡ Some port
filed filters places v side heads rank port a on =
    let group : Group = record { version = v; side = side } in
    ap (option_and_then (port_in group)) (filter_of filters places (of_version v heads) rank a)
    ∙ ap (λ (w : Version). port_among v w (port_on side a.asked)) (of_its_version a.asked v heads a.agrees)
    ∙ among_same v (port_on side a.asked) ∙ on

on_one_side : (f : Filter) (b : Bool) → (f.target_port == 0) ≡ b
    → ((port : ℕ) × (port_on Target f ≡ Some port)) ⊎ ((port : ℕ) × (port_on Source f ≡ Some port))
on_one_side f true e = inr (f.source_port, source_at_none f e)
on_one_side f false e = inl (f.target_port, target_at_some f e)

-- the least of two numbers is at most what either is
at_most_first : (a b : Option ℕ) (rank : ℕ) → IsAtMost a rank → IsAtMost (least a b) rank
at_most_first None b rank h = absurd h
at_most_first (Some x) None rank h = h
at_most_first (Some x) (Some y) rank h = omega arith

at_most_second : (a b : Option ℕ) (rank : ℕ) → IsAtMost b rank → IsAtMost (least a b) rank
at_most_second None b rank h = h
at_most_second (Some x) None rank h = absurd h
at_most_second (Some x) (Some y) rank h = omega arith

either_of : (P : ℕ → Type 0) (x y : ℕ) → P x → P y → P (min x y)
either_of P x y h k = ⊎_elim (λ less. let e : x ≡ min x y = omega arith in subst P e h) (λ least. let e : y ≡ min x y = omega arith in subst P e k) (cases_lt x y)

pub least_is_one : (P : ℕ → Type 0) (a b : Option ℕ) → IfSome a P → IfSome b P → IfSome (least a b) P
least_is_one P None b h k = k
least_is_one P (Some x) None h k = h
least_is_one P (Some x) (Some y) h k = either_of P x y h k

-- no entry takes a flow that has no numbers
taken_by_none : {X : Type 0} (o : Option X) → option_map_or (λ x. false) o false ≡ false
taken_by_none None = refl
taken_by_none (Some x) = refl

none_fits : (entries : Entries) (k : ℕ) → fits_at entries None k ≡ false
none_fits (entries.V4 xs) k = taken_by_none (slice_get xs.items k)
none_fits (entries.V6 xs) k = taken_by_none (slice_get xs.items k)

-- nothing is found where no filter is filed
none_filed : (filed : List Filed) (port : ℕ) (test : ℕ → Bool) → filed ≡ [] → IsFirstUnder filed port test None
none_filed filed port test none = record {
  agrees = tt;
  first = λ rank holds passes. let within = holds.1 in absurd (omega (arith, ap length none, within));
}

module _ (v : Version) (filters : List Filter) (places : List ℕ) (heads : Heads) (sides : Sides) (i : AreSides v filters places sides) where
  abbrev test : ℕ → Bool
  test = matches_at filters places (of_version v heads)

  pub first_without_ports : (any : Option ℕ) → ports_of (of_version v heads) ≡ None
      → IsFirstUnder sides.by_source.filed.items 0 test any → IsFirst test any
  first_without_ports any none found = record {
    agrees = found.agrees;
    first = λ rank h.
        let a = asked_at filters places (of_version v heads) rank h in
        let agree : ports_agree a.asked None ≡ true = ap (ports_agree a.asked) (sym none) ∙ agree_on_ports a.asked (of_version v heads) a.agrees in
        found.first rank (i.sources.all rank 0 (filed filters places v Source heads rank 0 a (under_none a.asked agree))) h;
  }

  pub first_with_ports : (s t : ℕ) (any of_source of_target : Option ℕ) → ports_of (of_version v heads) ≡ Some (s, t)
      → IsFirstUnder sides.by_source.filed.items 0 test any → IsFirstUnder sides.by_source.filed.items s test of_source
      → IsFirstUnder sides.by_target.filed.items t test of_target → IsFirst test (least any (least of_source of_target))
  first_with_ports s t any of_source of_target some first by_source by_target = record {
    agrees = least_is_one (λ rank. test rank ≡ true) any (least of_source of_target) first.agrees
        (least_is_one (λ rank. test rank ≡ true) of_source of_target by_source.agrees by_target.agrees);
    first = λ rank h.
        let a = asked_at filters places (of_version v heads) rank h in
        let agree : ports_agree a.asked (Some (s, t)) ≡ true = ap (ports_agree a.asked) (sym some) ∙ agree_on_ports a.asked (of_version v heads) a.agrees in
        ⊎_elim (λ on. at_most_first any (least of_source of_target) rank (first.first rank (i.sources.all rank 0 (filed filters places v Source heads rank 0 a on)) h))
        (λ on. at_most_second any (least of_source of_target) rank
        (⊎_elim (λ on. at_most_first of_source of_target rank (by_source.first rank (i.sources.all rank s (filed filters places v Source heads rank s a on)) h))
        (λ on. at_most_second of_source of_target rank (by_target.first rank (i.targets.all rank t (filed filters places v Target heads rank t a on)) h)) on))
        (under_ports a.asked s t agree);
  }

  -- where no filter fixes the source's port, or none at all, those of the target's are all
  pub first_by_target : (s t : ℕ) (of_target : Option ℕ) → ports_of (of_version v heads) ≡ Some (s, t) → sides.by_source.filed.items ≡ []
      → IsFirstUnder sides.by_target.filed.items t test of_target → IsFirst test of_target
  first_by_target s t of_target some none by_target =
      let empty : (port : ℕ) → IsFirstUnder sides.by_source.filed.items port test None = λ port. none_filed sides.by_source.filed.items port test none in
      first_with_ports s t None None of_target some (empty 0) (empty s) by_target

  -- a flow that has no numbers matches none
  in_no_table : (group : Group) (table : Table) → group.version ≡ v → IsTable group filters places table → AreNumbersOf (of_version v heads) None
      → (rank port : ℕ) → Contains table.filed.items (record { port = port; rank = rank }) → test rank ≡ true → ⊥
  in_no_table group table same t none rank port holds h =
      let it : Filed = record { port = port; rank = rank } in
      let P : Version → Type 0 = λ w. AreNumbersOf (of_version w heads) None in
      let Q : Version → Type 0 = λ w. fits_at table.entries None holds.0 ≡ matches_at filters places (of_version w heads) (get_or table.filed.items holds.0 it).rank in
      let fails : fits_at table.entries None holds.0 ≡ test (get_or table.filed.items holds.0 it).rank =
      subst Q same (t.stand holds.0 it holds.1 heads None (subst P (sym same) none)) in
      let never = none_fits table.entries holds.0 in
      let at = ap (λ (e : Filed). test e.rank) holds.2 in
      cc

  pub none_without_numbers : AreNumbersOf (of_version v heads) None → IsFirst test None
  none_without_numbers none = record {
    agrees = tt;
    first = λ rank h.
        let a = asked_at filters places (of_version v heads) rank h in
        ⊎_elim (λ on. in_no_table (record { version = v; side = Target }) sides.by_target refl i.targets none rank on.0 (i.targets.all rank on.0 (filed filters places v Target heads rank on.0 a on.1)) h)
        (λ on. in_no_table (record { version = v; side = Source }) sides.by_source refl i.sources none rank on.0 (i.sources.all rank on.0 (filed filters places v Source heads rank on.0 a on.1)) h)
        (on_one_side a.asked (a.asked.target_port == 0) refl);
  }

-- a flow in numbers has the ports of the flow
pub ports_are : (flow : Flow) (n : Numbers) → AreNumbersOf flow (Some n) → ports_in n ≡ ports_of flow
ports_are (V4 heads) (numbers.V4 n) is = is.ports
ports_are (V4 heads) (numbers.V6 n) is = absurd is
ports_are (V6 heads) (numbers.V4 n) is = absurd is
ports_are (V6 heads) (numbers.V6 n) is = is.ports
ports_are Other n is = cc

-- it is the one that wins
ruleno_is : (filters : List Filter) (place : ℕ) (f : Filter) → slice_get filters place ≡ Some f → ruleno_at filters place ≡ f.ruleno
ruleno_is filters place f e = ap (λ o. option_map_or (λ g. g.ruleno) o 0) e

rank_of : (filters : List Filter) (places : List ℕ) (place : ℕ) (f : Filter) → IsRanked filters places → slice_get filters place ≡ Some f
    → (rank : ℕ) × (rank < length places) × (get_or places rank 0 ≡ place)
rank_of filters places place f r e =
    let holds = r.each place (slice_get_within filters place f e) in
    (holds.0, holds.1, get_or_default places holds.0 0 place holds.1 ∙ holds.2)

matches_as : (filters : List Filter) (places : List ℕ) (flow : Flow) (rank place : ℕ) (f : Filter) → rank < length places → get_or places rank 0 ≡ place
    → slice_get filters place ≡ Some f → matches f flow ≡ true → matches_at filters places flow rank ≡ true
matches_as filters places flow rank place f within at e h =
    let there : slice_get places rank ≡ Some place = slice_get-get_or places rank 0 within ∙ ap Some at in
    ap (λ o. option_map_or (λ g. matches g flow) (option_and_then (λ p. slice_get filters p) o) false) there
    ∙ ap (λ o. option_map_or (λ g. matches g flow) o false) e ∙ h

leads : (filters : List Filter) (places : List ℕ) (flow : Flow) (rank : ℕ) → IsRanked filters places → (a : Asked filters places flow rank)
    → IsFirst (matches_at filters places flow) (Some rank) → Leads (λ g. g.ruleno) (λ g. matches g flow) filters a.place a.asked
leads filters places flow rank r a first =
    let own : get_or places rank 0 ≡ a.place = get_or_from_slice_get places rank a.place 0 a.at_rank in
    let own_number = ruleno_is filters a.place a.asked a.at_place in
    let number_of = ap (ruleno_at filters) own in
    record {
      stands = a.at_place;
      passes = a.agrees;
      greatest = λ i g at agrees.
          let w = rank_of filters places i g r at in
          let behind : rank ≤ w.0 = first.first w.0 (matches_as filters places flow w.0 i g w.1 w.2 at agrees) in
          let falls = r.falls rank w.0 behind w.1 in
          let other = ruleno_is filters i g at in
          let other_number = ap (ruleno_at filters) w.2 in
          omega arith;
      first = λ i g before at agrees.
          let w = rank_of filters places i g r at in
          let behind : rank ≤ w.0 = first.first w.0 (matches_as filters places flow w.0 i g w.1 w.2 at agrees) in
          let falls = r.falls rank w.0 behind w.1 in
          let ties = r.ties rank w.0 behind w.1 in
          let other = ruleno_is filters i g at in
          let other_number = ap (ruleno_at filters) w.2 in
          let there = w.2 in
          ⊎_elim (λ less. less)
          (λ least.
          let same : ruleno_at filters (get_or places rank 0) ≡ ruleno_at filters (get_or places w.0 0) = omega arith in
          let in_place : get_or places rank 0 ≤ get_or places w.0 0 = ties same in
          absurd (omega arith)) (cases_lt g.ruleno a.asked.ruleno);
    }

pub wins : (filters : List Filter) (places : List ℕ) (flow : Flow) (rank : ℕ) → IsRanked filters places → matches_at filters places flow rank ≡ true
    → IsFirst (matches_at filters places flow) (Some rank) → filter_at filters places rank ≡ winner (matching filters flow)
wins filters places flow rank r h first =
    let a = asked_at filters places flow rank h in
    filter_of filters places flow rank a
    ∙ sym (best_is (λ g. g.ruleno) (matching filters flow) a.asked
    (leads_is (λ g. g.ruleno) (λ g. matches g flow) filters a.place a.asked (leads filters places flow rank r a first)))

none_leads : (filters : List Filter) (places : List ℕ) (flow : Flow) → IsRanked filters places → IsFirst (matches_at filters places flow) None
    → (place : ℕ) (f : Filter) → Leads (λ g. g.ruleno) (λ g. matches g flow) filters place f → ⊥
none_leads filters places flow r first place f l =
    let w = rank_of filters places place f r l.stands in
    first.first w.0 (matches_as filters places flow w.0 place f w.1 w.2 l.stands l.passes)

pub none_wins : (filters : List Filter) (places : List ℕ) (flow : Flow) → IsRanked filters places → IsFirst (matches_at filters places flow) None
    → None ≡ winner (matching filters flow)
none_wins filters places flow r first =
    ⊎_elim (λ w. absurd (none_leads filters places flow r first w.0 w.1 w.2))
    (λ none. ap winner (sym (none_left (λ g. matches g flow) filters none))) (leads_or_none (λ g. g.ruleno) (λ g. matches g flow) filters)
