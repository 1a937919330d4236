-- Filters in numbers, and what they stand for.
use Rattle.std.specs.Prelude.{◌≡◌, ℕ, ◌<◌, ◌==◌, ◌&&◌, Bool, false, List, Option, Some, None, bit_and, slice_get, slice_index_or}
use Rattle.std.specs.Option.{option_map_or}
use Rattle.conf_tree.specs.declared.filter.Filter.{Filter}
use Rattle.packet_heads.specs.Flow as flow
use Rattle.packet_heads.specs.Flow.{Flow, Heads}
use Rattle.flow_filter.specs.declared.entry.Entry4.{Entry4}
use Rattle.flow_filter.specs.declared.entry.Entry6.{Entry6}
use Rattle.flow_filter.specs.declared.entry.Rest.{Rest}
use Rattle.flow_filter.specs.declared.entries.Entries.{Entries}
use Rattle.flow_filter.specs.declared.entries.Entries.TheVariants as entries
use Rattle.flow_filter.specs.declared.numbers.Numbers.{Numbers}
use Rattle.flow_filter.specs.declared.numbers.Numbers.TheVariants as numbers
use Rattle.flow_filter.specs.declared.numbers.Numbers4.{Numbers4}
use Rattle.flow_filter.specs.declared.numbers.Numbers6.{Numbers6}
use Rattle.flow_filter.specs.declared.ports.Filed.{Filed}
use Rattle.flow_filter.specs.declared.ports.Version.{Version}
use Rattle.flow_filter.specs.declared.ports.Version.TheVariants as version
use Rattle.flow_filter.specs.Matches.{is_none_or, matches, tos_agrees}
use Rattle.flow_filter.specs.Numbers.{AreNumbersOf}
use Rattle.flow_filter.specs.Ranked.{matches_at}

-- what a filter fixes besides addresses
abbrev pub rest_of : Filter → Rest
rest_of f = record { target_port = f.target_port; source_port = f.source_port; protocol = f.protocol; tos = f.tos }

-- both ports; a flow without ports fits only where none is fixed
abbrev pub ports_fit : Rest → (ports : Option (ℕ × ℕ)) → Bool
ports_fit rest None = rest.source_port == 0 && rest.target_port == 0
ports_fit rest (Some ports) = is_none_or rest.source_port ports.0 && is_none_or rest.target_port ports.1

-- the ports, and the type of service or traffic class
abbrev pub rest_fits : Rest → (tos : ℕ) → (ports : Option (ℕ × ℕ)) → Bool
rest_fits rest tos ports = ports_fit rest ports && tos_agrees rest.tos tos

-- an address, under a mask, is the filter's
abbrev pub is_under : (mask own address : ℕ) → Bool
is_under mask own address = bit_and address mask == own

abbrev pub fits_4 : Entry4 → Numbers4 → Bool
fits_4 entry flow =
    is_under entry.target_mask entry.target flow.target
    && (is_under entry.source_mask entry.source flow.source
    && (is_none_or entry.rest.protocol flow.protocol && rest_fits entry.rest flow.tos flow.ports))

abbrev pub fits_6 : Entry6 → Numbers6 → Bool
fits_6 entry flow =
    is_under entry.target_mask entry.target flow.target
    && (is_under entry.source_mask entry.source flow.source
    && (is_none_or entry.rest.protocol flow.protocol && rest_fits entry.rest flow.tos flow.ports))

-- whether an entry of one version takes a flow of either, which may have no numbers
abbrev pub takes_4 : Entry4 → Option Numbers → Bool
takes_4 entry None = false
takes_4 entry (Some (numbers.V4 flow)) = fits_4 entry flow
takes_4 entry (Some (numbers.V6 flow)) = false

abbrev pub takes_6 : Entry6 → Option Numbers → Bool
takes_6 entry None = false
takes_6 entry (Some (numbers.V4 flow)) = false
takes_6 entry (Some (numbers.V6 flow)) = fits_6 entry flow

-- whether a filter, if there is one, matches a flow
abbrev pub matches_if : Option Filter → Flow → Bool
matches_if found flow = option_map_or (λ f. matches f flow) found false

-- an entry takes exactly the flows of its version that the filter matches
abbrev pub Represents4 : Entry4 → Option Filter → Type 0
Represents4 entry found =
    (heads : Heads) (o : Option Numbers) → AreNumbersOf (flow.V4 heads) o → takes_4 entry o ≡ matches_if found (flow.V4 heads)

abbrev pub Represents6 : Entry6 → Option Filter → Type 0
Represents6 entry found =
    (heads : Heads) (o : Option Numbers) → AreNumbersOf (flow.V6 heads) o → takes_6 entry o ≡ matches_if found (flow.V6 heads)

-- whether the entry at a place takes a flow
abbrev pub takes_at : {X : Type 0} → (X → Option Numbers → Bool) → List X → Option Numbers → (k : ℕ) → Bool
takes_at takes xs o k = option_map_or (λ x. takes x o) (slice_get xs k) false

abbrev pub fits_at : Entries → Option Numbers → (k : ℕ) → Bool
fits_at (entries.V4 xs) = takes_at takes_4 xs.items
fits_at (entries.V6 xs) = takes_at takes_6 xs.items

-- the flow of a version with these heads
abbrev pub of_version : Version → Heads → Flow
of_version version.V4 heads = flow.V4 heads
of_version version.V6 heads = flow.V6 heads

-- the first `count` places take exactly the flows of a version that the filters matches which are filed at these places
abbrev pub StandFor : Version → List Filter → (places : List ℕ) → List Filed → (Option Numbers → ℕ → Bool) → (count : ℕ) → Type 0
StandFor v filters places filed fits count =
    (k : ℕ) (d : Filed) → k < count → (heads : Heads) (o : Option Numbers) → AreNumbersOf (of_version v heads) o
    → fits o k ≡ matches_at filters places (of_version v heads) (slice_index_or filed k d).rank
