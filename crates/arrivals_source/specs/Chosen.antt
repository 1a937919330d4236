-- Which way of an interface is chosen for what is given, and what is read so.
use Rattle.std.specs.Prelude.{◌≡◌, ◌≤◌, ◌++◌, ℕ, Bool, true, false, List, [], Option, option_map}
use Rattle.arrivals_front.specs.declared.given.Given.{Given}
use Rattle.conf_tree.specs.declared.interface.Interface.{Interface}
use Rattle.frame_classes.specs.Frames.{Classes, placed_by}
use Rattle.interface_marks.specs.Conditioners.{is_conditioned, marked_in}
use Rattle.pcapng_files.specs.Fronts.{with_front}
use Rattle.pcapng_files.specs.declared.front.Front.{Front}
use Rattle.arrivals_source.specs.Ways.{held_by, way_own}
use Rattle.arrivals_source.specs.declared.way.Way.{Way}
use Rattle.arrivals_source.specs.declared.way.Way.TheVariants.{AsGiven, Marked, MarkedConverted}

-- the arrivals are read of their file as they are asked for
abbrev pub is_streamed : {C : Type 0} → Way C → Bool
is_streamed AsGiven = true
is_streamed (Marked m) = true
is_streamed other = false

-- a marker makes them
abbrev pub is_marking : {C : Type 0} → Way C → Bool
is_marking (Marked m) = true
is_marking (MarkedConverted m) = true
is_marking other = false

-- the bytes that were taken and stand before those that are read
abbrev pub first_of : {C : Type 0} → Way C → (front : List ℕ) → List ℕ
first_of AsGiven front = front
first_of other front = []

-- with what is given as the front, the first bytes and what is read behind them are the marked capture of what is given
abbrev pub Shows : Interface → Given → Way Classes → Type 0
Shows i g way = (front : Front) (left : Option (List ℕ)) → front.rest ≡ g.rest → front.bytes.now ≡ g.front.items
    → option_map (λ own. first_of way g.front.items ++ own) (way_own placed_by front way true left)
    ≡ option_map (marked_in i) (with_front true g.rest g.front.items left)

-- the way that an interface reads what is given
pub record IsWayOf (i : Interface) (g : Given) (way : Way Classes) : Type 0 where
  pub shows : Shows i g way
  pub streams : is_streamed way ≡ g.rest
  pub marks : is_marking way ≡ is_conditioned i
  pub few : held_by way ≤ 262160
