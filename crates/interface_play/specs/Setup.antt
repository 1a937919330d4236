-- What is played of an interface: its policy, where its frames are placed and how they are dressed, its names and its rate.
use Rattle.std.specs.Prelude.{◌≡◌, ℕ, List, Some, slice_get}
use Rattle.altq_model.specs.History.{LabelledEvent}
use Rattle.conf_tree.specs.Reading.{IsConfiguration}
use Rattle.conf_tree.specs.declared.interface.Interface.{Interface}
use Rattle.frame_classes.specs.Frames.{dress_in, place_in}
use Rattle.interface_policy.specs.Policy.{policy_of, queue_names}
use Rattle.play_loop.specs.Setup.{Setup}

abbrev pub setup_of : Interface → (seed : ℕ) → Setup
setup_of i seed = record {
  policy = policy_of i;
  place = place_in i;
  dress = dress_in i;
  names = queue_names i;
  rate = i.rate;
  seed = seed;
}

-- nothing is claimed of a history
abbrev pub Untold : List LabelledEvent → Type 0
Untold g = Unit {0}

-- the interface is one of those of a text
pub record IsConfigured (i : Interface) : Type 0 where
  pub text : List ℕ
  pub interfaces : List Interface
  pub read : IsConfiguration text interfaces
  pub place : ℕ
  pub at : slice_get interfaces place ≡ Some i
