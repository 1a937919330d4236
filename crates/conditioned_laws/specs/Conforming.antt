-- Captures whose packets conform, class by class, as an interface's conditioners marked them.
use Rattle.std.specs.Prelude.{◌≡◌, ℕ, List, Some, slice_get}
use Rattle.capture_model.specs.Capture.{IsCapture, Reads, Record, Step}
use Rattle.conf_tree.specs.Conditioners.{meters}
use Rattle.conf_tree.specs.declared.interface.Interface.{Interface}
use Rattle.traffic_meter.specs.declared.rule.MeterRule.{MeterRule}
use Rattle.interface_marks.specs.Conditioners.{conditioning_of, marked_in}
use Rattle.play_base.specs.View.{View}
use Rattle.conditioned_laws.specs.Metered.{IsMetered}

-- each class of the interface that has a conditioner has a meter over these records
abbrev pub AreMetered : Interface → (came made : List Record) → Type 0
AreMetered i came made = (class : ℕ) (rule : MeterRule) → slice_get (meters i.classes) class ≡ Some (Some rule)
    → IsMetered (conditioning_of i) came made class rule

-- of a capture these records came, and the marked capture reads to the same end with records that were made of them
pub record MakesMetered (i : Interface) (capture : List ℕ) (came : List Record) (last : Step) : Type 0 where
  pub made : List Record
  pub reads : Reads (marked_in i capture) made last
  pub metered : AreMetered i came made

-- the marked capture reads so, and the capture to the same end with records of which these were made
pub record ComesMetered (i : Interface) (capture : List ℕ) (made : List Record) (last : Step) : Type 0 where
  pub came : List Record
  pub reads : Reads capture came last
  pub metered : AreMetered i came made

-- under a name stands a capture of records that were made of these
pub record HoldsMetered (i : Interface) (came : List Record) (v : View) (name : List ℕ) : Type 0 where
  pub bytes : List ℕ
  pub at : v.bytes name ≡ Some bytes
  pub made : List Record
  pub capture : IsCapture bytes made
  pub metered : AreMetered i came made
