-- Arrivals that were read through a source, and through files that count them.
use Rattle.std.proofs.Common.{◌≡◌, ◌∙◌, ℕ, Bool, true, List, Some, ap, refl}
use Rattle.std.specs.Prelude.{◌≢◌, IsSome, eqb}
use Rattle.arrivals_source.specs.Counted.{counted_view}
use Rattle.arrivals_source.specs.Ways.{source_view, way_own, with_way}
use Rattle.arrivals_source.specs.declared.way.Way.{Way}
use Rattle.arrivals_source.proofs.CountedLaws.{counted_fixed, keeps_behind, no_longer}
use Rattle.arrivals_source.proofs.SourceLaws.{keeps_back, left_self, still_fixed}
use Rattle.conf_tree.specs.declared.interface.Interface.{Interface}
use Rattle.frame_classes.specs.Frames.{Classes, placed_by}
use Rattle.input_files.specs.Records.{HasFault}
use Rattle.interface_marks.specs.Conditioners.{marked_in}
use Rattle.pcap_files.specs.Ahead.{TookSome}
use Rattle.pcap_files.specs.declared.fault.CaptureFault.{CaptureFault}
use Rattle.pcap_files.specs.declared.fault.CaptureFault.TheVariants as fault
use Rattle.pcapng_files.specs.Fronts.{with_front}
use Rattle.pcapng_files.specs.declared.front.Front.{Front}
use Rattle.play_base.specs.View.{View, Everything, ReadFault, TellsLeft}
use Rattle.run_inputs.specs.declared.inputs.Arrivals.{Arrivals}
use Rattle.verify_command.specs.Reading.{AreNotHad, OfPlayed, ReadOn, ReadSome, Through, capture_failure}

-- what is so of what a source has left is so of the marked arrivals
pub of_source : (v : View) (x : Arrivals) (i : Interface) (front : Front) (way : Way Classes) (P : List ℕ → Type 0) → Through i way
    → front.rest ≡ x.given.rest → front.bytes.now ≡ x.given.front.items
    → ((bytes : List ℕ) → with_way (eqb x.file x.file) placed_by front way v.tells (v.left x.file) ≡ Some bytes → P bytes)
    → OfPlayed v x (λ bytes. P (marked_in i bytes))
of_source v x i front way P through rest front_is h t bytes e =
    let same : with_front true front.rest front.bytes.now (v.left x.file) ≡ Some bytes =
    ap (λ (b : Bool). with_front true b front.bytes.now (v.left x.file)) rest
    ∙ ap (λ (l : List ℕ). with_front true x.given.rest l (v.left x.file)) front_is ∙ e in
    h (marked_in i bytes)
    (left_self x.file placed_by front way v.tells (v.left x.file) ∙ ap (λ (b : Bool). way_own placed_by front way b (v.left x.file)) t
    ∙ through front (v.left x.file) bytes same)

pub why_of : (v w : View) (i : Interface) (x : Arrivals) (f : CaptureFault) → OfPlayed v x (λ bytes. HasFault (marked_in i bytes) f)
    → (f ≡ fault.Read → ReadFault v w x.file) → AreNotHad v w i x (capture_failure f)
why_of v w i x (fault.Damage found) h r = record { cause = λ t bytes e. (let z = h t bytes e in (z.records, z.reads)) }
why_of v w i x fault.Limit h r = record { cause = λ t bytes e. (let z = h t bytes e in (z.records, z.reads)) }
why_of v w i x fault.Read h r = record { cause = r refl }
why_of v w i x fault.NoMemory h r = record { cause = tt }

-- some of a source's arrivals was read, and so of the files behind it
module _ (v w : View) (g h file next : ℕ) (front ahead : Front) (way later : Way Classes)
    (y : TookSome (source_view placed_by v g file front way) (source_view placed_by w h next ahead later) file) where
  pub some_back : ReadSome v w file
  some_back = record {
    keeps = keeps_back placed_by v w g h file next front ahead way later Everything (λ f. f ≢ file) (λ f k. k) y.1.keeps;
    none = y.1.none;
    said = y.1.said;
  }

  pub same_files : h ≡ g
  same_files = (still_fixed placed_by v w g h file next front ahead way later Everything (λ f. f ≢ file) y.1.keeps).reference

-- so where they are counted
module _ (v w : View) (g h file next later : ℕ) (y : ReadSome (counted_view v g file 0) (counted_view w h next later) file) where
  pub read_behind : TellsLeft w → IsSome (v.part file) → ReadOn v w file
  read_behind told there = record {
    some = record { keeps = keeps_behind v w g h file next later Everything (λ f. f ≢ file) y.keeps; none = y.none; said = y.said };
    fewer = no_longer v w g h file next later Everything (λ f. f ≢ file) y.keeps told there;
  }

  pub same_counted : h ≡ g
  same_counted = (counted_fixed v w g h file next later Everything (λ f. f ≢ file) y.keeps).reference
