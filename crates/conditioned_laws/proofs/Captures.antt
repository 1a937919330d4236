-- The packets of captures conform as an interface's conditioners marked them, and so do those that the commands read.
use Rattle.std.proofs.Common.{◌≡◌, ◌+◌, ◌∙◌, ap, subst, ℕ, zero, suc, List, [], ◌∷◌, Bool, true, false, arith}
use Rattle.std.specs.Prelude.{◌==◌, if◌then◌else◌, Some, None, Option, slice_get}
use Rattle.capture_model.specs.Capture.{End, IsLast, Outcome, Reads, Record, Step, outcome}
use Rattle.capture_model.proofs.OutcomeLemmas.{outcome_ends, reads_outcome}
use Rattle.pcap_files.proofs.ReadingLaws.{one_reading}
use Rattle.conf_tree.specs.Conditioners.{meters}
use Rattle.conf_tree.specs.declared.interface.Interface.{Interface}
use Rattle.traffic_meter.specs.declared.rule.MeterRule.{MeterRule}
use Rattle.traffic_marks.specs.Laws.{recaptured}
use Rattle.traffic_marks.specs.Marked.{Conditioning, frames, marked, rule_of}
use Rattle.traffic_marks.proofs.Reading.{keeps_reading}
use Rattle.marked_files.specs.Metering.{conditioners_from}
use Rattle.interface_marks.specs.Conditioners.{conditioning_of, marked_in}
use Rattle.command_form.specs.Names.{MarkNames, Names}
use Rattle.condition_command.specs.Conditioning.{HasConditioned, HoldsWhole}
use Rattle.interface_play.specs.Source.{Source, played_of}
use Rattle.play_base.specs.View.{View}
use Rattle.play_command.specs.Headline.{HasPlayed}
use Rattle.run_inputs.specs.Says.{Given}
use Rattle.conditioned_laws.specs.Conforming.{AreMetered, ComesMetered, HoldsMetered, MakesMetered}
use Rattle.conditioned_laws.proofs.Carried.{is_metered}

-- the rule of a class by its number
rule_at : (first k n : ℕ) (rules : List (Option MeterRule)) (rule : MeterRule) → n ≡ first + k → slice_get rules k ≡ Some (Some rule)
    → rule_of (conditioners_from first rules) n ≡ Some rule
rule_at first k n [] rule is at = absurd (cc)
rule_at first zero n (None ∷ rules) rule is at = absurd (cc)
rule_at first zero n (Some x ∷ rules) rule is at =
    let own : (first == n) ≡ true = grind (arith, is) in
    let same : Some x ≡ Some rule = cc in
    ap (λ (b : Bool). if b then Some x else rule_of (conditioners_from (first + 1) rules) n) own ∙ same
rule_at first (suc k) n (None ∷ rules) rule is at = rule_at (first + 1) k n rules rule (omega (arith, is)) at
rule_at first (suc k) n (Some x ∷ rules) rule is at =
    let other : (first == n) ≡ false = grind (arith, is) in
    ap (λ (b : Bool). if b then Some x else rule_of (conditioners_from (first + 1) rules) n) other
    ∙ rule_at (first + 1) k n rules rule (omega (arith, is)) at

are_metered : (i : Interface) (came : List Record) → AreMetered i came (recaptured came (frames (conditioning_of i) came))
are_metered i came class rule at =
    is_metered (conditioning_of i) came class rule (rule_at 0 class class (meters i.classes) rule (omega arith) at)

-- the records of a marked capture
marked_reads : (c : Conditioning) (capture : List ℕ) (came : List Record) (last : Step) → IsLast last → Reads capture came last
    → Reads (marked c capture) (recaptured came (frames c came)) last
marked_reads c capture came last is_last reads =
    let one = one_reading capture (outcome capture).records came (outcome capture).last last (reads_outcome capture) (outcome_ends capture) reads is_last in
    let kept = subst (λ (o : Outcome). Reads (marked c capture) o.records o.last) (keeps_reading c capture) (reads_outcome (marked c capture)) in
    let same = subst (λ (rs : List Record). Reads (marked c capture) (recaptured rs (frames c rs)) (outcome capture).last) one.0 kept in
    subst (λ (s : Step). Reads (marked c capture) (recaptured came (frames c came)) s) one.1 same

pub makes_metered : (i : Interface) (capture : List ℕ) (came : List Record) (last : Step) → IsLast last → Reads capture came last
    → MakesMetered i capture came last
makes_metered i capture came last is_last reads = record {
  made = recaptured came (frames (conditioning_of i) came);
  reads = marked_reads (conditioning_of i) capture came last is_last reads;
  metered = are_metered i came;
}

pub comes_metered : (i : Interface) (capture : List ℕ) (made : List Record) (last : Step) → IsLast last → Reads (marked_in i capture) made last
    → ComesMetered i capture made last
comes_metered i capture made last is_last reads =
    let c = conditioning_of i in
    let came = (outcome capture).records in
    let whole = marked_reads c capture came (outcome capture).last (outcome_ends capture) (reads_outcome capture) in
    let one =
    one_reading (marked_in i capture) (recaptured came (frames c came)) made (outcome capture).last last whole (outcome_ends capture) reads is_last in
    record {
      came = came;
      reads = subst (λ (s : Step). Reads capture came s) one.1 (reads_outcome capture);
      metered = subst (λ (rs : List Record). AreMetered i came rs) one.0 (are_metered i came);
    }

-- what the commands read
pub conditioned_metered : (new : View) (n : MarkNames) (i : Interface) (g : Given) (x : HasConditioned new n i g) → HoldsMetered i x.records new n.marked
conditioned_metered new n i g x =
    let made = makes_metered i g.capture x.records End tt x.whole in
    record { bytes = marked_in i g.capture; at = x.marked; made = made.made; capture = made.reads; metered = made.metered }

pub whole_metered : (new : View) (n : MarkNames) (i : Interface) (capture : List ℕ) (last : Step) → IsLast last
    → (x : HoldsWhole new n i capture last) → MakesMetered i capture x.whole.records last
whole_metered new n i capture last is_last x = makes_metered i capture x.whole.records last is_last x.whole.reads

pub source_metered : (s : Source) (made : List Record) (last : Step) → IsLast last → Reads (played_of s) made last
    → ComesMetered s.interface s.capture made last
source_metered s made last is_last reads = comes_metered s.interface s.capture made last is_last reads

pub played_metered : (old new : View) (n : Names) (seed : ℕ) (x : HasPlayed old new n seed) → ComesMetered x.interface x.given.capture x.played.records End
played_metered old new n seed x = comes_metered x.interface x.given.capture x.played.records End tt x.played.capture
