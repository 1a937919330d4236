-- The laws of the events that are due, and of every play.
use Rattle.std.proofs.Common.{◌<◌, ℕ, List, arith}
use Rattle.altq_model.specs.History.{Arrival, LabelledEvent}
use Rattle.altq_model.specs.Laws.{KeepsLaws}
use Rattle.altq_model.specs.Play.{Policy, AreDue, IsPlay}
use Rattle.altq_model.specs.Lawful.{IsLawful, AreRising, AreHeld}
use Rattle.play_laws.specs.Events.{HasLaws, IsWhole}
use Rattle.play_laws.proofs.TimeLemmas.{each_follows}
use Rattle.play_laws.proofs.OrderLemmas.{of_arrivals, ordered, not_before, link_ends}
use Rattle.play_laws.proofs.BusyLemmas.{prompt}
use Rattle.play_laws.proofs.CountLemmas.{balanced, waits_once}
use Rattle.play_laws.proofs.FewLemmas.{few_decided}
use Rattle.play_laws.proofs.EndLemmas.{is_over, all_offered, offered_within, no_places, nothing_waits, conserved}

pub due_laws : (p : Policy) (rate seed : ℕ) (arrived : List Arrival) (g : List LabelledEvent) → 0 < rate → IsLawful p → AreRising arrived
    → AreDue p rate seed arrived g → HasLaws p rate seed arrived g
due_laws p rate seed arrived g pos law rise due =
    let f = each_follows p rate seed arrived g pos law rise due in
    record {
      each = f;
      of_arrivals = of_arrivals p rate seed arrived g f;
      came = offered_within p rate seed arrived g f;
      few = few_decided p rate seed arrived g f;
      once = λ n. omega (arith, (balanced p rate seed arrived g n f).once);
      waits_once = waits_once p rate seed arrived g f;
      ordered = ordered p rate seed arrived g f;
      not_before = not_before p rate seed arrived g law f;
      prompt = prompt p rate seed arrived g rise f;
      ends = link_ends p rate seed arrived g law f;
    }

pub play_laws : (p : Policy) (rate seed : ℕ) (arrived : List Arrival) (g : List LabelledEvent) → 0 < rate → IsLawful p → AreRising arrived → AreHeld p arrived
    → IsPlay p rate seed arrived g → KeepsLaws rate arrived g
play_laws p rate seed arrived g pos law rise can x =
    let f = each_follows p rate seed arrived g pos law rise x.events in
    let o = is_over p rate seed arrived g pos law rise x.events x.done in
    record {
      conserved = conserved p rate seed arrived g f o.all_came (no_places p rate seed arrived g can f o.none_sends);
      ordered = ordered p rate seed arrived g f;
      not_before = not_before p rate seed arrived g law f;
      prompt = prompt p rate seed arrived g rise f;
      ends = link_ends p rate seed arrived g law f;
    }

pub play_is_whole : (p : Policy) (rate seed : ℕ) (arrived : List Arrival) (g : List LabelledEvent) → 0 < rate → IsLawful p → AreRising arrived → AreHeld p arrived
    → IsPlay p rate seed arrived g → IsWhole arrived g
play_is_whole p rate seed arrived g pos law rise can x =
    let f = each_follows p rate seed arrived g pos law rise x.events in
    let o = is_over p rate seed arrived g pos law rise x.events x.done in
    record {
      offers = all_offered p rate seed arrived g f o.all_came;
      empty = λ c. nothing_waits p rate seed arrived g c f (no_places p rate seed arrived g can f o.none_sends);
    }
