-- What must come of a chain.
use Rattle.std.proofs.Common.{◌≡◌, ◌⊎◌, ℕ, List, Ok, Err, refl, subst, inl, inr}
use Rattle.std.specs.Prelude.{Result}
use Rattle.altq_model.specs.Arrivals.{bare_arrivals}
use Rattle.altq_model.specs.History.{LabelledEvent}
use Rattle.altq_model.specs.Play.{IsPlay}
use Rattle.capture_model.specs.Capture.{End, Record}
use Rattle.conf_tree.specs.declared.interface.Interface.{Interface}
use Rattle.interface_play.proofs.EndLemmas.{done_as_expected}
use Rattle.interface_play.specs.Expected.{CameAsExpected, PlayExpects, play_outcome}
use Rattle.interface_play.specs.Failing.{play_failure}
use Rattle.interface_play.specs.Played.{WasPlayed}
use Rattle.interface_play.specs.Setup.{setup_of}
use Rattle.interface_play.specs.Source.{Places, Source, played_of}
use Rattle.pcap_files.proofs.ReadingLaws.{one_reading}
use Rattle.play_base.specs.View.{View, Later}
use Rattle.play_base.proofs.ViewLaws.{rose_before}
use Rattle.play_command.specs.Headline.{source_by}
use Rattle.play_core.specs.declared.totals.Totals.{Totals}
use Rattle.play_laws.proofs.OneLemmas.{one_whole}
use Rattle.play_loop.specs.declared.fault.PlayFault.{PlayFault}
use Rattle.play_loop.specs.Setup.{arrivals_in, departures_of}
use Rattle.run_inputs.specs.Says.{Given}
use Rattle.run_outcomes.specs.Faults.{IsQuiet}
use Rattle.run_outcomes.specs.Outcome.{IsOr, IsOrMemory, Outcome}
use Rattle.run_outcomes.specs.declared.outcome.CaptureStop.TheVariants as capture
use Rattle.run_outcomes.specs.declared.outcome.Done.TheVariants as done
use Rattle.run_outcomes.specs.declared.outcome.Failure.{Failure}
use Rattle.run_outcomes.specs.declared.outcome.Failure.TheVariants as failure
use Rattle.run_outcomes.specs.declared.outcome.Link.TheVariants as link
use Rattle.chain_command.specs.Chained.{sent_by}
use Rattle.chain_command.specs.Chaining.{PassesOn, TwoExpect}
use Rattle.chain_command.specs.Names.{sent_source}

-- where no fault was met up to a later moment, none was before
pub quiet_before : (u v w : View) → Later v w → IsQuiet u w → IsQuiet u v
quiet_before u v w l q part small = (
  λ r. (q part small).0 (rose_before _ _ _ r (l.read part)),
  λ some r. (q part small).1 some (rose_before _ _ _ r (l.write part)),
)

module _ (seed : ℕ) (i j : Interface) (g : Given) where
  -- what must come is of the second play, behind a first that is whole, or a failure of the first
  abbrev Second : Outcome → Type 0
  Second o = PassesOn seed i j g (λ s. PlayExpects seed s link.Second o)

  abbrev First : Failure → Type 0
  First e = PlayExpects seed (source_by i g) link.First (Err e)

  by_link : (e : Failure) → TwoExpect seed (Err e) i j g → Second (Err e) ⊎ First e
  by_link (failure.Capture link.Second capture.Late) x = inl (record { first = x.first; history = x.history; play = x.play; next = (refl, x.next) })
  by_link e x = inr x

  -- THE FIRST PLAY FAILS
  never : {f : Failure} (o : Outcome) → IsOrMemory (Err f) (Ok done.Done) → IsOr (Err f) o
  never o (inl e) = absurd (cc)
  never (Ok d) (inr e) = inl (inr e)
  never (Err f) (inr e) = inr e

  pub first_must : (w : Places) (f : PlayFault) → CameAsExpected w seed (Err f) (source_by i g) → (o : Outcome) → TwoExpect seed o i j g
      → IsOr (Err (play_failure link.First w f)) o
  first_must w f m (Ok done.Done) x = never (Ok done.Done) (m link.First (Ok done.Done) x.first)
  first_must w f m (Ok done.Exceeds) x = absurd x
  first_must w f m (Err e) x = by (by_link e x)
    where
      by : Second (Err e) ⊎ First e → IsOr (Err (play_failure link.First w f)) (Err e)
      by (inl y) = never (Err e) (m link.First (Ok done.Done) y.first)
      by (inr y) = m link.First (Err e) y

  -- the play of what is given is one, and so is what it sends
  one_sent : {v : View} {w : Places} (P : Source → Type 0) → (h : WasPlayed v w seed (source_by i g)) → PassesOn seed i j g P → P (sent_source j (sent_by h))
  one_sent P h p =
      let x = setup_of i seed in
      let reads : p.first.records ≡ h.records =
      (one_reading (played_of (source_by i g)) p.first.records h.records End End p.first.reads tt h.capture tt).0 in
      let play = subst (λ (rs : List Record). IsPlay x.policy i.rate seed (bare_arrivals (arrivals_in x rs)) p.history) reads p.play in
      let history : p.history ≡ h.history = one_whole x.policy i.rate seed (bare_arrivals (arrivals_in x h.records)) p.history h.history play h.play.play in
      subst (λ (k : List LabelledEvent). P (sent_source j (departures_of x (arrivals_in x h.records) k))) history
      (subst (λ (rs : List Record). P (sent_source j (departures_of x (arrivals_in x rs) p.history))) reads p.next)

  -- THE SECOND ENDS, behind a first that is done
  pub second_must : {v : View} {w : Places} (k : Places) (r : Result Totals PlayFault) → (h : WasPlayed v w seed (source_by i g))
      → CameAsExpected k seed r (sent_source j (sent_by h)) → (o : Outcome) → TwoExpect seed o i j g → IsOr (play_outcome link.Second k r) o
  second_must k r h n (Ok done.Done) x = inl (n link.Second (Ok done.Done) (one_sent (λ s. PlayExpects seed s link.Second (Ok done.Done)) h x))
  second_must k r h n (Ok done.Exceeds) x = absurd x
  second_must {v} {w} k r h n (Err e) x = by (by_link e x)
    where
      by : Second (Err e) ⊎ First e → IsOr (play_outcome link.Second k r) (Err e)
      by (inl y) = n link.Second (Err e) (one_sent (λ s. PlayExpects seed s link.Second (Err e)) h y)
      by (inr y) = absurd (no (done_as_expected v w seed (source_by i g) h.totals h link.First (Err e) y))
        where
          no : IsOrMemory (Ok done.Done) (Err e) → ⊥
          no (inl z) = cc
          no (inr z) = cc
