-- What must come of a play comes: which of its ends exclude one another.
use Rattle.std.proofs.Common.{◌≡◌, ◌≤◌, ◌<◌, ◌⊎◌, ℕ, List, Ok, Err, ap, sym, subst, refl, inl, inr, arith}
use Rattle.altq_model.specs.Arrivals.{bare_arrivals}
use Rattle.altq_model.specs.History.{LabelledEvent}
use Rattle.capture_model.specs.declared.damage.Damage.{Damage}
use Rattle.capture_model.specs.Capture.{Record, Step, End, Fault, Limit, IsLast}
use Rattle.conf_tree.specs.declared.interface.Interface.{Interface}
use Rattle.file_plans.specs.declared.part.Part.{Part}
use Rattle.file_plans.specs.declared.part.Part.TheVariants as part
use Rattle.file_plans.specs.Parts.{part_number}
use Rattle.pcap_files.proofs.ReadingLaws.{one_reading}
use Rattle.play_base.specs.View.{View}
use Rattle.play_core.specs.declared.totals.Totals.{Totals}
use Rattle.play_loop.specs.declared.fault.Limit.TheVariants as limit
use Rattle.play_loop.specs.declared.fault.Output.TheVariants as output
use Rattle.play_loop.specs.declared.fault.PlayFault.{PlayFault}
use Rattle.play_loop.specs.declared.fault.PlayFault.TheVariants as play
use Rattle.play_loop.specs.Setup.{Setup, arrivals_in}
use Rattle.run_outcomes.specs.Faults.{IsQuiet, ReadFailed, WriteFailed}
use Rattle.run_outcomes.specs.Outcome.{IsOrMemory, Outcome}
use Rattle.run_outcomes.specs.declared.outcome.CaptureStop.{CaptureStop}
use Rattle.run_outcomes.specs.declared.outcome.CaptureStop.TheVariants as capture
use Rattle.run_outcomes.specs.declared.outcome.Done.TheVariants as done
use Rattle.run_outcomes.specs.declared.outcome.Failure.TheVariants as failure
use Rattle.run_outcomes.specs.declared.outcome.Link.{Link}
use Rattle.interface_play.specs.Expected.{CameAsExpected, EndsLate, EndsWith}
use Rattle.interface_play.specs.Failing.{IsCutEarly, IsLate, IsOffered, PlayFails, play_failure}
use Rattle.interface_play.specs.Laws.{HaveLaws}
use Rattle.interface_play.specs.Played.{WasPlayed}
use Rattle.interface_play.specs.Setup.{IsConfigured, setup_of}
use Rattle.interface_play.specs.Source.{Places, Source, played_of}
use Rattle.interface_play.proofs.Cited.{is_interface, is_lawful}
use Rattle.interface_play.proofs.LateLemmas.{not_cut, offered_not_early}

end_fault : (d : Damage) → End ≡ Fault d → ⊥
end_fault d h = cc

end_limit : End ≡ Limit → ⊥
end_limit h = cc

fault_end : (d : Damage) → Fault d ≡ End → ⊥
fault_end d h = cc

limit_end : Limit ≡ End → ⊥
limit_end h = cc

limit_fault : (d : Damage) → Limit ≡ Fault d → ⊥
limit_fault d h = cc

fault_limit : (d : Damage) → Fault d ≡ Limit → ⊥
fault_limit d h = cc

fault_same : (d e : Damage) → Fault d ≡ Fault e → d ≡ e
fault_same d e h = cc

early_only : (last : Step) (a b : ℕ) → (last ≡ End → ⊥) → (last ≡ End) ⊎ (a < b) → a < b
early_only last a b n (inl e) = absurd (n e)
early_only last a b n (inr l) = l

-- a source reads one way and is played one way
module _ (v w : View) (at : Places) (seed : ℕ) (s : Source) where
  one_end : (last other : Step) → IsLast last → IsLast other → EndsWith seed s last → IsOffered v at seed s other → last ≡ other
  one_end last other hl ho p x = (one_reading (played_of s) p.records x.records last other p.reads hl x.reads ho).1

  one_cut : (xs ys : List Record) (p q : Step) (g : List LabelledEvent) → xs ≡ ys → p ≡ q → IsCutEarly (setup_of s.interface seed) xs p g
      → IsCutEarly (setup_of s.interface seed) ys q g
  one_cut xs ys p q g rs ls c =
      let B : List Record → Type 0 = λ zs. IsCutEarly (setup_of s.interface seed) zs p g in
      let C : Step → Type 0 = λ l. IsCutEarly (setup_of s.interface seed) ys l g in
      subst C ls (subst B rs c)

  late_not_ended : (last : Step) → IsLast last → EndsWith seed s last → IsLate w v at seed s → ⊥
  late_not_ended last h p x =
      let same = one_reading (played_of s) x.records p.records x.last last x.reads x.is_last p.reads h in
      p.in_time x.history (one_cut x.records p.records x.last last x.history same.0 same.1 x.early)

  offered_not_late : (last : Step) → HaveLaws → IsConfigured s.interface → IsLast last → (last ≡ End → ⊥) → IsOffered v at seed s last → EndsLate seed s → ⊥
  offered_not_late last laws configured h other x y =
      let same = one_reading (played_of s) y.records x.records y.last last y.reads y.is_last x.reads h in
      let c = one_cut y.records x.records y.last last y.history same.0 same.1 y.early in
      let i : Interface = s.interface in
      let z : Setup = setup_of i seed in
      let all = x.decided.all in
      let rate = (is_interface laws i configured).rate.0 in
      offered_not_early z.policy z.rate seed z.place x.records x.decided.history y.history (omega (arith, rate)) (is_lawful laws i configured) x.decided.begun
      (omega (arith, all)) c.cut (early_only last _ _ other c.before)

  late_not_played : EndsLate seed s → WasPlayed v at seed s → ⊥
  late_not_played x p =
      let same = one_reading (played_of s) x.records p.records x.last End x.reads x.is_last p.capture tt in
      let c = one_cut x.records p.records x.last End x.history same.0 same.1 x.early in
      let z : Setup = setup_of s.interface seed in
      not_cut z.policy z.rate seed (bare_arrivals (arrivals_in z p.records)) p.history x.history
      (record { events = p.play.play.events; in_time = p.play.in_time }) p.play.play.done c.cut

  played_not : (last : Step) → IsLast last → (last ≡ End → ⊥) → EndsWith seed s last → WasPlayed v at seed s → ⊥
  played_not last h other x p = other (one_reading (played_of s) x.records p.records last End x.reads h p.capture tt).1

small : (p : Part) → part_number p < 16
small part.Configuration = omega arith
small part.Arrivals = omega arith
small part.Departures = omega arith
small part.Fates = omega arith
small part.Statistics = omega arith
small part.Marked = omega arith
small part.SecondDepartures = omega arith
small part.SecondFates = omega arith
small part.SecondStatistics = omega arith
small part.Path = omega arith

some : (p : Part) → 1 ≤ part_number p
some part.Configuration = omega arith
some part.Arrivals = omega arith
some part.Departures = omega arith
some part.Fates = omega arith
some part.Statistics = omega arith
some part.Marked = omega arith
some part.SecondDepartures = omega arith
some part.SecondFates = omega arith
some part.SecondStatistics = omega arith
some part.Path = omega arith

read_not : (u v : View) (p : Part) → IsQuiet u v → ReadFailed u v (part_number p) → ⊥
read_not u v p q x = (q (part_number p) (small p)).0 x

write_not : (u v : View) (p : Part) → IsQuiet u v → WriteFailed u v (part_number p) → ⊥
write_not u v p q x = (q (part_number p) (small p)).1 (some p) x

-- a play that fails fails as it must, where no count of faults rose
module _ (u v : View) (at : Places) (seed : ℕ) (s : Source) (laws : HaveLaws) (configured : IsConfigured s.interface) (q : IsQuiet u v) where
  abbrev Fails : PlayFault → Type 0
  Fails = PlayFails (λ P. P s) at seed u v

  fails_ended : (last : Step) (f : PlayFault) → IsLast last → EndsWith seed s last → Fails f
      → (f ≡ play.NoMemory) ⊎ ((d : Damage) × (f ≡ play.Capture d) × (last ≡ Fault d)) ⊎ ((f ≡ play.Limit limit.Capture) × (last ≡ Limit))
  fails_ended last (play.Capture d) h p x = inr (inl (d, refl, one_end v u at seed s last (Fault d) h tt p x))
  fails_ended last play.Read h p x = absurd (read_not u v at.arrivals.part q x.0)
  fails_ended last (play.Write output.Departures) h p x = absurd (write_not u v at.departures.part q x)
  fails_ended last (play.Write output.Fates) h p x = absurd (write_not u v at.fates.part q x)
  fails_ended last (play.Write output.Statistics) h p x = absurd (write_not u v at.stats.part q x.0)
  fails_ended last (play.Limit limit.Capture) h p x = inr (inr (refl, one_end v u at seed s last Limit h tt p x))
  fails_ended last (play.Limit limit.Clock) h p x = absurd (late_not_ended v u at seed s last h p x)
  fails_ended last play.NoMemory h p x = inl refl

  fails_late : (f : PlayFault) → EndsLate seed s → Fails f → (f ≡ play.NoMemory) ⊎ (f ≡ play.Limit limit.Clock)
  fails_late (play.Capture d) p x = absurd (offered_not_late v u at seed s (Fault d) laws configured tt (fault_end d) x p)
  fails_late play.Read p x = absurd (read_not u v at.arrivals.part q x.0)
  fails_late (play.Write output.Departures) p x = absurd (write_not u v at.departures.part q x)
  fails_late (play.Write output.Fates) p x = absurd (write_not u v at.fates.part q x)
  fails_late (play.Write output.Statistics) p x = absurd (write_not u v at.stats.part q x.0)
  fails_late (play.Limit limit.Capture) p x = absurd (offered_not_late v u at seed s Limit laws configured tt limit_end x p)
  fails_late (play.Limit limit.Clock) p x = inr refl
  fails_late play.NoMemory p x = inl refl

  abbrev Came : PlayFault → Link → Outcome → Type 0
  Came f link p = IsOrMemory (Err (play_failure link at f)) p

  memory : (f : PlayFault) (link : Link) (p : Outcome) → f ≡ play.NoMemory → Came f link p
  memory f link p e = inr (ap {B = Outcome} (λ (g : PlayFault). Err (play_failure link at g)) e)

  comes_so : (f g : PlayFault) (link : Link) → f ≡ g → Came f link (Err (play_failure link at g))
  comes_so f g link e = inl (ap {B = Outcome} (λ (h : PlayFault). Err (play_failure link at h)) e)

  at_end : (f : PlayFault) (link : Link) (last : Step) (p : Outcome) → IsLast last
      → ((d : Damage) → last ≡ Fault d → p ≡ Err (play_failure link at (play.Capture d))) → (last ≡ Limit → p ≡ Err (play_failure link at (play.Limit limit.Capture)))
      → EndsWith seed s last → Fails f → Came f link p
  at_end f link last p h damage limited ends x = by (fails_ended last f h ends x)
    where
      by : (f ≡ play.NoMemory) ⊎ ((d : Damage) × (f ≡ play.Capture d) × (last ≡ Fault d)) ⊎ ((f ≡ play.Limit limit.Capture) × (last ≡ Limit)) → Came f link p
      by (inl e) = memory f link p e
      by (inr (inl e)) = subst (Came f link) (sym (damage e.0 e.2)) (comes_so f (play.Capture e.0) link e.1)
      by (inr (inr e)) = subst (Came f link) (sym (limited e.1)) (comes_so f (play.Limit limit.Capture) link e.0)

  late_link : (f : PlayFault) (link : Link) → EndsLate seed s → Fails f → Came f link (Err (failure.Capture link capture.Late))
  late_link f link p x = by (fails_late f p x)
    where
      by : (f ≡ play.NoMemory) ⊎ (f ≡ play.Limit limit.Clock) → Came f link (Err (failure.Capture link capture.Late))
      by (inl e) = memory f link _ e
      by (inr e) = comes_so f (play.Limit limit.Clock) link e

  on_link : (f : PlayFault) (l link : Link) (c : CaptureStop) → l ≡ link → Came f link (Err (failure.Capture link c)) → Came f link (Err (failure.Capture l c))
  on_link f l link c e x = subst (λ (k : Link). Came f link (Err (failure.Capture k c))) (sym e) x

  pub fails_as_expected : (f : PlayFault) → Fails f → CameAsExpected at seed (Err f) s
  fails_as_expected f x link (Ok done.Done) p = at_end f link End (Ok done.Done) tt (λ d e. absurd (end_fault d e)) (λ e. absurd (end_limit e)) p x
  fails_as_expected f x link (Ok done.Exceeds) p = absurd p
  fails_as_expected f x link (Err (failure.Capture l (capture.Damage d))) p =
      on_link f l link (capture.Damage d) p.0
      (at_end f link (Fault d) _ tt (λ e h. ap {B = Outcome} (λ (z : Damage). Err (failure.Capture link (capture.Damage z))) (fault_same d e h))
      (λ h. absurd (fault_limit d h)) p.1 x)
  fails_as_expected f x link (Err (failure.Capture l capture.TooLong)) p =
      on_link f l link capture.TooLong p.0 (at_end f link Limit _ tt (λ d h. absurd (limit_fault d h)) (λ h. refl) p.1 x)
  fails_as_expected f x link (Err (failure.Capture l capture.Late)) p = on_link f l link capture.Late p.0 (late_link f link p.1 x)
  fails_as_expected f x link (Err (failure.Capture l (capture.Block b))) p = absurd p
  fails_as_expected f x link (Err (failure.Words k)) p = absurd p
  fails_as_expected f x link (Err (failure.Configuration k)) p = absurd p
  fails_as_expected f x link (Err (failure.Read k)) p = absurd p
  fails_as_expected f x link (Err (failure.Write k)) p = absurd p
  fails_as_expected f x link (Err failure.Unsaid) p = absurd p
  fails_as_expected f x link (Err (failure.TooLong k)) p = absurd p
  fails_as_expected f x link (Err (failure.Refuted k _)) p = absurd p
  fails_as_expected f x link (Err failure.NoMemory) p = absurd p

-- and a play that is done is, where that must come
pub done_as_expected : (v : View) (at : Places) (seed : ℕ) (s : Source) (t : Totals) → WasPlayed v at seed s → CameAsExpected at seed (Ok t) s
done_as_expected v at seed s t x link (Ok done.Done) p = inl refl
done_as_expected v at seed s t x link (Ok done.Exceeds) p = absurd p
done_as_expected v at seed s t x link (Err (failure.Capture l (capture.Damage d))) p = absurd (played_not v v at seed s (Fault d) tt (fault_end d) p.1 x)
done_as_expected v at seed s t x link (Err (failure.Capture l capture.TooLong)) p = absurd (played_not v v at seed s Limit tt limit_end p.1 x)
done_as_expected v at seed s t x link (Err (failure.Capture l capture.Late)) p = absurd (late_not_played v v at seed s p.1 x)
done_as_expected v at seed s t x link (Err (failure.Capture l (capture.Block b))) p = absurd p
done_as_expected v at seed s t x link (Err (failure.Words k)) p = absurd p
done_as_expected v at seed s t x link (Err (failure.Configuration k)) p = absurd p
done_as_expected v at seed s t x link (Err (failure.Read k)) p = absurd p
done_as_expected v at seed s t x link (Err (failure.Write k)) p = absurd p
done_as_expected v at seed s t x link (Err failure.Unsaid) p = absurd p
done_as_expected v at seed s t x link (Err (failure.TooLong k)) p = absurd p
done_as_expected v at seed s t x link (Err (failure.Refuted k _)) p = absurd p
done_as_expected v at seed s t x link (Err failure.NoMemory) p = absurd p
