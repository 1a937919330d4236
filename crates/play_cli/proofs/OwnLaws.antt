-- The faults that the commands' own failures tell were met.
use Rattle.std.proofs.Common.{◌≡◌, ◌∙◌, ◌⊎◌, ℕ, List, ap, sym, refl, subst, inl, inr}
use Rattle.std.specs.Prelude.{IsTrue}
use Rattle.file_plans.specs.declared.part.Part.{Part}
use Rattle.file_plans.specs.declared.part.Part.TheVariants as part
use Rattle.file_plans.specs.Parts.{part_number, printed}
use Rattle.file_plans.specs.Plan.{Place, number_of}
use Rattle.interface_play.specs.Failing.{FailsAs, PlayFails, play_failure}
use Rattle.interface_play.specs.Source.{Places, Source}
use Rattle.play_base.specs.View.{View}
use Rattle.play_loop.specs.declared.fault.Limit.TheVariants as limit
use Rattle.play_loop.specs.declared.fault.Output.TheVariants as output
use Rattle.play_loop.specs.declared.fault.PlayFault.{PlayFault}
use Rattle.play_loop.specs.declared.fault.PlayFault.TheVariants as play
use Rattle.play_words.specs.declared.words.WordsFault.{WordsFault}
use Rattle.run_outcomes.specs.declared.outcome.Failure.TheVariants as failure
use Rattle.run_outcomes.specs.declared.outcome.Link.{Link}
use Rattle.run_outcomes.specs.Faults.{ReadFailed, WriteFailed}
use Rattle.run_inputs.specs.Meets.{CannotRead}
use Rattle.run_outcomes.specs.Truth.{HasReadPlace, IsAbsentOf}
use Rattle.run_outcomes.specs.declared.outcome.Link.TheVariants as link
use Rattle.command_form.specs.Names.{GivenNames, Links, Names}
use Rattle.command_form.proofs.TruthLaws.{OwnAreTrue}
use Rattle.chain_command.specs.Chaining.{ChainOwn, FailsOpening, FailsPath, OfFirst, OfSecond}
use Rattle.chain_command.specs.Names.{chain_command, seconds_of}
use Rattle.make_command.specs.Ending.{MakeOwn}
use Rattle.make_command.specs.Made.{OfMade, make_command}
use Rattle.play_command.specs.Ending.{OfPlayed, PlayOwn}
use Rattle.play_command.specs.Headline.{play_command, sole_of}
use Rattle.shares_command.specs.Ending.{SharesOwn}
use Rattle.verify_command.specs.Verifying.{VerifyOwn, verify_command}

-- of a play
fails_read : (Of : (Source → Type 0) → Type 0) (l : Link) (w : Places) (seed : ℕ) (u v : View) (fault : PlayFault) (p : Part)
    → failure.Read p ≡ play_failure l w fault → PlayFails Of w seed u v fault → ReadFailed u v (part_number p)
fails_read Of l w seed u v play.Read p e x = subst (λ (q : Part). ReadFailed u v (part_number q)) (sym same) x.0
  where
    same : p ≡ w.arrivals.part
    same = cc
fails_read Of l w seed u v (play.Capture d) p e x = absurd (cc)
fails_read Of l w seed u v (play.Write output.Departures) p e x = absurd (cc)
fails_read Of l w seed u v (play.Write output.Fates) p e x = absurd (cc)
fails_read Of l w seed u v (play.Write output.Statistics) p e x = absurd (cc)
fails_read Of l w seed u v (play.Limit limit.Capture) p e x = absurd (cc)
fails_read Of l w seed u v (play.Limit limit.Clock) p e x = absurd (cc)
fails_read Of l w seed u v play.NoMemory p e x = absurd (cc)

same_written : (p q : Part) → failure.Write p ≡ failure.Write q → p ≡ q
same_written p q e = cc

fails_write : (Of : (Source → Type 0) → Type 0) (l : Link) (w : Places) (seed : ℕ) (u v : View) (fault : PlayFault) (p : Part)
    → failure.Write p ≡ play_failure l w fault → PlayFails Of w seed u v fault → WriteFailed u v (part_number p)
fails_write Of l w seed u v (play.Write output.Departures) p e x =
    subst (λ (q : Part). WriteFailed u v (part_number q)) (sym (same_written p w.departures.part e)) x
fails_write Of l w seed u v (play.Write output.Fates) p e x =
    subst (λ (q : Part). WriteFailed u v (part_number q)) (sym (same_written p w.fates.part e)) x
fails_write Of l w seed u v (play.Write output.Statistics) p e x =
    subst (λ (q : Part). WriteFailed u v (part_number q)) (sym (same_written p w.stats.part e)) x.0
fails_write Of l w seed u v play.Read p e x = absurd (cc)
fails_write Of l w seed u v (play.Capture d) p e x = absurd (cc)
fails_write Of l w seed u v (play.Limit limit.Capture) p e x = absurd (cc)
fails_write Of l w seed u v (play.Limit limit.Clock) p e x = absurd (cc)
fails_write Of l w seed u v play.NoMemory p e x = absurd (cc)

fails_unsaid : (l : Link) (w : Places) (fault : PlayFault) → failure.Unsaid ≡ play_failure l w fault → ⊥
fails_unsaid l w (play.Write output.Departures) e = cc
fails_unsaid l w (play.Write output.Fates) e = cc
fails_unsaid l w (play.Write output.Statistics) e = cc
fails_unsaid l w play.Read e = cc
fails_unsaid l w (play.Capture d) e = cc
fails_unsaid l w (play.Limit limit.Capture) e = cc
fails_unsaid l w (play.Limit limit.Clock) e = cc
fails_unsaid l w play.NoMemory e = cc

fails_words : (l : Link) (w : Places) (fault : PlayFault) (words : WordsFault) → failure.Words words ≡ play_failure l w fault → ⊥
fails_words l w (play.Write output.Departures) words e = cc
fails_words l w (play.Write output.Fates) words e = cc
fails_words l w (play.Write output.Statistics) words e = cc
fails_words l w play.Read words e = cc
fails_words l w (play.Capture d) words e = cc
fails_words l w (play.Limit limit.Capture) words e = cc
fails_words l w (play.Limit limit.Clock) words e = cc
fails_words l w play.NoMemory words e = cc

pub fails_true : (Of : (Source → Type 0) → Type 0) (l : Link) (w : Places) (seed : ℕ) (plan : List Place) (u v : View)
    → OwnAreTrue plan (FailsAs Of l w seed u v) u v
fails_true Of l w seed plan u v = record {
  read = λ p x. inl (fails_read Of l w seed u v x.fault p x.same x.fails);
  write = λ p x. fails_write Of l w seed u v x.fault p x.same x.fails;
  unsaid = λ x. absurd (fails_unsaid l w x.fault x.same);
  words = λ words x. absurd (fails_words l w x.fault words x.same);
}

pub play_own_true : (u v : View) (n : Names) (seed : ℕ) → OwnAreTrue (play_command n).plan (PlayOwn u v n seed) u v
play_own_true u v n seed = fails_true (OfPlayed u n) link.Sole (sole_of n) seed (play_command n).plan u v

pub shares_own_true : (u v : View) (n : Names) (seed : ℕ) → OwnAreTrue (play_command n).plan (SharesOwn u v n seed) u v
shares_own_true u v n seed =
    let own = play_own_true u v n seed in
    record { read = λ p x. own.read p x; write = λ p x. own.write p x; unsaid = λ x. x.0; words = λ words x. own.words words x }

-- of a make
make_true : (u v : View) (n : Names) (seed count : ℕ) → OwnAreTrue (make_command n).plan (FailsAs (OfMade u n seed count) link.Sole (sole_of n) seed u v) u v
make_true u v n seed count = fails_true (OfMade u n seed count) link.Sole (sole_of n) seed (make_command n).plan u v

make_read : (u v : View) (n : Names) (seed count : ℕ) (p : Part) → MakeOwn u v n seed count (failure.Read p)
    → ReadFailed u v (part_number p) ⊎ IsAbsentOf (make_command n).plan u p
make_read u v n seed count part.Arrivals (inl x) = inl x.0
make_read u v n seed count part.Arrivals (inr x) = (make_true u v n seed count).read part.Arrivals x
make_read u v n seed count other x = (make_true u v n seed count).read other x

make_write : (u v : View) (n : Names) (seed count : ℕ) (p : Part) → MakeOwn u v n seed count (failure.Write p) → WriteFailed u v (part_number p)
make_write u v n seed count part.Arrivals x = x.0
make_write u v n seed count other x = (make_true u v n seed count).write other x

pub make_own_true : (u v : View) (n : Names) (seed count : ℕ) → OwnAreTrue (make_command n).plan (MakeOwn u v n seed count) u v
make_own_true u v n seed count = record {
  read = make_read u v n seed count;
  write = make_write u v n seed count;
  unsaid = λ x. x.0;
  words = λ words x. (make_true u v n seed count).words words x;
}

-- of two links
either : {A B C D R : Type 0} → (A → R) → (B → R) → (C → R) → (D → R) → A ⊎ B ⊎ C ⊎ D → R
either f g h k (inl x) = f x
either f g h k (inr (inl x)) = g x
either f g h k (inr (inr (inl x))) = h x
either f g h k (inr (inr (inr x))) = k x

read_part : (p q : Part) → failure.Read p ≡ failure.Read q → p ≡ q
read_part p q e = cc

pub chain_own_true : (u v : View) (n : Links) (seed : ℕ) → OwnAreTrue (chain_command n).plan (ChainOwn u v n seed) u v
chain_own_true u v n seed =
    let first = fails_true (OfFirst u n) link.First (sole_of n.first) seed (chain_command n).plan u v in
    let second = fails_true (OfSecond u v n seed) link.Second (seconds_of n) seed (chain_command n).plan u v in
    record {
      read = λ p x. either (λ y. first.read p y.1)
          (λ y. let P : Part → Type 0 = λ q. ReadFailed u v (part_number q) in inl (subst P (sym (read_part p part.Departures y.1.0)) y.1.1))
          (λ y. second.read p y.1) (λ y. absurd (no_read p y.0)) x;
      write = λ p x. either (λ y. first.write p y.1) (λ y. absurd (no_write p y.1.0)) (λ y. second.write p y.1)
          (λ y. let P : Part → Type 0 = λ q. WriteFailed u v (part_number q) in subst P (sym (same_written p part.Path y.0)) y.1) x;
      unsaid = λ x. either (λ y. first.unsaid y.1) (λ y. absurd (no_unsaid y.1.0)) (λ y. second.unsaid y.1) (λ y. absurd (path_unsaid y.0)) x;
      words = λ words x. either (λ y. first.words words y.1) (λ y. no_words words y.1.0) (λ y. second.words words y.1) (λ y. path_words words y.0) x;
    }
  where
    no_read : (p : Part) → failure.Read p ≡ failure.Write part.Path → ⊥
    no_read p e = cc

    no_write : (p : Part) → failure.Write p ≡ failure.Read part.Departures → ⊥
    no_write p e = cc

    no_unsaid : failure.Unsaid ≡ failure.Read part.Departures → ⊥
    no_unsaid e = cc

    path_unsaid : failure.Unsaid ≡ failure.Write part.Path → ⊥
    path_unsaid e = cc

    no_words : (words : WordsFault) → failure.Words words ≡ failure.Read part.Departures → ⊥
    no_words words e = cc

    path_words : (words : WordsFault) → failure.Words words ≡ failure.Write part.Path → ⊥
    path_words words e = cc

-- of a verification
cannot : (plan : List Place) (u v : View) (p : Part) (m : List ℕ) → HasReadPlace plan p m → CannotRead u v p m → ReadFailed u v (part_number p) ⊎ IsAbsentOf plan u p
cannot plan u v p m h (inl x) = inl x
cannot plan u v p m h (inr x) = inr (m, h, x)

verify_read : (u v : View) (n : GivenNames) (p : Part) → VerifyOwn u v n (failure.Read p) → ReadFailed u v (part_number p) ⊎ IsAbsentOf (verify_command n).plan u p
verify_read u v n part.Arrivals x = inl x.1
verify_read u v n part.Departures x = cannot (verify_command n).plan u v part.Departures n.departures (inr (inr (inl (refl, refl, refl)))) x.0
verify_read u v n part.Fates x = cannot (verify_command n).plan u v part.Fates n.fates (inr (inr (inr (inl (refl, refl, refl))))) x.0
verify_read u v n other x = absurd x

pub verify_own_true : (u v : View) (n : GivenNames) → OwnAreTrue (verify_command n).plan (VerifyOwn u v n) u v
verify_own_true u v n = record { read = verify_read u v n; write = λ p x. absurd x; unsaid = λ x. x.0; words = λ words x. absurd x }
