-- Each packet of a class with a curve ends at most so long after its due moments.
use Rattle.std.proofs.Common.{◌≡◌, ◌≤◌, ◌<◌, ◌+◌, ℕ, Bool, true, false, List, [], ◌∷◌, Some, refl, subst, arith}
use Rattle.std.specs.Prelude.{Option, if◌then◌else◌, ◌==◌}
use Rattle.std.proofs.lemmas.Bool.Decides.{nat_tests}
use Rattle.play_base.specs.Units.{units, ceil_div}
use Rattle.service_curve.specs.declared.Curve.{Curve}
use Rattle.runtime_curve.specs.Opening.{Reaches}
use Rattle.hfsc_model.specs.Event.{HfscHistory, Enqueued, Sent}
use Rattle.hfsc_model.specs.Leaf.{Waiting, leaf}
use Rattle.hfsc_model.specs.Link.{AreOneByOne, free, run_after}
use Rattle.hfsc_model.specs.RealTime.{curve_of}
use Rattle.hfsc_model.specs.Timely.{Row, AreChosen, AreInOrder, AreTimely, FitLink, IsBusy, IsHead, IsTimely, longest, opens, rows, units_of, with_row}
use Rattle.hfsc_laws.proofs.Curves.{le_ceil}
use Rattle.hfsc_laws.proofs.Rows.{covered}
use Rattle.hfsc_laws.proofs.Anchor.{IsRun, before_kept, before_sent, ends_in_time}

head_timely : (s : Curve) (most : ℕ) (ws : List Waiting) (len start end : ℕ) (rs : List Row) → IsHead ws len
    → ((u : ℕ) → Reaches s (opens (with_row ws start end rs)) u (units_of rs + units len) → end ≤ u + most) → AreTimely s most rs → AreTimely s most (with_row ws start end rs)
head_timely s most [] len start end rs h f a = absurd h
head_timely s most (w ∷ ws) len start end rs h f a =
    (λ u d. f u (subst (λ n. Reaches s (opens (with_row (w ∷ ws) start end rs)) u (units_of rs + units n)) h d), a)

rows_timely : (rate most : ℕ) (curves : List (Option Curve)) (h : HfscHistory) (c : ℕ) (s : Curve) → IsRun rate most curves h → FitLink rate curves → curve_of curves c ≡ Some s
    → AreTimely s most (rows rate h c)
rows_timely rate most curves [] c s x f e = tt
rows_timely rate most curves (Enqueued d at len ∷ h) c s x f e = rows_timely rate most curves h c s (before_kept rate most curves d at len h x) f e
rows_timely rate most curves (Sent d len real start ∷ h) c s x f e = go (d == c) refl (rows_timely rate most curves h c s (before_sent rate most curves d len real start h x) f e)
  where
    own : curve_of curves d ≡ Some s → AreTimely s most (rows rate h d)
        → AreTimely s most (with_row (leaf h d).waiting start (free rate (run_after rate (Sent d len real start ∷ h))) (rows rate h d))
    own i a =
        let end = free rate (run_after rate (Sent d len real start ∷ h)) in
        head_timely s most (leaf h d).waiting len start end (rows rate h d) x.chosen.0.head
        (λ u r. ends_in_time (record { rate = rate; most = most; curves = curves; until = u }) h d len real start s x f i
        (covered rate curves h d x.order.2 x.chosen.1 start end s u (units len) r))
        a

    go : (b : Bool) → (d == c) ≡ b → AreTimely s most (rows rate h c)
        → AreTimely s most (if b then with_row (leaf h c).waiting start (free rate (run_after rate (Sent d len real start ∷ h))) (rows rate h c) else rows rate h c)
    go true g a =
        let same : d ≡ c = grind (arith, nat_tests, g) in
        subst (λ (k : ℕ). curve_of curves k ≡ Some s → AreTimely s most (rows rate h k)
        → AreTimely s most (with_row (leaf h k).waiting start (free rate (run_after rate (Sent d len real start ∷ h))) (rows rate h k))) same own e a
    go false g a = a

pub timely : (rate : ℕ) (curves : List (Option Curve)) (h : HfscHistory) → 0 < rate → AreInOrder h → AreOneByOne rate h → IsBusy rate curves h → AreChosen curves h
    → FitLink rate curves → IsTimely rate curves h
timely rate curves h z o l b p f = λ c s e.
    rows_timely rate (ceil_div (units (longest h)) rate) curves h c s
    (record { positive = z; order = o; one_by_one = l; busy = b; chosen = p; short = le_ceil rate (units (longest h)) z }) f e
