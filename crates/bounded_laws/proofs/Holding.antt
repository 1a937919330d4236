-- Each play of an interface keeps the bounds that were printed of it, and their lines stand in what was printed.
use Rattle.std.proofs.Common.{◌≡◌, ◌≤◌, ◌<◌, ◌∙◌, ◌⊎◌, inl, inr, ℕ, zero, suc, Bool, true, false, List, [], ◌∷◌, Option, None, Some, refl, ap, sym, subst, arith, ◌+◌, ◌++◌, append_assoc, Result, Ok, Err}
use Rattle.std.specs.Prelude.{◌==◌, ◌&&◌, if◌then◌else◌, option_map, slice_get, length, nat_lt}
use Rattle.admission.specs.declared.Fit.{Fit}
use Rattle.admission.specs.declared.Fit.TheVariants as fit
use Rattle.altq_model.specs.Arrivals.{bare_arrivals}
use Rattle.altq_model.specs.History.{LabelledEvent, unlabelled}
use Rattle.bound_command.specs.Bounding.{HasBounded}
use Rattle.bound_command.specs.Lines.{Burst, bound_of, is_fit, bound_line, if_leaf, lines_by, lines_from}
use Rattle.bound_command.specs.declared.lines.Bound.{Bound}
use Rattle.capture_model.specs.Capture.{Record}
use Rattle.command_form.proofs.FitLemmas.{ready_fits}
use Rattle.command_form.specs.Names.{Names}
use Rattle.conf_laws.specs.Fit.{IsCurveIfAny, IsInterface, IsOfKind, IsCurve}
use Rattle.conf_laws.specs.Laws.{ConfigurationsFit}
use Rattle.conf_lines.specs.Texts.{statements_of}
use Rattle.conf_lines.specs.declared.fault.ConfPlace.{ConfPlace}
use Rattle.conf_tree.specs.Family.{is_leaf}
use Rattle.conf_tree.specs.Reading.{reading}
use Rattle.conf_tree.specs.declared.class.Class.{Class}
use Rattle.conf_tree.specs.declared.interface.Interface.{Interface}
use Rattle.conf_tree.specs.declared.interface.Kind.{Kind}
use Rattle.conf_tree.specs.declared.interface.Kind.TheVariants.{Hfsc, Cbq}
use Rattle.delay_bound.proofs.Bounds.{keeps_bounds}
use Rattle.delay_bound.specs.Bound.{IsServed, bound}
use Rattle.file_plans.specs.End.{most_configuration}
use Rattle.hfsc_model.specs.RealTime.{curve_of, unless_zero}
use Rattle.hfsc_model.specs.Tree.{reals}
use Rattle.interface_play.specs.Setup.{setup_of}
use Rattle.interface_policy.specs.Classes.{hfsc_classes}
use Rattle.interface_policy.specs.Laws.{PoliciesAreLawful}
use Rattle.interface_policy.specs.Policy.{policy_of}
use Rattle.interface_policy.specs.Promises.{KeepsPromises}
use Rattle.link_fit.specs.Curves.{IsFitOf}
use Rattle.play_base.specs.View.{View}
use Rattle.play_command.specs.Headline.{HasPlayed, play_command}
use Rattle.play_core.specs.Finished.{IsFinished}
use Rattle.play_core.specs.declared.totals.Totals.{Totals}
use Rattle.play_laws.proofs.ArrivalLemmas.{arrivals_rise}
use Rattle.play_laws.proofs.OrderLemmas.{of_arrivals}
use Rattle.play_loop.specs.Setup.{arrivals_in}
use Rattle.run_inputs.specs.Says.{Accepted, Asked, Configured, Text, TooLong, interface_of, text_of, text_read, with_interface}
use Rattle.service_curve.specs.declared.Curve.{Curve}
use Rattle.bounded_laws.proofs.Ends.{all_end, all_rise, all_short}
use Rattle.bounded_laws.specs.Printed.{IsPrinted, StandsIn, AllEndWithin, KeepsTo}

-- what a bound was computed of
record IsOfCurve (fits : Bool) (o : Option Curve) (link_rate : ℕ) (b : Burst) (x : Bound) : Type 0 where
  curve : Curve
  fit : fits ≡ true
  real : o ≡ Some curve
  some : (curve.m2 == 0) ≡ false
  rate : x.rate ≡ curve.m2
  is : bound curve link_rate b.longest b.burst ≡ Some x.bound

of_curve : (fits : Bool) (o : Option Curve) (link_rate : ℕ) (b : Burst) (x : Bound) → bound_of fits o link_rate b ≡ Some x
    → IsOfCurve fits o link_rate b x
of_curve false o link_rate b x e = absurd cc
of_curve true None link_rate b x e = absurd cc
of_curve true (Some s) link_rate b x e = go (s.m2 == 0) refl (bound s link_rate b.longest b.burst) refl e
  where
    made : ℕ → Bound
    made n = record { rate = s.m2; bound = n }

    go : (z : Bool) → (s.m2 == 0) ≡ z → (n : Option ℕ) → bound s link_rate b.longest b.burst ≡ n → (if z then None else option_map made n) ≡ Some x
        → IsOfCurve true (Some s) link_rate b x
    go true t n is e = absurd cc
    go false t None is e = absurd cc
    go false t (Some n) is e =
        let same : made n ≡ x = cc in record {
          curve = s;
          fit = refl;
          real = refl;
          some = t;
          rate = sym (ap (λ (y : Bound). y.rate) same);
          is = is ∙ ap (λ (y : Bound). Some y.bound) same;
        }

fits_by : (f : Fit) → is_fit f ≡ true → f ≡ fit.Fits
fits_by fit.Fits e = refl
fits_by (fit.Exceeds at by) e = absurd cc

-- the curve of a class as HFSC sees it
curve_at : (classes : List Class) (k : ℕ) (c : Class) → slice_get classes k ≡ Some c → curve_of (reals (hfsc_classes classes)) k ≡ unless_zero c.real
curve_at [] k c e = absurd cc
curve_at (x ∷ classes) zero c e = let same : x ≡ c = cc in ap (λ (z : Class). unless_zero z.real) same
curve_at (x ∷ classes) (suc k) c e = curve_at classes k c e

not_zero : (s : Curve) → (s.m2 == 0) ≡ false → unless_zero (Some s) ≡ Some s
not_zero s e = go (s.m1 == 0) (s.m2 == 0) e
  where
    go : (a b : Bool) → b ≡ false → (if a && b then None else Some s) ≡ Some s
    go true true e = absurd cc
    go true false e = refl
    go false b e = refl

-- it may be set
may_be_set : (k : Kind) (c : Class) (s : Curve) → k ≡ Hfsc → c.real ≡ Some s → IsOfKind k c → IsCurve 0 0 s
may_be_set Cbq c s k e own = absurd cc
may_be_set Hfsc c s k e own = subst (λ (o : Option Curve). IsCurveIfAny 0 0 o) e own.real

upward : (s : Curve) → (s.m1 ≡ 0) ⊎ (s.m2 ≤ s.m1) → s.m1 < s.m2 → s.m1 ≡ 0
upward s (inl e) l = e
upward s (inr e) l = absurd (omega (arith, e, l))

is_served : (i : Interface) (by : Fit) (b : Burst) (leaf rate : ℕ) (x : Bound) → IsInterface i → (p : IsPrinted i by b leaf x)
    → (o : IsOfCurve (is_fit by) p.class.real i.rate b x) → rate ≤ x.rate → 1 ≤ b.burst → IsServed (hfsc_classes i.classes) leaf o.curve rate b.burst
is_served i by b leaf rate x whole p o below some =
    let set = may_be_set i.kind p.class o.curve p.kind o.real (whole.tree.class leaf p.class p.at).own in record {
      curve = curve_at i.classes leaf p.class p.at ∙ ap unless_zero o.real ∙ not_zero o.curve o.some;
      rises = upward o.curve set.upward;
      second = let same : x.rate ≡ o.curve.m2 = o.rate in omega (arith, below, same);
      some = some;
    }

line_in : (line : Class → List ℕ) (all : List Class) (number k : ℕ) (cs : List Class) (c : Class) → slice_get cs k ≡ Some c
    → is_leaf all (number + k) ≡ true → StandsIn (line c) (lines_from line all number cs)
line_in line all number k [] c e t = absurd cc
line_in line all number zero (x ∷ cs) c e t =
    let same : x ≡ c = cc in
    let here : number + 0 ≡ number = omega arith in
    let leaf : is_leaf all number ≡ true = subst (λ (n : ℕ). is_leaf all n ≡ true) here t in record {
      before = [];
      after = lines_from line all (number + 1) cs;
      text_is =
          ap (λ (b : Bool). if_leaf b (line x) ++ lines_from line all (number + 1) cs) leaf
          ∙ ap (λ (z : Class). line z ++ lines_from line all (number + 1) cs) same;
    }
line_in line all number (suc k) (x ∷ cs) c e t =
    let there : number + suc k ≡ (number + 1) + k = omega arith in
    let y = line_in line all (number + 1) k cs c e (subst (λ (n : ℕ). is_leaf all n ≡ true) there t) in
    let ahead : List ℕ = if_leaf (is_leaf all number) (line x) in record {
      before = ahead ++ y.before;
      after = y.after;
      text_is = ap (λ (text : List ℕ). ahead ++ text) y.text_is ∙ sym (append_assoc ahead y.before (line c ++ y.after));
    }

pub line_stands : (old new : View) (config interface : List ℕ) (b : Burst) (x : HasBounded old new config interface b) (leaf : ℕ) (y : Bound)
    → (p : IsPrinted x.configured.found x.bounded.by b leaf y) → StandsIn (bound_line p.class.name (Some y)) x.text
line_stands old new config interface b x leaf y p =
    let i = x.configured.found in
    let here : leaf ≡ 0 + leaf = omega arith in
    let line : Class → List ℕ = λ c. bound_line c.name (bound_of (is_fit x.bounded.by) c.real i.rate b) in
    let z = line_in line i.classes 0 leaf i.classes p.class p.at (subst (λ (n : ℕ). is_leaf i.classes n ≡ true) here p.is_leaf) in record {
      before = z.before;
      after = z.after;
      text_is =
          x.bounded.text_is
          ∙ ap (λ (k : Kind). lines_by k x.bounded.by i b) p.kind
          ∙ z.text_is
          ∙ ap (λ o. z.before ++ (bound_line p.class.name o ++ z.after)) p.bound;
    }

-- of an interface
record IsBounded (i : Interface) (by : Fit) (b : Burst) (leaf : ℕ) (x : Bound) : Type 0 where
  curves : IsFitOf i by
  printed : IsPrinted i by b leaf x

keeps_bound : PoliciesAreLawful → (i : Interface) (by : Fit) (b : Burst) (leaf rate seed : ℕ) (x : Bound) (records : List Record) (g : List LabelledEvent)
    (t : Totals) → IsInterface i → IsBounded i by b leaf x → IsFinished (policy_of i) i.rate seed (arrivals_in (setup_of i seed) records) g t
    → KeepsPromises i (bare_arrivals (arrivals_in (setup_of i seed) records)) g → rate ≤ x.rate
    → KeepsTo b leaf rate (bare_arrivals (arrivals_in (setup_of i seed) records)) g
    → AllEndWithin leaf x.bound (bare_arrivals (arrivals_in (setup_of i seed) records)) g
keeps_bound law i by b leaf rate seed x records g t whole z play promises below keeps =
    let arrived = bare_arrivals (arrivals_in (setup_of i seed) records) in
    let o = of_curve _ z.printed.class.real i.rate b x z.printed.bound in
    let fits = z.curves.fits.0 (fits_by by o.fit) in
    let hfsc = promises.hfsc z.printed.kind in
    let least = whole.rate.0 in
    let some : 0 < i.rate = omega (arith, least) in
    let rise = all_rise (policy_of i) i.rate seed arrived g some (law i whole) (arrivals_rise (setup_of i seed).place records) play.play.events play.each in
    let short = all_short b.longest arrived g keeps.short (of_arrivals (policy_of i) i.rate seed arrived g play.each) in
    let within =
    keeps_bounds (hfsc_classes i.classes) i.rate (unlabelled g) some rise (hfsc.timely fits) leaf o.curve rate b.burst b.longest x.bound
    (is_served i by b leaf rate x whole z.printed o below keeps.some) keeps.conforms short o.is in
    all_end (policy_of i) i.rate seed leaf x.bound arrived g play.each hfsc.ends within

-- a text says the same of an interface, whatever the arrivals are
abbrev asked_of : (config interface : List ℕ) → Option (List ℕ) → Asked
asked_of config interface arrivals = record { config = config; interface = interface; next = None; arrivals = arrivals }

same_text : (c d interface : List ℕ) (name : List ℕ) (bytes : List ℕ)
    → text_of (asked_of c interface None) bytes ≡ text_of (asked_of d interface (Some name)) bytes
same_text c d interface name bytes = ap (λ (t : Text). if nat_lt most_configuration (length bytes) then TooLong else t) (read (reading (statements_of bytes)))
  where
    found : (is : List Interface) (o : Option Interface)
        → with_interface (asked_of c interface None) is o ≡ with_interface (asked_of d interface (Some name)) is o
    found is None = refl
    found is (Some i) = refl

    read : (r : Result (List Interface) ConfPlace) → text_read (asked_of c interface None) r ≡ text_read (asked_of d interface (Some name)) r
    read (Err place) = refl
    read (Ok is) = found is (interface_of interface is)

same_interface : (u v old new : View) (config : List ℕ) (n : Names) (seed : ℕ) (b : Burst) (x : HasBounded u v config n.interface b)
    (p : HasPlayed old new n seed) → u.bytes config ≡ old.bytes n.config → x.configured.found ≡ p.interface
same_interface u v old new config n seed b x p same =
    let both : Some x.configuration.bytes ≡ Some p.configuration.bytes = sym x.configuration.at ∙ same ∙ p.configuration.at in
    let bytes : x.configuration.bytes ≡ p.configuration.bytes = cc in
    let c : Configured = record { interfaces = p.interfaces; found = p.interface; next = None } in
    let says : Accepted x.configured ≡ Accepted c =
    sym x.configuration.says
    ∙ same_text config n.config n.interface n.arrivals x.configuration.bytes
    ∙ ap (λ (t : List ℕ). text_of (asked_of n.config n.interface (Some n.arrivals)) t) bytes
    ∙ p.configuration.says in
    let is : x.configured ≡ c = cc in
    ap (λ (y : Configured). y.found) is

pub bound_holds : ConfigurationsFit → PoliciesAreLawful → (u v old new : View) (config : List ℕ) (n : Names) (seed : ℕ) (b : Burst)
    (x : HasBounded u v config n.interface b) (p : HasPlayed old new n seed) (leaf rate : ℕ) (y : Bound) → u.bytes config ≡ old.bytes n.config
    → IsPrinted x.configured.found x.bounded.by b leaf y → rate ≤ y.rate
    → KeepsTo b leaf rate (bare_arrivals (arrivals_in (setup_of p.interface seed) p.played.records)) p.played.history
    → AllEndWithin leaf y.bound (bare_arrivals (arrivals_in (setup_of p.interface seed) p.played.records)) p.played.history
bound_holds fit law u v old new config n seed b x p leaf rate y same printed below keeps =
    let i : Interface = p.interface in
    let c : Configured = record { interfaces = p.interfaces; found = i; next = None } in
    let is : x.configured.found ≡ i = same_interface u v old new config n seed b x p same in
    let whole =
    ready_fits fit old (play_command n).asked (record { configured = c; given = Some p.given })
    (record { configured = p.configuration; given = (p.arrivals, p.read) }) in
    let z = subst (λ (k : Interface). IsBounded k x.bounded.by b leaf y) is (record { curves = x.bounded.curves; printed = printed }) in
    keeps_bound law i x.bounded.by b leaf rate seed y p.played.records p.played.history p.played.totals whole z p.played.play p.played.promises below keeps
