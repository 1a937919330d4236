-- The texts of a play pass every test of its interface, and are at most 2^30 bytes each.
use Rattle.std.proofs.Common.{◌≡◌, ◌<◌, ◌≤◌, ◌^◌, ◌&&◌, ℕ, zero, suc, max, Bool, true, false, not, List, [], ◌∷◌, length, map, None, Some, refl, ap, arith}
use Rattle.std.specs.Prelude.{◌||◌, is_some, slice_get}
use Rattle.std.specs.List.{list_any}
use Rattle.std.specs.declared.option.Option.{Option}
use Rattle.std.proofs.lemmas.List.{length-append, length-map}
use Rattle.altq_model.specs.declared.Placed.{Placed}
use Rattle.altq_model.specs.Arrivals.{Captured, arrivals_from, arrivals_of, bare_arrivals}
use Rattle.altq_model.specs.Departures.{KeepsLength, departures}
use Rattle.altq_model.specs.History.{Decision, LabelledEvent, unlabelled, journal}
use Rattle.altq_model.specs.Lawful.{AreHeld, AreRising, IsLawful, NeverWaits}
use Rattle.altq_model.specs.Laws.{IsInTime}
use Rattle.altq_model.specs.Play.{IsOneOf, IsPlay}
use Rattle.capture_model.specs.Capture.{Record}
use Rattle.conf_laws.specs.Fit.{IsInterface, IsOfKind}
use Rattle.conf_tree.specs.declared.class.Class.{Class}
use Rattle.conf_tree.specs.declared.interface.Interface.{Interface}
use Rattle.conf_tree.specs.declared.interface.Kind.{Kind}
use Rattle.conf_tree.specs.declared.interface.Kind.TheVariants.{Hfsc, Cbq}
use Rattle.fate_check.specs.declared.reading.Row.{Row}
use Rattle.fate_check.specs.Given.{row_for, rows_for}
use Rattle.fate_check.specs.Text.{texts_of}
use Rattle.fate_check.proofs.OneLemmas.{fates_read}
use Rattle.fate_laws.specs.Plays.{bytes_of}
use Rattle.fate_laws.proofs.Departing.{departures_pass}
use Rattle.fate_laws.proofs.Passing.{busy_passes, passes_all}
use Rattle.fate_laws.proofs.Timing.{timely_passes}
use Rattle.fate_timely.specs.Timely.{curve_at, lates}
use Rattle.file_judge.specs.Given.{Given, captured_of, curve_in, curves_in, has_limit, is_hfsc, packets_in}
use Rattle.file_judge.specs.Verdict.{AreTimely, AreVerified}
use Rattle.file_judge.proofs.NamesAre.{names_are}
use Rattle.frame_classes.specs.Frames.{classes_of, dress_in, place_in}
use Rattle.frame_classes.specs.Handlings.{handling_at}
use Rattle.given_play.specs.Rights.{allowed_of}
use Rattle.hfsc_model.specs.Event.{HfscHistory}
use Rattle.hfsc_model.specs.RealTime.{curve_of, unless_zero}
use Rattle.hfsc_model.specs.Timely.{IsTimely}
use Rattle.hfsc_model.specs.Tree.{reals}
use Rattle.hfsc_policy.specs.Classes.{HaveNoLimits}
use Rattle.hfsc_policy.specs.Events.{hfsc_history}
use Rattle.hfsc_policy.proofs.Lawful.{never_waits}
use Rattle.interface_policy.specs.Classes.{hfsc_classes}
use Rattle.interface_policy.specs.Policy.{answering_of, policy_by, policy_of, queue_names}
use Rattle.interface_policy.specs.Promises.{KeepsPromises}
use Rattle.interface_policy.proofs.Promised.{policies_are_lawful}
use Rattle.journal_laws.specs.Journal.{IsJournal}
use Rattle.journal_laws.proofs.JournalLemmas.{is_busy, is_journal}
use Rattle.packet_heads.proofs.Lengths.{length-departing}
use Rattle.play_laws.proofs.AllLaws.{due_laws}
use Rattle.play_laws.proofs.ArrivalLemmas.{arrivals_held, arrivals_length, arrivals_rise}
use Rattle.play_laws.proofs.SizeLemmas.{departed_within}
use Rattle.play_laws.specs.Events.{HasLaws}
use Rattle.play_laws.specs.Sizes.{AreSized}
use Rattle.play_text.specs.Names.{HasClass, name_of}
use Rattle.play_text.specs.Texts.{fates, fates_header}
use Rattle.service_curve.specs.declared.Curve.{Curve}
use Rattle.verify_laws.proofs.Causes.{play_can_occur, play_marks}
use Rattle.verify_laws.proofs.Lengths.{rows_length}
use Rattle.verify_laws.proofs.SmallRows.{AreSmall, are_small, arrivals_told, small_are_rows}
use Rattle.verify_laws.proofs.Stamps.{AreEarly}

-- the whole play of the records of a capture by an interface of a configuration
pub record IsWholePlay (i : Interface) (seed : ℕ) (records : List Record) (g : List LabelledEvent) : Type 0 where
  pub fit : IsInterface i
  pub held : (frame : List ℕ) → IsOneOf (place_in i frame).class (policy_of i).classes
  pub named : (frame : List ℕ) → HasClass (queue_names i) (place_in i frame).class
  pub early : AreEarly records
  pub sized : AreSized records
  pub play : IsPlay (policy_of i) i.rate seed (bare_arrivals (arrivals_of (place_in i) records)) g
  pub in_time : IsInTime g
  pub promises : KeepsPromises i (bare_arrivals (arrivals_of (place_in i) records)) g

-- its texts, to be held to the interface
abbrev pub texts_given : Interface → List Record → List LabelledEvent → Given
texts_given i records g =
    let arrived = arrivals_of (place_in i) records in
    record {
      interface = i;
      records = records;
      departures = departures (dress_in i) arrived g;
      fates = fates (name_of (queue_names i)) arrived (journal g);
    }

-- THE LINK WITHOUT LIMITS
neither : (a b : Bool) → (a || b) ≡ false → (a ≡ false) × (b ≡ false)
neither true b e = absurd cc
neither false b e = (refl, e)

none_is : (o : Option Curve) → is_some o ≡ false → o ≡ None
none_is None e = refl
none_is (Some s) e = absurd cc

no_limits : (classes : List Class) → list_any has_limit classes ≡ false → HaveNoLimits (hfsc_classes classes)
no_limits [] e c = refl
no_limits (k ∷ classes) e zero = none_is k.upper (neither (is_some k.upper) (list_any has_limit classes) e).0
no_limits (k ∷ classes) e (suc c) = no_limits classes (neither (is_some k.upper) (list_any has_limit classes) e).1 c

not_true : (b : Bool) → not b ≡ true → b ≡ false
not_true true e = absurd cc
not_true false e = refl

policy_never_waits : (kind : Kind) (i : Interface) → (is_hfsc kind && not (list_any has_limit i.classes)) ≡ true → NeverWaits (policy_by kind i)
policy_never_waits Hfsc i e = never_waits (hfsc_classes i.classes) (answering_of i) (no_limits i.classes (not_true (list_any has_limit i.classes) e))
policy_never_waits Cbq i e = absurd cc

-- DUE MOMENTS
same_curves : (classes : List Class) (c : ℕ) → curve_at (map curve_in classes) c ≡ curve_of (reals (hfsc_classes classes)) c
same_curves [] c = refl
same_curves (k ∷ classes) zero = refl
same_curves (k ∷ classes) (suc c) = same_curves classes c

no_real : (kind : Kind) (c : Class) → kind ≡ Cbq → IsOfKind kind c → c.real ≡ None
no_real Hfsc c e own = absurd cc
no_real Cbq c e own = own.real

no_curves : (classes : List Class) → ((k : ℕ) (c : Class) → slice_get classes k ≡ Some c → c.real ≡ None) → (c : ℕ)
    → curve_at (map curve_in classes) c ≡ curve_of [] c
no_curves [] none c = refl
no_curves (k ∷ classes) none zero = ap unless_zero (none 0 k refl)
no_curves (k ∷ classes) none (suc c) = no_curves classes (λ n x at. none (suc n) x at) c

-- without curves all packets are in time
none_timely : (rate : ℕ) (h : HfscHistory) → IsTimely rate [] h
none_timely rate h c s e = absurd cc

-- THE TESTS
-- what every play of it keeps
record Keeps (i : Interface) (seed : ℕ) (records : List Record) (g : List LabelledEvent) : Type 0 where
  some : 0 < i.rate
  lawful : IsLawful (policy_of i)
  rising : AreRising (bare_arrivals (arrivals_of (place_in i) records))
  held : AreHeld (policy_of i) (bare_arrivals (arrivals_of (place_in i) records))
  laws : HasLaws (policy_of i) i.rate seed (bare_arrivals (arrivals_of (place_in i) records)) g
  small : AreSmall (queue_names i) (rows_for (arrivals_of (place_in i) records) (journal g))

keeps : (i : Interface) (seed : ℕ) (records : List Record) (g : List LabelledEvent) → IsWholePlay i seed records g → Keeps i seed records g
keeps i seed records g x =
    let arrived : List Captured = arrivals_of (place_in i) records in
    let least = x.fit.rate.0 in
    let some : 0 < i.rate = omega (arith, least) in
    let lawful = policies_are_lawful i x.fit in
    let rising = arrivals_rise (place_in i) records in
    let laws = due_laws (policy_of i) i.rate seed (bare_arrivals arrived) g some lawful rising x.play.events in
    let long = arrivals_length (place_in i) records in
    let few = x.sized.count in
    let told = arrivals_told (queue_names i) (place_in i) records x.named x.early x.sized.each (omega (arith, long, few)) in
    record {
      some = some;
      lawful = lawful;
      rising = rising;
      held = arrivals_held (policy_of i) (place_in i) records x.held;
      laws = laws;
      small = are_small (policy_of i) i.rate seed (queue_names i) arrived g some told laws.each laws.of_arrivals x.in_time;
    }

frames_from : (place : List ℕ → Placed) (latest : ℕ) (records : List Record) → map captured_of records ≡ map bytes_of (arrivals_from place latest records)
frames_from place latest [] = refl
frames_from place latest (r ∷ rs) = ap (λ (fs : List (List ℕ)). r.captured ∷ fs) (frames_from place (max latest r.stamp) rs)

timely_by : (kind : Kind) (i : Interface) (seed : ℕ) (records : List Record) (g : List LabelledEvent) → i.kind ≡ kind → IsWholePlay i seed records g
    → Keeps i seed records g → AreTimely i (rows_for (arrivals_of (place_in i) records) (journal g))
timely_by Hfsc i seed records g e x k = λ fits.
    let arrived : List Captured = arrivals_of (place_in i) records in
    timely_passes (policy_of i) i.rate seed (reals (hfsc_classes i.classes)) (curves_in i) arrived g k.some k.laws (same_curves i.classes)
    ((x.promises.hfsc e).timely fits)
timely_by Cbq i seed records g e x k = λ fits.
    let arrived : List Captured = arrivals_of (place_in i) records in
    timely_passes (policy_of i) i.rate seed [] (curves_in i) arrived g k.some k.laws
    (no_curves i.classes (λ n c at. no_real i.kind c e (x.fit.tree.class n c at).own)) (none_timely i.rate (hfsc_history (unlabelled g)))

pub play_passes : (i : Interface) (seed : ℕ) (records : List Record) (g : List LabelledEvent) → IsWholePlay i seed records g
    → AreVerified (texts_given i records g) (lates (curves_in i) (rows_for (arrivals_of (place_in i) records) (journal g)))
play_passes i seed records g x =
    let arrived : List Captured = arrivals_of (place_in i) records in
    let js : List Decision = journal g in
    let k = keeps i seed records g x in
    let whole : IsJournal i.rate (bare_arrivals arrived) js =
    is_journal (policy_of i) i.rate seed (bare_arrivals arrived) g k.some k.lawful k.rising k.held x.play in
    record {
      rows = rows_for arrived js;
      passed = record {
        read = fates_read (queue_names i) arrived js (small_are_rows (queue_names i) (rows_for arrived js) k.small);
        order = passes_all i.rate (allowed_of i) arrived js whole (play_can_occur i seed (bare_arrivals arrived) g x.fit k.rising k.held x.play.events);
        busy = λ free. busy_passes arrived js
            (is_busy (policy_of i) i.rate seed (bare_arrivals arrived) g k.some k.lawful (policy_never_waits i.kind i free) k.rising k.held x.play.events);
        departures = departures_pass (dress_in i) (packets_in (texts_given i records g)) arrived g (frames_from (place_in i) 0 records) x.in_time
            (play_marks i seed arrived (packets_in (texts_given i records g)) g x.fit k.rising k.held x.play.events refl refl);
        timely = timely_by i.kind i seed records g refl x k;
      };
      late = refl;
    }

-- THE LENGTHS
pub departures_short : (i : Interface) (seed : ℕ) (records : List Record) (g : List LabelledEvent) → IsWholePlay i seed records g
    → length (texts_given i records g).departures ≤ 2 ^ 30
departures_short i seed records g x =
    let k = keeps i seed records g x in
    let keeps_length : KeepsLength (dress_in i) = λ class marked frame. length-departing (handling_at (classes_of i).handlings class).clears marked frame in
    (departed_within (dress_in i) (place_in i) records (policy_of i) i.rate seed g keeps_length x.sized k.laws x.in_time).size

pub fates_short : (i : Interface) (seed : ℕ) (records : List Record) (g : List LabelledEvent) → IsWholePlay i seed records g
    → length (texts_given i records g).fates ≤ 2 ^ 30
fates_short i seed records g x =
    let arrived : List Captured = arrivals_of (place_in i) records in
    let names = queue_names i in
    let rows : List Row = rows_for arrived (journal g) in
    let k = keeps i seed records g x in
    let text = (fates_read names arrived (journal g) (small_are_rows names rows k.small)).whole in
    let all = rows_length names rows (names_are i x.fit) k.small in
    let count : length rows ≡ length (journal g) = length-map (journal g) (row_for arrived) in
    let few = k.laws.few in
    let came = k.laws.came in
    let long = arrivals_length (place_in i) records in
    let most = x.sized.count in
    omega (arith, ap (length {A = ℕ}) text, length-append fates_header (texts_of names rows), all, count, few, came, long, most)
