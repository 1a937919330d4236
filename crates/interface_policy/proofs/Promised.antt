-- The policy of an interface is lawful, and its plays keep what it promises.
use Rattle.std.proofs.Common.{◌≡◌, ◌≤◌, ◌<◌, ◌++◌, ℕ, zero, suc, false, List, [], ◌∷◌, Some, refl, ap, subst, arith}
use Rattle.std.specs.Prelude.{slice_get}
use Rattle.altq_model.specs.History.{Arrival, Event, LabelledEvent, Offered, Sent, Sending, unlabelled}
use Rattle.altq_model.specs.Lawful.{AreHeld, AreRising, IsLawful}
use Rattle.altq_model.specs.Play.{AreDue, Policy}
use Rattle.altq_model.specs.Policies.{Answering}
use Rattle.play_laws.proofs.AllLaws.{due_laws}
use Rattle.play_laws.proofs.IdleLemmas.{never_idles}
use Rattle.conf_laws.specs.Fit.{IsInterface, IsOfKind}
use Rattle.conf_tree.specs.declared.class.Class.{Class}
use Rattle.conf_tree.specs.declared.interface.Interface.{Interface}
use Rattle.conf_tree.specs.declared.interface.Kind.{Kind}
use Rattle.conf_tree.specs.declared.interface.Kind.TheVariants.{Hfsc, Cbq}
use Rattle.hfsc_model.specs.declared.HfscClass.{HfscClass}
use Rattle.hfsc_policy.specs.Classes.{IsClassTree}
use Rattle.hfsc_policy.specs.Heads.{AreSized}
use Rattle.hfsc_policy.specs.Policy.{hfsc_policy}
use Rattle.hfsc_policy.proofs.Lawful.{lawful, never_waits}
use Rattle.hfsc_policy.proofs.Plays.{play_timely}
use Rattle.cbq_model.specs.declared.CbqClass.{CbqClass}
use Rattle.cbq_model.specs.Capped.{AreSendings, KeepsItsRate}
use Rattle.cbq_model.specs.Rounds.{cbq}
use Rattle.cbq_model.specs.Tree.{class_of, is_root}
use Rattle.cbq_model.proofs.Capped.{keeps_its_rate}
use Rattle.cbq_model.proofs.Lawful.{cbq_lawful}
use Rattle.cbq_model.proofs.PlayedSendings.{played}
use Rattle.cbq_rounds.specs.Kept.{IsOwnStretch}
use Rattle.cbq_rounds.proofs.Keeping.{sendings_before}
use Rattle.interface_policy.specs.Classes.{cbq_class, cbq_classes, hfsc_classes}
use Rattle.interface_policy.specs.Policy.{answering_of, policy_by, policy_of}
use Rattle.interface_policy.specs.Promises.{KeepsHfsc, KeepsPromises}
use Rattle.interface_policy.proofs.PromisedEnds.{their_ends}
use Rattle.interface_policy.proofs.PromisedSums.{fit_link}
use Rattle.interface_policy.proofs.Trees.{class_tree}

some_rate : (i : Interface) → IsInterface i → 0 < i.rate
some_rate i fit = let least = fit.rate.0 in omega (arith, least)

lawful_by : (k : Kind) (i : Interface) → IsInterface i → i.kind ≡ k → IsLawful (policy_by k i)
lawful_by Hfsc i fit e = lawful (hfsc_classes i.classes) (answering_of i) (class_tree i fit e)
lawful_by Cbq i fit e = cbq_lawful (cbq_classes i.classes) i.rate (answering_of i) (some_rate i fit)

pub policies_are_lawful : (i : Interface) → IsInterface i → IsLawful (policy_of i)
policies_are_lawful i fit = lawful_by i.kind i fit refl

-- a play of an interface, of this kind
record IsPlayed (k : Kind) (i : Interface) (seed : ℕ) (arrived : List Arrival) (g : List LabelledEvent) : Type 0 where
  fit : IsInterface i
  kind : i.kind ≡ k
  rising : AreRising arrived
  sized : AreSized arrived
  held : AreHeld (policy_by k i) arrived
  due : AreDue (policy_by k i) i.rate seed arrived g

played_as : (k : Kind) (i : Interface) (seed : ℕ) (arrived : List Arrival) (g : List LabelledEvent) → IsInterface i → i.kind ≡ k → AreRising arrived
    → AreSized arrived → AreHeld (policy_of i) arrived → AreDue (policy_of i) i.rate seed arrived g → IsPlayed k i seed arrived g
played_as k i seed arrived g fit e rising sized held due =
    let is : policy_of i ≡ policy_by k i = ap (λ (x : Kind). policy_by x i) e in record {
      fit = fit;
      kind = e;
      rising = rising;
      sized = sized;
      held = subst (λ (p : Policy). AreHeld p arrived) is held;
      due = subst (λ (p : Policy). AreDue p i.rate seed arrived g) is due;
    }

keeps_hfsc : (i : Interface) (seed : ℕ) (arrived : List Arrival) (g : List LabelledEvent) → IsPlayed Hfsc i seed arrived g → KeepsHfsc i arrived g
keeps_hfsc i seed arrived g p =
    let cs : List HfscClass = hfsc_classes i.classes in
    let answer : Answering = answering_of i in
    let tree : IsClassTree cs = class_tree i p.fit p.kind in
    let some = some_rate i p.fit in record {
      never_idles = λ none.
          never_idles (hfsc_policy cs answer) i.rate seed arrived g some (lawful cs answer tree) (never_waits cs answer none) p.rising p.held p.due;
      ends = their_ends i.rate (unlabelled g) some (due_laws (hfsc_policy cs answer) i.rate seed arrived g some (lawful cs answer tree) p.rising p.due).ends;
      timely = λ fits. play_timely cs answer i.rate seed arrived some tree p.sized g p.rising p.due (fit_link i fits);
    }

-- a class that is not the root is one of the interface, and has a rate
record IsThere (cs : List Class) (c : ℕ) : Type 0 where
  class : Class
  at : slice_get cs c ≡ Some class
  is : class_of (cbq_classes cs) c ≡ cbq_class class

is_there : (cs : List Class) (c : ℕ) → is_root (cbq_classes cs) c ≡ false → IsThere cs c
is_there [] c e = absurd (cc)
is_there (k ∷ cs) zero e = record { class = k; at = refl; is = refl }
is_there (k ∷ cs) (suc c) e = let x = is_there cs c e in record { class = x.class; at = x.at; is = x.is }

least_rate : (k : Kind) (c : Class) → k ≡ Cbq → IsOfKind k c → 1000 ≤ c.rate
least_rate Hfsc c e own = absurd (cc)
least_rate Cbq c e own = own.rate.0

own_rate : (i : Interface) (c : ℕ) → IsInterface i → i.kind ≡ Cbq → is_root (cbq_classes i.classes) c ≡ false
    → 0 < (class_of (cbq_classes i.classes) c).rate
own_rate i c fit e below =
    let x = is_there i.classes c below in
    let least = least_rate i.kind x.class e (fit.tree.class c x.class x.at).own in
    let is : (class_of (cbq_classes i.classes) c).rate ≡ x.class.rate = ap (λ (k : CbqClass). k.rate) x.is in
    omega (arith, least, is)

capped : (i : Interface) (seed : ℕ) (arrived : List Arrival) (g : List LabelledEvent) (c : ℕ) (last : Sending) (between : List Event)
    (first : Sending) → IsPlayed Cbq i seed arrived g → IsOwnStretch (cbq_classes i.classes) c (unlabelled g) last between first
    → KeepsItsRate (cbq_classes i.classes) c last between first
capped i seed arrived g c last between first p s =
    let cs : List CbqClass = cbq_classes i.classes in
    let some = some_rate i p.fit in
    let all : AreSendings cs i.rate (unlabelled g) = played cs i.rate seed (answering_of i) arrived g some p.rising p.due in
    let here : List Event = Sent last ∷ between ++ Sent first ∷ s.before in
    keeps_its_rate cs i.rate c last between first s.before some (own_rate i c p.fit p.kind s.bottom.below) (record {
      sendings = sendings_before cs i.rate s.after here (subst (λ (h : List Event). AreSendings cs i.rate h) s.all all);
      bottom = s.bottom;
      of_last = s.of_last;
      of_first = s.of_first;
      own = s.own;
    })

pub plays_keep_promises : (i : Interface) → IsInterface i → (seed : ℕ) (arrived : List Arrival) (g : List LabelledEvent) → AreRising arrived
    → AreSized arrived → AreHeld (policy_of i) arrived → AreDue (policy_of i) i.rate seed arrived g → KeepsPromises i arrived g
plays_keep_promises i fit seed arrived g rising sized held due = record {
  hfsc = λ e. keeps_hfsc i seed arrived g (played_as Hfsc i seed arrived g fit e rising sized held due);
  cbq = λ e.
      let p = played_as Cbq i seed arrived g fit e rising sized held due in record {
        capped = λ c last between first s. capped i seed arrived g c last between first p s;
      };
}
