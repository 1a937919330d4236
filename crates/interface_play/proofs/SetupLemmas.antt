-- What was built of an interface is what is played of it.
use Rattle.std.proofs.Common.{◌≡◌, ◌∙◌, ℕ, List, Ok, Err, refl, ap, sym, subst}
use Rattle.std.specs.Prelude.{IfErr, IfOk, OnErr}
use Rattle.std.specs.declared.result.Result.{Result}
use Rattle.altq_model.specs.declared.Placed.{Placed}
use Rattle.altq_model.specs.Departures.{Dressing}
use Rattle.altq_model.specs.History.{LabelledEvent}
use Rattle.altq_model.specs.Play.{IsOneOf, Policy}
use Rattle.capture_model.specs.Capture.{Record}
use Rattle.conf_tree.specs.declared.interface.Interface.{Interface}
use Rattle.frame_classes.specs.Frames.{dress_in, place_in}
use Rattle.interface_policy.specs.Policy.{policy_of, queue_names}
use Rattle.play_base.specs.View.{View}
use Rattle.play_core.specs.declared.totals.Totals.{Totals}
use Rattle.play_text.specs.Names.{HasClass, NameList}
use Rattle.play_loop.specs.declared.fault.Limit.TheVariants as limit
use Rattle.play_loop.specs.declared.fault.Opened.{Opened}
use Rattle.play_loop.specs.declared.fault.Output.TheVariants as output
use Rattle.play_loop.specs.declared.fault.PlayFault.{PlayFault}
use Rattle.play_loop.specs.declared.fault.PlayFault.TheVariants as play
use Rattle.play_loop.specs.Played.{Explains, Fronts, HasOffered, HeadsFirst, IsStanding, LeavesStats}
use Rattle.play_loop.specs.declared.kept.KeptFate.{KeptFate}
use Rattle.play_loop.specs.Setup.{Setup}
use Rattle.play_loop.specs.Setup as loop
use Rattle.play_loop.specs.Told.{HasDecided, Tells}
use Rattle.interface_play.specs.Setup.{IsConfigured, Untold, setup_of}
use Rattle.interface_play.specs.Laws.{HaveLaws}
use Rattle.interface_play.proofs.Cited.{is_held, is_named}
use Rattle.interface_play.specs.Steps.{CameOf}

-- where nothing is told of what stands for a history
untold : (g : List LabelledEvent) → IsStanding Untold g
untold g = (g, tt, refl)

offered_untold : (x : Setup) (stood : List LabelledEvent → Type 0) (v : View) (o : Opened) (records : List Record) → HasOffered x stood v o records
    → HasOffered x Untold v o records
offered_untold x stood v o records z =
    record { history = z.history; begun = z.begun; all = z.all; last = z.last; texts = z.texts; stands = untold z.history }

explains_untold : (x : Setup) (stood : List LabelledEvent → Type 0) (u v : View) (o : Opened) (f : PlayFault) → Explains x stood u v o f → Explains x Untold u v o f
explains_untold x stood u v o (play.Capture d) h = λ told bytes l. let y = h told bytes l in (y.0, y.1, offered_untold x stood v o y.0 y.2)
explains_untold x stood u v o play.Read h = (h.0, λ told bytes l. let y = h.1 told bytes l in (y.0, y.1, offered_untold x stood v o y.0 y.2))
explains_untold x stood u v o (play.Write output.Departures) h = h
explains_untold x stood u v o (play.Write output.Fates) h = h
explains_untold x stood u v o (play.Write output.Statistics) h = h
explains_untold x stood u v o (play.Limit limit.Capture) h = λ told bytes l. let y = h told bytes l in (y.0, y.1, offered_untold x stood v o y.0 y.2)
explains_untold x stood u v o (play.Limit limit.Clock) h = λ told bytes l.
    let y = h told bytes l in
    let w = y.1 in
    let z = w.3 in (
      y.0,
      (
        w.0,
        w.1,
        w.2,
        record {
          history = z.history;
          totals = z.totals;
          play = z.play;
          texts = z.texts;
          stands = untold z.history;
          before = z.before;
          streams = z.streams;
        },
      ),
    )
explains_untold x stood u v o play.NoMemory h = tt

-- what an interface was made of, for its play
pub record IsBuilt (i : Interface) (p : Policy) (place : List ℕ → Placed) (dress : Dressing) (names : NameList) (given seed : ℕ) : Type 0 where
  pub policy : p ≡ policy_of i
  pub placed : place ≡ place_in i
  pub dressed : dress ≡ dress_in i
  pub named : names ≡ queue_names i
  pub seed_is : given ≡ seed

pub setup_is : (i : Interface) (p : Policy) (place : List ℕ → Placed) (dress : Dressing) (names : NameList) (given seed : ℕ)
    → IsBuilt i p place dress names given seed → loop.setup_of p place dress names i.rate given ≡ setup_of i seed
setup_is i p place dress names given seed b =
    ap (λ (k : ℕ). loop.setup_of p place dress names i.rate k) b.seed_is
    ∙ ap (λ (q : Policy). loop.setup_of q place dress names i.rate seed) b.policy
    ∙ ap (λ (f : List ℕ → Placed). loop.setup_of (policy_of i) f dress names i.rate seed) b.placed
    ∙ ap (λ (d : Dressing). loop.setup_of (policy_of i) (place_in i) d names i.rate seed) b.dressed
    ∙ ap (λ (l : NameList). loop.setup_of (policy_of i) (place_in i) (dress_in i) l i.rate seed) b.named

-- each frame is placed in a class of the policy, which has a name
pub held_of : (laws : HaveLaws) (i : Interface) (p : Policy) (place : List ℕ → Placed) → IsConfigured i → p ≡ policy_of i → place ≡ place_in i
    → (frame : List ℕ) → IsOneOf (place frame).class p.classes
held_of laws i p place x e f frame =
    let P : Policy → Type 0 = λ q. IsOneOf (place frame).class q.classes in
    let Q : (List ℕ → Placed) → Type 0 = λ m. IsOneOf (m frame).class (policy_of i).classes in
    subst P (sym e) (subst Q (sym f) (is_held laws i x frame))

pub named_of : (laws : HaveLaws) (i : Interface) (names : NameList) (place : List ℕ → Placed) → IsConfigured i → names ≡ queue_names i → place ≡ place_in i
    → (frame : List ℕ) → HasClass names (place frame).class
named_of laws i names place x e f frame =
    let N : NameList → Type 0 = λ l. HasClass l (place frame).class in
    let Q : (List ℕ → Placed) → Type 0 = λ m. HasClass (queue_names i) (m frame).class in
    subst N (sym e) (subst Q (sym f) (is_named laws i x frame))

-- what the loop says of what was built came of the play of the interface
pub came_built : (x y : Setup) (stands : List LabelledEvent → Type 0) (kept : List KeptFate → Type 0) (u v : View) (o : Opened) (r : Result Totals PlayFault) → x ≡ y
    → IfOk r (Tells x stands kept u v o) → IfOk r (HasDecided x kept) → IfErr r (Explains x stands u v o) → OnErr r (Fronts x u v o) → IfErr r (LeavesStats x u v o)
    → OnErr r (HeadsFirst u v o) → CameOf y stands kept o r u v
came_built x y stands kept u v o (Ok totals) e told decided why front stats heads =
    subst (λ (z : Setup). CameOf z stands kept o (Ok totals) u v) e (told, decided)
came_built x y stands kept u v o (Err fault) e told decided why front stats heads =
    subst (λ (z : Setup). CameOf z stands kept o (Err fault) u v) e (explains_untold x stands u v o fault why, front, stats, heads)
