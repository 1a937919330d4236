-- The lines of what was watched are those of the play.
use Rattle.std.proofs.Common.{◌≡◌, ◌≤◌, ◌∙◌, ℕ, zero, suc, List, [], ◌∷◌, None, Some, ap, refl, subst, sym}
use Rattle.std.specs.Prelude.{Option, option_map, slice_get}
use Rattle.altq_model.specs.History.{Event}
use Rattle.service_curve.specs.declared.Curve.{Curve}
use Rattle.conf_laws.specs.Fit.{IsCurveIfAny, IsHfscClass, IsInterface, IsOfKind}
use Rattle.conf_laws.specs.Laws.{ConfigurationsFit}
use Rattle.conf_tree.specs.declared.class.Class.{Class}
use Rattle.conf_tree.specs.declared.interface.Interface.{Interface}
use Rattle.conf_tree.specs.declared.interface.Kind.{Kind}
use Rattle.conf_tree.specs.declared.interface.Kind.TheVariants.{Hfsc, Cbq}
use Rattle.hfsc_model.specs.declared.HfscClass.{HfscClass}
use Rattle.hfsc_model.specs.Event.{HfscHistory}
use Rattle.hfsc_model.specs.Tree.{class_of}
use Rattle.hfsc_order.specs.Order.{HaveSlopes}
use Rattle.hfsc_policy.specs.Classes.{IsClassTree}
use Rattle.hfsc_policy.specs.Events.{hfsc_history}
use Rattle.interface_play.specs.Setup.{IsConfigured}
use Rattle.interface_policy.specs.Classes.{hfsc_classes}
use Rattle.interface_policy.proofs.Trees.{class_tree}
use Rattle.share_gaps.specs.declared.siblings.Siblings.{Siblings}
use Rattle.share_gaps.specs.Rows.{rows}
use Rattle.share_gaps.specs.Watching.{gap_after}
use Rattle.share_report.specs.Report.{IsGapOf, IsWithinBound, gaps_after}
use Rattle.shares_command.specs.Lines.{gap_lines}
use Rattle.shares_command.specs.Measured.{lines_by}
use Rattle.shares_command.specs.Measuring.{AreLinesOf}

-- the second slope of each link-sharing curve is at least 1
slope_of : (o : Option Curve) (s : Curve) → IsCurveIfAny 0 1 o → o ≡ Some s → 1 ≤ s.m2
slope_of None s x e = absurd cc
slope_of (Some k) s x e = let same : k ≡ s = cc in let low = x.second.0 in subst (λ (y : Curve). 1 ≤ y.m2) same low

slope_at : (classes : List Class) (c : ℕ) (s : Curve) → ((k : ℕ) (x : Class) → slice_get classes k ≡ Some x → IsHfscClass x)
    → (class_of (hfsc_classes classes) c).share ≡ Some s → 1 ≤ s.m2
slope_at [] c s own e = absurd cc
slope_at (x ∷ xs) zero s own e = slope_of x.share s (own 0 x refl).share e
slope_at (x ∷ xs) (suc c) s own e = slope_at xs c s (λ k. own (suc k)) e

have_slopes : (i : Interface) → IsInterface i → i.kind ≡ Hfsc → HaveSlopes (hfsc_classes i.classes)
have_slopes i fit e = λ c s has f. slope_at i.classes c s (λ k x at. subst (λ (z : Kind). IsOfKind z x) e (fit.tree.class k x at).own) f

pub tree_over : (i : Interface) (cs : List HfscClass) → IsInterface i → i.kind ≡ Hfsc → cs ≡ hfsc_classes i.classes → IsClassTree cs
tree_over i cs fit e same = subst IsClassTree (sym same) (class_tree i fit e)

-- the lines of HFSC
pub lines_of : (i : Interface) (cs : List HfscClass) (events : List Event) (text : List ℕ) → IsInterface i → i.kind ≡ Hfsc → cs ≡ hfsc_classes i.classes
    → text ≡ gap_lines i.classes (gaps_after cs (hfsc_history events)) → ((ks : List HfscClass) (g : HfscHistory) (s : Siblings) → IsGapOf ks g s (gap_after ks g s))
    → (HaveSlopes cs → (row : ℕ) → IsWithinBound (option_map (gap_after cs (hfsc_history events)) (slice_get (rows cs) row))) → AreLinesOf i events text
lines_of i cs events text fit kind same is greatest within =
    let h = hfsc_history events in
    let P : Kind → Type 0 = λ k. text ≡ lines_by k i.classes h in
    let Q : List HfscClass → Type 0 = λ ks. HaveSlopes ks → (row : ℕ) → IsWithinBound (option_map (gap_after ks h) (slice_get (rows ks) row)) in
    record {
      lines = subst P (sym kind) (is ∙ ap (λ (ks : List HfscClass). gap_lines i.classes (gaps_after ks h)) same);
      fair = λ e. record { greatest = greatest (hfsc_classes i.classes) h; within = subst Q same within (have_slopes i fit kind) };
    }

-- of CBQ there are none
pub no_lines : (i : Interface) (events : List Event) (text : List ℕ) → i.kind ≡ Cbq → text ≡ [] → AreLinesOf i events text
no_lines i events text e f =
    let P : Kind → Type 0 = λ k. text ≡ lines_by k i.classes (hfsc_history events) in
    record { lines = subst P (sym e) f; fair = λ g. absurd (cc) }

-- the numbers of an interface that is configured are in their ranges
pub fits : (i : Interface) → ConfigurationsFit → IsConfigured i → IsInterface i
fits i fit x = (fit x.text x.interfaces x.read).interface x.place i x.at
