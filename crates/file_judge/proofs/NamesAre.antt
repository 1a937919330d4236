-- The names of the queue classes of an interface are names.
use Rattle.std.proofs.Common.{◌≡◌, ◌≤◌, ◌<◌, ◌+◌, ℕ, zero, suc, Bool, true, false, List, [], length, refl, sym, subst, arith}
use Rattle.std.specs.Prelude.{Some, slice_get}
use Rattle.std.proofs.lemmas.List.Elements.{All-nil}
use Rattle.std.proofs.Math.Seq.{take-length}
use Rattle.conf_tree.specs.declared.class.Class.{Class}
use Rattle.conf_tree.specs.declared.interface.Interface.{Interface}
use Rattle.conf_tree.specs.Family.{is_queue_class}
use Rattle.conf_laws.specs.Fit.{IsInterface}
use Rattle.conf_laws.proofs.ListPlaces.{element}
use Rattle.interface_policy.specs.Policy.{queue_names}
use Rattle.interface_policy.proofs.Named.{are_before, are_few, are_others, first_names, names_in, next_names, no_name}
use Rattle.play_text.specs.Names.{AreNames, NameList}
use Rattle.play_text.proofs.NameLemmas.{names_grow}

none_are : AreNames []
none_are = record { rising = λ i j d before inside. absurd (omega arith); named = All-nil _; different = λ i j d before inside. absurd (omega arith); few = omega arith }

one_more : (i : Interface) (n : ℕ) (c : Class) (b : Bool) → IsInterface i → n < length i.classes → slice_get i.classes n ≡ Some c
    → b ≡ is_queue_class i.kind i.classes n → AreNames (first_names i n) → AreNames (first_names i (n + 1))
one_more i n c true h low at is names =
    let P : NameList → Type 0 = λ ns. AreNames ns in
    let few = are_few i n in
    subst P (sym (next_names i n c true at is))
    (names_grow (first_names i n) n c.name names (are_before i n) (h.tree.class n c at).name (are_others i n c h at) (omega (arith, few, h.classes)))
one_more i n c false h low at is names = let P : NameList → Type 0 = λ ns. AreNames ns in subst P (sym (no_name i n low is)) names

first_are : (i : Interface) (n : ℕ) → IsInterface i → n ≤ length i.classes → AreNames (first_names i n)
first_are i zero h low = none_are
first_are i (suc n) h low =
    let c = element i.classes n (omega arith) in
    let P : ℕ → Type 0 = λ m. AreNames (first_names i m) in
    let at : n + 1 ≡ suc n = omega arith in
    subst P at (one_more i n c.0 (is_queue_class i.kind i.classes n) h (omega arith) c.1 refl (first_are i n h (omega arith)))

pub names_are : (i : Interface) → IsInterface i → AreNames (queue_names i)
names_are i h =
    let P : List Class → Type 0 = λ cs. AreNames (names_in (is_queue_class i.kind i.classes) 0 cs) in
    subst P (take-length i.classes) (first_are i (length i.classes) h (omega arith))
