-- A file that was opened, and read to its end or not.
use Rattle.std.proofs.Common.{◌≡◌, ◌≤◌, ◌<◌, ◌^◌, ◌++◌, ◌∙◌, ◌⊎◌, inl, inr, ℕ, List, [], length, length-append, None, Some, ap, refl, arith, append-nil}
use Rattle.std.specs.Prelude.{IsSome, IsTrue}
use Rattle.std.specs.declared.option.Option.{Option}
use Rattle.std.proofs.lemmas.List.{nil_from_length}
use Rattle.conf_tree.specs.declared.interface.Interface.{Interface}
use Rattle.file_plans.specs.declared.part.Part.{Part}
use Rattle.file_plans.specs.Parts.{part_number}
use Rattle.given_fates.specs.Fates.{HasFates}
use Rattle.given_fates.specs.declared.fates.Fates.{Fates}
use Rattle.interface_policy.specs.Policy.{queue_names}
use Rattle.play_base.specs.View.{View, IsAtEnd, IsMissed, Opened, ReadFault, Rose, Took}
use Rattle.play_base.specs.declared.trouble.Trouble.{Trouble}
use Rattle.play_base.specs.declared.trouble.Trouble.TheVariants as trouble
use Rattle.play_base.proofs.ViewLaws.{rose_later}
use Rattle.run_inputs.specs.Meets.{CannotRead}
use Rattle.verify_command.specs.Reading.{FileCauses, HoldsFates, read_failure}
use Rattle.verify_command.specs.Verifying.{Holds, IsLong}

there_is : (o : Option (List ℕ)) → IsSome o → (bytes : List ℕ) × (o ≡ Some bytes)
there_is None h = cc
there_is (Some bytes) h = (bytes, refl)

-- the bytes that were left are those under the name
record WasLeft (a b : View) (name : List ℕ) (file : ℕ) : Type 0 where
  pub bytes : List ℕ
  pub at : a.bytes name ≡ Some bytes
  pub left : b.left file ≡ Some bytes

was_left : (a b : View) (part : ℕ) (name : List ℕ) (file : ℕ) → Opened a b part name file → IsTrue a.tells → WasLeft a b name file
was_left a b part name file x t =
    let l = x.left t in
    let s = there_is (a.bytes name) l.0 in
    record { bytes = s.0; at = s.1; left = l.1 ∙ s.1 }

pub whole_of : (a b c : View) (part : ℕ) (name : List ℕ) (file : ℕ) (all : List ℕ) → Opened a b part name file → Took b c file all → IsAtEnd c file
    → length all ≤ 2 ^ 30 → IsTrue a.tells → Holds a name all
whole_of a b c part name file all x took end short t =
    let s = was_left a b part name file x t in
    let y = took.left s.bytes s.left in
    let none : y.0 ≡ [] = nil_from_length y.0 (end y.0 y.2) in
    record { at = s.at ∙ ap Some (y.1 ∙ ap (λ (r : List ℕ). all ++ r) none ∙ append-nil all); short = short }

pub long_of : (a b c : View) (part : ℕ) (name : List ℕ) (file : ℕ) (all : List ℕ) → Opened a b part name file → Took b c file all
    → 2 ^ 30 < length all → IsTrue a.tells → IsLong a name
long_of a b c part name file all x took long t =
    let s = was_left a b part name file x t in
    let y = took.left s.bytes s.left in
    record { bytes = s.bytes; at = s.at; long = omega (arith, long, ap length y.1, length-append all y.0) }

-- and what holds of all that was left holds of the bytes under the name
pub held_fates : (a b : View) (i : Interface) (part : ℕ) (name : List ℕ) (file : ℕ) (fates : Fates) → Opened a b part name file
    → ((text : List ℕ) → b.left file ≡ Some text → HasFates (queue_names i) text fates) → ((text : List ℕ) → b.left file ≡ Some text → length text ≤ 2 ^ 30)
    → IsTrue a.tells → HoldsFates a i name fates
held_fates a b i part name file fates x has short t =
    let s = was_left a b part name file x t in
    record { text = s.bytes; at = s.at; short = short s.bytes s.left; has = has s.bytes s.left }

pub long_left : (a b : View) (part : ℕ) (name : List ℕ) (file : ℕ) → Opened a b part name file
    → ((text : List ℕ) → b.left file ≡ Some text → 2 ^ 30 < length text) → IsTrue a.tells → IsLong a name
long_left a b part name file x long t =
    let s = was_left a b part name file x t in
    record { bytes = s.bytes; at = s.at; long = long s.bytes s.left }

-- why it was not opened, and why not read
pub unopened : (a b : View) (part : Part) (name : List ℕ) (t : Trouble)
    → (t ≡ trouble.Failed → Rose (a.read_faults (part_number part)) (b.read_faults (part_number part)) ⊎ IsMissed a b name)
    → FileCauses a b part name (read_failure part t)
unopened a b part name trouble.Failed h = (refl, by (h refl))
  where
    by : Rose (a.read_faults (part_number part)) (b.read_faults (part_number part)) ⊎ IsMissed a b name → CannotRead a b part name
    by (inl r) = inl r
    by (inr m) = inr m.0
unopened a b part name trouble.NoMemory h = tt

pub unread : (a b c : View) (part : Part) (name : List ℕ) (file : ℕ) → Opened a b (part_number part) name file → ReadFault b c file → CannotRead a c part name
unread a b c part name file x r =
    inl (rose_later _ _ _ (x.keeps.later.read (part_number part)) (r (part_number part) x.is_new.part))

pub unread_trouble : (a b c : View) (part : Part) (name : List ℕ) (file : ℕ) (t : Trouble) → Opened a b (part_number part) name file
    → (t ≡ trouble.Failed → ReadFault b c file) → FileCauses a c part name (read_failure part t)
unread_trouble a b c part name file trouble.Failed x h = (refl, unread a b c part name file x (h refl))
unread_trouble a b c part name file trouble.NoMemory x h = tt
