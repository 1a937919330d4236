-- What a marker holds once it has taken bytes from a file.
use Rattle.std.proofs.Common.{◌≡◌, ◌≤◌, ◌<◌, ◌+◌, ◌∙◌, ap, ℕ, List, [], ◌++◌, length, refl, arith, sym, subst, inl, inr, append_assoc, append-nil, length-append}
use Rattle.std.specs.Prelude.{IsSome, min}
use Rattle.std.proofs.lemmas.List.{nil_from_length}
use Rattle.altq_model.specs.declared.Placed.{Placed}
use Rattle.play_base.specs.View.{View, IsAtEnd, Took, Unchanged}
use Rattle.pcap_files.proofs.ReaderLemmas.{took_unchanged}
use Rattle.play_base.proofs.ViewLaws.{took_more, took_nothing}
use Rattle.marked_files.specs.Courses.{made}
use Rattle.marked_files.specs.Markings.{Marking, given}
use Rattle.marked_files.specs.Taking.{HasAdvanced, HasGivenAll, HasRead, HasReady, HasTaken, IsStuck, KeepsGiven, holds}
use Rattle.marked_files.proofs.Advancing.{IsSame, all_ready, same_marking, with_more, with_ready}
use Rattle.marked_files.proofs.Passing.{none_stays}
use Rattle.marked_files.proofs.StandingLemmas.{same_still}

-- no byte was taken
pub keeps_taken : {C : Type 0} (placed : C → List ℕ → Placed) (v : View) (file : ℕ) (m n : Marking C) → KeepsGiven placed m n → HasTaken placed v v file m n
keeps_taken placed v file m n k = record {
  bytes = [];
  took = took_nothing v file;
  held = omega (arith, k.many);
  same = λ left at. (left, at, k.same left);
  classes = k.classes;
}

-- one after the other
pub taken_more : {C : Type 0} (placed : C → List ℕ → Placed) (u v w : View) (file : ℕ) (m n o : Marking C) → HasTaken placed u v file m n → HasTaken placed v w file n o
    → HasTaken placed u w file m o
taken_more placed u v w file m n o x y = record {
  bytes = x.bytes ++ y.bytes;
  took = took_more u v w file x.bytes y.bytes x.took y.took;
  held = omega (arith, x.held, y.held, length-append x.bytes y.bytes);
  same = λ left at.
      let s = x.same left at in
      let t = y.same s.0 s.1 in
      (t.0, t.1, t.2 ∙ s.2);
  classes = y.classes ∙ x.classes;
}

-- Bytes were taken behind those that are not ready, where none is ready.
pub record Filled {C : Type 0} (v w : View) (file : ℕ) (m n : Marking C) : Type 0 where
  pub more : List ℕ
  pub took : Took v w file more
  pub none : length m.held.ready ≡ 0
  pub came : IsSame n (with_more m more)

-- what is given of a marking by its parts
given_by : {C : Type 0} (placed : C → List ℕ → Placed) (n o : Marking C) (left : List ℕ) → IsSame n o → given placed n left ≡ given placed o left
given_by {C = C} placed n o left s = ap (λ (x : Marking C). given placed x left) (same_marking n o s)

pub filled_taken : {C : Type 0} (placed : C → List ℕ → Placed) (v w : View) (file : ℕ) (m n : Marking C) → Filled v w file m n → HasTaken placed v w file m n
filled_taken placed v w file m n f =
    let more = f.more in
    let none : m.held.ready ≡ [] = nil_from_length m.held.ready f.none in
    record {
      bytes = more;
      took = f.took;
      held = omega (arith, f.none, ap length f.came.ready, ap length f.came.pending, length-append m.held.pending more);
      same = λ left at.
          let t = f.took.left left at in (
            t.0,
            t.2,
            given_by placed n (with_more m more) t.0 f.came
                ∙ ap (λ (l : List ℕ). made m.stage (placed m.classes) m.course l) (append_assoc m.held.pending more t.0 ∙ ap (λ (l : List ℕ). m.held.pending ++ l) (sym t.1))
                ∙ ap (λ (l : List ℕ). l ++ made m.stage (placed m.classes) m.course (m.held.pending ++ left)) (sym none),
          );
      classes = f.came.classes;
    }

-- where the file is at its end, the bytes that are held are given as they are
pub ended_taken : {C : Type 0} (placed : C → List ℕ → Placed) (w : View) (file : ℕ) (m n : Marking C) → IsStuck m → IsAtEnd w file
    → IsSame n (all_ready m) → HasTaken placed w w file m n
ended_taken placed w file m n stuck ended j = record {
  bytes = [];
  took = took_nothing w file;
  held = omega (arith, ap length j.ready, ap length j.pending, length-append m.held.ready m.held.pending);
  same = λ left at.
      let none : left ≡ [] = nil_from_length left (ended left at) in (
        left,
        at,
        given_by placed n (all_ready m) left j
            ∙ append_assoc m.held.ready m.held.pending left
            ∙ ap (λ (l : List ℕ). m.held.ready ++ l)
            (ap (λ (l : List ℕ). m.held.pending ++ l) none ∙ append-nil m.held.pending ∙ sym (none_stays m.stage (placed m.classes) m.course m.held.pending stuck.none)
            ∙ ap (λ (l : List ℕ). made m.stage (placed m.classes) m.course l) (sym (append-nil m.held.pending))
            ∙ ap (λ (l : List ℕ). made m.stage (placed m.classes) m.course (m.held.pending ++ l)) (sym none)),
      );
  classes = j.classes;
}

filled_stuck : {C : Type 0} (v w : View) (file : ℕ) (m n : Marking C) → IsStuck m → (f : Filled v w file m n) → f.more ≡ [] → IsStuck n
filled_stuck v w file m n s f none =
    let same = same_still m n f.more f.came f.none (ap length none) in
    subst IsStuck (sym (same_marking n m same)) s

-- a turn of a marker: it advances, and bytes are taken
pub record Turn {C : Type 0} (placed : C → List ℕ → Placed) (v w : View) (file : ℕ) (m b n : Marking C) : Type 0 where
  pub advanced : HasAdvanced placed m b
  pub filled : Filled v w file b n

-- to a marking that the code has by its parts
pub advanced_by : {C : Type 0} (placed : C → List ℕ → Placed) (m a b : Marking C) → b ≡ a → HasAdvanced placed m a → HasAdvanced placed m b
advanced_by placed m a b is h = subst (HasAdvanced placed m) (sym is) h

pub turn_taken : {C : Type 0} (placed : C → List ℕ → Placed) (v w : View) (file : ℕ) (m b n : Marking C) → Turn placed v w file m b n → HasTaken placed v w file m n
turn_taken placed v w file m b n t =
    taken_more placed v v w file m b n (keeps_taken placed v file m b t.advanced.keeps) (filled_taken placed v w file b n t.filled)

-- one whose read failed: nothing was taken
pub record Failed {C : Type 0} (placed : C → List ℕ → Placed) (v w : View) (file : ℕ) (m b n : Marking C) : Type 0 where
  pub advanced : HasAdvanced placed m b
  pub there : IsSome (v.part file)
  pub unchanged : Unchanged v w
  pub none : length b.held.ready ≡ 0
  pub still : IsSame n (with_ready b [])

pub failed_taken : {C : Type 0} (placed : C → List ℕ → Placed) (v w : View) (file : ℕ) (m b n : Marking C) → Failed placed v w file m b n → HasTaken placed v w file m n
failed_taken placed v w file m b n f =
    let j = f.still in
    turn_taken placed v w file m b n (record {
      advanced = f.advanced;
      filled = record {
        more = [];
        took = took_unchanged v v w file [] f.there (took_nothing v file) f.unchanged;
        none = f.none;
        came = record { stage = j.stage; course = j.course; ready = j.ready; pending = j.pending ∙ sym (append-nil b.held.pending); classes = j.classes };
      };
    })

pub failed_waits : {C : Type 0} (placed : C → List ℕ → Placed) (v w : View) (file : ℕ) (m b n : Marking C) → Failed placed v w file m b n → HasGivenAll n
failed_waits placed v w file m b n f =
    subst HasGivenAll (sym (same_marking n (with_ready b []) f.still)) (record { ready = refl; none = f.advanced.stuck.none })

-- the last one, at the file's end
pub turn_ended : {C : Type 0} (placed : C → List ℕ → Placed) (v w : View) (file : ℕ) (m b n e : Marking C) → (t : Turn placed v w file m b n) → t.filled.more ≡ []
    → IsAtEnd w file → IsSame e (all_ready n) → HasTaken placed v w file m e
turn_ended placed v w file m b n e t none ended j =
    let still = filled_stuck v w file b n t.advanced.stuck t.filled none in
    taken_more placed v w w file m n e (turn_taken placed v w file m b n t) (ended_taken placed w file n e still ended j)

-- a marking of which these bytes were given
pub record Gave {C : Type 0} (m n : Marking C) (bytes : List ℕ) : Type 0 where
  pub ready : m.held.ready ≡ bytes ++ n.held.ready
  pub came : IsSame n (with_ready m n.held.ready)

pub gave_by : {C : Type 0} (w m n : Marking C) (bytes : List ℕ) → w ≡ m → Gave w n bytes → Gave m n bytes
gave_by w m n bytes is g = subst (λ x. Gave x n bytes) is g

gave_rest : {C : Type 0} (placed : C → List ℕ → Placed) (m n : Marking C) (bytes left : List ℕ) → Gave m n bytes → given placed m left ≡ bytes ++ given placed n left
gave_rest placed m n bytes left g =
    let rest = made m.stage (placed m.classes) m.course (m.held.pending ++ left) in
    ap (λ (l : List ℕ). l ++ rest) g.ready ∙ append_assoc bytes n.held.ready rest
    ∙ ap (λ (l : List ℕ). bytes ++ l) (sym (given_by placed n (with_ready m n.held.ready) left g.came))

-- what was taken, and what was given then
pub taken_read : {C : Type 0} (placed : C → List ℕ → Placed) (v w : View) (file : ℕ) (m n o : Marking C) (bytes : List ℕ) → HasTaken placed v w file m n → holds n ≤ 262160
    → Gave n o bytes → HasRead placed v w file bytes m o
taken_read placed v w file m n o bytes t room g =
    let few : holds o + length bytes ≡ holds n = omega (arith, ap length g.ready, ap length g.came.pending, length-append bytes o.held.ready) in
    record {
      taken = t.bytes;
      took = t.took;
      held = omega (arith, few, t.held);
      room = omega (arith, few, room);
      gave = λ left at.
          let s = t.same left at in
          (s.0, s.1, sym s.2 ∙ gave_rest placed n o bytes s.0 g);
      classes = g.came.classes ∙ t.classes;
    }

-- where no byte was given though one was asked for, none is left
pub none_read : {C : Type 0} (w : View) (file : ℕ) (n o : Marking C) (bytes : List ℕ) (count room : ℕ) → HasReady w file n → Gave n o bytes
    → count ≡ min (length n.held.ready) room → count ≡ 0 → 0 < room → IsAtEnd w file × (holds o ≡ 0)
none_read w file n o bytes count room (inl some) g is none asked = absurd (omega arith)
none_read w file n o bytes count room (inr ended) g is none asked =
    (ended.0, omega (arith, is, none, asked, ap length g.ready, length-append bytes o.held.ready, ap length g.came.pending, ap length ended.1))
