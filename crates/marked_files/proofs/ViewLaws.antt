-- What files tell through the wrapper, of what those behind it tell.
use Rattle.std.proofs.Common.{◌≡◌, ◌∙◌, ap, ℕ, List, [], ◌∷◌, ◌++◌, length, refl, arith, sym, subst, inl, inr}
use Rattle.std.specs.Prelude.{◌≢◌, ◌⊎◌, eqb, Bool, true, false, IsSome, None, Some}
use Rattle.std.specs.declared.option.Option.{Option}
use Rattle.std.proofs.lemmas.Bool.{ne_eqb}
use Rattle.std.proofs.lemmas.Bool.Decides.{eqb_tells}
use Rattle.std.proofs.lemmas.List.{nil_from_length}
use Rattle.altq_model.specs.declared.Placed.{Placed}
use Rattle.play_base.specs.View.{View, Everything, IsAtEnd, Keeps, Later, TellsLeft, Took, Unchanged}
use Rattle.marked_files.specs.Courses.{Course, made}
use Rattle.marked_files.specs.Markings.{Marking, given}
use Rattle.marked_files.specs.Taking.{HasRead, holds}
use Rattle.marked_files.specs.Through.{marked_view, with_marks}
use Rattle.marked_files.specs.declared.stage.Stage.{Stage}
use Rattle.marked_files.proofs.Passing.{none_stays, nothing_held}

-- another file has left what it has behind the wrapper
pub left_other : (f file : ℕ) (tells : Bool) (become : List ℕ → List ℕ) (left : Option (List ℕ)) → f ≢ file
    → with_marks (eqb f file) tells become left ≡ left
left_other f file tells become left other = ap (λ b. with_marks b tells become left) (ne_eqb f file other)

self_of : (file : ℕ) → ((eqb file file ≡ true) × (file ≡ file)) ⊎ ((eqb file file ≡ false) × (file ≢ file)) → eqb file file ≡ true
self_of file (inl h) = h.0
self_of file (inr h) = absurd (h.1 refl)

pub left_self : (file : ℕ) (tells : Bool) (become : List ℕ → List ℕ) (left : Option (List ℕ))
    → with_marks (eqb file file) tells become left ≡ with_marks true tells become left
left_self file tells become left = ap (λ b. with_marks b tells become left) (self_of file (eqb_tells file file))

some_is : (a b : List ℕ) → Some a ≡ Some b → a ≡ b
some_is a b h = cc

-- what is told to be left comes of what the file behind has left
record Behind (told : Bool) (become : List ℕ → List ℕ) (has : Option (List ℕ)) (given_all : List ℕ) : Type 0 where
  pub tells : told ≡ true
  pub own : List ℕ
  pub left : has ≡ Some own
  pub all : become own ≡ given_all

behind : (tells : Bool) (become : List ℕ → List ℕ) (left : Option (List ℕ)) (all : List ℕ) → with_marks true tells become left ≡ Some all → Behind tells become left all
behind true become (Some own) all h = record { tells = refl; own = own; left = refl; all = some_is (become own) all h }
behind true become None all h = absurd (cc)
behind false become left all h = absurd (cc)

pub told_is : (tells : Bool) (become : List ℕ → List ℕ) (left : Option (List ℕ)) (own : List ℕ) → tells ≡ true → left ≡ Some own
    → with_marks true tells become left ≡ Some (become own)
told_is tells become left own t h =
    ap (λ b. with_marks true b become left) t ∙ ap (λ o. with_marks true true become o) h

-- how a wrapper marks a file: its references to the files and to the marker, and the file
pub record Wrapper : Type 0 where
  pub files : ℕ
  pub file : ℕ
  pub marker : ℕ

-- what the files tell through it
abbrev pub seen_by : {C : Type 0} → (C → List ℕ → Placed) → Wrapper → View → Marking C → View
seen_by placed x v m = marked_view v x.files x.file x.marker (given placed m)

later_by : (x : Wrapper) (v w : View) → Later v w → {C : Type 0} (placed : C → List ℕ → Placed) (m n : Marking C) → Later (seen_by placed x v m) (seen_by placed x w n)
later_by x v w l placed m n =
    record { read = l.read; write = l.write; fixed = ap (λ (names : List ℕ). x.files ∷ x.file ∷ x.marker ∷ names) l.fixed }

-- what stays of the files behind the wrapper, of other files and names
keeps_others : {C : Type 0} (placed : C → List ℕ → Placed) (x : Wrapper) (v w : View) (m n : Marking C) → Keeps Everything (λ f. f ≢ x.file) v w
    → Keeps Everything (λ f. f ≢ x.file) (seen_by placed x v m) (seen_by placed x w n)
keeps_others placed x v w m n k = record {
  tells = k.tells;
  bytes = k.bytes;
  left = λ f p at other.
      left_other f x.file w.tells (given placed n) (w.left f) other ∙ k.left f p at other ∙ sym (left_other f x.file v.tells (given placed m) (v.left f) other);
  part = k.part;
  name = k.name;
  later = later_by x v w k.later placed m n;
}

-- bytes are given from the front of what becomes of the file's
took_own : {C : Type 0} (placed : C → List ℕ → Placed) (x : Wrapper) (v w : View) (m n : Marking C) (bytes : List ℕ) → HasRead placed v w x.file bytes m n
    → Took (seen_by placed x v m) (seen_by placed x w n) x.file bytes
took_own placed x v w m n bytes r = record {
  left = λ all h.
      let b = behind v.tells (given placed m) (v.left x.file) all (sym (left_self x.file v.tells (given placed m) (v.left x.file)) ∙ h) in
      let s = r.gave b.own b.left in (
        given placed n s.0,
        sym b.all ∙ s.2,
        left_self x.file w.tells (given placed n) (w.left x.file) ∙ told_is w.tells (given placed n) (w.left x.file) s.0 (r.took.keeps.tells ∙ b.tells) s.1,
      );
  keeps = keeps_others placed x v w m n r.took.keeps;
  none = r.took.none;
  said = r.took.said;
}

is_some_is : (o : Option (List ℕ)) → IsSome o → (x : List ℕ) × (o ≡ Some x)
is_some_is None h = absurd (cc)
is_some_is (Some x) h = (x, refl)

-- what is told of the marked file stays where the marker gives the same of it
same_left : {C : Type 0} (placed : C → List ℕ → Placed) (tells : Bool) (v w : View) (file part : ℕ) (m next : Marking C) → v.tells ≡ tells → TellsLeft v → v.part file ≡ Some part
    → HasRead placed v w file [] m next
    → with_marks true w.tells (given placed next) (w.left file) ≡ with_marks true v.tells (given placed m) (v.left file)
same_left placed false v w file part m next is told there same =
    ap (λ b. with_marks true b (given placed next) (w.left file)) (same.took.keeps.tells ∙ is) ∙ ap (λ b. with_marks true b (given placed m) (v.left file)) (sym is)
same_left placed true v w file part m next is told there same =
    let own = is_some_is (v.left file) (told file part is there) in
    let s = same.gave own.0 own.1 in
    told_is w.tells (given placed next) (w.left file) s.0 (same.took.keeps.tells ∙ is) s.1 ∙ ap Some (sym s.2)
    ∙ sym (told_is v.tells (given placed m) (v.left file) own.0 is own.1)

by_file : {C : Type 0} (placed : C → List ℕ → Placed) (x : Wrapper) (v w : View) (f part : ℕ) (m next : Marking C) → TellsLeft v → v.part f ≡ Some part
    → HasRead placed v w x.file [] m next → ((eqb f x.file ≡ true) × (f ≡ x.file)) ⊎ ((eqb f x.file ≡ false) × (f ≢ x.file))
    → (seen_by placed x w next).left f ≡ (seen_by placed x v m).left f
by_file placed x v w f part m next told there same (inl is) =
    let Q : ℕ → Type 0 = λ n. v.part n ≡ Some part in
    let P : ℕ → Type 0 = λ n. (seen_by placed x w next).left n ≡ (seen_by placed x v m).left n in
    subst P (sym is.1)
    (left_self x.file w.tells (given placed next) (w.left x.file)
    ∙ same_left placed v.tells v w x.file part m next refl told (subst Q is.1 there) same
    ∙ sym (left_self x.file v.tells (given placed m) (v.left x.file)))
by_file placed x v w f part m next told there same (inr other) = (keeps_others placed x v w m next same.took.keeps).left f part there other.1

-- a call that gave no byte left what the wrapper tells
unchanged_own : {C : Type 0} (placed : C → List ℕ → Placed) (x : Wrapper) (v w : View) (m next : Marking C) → TellsLeft v → HasRead placed v w x.file [] m next
    → Unchanged (seen_by placed x v m) (seen_by placed x w next)
unchanged_own placed x v w m next told same =
    let k = same.took.keeps in
    record {
      keeps = record {
        tells = k.tells;
        bytes = k.bytes;
        left = λ f p at all. by_file placed x v w f p m next told at same (eqb_tells f x.file);
        part = k.part;
        name = k.name;
        later = later_by x v w k.later placed m next;
      };
      none = same.took.none;
      said = same.took.said;
    }

-- of nothing comes nothing
made_nothing : (stage : Stage) (place : List ℕ → Placed) (c : Course) → made stage place c [] ≡ []
made_nothing stage place c = none_stays stage place c [] (nothing_held stage c)

nothing_given : {C : Type 0} (placed : C → List ℕ → Placed) (m : Marking C) (left : List ℕ) → m.held.ready ≡ [] → m.held.pending ≡ [] → left ≡ [] → given placed m left ≡ []
nothing_given placed m left r p l =
    ap (λ (xs : List ℕ). xs ++ made m.stage (placed m.classes) m.course (m.held.pending ++ left)) r
    ∙ ap (λ (xs : List ℕ). made m.stage (placed m.classes) m.course (xs ++ left)) p
    ∙ ap (λ (xs : List ℕ). made m.stage (placed m.classes) m.course ([] ++ xs)) l
    ∙ made_nothing m.stage (placed m.classes) m.course

-- where the file behind is at its end and no byte is held, the marked file is at its end
end_own : {C : Type 0} (placed : C → List ℕ → Placed) (x : Wrapper) (w : View) (m : Marking C) → IsAtEnd w x.file → holds m ≡ 0
    → IsAtEnd (seen_by placed x w m) x.file
end_own placed x w m ended none = λ rest h.
    let b = behind w.tells (given placed m) (w.left x.file) rest (sym (left_self x.file w.tells (given placed m) (w.left x.file)) ∙ h) in
    let ready : m.held.ready ≡ [] = nil_from_length m.held.ready (omega (arith, none)) in
    let pending : m.held.pending ≡ [] = nil_from_length m.held.pending (omega (arith, none)) in
    let own : b.own ≡ [] = nil_from_length b.own (ended b.own b.left) in
    ap length (sym b.all ∙ nothing_given placed m b.own ready pending own)

-- another file is at its end where it is so behind the wrapper
pub end_other : {C : Type 0} (placed : C → List ℕ → Placed) (x : Wrapper) (w : View) (f : ℕ) (m : Marking C) → f ≢ x.file → IsAtEnd w f
    → IsAtEnd (seen_by placed x w m) f
end_other placed x w f m other ended = λ rest h. ended rest (sym (left_other f x.file w.tells (given placed m) (w.left f) other) ∙ h)

-- what a read of the marked file does, which is asked for as `f`
pub read_took : {C : Type 0} (placed : C → List ℕ → Placed) (x : Wrapper) (v w : View) (f : ℕ) (m n : Marking C) (bytes : List ℕ) → f ≡ x.file → HasRead placed v w f bytes m n
    → Took (seen_by placed x v m) (seen_by placed x w n) f bytes
read_took placed x v w f m n bytes at r =
    subst (λ (j : ℕ). Took (seen_by placed x v m) (seen_by placed x w n) j bytes) (sym at)
    (took_own placed x v w m n bytes (subst (λ (j : ℕ). HasRead placed v w j bytes m n) at r))

pub read_ended : {C : Type 0} (placed : C → List ℕ → Placed) (x : Wrapper) (w : View) (f : ℕ) (n : Marking C) → f ≡ x.file → IsAtEnd w f × (holds n ≡ 0)
    → IsAtEnd (seen_by placed x w n) f
read_ended placed x w f n at e = subst (IsAtEnd (seen_by placed x w n)) (sym at) (end_own placed x w n (subst (IsAtEnd w) at e.0) e.1)

pub read_unchanged : {C : Type 0} (placed : C → List ℕ → Placed) (x : Wrapper) (v w : View) (f : ℕ) (m n : Marking C) → f ≡ x.file → TellsLeft v → HasRead placed v w f [] m n
    → Unchanged (seen_by placed x v m) (seen_by placed x w n)
read_unchanged placed x v w f m n at told r = unchanged_own placed x v w m n told (subst (λ (j : ℕ). HasRead placed v w j [] m n) at r)
