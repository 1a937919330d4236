-- A file of the inputs is opened and read.
use Rattle.std.proofs.Common.{◌≡◌, ◌≤◌, ◌<◌, ◌+◌, ◌∙◌, ◌⊎◌, ◌++◌, ℕ, List, [], ◌∷◌, Option, None, Some, ap, sym, refl, subst, inl, inr, arith, length, length-append, append-nil}
use Rattle.std.specs.Prelude.{IsSome, IsTrue, Vec}
use Rattle.std.proofs.lemmas.List.{nil_from_length}
use Rattle.std.specs.declared.alloc.Global.{Global}
use Rattle.arrivals_front.specs.Taking.{Gained, TookUpTo}
use Rattle.file_plans.specs.Came.{Came, CameAlong, IsReady, IsRefused}
use Rattle.file_plans.specs.declared.part.Part.{Part}
use Rattle.file_plans.specs.declared.part.Part.TheVariants as part
use Rattle.file_plans.specs.End.{TookFew, most_configuration}
use Rattle.file_plans.specs.Parts.{part_number}
use Rattle.file_plans.specs.Plan.{Place, read_place}
use Rattle.file_plans.proofs.CameLaws.{came_none, came_took, came_unchanged, none_some, same_part}
use Rattle.file_plans.proofs.EndLaws.{came_all, came_some}
use Rattle.play_base.specs.View.{View, Everything, IsAtEnd, Keeps, ReadFault, Took, Unchanged}
use Rattle.play_base.specs.declared.trouble.Trouble.{Trouble}
use Rattle.play_base.specs.declared.trouble.Trouble.TheVariants as trouble
use Rattle.play_base.proofs.ViewLaws.{rose_later}
use Rattle.run_inputs.specs.Had.{IsUnready}
use Rattle.run_inputs.specs.Meets.{CannotRead}
use Rattle.run_inputs.specs.Reading.{IsReadAlone, IsWhole, unread}
use Rattle.run_inputs.specs.Says.{Asked, TextSays, TooLong}
use Rattle.run_inputs.specs.declared.stop.Stop.TheVariants as stop
use Rattle.run_inputs.proofs.TextLemmas.{long_says}

pub some_bytes : (o : Option (List ℕ)) → IsSome o → (xs : List ℕ) × (o ≡ Some xs)
some_bytes None h = cc
some_bytes (Some xs) h = (xs, refl)

pub alone_none : (e : Place) (a b : View) → Unchanged a b → IsReadAlone e a b
alone_none e a b u = record {
  along = came_some [] (e ∷ []) [] a b (came_unchanged [] [] a a b (came_none a) u);
  keeps = u.keeps;
  only = λ f p fresh at. absurd (none_some p (sym (u.none f fresh) ∙ at));
  said = u.said;
}

-- what a file that is opened and read leaves
pub one_only : (p : Part) (name : List ℕ) (file : ℕ) (a c : View) → Came (read_place p name ∷ []) (file ∷ []) a c → (f q : ℕ) → a.part f ≡ None
    → c.part f ≡ Some q → (f ≡ file) × (q ≡ part_number p)
one_only p name file a c x f q fresh at = by (x.only f q fresh at)
  where
    by : (f ≡ file) ⊎ ⊥ → (f ≡ file) × (q ≡ part_number p)
    by (inl s) = (s, same_part q (part_number p) (sym at ∙ ap c.part s ∙ x.are.0.part))
    by (inr h) = absurd h

pub one_keeps : (p : Part) (name : List ℕ) (file : ℕ) (a c : View) → Came (read_place p name ∷ []) (file ∷ []) a c → Keeps Everything Everything a c
one_keeps p name file a c x = record {
  tells = x.keeps.tells;
  bytes = λ m _. x.keeps.bytes m (tt, tt);
  left = λ f q e _. x.keeps.left f q e (tt, tt);
  part = x.keeps.part;
  name = x.keeps.name;
  later = x.keeps.later;
}

pub one_took : (p : Part) (name : List ℕ) (file : ℕ) (bytes : List ℕ) (a b c : View) → Came (read_place p name ∷ []) (file ∷ []) a b → Took b c file bytes
    → Came (read_place p name ∷ []) (file ∷ []) a c
one_took p name file bytes a b c x t = came_took (read_place p name ∷ []) (file ∷ []) a b c file bytes (inl refl) x t

pub alone_took : (p : Part) (name : List ℕ) (file : ℕ) (bytes : List ℕ) (a b c : View) → Came (read_place p name ∷ []) (file ∷ []) a b → b.said ≡ a.said
    → Took b c file bytes → IsReadAlone (read_place p name) a c
alone_took p name file bytes a b c x s t =
    let y = one_took p name file bytes a b c x t in
    record {
      along = came_all (read_place p name ∷ []) (file ∷ []) a c y;
      keeps = one_keeps p name file a c y;
      only = λ f q fresh at. (one_only p name file a c y f q fresh at).1;
      said = t.said ∙ s;
    }

-- the name is not there, or a read fails
pub cannot_open : (p : Part) (name : List ℕ) (a b : View) → Unchanged a b → IsRefused a b (read_place p name) → CannotRead a b p name
cannot_open p name a b u (inl r) = inl r
cannot_open p name a b u (inr m) = inr (sym u.keeps.tells ∙ m.0.0, sym (u.keeps.bytes name tt) ∙ m.0.1)

pub cannot_take : (p : Part) (name : List ℕ) (file : ℕ) (a b c : View) → Came (read_place p name ∷ []) (file ∷ []) a b → ReadFault b c file → CannotRead a c p name
cannot_take p name file a b c x r =
    inl (rose_later (a.read_faults (part_number p)) (b.read_faults (part_number p)) (c.read_faults (part_number p)) (x.keeps.later.read (part_number p))
    (r (part_number p) x.are.0.part))

-- THE CONFIGURATION'S TEXT
few_by : (all bytes rest : List ℕ) → all ≡ bytes ++ rest → length bytes ≤ most_configuration + 1 → length all ≤ most_configuration + 1 + length rest
few_by all bytes rest e h = let l : length all ≡ length bytes + length rest = ap length e ∙ length-append bytes rest in omega (arith, l, h)

pub few_took : (name : List ℕ) (file : ℕ) (a b c : View) → Came (read_place part.Configuration name ∷ []) (file ∷ []) a b
    → IsReady a b (read_place part.Configuration name) file → TookUpTo b c file (most_configuration + 1) → TookFew a c 1 name
few_took name file a b c x ready t told f fresh at all held =
    let y = one_took part.Configuration name file t.bytes a b c x t.took in
    let s = (one_only part.Configuration name file a c y f 1 fresh at).0 in
    let l = t.took.left all ((ready told).1 ∙ held) in
    (l.0, ap c.left s ∙ l.2, few_by all t.bytes l.0 l.1 t.few)

pub few_none : (name : List ℕ) (a b : View) → Unchanged a b → TookFew a b 1 name
few_none name a b u told f fresh at all held = absurd (none_some 1 (sym (u.none f fresh) ∙ at))

pub at_end : (v : View) (file most : ℕ) (taken : List ℕ) → (length taken ≡ most) ⊎ IsAtEnd v file → length taken < most → IsAtEnd v file
at_end v file most taken (inl full) h = absurd (omega (arith, full, h))
at_end v file most taken (inr end) h = end

-- what stood under the name is what was taken, and what is left
pub record IsCut (a c : View) (name : List ℕ) (file : ℕ) (taken : List ℕ) : Type 0 where
  pub all : List ℕ
  pub at : a.bytes name ≡ Some all
  pub rest : List ℕ
  pub joined : all ≡ taken ++ rest
  pub left : c.left file ≡ Some rest

cut : (name : List ℕ) (file : ℕ) (none taken : List ℕ) (a b c : View) → IsReady a b (read_place part.Configuration name) file → IsTrue a.tells → none ≡ []
    → Gained b c file none taken → IsCut a c name file taken
cut name file none taken a b c ready told empty x =
    let s = some_bytes (a.bytes name) (ready told).0 in
    let l = x.took.left s.0 ((ready told).1 ∙ s.1) in
    record {
      all = s.0;
      at = s.1;
      rest = l.0;
      joined = l.1 ∙ ap (λ m. m ++ l.0) (sym (x.joined ∙ ap (λ m. m ++ x.more) empty));
      left = l.2;
    }

pub whole : (q : Asked) (file : ℕ) (none : List ℕ) (taken : Vec ℕ Global) (a b c : View)
    → Came (read_place part.Configuration q.config ∷ []) (file ∷ []) a b → IsReady a b (read_place part.Configuration q.config) file
    → none ≡ [] → Gained b c file none taken.items → IsAtEnd c file → length taken.items ≤ most_configuration
    → IsWhole a c q (record { bytes = taken; file = file })
whole q file none taken a b c x ready empty g end short =
    let y = one_took part.Configuration q.config file g.more a b c x g.took in
    record {
      came = y;
      taken = λ f fresh at.
          let P : ℕ → Type 0 = λ h. IsAtEnd c h in subst P (sym (one_only part.Configuration q.config file a c y f 1 fresh at).0) end;
      short = short;
      at = λ told.
          let s = cut q.config file none taken.items a b c ready told empty g in
          s.at ∙ ap (λ (m : List ℕ). Some m) (s.joined ∙ ap (λ m. taken.items ++ m) (nil_from_length s.rest (end s.rest s.left)) ∙ append-nil taken.items);
    }

longer : (all taken rest : List ℕ) → all ≡ taken ++ rest → most_configuration < length taken → most_configuration < length all
longer all taken rest e h = let l : length all ≡ length taken + length rest = ap length e ∙ length-append taken rest in omega (arith, l, h)

pub long : (q : Asked) (file : ℕ) (none taken : List ℕ) (a b c : View) → IsReady a b (read_place part.Configuration q.config) file → none ≡ []
    → Gained b c file none taken → most_configuration < length taken → IsTrue a.tells → TextSays a q TooLong
long q file none taken a b c ready empty g h told =
    let s = cut q.config file none taken a b c ready told empty g in
    record { bytes = s.all; at = s.at; says = long_says q s.all (longer s.all taken s.rest s.joined h) }

-- why it is not had
pub unread_text : (q : Asked) (a b : View) (t : Trouble) → (t ≡ trouble.Failed → CannotRead a b part.Configuration q.config) → CameAlong (read_place part.Configuration q.config ∷ []) a b
    → IsUnready q a b (unread stop.NoConfiguration t)
unread_text q a b trouble.Failed h x = (h refl, x)
unread_text q a b trouble.NoMemory h x = tt
