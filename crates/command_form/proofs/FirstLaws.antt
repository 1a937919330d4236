-- What comes to be only behind the inputs, as they are read and behind that.
use Rattle.std.proofs.Common.{◌≡◌, ◌≢◌, ◌≤◌, ◌∙◌, ◌⊎◌, ◌++◌, ℕ, zero, suc, Bool, true, false, Option, List, [], ◌∷◌, length, None, Some, take, ap, sym, refl, subst, inl, inr, arith, append_assoc}
use Rattle.std.specs.Prelude.{IsTrue}
use Rattle.arrivals_front.specs.Given.{BegunBy, is_pcapng}
use Rattle.file_plans.specs.declared.part.Part.TheVariants as part
use Rattle.file_plans.specs.Came.{Came, CameAlong, IsOf}
use Rattle.file_plans.specs.End.{AreFew, FilesEnd, TookFew, Untouched}
use Rattle.file_plans.specs.Plan.{HasPart, Place, read_place}
use Rattle.file_plans.proofs.CameLaws.{came_none, none_some, same_part, there_or_not}
use Rattle.file_plans.proofs.EndLaws.{came_some, files_end}
use Rattle.play_base.specs.View.{View}
use Rattle.play_base.proofs.ViewLaws.{keeps_refl}
use Rattle.run_inputs.specs.declared.stop.Stop.{Stop}
use Rattle.run_inputs.specs.declared.stop.Stop.TheVariants as stop
use Rattle.run_inputs.specs.Had.{HaveCome, arrivals_plan, inputs_plan}
use Rattle.run_inputs.specs.Meets.{AreBegun, HasBegun, HasRead}
use Rattle.run_inputs.specs.Says.{Accepted, AreStopped, Asked, Configured, RefusedAt, Text, TextSays, TooLong, reach}
use Rattle.run_inputs.proofs.OneThing.{one_text, ready_not_stopped}
use Rattle.command_form.specs.Form.{AreReadyWhereTold, Command, InputsFirst, ReadsInputs, Within}
use Rattle.command_form.specs.Laws.{StoppedInputsLeaveAll}

-- the first places of a longer plan
take_more : (n : ℕ) (es ds : List Place) → (more : List Place) × (take n (es ++ ds) ≡ take n es ++ more)
take_more zero es ds = ([], refl)
take_more (suc n) [] ds = (take (suc n) ds, refl)
take_more (suc n) (e ∷ es) ds = let y = take_more n es ds in (y.0, ap (λ (r : List Place). e ∷ r) y.1)

pub along_more : (es ds : List Place) (u v : View) → CameAlong es u v → CameAlong (es ++ ds) u v
along_more es ds u v x = record {
  front = x.front;
  rest = x.rest ++ ds;
  split = ap (λ (r : List Place). r ++ ds) x.split ∙ append_assoc x.front x.rest ds;
  files = x.files;
  came = x.came;
}

few_take : (n : ℕ) (u v : View) (es : List Place) → AreFew u v es → AreFew u v (take n es)
few_take zero u v es x = tt
few_take (suc n) u v [] x = tt
few_take (suc n) u v (e ∷ es) x = (x.0, few_take n u v es x.1)

-- where no more than the first places of the inputs came, no more came of the plan
pub within_along : (x : Command) → ReadsInputs x → (n : ℕ) (u v : View) → CameAlong (take n (inputs_plan x.asked)) u v → TookFew u v 1 x.asked.config → Within n x u v
within_along x r n u v along few =
    let more = take_more n (inputs_plan x.asked) r.rest in
    let P : List Place → Type 0 = λ es. CameAlong es u v in
    let Q : List Place → Type 0 = λ es. CameAlong (take n es) u v in
    files_end (take n x.plan) u v
    (subst Q (sym r.plan) (subst P (sym more.1) (along_more (take n (inputs_plan x.asked)) more.0 u v along)))
    (few_take n u v x.plan (r.few u v few))

-- one that stops before the arrivals is of a configuration that is not accepted
absent_not : (u : View) (a : Asked) (c : Configured) → u.bytes a.config ≡ None → TextSays u a (Accepted c) → ⊥
absent_not u a c x y = no (sym x ∙ y.at)
  where
    no : None ≡ Some y.bytes → ⊥
    no h = cc

long_not : (c : Configured) → TooLong ≡ Accepted c → ⊥
long_not c h = cc

refused_not : (c : Configured) (t : Text) → t ≡ Accepted c → ((p : _) → t ≢ RefusedAt p)
refused_not c t h p k = no (sym k ∙ h)
  where
    no : RefusedAt p ≡ Accepted c → ⊥
    no h = cc

early_or_late : (u : View) (a : Asked) (s : Stop) → AreStopped u a s → ((c : Configured) → TextSays u a (Accepted c) → ⊥) × (reach s ≡ 1) ⊎ (reach s ≡ 2)
early_or_late u a stop.NoConfiguration x = inl (λ c y. absent_not u a c x y, refl)
early_or_late u a stop.LongConfiguration x = inl (λ c y. long_not c (one_text u a TooLong (Accepted c) x y), refl)
early_or_late u a (stop.Refused p) x = inl (λ c y. refused_not c (RefusedAt p) (one_text u a (RefusedAt p) (Accepted c) x y) p refl, refl)
early_or_late u a stop.NoArrivals x = inr refl
early_or_late u a (stop.NoPcapng block) x = inr refl
early_or_late u a stop.LongPcapng x = inr refl

-- where the second of two files did not come, the first did at most
only_first : (u v : View) (d e : Place) → CameAlong (d ∷ e ∷ []) u v → ((g : ℕ) → IsOf u v e g → ⊥) → CameAlong (d ∷ []) u v
only_first u v d e x none = by x.front x.rest x.files x.split x.came
  where
    no_nil : (f : Place) (fs : List Place) → [] ≡ f ∷ fs → ⊥
    no_nil f fs h = cc

    heads : (a b : Place) (xs ys : List Place) → a ∷ xs ≡ b ∷ ys → (a ≡ b) × (xs ≡ ys)
    heads a b xs ys h = (cc, cc)

    by : (es ds : List Place) (fs : List ℕ) → d ∷ e ∷ [] ≡ es ++ ds → Came es fs u v → CameAlong (d ∷ []) u v
    by [] ds fs h y = came_some [] (d ∷ []) fs u v y
    by (a ∷ []) ds fs h y =
        let P : Place → Type 0 = λ z. Came (z ∷ []) fs u v in
        came_some (d ∷ []) [] fs u v (subst P (sym (heads d a (e ∷ []) ds h).0) y)
    by (a ∷ b ∷ es) ds [] h y = absurd y.are
    by (a ∷ b ∷ es) ds (f ∷ []) h y = absurd y.are.1
    by (a ∷ b ∷ es) ds (f ∷ g ∷ fs) h y =
        let P : Place → Type 0 = λ z. IsOf u v z g in
        absurd (none g (subst P (sym (heads e b [] (es ++ ds) (heads d a (e ∷ []) (b ∷ (es ++ ds)) h).1).0) y.are.1.0))

two_one : ◌≢◌ {A = ℕ} 2 1
two_one h = cc

-- the configuration alone came where it is not accepted
early : (a : Asked) (u v : View) → HaveCome a u v → IsTrue u.tells → ((c : Configured) → TextSays u a (Accepted c) → ⊥) → CameAlong (take 1 (inputs_plan a)) u v
early a u v x t not = by a.arrivals x.along
  where
    by : (o : Option (List ℕ)) → CameAlong (read_place part.Configuration a.config ∷ arrivals_plan o) u v
        → CameAlong (take 1 (read_place part.Configuration a.config ∷ arrivals_plan o)) u v
    by None along = along
    by (Some name) along =
        only_first u v (read_place part.Configuration a.config) (read_place part.Arrivals name) along
        (λ g y. let h = x.first t g 2 y.fresh y.part two_one in not h.configured h.says)

late : (a : Asked) (u v : View) → CameAlong (inputs_plan a) u v → CameAlong (take 2 (inputs_plan a)) u v
late a u v along = by a.arrivals along
  where
    by : (o : Option (List ℕ)) → CameAlong (read_place part.Configuration a.config ∷ arrivals_plan o) u v
        → CameAlong (take 2 (read_place part.Configuration a.config ∷ arrivals_plan o)) u v
    by None along = along
    by (Some name) along = along

inputs_few : (a : Asked) (u v : View) → TookFew u v 1 a.config → AreFew u v (inputs_plan a)
inputs_few a u v few = (few, by a.arrivals)
  where
    by : (o : Option (List ℕ)) → AreFew u v (arrivals_plan o)
    by None = tt
    by (Some name) = (tt, tt)

inputs_parts : (a : Asked) (p : ℕ) → HasPart (inputs_plan a) p → p ≢ 1 → p ≢ 2 → ⊥
inputs_parts a p h one two = by a.arrivals h
  where
    by : (o : Option (List ℕ)) → (p ≡ 1) ⊎ HasPart (arrivals_plan o) p → ⊥
    by o (inl e) = one e
    by None (inr e) = absurd e
    by (Some name) (inr (inl e)) = two e
    by (Some name) (inr (inr e)) = absurd e

-- where nothing was done no file came
pub none_come : (u : View) (a : Asked) → HaveCome a u u
none_come u a = record {
  along = came_some [] (inputs_plan a) [] u u (came_none u);
  keeps = keeps_refl _ _ u;
  few = λ t f fresh e all at. absurd (none_some 1 (sym fresh ∙ e));
  first = λ t f p fresh e n. absurd (none_some p (sym fresh ∙ e));
  said = refl;
}

-- INPUTS COME FIRST where no more was done than to read them
pub come_first : (x : Command) → ReadsInputs x → (u v : View) → HaveCome x.asked u v → InputsFirst x u v
come_first x r u v h = record {
  stopped = λ t s stopped. by t s (early_or_late u x.asked s stopped);
  read = λ t f p fresh e n. h.first t f p fresh e n;
  begun = λ t f p fresh e one two.
      let end = files_end (inputs_plan x.asked) u v h.along (inputs_few x.asked u v h.few) in
      absurd (inputs_parts x.asked p (end.parts f p fresh e) one two);
}
  where
    by : IsTrue u.tells → (s : Stop) → ((c : Configured) → TextSays u x.asked (Accepted c) → ⊥) × (reach s ≡ 1) ⊎ (reach s ≡ 2) → Within (reach s) x u v
    by t s (inl y) =
        let P : ℕ → Type 0 = λ n. Within n x u v in
        subst P (sym y.1) (within_along x r 1 u v (early x.asked u v h t y.0) h.few)
    by t s (inr y) =
        let P : ℕ → Type 0 = λ n. Within n x u v in
        subst P (sym y) (within_along x r 2 u v (late x.asked u v h.along) h.few)

-- its files are then those of the inputs
pub come_files : (x : Command) → ReadsInputs x → (u v : View) → HaveCome x.asked u v → FilesEnd x.plan u v
come_files x r u v h =
    let P : List Place → Type 0 = λ es. CameAlong es u v in
    files_end x.plan u v (subst P (sym r.plan) (along_more (inputs_plan x.asked) r.rest u v h.along)) (r.few u v h.few)

-- and behind inputs that are ready, where they were read and begun
pub ready_first : (x : Command) (u v : View) → AreReadyWhereTold u x.asked → (IsTrue u.tells → HasRead u v x.asked)
    → (IsTrue u.tells → HasBegun u v x.asked.arrivals) → InputsFirst x u v
ready_first x u v i read begun = record {
  stopped = λ t s stopped. let y = i t in absurd (ready_not_stopped u x.asked y.0 s y.1 stopped);
  read = λ t f p fresh e n. read t;
  begun = λ t f p fresh e one two. begun t;
}

-- THE INPUTS' FILES STAND: calls keep what the configuration has left, let the arrivals have no more left, and open neither again
pub record KeepsInputs (u v w : View) : Type 0 where
  pub config : (f : ℕ) → IsTrue u.tells → u.part f ≡ None → v.part f ≡ Some 1 → w.left f ≡ v.left f
  pub arrivals : (f : ℕ) → IsTrue u.tells → u.part f ≡ None → v.part f ≡ Some 2 → (rest : List ℕ) → v.left f ≡ Some rest
      → (tail : List ℕ) × (w.left f ≡ Some tail) × (length tail ≤ length rest)
  pub part : (f p : ℕ) → v.part f ≡ Some p → w.part f ≡ Some p
  pub no_config : Untouched v w 1
  pub no_arrivals : Untouched v w 2

-- a file of a part that came to be was there before
pub was_there : (v w : View) (p f : ℕ) → ((f q : ℕ) → v.part f ≡ Some q → w.part f ≡ Some q) → Untouched v w p → w.part f ≡ Some p → v.part f ≡ Some p
was_there v w p f k un e = by (there_or_not (v.part f))
  where
    by : (v.part f ≡ None) ⊎ ((q : ℕ) × (v.part f ≡ Some q)) → v.part f ≡ Some p
    by (inl n) = absurd (un f n e)
    by (inr y) = y.1 ∙ ap (λ (q : ℕ). Some q) (same_part y.0 p (sym (k f y.0 y.1) ∙ e))

-- what the configuration has left stays, and it is not opened again
pub read_kept : (u v w : View) (a : Asked) → ((f : ℕ) → u.part f ≡ None → v.part f ≡ Some 1 → w.left f ≡ v.left f)
    → ((f p : ℕ) → v.part f ≡ Some p → w.part f ≡ Some p) → Untouched v w 1 → HasRead u v a → HasRead u w a
read_kept u v w a left part none x = record {
  configured = x.configured;
  says = x.says;
  taken = λ g fresh e rest at.
      let there = was_there v w 1 g part none e in
      x.taken g fresh there rest (sym (left g fresh there) ∙ at);
}

pub read_on : (u v w : View) (a : Asked) → IsTrue u.tells → KeepsInputs u v w → HasRead u v a → HasRead u w a
read_on u v w a t k x = read_kept u v w a (λ f fresh e. k.config f t fresh e) k.part k.no_config x

none_left : (tail : List ℕ) → length tail ≤ 0 → tail ≡ []
none_left [] h = refl
none_left (n ∷ tail) h = absurd (omega (arith, h))

less_begun : (k : Bool) (given rest tail : List ℕ) → BegunBy k given rest → length tail ≤ length rest → BegunBy k given tail
less_begun true given rest tail x l = (none_left tail (subst (λ (r : List ℕ). length tail ≤ length r) x.0 l), x.1)
less_begun false given rest tail (inl x) l = inl (none_left tail (subst (λ (r : List ℕ). length tail ≤ length r) x l))
less_begun false given rest tail (inr x) l = inr (grind (arith, x, l))

are_begun_on : (u v w : View) (name : List ℕ) → IsTrue u.tells → KeepsInputs u v w → AreBegun u v name → AreBegun u w name
are_begun_on u v w name t k x = record {
  given = x.given;
  at = x.at;
  begun = λ g fresh e.
      let there = was_there v w 2 g k.part k.no_arrivals e in
      let y = x.begun g fresh there in
      let z = k.arrivals g t fresh there y.0 y.1 in
      (z.0, z.1, less_begun (is_pcapng x.given) x.given y.0 z.0 y.2 z.2);
}

pub begun_on : (u v w : View) (o : Option (List ℕ)) → IsTrue u.tells → KeepsInputs u v w → HasBegun u v o → HasBegun u w o
begun_on u v w None t k x = tt
begun_on u v w (Some name) t k x = are_begun_on u v w name t k x

-- INPUTS CAME FIRST, and only other files of the plan behind them
pub first_on : (x : Command) (u v w : View) → AreReadyWhereTold u x.asked → (IsTrue u.tells → HasRead u v x.asked)
    → (IsTrue u.tells → HasBegun u v x.asked.arrivals) → KeepsInputs u v w → InputsFirst x u w
first_on x u v w i read begun k =
    ready_first x u w i (λ t. read_on u v w x.asked t k (read t)) (λ t. begun_on u v w x.asked.arrivals t k (begun t))

-- the first places of inputs write nothing
unwritten_along : (u v : View) (a : Asked) (name : List ℕ) (es : List Place) → a.arrivals ≡ Some name
    → FilesEnd (take 2 (inputs_plan a ++ es)) u v → (m : List ℕ) → v.bytes m ≡ u.bytes m
unwritten_along u v a name es e h m =
    let P : Option (List ℕ) → Type 0 = λ o. FilesEnd (take 2 (read_place part.Configuration a.config ∷ (arrivals_plan o ++ es))) u v in
    (subst P e h).others.bytes m (tt, (tt, tt))

leave_all : (x : Command) → ReadsInputs x → (u v : View) (s : Stop) → Within (reach s) x u v → AreStopped u x.asked s → (m : List ℕ) → v.bytes m ≡ u.bytes m
leave_all x r u v s w h m = let P : List Place → Type 0 = λ es. FilesEnd (take (reach s) es) u v in by s (subst P r.plan w) h
  where
    by : (s : Stop) → FilesEnd (take (reach s) (inputs_plan x.asked ++ r.rest)) u v → AreStopped u x.asked s → v.bytes m ≡ u.bytes m
    by stop.NoConfiguration w h = w.others.bytes m (tt, tt)
    by stop.LongConfiguration w h = w.others.bytes m (tt, tt)
    by (stop.Refused p) w h = w.others.bytes m (tt, tt)
    by stop.NoArrivals w h = unwritten_along u v x.asked h.name r.rest h.asked w m
    by (stop.NoPcapng block) w h = unwritten_along u v x.asked h.name r.rest h.asked w m
    by stop.LongPcapng w h = unwritten_along u v x.asked h.name r.rest h.asked w m

pub stopped_leave_all : StoppedInputsLeaveAll
stopped_leave_all x u v s t r first h m = leave_all x r u v s (first.stopped t s h) h m
