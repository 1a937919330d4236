-- The configuration is had, and behind it the arrivals.
use Rattle.std.proofs.Common.{◌≡◌, ◌∙◌, ◌⊎◌, ◌++◌, ℕ, List, [], ◌∷◌, None, Some, ap, sym, refl, subst, inl, inr, append_assoc}
use Rattle.std.specs.Prelude.{IsTrue}
use Rattle.arrivals_front.specs.Given.{IsBegunAt}
use Rattle.file_plans.specs.Came.{Came, CameAlong}
use Rattle.file_plans.specs.declared.part.Part.TheVariants as part
use Rattle.file_plans.specs.End.{TookFew}
use Rattle.file_plans.specs.Plan.{Place, read_place}
use Rattle.file_plans.proofs.CameLaws.{came_more, same_part, there_or_not}
use Rattle.file_plans.proofs.EndLaws.{came_then}
use Rattle.file_plans.proofs.FewLaws.{few_kept}
use Rattle.pcapng_files.specs.declared.fault.NgFault.{NgFault}
use Rattle.pcapng_files.specs.declared.fault.NgFault.TheVariants as ng
use Rattle.play_base.specs.View.{View, Everything, IsAtEnd, Keeps}
use Rattle.play_base.proofs.ViewLaws.{keeps_trans, rose_later}
use Rattle.run_inputs.specs.declared.inputs.Arrivals.{Arrivals}
use Rattle.run_inputs.specs.declared.inputs.Asking.{Asking}
use Rattle.run_inputs.specs.declared.inputs.ReadConf.{ReadConf}
use Rattle.run_inputs.specs.declared.inputs.Unready.{Unready}
use Rattle.run_inputs.specs.declared.inputs.Unready.TheVariants as unready
use Rattle.run_inputs.specs.declared.stop.Stop.TheVariants as stop
use Rattle.run_inputs.specs.Had.{AreGivenBy, AreHad, HaveCome, IsHad, IsUnready, asked_of, inputs_plan}
use Rattle.run_inputs.specs.Meets.{CannotRead, HasRead, IsTaken}
use Rattle.run_inputs.specs.Reading.{IsBegun, IsNoText, IsReadAlone, IsUnbegun}
use Rattle.run_inputs.specs.Says.{Accepted, Asked, IsNoPcapng, OfArrivals, RefusedAt, TooLong}
use Rattle.run_inputs.proofs.OpenLemmas.{one_only}
use Rattle.run_inputs.proofs.TextLemmas.{accepted_same, says_same, told}

-- THE CONFIGURATION ALONE
pub have_alone : (x : Asking) (a b : View) → IsReadAlone (read_place part.Configuration x.config.now) a b → TookFew a b 1 x.config.now → HaveCome (asked_of x None) a b
have_alone x a b y few = record {
  along = y.along;
  keeps = y.keeps;
  few = few;
  first = λ t f p fresh at no. absurd (no (y.only f p fresh at));
  said = y.said;
}

pub no_text : (q : Asked) (a b : View) (text : List ℕ) (u : Unready) → CameAlong (read_place part.Configuration q.config ∷ []) a b
    → (IsTrue a.tells → a.bytes q.config ≡ Some text) → IsNoText q text u → IsUnready q a b u
no_text q a b text (unready.Stop (stop.Refused place)) x at h = (λ t. record { bytes = text; at = at t; says = h }, x)
no_text q a b text (unready.Stop stop.NoConfiguration) x at h = absurd h
no_text q a b text (unready.Stop stop.LongConfiguration) x at h = absurd h
no_text q a b text (unready.Stop stop.NoArrivals) x at h = absurd h
no_text q a b text (unready.Stop (stop.NoPcapng block)) x at h = absurd h
no_text q a b text (unready.Stop stop.LongPcapng) x at h = absurd h
no_text q a b text unready.NoMemory x at h = tt

-- ARRIVALS ARE ASKED FOR BESIDE IT
none_name : (n : List ℕ) → None ≡ Some n → ⊥
none_name n h = cc

along_more : (es ds : List Place) (a b : View) → CameAlong es a b → CameAlong (es ++ ds) a b
along_more es ds a b x = record {
  front = x.front;
  rest = x.rest ++ ds;
  split = ap (λ l. l ++ ds) x.split ∙ append_assoc x.front x.rest ds;
  files = x.files;
  came = x.came;
}

read_more : (x : Asking) (n : List ℕ) (a b : View) → HasRead a b (asked_of x None) → HasRead a b (asked_of x (Some n))
read_more x n a b y = record { configured = y.configured; says = says_same x None (Some n) a (Accepted y.configured) y.says; taken = y.taken }

pub have_more : (x : Asking) (n : List ℕ) (a b : View) → HaveCome (asked_of x None) a b → HaveCome (asked_of x (Some n)) a b
have_more x n a b y = record {
  along = along_more (inputs_plan (asked_of x None)) (read_place part.Arrivals n ∷ []) a b y.along;
  keeps = y.keeps;
  few = y.few;
  first = λ t f p fresh at no. read_more x n a b (y.first t f p fresh at no);
  said = y.said;
}

pub unready_more : (x : Asking) (n : List ℕ) (a b : View) (u : Unready) → IsUnready (asked_of x None) a b u → IsUnready (asked_of x (Some n)) a b u
unready_more x n a b (unready.Stop stop.NoConfiguration) y = y
unready_more x n a b (unready.Stop stop.LongConfiguration) y = (λ t. says_same x None (Some n) a TooLong (y.0 t), y.1)
unready_more x n a b (unready.Stop (stop.Refused place)) y = (λ t. says_same x None (Some n) a (RefusedAt place) (y.0 t), y.1)
unready_more x n a b (unready.Stop stop.NoArrivals) y = absurd (none_name y.0.0 y.0.1)
unready_more x n a b (unready.Stop (stop.NoPcapng block)) y =
    (λ t. absurd (none_name (y.0 t).name (y.0 t).asked), along_more (inputs_plan (asked_of x None)) (read_place part.Arrivals n ∷ []) a b y.1)
unready_more x n a b (unready.Stop stop.LongPcapng) y =
    (λ t. absurd (none_name (y.0 t).name (y.0 t).asked), along_more (inputs_plan (asked_of x None)) (read_place part.Arrivals n ∷ []) a b y.1)
unready_more x n a b unready.NoMemory y = tt

-- BOTH
one_two : ◌≡◌ {A = ℕ} 1 2 → ⊥
one_two h = cc

taken_later : (x : Asking) (a b c : View) (r : ReadConf) → IsHad (asked_of x None) a b r → (n : List ℕ) → IsReadAlone (read_place part.Arrivals n) b c
    → IsTaken a c part.Configuration
taken_later x a b c r h n y g fresh at = by (there_or_not (b.part g))
  where
    by : (b.part g ≡ None) ⊎ ((p : ℕ) × (b.part g ≡ Some p)) → IsAtEnd c g
    by (inl none) = absurd (one_two (y.only g 1 none at))
    by (inr p) =
        let is : b.part g ≡ Some 1 = p.1 ∙ ap (λ (q : ℕ). Some q) (same_part p.0 1 (sym (y.keeps.part g p.0 p.1) ∙ at)) in
        λ rest left. h.taken g fresh is rest (sym (y.keeps.left g 1 is tt) ∙ left)

read_both : (x : Asking) (n : List ℕ) (a b c : View) (r : ReadConf) → IsHad (asked_of x None) a b r → IsReadAlone (read_place part.Arrivals n) b c
    → IsTrue a.tells → HasRead a c (asked_of x (Some n))
read_both x n a b c r h y t = record {
  configured = h.configured;
  says = says_same x None (Some n) a (Accepted h.configured) (told a (asked_of x None) r.conf h.configured t h.accepted);
  taken = taken_later x a b c r h n y;
}

pub have_both : (x : Asking) (n : List ℕ) (a b c : View) (r : ReadConf) → HaveCome (asked_of x None) a b → IsHad (asked_of x None) a b r
    → IsReadAlone (read_place part.Arrivals n) b c → HaveCome (asked_of x (Some n)) a c
have_both x n a b c r come h y = record {
  along = came_then (read_place part.Configuration x.config.now ∷ []) (read_place part.Arrivals n ∷ []) (r.file ∷ []) a b c h.came y.along;
  keeps = keeps_trans Everything Everything a b c come.keeps y.keeps;
  few = few_kept Everything Everything a b c 1 x.config.now come.few y.keeps (λ f fresh at. one_two (y.only f 1 fresh at)) (λ f t fresh is. tt);
  first = λ t f p fresh at no. read_both x n a b c r h y t;
  said = y.said ∙ come.said;
}

-- the file of the arrivals is the one that was begun
one_begun : (x : Asking) (n : List ℕ) (a b c : View) (r : ReadConf) (z : Arrivals) → IsHad (asked_of x None) a b r
    → Came (read_place part.Arrivals n ∷ []) (z.file ∷ []) b c → (g : ℕ) → a.part g ≡ None → c.part g ≡ Some 2 → g ≡ z.file
one_begun x n a b c r z h came g fresh at = by (there_or_not (b.part g))
  where
    by : (b.part g ≡ None) ⊎ ((p : ℕ) × (b.part g ≡ Some p)) → g ≡ z.file
    by (inl none) = (one_only part.Arrivals n z.file b c came g 2 none at).0
    by (inr p) =
        let first = one_only part.Configuration x.config.now r.file a b h.came g p.0 fresh p.1 in
        absurd (one_two (sym first.1 ∙ same_part p.0 2 (sym (came.keeps.part g p.0 p.1) ∙ at)))

given_both : (x : Asking) (n : List ℕ) (a b c : View) (r : ReadConf) (z : Arrivals) → HaveCome (asked_of x None) a b → IsHad (asked_of x None) a b r
    → IsBegun b c n z → IsTrue a.tells → AreGivenBy a c n z
given_both x n a b c r z come h y t =
    let told : IsTrue b.tells = come.keeps.tells ∙ t in
    let s = y.there told in
    let at : a.bytes n ≡ Some s.0 = sym (come.keeps.bytes n tt) ∙ s.1 in
    record {
      given = s.0;
      at = at;
      follows = y.follows told s.0 s.1;
      begun = record {
        given = s.0;
        at = at;
        begun = λ g fresh is.
            let P : ℕ → Type 0 = λ f. IsBegunAt c f s.0 in subst P (sym (one_begun x n a b c r z h y.came g fresh is)) (y.begun told s.0 s.1);
      };
    }

pub had_both : (x : Asking) (n : List ℕ) (a b c : View) (r : ReadConf) (z : Arrivals) → HaveCome (asked_of x None) a b → IsHad (asked_of x None) a b r
    → IsReadAlone (read_place part.Arrivals n) b c → IsBegun b c n z → AreHad (asked_of x (Some n)) n a c r z
had_both x n a b c r z come h alone y = record {
  configured = h.configured;
  accepted = accepted_same x None (Some n) a r.conf h.configured h.accepted;
  came = came_more (read_place part.Configuration x.config.now ∷ []) (read_place part.Arrivals n ∷ []) (r.file ∷ []) (z.file ∷ []) a b c h.came y.came;
  taken = taken_later x a b c r h n alone;
  given = λ t. given_both x n a b c r z come h y t;
  few = y.few;
}

no_pcapng : (x : Asking) (n : List ℕ) (f : NgFault) (a b : View) (r : ReadConf) → HaveCome (asked_of x None) a b → IsHad (asked_of x None) a b r
    → (IsTrue b.tells → IsNoPcapng b n f) → IsTrue a.tells → OfArrivals a (asked_of x (Some n)) (λ name. IsNoPcapng a name f)
no_pcapng x n f a b r come h y t =
    let z = y (come.keeps.tells ∙ t) in
    record {
      configured = h.configured;
      says = says_same x None (Some n) a (Accepted h.configured) (told a (asked_of x None) r.conf h.configured t h.accepted);
      name = n;
      asked = refl;
      holds = record { bytes = z.bytes; at = sym (come.keeps.bytes n tt) ∙ z.at; begins = z.begins; cause = z.cause };
    }

cannot_later : (n : List ℕ) (a b c : View) → Keeps Everything Everything a b → CannotRead b c part.Arrivals n → CannotRead a c part.Arrivals n
cannot_later n a b c k (inl rose) = inl (rose_later (a.read_faults 2) (b.read_faults 2) (c.read_faults 2) (k.later.read 2) rose)
cannot_later n a b c k (inr gone) = inr (sym k.tells ∙ gone.0, sym (k.bytes n tt) ∙ gone.1)

pub unready_both : (x : Asking) (n : List ℕ) (a b c : View) (r : ReadConf) (u : Unready) → HaveCome (asked_of x None) a b → IsHad (asked_of x None) a b r
    → IsReadAlone (read_place part.Arrivals n) b c → IsUnbegun b c n u → IsUnready (asked_of x (Some n)) a c u
unready_both x n a b c r (unready.Stop stop.NoArrivals) come h y v = (
  (n, refl, cannot_later n a b c come.keeps v, λ t. let z = read_both x n a b c r h y t in (z.configured, z.says)),
  (have_both x n a b c r come h y).along,
)
unready_both x n a b c r (unready.Stop (stop.NoPcapng block)) come h y v =
    (no_pcapng x n (ng.At block) a b r come h v, (have_both x n a b c r come h y).along)
unready_both x n a b c r (unready.Stop stop.LongPcapng) come h y v = (no_pcapng x n ng.Limit a b r come h v, (have_both x n a b c r come h y).along)
unready_both x n a b c r (unready.Stop stop.NoConfiguration) come h y v = absurd v
unready_both x n a b c r (unready.Stop stop.LongConfiguration) come h y v = absurd v
unready_both x n a b c r (unready.Stop (stop.Refused place)) come h y v = absurd v
unready_both x n a b c r unready.NoMemory come h y v = tt
