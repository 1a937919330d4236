-- A play behind its inputs ends a command.
use Rattle.std.proofs.Common.{◌≡◌, ◌≢◌, ◌∙◌, ◌++◌, ℕ, arith, Bool, true, false, cond, List, [], ◌∷◌, Option, None, Some, Ok, Err, IsTrue, ap, sym, refl, subst, subst₂, inl, inr}
use Rattle.std.specs.Prelude.{IfOk, bytes_eq, option_map}
use Rattle.std.specs.List.{position_or_len}
use Rattle.std.specs.declared.result.Result.{Result}
use Rattle.std.proofs.lemmas.List.Folds.{find_at}
use Rattle.std.proofs.lemmas.Result.{IfOk-weaker}
use Rattle.altq_model.specs.History.{LabelledEvent}
use Rattle.arrivals_front.specs.Given.{is_pcapng}
use Rattle.arrivals_front.specs.declared.given.Given.{Given as FrontGiven}
use Rattle.arrivals_source.specs.Counted.{IsNoLonger}
use Rattle.command_form.specs.Form.{ReadsInputs, unready_failure}
use Rattle.command_form.specs.Names.{Names}
use Rattle.command_form.specs.Plans.{play_plan}
use Rattle.command_form.proofs.EndsLaws.{Stands, stands_done, stands_fails, unread_ends, unready_ends}
use Rattle.command_form.proofs.FirstLaws.{KeepsInputs, first_on, none_come, was_there}
use Rattle.command_form.proofs.HadLaws.{accepted_says, both_begun, both_read, both_ready, given_of, is_given, of_given}
use Rattle.conf_tree.specs.Reading.{IsConfiguration}
use Rattle.conf_tree.specs.declared.interface.Interface.{Interface}
use Rattle.file_plans.specs.declared.part.Part.TheVariants as part
use Rattle.file_plans.specs.Came.{Came, CameAlong, IsAmong}
use Rattle.file_plans.specs.Plan.{HasPart, IsOther, Place, number_of, read_place}
use Rattle.file_plans.proofs.CameLaws.{none_some}
use Rattle.file_plans.proofs.EndLaws.{files_end}
use Rattle.file_plans.proofs.FewLaws.{few_kept}
use Rattle.interface_play.specs.declared.play.Play.{Play}
use Rattle.interface_play.specs.Ended.{HasEnded, IsBehind, OnlyPlays}
use Rattle.interface_play.specs.Expected.{CameAsExpected, PlayExpects, play_outcome}
use Rattle.interface_play.specs.Failing.{FailsAs, PlayFails, play_failure}
use Rattle.interface_play.specs.Fronts.{Fronts}
use Rattle.interface_play.specs.Played.{IsDone}
use Rattle.interface_play.specs.Setup.{IsConfigured}
use Rattle.interface_play.specs.Source.{AreSeparate, IsSource, OfSource, Places, Source, outputs_at, places_in}
use Rattle.interface_play.proofs.FailingLaws.{failed_as}
use Rattle.pcapng_files.specs.Fronts.{with_front}
use Rattle.play_base.specs.View.{View, Everything, Keeps, SameCounts}
use Rattle.play_base.proofs.ViewLaws.{keeps_fewer, keeps_trans}
use Rattle.play_core.specs.declared.totals.Totals.{Totals}
use Rattle.play_loop.specs.declared.fault.PlayFault.{PlayFault}
use Rattle.play_loop.specs.declared.kept.KeptFate.{KeptFate}
use Rattle.play_loop.specs.Played.{IsStanding}
use Rattle.play_words.specs.Words.{AreDistinct}
use Rattle.run_inputs.specs.declared.inputs.Arrivals.{Arrivals}
use Rattle.run_inputs.specs.declared.inputs.ReadConf.{ReadConf}
use Rattle.run_inputs.specs.declared.inputs.Unready.{Unready}
use Rattle.run_inputs.specs.Had.{AreHad, HaveCome, IsUnready}
use Rattle.run_inputs.specs.Says.{Accepted, Given, TextSays, interface_of}
use Rattle.run_outcomes.specs.Faults.{IsQuiet}
use Rattle.run_outcomes.specs.Outcome.{IsOrMemory, Outcome}
use Rattle.run_outcomes.specs.Reported.{OnlySays}
use Rattle.run_outcomes.specs.declared.outcome.Done.TheVariants as done
use Rattle.run_outcomes.specs.declared.outcome.Failure.{Failure}
use Rattle.run_outcomes.specs.declared.outcome.Failure.TheVariants as failure
use Rattle.run_outcomes.specs.declared.outcome.Link.TheVariants as link
use Rattle.play_command.specs.Ending.{OfPlayed, PlayDone, PlayEnds, PlayExpected, PlayLeaves, PlayOwn}
use Rattle.play_command.specs.Headline.{HasPlayed, play_command, sole_of, source_by}
use Rattle.play_command.proofs.StayLaws.{AllStay, all_stay, along_after, done_on, fronts_on, quiet_before, says_nothing, says_stay, unbegun_fronts}

-- the interface that is found is one of the configuration
pub configured_of : (name text : List ℕ) (interfaces : List Interface) (i : Interface) → IsConfiguration text interfaces
    → interface_of name interfaces ≡ Some i → IsConfigured i
configured_of name text interfaces i r e =
    let has : Interface → Bool = λ x. bytes_eq name x.name in
    record { text = text; interfaces = interfaces; read = r; place = position_or_len has interfaces; at = sym (find_at has interfaces) ∙ e }

-- the plan of a play begins with its inputs
pub play_reads : (n : Names) → ReadsInputs (play_command n)
play_reads n = record { rest = outputs_at (sole_of n); plan = refl; few = λ u v f. (f, (tt, (tt, (tt, (tt, tt))))) }

pub separate_of : (n : Names) → AreDistinct n.config n.arrivals n.departures n.fates n.stats → AreSeparate (sole_of n)
separate_of n d = record {
  departures = refl;
  fates = refl;
  stats = refl;
  arrivals_departures = d.arrivals_departures;
  arrivals_fates = d.arrivals_fates;
  arrivals_stats = d.arrivals_stats;
  departures_fates = d.departures_fates;
  departures_stats = d.departures_stats;
  fates_stats = d.fates_stats;
  departures_are_no_fates = λ e. cc;
  departures_are_no_stats = λ e. cc;
  fates_are_no_stats = λ e. cc;
}

-- A PLAY AT THESE PLACES, of what a file has left behind what is given of it
-- none of these files is one of its own
pub behind_at : {u a : View} {es : List Place} {fs : List ℕ} {p : Play} {w : Places} → Came es fs u a → IsAmong p.file fs → SameCounts u a → places_in p ≡ w
    → ((k : ℕ) → HasPart (outputs_at w) k → HasPart es k → ⊥) → (IsTrue u.tells → IsOther u es w.departures.name)
    → (IsTrue u.tells → IsOther u es w.fates.name) → (IsTrue u.tells → IsOther u es w.stats.name) → IsBehind u a es fs p
behind_at {u = u} {es = es} came among counts same apart departures fates stats =
    let P : Places → Type 0 = λ w. (e : Place) → HasPart (outputs_at w) (number_of e) → HasPart es (number_of e) → ⊥ in
    let Q : List ℕ → Type 0 = λ m. IsTrue u.tells → IsOther u es m in
    record {
      came = came;
      among = among;
      counts = counts;
      parts = subst P (sym same) (λ e. apart (number_of e));
      departures = subst Q (ap (λ (w : Places). w.departures.name) (sym same)) departures;
      fates = subst Q (ap (λ (w : Places). w.fates.name) (sym same)) fates;
      stats = subst Q (ap (λ (w : Places). w.stats.name) (sym same)) stats;
    }

pub source_is : {v : View} {p : Play} {g : FrontGiven} {file : ℕ} (s : Source) → p.given.now ≡ g → p.file ≡ file → s.interface ≡ p.interface.now
    → s.in_memory ≡ cond g.rest false true → with_front true g.rest g.front.items (v.left file) ≡ Some s.capture → IsSource v p s
source_is {v = v} s given file interface in_memory capture =
    let P : FrontGiven → Type 0 = λ y. s.in_memory ≡ cond y.rest false true in
    let Q : FrontGiven → ℕ → Type 0 = λ y f. with_front true y.rest y.front.items (v.left f) ≡ Some s.capture in
    record { interface = interface; in_memory = subst P (sym given) in_memory; capture = subst₂ Q (sym given) (sym file) capture }

-- AND HOW IT ENDED, of this source where the files tell, also where something was said behind it
pub record Ended (stood : List LabelledEvent → Type 0) (kept : List KeptFate → Type 0) (u v : View) (w : Places) (seed : ℕ) (s : IsTrue u.tells → Source)
    (es : List Place) (y : Result Totals PlayFault) : Type 0 where
  pub done : IfOk y (λ totals. (t : IsTrue u.tells) → IsDone stood kept v w seed totals (s t))
  pub fronts : (t : IsTrue u.tells) → Fronts u v w seed (s t)
  pub must : (t : IsTrue u.tells) → IsQuiet u v → CameAsExpected w seed y (s t)
  pub along : CameAlong (es ++ outputs_at w) u v

pub ended_at : {stood : List LabelledEvent → Type 0} {kept : List KeptFate → Type 0} {u a v z : View} {p : Play} {w : Places} {seed : ℕ} {es : List Place}
    {fs : List ℕ} {y : Result Totals PlayFault} (s : IsTrue u.tells → Source) → places_in p ≡ w → p.seed ≡ seed → a.tells ≡ u.tells
    → ((t : IsTrue u.tells) → IsSource a p (s t)) → HasEnded stood kept u a v es fs p y → OnlySays v z → Ended stood kept u z w seed s es y
ended_at {stood = stood} {kept = kept} {u = u} {v = v} {z = z} {p = p} {es = es} {y = y} s same_places same_seed tells is e o =
    let P : Places → ℕ → Type 0 = λ w k. Ended stood kept u z w k s es y in
    subst₂ P same_places same_seed (record {
      done = IfOk-weaker y _ _ (λ totals d t. done_on (says_stay o (places_in p)) (d (tells ∙ t) (s t) (is t))) e.done;
      fronts = λ t. fronts_on o (e.fronts (tells ∙ t) (s t) (is t));
      must = λ t q. e.must (quiet_before o u q) (tells ∙ t) (s t) (is t);
      along = along_after o e.along;
    })

-- each fault of the play is told of what By says
pub fails_at : {u a v : View} {p : Play} {w : Places} {seed : ℕ} (f : PlayFault) (By : (Source → Type 0) → Type 0) → places_in p ≡ w → p.seed ≡ seed
    → ((P : Source → Type 0) → OfSource a p P → By P) → PlayFails (OfSource a p) (places_in p) p.seed u v f
    → FailsAs By link.Sole w seed u v (play_failure link.Sole w f)
fails_at {u = u} {a = a} {v = v} {p = p} f By same_places same_seed by x =
    let P : Places → ℕ → Type 0 = λ w k. FailsAs By link.Sole w k u v (play_failure link.Sole w f) in
    subst₂ P same_places same_seed (failed_as (OfSource a p) By (places_in p) p.seed u v link.Sole f by x)

-- what a play left of the files that stood when it began: it took of one and wrote the outputs, no more of which came to be
record LeavesInputs (a v : View) (w : Places) (file : ℕ) : Type 0 where
  pub keeps : Keeps (IsOther a (outputs_at w)) (λ f. (f ≢ file) × IsOther a (outputs_at w) (a.name f)) a v
  pub took : IsNoLonger a v file
  pub only : (f q : ℕ) → a.part f ≡ None → v.part f ≡ Some q → HasPart (outputs_at w) q

left_by : {a v z : View} {p : Play} {w : Places} {file : ℕ} (q : ℕ) → places_in p ≡ w → p.file ≡ file → a.part p.file ≡ Some q → OnlyPlays a v p → OnlySays v z
    → LeavesInputs a z w file
left_by {a = a} {v = v} {z = z} {p = p} q same_places same_file there o k =
    let P : Places → ℕ → Type 0 = λ w f. LeavesInputs a z w f in
    subst₂ P same_places same_file (record {
      keeps = keeps_trans _ _ a v z o.keeps (keeps_fewer Everything _ Everything _ v z (λ m _. tt) (λ f _. tt) k.keeps);
      took = λ t had e.
          let y = o.took t had e in
          (y.0, k.keeps.left p.file q (o.keeps.part p.file q there) tt ∙ y.1, y.2);
      only = λ f r fresh e. o.only f r fresh (was_there v z r f k.keeps.part (λ h n. λ i. none_some r (sym (k.none h n) ∙ i)) e);
    })

-- the files of the inputs
abbrev pub inputs_at : Names → List Place
inputs_at n = read_place part.Configuration n.config ∷ read_place part.Arrivals n.arrivals ∷ []

-- THE INPUTS ARE HAD, and a play of them begins
pub record Begins (u a : View) (n : Names) (seed : ℕ) (p : Play) (r : ReadConf) (x : Arrivals) : Type 0 where
  pub come : HaveCome (play_command n).asked u a
  pub had : AreHad (play_command n).asked n.arrivals u a r x
  pub counts : SameCounts u a
  pub found : interface_of n.interface r.conf ≡ Some p.interface.now
  pub given : p.given.now ≡ x.given
  pub file : p.file ≡ x.file
  pub seeded : p.seed ≡ seed
  pub places : places_in p ≡ sole_of n
  pub distinct : AreDistinct n.config n.arrivals n.departures n.fates n.stats

pub same_some : {A : Type 0} (x y : A) → Some x ≡ Some y → x ≡ y
same_some x y h = cc

no_both : (n : Names) (k : ℕ) → HasPart (outputs_at (sole_of n)) k → HasPart (inputs_at n) k → ⊥
no_both n k a b = omega (arith, a, b)

in_memory : (g : Bool) (rest : Bool) → (rest ≡ true → g ≡ false) → (rest ≡ false → g ≡ true) → g ≡ cond rest false true
in_memory g true c p = c refl
in_memory g false c p = p refl

no_next : (o : Option Interface) → None ≡ option_map (λ (i : Interface). Some i) o → o ≡ None
no_next None h = refl
no_next (Some i) h = absurd (cc)

module _ {u a : View} {n : Names} {seed : ℕ} {p : Play} {r : ReadConf} {x : Arrivals} (b : Begins u a n seed p r x) where
  pub begins_behind : IsBehind u a (inputs_at n) (r.file ∷ x.file ∷ []) p
  begins_behind = behind_at b.had.came (inr (inl b.file)) b.counts b.places (no_both n) (λ t. (tt, (tt, tt))) (λ t. (tt, (tt, tt))) (λ t. (tt, (tt, tt)))

  pub begins_there : a.part p.file ≡ Some 2
  begins_there = ap a.part b.file ∙ b.had.came.are.1.0.part

  -- what is given, and the source of the play
  abbrev given_at : IsTrue u.tells → Given
  given_at t = given_of u a n.arrivals x (b.had.given t)

  abbrev source_at : IsTrue u.tells → Source
  source_at t = source_by b.had.configured.found (given_at t)

  found_is : b.had.configured.found ≡ p.interface.now
  found_is = same_some _ _ (sym b.had.accepted.found ∙ b.found)

  is_source : (t : IsTrue u.tells) → IsSource a p (source_at t)
  is_source t =
      let g = (b.had.given t).follows in
      source_is (source_at t) b.given b.file found_is (in_memory (is_pcapng (given_at t).bytes) x.given.rest (λ e. (g.classic e).0) g.pcapng) g.left

  -- what holds of the source of the play holds of what is given
  of_played : (P : Source → Type 0) → OfSource a p P → OfPlayed u n P
  of_played P f t =
      is_given u a (play_command n).asked n.arrivals r x (λ i g. P (source_by i g)) refl b.had t
      (f (b.come.keeps.tells ∙ t) (source_at t) (is_source t))

  -- the files of the inputs
  config_at : (f : ℕ) → u.part f ≡ None → a.part f ≡ Some 1 → f ≡ r.file
  config_at f fresh e = grind (arith, b.had.came.only f 1 fresh e, b.had.came.are.1.0.part)

  arrivals_at : (f : ℕ) → u.part f ≡ None → a.part f ≡ Some 2 → f ≡ x.file
  arrivals_at f fresh e = grind (arith, b.had.came.only f 2 fresh e, b.had.came.are.0.part)

  config_stands : (f : ℕ) → IsTrue u.tells → u.part f ≡ None → a.part f ≡ Some 1 → (f ≢ x.file) × IsOther a (outputs_at (sole_of n)) (a.name f)
  config_stands f t fresh e =
      let told = b.come.keeps.tells ∙ t in
      let d = b.distinct in
      let named : a.name f ≡ n.config = ap a.name (config_at f fresh e) ∙ b.had.came.are.0.name t in (
        λ same. let two = b.had.came.are.1.0.part in cc,
        subst (IsOther a (outputs_at (sole_of n))) (sym named) ((told, d.config_departures), ((told, d.config_fates), ((told, d.config_stats), tt))),
      )

-- THE PLAY ENDS
module _ {stood : List LabelledEvent → Type 0} {kept : List KeptFate → Type 0} {u a v : View} {n : Names} {seed : ℕ} {p : Play} {r : ReadConf} {x : Arrivals}
    {y : Result Totals PlayFault} (b : Begins u a n seed p r x) (o : OnlyPlays a v p)
    (e : HasEnded stood kept u a v (inputs_at n) (r.file ∷ x.file ∷ []) p y) where
  module _ {w : View} (k : OnlySays v w) where
    ended : Ended stood kept u w (sole_of n) seed (source_at b) (inputs_at n) y
    ended = ended_at (source_at b) b.places b.seeded b.come.keeps.tells (is_source b) e k

    left : LeavesInputs a w (sole_of n) x.file
    left = left_by 2 b.places b.file (begins_there b) o k

    keeps_inputs : KeepsInputs u a w
    keeps_inputs = record {
      config = λ f t fresh h. left.keeps.left f 1 h (config_stands b f t fresh h);
      arrivals = λ f t fresh h rest at.
          let is = arrivals_at b f fresh h in
          let z = left.took (b.come.keeps.tells ∙ t) rest (sym (ap a.left is) ∙ at) in
          (z.0, ap w.left is ∙ z.1, z.2);
      part = left.keeps.part;
      no_config = λ f fresh h. omega (arith, left.only f 1 fresh h);
      no_arrivals = λ f fresh h. omega (arith, left.only f 2 fresh h);
    }

    -- inputs came first, the files are those of the plan, and the outputs hold fronts
    pub play_stands : Stands (play_command n) (PlayLeaves u w n seed) u w
    play_stands = record {
      ready = both_ready u a _ n.arrivals r x refl b.had;
      files =
          files_end (play_plan n) u w ended.along
          ((play_reads n).few u w (few_kept _ _ u a w 1 n.config b.come.few left.keeps keeps_inputs.no_config (config_stands b)));
      first =
          first_on (play_command n) u a w (both_ready u a _ n.arrivals r x refl b.had) (both_read u a _ n.arrivals r x b.had)
          (both_begun u a _ n.arrivals r x refl b.had) keeps_inputs;
      leaves = λ t i g ready is.
          let P : Interface → Given → Type 0 = λ j h. Fronts u w (sole_of n) seed (source_by j h)
          → Fronts u w (sole_of n) seed (source_by i.configured.found g) in
          of_given u a (play_command n).asked n.arrivals r x P refl b.had t (record { inputs = i; ready = ready; given = g; is_given = is; holds = λ z. z })
          (ended.fronts t);
    }

    -- what must come
    pub play_must : IsTrue u.tells → IsQuiet u w → (z : Outcome) → PlayExpected u n seed z → IsOrMemory (play_outcome link.Sole (sole_of n) y) z
    play_must t q z h =
        ended.must t q link.Sole z
        (of_given u a (play_command n).asked n.arrivals r x (λ i g. PlayExpects seed (source_by i g) link.Sole z) refl b.had t h)

-- THE HEADLINE holds of a play that is done, and its history is that which a discipline represents
pub record PlayedSo (stood : List LabelledEvent → Type 0) (u v : View) (n : Names) (seed : ℕ) (p : Play) : Type 0 where
  pub played : HasPlayed u v n seed
  pub interface : played.interface ≡ p.interface.now
  pub stands : IsStanding stood played.played.history

module _ {stood : List LabelledEvent → Type 0} {kept : List KeptFate → Type 0} {u a v : View} {n : Names} {seed : ℕ} {p : Play} {r : ReadConf} {x : Arrivals}
    {totals : Totals} (b : Begins u a n seed p r x) (o : OnlyPlays a v p)
    (e : HasEnded stood kept u a v (inputs_at n) (r.file ∷ x.file ∷ []) p (Ok totals)) where
  pub play_done : {w : View} → OnlySays v w → IsTrue u.tells → PlayedSo stood u w n seed p
  play_done k t =
      let c = b.had.configured in
      let d = (ended b o e k).done t in
      let P : Option Interface → Type 0 = λ o. TextSays u (play_command n).asked (Accepted (record { interfaces = c.interfaces; found = c.found; next = o })) in
      record {
        played = record {
          interface = c.found;
          interfaces = c.interfaces;
          given = given_at b t;
          configuration = subst P (no_next c.next b.had.accepted.next) (accepted_says u (play_command n).asked r.conf c t b.had.accepted);
          arrivals = (b.had.given t).at;
          read = (b.had.given t).follows.read;
          played = d.played;
        };
        interface = found_is b;
        stands = d.stands;
      }

  -- A PLAY THAT IS DONE, AND ONE THAT FAILS
  pub play_ends : PlayEnds u v n seed (Ok done.Done)
  play_ends =
      stands_done (play_stands b o e (says_nothing v)) done.Done ((λ t. (play_done (says_nothing v) t).played), o.said ∙ b.come.said) e.counts
      (play_must b o e (says_nothing v))

module _ {stood : List LabelledEvent → Type 0} {kept : List KeptFate → Type 0} {u a v : View} {n : Names} {seed : ℕ} {p : Play} {r : ReadConf} {x : Arrivals}
    {f : PlayFault} (b : Begins u a n seed p r x) (o : OnlyPlays a v p)
    (e : HasEnded stood kept u a v (inputs_at n) (r.file ∷ x.file ∷ []) p (Err f)) where
  pub play_fails : PlayOwn u v n seed (play_failure link.Sole (sole_of n) f)
  play_fails = fails_at f (OfPlayed u n) b.places b.seeded (of_played b) e.fails

  pub play_failed : {g : Failure} → g ≡ play_failure link.Sole (places_in p) f → PlayEnds u v n seed (Err g)
  play_failed same =
      stands_fails (play_stands b o e (says_nothing v)) _ (same ∙ ap (λ (w : Places). play_failure link.Sole w f) b.places) play_fails
      (play_must b o e (says_nothing v)) (o.said ∙ b.come.said)

-- INPUTS THAT ARE NOT HAD leave the outputs
come_stays : {u a : View} (n : Names) → HaveCome (play_command n).asked u a → AllStay u a (sole_of n)
come_stays {u = u} {a = a} n h =
    all_stay h.keeps (sole_of n)
    (λ e m f fresh k. no_both n (number_of e) m ((files_end (inputs_at n) u a h.along (h.few, (tt, tt))).parts f (number_of e) fresh k)) tt tt tt

pub come_leaves : (u a : View) (n : Names) (seed : ℕ) → HaveCome (play_command n).asked u a → PlayLeaves u a n seed
come_leaves u a n seed h t i g ready is = unbegun_fronts u a (sole_of n) seed (source_by i.configured.found g) (come_stays n h)

pub play_unready : (u a : View) (n : Names) (seed : ℕ) (y : Unready) → HaveCome (play_command n).asked u a → IsUnready (play_command n).asked u a y
    → PlayEnds u a n seed (Err (unready_failure link.Sole y))
play_unready u a n seed y h m =
    unready_ends (play_command n) (PlayDone u a n seed) (PlayOwn u a n seed) (PlayExpected u n seed) (PlayLeaves u a n seed) (play_reads n) u a y
    (λ p e. (e.inputs, e.ready)) h m (come_leaves u a n seed h)

-- the words were accepted, but memory ran out while they were read
pub play_unread : (u : View) (n : Names) (seed : ℕ) → PlayEnds u u n seed (Err failure.NoMemory)
play_unread u n seed =
    unread_ends (play_command n) (PlayDone u u n seed) (PlayOwn u u n seed) (PlayExpected u n seed) (PlayLeaves u u n seed) (play_reads n) u
    (come_leaves u u n seed (none_come u (play_command n).asked))
