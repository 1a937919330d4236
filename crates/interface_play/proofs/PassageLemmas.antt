-- What a play sees through a source of arrivals over counted files.
use Rattle.std.proofs.Common.{◌≡◌, ◌≤◌, ◌∙◌, ◌++◌, ℕ, Bool, true, false, List, None, Some, Ok, Err, ap, arith, refl, sym}
use Rattle.std.specs.Prelude.{IsTrue, OnOk, eqb, nat_eq, ◌||◌, option_map}
use Rattle.std.specs.declared.result.Result.{Result}
use Rattle.altq_model.specs.History.{LabelledEvent}
use Rattle.std.specs.declared.option.Option.{Option}
use Rattle.arrivals_source.specs.Chosen.{IsWayOf, first_of, is_marking, is_streamed}
use Rattle.arrivals_source.specs.Counted.{counted_view}
use Rattle.arrivals_source.specs.Ways.{held_by, source_view, way_number, way_own, with_way}
use Rattle.arrivals_source.specs.declared.way.Way.{Way}
use Rattle.arrivals_source.specs.declared.way.Way.TheVariants.{AsGiven, Converted, Marked, MarkedConverted}
use Rattle.arrivals_source.proofs.SourceLaws.{keeps_back, left_self, streamed_mine}
use Rattle.arrivals_source.proofs.CountedLaws.{keeps_behind}
use Rattle.frame_classes.specs.Frames.{Classes, placed_by}
use Rattle.interface_marks.specs.Conditioners.{is_conditioned, marked_in}
use Rattle.pcapng_files.specs.declared.front.Front.{Front}
use Rattle.pcapng_files.specs.Fronts.{with_front}
use Rattle.play_base.specs.View.{View, SameCounts}
use Rattle.play_core.specs.declared.totals.Totals.{Totals}
use Rattle.play_loop.specs.declared.fault.PlayFault.{PlayFault}
use Rattle.play_loop.specs.declared.kept.KeptFate.{KeptFate}
use Rattle.play_loop.specs.Setup.{Setup}
use Rattle.play_loop.specs.declared.fault.Opened.{Opened}
use Rattle.interface_play.specs.declared.play.Play.{Play}
use Rattle.interface_play.specs.Steps.{CameOf, CameThrough, IsHeld, Passage, Stays}

some_is : (x y : List ℕ) → Some x ≡ Some y → x ≡ y
some_is x y h = cc

behind_first : (first z : List ℕ) (o : Option (List ℕ)) → option_map (λ (own : List ℕ). first ++ own) o ≡ Some z
    → (own : List ℕ) × (o ≡ Some own) × (first ++ own ≡ z)
behind_first first z None h = absurd (cc)
behind_first first z (Some own) h = (own, refl, some_is (first ++ own) z h)

-- the number of a way tells how it reads
streamed_by : (way : Way Classes) → is_streamed way ≡ (nat_eq (way_number way) 0 || nat_eq (way_number way) 2)
streamed_by AsGiven = refl
streamed_by Converted = refl
streamed_by (Marked m) = refl
streamed_by (MarkedConverted m) = refl

marking_by : (way : Way Classes) → is_marking way ≡ (nat_eq (way_number way) 2 || nat_eq (way_number way) 3)
marking_by AsGiven = refl
marking_by Converted = refl
marking_by (Marked m) = refl
marking_by (MarkedConverted m) = refl

-- as given nothing is held
exact : (front : Front) (way : Way Classes) (tells : Bool) (left : Option (List ℕ)) (rest : List ℕ) → is_streamed way ≡ true → is_marking way ≡ false
    → way_own placed_by front way tells left ≡ Some rest → left ≡ Some rest
exact front AsGiven tells left rest s m e = e
exact front Converted tells left rest s m e = absurd (cc)
exact front (Marked k) tells left rest s m e = absurd (cc)
exact front (MarkedConverted k) tells left rest s m e = absurd (cc)

held_of : (b : Bool) (front : Front) (way : Way Classes) (tells : Bool) (left : Option (List ℕ)) (rest : List ℕ) → is_streamed way ≡ true → is_marking way ≡ b
    → held_by way ≤ 262160 → way_own placed_by front way tells left ≡ Some rest → (mine : List ℕ) × (left ≡ Some mine) × IsHeld b rest mine
held_of true front way tells left rest s m few e =
    let y = streamed_mine placed_by front way tells left rest s e in
    let l = y.within in (y.bytes, y.left_is, omega (arith, l, few))
held_of false front way tells left rest s m few e = (rest, exact front way tells left rest s m e, refl)

-- a source before the play and after it, over files that told `v` and tell `w`: `next` is its file and `ahead` its front then
pub record Sourced (p : Play) (o : Opened) : Type 0 where
  pub way : Way Classes
  pub later : Way Classes
  pub front : Front
  pub ahead : Front
  pub next : ℕ
  pub is_way : IsWayOf p.interface.now p.given.now way
  pub rest : front.rest ≡ p.given.now.rest
  pub bytes : front.bytes.now ≡ p.given.now.front.items
  pub first : o.first.now ≡ first_of way p.given.now.front.items
  pub next_is : next ≡ o.arrivals
  pub number : way_number later ≡ way_number way
  pub few : held_by later ≤ 262160

module _ (p : Play) (o : Opened) (v w : View) (s : Sourced p o) where
  abbrev pub Before : ℕ → Option (List ℕ)
  Before = λ f. with_way (eqb f o.arrivals) placed_by s.front s.way v.tells (v.left f)

  abbrev pub After : ℕ → Option (List ℕ)
  After = λ f. with_way (eqb f s.next) placed_by s.ahead s.later w.tells (w.left f)

  pub joined : IsTrue v.tells → (capture : List ℕ) → with_front true p.given.now.rest p.given.now.front.items (v.left o.arrivals) ≡ Some capture
      → (rest : List ℕ) × (Before o.arrivals ≡ Some rest) × (o.first.now ++ rest ≡ marked_in p.interface.now capture)
  joined t capture e =
      let i = p.interface.now in
      let gv = p.given.now in
      let left : Option (List ℕ) = v.left o.arrivals in
      let own : Option (List ℕ) = way_own placed_by s.front s.way true left in
      let all : option_map (λ (own : List ℕ). first_of s.way gv.front.items ++ own) own ≡ Some (marked_in i capture) =
      s.is_way.shows s.front left s.rest s.bytes ∙ ap (λ (o : Option (List ℕ)). option_map (marked_in i) o) e in
      let y = behind_first (first_of s.way gv.front.items) (marked_in i capture) own all in (
        y.0,
        left_self o.arrivals placed_by s.front s.way v.tells left ∙ ap (λ (b : Bool). way_own placed_by s.front s.way b left) t ∙ y.1,
        ap (λ (l : List ℕ). l ++ y.0) s.first ∙ y.2,
      )

  pub past : p.given.now.rest ≡ true → (rest : List ℕ) → After o.arrivals ≡ Some rest
      → (mine : List ℕ) × (w.left o.arrivals ≡ Some mine) × IsHeld (is_conditioned p.interface.now) rest mine
  past streamed rest e =
      let left : Option (List ℕ) = w.left o.arrivals in
      let own : way_own placed_by s.ahead s.later w.tells left ≡ Some rest =
      sym (left_self o.arrivals placed_by s.ahead s.later w.tells left)
      ∙ ap (λ (n : ℕ). with_way (eqb o.arrivals n) placed_by s.ahead s.later w.tells left) (sym s.next_is) ∙ e in
      let is_read : is_streamed s.later ≡ true =
      streamed_by s.later ∙ ap (λ (n : ℕ). nat_eq n 0 || nat_eq n 2) s.number ∙ sym (streamed_by s.way) ∙ s.is_way.streams ∙ streamed in
      let is_marked : is_marking s.later ≡ is_conditioned p.interface.now =
      marking_by s.later ∙ ap (λ (n : ℕ). nat_eq n 2 || nat_eq n 3) s.number ∙ sym (marking_by s.way) ∙ s.is_way.marks in
      held_of (is_conditioned p.interface.now) s.ahead s.later w.tells left rest is_read is_marked s.few own

  abbrev pub passage : (fixed_before fixed_after : List ℕ) → Passage p o v w
  passage fixed_before fixed_after =
      record { before = Before; after = After; fixed_before = fixed_before; fixed_after = fixed_after; joined = joined; past = past }

counts_of : (u w v z : View) (r : Result Totals PlayFault) → (SameCounts u w → SameCounts v z) → OnOk r (SameCounts u w) → OnOk r (SameCounts v z)
counts_of u w v z (Ok totals) k x = k x
counts_of u w v z (Err fault) k x = tt

-- a play over a source is one over the files behind it
module _ (p : Play) (o : Opened) (v w : View) (g h : ℕ) (s : Sourced p o) (r : Result Totals PlayFault) where
  abbrev Source : View
  Source = source_view placed_by v g o.arrivals s.front s.way

  abbrev Later : View
  Later = source_view placed_by w h s.next s.ahead s.later

  pub stays_back : Stays o r Source Later → Stays o r v w
  stays_back x = record {
    keeps = keeps_back placed_by v w g h o.arrivals s.next s.front s.ahead s.way s.later _ _ (λ f k. k.0) x.keeps;
    none = x.none;
    said = x.said;
    no_fault = counts_of Source Later v w r (λ k. record { read = k.read; write = k.write }) x.no_fault;
  }

  pub came_back : (x : Setup) (stood : List LabelledEvent → Type 0) (kept : List KeptFate → Type 0) → CameOf x stood kept o r Source Later
      → CameThrough x stood kept p o r v w
  came_back x stood kept h = record { passage = passage p o v w s Source.fixed Later.fixed; came = h }

-- a play over counted files is one over those behind them
pub stays_behind : (o : Opened) (r : Result Totals PlayFault) (v w : View) (g h file next taken : ℕ)
    → Stays o r (counted_view v g file 0) (counted_view w h next taken) → Stays o r v w
stays_behind o r v w g h file next taken x = record {
  keeps = keeps_behind v w g h file next taken _ _ x.keeps;
  none = x.none;
  said = x.said;
  no_fault = counts_of (counted_view v g file 0) (counted_view w h next taken) v w r (λ k. record { read = k.read; write = k.write }) x.no_fault;
}

pub came_behind : (x : Setup) (stood : List LabelledEvent → Type 0) (kept : List KeptFate → Type 0) (p : Play) (o : Opened) (r : Result Totals PlayFault)
    (v w : View) (g h file next taken : ℕ) → CameThrough x stood kept p o r (counted_view v g file 0) (counted_view w h next taken)
    → CameThrough x stood kept p o r v w
came_behind x stood kept p o r v w g h file next taken y =
    let z = y.passage in
    record {
      passage = record {
        before = z.before;
        after = z.after;
        fixed_before = z.fixed_before;
        fixed_after = z.fixed_after;
        joined = z.joined;
        past = z.past;
      };
      came = y.came;
    }
