-- The arrivals are opened and begun.
use Rattle.std.proofs.Common.{◌≡◌, ◌∙◌, ◌≤◌, ℕ, true, List, [], ◌∷◌, Some, length, refl}
use Rattle.arrivals_front.specs.Given.{Follows, IsBegunAt, IsRefused}
use Rattle.arrivals_front.specs.Taking.{TookSome}
use Rattle.arrivals_front.specs.declared.given.Given.{Given}
use Rattle.arrivals_front.specs.declared.given.GivenFault.{GivenFault}
use Rattle.arrivals_front.specs.declared.given.GivenFault.TheVariants as fault
use Rattle.file_plans.specs.Came.{Came, IsReady}
use Rattle.file_plans.specs.declared.part.Part.TheVariants as part
use Rattle.file_plans.specs.Plan.{read_place}
use Rattle.play_base.specs.View.{View}
use Rattle.play_base.specs.declared.trouble.Trouble.{Trouble}
use Rattle.play_base.specs.declared.trouble.Trouble.TheVariants as trouble
use Rattle.run_inputs.specs.Meets.{CannotRead}
use Rattle.run_inputs.specs.Reading.{IsBegun, IsUnbegun, unbegun, unread}
use Rattle.run_inputs.specs.declared.stop.Stop.TheVariants as stop
use Rattle.run_inputs.proofs.OpenLemmas.{cannot_take, one_took, some_bytes}

pub is_begun : (name : List ℕ) (file : ℕ) (x : Given) (a b c : View) → Came (read_place part.Arrivals name ∷ []) (file ∷ []) a b
    → IsReady a b (read_place part.Arrivals name) file → ((given : List ℕ) → b.left file ≡ Some given → Follows c file given x)
    → ((given : List ℕ) → b.left file ≡ Some given → IsBegunAt c file given) → (x.rest ≡ true → length x.front.items ≤ 4) → TookSome b c file
    → IsBegun a c name (record { file = file; given = x })
is_begun name file x a b c came ready follows begun few t = record {
  came = one_took part.Arrivals name file t.0 a b c came t.1;
  follows = λ told given at. follows given ((ready told).1 ∙ at);
  begun = λ told given at. begun given ((ready told).1 ∙ at);
  there = λ told. some_bytes (a.bytes name) (ready told).0;
  few = few;
}

pub unread_arrivals : (name : List ℕ) (a b : View) (t : Trouble) → (t ≡ trouble.Failed → CannotRead a b part.Arrivals name)
    → IsUnbegun a b name (unread stop.NoArrivals t)
unread_arrivals name a b trouble.Failed h = h refl
unread_arrivals name a b trouble.NoMemory h = tt

pub is_unbegun : (name : List ℕ) (file : ℕ) (f : GivenFault) (a b c : View) → Came (read_place part.Arrivals name ∷ []) (file ∷ []) a b
    → IsReady a b (read_place part.Arrivals name) file → IsRefused b c file f → IsUnbegun a c name (unbegun f)
is_unbegun name file (fault.At block) a b c came ready r = λ told.
    let s = some_bytes (a.bytes name) (ready told).0 in
    let y = r s.0 ((ready told).1 ∙ s.1) in
    record { bytes = s.0; at = s.1; begins = y.0; cause = y.1 }
is_unbegun name file fault.Limit a b c came ready r = λ told.
    let s = some_bytes (a.bytes name) (ready told).0 in
    let y = r s.0 ((ready told).1 ∙ s.1) in
    record { bytes = s.0; at = s.1; begins = y.0; cause = y.1 }
is_unbegun name file fault.Read a b c came ready r = cannot_take part.Arrivals name file a b c came r
is_unbegun name file fault.NoMemory a b c came ready r = tt
