-- The outcome of a file is a reading of it.
use Rattle.std.specs.Prelude.{◌≡◌, ◌≤◌, ◌+◌, ◌++◌, ℕ, zero, suc, Bool, true, false, nat_le, List, [], ◌∷◌, length, if◌then◌else◌}
use Rattle.std.proofs.Common.{refl, ap, subst, sym, arith}
use Rattle.std.proofs.lemmas.Bool.{le-leb}
use Rattle.capture_model.specs.Capture.{Record}
use Rattle.pcapng_model.specs.Reading.{Place, Block, Step, End, Next, Fault, Limit, Outcome, more, outcome, outcome_on, step, past, packets_in, IsLast, ReadsFrom, Reads, start}
use Rattle.pcapng_model.proofs.StandLemmas.{next_place}

abbrev AreRead : List ℕ → Place → Outcome → Type 0
AreRead bytes p o = ReadsFrom bytes p o.records o.last

ends_here : (bytes : List ℕ) (p : Place) (s : Step) → step bytes p ≡ s → AreRead bytes p (record { records = []; last = s })
ends_here bytes p s h = record { blocks = []; stand = tt; ended = h; packets_are = refl }

one_more : (bytes : List ℕ) (p : Place) (b : Block) (o : Outcome) → step bytes p ≡ Next b → AreRead bytes (past p b) o → AreRead bytes p (more (packets_in b.found) o)
one_more bytes p b o h r = record {
  blocks = b ∷ r.blocks;
  stand = (h, r.stand);
  ended = r.ended;
  packets_are = ap (λ (rs : List Record). packets_in b.found ++ rs) r.packets_are;
}

step_reads : (turns : ℕ) (bytes : List ℕ) (p : Place) → ((b : Block) → AreRead bytes (past p b) (outcome_on turns bytes (past p b)))
    → (s : Step) → step bytes p ≡ s
    → AreRead bytes p (elim s [
      | End ↦ record { records = []; last = End }
      | Next b ↦ more (packets_in b.found) (outcome_on turns bytes (past p b))
      | Fault f ↦ record { records = []; last = Fault f }
      | Limit ↦ record { records = []; last = Limit }
    ])
step_reads turns bytes p rest End h = ends_here bytes p End h
step_reads turns bytes p rest (Next b) h = one_more bytes p b (outcome_on turns bytes (past p b)) h (rest b)
step_reads turns bytes p rest (Fault f) h = ends_here bytes p (Fault f) h
step_reads turns bytes p rest Limit h = ends_here bytes p Limit h

-- over whatever turns the outcome is a reading
outcome_reads : (turns : ℕ) (bytes : List ℕ) (p : Place) → AreRead bytes p (outcome_on turns bytes p)
outcome_reads zero bytes p = ends_here bytes p (step bytes p) refl
outcome_reads (suc turns) bytes p = step_reads turns bytes p (λ b. outcome_reads turns bytes (past p b)) (step bytes p) refl

pub reads_outcome : (bytes : List ℕ) → Reads bytes (outcome bytes).records (outcome bytes).last
reads_outcome bytes = outcome_reads (length bytes) bytes start

end_case : (a : Bool) (rest : Step) → a ≡ true → (if a then End else rest) ≡ End
end_case true rest h = refl
end_case false rest h = absurd (cc)

pub at_end : (bytes : List ℕ) (p : Place) → length bytes ≤ p.at → step bytes p ≡ End
at_end bytes p h = end_case (nat_le (length bytes) p.at) _ (le-leb (length bytes) p.at h)

is_last_end : (s : Step) → s ≡ End → IsLast s
is_last_end s h = subst IsLast (sym h) tt

abbrev Ends : Outcome → Type 0
Ends o = IsLast o.last

step_lasts : (turns : ℕ) (bytes : List ℕ) (p : Place)
    → ((b : Block) → length bytes ≤ b.after + turns → Ends (outcome_on turns bytes (past p b)))
    → length bytes ≤ p.at + suc turns → (s : Step) → step bytes p ≡ s
    → Ends (elim s [
      | End ↦ record { records = []; last = End }
      | Next b ↦ more (packets_in b.found) (outcome_on turns bytes (past p b))
      | Fault f ↦ record { records = []; last = Fault f }
      | Limit ↦ record { records = []; last = Limit }
    ])
step_lasts turns bytes p rest enough End h = tt
step_lasts turns bytes p rest enough (Next b) h = rest b (omega (arith, (next_place bytes p b h).0, enough))
step_lasts turns bytes p rest enough (Fault f) h = tt
step_lasts turns bytes p rest enough Limit h = tt

-- over as many turns as the file has bytes something is told that is no block
outcome_lasts : (turns : ℕ) (bytes : List ℕ) (p : Place) → length bytes ≤ p.at + turns → Ends (outcome_on turns bytes p)
outcome_lasts zero bytes p enough = is_last_end (step bytes p) (at_end bytes p (omega (arith, enough)))
outcome_lasts (suc turns) bytes p enough =
    step_lasts turns bytes p (λ b h. outcome_lasts turns bytes (past p b) h) enough (step bytes p) refl

pub outcome_ends : (bytes : List ℕ) → IsLast (outcome bytes).last
outcome_ends bytes = outcome_lasts (length bytes) bytes start (omega arith)
