-- The packets of a part of a history: `new` is what came after `old`, and as in every history the newest is the first.
use Rattle.std.specs.Prelude.{◌≡◌, ◌≤◌, ◌==◌, ◌||◌, ◌+◌, ◌-◌, ℕ, Bool, true, not, List, [], ◌∷◌, ◌++◌, length, if◌then◌else◌}
use Rattle.std.specs.List.{list_any}
use Rattle.altq_model.specs.declared.Verdict.{Verdict}
use Rattle.altq_model.specs.History.{is_kept, is_mark}
use Rattle.play_base.specs.Units.{ceil_div}
use Rattle.leaf_queue.specs.Queue.{QueueEvent, Enqueued, Dequeued, Saying}
use Rattle.red_average.specs.declared.ruling.Thresholds.{Thresholds}
use Rattle.red_average.specs.Ruling.{spacing}

-- which precedences are looked at: all, or one
abbrev pub any_precedence : ℕ → Bool
any_precedence prec = true

abbrev pub only : (j : ℕ) → ℕ → Bool
only j prec = j == prec

abbrev pub is_dropped : Verdict → Bool
is_dropped v = not (is_kept v)

-- dropped or marked: its sender can tell that there is congestion
abbrev pub is_told : Verdict → Bool
is_told v = is_mark v || not (is_kept v)

-- the verdicts that a rule says of the packets of the precedences that are looked at
abbrev pub verdicts : (looks : ℕ → Bool) → Saying → (new old : List QueueEvent) → List Verdict
verdicts looks says [] old = []
verdicts looks says (Enqueued now waiting prec w v ∷ new) old =
    if looks prec then (says (new ++ old) now waiting prec w).verdict ∷ verdicts looks says new old else verdicts looks says new old
verdicts looks says (Dequeued now prec waiting ∷ new) old = verdicts looks says new old

-- each of these packets leaves an average of at least `least`
abbrev pub IsAtLeast : (looks : Bool) → (least average : ℕ) → Type 0
IsAtLeast looks least average = looks ≡ true → least ≤ average

abbrev pub AreAtLeast : (looks : ℕ → Bool) → (average : List QueueEvent → ℕ) → (least : ℕ) → (new old : List QueueEvent) → Type 0
AreAtLeast looks average least [] old = Unit {0}
AreAtLeast looks average least (Enqueued now waiting prec w v ∷ new) old =
    IsAtLeast (looks prec) least (average (Enqueued now waiting prec w v ∷ (new ++ old))) × AreAtLeast looks average least new old
AreAtLeast looks average least (Dequeued now prec waiting ∷ new) old = AreAtLeast looks average least new old

-- how many packets are enough where each leaves an average of x or more over the lower threshold
abbrev pub enough : Thresholds → (x : ℕ) → ℕ
enough t x = ceil_div (spacing (t.high - t.low)) x + 1

-- of enough such packets in a row there is one of which the rule says what the test tells
abbrev pub OneIsTold : (looks : ℕ → Bool) → Thresholds → (average : List QueueEvent → ℕ) → Saying → (test : Verdict → Bool) → Type 0
OneIsTold looks t average says test = (x : ℕ) (new old : List QueueEvent) → 1 ≤ x → AreAtLeast looks average (t.low + x) new old
    → enough t x ≤ length (verdicts looks says new old) → list_any test (verdicts looks says new old) ≡ true
