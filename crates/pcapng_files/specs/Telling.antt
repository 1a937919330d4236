-- Files with a front tell what each of them has left, where those behind them do: a lemma that the impl of `Files` cites, and so of specs/.
use Rattle.std.proofs.Common.{◌≡◌, ℕ, List, refl}
use Rattle.std.specs.Prelude.{Bool, true, false, eqb, IsSome, None, Some}
use Rattle.std.specs.declared.option.Option.{Option}
use Rattle.play_base.specs.View.{View, TellsLeft}
use Rattle.pcapng_files.specs.Fronts.{with_front, front_view}

some_left : (own rest : Bool) (front : List ℕ) (left : Option (List ℕ)) → IsSome left → IsSome (with_front own rest front left)
some_left true true front None h = absurd (cc)
some_left true true front (Some own) h = refl
some_left true false front left h = refl
some_left false rest front left h = h

pub front_tells : (v : View) (g file : ℕ) (rest : Bool) (front : List ℕ) → TellsLeft v → TellsLeft (front_view v g file rest front)
front_tells v g file rest front told f part tells there = some_left (eqb f file) rest front (v.left f) (told f part tells there)
