-- Files of which one is marked tell what each of them has left, where those behind them do: a lemma that the impl of `Files` cites,
-- and so of specs/.
use Rattle.std.proofs.Common.{◌≡◌, ap, ℕ, List}
use Rattle.std.specs.Prelude.{Bool, true, false, eqb, IsSome, is_some, None, Some}
use Rattle.std.specs.declared.option.Option.{Option}
use Rattle.play_base.specs.View.{View, TellsLeft}
use Rattle.marked_files.specs.Through.{marked_view, with_marks}

some_left : (own tells : Bool) (become : List ℕ → List ℕ) (left : Option (List ℕ)) → tells ≡ true → IsSome left → IsSome (with_marks own tells become left)
some_left true tells become None t some = absurd (cc)
some_left true tells become (Some x) t some = ap (λ b. is_some (with_marks true b become (Some x))) t
some_left false tells become left t some = some

pub marked_tells : (v : View) (reference file marker : ℕ) (become : List ℕ → List ℕ) → TellsLeft v → TellsLeft (marked_view v reference file marker become)
marked_tells v reference file marker become told f part tells there =
    some_left (eqb f file) v.tells become (v.left f) tells (told f part tells there)
