-- One read of a file.
use Rattle.std.specs.Prelude.{◌≡◌, ◌≤◌, ◌<◌, ℕ, List, length, take, IfOk, OnErr, OnOk, IsErrOf}
use Rattle.std.specs.declared.result.Result.{Result}
use Rattle.play_base.specs.View.{View, IsAtEnd, ReadFault, SameCounts, Took, Unchanged}
use Rattle.play_base.specs.declared.trouble.Trouble.{Trouble}
use Rattle.play_base.specs.declared.trouble.Trouble.TheVariants.{Failed}

-- what `Files` says of a read, of files that tell `v` before it and `w` after it
pub record ReadSo (v w : View) (file : ℕ) (into : List ℕ) (r : Result ℕ Trouble) : Type 0 where
  pub count : IfOk r (λ n. n ≤ length into)
  pub took : IfOk r (λ n. Took v w file (take n into))
  pub counts : OnOk r (SameCounts v w)
  pub ended : IfOk r (λ n. n ≡ 0 → 0 < length into → IsAtEnd w file)
  pub refused : OnErr r (Unchanged v w)
  pub failed : IsErrOf r Failed → ReadFault v w file
