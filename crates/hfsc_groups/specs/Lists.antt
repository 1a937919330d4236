-- Where a class may be put anew into a list.
use Rattle.std.specs.Prelude.{◌≡◌, ℕ, Bool, true}
use Rattle.ranking.specs.declared.Ranking.{Ranking}
use Rattle.ranking.specs.Order.{is_in}
use Rattle.ranking.specs.Ranking.{HasPlace, order_of}
use Rattle.hfsc_groups.specs.declared.late.LimitedChildren.{LimitedChildren}
use Rattle.hfsc_groups.specs.Late.{HasLatePlace}

-- a class may be put in anew
pub record MayReplace (class : ℕ) (was : Bool) (old : Ranking) : Type 0 where
  pub place : HasPlace old class
  pub there : is_in class (order_of old) ≡ was

-- each class of one list has a place for its key in another
abbrev pub HasKeys : Ranking → LimitedChildren → Type 0
HasKeys one other = (c : ℕ) → is_in c (order_of one) ≡ true → HasLatePlace other c
