-- What stays over no call, and over two.
use Rattle.std.proofs.Common.{refl, ◌∙◌}
use Rattle.discipline.specs.View.{DisciplineView, SameKind, Unchanged}

pub kind_refl : (a : DisciplineView) → SameKind a a
kind_refl a = record { policy = refl; limits = refl; link_rate = refl; fixed = refl }

pub kind_trans : (a b c : DisciplineView) → SameKind a b → SameKind b c → SameKind a c
kind_trans a b c x y = record {
  policy = y.policy ∙ x.policy;
  limits = y.limits ∙ x.limits;
  link_rate = y.link_rate ∙ x.link_rate;
  fixed = y.fixed ∙ x.fixed;
}

pub unchanged_refl : (a : DisciplineView) → Unchanged a a
unchanged_refl a = record {
  kind = kind_refl a;
  lists = λ c. refl;
  represents = λ h r. r;
  due = λ clock now. refl;
  moment = refl;
  ended = refl;
}

pub unchanged_trans : (a b c : DisciplineView) → Unchanged a b → Unchanged b c → Unchanged a c
unchanged_trans a b c x y = record {
  kind = kind_trans a b c x.kind y.kind;
  lists = λ k. y.lists k ∙ x.lists k;
  represents = λ h r. y.represents h (x.represents h r);
  due = λ clock now. y.due clock now ∙ x.due clock now;
  moment = y.moment ∙ x.moment;
  ended = y.ended ∙ x.ended;
}
