-- Rows fail in one way.
use Rattle.std.proofs.Common.{◌≡◌, ◌∙◌, ℕ, List, [], ◌∷◌, ◌++◌, length, refl, sym, subst, arith, inl, inr}
use Rattle.fate_check.specs.declared.reading.Row.{Row}
use Rattle.fate_judge.specs.declared.given.Kind.{Kind}
use Rattle.fate_judge.specs.declared.given.Kind.TheVariants as kind
use Rattle.fate_judge.specs.Ends.{HasEnd}
use Rattle.fate_judge.specs.Judged.{Case, FailsFirst, IsRefuted, Passes, PassesAll}
use Rattle.fate_judge.specs.Order.{RowIsInOrder}
use Rattle.fate_judge.specs.Reading.{IsRead}
use Rattle.fate_judge.specs.Tests.{HaveOne, IsInTime, IsNewPacket, LacksOne}
use Rattle.fate_judge.specs.Walk.{EachRow, FirstFails, newest_first}
use Rattle.fate_judge.proofs.Walking.{each_at}

head_is : (x y : Row) (xs ys : List Row) → x ∷ xs ≡ y ∷ ys → x ≡ y
head_is x y xs ys e = cc

tail_is : (x y : Row) (xs ys : List Row) → x ∷ xs ≡ y ∷ ys → xs ≡ ys
tail_is x y xs ys e = cc

-- two first rows that are not so, each with the rows before it, stand behind as many
as_many : (IsSo : List Row → Row → Type 0) (before xs ys : List Row) (a b : Row) (va vb : List Row) → xs ++ a ∷ va ≡ ys ++ b ∷ vb
    → EachRow IsSo before xs → (IsSo (newest_first xs before) a → ⊥) → EachRow IsSo before ys → (IsSo (newest_first ys before) b → ⊥)
    → length xs ≡ length ys
as_many IsSo before [] [] a b va vb e px fa py fb = refl
as_many IsSo before [] (y ∷ ys) a b va vb e px fa py fb =
    let P : Row → Type 0 = IsSo before in
    absurd (fa (subst P (sym (head_is a y va (ys ++ b ∷ vb) e)) py.0))
as_many IsSo before (x ∷ xs) [] a b va vb e px fa py fb =
    let P : Row → Type 0 = IsSo before in
    absurd (fb (subst P (head_is x b (xs ++ a ∷ va) vb e) px.0))
as_many IsSo before (x ∷ xs) (y ∷ ys) a b va vb e px fa py fb =
    let same : y ≡ x = sym (head_is x y (xs ++ a ∷ va) (ys ++ b ∷ vb) e) in
    let Q : Row → Type 0 = λ r. EachRow IsSo (r ∷ before) ys in
    let R : Row → Type 0 = λ r. IsSo (newest_first ys (r ∷ before)) b → ⊥ in
    let rest = as_many IsSo (x ∷ before) xs ys a b va vb (tail_is x y (xs ++ a ∷ va) (ys ++ b ∷ vb) e) px.1 fa (subst Q same py.1) (subst R same fb) in
    omega (arith, rest)

pub one_first : (IsSo : List Row → Row → Type 0) (rows : List Row) (row other : ℕ) → FirstFails IsSo rows row → FirstFails IsSo rows other → row ≡ other
one_first IsSo rows row other f g =
    let many = as_many IsSo [] f.before g.before f.at g.at f.behind g.behind (sym f.parts ∙ g.parts) f.passed f.fails g.passed g.fails in
    omega (arith, many, f.place, g.place)

pub none_first : (IsSo : List Row → Row → Type 0) (rows : List Row) (row : ℕ) → EachRow IsSo [] rows → FirstFails IsSo rows row → ⊥
none_first IsSo rows row each f =
    let P : List Row → Type 0 = EachRow IsSo [] in
    f.fails (each_at IsSo [] f.before f.behind f.at (subst P f.parts each))

one_lack : (count : ℕ) (rows : List Row) (row other : ℕ) → LacksOne count rows row → LacksOne count rows other → row ≡ other
one_lack count rows row other (inl f) (inl g) = one_first IsNewPacket rows row other f g
one_lack count rows row other (inl f) (inr g) = absurd (none_first IsNewPacket rows row g.each f)
one_lack count rows row other (inr f) (inl g) = absurd (none_first IsNewPacket rows other f.each g)
one_lack count rows row other (inr f) (inr g) = omega (arith, f.place, g.place)

no_lack : (count : ℕ) (rows : List Row) (row : ℕ) → HaveOne count rows → LacksOne count rows row → ⊥
no_lack count rows row h (inl f) = none_first IsNewPacket rows row h.each f
no_lack count rows row h (inr f) = let some = h.all f.number f.from_one f.there in omega (arith, some, f.none)

one_row : (c : Case) (k : Kind) (row other : ℕ) → FailsFirst c k row → FailsFirst c k other → row ≡ other
one_row c kind.Reading row other f g = one_first (IsRead c.classes c.arrived) c.rows row other f g
one_row c kind.EachOnce row other f g = one_lack (length c.arrived) c.rows row other f g
one_row c kind.Order row other f g = one_first (RowIsInOrder c.arrived) c.rows row other f g
one_row c kind.Moments row other f g = one_first (IsInTime c.arrived) c.rows row other f g
one_row c kind.Ends row other f g = one_first (HasEnd c.rate c.arrived) c.rows row other f g

pub never_both : (c : Case) (k : Kind) (row : ℕ) → Passes c k → FailsFirst c k row → ⊥
never_both c kind.Reading row p f = none_first (IsRead c.classes c.arrived) c.rows row p f
never_both c kind.EachOnce row p f = no_lack (length c.arrived) c.rows row p f
never_both c kind.Order row p f = none_first (RowIsInOrder c.arrived) c.rows row p f
never_both c kind.Moments row p f = none_first (IsInTime c.arrived) c.rows row p f
never_both c kind.Ends row p f = none_first (HasEnd c.rate c.arrived) c.rows row p f

one_kind : (c : Case) (row other : ℕ) (k j : Kind) → IsRefuted c row k → IsRefuted c other j → k ≡ j
one_kind c row other kind.Reading kind.Reading f g = refl
one_kind c row other kind.Reading kind.EachOnce f g = absurd (never_both c kind.Reading row g.lesser f.first)
one_kind c row other kind.Reading kind.Order f g = absurd (never_both c kind.Reading row g.lesser.0 f.first)
one_kind c row other kind.Reading kind.Moments f g = absurd (never_both c kind.Reading row g.lesser.0 f.first)
one_kind c row other kind.Reading kind.Ends f g = absurd (never_both c kind.Reading row g.lesser.0 f.first)
one_kind c row other kind.EachOnce kind.Reading f g = absurd (never_both c kind.Reading other f.lesser g.first)
one_kind c row other kind.EachOnce kind.EachOnce f g = refl
one_kind c row other kind.EachOnce kind.Order f g = absurd (never_both c kind.EachOnce row g.lesser.1 f.first)
one_kind c row other kind.EachOnce kind.Moments f g = absurd (never_both c kind.EachOnce row g.lesser.1 f.first)
one_kind c row other kind.EachOnce kind.Ends f g = absurd (never_both c kind.EachOnce row g.lesser.1 f.first)
one_kind c row other kind.Order kind.Reading f g = absurd (never_both c kind.Reading other f.lesser.0 g.first)
one_kind c row other kind.Order kind.EachOnce f g = absurd (never_both c kind.EachOnce other f.lesser.1 g.first)
one_kind c row other kind.Order kind.Order f g = refl
one_kind c row other kind.Order kind.Moments f g = absurd (never_both c kind.Order row g.lesser.2 f.first)
one_kind c row other kind.Order kind.Ends f g = absurd (never_both c kind.Order row g.lesser.2 f.first)
one_kind c row other kind.Moments kind.Reading f g = absurd (never_both c kind.Reading other f.lesser.0 g.first)
one_kind c row other kind.Moments kind.EachOnce f g = absurd (never_both c kind.EachOnce other f.lesser.1 g.first)
one_kind c row other kind.Moments kind.Order f g = absurd (never_both c kind.Order other f.lesser.2 g.first)
one_kind c row other kind.Moments kind.Moments f g = refl
one_kind c row other kind.Moments kind.Ends f g = absurd (never_both c kind.Moments row g.lesser.3 f.first)
one_kind c row other kind.Ends kind.Reading f g = absurd (never_both c kind.Reading other f.lesser.0 g.first)
one_kind c row other kind.Ends kind.EachOnce f g = absurd (never_both c kind.EachOnce other f.lesser.1 g.first)
one_kind c row other kind.Ends kind.Order f g = absurd (never_both c kind.Order other f.lesser.2 g.first)
one_kind c row other kind.Ends kind.Moments f g = absurd (never_both c kind.Moments other f.lesser.3 g.first)
one_kind c row other kind.Ends kind.Ends f g = refl

pub one_answer : (c : Case) (row other : ℕ) (k j : Kind) → IsRefuted c row k → IsRefuted c other j → (row ≡ other) × (k ≡ j)
one_answer c row other k j f g =
    let same = one_kind c row other k j f g in
    let P : Kind → Type 0 = λ i. FailsFirst c i other in
    (one_row c k row other f.first (subst P (sym same) g.first), same)

pub not_refuted : (c : Case) (row : ℕ) (k : Kind) → PassesAll c → IsRefuted c row k → ⊥
not_refuted c row k all f = never_both c k row (all k) f.first
