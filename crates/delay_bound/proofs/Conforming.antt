-- Traffic that conforms, packet by packet: up to each packet, from each older one on.
use Rattle.std.proofs.Common.{◌≡◌, ◌≤◌, ◌+◌, ◌-◌, ◌*◌, ℕ, List, [], ◌∷◌, ◌++◌, append_assoc, refl, ap, sym, arith, ◌∙◌}
use Rattle.play_base.specs.Units.{units}
use Rattle.traffic_meter.specs.Conforming.{Conforms, amount, earliest}
use Rattle.traffic_meter.specs.History.{Metered, ArrivalsAreInOrder, latest}

-- with `sofar` units of newer packets up to the moment t, each older packet keeps to a rate and a burst
abbrev pub Within : (rate burst t sofar : ℕ) → List Metered → Type 0
Within rate burst t n [] = Unit {0}
Within rate burst t n (x ∷ xs) =
    (x.moment ≤ t) × (n + units x.len ≤ units burst + rate * (t - x.moment)) × Within rate burst t (n + units x.len) xs

-- from each packet on
abbrev pub Keep : (rate burst : ℕ) → List Metered → Type 0
Keep rate burst [] = Unit {0}
Keep rate burst (x ∷ xs) = Within rate burst x.moment 0 (x ∷ xs) × Keep rate burst xs

-- fewer newer units
pub within_less : (rate burst t n m : ℕ) (xs : List Metered) → m ≤ n → Within rate burst t n xs → Within rate burst t m xs
within_less rate burst t n m [] h a = tt
within_less rate burst t n m (x ∷ xs) h a = (a.0, omega (arith, a.1), within_less rate burst t (n + units x.len) (m + units x.len) xs (omega arith) a.2)

abbrev ComeBy : ℕ → List Metered → Type 0
ComeBy t [] = Unit {0}
ComeBy t (x ∷ xs) = (x.moment ≤ t) × ComeBy t xs

come_by : (t : ℕ) (xs : List Metered) → latest xs ≤ t → ArrivalsAreInOrder xs → ComeBy t xs
come_by t [] h o = tt
come_by t (x ∷ xs) h o = (h, come_by t xs (omega (arith, o.0)) o.1)

-- a stretch with one older packet
earliest_last : (s : List Metered) (z : Metered) → earliest (s ++ z ∷ []) ≡ z.moment
earliest_last [] z = refl
earliest_last (a ∷ []) z = refl
earliest_last (a ∷ b ∷ s) z = earliest_last (b ∷ s) z

latest_last : (s older : List Metered) (z : Metered) → latest (s ++ z ∷ []) ≡ latest (s ++ z ∷ older)
latest_last [] older z = refl
latest_last (a ∷ s) older z = refl

abbrev EachKeeps : (rate burst t n : ℕ) → List Metered → Type 0
EachKeeps rate burst t n xs = (s older : List Metered) (z : Metered) → xs ≡ s ++ z ∷ older → n + amount (s ++ z ∷ []) ≤ units burst + rate * (t - z.moment)

each_within : (rate burst t n : ℕ) (xs : List Metered) → ComeBy t xs → EachKeeps rate burst t n xs → Within rate burst t n xs
each_within rate burst t n [] b f = tt
each_within rate burst t n (x ∷ xs) b f = (
  b.0,
  (let one = f [] xs x refl in omega arith),
  each_within rate burst t (n + units x.len) xs b.1
      (λ s older z e. let one = f (x ∷ s) older z (ap (λ ys. x ∷ ys) e) in omega arith),
)

front_keeps : (rate burst : ℕ) (x : Metered) (xs : List Metered) → Conforms rate burst (x ∷ xs) → EachKeeps rate burst x.moment 0 (x ∷ xs)
front_keeps rate burst x xs c = λ s older z e.
    let all : x ∷ xs ≡ (s ++ z ∷ []) ++ older = e ∙ sym (append_assoc s (z ∷ []) older) in
    let one = c [] (s ++ z ∷ []) older all in
    let new : latest (s ++ z ∷ []) ≡ x.moment = latest_last s older z ∙ sym (ap latest e) in
    let old = earliest_last s z in
    let time : latest (s ++ z ∷ []) - earliest (s ++ z ∷ []) ≡ x.moment - z.moment = ap (λ n. n - earliest (s ++ z ∷ [])) new ∙ ap (λ n. x.moment - n) old in
    let two = ap (λ n. rate * n) time in
    omega arith

pub conforming_keep : (rate burst : ℕ) (xs : List Metered) → ArrivalsAreInOrder xs → Conforms rate burst xs → Keep rate burst xs
conforming_keep rate burst [] o c = tt
conforming_keep rate burst (x ∷ xs) o c = (
  each_within rate burst x.moment 0 (x ∷ xs) (come_by x.moment (x ∷ xs) (omega arith) o) (front_keeps rate burst x xs c),
  conforming_keep rate burst xs o.1 (λ newer s older e. c (x ∷ newer) s older (ap (λ ys. x ∷ ys) e)),
)
