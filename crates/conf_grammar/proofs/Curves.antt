-- A curve leads from where it is wanted to behind it.
use Rattle.std.proofs.Common.{◌≡◌, ℕ, ◌+◌, ◌<◌, ◌≤◌, ◌^◌, Bool, true, false, cond, List, [], ◌∷◌, ◌++◌, None, Result, Ok, Err, refl, arith}
use Rattle.std.proofs.lemmas.Bool.Decides.{nat_tests}
use Rattle.conf_lines.proofs.Readings.{past}
use Rattle.conf_lines.specs.Grammar.{Place, at_bend, at_last_slope, at_slope, behind_option, end, is_convex, says, step}
use Rattle.conf_lines.specs.Slots.{rate_in, whole_in}
use Rattle.conf_lines.specs.Texts.{read_from}
use Rattle.conf_lines.specs.declared.fault.ConfKind.{ConfKind}
use Rattle.conf_lines.specs.declared.fault.ConfKind.TheVariants.{ConvexFirst}
use Rattle.conf_lines.specs.declared.item.What.{What}
use Rattle.conf_lines.specs.declared.item.What.TheVariants as what
use Rattle.conf_lines.specs.declared.options.Slots.TheVariants as slots
use Rattle.conf_grammar.proofs.Leads.{Found, Good, Leads, NoFault}
use Rattle.conf_grammar.proofs.OneWord.{rate_back, rate_read, whole_back, whole_read}
use Rattle.conf_grammar.proofs.Places.{after, resumed, wanting}
use Rattle.conf_grammar.specs.Words.{Curve, curve, IsRate, IsWhole}

not_convex : (m1 d m2 : ℕ) → (0 < d → 0 < m1 → m2 ≤ m1) → is_convex m1 d m2 ≡ false
not_convex m1 d m2 up = go (is_convex m1 d m2) refl
  where
    go : (b : Bool) → is_convex m1 d m2 ≡ b → is_convex m1 d m2 ≡ false
    go false e = e
    go true e =
        let some : 0 < d = grind (arith, nat_tests, e) in
        let first : 0 < m1 = grind (arith, nat_tests, e) in
        let rises : m1 < m2 = grind (arith, nat_tests, e) in
        let falls = up some first in
        absurd (omega (arith, rises, falls))

falls_from : (m1 d m2 : ℕ) → is_convex m1 d m2 ≡ false → 0 < d → 0 < m1 → m2 ≤ m1
falls_from m1 d m2 e some first = grind (arith, nat_tests, e, some, first)

-- behind the first slope, and behind the bend
abbrev bending : ℕ → ℕ → Place → Place
bending least m1 p = after p (at_slope least (Ok m1) p)

abbrev ending : ℕ → ℕ → ℕ → Place → Place
ending least m1 d p = after p (at_bend least (Ok d) p m1)

-- the first two words of a curve and what they say: a slope, and the bend behind it
record Two : Type 0 where
  pub slope : List ℕ
  pub m1 : ℕ
  pub bend : List ℕ
  pub d : ℕ

record AreTwo (low : ℕ) (x : Two) : Type 0 where
  pub first : IsRate low (10 ^ 12) x.slope x.m1
  pub second : IsWhole 0 1000000 x.bend x.d

module _ (low least : ℕ) (q : Place) where
  abbrev begun : Place
  begun = wanting (slots.Curve low least) q

  read_curve : {words more : List (List ℕ)} {said rest : List What} → Curve low least words said → Good q.form (resumed q) more rest
      → Good q.form begun (words ++ more) (said ++ rest)
  unfolding step
  read_curve (curve {u = u} {v = v} {w = w} {m1 = m1} {d = d} {m2 = m2} a b c up) good = record {
    is = λ line at.
        rw (
          read_from,
          rate_read low (10 ^ 12) u m1 a,
          whole_read 0 1000000 v d b,
          rate_read least (10 ^ 12) w m2 c,
          not_convex m1 d m2 up,
          good.is line (at + 1 + 1 + 1),
        ) refl;
  }

  -- behind both
  abbrev last_place : Two → Place
  last_place x = ending least x.m1 x.d (bending least x.m1 begun)

  module _ (line : ℕ) (x : Two) (i : AreTwo low x) where
    third : (w : List ℕ) (more : List (List ℕ)) (at : ℕ) (r : Result ℕ ConfKind) → rate_in least (10 ^ 12) w ≡ r
        → (past line more (last_place x) at (at_last_slope x.m1 x.d r (last_place x))).fault ≡ None
        → Found (Curve low least) (resumed q) line (x.slope ∷ x.bend ∷ w ∷ more)
    third w more at (Err kind) e h = absurd cc
    third w more at (Ok m2) e h = go (is_convex x.m1 x.d m2) refl h
      where
        go : (b : Bool) → is_convex x.m1 x.d m2 ≡ b
            → (past line more (last_place x) at (cond b (Err ConvexFirst) (says (what.Rate m2) (last_place x) (behind_option slots.Nothing)))).fault ≡ None
            → Found (Curve low least) (resumed q) line (x.slope ∷ x.bend ∷ w ∷ more)
        go true f h = absurd cc
        go false f h = record {
          front = x.slope ∷ x.bend ∷ w ∷ [];
          says = what.Rate x.m1 ∷ what.Whole x.d ∷ what.Rate m2 ∷ [];
          rest = more;
          at = at + 1;
          split = refl;
          is = curve i.first i.second (rate_back least (10 ^ 12) w m2 e) (falls_from x.m1 x.d m2 f);
          on = h;
        }

    from_last : (words : List (List ℕ)) (at : ℕ) → NoFault line words (last_place x) at → Found (Curve low least) (resumed q) line (x.slope ∷ x.bend ∷ words)
    unfolding step end
    from_last [] at h = absurd cc
    from_last (w ∷ more) at h = third w more at (rate_in least (10 ^ 12) w) refl h

  module _ (line : ℕ) (u : List ℕ) (m1 : ℕ) (is_first : IsRate low (10 ^ 12) u m1) where
    second : (v : List ℕ) (more : List (List ℕ)) (at : ℕ) (r : Result ℕ ConfKind) → whole_in 0 1000000 v ≡ r
        → (past line more (bending least m1 begun) at (at_bend least r (bending least m1 begun) m1)).fault ≡ None
        → Found (Curve low least) (resumed q) line (u ∷ v ∷ more)
    second v more at (Err kind) e h = absurd cc
    second v more at (Ok d) e h =
        let x : Two = record { slope = u; m1 = m1; bend = v; d = d } in
        from_last line x (record { first = is_first; second = whole_back 0 1000000 v d e }) more (at + 1) h

    from_bend : (words : List (List ℕ)) (at : ℕ) → NoFault line words (bending least m1 begun) at → Found (Curve low least) (resumed q) line (u ∷ words)
    unfolding step end
    from_bend [] at h = absurd cc
    from_bend (v ∷ more) at h = second v more at (whole_in 0 1000000 v) refl h

  first : (line : ℕ) (u : List ℕ) (more : List (List ℕ)) (at : ℕ) (r : Result ℕ ConfKind) → rate_in low (10 ^ 12) u ≡ r
      → (past line more begun at (at_slope least r begun)).fault ≡ None → Found (Curve low least) (resumed q) line (u ∷ more)
  first line u more at (Err kind) e h = absurd cc
  first line u more at (Ok m1) e h = from_bend line u m1 (rate_back low (10 ^ 12) u m1 e) more (at + 1) h

  find_curve : (line : ℕ) (words : List (List ℕ)) (at : ℕ) → NoFault line words begun at → Found (Curve low least) (resumed q) line words
  unfolding step end
  find_curve line [] at h = absurd cc
  find_curve line (u ∷ more) at h = first line u more at (rate_in low (10 ^ 12) u) refl h

  pub curve_leads : Leads q.form (Curve low least) begun (resumed q)
  curve_leads = record { read = read_curve; found = find_curve }
