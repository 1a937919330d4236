-- The second fates that are of sendings.
use Rattle.std.proofs.Common.{◌≡◌, ◌≤◌, ◌<◌, ◌∙◌, ℕ, Bool, true, false, cond, List, [], ◌∷◌, length, None, Some, refl, ap, sym, subst, arith}
use Rattle.std.specs.Prelude.{◌==◌, ◌&&◌, nat_lt, nat_le}
use Rattle.std.specs.declared.option.Option.{Option}
use Rattle.std.proofs.lemmas.Bool.{eqb-true}
use Rattle.altq_model.specs.declared.Fate.{Fate}
use Rattle.altq_model.specs.History.{Decision}
use Rattle.play_loop.specs.declared.kept.KeptFate.{KeptFate}
use Rattle.play_chain.specs.declared.path.Path.{Path}
use Rattle.play_chain.specs.declared.seconds.Seconds.{Seconds}
use Rattle.play_chain.specs.Path.{fate_under, sendings}
use Rattle.play_chain.specs.Stands.{Represents, of_sendings}
use Rattle.play_chain.specs.Tables.{AreOnce, IsFirstTable, IsSecondTable, second_in, second_row}
use Rattle.play_chain.proofs.PathLemmas.{stands_by}

is_within : (c k : ℕ) → 0 < k → k ≤ c → (nat_lt 0 k && nat_le k c) ≡ true
is_within c k l m = grind arith

is_past : (c k : ℕ) → c < k → (nat_lt 0 k && nat_le k c) ≡ false
is_past c k l = grind arith

fate_by : (b same : Bool) (d : Decision) (js : List Decision) (c k : ℕ) → (same ≡ true → b ≡ true) → fate_under (of_sendings c js) k ≡ fate_under js k → (d.0 == k) ≡ same
    → fate_under (cond b (d ∷ of_sendings c js) (of_sendings c js)) k ≡ cond same (Some d.1) (fate_under js k)
fate_by true same d js c k h e q = rw q (ap (λ (o : Option Fate). cond same (Some d.1) o) e)
fate_by false true d js c k h e q = absurd (let t : false ≡ true = h refl in (cc))
fate_by false false d js c k h e q = e

-- the fate of a sending is that among all
pub fate_of : (c : ℕ) (js : List Decision) (k : ℕ) → 0 < k → k ≤ c → fate_under (of_sendings c js) k ≡ fate_under js k
fate_of c [] k l m = refl
fate_of c (x ∷ js) k l m =
    fate_by (nat_lt 0 x.0 && nat_le x.0 c) (x.0 == k) x js c k
    (λ q. let P : ℕ → Type 0 = λ n. (nat_lt 0 n && nat_le n c) ≡ true in subst P (sym (eqb-true x.0 k q)) (is_within c k l m)) (fate_of c js k l m) refl

past_by : (b same : Bool) (d : Decision) (js : List Decision) (c k : ℕ) → (same ≡ true → b ≡ false) → fate_under (of_sendings c js) k ≡ None → (d.0 == k) ≡ same
    → fate_under (cond b (d ∷ of_sendings c js) (of_sendings c js)) k ≡ None
past_by true true d js c k h e q = absurd (let t : true ≡ false = h refl in (cc))
past_by true false d js c k h e q = rw q e
past_by false same d js c k h e q = e

-- and no number past them has one
pub fate_past : (c : ℕ) (js : List Decision) (k : ℕ) → c < k → fate_under (of_sendings c js) k ≡ None
fate_past c [] k l = refl
fate_past c (x ∷ js) k l =
    past_by (nat_lt 0 x.0 && nat_le x.0 c) (x.0 == k) x js c k
    (λ q. let P : ℕ → Type 0 = λ n. (nat_lt 0 n && nat_le n c) ≡ false in subst P (sym (eqb-true x.0 k q)) (is_past c k l)) (fate_past c js k l) refl

-- a path by the tables of both plays
pub stands_through : (p : Path) (u : Seconds) (fates : List KeptFate) (js : List Decision) → AreOnce fates → IsFirstTable p.firsts fates → IsSecondTable u js
    → ((k : ℕ) → second_in p.seconds.rows.items k ≡ second_in u.rows.items k) → p.firsts.sent < length p.seconds.rows.items
    → Represents p fates (of_sendings (length (sendings fates)) js)
stands_through p u fates js once x y same room =
    let c : ℕ = length (sendings fates) in
    stands_by p fates (of_sendings c js) x
    (record {
      stands = λ k some l. same k ∙ y k ∙ sym (ap (λ (o : Option Fate). second_row o) (fate_of c js k some l));
      room = λ k some l. omega (arith, l, room, x.sent);
    }) once (fate_past c js)
