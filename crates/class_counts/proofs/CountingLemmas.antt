-- The counts of each class of one more arrival, sending or drop.
use Rattle.std.proofs.Common.{◌≡◌, ◌≢◌, ◌≤◌, ◌<◌, ◌+◌, ◌*◌, ◌∙◌, ◌-◌, ℕ, zero, suc, Bool, true, false, cond, List, [], ◌∷◌, ◌++◌, length, map, take, Some, refl, ap, sym, subst, arith, append-nil}
use Rattle.std.specs.Prelude.{◌==◌, ◌&&◌, slice_get, unwrap_or, AllPairs, if◌then◌else◌}
use Rattle.std.proofs.Math.ListN.{get_or, replicate, set}
use Rattle.std.proofs.lemmas.Bool.{eqb-true, eq-eqb}
use Rattle.std.proofs.lemmas.List.Quantifiers.{position-Some}
use Rattle.altq_model.specs.declared.Counts.{Counts}
use Rattle.altq_model.specs.declared.Fate.{Fate}
use Rattle.altq_model.specs.declared.Fate.TheVariants as fate
use Rattle.altq_model.specs.declared.Placed.{Placed}
use Rattle.altq_model.specs.declared.Reason.{Reason}
use Rattle.altq_model.specs.declared.Reason.TheVariants.{Full, Early, Forced}
use Rattle.altq_model.specs.declared.Rule.{Rule}
use Rattle.altq_model.specs.Arrivals.{Captured, arrival, no_arrival, bare_arrivals}
use Rattle.altq_model.specs.Counts.{counts_of, is_early, is_forced, is_full, is_sent, of_arrivals, of_decisions, one}
use Rattle.altq_model.specs.declared.Verdict.{Verdict}
use Rattle.altq_model.specs.declared.Verdict.TheVariants.{Keep, Mark, Drop}
use Rattle.altq_model.specs.History.{Decision, LabelledEvent, dropped_by, journal}
use Rattle.play_core.specs.declared.turn.Departure.{Departure}
use Rattle.play_core.specs.declared.turn.Dropped.{Dropped}
use Rattle.play_core.specs.declared.turn.LentPacket.{LentPacket}
use Rattle.play_core.specs.Turns.{drop_of}
use Rattle.std.specs.Option.{option_map_or}
use Rattle.play_laws.specs.Events.{AreOfArrivals}
use Rattle.play_laws.proofs.CountsLemmas.{arrivals_add, decisions_add, decisions_stay}
use Rattle.play_text.specs.Names.{NameList, place_of}
use Rattle.play_text.specs.Statistics.{IsCountable}
use Rattle.class_counts.specs.declared.counting.Counted.{Counted}
use Rattle.class_counts.specs.declared.counting.Counted.TheVariants as counted
use Rattle.class_counts.specs.Counting.{AreCountable, HasCounted, count_at, tallied, with_drop, with_one}
use Rattle.class_counts.specs.Fit.{AreFit}

-- the place of a class is the first that has it
set_first : (names : NameList) (class at : ℕ) (what : Counted) (ks : List Counts) (d : Counts) (e : ℕ × List ℕ) → at < length names → length ks ≡ length names
    → ((get_or names at e).0 == class) ≡ true → ((k : ℕ) → k < at → ((get_or names k e).0 == class) ≡ false)
    → set ks at (with_one (get_or ks at d) what) ≡ count_at names class what ks
set_first [] class at what ks d e inside len here before = absurd (omega (arith, inside))
set_first (n ∷ ns) class at what [] d e inside len here before = absurd (omega (arith, len))
set_first (n ∷ ns) class zero what (k ∷ ks) d e inside len here before = rw here refl
set_first (n ∷ ns) class (suc at) what (k ∷ ks) d e inside len here before =
    let other : (n.0 == class) ≡ false = before 0 (omega arith) in
    rw other (ap (λ (l : List Counts). k ∷ l)
    (set_first ns class at what ks d e (omega (arith, inside)) (omega (arith, len)) here (λ j l. before (suc j) (omega (arith, l)))))

pub set_counts : (names : NameList) (class at : ℕ) (what : Counted) (ks : List Counts) (d : Counts) → length ks ≡ length names → place_of names class ≡ Some at
    → set ks at (with_one (get_or ks at d) what) ≡ count_at names class what ks
set_counts names class at what ks d len place =
    let e : ℕ × List ℕ = (0, []) in
    let p = position-Some (λ (pair : ℕ × List ℕ). pair.0 == class) names at e place in
    set_first names class at what ks d e p.0 len p.1 p.2

-- where nothing arrived
each_none : (names : NameList) → replicate (length names) (counts_of 0 [] []) ≡ tallied names [] []
each_none [] = refl
each_none (n ∷ ns) = ap (λ (l : List Counts). counts_of 0 [] [] ∷ l) (each_none ns)

take_none : (n : ℕ) → take {A = Counts} n [] ≡ []
take_none zero = refl
take_none (suc n) = refl

pub none_tallied : (names : NameList) (n m : ℕ) → n ≡ length names → m ≡ 0 → take n [] ++ replicate (n - m) (counts_of 0 [] []) ≡ tallied names [] []
none_tallied names n m e f =
    ap (λ (l : List Counts). l ++ replicate (n - m) (counts_of 0 [] [])) (take_none n)
    ∙ ap (λ (k : ℕ). replicate k (counts_of 0 [] [])) (let q : n - m ≡ length names = omega (arith, e, f) in q) ∙ each_none names

-- where the counts of one class alone change, those of each class
pub record IsMoved (class : ℕ) (what : Counted) (f g : ℕ → Counts) : Type 0 where
  pub same : (c : ℕ) → c ≢ class → g c ≡ f c
  pub more : g class ≡ with_one (f class) what

two : (a b : Counts) (xs ys : List Counts) → a ≡ b → xs ≡ ys → a ∷ xs ≡ b ∷ ys
two a b xs ys e f = cc

rest_same : (ns : NameList) (class : ℕ) (f g : ℕ → Counts) (e : ℕ × List ℕ) → ((c : ℕ) → c ≢ class → g c ≡ f c)
    → ((k : ℕ) → k < length ns → class < (get_or ns k e).0) → map (λ (n : ℕ × List ℕ). g n.0) ns ≡ map (λ (n : ℕ × List ℕ). f n.0) ns
rest_same [] class f g e same above = refl
rest_same (n ∷ ns) class f g e same above =
    let low : class < n.0 = above 0 (omega arith) in
    two _ _ _ _ (same n.0 (λ q. omega (arith, low, q))) (rest_same ns class f g e same (λ k l. above (suc k) (omega (arith, l))))

not_eqb : (a b : ℕ) → (a == b) ≡ false → a ≢ b
not_eqb a b h q = (let t : (a == b) ≡ true = eq-eqb a b q in let x : true ≡ false = sym t ∙ h in (cc))

at_head : (n : ℕ × List ℕ) (ns : NameList) (class : ℕ) (what : Counted) (f g : ℕ → Counts) → IsMoved class what f g → ((k : ℕ) → k < length ns → n.0 < (get_or ns k n).0)
    → map (λ (m : ℕ × List ℕ). g m.0) ns ≡ count_at ns class what (map (λ (m : ℕ × List ℕ). f m.0) ns) → (b : Bool) → (n.0 == class) ≡ b
    → g n.0 ∷ map (λ (m : ℕ × List ℕ). g m.0) ns
    ≡ cond b (with_one (f n.0) what ∷ map (λ (m : ℕ × List ℕ). f m.0) ns) (f n.0 ∷ count_at ns class what (map (λ (m : ℕ × List ℕ). f m.0) ns))
at_head n ns class what f g m above rest true e =
    let is : n.0 ≡ class = eqb-true n.0 class e in
    let P : ℕ → Type 0 = λ c. g c ≡ with_one (f c) what in
    two _ _ _ _ (subst P (sym is) m.more) (rest_same ns class f g n m.same (λ k l. omega (arith, above k l, is)))
at_head n ns class what f g m above rest false e = two _ _ _ _ (m.same n.0 (not_eqb n.0 class e)) rest

pub tally_moves : (names : NameList) (class : ℕ) (what : Counted) (f g : ℕ → Counts) → IsMoved class what f g → AllPairs (λ x y. x.0 < y.0) names
    → map (λ (n : ℕ × List ℕ). g n.0) names ≡ count_at names class what (map (λ (n : ℕ × List ℕ). f n.0) names)
tally_moves [] class what f g m rising = refl
tally_moves (n ∷ ns) class what f g m rising =
    at_head n ns class what f g m (λ k l. rising 0 (suc k) n (omega arith) (omega (arith, l)))
    (tally_moves ns class what f g m (λ i j d l k. rising (suc i) (suc j) d (omega (arith, l)) (omega (arith, k)))) (n.0 == class) refl

-- counts are the same where each of them is
counts_same : (a b : Counts) → a.arrived ≡ b.arrived → a.arrived_bytes ≡ b.arrived_bytes → a.raised ≡ b.raised → a.sent ≡ b.sent → a.sent_bytes ≡ b.sent_bytes
    → a.full ≡ b.full → a.early ≡ b.early → a.forced ≡ b.forced → a ≡ b
counts_same a b q r s t u v w x =
    ap (λ (n : ℕ). record a { arrived = n }) q ∙ ap (λ (n : ℕ). record a { arrived = b.arrived; arrived_bytes = n }) r
    ∙ ap (λ (n : ℕ). record b { raised = n; sent = a.sent; sent_bytes = a.sent_bytes; full = a.full; early = a.early; forced = a.forced }) s
    ∙ ap (λ (n : ℕ). record b { sent = n; sent_bytes = a.sent_bytes; full = a.full; early = a.early; forced = a.forced }) t
    ∙ ap (λ (n : ℕ). record b { sent_bytes = n; full = a.full; early = a.early; forced = a.forced }) u
    ∙ ap (λ (n : ℕ). record b { full = n; early = a.early; forced = a.forced }) v ∙ ap (λ (n : ℕ). record b { early = n; forced = a.forced }) w
    ∙ ap (λ (n : ℕ). record b { forced = n }) x

-- one more arrival
arrival_step : (meant : Captured → Bool) (amount : Captured → ℕ) (xs : List Captured) (a : Captured)
    → of_arrivals meant amount (xs ++ a ∷ []) ≡ of_arrivals meant amount xs + (if meant a then amount a else 0)
arrival_step meant amount xs a = omega (arith, arrivals_add meant amount xs (a ∷ []))

class_is : (c : ℕ) → (c == c) ≡ true
class_is c = eq-eqb c c refl

if_not : (b : Bool) (n m : ℕ) → b ≡ false → n + (if b then m else 0) ≡ n
if_not true n m e = absurd (cc)
if_not false n m e = omega arith

other_class : (k c : ℕ) → c ≢ k → (b : Bool) → (k == c) ≡ b → b ≡ false
other_class k c n true e = absurd (n (sym (eqb-true k c e)))
other_class k c n false e = refl

both_false : (b d : Bool) → b ≡ false → (b && d) ≡ false
both_false true d e = absurd (cc)
both_false false d e = refl

arrival_other : (meant : Captured → Bool) (amount : Captured → ℕ) (xs : List Captured) (a : Captured) → meant a ≡ false
    → of_arrivals meant amount (xs ++ a ∷ []) ≡ of_arrivals meant amount xs
arrival_other meant amount xs a e = arrival_step meant amount xs a ∙ if_not (meant a) _ (amount a) e

arrival_mine : (meant : Captured → Bool) (amount : Captured → ℕ) (xs : List Captured) (a : Captured) → meant a ≡ true
    → of_arrivals meant amount (xs ++ a ∷ []) ≡ of_arrivals meant amount xs + amount a
arrival_mine meant amount xs a e =
    arrival_step meant amount xs a ∙ ap (λ (b : Bool). of_arrivals meant amount xs + (if b then amount a else 0)) e

raised_mine : (c : ℕ) (xs : List Captured) (a : Captured) → (a.class == c) ≡ true
    → of_arrivals (λ b. (b.class == c) && b.raised) one (xs ++ a ∷ []) ≡ of_arrivals (λ b. (b.class == c) && b.raised) one xs + (if a.raised then 1 else 0)
raised_mine c xs a e =
    arrival_step (λ b. (b.class == c) && b.raised) one xs a
    ∙ ap (λ (b : Bool). of_arrivals (λ d. (d.class == c) && d.raised) one xs + (if b && a.raised then 1 else 0)) e

read_moves : (xs : List Captured) (a : Captured) (g : List LabelledEvent) → AreOfArrivals (bare_arrivals xs) g
    → IsMoved a.class (counted.Arrived a.len a.raised) (λ c. counts_of c xs (journal g)) (λ c. counts_of c (xs ++ a ∷ []) (journal g))
read_moves xs a g of = record {
  same = λ c n.
      let e = other_class a.class c n (a.class == c) refl in
      counts_same _ _
      (arrival_other (λ b. b.class == c) one xs a e) (arrival_other (λ b. b.class == c) (λ b. b.len) xs a e)
      (arrival_other (λ b. (b.class == c) && b.raised) one xs a (both_false (a.class == c) a.raised e))
      (decisions_stay (λ b. b.class == c) is_sent one xs (a ∷ []) g of) (decisions_stay (λ b. b.class == c) is_sent (λ b. b.len) xs (a ∷ []) g of)
      (decisions_stay (λ b. b.class == c) is_full one xs (a ∷ []) g of) (decisions_stay (λ b. b.class == c) is_early one xs (a ∷ []) g of)
      (decisions_stay (λ b. b.class == c) is_forced one xs (a ∷ []) g of);
  more =
      let c : ℕ = a.class in
      let e = class_is a.class in
      counts_same _ _
      (arrival_mine (λ b. b.class == c) one xs a e) (arrival_mine (λ b. b.class == c) (λ b. b.len) xs a e) (raised_mine c xs a e)
      (decisions_stay (λ b. b.class == c) is_sent one xs (a ∷ []) g of) (decisions_stay (λ b. b.class == c) is_sent (λ b. b.len) xs (a ∷ []) g of)
      (decisions_stay (λ b. b.class == c) is_full one xs (a ∷ []) g of) (decisions_stay (λ b. b.class == c) is_early one xs (a ∷ []) g of)
      (decisions_stay (λ b. b.class == c) is_forced one xs (a ∷ []) g of);
}

-- one more decision
decision_step : (meant : Captured → Bool) (told : Fate → Bool) (amount : Captured → ℕ) (arrived : List Captured) (js : List Decision) (n : ℕ) (f : Fate)
    → of_decisions meant told amount arrived (js ++ (n, f) ∷ [])
    ≡ of_decisions meant told amount arrived js + (if meant (arrival arrived n) && told f then amount (arrival arrived n) else 0)
decision_step meant told amount arrived js n f = omega (arith, decisions_add meant told amount arrived js ((n, f) ∷ []))

decision_other : (c : ℕ) (told : Fate → Bool) (amount : Captured → ℕ) (arrived : List Captured) (js : List Decision) (n : ℕ) (f : Fate)
    → ((arrival arrived n).class == c) ≡ false
    → of_decisions (λ b. b.class == c) told amount arrived (js ++ (n, f) ∷ []) ≡ of_decisions (λ b. b.class == c) told amount arrived js
decision_other c told amount arrived js n f e =
    decision_step (λ b. b.class == c) told amount arrived js n f
    ∙ if_not (((arrival arrived n).class == c) && told f) _ (amount (arrival arrived n)) (both_false ((arrival arrived n).class == c) (told f) e)

decision_mine : (c : ℕ) (told : Fate → Bool) (amount : Captured → ℕ) (arrived : List Captured) (js : List Decision) (n : ℕ) (f : Fate)
    → ((arrival arrived n).class == c) ≡ true
    → of_decisions (λ b. b.class == c) told amount arrived (js ++ (n, f) ∷ [])
    ≡ of_decisions (λ b. b.class == c) told amount arrived js + (if told f then amount (arrival arrived n) else 0)
decision_mine c told amount arrived js n f e =
    decision_step (λ b. b.class == c) told amount arrived js n f
    ∙ ap (λ (b : Bool). of_decisions (λ d. d.class == c) told amount arrived js + (if b && told f then amount (arrival arrived n) else 0)) e

same_after : (arrived : List Captured) (js : List Decision) (n : ℕ) (f : Fate) (c : ℕ) → c ≢ (arrival arrived n).class
    → counts_of c arrived (js ++ (n, f) ∷ []) ≡ counts_of c arrived js
same_after arrived js n f c other =
    let e = other_class (arrival arrived n).class c other ((arrival arrived n).class == c) refl in
    counts_same _ _ refl refl refl
    (decision_other c is_sent one arrived js n f e) (decision_other c is_sent (λ b. b.len) arrived js n f e)
    (decision_other c is_full one arrived js n f e) (decision_other c is_early one arrived js n f e) (decision_other c is_forced one arrived js n f e)

plus_none : (a b : ℕ) → a ≡ b + 0 → a ≡ b
plus_none a b e = omega (arith, e)

sent_moves : (arrived : List Captured) (js : List Decision) (n start end : ℕ) (r : Rule)
    → IsMoved (arrival arrived n).class (counted.Sent (arrival arrived n).len) (λ c. counts_of c arrived js) (λ c. counts_of c arrived (js ++ (n, fate.Sent start end r) ∷ []))
sent_moves arrived js n start end r =
    let f : Fate = fate.Sent start end r in
    let c : ℕ = (arrival arrived n).class in
    let e = class_is c in
    record {
      same = same_after arrived js n f;
      more = counts_same _ _ refl refl refl
          (decision_mine c is_sent one arrived js n f e) (decision_mine c is_sent (λ b. b.len) arrived js n f e)
          (plus_none _ _ (decision_mine c is_full one arrived js n f e)) (plus_none _ _ (decision_mine c is_early one arrived js n f e))
          (plus_none _ _ (decision_mine c is_forced one arrived js n f e));
    }

drop_mine : (told : Fate → Bool) (amount : Captured → ℕ) (arrived : List Captured) (js : List Decision) (n : ℕ) (r : Reason) → let c : ℕ = (arrival arrived n).class in
    of_decisions (λ b. b.class == c) told amount arrived (js ++ (n, fate.Dropped r) ∷ [])
    ≡ of_decisions (λ b. b.class == c) told amount arrived js + (if told (fate.Dropped r) then amount (arrival arrived n) else 0)
drop_mine told amount arrived js n r = decision_mine (arrival arrived n).class told amount arrived js n (fate.Dropped r) (class_is (arrival arrived n).class)

drop_more : (arrived : List Captured) (js : List Decision) (n : ℕ) (r : Reason) → let c : ℕ = (arrival arrived n).class in
    counts_of c arrived (js ++ (n, fate.Dropped r) ∷ []) ≡ with_drop (counts_of c arrived js) r
drop_more arrived js n Full = counts_same _ _ refl refl refl
    (plus_none _ _ (drop_mine is_sent one arrived js n Full)) (plus_none _ _ (drop_mine is_sent (λ b. b.len) arrived js n Full))
    (drop_mine is_full one arrived js n Full) (plus_none _ _ (drop_mine is_early one arrived js n Full)) (plus_none _ _ (drop_mine is_forced one arrived js n Full))
drop_more arrived js n Early = counts_same _ _ refl refl refl
    (plus_none _ _ (drop_mine is_sent one arrived js n Early)) (plus_none _ _ (drop_mine is_sent (λ b. b.len) arrived js n Early))
    (plus_none _ _ (drop_mine is_full one arrived js n Early)) (drop_mine is_early one arrived js n Early) (plus_none _ _ (drop_mine is_forced one arrived js n Early))
drop_more arrived js n Forced = counts_same _ _ refl refl refl
    (plus_none _ _ (drop_mine is_sent one arrived js n Forced)) (plus_none _ _ (drop_mine is_sent (λ b. b.len) arrived js n Forced))
    (plus_none _ _ (drop_mine is_full one arrived js n Forced)) (plus_none _ _ (drop_mine is_early one arrived js n Forced)) (drop_mine is_forced one arrived js n Forced)

drop_moves : (arrived : List Captured) (js : List Decision) (n : ℕ) (r : Reason)
    → IsMoved (arrival arrived n).class (counted.Dropped r) (λ c. counts_of c arrived js) (λ c. counts_of c arrived (js ++ (n, fate.Dropped r) ∷ []))
drop_moves arrived js n r = record { same = same_after arrived js n (fate.Dropped r); more = drop_more arrived js n r }

-- what was counted, with one more
counted_more : (names : NameList) (arrived more : List Captured) (js ls : List Decision) (class : ℕ) (what : Counted) (ks : List Counts) → HasCounted names arrived js ks
    → IsMoved class what (λ c. counts_of c arrived js) (λ c. counts_of c more ls) → HasCounted names more ls (count_at names class what ks)
counted_more names arrived more js ls class what ks h m = record {
  names_are = h.names_are;
  counts_are = ap (count_at names class what) h.counts_are ∙ sym (tally_moves names class what (λ c. counts_of c arrived js) (λ c. counts_of c more ls) m h.names_are.rising);
}

pub counted_read : (names : NameList) (xs : List Captured) (a : Captured) (g : List LabelledEvent) (ks : List Counts) → HasCounted names xs (journal g) ks
    → AreOfArrivals (bare_arrivals xs) g → HasCounted names (xs ++ a ∷ []) (journal g) (count_at names a.class (counted.Arrived a.len a.raised) ks)
counted_read names xs a g ks h of = counted_more names xs (xs ++ a ∷ []) (journal g) (journal g) a.class (counted.Arrived a.len a.raised) ks h (read_moves xs a g of)

pub counted_sent : (names : NameList) (arrived : List Captured) (js : List Decision) (d : Departure) (ks : List Counts) → HasCounted names arrived js ks
    → d.class ≡ (arrival arrived d.packet.number).class → d.packet.len ≡ (arrival arrived d.packet.number).len
    → HasCounted names arrived (js ++ (d.packet.number, fate.Sent d.start d.end d.rule) ∷ []) (count_at names d.class (counted.Sent d.packet.len) ks)
counted_sent names arrived js d ks h c l =
    let ls : List Decision = js ++ (d.packet.number, fate.Sent d.start d.end d.rule) ∷ [] in
    let P : ℕ → Type 0 = λ k. HasCounted names arrived ls (count_at names k (counted.Sent d.packet.len) ks) in
    let Q : ℕ → Type 0 = λ k. HasCounted names arrived ls (count_at names (arrival arrived d.packet.number).class (counted.Sent k) ks) in
    subst P (sym c) (subst Q (sym l) (counted_more names arrived arrived js ls _ _ ks h (sent_moves arrived js d.packet.number d.start d.end d.rule)))

counted_dropped : (names : NameList) (arrived : List Captured) (js : List Decision) (n class : ℕ) (r : Reason) (ks : List Counts) → HasCounted names arrived js ks
    → class ≡ (arrival arrived n).class → HasCounted names arrived (js ++ (n, fate.Dropped r) ∷ []) (count_at names class (counted.Dropped r) ks)
counted_dropped names arrived js n class r ks h c =
    let P : ℕ → Type 0 = λ k. HasCounted names arrived (js ++ (n, fate.Dropped r) ∷ []) (count_at names k (counted.Dropped r) ks) in
    subst P (sym c) (counted_more names arrived arrived js _ _ _ ks h (drop_moves arrived js n r))

-- an offer, of which this is told
pub counted_by : (names : NameList) (arrived : List Captured) (js : List Decision) (n class : ℕ) (v : Verdict) (packet : LentPacket) (ks : List Counts) → HasCounted names arrived js ks
    → class ≡ (arrival arrived n).class
    → HasCounted names arrived (js ++ dropped_by v n) (option_map_or (λ (d : Dropped). count_at names class (counted.Dropped d.reason) ks) (drop_of v packet) ks)
counted_by names arrived js n class Keep packet ks h c = let P : List Decision → Type 0 = λ l. HasCounted names arrived l ks in subst P (sym (append-nil js)) h
counted_by names arrived js n class Mark packet ks h c = let P : List Decision → Type 0 = λ l. HasCounted names arrived l ks in subst P (sym (append-nil js)) h
counted_by names arrived js n class (Drop r) packet ks h c = counted_dropped names arrived js n class r ks h c

-- no count is large
at_most : (b : Bool) (n m : ℕ) → n ≤ m → (if b then n else 0) ≤ m
at_most true n m l = l
at_most false n m l = omega arith

few_arrivals : (place : List ℕ → Placed) (meant : Captured → Bool) (amount : Captured → ℕ) (arrived : List Captured) → AreFit place arrived
    → ((a : Captured) → a.len ≤ 262144 → amount a ≤ 262144) → of_arrivals meant amount arrived ≤ 262144 * length arrived
few_arrivals place meant amount [] fit most = omega arith
few_arrivals place meant amount (a ∷ rest) fit most =
    omega (arith, few_arrivals place meant amount rest fit.1 most, at_most (meant a) (amount a) 262144 (most a fit.0.short))

short_at : (place : List ℕ → Placed) (arrived : List Captured) (k : ℕ) → AreFit place arrived → (unwrap_or (slice_get arrived k) no_arrival).len ≤ 262144
short_at place [] k fit = omega arith
short_at place (a ∷ rest) zero fit = fit.0.short
short_at place (a ∷ rest) (suc k) fit = short_at place rest k fit.1

few_decisions : (place : List ℕ → Placed) (meant : Captured → Bool) (told : Fate → Bool) (amount : Captured → ℕ) (arrived : List Captured) (js : List Decision) → AreFit place arrived
    → ((a : Captured) → a.len ≤ 262144 → amount a ≤ 262144) → of_decisions meant told amount arrived js ≤ 262144 * length js
few_decisions place meant told amount arrived [] fit most = omega arith
few_decisions place meant told amount arrived (d ∷ js) fit most =
    let a : Captured = arrival arrived d.0 in
    let short : a.len ≤ 262144 = short_at place arrived (d.0 - 1) fit in
    omega (
      arith,
      few_decisions place meant told amount arrived js fit most,
      at_most (meant a && told d.1) (amount a) 262144 (most a short),
    )

one_is_few : (a : Captured) → a.len ≤ 262144 → one a ≤ 262144
one_is_few a l = omega arith

class_countable : (place : List ℕ → Placed) (arrived : List Captured) (js : List Decision) (c : ℕ) → AreFit place arrived → length arrived ≤ 4000000 → length js ≤ 4000000
    → IsCountable (counts_of c arrived js)
class_countable place arrived js c fit few some = record {
  arrived = omega (arith, few, few_arrivals place (λ a. a.class == c) one arrived fit one_is_few);
  arrived_bytes = omega (arith, few, few_arrivals place (λ a. a.class == c) (λ a. a.len) arrived fit (λ a l. l));
  raised = omega (arith, few, few_arrivals place (λ a. (a.class == c) && a.raised) one arrived fit one_is_few);
  sent = omega (arith, some, few_decisions place (λ a. a.class == c) is_sent one arrived js fit one_is_few);
  sent_bytes = omega (arith, some, few_decisions place (λ a. a.class == c) is_sent (λ a. a.len) arrived js fit (λ a l. l));
  full = omega (arith, some, few_decisions place (λ a. a.class == c) is_full one arrived js fit one_is_few);
  early = omega (arith, some, few_decisions place (λ a. a.class == c) is_early one arrived js fit one_is_few);
  forced = omega (arith, some, few_decisions place (λ a. a.class == c) is_forced one arrived js fit one_is_few);
}

each_at : (names : NameList) (f : ℕ → Counts) → ((c : ℕ) → IsCountable (f c)) → (i : ℕ) (d : Counts) → i < length (map (λ (n : ℕ × List ℕ). f n.0) names)
    → IsCountable (get_or (map (λ (n : ℕ × List ℕ). f n.0) names) i d)
each_at [] f h i d l = absurd (omega (arith, l))
each_at (n ∷ ns) f h zero d l = h n.0
each_at (n ∷ ns) f h (suc i) d l = each_at ns f h i d (omega (arith, l))

tallied_length : (names : NameList) (f : ℕ → Counts) → length (map (λ (n : ℕ × List ℕ). f n.0) names) ≡ length names
tallied_length [] f = refl
tallied_length (n ∷ ns) f = ap suc (tallied_length ns f)

pub counted_countable : (place : List ℕ → Placed) (names : NameList) (arrived : List Captured) (js : List Decision) (ks : List Counts) → HasCounted names arrived js ks
    → AreFit place arrived → length arrived ≤ 4000000 → length js ≤ 4000000 → AreCountable names ks
counted_countable place names arrived js ks h fit few some =
    let P : List Counts → Type 0 = λ l. AreCountable names l in
    subst P (sym h.counts_are) (record {
      each = tallied_length names (λ c. counts_of c arrived js);
      bound = each_at names (λ c. counts_of c arrived js) (λ c. class_countable place arrived js c fit few some);
    })
