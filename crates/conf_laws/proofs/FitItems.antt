-- What the items of a statement set is in its range: the options of a class, and the parts of a filter, whose addresses are under
-- their masks.
use Rattle.std.proofs.Common.{rules, ◌≡◌, ◌⊎◌, ℕ, ◌*◌, ◌^◌, ◌<◌, ◌≤◌, ◌==◌, ◌&&◌, ◌||◌, Bool, true, false, List, [], ◌∷◌, Option, Some, None, Result, Ok, Err, IfOk, IfSome, option_map, unwrap_or, slice_get, refl, arith, nat_le, le_refl, mul-le-mul, zero, suc, ◌-◌, ◌/◌, ◌∙◌, cond, length, drop, replicate, min, bit_and, All, ap, ap₂, pow_pos, div-mul-le_self}
use Rattle.std.proofs.lemmas.Bool.{or_parts, cond_both, eqb-false}
use Rattle.std.proofs.lemmas.Bool.Decides.{nat_tests}
use Rattle.std.specs.Option.{option_or}
use Rattle.std.specs.Int.Bits.{and_self}
use Rattle.std.proofs.lemmas.Nat.{and_le_l, and_le_r, and_assoc}
use Rattle.std.proofs.Math.Nat.{mul-div_left}
use Rattle.std.proofs.lemmas.List.{length-replicate}
use Rattle.std.proofs.lemmas.List.Elements.{All-nil, All-cons, All-head, All-tail, All-replicate}
use Rattle.service_curve.specs.declared.Curve.{Curve}
use Rattle.service_curve.specs.Curve.{straight}
use Rattle.conf_lines.specs.declared.fault.ConfPlace.{ConfPlace}
use Rattle.conf_lines.specs.declared.item.Item.{Item}
use Rattle.conf_lines.specs.declared.options.Key.{Key}
use Rattle.conf_lines.specs.declared.options.Key.TheVariants as key
use Rattle.conf_lines.specs.declared.item.What.{What}
use Rattle.conf_lines.specs.declared.item.What.TheVariants as what
use Rattle.conf_lines.specs.declared.options.Slots.TheVariants as slots
use Rattle.conf_lines.specs.Grammar.{is_convex}
use Rattle.conf_lines.specs.Options.{most_rate}
use Rattle.conf_lines.specs.declared.statement.Form.{Form}
use Rattle.conf_lines.specs.declared.statement.Form.TheVariants as form
use Rattle.conf_lines.specs.Laws.{AreBytes, IsSound, AreSound}
use Rattle.conf_tree.specs.Items.{number_in, within, number_at, word_at}
use Rattle.conf_tree.specs.Options.{set_by_word, set_options}
use Rattle.conf_tree.specs.Settings.{unset, made, curve_of, curve_in_slots, percent, curve_behind, set_percent, set_default, set_option}
use Rattle.conf_tree.specs.declared.filter.Filter.{Filter}
use Rattle.conf_tree.specs.Filters.{has_option, has_name, past_option, past_name, option_number, as_ip4, ip4_in, mask_in, with_mask, address4_in, address4, with_length, address6_in, address6, addresses, under_mask, tos_in, filter_of}
use Rattle.conf_tree.specs.Masks.{masked, upper, prefix}
use Rattle.conf_laws.specs.Fit.{IsBetween, IsCurve, IsCurveIfAny, IsMasked, IsPrefix, AreAddresses, IsTos}
use Rattle.conf_laws.proofs.Types.{Settings, ReadContext}

-- NUMBERS of a range
within_by : (low high n : ℕ) → (nat_le low n && nat_le n high) ≡ true → IsBetween low high n
within_by low high n t = grind (arith, nat_tests)

within_fit : (low high : ℕ) (o : Option ℕ) → IfSome (within low high o) (IsBetween low high)
within_fit low high o = grind (arith, nat_tests)

number_fit : (low high : ℕ) (items : List Item) (i : ℕ) → IfSome (number_at low high items i) (IsBetween low high)
number_fit low high items i = within_fit low high (number_in (slice_get items i))

-- what is given, or what was there before
given_or : {A : Type 0} (P : A → Type 0) (o : Option A) (x : A) → IfSome o P → P x → P (unwrap_or o x)
given_or P None x h k = k
given_or P (Some y) x h k = h

pub number_or : (low high : ℕ) (items : List Item) (x : ℕ) → IsBetween low high x → IsBetween low high (unwrap_or (number_at low high items 0) x)
number_or low high items x h = given_or (IsBetween low high) (number_at low high items 0) x (number_fit low high items 0) h

pub either : {A : Type 0} (P : Option A → Type 0) (o x : Option A) → P o → P x → P (option_or o x)
either P None x h k = k
either P (Some y) x h k = h

-- CURVES
pub straight_fit : (low least m : ℕ) → low ≤ least → IsBetween least most_rate m → IsCurve low least (straight m)
straight_fit low least m below h = search (rules, arith, le_refl)

bends_down : (m1 d m2 : ℕ) → is_convex m1 d m2 ≡ false → 0 < d → (m1 ≡ 0) ⊎ (m2 ≤ m1)
bends_down m1 d m2 e h = grind (arith, nat_tests)

made_fit : (low least m1 d m2 : ℕ) → low ≤ least → IsBetween low most_rate m1 → d ≤ 1000000 → IsBetween least most_rate m2 → is_convex m1 d m2 ≡ false
    → IsCurve low least (made m1 (d * 10 ^ 6) m2)
made_fit low least m1 d m2 below first bend second e =
    cond_both (d * 10 ^ 6 == 0 || m1 == m2) _ _ (IsCurve low least) (λ t. straight_fit low least m2 below second) (λ t.
    let parts = or_parts (d * 10 ^ 6 == 0) (m1 == m2) t in
    let bent : d * 10 ^ 6 ≡ 0 → ⊥ = eqb-false (d * 10 ^ 6) 0 parts.0 in
    let whole : (n : ℕ) × (n ≤ 1000000) × (d * 10 ^ 6 ≡ n * 10 ^ 6) = (d, bend, refl) in
    search (rules, arith, whole, bent, eqb-false m1 m2 parts.1, bends_down m1 d m2 e (omega arith)))

curve_of_fit : (low least : ℕ) (m1 d m2 : Option ℕ) → low ≤ least → IfSome m1 (IsBetween low most_rate) → IfSome d (IsBetween 0 1000000)
    → IfSome m2 (IsBetween least most_rate) → IsCurveIfAny low least (curve_of m1 d m2)
curve_of_fit low least (Some m1) (Some d) (Some m2) below h k l =
    cond_both (is_convex m1 d m2) _ _ (IsCurveIfAny low least) (λ t. tt) (λ t. made_fit low least m1 d m2 below h k.1 l t)
curve_of_fit low least _ _ _ below h k l = tt

curve_fit : (low least : ℕ) (items : List Item) → low ≤ least → IsCurveIfAny low least (curve_in_slots (slots.Curve low least) items)
curve_fit low least items below =
    curve_of_fit low least _ _ _ below (number_fit low most_rate items 0) (number_fit 0 1000000 items 1) (number_fit least most_rate items 2)

curve_less : (o : Option Curve) → IsCurveIfAny 0 1 o → IsCurveIfAny 0 0 o
curve_less None h = tt
curve_less (Some s) h = let second : IsBetween 0 most_rate s.m2 = omega (arith, h.second) in assumption (second, h)

line_fit : (low least most : ℕ) (f : ℕ → ℕ) (o : Option ℕ) → IfSome o (IsBetween low most) → ((n : ℕ) → IsBetween low most n → IsBetween least most_rate (f n))
    → IsCurveIfAny 0 least (option_map (λ n. straight (f n)) o)
line_fit low least most f None h k = tt
line_fit low least most f (Some n) h k = straight_fit 0 least (f n) (omega arith) (k n h)

percent_fit : (rate n : ℕ) → IsBetween 1000 most_rate rate → IsBetween 1 100 n → IsBetween 1 most_rate (percent rate n)
percent_fit rate n h k =
    let below : n * rate ≤ 100 * rate = mul-le-mul k.1 (le_refl rate) in
    let above : 1 * 1000 ≤ n * rate = mul-le-mul k.0 h.0 in
    omega arith

-- THE SETTINGS of a class so far, where the interface has a default class or not
pub record AreSet (chosen : Bool) (s : Settings) : Type 0 where
  pub real : IsCurveIfAny 0 0 s.real
  pub share : IsCurveIfAny 0 1 s.share
  pub upper : IsCurveIfAny 1000 1000 s.upper
  pub rate : IfSome s.rate (IsBetween 1000 most_rate)
  pub priority : IsBetween 0 7 s.priority
  pub maxburst : IsBetween 1 1000 s.maxburst
  pub packetsize : IsBetween 1 262144 s.packetsize
  pub limit : IsBetween 1 10000 s.limit
  pub is_default : s.is_default ≡ true → chosen ≡ false

abbrev AreSetIfOk : Bool → Result Settings ConfPlace → Type 0
AreSetIfOk chosen r = IfOk r (AreSet chosen)

pub unset_fit : (chosen : Bool) → AreSet chosen unset
unset_fit chosen = search (rules, arith)

percent_set : (scope : ReadContext) (s : Settings) (word : ℕ) (o : Option ℕ) → AreSet scope.chosen s → AreSetIfOk scope.chosen (set_percent scope s word o)
percent_set scope s word None h = h
percent_set scope s word (Some n) h =
    let rate = percent scope.rate n in
    cond_both (nat_le 1000 rate && nat_le rate most_rate) _ _ (AreSetIfOk scope.chosen)
    (λ t. let within : IsBetween 1000 most_rate rate = within_by 1000 most_rate rate t in assumption (within, h))
    (λ t. tt)

default_fit : (scope : ReadContext) (s : Settings) (word : ℕ) → AreSet scope.chosen s → AreSetIfOk scope.chosen (set_default scope s word)
default_fit scope s word h =
    cond_both (scope.chosen || s.is_default) _ _ (AreSetIfOk scope.chosen)
    (λ t. tt)
    (λ t. let free : true ≡ true → scope.chosen ≡ false = λ e. (or_parts scope.chosen s.is_default t).0 in assumption (free, h))

-- each option
option_fit : (scope : ReadContext) (s : Settings) (word : ℕ) (option : Key) (items : List Item) → IsBetween 1000 most_rate scope.rate → AreSet scope.chosen s
    → AreSetIfOk scope.chosen (set_option scope s word option items)
option_fit scope s word key.Sc items r h =
    let curve = curve_behind key.Sc items in
    let made = curve_fit 0 1 items (omega arith) in
    let real = either (IsCurveIfAny 0 0) curve s.real (curve_less curve made) h.real in
    let share = either (IsCurveIfAny 0 1) curve s.share made h.share in
    assumption (real, share, h)
option_fit scope s word key.Rt items r h =
    let real = either (IsCurveIfAny 0 0) _ s.real (curve_fit 0 0 items (omega arith)) h.real in assumption (real, h)
option_fit scope s word key.Ls items r h =
    let share = either (IsCurveIfAny 0 1) _ s.share (curve_fit 0 1 items (omega arith)) h.share in assumption (share, h)
option_fit scope s word key.Ul items r h =
    let upper = either (IsCurveIfAny 1000 1000) _ s.upper (curve_fit 1000 1000 items (le_refl 1000)) h.upper in assumption (upper, h)
option_fit scope s word key.Pshare items r h =
    let line = line_fit 1 1 100 (percent scope.rate) _ (number_fit 1 100 items 0) (λ n k. percent_fit scope.rate n r k) in
    let share = either (IsCurveIfAny 0 1) _ s.share line h.share in assumption (share, h)
option_fit scope s word key.Grate items r h =
    let line = line_fit 0 0 most_rate (λ n. n) _ (number_fit 0 most_rate items 0) (λ n k. k) in
    let real = either (IsCurveIfAny 0 0) _ s.real line h.real in assumption (real, h)
option_fit scope s word key.Qlimit items r h = let limit = number_or 1 10000 items s.limit h.limit in assumption (limit, h)
option_fit scope s word key.Default items r h = default_fit scope s word h
option_fit scope s word key.Priority items r h = let priority = number_or 0 7 items s.priority h.priority in assumption (priority, h)
option_fit scope s word key.Pbandwidth items r h = percent_set scope s (word_at items 0) (number_at 0 100 items 0) h
option_fit scope s word key.Exactbandwidth items r h =
    let rate = either (λ o. IfSome o (IsBetween 1000 most_rate)) _ s.rate (number_fit 1000 most_rate items 0) h.rate in assumption (rate, h)
option_fit scope s word key.Maxburst items r h = let maxburst = number_or 1 1000 items s.maxburst h.maxburst in assumption (maxburst, h)
option_fit scope s word key.Packetsize items r h = let size = number_or 1 262144 items s.packetsize h.packetsize in assumption (size, h)
option_fit scope s word _ items r h = assumption h

word_fit : (scope : ReadContext) (s : Settings) (word : ℕ) (says : What) (items : List Item) → IsBetween 1000 most_rate scope.rate → AreSet scope.chosen s
    → AreSetIfOk scope.chosen (set_by_word scope s word says items)
word_fit scope s word (what.Key option) items r h = option_fit scope s word option items r h
word_fit scope s word _ items r h = h

-- all of them, one after the other
pub fit_next : {A B : Type 0} (R : A → Type 0) (Q : B → Type 0) (r : Result A ConfPlace) (next : A → Result B ConfPlace) → IfOk r R
    → ((x : A) → R x → IfOk (next x) Q) → IfOk (elim r [ Ok x ↦ next x | Err fault ↦ Err fault ]) Q
fit_next R Q (Ok x) next h k = k x h
fit_next R Q (Err fault) next h k = tt

pub options_fit : (scope : ReadContext) (s : Settings) (items : List Item) → IsBetween 1000 most_rate scope.rate → AreSet scope.chosen s
    → AreSetIfOk scope.chosen (set_options scope s items)
options_fit scope s [] r h = h
options_fit scope s (item ∷ items) r h =
    fit_next (AreSet scope.chosen) (AreSet scope.chosen) (set_by_word scope s item.word item.what items) (λ t. set_options scope t items)
    (word_fit scope s item.word item.what items r h) (λ t k. options_fit scope t items r k)

-- UNDER A MASK: as long, bytes, and the same under it again
abbrev IsSmall : ℕ → Type 0
IsSmall byte = byte < 256

and_again : (a b : ℕ) → bit_and (bit_and a b) b ≡ bit_and a b
and_again a b = and_assoc b a b ∙ ap (bit_and a) (and_self b)

masked_is : (address mask : List ℕ) → length address ≡ length mask → All IsSmall address
    → (length (masked address mask) ≡ length address) × All IsSmall (masked address mask) × (masked (masked address mask) mask ≡ masked address mask)
masked_is [] mask l h = (refl, All-nil IsSmall, refl)
masked_is (byte ∷ address) [] l h = absurd (omega arith)
masked_is (byte ∷ address) (bits ∷ mask) l h =
    let t = masked_is address mask (omega arith) (All-tail IsSmall byte address h) in
    let small : bit_and byte bits < 256 = omega (arith, and_le_l byte bits, All-head IsSmall byte address h) in
    (omega arith, All-cons IsSmall (bit_and byte bits) (masked address mask) small t.1, ap₂ (λ (x : ℕ) (xs : List ℕ). x ∷ xs) (and_again byte bits) t.2)

masked_fit : (address mask : List ℕ) → AreBytes 4 address → AreBytes 4 mask → IsMasked (masked address mask) mask
masked_fit address mask h k =
    let t = masked_is address mask (omega (arith, h.count, k.count)) h.bytes in
    record { address = record { count = t.0 ∙ h.count; bytes = t.1 }; mask = k; under = t.2 }

same_bytes : (n byte : ℕ) → byte < 256 → AreBytes n (replicate n byte)
same_bytes n byte h = record { count = length-replicate n byte; bytes = All-replicate IsSmall n byte h }

none_masked : IsMasked (replicate 4 0) (replicate 4 0)
none_masked = record { address = same_bytes 4 0 (omega arith); mask = same_bytes 4 0 (omega arith); under = refl }

upper_again : (bits byte : ℕ) → upper bits (upper bits byte) ≡ upper bits byte
upper_again bits byte =
    let positive : 0 < 2 ^ (8 - bits) = pow_pos (8 - bits) in
    ap (λ n. n * 2 ^ (8 - bits)) (mul-div_left (byte / 2 ^ (8 - bits)) positive)

prefix_is : (bits : ℕ) (address : List ℕ) → All IsSmall address
    → (length (prefix bits address) ≡ length address) × All IsSmall (prefix bits address) × (prefix bits (prefix bits address) ≡ prefix bits address)
prefix_is bits [] h = (refl, All-nil IsSmall, refl)
prefix_is bits (byte ∷ address) h =
    let first = upper (min bits 8) byte in
    let t = prefix_is (bits - 8) address (All-tail IsSmall byte address h) in
    let most : first ≤ byte = div-mul-le_self byte (2 ^ (8 - min bits 8)) in
    let small : first < 256 = omega (arith, All-head IsSmall byte address h) in
    (ap suc t.0, All-cons IsSmall first (prefix (bits - 8) address) small t.1, ap₂ (λ (x : ℕ) (xs : List ℕ). x ∷ xs) (upper_again (min bits 8) byte) t.2)

prefix_fit : (address : List ℕ) (bits : ℕ) → AreBytes 16 address → bits ≤ 128 → IsPrefix (prefix bits address) bits
prefix_fit address bits h k =
    let t = prefix_is bits address h.bytes in
    record { address = record { count = t.0 ∙ h.count; bytes = t.1 }; bits = k; first = t.2 }

none_prefix : IsPrefix (replicate 16 0) 0
none_prefix = record { address = same_bytes 16 0 (omega arith); bits = omega arith; first = refl }

-- SOUND ITEMS: those behind some, and each of them
pub sound_drop : (n : ℕ) (items : List Item) → AreSound items → AreSound (drop n items)
sound_drop zero items h = h
sound_drop (suc n) [] h = tt
sound_drop (suc n) (item ∷ items) h = sound_drop n items h.1

pub sound_at : (P : Option Item → Type 0) (items : List Item) (k : ℕ) → AreSound items → P None → ((item : Item) → IsSound item.what → P (Some item))
    → P (slice_get items k)
sound_at P [] k h none some = none
sound_at P (item ∷ items) zero h none some = some item h.0
sound_at P (item ∷ items) (suc k) h none some = sound_at P items k h.1 none some

pick : {A : Type 0} (P : A → Type 0) (b : Bool) (x y : A) → P x → P y → P (cond b x y)
pick P true x y p q = p
pick P false x y p q = q

sound_option : (items : List Item) → AreSound items → AreSound (past_option items)
sound_option items h = pick AreSound (has_option items) _ _ (sound_drop 2 items h) h

-- THE PARTS OF A FILTER: its numbers
part_fit : (most other : ℕ) (o : Option ℕ) → other ≤ most → IfSome o (IsBetween 0 most) → unwrap_or o other ≤ most
part_fit most other o h k = (given_or (IsBetween 0 most) o other k (omega arith)).1

option_number_fit : (most : ℕ) (items : List Item) → IfSome (option_number most items) (IsBetween 0 most)
option_number_fit most items = pick (λ o. IfSome o (IsBetween 0 most)) (has_option items) _ _ (number_fit 0 most items 1) tt

under_fit : (o : Option ℕ) (mask : ℕ) → mask ≤ 255 → IsTos (under_mask o mask)
under_fit None mask h = tt
under_fit (Some tos) mask h = (omega (arith, and_le_r tos mask), h, and_again tos mask)

tos_fit : (items : List Item) → IsTos (tos_in items)
tos_fit items =
    under_fit (option_number 255 items) _ (part_fit 255 255 _ (omega arith) (option_number_fit 255 (past_option items)))

-- its addresses
as_ip4_fit : (says : What) → IsSound says → AreBytes 4 (as_ip4 says)
as_ip4_fit (what.Ip4 mask) h = h
as_ip4_fit _ h = same_bytes 4 255 (omega arith)

mask_fit : (items : List Item) → AreSound items → AreBytes 4 (mask_in items)
mask_fit items h =
    let all = same_bytes 4 255 (omega arith) in
    let given = sound_at (λ o. AreBytes 4 (ip4_in o)) items 1 h all (λ item k. as_ip4_fit item.what k) in
    pick (AreBytes 4) (has_option items) _ _ given all

with_mask_fit : (says : What) (mask : List ℕ) → IsSound says → AreBytes 4 mask → IsMasked (with_mask says mask).0 (with_mask says mask).1
with_mask_fit (what.Ip4 address) mask h k = masked_fit address mask h k
with_mask_fit _ mask h k = none_masked

address4_fit : (items : List Item) → AreSound items → IsMasked (address4 items).0 (address4 items).1
address4_fit items h =
    let mask = mask_in (drop 1 items) in
    sound_at (λ o. IsMasked (address4_in o mask).0 (address4_in o mask).1) items 0 h none_masked
    (λ item k. with_mask_fit item.what mask k (mask_fit (drop 1 items) (sound_drop 1 items h)))

with_length_fit : (says : What) → IsSound says → IsPrefix (with_length says).0 (with_length says).1
with_length_fit (what.Ip6 address bits) h = prefix_fit address bits h.0 h.1
with_length_fit _ h = none_prefix

address6_fit : (items : List Item) → AreSound items → IsPrefix (address6 items).0 (address6 items).1
address6_fit items h = sound_at (λ o. IsPrefix (address6_in o).0 (address6_in o).1) items 0 h none_prefix (λ item k. with_length_fit item.what k)

addresses_fit : (of : Form) (target source : List Item) → AreSound target → AreSound source → AreAddresses (addresses of target source)
addresses_fit form.Filter6 target source h k = (address6_fit target h, address6_fit source k)
addresses_fit _ target source h k = (address4_fit target h, address4_fit source k)

-- what a filter has but for its class
pub record HasParts (f : Filter) : Type 0 where
  pub ruleno : f.ruleno < 2 ^ 32
  pub addresses : AreAddresses f.addresses
  pub target_port : f.target_port ≤ 65535
  pub source_port : f.source_port ≤ 65535
  pub protocol : f.protocol ≤ 255
  pub tos : IsTos f.tos

pub filter_fit : (of : Form) (class : ℕ) (items : List Item) → AreSound items → HasParts (filter_of of class items)
filter_fit of class items h =
    let numbered = past_name items in
    let target = past_option numbered in
    let target_port = past_option (drop 1 target) in
    let source = drop 1 target_port in
    let source_port = past_option (drop 1 source) in
    let protocol = drop 1 source_port in
    let target_sound = sound_option numbered (pick AreSound (has_name items) _ _ (sound_drop 2 items h) h) in
    let source_sound = sound_drop 1 target_port (sound_option (drop 1 target) (sound_drop 1 target target_sound)) in
    let rule = part_fit (2 ^ 32 - 1) 0 _ (omega arith) (option_number_fit (2 ^ 32 - 1) numbered) in
    record {
      ruleno = omega (arith, rule);
      addresses = addresses_fit of target source target_sound source_sound;
      target_port = (number_or 0 65535 target_port 0 (omega arith)).1;
      source_port = (number_or 0 65535 source_port 0 (omega arith)).1;
      protocol = (number_or 0 255 protocol 0 (omega arith)).1;
      tos = tos_fit (drop 1 protocol);
    }
