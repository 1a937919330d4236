-- Packets that agree but for the type of service have one flow but for it.
use Rattle.std.proofs.Common.{◌≡◌, ◌≢◌, ◌≤◌, ◌<◌, ◌+◌, ◌-◌, ◌*◌, ◌/◌, ◌^◌, ◌∙◌, ap, ℕ, List, length, take, drop, get_or, Bool, true, false, refl, arith, sym}
use Rattle.std.specs.Prelude.{slice_range, if◌then◌else◌}
use Rattle.std.proofs.lemmas.Grind.{common_steps}
use Rattle.std.proofs.lemmas.Bool.Decides.{nat_tests}
use Rattle.std.proofs.lemmas.List.{ext_get_or, get_or-take, get_or-drop}
use Rattle.packet_heads.specs.Flow.{V4, V6, Other, heads_4, heads_6, flow_4, flow_6, is_head_4, is_head_6, head_words, ports_at, traffic_class}
use Rattle.packet_heads.specs.Retagged.{with_tos}

pub agree_range : (xs ys : List ℕ) (i j : ℕ) → length xs ≡ length ys → ((k : ℕ) → i ≤ k → get_or xs k 0 ≡ get_or ys k 0)
    → slice_range xs i j ≡ slice_range ys i j
agree_range xs ys i j e same =
    ext_get_or 0 (take (j - i) (drop i xs)) (take (j - i) (drop i ys)) (grind (arith, common_steps))
    (λ k h. let within : k < j - i = grind (arith, common_steps) in
    get_or-take (j - i) (drop i xs) k 0 within ∙ get_or-drop i xs k 0 ∙ same (i + k) (omega arith) ∙ sym (get_or-drop i ys k 0)
    ∙ sym (get_or-take (j - i) (drop i ys) k 0 within))

-- a packet of version 4 whose type of service and checksum alone differ
pub record Agrees4 (packet changed : List ℕ) (tos : ℕ) : Type 0 where
  pub same_length : length changed ≡ length packet
  pub others : (k : ℕ) → k ≢ 1 → k ≢ 10 → k ≢ 11 → get_or changed k 0 ≡ get_or packet k 0
  pub class : get_or changed 1 0 ≡ tos

ports_same : (packet changed : List ℕ) (protocol at : ℕ) → length changed ≡ length packet
    → ((k : ℕ) → at ≤ k → get_or changed k 0 ≡ get_or packet k 0) → ports_at changed protocol at ≡ ports_at packet protocol at
ports_same packet changed protocol at e same =
    let first = same at (omega arith) in
    let second = same (at + 1) (omega arith) in
    let third = same (at + 2) (omega arith) in
    let fourth = same (at + 2 + 1) (omega arith) in
    rw (e, first, second, third, fourth) refl

heads_same_4 : (packet changed : List ℕ) (tos : ℕ) → Agrees4 packet changed tos → 5 ≤ head_words packet
    → heads_4 changed ≡ record (heads_4 packet) { tos = tos }
heads_same_4 packet changed tos a five =
    let zeroth = a.others 0 (omega arith) (omega arith) (omega arith) in
    let sixth = a.others 6 (omega arith) (omega arith) (omega arith) in
    let seventh = a.others 7 (omega arith) (omega arith) (omega arith) in
    let protocol = a.others 9 (omega arith) (omega arith) (omega arith) in
    let source = agree_range changed packet 12 16 a.same_length (λ k h. a.others k (omega arith) (omega arith) (omega arith)) in
    let target = agree_range changed packet 16 20 a.same_length (λ k h. a.others k (omega arith) (omega arith) (omega arith)) in
    let ports = ports_same packet changed (get_or packet 9 0) (4 * head_words packet) a.same_length
    (λ k h. a.others k (omega arith) (omega arith) (omega arith)) in
    rw (a.class, protocol, source, target, zeroth, sixth, seventh, ports) refl

head_same_4 : (packet changed : List ℕ) (tos : ℕ) → Agrees4 packet changed tos → is_head_4 changed ≡ is_head_4 packet
head_same_4 packet changed tos a =
    let zeroth = a.others 0 (omega arith) (omega arith) (omega arith) in
    let e = a.same_length in
    rw (e, zeroth) refl

words_4 : (packet : List ℕ) → is_head_4 packet ≡ true → 5 ≤ head_words packet
words_4 packet h = grind (arith, nat_tests)

by_head_4 : (packet changed : List ℕ) (tos : ℕ) (b : Bool) → Agrees4 packet changed tos → is_head_4 packet ≡ b
    → (if b then V4 (heads_4 changed) else Other) ≡ with_tos (if b then V4 (heads_4 packet) else Other) tos
by_head_4 packet changed tos true a h = ap V4 (heads_same_4 packet changed tos a (words_4 packet h))
by_head_4 packet changed tos false a h = refl

pub flow_same_4 : (packet changed : List ℕ) (tos : ℕ) → Agrees4 packet changed tos → flow_4 changed ≡ with_tos (flow_4 packet) tos
flow_same_4 packet changed tos a =
    ap (λ b. if b then V4 (heads_4 changed) else Other) (head_same_4 packet changed tos a)
    ∙ by_head_4 packet changed tos (is_head_4 packet) a refl

-- a packet of version 6 whose traffic class alone differs
pub record Agrees6 (packet changed : List ℕ) (tos : ℕ) : Type 0 where
  pub same_length : length changed ≡ length packet
  pub others : (k : ℕ) → 2 ≤ k → get_or changed k 0 ≡ get_or packet k 0
  pub version : get_or changed 0 0 / 2 ^ 4 ≡ get_or packet 0 0 / 2 ^ 4
  pub class : traffic_class changed ≡ tos

heads_same_6 : (packet changed : List ℕ) (tos : ℕ) → Agrees6 packet changed tos → heads_6 changed ≡ record (heads_6 packet) { tos = tos }
heads_same_6 packet changed tos a =
    let protocol = a.others 6 (omega arith) in
    let source = agree_range changed packet 8 24 a.same_length (λ k h. a.others k (omega arith)) in
    let target = agree_range changed packet 24 40 a.same_length (λ k h. a.others k (omega arith)) in
    let ports = ports_same packet changed (get_or packet 6 0) 40 a.same_length (λ k h. a.others k (omega arith)) in
    rw (a.class, protocol, source, target, ports) refl

by_head_6 : (packet changed : List ℕ) (tos : ℕ) (b : Bool) → Agrees6 packet changed tos
    → (if b then V6 (heads_6 changed) else Other) ≡ with_tos (if b then V6 (heads_6 packet) else Other) tos
by_head_6 packet changed tos true a = ap V6 (heads_same_6 packet changed tos a)
by_head_6 packet changed tos false a = refl

pub flow_same_6 : (packet changed : List ℕ) (tos : ℕ) → Agrees6 packet changed tos → flow_6 changed ≡ with_tos (flow_6 packet) tos
flow_same_6 packet changed tos a =
    let head : is_head_6 changed ≡ is_head_6 packet = rw (a.same_length, a.version) refl in
    ap (λ b. if b then V6 (heads_6 changed) else Other) head ∙ by_head_6 packet changed tos (is_head_6 packet) a
