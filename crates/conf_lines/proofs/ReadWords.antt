-- What one word says where a word of a kind is wanted: a fact holds of what it says if it does of each thing that it may say; the
-- addresses that a word writes have their bytes.
use Rattle.std.proofs.Common.{◌≡◌, ℕ, ◌+◌, ◌-◌, ◌/◌, ◌%◌, ◌^◌, ◌<◌, ◌≤◌, ◌==◌, ◌&&◌, Bool, true, false, cond, List, [], ◌∷◌, ◌++◌, length, replicate, Option, Some, None, IfSome, option_and_then, All, refl, sym, arith, nat_le, leb-true, eqb-true, Result, Ok, Err, IfOk, codes}
use Rattle.std.proofs.Math.Nat.{pow-le-pow_right}
use Rattle.std.proofs.lemmas.Bool.{and_parts, cond_both}
use Rattle.std.proofs.lemmas.List.{length-append, length-replicate}
use Rattle.std.proofs.lemmas.List.Elements.{All-nil, All-append, All-replicate, All-from_recursion}
use Rattle.line_text.specs.Addresses.{octet, ip4_of, group, pieces, groups, groups_of, side, gap, around, all_groups, ip6_parts, ip6_of}
use Rattle.line_text.specs.Numbers.{number, cut, whole_of, rate_of}
use Rattle.line_text.proofs.Digits.{number-bound}
use Rattle.line_text.specs.Names.{is_name}
use Rattle.conf_lines.specs.Laws.{AreBytes}
use Rattle.conf_lines.specs.declared.fault.ConfKind.{ConfKind}
use Rattle.conf_lines.specs.declared.fault.ConfKind.TheVariants.{UnknownWord, BadNumber, RateRange, BadByte}
use Rattle.conf_lines.specs.declared.grammar.Next.TheVariants as next
use Rattle.conf_lines.specs.declared.item.What.{What}
use Rattle.conf_lines.specs.declared.item.What.TheVariants as what
use Rattle.conf_lines.specs.declared.statement.Form.TheVariants as form
use Rattle.conf_lines.specs.Grammar.{Step, refused, begins, at_statement, at_discipline}
use Rattle.conf_lines.specs.Slots.{is_text, are_plain, checked, within, rate_in, whole_in, skipped_in, name_in, protocol_in, found_in, as_ip4, mask_in, address_in, as_ip6, prefix_in, address6_in}

abbrev IsByte : ℕ → Type 0
IsByte b = b < 256

abbrev AreSmall : List ℕ → Type 0
AreSmall bytes = All IsByte bytes

-- what holds of an option's value, if there is one: behind another option, of whose value this holds, and behind a test
then_has : {A B : Type 0} (Q : A → Type 0) (P : B → Type 0) (f : A → Option B) (o : Option A) → IfSome o Q → ((x : A) → Q x → IfSome (f x) P)
    → IfSome (option_and_then f o) P
then_has Q P f None h k = tt
then_has Q P f (Some x) h k = k x h

some_is : {A : Type 0} (o : Option A) → IfSome o (λ x. o ≡ Some x)
some_is None = tt
some_is (Some x) = refl

some_if : {A : Type 0} (P : A → Type 0) (b : Bool) (x : A) → (b ≡ true → P x) → IfSome (cond b (Some x) None) P
some_if P true x k = k refl
some_if P false x k = tt

-- four octets
octet_small : (text : List ℕ) → IfSome (octet text) IsByte
octet_small text = then_has _ IsByte _ (number 10 text) (some_is (number 10 text)) λ n e.
    some_if IsByte (nat_le (length text) 3 && nat_le n 255) n λ t.
    omega (arith, leb-true n 255 (and_parts (nat_le (length text) 3) (nat_le n 255) t).1)

pub ip4_bytes : (word : List ℕ) → IfSome (ip4_of word) (AreBytes 4)
ip4_bytes word =
    then_has _ (AreBytes 4) _ (cut 46 word) (some_is (cut 46 word)) λ first i.
    then_has _ (AreBytes 4) _ (cut 46 first.1) (some_is (cut 46 first.1)) λ second j.
    then_has _ (AreBytes 4) _ (cut 46 second.1) (some_is (cut 46 second.1)) λ third k.
    then_has IsByte (AreBytes 4) _ (octet first.0) (octet_small first.0) λ a p.
    then_has IsByte (AreBytes 4) _ (octet second.0) (octet_small second.0) λ b q.
    then_has IsByte (AreBytes 4) _ (octet third.0) (octet_small third.0) λ c r.
    then_has IsByte (AreBytes 4) _ (octet third.1) (octet_small third.1) λ d s.
    record { count = refl; bytes = All-from_recursion IsByte (a ∷ b ∷ c ∷ d ∷ []) (p, (q, (r, (s, tt)))) }

-- the two bytes of each group
group_small : (text : List ℕ) → IfSome (group text) AreSmall
group_small text = then_has _ AreSmall _ (number 16 text) (some_is (number 16 text)) λ n e.
    some_if AreSmall (nat_le (length text) 4) (n / 256 ∷ n % 256 ∷ []) λ t.
    let most : 16 ^ length text ≤ 16 ^ 4 = pow-le-pow_right (omega arith) (leb-true (length text) 4 t) in
    let short : n < 65536 = omega (arith, number-bound 16 text n (sym e)) in
    All-from_recursion IsByte (n / 256 ∷ n % 256 ∷ []) (omega arith, (omega arith, tt))

groups_small : (texts : List (List ℕ)) → IfSome (groups texts) AreSmall
groups_small [] = All-nil IsByte
groups_small (piece ∷ rest) =
    then_has AreSmall AreSmall _ (group piece) (group_small piece) λ bytes h.
    then_has AreSmall AreSmall _ (groups rest) (groups_small rest) λ more k. All-append IsByte bytes more h k

groups_of_small : (text : List ℕ) → IfSome (groups_of text) AreSmall
groups_of_small text =
    then_has AreSmall AreSmall _ (groups (pieces text)) (groups_small (pieces text)) λ bytes h. some_if AreSmall (nat_le (length bytes) 16) bytes (λ t. h)

side_small : (text : List ℕ) → IfSome (side text) AreSmall
side_small text = cond_both (length text == 0) (Some []) (groups_of text) (λ o. IfSome o AreSmall) (λ e. All-nil IsByte) (λ e. groups_of_small text)

-- all sixteen bytes
around_bytes : (front back : List ℕ) → AreSmall front → AreSmall back → IfSome (around front back) (AreBytes 16)
around_bytes front back h k =
    let zero_byte : ℕ = 0 in
    let left = 16 - length front - length back in
    let zeros = replicate left zero_byte in
    some_if (AreBytes 16) (nat_le (length front + length back) 14) (front ++ zeros ++ back) (λ t.
    let short = leb-true (length front + length back) 14 t in record {
      count = omega (arith, length-append (front ++ zeros) back, length-append front zeros, length-replicate left zero_byte);
      bytes = All-append IsByte (front ++ zeros) back (All-append IsByte front zeros h (All-replicate IsByte left 0 (omega arith))) k;
    })

parts_bytes : (word : List ℕ) (parts : Option (List ℕ × List ℕ)) → IfSome (ip6_parts word parts) (AreBytes 16)
parts_bytes word None = then_has AreSmall (AreBytes 16) all_groups (groups_of word) (groups_of_small word) λ bytes h.
    some_if (AreBytes 16) (length bytes == 16) bytes (λ t. record { count = eqb-true (length bytes) 16 t; bytes = h })
parts_bytes word (Some parts) =
    then_has AreSmall (AreBytes 16) _ (side parts.0) (side_small parts.0) λ front h.
    then_has AreSmall (AreBytes 16) _ (side parts.1) (side_small parts.1) λ back k. around_bytes front back h k

pub ip6_bytes : (word : List ℕ) → IfSome (ip6_of word) (AreBytes 16)
ip6_bytes word = parts_bytes word (gap word)

pub pick : {A : Type 0} (P : A → Type 0) (b : Bool) (x y : A) → P x → P y → P (cond b x y)
pick P true x y p q = p
pick P false x y p q = q

if_checked : {A : Type 0} (P : A → Type 0) (word : List ℕ) (r : Result A ConfKind) → IfOk r P → IfOk (checked word r) P
if_checked P word r h = pick (λ r. IfOk r P) (are_plain word) r (Err BadByte) h tt

-- a NAME, a WORD without effect, and addresses
module _ (P : What → Type 0) (word : List ℕ) where
  pub name_says : (is_name word ≡ true → P (what.Name word)) → IfOk (name_in word) P
  unfolding name_in
  name_says name = cond_both (is_name word) (Ok (what.Name word)) (Err BadByte) (λ r. IfOk r P) name (λ e. tt)

  pub skipped_says : P what.Skipped → IfOk (skipped_in word) P
  unfolding skipped_in
  skipped_says skipped = if_checked P word (Ok what.Skipped) skipped

  found4 : (o : Option (List ℕ)) → IfSome o (AreBytes 4) → ((address : List ℕ) → AreBytes 4 address → P (what.Ip4 address)) → IfOk (found_in (as_ip4 o)) P
  found4 None bytes ip4 = tt
  found4 (Some address) bytes ip4 = ip4 address bytes

  pub mask_says : ((address : List ℕ) → AreBytes 4 address → P (what.Ip4 address)) → IfOk (mask_in word) P
  unfolding mask_in
  mask_says ip4 = if_checked P word (found_in (as_ip4 (ip4_of word))) (found4 (ip4_of word) (ip4_bytes word) ip4)

  pub address_says : P what.Any → ((address : List ℕ) → AreBytes 4 address → P (what.Ip4 address)) → IfOk (address_in word) P
  unfolding address_in
  address_says any ip4 = pick (λ r. IfOk r P) (is_text (codes "0") word) (Ok what.Any) (mask_in word) any (mask_says ip4)

  module _ (any : P what.Any) (ip6 : (address : List ℕ) (bits : ℕ) → AreBytes 16 address → bits ≤ 128 → P (what.Ip6 address bits)) where
    found6 : (o : Option (List ℕ)) (bits : Option ℕ) → IfSome o (AreBytes 16) → IfOk (found_in (as_ip6 o bits)) P
    found6 None bits bytes = tt
    found6 (Some address) None bytes = tt
    found6 (Some address) (Some bits) bytes =
        cond_both (nat_le bits 128) (Some (what.Ip6 address bits)) None (λ o. IfOk (found_in o) P) (λ e. ip6 address bits bytes (leb-true bits 128 e)) (λ e. tt)

    with_prefix : (parts : Option (List ℕ × List ℕ)) → IfOk (found_in (prefix_in word parts)) P
    with_prefix None = found6 (ip6_of word) (Some 128) (ip6_bytes word)
    with_prefix (Some parts) = found6 (ip6_of parts.0) (number 10 parts.1) (ip6_bytes parts.0)

    pub address6_says : IfOk (address6_in word) P
    unfolding address6_in
    address6_says =
        let found = found_in (prefix_in word (cut 47 word)) in
        pick (λ r. IfOk r P) (is_text (codes "0") word) (Ok what.Any) (checked word found) any (if_checked P word found (with_prefix (cut 47 word)))

-- numbers
abbrev pub IsFrom : ℕ → ℕ → ℕ → Type 0
IsFrom low high n = (low ≤ n) × (n ≤ high)

within_says : (low high : ℕ) (out : ConfKind) (o : Option ℕ) → IfOk (within low high out o) (IsFrom low high)
within_says low high out None = tt
within_says low high out (Some n) =
    cond_both (nat_le low n && nat_le n high) (Ok n) (Err out) (λ r. IfOk r (IsFrom low high))
    (λ e. let parts = and_parts (nat_le low n) (nat_le n high) e in (leb-true low n parts.0, leb-true n high parts.1)) (λ e. tt)

pub rate_says : (low high : ℕ) (word : List ℕ) → IfOk (rate_in low high word) (IsFrom low high)
unfolding rate_in
rate_says low high word = if_checked (IsFrom low high) word (within low high RateRange (rate_of word)) (within_says low high RateRange (rate_of word))

pub whole_says : (low high : ℕ) (word : List ℕ) → IfOk (whole_in low high word) (IsFrom low high)
unfolding whole_in
whole_says low high word = if_checked (IsFrom low high) word (within low high BadNumber (whole_of word)) (within_says low high BadNumber (whole_of word))

pub protocol_says : (word : List ℕ) → IfOk (protocol_in word) (IsFrom 0 255)
unfolding protocol_in
protocol_says word =
    let P : Result ℕ ConfKind → Type 0 = λ r. IfOk r (IsFrom 0 255) in
    pick P (is_text (codes "icmp") word) _ _ (omega arith)
    (pick P (is_text (codes "tcp") word) _ _ (omega arith)
    (pick P (is_text (codes "udp") word) _ _ (omega arith) (whole_says 0 255 word)))

-- the words that say which statement it is
module _ (P : Result Step ConfKind → Type 0) (word : List ℕ) (fault : (kind : ConfKind) → P (Err kind)) where
  pub refused_cases : P (refused word)
  refused_cases = pick P (are_plain word) (Err UnknownWord) (Err BadByte) (fault UnknownWord) (fault BadByte)

  pub statement_cases : P (begins form.Interface next.Part) → P (begins form.Unread next.Discipline) → P (begins form.Filter next.Part)
      → P (begins form.Filter6 next.Part) → P (begins form.Conditioner next.Part) → P (at_statement word)
  unfolding at_statement
  statement_cases interface class filter filter6 conditioner =
      pick P (is_text (codes "interface") word) _ _ interface
      (pick P (is_text (codes "class") word) _ _ class
      (pick P (is_text (codes "filter") word) _ _ filter
      (pick P (is_text (codes "filter6") word) _ _ filter6
      (pick P (is_text (codes "conditioner") word) _ _ conditioner refused_cases))))

  pub discipline_cases : P (begins form.ClassHfsc next.Part) → P (begins form.ClassCbq next.Part) → P (at_discipline word)
  unfolding at_discipline
  discipline_cases hfsc cbq =
      pick P (is_text (codes "hfsc") word) _ _ hfsc (pick P (is_text (codes "cbq") word) _ _ cbq refused_cases)
