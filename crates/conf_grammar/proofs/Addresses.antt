-- Addresses of filters lead from where they are wanted to behind them.
use Rattle.std.proofs.Common.{◌≡◌, ◌∙◌, ℕ, Bool, true, false, cond, List, [], ◌∷◌, ◌++◌, Option, None, Some, Result, Ok, refl, sym, subst, codes, nat_le, le-leb, leb-true}
use Rattle.line_text.specs.Addresses.{ip4_of, ip6_of}
use Rattle.line_text.specs.Numbers.{cut, number}
use Rattle.conf_lines.specs.Grammar.{Place, end, reads, stands_by, step}
use Rattle.conf_lines.specs.Slots.{address6_in, address_in, are_plain, as_ip6, checked, found_in, is_text, mask_in, prefix_in}
use Rattle.conf_lines.specs.declared.fault.ConfKind.{ConfKind}
use Rattle.conf_lines.specs.declared.item.What.{What}
use Rattle.conf_lines.specs.declared.item.What.TheVariants as what
use Rattle.conf_lines.specs.declared.options.Key.TheVariants as key
use Rattle.conf_lines.specs.declared.statement.Form.{Form}
use Rattle.conf_grammar.proofs.Leads.{Found, Good, Leads, NoFault, found_by, found_more, found_one, one_more}
use Rattle.conf_grammar.proofs.OneWord.{checked_back, mask_back, mask_read, not_the_text}
use Rattle.conf_grammar.proofs.Places.{Same, behind_word, good_same, is_word, none_same, reads_leading, resumed}
use Rattle.conf_grammar.specs.Phrases.{◌▷◌, then, first, second, Either, Maybe, Option as Opt}
use Rattle.conf_grammar.specs.Spells.{Address, Address6}
use Rattle.conf_grammar.specs.Words.{Ip4, ip4, Ip6, alone, with_length, Phrase, Zero, zero_address}

-- `0`, OR AN ADDRESS
data AddressWord (Ip : Phrase) : List ℕ → What → Type 0 where
  zero_word : AddressWord Ip (codes "0") what.Any
  some_word : {w : List ℕ} {x : What} → Ip (w ∷ []) (x ∷ []) → AddressWord Ip w x

address_word : (Ip : Phrase) (w : List ℕ) (x : What) (read : Result What ConfKind) → (read ≡ Ok x → Ip (w ∷ []) (x ∷ []))
    → cond (is_text (codes "0") w) (Ok what.Any) read ≡ Ok x → AddressWord Ip w x
address_word Ip w x read some e = go (is_text (codes "0") w) refl e
  where
    go : (b : Bool) → is_text (codes "0") w ≡ b → cond b (Ok what.Any) read ≡ Ok x → AddressWord Ip w x
    go true t e =
        let same : what.Any ≡ x = cc in
        subst (λ (y : What). AddressWord Ip w y) same (subst (λ (v : List ℕ). AddressWord Ip v what.Any) (sym (is_word (codes "0") w t)) zero_word)
    go false t e = some_word (some e)

-- an address is read at p, the place behind its part is a, and behind `0` the statement goes on as at q
pub record AtAddress (read : List ℕ → Result What ConfKind) (p a q : Place) : Type 0 where
  pub steps : (w : List ℕ) → step p w ≡ reads (read w) a
  pub unended : end p ≡ None → ⊥
  pub zero_same : Same (behind_word a what.Any) q

-- how other addresses are read, up to q, and found
record OtherThanZero (form : Form) (read : List ℕ → Result What ConfKind) (p a q : Place) (Ip Of : Phrase) : Type 0 where
  zero : read (codes "0") ≡ Ok what.Any
  back : (w : List ℕ) (x : What) → read w ≡ Ok x → AddressWord Ip w x
  good : {words more : List (List ℕ)} {says rest : List What} → Of words says → Good form q more rest → Good form p (words ++ more) (says ++ rest)
  found : (line : ℕ) (w : List ℕ) (x : What) (words : List (List ℕ)) (at : ℕ) → Ip (w ∷ []) (x ∷ []) → NoFault line words (behind_word a x) at
      → Found (Either Zero Of) q line (w ∷ words)

zero_or_leads : {form : Form} {read : List ℕ → Result What ConfKind} {p a q : Place} {Ip Of : Phrase} → AtAddress read p a q
    → OtherThanZero form read p a q Ip Of → Leads form (Either Zero Of) p q
zero_or_leads {form} {read} {p} {a} {q} {Ip} {Of} place some = record { read = reads_either; found = finds }
  where
    reads_either : {words more : List (List ℕ)} {says rest : List What} → Either Zero Of words says → Good form q more rest
        → Good form p (words ++ more) (says ++ rest)
    reads_either (first zero_address) good =
        one_more p (behind_word a what.Any) (codes "0") what.Any (rw (place.steps (codes "0"), some.zero) refl)
        (good_same (behind_word a what.Any) q place.zero_same good)
    reads_either (second x) good = some.good x good

    by_word : (line : ℕ) (w : List ℕ) (x : What) (words : List (List ℕ)) (at : ℕ) → AddressWord Ip w x → NoFault line words (behind_word a x) at
        → Found (Either Zero Of) q line (w ∷ words)
    by_word line w x words at zero_word h =
        found_one (codes "0") what.Any at (first zero_address) (none_same (behind_word a what.Any) q place.zero_same line words at h)
    by_word line w x words at (some_word ip) h = some.found line w x words at ip h

    finds : (line : ℕ) (words : List (List ℕ)) (at : ℕ) → NoFault line words p at → Found (Either Zero Of) q line words
    finds line words at h =
        found_by (Found (Either Zero Of) q line) line p read (λ w x. behind_word a x) place.unended
        (λ w. place.steps w ∙ reads_leading a (read w)) (λ w x more n e on. by_word line w x more n (some.back w x e) on) words at h

-- OF IPv4
abbrev WithMask : Phrase
WithMask = Maybe (Opt (codes "netmask") key.Netmask Ip4)

ip4_read : (w a : List ℕ) → are_plain w ≡ true → ip4_of w ≡ Some a → address_in w ≡ Ok (what.Ip4 a)
unfolding address_in
ip4_read w a plain is = rw (not_the_text ip4_of (codes "0") w a refl is) (mask_read w a plain is)

pub address_leads : {form : Form} {p a q : Place} → AtAddress address_in p a q → Leads form WithMask (resumed a) q → Leads form Address p q
unfolding address_in is_text
address_leads {form} {p} {a} {q} place mask =
    zero_or_leads place (record { zero = refl; back = λ w x e. address_word Ip4 w x (mask_in w) (mask_back w x) e; good = good; found = found })
  where
    good : {words more : List (List ℕ)} {says rest : List What} → (Ip4 ▷ WithMask) words says → Good form q more rest
        → Good form p (words ++ more) (says ++ rest)
    good (then (ip4 {w = w} {a = address} plain is) m) on =
        one_more p (resumed a) w (what.Ip4 address) (rw (place.steps w, ip4_read w address plain is) refl) (mask.read m on)

    found : (line : ℕ) (w : List ℕ) (x : What) (words : List (List ℕ)) (at : ℕ) → Ip4 (w ∷ []) (x ∷ []) → NoFault line words (behind_word a x) at
        → Found Address q line (w ∷ words)
    found line w x words at (ip4 {a = address} plain is) h =
        found_more w (what.Ip4 address) (λ ws xs m. second (then (ip4 plain is) m)) (mask.found line words at h)

-- OF IPv6
data Reads6 : List (List ℕ) → List What → Type 0 where
  reads6 : {w a : List ℕ} {bits : ℕ} → address6_in w ≡ Ok (what.Ip6 a bits) → Reads6 (w ∷ []) (what.Ip6 a bits ∷ [])

ip6_read : (words : List (List ℕ)) (says : List What) → Ip6 words says → Reads6 words says
unfolding address6_in
ip6_read words says (alone {w = w} {a = a} plain none is) = reads6 (rw (not_the_text ip6_of (codes "0") w a refl is, plain, none, is) refl)
ip6_read words says (with_length {w = w} {front = front} {back = back} {bits = bits} plain parts is len few) =
    reads6 (rw (not_the_text (cut 47) (codes "0") w (front, back) refl parts, plain, parts, is, len, le-leb bits 128 few) refl)

found6 : (w : List ℕ) (x : What) → are_plain w ≡ true → found_in (prefix_in w (cut 47 w)) ≡ Ok x → Ip6 (w ∷ []) (x ∷ [])
found6 w x plain e = go (cut 47 w) refl e
  where
    whole : (o : Option (List ℕ)) → cut 47 w ≡ None → ip6_of w ≡ o → found_in (as_ip6 o (Some 128)) ≡ Ok x → Ip6 (w ∷ []) (x ∷ [])
    whole None none is e = absurd cc
    whole (Some a) none is e = let same : what.Ip6 a 128 ≡ x = cc in subst (λ (y : What). Ip6 (w ∷ []) (y ∷ [])) same (alone plain none is)

    in_range : (front back a : List ℕ) (bits : ℕ) → cut 47 w ≡ Some (front, back) → ip6_of front ≡ Some a → number 10 back ≡ Some bits
        → (b : Bool) → nat_le bits 128 ≡ b → found_in (cond b (Some (what.Ip6 a bits)) None) ≡ Ok x → Ip6 (w ∷ []) (x ∷ [])
    in_range front back a bits parts is len true t e =
        let same : what.Ip6 a bits ≡ x = cc in
        subst (λ (y : What). Ip6 (w ∷ []) (y ∷ [])) same (with_length plain parts is len (leb-true bits 128 t))
    in_range front back a bits parts is len false t e = absurd cc

    by_parts : (front back : List ℕ) (o : Option (List ℕ)) (bits : Option ℕ) → cut 47 w ≡ Some (front, back) → ip6_of front ≡ o → number 10 back ≡ bits
        → found_in (as_ip6 o bits) ≡ Ok x → Ip6 (w ∷ []) (x ∷ [])
    by_parts front back None bits parts is len e = absurd cc
    by_parts front back (Some a) None parts is len e = absurd cc
    by_parts front back (Some a) (Some bits) parts is len e = in_range front back a bits parts is len (nat_le bits 128) refl e

    go : (o : Option (List ℕ × List ℕ)) → cut 47 w ≡ o → found_in (prefix_in w o) ≡ Ok x → Ip6 (w ∷ []) (x ∷ [])
    go None none e = whole (ip6_of w) none refl e
    go (Some parts) split e = by_parts parts.0 parts.1 (ip6_of parts.0) (number 10 parts.1) split refl refl e

pub address6_leads : {form : Form} {p a q : Place} → AtAddress address6_in p a q → Same (resumed a) q → Leads form Address6 p q
unfolding address6_in is_text
address6_leads {form} {p} {a} {q} place same = zero_or_leads place (record { zero = refl; back = back; good = good; found = found })
  where
    back : (w : List ℕ) (x : What) → address6_in w ≡ Ok x → AddressWord Ip6 w x
    back w x e =
        address_word Ip6 w x (checked w (found_in (prefix_in w (cut 47 w))))
        (λ r. let plain = checked_back w (found_in (prefix_in w (cut 47 w))) x r in found6 w x plain.0 plain.1) e

    good_one : {words more : List (List ℕ)} {says rest : List What} → Reads6 words says → Good form q more rest → Good form p (words ++ more) (says ++ rest)
    good_one (reads6 {w = w} {a = address} {bits = bits} e) on =
        one_more p (resumed a) w (what.Ip6 address bits) (rw (place.steps w, e) refl) (good_same (resumed a) q same on)

    good : {words more : List (List ℕ)} {says rest : List What} → Ip6 words says → Good form q more rest → Good form p (words ++ more) (says ++ rest)
    good {words = words} {says = says} x on = good_one (ip6_read words says x) on

    stands : (w : List ℕ) (x : What) → Ip6 (w ∷ []) (x ∷ []) → stands_by x ≡ true
    stands w x (alone plain none is) = refl
    stands w x (with_length plain parts is len few) = refl

    found : (line : ℕ) (w : List ℕ) (x : What) (words : List (List ℕ)) (at : ℕ) → Ip6 (w ∷ []) (x ∷ []) → NoFault line words (behind_word a x) at
        → Found Address6 q line (w ∷ words)
    found line w x words at is h =
        found_one w x at (second is)
        (none_same (resumed a) q same line words at (subst (λ (b : Bool). NoFault line words (record (resumed a) { stands = b }) at) (stands w x is) h))
