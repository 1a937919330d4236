-- Each phrase of one word leads from where it is wanted to behind it.
use Rattle.std.proofs.Common.{◌≡◌, ℕ, ◌≤◌, ◌&&◌, Bool, true, false, cond, List, [], ◌∷◌, Option, None, Some, Result, Ok, Err, refl, sym, subst, nat_le, le-leb, leb-true, codes}
use Rattle.std.proofs.lemmas.Bool.{and_parts}
use Rattle.line_text.specs.Addresses.{ip4_of}
use Rattle.line_text.specs.Names.{is_name}
use Rattle.line_text.specs.Numbers.{rate_of, whole_of}
use Rattle.conf_lines.specs.Grammar.{Place, as_read, end, leads, reads, stands_by, step}
use Rattle.conf_lines.specs.Slots.{are_plain, as_ip4, checked, found_in, mask_in, name_in, protocol_in, rate_in, skipped_in, whole_in, within, is_text}
use Rattle.conf_lines.specs.declared.fault.ConfKind.{ConfKind}
use Rattle.conf_lines.specs.declared.fault.ConfKind.TheVariants.{BadByte, BadNumber, RateRange}
use Rattle.conf_lines.specs.declared.item.What.{What}
use Rattle.conf_lines.specs.declared.item.What.TheVariants as what
use Rattle.conf_lines.specs.declared.options.Slots.TheVariants as slots
use Rattle.conf_lines.specs.declared.statement.Form.{Form}
use Rattle.conf_grammar.proofs.Leads.{Leads, One, one, one_leads, taken}
use Rattle.conf_grammar.proofs.Places.{is_word, resumed, wanting}
use Rattle.conf_grammar.specs.Words.{Ip4, ip4, IsRate, IsWhole, Name, name, Phrase, Protocol, icmp, tcp, udp, by_number, Rate, rate, Whole, whole, Word, word}

-- a word whose bytes are tested first
pub checked_back : {A : Type 0} (w : List ℕ) (r : Result A ConfKind) (x : A) → checked w r ≡ Ok x → (are_plain w ≡ true) × (r ≡ Ok x)
checked_back {A} w r x e = go (are_plain w) refl e
  where
    go : (b : Bool) → are_plain w ≡ b → cond b r (Err BadByte) ≡ Ok x → (are_plain w ≡ true) × (r ≡ Ok x)
    go true p e = (p, e)
    go false p e = absurd cc

-- a number in a range
pub record Within (low high : ℕ) (o : Option ℕ) (n : ℕ) : Type 0 where
  pub is : o ≡ Some n
  pub least : low ≤ n
  pub most : n ≤ high

within_back : (low high : ℕ) (out : ConfKind) (o : Option ℕ) (n : ℕ) → within low high out o ≡ Ok n → Within low high o n
within_back low high out None n e = absurd cc
within_back low high out (Some m) n e = go (nat_le low m && nat_le m high) refl e
  where
    go : (b : Bool) → (nat_le low m && nat_le m high) ≡ b → cond b (Ok m) (Err out) ≡ Ok n → Within low high (Some m) n
    go true t e =
        let same : m ≡ n = cc in
        let parts = and_parts (nat_le low m) (nat_le m high) t in
        subst (λ k. Within low high (Some m) k) same (record { is = refl; least = leb-true low m parts.0; most = leb-true m high parts.1 })
    go false t e = absurd cc

number_read : (low high : ℕ) (out : ConfKind) (w : List ℕ) (o : Option ℕ) (n : ℕ) → are_plain w ≡ true → Within low high o n
    → checked w (within low high out o) ≡ Ok n
number_read low high out w o n plain is = rw (plain, is.is, le-leb low n is.least, le-leb n high is.most) refl

number_back : (low high : ℕ) (out : ConfKind) (w : List ℕ) (o : Option ℕ) (n : ℕ) → checked w (within low high out o) ≡ Ok n
    → (are_plain w ≡ true) × Within low high o n
number_back low high out w o n e = let plain = checked_back w (within low high out o) n e in (plain.0, within_back low high out o n plain.1)

pub rate_read : (low high : ℕ) (w : List ℕ) (n : ℕ) → IsRate low high w n → rate_in low high w ≡ Ok n
unfolding rate_in
rate_read low high w n is = number_read low high RateRange w (rate_of w) n is.plain (record { is = is.is; least = is.least; most = is.most })

pub rate_back : (low high : ℕ) (w : List ℕ) (n : ℕ) → rate_in low high w ≡ Ok n → IsRate low high w n
unfolding rate_in
rate_back low high w n e =
    let of = number_back low high RateRange w (rate_of w) n e in record { plain = of.0; is = of.1.is; least = of.1.least; most = of.1.most }

pub whole_read : (low high : ℕ) (w : List ℕ) (n : ℕ) → IsWhole low high w n → whole_in low high w ≡ Ok n
unfolding whole_in
whole_read low high w n is = number_read low high BadNumber w (whole_of w) n is.plain (record { is = is.is; least = is.least; most = is.most })

pub whole_back : (low high : ℕ) (w : List ℕ) (n : ℕ) → whole_in low high w ≡ Ok n → IsWhole low high w n
unfolding whole_in
whole_back low high w n e =
    let of = number_back low high BadNumber w (whole_of w) n e in record { plain = of.0; is = of.1.is; least = of.1.least; most = of.1.most }

-- WHERE THE WORDS OF AN OPTION ARE WANTED
-- a number, and what is next behind it
number_then : (as_what : ℕ → What) → ((n : ℕ) → stands_by (as_what n) ≡ true) → (p q : Place) (r : Result ℕ ConfKind)
    → leads (as_read as_what r) p q.next ≡ taken (record p { next = q.next; stands = true }) (as_read as_what r)
number_then as_what stands p q (Ok n) = rw (stands n) refl
number_then as_what stands p q (Err kind) = refl

pub rate_then : (p q : Place) (r : Result ℕ ConfKind) → leads (as_read what.Rate r) p q.next
    ≡ taken (record p { next = q.next; stands = true }) (as_read what.Rate r)
rate_then = number_then what.Rate (λ n. refl)

pub whole_then : (p q : Place) (r : Result ℕ ConfKind) → leads (as_read what.Whole r) p q.next
    ≡ taken (record p { next = q.next; stands = true }) (as_read what.Whole r)
whole_then = number_then what.Whole (λ n. refl)

pub whole_taken : (p : Place) (r : Result ℕ ConfKind) → reads (as_read what.Whole r) p ≡ taken (resumed p) (as_read what.Whole r)
whole_taken p r = whole_then p (resumed p) r

-- a phrase of one number
number_by : (form : Form) (A : Phrase) (p q : Place) (as_what : ℕ → What) (read : List ℕ → Result ℕ ConfKind)
    → ((w : List ℕ) → step p w ≡ taken q (as_read as_what (read w))) → (end p ≡ None → ⊥)
    → ((ws : List (List ℕ)) (xs : List What) → A ws xs → One (λ w. as_read as_what (read w)) ws xs)
    → ((w : List ℕ) (n : ℕ) → read w ≡ Ok n → A (w ∷ []) (as_what n ∷ [])) → Leads form A p q
number_by form A p q as_what read steps unended to back =
    one_leads form A p q (λ w. as_read as_what (read w)) steps unended to (λ w x e. of_read w x (read w) refl e)
  where
    of_read : (w : List ℕ) (x : What) (r : Result ℕ ConfKind) → read w ≡ r → as_read as_what r ≡ Ok x → A (w ∷ []) (x ∷ [])
    of_read w x (Ok n) f e = let same : as_what n ≡ x = cc in subst (λ y. A (w ∷ []) (y ∷ [])) same (back w n f)
    of_read w x (Err kind) f e = absurd cc

-- a RATE or a WHOLE, wherever it is read as one
pub rate_by : (form : Form) (low high : ℕ) (p q : Place) → ((w : List ℕ) → step p w ≡ taken q (as_read what.Rate (rate_in low high w)))
    → (end p ≡ None → ⊥) → Leads form (Rate low high) p q
rate_by form low high p q steps unended =
    number_by form (Rate low high) p q what.Rate (rate_in low high) steps unended to (λ w n e. rate (rate_back low high w n e))
  where
    to : (ws : List (List ℕ)) (xs : List What) → Rate low high ws xs → One (λ w. as_read what.Rate (rate_in low high w)) ws xs
    to ws xs (rate {w = w} {n = n} is) = one (rw (rate_read low high w n is) refl)

pub whole_by : (form : Form) (low high : ℕ) (p q : Place) → ((w : List ℕ) → step p w ≡ taken q (as_read what.Whole (whole_in low high w)))
    → (end p ≡ None → ⊥) → Leads form (Whole low high) p q
whole_by form low high p q steps unended =
    number_by form (Whole low high) p q what.Whole (whole_in low high) steps unended to (λ w n e. whole (whole_back low high w n e))
  where
    to : (ws : List (List ℕ)) (xs : List What) → Whole low high ws xs → One (λ w. as_read what.Whole (whole_in low high w)) ws xs
    to ws xs (whole {w = w} {n = n} is) = one (rw (whole_read low high w n is) refl)

pub rate_leads : (low high : ℕ) (q : Place) → Leads q.form (Rate low high) (wanting (slots.Rate low high) q) (resumed q)
unfolding step end
rate_leads low high q =
    let p = wanting (slots.Rate low high) q in
    rate_by q.form low high p (resumed q) (λ w. rate_then p (resumed q) (rate_in low high w)) (λ e. cc)

pub whole_leads : (low high : ℕ) (q : Place) → Leads q.form (Whole low high) (wanting (slots.Whole low high) q) (resumed q)
unfolding step end
whole_leads low high q =
    let p = wanting (slots.Whole low high) q in
    whole_by q.form low high p (resumed q) (λ w. whole_taken p (whole_in low high w)) (λ e. cc)

-- a WORD without effect
pub word_leads : (q : Place) → Leads q.form Word (wanting slots.Word q) (resumed q)
unfolding step end skipped_in
word_leads q = one_leads q.form Word (wanting slots.Word q) (resumed q) skipped_in steps (λ e. cc) to back
  where
    steps : (w : List ℕ) → step (wanting slots.Word q) w ≡ taken (resumed q) (skipped_in w)
    steps w = go (are_plain w)
      where
        go : (b : Bool) → reads (cond b (Ok what.Skipped) (Err BadByte)) (wanting slots.Word q) ≡ taken (resumed q) (cond b (Ok what.Skipped) (Err BadByte))
        go true = refl
        go false = refl

    to : (ws : List (List ℕ)) (xs : List What) → Word ws xs → One skipped_in ws xs
    to ws xs (word plain) = one (rw plain refl)

    back : (w : List ℕ) (x : What) → skipped_in w ≡ Ok x → Word (w ∷ []) (x ∷ [])
    back w x e =
        let plain = checked_back w (Ok what.Skipped) x e in
        let f = plain.1 in
        let same : what.Skipped ≡ x = cc in subst (λ y. Word (w ∷ []) (y ∷ [])) same (word plain.0)

-- a mask
pub mask_read : (w a : List ℕ) → are_plain w ≡ true → ip4_of w ≡ Some a → mask_in w ≡ Ok (what.Ip4 a)
unfolding mask_in
mask_read w a plain is = rw (plain, is) refl

pub mask_back : (w : List ℕ) (x : What) → mask_in w ≡ Ok x → Ip4 (w ∷ []) (x ∷ [])
unfolding mask_in
mask_back w x e =
    let plain = checked_back w (found_in (as_ip4 (ip4_of w))) x e in
    go (ip4_of w) refl plain.0 plain.1
  where
    go : (o : Option (List ℕ)) → ip4_of w ≡ o → are_plain w ≡ true → found_in (as_ip4 o) ≡ Ok x → Ip4 (w ∷ []) (x ∷ [])
    go None f plain e = absurd cc
    go (Some a) f plain e = let same : what.Ip4 a ≡ x = cc in subst (λ y. Ip4 (w ∷ []) (y ∷ [])) same (ip4 plain f)

mask_taken : (p : Place) (w : List ℕ) → reads (mask_in w) p ≡ taken (resumed p) (mask_in w)
unfolding mask_in
mask_taken p w = go (are_plain w) (ip4_of w)
  where
    go : (b : Bool) (o : Option (List ℕ)) → reads (cond b (found_in (as_ip4 o)) (Err BadByte)) p
        ≡ taken (resumed p) (cond b (found_in (as_ip4 o)) (Err BadByte))
    go true None = refl
    go true (Some a) = refl
    go false o = refl

pub mask_leads : (q : Place) → Leads q.form Ip4 (wanting slots.Mask q) (resumed q)
unfolding step end
mask_leads q = one_leads q.form Ip4 (wanting slots.Mask q) (resumed q) mask_in (mask_taken (wanting slots.Mask q)) (λ e. cc) to mask_back
  where
    to : (ws : List (List ℕ)) (xs : List What) → Ip4 ws xs → One mask_in ws xs
    to ws xs (ip4 {w = w} {a = a} plain is) = one (mask_read w a plain is)

-- WORDS THAT MUST BE THERE
name_taken : (p : Place) (w : List ℕ) → reads (name_in w) p ≡ taken (resumed p) (name_in w)
unfolding name_in
name_taken p w = go (is_name w)
  where
    go : (b : Bool) → reads (cond b (Ok (what.Name w)) (Err BadByte)) p ≡ taken (resumed p) (cond b (Ok (what.Name w)) (Err BadByte))
    go true = refl
    go false = refl

pub name_read : (w : List ℕ) → is_name w ≡ true → name_in w ≡ Ok (what.Name w)
unfolding name_in
name_read w is = rw is refl

pub name_back : (w : List ℕ) (x : What) → name_in w ≡ Ok x → (is_name w ≡ true) × (what.Name w ≡ x)
unfolding name_in
name_back w x e = go (is_name w) refl e
  where
    go : (b : Bool) → is_name w ≡ b → cond b (Ok (what.Name w)) (Err BadByte) ≡ Ok x → (is_name w ≡ true) × (what.Name w ≡ x)
    go true t e = (t, cc)
    go false t e = absurd cc

pub name_by : (form : Form) (p q : Place) → ((w : List ℕ) → step p w ≡ reads (name_in w) q) → (end p ≡ None → ⊥) → Leads form Name p (resumed q)
name_by form p q steps unended = one_leads form Name p (resumed q) name_in (λ w. rw (steps w) (name_taken q w)) unended to back
  where
    to : (ws : List (List ℕ)) (xs : List What) → Name ws xs → One name_in ws xs
    to ws xs (name {w = w} is) = one (name_read w is)

    back : (w : List ℕ) (x : What) → name_in w ≡ Ok x → Name (w ∷ []) (x ∷ [])
    back w x e = let is = name_back w x e in subst (λ y. Name (w ∷ []) (y ∷ [])) is.1 (name is.0)

-- PROTO: no number is one of the three words
pub not_the_text : {A : Type 0} (read : List ℕ → Option A) (text w : List ℕ) (x : A) → read text ≡ None → read w ≡ Some x → is_text text w ≡ false
not_the_text {A} read text w x none is = go (is_text text w) refl
  where
    none_some : read text ≡ Some x → ⊥
    none_some e = cc

    go : (b : Bool) → is_text text w ≡ b → is_text text w ≡ false
    go true t = absurd (none_some (subst (λ (v : List ℕ). read v ≡ Some x) (is_word text w t) is))
    go false t = t

protocol_number : (w : List ℕ) (n : ℕ) → IsWhole 0 255 w n → protocol_in w ≡ Ok n
unfolding protocol_in
protocol_number w n is =
    rw (
      not_the_text whole_of (codes "icmp") w n refl is.is,
      not_the_text whole_of (codes "tcp") w n refl is.is,
      not_the_text whole_of (codes "udp") w n refl is.is,
    )
    (whole_read 0 255 w n is)

protocol_read : (ws : List (List ℕ)) (xs : List What) → Protocol ws xs → One (λ w. as_read what.Whole (protocol_in w)) ws xs
unfolding protocol_in is_text
protocol_read ws xs icmp = one refl
protocol_read ws xs tcp = one refl
protocol_read ws xs udp = one refl
protocol_read ws xs (by_number {w = w} {n = n} is) = one (rw (protocol_number w n is) refl)

protocol_of : (w : List ℕ) (n : ℕ) → protocol_in w ≡ Ok n → Protocol (w ∷ []) (what.Whole n ∷ [])
unfolding protocol_in
protocol_of w n e = first (is_text (codes "icmp") w) refl e
  where
    says_one : (text : List ℕ) (m : ℕ) → is_text text w ≡ true → m ≡ n → Protocol (text ∷ []) (what.Whole m ∷ []) → Protocol (w ∷ []) (what.Whole n ∷ [])
    says_one text m t e is =
        subst (λ v. Protocol (v ∷ []) (what.Whole n ∷ [])) (sym (is_word text w t)) (subst (λ k. Protocol (text ∷ []) (what.Whole k ∷ [])) e is)

    third : (b : Bool) → is_text (codes "udp") w ≡ b → cond b (Ok 17) (whole_in 0 255 w) ≡ Ok n → Protocol (w ∷ []) (what.Whole n ∷ [])
    third true t e = says_one (codes "udp") 17 t (cc) udp
    third false t e = by_number (whole_back 0 255 w n e)

    second : (b : Bool) → is_text (codes "tcp") w ≡ b → cond b (Ok 6) (cond (is_text (codes "udp") w) (Ok 17) (whole_in 0 255 w)) ≡ Ok n
        → Protocol (w ∷ []) (what.Whole n ∷ [])
    second true t e = says_one (codes "tcp") 6 t (cc) tcp
    second false t e = third (is_text (codes "udp") w) refl e

    first : (b : Bool) → is_text (codes "icmp") w ≡ b
        → cond b (Ok 1) (cond (is_text (codes "tcp") w) (Ok 6) (cond (is_text (codes "udp") w) (Ok 17) (whole_in 0 255 w))) ≡ Ok n
        → Protocol (w ∷ []) (what.Whole n ∷ [])
    first true t e = says_one (codes "icmp") 1 t (cc) icmp
    first false t e = second (is_text (codes "tcp") w) refl e

pub protocol_by : (form : Form) (p q : Place) → ((w : List ℕ) → step p w ≡ reads (as_read what.Whole (protocol_in w)) q) → (end p ≡ None → ⊥)
    → Leads form Protocol p (resumed q)
protocol_by form p q steps unended =
    number_by form Protocol p (resumed q) what.Whole protocol_in (λ w. rw (steps w) (whole_taken q (protocol_in w))) unended protocol_read protocol_of
