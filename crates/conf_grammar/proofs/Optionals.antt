-- What stands in square brackets: an option that may be there.
use Rattle.std.proofs.Common.{◌≡◌, ◌∙◌, ℕ, ◌+◌, Bool, true, false, List, [], ◌∷◌, ◌++◌, None, Some, Result, Ok, refl, sym, ap, subst}
use Rattle.std.proofs.lemmas.List.{append-nil}
use Rattle.conf_lines.proofs.Readings.{past}
use Rattle.conf_lines.specs.Grammar.{Place, Step, end, step}
use Rattle.conf_lines.specs.Options.{word_of_key}
use Rattle.conf_lines.specs.Slots.{is_text}
use Rattle.conf_lines.specs.Texts.{Reading, read_from}
use Rattle.conf_lines.specs.declared.fault.ConfKind.{ConfKind}
use Rattle.conf_lines.specs.declared.item.What.{What}
use Rattle.conf_lines.specs.declared.item.What.TheVariants as what
use Rattle.conf_lines.specs.declared.options.Key.{Key}
use Rattle.conf_lines.specs.declared.statement.Form.{Form}
use Rattle.conf_grammar.proofs.Leads.{Ends, Found, Good, Leads, NoFault, Spelled, found_more, one_more}
use Rattle.conf_grammar.proofs.Places.{IsErr, err_is, is_itself, is_word, past_same}
use Rattle.conf_grammar.specs.Phrases.{◌▷◌, then, Maybe, absent, present, Option, option}
use Rattle.conf_grammar.specs.Words.{Phrase}

-- a phrase is read from p up to q, and what stands behind it from there on
pub record Reads (form : Form) (A : Phrase) (p q : Place) : Type 0 where
  pub read : {words more : List (List ℕ)} {says rest : List What} → A words says → Good form q more rest → Good form p (words ++ more) (says ++ rest)

-- the word of an option, which leads from p to b, and what stands behind it
pub read_option : {form : Form} {V : Phrase} (p b q : Place) (text : List ℕ) (k : Key) → step p text ≡ Ok (record { what = Some (what.Key k); after = b })
    → Leads form V b q → Reads form (Option text k V) p q
read_option {form} {V} p b q text k e values = record { read = reads }
  where
    reads : {words more : List (List ℕ)} {says rest : List What} → Option text k V words says → Good form q more rest → Good form p (words ++ more) (says ++ rest)
    reads (option v) good = one_more p b text (what.Key k) e (values.read v good)

-- At p the option of a key may stand: its word leads to b, and every other one is read as at q, which has no such word.
pub record MayStand (k : Key) (p b q : Place) : Type 0 where
  pub form : p.form ≡ q.form
  pub named : (w : List ℕ) → is_text (word_of_key k) w ≡ true → step p w ≡ Ok (record { what = Some (what.Key k); after = b })
  pub other : (w : List ℕ) → is_text (word_of_key k) w ≡ false → step p w ≡ step q w
  pub ends : end p ≡ end q
  pub refused : IsErr (step q (word_of_key k))

module _ (k : Key) (p b q : Place) (o : MayStand k p b q) where
  -- without the option, both are read alike
  alike : (line : ℕ) (words : List (List ℕ)) (at : ℕ) → ((w : List ℕ) (more : List (List ℕ)) → words ≡ w ∷ more → is_text (word_of_key k) w ≡ false)
      → read_from line words p at ≡ read_from line words q at
  alike line [] at h = rw (read_from, o.ends, o.form) refl
  alike line (w ∷ words) at h = rw (read_from, o.other w (h w words refl)) (past_same p q o.form line words at (step q w))

  not_named : {form : Form} (words : List (List ℕ)) (says : List What) → Good form q words says
      → (w : List ℕ) (more : List (List ℕ)) → words ≡ w ∷ more → is_text (word_of_key k) w ≡ false
  not_named {form} words says good w more split = go (is_text (word_of_key k) w) refl
    where
      go : (t : Bool) → is_text (word_of_key k) w ≡ t → is_text (word_of_key k) w ≡ false
      go false e = e
      go true e =
          let same = is_word (word_of_key k) w e in
          let refused = subst (λ (v : List ℕ). IsErr (step q v)) (sym same) o.refused in
          let read = subst (λ (ws : List (List ℕ)). (read_from 0 ws q 0).fault ≡ None) split (ap (λ (r : Reading). r.fault) (good.is 0 0)) in
          absurd (err_is 0 more q 0 (step q w) refused read)

  pub skip : {form : Form} (words : List (List ℕ)) (says : List What) → Good form q words says → Good form p words says
  skip words says good = record { is = λ line at. alike line words at (not_named words says good) ∙ good.is line at }

  skipped : (line : ℕ) (words : List (List ℕ)) (at : ℕ) → ((w : List ℕ) (more : List (List ℕ)) → words ≡ w ∷ more → is_text (word_of_key k) w ≡ false)
      → NoFault line words p at → NoFault line words q at
  skipped line words at h none = ap (λ (r : Reading). r.fault) (sym (alike line words at h)) ∙ none

  -- the first word is the option's, or none is
  pub data FirstWord (line : ℕ) (words : List (List ℕ)) (at : ℕ) : Type 0 where
    has_word : (more : List (List ℕ)) → words ≡ word_of_key k ∷ more → NoFault line more b (at + 1) → FirstWord line words at
    has_none : NoFault line words q at → FirstWord line words at

  first_word : (line : ℕ) (words : List (List ℕ)) (at : ℕ) → NoFault line words p at → FirstWord line words at
  first_word line [] at h = has_none (skipped line [] at (λ w more e. cc) h)
  first_word line (w ∷ words) at h = go (is_text (word_of_key k) w) refl
    where
      go : (t : Bool) → is_text (word_of_key k) w ≡ t → FirstWord line (w ∷ words) at
      go true e =
          has_word words (ap (λ v. v ∷ words) (is_word (word_of_key k) w e))
          (subst (λ (r : Result Step ConfKind). (past line words p at r).fault ≡ None) (o.named w e) h)
      go false e = has_none (skipped line (w ∷ words) at (λ v more f. let same : w ≡ v = cc in subst (λ u. is_text (word_of_key k) u ≡ false) same e) h)

  -- [option], and what stands behind it
  pub maybe_leads : {form : Form} {V : Phrase} → Leads form V b q → Leads form (Maybe (Option (word_of_key k) k V)) p q
  maybe_leads {form} {V} values = record { read = reads; found = finds }
    where
      reads : {words more : List (List ℕ)} {says rest : List What} → Maybe (Option (word_of_key k) k V) words says → Good form q more rest
          → Good form p (words ++ more) (says ++ rest)
      reads {more = more} {rest = rest} absent good = skip more rest good
      reads (present x) good = (read_option p b q (word_of_key k) k (o.named (word_of_key k) (is_itself (word_of_key k))) values).read x good

      by_first : (line : ℕ) (words : List (List ℕ)) (at : ℕ) → FirstWord line words at → Found (Maybe (Option (word_of_key k) k V)) q line words
      by_first line words at (has_none h) = record { front = []; says = []; rest = words; at = at; split = refl; is = absent; on = h }
      by_first line words at (has_word more split h) =
          subst (λ (ws : List (List ℕ)). Found (Maybe (Option (word_of_key k) k V)) q line ws) (sym split)
          (found_more (word_of_key k) (what.Key k) (λ ws xs v. present (option v)) (values.found line more (at + 1) h))

      finds : (line : ℕ) (words : List (List ℕ)) (at : ℕ) → NoFault line words p at → Found (Maybe (Option (word_of_key k) k V)) q line words
      finds line words at h = by_first line words at (first_word line words at h)

-- THE END OF A STATEMENT
pub record Closes (form : Form) (q : Place) : Type 0 where
  pub ends : Good form q [] []
  pub alone : (line : ℕ) (words : List (List ℕ)) (at : ℕ) → NoFault line words q at → words ≡ []

pub closes_by : (q : Place) → end q ≡ None → ((w : List ℕ) → IsErr (step q w)) → Closes q.form q
closes_by q ended refused = record { ends = record { is = λ line at. rw (read_from, ended) refl }; alone = alone }
  where
    alone : (line : ℕ) (words : List (List ℕ)) (at : ℕ) → NoFault line words q at → words ≡ []
    alone line [] at h = refl
    alone line (w ∷ words) at h = absurd (err_is line words q at (step q w) (refused w) h)

pub closed : {form : Form} {A : Phrase} (p q : Place) → Leads form A p q → Closes form q → Ends form A p
closed {form} {A} p q leads closes = record { read = reads; found = finds }
  where
    reads : {words : List (List ℕ)} {says : List What} → A words says → Good form p words says
    reads {words = words} {says = says} a =
        subst (λ (ws : List (List ℕ)). Good form p ws says) (append-nil words)
        (subst (λ (xs : List What). Good form p (words ++ []) xs) (append-nil says) (leads.read a closes.ends))

    finds : (line : ℕ) (words : List (List ℕ)) (at : ℕ) → NoFault line words p at → Spelled A words
    finds line words at h =
        let f = leads.found line words at h in
        let none = closes.alone line f.rest f.at f.on in
        let all : f.front ≡ words = sym (append-nil f.front) ∙ ap (λ (ws : List (List ℕ)). f.front ++ ws) (sym none) ∙ sym f.split in
        record { says = f.says; is = subst (λ (ws : List (List ℕ)). A ws f.says) all f.is }

-- [option more] at the end
pub maybe_ends : {form : Form} {V More : Phrase} (k : Key) (p b m q : Place) → MayStand k p b q → Closes form q → Leads form V b m → Ends form More m
    → Ends form (Maybe (Option (word_of_key k) k V ▷ More)) p
maybe_ends {form} {V} {More} k p b m q o closes values ends = record { read = reads; found = finds }
  where
    read_both : {words : List (List ℕ)} {says : List What} → (Option (word_of_key k) k V ▷ More) words says → Good form p words says
    read_both (then (option v) y) =
        one_more p b (word_of_key k) (what.Key k) (o.named (word_of_key k) (is_itself (word_of_key k))) (values.read v (ends.read y))

    reads : {words : List (List ℕ)} {says : List What} → Maybe (Option (word_of_key k) k V ▷ More) words says → Good form p words says
    reads absent = skip k p b q o [] [] closes.ends
    reads (present x) = read_both x

    by_first : (line : ℕ) (words : List (List ℕ)) (at : ℕ) → FirstWord k p b q o line words at → Spelled (Maybe (Option (word_of_key k) k V ▷ More)) words
    by_first line words at (has_none h) =
        let none = closes.alone line words at h in
        record { says = []; is = subst (λ (ws : List (List ℕ)). Maybe (Option (word_of_key k) k V ▷ More) ws []) (sym none) absent }
    by_first line words at (has_word more split h) =
        let f = values.found line more (at + 1) h in
        let s = ends.found line f.rest f.at f.on in
        let all : words ≡ (word_of_key k ∷ f.front) ++ f.rest = split ∙ ap (λ (ws : List (List ℕ)). word_of_key k ∷ ws) f.split in
        record {
          says = (what.Key k ∷ f.says) ++ s.says;
          is = subst (λ (ws : List (List ℕ)). Maybe (Option (word_of_key k) k V ▷ More) ws ((what.Key k ∷ f.says) ++ s.says)) (sym all)
              (present (then (option f.is) s.is));
        }

    finds : (line : ℕ) (words : List (List ℕ)) (at : ℕ) → NoFault line words p at → Spelled (Maybe (Option (word_of_key k) k V ▷ More)) words
    finds line words at h = by_first line words at (first_word k p b q o line words at h)
