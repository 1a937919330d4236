-- Options in any order.
use Rattle.std.proofs.Common.{◌≡◌, ◌∙◌, ◌≤◌, ℕ, zero, suc, ◌+◌, ◌||◌, Bool, true, false, cond, List, [], ◌∷◌, ◌++◌, length, Option, None, Some, refl, sym, ap, subst, arith}
use Rattle.std.proofs.lemmas.List.{length-append}
use Rattle.conf_lines.proofs.GrammarPlaces.{at_option}
use Rattle.conf_lines.proofs.Readings.{past}
use Rattle.conf_lines.specs.Grammar.{chosen, end, step}
use Rattle.conf_lines.specs.Options.{one_of, option_of, options_of, completes, slots_of, word_of_key}
use Rattle.conf_lines.specs.Slots.{is_text}
use Rattle.conf_lines.specs.Texts.{fault_at}
use Rattle.conf_lines.specs.declared.item.What.{What}
use Rattle.conf_lines.specs.declared.item.What.TheVariants as what
use Rattle.conf_lines.specs.declared.options.Key.{Key}
use Rattle.conf_lines.specs.declared.statement.Form.{Form}
use Rattle.conf_grammar.proofs.Leads.{Good, NoFault, one_more}
use Rattle.conf_grammar.proofs.Places.{err_is, is_word, refused_is, wanting}
use Rattle.conf_grammar.proofs.Values.{Values, values_are_none, values_lead}
use Rattle.conf_grammar.specs.Phrases.{has, Many, none, more, Option as Opt, option}
use Rattle.conf_grammar.specs.Words.{Phrase}

-- the option of a key, with the values that its row of the table of options asks for
abbrev pub Written : Key → Phrase
Written k = Opt (word_of_key k) k (Values (slots_of k))

-- an option of one of these keys, which its word names among them
pub data Keyed (keys : List Key) : List (List ℕ) → List What → Type 0 where
  keyed : (k : Key) {words : List (List ℕ)} {says : List What} → one_of keys (word_of_key k) ≡ Some k → Written k words says → Keyed keys words says

-- a fact of each of these keys
infixr 5 ◌&◌
pub data Each (P : Key → Type 0) : List Key → Type 0 where
  done : Each P []
  ◌&◌ : {k : Key} {keys : List Key} → P k → Each P keys → Each P (k ∷ keys)

-- each option of a key is one of a phrase
abbrev pub Row : Phrase → Key → Type 0
Row Of k = (words : List (List ℕ)) (says : List What) → Written k words says → Of words says

-- the options of a form are these, and the test of what must be among them is that of the table
pub record Choice (form : Form) (test : Key → Bool) (Of : Phrase) : Type 0 where
  pub completes : Each (λ k. test k ≡ completes k) (options_of form)
  pub keyed : {words : List (List ℕ)} {says : List What} → Of words says → Keyed (options_of form) words says
  pub rows : Each (Row Of) (options_of form)

find_row : {P : Key → Type 0} (keys : List Key) (w : List ℕ) (k : Key) → Each P keys → one_of keys w ≡ Some k → (w ≡ word_of_key k) × P k
find_row [] w k rows e = absurd cc
find_row {P} (key ∷ keys) w k (row & rows) e = go (find_row keys w k rows) (is_text (word_of_key key) w) refl e
  where
    go : (one_of keys w ≡ Some k → (w ≡ word_of_key k) × P k) → (b : Bool) → is_text (word_of_key key) w ≡ b
        → cond b (Some key) (one_of keys w) ≡ Some k → (w ≡ word_of_key k) × P k
    go later true t e = let same : key ≡ k = cc in subst (λ x. (w ≡ word_of_key x) × P x) same (is_word (word_of_key key) w t, row)
    go later false t e = later e

-- an option of some keys is one of other keys too, where its word names its key among those
pub also_keyed : {keys others : List Key} {words : List (List ℕ)} {says : List What} → Keyed keys words says
    → Each (λ k. one_of others (word_of_key k) ≡ Some k) keys → Keyed others words says
also_keyed {keys} (keyed k found o) named = keyed k (find_row keys (word_of_key k) k named found).1 o

module _ (form : Form) (test : Key → Bool) (Of : Phrase) (choice : Choice form test Of) where
  -- THE READING OF OPTIONS
  end_read : (completed : Bool) → (completed || false) ≡ true → Good form (at_option form completed) [] []
  unfolding end
  end_read true e = record { is = λ line at. refl }
  end_read false e = absurd cc

  completed_by : (completed : Bool) (k : Key) (said rest : List What) → test k ≡ completes k → has test (said ++ rest) ≡ has test rest
      → (completed || has test (what.Key k ∷ (said ++ rest))) ≡ ((completed || completes k) || has test rest)
  completed_by true k said rest e f = refl
  completed_by false k said rest e f = rw (e, f) refl

  key_read : (completed : Bool) {words rest : List (List ℕ)} {says others : List What} → Keyed (options_of form) words says
      → (completed || has test (says ++ others)) ≡ true
      → ((next : Bool) → (next || has test others) ≡ true → Good form (at_option form next) rest others)
      → Good form (at_option form completed) (words ++ rest) (says ++ others)
  unfolding step
  key_read completed {others = others} (keyed k found (option {words = values} {says = said} v)) s next =
      let is = (find_row (options_of form) (word_of_key k) k choice.completes found).1 in
      let q = at_option form (completed || completes k) in
      let quiet = values_are_none test (slots_of k) values said others v in
      one_more (at_option form completed) (wanting (slots_of k) q) (word_of_key k) (what.Key k) (rw found refl)
      ((values_lead (slots_of k) q).read v (next (completed || completes k) (sym (completed_by completed k said others is quiet) ∙ s)))

  pub many_read : (completed : Bool) {words : List (List ℕ)} {says : List What} → Many Of words says → (completed || has test says) ≡ true
      → Good form (at_option form completed) words says
  many_read completed none s = end_read completed s
  many_read completed (more o os) s = key_read completed (choice.keyed o) s (λ next t. many_read next os t)

  -- WHAT WAS READ
  pub record Options (completed : Bool) (words : List (List ℕ)) : Type 0 where
    pub says : List What
    pub are : Many Of words says
    pub whole : (completed || has test says) ≡ true

  no_end : (completed : Bool) (line at : ℕ) → fault_at line at (end (at_option form completed)) ≡ None → completed ≡ true
  unfolding end
  no_end true line at e = refl
  no_end false line at e = absurd cc

  pub many_found : (n : ℕ) (completed : Bool) (line : ℕ) (words : List (List ℕ)) (at : ℕ) → length words ≤ n
      → NoFault line words (at_option form completed) at → Options completed words
  unfolding step
  many_found n completed line [] at few h =
      let s = no_end completed line at h in record { says = []; are = none; whole = rw s refl }
  many_found zero completed line (w ∷ words) at few h = absurd (omega (arith, few))
  many_found (suc n) completed line (w ∷ words) at few h = go (many_found n) (option_of form w) refl h
    where
      go : ((s : Bool) (line : ℕ) (rest : List (List ℕ)) (at : ℕ) → length rest ≤ n → NoFault line rest (at_option form s) at → Options s rest)
          → (o : Option Key) → option_of form w ≡ o → (past line words (at_option form completed) at (chosen (at_option form completed) w o)).fault ≡ None
          → Options completed (w ∷ words)
      go later None e h = absurd (err_is line words (at_option form completed) at (chosen (at_option form completed) w None) (refused_is w) h)
      go later (Some k) e h =
          let row = find_row (options_of form) w k choice.rows e in
          let is = (find_row (options_of form) w k choice.completes e).1 in
          let f = (values_lead (slots_of k) (at_option form (completed || completes k))).found line words (at + 1) h in
          let one = row.1 (word_of_key k ∷ f.front) (what.Key k ∷ f.says) (option f.is) in
          let len = ap length f.split in
          let short : length f.rest ≤ n = omega (arith, few, len, length-append f.front f.rest) in
          let os = later (completed || completes k) line f.rest f.at short f.on in
          let quiet = values_are_none test (slots_of k) f.front f.says os.says f.is in
          let all : w ∷ words ≡ (word_of_key k ∷ f.front) ++ f.rest =
          ap (λ (v : List ℕ). v ∷ words) row.0 ∙ ap (λ (ws : List (List ℕ)). word_of_key k ∷ ws) f.split in
          record {
            says = (what.Key k ∷ f.says) ++ os.says;
            are = subst (λ (ws : List (List ℕ)). Many Of ws ((what.Key k ∷ f.says) ++ os.says)) (sym all) (more one os.are);
            whole = completed_by completed k f.says os.says is quiet ∙ os.whole;
          }
