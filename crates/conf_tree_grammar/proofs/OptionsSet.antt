-- What the options of a class set is what they say, and they are refused exactly where a second `default` or a rate out of its range stands.
use Rattle.std.proofs.Common.{◌≡◌, ◌≤◌, ◌+◌, ◌||◌, ◌&&◌, ◌∙◌, ℕ, Bool, true, false, List, [], ◌∷◌, Option, Some, None, Result, Ok, Err, is_some, option_map, nat_le, refl, ap, arith, cond}
use Rattle.std.specs.Option.{option_or}
use Rattle.std.proofs.lemmas.Bool.Decides.{nat_tests}
use Rattle.conf_lines.specs.declared.fault.ConfPlace.{ConfPlace}
use Rattle.conf_lines.specs.declared.item.Item.{Item}
use Rattle.conf_lines.specs.declared.item.What.{What}
use Rattle.conf_lines.specs.declared.item.What.TheVariants as what
use Rattle.conf_lines.specs.declared.options.Key.{Key}
use Rattle.conf_lines.specs.declared.options.Key.TheVariants as key
use Rattle.conf_lines.specs.Options.{most_rate}
use Rattle.conf_tree.specs.Items.{number_behind, word_at}
use Rattle.conf_tree.specs.Options.{set_by_word, set_options}
use Rattle.conf_tree.specs.Settings.{curve_behind, percent, set_default, set_option, set_percent}
use Rattle.conf_laws.proofs.Types.{ReadContext, Settings}
use Rattle.conf_tree_grammar.specs.Options.{AreRates, IsRateIfAny, IsRateOfKey, IsRateOfWord, defaults, defaults_of_key, defaults_of_word, has_rate, has_share, key_rates, key_shares, stays_after, stays_by_key, stays_by_word, word_rates, word_shares}

-- a truth as a number
abbrev pub count_of : Bool → ℕ
count_of false = 0
count_of true = 1

or_none : (b : Bool) → b ≡ (b || false)
or_none false = refl
or_none true = refl

or_assoc : (a b c : Bool) → ((a || b) || c) ≡ (a || (b || c))
or_assoc false b c = refl
or_assoc true b c = refl

or_given : {A : Type 0} (o x : Option A) → is_some (option_or o x) ≡ (is_some x || is_some o)
or_given None None = refl
or_given None (Some x) = refl
or_given (Some o) None = refl
or_given (Some o) (Some x) = refl

or_mapped : {A : Type 0} (f : ℕ → A) (o : Option ℕ) (x : Option A) → is_some (option_or (option_map f o) x) ≡ (is_some x || is_some o)
or_mapped f None None = refl
or_mapped f None (Some x) = refl
or_mapped f (Some o) None = refl
or_mapped f (Some o) (Some x) = refl

-- WHAT ONE WORD SETS
pub record Sets (scope : ReadContext) (s t : Settings) (shares rates stay : Bool) (more : ℕ) (AreFit : Type 0) : Type 0 where
  pub share : is_some t.share ≡ (is_some s.share || shares)
  pub rate : is_some t.rate ≡ (is_some s.rate || rates)
  pub stays : t.fixed ≡ stay
  pub default : count_of t.is_default ≡ more + count_of s.is_default
  pub few : more + (count_of s.is_default + count_of scope.chosen) ≤ 1
  pub fit : AreFit

abbrev pub AreFew : ReadContext → Settings → ℕ → Type 0
AreFew scope s more = more + (count_of s.is_default + count_of scope.chosen) ≤ 1

abbrev ByKey : ReadContext → Settings → Key → List Item → Result Settings ConfPlace → Type 0
ByKey scope s key items r =
    elim r [
      | Ok t ↦ Sets scope s t (key_shares key items) (key_rates key items) (stays_by_key s.fixed key) (defaults_of_key key) (IsRateOfKey scope.rate key items)
      | Err fault ↦ IsRateOfKey scope.rate key items → AreFew scope s (defaults_of_key key) → ⊥
    ]

or_some : (b : Bool) → true ≡ (b || true)
or_some false = refl
or_some true = refl

abbrev ByPercent : ReadContext → Settings → Option ℕ → Result Settings ConfPlace → Type 0
ByPercent scope s o r =
    elim r [
      | Ok t ↦ Sets scope s t false (is_some o) s.fixed 0 (IsRateIfAny scope.rate o)
      | Err fault ↦ IsRateIfAny scope.rate o → AreFew scope s 0 → ⊥
    ]

percent_in : (scope : ReadContext) (s : Settings) (n : ℕ) (fault : ConfPlace) → AreFew scope s 0 → (a b : Bool) → nat_le 1000 (percent scope.rate n) ≡ a
    → nat_le (percent scope.rate n) most_rate ≡ b
    → ByPercent scope s (Some n) (cond (a && b) (Ok (record s { rate = Some (percent scope.rate n) })) (Err fault))
percent_in scope s n fault few true true e f = record {
  share = or_none (is_some s.share);
  rate = or_some (is_some s.rate);
  stays = refl;
  default = omega arith;
  few = few;
  fit = (grind (arith, nat_tests, e), grind (arith, nat_tests, f));
}
percent_in scope s n fault few true false e f = λ fit h. grind (arith, nat_tests, f, fit.1)
percent_in scope s n fault few false b e f = λ fit h. grind (arith, nat_tests, e, fit.0)

percent_by : (scope : ReadContext) (s : Settings) (word : ℕ) → AreFew scope s 0 → (o : Option ℕ) → ByPercent scope s o (set_percent scope s word o)
percent_by scope s word few None = record {
  share = or_none (is_some s.share);
  rate = or_none (is_some s.rate);
  stays = refl;
  default = omega arith;
  few = few;
  fit = tt;
}
percent_by scope s word few (Some n) = percent_in scope s n _ few _ _ refl refl

default_by : (scope : ReadContext) (s : Settings) (word : ℕ) (items : List Item) → (a b : Bool) → scope.chosen ≡ a → s.is_default ≡ b
    → ByKey scope s key.Default items (set_default scope s word)
default_by scope s word items true b e f = rw e (λ fit few. let one : count_of scope.chosen ≡ 1 = rw e refl in omega (arith, few, one))
default_by scope s word items false true e f =
    rw (e, f) (λ fit few. let one : count_of s.is_default ≡ 1 = rw f refl in omega (arith, few, one))
default_by scope s word items false false e f =
    let none : count_of s.is_default ≡ 0 = rw f refl in
    let free : count_of scope.chosen ≡ 0 = rw e refl in
    rw (e, f) (record { share = or_none (is_some s.share); rate = or_none (is_some s.rate); stays = refl; default = omega (arith, none); few = omega (arith, none, free); fit = tt })

key_by : (scope : ReadContext) (s : Settings) (word : ℕ) (option : Key) (items : List Item) → AreFew scope s 0
    → ByKey scope s option items (set_option scope s word option items)
key_by scope s word key.Sc items few = record {
  share = or_given (curve_behind key.Sc items) s.share;
  rate = or_none (is_some s.rate);
  stays = refl;
  default = omega arith;
  few = few;
  fit = tt;
}
key_by scope s word key.Rt items few = record {
  share = or_none (is_some s.share);
  rate = or_none (is_some s.rate);
  stays = refl;
  default = omega arith;
  few = few;
  fit = tt;
}
key_by scope s word key.Ls items few = record {
  share = or_given (curve_behind key.Ls items) s.share;
  rate = or_none (is_some s.rate);
  stays = refl;
  default = omega arith;
  few = few;
  fit = tt;
}
key_by scope s word key.Pshare items few = record {
  share = or_mapped _ (number_behind key.Pshare items) s.share;
  rate = or_none (is_some s.rate);
  stays = refl;
  default = omega arith;
  few = few;
  fit = tt;
}
key_by scope s word key.Pbandwidth items few = percent_by scope s (word_at items 0) few (number_behind key.Pbandwidth items)
key_by scope s word key.Exactbandwidth items few = record {
  share = or_none (is_some s.share);
  rate = or_given (number_behind key.Exactbandwidth items) s.rate;
  stays = refl;
  default = omega arith;
  few = few;
  fit = tt;
}
key_by scope s word key.Default items few = default_by scope s word items scope.chosen s.is_default refl refl
key_by scope s word _ items few = record {
  share = or_none (is_some s.share);
  rate = or_none (is_some s.rate);
  stays = refl;
  default = omega arith;
  few = few;
  fit = tt;
}

abbrev ByWord : ReadContext → Settings → What → List Item → Result Settings ConfPlace → Type 0
ByWord scope s says items r =
    elim r [
      | Ok t ↦ Sets scope s t (word_shares says items) (word_rates says items) (stays_by_word s.fixed says) (defaults_of_word says) (IsRateOfWord scope.rate says items)
      | Err fault ↦ IsRateOfWord scope.rate says items → AreFew scope s (defaults_of_word says) → ⊥
    ]

word_by : (scope : ReadContext) (s : Settings) (word : ℕ) (says : What) (items : List Item) → AreFew scope s 0
    → ByWord scope s says items (set_by_word scope s word says items)
word_by scope s word (what.Key option) items few = key_by scope s word option items few
word_by scope s word _ items few = record {
  share = or_none (is_some s.share);
  rate = or_none (is_some s.rate);
  stays = refl;
  default = omega arith;
  few = few;
  fit = tt;
}

-- WHAT ALL OF THEM SET
abbrev pub ByAll : ReadContext → Settings → List Item → Result Settings ConfPlace → Type 0
ByAll scope s items r =
    elim r [
      | Ok t ↦ Sets scope s t (has_share items) (has_rate items) (stays_after s.fixed items) (defaults items) (AreRates scope.rate items)
      | Err fault ↦ AreRates scope.rate items → AreFew scope s (defaults items) → ⊥
    ]

pub all_by : (scope : ReadContext) (s : Settings) (items : List Item) → AreFew scope s 0 → ByAll scope s items (set_options scope s items)
all_by scope s [] few = record {
  share = or_none (is_some s.share);
  rate = or_none (is_some s.rate);
  stays = refl;
  default = omega arith;
  few = few;
  fit = tt;
}
all_by scope s (item ∷ items) few =
    go (set_by_word scope s item.word item.what items) (word_by scope s item.word item.what items few) (λ t h. all_by scope t items h)
  where
    later : (t : Settings) (r : Result Settings ConfPlace)
        → Sets scope s t (word_shares item.what items) (word_rates item.what items) (stays_by_word s.fixed item.what) (defaults_of_word item.what)
        (IsRateOfWord scope.rate item.what items)
        → ByAll scope t items r → ByAll scope s (item ∷ items) r
    later t (Ok u) a b = record {
      share = b.share ∙ ap (λ x. x || has_share items) a.share ∙ or_assoc (is_some s.share) (word_shares item.what items) (has_share items);
      rate = b.rate ∙ ap (λ x. x || has_rate items) a.rate ∙ or_assoc (is_some s.rate) (word_rates item.what items) (has_rate items);
      stays = b.stays ∙ ap (λ x. stays_after x items) a.stays;
      default = omega (arith, a.default, b.default);
      few = omega (arith, a.default, b.few);
      fit = (a.fit, b.fit);
    }
    later t (Err fault) a b = λ fit few. b fit.1 (omega (arith, a.default, few))

    go : (r : Result Settings ConfPlace) → ByWord scope s item.what items r → ((t : Settings) → AreFew scope t 0 → ByAll scope t items (set_options scope t items))
        → ByAll scope s (item ∷ items) (elim r [ Ok t ↦ set_options scope t items | Err fault ↦ Err fault ])
    go (Ok t) a ih = later t (set_options scope t items) a (ih t (omega (arith, a.default, a.few)))
    go (Err fault) a ih = λ fit few. a fit.0 (omega (arith, few))
