-- What was said, and the interfaces that are begun by it: they tell the same.
use Rattle.std.proofs.Common.{◌≡◌, ◌+◌, ◌≤◌, ◌||◌, ◌&&◌, not, ◌∙◌, ℕ, Bool, true, false, List, [], ◌∷◌, ◌++◌, length, Option, Some, None, is_some, is_none, slice_set, bytes_eq, cond, refl, sym, ap, subst, arith, length-append}
use Rattle.std.proofs.lemmas.List.{length-set}
use Rattle.std.proofs.lemmas.Slice.Eq.{bytes_eq-Decides}
use Rattle.conf_lines.specs.declared.item.Item.{Item}
use Rattle.conf_tree.specs.declared.filter.Filter as filter_type
use Rattle.conf_tree.specs.declared.interface.Kind.{Kind}
use Rattle.conf_tree.specs.Tree.{Begun, add_class, add_conditioner, add_filter, as_filtered, as_metered, as_parent, begun, class_name, interface_name, with_parent}
use Rattle.conf_laws.proofs.Types.{Branch, Conditioner as Metered}
use Rattle.conf_tree_grammar.specs.Grammar.{all_defaults, bandwidth_said, classes, filters, has_child, has_class, has_conditioner, has_filter, has_root, interface_of, interfaces, is_default, is_null, keeps_real_time, kind_said, level, one_default, said_of, stays_of_kind}
use Rattle.conf_tree_grammar.specs.Options.{defaults}
use Rattle.conf_tree_grammar.specs.Sayings.{Saying, Class, Conditioner, Filter, Interface}
use Rattle.conf_tree_grammar.proofs.Lookups.{First, equal_names, found, is_named, named, named_push, named_set, or_else, here, there, stands}
use Rattle.conf_tree_grammar.proofs.OptionsSet.{count_of}

-- A CLASS of a name, or none
pub record TellsClass (local : List Saying) (x : List ℕ) (c : Branch) : Type 0 where
  pub stood : has_class local x ≡ true
  pub high : c.level ≡ level local x
  pub fixed : c.fixed ≡ keeps_real_time local x
  pub default : c.class.is_default ≡ is_default local x
  pub inner : c.inner ≡ has_child local x
  pub filtered : c.filtered ≡ has_filter local x
  pub metered : is_some c.class.meter ≡ has_conditioner local x

pub record TellsNone (local : List Saying) (x : List ℕ) : Type 0 where
  pub none : has_class local x ≡ false
  pub child : has_child local x ≡ false
  pub filter : has_filter local x ≡ false
  pub conditioner : has_conditioner local x ≡ false

abbrev pub ClassTold : List Saying → List ℕ → Option Branch → Type 0
ClassTold local x None = TellsNone local x
ClassTold local x (Some c) = TellsClass local x c

-- AN INTERFACE of a name, or none
pub record TellsBegun (local : List Saying) (b : Begun) : Type 0 where
  pub kind : kind_said local ≡ Some b.kind
  pub rate : bandwidth_said local ≡ b.rate
  pub rooted : b.rooted ≡ has_root local
  pub chosen : count_of b.chosen ≡ all_defaults local
  pub room : length b.classes ≡ classes local
  pub few : length b.filters ≡ filters local
  pub class : (x : List ℕ) → ClassTold local x (named class_name x b.classes)

abbrev pub BegunTold : List Saying → Option Begun → Type 0
BegunTold local None = local ≡ []
BegunTold local (Some b) = TellsBegun local b

-- ALL of them, each of a name of its own
abbrev pub Apart : List Begun → Type 0
Apart [] = Unit {0}
Apart (b ∷ bs) = (named interface_name b.name bs ≡ None) × Apart bs

pub record StateStands (before : List Saying) (state : List Begun) : Type 0 where
  pub count : length state ≡ interfaces before
  pub apart : Apart state
  pub each : (x : List ℕ) → BegunTold (said_of x before) (named interface_name x state)

pub nothing_told : StateStands [] []
nothing_told = record { count = refl; apart = tt; each = λ x. refl }

-- A CLASS MORE
pub record IsNewClass (kind : Kind) (local : List Saying) (name parent : List ℕ) (options : List Item) (c : Branch) : Type 0 where
  pub new : has_class local name ≡ false
  pub named : c.class.name ≡ name
  pub high : c.level ≡ cond (is_null parent) 1 (level local parent + 1)
  pub fixed : c.fixed ≡ stays_of_kind kind options
  pub default : c.class.is_default ≡ one_default options
  pub count : count_of c.class.is_default ≡ defaults options
  pub inner : c.inner ≡ false
  pub filtered : c.filtered ≡ false
  pub metered : is_some c.class.meter ≡ false

module _ (local : List Saying) (kind : Kind) (interface name parent : List ℕ) (options : List Item) (c : Branch)
    (new : IsNewClass kind local name parent options c) where
  abbrev all : List Saying
  all = Class kind interface name parent options ∷ local

  not_new : (x : List ℕ) → has_class local x ≡ true → bytes_eq x name ≡ true → ⊥
  not_new x h e = let same : x ≡ name = equal_names x name e in let no : has_class local x ≡ false = rw same new.new in cc

  class_told : (x : List ℕ) (q : Branch) (m d : Bool) (w : Option Branch) → (not (is_null parent) && bytes_eq x parent) ≡ m → bytes_eq x name ≡ d
      → (m ≡ true → w ≡ Some q) → ClassTold local x w → ClassTold all x (or_else (cond m (Some (as_parent q)) w) (cond d (Some c) None))
  class_told x q true true w e f is told =
      let t : TellsClass local x q = subst (ClassTold local x) (is refl) told in absurd (not_new x t.stood f)
  class_told x q true false w e f is told =
      let t : TellsClass local x q = subst (ClassTold local x) (is refl) told in record {
        stood = rw f t.stood;
        high = rw f t.high;
        fixed = rw f t.fixed;
        default = rw f t.default;
        inner = rw e refl;
        filtered = t.filtered;
        metered = t.metered;
      }
  class_told x q false true (Some z) e f is t = absurd (not_new x t.stood f)
  class_told x q false false (Some z) e f is t = record {
    stood = rw f t.stood;
    high = rw f t.high;
    fixed = rw f t.fixed;
    default = rw f t.default;
    inner = rw e t.inner;
    filtered = t.filtered;
    metered = t.metered;
  }
  class_told x q false false None e f is t = record { none = rw f t.none; child = rw e t.child; filter = t.filter; conditioner = t.conditioner }
  class_told x q false true None e f is t = record {
    stood = rw f refl;
    high = rw f new.high;
    fixed = rw f new.fixed;
    default = rw f new.default;
    inner = rw e (new.inner ∙ sym t.child);
    filtered = new.filtered ∙ sym t.filter;
    metered = new.metered ∙ sym t.conditioner;
  }

-- A CLASS THAT A FILTER OR A CONDITIONER NAMES
filtered_told : (local : List Saying) (i class x : List ℕ) (q : Branch) (m : Bool) (w : Option Branch) → bytes_eq x class ≡ m → (m ≡ true → w ≡ Some q)
    → ClassTold local x w → ClassTold (Filter i class ∷ local) x (cond m (Some (as_filtered q)) w)
filtered_told local i class x q true w e is told =
    let t : TellsClass local x q = subst (ClassTold local x) (is refl) told in
    record { stood = t.stood; high = t.high; fixed = t.fixed; default = t.default; inner = t.inner; filtered = rw e refl; metered = t.metered }
filtered_told local i class x q false (Some z) e is t =
    record { stood = t.stood; high = t.high; fixed = t.fixed; default = t.default; inner = t.inner; filtered = rw e t.filtered; metered = t.metered }
filtered_told local i class x q false None e is t = record { none = t.none; child = t.child; filter = rw e t.filter; conditioner = t.conditioner }

metered_told : (local : List Saying) (i class x : List ℕ) (given : Metered) (q : Branch) (m : Bool) (w : Option Branch) → bytes_eq x class ≡ m
    → (m ≡ true → w ≡ Some q) → ClassTold local x w → ClassTold (Conditioner i class ∷ local) x (cond m (Some (as_metered given.rule q)) w)
metered_told local i class x given q true w e is told =
    let t : TellsClass local x q = subst (ClassTold local x) (is refl) told in
    record { stood = t.stood; high = t.high; fixed = t.fixed; default = t.default; inner = t.inner; filtered = t.filtered; metered = rw e refl }
metered_told local i class x given q false (Some z) e is t =
    record { stood = t.stood; high = t.high; fixed = t.fixed; default = t.default; inner = t.inner; filtered = t.filtered; metered = rw e t.metered }
metered_told local i class x given q false None e is t = record { none = t.none; child = t.child; filter = t.filter; conditioner = rw e t.conditioner }

-- the class of the name that was looked up
that_one : (x class : List ℕ) (xs : List Branch) (j : ℕ) (q : Branch) → First class_name class xs j q → bytes_eq x class ≡ true → named class_name x xs ≡ Some q
that_one x class xs j q f e = rw (equal_names x class e) (found class_name class xs j q f)

pub filter_told : (local : List Saying) (b : Begun) (i class : List ℕ) (f : filter_type.Filter) (q : Branch) → TellsBegun local b
    → First class_name class b.classes f.class q → TellsBegun (Filter i class ∷ local) (add_filter b f)
filter_told local b i class f q t first = rw (stands class_name class b.classes f.class q first) (record {
  kind = t.kind;
  rate = t.rate;
  rooted = t.rooted;
  chosen = t.chosen;
  room = length-set b.classes f.class (as_filtered q) ∙ t.room;
  few = omega (arith, length-append b.filters (f ∷ []), t.few);
  class = λ x. rw (named_set class_name class x b.classes f.class q (as_filtered q) first (sym (is_named class_name class b.classes f.class q first)))
      (filtered_told local i class x q (bytes_eq x class) (named class_name x b.classes) refl (that_one x class b.classes f.class q first) (t.class x));
})

pub conditioner_told : (local : List Saying) (b : Begun) (i class : List ℕ) (c : Metered) (q : Branch) → TellsBegun local b
    → First class_name class b.classes c.class q → TellsBegun (Conditioner i class ∷ local) (add_conditioner b c)
conditioner_told local b i class c q t first = rw (stands class_name class b.classes c.class q first) (record {
  kind = t.kind;
  rate = t.rate;
  rooted = t.rooted;
  chosen = t.chosen;
  room = length-set b.classes c.class (as_metered c.rule q) ∙ t.room;
  few = t.few;
  class = λ x. rw (named_set class_name class x b.classes c.class q (as_metered c.rule q) first (sym (is_named class_name class b.classes c.class q first)))
      (metered_told local i class x c q (bytes_eq x class) (named class_name x b.classes) refl (that_one x class b.classes c.class q first) (t.class x));
})

-- where it stands: it is the root, or below a class that stands before
pub data Place (b : Begun) (parent : List ℕ) (above : Option ℕ) : Type 0 where
  top : is_null parent ≡ true → above ≡ None → Place b parent above
  below : is_null parent ≡ false → (j : ℕ) (q : Branch) → First class_name parent b.classes j q → above ≡ Some j → Place b parent above

count_or : (a b : Bool) (n m : ℕ) → count_of a ≡ n → count_of b ≡ m → m + n ≤ 1 → count_of (a || b) ≡ m + n
count_or false b n m e f few = omega (arith, e, f)
count_or true false n m e f few = omega (arith, e, f)
count_or true true n m e f few = absurd (omega (arith, e, f, few))

or_true : (b : Bool) → (b || true) ≡ true
or_true false = refl
or_true true = refl

or_none : (b : Bool) → (b || false) ≡ b
or_none false = refl
or_none true = refl

abbrev grown : Begun → Branch → Option ℕ → Begun
grown b c above = record b {
  rooted = b.rooted || is_none above;
  chosen = b.chosen || c.class.is_default;
  classes = with_parent b.classes above ++ c ∷ [];
}

class_behind : (local : List Saying) (b : Begun) (kind : Kind) (i name parent : List ℕ) (options : List Item) (c : Branch) (above : Option ℕ) → TellsBegun local b
    → IsNewClass kind local name parent options c → defaults options + all_defaults local ≤ 1 → Place b parent above
    → TellsBegun (Class kind i name parent options ∷ local) (grown b c above)
class_behind local b kind i name parent options c above t new few (top null e) = rw e (record {
  kind = t.kind;
  rate = t.rate;
  rooted = rw null (or_true b.rooted);
  chosen = count_or b.chosen c.class.is_default _ _ t.chosen new.count few;
  room = omega (arith, length-append b.classes (c ∷ []), t.room);
  few = t.few;
  class = λ x. rw (named_push class_name x b.classes c)
      (class_told local kind i name parent options c new x c false (bytes_eq x c.class.name) (named class_name x b.classes) (rw null refl)
      (ap (bytes_eq x) (sym new.named)) (λ no. absurd cc) (t.class x));
})
class_behind local b kind i name parent options c above t new few (below null j q first e) = rw (e, stands class_name parent b.classes j q first) (record {
  kind = t.kind;
  rate = t.rate;
  rooted = rw null (or_none b.rooted ∙ t.rooted);
  chosen = count_or b.chosen c.class.is_default _ _ t.chosen new.count few;
  room = omega (arith, length-append (slice_set b.classes j (as_parent q)) (c ∷ []), length-set b.classes j (as_parent q), t.room);
  few = t.few;
  class = λ x. rw (
    named_push class_name x (slice_set b.classes j (as_parent q)) c,
    named_set class_name parent x b.classes j q (as_parent q) first (sym (is_named class_name parent b.classes j q first)),
  )
      (class_told local kind i name parent options c new x q (bytes_eq x parent) (bytes_eq x c.class.name) (named class_name x b.classes) (rw null refl)
      (ap (bytes_eq x) (sym new.named)) (that_one x parent b.classes j q first) (t.class x));
})

pub class_added : (local : List Saying) (b : Begun) (kind : Kind) (i name parent : List ℕ) (options : List Item) (c : Branch) → TellsBegun local b
    → IsNewClass kind local name parent options c → defaults options + all_defaults local ≤ 1 → Place b parent c.class.parent
    → TellsBegun (Class kind i name parent options ∷ local) (add_class b c)
class_added local b kind i name parent options c t new few place = class_behind local b kind i name parent options c c.class.parent t new few place

-- ALL INTERFACES, of which one has changed, or one is new
apart_set : (x : List ℕ) (bs : List Begun) (j : ℕ) (b c : Begun) → First interface_name x bs j b → c.name ≡ x → Apart bs → Apart (slice_set bs j c)
apart_set x _ _ b c (here y bs e) same a = rw (same, equal_names x y.name e) a
apart_set x _ _ b c (there y bs j z e f) same a =
    (rw (named_set interface_name x y.name bs j z c f same, a.0) (go (bytes_eq y.name x) refl), apart_set x bs j z c f same a.1)
  where
    go : (d : Bool) → bytes_eq y.name x ≡ d → cond d (Some c) None ≡ None
    go true h = let yes : bytes_eq x y.name ≡ true = (bytes_eq-Decides x y.name).1 (sym (equal_names y.name x h)) in absurd cc
    go false h = refl

pub changed_told : (before : List Saying) (state : List Begun) (y : Saying) (i : List ℕ) (j : ℕ) (b c : Begun) → StateStands before state
    → First interface_name i state j b → c.name ≡ i → interface_of y ≡ i → interfaces (y ∷ before) ≡ interfaces before
    → TellsBegun (y ∷ said_of i before) c → StateStands (y ∷ before) (slice_set state j c)
changed_told before state y i j b c t first same of count tells = record {
  count = length-set state j c ∙ t.count ∙ sym count;
  apart = apart_set i state j b c first same t.apart;
  each = λ x. rw (named_set interface_name i x state j b c first same, of) (go x (bytes_eq x i) refl (t.each x));
}
  where
    go : (x : List ℕ) (d : Bool) → bytes_eq x i ≡ d → BegunTold (said_of x before) (named interface_name x state)
        → BegunTold (cond d (y ∷ said_of x before) (said_of x before)) (cond d (Some c) (named interface_name x state))
    go x true e h = rw (equal_names x i e) tells
    go x false e h = h

fresh : (line : ℕ) (name : List ℕ) (kind : Kind) (rate : ℕ) → TellsBegun (Interface name kind rate ∷ []) (begun line name rate kind)
fresh line name kind rate = record {
  kind = refl;
  rate = refl;
  rooted = refl;
  chosen = refl;
  room = refl;
  few = refl;
  class = λ x. record { none = refl; child = refl; filter = refl; conditioner = refl };
}

apart_push : (bs : List Begun) (b : Begun) → Apart bs → named interface_name b.name bs ≡ None → Apart (bs ++ b ∷ [])
apart_push [] b a e = (refl, tt)
apart_push (y ∷ bs) b a e = go (bytes_eq b.name y.name) refl e (apart_push bs b a.1)
  where
    other : (d : Bool) → bytes_eq y.name b.name ≡ d → bytes_eq b.name y.name ≡ false → cond d (Some b) None ≡ None
    other true h k = let yes : bytes_eq b.name y.name ≡ true = (bytes_eq-Decides b.name y.name).1 (sym (equal_names y.name b.name h)) in absurd cc
    other false h k = refl

    go : (d : Bool) → bytes_eq b.name y.name ≡ d → cond d (Some y) (named interface_name b.name bs) ≡ None
        → (named interface_name b.name bs ≡ None → Apart (bs ++ b ∷ [])) → Apart (y ∷ (bs ++ b ∷ []))
    go true h k ih = absurd cc
    go false h k ih = (rw (named_push interface_name y.name bs b, a.0) (other (bytes_eq y.name b.name) refl h), ih k)

pub new_told : (before : List Saying) (state : List Begun) (line : ℕ) (name : List ℕ) (kind : Kind) (rate : ℕ) → StateStands before state
    → named interface_name name state ≡ None → StateStands (Interface name kind rate ∷ before) (state ++ begun line name rate kind ∷ [])
new_told before state line name kind rate t new = record {
  count = omega (arith, length-append state (begun line name rate kind ∷ []), t.count);
  apart = apart_push state (begun line name rate kind) t.apart new;
  each = λ x. rw (named_push interface_name x state (begun line name rate kind)) (go x (bytes_eq x name) refl (named interface_name x state) refl (t.each x));
}
  where
    go : (x : List ℕ) (d : Bool) → bytes_eq x name ≡ d → (w : Option Begun) → named interface_name x state ≡ w → BegunTold (said_of x before) w
        → BegunTold (cond d (Interface name kind rate ∷ said_of x before) (said_of x before)) (or_else w (cond d (Some (begun line name rate kind)) None))
    go x true e None f h = rw h (fresh line name kind rate)
    go x true e (Some z) f h = let same : x ≡ name = equal_names x name e in let no : named interface_name x state ≡ None = rw same new in absurd cc
    go x false e None f h = h
    go x false e (Some z) f h = h
