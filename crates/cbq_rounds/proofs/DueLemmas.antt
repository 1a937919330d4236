-- What is due, by what CBQ keeps.
use Rattle.std.proofs.Common.{◌≡◌, ◌≤◌, ◌<◌, ◌+◌, ◌∙◌, ◌⊎◌, inl, inr, ℕ, Bool, true, List, [], ◌∷◌, None, Some, length, refl, ap, sym, subst, arith, eqb}
use Rattle.std.specs.declared.option.Option.{Option}
use Rattle.std.specs.Prelude.{◌↔◌, slice_get, option_map, unwrap_or, if◌then◌else◌}
use Rattle.std.proofs.lemmas.Bool.{cases_eq, cases_lt, eq-eqb, ne_eqb}
use Rattle.altq_model.specs.declared.Rule.{Rule}
use Rattle.altq_model.specs.declared.Rule.TheVariants.{Own, Borrow}
use Rattle.altq_model.specs.Play.{Choice, IsOneOf}
use Rattle.play_base.specs.declared.packet.Ticket.{Ticket}
use Rattle.leaf_queue.specs.declared.node.Entry.{Entry}
use Rattle.link_clock.specs.Clock.{Clock}
use Rattle.discipline.specs.declared.pick.Pick.{Pick}
use Rattle.discipline.specs.declared.pick.Pick.TheVariants.{Send, Wait, Empty}
use Rattle.discipline.specs.Laws.{IsLeast, NamesHead, Sends, Waits}
use Rattle.cbq_model.specs.declared.CbqClass.{CbqClass}
use Rattle.cbq_model.specs.declared.Rank.{Rank}
use Rattle.cbq_model.specs.Choice.{Situation, able, allows_in, best, choice_of, class_in, head_in, may, picked, rank_in}
use Rattle.cbq_model.specs.Tree.{each_from, numbers}
use Rattle.cbq_model.proofs.Best.{best_of}
use Rattle.cbq_model.proofs.Least.{IsLeastSend, one_least}
use Rattle.cbq_model.proofs.Members.{kept, was_kept}
use Rattle.cbq_model.proofs.Places.{is_below}
use Rattle.cbq_rounds.specs.Due.{due_in, due_with, first_in, send_head, start_in}
use Rattle.cbq_sharing.specs.Shared.{Shared, head_len, own_now, situation_in, start_now_in}
use Rattle.cbq_rounds.proofs.Firsts.{all_none, first_none, first_same, no_later, of_one}
use Rattle.cbq_sharing.proofs.Moments.{head_seen, may_not, may_where, own_where, start_is}

-- the head of a list, and its length
pub record HasHead (xs : List Entry) : Type 0 where
  pub entry : Entry
  pub front : slice_get xs 0 ≡ Some entry

len_front : (xs : List Entry) (n : ℕ) → head_len xs ≡ Some n → HasHead xs
len_front [] n e = absurd (cc)
len_front (x ∷ xs) n e = record { entry = x; front = refl }

pub front_len : (xs : List Entry) (x : Entry) → slice_get xs 0 ≡ Some x → head_len xs ≡ Some x.len
front_len xs x e = ap (λ (o : Option Entry). option_map (λ (y : Entry). y.len) o) e

pub len_none : (xs : List Entry) → head_len xs ≡ None → xs ≡ []
len_none [] e = refl
len_none (x ∷ xs) e = absurd (cc)

pub member_from : (b c : ℕ) (cs : List CbqClass) → b ≤ c → c < b + length cs → IsOneOf c (each_from (λ d k. d) b cs)
member_from b c [] l h = absurd (omega arith)
member_from b c (k ∷ ks) l h = elim (cases_lt b c) [
  | inl m ↦ inr (member_from (b + 1) c ks (omega (arith, m)) (omega (arith, h)))
  | inr m ↦ inl (omega (arith, l, m))
]

module _ (d : Shared) (lists : ℕ → List Entry) (clock : Clock) where
  abbrev s : Situation
  s = situation_in d lists clock.link

  abbrev f : (t c : ℕ) → Option ℕ
  f t c = start_in d lists clock t c

  -- the length of a class's head, and its first moment
  record Starts (t c u : ℕ) : Type 0 where
    pub len : ℕ
    pub head : head_len (lists c) ≡ Some len
    pub start : start_now_in d clock.rate clock.link c t len ≡ u

  starts_by : (t c u : ℕ) (o : Option ℕ) → head_len (lists c) ≡ o → option_map (λ len. start_now_in d clock.rate clock.link c t len) o ≡ Some u
      → Starts t c u
  starts_by t c u None e m = absurd (cc)
  starts_by t c u (Some n) e m = let same : start_now_in d clock.rate clock.link c t n ≡ u = cc in record { len = n; head = e; start = same }

  starts : (t c u : ℕ) → f t c ≡ Some u → Starts t c u
  starts t c u e = starts_by t c u (head_len (lists c)) refl e

  starts_some : (t c n : ℕ) → head_len (lists c) ≡ Some n → f t c ≡ Some (start_now_in d clock.rate clock.link c t n)
  starts_some t c n e = ap (λ (o : Option ℕ). option_map (λ len. start_now_in d clock.rate clock.link c t len) o) e

  -- where some class may send now, the choice is a class that waits and may
  pub record IsChosen (t : ℕ) : Type 0 where
    pub rank : Rank
    pub best : best d.tree d.rate s None (able d.tree d.rate s t) ≡ Some rank
    pub class : rank.class ≡ picked d.tree d.rate s t
    pub place : rank.class < length d.tree
    pub head : HasHead (lists rank.class)

  front_by : (t c : ℕ) (o : Option ℕ) → head_len (lists c) ≡ o → c < length d.tree → may d.tree d.rate s c t ≡ true → HasHead (lists c)
  front_by t c None e l able_now = let no = may_not d lists clock.link c t l e in absurd (cc)
  front_by t c (Some n) e l able_now = len_front (lists c) n e

  chosen_by : (t c : ℕ) → IsOneOf c (able d.tree d.rate s t) → IsChosen t
  chosen_by t c m =
      let x = best_of d.tree d.rate s c (able d.tree d.rate s t) m in
      let there = was_kept (λ k. may d.tree d.rate s k t) x.one (numbers d.tree) x.there in
      let place = is_below x.one d.tree there.there in
      record {
        rank = rank_in d.tree d.rate s x.one;
        best = x.is;
        class = sym (ap class_in x.is);
        place = place;
        head = front_by t x.one (head_len (lists x.one)) refl place there.passes;
      }

  pub chosen : (t : ℕ) → clock.link.free ≤ t → clock.rate ≡ d.rate → first_in d lists clock t ≡ Some t → IsChosen t
  chosen t free rate e =
      let x = of_one (f t) 0 d.tree t e in
      let y = starts t x.class t x.is in
      let place : x.class < length d.tree = omega (arith, x.high) in
      let now : start_now_in d d.rate clock.link x.class t y.len ≡ t = ap (λ (r : ℕ). start_now_in d r clock.link x.class t y.len) (sym rate) ∙ y.start in
      let able_now : may d.tree d.rate s x.class t ≡ true =
      may_where d lists clock.link x.class t y.len place free y.head ∙ eq-eqb (start_now_in d d.rate clock.link x.class t y.len) t now in
      chosen_by t x.class (kept (λ k. may d.tree d.rate s k t) x.class (numbers d.tree) (member_from 0 x.class d.tree x.low x.high) able_now)

  -- what is due by the first moment
  due_none : (t : ℕ) → first_in d lists clock t ≡ None → due_in d lists clock t ≡ Empty
  due_none t e = ap (λ (o : Option ℕ). due_with o t (send_head (choice_of d.tree d.rate s t) (lists (choice_of d.tree d.rate s t).class))) e

  due_later : (t u : ℕ) → first_in d lists clock t ≡ Some u → (u ≡ t → ⊥) → due_in d lists clock t ≡ Wait u
  due_later t u e n =
      let p : Pick = send_head (choice_of d.tree d.rate s t) (lists (choice_of d.tree d.rate s t).class) in
      ap (λ (o : Option ℕ). due_with o t p) e ∙ ap (λ (b : Bool). if b then p else Wait u) (ne_eqb u t n)

  due_now : (t : ℕ) → first_in d lists clock t ≡ Some t
      → due_in d lists clock t ≡ send_head (choice_of d.tree d.rate s t) (lists (picked d.tree d.rate s t))
  due_now t e =
      let p : Pick = send_head (choice_of d.tree d.rate s t) (lists (choice_of d.tree d.rate s t).class) in
      ap (λ (o : Option ℕ). due_with o t p) e ∙ ap (λ (b : Bool). if b then p else Wait t) (eq-eqb t t refl)

  sent_from : (k : Choice) (xs : List Entry) (x : Entry) → slice_get xs 0 ≡ Some x → send_head k xs ≡ Send x.ticket k.class x.len k.rule
  sent_from k [] x e = absurd (cc)
  sent_from k (y ∷ ys) x e = let same : y ≡ x = cc in ap (λ (z : Entry). Send z.ticket k.class z.len k.rule) same

  -- a packet that is sent now
  pub due_sent : (t : ℕ) (x : Entry) → first_in d lists clock t ≡ Some t → slice_get (lists (picked d.tree d.rate s t)) 0 ≡ Some x
      → due_in d lists clock t ≡ Send x.ticket (picked d.tree d.rate s t) x.len (choice_of d.tree d.rate s t).rule
  due_sent t x e front = due_now t e ∙ sent_from (choice_of d.tree d.rate s t) (lists (picked d.tree d.rate s t)) x front

  -- no moment is before now
  pub from_now : (t u : ℕ) → clock.link.free ≤ t → first_in d lists clock t ≡ Some u → t ≤ u
  from_now t u free e =
      let x = of_one (f t) 0 d.tree u e in
      let y = starts t x.class u x.is in
      let least = start_is d lists clock.rate clock.link x.class t y.len free in
      omega (arith, least.from, y.start)

  -- asked again before the first moment, each class gives the same one
  same_start : (t u c first n : ℕ) → clock.link.free ≤ t → t ≤ u → u ≤ first → first ≤ start_now_in d clock.rate clock.link c t n
      → start_now_in d clock.rate clock.link c u n ≡ start_now_in d clock.rate clock.link c t n
  same_start t u c first n free l m k =
      let x = start_is d lists clock.rate clock.link c t n free in
      let y = start_is d lists clock.rate clock.link c u n (omega (arith, free, l)) in
      let z : IsLeastSend d.tree clock.rate s u n c (start_now_in d clock.rate clock.link c t n) = record {
        from = omega (arith, m, k);
        allowed = x.allowed;
        least = λ v from a. x.least v (omega (arith, l, from)) a;
      } in
      one_least d.tree clock.rate s u n c _ _ y z

  same_case : (t u c first : ℕ) (o : Option ℕ) → head_len (lists c) ≡ o → clock.link.free ≤ t → t ≤ u → u ≤ first → c < length d.tree
      → first_in d lists clock t ≡ Some first → f u c ≡ f t c
  same_case t u c first None e free l m h a =
      ap (λ (o : Option ℕ). option_map (λ len. start_now_in d clock.rate clock.link c u len) o) e
      ∙ sym (ap (λ (o : Option ℕ). option_map (λ len. start_now_in d clock.rate clock.link c t len) o) e)
  same_case t u c first (Some n) e free l m h a =
      let x = no_later (f t) 0 c d.tree (start_now_in d clock.rate clock.link c t n) (omega arith) (omega (arith, h)) (starts_some t c n e) in
      let y = x.is in
      let same : x.first ≡ first = cc in
      starts_some u c n e
      ∙ ap (λ (v : ℕ). Some v) (same_start t u c first n free l m (omega (arith, x.most, same)))
      ∙ sym (starts_some t c n e)

  steady : (t u first : ℕ) → clock.link.free ≤ t → t ≤ u → u ≤ first → first_in d lists clock t ≡ Some first → first_in d lists clock u ≡ Some first
  steady t u first free l m a =
      first_same (f u) (f t) 0 d.tree (λ c x h. same_case t u c first (head_len (lists c)) refl free l m (omega (arith, h)) a) ∙ a

  -- the wait is till the least moment at which something is sent
  pub waits : (t u : ℕ) → clock.link.free ≤ t → clock.rate ≡ d.rate → t < u → first_in d lists clock t ≡ Some u
      → IsLeast (λ v. due_in d lists clock v) t u
  waits t u free rate l e =
      let again = steady t u u free (omega (arith, l)) (omega arith) e in
      let x = chosen u (omega (arith, free, l)) rate again in
      let P : ℕ → Type 0 = λ c. HasHead (lists c) in
      let y : HasHead (lists (picked d.tree d.rate s u)) = subst P x.class x.head in
      let S : Pick → Type 0 = λ p. Sends p in
      record {
        later = l;
        sends = subst S (sym (due_sent u y.entry again y.front)) tt;
        least = λ v m n sends.
            let no : u ≡ v → ⊥ = λ q. omega (arith, q, n) in
            subst S (due_later v u (steady t v u free m (omega (arith, n)) e) no) sends;
      }

  -- the three cases of what is due
  pub record IsSent (t : ℕ) : Type 0 where
    pub place : picked d.tree d.rate s t < length d.tree
    pub entry : Entry
    pub front : slice_get (lists (picked d.tree d.rate s t)) 0 ≡ Some entry
    pub first : first_in d lists clock t ≡ Some t
    pub is : due_in d lists clock t ≡ Send entry.ticket (picked d.tree d.rate s t) entry.len (choice_of d.tree d.rate s t).rule

  pub record IsLater (t : ℕ) : Type 0 where
    pub till : ℕ
    pub later : t < till
    pub first : first_in d lists clock t ≡ Some till
    pub is : due_in d lists clock t ≡ Wait till

  pub record IsNone (t : ℕ) : Type 0 where
    pub first : first_in d lists clock t ≡ None
    pub is : due_in d lists clock t ≡ Empty

  is_sent : (t u : ℕ) → clock.link.free ≤ t → clock.rate ≡ d.rate → first_in d lists clock t ≡ Some u → u ≡ t → IsSent t
  is_sent t u free rate e same =
      let first : first_in d lists clock t ≡ Some t = e ∙ ap (λ (n : ℕ). Some n) same in
      let x = chosen t free rate first in
      let P : ℕ → Type 0 = λ c. HasHead (lists c) in
      let y : HasHead (lists (picked d.tree d.rate s t)) = subst P x.class x.head in
      record { place = omega (arith, x.class, x.place); entry = y.entry; front = y.front; first = first; is = due_sent t y.entry first y.front }

  cases_by : (t : ℕ) (o : Option ℕ) → first_in d lists clock t ≡ o → clock.link.free ≤ t → clock.rate ≡ d.rate → IsNone t ⊎ IsSent t ⊎ IsLater t
  cases_by t None e free rate = inl (record { first = e; is = due_none t e })
  cases_by t (Some u) e free rate = elim (cases_eq u t) [
    | inl same ↦ inr (inl (is_sent t u free rate e same))
    | inr other ↦ inr (inr (record { till = u; later = omega (arith, from_now t u free e, other); first = e; is = due_later t u e other }))
  ]

  pub cases : (t : ℕ) → clock.link.free ≤ t → clock.rate ≡ d.rate → IsNone t ⊎ IsSent t ⊎ IsLater t
  cases t free rate = cases_by t (first_in d lists clock t) refl free rate

  pub due_names : (t : ℕ) → clock.link.free ≤ t → clock.rate ≡ d.rate → NamesHead lists (due_in d lists clock t)
  due_names t free rate =
      let N : Pick → Type 0 = λ p. NamesHead lists p in
      elim (cases t free rate) [
        | inl x ↦ subst N (sym x.is) tt
        | inr (inl x) ↦ subst N (sym x.is) (x.entry.prec, x.front)
        | inr (inr x) ↦ subst N (sym x.is) tt
      ]

  pub due_waits : (t : ℕ) → clock.link.free ≤ t → clock.rate ≡ d.rate → Waits (λ v. due_in d lists clock v) t (due_in d lists clock t)
  due_waits t free rate =
      let W : Pick → Type 0 = λ p. Waits (λ v. due_in d lists clock v) t p in
      elim (cases t free rate) [
        | inl x ↦ subst W (sym x.is) tt
        | inr (inl x) ↦ subst W (sym x.is) tt
        | inr (inr x) ↦ subst W (sym x.is) (waits t x.till free rate x.later x.first)
      ]

  no_len : (t c : ℕ) (o : Option ℕ) → head_len (lists c) ≡ o → f t c ≡ None → head_len (lists c) ≡ None
  no_len t c None e n = e
  no_len t c (Some m) e n = let x = starts_some t c m e in absurd (cc)

  -- nothing is due exactly where nothing waits
  empty_at : (t c : ℕ) → first_in d lists clock t ≡ None → c < length d.tree → lists c ≡ []
  empty_at t c e l =
      let none = first_none (f t) 0 c d.tree e (omega arith) (omega (arith, l)) in
      len_none (lists c) (no_len t c (head_len (lists c)) refl none)

  pub all_empty : (t : ℕ) → ((c : ℕ) → length d.tree ≤ c → lists c ≡ []) → IsNone t → (c : ℕ) → lists c ≡ []
  all_empty t others x c = elim (cases_lt c (length d.tree)) [ inl l ↦ empty_at t c x.first l | inr l ↦ others c l ]

  none_first : (t : ℕ) → ((c : ℕ) → lists c ≡ []) → first_in d lists clock t ≡ None
  none_first t e = all_none (f t) 0 d.tree (λ c. ap (λ (xs : List Entry). option_map (λ len. start_now_in d clock.rate clock.link c t len) (head_len xs)) (e c))

  pub due_empty : (t : ℕ) → clock.link.free ≤ t → clock.rate ≡ d.rate → ((c : ℕ) → length d.tree ≤ c → lists c ≡ [])
      → (due_in d lists clock t ≡ Empty) ↔ ((c : ℕ) → lists c ≡ [])
  due_empty t free rate others = (
    λ e. elim (cases t free rate) [
      | inl x ↦ all_empty t others x
      | inr (inl x) ↦ let y = x.is in absurd (cc)
      | inr (inr x) ↦ let y = x.is in absurd (cc)
    ],
    λ e. due_none t (none_first t e),
  )

  -- what a look finds where something is due now
  pub record IsFound (t : ℕ) (o : Option Rank) : Type 0 where
    pub rank : Rank
    pub is : o ≡ Some rank
    pub class : rank.class ≡ picked d.tree d.rate s t
    pub place : rank.class < length d.tree
    pub head : HasHead (lists rank.class)
    pub first : first_in d lists clock t ≡ Some t

  pub found_is : (t till : ℕ) (o : Option ℕ) (b : Option Rank) → clock.link.free ≤ t → clock.rate ≡ d.rate → o ≡ first_in d lists clock t
      → o ≡ Some till → till ≤ t
      → b ≡ best d.tree d.rate s None (able d.tree d.rate s t) → IsFound t b
  found_is t till o b free rate e m l k =
      let first : first_in d lists clock t ≡ Some till = sym e ∙ m in
      let same : till ≡ t = omega (arith, l, from_now t till free first) in
      let now : first_in d lists clock t ≡ Some t = first ∙ ap (λ (n : ℕ). Some n) same in
      let x = chosen t free rate now in
      record { rank = x.rank; is = k ∙ x.best; class = x.class; place = x.place; head = x.head; first = now }

  pub same_rank : (t : ℕ) (o : Option Rank) (r : Rank) → IsFound t o → o ≡ Some r → (r.class ≡ picked d.tree d.rate s t) × (r.class < length d.tree)
  same_rank t o r x e =
      let y = x.is in
      let same : x.rank ≡ r = cc in
      let P : Rank → Type 0 = λ q. (q.class ≡ picked d.tree d.rate s t) × (q.class < length d.tree) in
      subst P same (x.class, x.place)

  -- a head is there
  pub found_head : (t : ℕ) (o : Option Rank) (r : Rank) → IsFound t o → o ≡ Some r → HasHead (lists r.class)
  found_head t o r x e =
      let y = x.is in
      let same : x.rank ≡ r = cc in
      let P : Rank → Type 0 = λ q. HasHead (lists q.class) in
      subst P same x.head

  abbrev sending : Entry → (class : ℕ) → (allowed : Bool) → Pick
  sending x class allowed = Send x.ticket class x.len (if allowed then Own else Borrow)

  pub found_sent : (t : ℕ) (o : Option Rank) (r : Rank) (x : Entry) (allowed : Bool) → clock.link.free ≤ t → clock.rate ≡ d.rate → IsFound t o
      → o ≡ Some r
      → slice_get (lists r.class) 0 ≡ Some x → allowed ≡ eqb (own_now d.tree d.estimates clock.rate clock.link t x.len r.class) t
      → sending x r.class allowed ≡ due_in d lists clock t
  found_sent t o r x allowed free rate y e front a =
      let c : ℕ = picked d.tree d.rate s t in
      let same = same_rank t o r y e in
      let F : ℕ → Type 0 = λ k. slice_get (lists k) 0 ≡ Some x in
      let here : slice_get (lists c) 0 ≡ Some x = subst F same.0 front in
      let low : c < length d.tree = omega (arith, same.0, same.1) in
      let len : head_in s c ≡ Some x.len = head_seen d lists clock.link c low ∙ front_len (lists c) x here in
      let own : allowed ≡ allows_in d.tree d.rate s c t (unwrap_or (head_in s c) 0) =
      a ∙ ap (λ (m : ℕ). eqb (own_now d.tree d.estimates m clock.link t x.len r.class) t) rate
      ∙ ap (λ (m : ℕ). eqb (own_now d.tree d.estimates d.rate clock.link t x.len m) t) same.0
      ∙ sym (own_where d lists clock.link c t x.len free)
      ∙ ap (λ (m : Option ℕ). allows_in d.tree d.rate s c t (unwrap_or m 0)) (sym len) in
      ap (λ (k : ℕ). sending x k allowed) same.0 ∙ ap (λ (b : Bool). sending x c b) own ∙ sym (due_sent t x y.first here)

  -- what is due where there is no first moment, and where it is later
  pub found_none : (t : ℕ) (o : Option ℕ) → o ≡ first_in d lists clock t → o ≡ None → Empty ≡ due_in d lists clock t
  found_none t o e m = sym (due_none t (sym e ∙ m))

  pub found_later : (t till : ℕ) (o : Option ℕ) → o ≡ first_in d lists clock t → o ≡ Some till → t < till → Wait till ≡ due_in d lists clock t
  found_later t till o e m l = sym (due_later t till (sym e ∙ m) (λ q. omega (arith, q, l)))

  -- what is sent is the head of the class that was picked
  pub record SendsPicked (t class len : ℕ) (ticket : Ticket) (rule : Rule) : Type 0 where
    pub entry : Entry
    pub place : class < length d.tree
    pub front : slice_get (lists class) 0 ≡ Some entry
    pub of_len : entry.len ≡ len
    pub of_class : picked d.tree d.rate s t ≡ class
    pub of_rule : (choice_of d.tree d.rate s t).rule ≡ rule
    pub first : first_in d lists clock t ≡ Some t

  sends_by : (t class len : ℕ) (ticket : Ticket) (rule : Rule) (x : IsSent t)
      → Send x.entry.ticket (picked d.tree d.rate s t) x.entry.len (choice_of d.tree d.rate s t).rule ≡ Send ticket class len rule
      → SendsPicked t class len ticket rule
  sends_by t class len ticket rule x e =
      let same : picked d.tree d.rate s t ≡ class = cc in
      let long : x.entry.len ≡ len = cc in
      let by : (choice_of d.tree d.rate s t).rule ≡ rule = cc in
      let P : ℕ → Type 0 = λ c. slice_get (lists c) 0 ≡ Some x.entry in
      record { entry = x.entry; place = omega (arith, same, x.place); front = subst P same x.front; of_len = long; of_class = same; of_rule = by; first = x.first }

  pub sends_picked : (t class len : ℕ) (ticket : Ticket) (rule : Rule) → clock.link.free ≤ t → clock.rate ≡ d.rate
      → due_in d lists clock t ≡ Send ticket class len rule → SendsPicked t class len ticket rule
  sends_picked t class len ticket rule free rate e = elim (cases t free rate) [
    | inl x ↦ let y = x.is in absurd (cc)
    | inr (inl x) ↦ sends_by t class len ticket rule x (sym x.is ∙ e)
    | inr (inr x) ↦ let y = x.is in absurd (cc)
  ]
