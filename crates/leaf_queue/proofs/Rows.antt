-- What the lists of the classes are, by the rows that keep them.
use Rattle.std.proofs.Common.{◌≡◌, ◌≤◌, ◌<◌, ◌+◌, ◌-◌, ◌^◌, ◌∙◌, rules, ℕ, zero, suc, Bool, cond, List, [], ◌∷◌, ◌++◌, None, Some, length, refl, ap, sym, subst, arith, map, drop, get_or, replicate}
use Rattle.std.specs.declared.option.Option.{Option}
use Rattle.std.specs.Prelude.{slice_get, unwrap_or, is_some, option_map}
use Rattle.std.proofs.lemmas.List.{length-map}
use Rattle.std.proofs.lemmas.Bool.{eq-eqb, ne_eqb, le-leb}
use Rattle.std.proofs.lemmas.Option.{slice_get-get_or, slice_get-map, unwrap_or-slice_get}
use Rattle.std.proofs.Math.ListN.{set}
use Rattle.std.proofs.lemmas.List.Sums.{sum_by-set}
use Rattle.slab.specs.Slab.{Slab, get, Updates, slab_len, with_value, ContainsKey}
use Rattle.slab.proofs.SlabLemmas.{Updates-with_value, ContainsKey-within}
use Rattle.leaf_queue.specs.declared.node.Entry.{Entry}
use Rattle.leaf_queue.specs.declared.node.Node.{Node}
use Rattle.leaf_queue.specs.declared.node.Row.{Row}
use Rattle.leaf_queue.specs.declared.rule.Waiting.{Waiting}
use Rattle.leaf_queue.specs.Queue.{at_most, waiting_of}
use Rattle.leaf_queue.specs.Lists.{list_of, total_of, precs_in}
use Rattle.leaf_queue.specs.Linked.{linked_to, row_after, row_before, node_at, no_node, chain, entries_at, row_entries, uses, total, IsRow, IsLinked, IsCounted, empty_row}
use Rattle.leaf_queue.proofs.Linking.{chain-length, total_row}
use Rattle.leaf_queue.proofs.Changing.{first_held, last_held, held, held_some, IsPut, put_first, put_next, put_linked, put_lists, taken_linked, taken_lists, is_counted}

pub within : (s : Slab Node) (rows : List Row) (lists : List (List Entry)) (c : ℕ) → map (row_entries s) rows ≡ lists → c < length lists → c < length rows
within s rows lists c e l = omega (arith, length-map rows (row_entries s), ap length e)

-- the row of a class
pub found : (s : Slab Node) (rows : List Row) (lists : List (List Entry)) (c : ℕ) (r : Row) → map (row_entries s) rows ≡ lists → c < length lists
    → r ≡ get_or rows c r → slice_get rows c ≡ Some r
found s rows lists c r e l h = slice_get-get_or rows c r (within s rows lists c e l) ∙ ap Some (sym h)

pub list_is : (s : Slab Node) (rows : List Row) (lists : List (List Entry)) (c : ℕ) (r : Row) → map (row_entries s) rows ≡ lists
    → slice_get rows c ≡ Some r → list_of lists c ≡ row_entries s r
list_is s rows lists c r e h =
    sym (ap (λ (ls : List (List Entry)). list_of ls c) e) ∙ sym (unwrap_or-slice_get (map (row_entries s) rows) c [])
    ∙ ap (λ (o : Option (List Entry)). unwrap_or o []) (slice_get-map (row_entries s) rows c ∙ ap (option_map (row_entries s)) h)

pub total_is : (s : Slab Node) (rows : List Row) → total_of (map (row_entries s) rows) ≡ total rows
total_is s [] = refl
total_is s (r ∷ rows) = omega (arith, total_is s rows, chain-length s r.first.0 r.waiting.all)

-- a list that is not empty begins with what stands at its first place
pub list_begins : (s : Slab Node) (r : Row) (k : ℕ) → r.waiting.all ≡ suc k
    → row_entries s r ≡ (node_at s r.first.0).entry ∷ entries_at s (chain s (node_at s r.first.0).next.0 k)
list_begins s r k n = ap (λ (m : ℕ). entries_at s (chain s r.first.0 m)) n

pub list_ends : (s : Slab Node) (r : Row) → r.waiting.all ≡ 0 → row_entries s r ≡ []
list_ends s r n = ap (λ (m : ℕ). entries_at s (chain s r.first.0 m)) n

pub no_head : (s : Slab Node) (rows : List Row) (lists : List (List Entry)) (c : ℕ) (r : Row) → map (row_entries s) rows ≡ lists
    → slice_get rows c ≡ Some r → r.waiting.all ≡ 0 → None ≡ slice_get (list_of lists c) 0
no_head s rows lists c r e h n = sym (ap (λ (xs : List Entry). slice_get xs 0) (list_is s rows lists c r e h ∙ list_ends s r n))

pub head_is : (s : Slab Node) (rows : List Row) (lists : List (List Entry)) (room c : ℕ) (r : Row) (k : ℕ) → map (row_entries s) rows ≡ lists
    → IsLinked s rows room → slice_get rows c ≡ Some r → r.waiting.all ≡ suc k
    → option_map (λ x. x.entry) (get s r.first.0) ≡ slice_get (list_of lists c) 0
head_is s rows lists room c r k e i h n =
    ap (option_map (λ (x : Node). x.entry)) (first_held s rows room c r k i h n)
    ∙ sym (ap (λ (xs : List Entry). slice_get xs 0) (list_is s rows lists c r e h ∙ list_begins s r k n))

-- a precedence that is at most this is counted
head_at_most : (q p : ℕ) (ps : List ℕ) → p ≤ q → 1 ≤ at_most q (p ∷ ps)
head_at_most q p ps l =
    let one : at_most q (p ∷ ps) ≡ 1 + at_most q ps = ap (λ (b : Bool). cond b 1 0 + at_most q ps) (le-leb p q l) in
    omega arith

-- a write at a place that holds a node leaves the count
pub len-with_value : (s : Slab Node) (slot : ℕ) (x y : Node) → get s slot ≡ Some x → slot < length s.slots → slab_len (with_value s slot y) ≡ slab_len s
len-with_value s slot x y e l =
    let n : held s slot ≡ 1 = held_some s slot x e in
    omega (arith, sum_by-set (λ (o : Option Node). cond (is_some o) 1 0) s.slots slot (Some y) None l, n)

-- lists of nothing
pub uses_none : (s : Slab Node) (n slot : ℕ) → uses s (replicate n empty_row) slot ≡ 0
uses_none s zero slot = refl
uses_none s (suc n) slot = omega (arith, uses_none s n slot)

pub total_none : (n : ℕ) → total (replicate n empty_row) ≡ 0
total_none zero = refl
total_none (suc n) = omega (arith, total_none n)

pub lists_none : (s : Slab Node) (n : ℕ) → map (row_entries s) (replicate n empty_row) ≡ replicate n []
lists_none s zero = refl
lists_none s (suc n) = ap (λ (ls : List (List Entry)). [] ∷ ls) (lists_none s n)

none_row : (n c : ℕ) (r : Row) → slice_get (replicate n empty_row) c ≡ Some r → r ≡ empty_row
none_row zero c r e = absurd (cc)
none_row (suc n) zero r e = (cc)
none_row (suc n) (suc c) r e = none_row n c r e

is_row : (s : Slab Node) → IsRow s empty_row
is_row s = record { ends = λ k e. absurd (omega arith); counts = refl }

pub linked_none : (s : Slab Node) (n room : ℕ) → s.slots ≡ [] → room ≤ s.capacity → s.capacity < 2 ^ 32 → IsLinked s (replicate n empty_row) room
linked_none s n room e l m = record {
  each = λ slot. uses_none s n slot ∙ sym (ap (λ (os : List (Option Node)). cond (is_some (get_or os slot None)) 1 0) e);
  row = λ c r h. let P : Row → Type 0 = λ x. IsRow s x in subst P (sym (none_row n c r h)) (is_row s);
  count = total_none n ∙ sym (let z : slab_len s ≡ 0 = search (rules, e) in z);
  there = l;
  small = m;
}

-- the lists of the classes as nodes and rows hold them, their room, and the row of one class
pub record Chosen : Type 0 where
  pub nodes : Slab Node
  pub rows : List Row
  pub lists : List (List Entry)
  pub room : ℕ
  pub class : ℕ
  pub row : Row

pub record AtRow (l : Chosen) : Type 0 where
  pub lists_are : map (row_entries l.nodes) l.rows ≡ l.lists
  pub linked : IsLinked l.nodes l.rows l.room
  pub row : slice_get l.rows l.class ≡ Some l.row

pub at_row : (s : Slab Node) (rows : List Row) (lists : List (List Entry)) (room c : ℕ) (r : Row) → map (row_entries s) rows ≡ lists → IsLinked s rows room
    → c < length lists → r ≡ get_or rows c r → AtRow (record { nodes = s; rows = rows; lists = lists; room = room; class = c; row = r })
at_row s rows lists room c r e i l h = record { lists_are = e; linked = i; row = found s rows lists c r e l h }

-- a node came to a new place of the nodes, which the last place of the list now names
record Joined (l : Chosen) (t : Slab Node) (a : ℕ) (m : Node) : Type 0 where
  pub put : IsPut l.nodes t l.rows l.class l.row a m.entry
  pub len : slab_len t ≡ slab_len l.nodes + 1
  pub capacity : t.capacity ≡ l.nodes.capacity

last_before : (s u : Slab Node) (a : ℕ) (m : Node) (last : ℕ) → get s a ≡ None → get s last ≡ Some (node_at s last) → Updates s u a (Some m)
    → get u last ≡ Some (node_at s last)
last_before s u a m last z e p =
    p.others last (λ q. let same : get s a ≡ Some (node_at s last) = sym (ap (get s) q) ∙ e in (cc (z, same))) ∙ e

joined_next : (l : Chosen) (u : Slab Node) (a : ℕ) (m : Node) (k : ℕ) → AtRow l → l.row.waiting.all ≡ suc k → get l.nodes a ≡ None
    → Updates l.nodes u a (Some m) → slab_len u ≡ slab_len l.nodes + 1 → u.capacity ≡ l.nodes.capacity
    → Joined l (with_value u l.row.last.0 (record (node_at u l.row.last.0) { next = record { 0 = a } })) a m
joined_next l u a m k o n z p long v =
    let s : Slab Node = l.nodes in
    let last : ℕ = l.row.last.0 in
    let y : Node = record (node_at u last) { next = record { 0 = a } } in
    let was : get s last ≡ Some (node_at s last) = last_held s l.rows l.room l.class l.row k o.linked o.row n in
    let now : get u last ≡ Some (node_at s last) = last_before s u a m last z was p in
    let node : node_at u last ≡ node_at s last = ap (λ (o : Option Node). unwrap_or o no_node) now in
    let there : ContainsKey u last = ap is_some now in
    let w = Updates-with_value u last y there in
    let other : a ≡ last → ⊥ = λ d. let same : get s a ≡ Some (node_at s last) = ap (get s) d ∙ was in (cc (z, same)) in
    record {
      put = put_next s (with_value u last y) l.rows l.room l.class l.row a m.entry m k o.linked o.row n z refl (w.others a other ∙ p.changed)
          (w.changed ∙ ap (λ (b : Node). Some (record b { next = record { 0 = a } })) node)
          (λ j d d'. w.others j d' ∙ p.others j d);
      len = len-with_value u last (node_at s last) y now (ContainsKey-within u last there) ∙ long;
      capacity = v;
    }

joined_by : (l : Chosen) (u t : Slab Node) (a : ℕ) (m : Node) (n : ℕ) → AtRow l → l.row.waiting.all ≡ n → get l.nodes a ≡ None
    → Updates l.nodes u a (Some m) → slab_len u ≡ slab_len l.nodes + 1 → u.capacity ≡ l.nodes.capacity → t ≡ linked_to u l.row (record { 0 = a })
    → Joined l t a m
joined_by l u t a m zero o n z p long v h =
    let y : Slab Node = with_value u l.row.last.0 (record (node_at u l.row.last.0) { next = record { 0 = a } }) in
    let same : t ≡ u = h ∙ ap (λ (b : Bool). cond b u y) (eq-eqb l.row.waiting.all 0 n) in
    let P : Slab Node → Type 0 = λ w. Joined l w a m in
    subst P (sym same) (record {
      put = put_first l.nodes u l.rows l.room l.class l.row a m.entry m o.linked o.row n z refl p;
      len = long;
      capacity = v;
    })
joined_by l u t a m (suc k) o n z p long v h =
    let y : Slab Node = with_value u l.row.last.0 (record (node_at u l.row.last.0) { next = record { 0 = a } }) in
    let same : t ≡ y = h ∙ ap (λ (b : Bool). cond b u y) (ne_eqb l.row.waiting.all 0 (λ w. omega arith)) in
    let P : Slab Node → Type 0 = λ w. Joined l w a m in
    subst P (sym same) (joined_next l u a m k o n z p long v)

pub row_head : (l : Chosen) (a : ℕ) → AtRow l → (l.row.waiting.all ≡ 0 → ⊥) → a ≡ l.row.first.0 → get l.nodes a ≡ Some (node_at l.nodes a)
row_head l a o n e =
    let P : ℕ → Type 0 = λ j. get l.nodes j ≡ Some (node_at l.nodes j) in
    subst P (sym e) (first_held l.nodes l.rows l.room l.class l.row (l.row.waiting.all - 1) o.linked o.row (omega arith))

pub row_last : (l : Chosen) (u : Slab Node) (a : ℕ) (m : Node) → AtRow l → 0 < l.row.waiting.all → get l.nodes a ≡ None
    → Updates l.nodes u a (Some m) → ContainsKey u l.row.last.0
row_last l u a m o n z h =
    let was = last_held l.nodes l.rows l.room l.class l.row (l.row.waiting.all - 1) o.linked o.row (omega arith) in
    ap is_some (last_before l.nodes u a m l.row.last.0 z was h)

pub row_room : (l : Chosen) → AtRow l → total_of l.lists < l.room → (slab_len l.nodes + 1 ≤ l.nodes.capacity) × (l.row.waiting.all < l.room)
row_room l o less =
    let all : total_of l.lists ≡ total l.rows = sym (ap total_of o.lists_are) ∙ total_is l.nodes l.rows in
    let count : total l.rows ≡ slab_len l.nodes = o.linked.count in
    let there : l.room ≤ l.nodes.capacity = o.linked.there in
    (omega arith, omega (arith, total_row l.rows l.class l.row o.row))

pub row_counted : (l : Chosen) → AtRow l → IsCounted l.row.waiting
row_counted l o = is_counted l.nodes l.rows l.room l.class l.row o.linked o.row

pub pushed_linked : (l : Chosen) (u t : Slab Node) (a : ℕ) (m : Node) (y : Row) → AtRow l → get l.nodes a ≡ None → Updates l.nodes u a (Some m)
    → slab_len u ≡ slab_len l.nodes + 1 → u.capacity ≡ l.nodes.capacity → t ≡ linked_to u l.row (record { 0 = a })
    → y ≡ row_after l.row (record { 0 = a }) m.entry.prec → IsLinked t (set l.rows l.class y) l.room
pushed_linked l u t a m y o z p long v h e =
    let j = joined_by l u t a m l.row.waiting.all o refl z p long v h in
    let P : Row → Type 0 = λ f. IsLinked t (set l.rows l.class f) l.room in
    subst P (sym e) (put_linked l.nodes t l.rows l.room l.class l.row a m.entry o.linked o.row j.put j.len j.capacity)

pub pushed_lists : (l : Chosen) (u t : Slab Node) (a : ℕ) (m : Node) (y : Row) → AtRow l → get l.nodes a ≡ None → Updates l.nodes u a (Some m)
    → slab_len u ≡ slab_len l.nodes + 1 → u.capacity ≡ l.nodes.capacity → t ≡ linked_to u l.row (record { 0 = a })
    → y ≡ row_after l.row (record { 0 = a }) m.entry.prec
    → map (row_entries t) (set l.rows l.class y) ≡ set l.lists l.class (list_of l.lists l.class ++ m.entry ∷ [])
pushed_lists l u t a m y o z p long v h e =
    let s : Slab Node = l.nodes in
    let j = joined_by l u t a m l.row.waiting.all o refl z p long v h in
    ap (λ (f : Row). map (row_entries t) (set l.rows l.class f)) e
    ∙ put_lists s t l.rows l.class l.row a m.entry j.put
    ∙ ap (λ (ls : List (List Entry)). set ls l.class (row_entries s l.row ++ m.entry ∷ [])) o.lists_are
    ∙ ap (λ (xs : List Entry). set l.lists l.class (xs ++ m.entry ∷ [])) (sym (list_is s l.rows l.lists l.class l.row o.lists_are o.row))

pub popped_linked : (l : Chosen) (t : Slab Node) (y : Row) (x : Node) (a : ℕ) → AtRow l → (l.row.waiting.all ≡ 0 → ⊥) → a ≡ l.row.first.0
    → get l.nodes a ≡ Some x → Updates l.nodes t a None → slab_len t + 1 ≡ slab_len l.nodes → t.capacity ≡ l.nodes.capacity → y ≡ row_before l.row x
    → IsLinked t (set l.rows l.class y) l.room
popped_linked l t y x a o n e h u long v k =
    let s : Slab Node = l.nodes in
    let P : ℕ → Type 0 = λ j. Updates s t j None in
    let Q : Row → Type 0 = λ f. IsLinked t (set l.rows l.class f) l.room in
    let taken = taken_linked s t l.rows l.room l.class l.row x (l.row.waiting.all - 1) o.linked o.row (omega arith) (sym (ap (get s) e) ∙ h) (subst P e u) long v in
    subst Q (sym k) taken

pub popped_lists : (l : Chosen) (t : Slab Node) (y : Row) (x : Node) (a : ℕ) → AtRow l → (l.row.waiting.all ≡ 0 → ⊥) → a ≡ l.row.first.0
    → get l.nodes a ≡ Some x → Updates l.nodes t a None → y ≡ row_before l.row x
    → map (row_entries t) (set l.rows l.class y) ≡ set l.lists l.class (drop 1 (list_of l.lists l.class))
popped_lists l t y x a o n e h u k =
    let s : Slab Node = l.nodes in
    let P : ℕ → Type 0 = λ j. Updates s t j None in
    ap (λ (f : Row). map (row_entries t) (set l.rows l.class f)) k
    ∙ taken_lists s t l.rows l.room l.class l.row x (l.row.waiting.all - 1) o.linked o.row (omega arith) (sym (ap (get s) e) ∙ h) (subst P e u)
    ∙ ap (λ (ls : List (List Entry)). set ls l.class (drop 1 (row_entries s l.row))) o.lists_are
    ∙ ap (λ (xs : List Entry). set l.lists l.class (drop 1 xs)) (sym (list_is s l.rows l.lists l.class l.row o.lists_are o.row))

pub popped_head : (l : Chosen) (x : Node) (a : ℕ) → AtRow l → (l.row.waiting.all ≡ 0 → ⊥) → a ≡ l.row.first.0 → get l.nodes a ≡ Some x
    → Some x.entry ≡ slice_get (list_of l.lists l.class) 0
popped_head l x a o n e h =
    sym (ap (option_map (λ (y : Node). y.entry)) (sym (ap (get l.nodes) e) ∙ h))
    ∙ head_is l.nodes l.rows l.lists l.room l.class l.row (l.row.waiting.all - 1) o.lists_are o.linked o.row (omega arith)

-- the counts of a list speak of its head too
pub popped_counted : (l : Chosen) (x : Node) (a : ℕ) → AtRow l → (l.row.waiting.all ≡ 0 → ⊥) → a ≡ l.row.first.0 → get l.nodes a ≡ Some x
    → (x.entry.prec ≡ 0 → 0 < l.row.waiting.best) × (x.entry.prec ≤ 1 → 0 < l.row.waiting.middle)
popped_counted l x a o n e h =
    let s : Slab Node = l.nodes in
    let r : Row = l.row in
    let k : ℕ = r.waiting.all - 1 in
    let at : node_at s r.first.0 ≡ x = ap (λ (q : Option Node). unwrap_or q no_node) (sym (ap (get s) e) ∙ h) in
    let counts = (o.linked.row l.class r o.row).counts ∙ ap (λ (xs : List Entry). waiting_of (precs_in xs)) (list_begins s r k (omega arith)) in
    let p : ℕ = (node_at s r.first.0).entry.prec in
    let ps : List ℕ = precs_in (entries_at s (chain s (node_at s r.first.0).next.0 k)) in
    let best : r.waiting.best ≡ at_most 0 (p ∷ ps) = ap (λ (w : Waiting). w.best) counts in
    let middle : r.waiting.middle ≡ at_most 1 (p ∷ ps) = ap (λ (w : Waiting). w.middle) counts in
    let same : p ≡ x.entry.prec = ap (λ (y : Node). y.entry.prec) at in (
      λ z. omega (arith, best, head_at_most 0 p ps (omega arith)),
      λ z. omega (arith, middle, head_at_most 1 p ps (omega arith)),
    )
