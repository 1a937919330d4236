-- Statements are accepted exactly where they say a tree of the grammar.
use Rattle.std.proofs.Common.{◌≡◌, ◌≤◌, ◌==◌, ◌&&◌, not, ◌∙◌, ℕ, Bool, true, false, List, [], ◌∷◌, length, map, Option, Some, None, Result, Ok, Err, IfOk, bytes_eq, cond, refl, sym, ap, subst, arith}
use Rattle.std.proofs.lemmas.Bool.Decides.{nat_tests}
use Rattle.std.proofs.lemmas.Result.{IfOk-at_ok}
use Rattle.conf_lines.specs.declared.fault.ConfPlace.{ConfPlace}
use Rattle.conf_lines.specs.declared.statement.Statement.{Statement}
use Rattle.conf_tree.specs.declared.interface.Interface as interface_type
use Rattle.conf_tree.specs.Reading.{read_statement, reading_from}
use Rattle.conf_tree.specs.Tree.{Begun, interface_name}
use Rattle.conf_tree.specs.Whole.{finished_unless, first_undecided, undecided, whole}
use Rattle.conf_tree_grammar.specs.Grammar.{HaveDefaults, IsTreeFrom, all_defaults, classes, said_of}
use Rattle.conf_tree_grammar.specs.Laws.{AcceptedIsTree, Say, TreeIsAccepted}
use Rattle.conf_tree_grammar.specs.Sayings.{Saying}
use Rattle.conf_tree_grammar.proofs.Accepts.{Accepts, statement_accepted}
use Rattle.conf_tree_grammar.proofs.Goes.{Goes, statement_goes}
use Rattle.conf_tree_grammar.proofs.Lookups.{equal_names, named, same_name}
use Rattle.conf_tree_grammar.proofs.OptionsSet.{count_of}
use Rattle.conf_tree_grammar.proofs.Told.{Apart, BegunTold, TellsBegun, StateStands, nothing_told}

-- THE END: each interface that is found is decided exactly where all of them are
decided_found : (x : List ℕ) (state : List Begun) (b : Begun) → first_undecided state ≡ None → named interface_name x state ≡ Some b → undecided b ≡ false
decided_found x [] b e f = absurd cc
decided_found x (c ∷ state) b e f = go (undecided c) (bytes_eq x c.name) refl e f (decided_found x state b)
  where
    go : (d n : Bool) → undecided c ≡ d
        → cond d (Some (record { line = c.line; word = 0; kind = Rattle.conf_lines.specs.declared.fault.ConfKind.TheVariants.NoDefault })) (first_undecided state) ≡ None
        → cond n (Some c) (named interface_name x state) ≡ Some b
        → (first_undecided state ≡ None → named interface_name x state ≡ Some b → undecided b ≡ false) → undecided b ≡ false
    go true n u e f ih = absurd cc
    go false true u e f ih = let same : c ≡ b = cc in rw (← same) u
    go false false u e f ih = ih e f

all_decided : (state : List Begun) → Apart state → ((x : List ℕ) (b : Begun) → named interface_name x state ≡ Some b → undecided b ≡ false)
    → first_undecided state ≡ None
all_decided [] a h = refl
all_decided (c ∷ state) a h =
    let own : undecided c ≡ false = h c.name c (rw (same_name c.name) refl) in
    rw own (all_decided state a.1 (λ x b f. h x b (go x b f (bytes_eq x c.name) refl)))
  where
    go : (x : List ℕ) (b : Begun) → named interface_name x state ≡ Some b → (n : Bool) → bytes_eq x c.name ≡ n
        → cond n (Some c) (named interface_name x state) ≡ Some b
    go x b f true e =
        let same : x ≡ c.name = equal_names x c.name e in
        let none : named interface_name x state ≡ None = rw same a.0 in
        absurd cc
    go x b f false e = f

one_default : (b : Begun) (local : List Saying) → TellsBegun local b → undecided b ≡ false → 1 ≤ classes local → all_defaults local ≡ 1
one_default b local t e some = go (length b.classes == 0) b.chosen refl refl e
  where
    go : (d c : Bool) → (length b.classes == 0) ≡ d → b.chosen ≡ c → (not d && not c) ≡ false → all_defaults local ≡ 1
    go true c f g e = absurd (grind (arith, nat_tests, f, t.room, some))
    go false true f g e = let one : count_of b.chosen ≡ 1 = rw g refl in omega (arith, one, t.chosen)
    go false false f g e = absurd cc

decided_by : (b : Begun) (local : List Saying) → TellsBegun local b → (1 ≤ classes local → all_defaults local ≡ 1) → undecided b ≡ false
decided_by b local t h = go (length b.classes == 0) b.chosen refl refl
  where
    go : (d c : Bool) → (length b.classes == 0) ≡ d → b.chosen ≡ c → (not d && not c) ≡ false
    go true c f g = refl
    go false true f g = refl
    go false false f g =
        let some : 1 ≤ classes local = grind (arith, nat_tests, f, t.room) in
        let one = h some in
        let none : count_of b.chosen ≡ 0 = rw g refl in
        absurd (omega (arith, one, none, t.chosen))

defaults_stand : (before : List Saying) (state : List Begun) → StateStands before state → first_undecided state ≡ None → HaveDefaults before
defaults_stand before state t e name some = go (named interface_name name state) refl (t.each name)
  where
    go : (w : Option Begun) → named interface_name name state ≡ w → BegunTold (said_of name before) w → all_defaults (said_of name before) ≡ 1
    go None f h = let none : classes (said_of name before) ≡ 0 = ap classes h in absurd (omega (arith, none, some))
    go (Some b) f h = one_default b (said_of name before) h (decided_found name state b e f) some

end_goes : (before : List Saying) (state : List Begun) → StateStands before state → HaveDefaults before → first_undecided state ≡ None
end_goes before state t h = all_decided state t.apart (λ x b f. decided_by b (said_of x before) (subst (BegunTold (said_of x before)) f (t.each x)) (h x))

finished_ok : (state : List Begun) (o : Option ConfPlace) (interfaces : List interface_type.Interface) → finished_unless state o ≡ Ok interfaces → o ≡ None
finished_ok state None interfaces e = refl
finished_ok state (Some fault) interfaces e = absurd cc

-- ALL STATEMENTS
record AcceptedFrom (before : List Saying) (statements : List Statement) : Type 0 where
  sayings : List Saying
  said : Say statements sayings
  tree : IsTreeFrom before sayings

abbrev then_read : List Statement → Result (List Begun) ConfPlace → Result (List interface_type.Interface) ConfPlace
then_read statements r = elim r [ Ok after ↦ reading_from after statements | Err fault ↦ Err fault ]

accepted_from : (before : List Saying) (state : List Begun) (statements : List Statement) (interfaces : List interface_type.Interface) → StateStands before state
    → reading_from state statements ≡ Ok interfaces → AcceptedFrom before statements
accepted_from before state [] interfaces t e =
    record { sayings = []; said = tt; tree = defaults_stand before state t (finished_ok state (first_undecided state) interfaces e) }
accepted_from before state (s ∷ statements) interfaces t e =
    go (read_statement state s) (statement_accepted before state s t) e (λ more after. accepted_from more after statements interfaces)
  where
    go : (r : Result (List Begun) ConfPlace) → IfOk r (Accepts before s)
        → then_read statements r ≡ Ok interfaces
        → ((more : List Saying) (after : List Begun) → StateStands more after → reading_from after statements ≡ Ok interfaces → AcceptedFrom more statements)
        → AcceptedFrom before (s ∷ statements)
    go (Ok after) h e ih =
        let rest = ih (h.said ∷ before) after h.told e in
        record { sayings = h.said ∷ rest.sayings; said = (h.says, rest.said); tree = (h.may, rest.tree) }
    go (Err fault) h e ih = absurd cc

goes_then : (statements : List Statement) (r : Result (List Begun) ConfPlace) (after : List Begun) → r ≡ Ok after → Goes (reading_from after statements)
    → Goes (then_read statements r)
goes_then statements (Ok other) after e h = let same : other ≡ after = cc in rw same h
goes_then statements (Err fault) after e h = absurd cc

goes_from : (before : List Saying) (state : List Begun) (statements : List Statement) (sayings : List Saying) → StateStands before state
    → Say statements sayings → IsTreeFrom before sayings → Goes (reading_from state statements)
goes_from before state [] [] t said tree = (map whole state, rw (end_goes before state t tree) refl)
goes_from before state [] (y ∷ sayings) t said tree = absurd said
goes_from before state (s ∷ statements) [] t said tree = absurd said
goes_from before state (s ∷ statements) (y ∷ sayings) t said tree =
    let g = statement_goes before state s y t said.0 tree.0 in
    let a : Accepts before s g.0 = IfOk-at_ok (Accepts before s) g.1 (statement_accepted before state s t) in
    let same : a.said ≡ y = one a.said y (sym a.says ∙ said.0) in
    let told : StateStands (y ∷ before) g.0 = subst (λ x. StateStands (x ∷ before) g.0) same a.told in
    goes_then statements (read_statement state s) g.0 g.1 (goes_from (y ∷ before) g.0 statements sayings told said.1 tree.1)
  where
    one : (a b : Saying) → Some a ≡ Some b → a ≡ b
    one a b e = cc

pub accepted_is_tree : AcceptedIsTree
accepted_is_tree statements interfaces e =
    let a = accepted_from [] [] statements interfaces nothing_told e in record { sayings = a.sayings; said = a.said; tree = a.tree }

pub tree_is_accepted : TreeIsAccepted
tree_is_accepted statements a = goes_from [] [] statements a.sayings nothing_told a.said a.tree
