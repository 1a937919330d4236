-- What the text of a configuration says.
use Rattle.std.proofs.Common.{◌≡◌, ◌≤◌, ◌<◌, ◌∙◌, ℕ, Bool, true, false, length, List, Option, None, Some, Result, Ok, Err, ap, sym, refl, arith}
use Rattle.std.specs.Borrow.{Bor}
use Rattle.std.specs.Prelude.{IsTrue, nat_lt, if◌then◌else◌, is_some, option_copied, option_map}
use Rattle.conf_lines.specs.declared.fault.ConfPlace.{ConfPlace}
use Rattle.conf_lines.specs.Texts.{statements_of}
use Rattle.conf_tree.specs.declared.interface.Interface.{Interface}
use Rattle.conf_tree.specs.Reading.{reading}
use Rattle.file_plans.specs.End.{most_configuration}
use Rattle.play_base.specs.View.{View}
use Rattle.run_inputs.specs.declared.inputs.Asking.{Asking}
use Rattle.run_inputs.specs.Had.{IsAccepted, asked_of}
use Rattle.run_inputs.specs.Reading.{HasAsked, IsText}
use Rattle.run_inputs.specs.Says.{Accepted, Asked, Text, TextSays, TooLong, interface_of, text_of, text_read, with_interface, with_next}

pick_second : (b : Bool) (x y : Text) → b ≡ false → (if b then x else y) ≡ y
pick_second true x y e = cc
pick_second false x y e = refl

pick_first : (b : Bool) (x y : Text) → b ≡ true → (if b then x else y) ≡ x
pick_first true x y e = refl
pick_first false x y e = cc

pub short_says : (a : Asked) (text : List ℕ) (read : Result (List Interface) ConfPlace) → length text ≤ most_configuration
    → reading (statements_of text) ≡ read → text_of a text ≡ text_read a read
short_says a text read l e =
    pick_second (nat_lt most_configuration (length text)) TooLong (text_read a (reading (statements_of text))) (grind (arith, l)) ∙ ap (text_read a) e

pub long_says : (a : Asked) (text : List ℕ) → most_configuration < length text → text_of a text ≡ TooLong
long_says a text l = pick_first (nat_lt most_configuration (length text)) TooLong (text_read a (reading (statements_of text))) (grind (arith, l))

-- it does not matter whether arrivals are asked for
next_same : (x : Asking) (m n : Option (List ℕ)) (is : List Interface) (o : Option Interface)
    → with_interface (asked_of x m) is o ≡ with_interface (asked_of x n) is o
next_same x m n is None = refl
next_same x m n is (Some i) = refl

read_same : (x : Asking) (m n : Option (List ℕ)) (r : Result (List Interface) ConfPlace) → text_read (asked_of x m) r ≡ text_read (asked_of x n) r
read_same x m n (Err place) = refl
read_same x m n (Ok is) = next_same x m n is (interface_of x.interface.now is)

pub text_same : (x : Asking) (m n : Option (List ℕ)) (text : List ℕ) → text_of (asked_of x m) text ≡ text_of (asked_of x n) text
text_same x m n text =
    ap (λ (t : Text). if nat_lt most_configuration (length text) then TooLong else t) (read_same x m n (reading (statements_of text)))

pub says_same : (x : Asking) (m n : Option (List ℕ)) (v : View) (t : Text) → TextSays v (asked_of x m) t → TextSays v (asked_of x n) t
says_same x m n v t y = record { bytes = y.bytes; at = y.at; says = text_same x n m y.bytes ∙ y.says }

pub accepted_same : (x : Asking) (m n : Option (List ℕ)) (v : View) (is : List Interface) (c : _) → IsAccepted v (asked_of x m) is c → IsAccepted v (asked_of x n) is c
accepted_same x m n v is c y = record {
  text = y.text;
  read = y.read;
  says = text_same x n m y.text ∙ y.says;
  at = y.at;
  same = y.same;
  found = y.found;
  next = y.next;
}

-- a text that is read, and has the interfaces
pub is_text : (a : Asked) (text : List ℕ) (is : List Interface) → length text ≤ most_configuration → reading (statements_of text) ≡ Ok is
    → HasAsked a is true → IsText a text is
is_text a text is l e h = (
  h.0,
  λ old at. record {
    text = text;
    read = e;
    says = short_says a text (Ok is) l e ∙ h.1.says;
    at = at;
    same = h.1.same;
    found = h.1.found;
    next = h.1.next;
  },
)

-- the text says what its name has
pub told : (v : View) (a : Asked) (is : List Interface) (c : _) (t : IsTrue v.tells) → IsAccepted v a is c → TextSays v a (Accepted c)
told v a is c t y = record { bytes = y.text; at = y.at t; says = y.says }

-- by the interfaces that are found
pub asked_none : (a : Asked) (is : List Interface) → None ≡ interface_of a.interface is → HasAsked a is false
asked_none a is e = ap (λ (p : Option Interface). with_interface a is p) (sym e)

found_by : (a : Asked) (is : List Interface) (i : Interface) (n : Option (Option Interface)) → Some i ≡ interface_of a.interface is
    → option_map (λ name. interface_of name is) a.next ≡ n → text_read a (Ok is) ≡ with_next is i n
found_by a is i n e f =
    ap (λ (p : Option Interface). with_interface a is p) (sym e) ∙ ap (λ (p : Option (Option Interface)). with_next is i p) f

-- what is asked for by a name beside it
next_by : (a : Asked) (is : List Interface) (name : List ℕ) (o : Option Interface) → a.next ≡ Some name → o ≡ interface_of name is
    → option_map (λ name. interface_of name is) a.next ≡ Some o
next_by a is name o e h = ap (λ (p : Option (List ℕ)). option_map (λ name. interface_of name is) p) e ∙ ap (λ (p : Option Interface). Some p) (sym h)

pub asked_sole : (a : Asked) (is : List Interface) (i : Interface) → Some i ≡ interface_of a.interface is → a.next ≡ None → HasAsked a is true
asked_sole a is i e f =
    let next : option_map (λ name. interface_of name is) a.next ≡ None = ap (λ (p : Option (List ℕ)). option_map (λ name. interface_of name is) p) f in
    (record { interfaces = is; found = i; next = None }, record { says = found_by a is i None e next; same = refl; found = sym e; next = next })

pub asked_next : (a : Asked) (is : List Interface) (i : Interface) (name : List ℕ) (r : Option (Bor Interface)) → Some i ≡ interface_of a.interface is
    → a.next ≡ Some name → option_copied r ≡ interface_of name is → HasAsked a is (is_some r)
asked_next a is i name None e f h = found_by a is i (Some None) e (next_by a is name None f h)
asked_next a is i name (Some j) e f h =
    let next : option_map (λ name. interface_of name is) a.next ≡ Some (Some j.now) = next_by a is name (Some j.now) f h in
    (record { interfaces = is; found = i; next = Some j.now }, record { says = found_by a is i (Some (Some j.now)) e next; same = refl; found = sym e; next = next })
