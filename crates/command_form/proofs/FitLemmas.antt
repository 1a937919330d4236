-- The numbers of an interface that was asked for and found are in their ranges.
use Rattle.std.proofs.Common.{◌≡◌, ℕ, suc, Bool, true, false, cond, Option, List, [], ◌∷◌, length, None, Some, Result, Ok, Err, ap, refl}
use Rattle.std.specs.Prelude.{bytes_eq, find, nat_lt, option_map, slice_get}
use Rattle.conf_laws.specs.Fit.{IsInterface}
use Rattle.conf_laws.specs.Laws.{ConfigurationsFit}
use Rattle.conf_lines.specs.Texts.{statements_of}
use Rattle.conf_lines.specs.declared.fault.ConfPlace.{ConfPlace}
use Rattle.conf_tree.specs.Reading.{IsConfiguration, reading}
use Rattle.conf_tree.specs.declared.interface.Interface.{Interface}
use Rattle.file_plans.specs.End.{most_configuration}
use Rattle.play_base.specs.View.{View}
use Rattle.run_inputs.specs.Had.{IsAccepted}
use Rattle.run_inputs.specs.Says.{Accepted, AreReady, Asked, Configured, Inputs, TooLong, interface_of, text_read, with_interface, with_next}

found_here : (b : Bool) (x i : Interface) (interfaces : List Interface) (rest : Option Interface) → cond b (Some x) rest ≡ Some i
    → (rest ≡ Some i → (k : ℕ) × (slice_get interfaces k ≡ Some i)) → (k : ℕ) × (slice_get (x ∷ interfaces) k ≡ Some i)
found_here true x i interfaces rest e later = (0, e)
found_here false x i interfaces rest e later = let y = later e in (suc y.0, y.1)

pub found_at : (p : Interface → Bool) (interfaces : List Interface) (i : Interface) → find p interfaces ≡ Some i → (k : ℕ) × (slice_get interfaces k ≡ Some i)
found_at p [] i e = cc
found_at p (x ∷ interfaces) i e = found_here (p x) x i interfaces (find p interfaces) e (λ d. found_at p interfaces i d)

found_fits : ConfigurationsFit → (name text : List ℕ) (interfaces : List Interface) (i : Interface) → IsConfiguration text interfaces
    → interface_of name interfaces ≡ Some i → IsInterface i
found_fits fit name text interfaces i read e =
    let at = found_at (λ x. bytes_eq name x.name) interfaces i e in
    (fit text interfaces read).interface at.0 i at.1

pub accepted_fits : ConfigurationsFit → (u : View) (a : Asked) (interfaces : List Interface) (c : Configured) → IsAccepted u a interfaces c → IsInterface c.found
accepted_fits fit u a interfaces c x = found_fits fit a.interface x.text interfaces c.found x.read x.found

-- what an accepted text says is found in it
next_found : (c : Configured) (is : List Interface) (i : Interface) (o : Option (Option Interface)) → with_next is i o ≡ Accepted c → i ≡ c.found
next_found c is i None e = cc
next_found c is i (Some None) e = absurd (cc)
next_found c is i (Some (Some j)) e = cc

name_found : (a : Asked) (c : Configured) (is : List Interface) (o : Option Interface) → with_interface a is o ≡ Accepted c → o ≡ Some c.found
name_found a c is None e = absurd (cc)
name_found a c is (Some i) e =
    ap {B = Option Interface} (λ z. Some z) (next_found c is i (option_map (λ name. interface_of name is) a.next) e)

read_found : (a : Asked) (c : Configured) (r : Result (List Interface) ConfPlace) → text_read a r ≡ Accepted c
    → (is : List Interface) × (r ≡ Ok is) × (interface_of a.interface is ≡ Some c.found)
read_found a c (Err place) e = absurd (cc)
read_found a c (Ok is) e = (is, refl, name_found a c is (interface_of a.interface is) e)

pub text_found : (a : Asked) (c : Configured) (bytes : List ℕ) (b : Bool) → cond b TooLong (text_read a (reading (statements_of bytes))) ≡ Accepted c
    → (is : List Interface) × IsConfiguration bytes is × (interface_of a.interface is ≡ Some c.found)
text_found a c bytes true e = absurd (cc)
text_found a c bytes false e = read_found a c (reading (statements_of bytes)) e

pub ready_fits : ConfigurationsFit → (u : View) (a : Asked) (i : Inputs) → AreReady u a i → IsInterface i.configured.found
ready_fits fit u a i x =
    let y = text_found a i.configured x.configured.bytes (nat_lt most_configuration (length x.configured.bytes)) x.configured.says in
    found_fits fit a.interface x.configured.bytes y.0 i.configured.found y.1 y.2
