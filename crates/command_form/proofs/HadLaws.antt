-- What is had of the inputs is what they say.
use Rattle.std.proofs.Common.{◌≡◌, ◌∙◌, ℕ, List, Option, None, Some, ap, sym, refl, subst}
use Rattle.std.specs.Prelude.{IsTrue}
use Rattle.conf_tree.specs.declared.interface.Interface.{Interface}
use Rattle.play_base.specs.View.{View}
use Rattle.run_inputs.specs.declared.inputs.Arrivals.{Arrivals}
use Rattle.run_inputs.specs.declared.inputs.ReadConf.{ReadConf}
use Rattle.run_inputs.specs.Had.{AreGivenBy, AreHad, IsAccepted, IsHad}
use Rattle.run_inputs.specs.Meets.{HasBegun, HasRead}
use Rattle.run_inputs.specs.Says.{Accepted, AreGiven, AreReady, Asked, Configured, Given, Inputs, TextSays}
use Rattle.run_inputs.proofs.OneThing.{one_ready}
use Rattle.command_form.specs.Form.{AreReadyWhereTold}
use Rattle.command_form.specs.Given.{IsGiven}

pub accepted_says : (u : View) (a : Asked) (interfaces : List Interface) (c : Configured) → IsTrue u.tells → IsAccepted u a interfaces c → TextSays u a (Accepted c)
accepted_says u a interfaces c t x = record { bytes = x.text; at = x.at t; says = x.says }

-- THE CONFIGURATION ALONE
pub conf_ready : (u v : View) (a : Asked) (r : ReadConf) → a.arrivals ≡ None → IsHad a u v r → AreReadyWhereTold u a
conf_ready u v a r e h t = (
  record { configured = h.configured; given = None },
  record {
    configured = accepted_says u a r.conf h.configured t h.accepted;
    given = let P : Option (List ℕ) → Type 0 = λ o. AreGiven u o None in subst P (sym e) tt;
  },
)

pub conf_read : (u v : View) (a : Asked) (r : ReadConf) → IsHad a u v r → IsTrue u.tells → HasRead u v a
conf_read u v a r h t = record { configured = h.configured; says = accepted_says u a r.conf h.configured t h.accepted; taken = h.taken }

-- THE CONFIGURATION AND THE ARRIVALS
abbrev pub given_of : (u v : View) (name : List ℕ) (x : Arrivals) → AreGivenBy u v name x → Given
given_of u v name x g = record { bytes = g.given; capture = g.follows.bytes }

abbrev pub inputs_of : (u v : View) (name : List ℕ) (x : Arrivals) → Configured → AreGivenBy u v name x → Inputs
inputs_of u v name x c g = record { configured = c; given = Some (given_of u v name x g) }

pub ready_told : (u v : View) (a : Asked) (name : List ℕ) (r : ReadConf) (x : Arrivals) → a.arrivals ≡ Some name → (h : AreHad a name u v r x) → (t : IsTrue u.tells)
    → AreReady u a (inputs_of u v name x h.configured (h.given t))
ready_told u v a name r x e h t = record {
  configured = accepted_says u a r.conf h.configured t h.accepted;
  given =
      let g = h.given t in
      let P : Option (List ℕ) → Type 0 = λ o. AreGiven u o (Some (given_of u v name x g)) in
      subst P (sym e) (g.at, g.follows.read);
}

pub both_ready : (u v : View) (a : Asked) (name : List ℕ) (r : ReadConf) (x : Arrivals) → a.arrivals ≡ Some name → AreHad a name u v r x → AreReadyWhereTold u a
both_ready u v a name r x e h t = (inputs_of u v name x h.configured (h.given t), ready_told u v a name r x e h t)

pub both_read : (u v : View) (a : Asked) (name : List ℕ) (r : ReadConf) (x : Arrivals) → AreHad a name u v r x → IsTrue u.tells → HasRead u v a
both_read u v a name r x h t = record { configured = h.configured; says = accepted_says u a r.conf h.configured t h.accepted; taken = h.taken }

pub both_begun : (u v : View) (a : Asked) (name : List ℕ) (r : ReadConf) (x : Arrivals) → a.arrivals ≡ Some name → AreHad a name u v r x
    → IsTrue u.tells → HasBegun u v a.arrivals
both_begun u v a name r x e h t =
    let P : Option (List ℕ) → Type 0 = λ o. HasBegun u v o in
    subst P (sym e) (h.given t).begun

-- what holds of what is had holds of what is given
pub is_given : (u v : View) (a : Asked) (name : List ℕ) (r : ReadConf) (x : Arrivals) (P : Interface → Given → Type 0) → a.arrivals ≡ Some name
    → (h : AreHad a name u v r x) → (t : IsTrue u.tells) → P h.configured.found (given_of u v name x (h.given t)) → IsGiven u a P
is_given u v a name r x P e h t p = record {
  inputs = inputs_of u v name x h.configured (h.given t);
  ready = ready_told u v a name r x e h t;
  given = given_of u v name x (h.given t);
  is_given = refl;
  holds = p;
}

same_given : (g h : Given) → Some g ≡ Some h → g ≡ h
same_given g h e = cc

-- and what holds of what is given holds of what is had
pub of_given : (u v : View) (a : Asked) (name : List ℕ) (r : ReadConf) (x : Arrivals) (P : Interface → Given → Type 0) → a.arrivals ≡ Some name
    → (h : AreHad a name u v r x) → (t : IsTrue u.tells) → IsGiven u a P → P h.configured.found (given_of u v name x (h.given t))
of_given u v a name r x P e h t y =
    let i = inputs_of u v name x h.configured (h.given t) in
    let same : y.inputs ≡ i = one_ready u a y.inputs i y.ready (ready_told u v a name r x e h t) in
    let g : y.given ≡ given_of u v name x (h.given t) =
    same_given y.given (given_of u v name x (h.given t)) (sym y.is_given ∙ ap (λ (z : Inputs). z.given) same) in
    let Q : Interface → Type 0 = λ z. P z (given_of u v name x (h.given t)) in
    let R : Given → Type 0 = λ z. P y.inputs.configured.found z in
    subst Q (ap (λ (z : Inputs). z.configured.found) same) (subst R g y.holds)
