-- Inputs say one thing.
use Rattle.std.proofs.Common.{◌≡◌, ◌∙◌, ℕ, true, List, Option, None, Some, ap, sym, refl, subst}
use Rattle.arrivals_front.specs.Given.{ReadAs, is_pcapng}
use Rattle.arrivals_front.proofs.ReadLaws.{fault_not_read, limit_not_read, no_limit_at, one_fault, read_one_way}
use Rattle.pcapng_files.specs.Converted.{IsCause}
use Rattle.pcapng_files.specs.declared.fault.NgFault.TheVariants as ng
use Rattle.pcapng_model.specs.declared.fault.NgPlace.{NgPlace}
use Rattle.play_base.specs.View.{View}
use Rattle.run_inputs.specs.declared.stop.Stop.{Stop}
use Rattle.run_inputs.specs.declared.stop.Stop.TheVariants as stop
use Rattle.run_inputs.specs.Says.{Accepted, AreGiven, AreReady, AreStopped, Asked, Configured, Given, Inputs, Ready, RefusedAt, Said, Says, Stops, Text, TextSays, TooLong, text_of}

same_bytes : (xs ys : List ℕ) → Some xs ≡ Some ys → xs ≡ ys
same_bytes xs ys h = cc

no_bytes : (xs : List ℕ) → None ≡ Some xs → ⊥
no_bytes xs h = cc

-- bytes under one name say one thing
pub one_text : (v : View) (a : Asked) (t u : Text) → TextSays v a t → TextSays v a u → t ≡ u
one_text v a t u x y = sym x.says ∙ ap (text_of a) (same_bytes x.bytes y.bytes (sym x.at ∙ y.at)) ∙ y.says

-- what the configuration's name has, and what that says
abbrev pub At : View → Asked → Option Text → Type 0
At v a None = v.bytes a.config ≡ None
At v a (Some t) = TextSays v a t

one_at : (v : View) (a : Asked) (o p : Option Text) → At v a o → At v a p → o ≡ p
one_at v a None None x y = refl
one_at v a None (Some t) x y = absurd (no_bytes y.bytes (sym x ∙ y.at))
one_at v a (Some t) None x y = absurd (no_bytes x.bytes (sym y ∙ x.at))
one_at v a (Some t) (Some u) x y = ap {B = Option Text} (λ z. Some z) (one_text v a t u x y)

-- what is made of bytes that are given
abbrev pub Made : Configured → (given : List ℕ) → Said → Type 0
Made c given (Stops (stop.NoPcapng block)) = (is_pcapng given ≡ true) × IsCause (ng.At block) given
Made c given (Stops stop.LongPcapng) = (is_pcapng given ≡ true) × IsCause ng.Limit given
Made c given (Stops other) = ⊥
Made c given (Ready i) =
    (capture : List ℕ) × ReadAs given capture × (i ≡ record { configured = c; given = Some (record { bytes = given; capture = capture }) })

ready_same : (i j : Inputs) (c : Configured) (given x y : List ℕ) → i ≡ record { configured = c; given = Some (record { bytes = given; capture = x }) }
    → j ≡ record { configured = c; given = Some (record { bytes = given; capture = y }) } → x ≡ y → Ready i ≡ Ready j
ready_same i j c given x y e f h =
    ap {B = Said} Ready e
    ∙ ap {B = Said} (λ (z : List ℕ). Ready (record { configured = c; given = Some (record { bytes = given; capture = z }) })) h
    ∙ sym (ap {B = Said} Ready f)

one_made : (c : Configured) (given : List ℕ) (s t : Said) → Made c given s → Made c given t → s ≡ t
one_made c given (Stops (stop.NoPcapng p)) (Stops (stop.NoPcapng q)) x y =
    ap {B = Said} (λ (b : NgPlace). Stops (stop.NoPcapng b)) (one_fault given p q x.1 y.1)
one_made c given (Stops (stop.NoPcapng p)) (Stops stop.LongPcapng) x y = absurd (no_limit_at given p y.1 x.1)
one_made c given (Stops stop.LongPcapng) (Stops (stop.NoPcapng p)) x y = absurd (no_limit_at given p x.1 y.1)
one_made c given (Stops stop.LongPcapng) (Stops stop.LongPcapng) x y = refl
one_made c given (Stops (stop.NoPcapng p)) (Ready j) x y = absurd (fault_not_read given y.0 p x.0 y.1 x.1)
one_made c given (Stops stop.LongPcapng) (Ready j) x y = absurd (limit_not_read given y.0 x.0 y.1 x.1)
one_made c given (Ready i) (Stops (stop.NoPcapng p)) x y = absurd (fault_not_read given x.0 p y.0 x.1 y.1)
one_made c given (Ready i) (Stops stop.LongPcapng) x y = absurd (limit_not_read given x.0 y.0 x.1 y.1)
one_made c given (Ready i) (Ready j) x y = ready_same i j c given x.0 y.0 x.2 y.2 (read_one_way given x.0 y.0 x.1 y.1)
one_made c given (Stops stop.NoConfiguration) t x y = absurd x
one_made c given (Stops stop.LongConfiguration) t x y = absurd x
one_made c given (Stops (stop.Refused p)) t x y = absurd x
one_made c given (Stops stop.NoArrivals) t x y = absurd x
one_made c given s (Stops stop.NoConfiguration) x y = absurd y
one_made c given s (Stops stop.LongConfiguration) x y = absurd y
one_made c given s (Stops (stop.Refused p)) x y = absurd y
one_made c given s (Stops stop.NoArrivals) x y = absurd y

-- behind an accepted configuration: by the arrivals asked for, and by what is under their name
abbrev pub Under : Configured → Option (List ℕ) → Said → Type 0
Under c None s = s ≡ Stops stop.NoArrivals
Under c (Some given) s = Made c given s

one_under : (c : Configured) (o : Option (List ℕ)) (s t : Said) → Under c o s → Under c o t → s ≡ t
one_under c None s t x y = x ∙ sym y
one_under c (Some given) s t x y = one_made c given s t x y

abbrev pub Behind : View → Configured → Option (List ℕ) → Said → Type 0
Behind v c None s = s ≡ Ready (record { configured = c; given = None })
Behind v c (Some name) s = Under c (v.bytes name) s

one_behind : (v : View) (c : Configured) (o : Option (List ℕ)) (s t : Said) → Behind v c o s → Behind v c o t → s ≡ t
one_behind v c None s t x y = x ∙ sym y
one_behind v c (Some name) s t x y = one_under c (v.bytes name) s t x y

abbrev pub Rest : View → Asked → Option Text → Said → Type 0
Rest v a None s = s ≡ Stops stop.NoConfiguration
Rest v a (Some TooLong) s = s ≡ Stops stop.LongConfiguration
Rest v a (Some (RefusedAt place)) s = s ≡ Stops (stop.Refused place)
Rest v a (Some (Accepted c)) s = Behind v c a.arrivals s

one_rest : (v : View) (a : Asked) (o : Option Text) (s t : Said) → Rest v a o s → Rest v a o t → s ≡ t
one_rest v a None s t x y = x ∙ sym y
one_rest v a (Some TooLong) s t x y = x ∙ sym y
one_rest v a (Some (RefusedAt place)) s t x y = x ∙ sym y
one_rest v a (Some (Accepted c)) s t x y = one_behind v c a.arrivals s t x y

behind_name : (v : View) (c : Configured) (o p : Option (List ℕ)) (name : List ℕ) (s : Said) → o ≡ Some name → v.bytes name ≡ p → Under c p s → Behind v c o s
behind_name v c o p name s e h x =
    let P : Option (List ℕ) → Type 0 = λ z. Behind v c z s in
    let Q : Option (List ℕ) → Type 0 = λ z. Under c z s in
    subst P (sym e) (subst Q (sym h) x)

ready_behind : (v : View) (o : Option (List ℕ)) (i : Inputs) → AreGiven v o i.given → Behind v i.configured o (Ready i)
ready_behind v o i x = by o i.given refl x
  where
    same : (g : Option Given) → i.given ≡ g → i ≡ record { configured = i.configured; given = g }
    same g e = ap {B = Inputs} (λ (z : Option Given). record { configured = i.configured; given = z }) e

    by : (o : Option (List ℕ)) (g : Option Given) → i.given ≡ g → AreGiven v o g → Behind v i.configured o (Ready i)
    by None None e x = ap {B = Said} Ready (same None e)
    by None (Some g) e x = absurd x
    by (Some name) None e x = absurd x
    by (Some name) (Some g) e x =
        let Q : Option (List ℕ) → Type 0 = λ z. Under i.configured z (Ready i) in
        subst Q (sym x.0) (g.capture, x.1, same (Some g) e)

see : (v : View) (a : Asked) (s : Said) → Says v a s → (o : Option Text) × At v a o × Rest v a o s
see v a (Stops stop.NoConfiguration) x = (None, x, refl)
see v a (Stops stop.LongConfiguration) x = (Some TooLong, x, refl)
see v a (Stops (stop.Refused place)) x = (Some (RefusedAt place), x, refl)
see v a (Stops stop.NoArrivals) x = (Some (Accepted x.configured), x.says, behind_name v x.configured a.arrivals None x.name _ x.asked x.holds refl)
see v a (Stops (stop.NoPcapng block)) x = (
  Some (Accepted x.configured),
  x.says,
  behind_name v x.configured a.arrivals (Some x.holds.bytes) x.name _ x.asked x.holds.at (x.holds.begins, x.holds.cause),
)
see v a (Stops stop.LongPcapng) x = (
  Some (Accepted x.configured),
  x.says,
  behind_name v x.configured a.arrivals (Some x.holds.bytes) x.name _ x.asked x.holds.at (x.holds.begins, x.holds.cause),
)
see v a (Ready i) x = (Some (Accepted i.configured), x.configured, ready_behind v a.arrivals i x.given)

pub one_thing : (v : View) (a : Asked) (s t : Said) → Says v a s → Says v a t → s ≡ t
one_thing v a s t x y =
    let m = see v a s x in
    let n = see v a t y in
    let P : Option Text → Type 0 = λ o. Rest v a o t in
    one_rest v a m.0 s t m.2 (subst P (one_at v a n.0 m.0 n.1 m.1) n.2)

same_stop : (s t : Stop) → Stops s ≡ Stops t → s ≡ t
same_stop s t h = cc

pub one_stop : (v : View) (a : Asked) (s t : Stop) → AreStopped v a s → AreStopped v a t → s ≡ t
one_stop v a s t x y = same_stop s t (one_thing v a (Stops s) (Stops t) x y)

no_stop : (i : Inputs) (s : Stop) → Ready i ≡ Stops s → ⊥
no_stop i s h = cc

-- inputs that stop a command are not ready
pub ready_not_stopped : (v : View) (a : Asked) (i : Inputs) (s : Stop) → AreReady v a i → AreStopped v a s → ⊥
ready_not_stopped v a i s x y = no_stop i s (one_thing v a (Ready i) (Stops s) x y)

same_ready : (i j : Inputs) → Ready i ≡ Ready j → i ≡ j
same_ready i j h = cc

pub one_ready : (v : View) (a : Asked) (i j : Inputs) → AreReady v a i → AreReady v a j → i ≡ j
one_ready v a i j x y = same_ready i j (one_thing v a (Ready i) (Ready j) x y)
