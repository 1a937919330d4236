-- What is given is read one way.
use Rattle.std.proofs.Common.{◌≡◌, ◌∙◌, ℕ, Bool, true, false, List, ap, sym, subst}
use Rattle.capture_model.specs.Written.{written}
use Rattle.pcapng_model.specs.Reading.{End, Fault, Limit}
use Rattle.pcapng_model.specs.declared.fault.NgPlace.{NgPlace}
use Rattle.pcapng_model.proofs.StandLemmas.{one_reading}
use Rattle.pcapng_files.specs.Converted.{IsCause, IsConversion}
use Rattle.pcapng_files.specs.declared.fault.NgFault.TheVariants as ng
use Rattle.arrivals_front.specs.Given.{ReadAs, ReadBy, is_pcapng}

one_conversion : (given a b : List ℕ) → IsConversion given a → IsConversion given b → a ≡ b
one_conversion given a b x y =
    x.capture_is ∙ ap written (one_reading given x.records y.records End End x.read tt y.read tt).0 ∙ sym y.capture_is

by_kind : (k : Bool) (given a b : List ℕ) → ReadBy k given a → ReadBy k given b → a ≡ b
by_kind false given a b x y = sym x ∙ y
by_kind true given a b x y = one_conversion given a b x y

pub read_one_way : (given a b : List ℕ) → ReadAs given a → ReadAs given b → a ≡ b
read_one_way given a b x y = by_kind (is_pcapng given) given a b x y

-- a pcapng file that has a fault or is at a limit is not read
converted : (given a : List ℕ) → is_pcapng given ≡ true → ReadAs given a → IsConversion given a
converted given a h x = subst (λ (k : Bool). ReadBy k given a) h x

end_fault : (place : NgPlace) → End ≡ Fault place → ⊥
end_fault place h = cc

end_limit : End ≡ Limit → ⊥
end_limit h = cc

limit_fault : (place : NgPlace) → Limit ≡ Fault place → ⊥
limit_fault place h = cc

same_fault : (p q : NgPlace) → Fault p ≡ Fault q → p ≡ q
same_fault p q h = cc

pub fault_not_read : (given a : List ℕ) (place : NgPlace) → is_pcapng given ≡ true → ReadAs given a → IsCause (ng.At place) given → ⊥
fault_not_read given a place h x c =
    let y = converted given a h x in end_fault place (one_reading given y.records c.0 End (Fault place) y.read tt c.1 tt).1

pub limit_not_read : (given a : List ℕ) → is_pcapng given ≡ true → ReadAs given a → IsCause ng.Limit given → ⊥
limit_not_read given a h x c = let y = converted given a h x in end_limit (one_reading given y.records c.0 End Limit y.read tt c.1 tt).1

-- it has one fault, or is at a limit
pub one_fault : (given : List ℕ) (p q : NgPlace) → IsCause (ng.At p) given → IsCause (ng.At q) given → p ≡ q
one_fault given p q x y = same_fault p q (one_reading given x.0 y.0 (Fault p) (Fault q) x.1 tt y.1 tt).1

pub no_limit_at : (given : List ℕ) (p : NgPlace) → IsCause ng.Limit given → IsCause (ng.At p) given → ⊥
no_limit_at given p x y = limit_fault p (one_reading given x.0 y.0 Limit (Fault p) x.1 tt y.1 tt).1
