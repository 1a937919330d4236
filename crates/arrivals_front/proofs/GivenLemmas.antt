-- From the first four bytes of the arrivals to all that is played of them.
use Rattle.std.proofs.Common.{◌≡◌, ◌∙◌, ◌++◌, ◌≤◌, ℕ, Bool, true, false, List, [], Some, ap, sym, refl, subst, arith, inl, inr, take, length, length-append, append-nil, ◌+◌}
use Rattle.std.specs.Prelude.{◌⊎◌, ◌<◌, ◌∷◌, bytes_eq}
use Rattle.std.proofs.lemmas.Grind.{common_steps}
use Rattle.std.proofs.lemmas.List.{nil_from_length}
use Rattle.std.specs.declared.option.Option.{Option}
use Rattle.pcapng_files.specs.Fronts.{with_front}
use Rattle.capture_model.specs.Capture.{most_bytes}
use Rattle.pcapng_model.specs.Reading.{Limit, start, step}
use Rattle.pcapng_files.specs.Converted.{IsCause, IsConversion}
use Rattle.pcapng_files.specs.declared.fault.NgFault.{NgFault}
use Rattle.pcapng_files.specs.declared.fault.NgFault.TheVariants as ng
use Rattle.play_base.specs.View.{View, IsAtEnd}
use Rattle.play_base.proofs.ViewLaws.{rose_later}
use Rattle.arrivals_front.specs.Given.{BegunBy, Follows, IsBegunAt, IsCutShort, IsRefused, ReadAs, ReadBy, conversion_fault, is_pcapng}
use Rattle.arrivals_front.specs.Taking.{Gained, IsRestOf}
use Rattle.arrivals_front.specs.declared.given.Given.{Given}
use Rattle.arrivals_front.specs.declared.given.GivenFault.{GivenFault}
use Rattle.arrivals_front.specs.declared.given.GivenFault.TheVariants as fault

-- the first four bytes of the file were taken, or all of it
pub record IsBegun (old new : View) (file : ℕ) (taken : List ℕ) : Type 0 where
  pub gained : Gained old new file [] taken
  pub enough : (length taken ≡ 4) ⊎ IsAtEnd new file
  pub most : length taken ≤ 4

pub begun : (old new : View) (file : ℕ) (none taken : List ℕ) → none ≡ [] → Gained old new file none taken → (length taken ≡ 4) ⊎ IsAtEnd new file
    → length taken ≤ 4 → IsBegun old new file taken
begun old new file none taken empty x enough most =
    record { gained = subst (λ (xs : List ℕ). Gained old new file xs taken) empty x; enough = enough; most = most }

-- what the file had left is what was taken, and what it has left now
pub record IsSplit (new : View) (file : ℕ) (given taken : List ℕ) : Type 0 where
  pub rest : List ℕ
  pub joined : given ≡ taken ++ rest
  pub left : new.left file ≡ Some rest
  pub kind : is_pcapng given ≡ is_pcapng taken

first_four : (taken rest : List ℕ) → (length taken ≡ 4) ⊎ (length rest ≡ 0) → take 4 (taken ++ rest) ≡ take 4 taken
first_four taken rest (inl four) = grind (arith, common_steps)
first_four taken rest (inr none) = ap (λ l. take 4 l) (ap (λ l. taken ++ l) (nil_from_length rest none) ∙ append-nil taken)

at_end : (new : View) (file : ℕ) (taken rest : List ℕ) → (length taken ≡ 4) ⊎ IsAtEnd new file → new.left file ≡ Some rest → (length taken ≡ 4) ⊎ (length rest ≡ 0)
at_end new file taken rest (inl four) h = inl four
at_end new file taken rest (inr end) h = inr (end rest h)

pub split : (old new : View) (file : ℕ) (taken given : List ℕ) → IsBegun old new file taken → old.left file ≡ Some given → IsSplit new file given taken
split old new file taken given x h =
    let l = x.gained.took.left given h in
    let whole : given ≡ taken ++ l.0 = l.1 ∙ ap (λ m. m ++ l.0) (sym x.gained.joined) in
    record {
      rest = l.0;
      joined = whole;
      left = l.2;
      kind = ap is_pcapng whole
          ∙ ap (λ (b : List ℕ). bytes_eq b (10 ∷ 13 ∷ 13 ∷ 10 ∷ [])) (first_four taken l.0 (at_end new file taken l.0 x.enough l.2));
    }

-- A FILE THAT BEGINS OTHERWISE
read_as : (given bytes : List ℕ) (b : Bool) → is_pcapng given ≡ b → ReadBy b given bytes → ReadAs given bytes
read_as given bytes b e x = let P : Bool → Type 0 = λ c. ReadBy c given bytes in subst P (sym e) x

left_of : (taken rest : List ℕ) (left : Option (List ℕ)) → left ≡ Some rest → with_front true true taken left ≡ Some (taken ++ rest)
left_of taken rest left h = ap (λ l. with_front true true taken l) h

pub not_both : (b : Bool) → b ≡ true → b ≡ false → ⊥
not_both b h k = cc

pub follows_itself : (old new : View) (file : ℕ) (taken given : List ℕ) (g : Given) → g.front.items ≡ taken → g.rest ≡ true → IsBegun old new file taken
    → is_pcapng taken ≡ false → old.left file ≡ Some given → Follows new file given g
follows_itself old new file taken given g front rest x other h =
    let s = split old new file taken given x h in
    let left : with_front true true taken (new.left file) ≡ Some given = left_of taken s.rest (new.left file) s.left ∙ ap Some (sym s.joined) in
    record {
      bytes = given;
      read = read_as given given false (s.kind ∙ other) refl;
      left = ap (λ b. with_front true b g.front.items (new.left file)) rest ∙ ap (λ f. with_front true true f (new.left file)) front ∙ left;
      classic = λ _. (s.kind ∙ other, subst (λ (f : List ℕ). length f ≤ 4) (sym front) x.most);
      pcapng = λ h. absurd (not_both g.rest rest h);
    }

four_or_all : (given taken rest : List ℕ) → given ≡ taken ++ rest → (length taken ≡ 4) ⊎ (length rest ≡ 0) → BegunBy false given rest
four_or_all given taken rest e (inl four) =
    let l : length given ≡ length taken + length rest = ap length e ∙ length-append taken rest in inr (omega (arith, l, four))
four_or_all given taken rest e (inr none) = inl (nil_from_length rest none)

begun_by : (given rest : List ℕ) (b : Bool) → is_pcapng given ≡ b → BegunBy b given rest → BegunBy (is_pcapng given) given rest
begun_by given rest b e x = let P : Bool → Type 0 = λ c. BegunBy c given rest in subst P (sym e) x

pub begun_itself : (old new : View) (file : ℕ) (taken given : List ℕ) → IsBegun old new file taken → is_pcapng taken ≡ false → old.left file ≡ Some given
    → IsBegunAt new file given
begun_itself old new file taken given x other h =
    let s = split old new file taken given x h in
    (s.rest, s.left, begun_by given s.rest false (s.kind ∙ other) (four_or_all given taken s.rest s.joined (at_end new file taken s.rest x.enough s.left)))

-- A PCAPNG FILE
-- all of it was taken
pub record IsTaken (new : View) (file : ℕ) (given whole : List ℕ) : Type 0 where
  pub same : given ≡ whole
  pub kind : is_pcapng given ≡ true
  pub left : new.left file ≡ Some []

pub taken_all : (old mid new : View) (file : ℕ) (taken whole given : List ℕ) → IsBegun old mid file taken → is_pcapng taken ≡ true
    → IsRestOf mid new file taken whole → old.left file ≡ Some given → IsTaken new file given whole
taken_all old mid new file taken whole given x begins all h =
    let s = split old mid file taken given x h in
    let r = all s.rest s.left in
    record { same = s.joined ∙ sym r.0; kind = s.kind ∙ begins; left = r.1 }

pub follows_converted : (old new : View) (file : ℕ) (given whole : List ℕ) (g : Given) → g.rest ≡ false → IsTaken new file given whole
    → IsConversion whole g.front.items → Follows new file given g
follows_converted old new file given whole g rest x c =
    record {
      bytes = g.front.items;
      read = read_as given g.front.items true x.kind (subst (λ (w : List ℕ). IsConversion w g.front.items) (sym x.same) c);
      left = ap (λ b. with_front true b g.front.items (new.left file)) rest;
      classic = λ h. absurd (not_both g.rest h rest);
      pcapng = λ _. x.kind;
    }

pub begun_whole : (new : View) (file : ℕ) (given whole capture : List ℕ) → IsTaken new file given whole → IsConversion whole capture → IsBegunAt new file given
begun_whole new file given whole capture x c =
    ([], x.left, begun_by given [] true x.kind (refl, (capture, subst (λ (w : List ℕ). IsConversion w capture) (sym x.same) c)))

cause_of : (f : NgFault) (given whole : List ℕ) → given ≡ whole → IsCause f whole → IsCause f given
cause_of f given whole e x = subst (λ (w : List ℕ). IsCause f w) (sym e) x

pub refused_converted : (old mid new : View) (file : ℕ) (taken whole : List ℕ) (f : NgFault) → IsBegun old mid file taken → is_pcapng taken ≡ true
    → IsRestOf mid new file taken whole → IsCause f whole → IsRefused old new file (conversion_fault f)
refused_converted old mid new file taken whole (ng.At place) x begins all c =
    λ given h. let t = taken_all old mid new file taken whole given x begins all h in (t.kind, cause_of (ng.At place) given whole t.same c)
refused_converted old mid new file taken whole ng.Limit x begins all c =
    λ given h. let t = taken_all old mid new file taken whole given x begins all h in (t.kind, cause_of ng.Limit given whole t.same c)
refused_converted old mid new file taken whole ng.NoMemory x begins all c = tt

limit_cause : (given : List ℕ) → step given start ≡ Limit → IsCause ng.Limit given
limit_cause given h = ([], record { blocks = []; stand = tt; ended = h; packets_are = refl })

pub refused_whole : (old mid new : View) (file : ℕ) (taken : List ℕ) (f : GivenFault)
    → ((bytes : List ℕ) → most_bytes < length bytes → step bytes start ≡ Limit) → IsBegun old mid file taken → is_pcapng taken ≡ true
    → IsCutShort mid new file taken f → IsRefused old new file f
refused_whole old mid new file taken (fault.At place) longer x begins c = absurd c
refused_whole old mid new file taken fault.Limit longer x begins c =
    λ given h.
    let s = split old mid file taken given x h in
    (s.kind ∙ begins, limit_cause given (longer given (subst (λ (l : List ℕ). most_bytes < length l) (sym s.joined) (c s.rest s.left))))
refused_whole old mid new file taken fault.Read longer x begins c =
    λ p at. rose_later (old.read_faults p) (mid.read_faults p) (new.read_faults p) (x.gained.took.keeps.later.read p)
    (c p (x.gained.took.keeps.part file p at))
refused_whole old mid new file taken fault.NoMemory longer x begins c = tt
