-- Blocks that stand one behind another.
use Rattle.std.specs.Prelude.{◌≡◌, ◌≤◌, ◌+◌, ◌%◌, ◌-◌, ◌==◌, ◌||◌, ℕ, Bool, true, false, not, nat_lt, List, [], ◌∷◌, ◌++◌, length, take, drop, if◌then◌else◌, None, Some}
use Rattle.std.specs.declared.option.Option.{Option}
use Rattle.std.proofs.Common.{◌∙◌, refl, ap, sym, subst, arith, append_assoc, append-nil, length-append}
use Rattle.std.proofs.lemmas.Bool.{ltb-false}
use Rattle.capture_model.specs.Capture.{Record}
use Rattle.pcapng_model.specs.Block.{Framed, Whole, Broken, BlockContent, Tells, Refuses, TooMany, framed, framed_by, order_at, told}
use Rattle.pcapng_model.specs.Number.{number}
use Rattle.pcapng_model.specs.Reading.{Place, Block, Step, End, Next, Fault, Limit, step, step_by, step_in, past, past_all, packets, packets_in, Stand, IsLast, Reads}
use Rattle.pcapng_model.specs.declared.fault.NgKind.TheVariants.{ShortBlock, BadBlock}

-- one more block behind those that stand
pub stand_more : (bytes : List ℕ) (p : Place) (bs : List Block) (b : Block) → Stand bytes p bs → step bytes (past_all p bs) ≡ Next b → Stand bytes p (bs ++ b ∷ [])
stand_more bytes p [] b h e = (e, tt)
stand_more bytes p (x ∷ bs) b h e = (h.0, stand_more bytes (past p x) bs b h.1 e)

pub past_more : (p : Place) (bs : List Block) (b : Block) → past_all p (bs ++ b ∷ []) ≡ past (past_all p bs) b
past_more p [] b = refl
past_more p (x ∷ bs) b = past_more (past p x) bs b

pub packets_more : (bs : List Block) (b : Block) → packets (bs ++ b ∷ []) ≡ packets bs ++ packets_in b.found
packets_more [] b = append-nil (packets_in b.found)
packets_more (x ∷ bs) b = ap (λ (rs : List Record). packets_in x.found ++ rs) (packets_more bs b) ∙ sym (append_assoc (packets_in x.found) (packets bs) (packets_in b.found))

-- the tests before a block
step_case : (a b : Bool) (rest : Step) (x : Block) → (if a then End else if b then Limit else rest) ≡ Next x → rest ≡ Next x
step_case true b rest x h = absurd (cc)
step_case false true rest x h = absurd (cc)
step_case false false rest x h = h

-- a whole block stands, and its end is that of what was found
pub record StandsWhole (f : Framed) (b : Block) : Type 0 where
  pub big : Bool
  pub kind : ℕ
  pub body : List ℕ
  pub whole : f ≡ Whole big kind body b.after

abbrev after_of : ℕ → Step → ℕ
after_of other End = other
after_of other (Next b) = b.after
after_of other (Fault f) = other
after_of other Limit = other

told_next : (at after : ℕ) (t : BlockContent) (b : Block) → step_by at after t ≡ Next b → after ≡ b.after
told_next at after (Tells found) b h = ap (after_of at) h
told_next at after (Refuses kind) b h = absurd (cc)
told_next at after TooMany b h = absurd (cc)

whole_next : (p : Place) (f : Framed) (b : Block) → step_in p f ≡ Next b → StandsWhole f b
whole_next p (Broken kind) b h = absurd (cc)
whole_next p (Whole big kind body after) b h =
    let e = told_next p.at after (told big kind body p.interfaces p.count) b h in
    record { big = big; kind = kind; body = body; whole = ap (Whole big kind body) e }

-- a whole block has at least 12 bytes
abbrev end_of : ℕ → Framed → ℕ
end_of other (Whole big kind body after) = after
end_of other (Broken kind) = other

whole_case : (a b : Bool) (f : Framed) (big : Bool) (k : ℕ) (body : List ℕ) (n : ℕ)
    → (if a then Broken ShortBlock else if b then Broken BadBlock else f) ≡ Whole big k body n → (a ≡ false) × (b ≡ false) × (f ≡ Whole big k body n)
whole_case true b f big k body n h = absurd (cc)
whole_case false true f big k body n h = absurd (cc)
whole_case false false f big k body n h = (refl, refl, h)

first_false : (a b c : Bool) → (a || b || c) ≡ false → a ≡ false
first_false true b c h = h
first_false false b c h = refl

whole_long : (order : Option Bool) (bytes : List ℕ) (at : ℕ) (big : Bool) (k : ℕ) (body : List ℕ) (n : ℕ)
    → framed_by order bytes at ≡ Whole big k body n → (at + 12 ≤ n) × (n ≤ length bytes)
whole_long None bytes at big k body n h = absurd (cc)
whole_long (Some own) bytes at big k body n h =
    let total = number own 4 bytes (at + 4) in
    let tests = whole_case (nat_lt (length bytes) (at + total)) (nat_lt total 12 || not (total % 4 == 0) || not (number own 4 bytes (at + total - 4) == total))
    (Whole own (number own 4 bytes at) (take (total - 12) (drop (at + 8) bytes)) (at + total)) big k body n h in
    let least = ltb-false total 12 (first_false (nat_lt total 12) (not (total % 4 == 0)) (not (number own 4 bytes (at + total - 4) == total)) tests.1) in
    let room = ltb-false (length bytes) (at + total) tests.0 in
    let same : at + total ≡ n = ap (end_of at) tests.2 in
    (omega (arith, least, same), omega (arith, room, same))

short_case : (a : Bool) (f : Framed) (big : Bool) (k : ℕ) (body : List ℕ) (n : ℕ) → (if a then Broken ShortBlock else f) ≡ Whole big k body n → f ≡ Whole big k body n
short_case true f big k body n h = absurd (cc)
short_case false f big k body n h = h

-- a block that was read ends behind its place, and within the file
pub next_place : (bytes : List ℕ) (p : Place) (b : Block) → step bytes p ≡ Next b → (p.at + 12 ≤ b.after) × (b.after ≤ length bytes)
next_place bytes p b h =
    let f = framed p.big bytes p.at in
    let w = whole_next p f b (step_case _ _ (step_in p f) b h) in
    whole_long (order_at p.big bytes p.at) bytes p.at w.big w.kind w.body b.after (short_case (nat_lt (length bytes) (p.at + 12)) _ w.big w.kind w.body b.after w.whole)

abbrev block_of : Block → Step → Block
block_of other End = other
block_of other (Next b) = b
block_of other (Fault f) = other
block_of other Limit = other

no_next : (last : Step) (b : Block) → IsLast last → last ≡ Next b → ⊥
no_next last b h e = subst IsLast e h

-- blocks that stand are a front of all that stand
stand_front : (bytes : List ℕ) (p : Place) (xs ys : List Block) (last : Step) → Stand bytes p xs → Stand bytes p ys
    → step bytes (past_all p ys) ≡ last → IsLast last → (rest : List Block) × (ys ≡ xs ++ rest)
stand_front bytes p [] ys last a b e h = (ys, refl)
stand_front bytes p (x ∷ xs) [] last a b e h = absurd (no_next last x h (sym e ∙ a.0))
stand_front bytes p (x ∷ xs) (y ∷ ys) last a b e h =
    let same : y ≡ x = ap (block_of y) (sym b.0 ∙ a.0) in
    let rest = stand_front bytes (past p x) xs ys last a.1 (subst (λ (z : Block). Stand bytes (past p z) ys) same b.1)
    (ap (λ (z : Block). step bytes (past_all (past p z) ys)) (sym same) ∙ e) h in
    (rest.0, ap (λ (z : Block). z ∷ ys) same ∙ ap (λ (zs : List Block). x ∷ zs) rest.1)

empty : (bs : List Block) → length bs ≡ 0 → bs ≡ []
empty [] h = refl
empty (b ∷ bs) h = absurd (omega (arith, h))

-- bytes have at most one reading
pub one_reading : (bytes : List ℕ) (xs ys : List Record) (p q : Step) → Reads bytes xs p → IsLast p → Reads bytes ys q → IsLast q → (xs ≡ ys) × (p ≡ q)
one_reading bytes xs ys p q a hp b hq =
    let front = stand_front bytes _ a.blocks b.blocks q a.stand b.stand b.ended hq in
    let back = stand_front bytes _ b.blocks a.blocks p b.stand a.stand a.ended hp in
    let none : front.0 ≡ [] = empty front.0
    (omega (arith, ap length front.1, length-append a.blocks front.0, ap length back.1, length-append b.blocks back.0)) in
    let same : a.blocks ≡ b.blocks = sym (front.1 ∙ ap (λ (bs : List Block). a.blocks ++ bs) none ∙ append-nil a.blocks) in
    (sym a.packets_are ∙ ap packets same ∙ b.packets_are, sym a.ended ∙ ap (λ (bs : List Block). step bytes (past_all (record { big = false; interfaces = []; count = 0; at = 0 }) bs)) same ∙ b.ended)
