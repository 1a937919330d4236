-- A buffer in which a frame was replaced by one of its length.
use Rattle.std.proofs.Common.{◌≡◌, ◌≤◌, ◌+◌, ◌-◌, ◌∙◌, ap, ℕ, List, ◌++◌, length, take, drop, arith, sym, append_assoc, length-append, length-take, length-drop}
use Rattle.std.proofs.lemmas.List.{drop-append-le, drop-drop, drop-take, drop_at, take-append-drop, take-take, take_at}

-- the buffer with that frame
abbrev pub replaced : (xs ys : List ℕ) → (start captured : ℕ) → List ℕ
replaced xs ys start captured = take start xs ++ (ys ++ drop (start + captured) xs)

two_parts : (zs : List ℕ) (p q : ℕ) → take (p + q) zs ≡ take p zs ++ take q (drop p zs)
two_parts zs p q =
    sym (take-append-drop p (take (p + q) zs)) ∙ ap (λ (l : List ℕ). l ++ drop p (take (p + q) zs)) (take-take p (p + q) zs (omega arith))
    ∙ ap (λ (l : List ℕ). take p zs ++ l) (drop-take p q zs)

-- a window's buffer: its bytes, and where those that are ready, those that are pending and those of no use begin
pub record Buffer : Type 0 where
  pub items : List ℕ
  pub from : ℕ
  pub middle : ℕ
  pub to : ℕ

-- the bytes that are pending begin with a record of `captured` bytes
pub record BeginsRecord (b : Buffer) (captured : ℕ) : Type 0 where
  pub before : b.from ≤ b.middle
  pub within : b.middle + 16 + captured ≤ b.to
  pub fits : b.to ≤ length b.items

-- the bytes that are ready, those that are pending, and the frame of the record that they begin with
abbrev pub ready_of : Buffer → List ℕ
ready_of b = take (b.middle - b.from) (drop b.from b.items)

abbrev pub pending_of : Buffer → List ℕ
pending_of b = take (b.to - b.middle) (drop b.middle b.items)

abbrev pub frame_of : Buffer → (captured : ℕ) → List ℕ
frame_of b captured = take captured (drop (b.middle + 16) b.items)

-- what is ready once the record's frame is these bytes
replaced_ready : (b : Buffer) (ys : List ℕ) (captured : ℕ) → BeginsRecord b captured → length ys ≡ captured
    → take (b.middle + 16 + captured - b.from) (drop b.from (replaced b.items ys (b.middle + 16) captured)) ≡ ready_of b ++ (take 16 (pending_of b) ++ ys)
replaced_ready b ys captured s long =
    let front = take (b.middle + 16) b.items in
    let behind = drop (b.middle + 16 + captured) b.items in
    let held = drop b.from front in
    let p = b.middle - b.from in
    let one : drop b.from (front ++ (ys ++ behind)) ≡ held ++ (ys ++ behind) = drop-append-le b.from front (ys ++ behind) (omega (arith, length-take (b.middle + 16) b.items)) in
    let two : take (b.middle + 16 + captured - b.from) ((held ++ ys) ++ behind) ≡ held ++ ys =
    take_at (held ++ ys) behind (b.middle + 16 + captured - b.from) (omega (arith, length-append held ys, length-drop b.from front, length-take (b.middle + 16) b.items)) in
    let three : held ≡ take (p + 16) (drop b.from b.items) =
    ap (λ (n : ℕ). drop b.from (take n b.items)) (omega arith) ∙ drop-take b.from (p + 16) b.items in
    let next : drop p (drop b.from b.items) ≡ drop b.middle b.items = drop-drop p b.from b.items ∙ ap (λ (n : ℕ). drop n b.items) (omega arith) in
    let head : take 16 (drop b.middle b.items) ≡ take 16 (take (b.to - b.middle) (drop b.middle b.items)) = sym (take-take 16 (b.to - b.middle) (drop b.middle b.items) (omega arith)) in
    ap (take (b.middle + 16 + captured - b.from)) (one ∙ sym (append_assoc held ys behind)) ∙ two
    ∙ ap (λ (l : List ℕ). l ++ ys) (three ∙ two_parts (drop b.from b.items) p 16 ∙ ap (λ (l : List ℕ). take p (drop b.from b.items) ++ take 16 l) next)
    ∙ append_assoc (take p (drop b.from b.items)) (take 16 (drop b.middle b.items)) ys
    ∙ ap (λ (l : List ℕ). take p (drop b.from b.items) ++ (l ++ ys)) head

-- and what is pending behind it
replaced_pending : (b : Buffer) (ys : List ℕ) (captured : ℕ) → BeginsRecord b captured → length ys ≡ captured
    → take (b.to - (b.middle + 16 + captured)) (drop (b.middle + 16 + captured) (replaced b.items ys (b.middle + 16) captured))
    ≡ drop (16 + captured) (pending_of b)
replaced_pending b ys captured s long =
    let front = take (b.middle + 16) b.items in
    let e = b.middle + 16 + captured in
    let behind = drop e b.items in
    let one : drop e ((front ++ ys) ++ behind) ≡ behind = drop_at (front ++ ys) behind e (omega (arith, length-append front ys, length-take (b.middle + 16) b.items)) in
    let two : drop (16 + captured) (take ((16 + captured) + (b.to - e)) (drop b.middle b.items)) ≡ take (b.to - e) (drop (16 + captured) (drop b.middle b.items)) =
    drop-take (16 + captured) (b.to - e) (drop b.middle b.items) in
    let three : drop (16 + captured) (drop b.middle b.items) ≡ behind = drop-drop (16 + captured) b.middle b.items ∙ ap (λ (n : ℕ). drop n b.items) (omega arith) in
    ap (λ (l : List ℕ). take (b.to - e) (drop e l)) (sym (append_assoc front ys behind)) ∙ ap (take (b.to - e)) (one ∙ sym three) ∙ sym two
    ∙ ap (λ (n : ℕ). drop (16 + captured) (take n (drop b.middle b.items))) (omega arith)

frame_here : (b : Buffer) (captured : ℕ) → BeginsRecord b captured → frame_of b captured ≡ take captured (drop 16 (pending_of b))
frame_here b captured s =
    let n = b.to - (b.middle + 16) in
    let split : b.to - b.middle ≡ 16 + n = omega (arith, s.within) in
    let inner : drop 16 (pending_of b) ≡ take n (drop (b.middle + 16) b.items) =
    ap (λ (k : ℕ). drop 16 (take k (drop b.middle b.items))) split ∙ drop-take 16 n (drop b.middle b.items)
    ∙ ap (take n) (drop-drop 16 b.middle b.items ∙ ap (λ (k : ℕ). drop k b.items) (omega arith)) in
    sym (ap (take captured) inner ∙ take-take captured n (drop (b.middle + 16) b.items) (omega (arith, s.within)))

-- the buffer as it is written back
written_back : (xs now : List ℕ) (len : ℕ) → len ≡ length now → take len (now ++ drop (length now) xs) ≡ now
written_back xs now len h = take_at now (drop (length now) xs) len (sym h)

-- the record's frame was replaced in its place, and the buffer of `len` bytes written back
pub record IsMarked (f : List ℕ → List ℕ) (b : Buffer) (captured : ℕ) (now : List ℕ) (len : ℕ) : Type 0 where
  pub begins : BeginsRecord b captured
  pub keeps : (l : List ℕ) → length (f l) ≡ length l
  pub is : now ≡ replaced b.items (f (frame_of b captured)) (b.middle + 16) captured
  pub long : len ≡ length now

long_frame : (f : List ℕ → List ℕ) (b : Buffer) (captured : ℕ) (now : List ℕ) (len : ℕ) → IsMarked f b captured now len → length (f (frame_of b captured)) ≡ captured
long_frame f b captured now len m =
    m.keeps (frame_of b captured)
    ∙ omega (arith, m.begins.within, m.begins.fits, length-take captured (drop (b.middle + 16) b.items), length-drop (b.middle + 16) b.items)

-- what is ready then
pub marked_ready : (f : List ℕ → List ℕ) (b : Buffer) (captured : ℕ) (now : List ℕ) (len : ℕ) → IsMarked f b captured now len
    → take (b.middle + 16 + captured - b.from) (drop b.from (take len (now ++ drop (length now) b.items)))
    ≡ ready_of b ++ (take 16 (pending_of b) ++ f (take captured (drop 16 (pending_of b))))
marked_ready f b captured now len m =
    let s = m.begins in
    ap (λ (l : List ℕ). take (b.middle + 16 + captured - b.from) (drop b.from l)) (written_back b.items now len m.long ∙ m.is)
    ∙ replaced_ready b (f (frame_of b captured)) captured s (long_frame f b captured now len m)
    ∙ ap (λ (l : List ℕ). ready_of b ++ (take 16 (pending_of b) ++ f l)) (frame_here b captured s)

-- and what is pending
pub marked_pending : (f : List ℕ → List ℕ) (b : Buffer) (captured : ℕ) (now : List ℕ) (len : ℕ) → IsMarked f b captured now len
    → take (b.to - (b.middle + 16 + captured)) (drop (b.middle + 16 + captured) (take len (now ++ drop (length now) b.items)))
    ≡ drop (16 + captured) (pending_of b)
marked_pending f b captured now len m =
    let s = m.begins in
    ap (λ (l : List ℕ). take (b.to - (b.middle + 16 + captured)) (drop (b.middle + 16 + captured) l)) (written_back b.items now len m.long ∙ m.is)
    ∙ replaced_pending b (f (frame_of b captured)) captured s (long_frame f b captured now len m)

-- no byte is lost
pub length-record : (ready xs frame : List ℕ) (captured : ℕ) → 16 + captured ≤ length xs → length frame ≡ captured
    → length (ready ++ (take 16 xs ++ frame)) + length (drop (16 + captured) xs) ≡ length ready + length xs
length-record ready xs frame captured fits long =
    omega (
      arith,
      fits,
      long,
      length-append ready (take 16 xs ++ frame),
      length-append (take 16 xs) frame,
      length-take 16 xs,
      length-drop (16 + captured) xs,
    )
