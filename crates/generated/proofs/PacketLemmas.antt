-- The capture of the packets reads, and grows by a record at a time.
use Rattle.std.proofs.Common.{◌≡◌, ◌≤◌, ◌<◌, ◌∙◌, ◌⊎◌, ℕ, zero, suc, ◌+◌, ◌-◌, ◌*◌, ◌%◌, ◌^◌, List, [], ◌∷◌, ◌++◌, length, take, drop, refl, sym, ap, subst, arith, inl, inr, append_assoc, length-append}
use Rattle.std.proofs.lemmas.List.{append-nil}
use Rattle.std.proofs.lemmas.List.Elements.{All-nil, All-cons, All-append}
use Rattle.std.specs.Prelude.{max, All, IsSome}
use Rattle.capture_model.specs.Capture.{Record, longest, most_records, most_bytes, IsCapture}
use Rattle.capture_model.specs.Header.{capture_header}
use Rattle.capture_model.specs.Written.{record_text, record_texts, written, FitsCapture, AreWithin}
use Rattle.pcap_files.proofs.WritingLemmas.{reads_written}
use Rattle.generated.specs.Packets.{first_word, second_word, moment, len_by, frame_by, packet, packets, generated_capture, most_packets}
use Rattle.generated.specs.Generating.{Continues, WroteFrontOf, WroteMore, StoppedIn}
use Rattle.play_base.specs.View.{View, Wrote, WroteFront}
use Rattle.play_base.proofs.ViewLaws.{wrote_more_there, wrote_nothing}

pub moment_early : (seed made : ℕ) → moment seed made ≤ 200000 * made
moment_early seed zero = omega arith
moment_early seed (suc made) =
    let h = moment_early seed made in
    let r : first_word seed made % 200000 < 200000 = omega arith in
    omega (arith, h, r)

captured_length : (a b : ℕ) → length (frame_by a b) ≡ 42
captured_length a b = refl

packet_within : (seed made : ℕ) → made < most_packets → FitsCapture (packet seed made)
packet_within seed made h =
    let early = moment_early seed (suc made) in
    let r : second_word seed made % 1437 < 1437 = omega arith in
    record {
      stamp = omega (arith, h, early);
      captured = omega arith;
      original = omega (arith, r);
      some = omega arith;
    }

pub packets_length : (seed count : ℕ) → length (packets seed count) ≡ count
packets_length seed zero = refl
packets_length seed (suc made) = length-append (packets seed made) (packet seed made ∷ []) ∙ omega (arith, packets_length seed made)

texts_more : (xs : List Record) (r : Record) → record_texts (xs ++ r ∷ []) ≡ record_texts xs ++ record_text r
texts_more [] r = append-nil (record_text r)
texts_more (x ∷ xs) r = ap (λ (t : List ℕ). record_text x ++ t) (texts_more xs r) ∙ sym (append_assoc (record_text x) (record_texts xs) (record_text r))

-- one packet more
pub capture_more : (seed made : ℕ) → generated_capture seed made ++ record_text (packet seed made) ≡ generated_capture seed (suc made)
capture_more seed made =
    append_assoc capture_header (record_texts (packets seed made)) (record_text (packet seed made))
    ∙ ap (λ (t : List ℕ). capture_header ++ t) (sym (texts_more (packets seed made) (packet seed made)))

pub capture_length : (seed count : ℕ) → length (generated_capture seed count) ≡ 24 + 58 * count
capture_length seed zero = refl
capture_length seed (suc made) =
    ap length (sym (capture_more seed made)) ∙ length-append (generated_capture seed made) (record_text (packet seed made))
    ∙ omega (arith, capture_length seed made)

all_within : (seed count : ℕ) → count ≤ most_packets → All FitsCapture (packets seed count)
all_within seed zero h = All-nil FitsCapture
all_within seed (suc made) h =
    All-append FitsCapture (packets seed made) (packet seed made ∷ []) (all_within seed made (omega (arith, h)))
    (All-cons FitsCapture (packet seed made) [] (packet_within seed made (omega (arith, h))) (All-nil FitsCapture))

pub generated_reads : (seed count : ℕ) → count ≤ most_packets → IsCapture (generated_capture seed count) (packets seed count)
generated_reads seed count h = reads_written (packets seed count) (record {
  each = all_within seed count h;
  count = omega (arith, packets_length seed count, h);
  size = omega (arith, capture_length seed count, h);
})

-- bytes that stand behind others
pub continues_none : (seed made : ℕ) → Continues seed made [] made
continues_none seed made = append-nil (generated_capture seed made)

pub continues_more : (seed made more : ℕ) (bytes : List ℕ) → Continues seed made bytes more
    → Continues seed made (bytes ++ record_text (packet seed more)) (suc more)
continues_more seed made more bytes h =
    sym (append_assoc (generated_capture seed made) bytes (record_text (packet seed more)))
    ∙ ap (λ (t : List ℕ). t ++ record_text (packet seed more)) h ∙ capture_more seed more

-- the capture of more packets begins with that of the first
pub capture_from : (seed made more : ℕ) → (rest : List ℕ) × Continues seed made rest (made + more)
capture_from seed made zero =
    let e : made ≡ made + 0 = omega arith in
    ([], subst (Continues seed made []) e (continues_none seed made))
capture_from seed made (suc more) =
    let x = capture_from seed made more in
    let e : suc (made + more) ≡ made + suc more = omega arith in (
      x.0 ++ record_text (packet seed (made + more)),
      subst (Continues seed made (x.0 ++ record_text (packet seed (made + more)))) e (continues_more seed made (made + more) x.0 x.1),
    )

-- pieces one after another
pub piece_wrote : (u v w : View) (file seed made more : ℕ) → IsSome (u.part file) → Wrote u v file (generated_capture seed made)
    → WroteMore v w file seed made more → Wrote u w file (generated_capture seed more)
piece_wrote u v w file seed made more there x y =
    let P : List ℕ → Type 0 = λ t. Wrote u w file t in
    subst P y.behind (wrote_more_there u v w file (generated_capture seed made) y.bytes there x y.wrote)

pub piece_stopped : (u v w : View) (file seed made more count : ℕ) → IsSome (u.part file) → Wrote u v file (generated_capture seed made)
    → StoppedIn v w file seed made more → more ≤ count → WroteFrontOf u w file (generated_capture seed count)
piece_stopped u v w file seed made more count there x y l =
    let z = capture_from seed more (count - more) in
    let e : more + (count - more) ≡ count = omega (arith, l) in
    record {
      front = generated_capture seed made ++ y.front;
      rest = y.rest ++ z.0;
      wrote = wrote_more_there u v w file (generated_capture seed made) y.front there x y.wrote;
      split = sym (append_assoc (generated_capture seed made ++ y.front) y.rest z.0)
          ∙ ap (λ (t : List ℕ). t ++ z.0) (append_assoc (generated_capture seed made) y.front y.rest ∙ y.behind)
          ∙ z.1 ∙ ap (generated_capture seed) e;
    }

take_rest : (k : ℕ) (xs : List ℕ) → take k xs ++ drop k xs ≡ xs
take_rest zero xs = refl
take_rest (suc k) [] = refl
take_rest (suc k) (x ∷ xs) = ap (λ (r : List ℕ). x ∷ r) (take_rest k xs)

pub front_stopped : (v w : View) (file seed made more : ℕ) (bytes : List ℕ) → Continues seed made bytes more → WroteFront v w file bytes
    → StoppedIn v w file seed made more
front_stopped v w file seed made more bytes h x = record {
  front = take x.0 bytes;
  rest = drop x.0 bytes;
  wrote = x.1;
  behind = ap (λ (t : List ℕ). generated_capture seed made ++ t) (take_rest x.0 bytes) ∙ h;
}

-- nothing was written yet
pub none_in : (v : View) (file seed made more : ℕ) → StoppedIn v v file seed made (made + more)
none_in v file seed made more =
    let x = capture_from seed made more in
    record { front = []; rest = x.0; wrote = wrote_nothing v file; behind = x.1 }

-- the first piece is that of no packets
pub none_stopped : (v w : View) (file seed count : ℕ) (bytes : List ℕ) → bytes ≡ generated_capture seed 0 → WroteFront v w file bytes
    → WroteFrontOf v w file (generated_capture seed count)
none_stopped v w file seed count bytes is x =
    let z = capture_from seed 0 count in
    let e : 0 + count ≡ count = omega arith in
    record {
      front = take x.0 bytes;
      rest = drop x.0 bytes ++ z.0;
      wrote = x.1;
      split = sym (append_assoc (take x.0 bytes) (drop x.0 bytes) z.0)
          ∙ ap (λ (t : List ℕ). t ++ z.0) (take_rest x.0 bytes ∙ is) ∙ z.1 ∙ ap (generated_capture seed) e;
    }

-- the generator stands where the pieces do
pub stopped_same : (v w : View) (file s t a b m : ℕ) → s ≡ t → a ≡ b → StoppedIn v w file s a (a + m) → StoppedIn v w file t b (b + m)
stopped_same v w file s t a b m e f x =
    let P : ℕ → Type 0 = λ y. StoppedIn v w file y a (a + m) in
    let Q : ℕ → Type 0 = λ y. StoppedIn v w file t y (y + m) in
    subst Q f (subst P e x)

pub wrote_same : (v w : View) (file s t a b m : ℕ) → s ≡ t → a ≡ b → WroteMore v w file s a (a + m) → WroteMore v w file t b (b + m)
wrote_same v w file s t a b m e f x =
    let P : ℕ → Type 0 = λ y. WroteMore v w file y a (a + m) in
    let Q : ℕ → Type 0 = λ y. WroteMore v w file t y (y + m) in
    subst Q f (subst P e x)

-- a piece begins empty, and grows by a record at a time
pub continues_at : (seed made : ℕ) (bytes : List ℕ) → bytes ≡ [] → Continues seed made bytes (made + 0)
continues_at seed made bytes is =
    let e : made ≡ made + 0 = omega arith in
    let P : ℕ → Type 0 = λ k. Continues seed made bytes k in
    let Q : List ℕ → Type 0 = λ t. Continues seed made t made in
    subst P e (subst Q (sym is) (continues_none seed made))

pub continues_by : (seed made added s m : ℕ) (bytes new : List ℕ) (r : Record) → new ≡ bytes ++ record_text r → r ≡ packet s m → s ≡ seed → m ≡ made + added
    → Continues seed made bytes (made + added) → Continues seed made new (made + (added + 1))
continues_by seed made added s m bytes new r grown is se me h =
    let e : suc (made + added) ≡ made + (added + 1) = omega arith in
    let same : r ≡ packet seed (made + added) = is ∙ ap (λ (x : ℕ). packet x m) se ∙ ap (packet seed) me in
    let P : ℕ → Type 0 = λ k. Continues seed made new k in
    let Q : List ℕ → Type 0 = λ t. Continues seed made t (suc (made + added)) in
    subst P e (subst Q (sym (grown ∙ ap (λ (x : Record). bytes ++ record_text x) same)) (continues_more seed made (made + added) bytes h))
