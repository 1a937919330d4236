-- Files in memory tell what each of them has left: a lemma that their impls of `Files` cite, and so of specs/.
use Rattle.std.proofs.Common.{◌≡◌, ℕ, List, refl}
use Rattle.std.specs.Prelude.{IsSome, Some, None, option_map, slice_get, drop}
use Rattle.std.specs.declared.option.Option.{Option}
use Rattle.memory_files.specs.Memory.{left_at, part_at}
use Rattle.memory_files.specs.declared.opened.OpenedFile.{OpenedFile}

by_slot : (o : Option OpenedFile) (part : ℕ) → option_map (λ (x : OpenedFile). x.part) o ≡ Some part
    → IsSome (option_map (λ (x : OpenedFile). drop x.place x.bytes.items) o)
by_slot None part h = absurd (cc)
by_slot (Some x) part h = refl

pub told_at : (opened : List OpenedFile) (file part : ℕ) → part_at opened file ≡ Some part → IsSome (left_at opened file)
told_at opened file part h = by_slot (slice_get opened file) part h
