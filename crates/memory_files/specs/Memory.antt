-- What files in memory mean: the names with their bytes, and the list of the files opened so far, in which a file's
-- number is its place.
use Rattle.std.specs.Prelude.{◌≡◌, ◌≢◌, ◌++◌, ◌∷◌, ℕ, List, [], option_map, string_bytes, slice_get, slice_index, true, None, Some, drop}
use Rattle.std.specs.Option.{option_map_or}
use Rattle.std.specs.declared.option.Option.{Option}
use Rattle.std.specs.declared.alloc.Global.{Global}
use Rattle.std.specs.BTreeMap.{BTreeMap, get_by_text}
use Rattle.std.specs.Prelude.{Vec, String}
use Rattle.play_base.specs.View.{View}
use Rattle.memory_files.specs.declared.memory.MemoryFiles.{MemoryFiles}
use Rattle.memory_files.specs.declared.opened.OpenedFile.{OpenedFile}

-- the bytes under a name
abbrev pub bytes_under : BTreeMap (String Global) (Vec ℕ Global) → List ℕ → Option (List ℕ)
bytes_under names n = option_map (λ v. v.items) (get_by_text names n)

-- the part, the name and the bytes left of the file at a place
abbrev pub part_at : List OpenedFile → ℕ → Option ℕ
part_at opened f = option_map (λ o. o.part) (slice_get opened f)

abbrev pub name_at : List OpenedFile → ℕ → List ℕ
name_at opened f = option_map_or (λ o. string_bytes o.name) (slice_get opened f) []

abbrev pub left_at : List OpenedFile → ℕ → Option (List ℕ)
left_at opened f = option_map (λ o. drop o.place o.bytes.items) (slice_get opened f)

abbrev pub memory_view : MemoryFiles → View
memory_view m = record {
  tells = true;
  bytes = bytes_under m.names;
  said = m.said.items;
  part = part_at m.opened.items;
  name = name_at m.opened.items;
  left = left_at m.opened.items;
  read_faults = slice_index m.read_faults;
  write_faults = slice_index m.write_faults;
  fixed = [];
}

-- every file of the old list is in the new one as it was
abbrev pub AreThere : List OpenedFile → List OpenedFile → Type 0
AreThere old new = (f p : ℕ) → part_at old f ≡ Some p
    → (part_at new f ≡ part_at old f) × (name_at new f ≡ name_at old f) × (left_at new f ≡ left_at old f)

-- the list with one more file, of this number, part, name and bytes left
pub record Added (old new : List OpenedFile) (file part_given : ℕ) (name_given bytes_given : List ℕ) : Type 0 where
  pub fresh : part_at old file ≡ None
  pub part : part_at new file ≡ Some part_given
  pub name : name_at new file ≡ name_given
  pub left : left_at new file ≡ Some bytes_given
  pub others : AreThere old new
  pub none : (f : ℕ) → f ≢ file → part_at old f ≡ None → part_at new f ≡ None
  pub last : (o : OpenedFile) × (new ≡ old ++ o ∷ [])

-- a file that gave these bytes from the front of what it has left
pub record Advanced (old new : OpenedFile) (given : List ℕ) : Type 0 where
  pub part : new.part ≡ old.part
  pub name : string_bytes new.name ≡ string_bytes old.name
  pub left : drop old.place old.bytes.items ≡ given ++ drop new.place new.bytes.items
