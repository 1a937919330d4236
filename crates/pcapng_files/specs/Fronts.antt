-- What files tell through a wrapper that borrows them.
use Rattle.std.specs.Prelude.{ℕ, Bool, true, false, eqb, List, ◌∷◌, ◌++◌, option_map, Some}
use Rattle.std.specs.declared.option.Option.{Option}
use Rattle.play_base.specs.View.{View}

-- what a file has left: where the front is its, these bytes, and then its own where `rest` holds
abbrev pub with_front : (own rest : Bool) → (front : List ℕ) → Option (List ℕ) → Option (List ℕ)
with_front true true front left = option_map (λ own. front ++ own) left
with_front true false front left = Some front
with_front false rest front left = left

-- what the files tell, but for what this file has left; this reference and this file are fixed
abbrev pub front_view : View → (reference file : ℕ) → (rest : Bool) → (front : List ℕ) → View
front_view v reference file rest front = record {
  tells = v.tells;
  bytes = v.bytes;
  said = v.said;
  part = v.part;
  name = v.name;
  left = λ f. with_front (eqb f file) rest front (v.left f);
  read_faults = v.read_faults;
  write_faults = v.write_faults;
  fixed = reference ∷ file ∷ v.fixed;
}
