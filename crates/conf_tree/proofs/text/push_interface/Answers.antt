use Rattle.std.proofs.Common.{◌≡◌, ◌∷◌, ◌++◌, [], List, ℕ, string_bytes, append_assoc, refl}
use Rattle.conf_tree.specs.Canonical.{interface_line, class_lines, filter_lines, conditioner_lines, written_classes}
use Rattle.conf_tree.specs.Printed.{TextLine, printed}
use Rattle.conf_tree.proofs.PrintedLines.{printed-append}
use Rattle.conf_tree.proofs.text.push_interface.Goals as goal

four : (old a b c d : List ℕ) (first : TextLine) (classes filters conditioners : List TextLine) → a ≡ old ++ printed (first ∷ []) → b ≡ a ++ printed classes
    → c ≡ b ++ printed filters → d ≡ c ++ printed conditioners → d ≡ old ++ printed (first ∷ (classes ++ (filters ++ conditioners)))
four old a b c d first classes filters conditioners p q r s =
    rw (s, r, q, p, printed-append (first ∷ []) (classes ++ (filters ++ conditioners)), printed-append classes (filters ++ conditioners), printed-append filters conditioners)
    (simp append_assoc refl)

pub returns : goal.returns
returns c =
    let i = c.args.interface.now in
    four (string_bytes c.args.out.now) (string_bytes c.push_first.new.out) (string_bytes c.push_classes.new.out) (string_bytes c.push_filters.new.out)
    (string_bytes c.push_conditioners.new.out) (interface_line i) (class_lines i.kind i.name i.classes (written_classes i)) (filter_lines i.name i.classes i.filters)
    (conditioner_lines i.name (written_classes i))
    c.in_ok-push_first.ensures
    (rw (c.as_str-name.ensures, c.as_slice-all.ensures, c.written_classes-written.ensures) at c.in_ok-push_classes.ensures)
    (rw (c.as_str-name.ensures, c.as_slice-all.ensures, c.as_slice.ensures) at c.in_ok-push_filters.ensures)
    (rw (c.as_str-name.ensures, c.written_classes-written.ensures) at c.in_ok-push_conditioners.ensures)
