use Rattle.std.proofs.Common.{◌≡◌, ℕ, List, [], ◌++◌, map, string_bytes, codes, refl}
use Rattle.std.proofs.lemmas.List.{append-nil}
use Rattle.conf_lines.specs.declared.item.What.{What}
use Rattle.conf_tree.specs.Canonical.{conditioner_line}
use Rattle.conf_tree.specs.Printed.{word_of, rest_of}
use Rattle.conf_tree.proofs.text.push_conditioner.Goals as goal

line : (old new first : List ℕ) (given items said : List What) → new ≡ old ++ (first ++ rest_of (map word_of given)) → given ≡ items → items ≡ said
    → new ≡ old ++ ((first ++ rest_of (map word_of said)) ++ [])
line old new first given items said e p q = rw (e, p, q, append-nil) refl

pub returns : goal.returns
returns c =
    line (string_bytes c.args.out.now) (string_bytes c.push_line.new.out) (codes "conditioner") c.as_slice.result.now c.in_ok-whats.whats.items
    (conditioner_line c.args.interface.now c.args.class.now c.args.rule).whats c.in_ok-push_line.ensures c.as_slice.ensures.value c.in_ok-whats.ensures
