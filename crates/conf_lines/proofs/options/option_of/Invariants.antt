use Rattle.std.proofs.Common.{◌≡◌, drop, find}
use Rattle.conf_lines.specs.Options.{word_of_key, options_of, option_of}
use Rattle.conf_lines.specs.Slots.{is_text}
use Rattle.conf_lines.proofs.options.option_of.Given as goal

abbrev pub invariant-loop-key : goal.invariant-loop-key
invariant-loop-key l = find (λ key. is_text (word_of_key key) l.word) (drop l.key-index (options_of l.fn.form)) ≡ option_of l.fn.form l.word
