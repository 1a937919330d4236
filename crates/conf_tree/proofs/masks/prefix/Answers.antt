use Rattle.std.proofs.Common.{◌≡◌, ℕ, ◌+◌, ◌-◌, ◌<◌, ◌++◌, List, [], ◌∷◌, min, length, get_or, set, take, drop, ◌∙◌, ap, add-one, arith}
use Rattle.std.proofs.lemmas.List.{append_assoc, append-nil, length-set, take_more_set, take_all}
use Rattle.std.proofs.Math.Seq.{drop-cons}
use Rattle.std.proofs.Math.ListN.{drop_of_length-le}
use Rattle.conf_tree.specs.Masks.{upper, prefix}
use Rattle.conf_tree.proofs.masks.prefix.Goals as goal

prefix_more : (address masked all : List ℕ) (i left v : ℕ) → i < length masked → i < length address → v ≡ upper (min left 8) (get_or address i 0)
    → take i masked ++ prefix left (drop i address) ≡ all → take (i + 1) (set masked i v) ++ prefix (left - 8) (drop (i + 1) address) ≡ all
prefix_more address masked all i left v h k e done =
    let front = take_more_set masked i v h in
    let rest : drop i address ≡ get_or address i 0 ∷ drop (i + 1) address = rw add-one (drop-cons address i 0 k) in
    rw (front, e, append_assoc) (rw rest at done)

pub loop-i-preserved : goal.loop-i-preserved
loop-i-preserved c = record {
  sized = length-set c.loop-i.masked c.loop-i.i c.upper.result ∙ c.loop-i.invariant.sized;
  done = rw c.saturating_sub-left.ensures (prefix_more c.args.address.now c.loop-i.masked (prefix c.args.bits c.args.address.now) c.loop-i.i c.loop-i.left c.upper.result
      (omega (arith, c.loop-i.invariant.sized)) (omega (arith, c.told-address))
      (c.upper.ensures ∙ ap (λ n. upper n (get_or c.args.address.now c.loop-i.i 0)) c.min.ensures) c.loop-i.invariant.done);
}

pub returns : goal.returns
returns c =
    let all : take c.loop-i.i c.loop-i.masked ≡ c.loop-i.masked = take_all c.loop-i.i c.loop-i.masked (omega (arith, c.loop-i.invariant.sized)) in
    let none : drop c.loop-i.i c.args.address.now ≡ [] = drop_of_length-le c.args.address.now (omega (arith, c.told-address)) in
    rw (all, none, append-nil) at c.loop-i.invariant.done
