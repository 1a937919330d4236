use Rattle.std.proofs.Common.{◌≡◌, ◌∙◌, ℕ, [], refl, ap, sym, subst, arith}
use Rattle.link_clock.specs.Clock.{Clock}
use Rattle.discipline.specs.Laws.{HasRate}
use Rattle.play_core.proofs.HeldLemmas.{held_none}
use Rattle.play_core.proofs.state.Progress.begin.Goals as goal

pub returns-clause-going : goal.returns-clause-going
returns-clause-going g c = λ arrived w d rise few.
    let same : c.new.result.rate ≡ c.args.rate = ap (λ (k : Clock). k.rate) c.new.ensures in
    let R : ℕ → Type 0 = λ k. HasRate (g.D.Discipline.view c.args.discipline.now).link_rate k in
    let none = held_none (g.D.Discipline.view c.args.discipline.now).lists (g.D.Discipline.view c.args.discipline.now).policy.classes
    (λ k. (g.met.D.Discipline.shows c.args.discipline.now [] c.requires.new k).labels) in
    record {
      begun = record { events = tt; in_time = tt };
      rising = rise;
      few = few;
      words = d;
      one_each = omega (arith, d);
      link_is = ap (λ (k : Clock). k.link) c.new.ensures;
      latest_is = refl;
      totals = record { arrived = refl; sent = refl; dropped = refl; last_end = refl };
      rate_is = subst R (sym same) c.requires.rate;
      recorded = [];
      represents = c.requires.new;
      same = refl;
      holds = λ k. tt;
      count = c.in_ok-pool.ensures.count ∙ sym none;
      within = omega (arith, c.room.ensures.within, c.room.ensures.sum);
      room = omega (arith, c.in_ok-pool.ensures.room, c.room.ensures.sum);
    }
