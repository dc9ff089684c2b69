use Rattle.std.proofs.Common.{sym, ap, ◌∙◌}
use Rattle.shown_races.specs.Kept.{is_kept_after}
use Rattle.races_text.proofs.NamedLemmas.StretchLemmas.{later_shown, first_shown}
use Rattle.races_text.proofs.named.stretches.shown_first.Goals as goal

pub returns-then-not-only-clause-shown : goal.returns-then-not-only-clause-shown
returns-then-not-only-clause-shown c = λ k less. later_shown c.args.events.now c.args.passed c.args.range.now c.args.only c.if-not-only.true c.requires.first k

pub returns-then-not-is_kept-clause-some : goal.returns-then-not-is_kept-clause-some
returns-then-not-is_kept-clause-some c =
    first_shown c.args.events.now c.args.passed c.args.range.now c.args.only c.loop-number.number c.requires.first
    (ap (is_kept_after c.args.events.now c.args.only c.args.passed) (sym c.event.ensures) ∙ sym c.is_kept.ensures ∙ c.if-not-is_kept.true)
