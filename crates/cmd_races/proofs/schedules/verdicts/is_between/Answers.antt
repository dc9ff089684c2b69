use Rattle.std.proofs.Common.{◌≡◌, inl, inr, ◌-◌, sym, subst, ◌∙◌, arith}
use Rattle.std.proofs.lemmas.Bool.{cases_lt, false≢true}
use Rattle.cmd_races.proofs.SchedulesLemmas.BehindLemmas.{IsFrom, not_between}
use Rattle.cmd_races.proofs.schedules.verdicts.is_between.Goals as goal

pub returns-then-index-earlier : goal.returns-then-index-earlier
returns-then-index-earlier c =
    let low = c.if-index-earlier.true in
    not_between c.args.events.now c.args.sender c.args.earlier c.args.later c.loop-index.index c.loop-index.invariant.none (omega arith)

pub loop-index-preserved : goal.loop-index-preserved
loop-index-preserved c =
    let index = c.loop-index.index in
    let high = c.loop-index-test.true in
    record {
      within = let w = c.loop-index.invariant.within in omega arith;
      none = λ i low less its. elim (cases_lt i index) [
        | inl before ↦
            let same : i ≡ index - 1 = omega (arith, low, before, high) in
            false≢true (sym c.if-is_from.false ∙ c.is_from.ensures.1 (subst (IsFrom c.args.events.now c.args.sender) same its))
        | inr after ↦ c.loop-index.invariant.none i after less its
      ];
    }

pub returns : goal.returns
returns c =
    let low = c.loop-index-test.false in
    not_between c.args.events.now c.args.sender c.args.earlier c.args.later c.loop-index.index c.loop-index.invariant.none (omega arith)
