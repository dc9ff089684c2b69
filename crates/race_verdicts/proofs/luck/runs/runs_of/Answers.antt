use Rattle.std.proofs.Common.{◌≡◌, ◌+◌, ◌-◌, ◌<◌, ◌∙◌, length, refl, ap, subst, arith, Some}
use Rattle.std.proofs.lemmas.List.{length-set}
use Rattle.race_verdicts.specs.Luck.Runs.{HaveRuns}
use Rattle.race_verdicts.proofs.LuckLemmas.RunLemmas.{runs_none, runs_more}
use Rattle.race_verdicts.proofs.LuckLemmas.TableLemmas.{none_whole}
use Rattle.race_verdicts.proofs.luck.runs.runs_of.Goals as goal

pub items-init : goal.items-init
items-init c =
    let items = c.args.items.now in
    record { within = omega arith; whole = none_whole (length items) _ c.in_ok-runs.ensures; have = runs_none items _ (length items) refl }

pub run_at-run-requires-clause-later : goal.run_at-run-requires-clause-later
run_at-run-requires-clause-later c =
    let n = c.items.place - 1 in
    let back : c.items.place ≡ n + 1 = omega arith in
    subst (HaveRuns c.args.items.now c.items.runs) back c.items.invariant.have

pub items-preserved : goal.items-preserved
items-preserved c =
    let items = c.args.items.now in
    let old = c.items.runs in
    let n = c.items.place - 1 in
    let back : c.items.place ≡ n + 1 = omega arith in
    let whole = c.items.invariant.whole in
    let high = c.items.invariant.within in
    let less : n < length old = omega (arith, whole, high) in
    record {
      within = omega (arith, high);
      whole = ap length c.set.ensures ∙ length-set old n (Some c.run_at-run.result) ∙ whole;
      have = runs_more items old c.set.new.self n c.run_at-run.result less c.set.ensures (subst (HaveRuns items old) back c.items.invariant.have) c.run_at-run.ensures;
    }

pub returns : goal.returns
returns c = let none : c.items.place ≡ 0 = omega arith in subst (HaveRuns c.args.items.now c.items.runs) none c.items.invariant.have
