use Rattle.std.proofs.Common.{List, ◌-◌, ◌++◌, sym, ap, ◌∙◌, subst, arith}
use Rattle.std.proofs.lemmas.List.{append-nil}
use Rattle.chart.specs.Ranges.{events_of}
use Rattle.chart.specs.declared.instance.EventNo.{EventNo}
use Rattle.online_races.specs.Passing.{HasFound}
use Rattle.online_races.proofs.races_up_to.Goals as goal

pub loop-races-init : goal.loop-races-init
loop-races-init c = record {
  found = λ end has. subst (HasFound c.args.line.now.line end (c.args.last.first.index - 1) c.args.entry c.args.sender c.args.region) (sym (c.in_ok-put_before.ensures.ok ∙ ap (λ (rest : List EventNo). events_of c.args.last ++ rest) c.new-found.ensures ∙ append-nil (events_of c.args.last))) has;
  within = omega (arith, c.requires.within);
}

pub last_races-requires : goal.last_races-requires
last_races-requires c = c.loop-races.invariant.within

pub loop-races-preserved : goal.loop-races-preserved
loop-races-preserved c = record {
  found = λ end has. rw (c.in_ok-put_before-2.ensures.ok) (c.in-Some.ensures.found end c.loop-races.found (c.loop-races.invariant.found end has));
  within = omega (arith, c.in-Some.ensures.within, c.loop-races.invariant.within);
}

pub returns-clause-races : goal.returns-clause-races
returns-clause-races c = λ end has. rw (c.finish.ensures) (c.in_default.ensures.found end c.loop-races.found (c.loop-races.invariant.found end has))

pub returns-clause-own : goal.returns-clause-own
returns-clause-own c = λ end has. rw (c.finish.ensures) ((c.loop-races.invariant.found end has).own)
