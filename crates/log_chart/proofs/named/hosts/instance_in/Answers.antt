use Rattle.std.proofs.Common.{[], ◌∷◌, length, sym, ap, ◌∙◌, arith}
use Rattle.std.proofs.lemmas.List.{length-append}
use Rattle.log_chart.proofs.NamedLemmas.FaultLemmas.{err_is}
use Rattle.log_chart.proofs.NamedLemmas.WordLemmas.{there, not_contained, absent}
use Rattle.log_chart.proofs.named.hosts.instance_in.Goals as goal

pub returns-in-Some-clause-instance : goal.returns-in-Some-clause-instance
returns-in-Some-clause-instance c = (there c.args.names.now c.args.name c.in-Some.instance (sym c.instance.ensures ∙ c.in-Some.is)).0

pub returns-in-Some-clause-kept : goal.returns-in-Some-clause-kept
returns-in-Some-clause-kept c = (there c.args.names.now c.args.name c.in-Some.instance (sym c.instance.ensures ∙ c.in-Some.is)).1

pub returns-clause-instance : goal.returns-clause-instance
returns-clause-instance c = c.in_ok-added.ensures.ok.0 ∙ (absent c.args.names.now c.args.name (sym c.instance.ensures ∙ c.in_default.is)).0

pub returns-clause-kept : goal.returns-clause-kept
returns-clause-kept c = c.in_ok-added.ensures.ok.1 ∙ (absent c.args.names.now c.args.name (sym c.instance.ensures ∙ c.in_default.is)).1

pub returns-in_err-added-clause-new : goal.returns-in_err-added-clause-new
returns-in_err-added-clause-new c = λ e.
    not_contained c.args.names.now c.args.name (sym c.instance.ensures ∙ c.in_default.is)
    (c.in_err-added.ensures.duplicate.0 (sym (err_is c.from_residual.result c.in_err-added.field-0.0 c.from_residual.ensures.1) ∙ e))

pub returns-in_err-added-clause-full : goal.returns-in_err-added-clause-full
returns-in_err-added-clause-full c = λ e.
    let full = c.in_err-added.ensures.instances.0 (sym (err_is c.from_residual.result c.in_err-added.field-0.0 c.from_residual.ensures.1) ∙ e) in
    let added = ap length (absent c.args.names.now c.args.name (sym c.instance.ensures ∙ c.in_default.is)).1 in
    let longer = length-append c.args.names.now (c.args.name ∷ []) in
    omega (arith, full.1, added, longer)
