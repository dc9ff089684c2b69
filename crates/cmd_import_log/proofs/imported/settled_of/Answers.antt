use Rattle.std.proofs.Common.{length, sym, ap, ◌∙◌, subst}
use Rattle.log_chart.proofs.CyclesLemmas.SettleLemmas.{settled_streams}
use Rattle.log_lines.specs.Names.Naming.{named_view}
use Rattle.log_chart.specs.Entries.{HaveStreams}
use Rattle.cmd_import_log.proofs.ImportedLemmas.{written_back, built_as, whole_as, up_to_as}
use Rattle.cmd_import_log.proofs.RefusalLemmas.{among_as}
use Rattle.cmd_import_log.proofs.imported.settled_of.Goals as goal

pub refusal-requires : goal.refusal-requires
refusal-requires c = among_as c.in_ok-names.field-0.names c.len.result c.deref_mut.result.now c.build.new.log c.in-Err.error c.len.ensures.value c.in-Err.ensures.refused

pub returns-clause-settled : goal.returns-clause-settled
returns-clause-settled c =
    let entries = c.in_ok-names.field-0.entries in
    built_as c.args.beside (named_view c.args.named.now) c.in_ok-names.field-0.names c.len.result c.deref_mut.result.now c.build.new.log c.in-Ok.built c.in_ok-imported.imported c.len.ensures.value
    c.in-Ok.ensures.built c.in_ok-imported.ensures.diagnostics c.in_ok-imported.ensures.chart _ (written_back entries.items c.build.new.log entries.len entries.ok.0 (c.build.auto.log ∙ ap length c.deref_mut.ensures.value))
    c.in_ok-names.ensures.names (c.deref_mut.ensures.value ∙ c.in_ok-names.ensures.entries) c.in_ok-names.ensures.faultless c.in-Ok.ensures.settled c.in-Ok.ensures.short c.in-Ok.ensures.possible

pub returns-clause-streams : goal.returns-clause-streams
returns-clause-streams c =
    let entries = c.in_ok-names.field-0.entries in
    let old : HaveStreams c.deref_mut.result.now = subst HaveStreams (sym c.deref_mut.ensures.value) c.in_ok-names.ensures.streams in
    subst HaveStreams (sym (written_back entries.items c.build.new.log entries.len entries.ok.0 (c.build.auto.log ∙ ap length c.deref_mut.ensures.value)))
    (settled_streams c.deref_mut.result.now c.build.new.log c.in-Ok.ensures.settled old)

pub returns-clause-named : goal.returns-clause-named
returns-clause-named c =
    whole_as c.args.beside (named_view c.args.named.now) c.in_ok-names.field-0.names c.len.result c.deref_mut.result.now c.build.new.log c.in-Ok.built c.in_ok-imported.imported c.len.ensures.value
    c.in-Ok.ensures.built c.in_ok-imported.ensures.diagnostics c.in_ok-imported.ensures.chart

pub returns-clause-invented : goal.returns-clause-invented
returns-clause-invented c =
    up_to_as c.args.beside (named_view c.args.named.now) c.in_ok-names.field-0.names c.len.result c.deref_mut.result.now c.build.new.log c.in-Ok.built c.in_ok-imported.imported c.len.ensures.value
    c.in-Ok.ensures.built c.in_ok-imported.ensures.diagnostics c.in_ok-imported.ensures.chart
