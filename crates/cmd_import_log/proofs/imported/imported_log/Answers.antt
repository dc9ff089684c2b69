use Rattle.std.proofs.Common.{refl, map, ap, ◌∙◌}
use Rattle.log_lines.specs.Events.{logged_event_view}
use Rattle.log_lines.specs.Names.Naming.{named_view, named}
use Rattle.cmd_import_log.specs.Options.{options_view}
use Rattle.cmd_import_log.specs.Reading.{log_view}
use Rattle.cmd_import_log.proofs.ReadingLemmas.{reads_as}
use Rattle.cmd_import_log.proofs.imported.imported_log.Goals as goal

pub returns-clause-reads : goal.returns-clause-reads
returns-clause-reads c =
    let o = options_view c.args.options in
    reads_as o (map (λ text. text.now) c.args.texts.now) (log_view c.in_ok-read.field-0) c.in_ok-read.ensures.ok c.imported_of.result _ (named_view c.in_ok-named.named) refl
    (c.in_ok-named.ensures ∙ ap (λ l. named o.hosts o.peers (map logged_event_view l)) c.deref.ensures.value) c.imported_of.ensures.reads
