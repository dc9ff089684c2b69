use Rattle.std.proofs.Common.{refl, map, ap, ◌∙◌}
use Rattle.log_lines.specs.Events.{logged_event_view}
use Rattle.log_lines.specs.Names.Naming.{named_view, named}
use Rattle.log_lines.specs.Takes.Observations.{observations_view}
use Rattle.cmd_import_log.specs.Options.{options_view}
use Rattle.cmd_import_log.specs.Reading.{log_view}
use Rattle.cmd_import_log.proofs.KeptLemmas.{records_keep, records_numbered, records_possible}
use Rattle.cmd_import_log.proofs.RecordingLemmas.{records_as}
use Rattle.std.proofs.lemmas.Result.{err_from_is_err_and}
use Rattle.cmd_import_log.proofs.recording.recording_in.Goals as goal

pub returns-in_err-observed-clause-records : goal.returns-in_err-observed-clause-records
returns-in_err-observed-clause-records c =
    let p = err_from_is_err_and c.from_residual-in_err-observed.result c.from_residual-in_err-observed.ensures.1 in
    rw (p.1, p.2) (tt {0})

pub returns : goal.returns
returns c =
    let o = options_view c.args.options in
    let texts = map (λ text. text.now) c.args.texts.now in
    let records =
    records_as o texts (log_view c.in_ok-read.field-0) c.in_ok-read.ensures.ok (observations_view c.in_ok-observed.observed) c.in_ok-observed.ensures c.recording_of.result _
    (named_view c.in_ok-named.named) _ refl (c.in_ok-named.ensures ∙ ap (λ l. named o.hosts o.peers (map logged_event_view l)) c.deref.ensures.value) (ap (map logged_event_view) c.deref-2.ensures.value)
    c.recording_of.ensures.records in
    record {
      records = records;
      named = c.recording_of.ensures.named;
      invented = c.recording_of.ensures.invented;
      possible = records_possible o texts c.recording_of.result records;
      keeps = records_keep o texts c.recording_of.result records;
      numbered = records_numbered o texts c.recording_of.result records;
    }
