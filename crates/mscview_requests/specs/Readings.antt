-- The options of a command, as read from the words of its command line.
use Rattle.std.specs.Prelude.{List, map, Option}
use Rattle.std.specs.Global.{Vec}
use Rattle.diagram_import.specs.Importing as diagrams
use Rattle.diagram_import.specs.declared.skipping.Skip.{Skip}
use Rattle.cmd_import_log.specs.Options as logs
use Rattle.mscview_requests.specs.Words.Hosts.{peer_word_view}
use Rattle.mscview_requests.specs.Words.Joins.{join_word_view}
use Rattle.diagram_tool.specs.declared.Tool.{Tool}
use Rattle.mscview_requests.specs.declared.importing.Read.{Read}
use Rattle.mscview_requests.specs.declared.log_words.LogWords.{LogWords}

abbrev pub skips_of : Vec Skip → List Skip
skips_of skips = skips.items

-- how a text is read
abbrev pub read_view : Read → Option Tool × diagrams.OptionsView
read_view read = (read.tool, record { skipped = read.skipped.items; joins = map join_word_view read.joined.items; is_strict = read.is_strict })

-- how a log is read
abbrev pub log_words_view : LogWords → logs.OptionsView
log_words_view words = record {
  form = logs.form_view words.form;
  range = words.range;
  hosts = map (λ w. w.now) words.hosts.items;
  peers = map peer_word_view words.peers.items;
}
