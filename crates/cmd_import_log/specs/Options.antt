-- How a log is read.
use Rattle.std.specs.Prelude.{ℕ, List, map}
use Rattle.log_lines.specs.declared.range.LineRange.{LineRange}
use Rattle.log_lines.specs.Names.Hosts.{PeerView, peer_view}
use Rattle.cmd_import_log.specs.declared.options.Form.{Form}
use Rattle.cmd_import_log.specs.declared.options.Form.TheVariants as forms
use Rattle.cmd_import_log.specs.declared.options.Options.{Options}

-- in plain words, by an expression, or as in logs for ShiViz
pub data FormView : Type 0 where
  Plain : FormView
  Pattern : List ℕ → FormView
  ShiViz : FormView

abbrev pub form_view : Form → FormView
form_view forms.Plain = Plain
form_view (forms.Pattern text) = Pattern text.now
form_view forms.ShiViz = ShiViz

-- the form of the lines, the range that is read, the first hosts, and the hosts with other words
pub record OptionsView : Type 0 where
  pub form : FormView
  pub range : LineRange
  pub hosts : List (List ℕ)
  pub peers : List PeerView

abbrev pub options_view : Options → OptionsView
options_view o = record {
  form = form_view o.form;
  range = o.range;
  hosts = map (λ w. w.now) o.hosts.now;
  peers = map peer_view o.peers.now;
}
