use Rattle.std.proofs.Common.{refl, ap, ◌∙◌}
use Rattle.cmd_page.specs.Answers.Answering.{plus}
use Rattle.cmd_page.proofs.answers.answers.why_of.Goals as goal

pub returns : goal.returns
returns c = record {
  left = c.in_ok-left.left;
  is = c.in_ok-left.ensures c.args.subject.now.bytes.now c.requires;
  text = c.in_ok-text.ensures;
  head = refl;
  earlier = c.saturating_add.ensures ∙ ap (plus c.args.subject.now.above) c.from.ensures;
  receive = c.saturating_add-2.ensures ∙ ap (plus c.args.subject.now.above) c.from-2.ensures;
}
