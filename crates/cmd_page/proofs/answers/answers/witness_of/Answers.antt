use Rattle.std.proofs.Common.{refl, ap, ◌∙◌}
use Rattle.cmd_page.specs.Answers.Standing.{row_in}
use Rattle.cmd_page.proofs.answers.answers.witness_of.Goals as goal

pub returns : goal.returns
returns c =
    let of = c.args.subject.now in
    record {
      left = c.in_ok-left.left;
      is = c.in_ok-left.ensures of.bytes.now c.requires;
      text = c.in_ok-text.ensures;
      head = refl;
      earlier = c.in_ok-earlier.ensures ∙ ap (row_in of.names.now of.instance of.events.now of.earlier) (c.as_slice.ensures.value ∙ c.in_ok-text.ensures);
      receive = c.in_ok-receive.ensures ∙ ap (row_in of.names.now of.instance of.events.now of.receive) (c.as_slice-2.ensures.value ∙ c.in_ok-text.ensures);
    }
