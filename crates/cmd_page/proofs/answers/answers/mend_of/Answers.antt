use Rattle.std.proofs.Common.{refl, subst}
use Rattle.cmd_base.specs.declared.pairs.pair.Asked.{Asked}
use Rattle.cmd_page.specs.Answers.Leaving.{IsMend}
use Rattle.cmd_page.proofs.answers.answers.mend_of.Goals as goal

pub returns : goal.returns
returns c =
    let bytes = c.args.subject.now.bytes.now in
    record {
      left = c.in_ok-left.left;
      is = subst (λ (asked : Asked). IsMend bytes asked c.in_ok-left.left) c.about_last-asked.ensures (c.in_ok-left.ensures bytes c.requires);
      text = c.into_bytes.ensures;
      head = refl;
      earlier = refl;
      receive = refl;
    }
