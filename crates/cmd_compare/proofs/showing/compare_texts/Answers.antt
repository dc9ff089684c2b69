use Rattle.cmd_base.proofs.TextLemmas.{was_done}
use Rattle.cmd_base.specs.Texts.{OfFile, named_of}
use Rattle.cmd_compare.specs.declared.error.CompareError.TheVariants.{Program}
use Rattle.cmd_compare.specs.Comparisons.{Compares}
use Rattle.cmd_compare.proofs.showing.compare_texts.Goals as goal

pub returns : goal.returns
returns g c =
    let source = c.in_ok-source.source in
    let old = c.args.out.now in
    let new = c.compare_second.new.out in
    was_done Program (λ a done. OfFile Program (λ b found. Compares g.W.Out.sink old new c.args.form (named_of a) (named_of b) found) old new c.args.second.now done) old c.args.first.now new c.in_ok-text.text source c.compare_second.result c.in_ok-text.ensures c.in_ok-source.ensures.source c.compare_second.ensures
