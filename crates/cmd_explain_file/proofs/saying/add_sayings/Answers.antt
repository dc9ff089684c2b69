use Rattle.std.proofs.Common.{◌≡◌, ℕ, List, ap, ap₂, ◌∙◌, subst}
use Rattle.cmd_explain_file.proofs.saying.add_sayings.Goals as goal
use Rattle.cmd_explain_file.specs.Findings.{line_of}
use Rattle.cmd_explain_file.specs.Sayings.{text_by_line, shown_line, saying_text}
use Rattle.fault_places.specs.Standings.{first_or}
use Rattle.texts.specs.Writing.{Buffers, Stops}
use Rattle.texts.proofs.Writes.{buffers_more_read, adds_in_read}

pub loop-saying-preserved : goal.loop-saying-preserved
loop-saying-preserved g c =
    let item = c.saying-item.result in
    let line : c.line_from.result.now ≡ line_of c.args.file.now (shown_line item) =
    c.line_from.ensures ∙ ap₂ first_or c.text_from-rest.ensures.1 c.text_from-rest.ensures.0 ∙ ap (line_of c.args.file.now) c.shown_line-wanted.ensures in
    record {
      added =
          buffers_more_read (saying_text c.args.file.now) c.args.sayings.now c.loop-saying.saying-index _ c.loop-saying-test.true c.saying-item.is c.loop-saying.invariant.added
          (subst (λ (l : List ℕ). Buffers g.W.Out.sink c.loop-saying.text c.add_saying.new.text (text_by_line l item)) line c.in_ok-add_saying.ensures);
      from = c.text_from-rest.ensures;
    }

pub returns-in_err-add_saying : goal.returns-in_err-add_saying
returns-in_err-add_saying g c =
    let item = c.saying-item.result in
    let line : c.line_from.result.now ≡ line_of c.args.file.now (shown_line item) =
    c.line_from.ensures ∙ ap₂ first_or c.text_from-rest.ensures.1 c.text_from-rest.ensures.0 ∙ ap (line_of c.args.file.now) c.shown_line-wanted.ensures in
    adds_in_read (saying_text c.args.file.now) c.from_residual.result c.args.sayings.now c.loop-saying.saying-index _ c.from_residual.ensures.0 c.loop-saying-test.true c.saying-item.is c.loop-saying.invariant.added
    (subst (λ (l : List ℕ). Stops g.W.Out.sink c.loop-saying.text c.add_saying.new.text (text_by_line l item)) line c.in_err-add_saying.ensures)
