use Rattle.std.proofs.Common.{List, length, refl, ap, ◌∙◌, subst}
use Rattle.chart.specs.declared.event.Event.{Event}
use Rattle.cmd_page.specs.Answers.Answering.{plus}
use Rattle.cmd_page.specs.Races.{title_text, HasAnswers}
use Rattle.cmd_page.proofs.races.race_of.Goals as goal

pub returns : goal.returns
returns c =
    let names = c.args.names.now in
    let of = c.args.race.now in
    let answers = c.in_ok-answers.answers in
    record {
      receive = refl;
      first = refl;
      last = c.last_of.ensures;
      marks = c.in_ok-marks.ensures;
      line = c.in_ok-line.ensures ∙ ap (λ (l : List Event). title_text names l of) c.line_of-events.ensures;
      answers = subst (λ (l : List Event). HasAnswers c.args.is_explained c.args.file.bytes.now names l of (plus (length c.in_ok-marks.marks.before.items) (length c.in_ok-marks.marks.also.items)) answers) c.line_of-events.ensures
          (subst (λ n. HasAnswers c.args.is_explained c.args.file.bytes.now names c.line_of-events.result.now of n answers) c.above_rows-above.ensures c.in_ok-answers.ensures);
    }
