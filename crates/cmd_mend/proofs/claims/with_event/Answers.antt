use Rattle.std.proofs.Common.{Bool, ap, ◌∙◌}
use Rattle.races_text.specs.Judged.Summaries.{summary_with}
use Rattle.cmd_mend.proofs.claims.with_event.Goals as goal

pub returns : goal.returns
returns c =
    let verdict = c.verdict-verdict.result in
    (verdict, c.verdict-verdict.ensures, c.more.ensures ∙ ap (λ (shows : Bool). summary_with c.args.summary.now shows verdict) c.is_luck.ensures)
