use Rattle.std.proofs.Common.{List, ℕ, Ok, Err, subst₂}
use Rattle.std.proofs.lemmas.Result.{err_from_is_err_and}
use Rattle.chart.specs.Charts.{LineView}
use Rattle.cmd_base.proofs.TextLemmas.{not_read, not_replayed, was_done}
use Rattle.cmd_base.specs.NotDone.{IsNoted}
use Rattle.cmd_base.specs.Texts.{named_of}
use Rattle.cmd_base.specs.declared.pairs.error.PairError.TheVariants.{Program}
use Rattle.cmd_explain_race.specs.Explaining.{Explains}
use Rattle.cmd_explain_race.specs.declared.verdict.Explained.{Explained}
use Rattle.cmd_explain_race.proofs.file_pairs.why_text.Goals as goal

pub returns-in_err-text : goal.returns-in_err-text
returns-in_err-text g c =
    let p = err_from_is_err_and c.from_residual.result c.from_residual.ensures.1 in
    rw (p.1, p.2) (not_read Program (IsNoted (λ (explained : Explained). explained.verdict) (λ explained. explained.not_done) (λ source done. Explains g.W.Out.sink c.args.out.now c.args.out.now done (named_of source) c.args.asked.now)) c.args.out.now c.args.bytes.now c.in_err-text.field-0.0 c.in_err-text.ensures)

pub returns-in_err-source : goal.returns-in_err-source
returns-in_err-source g c =
    let p = err_from_is_err_and c.from_residual-in_err-source.result c.from_residual-in_err-source.ensures.1 in
    rw (p.1, p.2) (not_replayed Program (IsNoted (λ (explained : Explained). explained.verdict) (λ explained. explained.not_done) (λ source done. Explains g.W.Out.sink c.args.out.now c.args.out.now done (named_of source) c.args.asked.now)) c.args.out.now c.args.bytes.now c.in_err-source.field-0.0 c.in_err-source.ensures.memory)

pub returns-in_err-verdict : goal.returns-in_err-verdict
returns-in_err-verdict g c =
    let p = err_from_is_err_and c.from_residual-in_err-verdict.result c.from_residual-in_err-verdict.ensures.1 in
    let error = c.in_err-verdict.field-0.0 in
    rw (p.1, p.2) (was_done Program (IsNoted (λ (explained : Explained). explained.verdict) (λ explained. explained.not_done) (λ source done. Explains g.W.Out.sink c.args.out.now c.why_in.new.out done (named_of source) c.args.asked.now)) c.args.out.now c.args.bytes.now c.why_in.new.out c.in_ok-text.text c.in_ok-source.source (Err error) c.in_ok-text.ensures c.in_ok-source.ensures.source
    (subst₂ (λ (ns : List (List ℕ)) (ls : List LineView). Explains g.W.Out.sink c.args.out.now c.why_in.new.out (Err error) (ns, ls) c.args.asked.now) c.names.ensures c.chart.ensures.value c.in_err-verdict.ensures))

pub returns : goal.returns
returns g c =
    let verdict = c.in_ok-verdict.verdict in
    was_done Program (IsNoted (λ (explained : Explained). explained.verdict) (λ explained. explained.not_done) (λ source done. Explains g.W.Out.sink c.args.out.now c.why_in.new.out done (named_of source) c.args.asked.now)) c.args.out.now c.args.bytes.now c.why_in.new.out c.in_ok-text.text c.in_ok-source.source (Ok (record { verdict = verdict; not_done = c.not_done.result })) c.in_ok-text.ensures c.in_ok-source.ensures.source
    (subst₂ (λ (ns : List (List ℕ)) (ls : List LineView). Explains g.W.Out.sink c.args.out.now c.why_in.new.out (Ok verdict) (ns, ls) c.args.asked.now) c.names.ensures c.chart.ensures.value c.in_ok-verdict.ensures, c.not_done.ensures)
