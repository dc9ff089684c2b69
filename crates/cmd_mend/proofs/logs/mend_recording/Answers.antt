use Rattle.cmd_mend.proofs.logs.mend_recording.Goals as goal

pub returns : goal.returns
returns g c = (
  c.print_claims.new.err,
  c.args.luck.reports.items,
  c.args.luck.is_unclaimed,
  c.mend_all_luck-status.result,
  c.print_claims.ensures,
  c.requires.luck,
  c.requires.claims,
  c.mend_all_luck-status.ensures,
  c.known_status.ensures,
)
