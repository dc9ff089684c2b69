use Rattle.chart.proofs.Scans.{length-scan, scan-only, scan-has}
use Rattle.mailbox.proofs.laws.scan_law.Goals as goal

pub returns : goal.returns
returns c n p l least most le = (length-scan n p l least most le, λ q. (scan-only n p l q le, scan-has n p l q))
