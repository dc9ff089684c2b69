use Rattle.std.proofs.Common.{sym, ◌∙◌}
use Rattle.msc_text.proofs.ReaderLemmas.Heads.{skipped}
use Rattle.msc_text.proofs.reader.ahead.add_head.Goals as goal

pub returns-then-not-begins : goal.returns-then-not-begins
returns-then-not-begins c = sym (skipped _ _ (sym c.begins.ensures ∙ c.if-not-begins.true))
