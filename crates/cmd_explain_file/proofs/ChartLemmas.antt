-- The verdict on the text of a possible chart.
use Rattle.std.proofs.Common.{◌≡◌, ℕ, List}
use Rattle.std.specs.Prelude.{Result, Ok, Err, IfOk}
use Rattle.cmd_explain_file.specs.Verdicts.{IsOfLines, IsOfWhole, IsOfChart}
use Rattle.cmd_explain_file.specs.declared.verdict.Verdict.{Verdict}
use Rattle.cmd_explain_file.specs.declared.verdict.Verdict.TheVariants.{Read, Ran, Built, NotBuilt, Behind, Refused, NoSend, OtherName, Cyclic}
use Rattle.cmd_base.specs.Contents.{Named, chart_part}
use Rattle.cmd_base.specs.declared.error.ProgramError.{ProgramError}
use Rattle.msc_text.specs.Reader.Reading.{chart_of}

-- the whole text decides
pub whole_chart : (text : List ℕ) (named : Named) (result : Result Verdict ProgramError) → chart_of (chart_part text) ≡ Ok named → IsOfLines text named Read → IfOk result (IsOfWhole text) → IfOk result (IsOfChart text)
whole_chart text named (Ok Read) e l h = (named, e, l, h)
whole_chart text named (Ok (Behind fault)) e l h = (named, e, l, h)
whole_chart text named (Ok (Ran notes)) e l h = absurd h
whole_chart text named (Ok (Built left_out overtaking)) e l h = absurd h
whole_chart text named (Ok (NotBuilt why)) e l h = absurd h
whole_chart text named (Ok (Refused fault)) e l h = absurd h
whole_chart text named (Ok (NoSend receive)) e l h = absurd h
whole_chart text named (Ok (OtherName receive)) e l h = absurd h
whole_chart text named (Ok (Cyclic steps)) e l h = absurd h
whole_chart text named (Err error) e l h = h
