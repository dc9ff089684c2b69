-- The number of files that a command line reads (this project's profile).
use Rattle.std.specs.Prelude.{ℕ, length, max}
use Rattle.cli.specs.declared.view.request.Request.{Request}
use Rattle.cli.specs.declared.view.request.Request.TheVariants as requests

-- standard input counts as one, if no file is named
abbrev pub at_least_one : ℕ → ℕ
at_least_one many = max many 1

-- how many files a request reads; standard input counts as one
abbrev pub files_read : Request → ℕ
files_read (requests.Pair pair) = 1
files_read (requests.Draw draw) = 1
files_read (requests.DrawWitness draw) = 1
files_read (requests.Page file) = 1
files_read (requests.ToolPage wanted) = 1
files_read (requests.LogPage log) = at_least_one (length log.files.items)
files_read (requests.Export wanted) = 1
files_read (requests.Import wanted) = 1
files_read (requests.ImportLog log) = at_least_one (length log.files.items)
files_read (requests.Compare wanted) = 2
files_read (requests.Races asked) = 1
files_read (requests.LogRaces asked) = at_least_one (length asked.log.files.items)
files_read (requests.Mend wanted) = 1
files_read (requests.ToolQuestion wanted) = 1
files_read (requests.LogQuestion wanted) = at_least_one (length wanted.log.files.items)
files_read (requests.MendLuck wanted) = at_least_one (length wanted.log.files.items)
files_read (requests.Tidy file) = 1
files_read (requests.Explain file) = 1
