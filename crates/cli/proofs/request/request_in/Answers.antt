use Rattle.std.proofs.Common.{◌≡◌, ◌∙◌, None, Some, ap, option_and_then, sym}
use Rattle.clap.specs.Words.{found_of, rows_of, subcommand_rows_of}
use Rattle.cli.specs.Requests.{wish_by}
use Rattle.cli.proofs.ReadingLemmas.{named, named_of}
use Rattle.cli.proofs.request.request_in.Goals as goal

pub returns-in-Some : goal.returns-in-Some
returns-in-Some c =
    let found = named c.args.matches.now c.subcommand.result c.subcommand.ensures.name c.subcommand.ensures.rows in
    let here : Some (c.in-Some.command.now, rows_of (found_of c.in-Some.words.now)) ≡ subcommand_rows_of c.args.matches.now = sym (ap named_of c.in-Some.is) ∙ found in
    c.request_of.ensures ∙ ap (option_and_then wish_by) here

pub returns-in-None : goal.returns-in-None
returns-in-None c =
    let found = named c.args.matches.now c.subcommand.result c.subcommand.ensures.name c.subcommand.ensures.rows in
    let here : None ≡ subcommand_rows_of c.args.matches.now = sym (ap named_of c.in-None.is) ∙ found in
    ap (option_and_then wish_by) here
