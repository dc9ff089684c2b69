use Rattle.std.proofs.Common.{◌≡◌, subst₂, rules}
use Rattle.std.specs.Prelude.{slice_get}
use Rattle.texts.specs.Outs.{Stored}
use Rattle.mscview_requests.specs.Effects.{Views, stream}
use Rattle.c_commands.specs.Performing.{in_memory}
use Rattle.c_commands.specs.Texts.{given_at}
use Rattle.c_commands.specs.CommandLines.{AreCopied}
use Rattle.c_commands.proofs.command_lines.view_texts.Goals as goal

pub returns : goal.returns
returns c =
    let copied : AreCopied c.view_request-status.new.out.bytes c.view_request-status.new.err.bytes c.args.out.now c.args.err.now
    (record { status = c.view_request-status.result; out = c.copy_out.result; err = c.copy_out-2.result }) c.copy_out.new.out c.copy_out-2.new.out = search rules in (
      c.view_request-status.new.out,
      c.view_request-status.new.err,
      subst₂ (λ (written diagnostics : Stored). Views (λ place file answer. answer ≡ given_at (slice_get c.args.texts.now place)) (stream in_memory written c.view_request-status.new.out) (stream in_memory diagnostics c.view_request-status.new.err) c.args.request.now c.view_request-status.result)
          c.new-written.ensures c.new-diagnostics.ensures c.view_request-status.ensures,
      copied,
    )
