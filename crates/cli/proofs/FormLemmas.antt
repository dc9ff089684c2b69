-- The forms of command lines, computed by `clap`'s definitions.
use Rattle.std.proofs.Common.{refl}
use Rattle.clap.proofs.OnLiterals.{clap_on_literals}
use Rattle.cli.specs.Forms.{FormLaw, MistakeLaw}
use Rattle.cli.specs.Reading.{command_in}
use Rattle.cli.specs.Requests.{request_of}

pub forms : FormLaw
unfolding clap_on_literals request_of command_in
forms name file word = (refl, refl, refl, refl)

pub mistakes : MistakeLaw
unfolding clap_on_literals request_of command_in
mistakes name file word second = (refl, refl, refl, refl, refl, refl, refl)
