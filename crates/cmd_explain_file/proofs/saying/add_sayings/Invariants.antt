use Rattle.std.proofs.Common.{take}
use Rattle.std.specs.List.{flat_map}
use Rattle.cmd_explain_file.proofs.saying.add_sayings.Given as goal
use Rattle.cmd_explain_file.specs.Sayings.{saying_text, IsFrom}
use Rattle.texts.specs.Writing.{Buffers}

-- the parts so far were added, and the rest is the part of the file from the line on
abbrev pub invariant-loop-saying : goal.invariant-loop-saying
invariant-loop-saying g l = record {
  added : Buffers g.W.Out.sink l.initial.text l.text (flat_map (saying_text l.file) (take l.saying-index l.sayings));
  from : IsFrom l.file l.line l.rest;
}
