use Rattle.std.proofs.Common.{◌≡◌, ◌-◌, take, drop}
use Rattle.fault_places.specs.Standings.{line_at}
use Rattle.fault_places.specs.declared.want.Want.TheVariants.{Msc}
use Rattle.fault_places.proofs.lines.standing_at.Given as goal
use Rattle.texts.specs.Lines.{lines_of, end_of}

abbrev pub invariant-lines : goal.invariant-lines
invariant-lines l = record {
  want : line_at l.want (take l.left (lines_of l.rest)) ≡ line_at Msc (take (l.number - 1) (lines_of l.text));
  lines : drop l.left (lines_of l.rest) ≡ drop (l.number - 1) (lines_of l.text);
  end : end_of l.rest ≡ end_of l.text;
}

abbrev pub decreases-lines : goal.decreases-lines
decreases-lines l = l.left
