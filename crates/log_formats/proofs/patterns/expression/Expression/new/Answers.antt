use Rattle.std.proofs.Common.{refl, sym}
use Rattle.log_formats.proofs.patterns.expression.Expression.new.Goals as goal

pub returns-in-None-clause-err : goal.returns-in-None-clause-err
returns-in-None-clause-err c = (
  record { regex = c.in_ok-regex.regex; compiled = c.in_ok-regex.ensures.ok; none = sym c.in-None.ensures.value; lacked = c.lacks.ensures; other = c.lacks_besides.ensures },
  refl,
)
