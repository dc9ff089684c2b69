use Rattle.std.proofs.Common.{refl, subst, arith}
use Rattle.regex.specs.Failures.{IsRightKind}
use Rattle.log_formats.specs.Patterns.Expressions.{own_config}
use Rattle.log_formats.proofs.patterns.expression.compiled.Goals as goal

pub overflow_add-result : goal.overflow_add-result
overflow_add-result c = let span = c.in-Err-Syntax.ensures.span c.in-Err-Syntax.error c.in-Err-Syntax.field-0-is in omega (arith, span.1.0)

pub returns-in-Err-Syntax-clause-err : goal.returns-in-Err-Syntax-clause-err
returns-in-Err-Syntax-clause-err c =
    let syntax = c.in-Err-Syntax in
    let span = syntax.ensures.span syntax.error syntax.field-0-is in
    record {
      refused = syntax.ensures.refused syntax.error syntax.field-0-is;
      not_memory = subst (IsRightKind own_config c.args.text.now) syntax.field-0-is syntax.ensures.kind;
      start = syntax.error.span.start;
      boundary = span.1;
      counted = refl;
    }
