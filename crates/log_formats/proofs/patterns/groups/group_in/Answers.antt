use Rattle.std.proofs.Common.{◌∙◌, ap, ◌+◌, option_map}
use Rattle.std.proofs.lemmas.List.{take_rest}
use Rattle.log_formats.specs.Patterns.Groups.{named_at, group_in}
use Rattle.log_formats.proofs.PatternsLemmas.GroupLemmas.{group_placed}
use Rattle.log_formats.proofs.patterns.groups.group_in.Goals as goal

pub returns-in-Some-clause-value : goal.returns-in-Some-clause-value
returns-in-Some-clause-value c =
    ap (option_map (λ n. n + 1)) (c.in-Some.ensures.value ∙ ap (named_at c.args.name.now) (take_rest c.capture_names.result.now 1))
    ∙ group_placed c.args.name.now c.capture_names.result.now c.in-len1-up.len_at_least
    ∙ ap (λ names. group_in names c.args.name.now) c.capture_names.ensures

pub returns-in-None-clause-value : goal.returns-in-None-clause-value
returns-in-None-clause-value c =
    ap (option_map (λ n. n + 1)) (c.in-None.ensures.value ∙ ap (named_at c.args.name.now) (take_rest c.capture_names.result.now 1))
    ∙ group_placed c.args.name.now c.capture_names.result.now c.in-len1-up.len_at_least
    ∙ ap (λ names. group_in names c.args.name.now) c.capture_names.ensures
