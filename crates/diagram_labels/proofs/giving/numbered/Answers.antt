use Rattle.std.proofs.Common.{◌≡◌, ◌∷◌, [], ◌∙◌, ◌-◌, ap, refl, rules, arith, length, take, decimal}
use Rattle.std.proofs.lemmas.List.{append_assoc}
use Rattle.chart.specs.Names.{name_of}
use Rattle.chart.specs.declared.name.TheConstants.{MAX_NAME}
use Rattle.diagram_labels.specs.Giving.{numbered, suffix}
use Rattle.diagram_labels.proofs.Kept.{name_is_word}
use Rattle.diagram_labels.proofs.Numbered.{numbered_is_name}
use Rattle.diagram_labels.proofs.giving.numbered.Goals as goal

pub unwrap-requires : goal.unwrap-requires
unfolding numbered
unwrap-requires c =
    let word = c.args.word.now in
    let digits : c.as_bytes-digits.result.now ≡ decimal c.args.number = search rules in
    let room : 31 - length c.as_bytes-digits.result.now ≡ MAX_NAME - length (suffix c.args.number) = rw digits (omega arith) in
    let cut : c.in_ok-bytes.bytes.items ≡ take (MAX_NAME - length (suffix c.args.number)) word =
    c.in_ok-bytes.ensures.items ∙ c.front-front.ensures ∙ ap (λ k. take k c.as_bytes.result.now) room ∙ ap (λ w. take (MAX_NAME - length (suffix c.args.number)) w) c.as_bytes.ensures.value in
    let bytes : c.as_slice.result.now ≡ numbered word c.args.number =
    c.as_slice.ensures.value ∙ c.in_ok-extend_from_slice.ensures.items ∙ rw (c.in_ok-push.ensures.items, digits, cut) (append_assoc (take (MAX_NAME - length (suffix c.args.number)) word) (95 ∷ []) (decimal c.args.number)) in
    let renames = c.new.ensures ∙ ap name_of bytes ∙ numbered_is_name word c.args.number (name_is_word word (search rules)) (search rules) in
    rw renames refl

pub returns : goal.returns
unfolding numbered
returns c =
    let word = c.args.word.now in
    let digits : c.as_bytes-digits.result.now ≡ decimal c.args.number = search rules in
    let room : 31 - length c.as_bytes-digits.result.now ≡ MAX_NAME - length (suffix c.args.number) = rw digits (omega arith) in
    let cut : c.in_ok-bytes.bytes.items ≡ take (MAX_NAME - length (suffix c.args.number)) word =
    c.in_ok-bytes.ensures.items ∙ c.front-front.ensures ∙ ap (λ k. take k c.as_bytes.result.now) room ∙ ap (λ w. take (MAX_NAME - length (suffix c.args.number)) w) c.as_bytes.ensures.value in
    let bytes : c.as_slice.result.now ≡ numbered word c.args.number =
    c.as_slice.ensures.value ∙ c.in_ok-extend_from_slice.ensures.items ∙ rw (c.in_ok-push.ensures.items, digits, cut) (append_assoc (take (MAX_NAME - length (suffix c.args.number)) word) (95 ∷ []) (decimal c.args.number)) in
    let renames = c.new.ensures ∙ ap name_of bytes ∙ numbered_is_name word c.args.number (name_is_word word (search rules)) (search rules) in
    search rules
