use Rattle.std.proofs.Common.{◌≡◌, ◌-◌, ℕ, List, ◌++◌, length, drop, replicate, append-nil, refl, sym, ap, ◌∙◌, subst, arith}
use Rattle.std.specs.Prelude.{slice_set}
use Rattle.std.proofs.lemmas.List.{drop-replicate}
use Rattle.chart.specs.Names.{IsName}
use Rattle.chart.specs.Padding.{padded}
use Rattle.chart.specs.declared.name.TheConstants.{MAX_NAME}
use Rattle.chart.proofs.HeldNames.{padded_full, padded_short, name_held}
use Rattle.chart.proofs.name.Name.held.Goals as goal
use Rattle.chart.proofs.name.Name.held.Goals.{then-bytes-lt-MAX_NAME, else-bytes-lt-MAX_NAME}

-- the bytes, followed by zeros
zeros_behind : (w copied zeros : List ℕ) → w ≡ copied → zeros ≡ replicate MAX_NAME 0 → copied ++ drop (length w) zeros ≡ w ++ replicate (MAX_NAME - length w) 0
zeros_behind w copied zeros same all = rw (← same, all, drop-replicate {X = ℕ} (length w) MAX_NAME 0) refl

none_behind : (w : List ℕ) → length w ≡ MAX_NAME → w ++ replicate (MAX_NAME - length w) 0 ≡ w
none_behind w most = rw most (append-nil w)

is_padded : (c : goal.Joined-bytes-lt-MAX_NAME) → c.if-bytes-lt-MAX_NAME.held ≡ padded c.args.bytes.now
is_padded c =
    let w = c.args.bytes.now in
    let behind = zeros_behind w c.copy_from_slice.new.self c.zeros-held.result (sym c.copy_from_slice.ensures.after) c.zeros-held.ensures in
    elim c.if-bytes-lt-MAX_NAME.branch [
      | then-bytes-lt-MAX_NAME b ↦ b.held-is ∙ ap (λ held. slice_set held 31 (MAX_NAME - length w)) behind ∙ sym (padded_short w b.if-bytes-lt-MAX_NAME.true)
      | else-bytes-lt-MAX_NAME b ↦
          let most : length w ≡ MAX_NAME = let more = b.if-bytes-lt-MAX_NAME.false in let short = c.requires.short in omega (arith, more, short) in
          b.held-is ∙ behind ∙ none_behind w most ∙ sym (padded_full w most)
    ]

pub returns : goal.returns
returns c = name_held c.args.bytes.now c.if-bytes-lt-MAX_NAME.held c.requires.name (is_padded c) c.requires.short

pub invariant_of-result : goal.invariant_of-result
invariant_of-result c =
    let back = name_held c.args.bytes.now c.if-bytes-lt-MAX_NAME.held c.requires.name (is_padded c) c.requires.short in
    (subst IsName (sym back) c.requires.name, ap padded back ∙ sym (is_padded c))
