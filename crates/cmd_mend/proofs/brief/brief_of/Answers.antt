use Rattle.std.proofs.Common.{◌≡◌, ℕ, ◌++◌, true, false, List, length, map, sym, ap, ◌∙◌, subst, subst₂, arith}
use Rattle.chart.specs.Reports.{ReportView}
use Rattle.repair.specs.Growing.{message_of}
use Rattle.repair.specs.Repairs.{AreFew, pairs_of}
use Rattle.cmd_mend.specs.declared.brief.Counts.{Counts}
use Rattle.cmd_mend.specs.declared.brief.Fate.TheVariants.{Goes, Comes}
use Rattle.cmd_mend.specs.Brief.{all_shown, HasFirst}
use Rattle.cmd_mend.specs.Changes.{all_gone, old_receives, kept_of}
use Rattle.cmd_mend.proofs.BriefLemmas.{few_gone, few_kept, stay_or_come}
use Rattle.cmd_mend.proofs.brief.brief_of.Goals as goal

pub count_pairs-come-requires : goal.count_pairs-come-requires
count_pairs-come-requires c = subst AreFew (sym (c.as_slice-3.ensures.value ∙ c.in_ok-coming.ensures)) (few_kept true (message_of c.args.message.now) c.args.news.now c.requires.news)

pub count_pairs-requires : goal.count_pairs-requires
count_pairs-requires c =
    let m = message_of c.args.message.now in
    subst AreFew (sym (c.as_slice-4.ensures.value ∙ c.in_ok-gone.ensures)) (few_gone m c.args.olds.now (old_receives m c.args.news.now) c.requires.olds)

pub returns : goal.returns
returns c =
    let m = message_of c.args.message.now in
    let news = c.args.news.now in
    let made : ℕ → ℕ → ℕ → Counts = λ going staying coming. record { going = going; staying = staying; coming = coming } in
    let count : List ReportView → ℕ = λ reports. length (pairs_of reports) in
    let going = c.count_pairs.ensures.value ∙ ap count (c.as_slice-4.ensures.value ∙ c.in_ok-gone.ensures) in
    let coming = c.count_pairs-come.ensures.value ∙ ap count (c.as_slice-3.ensures.value ∙ c.in_ok-coming.ensures) in
    let gone = count (all_gone m c.args.olds.now (old_receives m news)) in
    let stay = count (map (kept_of false m) news) in
    let all = stay_or_come m news in
    let staying : c.saturating_sub.result ≡ length (pairs_of (map (kept_of false m) news)) = omega (arith, all, coming, c.count_pairs-2.ensures.value, c.saturating_sub.ensures) in
    record {
      shown = subst₂ (λ (goes : List ReportView) (come : List ReportView). HasFirst (all_shown Goes goes ++ all_shown Comes come) c.in_ok-shown.shown.items)
          (c.as_slice.ensures.value ∙ c.in_ok-gone.ensures) (c.as_slice-2.ensures.value ∙ c.in_ok-coming.ensures) c.in_ok-shown.ensures;
      counts = ap (λ n. made n c.saturating_sub.result c.count_pairs-come.result) going
          ∙ ap (λ n. made gone n c.count_pairs-come.result) staying ∙ ap (λ n. made gone stay n) coming;
    }
