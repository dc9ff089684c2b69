-- The words of a schedule's text have neither a space nor a line feed.
use Rattle.std.proofs.Common.{refl}
use Rattle.chart.specs.declared.keyword.Keyword.TheVariants as chart_words
use Rattle.texts.proofs.Spacing.{IsPlain, plain_literal, plain_keyword}
use Rattle.schedule.specs.Keywords.{written}
use Rattle.schedule.specs.declared.keyword.ScheduleWord.{ScheduleWord}
use Rattle.schedule.specs.declared.keyword.ScheduleWord.TheVariants.{Instances, Capacity, Send, Receive, Any, Close, Concurrent, EndConcurrent}

pub plain_written : (word : ScheduleWord) → IsPlain (written word)
unfolding written
plain_written Instances = plain_literal (written Instances) refl refl
plain_written Capacity = plain_literal (written Capacity) refl refl
plain_written Send = plain_literal (written Send) refl refl
plain_written Receive = plain_literal (written Receive) refl refl
plain_written Any = plain_literal (written Any) refl refl
plain_written Close = plain_literal (written Close) refl refl
plain_written Concurrent = plain_keyword chart_words.Concurrent
plain_written EndConcurrent = plain_keyword chart_words.EndConcurrent
