-- The keywords of a schedule's text: they begin its first two lines, or follow an actor's name (this project's profile;
-- those of coregions are the chart text's).
use Rattle.std.specs.Prelude.{ℕ, Bool, List, codes, bytes_eq}
use Rattle.chart.specs.Keywords.{spelled}
use Rattle.chart.specs.declared.keyword.Keyword.TheVariants as chart_words
use Rattle.schedule.specs.declared.keyword.ScheduleWord.{ScheduleWord}
use Rattle.schedule.specs.declared.keyword.ScheduleWord.TheVariants.{Instances, Capacity, Send, Receive, Any, Close, Concurrent, EndConcurrent}

-- how the word is spelled
unfoldable pub written : ScheduleWord → List ℕ
written Instances = codes "instances"
written Capacity = codes "capacity"
written Send = codes "send"
written Receive = codes "receive"
written Any = codes "any"
written Close = codes "close"
written Concurrent = spelled chart_words.Concurrent
written EndConcurrent = spelled chart_words.EndConcurrent

-- the bytes are this word
unfoldable pub is_written : ScheduleWord → List ℕ → Bool
is_written word bytes = bytes_eq bytes (written word)
