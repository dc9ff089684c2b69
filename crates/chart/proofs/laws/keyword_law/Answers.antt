use Rattle.std.proofs.Common.{◌≡◌, Err, refl}
use Rattle.chart.specs.Keywords.{spelled, is_keyword, is_reserved}
use Rattle.chart.specs.Names.{name_of}
use Rattle.chart.specs.declared.keyword.Keyword.{Keyword}
use Rattle.chart.specs.declared.keyword.Keyword.TheVariants.{Msc, EndMsc, Instance, EndInstance, Out, To, In, From, Concurrent, EndConcurrent}
use Rattle.chart.specs.declared.name.NameError.TheVariants.{Reserved}
use Rattle.chart.proofs.laws.keyword_law.Goals as goal

is_no_name : (keyword : Keyword) → name_of (spelled keyword) ≡ Err Reserved
unfolding name_of spelled is_keyword is_reserved
is_no_name Msc = refl
is_no_name EndMsc = refl
is_no_name Instance = refl
is_no_name EndInstance = refl
is_no_name Out = refl
is_no_name To = refl
is_no_name In = refl
is_no_name From = refl
is_no_name Concurrent = refl
is_no_name EndConcurrent = refl

pub returns : goal.returns
returns c = is_no_name
