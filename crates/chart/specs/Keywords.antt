-- The reserved words of a chart's text (this project's profile of the words of ITU-T Z.120). Each is spelled here and
-- nowhere else.
use Rattle.std.specs.Prelude.{Bool, List, [], ◌∷◌, codes, bytes_eq}
use Rattle.std.specs.List.{list_any}
use Rattle.chart.specs.Words.{Text}
use Rattle.chart.specs.declared.keyword.Keyword.{Keyword}
use Rattle.chart.specs.declared.keyword.Keyword.TheVariants.{Msc, EndMsc, Instance, EndInstance, Out, To, In, From, Concurrent, EndConcurrent}

-- how the word is spelled
unfoldable pub spelled : Keyword → Text
spelled Msc = codes "msc"
spelled EndMsc = codes "endmsc"
spelled Instance = codes "instance"
spelled EndInstance = codes "endinstance"
spelled Out = codes "out"
spelled To = codes "to"
spelled In = codes "in"
spelled From = codes "from"
spelled Concurrent = codes "concurrent"
spelled EndConcurrent = codes "endconcurrent"

-- the bytes are this word
unfoldable pub is_keyword : Keyword → Text → Bool
is_keyword keyword word = bytes_eq word (spelled keyword)

-- each reserved word
abbrev pub keywords : List Keyword
keywords = Msc ∷ EndMsc ∷ Instance ∷ EndInstance ∷ Out ∷ To ∷ In ∷ From ∷ Concurrent ∷ EndConcurrent ∷ []

-- the bytes are a reserved word
unfoldable pub is_reserved : Text → Bool
is_reserved word = list_any (λ keyword. is_keyword keyword word) keywords
