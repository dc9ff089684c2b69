-- How many lines of a log are of a kind.
use Rattle.std.specs.Prelude.{ℕ, ◌==◌, List, [], ◌++◌, Option, None, Some, codes, decimal, if◌then◌else◌}
use Rattle.log_lines.specs.declared.read.Others.{Others}
use Rattle.log_text.specs.Spots.{SpotView, spot}

-- that there is one thing of a kind, with its line
unfoldable pub one_line : List ℕ → SpotView → List ℕ
one_line words s = codes "1 " ++ (words ++ (codes ", " ++ (s.front ++ (s.separator ++ (decimal s.line ++ codes "\n")))))

-- the number of things of a kind, with the line of the first
unfoldable pub several_line : ℕ → List ℕ → SpotView → List ℕ
several_line count words s =
    decimal count ++ (codes " " ++ (words ++ (codes ", the first is " ++ (s.front ++ (s.separator ++ (decimal s.line ++ codes "\n"))))))

-- the number of things of a kind, if there are some
abbrev pub others_text : List (List ℕ) → List ℕ → List ℕ → Option Others → List ℕ
others_text files one several None = []
others_text files one several (Some o) =
    if o.count == 1 then one_line one (spot files o.first)
    else several_line o.count several (spot files o.first)

-- that one of the lines is of a kind
unfoldable pub one_line_of : ℕ → List ℕ → SpotView → List ℕ
one_line_of lines words s =
    codes "1 of " ++ (decimal lines ++ (codes " " ++ (words ++ (codes ", " ++ (s.front ++ (s.separator ++ (decimal s.line ++ codes "\n")))))))

-- the number of lines of a kind, among all, with the first of them
unfoldable pub several_line_of : ℕ → ℕ → List ℕ → SpotView → List ℕ
several_line_of count lines words s =
    decimal count ++ (codes " of " ++ (decimal lines ++ (codes " " ++ (words ++ (codes ", the first is " ++ (s.front ++ (s.separator ++ (decimal s.line ++ codes "\n"))))))))

-- the number of lines of a kind, among all, if there are some
abbrev pub others_of_text : List (List ℕ) → ℕ → List ℕ → List ℕ → Option Others → List ℕ
others_of_text files lines one several None = []
others_of_text files lines one several (Some o) =
    if o.count == 1 then one_line_of lines one (spot files o.first)
    else several_line_of o.count lines several (spot files o.first)
