-- The frame around the columns and rows of a picture, as text (SVG 1.1; the colours and kinds of lines are this
-- project's profile).
use Rattle.std.specs.Prelude.{ℕ, List, ◌++◌, codes, decimal}
use Rattle.texts.specs.Pieces.Pieces.{escaped}

-- colours, and kinds of lines and of labels
unfoldable pub styles : List ℕ
styles =
    codes "<style>\n"
    ++ (codes "text{font:11px monospace;fill:#000;text-anchor:middle}\n"
    ++ (codes ".s,.n{text-anchor:start}\n"
    ++ (codes ".e{text-anchor:end}\n"
    ++ (codes ".n,.e,.k{font-size:9px}\n"
    ++ (codes ".k{fill:#a80000}\n"
    ++ (codes "path,rect,circle{fill:none;stroke:#808080}\n"
    ++ (codes ".m,.w{stroke:#000}\n"
    ++ (codes ".m{marker-end:url(#head)}\n"
    ++ (codes ".c{stroke-dasharray:4 4;marker-start:url(#end);marker-end:url(#end)}\n"
    ++ (codes ".f{stroke-width:4}\n"
    ++ (codes ".g{fill:#fff;stroke:none}\n"
    ++ (codes ".p{stroke:none}\n"
    ++ (codes ".r{fill:#a80000;stroke:none}\n"
    ++ (codes ".b{stroke:#a80000;stroke-width:1.5}\n"
    ++ (codes "#head path{fill:#000;stroke:none}\n"
    ++ (codes "@media(prefers-color-scheme:dark){text{fill:#fff}.g{fill:#111}.m,.w{stroke:#fff}#head path{fill:#fff}"
    ++ (codes ".k,.r{fill:#ff9a9a}.b{stroke:#ff9a9a}}\n"
    ++ codes "</style>\n")))))))))))))))))

-- arrow heads, the ends of coregions, and the picture's background
unfoldable pub markers : List ℕ
markers =
    codes "<defs><marker id='head' refX='8' refY='4' markerWidth='8' markerHeight='8' orient='auto'>"
    ++ (codes "<path d='M0 1L8 4L0 7z'/></marker>"
    ++ (codes "<marker id='end' refX='1' refY='5' markerWidth='2' markerHeight='10' orient='auto'>"
    ++ (codes "<path d='M1 0V10'/></marker></defs>\n"
    ++ codes "<rect class='g' width='100%' height='100%'/>\n")))

-- the beginning of a picture of this width and height
unfoldable pub svg_start : ℕ → ℕ → List ℕ
svg_start width tall =
    codes "<svg xmlns='http://www.w3.org/2000/svg' width='" ++ (decimal width ++ (codes "' height='" ++ (decimal tall
    ++ (codes "' viewBox='0 0 " ++ (decimal width ++ (codes " " ++ (decimal tall ++ codes "'>\n")))))))

-- the title, for programs
unfoldable pub title : List ℕ → List ℕ
title words = codes "<title>" ++ (escaped words ++ codes "</title>\n")

-- the title, to be read
unfoldable pub heading : List ℕ → List ℕ
heading words = codes "<text class='s' x='16' y='16'>" ++ (escaped words ++ codes "</text>\n")

-- the end of the picture
unfoldable pub svg_end : List ℕ
svg_end = codes "</svg>\n"
