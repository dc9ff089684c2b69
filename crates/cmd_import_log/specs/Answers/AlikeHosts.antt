-- The warnings about hosts that a log may name by two words.
use Rattle.std.specs.Prelude.{ℕ, List, ◌++◌, codes}
use Rattle.cmd_import_log.specs.declared.answers.alike.Alike.{Alike}

-- that a peer may be a host, and the option to try
unfoldable pub alike_line : List ℕ → List ℕ → List ℕ
alike_line host peer =
    peer ++ (codes " may be " ++ (host ++ (codes ", which no line names as a peer: --peer " ++ (host ++ (codes "=" ++ (peer ++ codes "?\n"))))))

unfoldable pub alike_text : Alike → List ℕ
alike_text a = alike_line a.host a.peer
