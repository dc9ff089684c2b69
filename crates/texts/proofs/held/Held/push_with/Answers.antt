use Rattle.std.proofs.Common.{◌≡◌, ℕ, ◌+◌, ◌<◌, List, ◌++◌, length, take, set, refl, sym, ap, ◌∙◌, arith, length-take-le}
use Rattle.std.proofs.Math.Seq.{take-set-lt}
use Rattle.std.proofs.lemmas.List.{set-append_right, length-append}
use Rattle.texts.proofs.held.Held.push_with.Goals as goal

-- a byte of the piece with which the first bytes end
put_in : (old piece all : List ℕ) (len place byte : ℕ) → take len all ≡ old ++ piece → len ≡ length old + length piece → place < length piece
    → take len (set all (length old + place) byte) ≡ old ++ set piece place byte
put_in old piece all len place byte is long within =
    take-set-lt len all (length old + place) byte (omega arith)
    ∙ ap (λ xs. set xs (length old + place) byte) is
    ∙ set-append_right old piece (length old) (length old + place) byte refl (omega arith)
    ∙ ap (λ k. old ++ set piece k byte) (omega arith)

pub returns : goal.returns
returns c =
    let long = ap length c.self-2.view_is in
    let same = ap length c.push.ensures in
    let before = ap length c.self.view_is in
    let most = c.self.invariant in
    let least = c.self-2.invariant in
    rw (← c.self.view_is)
    (let is : take c.self-2.inside.len c.self-2.inside.bytes ≡ take c.self.inside.len c.self.inside.bytes ++ c.args.piece.now = c.self-2.view_is ∙ c.push.ensures ∙ ap (λ xs. xs ++ c.args.piece.now) (sym c.self.view_is) in
    let front : length (take c.self.inside.len c.self.inside.bytes) ≡ c.self.inside.len = length-take-le c.self.inside.len c.self.inside.bytes (omega (arith, most, c.self.told)) in
    let whole : length (take c.self-2.inside.len c.self-2.inside.bytes) ≡ c.self-2.inside.len = length-take-le c.self-2.inside.len c.self-2.inside.bytes (omega (arith, least, c.self-2.told)) in
    let total = ap length is in
    let both = length-append (take c.self.inside.len c.self.inside.bytes) c.args.piece.now in
    ap (λ k. take c.self-2.inside.len (set c.self-2.inside.bytes (k + c.args.place) c.args.byte)) (sym front)
    ∙ put_in (take c.self.inside.len c.self.inside.bytes) c.args.piece.now c.self-2.inside.bytes c.self-2.inside.len c.args.place c.args.byte is (omega (arith, whole, total, both)) c.requires.place)
