use Rattle.texts.proofs.Parts.{five_words, words_cons}
use Rattle.texts.proofs.word.words_in.Goals as goal

pub returns-in-Some-rest-3 : goal.returns-in-Some-rest-3
returns-in-Some-rest-3 c =
    let first = rw c.in-Some.is at c.next_word.ensures.words in
    let second = rw c.in-Some-rest.is at c.next_word-2.ensures.words in
    let third = rw c.in-Some-rest-2.is at c.next_word-3.ensures.words in
    let fourth = rw c.in-Some-rest-3.is at c.next_word-4.ensures.words in
    five_words first second third fourth (words_cons c.in-Some-rest-3.field-0.now)
