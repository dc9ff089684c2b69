pub mod GivenLemmas
pub mod QuestionLemmas
pub mod WordsLemmas
