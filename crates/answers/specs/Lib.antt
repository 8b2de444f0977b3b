-- What each call answers, and that its numbers tell it.
pub mod Answers
pub mod AnswerLaws
