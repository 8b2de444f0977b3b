-- A word with a list that was judged before, and what that comes to where it was accepted.
pub mod Judged
pub mod JudgedLaws
