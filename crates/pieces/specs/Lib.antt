-- What a word of a text is. First the definitions, which are what a reader must believe.
pub mod Pieces
pub mod Next
-- Then what is shown of them.
pub mod PiecesLaws
pub mod LongestRuns
pub mod NextLaws
pub mod Lowered
pub mod LetterBits
pub mod FirstOther
