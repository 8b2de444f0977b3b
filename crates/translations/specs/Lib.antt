-- Document 01, "Numbers returned". First the definition: what a translation answers; and each number exactly when.
pub mod Translations
pub mod AnsweredTranslation
pub mod TranslationLaws
-- The translation step by step: rows are stored, the rules of a group looked through, and one row after another finished
pub mod SheetLength
pub mod Storing
pub mod StoreLaws
pub mod Looking
pub mod EndingLaws
pub mod LookLaws
pub mod Midway
pub mod WaitingLaws
pub mod MidwayLaws
pub mod RootLaws
