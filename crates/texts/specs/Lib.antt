-- Texts, as document 01 reads them, by any word rule. First the definitions: these are what a reader must believe.
pub mod Texts
pub mod TextAnswers
pub mod ListedTexts
-- Then what is shown of them, and, for the shipped rules, 01's samples.
pub mod Demand2Texts
pub mod TextsLaws
pub mod OutcomeLaws
pub mod WordCalls
pub mod RuleLaws
pub mod ListedLaws
pub mod TextSamples
