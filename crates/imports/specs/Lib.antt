-- Document 02, W-202. First the definitions: the sheet that lines name, which lines are taken, and what a call gives.
pub mod Makes
-- Then what follows: one outcome for every text and sheet, when each number is given, that 01 accepts the sheet made, and that every
-- sheet of the nine conditions is made.
pub mod Outcomes
pub mod MadeSheets
pub mod EverySheet
-- Laws of lines and their records, and of the way through a text
pub mod TakenLaws
pub mod RuleRecords
pub mod Passing
