pub mod Commands
pub mod Origins
pub mod Replies
pub mod MadeScript
pub mod Summary
pub mod Answers
pub mod OpeningImages
pub mod Promises
pub mod Stopping
pub mod Chains
-- Between the call and its answer.
pub mod BeforeAnswerLine
pub mod Halts
-- Worked runs.
pub mod Set
pub mod Rows
