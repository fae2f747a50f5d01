-- The definitions, in the order to read them. First what stands in slots, and which versions are kept there.
pub mod Slots
pub mod Kept
pub mod Places
-- What a commit writes, one word after another.
pub mod Store
-- How the image and what is kept change.
pub mod Changes
-- What tables keep, and what they give.
pub mod Tabled
-- What must stand, and what must be true of the state.
pub mod Standing
pub mod Moments
-- The same for the calls of threads.
pub mod Marks
pub mod LiveStanding
pub mod LiveMoments
-- Worked examples.
pub mod WorkedSlots
