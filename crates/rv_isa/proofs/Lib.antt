mod Fronts
mod TwosComplement
mod Sums
mod WordBack
mod ReadWord
