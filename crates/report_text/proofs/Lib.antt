mod Outcomes
mod ObjectLines
