mod Changes
mod Closing
mod Counting
mod Histories
mod SeatSteps
mod TurnSteps
mod Turns
