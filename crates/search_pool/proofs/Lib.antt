mod Turns
mod Settling
mod SeatLists
mod Tasks
mod Holdings
