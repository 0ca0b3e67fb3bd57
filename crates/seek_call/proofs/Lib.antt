mod BlocksGiven
mod Found
mod Ended
mod Came
