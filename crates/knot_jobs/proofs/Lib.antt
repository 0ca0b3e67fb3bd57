mod Plainly
mod OneAnswer
mod InputRead
mod Endings
mod AcceptedBehind
