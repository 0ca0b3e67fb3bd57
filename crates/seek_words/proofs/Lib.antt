mod WorkedWords
mod Shown
mod Named
mod Numbers
mod Settled
mod Flags
