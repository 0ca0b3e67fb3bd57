-- What each job answers to its input: a file a job.
pub mod Replay
pub mod Colour
pub mod Close
pub mod Code
pub mod Braid
pub mod Linking
pub mod Braidcheck
pub mod Weights
pub mod Numbers
pub mod Grid
