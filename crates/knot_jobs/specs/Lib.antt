pub mod Answer
pub mod Call
pub mod Ending
pub mod ReplyTruth
pub mod Delivered
pub use Rattle.knot_words.specs.OptionNumbers
pub use Rattle.knot_words.specs.Limits
pub use Rattle.knot_words.specs.Words
pub use Rattle.search_jobs.specs.Reply
pub use Rattle.search_jobs.specs.Decide
pub use Rattle.search_jobs.specs.Simplify
pub use Rattle.search_jobs.specs.Least
pub use Rattle.search_jobs.specs.Sample
pub use Rattle.knot_ports.specs.Status
pub use Rattle.verdict_laws.specs.VerdictDecision
pub use Rattle.certificate_check.specs.Decision as Certified
pub use Rattle.knot_ports.specs.Change
