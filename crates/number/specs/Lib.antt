-- The numbers of document 01: sizes, refusal numbers with the first that applies, and the three quantities that stay separate. Tests and OneResult are
-- two small things that every crate above uses: several tests as one, and the lemma behind each `one-result`.
pub mod Sizes
pub mod Numbers
pub mod Refused
pub mod First
pub mod Tests
pub mod FirstThat
pub mod OneResult
pub mod Answer
