mod GivenLemmas
pub mod LawLemmas
pub mod PieceLemmas
pub mod ProgressLemmas
pub mod StepLemmas
mod TakenLemmas
