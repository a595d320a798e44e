mod LineLemmas
mod ReadLemmas
pub mod PutsLaws
mod Failing
