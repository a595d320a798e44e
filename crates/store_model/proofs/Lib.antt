pub mod HandleFacts
