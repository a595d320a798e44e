pub mod FieldLemmas
pub mod ReadLemmas
pub mod ListLemmas
pub mod RoundTrip
